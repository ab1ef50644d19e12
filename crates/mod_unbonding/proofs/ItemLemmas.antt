-- The items of entries: told by their keys, and with one more.
use Rattle.std.proofs.Common.{◌≡◌, ℕ, List, Some, refl, is_some}
use Rattle.std.specs.{List.Sorted.IsStrictlySortedBy, Map.keys_of}
use Rattle.base_roles.specs.{declared.{entities.UnbondingEntry.UnbondingEntry, items.Item.Item}, Entries.with}
use Rattle.base_roles.specs.{Items.{key_of, IsAdded}, Orders.pair_cmp}
use Rattle.base_roles.specs.declared.items.Item.TheVariants as item
use Rattle.rule_modules.{specs.Unbondings.UnbondingLists, proofs.{OrderLemmas.pair_total, SoundLemmas.exact_pair}}
use Rattle.base_records.{specs.Items.{AnyValue, IsRowed}, proofs.{MemberLemmas.entry-parts, RowLemmas.row-added}}
use Rattle.mod_unbonding.specs.Items.{items_of, unbonding_item, unbonding_gone, unbonding_entry, same_entries}
use Rattle.mod_unbonding.proofs.SameLemmas.{entries-yes, entries-no}

unbonding_made : (i : Item) (k : List ℕ × List ℕ) (es : List UnbondingEntry) → unbonding_entry i ≡ Some (k, es) → i ≡ unbonding_item k es
unbonding_made (item.Unbonding d o fs) k es e = let r = entry-parts (d, o) k fs es e in λ j. unbonding_item (r.0 j) (r.1 j)
unbonding_made _ k es e = absurd cc

unbonding_kind : (i : Item) → is_some (unbonding_entry (key_of i)) ≡ is_some (unbonding_entry i)
unbonding_kind (item.Unbonding d o es) = refl
unbonding_kind _ = refl

pub unbonding-rowed : IsRowed pair_cmp AnyValue unbonding_item unbonding_gone same_entries unbonding_entry
unbonding-rowed = record {
  exact = exact_pair;
  read = λ k v f. refl;
  made = λ i k v e. (unbonding_made i k v e, tt);
  kind = unbonding_kind;
  keyed = λ k n f. refl;
  gone_keyed = λ k. refl;
  alone = λ k q e. let a : k.0 ≡ q.0 = cc in let b : k.1 ≡ q.1 = cc in (λ i. (a i, b i));
  yes = entries-yes;
  no = entries-no;
}

-- one more
pub unbonding-added : (u : UnbondingLists) (key : List ℕ × List ℕ) (es : List UnbondingEntry) → IsStrictlySortedBy pair_cmp (keys_of u) → IsAdded (items_of u) (unbonding_item key es) (items_of (with pair_cmp u key es))
unbonding-added u key es in_order =
    row-added pair_cmp pair_total AnyValue unbonding_item unbonding_gone same_entries unbonding_entry unbonding-rowed u (λ k n c. tt) in_order key es tt
