-- Whether entries of a delegator lead to an operator, as a walk finds it.
use Rattle.std.proofs.Common.{◌≡◌, ◌∙◌, ℕ, Bool, true, false, List, Option, Some, None, sym, ap, ◌&&◌, ◌||◌}
use Rattle.std.specs.{List.Sorted.IsStrictlySortedBy, Map.keys_of}
use Rattle.base_table.specs.Tabled.{entry_above}
use Rattle.base_roles.specs.{declared.entities.RedelegationEntry.RedelegationEntry, Orders.{triple_cmp, same_addr}}
use Rattle.base_records.proofs.WalkLemmas.{left_of, walk-end}
use Rattle.rule_modules.specs.Redelegations.{RedelegationLists, is_transitive}
use Rattle.mod_entries.proofs.CountLemmas.{left_is}
use Rattle.mod_redelegation.proofs.OrderLemmas.{Key, triple_total}

module _ (delegator source : List ℕ) (r : RedelegationLists) (s : IsStrictlySortedBy triple_cmp (keys_of r)) (after : Option Key) where
  abbrev leads : Key → Bool
  leads k = same_addr k.0 delegator && same_addr k.2 source

  abbrev rest_at : Option Key → RedelegationLists
  rest_at x = left_of triple_cmp r x

  module _ (e : Key × List RedelegationEntry) (f : entry_above triple_cmp r after ≡ Some e) where
    split : is_transitive (rest_at after) delegator source ≡ (leads e.0 || is_transitive (rest_at (Some e.0)) delegator source)
    split = ap (λ l. is_transitive l delegator source) (left_is triple_cmp triple_total r s after e f)

    -- an entry that does not lead there is passed
    pub transit-next : leads e.0 ≡ false → is_transitive (rest_at (Some e.0)) delegator source ≡ is_transitive (rest_at after) delegator source
    transit-next h = sym (split ∙ ap (λ b. b || is_transitive (rest_at (Some e.0)) delegator source) h)

    -- one that does decides it
    pub transit-found : leads e.0 ≡ true → is_transitive (rest_at after) delegator source ≡ true
    transit-found h = split ∙ ap (λ b. b || is_transitive (rest_at (Some e.0)) delegator source) h
