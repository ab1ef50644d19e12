-- Entries are put in order one by one, as items tell them.
use Rattle.std.proofs.Common.{◌≡◌, ◌∙◌, sym, ℕ, suc, ◌+◌, ◌<◌, List, [], ◌∷◌, drop, length, Option, Some, None, refl, arith, ap, subst, get_or, Bor, Ordering, Less, Equal, Greater, filter_map, option_map, unwrap_or}
use Rattle.std.specs.{BTreeMap.{insert_entry, is_at}, List.cons_option, Ordering.match_ordering, Map.lookup}
use Rattle.std.proofs.{Math.Seq.drop-cons, lemmas.Map.Made.lookup-map_values}
use Rattle.base_types.specs.Orders.{addr_cmp}
use Rattle.base_coins.specs.Coins.{Money}
use Rattle.base_roles.specs.{declared.{entities.Purse.Purse, items.Item.Item}, Items.no_purse}
use Rattle.line_report.specs.{Groups.{or_else, pool_of, purse_at}, Telling.pool_in, Seen.seen}
use Rattle.rule_machine.specs.Orders.{entries_with}

pub drop_next : {A : Type 0} (xs : List A) (i : ℕ) (x : A) → i < length xs → x ≡ get_or xs i x → drop i xs ≡ x ∷ drop (i + 1) xs
drop_next xs i x lt is =
    let one_more : suc i ≡ i + 1 = omega arith in
    let cut : drop i xs ≡ get_or xs i x ∷ drop (i + 1) xs = subst (λ n. drop i xs ≡ get_or xs i x ∷ drop n xs) one_more (drop-cons xs i x lt) in
    cut ∙ ap (λ y. y ∷ drop (i + 1) xs) (sym is)

module _ {K X : Type 0} (cmp : K → K → Ordering) (k : K) (v : Bor X) where
  seen_by : (o : Ordering) (e : K × Bor X) (es : List (K × Bor X)) → seen (insert_entry cmp es k v) ≡ insert_entry cmp (seen es) k v.now →
      seen (match_ordering o ((k, v) ∷ e ∷ es) ((e.0, v) ∷ es) (e ∷ insert_entry cmp es k v))
      ≡ match_ordering o ((k, v.now) ∷ (e.0, e.1.now) ∷ seen es) ((e.0, v.now) ∷ seen es) ((e.0, e.1.now) ∷ insert_entry cmp (seen es) k v.now)
  seen_by Less e es h = refl
  seen_by Equal e es h = refl
  seen_by Greater e es h = ap (λ fs. (e.0, e.1.now) ∷ fs) h

  -- a lent value put at its key is its value put there
  pub seen_with : (es : List (K × Bor X)) → seen (insert_entry cmp es k v) ≡ insert_entry cmp (seen es) k v.now
  seen_with [] = refl
  seen_with (e ∷ es) = seen_by (cmp k e.0) e es (seen_with es)

module _ {T K X : Type 0} (cmp : K → K → Ordering) (tell : T → Option (K × X)) (items : List T) (place : ℕ) (x : T) where
  next_told : place < length items → x ≡ get_or items place x → filter_map tell (drop place items) ≡ cons_option (tell x) (filter_map tell (drop (place + 1) items))
  next_told lt is = ap (filter_map tell) (drop_next items place x lt is)

  -- an item that tells nothing
  pub told_none : (es all : List (K × X)) → place < length items → x ≡ get_or items place x → tell x ≡ None →
      entries_with cmp es (filter_map tell (drop place items)) ≡ all → entries_with cmp es (filter_map tell (drop (place + 1) items)) ≡ all
  told_none es all lt is told before =
      let next : filter_map tell (drop place items) ≡ filter_map tell (drop (place + 1) items)
      = next_told lt is ∙ ap (λ o. cons_option o (filter_map tell (drop (place + 1) items))) told in
      sym (ap (entries_with cmp es) next) ∙ before

  -- an item that tells an entry, which is put at its key
  pub told_some : (es new : List (K × X)) (e : K × X) (all : List (K × X)) → place < length items → x ≡ get_or items place x → tell x ≡ Some e →
      new ≡ insert_entry cmp es e.0 e.1 → entries_with cmp es (filter_map tell (drop place items)) ≡ all → entries_with cmp new (filter_map tell (drop (place + 1) items)) ≡ all
  told_some es new e all lt is told put before =
      let next : filter_map tell (drop place items) ≡ e ∷ filter_map tell (drop (place + 1) items)
      = next_told lt is ∙ ap (λ o. cons_option o (filter_map tell (drop (place + 1) items))) told in
      ap (λ fs. entries_with cmp fs (filter_map tell (drop (place + 1) items))) put ∙ (sym (ap (entries_with cmp es) next) ∙ before)

  -- the same of a lent value
  pub told_lent : (es new : List (K × Bor X)) (e : K × Bor X) (all : List (K × X)) → place < length items → x ≡ get_or items place x → tell x ≡ Some (e.0, e.1.now) →
      new ≡ insert_entry cmp es e.0 e.1 → entries_with cmp (seen es) (filter_map tell (drop place items)) ≡ all → entries_with cmp (seen new) (filter_map tell (drop (place + 1) items)) ≡ all
  told_lent es new e all lt is told put before =
      let lent : seen new ≡ insert_entry cmp (seen es) e.0 e.1.now = ap seen put ∙ seen_with cmp e.0 e.1 es in
      told_some (seen es) (seen new) (e.0, e.1.now) all lt is told lent before

-- ---- the community pool

-- ---- purses

-- a look-up among lent purses
lent_at : (purses : List (List ℕ × Bor Purse)) (operator : List ℕ) → lookup (is_at (addr_cmp operator)) (seen purses) ≡ option_map (λ p. p.now) (lookup (is_at (addr_cmp operator)) purses)
lent_at purses operator = lookup-map_values (λ p. p.now) (is_at (addr_cmp operator)) purses

pub purse_found : (purses : List (List ℕ × Bor Purse)) (operator : List ℕ) (p : Bor Purse) → Some p ≡ lookup (is_at (addr_cmp operator)) purses → purse_at (seen purses) operator ≡ p.now
purse_found purses operator p h = ap (λ o. unwrap_or o no_purse) (lent_at purses operator ∙ ap (option_map (λ p. p.now)) (sym h))

pub purse_missing : (purses : List (List ℕ × Bor Purse)) (operator : List ℕ) → None ≡ lookup (is_at (addr_cmp operator)) purses → purse_at (seen purses) operator ≡ no_purse
purse_missing purses operator h = ap (λ o. unwrap_or o no_purse) (lent_at purses operator ∙ ap (option_map (λ p. p.now)) (sym h))
