-- Items one after another: what the next one tells.
use Rattle.std.proofs.Common.{◌≡◌, ◌∙◌, ℕ, ◌+◌, ◌<◌, List, [], ◌∷◌, drop, get_or, length, Option, Some, None, sym, ap, Ordering, filter_map, sum_by}
use Rattle.std.{specs.{BTreeMap.insert_entry, List.cons_option}, proofs.lemmas.List.at_drop_more}
use Rattle.rule_machine.specs.Orders.{entries_with}
use Rattle.mod_tally.proofs.Sums.{sum_next}

module _ {T : Type 0} (items : List T) (place : ℕ) (x : T) where
  -- an item is the next one
  pub record IsNext : Type 0 where
    pub within : place < length items
    pub is : x ≡ get_or items place x

  pub next_is : {Y : Type 0} (F : List T → Y) → IsNext → F (drop place items) ≡ F (x ∷ drop (place + 1) items)
  next_is F n = at_drop_more F items place x n.within ∙ ap (λ y. F (y ∷ drop (place + 1) items)) (sym n.is)

  module _ {E : Type 0} (tell : T → Option E) where
    next_told : IsNext → filter_map tell (drop place items) ≡ cons_option (tell x) (filter_map tell (drop (place + 1) items))
    next_told n = next_is (filter_map tell) n

    -- it tells nothing
    pub told_none : IsNext → tell x ≡ None → filter_map tell (drop place items) ≡ filter_map tell (drop (place + 1) items)
    told_none n told = next_told n ∙ ap (λ o. cons_option o (filter_map tell (drop (place + 1) items))) told

    -- it tells something
    pub told_some : (e : E) → IsNext → tell x ≡ Some e → filter_map tell (drop place items) ≡ e ∷ filter_map tell (drop (place + 1) items)
    told_some e n told = next_told n ∙ ap (λ o. cons_option o (filter_map tell (drop (place + 1) items))) told

  -- its number is the first of the sum
  pub next_summed : (f : T → ℕ) → IsNext → sum_by f (drop place items) ≡ f x + sum_by f (drop (place + 1) items)
  next_summed f n = next_is (sum_by f) n ∙ sum_next f x (drop (place + 1) items)

-- ---- entries that are put in order as they are told

module _ {T K X : Type 0} (cmp : K → K → Ordering) (tell : T → Option (K × X)) (items : List T) (place : ℕ) (x : T) where
  -- an item that tells nothing
  pub next_skipped : (es all : List (K × X)) → IsNext items place x → tell x ≡ None
      → entries_with cmp es (filter_map tell (drop place items)) ≡ all → entries_with cmp es (filter_map tell (drop (place + 1) items)) ≡ all
  next_skipped es all n told before = sym (ap (entries_with cmp es) (told_none items place x tell n told)) ∙ before

  -- an item that tells an entry, which is put at its key
  pub next_put : (es new all : List (K × X)) (e : K × X) → IsNext items place x → tell x ≡ Some e → new ≡ insert_entry cmp es e.0 e.1
      → entries_with cmp es (filter_map tell (drop place items)) ≡ all → entries_with cmp new (filter_map tell (drop (place + 1) items)) ≡ all
  next_put es new all e n told put before =
      ap (λ fs. entries_with cmp fs (filter_map tell (drop (place + 1) items))) put
      ∙ (sym (ap (entries_with cmp es) (told_some items place x tell e n told)) ∙ before)
