-- Whether two lists have the same entries, one by one.
use Rattle.std.proofs.Common.{◌≡◌, ◌≢◌, suc, ◌&&◌, Bool, true, false, List, [], ◌∷◌, length, refl, sym, ◌∙◌, ap}
use Rattle.base_roles.specs.declared.entities.UnbondingEntry.{UnbondingEntry}
use Rattle.base_records.proofs.SameLemmas.{both, four, four_itself}
use Rattle.mod_unbonding.specs.Items.{same_entry, same_entries}

-- lists of other lengths differ
pub other-lengths : (x y : List UnbondingEntry) → length x ≢ length y → false ≡ same_entries x y
other-lengths [] [] h = absurd (h refl)
other-lengths [] (d ∷ ds) h = refl
other-lengths (c ∷ cs) [] h = refl
other-lengths (c ∷ cs) (d ∷ ds) h = by (same_entry c d) (other-lengths cs ds (λ e. h (ap suc e)))
  where
    by : (b : Bool) → false ≡ same_entries cs ds → false ≡ (b && same_entries cs ds)
    by true later = later
    by false later = refl

-- ---- the test tells whether values are one

entry-yes : (a b : UnbondingEntry) → same_entry a b ≡ true → a ≡ b
entry-yes a b h =
    let parts = four a.created a.completes a.initial a.balance b.created b.completes b.initial b.balance h in
    λ i. record { created = parts.0 i; completes = parts.1 i; initial = parts.2 i; balance = parts.3 i }

entry_itself : (a : UnbondingEntry) → same_entry a a ≡ true
entry_itself a = four_itself a.created a.completes a.initial a.balance

pub entries-yes : (x y : List UnbondingEntry) → same_entries x y ≡ true → x ≡ y
entries-yes [] [] h = refl
entries-yes [] (d ∷ ds) h = cc
entries-yes (c ∷ cs) [] h = cc
entries-yes (c ∷ cs) (d ∷ ds) h =
    let parts = both (same_entry c d) (same_entries cs ds) h in
    let first = entry-yes c d parts.0 in
    let rest = entries-yes cs ds parts.1 in
    λ i. first i ∷ rest i

entries_itself : (x : List UnbondingEntry) → same_entries x x ≡ true
entries_itself [] = refl
entries_itself (c ∷ cs) = λ i. entry_itself c i && entries_itself cs i

true_false : true ≡ false → ⊥
true_false h = cc

pub entries-no : (x y : List UnbondingEntry) → same_entries x y ≡ false → x ≡ y → ⊥
entries-no x y h e = true_false (sym (entries_itself x) ∙ ap (λ z. same_entries x z) e ∙ h)
