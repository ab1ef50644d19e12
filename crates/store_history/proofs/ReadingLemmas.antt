-- What is read of rows, one after the other.
use Rattle.std.proofs.Common.{◌≡◌, ◌∙◌, inl, inr, ℕ, zero, suc, ◌+◌, ◌<◌, ◌≤◌, Bool, true, false, List, [], ◌∷◌, drop, filter, get_or, length, map, Option, Some, None, Less, Equal, Greater, is_eq, refl, sym, ap, subst, arith, if◌then◌else◌, option_and_then, option_map, unwrap_or}
use Rattle.std.{specs.{Ordering.match_ordering, List.AllByRecursion}, proofs.lemmas.Bool.cases_Bool}
use Rattle.base_io.specs.{declared.keeper.Row.Row, Rows.{Pair, key_cmp, put}, Changes.{Rises, value_of}}
use Rattle.store_history.specs.{History.{base_in, base_key, stored_base}, Commits.{Seen, change_at, is_kept, made}}
use Rattle.store_history.specs.Held.{base_with, kept_with}
use Rattle.store_history.proofs.MapLemmas.{filter_rises, none_below, passed, same_or_other, same_values, tie, tied, value_first}
use Rattle.store_history.proofs.ChangeLemmas.{AreDistinct, change_first, change_later, made_rises, value_made}

-- the rows from one on are that one and the others
pub row_next : (rows : List Row) (i : ℕ) (r : Row) → i < length rows → r ≡ get_or rows i r → drop i rows ≡ r ∷ drop (i + 1) rows
row_next [] i r lt is = absurd (omega (arith, lt))
row_next (s ∷ rows) zero r lt is = ap (λ (t : Row). t ∷ rows) (sym is)
row_next (s ∷ rows) (suc i) r lt is =
    let one_more : suc i + 1 ≡ suc (i + 1) = omega arith in
    rw one_more (row_next rows i r (omega (arith, lt)) is)

pub drop_end : (rows : List Row) (i : ℕ) → length rows ≤ i → drop i rows ≡ []
drop_end [] zero le = refl
drop_end [] (suc i) le = refl
drop_end (r ∷ rows) zero le = absurd (omega (arith, le))
drop_end (r ∷ rows) (suc i) le = drop_end rows i (omega (arith, le))

-- ---- puts of all rows

abbrev putting : Pair → Seen
putting p = (p.0, Some p.1)

puts_at : (ps : List Pair) (key : List ℕ) → Rises ps → change_at key (map putting ps) ≡ option_map (λ v. Some v) (value_of key ps)
puts_at [] key up = refl
puts_at (p ∷ ps) key up = elim (same_or_other p.0 key) [
  | inl same ↦
      change_first (putting p) (map putting ps) key same
      ∙ sym (ap (λ (o : Option (List ℕ)). option_map (λ v. Some v) o) (subst (λ (k : List ℕ). value_of k (p ∷ ps) ≡ Some p.1) same (value_first p ps)))
  | inr other ↦
      change_later (putting p) (map putting ps) key other
      ∙ puts_at ps key up.1
      ∙ sym (ap (λ (o : Option (List ℕ)). option_map (λ v. Some v) o) (passed p ps key up (λ e. other (tied p.0 key e))))
]

puts_apart : (key : List ℕ) (ps : List Pair) → AllByRecursion (λ q. key_cmp key q.0 ≡ Less) ps → AllByRecursion (λ d. key ≡ d.0 → ⊥) (map putting ps)
puts_apart key [] h = tt
puts_apart key (p ∷ ps) h = (λ e. let same = tie key p.0 e in let less = h.0 in cc, puts_apart key ps h.1)

puts_distinct : (ps : List Pair) → Rises ps → AreDistinct (map putting ps)
puts_distinct [] up = tt
puts_distinct (p ∷ ps) up = (puts_apart p.0 ps up.0, puts_distinct ps up.1)

puts_all : (ps : List Pair) → Rises ps → made (map putting ps) [] ≡ ps
puts_all ps up = same_values (made (map putting ps) []) ps (made_rises (map putting ps) [] tt) up (λ key.
    value_made (map putting ps) [] key tt (puts_distinct ps up)
    ∙ ap (λ (o : Option (Option (List ℕ))). unwrap_or o None) (puts_at ps key up)
    ∙ whole (value_of key ps))
  where
    whole : (o : Option (List ℕ)) → unwrap_or (option_map (λ v. Some v) o) None ≡ o
    whole None = refl
    whole (Some value) = refl

-- ---- those whose keys pass a test, one after the other

module _ (test : List ℕ → Bool) where
  abbrev pub with_row : Pair → List Pair → List Pair
  with_row p ps = if test p.0 then put p ps else ps

  abbrev pub all_with : List Pair → List Pair → List Pair
  all_with [] ps = ps
  all_with (p ∷ rows) ps = all_with rows (with_row p ps)

  all_made : (rows ps : List Pair) → all_with rows ps ≡ made (map putting (filter (λ p. test p.0) rows)) ps
  all_made [] ps = refl
  all_made (p ∷ rows) ps = elim (cases_Bool (test p.0)) [
    | inl is ↦ rw is (all_made rows (put p ps))
    | inr other ↦ rw other (all_made rows ps)
  ]

  pub all_pass : (rows : List Pair) → Rises rows → all_with rows [] ≡ filter (λ p. test p.0) rows
  all_pass rows up = all_made rows [] ∙ puts_all (filter (λ p. test p.0) rows) (filter_rises test rows up)

-- ---- the base

abbrev pub all_bases : List Pair → Option ℕ → Option ℕ
all_bases [] base = base
all_bases (p ∷ rows) base = all_bases rows (base_with p base)

abbrev base_or : Option (List ℕ) → Option ℕ → Option ℕ
base_or None base = base
base_or (Some value) base = base_in value

abbrev With : Bool → Pair → Option ℕ → Option ℕ
With b p base = if b then base_in p.1 else base

bases_are : (rows : List Pair) (base : Option ℕ) → Rises rows → all_bases rows base ≡ base_or (value_of base_key rows) base
bases_are [] base up = refl
bases_are (p ∷ rows) base up = elim (same_or_other p.0 base_key) [
  | inl same ↦
      let with_it : base_with p base ≡ base_in p.1 = ap (λ (o : Rattle.std.specs.declared.cmp.Ordering.Ordering). With (is_eq o) p base) (tie p.0 base_key same) in
      let none : value_of base_key rows ≡ None = subst (λ (k : List ℕ). value_of k rows ≡ None) same (none_below p.0 rows up.0) in
      let first : value_of base_key (p ∷ rows) ≡ Some p.1 = subst (λ (k : List ℕ). value_of k (p ∷ rows) ≡ Some p.1) same (value_first p rows) in
      ap (all_bases rows) with_it ∙ bases_are rows (base_in p.1) up.1
      ∙ ap (λ (o : Option (List ℕ)). base_or o (base_in p.1)) none
      ∙ sym (ap (λ (o : Option (List ℕ)). base_or o base) first)
  | inr other ↦
      let without : base_with p base ≡ base = ap (λ (b : Bool). With b p base) (unequal p.0 base_key other) in
      ap (all_bases rows) without ∙ bases_are rows base up.1
      ∙ sym (ap (λ (o : Option (List ℕ)). base_or o base) (passed p rows base_key up (λ e. other (tied p.0 base_key e))))
]
  where
    unequal : (a b : List ℕ) → (a ≡ b → ⊥) → is_eq (key_cmp a b) ≡ false
    unequal a b other = Rattle.store_history.proofs.ChangeLemmas.uneven a b other

pub base_read : (rows : List Pair) → Rises rows → all_bases rows None ≡ stored_base rows
base_read rows up = bases_are rows None up ∙ go (value_of base_key rows)
  where
    go : (o : Option (List ℕ)) → base_or o None ≡ option_and_then base_in o
    go None = refl
    go (Some value) = refl

-- ---- rows that keep something

all_put : (P : Pair → Type 0) (new : Pair) (ps : List Pair) → P new → AllByRecursion P ps → AllByRecursion P (put new ps)
all_put P new [] at_new h = (at_new, tt)
all_put P new (p ∷ ps) at_new h = elim (key_cmp p.0 new.0) as (λ o. AllByRecursion P (match_ordering o (p ∷ put new ps) (new ∷ ps) (new ∷ p ∷ ps))) [ Less ↦ (h.0, all_put P new ps at_new h.1) | Equal ↦ (at_new, h.1) | Greater ↦ (at_new, h) ]

pub kept_with_all : (p : Pair) (ps : List Pair) → AllByRecursion (λ p. is_kept p.0 ≡ true) ps → AllByRecursion (λ p. is_kept p.0 ≡ true) (kept_with p ps)
kept_with_all p ps all = elim (cases_Bool (is_kept p.0)) [
  | inl is ↦ rw is (all_put (λ p. is_kept p.0 ≡ true) p ps is all)
  | inr other ↦ rw other all
]
