-- One row that is gone back over.
use Rattle.std.proofs.Common.{◌≡◌, ◌∙◌, ℕ, zero, suc, ◌+◌, ◌^◌, ◌<◌, ◌≤◌, Bool, true, false, List, [], ◌∷◌, drop, get_or, length, map, Option, Some, None, inl, inr, refl, sym, ap, ap₂, subst, arith, ◌&&◌, nat_lt, if◌then◌else◌}
use Rattle.std.{specs.List.AllByRecursion, proofs.lemmas.Bool.cases_Bool}
use Rattle.base_io.specs.{declared.keeper.Row.Row, Rows.Pair, Changes.pair_of}
use Rattle.store_history.specs.{History.{kept_height, kept_key, kept_name, was}, Commits.{is_kept, made_by}}
use Rattle.store_history.{specs.Held.{IsWhole, restored, undone}, proofs.KeyLemmas.{height_back, name_back}}
use Rattle.store_history.proofs.ReadingLemmas.{row_next}

pub was_none : (value rest : List ℕ) (tag : ℕ) → value ≡ tag ∷ rest → tag ≡ 0 → None ≡ was value
was_none value rest tag is zero_is = sym (ap was (is ∙ ap (λ (n : ℕ). n ∷ rest) zero_is))

pub was_some : (value rest : List ℕ) (tag : ℕ) → value ≡ tag ∷ rest → (tag ≡ 0 → ⊥) → Some rest ≡ was value
was_some value rest zero is other = absurd (other refl)
was_some value rest (suc tag) is other = sym (ap was is)

abbrev Restored : Bool → Pair → List Pair → List Pair
Restored b p ps = if b then made_by (kept_name p.0) (was p.1) ps else ps

module _ (height n : ℕ) (p : Pair) (ps : List Pair) (name : List ℕ) (key : p.0 ≡ kept_key n name) (small : n < 2 ^ 64) where
  at : kept_height p.0 ≡ n
  at = ap kept_height key ∙ height_back n name small

  kept : is_kept p.0 ≡ true
  kept = ap is_kept key

  pub restored_low : n ≤ height → ps ≡ restored height p ps
  restored_low low =
      let test : nat_lt height n ≡ false = search (arith, Rattle.std.proofs.Common.rules) in
      let early : nat_lt height (kept_height p.0) ≡ false = ap (nat_lt height) at ∙ test in
      sym (ap (λ (b : Bool). Restored b p ps) (ap₂ (λ (a b : Bool). a && b) kept early))

  high : height < n → restored height p ps ≡ made_by name (was p.1) ps
  high above =
      let test : nat_lt height n ≡ true = search Rattle.std.proofs.Common.rules in
      let late : nat_lt height (kept_height p.0) ≡ true = ap (nat_lt height) at ∙ test in
      ap (λ (b : Bool). Restored b p ps) (ap₂ (λ (a b : Bool). a && b) kept late)
      ∙ ap (λ (k : List ℕ). made_by k (was p.1) ps) (ap kept_name key ∙ name_back n name)

  pub restored_high : height < n → made_by name (was p.1) ps ≡ restored height p ps
  restored_high above = sym (high above)

-- a row whose key is none of those that keep is passed over
pub restored_other : (height : ℕ) (p : Pair) (ps : List Pair) → ((n : ℕ) (name : List ℕ) → p.0 ≡ kept_key n name → ⊥) → IsWhole p → ps ≡ restored height p ps
restored_other height p ps none whole = elim (cases_Bool (is_kept p.0)) [
  | inl is ↦ absurd (none (kept_height p.0) (kept_name p.0) (whole is).0)
  | inr other ↦ sym (ap (λ (b : Bool). Restored (b && nat_lt height (kept_height p.0)) p ps) other)
]

-- ---- all rows, from the last one

pub all_at : (P : Pair → Type 0) (rows : List Row) (i : ℕ) (r : Row) → AllByRecursion P (map pair_of rows) → i < length rows → r ≡ get_or rows i r → P (pair_of r)
all_at P [] i r h lt is = absurd (omega (arith, lt))
all_at P (s ∷ rows) zero r h lt is = subst (λ (r : Row). P (pair_of r)) (sym is) h.0
all_at P (s ∷ rows) (suc i) r h lt is = all_at P rows i r h.1 (omega (arith, lt)) is

pub undone_next : (height : ℕ) (rows : List Row) (i before : ℕ) (r : Row) (first old new : List Pair) → before ≡ i + 1 → i < length rows → r ≡ get_or rows i r → AllByRecursion IsWhole (map pair_of rows)
    → (IsWhole (pair_of r) → new ≡ restored height (pair_of r) old) → old ≡ undone height (map pair_of (drop before rows)) first → new ≡ undone height (map pair_of (drop i rows)) first
undone_next height rows i before r first old new one lt is whole step later =
    step (all_at IsWhole rows i r whole lt is)
    ∙ ap (restored height (pair_of r)) (later ∙ ap (λ (k : ℕ). undone height (map pair_of (drop k rows)) first) one)
    ∙ sym (ap (λ (rs : List Row). undone height (map pair_of rs) first) (row_next rows i r lt is))
