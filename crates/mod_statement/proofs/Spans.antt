-- Entries that have bounds are a start and what may stand behind it, and these are the bounds of what stands there.
use Rattle.std.proofs.Common.{◌≡◌, ℕ, ◌-◌, ◌^◌, ◌<◌, ◌&&◌, Bool, true, false, List, [], ◌∷◌, length, refl, ap, arith, Some, None, Result, Ok, Err, if◌then◌else◌, nat_lt, nat_le, slice_get, ltb-true, leb-true}
use Rattle.std.{proofs.lemmas.{Bool.and_parts, List.Elements.{All-nil, All-cons}}, specs.List.list_all}
use Rattle.std.specs.Result.{result_unwrap_or}
use Rattle.base_decimals.specs.declared.over.Over.{Over}
use Rattle.base_coins.{specs.Coins.Money, proofs.Amounts.ok}
use Rattle.mod_statement.specs.declared.entry.Entry.{Entry, TheVariants.{Started, Allocated, Ended, Slashed, Touched}}
use Rattle.mod_statement.specs.declared.{bounds.Bounds.Bounds, fault.StatementFault.StatementFault}
use Rattle.mod_statement.specs.Entries.{AreBehind, is_behind, is_ended_by, is_rest, span_from, stakes_worth}
use Rattle.mod_statement.specs.Bounds.{bounds_of, bounds_of_span, bounds_over, or_over}

-- bounds, or a fault
abbrev bounded : Bounds → Result Bounds StatementFault
bounded b = Ok b

abbrev faulty : StatementFault → Result Bounds StatementFault
faulty f = Err f

fault_not_ok : {f : StatementFault} {b : Bounds} → faulty f ≡ bounded b → ⊥
fault_not_ok h = cc

over_passed : (r : Result Bounds Over) (due : Bounds) → or_over r ≡ bounded due → r ≡ Ok due
over_passed (Ok b) due h = ap (λ (k : Result Bounds StatementFault). ok (result_unwrap_or k b)) h
over_passed (Err e) due h = absurd (fault_not_ok h)

all_behind : (es : List Entry) → list_all is_behind es ≡ true → AreBehind es
all_behind [] h = All-nil (λ x. is_behind x ≡ true)
all_behind (e ∷ es) h =
    let (here, there) = and_parts (is_behind e) (list_all is_behind es) h in
    All-cons (λ x. is_behind x ≡ true) e es here (all_behind es there)

pub record IsSpan (es : List Entry) (removals : ℕ) (ratio : Money) (due : Bounds) : Type 0 where
  pub shares : ℕ
  pub tokens : ℕ
  pub total : ℕ
  pub rest : List Entry
  pub is : es ≡ Started shares tokens total ∷ rest
  pub some : 0 < total
  pub behind : AreBehind rest
  pub due_is : bounds_over (stakes_worth shares tokens total) rest removals ratio ≡ Ok due

rest_test : (r : Bool) (shares tokens total : ℕ) (rest : List Entry) (removals : ℕ) (ratio : Money) (due : Bounds) → is_rest rest ≡ r → 0 < total
    → bounds_of_span (if r then Some (stakes_worth shares tokens total, rest) else None) removals ratio ≡ bounded due
    → IsSpan (Started shares tokens total ∷ rest) removals ratio due
rest_test true shares tokens total rest removals ratio due is some h =
    let (behind, ends) = and_parts (list_all is_behind rest) (is_ended_by (slice_get rest (length rest - 1))) is in
    record {
      shares = shares;
      tokens = tokens;
      total = total;
      rest = rest;
      is = refl;
      some = some;
      behind = all_behind rest behind;
      due_is = over_passed (bounds_over (stakes_worth shares tokens total) rest removals ratio) due h;
    }
rest_test false shares tokens total rest removals ratio due is some h = absurd (fault_not_ok h)

some_total : (shares tokens total : ℕ) → (nat_lt 0 shares && nat_le shares total && nat_le tokens (10 ^ 18)) ≡ true → 0 < total
some_total shares tokens total h =
    let (both, most) = and_parts (nat_lt 0 shares && nat_le shares total) (nat_le tokens (10 ^ 18)) h in
    let (some, within) = and_parts (nat_lt 0 shares) (nat_le shares total) both in
    omega (arith, ltb-true 0 shares some, leb-true shares total within)

start_test : (t : Bool) (shares tokens total : ℕ) (rest : List Entry) (removals : ℕ) (ratio : Money) (due : Bounds)
    → (nat_lt 0 shares && nat_le shares total && nat_le tokens (10 ^ 18)) ≡ t
    → bounds_of_span (span_from (if t then Some (stakes_worth shares tokens total) else None) rest) removals ratio ≡ bounded due
    → IsSpan (Started shares tokens total ∷ rest) removals ratio due
start_test true shares tokens total rest removals ratio due is h = rest_test (is_rest rest) shares tokens total rest removals ratio due refl (some_total shares tokens total is) h
start_test false shares tokens total rest removals ratio due is h = absurd (fault_not_ok h)

pub span_bounds : (es : List Entry) (removals : ℕ) (ratio : Money) (due : Bounds) → bounds_of es removals ratio ≡ Ok due → IsSpan es removals ratio due
span_bounds [] removals ratio due h = absurd (fault_not_ok h)
span_bounds (Started shares tokens total ∷ rest) removals ratio due h =
    start_test (nat_lt 0 shares && nat_le shares total && nat_le tokens (10 ^ 18)) shares tokens total rest removals ratio due refl h
span_bounds (Allocated coins tokens ∷ rest) removals ratio due h = absurd (fault_not_ok h)
span_bounds (Ended ∷ rest) removals ratio due h = absurd (fault_not_ok h)
span_bounds (Slashed burned tokens ∷ rest) removals ratio due h = absurd (fault_not_ok h)
span_bounds (Touched ∷ rest) removals ratio due h = absurd (fault_not_ok h)
