-- The tally without rounding, and how far rounding may lie from it.
use Rattle.std.specs.Prelude.{ℕ, ◌+◌, ◌*◌, ◌<◌, cond, List, [], ◌∷◌, length}
use Rattle.std.specs.List.{filter, sum_by}
use Rattle.std.specs.Option.{option_or}
use Rattle.base_decimals.specs.Fractions.{Fraction, fraction_of, IsAtMost, IsBelow}
use Rattle.base_shares.specs.Burns.{ratio_of, plus}
use Rattle.base_roles.specs.declared.entities.Validator.{Validator}
use Rattle.base_roles.specs.Staked.{Staked}
use Rattle.mod_tally.specs.declared.choice.Choice.{Choice}
use Rattle.mod_tally.specs.Ballots.{Chosen, is_for}
use Rattle.mod_tally.specs.Tally.{Delegations, counted_of, delegations_to, those_for}

-- the exact sum of fractions
abbrev pub sum_exact : {X : Type 0} → (X → Fraction) → List X → Fraction
sum_exact f [] = ratio_of 0 1
sum_exact f (x ∷ xs) = plus (f x) (sum_exact f xs)

-- the exact value of a delegation in tokens: its part of all shares, times the validator's tokens
abbrev pub exact_value : Validator → (List ℕ × List ℕ) × ℕ → Fraction
exact_value v d = ratio_of (d.1 * v.tokens) v.shares

-- The delegations that are given to a choice: by their delegator, or where it cast no ballot by
-- their operator.
abbrev pub given_to : Chosen → Choice → Delegations → Delegations
given_to chosen choice ds = filter (λ d. is_for (option_or (chosen d.0.1) (chosen d.0.0)) choice) ds

-- the exact value of the delegations to a validator that are given to a choice
abbrev pub exact_at : Chosen → Choice → Delegations → Validator → Fraction
exact_at chosen choice ds v =
    sum_exact (exact_value v) (given_to chosen choice (delegations_to v.operator ds))

-- The exact value of all delegations that are given to a choice, over the bonded validators with
-- shares.
abbrev pub exact_of : Staked → Chosen → Choice → Fraction
exact_of s chosen choice =
    sum_exact (exact_at chosen choice s.delegations) (counted_of s)

-- How many values are summed up for a choice at a validator: one of each delegator with it, and one
-- where the operator has it.
abbrev pub values_for : Chosen → Choice → Delegations → Validator → ℕ
values_for chosen choice ds v =
    length (those_for chosen choice (delegations_to v.operator ds))
    + cond (is_for (chosen v.operator) choice) 1 0

abbrev pub values_of_total : Staked → Chosen → Choice → ℕ
values_of_total s chosen choice = sum_by (values_for chosen choice s.delegations) (counted_of s)

-- Two fractions differ by less than so many units of 10^-18, and where these are none, not at all.
pub record DifferBelow (units : ℕ) (p q : Fraction) : Type 0 where
  pub low : IsAtMost p (plus q (fraction_of units))
  pub high : IsAtMost q (plus p (fraction_of units))
  pub below : 0 < units → IsBelow p (plus q (fraction_of units))
  pub above : 0 < units → IsBelow q (plus p (fraction_of units))
