-- The tests of parameters, time, height and validators decide that they are in their ranges.
use Rattle.std.proofs.Common.{◌≡◌, ℕ, ◌^◌, ◌≤◌, ◌<◌, true, false, List, refl, sym, ap, arith, ◌⊎◌, ◌==◌, ◌&&◌, ◌||◌, nat_lt, nat_le, is_none, All, inl, inr, Decides}
use Rattle.std.proofs.lemmas.Bool.{cases_lt, Decides.{nat_tests, Decides-and, Decides-or, Decides-eqb, Decides-like}}
use Rattle.base_roles.specs.declared.{entities.Validator.Validator, params.{Ctx.Ctx, Params.Params}}
use Rattle.base_roles.{specs.Ground.{AreInRange, end_of_blocks}, proofs.RangeLemmas.none_out}
use Rattle.rule_modules.specs.Sound.{ValidatorIsSound}
use Rattle.rule_machine.{specs.Genesis.are_in_range, proofs.Ranges.in_range}
use Rattle.store_soundness.specs.Ranges.{is_context_sound, is_validator_sound, are_validators_sound}
use Rattle.law_records.proofs.TestLemmas.{at_most, below, all_decides}

range_tested : (p : Params) → AreInRange p → are_in_range p ≡ true
range_tested p r = ap is_none (none_out p r)

-- where a call may happen
abbrev pub IsPlace : Ctx → Type 0
IsPlace c = AreInRange c.params × ((c.time < end_of_blocks) × (c.height < 2 ^ 63))

pub context_decides : (c : Ctx) → Decides (is_context_sound c) (IsPlace c)
context_decides c =
    Decides-and (are_in_range c.params) (nat_lt c.time end_of_blocks && nat_lt c.height (2 ^ 63)) (in_range c.params, range_tested c.params)
    (Decides-and (nat_lt c.time end_of_blocks) (nat_lt c.height (2 ^ 63)) (below c.time end_of_blocks) (below c.height (2 ^ 63)))

-- none without shares
empty_decides : (v : Validator) → Decides (nat_lt 0 v.shares || (v.tokens == 0)) (v.shares ≡ 0 → v.tokens ≡ 0)
empty_decides v =
    let either = Decides-or (nat_lt 0 v.shares) (v.tokens == 0) (below 0 v.shares) (Decides-eqb v.tokens 0) in
    (λ t. λ none. by none (either.0 t), λ h. either.1 (which h (cases_lt 0 v.shares)))
  where
    by : v.shares ≡ 0 → (0 < v.shares) ⊎ (v.tokens ≡ 0) → v.tokens ≡ 0
    by none (inl some) = absurd (omega arith)
    by none (inr zero) = zero

    which : (v.shares ≡ 0 → v.tokens ≡ 0) → (0 < v.shares) ⊎ (v.shares ≤ 0) → (0 < v.shares) ⊎ (v.tokens ≡ 0)
    which h (inl some) = inl some
    which h (inr none) = inr (h (omega arith))

validator_decides : (height : ℕ) (v : Validator) → Decides (is_validator_sound height v) (ValidatorIsSound height v)
validator_decides height v =
    let c = v.commission in
    let one = at_most c.max_rate (10 ^ 18) in
    let two = Decides-and (nat_le c.max_rate (10 ^ 18)) (nat_le c.rate c.max_rate) one (at_most c.rate c.max_rate) in
    let three = Decides-and (nat_le c.max_rate (10 ^ 18) && nat_le c.rate c.max_rate) (nat_le c.max_change c.max_rate) two (at_most c.max_change c.max_rate) in
    let four = Decides-and (nat_le c.max_rate (10 ^ 18) && nat_le c.rate c.max_rate && nat_le c.max_change c.max_rate) (nat_le v.tokens (10 ^ 18)) three (at_most v.tokens (10 ^ 18)) in
    let five = Decides-and (nat_le c.max_rate (10 ^ 18) && nat_le c.rate c.max_rate && nat_le c.max_change c.max_rate && nat_le v.tokens (10 ^ 18)) (nat_lt 0 v.shares || (v.tokens == 0)) four (empty_decides v) in
    let all = Decides-and (nat_le c.max_rate (10 ^ 18) && nat_le c.rate c.max_rate && nat_le c.max_change c.max_rate && nat_le v.tokens (10 ^ 18) && (nat_lt 0 v.shares || (v.tokens == 0)))
    (nat_le v.unbonding_height height) five (at_most v.unbonding_height height) in (
      λ t. let h = all.0 t in record {
        max_rate = h.0.0.0.0.0;
        rate = h.0.0.0.0.1;
        max_change = h.0.0.0.1;
        tokens = h.0.0.1;
        empty = h.0.1;
        unbonding_height = h.1;
      },
      λ s. all.1 (((((s.max_rate, s.rate), s.max_change), s.tokens), s.empty), s.unbonding_height),
    )

pub validators_decide : (height : ℕ) (vs : List (List ℕ × Validator)) → Decides (are_validators_sound height vs) (All (λ e. ValidatorIsSound height e.1) vs)
validators_decide height vs = all_decides (λ (e : List ℕ × Validator). is_validator_sound height e.1) (λ e. ValidatorIsSound height e.1) (λ e. validator_decides height e.1) vs
