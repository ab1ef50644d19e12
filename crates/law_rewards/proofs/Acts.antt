-- Facts on single acts.
use Rattle.std.proofs.Common.{◌≡◌, ℕ, zero, suc, ◌+◌, ◌-◌, ◌*◌, ◌==◌, ◌<◌, ◌≤◌, Bool, true, false, cond, List, [], ◌∷◌, refl, arith, ap, ap₂, sym, ◌∙◌, inl, inr}
use Rattle.std.proofs.lemmas.Bool.{cases_lt}
use Rattle.base_decimals.specs.Fractions.{Fraction, fraction_of}
use Rattle.base_coins.specs.Coins.{amount_of}
use Rattle.base_shares.specs.{Shares.{value_even_of, amount_out}, Burns.{ratio_of, plus}}
use Rattle.base_roles.specs.Log.{LogEntry}
use Rattle.base_roles.specs.Log as log
use Rattle.rule_modules.specs.Ideal.{Ideal, times, ideal_start, ideal_over, shared_out}
use Rattle.law_rewards.specs.Account.{increment_of}
use Rattle.law_rewards.specs.Laws.{ValuesAreClose, IncrementsAreClose, RemovalsLowerByHalfAUnit, MomentsDoNotMatter}
use Rattle.law_rewards.specs.Sharing.{shared_among}
use Rattle.law_rewards.proofs.Rounding.{one, value_cut_low, value_cut_high, value_even_high, value_even_low, increment_low, increment_high}
use Rattle.law_rewards.proofs.{Steps.leave_half, Following.out_low}

pub values_are_close : ValuesAreClose
values_are_close = λ tokens shares part some. record {
  cut_below = omega (arith, value_cut_low tokens shares part);
  cut_within = omega (arith, value_cut_high tokens shares part some);
  even_below = omega (arith, value_even_high tokens shares part);
  even_within = omega (arith, value_even_low tokens shares part some);
}

increments : (current tokens : ℕ) → 0 < tokens → (increment_of current tokens * tokens ≤ current) × (current < increment_of current tokens * tokens + tokens)
increments current zero some = absurd (omega arith)
increments current (suc t) some = (increment_low current t, increment_high current t)

pub increments_are_close : IncrementsAreClose
increments_are_close = increments

half : (tokens shares part : ℕ) → part ≤ shares → 2 * (one * tokens * (shares - part)) ≤ 2 * (one * (tokens - amount_out tokens shares part) * shares) + shares
half tokens shares part h = elim (cases_lt part shares) [
  | inl less ↦ leave_half one shares (shares - part) part tokens (tokens - amount_out tokens shares part) (amount_out tokens shares part) (value_even_of tokens shares part)
      (omega arith) (omega arith) (out_low tokens shares part less) (value_even_high tokens shares part)
  | inr more ↦ (let none : one * tokens * (shares - part) ≡ one * tokens * 0 = ap (λ q. one * tokens * q) (omega arith) in omega arith)
]

pub removals_lower_by_half_a_unit : RemovalsLowerByHalfAUnit
removals_lower_by_half_a_unit = λ tokens shares part some within. omega (arith, half tokens shares part within)

-- ---- moments

record IsSame (i j : Ideal) : Type 0 where
  stake : i.stake ≡ j.stake
  reward : i.reward ≡ j.reward

same_shared : (i j : Ideal) (raw tokens : ℕ) → IsSame i j → IsSame (shared_out raw tokens i) (shared_out raw tokens j)
same_shared i j raw tokens s = given (tokens == 0)
  where
    given : (b : Bool) → IsSame (cond b i (record i { reward = plus i.reward (times (times (fraction_of raw) i.stake) (ratio_of 1 tokens)); rate = plus i.rate (times (fraction_of raw) (ratio_of 1 tokens)) }))
        (cond b j (record j { reward = plus j.reward (times (times (fraction_of raw) j.stake) (ratio_of 1 tokens)); rate = plus j.rate (times (fraction_of raw) (ratio_of 1 tokens)) }))
    given true = s
    given false = record { stake = s.stake; reward = ap₂ (λ r q. plus r (times (times (fraction_of raw) q) (ratio_of 1 tokens))) s.reward s.stake }

same_over : (d : List ℕ) (first : Fraction) (es : List LogEntry) (i j : Ideal) → IsSame i j → IsSame (ideal_over d first i es) (ideal_over d first j (shared_among es))
same_over d first [] i j s = s
same_over d first (log.made ∷ es) i j s = same_over d first es i j s
same_over d first (log.allocated f r t ∷ es) i j s =
    same_over d first es (shared_out (amount_of r d) t i) (shared_out (amount_of r d) t j) (same_shared i j (amount_of r d) t s)
same_over d first (log.ended p n t ∷ es) i j s = same_over d first es _ j (record { stake = s.stake; reward = s.reward })
same_over d first (log.started w n t x k ∷ es) i j s = same_over d first es i j s
same_over d first (log.slashed b t f ∷ es) i j s =
    same_over d first es _ _ (record { stake = ap (λ q. times q (ratio_of (t - b) t)) s.stake; reward = s.reward })
same_over d first (log.left ∷ es) i j s = same_over d first es _ j (record { stake = s.stake; reward = s.reward })
same_over d first (log.withdrawn w p f o ∷ es) i j s = same_over d first es i j s
same_over d first (log.commission c ∷ es) i j s = same_over d first es i j s

same_reward : (d : List ℕ) (first : Fraction) (es : List LogEntry) → (ideal_over d first (ideal_start first) es).reward ≡ (ideal_over d first (ideal_start first) (shared_among es)).reward
same_reward d first es = (same_over d first es (ideal_start first) (ideal_start first) (record { stake = refl; reward = refl })).reward

pub moments_do_not_matter : MomentsDoNotMatter
moments_do_not_matter = λ d first es es' e.
    same_reward d first es ∙ ap (λ fs. (ideal_over d first (ideal_start first) fs).reward) e ∙ sym (same_reward d first es')
