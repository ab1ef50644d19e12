-- The coins of a fair withdrawal, beside the ideal reward.
use Rattle.std.proofs.Common.{◌≡◌, ℕ, ◌+◌, ◌*◌, ◌/◌, ◌^◌, ◌<◌, ◌≤◌, List, refl, arith, min, mul-le-mul, mul-le-mul_right}
use Rattle.base_decimals.specs.Decimals.{trunc_of}
use Rattle.base_coins.{specs.Coins.{Money, IsMoney, amount_of}, proofs.{Amounts.amount-all, Order.rises_from_money}}
use Rattle.base_coins.proofs.Results.{smaller_is_money}
use Rattle.base_roles.specs.Log.{Log}
use Rattle.rule_modules.specs.Ideal.{Brackets, ideal_reward, slack_of}
use Rattle.law_rewards.specs.Withdrawals.{IsFairReward, reward_paid, coins_paid, IsCloseToIdeal}
use Rattle.law_rewards.{specs.WithdrawalLaws.FairPaymentsAreClose, proofs.Rounding.{floor_low, floor_high}}
use Rattle.law_rewards.proofs.Unfair.{smaller_amount}

at_most_times : (c n i by u : ℕ) → c * u ≤ n → n * by ≤ i * u → c * u * by ≤ i * u
at_most_times c n i by u h e = let k : c * u * by ≤ n * by = mul-le-mul_right by h in omega (arith, k, e)

below_times : (i by n m low high u : ℕ) → 0 < by → 0 < low → n < m → i * (u * low) ≤ (n * low + high * u) * by → i * (u * low) < (m * low + high * u) * by
below_times i by n m low high u pos some less e =
    let one : 1 * 1 ≤ low * by = mul-le-mul some pos in
    let next : n + 1 ≤ m = omega (arith, less) in
    let more : (n + 1) * (low * by) ≤ m * (low * by) = mul-le-mul_right (low * by) next in
    omega (arith, one, more, e)

-- the whole coins of a reward
coins_within : (c r : ℕ) → c ≡ r / 10 ^ 18 → (c * 10 ^ 18 ≤ r) × (r < (c + 1) * 10 ^ 18)
coins_within c r e = (omega (arith, e, floor_low r (10 ^ 18)), omega (arith, e, floor_high r (10 ^ 18) (omega arith)))

close_to_ideal : (l : Log) (who operator : List ℕ) (full outstanding : Money) (f : IsFairReward l who operator full outstanding) (d : List ℕ) → IsCloseToIdeal l who operator full outstanding f d
close_to_ideal l who operator full outstanding f d =
    let n : ℕ = amount_of full d in
    let left : ℕ = amount_of outstanding d in
    let reward : Money = reward_paid full outstanding in
    let c : ℕ = amount_of (coins_paid full outstanding) d in
    let b : Brackets d f.span n = f.bracketed d in
    let money : IsMoney reward = smaller_is_money full outstanding f.full_is in
    let paid : amount_of reward d ≡ min n left = smaller_amount d full outstanding f.full_is in
    let whole : c ≡ amount_of reward d / 10 ^ 18 = amount-all (λ e m. trunc_of m) (λ e. refl) reward d (rises_from_money reward money) in
    let within : (c * 10 ^ 18 ≤ amount_of reward d) × (amount_of reward d < (c + 1) * 10 ^ 18) = coins_within c (amount_of reward d) whole in
    record {
      at_most = at_most_times c n (ideal_reward d f.span).numerator (ideal_reward d f.span).denominator (10 ^ 18) (omega (arith, within.0, paid)) b.at_most;
      above = λ enough. below_times (ideal_reward d f.span).numerator (ideal_reward d f.span).denominator n ((c + 1) * 10 ^ 18) (slack_of d f.span).denominator (slack_of d f.span).numerator (10 ^ 18) b.reward_is b.slack_is
          (omega (arith, within.1, paid, enough)) b.at_least;
    }

pub fair_payments_are_close : FairPaymentsAreClose
fair_payments_are_close = λ l who operator full outstanding f d. close_to_ideal l who operator full outstanding f d
