-- Steps of calls where so much is counted.
use Rattle.std.proofs.Common.{◌≡◌, ℕ, ◌+◌, ◌*◌, ◌≤◌, arith}

-- ten may be bonded, and ten are
pub of_ten : (old new most bonded : ℕ) → most ≡ 10 → bonded ≡ 10 → new ≤ old + 24 * (most + bonded + 1) → new ≤ old + 504
of_ten old new most bonded m b h = omega (arith, m, b, h)

-- no unbonding is mature
pub no_unbonding : (old new mature : ℕ) → mature ≡ 0 → new ≤ old + (15 * mature + 1) → new ≤ old + 1
no_unbonding old new mature e h = omega (arith, e, h)

-- no redelegation is
pub no_redelegation : (old new mature : ℕ) → mature ≡ 0 → new ≤ old + (6 * mature + 1) → new ≤ old + 1
no_redelegation old new mature e h = omega (arith, e, h)

-- what the chain's hooks, and its bank, take at most
pub four : 4 ≤ 4
four = omega arith

pub eight : 8 ≤ 8
eight = omega arith
