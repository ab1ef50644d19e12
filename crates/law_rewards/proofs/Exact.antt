-- The numbers of a span: the code's running ones, and the ideal's as numerators over one denominator.
use Rattle.std.proofs.Common.{ℕ, zero, suc, ◌+◌, ◌-◌, ◌*◌, min}
use Rattle.rule_modules.specs.Periods.{slashed_stake}
use Rattle.law_rewards.specs.Account.{product_cut}

-- what a walk over the stretches of a span has reached
pub record Reckoned : Type 0 where
  pub stake : ℕ  -- the running stake
  pub rise : ℕ  -- the ratio now less the ratio at the beginning of the stretch
  pub paid : ℕ  -- the reward of the stretches before

-- a slash closes a stretch
abbrev pub stretch_paid : Reckoned → ℕ → Reckoned
stretch_paid r fraction = record {
  stake = slashed_stake r.stake fraction;
  rise = 0;
  paid = r.paid + product_cut r.rise r.stake;
}

-- the reward, where the shares are worth this now
abbrev pub reckoned_reward : Reckoned → ℕ → ℕ
reckoned_reward r value = r.paid + product_cut r.rise (min r.stake value)

-- all but the counts are numerators over `den`
pub record Exact : Type 0 where
  pub den : ℕ  -- a common denominator
  pub kept : ℕ  -- what the slashes left of 1
  pub closed : ℕ  -- the ideal reward of a stake of 1 in the stretches before
  pub opened : ℕ  -- the same in this stretch
  pub shared : ℕ  -- the sum of amount / tokens in this stretch
  pub weighted : ℕ  -- that sum in each stretch before, times the stretch's number
  pub slashes : ℕ  -- how many stretches were closed
  pub ended : ℕ  -- how many periods ended in this stretch
  pub ended_before : ℕ
  pub left : ℕ  -- how often shares left

abbrev pub exact_start : Exact
exact_start = record { den = 1; kept = 1; closed = 0; opened = 0; shared = 0; weighted = 0; slashes = 0; ended = 0; ended_before = 0; left = 0 }

abbrev pub exact_allocated : Exact → ℕ → ℕ → Exact
exact_allocated e amount zero = e
exact_allocated e amount (suc t) = record e {
  den = e.den * suc t;
  kept = e.kept * suc t;
  closed = e.closed * suc t;
  weighted = e.weighted * suc t;
  opened = e.opened * suc t + amount * e.kept;
  shared = e.shared * suc t + amount * e.den;
}

abbrev pub exact_slashed : Exact → ℕ → ℕ → Exact
exact_slashed e burn tokens = record {
  den = e.den * tokens;
  kept = e.kept * (tokens - burn);
  closed = (e.closed + e.opened) * tokens;
  opened = 0;
  shared = 0;
  weighted = (e.weighted + (e.slashes + 1) * e.shared) * tokens;
  slashes = e.slashes + 1;
  ended = 0;
  ended_before = e.ended_before + e.ended;
  left = e.left;
}
