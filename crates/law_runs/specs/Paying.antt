-- What the blocks of every replay pay, and say of it, at once.
use Rattle.law_rewards.specs.WithdrawalLaws.{RewardsAreTold}
use Rattle.law_runs.specs.Going.{RunsGoFairly}
use Rattle.law_runs.specs.Payees.{PayeesAreOfTheMoment}
use Rattle.law_runs.specs.Readers.{RunsTellFairly}

-- Each withdrawal of a replay is fair by the log up to it, is told, and is sent; rewards run exactly where delegations stand; for
-- each payment that is told a reader finds its withdrawal; it goes to the payee of the moment; and each reward that is asked for
-- is told, from whatever sound state.
pub record RunsPayFairly : Type 0 where
  pub payments : RunsGoFairly
  pub told : RunsTellFairly
  pub payees : PayeesAreOfTheMoment
  pub asked : RewardsAreTold
