use Rattle.std.proofs.Common.{refl, ap}
use Rattle.test_modules.proofs.UnbondingLemmas.{fit-empty}
use Rattle.test_modules.proofs.unbonding_tests.empty.Goals as goal

pub returns-clause-fit : goal.returns-clause-fit
returns-clause-fit g c = fit-empty _ _ _ (ap (λ k. k.lists) c.new-unbondings.ensures) (ap (λ r. r.staked) c.new-staking.ensures) c.params.ensures c.moment.ensures refl c.in_ok-bank.ensures
