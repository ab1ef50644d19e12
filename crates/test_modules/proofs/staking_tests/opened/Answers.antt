use Rattle.std.proofs.Common.{refl, ap}
use Rattle.test_modules.proofs.StakingLemmas.{fit-opened}
use Rattle.test_modules.proofs.staking_tests.opened.Goals as goal

pub returns-clause-fit : goal.returns-clause-fit
returns-clause-fit g c = fit-opened c.new-staking.result.staked _ (ap (λ r. r.staked) c.new-staking.ensures) c.params.ensures c.moment.ensures refl c.in_ok-bank.ensures
