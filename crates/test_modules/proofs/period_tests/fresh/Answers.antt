use Rattle.mod_periods.specs.Stands.{no_rewards}
use Rattle.test_modules.proofs.period_tests.fresh.Goals as goal

pub returns : goal.returns
returns g c = (no_rewards, c.new.ensures.kept)
