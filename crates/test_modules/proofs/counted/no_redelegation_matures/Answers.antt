use Rattle.test_modules.proofs.CountedLemmas.{no_redelegation}
use Rattle.test_modules.proofs.counted.no_redelegation_matures.Goals as goal

pub returns : goal.returns
returns g c = no_redelegation c.args.steps.now c.complete.new.steps _ c.requires.none c.complete.ensures.cost
