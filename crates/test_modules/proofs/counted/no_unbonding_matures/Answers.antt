use Rattle.test_modules.proofs.CountedLemmas.{eight, no_unbonding}
use Rattle.test_modules.proofs.counted.no_unbonding_matures.Goals as goal

pub returns : goal.returns
returns g c = no_unbonding c.args.steps.now c.complete.new.steps _ c.requires.none (c.complete.ensures.cost eight)
