use Rattle.mod_periods.specs.Stands.{IsKept}
use Rattle.test_modules.proofs.period_tests.agrees.Given as goal

abbrev pub invariant-loop-number : goal.invariant-loop-number
invariant-loop-number g l = IsKept l.scene.f.kept
