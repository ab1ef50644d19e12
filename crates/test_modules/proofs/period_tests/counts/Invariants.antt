use Rattle.mod_periods.specs.Stands.{IsKept}
use Rattle.test_modules.proofs.period_tests.counts.Given as goal

abbrev pub invariant-loop-what : goal.invariant-loop-what
invariant-loop-what g l = IsKept l.scene.f.kept
