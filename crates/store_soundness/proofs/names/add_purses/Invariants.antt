use Rattle.std.proofs.Common.{◌≡◌}
use Rattle.store_soundness.specs.Ranges.{with_purses}
use Rattle.store_soundness.proofs.names.add_purses.Given as goal

abbrev pub invariant-loop-purse : goal.invariant-loop-purse
invariant-loop-purse l = with_purses l.names.keys l.purse-iterator ≡ with_purses l.fn.names.keys l.purses.entries
