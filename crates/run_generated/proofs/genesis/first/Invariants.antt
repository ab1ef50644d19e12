use Rattle.std.proofs.Common.{◌≡◌, ◌-◌, ◌++◌, map}
use Rattle.run_generated.specs.Drawing.{numbers_from}
use Rattle.run_generated.proofs.genesis.first.Given as goal

abbrev pub invariant-loop-number : goal.invariant-loop-number
invariant-loop-number g l =
    l.list.items ++ map g.T.Numbered.value_at (numbers_from l.number (l.many - l.number)) ≡ map g.T.Numbered.value_at (numbers_from 0 l.many)
