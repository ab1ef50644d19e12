use Rattle.std.proofs.Common.{◌≡◌, ◌-◌}
use Rattle.run_generated.{specs.Drawing.{in_turn, numbers_from}, proofs.DrawLemmas.behind}
use Rattle.run_generated.proofs.block.in_turn.Given as goal

abbrev pub invariant-loop-number : goal.invariant-loop-number
invariant-loop-number g l =
    behind l.list.items (in_turn g.T.FromDraws.drawing (numbers_from l.number (l.many - l.number)) l.generator)
    ≡ in_turn g.T.FromDraws.drawing (numbers_from 0 l.many) l.fn.generator
