use Rattle.std.proofs.Common.{◌≡◌, ◌-◌}
use Rattle.run_generated.specs.{Drawing.{in_turn, numbers_from}, Input.{block_drawn, state_behind}}
use Rattle.run_generated.proofs.by_place.block_at.Given as goal

abbrev pub invariant-loop-before : goal.invariant-loop-before
invariant-loop-before l =
    (in_turn block_drawn (numbers_from l.before (l.height - l.before)) l.generator).state ≡ state_behind l.seed (l.height - 1)
