use Rattle.mod_statement.proofs.Stretches.{NoneBefore}
use Rattle.mod_statement.proofs.slack.first_stretch.Given as goal

abbrev pub invariant-loop-place : goal.invariant-loop-place
invariant-loop-place l = NoneBefore l.entries l.place
