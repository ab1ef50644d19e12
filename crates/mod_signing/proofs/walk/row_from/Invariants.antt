use Rattle.mod_signing.proofs.LoopLemmas.{IsWritten}
use Rattle.mod_signing.proofs.walk.row_from.Given as goal

abbrev pub invariant-loop-place : goal.invariant-loop-place
invariant-loop-place l = IsWritten l.votes l.from l.place l.row
