use Rattle.mod_statement.proofs.Places.{BelowAt}
use Rattle.mod_statement.proofs.denoms.place_of.Given as goal

abbrev pub invariant-loop-place : goal.invariant-loop-place
invariant-loop-place l = BelowAt l.denoms l.denom l.place
