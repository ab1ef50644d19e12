use Rattle.chain_whole.proofs.SupplyLemmas.{JoinedSoFar}
use Rattle.chain_whole.proofs.supplies.join_coins.Given as goal

abbrev pub invariant-loop-place : goal.invariant-loop-place
invariant-loop-place l = JoinedSoFar l.coins l.place l.initial.supplies.entries l.supplies.entries
