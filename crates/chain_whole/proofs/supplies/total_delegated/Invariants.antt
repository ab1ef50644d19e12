use Rattle.chain_whole.proofs.DelegatedLemmas.{TotalSoFar}
use Rattle.chain_whole.proofs.supplies.total_delegated.Given as goal

abbrev pub invariant-loop-d : goal.invariant-loop-d
invariant-loop-d l = TotalSoFar l.delegations l.d-index l.total
