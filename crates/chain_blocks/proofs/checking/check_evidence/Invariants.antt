use Rattle.chain_blocks.proofs.CheckLemmas.{EvidenceSoFar}
use Rattle.chain_blocks.proofs.checking.check_evidence.Given as goal

abbrev pub invariant-loop-place : goal.invariant-loop-place
invariant-loop-place l = EvidenceSoFar l.block l.reduction l.e-items l.place
