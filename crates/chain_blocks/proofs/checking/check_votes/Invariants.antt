use Rattle.chain_blocks.proofs.CheckLemmas.{VotesSoFar}
use Rattle.chain_blocks.proofs.checking.check_votes.Given as goal

abbrev pub invariant-loop-place : goal.invariant-loop-place
invariant-loop-place g l = VotesSoFar l.stakes.staking.staked l.reduction l.votes l.place l.seen.keys l.power
