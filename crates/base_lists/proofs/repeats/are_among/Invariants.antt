use Rattle.base_lists.proofs.RepeatLemmas.{HeldSoFar}
use Rattle.base_lists.proofs.repeats.are_among.Given as goal

abbrev pub invariant-loop-other : goal.invariant-loop-other
invariant-loop-other g l = HeldSoFar g.K.Ord.cmp l.others l.other-index l.there.keys
