use Rattle.base_lists.proofs.RepeatLemmas.{SeenSoFar}
use Rattle.base_lists.proofs.repeats.has_repeat.Given as goal

abbrev pub invariant-loop-key : goal.invariant-loop-key
invariant-loop-key g l = SeenSoFar g.K.Ord.cmp l.keys l.key-index l.seen.keys
