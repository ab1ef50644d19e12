use Rattle.std.proofs.Common.{sym, subst, ◌∙◌}
use Rattle.base_lists.proofs.RepeatLemmas.{HeldSoFar, held_first, held_all, all_held}
use Rattle.base_lists.proofs.repeats.are_among.Goals as goal

pub loop-other-init : goal.loop-other-init
loop-other-init g c = subst (λ k. HeldSoFar g.K.Ord.cmp c.args.others.now 0 k) (sym c.new-there.ensures.empty) (held_first g.K.Ord.cmp g.met.K.Ord.total c.args.others.now)

pub returns : goal.returns
returns g c = c.has_all.ensures ∙ all_held g.K.Ord.cmp g.met.K.Ord.total c.args.keys.now c.loop-other.there.keys c.args.others.now
    (held_all g.K.Ord.cmp g.met.K.Ord.total c.args.others.now c.loop-other.other-index c.loop-other.there.keys c.loop-other.auto.other-index-end c.loop-other-test.false c.loop-other.invariant)
