use Rattle.std.proofs.Common.{sym, subst, ◌∙◌}
use Rattle.base_lists.proofs.RepeatLemmas.{SeenSoFar, seen_first, seen_again, seen_next, seen_all}
use Rattle.base_lists.proofs.repeats.has_repeat.Goals as goal

pub loop-key-init : goal.loop-key-init
loop-key-init g c = subst (λ k. SeenSoFar g.K.Ord.cmp c.args.keys.now 0 k) (sym c.new-seen.ensures.empty) (seen_first g.K.Ord.cmp g.met.K.Ord.total c.args.keys.now)

pub returns-then-not-branch : goal.returns-then-not-branch
returns-then-not-branch g c = seen_again g.K.Ord.cmp g.met.K.Ord.total c.args.keys.now _ c.key-item.result _ c.loop-key-test.true c.key-item.is c.loop-key.invariant (sym c.if-not-branch.true ∙ c.in_ok-add_key.ensures.new)

pub loop-key-preserved : goal.loop-key-preserved
loop-key-preserved g c = seen_next g.K.Ord.cmp g.met.K.Ord.total c.args.keys.now _ c.key-item.result _ _ c.loop-key-test.true c.key-item.is c.loop-key.invariant (sym c.if-not-branch.false ∙ c.in_ok-add_key.ensures.new) (c.in_ok-add_key.ensures.added c.if-not-branch.false)

pub returns : goal.returns
returns g c = seen_all g.K.Ord.cmp g.met.K.Ord.total c.args.keys.now _ _ c.loop-key.auto.key-index-end c.loop-key-test.false c.loop-key.invariant
