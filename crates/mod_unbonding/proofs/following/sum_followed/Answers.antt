use Rattle.std.proofs.Common.{◌∙◌}
use Rattle.mod_unbonding.proofs.FollowedLemmas.{sum-step, sum-end}
use Rattle.mod_unbonding.proofs.following.sum_followed.Goals as goal

pub loop-entry-preserved : goal.loop-entry-preserved
loop-entry-preserved c =
    let h = c.loop-entry.invariant in
    let next = sum-step c.args.from c.args.now c.args.entries.now c.loop-entry.entry-index c.entry-item.result c.loop-entry-test.true c.entry-item.is c.args.tokens c.loop-entry.left _ c.part_followed-lost.result _ c.part_followed-lost.ensures c.saturating_sub-left.ensures h.within h.told in
    record { told = next.0; within = next.1 }

pub returns : goal.returns
returns c =
    let h = c.loop-entry.invariant in
    c.saturating_sub.ensures ∙ sum-end c.args.from c.args.now c.args.entries.now c.loop-entry.entry-index c.loop-entry-test.false c.args.tokens c.loop-entry.left _ h.told
