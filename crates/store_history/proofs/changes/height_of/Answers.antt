use Rattle.std.proofs.Common.{◌∙◌, sym}
use Rattle.store_history.proofs.ListLemmas.{head_here, head_later, head_nowhere}
use Rattle.store_history.proofs.changes.height_of.Goals as goal

pub returns-then-is_of_head : goal.returns-then-is_of_head
returns-then-is_of_head c =
    c.named_by.ensures
    ∙ sym (head_here c.args.changes.now c.loop-change.change-index c.change-item.result c.loop-change-test.true c.change-item.is (sym c.is_of_head.ensures ∙ c.if-is_of_head.true))
    ∙ c.loop-change.invariant

pub loop-change-preserved : goal.loop-change-preserved
loop-change-preserved c =
    sym (head_later c.args.changes.now c.loop-change.change-index c.change-item.result c.loop-change-test.true c.change-item.is (sym c.is_of_head.ensures ∙ c.if-is_of_head.false))
    ∙ c.loop-change.invariant

pub returns : goal.returns
returns c = sym (head_nowhere c.args.changes.now c.loop-change.change-index c.loop-change-test.false) ∙ c.loop-change.invariant
