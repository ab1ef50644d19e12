use Rattle.std.proofs.Common.{◌∙◌, ◌+◌, ◌++◌, List, ap, drop, map, sym}
use Rattle.base_io.specs.declared.keeper.Change.{Change}
use Rattle.store_history.{specs.Commits.seen, proofs.ListLemmas.{copy_end, copy_next}}
use Rattle.store_history.proofs.changes.append_copies.Goals as goal

pub loop-change-preserved : goal.loop-change-preserved
loop-change-preserved c =
    ap (λ (cs : List Change). map seen cs ++ map seen (drop (c.loop-change.change-index + 1) c.args.changes.now)) c.in_ok-push.ensures.items
    ∙ copy_next c.loop-change.out.items c.in_ok-copy.copy c.args.changes.now c.loop-change.change-index c.change-item.result c.loop-change-test.true c.change-item.is c.in_ok-copy.ensures
    ∙ c.loop-change.invariant

pub returns : goal.returns
returns c = sym (copy_end c.loop-change.out.items c.args.changes.now c.loop-change.change-index c.loop-change-test.false) ∙ c.loop-change.invariant
