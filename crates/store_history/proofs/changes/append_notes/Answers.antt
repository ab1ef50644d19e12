use Rattle.std.proofs.Common.{◌∙◌, ◌+◌, ◌++◌, List, ap, drop, map, sym}
use Rattle.base_io.specs.declared.keeper.Change.{Change}
use Rattle.store_history.{specs.Commits.{note, seen}, proofs.ListLemmas.{append_end, append_next}}
use Rattle.store_history.proofs.changes.append_notes.Goals as goal

pub loop-change-preserved : goal.loop-change-preserved
loop-change-preserved c =
    let f = note c.args.height c.args.visible.now in
    ap (λ (cs : List Change). map seen cs ++ map f (map seen (drop (c.loop-change.change-index + 1) c.args.changes.now))) c.in_ok-push.ensures.items
    ∙ append_next f c.loop-change.out.items c.in_ok-it.it c.args.changes.now c.loop-change.change-index c.change-item.result c.loop-change-test.true c.change-item.is c.in_ok-it.ensures
    ∙ c.loop-change.invariant

pub returns : goal.returns
returns c =
    sym (append_end (note c.args.height c.args.visible.now) c.loop-change.out.items c.args.changes.now c.loop-change.change-index c.loop-change-test.false) ∙ c.loop-change.invariant
