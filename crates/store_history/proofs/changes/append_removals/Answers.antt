use Rattle.std.proofs.Common.{◌∙◌, ◌+◌, ◌++◌, List, ap, drop, map, sym}
use Rattle.base_io.specs.{declared.keeper.Change.Change, Changes.pair_of}
use Rattle.store_history.{specs.Commits.{removal, seen}, proofs.ListLemmas.{removal_end, removal_next}}
use Rattle.store_history.proofs.changes.append_removals.Goals as goal

pub loop-row-preserved : goal.loop-row-preserved
loop-row-preserved c =
    ap (λ (cs : List Change). map seen cs ++ map removal (map pair_of (drop (c.loop-row.row-index + 1) c.args.rows.now))) c.in_ok-push.ensures.items
    ∙ removal_next c.loop-row.out.items c.in_ok-it.it c.args.rows.now c.loop-row.row-index c.row-item.result c.loop-row-test.true c.row-item.is c.in_ok-it.ensures
    ∙ c.loop-row.invariant

pub returns : goal.returns
returns c = sym (removal_end c.loop-row.out.items c.args.rows.now c.loop-row.row-index c.loop-row-test.false) ∙ c.loop-row.invariant
