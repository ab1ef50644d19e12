use Rattle.std.proofs.Common.{◌-◌, arith}
use Rattle.store_history.proofs.RestoreLemmas.{undone_next}
use Rattle.store_history.proofs.going_back.undo.Goals as goal

pub loop-at-preserved : goal.loop-at-preserved
loop-at-preserved c = record {
  within = omega (arith, c.loop-at.invariant.within);
  gone = λ whole.
      undone_next c.args.height c.args.rows.now (c.loop-at.at - 1) c.loop-at.at c.index-rows-at.result c.args.visible.now c.loop-at.visible c.restore.new.rows (omega (arith, c.loop-at-test.true))
      (omega (arith, c.loop-at-test.true, c.loop-at.invariant.within)) c.index-rows-at.is whole c.in_ok-restore.ensures (c.loop-at.invariant.gone whole);
}
