use Rattle.std.proofs.Common.{sym}
use Rattle.base_types.specs.Orders.{denom_cmp}
use Rattle.line_report.{specs.Telling.supply_in, proofs.OrderLemmas.{told_none, told_some}}
use Rattle.line_report.proofs.groups.supplies.Goals.{in-Some+in_ok-put, in_default}
use Rattle.line_report.proofs.groups.supplies.Goals as goal

pub loop-item-preserved : goal.loop-item-preserved
loop-item-preserved c =
    elim c.match-supply_in.branch [
      | in-Some+in_ok-put w ↦ rw w.found-is (told_some denom_cmp supply_in c.args.items.now c.loop-item.item-index c.item-item.result c.loop-item.found.entries w.put.new.found.entries w.in-Some.told _ c.loop-item-test.true c.item-item.is (sym w.in-Some.ensures) w.in_ok-put.ensures.ok c.loop-item.invariant)
      | in_default w ↦ rw w.found-is (told_none denom_cmp supply_in c.args.items.now c.loop-item.item-index c.item-item.result c.loop-item.found.entries _ c.loop-item-test.true c.item-item.is (sym w.in_default.ensures) c.loop-item.invariant)
    ]
