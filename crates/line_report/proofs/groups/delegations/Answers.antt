use Rattle.std.proofs.Common.{sym}
use Rattle.base_roles.specs.Orders.{pair_cmp}
use Rattle.line_report.{specs.Telling.delegation_in, proofs.OrderLemmas.{told_none, told_some}}
use Rattle.line_report.proofs.groups.delegations.Goals.{in-Some+in_ok-put, in_default}
use Rattle.line_report.proofs.groups.delegations.Goals as goal

pub loop-item-preserved : goal.loop-item-preserved
loop-item-preserved c =
    elim c.match-delegation_in.branch [
      | in-Some+in_ok-put w ↦ rw w.found-is (told_some pair_cmp (delegation_in c.args.asked) c.args.items.now c.loop-item.item-index c.item-item.result c.loop-item.found.entries w.put.new.found.entries w.in-Some.told _ c.loop-item-test.true c.item-item.is (sym w.in-Some.ensures) w.in_ok-put.ensures.ok c.loop-item.invariant)
      | in_default w ↦ rw w.found-is (told_none pair_cmp (delegation_in c.args.asked) c.args.items.now c.loop-item.item-index c.item-item.result c.loop-item.found.entries _ c.loop-item-test.true c.item-item.is (sym w.in_default.ensures) c.loop-item.invariant)
    ]
