use Rattle.std.proofs.Common.{sym}
use Rattle.base_roles.specs.Orders.{pair_cmp}
use Rattle.line_report.{specs.{Seen.seen, Telling.pending_in}, proofs.OrderLemmas.{told_lent, told_none}}
use Rattle.line_report.proofs.groups.pending_rewards.Goals.{in-Some+in_ok-put, in_default}
use Rattle.line_report.proofs.groups.pending_rewards.Goals as goal

pub loop-reward-preserved : goal.loop-reward-preserved
loop-reward-preserved c =
    elim c.match-pending_in.branch [
      | in-Some+in_ok-put w ↦ rw w.found-is (told_lent pair_cmp (pending_in c.args.asked) c.args.pending.now c.loop-reward.reward-index c.reward-item.result c.loop-reward.found.entries w.put.new.found.entries w.in-Some.told _ c.loop-reward-test.true c.reward-item.is (sym w.in-Some.ensures) w.in_ok-put.ensures.ok c.loop-reward.invariant)
      | in_default w ↦ rw w.found-is (told_none pair_cmp (pending_in c.args.asked) c.args.pending.now c.loop-reward.reward-index c.reward-item.result (seen c.loop-reward.found.entries) _ c.loop-reward-test.true c.reward-item.is (sym w.in_default.ensures) c.loop-reward.invariant)
    ]
