use Rattle.std.proofs.Common.{sym}
use Rattle.base_types.specs.Orders.{addr_cmp}
use Rattle.mod_tally.{specs.Counting.poll_in, proofs.Told.{next_put, next_skipped}}
use Rattle.mod_tally.proofs.polls.polls_in.Goals.{in-Some+in_ok-insert, in_default}
use Rattle.mod_tally.proofs.polls.polls_in.Goals as goal

pub loop-item-preserved : goal.loop-item-preserved
loop-item-preserved c =
    elim c.match-poll_in.branch [
      | in-Some+in_ok-insert w ↦ rw w.polls-is (next_put addr_cmp poll_in c.args.items.now c.loop-item.item-index c.item-item.result c.loop-item.polls.entries w.insert.new.self.entries _ w.in-Some.told (record { within = c.loop-item-test.true; is = c.item-item.is }) (sym w.in-Some.ensures) w.in_ok-insert.ensures.entries c.loop-item.invariant)
      | in_default w ↦ rw w.polls-is (next_skipped addr_cmp poll_in c.args.items.now c.loop-item.item-index c.item-item.result c.loop-item.polls.entries _ (record { within = c.loop-item-test.true; is = c.item-item.is }) (sym w.in_default.ensures) c.loop-item.invariant)
    ]
