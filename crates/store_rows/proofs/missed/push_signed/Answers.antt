use Rattle.std.proofs.Common.{sym, append-nil}
use Rattle.store_rows.proofs.MissedLemmas.{one_signed}
use Rattle.store_rows.proofs.missed.push_signed.Goals as goal

pub loop-init : goal.loop-init
loop-init c = sym (append-nil c.args.ring.now.items)

pub loop-preserved : goal.loop-preserved
loop-preserved c = one_signed c.args.ring.now.items c.loop.ring.items c.push.new.self.items c.loop.counter c.loop.invariant c.in_ok-push.ensures.items
