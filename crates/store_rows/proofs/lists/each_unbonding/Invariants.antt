use Rattle.std.proofs.Common.{◌≡◌, ◌-◌}
use Rattle.store_rows.specs.Reading.{unbonding_at, each_at, with_front}
use Rattle.store_rows.proofs.lists.each_unbonding.Given as goal

abbrev pub invariant-loop : goal.invariant-loop
invariant-loop l = with_front l.entries.items (each_at unbonding_at (l.count - l.counter) l.bytes.left.now) ≡ each_at unbonding_at l.count l.fn.bytes.left.now
