use Rattle.std.proofs.Common.{◌≡◌, ◌++◌, false, replicate}
use Rattle.store_rows.proofs.missed.push_signed.Given as goal

abbrev pub invariant-loop : goal.invariant-loop
invariant-loop l = l.ring.items ≡ l.fn.ring.items ++ replicate l.counter false
