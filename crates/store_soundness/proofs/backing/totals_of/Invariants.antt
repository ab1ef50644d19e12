use Rattle.std.proofs.Common.{◌≡◌, []}
use Rattle.store_soundness.specs.Ranges.{balance_totals}
use Rattle.store_soundness.proofs.backing.totals_of.Given as goal

abbrev pub invariant-loop-place : goal.invariant-loop-place
invariant-loop-place l = balance_totals l.place-iterator l.totals.entries ≡ balance_totals l.balances.entries []
