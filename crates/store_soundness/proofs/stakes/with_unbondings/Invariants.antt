use Rattle.std.proofs.Common.{◌≡◌}
use Rattle.store_soundness.specs.Accounts.{with_unbondings}
use Rattle.store_soundness.proofs.stakes.with_unbondings.Given as goal

abbrev pub invariant-loop-entries : goal.invariant-loop-entries
invariant-loop-entries l = with_unbondings l.entries-iterator l.sum ≡ with_unbondings l.unbondings.entries l.fn.total
