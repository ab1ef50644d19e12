use Rattle.std.proofs.Common.{◌≡◌}
use Rattle.store_soundness.specs.Accounts.{outstanding_totals}
use Rattle.store_soundness.proofs.rewards.add_outstanding.Given as goal

abbrev pub invariant-loop-purse : goal.invariant-loop-purse
invariant-loop-purse l = outstanding_totals l.purse-iterator l.owed.entries ≡ outstanding_totals l.purses.entries l.fn.owed.entries
