use Rattle.std.proofs.Common.{◌≡◌, []}
use Rattle.store_soundness.specs.Shares.{share_totals}
use Rattle.store_soundness.proofs.shares.totals_of.Given as goal

abbrev pub invariant-loop-who : goal.invariant-loop-who
invariant-loop-who l = share_totals l.who-iterator l.totals.entries ≡ share_totals l.delegations.entries []
