use Rattle.std.proofs.Common.{◌≡◌, drop}
use Rattle.base_roles.specs.declared.entities.UnbondingEntry.{UnbondingEntry}
use Rattle.store_soundness.specs.Tally.{summed}
use Rattle.store_soundness.proofs.stakes.with_entries.Given as goal

abbrev pub invariant-loop-entry : goal.invariant-loop-entry
invariant-loop-entry l = summed (λ (e : UnbondingEntry). e.balance) (drop l.entry-index l.entries) l.sum ≡ summed (λ (e : UnbondingEntry). e.balance) l.entries l.fn.total
