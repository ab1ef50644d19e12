use Rattle.std.proofs.Common.{◌≤◌, ◌+◌, length, drop, ℕ}
use Rattle.mod_periods.{specs.Earning.CanEarn, proofs.EarnLemmas.IsEarning}
use Rattle.mod_periods.proofs.tables.Tables.earned.Given as goal

abbrev pub invariant-loop-event : goal.invariant-loop-event
invariant-loop-event g l = record {
  earning : (ending : ℕ) → CanEarn l.self.kept l.operator l.info ending l.ratio
      → (period : ℕ) × IsEarning l.self.kept l.operator l.info ending l.ratio l.value (drop l.event-index l.event-items) l.begin l.stake l.total period;
  cost : l.steps ≤ l.fn.steps + (length l.event-items + 2 + l.event-index);
}
