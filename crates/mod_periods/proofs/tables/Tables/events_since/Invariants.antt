use Rattle.std.proofs.Common.{◌≡◌, ◌≤◌, ◌+◌, ◌++◌, length, is_some, option_map, if◌then◌else◌}
use Rattle.base_table.specs.Tabled.{first_of}
use Rattle.mod_periods.{specs.{Earning.events_since, Kept.events_of}, proofs.EventLemmas.Slashes}
use Rattle.mod_periods.proofs.SinceLemmas.{IsRest, own_events, ahead}
use Rattle.mod_periods.proofs.tables.Tables.events_since.Given as goal

abbrev pub invariant-loop-entry : goal.invariant-loop-entry
invariant-loop-entry g l = (rest : Slashes) × record {
  walk : IsRest l.self-inside.events.entries l.operator rest;
  entry : option_map (λ e. (e.0.now, e.1.now)) l.entry ≡ first_of rest;
  listed : l.events.items ++ own_events l.operator rest ≡ events_since l.height (events_of l.self.kept l.operator);
  cost : l.steps ≤ l.fn.steps + (length l.events.items + (if is_some l.entry then 1 else 0));
}

abbrev pub decreases-loop-entry : goal.decreases-loop-entry
decreases-loop-entry g l = ahead l.self-inside.events.entries (option_map (λ e. (e.0.now, e.1.now)) l.entry)
