use Rattle.std.proofs.Common.{◌≡◌}
use Rattle.store_soundness.specs.Histories.{event_totals}
use Rattle.store_soundness.proofs.histories.add_events.Given as goal

abbrev pub invariant-loop-key : goal.invariant-loop-key
invariant-loop-key l = event_totals l.key-iterator l.counts.entries ≡ event_totals l.events.entries l.fn.counts.entries
