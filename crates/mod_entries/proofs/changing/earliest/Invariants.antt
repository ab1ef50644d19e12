use Rattle.std.proofs.Common.{◌≡◌, drop}
use Rattle.mod_entries.specs.Queue.{earliest, earliest_from}
use Rattle.mod_entries.proofs.changing.earliest.Given as goal

abbrev pub invariant-loop-entry : goal.invariant-loop-entry
invariant-loop-entry g l = earliest_from g.E.Entry.made l.first (drop l.entry-index l.entries) ≡ earliest g.E.Entry.made l.entries
