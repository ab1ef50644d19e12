use Rattle.std.proofs.Common.{◌≡◌, ◌++◌, drop}
use Rattle.mod_entries.specs.Lists.{unmatured}
use Rattle.mod_entries.proofs.due.unmatured.Given as goal

abbrev pub invariant-loop-entry : goal.invariant-loop-entry
invariant-loop-entry g l = l.list.items ++ unmatured g.E.Entry.made l.now (drop l.entry-index l.entries) ≡ unmatured g.E.Entry.made l.now l.entries
