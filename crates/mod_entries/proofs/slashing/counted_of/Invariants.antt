use Rattle.std.proofs.Common.{◌≡◌, ◌+◌, ◌*◌, ◌^◌, ◌≤◌, drop, map}
use Rattle.rule_modules.specs.EntrySlashes.{counted_of}
use Rattle.mod_entries.proofs.slashing.counted_of.Given as goal

abbrev pub invariant-loop-entry : goal.invariant-loop-entry
invariant-loop-entry g l = record {
  told : l.sum + counted_of l.infraction l.factor l.now (map g.E.Entry.made (drop l.entry-index l.entries)) ≡ counted_of l.infraction l.factor l.now (map g.E.Entry.made l.entries);
  few : l.sum ≤ 10 ^ 18 * l.entry-index;
}
