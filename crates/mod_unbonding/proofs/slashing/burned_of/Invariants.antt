use Rattle.std.proofs.Common.{◌≡◌, ◌+◌, ◌*◌, ◌^◌, ◌≤◌, drop}
use Rattle.rule_modules.specs.EntrySlashes.{burned_of}
use Rattle.mod_unbonding.proofs.slashing.burned_of.Given as goal

abbrev pub invariant-loop-entry : goal.invariant-loop-entry
invariant-loop-entry l = record {
  told : l.sum + burned_of l.infraction l.factor l.now (drop l.entry-index l.entries) ≡ burned_of l.infraction l.factor l.now l.entries;
  few : l.sum ≤ 10 ^ 18 * l.entry-index;
}
