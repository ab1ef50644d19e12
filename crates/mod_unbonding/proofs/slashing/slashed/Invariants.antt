use Rattle.std.proofs.Common.{◌≡◌, ◌++◌, drop, map}
use Rattle.rule_modules.specs.EntrySlashes.{entry_slashed}
use Rattle.mod_unbonding.proofs.slashing.slashed.Given as goal

abbrev pub invariant-loop-entry : goal.invariant-loop-entry
invariant-loop-entry l = l.list.items ++ map (entry_slashed l.infraction l.factor l.now) (drop l.entry-index l.entries) ≡ map (entry_slashed l.infraction l.factor l.now) l.entries
