use Rattle.std.proofs.Common.{◌≡◌, ◌++◌, drop}
use Rattle.rule_modules.specs.EntrySlashes.{entries_followed}
use Rattle.mod_unbonding.proofs.following.followed.Given as goal

abbrev pub invariant-loop-entry : goal.invariant-loop-entry
invariant-loop-entry l = l.list.items ++ (entries_followed l.from l.now l.left (drop l.entry-index l.entries)).1 ≡ (entries_followed l.from l.now l.tokens l.entries).1
