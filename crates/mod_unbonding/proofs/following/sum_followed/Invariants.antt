use Rattle.std.proofs.Common.{◌≡◌, ◌+◌, ◌≤◌, drop, ◌-◌}
use Rattle.rule_modules.specs.EntrySlashes.{entries_followed}
use Rattle.mod_unbonding.proofs.following.sum_followed.Given as goal

abbrev pub invariant-loop-entry : goal.invariant-loop-entry
invariant-loop-entry l = record {
  told : (entries_followed l.from l.now l.left (drop l.entry-index l.entries)).0 + (l.tokens - l.left) ≡ (entries_followed l.from l.now l.tokens l.entries).0;
  within : l.left ≤ l.tokens;
}
