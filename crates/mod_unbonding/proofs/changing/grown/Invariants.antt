use Rattle.std.proofs.Common.{◌≡◌, ◌++◌, cond, drop}
use Rattle.rule_modules.specs.Unbondings.{grown}
use Rattle.mod_unbonding.proofs.changing.grown.Given as goal

abbrev pub invariant-loop-entry : goal.invariant-loop-entry
invariant-loop-entry l =
    l.list.items ++ cond l.is_added (drop l.entry-index l.entries) (grown l.height l.completes l.amount (drop l.entry-index l.entries)) ≡ grown l.height l.completes l.amount l.entries
