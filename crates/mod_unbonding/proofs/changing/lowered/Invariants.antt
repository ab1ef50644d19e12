use Rattle.std.proofs.Common.{◌≡◌, ◌++◌, cond, drop}
use Rattle.rule_modules.specs.Unbondings.{lowered}
use Rattle.mod_unbonding.proofs.changing.lowered.Given as goal

abbrev pub invariant-loop-entry : goal.invariant-loop-entry
invariant-loop-entry l =
    l.list.items ++ cond l.is_found (drop l.entry-index l.entries) (lowered l.created l.now l.amount (drop l.entry-index l.entries)) ≡ lowered l.created l.now l.amount l.entries
