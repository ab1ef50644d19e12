use Rattle.std.proofs.Common.{◌≡◌, drop, find}
use Rattle.rule_modules.specs.Unbondings.{can_be_cancelled}
use Rattle.mod_unbonding.proofs.changing.first_open.Given as goal

abbrev pub invariant-loop-entry : goal.invariant-loop-entry
invariant-loop-entry l = find (can_be_cancelled l.created l.now) (drop l.entry-index l.entries) ≡ find (can_be_cancelled l.created l.now) l.entries
