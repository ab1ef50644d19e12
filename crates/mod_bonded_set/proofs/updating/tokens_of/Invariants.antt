use Rattle.std.proofs.Common.{◌≡◌, ◌+◌, ◌*◌, ◌^◌, ◌≤◌, drop}
use Rattle.std.specs.List.{AllByRecursion}
use Rattle.rule_modules.specs.BondedSet.{tokens_of}
use Rattle.mod_bonded_set.proofs.updating.tokens_of.Given as goal

abbrev pub invariant-loop-v : goal.invariant-loop-v
invariant-loop-v l = record {
  sum : l.total + tokens_of (drop l.v-index l.validators) ≡ tokens_of l.validators;
  few : l.total ≤ l.v-index * 10 ^ 18;
  small : AllByRecursion (λ v. v.tokens ≤ 10 ^ 18) (drop l.v-index l.validators);
}
