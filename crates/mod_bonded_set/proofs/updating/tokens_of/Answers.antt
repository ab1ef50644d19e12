use Rattle.std.proofs.Common.{◌∙◌, ◌+◌, ◌^◌, ◌≤◌, drop, ap, subst, arith}
use Rattle.std.{specs.List.AllByRecursion, proofs.lemmas.List.drop_all}
use Rattle.rule_modules.specs.BondedSet.{tokens_of}
use Rattle.base_roles.specs.declared.entities.Validator.{Validator}
use Rattle.mod_bonded_set.proofs.{LoopLemmas.next_of, TokenLemmas.total}
use Rattle.mod_bonded_set.proofs.updating.tokens_of.Goals as goal

pub overflow_add-total : goal.overflow_add-total
overflow_add-total c =
    let x = c.v-item.result in
    let left = next_of c.args.validators.now c.loop-v.v-index x c.loop-v-test.true c.v-item.is in
    let small = (subst (AllByRecursion (λ (v : Validator). v.tokens ≤ 10 ^ 18)) left c.loop-v.invariant.small).0 in
    let few = c.loop-v.invariant.few in
    omega (arith, small, few)

pub loop-v-preserved : goal.loop-v-preserved
loop-v-preserved c =
    let x = c.v-item.result in
    let rest = drop (c.loop-v.v-index + 1) c.args.validators.now in
    let left = next_of c.args.validators.now c.loop-v.v-index x c.loop-v-test.true c.v-item.is in
    let all = subst (AllByRecursion (λ (v : Validator). v.tokens ≤ 10 ^ 18)) left c.loop-v.invariant.small in
    let small = all.0 in
    let few = c.loop-v.invariant.few in
    let sum = c.loop-v.invariant.sum in
    let next = ap tokens_of left ∙ total x rest in
    record {
      sum = omega (arith, sum, next);
      few = omega (arith, small, few);
      small = all.1;
    }

pub returns : goal.returns
returns c =
    let sum = c.loop-v.invariant.sum in
    let none = ap tokens_of (drop_all c.loop-v.v-index c.args.validators.now c.loop-v-test.false) in
    omega (arith, sum, none)
