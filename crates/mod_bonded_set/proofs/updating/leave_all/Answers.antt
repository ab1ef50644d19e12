use Rattle.std.proofs.Common.{◌≡◌, ◌∙◌, ◌+◌, drop, refl, ap, sym, subst, arith, rules, Err}
use Rattle.std.proofs.lemmas.List.{drop_all}
use Rattle.base_types.specs.declared.status.BondStatus.TheVariants.{Unbonding}
use Rattle.base_roles.specs.{declared.entities.Validator.Validator, Ground.{seen, IsInOrder}, Staked.put_validator}
use Rattle.rule_modules.specs.{Unbondings.completion, BondedSet.HaveOwnOperators}
use Rattle.mod_bonded_set.specs.{Calls.RegisterStays, Sets.{AllStand, all_left, all_leavings_noted}}
use Rattle.mod_bonded_set.proofs.LoopLemmas.{next_of, fine, register-none, register-of, register-then, undone-none, undone-then}
use Rattle.mod_bonded_set.proofs.TokenLemmas.{still_stand}
use Rattle.mod_bonded_set.proofs.updating.leave_all.Goals as goal

pub loop-v-init : goal.loop-v-init
loop-v-init g c = record {
  within = omega arith;
  staked = refl;
  ground = refl;
  stand = c.requires.stand;
  apart = c.requires.apart;
  sound = c.requires.sound;
  in_order = c.requires.in_order;
  undone = undone-none g.B.Bank.marks c.args.g.now;
  bank = refl;
  register = register-none c.args.staking.now fine;
  cost = omega arith;
}

pub leave-requires : goal.leave-requires
leave-requires g c =
    let left = next_of c.args.leaving.now c.loop-v.v-index c.v-item.result c.loop-v-test.true c.v-item.is in
    record {
      stands = (subst (AllStand c.loop-v.staking.staked) left c.loop-v.invariant.stand).0;
      sound = c.loop-v.invariant.sound;
      in_order = c.loop-v.invariant.in_order;
    }

pub loop-v-preserved : goal.loop-v-preserved
loop-v-preserved g c =
    let xs = c.args.leaving.now in
    let x = c.v-item.result in
    let rest = drop (c.loop-v.v-index + 1) xs in
    let left = next_of xs c.loop-v.v-index x c.loop-v-test.true c.v-item.is in
    let before = c.loop-v.invariant in
    let s = c.loop-v.staking.staked in
    let ctx0 = c.args.g.now.ctx in
    let w : Validator = record x { status = Unbonding; unbonding_height = ctx0.height; unbonding_time = completion ctx0 } in
    let own : Validator = record x { status = Unbonding; unbonding_height = c.loop-v.g.ctx.height; unbonding_time = completion c.loop-v.g.ctx } in
    let same : own ≡ w = ap (λ k. record x { status = Unbonding; unbonding_height = k.height; unbonding_time = completion k }) before.undone.ctx in
    let stand = subst (AllStand s) left before.stand in
    let apart = subst HaveOwnOperators left before.apart in
    let put = c.in_ok-leave.ensures.staked ∙ ap (λ y. put_validator y s) same in
    let more = c.in_ok-leave.ensures in
    let old = before.in_order in
    let cost = before.cost in
    let turn = c.leave.ensures.cost in
    let test = c.loop-v-test.true in
    record {
      within = omega (arith, test);
      staked = ap (all_left ctx0.height (completion ctx0) rest) put ∙ ap (λ l. all_left ctx0.height (completion ctx0) l s) (sym left) ∙ before.staked;
      ground = ap (all_leavings_noted rest) c.in_ok-leave.ensures.ground ∙ ap (λ l. all_leavings_noted l (seen g.B.Bank.holdings c.loop-v.g)) (sym left) ∙ before.ground;
      stand = subst (λ y. AllStand y rest) (sym put) (still_stand w s rest apart.0 stand.1);
      apart = apart.1;
      sound = c.in_ok-leave.ensures.sound;
      in_order = subst IsInOrder (sym c.in_ok-leave.ensures.ground) (record { params = old.params; time = old.time; height = old.height; bank = old.bank });
      undone = undone-then g.B.Bank.marks c.args.g.now c.loop-v.g c.leave.new.g before.undone more.undone;
      bank = more.bank ∙ before.bank;
      register = register-then c.args.staking.now c.loop-v.staking c.leave.new.staking fine before.register (register-of more.register);
      cost = omega (arith, cost, turn);
    }

pub returns-in_err-leave-clause-undone : goal.returns-in_err-leave-clause-undone
returns-in_err-leave-clause-undone g c = undone-then g.B.Bank.marks c.args.g.now c.loop-v.g c.leave.new.g c.loop-v.invariant.undone c.leave.ensures.undone

pub returns-clause-staked : goal.returns-clause-staked
returns-clause-staked g c = ap (λ l. all_left c.args.g.now.ctx.height (completion c.args.g.now.ctx) l c.loop-v.staking.staked) (sym (drop_all c.loop-v.v-index c.args.leaving.now c.loop-v-test.false)) ∙ c.loop-v.invariant.staked

pub returns-clause-ground : goal.returns-clause-ground
returns-clause-ground g c = ap (λ l. all_leavings_noted l (seen g.B.Bank.holdings c.loop-v.g)) (sym (drop_all c.loop-v.v-index c.args.leaving.now c.loop-v-test.false)) ∙ c.loop-v.invariant.ground

pub returns-in_err-leave-clause-register : goal.returns-in_err-leave-clause-register
returns-in_err-leave-clause-register g c =
    let fault = c.in_err-leave.field-0.0 in
    let given : c.from_residual.result ≡ Err fault = search rules in
    subst (RegisterStays c.args.staking.now c.leave.new.staking) (sym given)
    (register-then c.args.staking.now c.loop-v.staking c.leave.new.staking (Err fault) c.loop-v.invariant.register (register-of c.in_err-leave.ensures.register))
