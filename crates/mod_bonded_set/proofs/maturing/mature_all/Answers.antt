use Rattle.std.proofs.Common.{◌≡◌, ◌∙◌, ◌+◌, [], drop, ap, sym, subst, arith, rules, Err, IfErr}
use Rattle.std.{proofs.lemmas.List.drop_all, specs.Map.values_of}
use Rattle.base_roles.specs.declared.faults.HookFault.TheVariants as hook
use Rattle.base_roles.specs.{Ground.seen, Flow.each, Staked.validator_at}
use Rattle.rule_modules.{specs.{Answers.Leaves, BondedSet.matured}, proofs.OperatorLemmas.values_own}
use Rattle.mod_staking.specs.Calls.{behind_log}
use Rattle.mod_bonded_set.specs.{Calls.AllStays, Sets.is_due}
use Rattle.mod_bonded_set.proofs.LoopLemmas.{next_of, fine, stays-none, stays-of, stays-then}
use Rattle.mod_bonded_set.proofs.MatureLemmas.{matured-first, matured-stopped, matured-all, next-due, matured-more, others-stand}
use Rattle.mod_bonded_set.proofs.{StakeLemmas.{sound_ascend, sound_keyed}, StandLemmas.all_stand}
use Rattle.mod_bonded_set.proofs.maturing.mature_all.Goals as goal

pub loop-operator-init : goal.loop-operator-init
loop-operator-init g c =
    let s = c.args.staking.now.staked in
    let v = seen g.B.Bank.holdings c.args.g.now in
    let sound = c.requires.hooked.sound in
    record {
      maturing = record {
        rest = values_of s.validators;
        left = sym c.requires.due;
        stand = all_stand s sound 0 0;
        apart = values_own s.validators (sound_ascend s sound) (sound_keyed s sound);
        stay = λ e. e;
        matured = λ h o log. matured-first g.H.StakingHooks.tells g.met.H.StakingHooks.lawful h log s v (values_of s.validators) (g.H.StakingHooks.holds c.args.hooks.now) o;
      };
      hooked = c.requires.hooked;
      stays = stays-none g.B.Bank.marks g.B.Bank.most_steps g.H.StakingHooks.marks c.args.g.now c.args.hooks.now c.args.staking.now fine;
      within = omega arith;
      cost = λ e. omega arith;
    }

pub mature-requires : goal.mature-requires
mature-requires g c =
    let xs = c.args.due.now in
    let o = c.operator-item.result in
    let rest = drop (c.loop-operator.operator-index + 1) xs in
    let left = next_of xs c.loop-operator.operator-index o c.loop-operator-test.true c.operator-item.is in
    let h = c.loop-operator.invariant.maturing in
    let s = c.loop-operator.staking.staked in
    let time = ap (λ k. k.time) c.loop-operator.invariant.stays.undone.ctx in
    let next = next-due g.H.StakingHooks.tells.told c.args.g.now.ctx.time h.rest o rest (h.left ∙ left) in
    record {
      stands = (next.v, (ap (validator_at s) (sym next.own) ∙ (next.stands s h.stand).0, ap (λ n. is_due n next.v) time ∙ next.due));
      hooked = c.loop-operator.invariant.hooked;
    }

pub loop-operator-preserved : goal.loop-operator-preserved
loop-operator-preserved g c =
    let xs = c.args.due.now in
    let o = c.operator-item.result in
    let rest = drop (c.loop-operator.operator-index + 1) xs in
    let left = next_of xs c.loop-operator.operator-index o c.loop-operator-test.true c.operator-item.is in
    let before = c.loop-operator.invariant in
    let h = before.maturing in
    let s = c.loop-operator.staking.staked in
    let s2 = c.mature.new.staking.staked in
    let u = seen g.B.Bank.holdings c.loop-operator.g in
    let u2 = seen g.B.Bank.holdings c.mature.new.g in
    let s0 = c.args.staking.now.staked in
    let v0 = seen g.B.Bank.holdings c.args.g.now in
    let t = g.H.StakingHooks.tells in
    let lawful = g.met.H.StakingHooks.lawful in
    let holds = g.H.StakingHooks.holds c.loop-operator.hooks in
    let holds2 = g.H.StakingHooks.holds c.mature.new.hooks in
    let now = c.args.g.now.ctx.time in
    let time = ap (λ k. k.time) before.stays.undone.ctx in
    let next = next-due t.told now h.rest o rest (h.left ∙ left) in
    let found = (next.stands s h.stand).0 in
    let away = next.apart h.apart in
    let stands = ap (validator_at s) (sym next.own) ∙ found in
    let more = c.in_ok-mature.ensures.goes_on in
    let some = h.matured c.requires.hooked.stand.0 c.requires.hooked.stand.1.0 [] in
    let test = c.loop-operator-test.true in
    record {
      maturing = record {
        rest = next.later;
        left = next.left;
        stand = others-stand t lawful c.requires.hooked.stand.0 [] s0 v0 (values_of s0.validators) holds holds2 now h.rest o rest s s2 u u2 some next time before.hooked.sound found (c.in_ok-mature.ensures.told some.now some.held some.log next.v stands) away.0
            (next.stands s h.stand).1;
        apart = away.1;
        stay = λ e. (next.stays (h.stay e)).1;
        matured = λ k w log.
            let one = h.matured k w log in
            matured-more t lawful k log s0 v0 (values_of s0.validators) holds holds2 now h.rest o rest s s2 u u2 one next time before.hooked.sound found (c.in_ok-mature.ensures.told one.now one.held one.log next.v stands);
      };
      hooked = c.in_ok-mature.ensures.hooked;
      stays = stays-then g.B.Bank.marks g.B.Bank.most_steps g.H.StakingHooks.marks c.args.g.now c.loop-operator.g c.mature.new.g c.args.hooks.now c.loop-operator.hooks c.mature.new.hooks c.args.staking.now c.loop-operator.staking c.mature.new.staking fine before.stays
          (stays-of g.B.Bank.marks g.B.Bank.most_steps g.H.StakingHooks.marks c.loop-operator.g c.mature.new.g c.loop-operator.hooks c.mature.new.hooks c.loop-operator.staking c.mature.new.staking fine more);
      within = omega (arith, test);
      cost = λ e.
          let so_far = before.cost e in
          let one = c.mature.ensures.cost next.v stands (next.stays (h.stay e)).0 in
          omega (arith, so_far, one);
    }

pub returns-in_err-mature-clause-told : goal.returns-in_err-mature-clause-told
returns-in_err-mature-clause-told g c = λ k w log.
    let xs = c.args.due.now in
    let o = c.operator-item.result in
    let rest = drop (c.loop-operator.operator-index + 1) xs in
    let left = next_of xs c.loop-operator.operator-index o c.loop-operator-test.true c.operator-item.is in
    let before = c.loop-operator.invariant in
    let h = before.maturing in
    let s = c.loop-operator.staking.staked in
    let s2 = c.mature.new.staking.staked in
    let u = seen g.B.Bank.holdings c.loop-operator.g in
    let u2 = seen g.B.Bank.holdings c.mature.new.g in
    let s0 = c.args.staking.now.staked in
    let v0 = seen g.B.Bank.holdings c.args.g.now in
    let t = g.H.StakingHooks.tells in
    let holds = g.H.StakingHooks.holds c.loop-operator.hooks in
    let holds2 = g.H.StakingHooks.holds c.mature.new.hooks in
    let now = c.args.g.now.ctx.time in
    let time = ap (λ k. k.time) before.stays.undone.ctx in
    let next = next-due t.told now h.rest o rest (h.left ∙ left) in
    let found = (next.stands s h.stand).0 in
    let stands = ap (validator_at s) (sym next.own) ∙ found in
    let fault = c.in_err-mature.field-0.0 in
    let given : c.from_residual.result ≡ Err fault = search rules in
    let one = h.matured k w log in
    subst (Leaves (each (matured t.told) (values_of s0.validators) (behind_log log s0 k v0)) s2 holds2 u2) (sym given)
    (matured-stopped t g.met.H.StakingHooks.lawful k log s0 v0 (values_of s0.validators) holds holds2 now h.rest o rest s s2 u u2 one next time before.hooked.sound found fault (c.in_err-mature.ensures.told one.now one.held one.log next.v stands))

pub returns-in_err-mature-clause-sure : goal.returns-in_err-mature-clause-sure
returns-in_err-mature-clause-sure g c = λ k w stand sure.
    let fault = c.in_err-mature.field-0.0 in
    let given : c.from_residual.result ≡ Err fault = search rules in
    let one = c.loop-operator.invariant.maturing.matured k w [] in
    subst (λ r. IfErr r (λ f. f ≡ hook.NoMemory)) (sym given) (c.in_err-mature.ensures.sure one.now one.held (one.stand stand) (one.sure ∙ sure))

pub returns-in_err-mature-clause-stays : goal.returns-in_err-mature-clause-stays
returns-in_err-mature-clause-stays g c =
    let fault = c.in_err-mature.field-0.0 in
    let given : c.from_residual.result ≡ Err fault = search rules in
    subst (AllStays g.B.Bank.marks g.B.Bank.most_steps g.H.StakingHooks.marks c.args.g.now c.mature.new.g c.args.hooks.now c.mature.new.hooks c.args.staking.now c.mature.new.staking) (sym given)
    (stays-then g.B.Bank.marks g.B.Bank.most_steps g.H.StakingHooks.marks c.args.g.now c.loop-operator.g c.mature.new.g c.args.hooks.now c.loop-operator.hooks c.mature.new.hooks c.args.staking.now c.loop-operator.staking c.mature.new.staking (Err fault) c.loop-operator.invariant.stays
    (stays-of g.B.Bank.marks g.B.Bank.most_steps g.H.StakingHooks.marks c.loop-operator.g c.mature.new.g c.loop-operator.hooks c.mature.new.hooks c.loop-operator.staking c.mature.new.staking (Err fault) c.in_err-mature.ensures.goes_on))

pub returns-clause-told : goal.returns-clause-told
returns-clause-told g c = λ k w log.
    let h = c.loop-operator.invariant.maturing in
    let s0 = c.args.staking.now.staked in
    let none = drop_all c.loop-operator.operator-index c.args.due.now c.loop-operator-test.false in
    matured-all g.H.StakingHooks.tells g.met.H.StakingHooks.lawful k log s0 (seen g.B.Bank.holdings c.args.g.now) (values_of s0.validators) (g.H.StakingHooks.holds c.loop-operator.hooks) c.args.g.now.ctx.time h.rest c.loop-operator.staking.staked
    (seen g.B.Bank.holdings c.loop-operator.g) (h.matured k w log) (h.left ∙ none) (ap (λ x. x.time) c.loop-operator.invariant.stays.undone.ctx)

pub returns-clause-keeps : goal.returns-clause-keeps
returns-clause-keeps g c = λ k w stand. (c.loop-operator.invariant.maturing.matured k w []).keeps stand

pub returns-in_err-mature-clause-cost : goal.returns-in_err-mature-clause-cost
returns-in_err-mature-clause-cost g c = λ e.
    let xs = c.args.due.now in
    let o = c.operator-item.result in
    let rest = drop (c.loop-operator.operator-index + 1) xs in
    let left = next_of xs c.loop-operator.operator-index o c.loop-operator-test.true c.operator-item.is in
    let before = c.loop-operator.invariant in
    let h = before.maturing in
    let s = c.loop-operator.staking.staked in
    let next = next-due g.H.StakingHooks.tells.told c.args.g.now.ctx.time h.rest o rest (h.left ∙ left) in
    let stands = ap (validator_at s) (sym next.own) ∙ (next.stands s h.stand).0 in
    let so_far = before.cost e in
    let one = c.mature.ensures.cost next.v stands (next.stays (h.stay e)).0 in
    let test = c.loop-operator-test.true in
    omega (arith, so_far, one, test)

pub returns-clause-cost : goal.returns-clause-cost
returns-clause-cost g c = λ e.
    let so_far = c.loop-operator.invariant.cost e in
    let all = c.loop-operator.invariant.within in
    omega (arith, so_far, all)
