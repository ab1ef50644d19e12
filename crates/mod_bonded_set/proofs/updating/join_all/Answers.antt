use Rattle.std.proofs.Common.{◌≡◌, ◌∙◌, ◌+◌, ◌≤◌, [], length, drop, refl, ap, sym, subst, arith, rules, Err, IfErr}
use Rattle.std.proofs.lemmas.List.{drop_all}
use Rattle.base_roles.specs.declared.faults.HookFault.TheVariants as hook
use Rattle.base_roles.specs.{Ground.seen, Flow.each}
use Rattle.rule_modules.specs.{Answers.Leaves, BondedSet.{HaveOwnOperators, joined_set}}
use Rattle.mod_staking.specs.Calls.{behind_log}
use Rattle.mod_bonded_set.{specs.{Calls.AllStays, Sets.{AllStand, all_joined}}, proofs.JoinLemmas.in_set}
use Rattle.mod_bonded_set.proofs.JoinedLemmas.{HasJoined, joined-first, joined-more, joined-stopped, joined-all}
use Rattle.mod_bonded_set.proofs.LoopLemmas.{next_of, fine, stays-none, stays-of, stays-then, cost_more, cost_within}
use Rattle.mod_bonded_set.proofs.TokenLemmas.{still_stand}
use Rattle.mod_bonded_set.proofs.updating.join_all.Goals as goal

pub loop-v-init : goal.loop-v-init
loop-v-init g c = record {
  within = omega arith;
  joined = λ h o log. joined-first g.H.StakingHooks.tells g.met.H.StakingHooks.lawful h log c.args.staking.now.staked (seen g.B.Bank.holdings c.args.g.now) c.args.joining.now (g.H.StakingHooks.holds c.args.hooks.now) o;
  staked = refl;
  hooked = c.requires.hooked;
  stand = c.requires.stand;
  apart = c.requires.apart;
  stays = stays-none g.B.Bank.marks g.B.Bank.most_steps g.H.StakingHooks.marks c.args.g.now c.args.hooks.now c.args.staking.now fine;
  cost = λ h o. omega arith;
}

pub join-requires : goal.join-requires
join-requires g c =
    let left = next_of c.args.joining.now c.loop-v.v-index c.v-item.result c.loop-v-test.true c.v-item.is in
    record {
      stands = (subst (AllStand c.loop-v.staking.staked) left c.loop-v.invariant.stand).0;
      hooked = c.loop-v.invariant.hooked;
    }

pub loop-v-preserved : goal.loop-v-preserved
loop-v-preserved g c =
    let xs = c.args.joining.now in
    let x = c.v-item.result in
    let rest = drop (c.loop-v.v-index + 1) xs in
    let left = next_of xs c.loop-v.v-index x c.loop-v-test.true c.v-item.is in
    let before = c.loop-v.invariant in
    let s = c.loop-v.staking.staked in
    let s2 = c.join.new.staking.staked in
    let v = seen g.B.Bank.holdings c.loop-v.g in
    let v2 = seen g.B.Bank.holdings c.join.new.g in
    let s0 = c.args.staking.now.staked in
    let v0 = seen g.B.Bank.holdings c.args.g.now in
    let t = g.H.StakingHooks.tells in
    let holds = g.H.StakingHooks.holds c.loop-v.hooks in
    let stand = subst (AllStand s) left before.stand in
    let apart = subst HaveOwnOperators left before.apart in
    let more = c.in_ok-join.ensures.goes_on in
    let test = c.loop-v-test.true in
    record {
      within = omega (arith, test);
      joined = λ h o log.
          let one = subst (λ l. HasJoined t holds h log s0 v0 xs l s v) left (before.joined h o log) in
          joined-more t g.met.H.StakingHooks.lawful h log s0 v0 xs holds (g.H.StakingHooks.holds c.join.new.hooks) x rest s s2 v v2 one stand.0 c.in_ok-join.ensures.hooked.sound (c.in_ok-join.ensures.told one.now one.held one.log);
      staked = ap (all_joined rest) c.in_ok-join.ensures.staked ∙ ap (λ l. all_joined l s) (sym left) ∙ before.staked;
      hooked = c.in_ok-join.ensures.hooked;
      stand = subst (λ y. AllStand y rest) (sym c.in_ok-join.ensures.staked) (still_stand (in_set x) s rest apart.0 stand.1);
      apart = apart.1;
      stays = stays-then g.B.Bank.marks g.B.Bank.most_steps g.H.StakingHooks.marks c.args.g.now c.loop-v.g c.join.new.g c.args.hooks.now c.loop-v.hooks c.join.new.hooks c.args.staking.now c.loop-v.staking c.join.new.staking fine before.stays
          (stays-of g.B.Bank.marks g.B.Bank.most_steps g.H.StakingHooks.marks c.loop-v.g c.join.new.g c.loop-v.hooks c.join.new.hooks c.loop-v.staking c.join.new.staking fine more);
      cost = λ h o.
          let one = before.joined h o [] in
          let turn = subst (λ n. c.join.new.steps ≤ c.loop-v.steps + 9 + n) one.most_steps (c.join.ensures.cost one.now one.held) in
          cost_more c.loop-v.v-index (t.most_steps h) c.args.steps.now c.loop-v.steps c.join.new.steps (before.cost h o) turn;
    }

pub returns-in_err-join-clause-told : goal.returns-in_err-join-clause-told
returns-in_err-join-clause-told g c = λ h o log.
    let xs = c.args.joining.now in
    let x = c.v-item.result in
    let rest = drop (c.loop-v.v-index + 1) xs in
    let left = next_of xs c.loop-v.v-index x c.loop-v-test.true c.v-item.is in
    let s = c.loop-v.staking.staked in
    let s2 = c.join.new.staking.staked in
    let v = seen g.B.Bank.holdings c.loop-v.g in
    let v2 = seen g.B.Bank.holdings c.join.new.g in
    let s0 = c.args.staking.now.staked in
    let v0 = seen g.B.Bank.holdings c.args.g.now in
    let t = g.H.StakingHooks.tells in
    let holds = g.H.StakingHooks.holds c.loop-v.hooks in
    let holds2 = g.H.StakingHooks.holds c.join.new.hooks in
    let fault = c.in_err-join.field-0.0 in
    let given : c.from_residual.result ≡ Err fault = search rules in
    let one = subst (λ l. HasJoined t holds h log s0 v0 xs l s v) left (c.loop-v.invariant.joined h o log) in
    subst (Leaves (each (joined_set t.told) xs (behind_log log s0 h v0)) s2 holds2 v2) (sym given)
    (joined-stopped t g.met.H.StakingHooks.lawful h log s0 v0 xs holds holds2 x rest s s2 v v2 fault one (c.in_err-join.ensures.told one.now one.held one.log))

pub returns-in_err-join-clause-sure : goal.returns-in_err-join-clause-sure
returns-in_err-join-clause-sure g c = λ h o stand sure.
    let fault = c.in_err-join.field-0.0 in
    let given : c.from_residual.result ≡ Err fault = search rules in
    let one = c.loop-v.invariant.joined h o [] in
    subst (λ r. IfErr r (λ f. f ≡ hook.NoMemory)) (sym given) (c.in_err-join.ensures.sure one.now one.held (one.stand stand) (one.sure ∙ sure))

pub returns-in_err-join-clause-stays : goal.returns-in_err-join-clause-stays
returns-in_err-join-clause-stays g c =
    let fault = c.in_err-join.field-0.0 in
    let given : c.from_residual.result ≡ Err fault = search rules in
    subst (AllStays g.B.Bank.marks g.B.Bank.most_steps g.H.StakingHooks.marks c.args.g.now c.join.new.g c.args.hooks.now c.join.new.hooks c.args.staking.now c.join.new.staking) (sym given)
    (stays-then g.B.Bank.marks g.B.Bank.most_steps g.H.StakingHooks.marks c.args.g.now c.loop-v.g c.join.new.g c.args.hooks.now c.loop-v.hooks c.join.new.hooks c.args.staking.now c.loop-v.staking c.join.new.staking (Err fault) c.loop-v.invariant.stays
    (stays-of g.B.Bank.marks g.B.Bank.most_steps g.H.StakingHooks.marks c.loop-v.g c.join.new.g c.loop-v.hooks c.join.new.hooks c.loop-v.staking c.join.new.staking (Err fault) c.in_err-join.ensures.goes_on))

pub returns-in_err-join-clause-cost : goal.returns-in_err-join-clause-cost
returns-in_err-join-clause-cost g c = λ h o.
    let t = g.H.StakingHooks.tells in
    let one = c.loop-v.invariant.joined h o [] in
    let test = c.loop-v-test.true in
    let turn = subst (λ n. c.join.new.steps ≤ c.loop-v.steps + 9 + n) one.most_steps (c.join.ensures.cost one.now one.held) in
    let more = cost_more c.loop-v.v-index (t.most_steps h) c.args.steps.now c.loop-v.steps c.join.new.steps (c.loop-v.invariant.cost h o) turn in
    cost_within (c.loop-v.v-index + 1) (length c.args.joining.now) (t.most_steps h) c.args.steps.now c.join.new.steps (omega (arith, test)) more

pub returns-clause-told : goal.returns-clause-told
returns-clause-told g c = λ h o log.
    let xs = c.args.joining.now in
    let s0 = c.args.staking.now.staked in
    let v0 = seen g.B.Bank.holdings c.args.g.now in
    let s = c.loop-v.staking.staked in
    let v = seen g.B.Bank.holdings c.loop-v.g in
    let t = g.H.StakingHooks.tells in
    let holds = g.H.StakingHooks.holds c.loop-v.hooks in
    joined-all t g.met.H.StakingHooks.lawful h log s0 v0 xs holds s v (subst (λ l. HasJoined t holds h log s0 v0 xs l s v) (drop_all c.loop-v.v-index xs c.loop-v-test.false) (c.loop-v.invariant.joined h o log))

pub returns-clause-staked : goal.returns-clause-staked
returns-clause-staked g c = ap (λ l. all_joined l c.loop-v.staking.staked) (sym (drop_all c.loop-v.v-index c.args.joining.now c.loop-v-test.false)) ∙ c.loop-v.invariant.staked

pub returns-clause-keeps : goal.returns-clause-keeps
returns-clause-keeps g c = λ h o stand. (c.loop-v.invariant.joined h o []).keeps stand

pub returns-clause-cost : goal.returns-clause-cost
returns-clause-cost g c = λ h o.
    cost_within c.loop-v.v-index (length c.args.joining.now) (g.H.StakingHooks.tells.most_steps h) c.args.steps.now c.loop-v.steps c.loop-v.invariant.within (c.loop-v.invariant.cost h o)
