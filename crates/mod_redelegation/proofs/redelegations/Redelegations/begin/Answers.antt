use Rattle.std.proofs.Common.{◌≡◌, ◌∙◌, [], Some, sym, ap, subst, rules, Ok, Err, is_some, length, is_none}
use Rattle.base_roles.specs.{Ground.seen, Staked.validator_at, Flow.{◌>>=◌}, Stops.stop_of_hook}
use Rattle.base_roles.specs.declared.faults.MessageFault.TheVariants as stop
use Rattle.rule_modules.specs.{Delegating.pool, Redelegations.{redelegations_of, redelegated, appended, begin_info}}
use Rattle.rule_modules.{specs.Unbonding.shares_unbonded, proofs.SoundLemmas.to_points}
use Rattle.mod_staking.specs.{Calls.{over, behind_log}, Scenes.GoesOn}
use Rattle.mod_staking.proofs.BackLemmas.{delegated-steps, holds-back}
use Rattle.mod_entries.{specs.Answers.AnswersBoth, proofs.AnswerLemmas.{answers_refused, answers_fault}}
use Rattle.mod_redelegation.specs.Calls.{AreSoundLists}
use Rattle.mod_redelegation.proofs.AskedLemmas.{asked-given, redelegated-asked, redelegated_from, moved_at}
use Rattle.mod_redelegation.proofs.EntryLemmas.{appended-sound}
use Rattle.mod_redelegation.proofs.LeftLemmas.{out_is, some_out, room_for, out_most, still-there, held-more, held-now, has-origin}
use Rattle.mod_redelegation.proofs.LoggedLemmas.{answers_begun, answers_stopped}
use Rattle.mod_redelegation.proofs.StagesLemmas.{goes-both, goes-stopped}
use Rattle.mod_redelegation.proofs.redelegations.Redelegations.begin.Goals as goal

pub unbond-requires-clause-shares : goal.unbond-requires-clause-shares
unbond-requires-clause-shares g c =
    let d = c.args.delegator.now in
    let source = c.args.source.now in
    let target = c.args.target.now in
    let r = c.args.self.now.lists in
    let s = c.args.staking.now.staked in
    let v0 = seen g.B.Bank.holdings c.args.g.now in
    let v = c.in_ok-asked.asked.0 in
    let part = c.in_ok-asked.asked.1 in
    let a = asked-given d source target c.args.coin.now r s v0 (v, part) (sym c.in_ok-asked.ensures) in
    a.leaves.shares

pub begun-begun-requires-clause-time : goal.begun-begun-requires-clause-time
begun-begun-requires-clause-time g c = c.in_ok-out.ensures.stand.1.1.in_order.time

pub begun-begun-requires-clause-unbonding : goal.begun-begun-requires-clause-unbonding
begun-begun-requires-clause-unbonding g c = c.in_ok-out.ensures.stand.1.1.in_order.params.unbonding_time_most

pub delegate-requires-clause-known : goal.delegate-requires-clause-known
delegate-requires-clause-known g c =
    let d = c.args.delegator.now in
    let source = c.args.source.now in
    let target = c.args.target.now in
    let r = c.args.self.now.lists in
    let s = c.args.staking.now.staked in
    let v0 = seen g.B.Bank.holdings c.args.g.now in
    let v = c.in_ok-asked.asked.0 in
    let part = c.in_ok-asked.asked.1 in
    let a = asked-given d source target c.args.coin.now r s v0 (v, part) (sym c.in_ok-asked.ensures) in
    let v1 = seen g.B.Bank.holdings c.unbond.new.g in
    let s1 = c.unbond.new.self.staked in
    let out = c.in_ok-out.out in
    let stand = c.requires.scene.staked.hooked.stand in
    let keeps = c.in_ok-out.ensures.keeps stand.0 stand.1.0 stand.1.1 in
    let t = a.joins.t in
    let there = still-there d source part out s s1 c.in_ok-out.ensures.unbonded v a.leaves.found target t a.joins.apart a.joins.there in
    ap is_some there

pub delegate-requires-clause-some : goal.delegate-requires-clause-some
delegate-requires-clause-some g c =
    let d = c.args.delegator.now in
    let source = c.args.source.now in
    let target = c.args.target.now in
    let r = c.args.self.now.lists in
    let s = c.args.staking.now.staked in
    let v0 = seen g.B.Bank.holdings c.args.g.now in
    let v = c.in_ok-asked.asked.0 in
    let part = c.in_ok-asked.asked.1 in
    let a = asked-given d source target c.args.coin.now r s v0 (v, part) (sym c.in_ok-asked.ensures) in
    let v1 = seen g.B.Bank.holdings c.unbond.new.g in
    let s1 = c.unbond.new.self.staked in
    let out = c.in_ok-out.out in
    let stand = c.requires.scene.staked.hooked.stand in
    let keeps = c.in_ok-out.ensures.keeps stand.0 stand.1.0 stand.1.1 in
    let first = c.in_ok-out.ensures.told stand.0 stand.1.0 [] in
    some_out out _ (out_is g.H.StakingHooks.tells.told d source part (over s stand.0 v0) v a.leaves s1 (g.H.StakingHooks.holds c.unbond.new.hooks) v1 out first) a.joins.some

pub delegate-requires-clause-scene : goal.delegate-requires-clause-scene
delegate-requires-clause-scene g c =
    let d = c.args.delegator.now in
    let source = c.args.source.now in
    let target = c.args.target.now in
    let r = c.args.self.now.lists in
    let s = c.args.staking.now.staked in
    let v0 = seen g.B.Bank.holdings c.args.g.now in
    let v = c.in_ok-asked.asked.0 in
    let part = c.in_ok-asked.asked.1 in
    let a = asked-given d source target c.args.coin.now r s v0 (v, part) (sym c.in_ok-asked.ensures) in
    let v1 = seen g.B.Bank.holdings c.unbond.new.g in
    let s1 = c.unbond.new.self.staked in
    let out = c.in_ok-out.out in
    let stand = c.requires.scene.staked.hooked.stand in
    let keeps = c.in_ok-out.ensures.keeps stand.0 stand.1.0 stand.1.1 in
    record {
      hooked = record { sound = c.in_ok-out.ensures.sound; stand = c.in_ok-out.ensures.stand };
      accounts = held-now d source part out s s1 c.in_ok-out.ensures.unbonded v a.leaves.found _ v0 v1 keeps c.requires.scene.staked.accounts;
    }

pub delegate-requires-clause-origin : goal.delegate-requires-clause-origin
delegate-requires-clause-origin g c =
    let d = c.args.delegator.now in
    let source = c.args.source.now in
    let target = c.args.target.now in
    let r = c.args.self.now.lists in
    let s = c.args.staking.now.staked in
    let v0 = seen g.B.Bank.holdings c.args.g.now in
    let v = c.in_ok-asked.asked.0 in
    let part = c.in_ok-asked.asked.1 in
    let a = asked-given d source target c.args.coin.now r s v0 (v, part) (sym c.in_ok-asked.ensures) in
    let v1 = seen g.B.Bank.holdings c.unbond.new.g in
    let s1 = c.unbond.new.self.staked in
    let out = c.in_ok-out.out in
    let stand = c.requires.scene.staked.hooked.stand in
    let keeps = c.in_ok-out.ensures.keeps stand.0 stand.1.0 stand.1.1 in
    has-origin d source part out s s1 c.in_ok-out.ensures.unbonded v a.leaves.found _ v0 v1 keeps c.requires.scene.staked.accounts

pub returns-clause-told : goal.returns-clause-told
returns-clause-told g c = λ hs o log.
    let d = c.args.delegator.now in
    let source = c.args.source.now in
    let target = c.args.target.now in
    let r = c.args.self.now.lists in
    let s = c.args.staking.now.staked in
    let v0 = seen g.B.Bank.holdings c.args.g.now in
    let v = c.in_ok-asked.asked.0 in
    let part = c.in_ok-asked.asked.1 in
    let a = asked-given d source target c.args.coin.now r s v0 (v, part) (sym c.in_ok-asked.ensures) in
    let v1 = seen g.B.Bank.holdings c.unbond.new.g in
    let s1 = c.unbond.new.self.staked in
    let out = c.in_ok-out.out in
    let stand = c.requires.scene.staked.hooked.stand in
    let keeps = c.in_ok-out.ensures.keeps stand.0 stand.1.0 stand.1.1 in
    let t = a.joins.t in
    let there = still-there d source part out s s1 c.in_ok-out.ensures.unbonded v a.leaves.found target t a.joins.apart a.joins.there in
    let told = g.H.StakingHooks.tells.told in
    let holds1 = g.H.StakingHooks.holds c.unbond.new.hooks in
    let v2 = seen g.B.Bank.holdings c.delegate.new.g in
    let s2 = c.delegate.new.self.staked in
    let holds2 = g.H.StakingHooks.holds c.delegate.new.hooks in
    let issued = c.in_ok-issued.issued in
    let w = behind_log log s hs v0 in
    let is = redelegated-asked told d source target r w c.args.coin.now ∙ ap (λ x. x >>= redelegated_from told d source target r w) (sym c.in_ok-asked.ensures) in
    let begun : c.begun-begun.result ≡ begin_info v (is_none (validator_at s1 source)) v0.ctx = c.begun-begun.ensures ∙ (λ i. begin_info v (c.is_gone-gone.ensures i) (keeps.ctx i)) in
    let r2 = c.append.new.self.lists in
    let made : r2 ≡ appended d source target (begin_info v (is_none (validator_at s1 source)) v0.ctx) out issued r = ap (λ k. k.lists) c.in_ok-append.ensures.ok ∙ (λ i. appended d source target (begun i) out issued r) in
    subst (λ x. AnswersBoth x r2 s2 holds2 v2 (Ok tt)) (sym is)
    (answers_begun told d source target r w v t a.joins.there part s1 holds1 v1 out (c.in_ok-out.ensures.told hs o log) s2 holds2 v2 issued r2 (λ h1 o1. c.in_ok-issued.ensures.told h1 o1 t there) made)

pub returns-clause-scene : goal.returns-clause-scene
returns-clause-scene g c =
    let d = c.args.delegator.now in
    let source = c.args.source.now in
    let target = c.args.target.now in
    let r = c.args.self.now.lists in
    let s = c.args.staking.now.staked in
    let v0 = seen g.B.Bank.holdings c.args.g.now in
    let v = c.in_ok-asked.asked.0 in
    let part = c.in_ok-asked.asked.1 in
    let a = asked-given d source target c.args.coin.now r s v0 (v, part) (sym c.in_ok-asked.ensures) in
    let v1 = seen g.B.Bank.holdings c.unbond.new.g in
    let s1 = c.unbond.new.self.staked in
    let out = c.in_ok-out.out in
    let stand = c.requires.scene.staked.hooked.stand in
    let keeps = c.in_ok-out.ensures.keeps stand.0 stand.1.0 stand.1.1 in
    let issued = c.in_ok-issued.issued in
    let few = out_most d source part out s s1 c.in_ok-out.ensures.unbonded v a.leaves.found c.requires.scene.staked.hooked.sound in
    let room = room_for v0.ctx.params.max_entries (length (redelegations_of r d source target)) stand.1.1.in_order.params.max_entries_most a.joins.room in
    record {
      staked = c.in_ok-issued.ensures.scene;
      entries = subst AreSoundLists (sym (ap (λ k. k.lists) c.in_ok-append.ensures.ok)) (appended-sound d source target c.begun-begun.result out issued r c.requires.scene.entries room few);
    }

pub returns-clause-accounts : goal.returns-clause-accounts
returns-clause-accounts g c = λ bonded other more.
    let d = c.args.delegator.now in
    let source = c.args.source.now in
    let target = c.args.target.now in
    let r = c.args.self.now.lists in
    let s = c.args.staking.now.staked in
    let v0 = seen g.B.Bank.holdings c.args.g.now in
    let v = c.in_ok-asked.asked.0 in
    let part = c.in_ok-asked.asked.1 in
    let a = asked-given d source target c.args.coin.now r s v0 (v, part) (sym c.in_ok-asked.ensures) in
    let v1 = seen g.B.Bank.holdings c.unbond.new.g in
    let s1 = c.unbond.new.self.staked in
    let out = c.in_ok-out.out in
    let stand = c.requires.scene.staked.hooked.stand in
    let keeps = c.in_ok-out.ensures.keeps stand.0 stand.1.0 stand.1.1 in
    let t = a.joins.t in
    let there = still-there d source part out s s1 c.in_ok-out.ensures.unbonded v a.leaves.found target t a.joins.apart a.joins.there in
    let told = g.H.StakingHooks.tells.told in
    let holds1 = g.H.StakingHooks.holds c.unbond.new.hooks in
    let v2 = seen g.B.Bank.holdings c.delegate.new.g in
    let s2 = c.delegate.new.self.staked in
    let holds2 = g.H.StakingHooks.holds c.delegate.new.hooks in
    let issued = c.in_ok-issued.issued in
    let p = c.in_ok-out.ensures.stand in
    let sound = to_points c.in_ok-out.ensures.sound.0 s1 c.in_ok-out.ensures.sound.1 in
    let own : t.operator ≡ target = sound.operators target t there in
    let found : validator_at s1 t.operator ≡ Some t = ap (validator_at s1) own ∙ there in
    let first = c.in_ok-out.ensures.told stand.0 stand.1.0 [] in
    let some = some_out out _ (out_is told d source part (over s stand.0 v0) v a.leaves s1 holds1 v1 out first) a.joins.some in
    let now = held-now d source part out s s1 c.in_ok-out.ensures.unbonded v a.leaves.found _ v0 v1 keeps c.requires.scene.staked.accounts in
    let origin = has-origin d source part out s s1 c.in_ok-out.ensures.unbonded v a.leaves.found _ v0 v1 keeps c.requires.scene.staked.accounts in
    let steps = delegated-steps told t d out (pool v.status) s1 p.0 v1 s2 holds2 v2 issued (c.in_ok-issued.ensures.told p.0 p.1.0 t there) in
    holds-back g.H.StakingHooks.tells g.met.H.StakingHooks.lawful c.in_ok-out.ensures.sound.0 s1 sound t found d v.status out some p.0 v1 p.1.1 origin now s2 v2 steps bonded other
    (held-more d source part out s s1 c.in_ok-out.ensures.unbonded v a.leaves.found _ v0 v1 keeps bonded other more)

pub returns-clause-goes_on : goal.returns-clause-goes_on
returns-clause-goes_on g c =
    goes-both g.B.Bank.marks g.B.Bank.most_steps g.H.StakingHooks.marks c.args.g.now c.unbond.new.g c.delegate.new.g c.args.hooks.now c.unbond.new.hooks c.delegate.new.hooks c.args.staking.now c.unbond.new.self c.delegate.new.self
    c.in_ok-out.out c.in_ok-issued.issued tt c.in_ok-out.ensures.goes_on c.in_ok-issued.ensures.goes_on

pub returns-in_err-asked-clause-told : goal.returns-in_err-asked-clause-told
returns-in_err-asked-clause-told g c = λ hs o log.
    let d = c.args.delegator.now in
    let source = c.args.source.now in
    let target = c.args.target.now in
    let r = c.args.self.now.lists in
    let s = c.args.staking.now.staked in
    let v0 = seen g.B.Bank.holdings c.args.g.now in
    let told = g.H.StakingHooks.tells.told in
    let holds0 = g.H.StakingHooks.holds c.args.hooks.now in
    let w = behind_log log s hs v0 in
    let why = c.in_err-asked.field-0.0 in
    let given : c.from_residual.result ≡ Err (stop.Refused why) = search rules in
    let is = redelegated-asked told d source target r w c.args.coin.now ∙ ap (λ x. x >>= redelegated_from told d source target r w) (sym c.in_err-asked.ensures) in
    subst (AnswersBoth (redelegated told d source target c.args.coin.now r w) r s holds0 v0) (sym given)
    (answers_refused (redelegated told d source target c.args.coin.now r w) r s holds0 v0 why is)

pub returns-in_err-out-clause-told : goal.returns-in_err-out-clause-told
returns-in_err-out-clause-told g c = λ hs o log.
    let d = c.args.delegator.now in
    let source = c.args.source.now in
    let target = c.args.target.now in
    let r = c.args.self.now.lists in
    let s = c.args.staking.now.staked in
    let v0 = seen g.B.Bank.holdings c.args.g.now in
    let v = c.in_ok-asked.asked.0 in
    let part = c.in_ok-asked.asked.1 in
    let a = asked-given d source target c.args.coin.now r s v0 (v, part) (sym c.in_ok-asked.ensures) in
    let v1 = seen g.B.Bank.holdings c.unbond.new.g in
    let s1 = c.unbond.new.self.staked in
    let told = g.H.StakingHooks.tells.told in
    let holds1 = g.H.StakingHooks.holds c.unbond.new.hooks in
    let w = behind_log log s hs v0 in
    let is = redelegated-asked told d source target r w c.args.coin.now ∙ ap (λ x. x >>= redelegated_from told d source target r w) (sym c.in_ok-asked.ensures) in
    let fault = c.in_err-out.field-0.0 in
    let given : c.from_residual-in_err-out.result ≡ Err (stop_of_hook fault) = search rules in
    subst (AnswersBoth (redelegated told d source target c.args.coin.now r w) r s1 holds1 v1) (sym given)
    (subst (λ x. AnswersBoth x r s1 holds1 v1 (Err (stop_of_hook fault))) (sym is)
    (answers_fault (shares_unbonded told d source part w) (moved_at told d source target r w (validator_at w.mine target) v) s1 s1 holds1 holds1 v1 v1 r fault (c.in_err-out.ensures.told hs o log)))

pub returns-in_err-issued-clause-told : goal.returns-in_err-issued-clause-told
returns-in_err-issued-clause-told g c = λ hs o log.
    let d = c.args.delegator.now in
    let source = c.args.source.now in
    let target = c.args.target.now in
    let r = c.args.self.now.lists in
    let s = c.args.staking.now.staked in
    let v0 = seen g.B.Bank.holdings c.args.g.now in
    let v = c.in_ok-asked.asked.0 in
    let part = c.in_ok-asked.asked.1 in
    let a = asked-given d source target c.args.coin.now r s v0 (v, part) (sym c.in_ok-asked.ensures) in
    let v1 = seen g.B.Bank.holdings c.unbond.new.g in
    let s1 = c.unbond.new.self.staked in
    let out = c.in_ok-out.out in
    let stand = c.requires.scene.staked.hooked.stand in
    let keeps = c.in_ok-out.ensures.keeps stand.0 stand.1.0 stand.1.1 in
    let t = a.joins.t in
    let there = still-there d source part out s s1 c.in_ok-out.ensures.unbonded v a.leaves.found target t a.joins.apart a.joins.there in
    let told = g.H.StakingHooks.tells.told in
    let holds1 = g.H.StakingHooks.holds c.unbond.new.hooks in
    let v2 = seen g.B.Bank.holdings c.delegate.new.g in
    let s2 = c.delegate.new.self.staked in
    let holds2 = g.H.StakingHooks.holds c.delegate.new.hooks in
    let w = behind_log log s hs v0 in
    let is = redelegated-asked told d source target r w c.args.coin.now ∙ ap (λ x. x >>= redelegated_from told d source target r w) (sym c.in_ok-asked.ensures) in
    let why = c.in_err-issued.field-0.0 in
    let given : c.from_residual-in_err-issued.result ≡ Err why = search rules in
    subst (AnswersBoth (redelegated told d source target c.args.coin.now r w) r s2 holds2 v2) (sym given)
    (subst (λ x. AnswersBoth x r s2 holds2 v2 (Err why)) (sym is)
    (answers_stopped told d source target r w v t a.joins.there part s1 holds1 v1 out (c.in_ok-out.ensures.told hs o log) s2 holds2 v2 why r (λ h1 o1. c.in_err-issued.ensures.told h1 o1 t there)))

pub returns-in_err-issued-clause-goes_on : goal.returns-in_err-issued-clause-goes_on
returns-in_err-issued-clause-goes_on g c =
    let why = c.in_err-issued.field-0.0 in
    let given : c.from_residual-in_err-issued.result ≡ Err why = search rules in
    subst (GoesOn g.B.Bank.marks g.B.Bank.most_steps g.H.StakingHooks.marks c.args.g.now c.delegate.new.g c.args.hooks.now c.delegate.new.hooks c.args.staking.now c.delegate.new.self) (sym given)
    (goes-stopped g.B.Bank.marks g.B.Bank.most_steps g.H.StakingHooks.marks c.args.g.now c.unbond.new.g c.delegate.new.g c.args.hooks.now c.unbond.new.hooks c.delegate.new.hooks c.args.staking.now c.unbond.new.self c.delegate.new.self
    c.in_ok-out.out (Err why) why c.in_ok-out.ensures.goes_on c.in_err-issued.ensures.goes_on)

pub returns-in_err-append-clause-goes_on : goal.returns-in_err-append-clause-goes_on
returns-in_err-append-clause-goes_on g c =
    let given : c.from_residual-in_err-append.result ≡ Err stop.NoMemory = search rules in
    subst (GoesOn g.B.Bank.marks g.B.Bank.most_steps g.H.StakingHooks.marks c.args.g.now c.delegate.new.g c.args.hooks.now c.delegate.new.hooks c.args.staking.now c.delegate.new.self) (sym given)
    (goes-stopped g.B.Bank.marks g.B.Bank.most_steps g.H.StakingHooks.marks c.args.g.now c.unbond.new.g c.delegate.new.g c.args.hooks.now c.unbond.new.hooks c.delegate.new.hooks c.args.staking.now c.unbond.new.self c.delegate.new.self
    c.in_ok-out.out (Ok c.in_ok-issued.issued) stop.NoMemory c.in_ok-out.ensures.goes_on c.in_ok-issued.ensures.goes_on)
