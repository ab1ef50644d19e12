use Rattle.std.proofs.Common.{◌≡◌, ◌∙◌, sym, ap, subst, rules, Ok, Err, is_some}
use Rattle.base_roles.specs.{Ground.seen, Flow.{◌>>=◌}}
use Rattle.base_roles.specs.declared.faults.MessageFault.TheVariants as stop
use Rattle.base_types.specs.declared.status.BondStatus.TheVariants.{Unbonded}
use Rattle.rule_modules.specs.{Delegating.pool, Unbondings.cancelled}
use Rattle.mod_entries.{proofs.AnswerLemmas.answers_refused, specs.Answers.AnswersBoth}
use Rattle.mod_staking.specs.Calls.{behind_log}
use Rattle.mod_unbonding.specs.Calls.{AreSoundLists, AreWhole, HoldsEntries}
use Rattle.mod_unbonding.proofs.CancelLemmas.{delegated-behind, open-given, cancelled-asked, cancelled_from, answers_lowered, answers_stopped, lowered-sound, lowered-whole, lowered-accounts, has_origin, has_stake}
use Rattle.mod_unbonding.proofs.unbondings.Unbondings.cancel.Goals as goal

pub delegate-requires-clause-known : goal.delegate-requires-clause-known
delegate-requires-clause-known g c =
    let delegator = c.args.delegator.now in
    let operator = c.args.operator.now in
    let coin = c.args.coin.now in
    let u = c.args.self.now.lists in
    let s = c.args.staking.now.staked in
    let v0 = seen g.B.Bank.holdings c.args.g.now in
    let v = c.in_ok-can_cancel.field-0.0 in
    let e = c.in_ok-can_cancel.field-0.1 in
    let o = open-given delegator operator coin c.args.created u s v0 v e (sym c.in_ok-can_cancel.ensures) in
    ap is_some o.found

pub delegate-requires-clause-some : goal.delegate-requires-clause-some
delegate-requires-clause-some g c =
    let delegator = c.args.delegator.now in
    let operator = c.args.operator.now in
    let coin = c.args.coin.now in
    let u = c.args.self.now.lists in
    let s = c.args.staking.now.staked in
    let v0 = seen g.B.Bank.holdings c.args.g.now in
    let v = c.in_ok-can_cancel.field-0.0 in
    let e = c.in_ok-can_cancel.field-0.1 in
    let o = open-given delegator operator coin c.args.created u s v0 v e (sym c.in_ok-can_cancel.ensures) in
    o.some

pub delegate-requires-clause-scene : goal.delegate-requires-clause-scene
delegate-requires-clause-scene g c =
    let delegator = c.args.delegator.now in
    let operator = c.args.operator.now in
    let coin = c.args.coin.now in
    let u = c.args.self.now.lists in
    let s = c.args.staking.now.staked in
    let v0 = seen g.B.Bank.holdings c.args.g.now in
    let v = c.in_ok-can_cancel.field-0.0 in
    let e = c.in_ok-can_cancel.field-0.1 in
    let o = open-given delegator operator coin c.args.created u s v0 v e (sym c.in_ok-can_cancel.ensures) in
    record { hooked = c.requires.scene.hooked; accounts = has_stake delegator operator coin c.args.created u s v0 v e o c.requires.scene.entries c.requires.scene.accounts }

pub delegate-requires-clause-origin : goal.delegate-requires-clause-origin
delegate-requires-clause-origin g c =
    let delegator = c.args.delegator.now in
    let operator = c.args.operator.now in
    let coin = c.args.coin.now in
    let u = c.args.self.now.lists in
    let s = c.args.staking.now.staked in
    let v0 = seen g.B.Bank.holdings c.args.g.now in
    let v = c.in_ok-can_cancel.field-0.0 in
    let e = c.in_ok-can_cancel.field-0.1 in
    let o = open-given delegator operator coin c.args.created u s v0 v e (sym c.in_ok-can_cancel.ensures) in
    has_origin delegator operator coin c.args.created u s v0 v e o c.requires.scene.entries c.requires.scene.accounts

pub returns-clause-whole : goal.returns-clause-whole
returns-clause-whole g c = λ height k.
    let delegator = c.args.delegator.now in
    let operator = c.args.operator.now in
    let coin = c.args.coin.now in
    let u = c.args.self.now.lists in
    let s = c.args.staking.now.staked in
    let v0 = seen g.B.Bank.holdings c.args.g.now in
    let v = c.in_ok-can_cancel.field-0.0 in
    let e = c.in_ok-can_cancel.field-0.1 in
    let o = open-given delegator operator coin c.args.created u s v0 v e (sym c.in_ok-can_cancel.ensures) in
    subst (AreWhole height) (sym (ap (λ k. k.lists) c.in_ok-lower.ensures.ok)) (lowered-whole delegator operator coin c.args.created u s v0 v e o c.requires.scene.entries height k)

pub returns-clause-scene : goal.returns-clause-scene
returns-clause-scene g c =
    let delegator = c.args.delegator.now in
    let operator = c.args.operator.now in
    let coin = c.args.coin.now in
    let u = c.args.self.now.lists in
    let s = c.args.staking.now.staked in
    let v0 = seen g.B.Bank.holdings c.args.g.now in
    let v = c.in_ok-can_cancel.field-0.0 in
    let e = c.in_ok-can_cancel.field-0.1 in
    let o = open-given delegator operator coin c.args.created u s v0 v e (sym c.in_ok-can_cancel.ensures) in
    record {
      hooked = c.in_ok-delegate.ensures.scene.hooked;
      entries = subst AreSoundLists (sym (ap (λ k. k.lists) c.in_ok-lower.ensures.ok)) (lowered-sound delegator operator coin c.args.created u s v0 v e o c.requires.scene.entries);
      accounts = subst (HoldsEntries (seen g.B.Bank.holdings c.delegate.new.g) c.delegate.new.self.staked) (sym (ap (λ k. k.lists) c.in_ok-lower.ensures.ok))
          (lowered-accounts delegator operator coin c.args.created u s v0 v e o c.requires.scene.entries c.requires.scene.accounts g.H.StakingHooks.tells g.met.H.StakingHooks.lawful c.requires.scene.hooked.sound c.requires.scene.hooked.stand.0 c.requires.scene.hooked.stand.1.1
          c.delegate.new.self.staked (g.H.StakingHooks.holds c.delegate.new.hooks) (seen g.B.Bank.holdings c.delegate.new.g) c.in_ok-delegate.field-0 (c.in_ok-delegate.ensures.told c.requires.scene.hooked.stand.0 c.requires.scene.hooked.stand.1.0 v o.found));
    }

pub returns-clause-told : goal.returns-clause-told
returns-clause-told g c = λ hs h log.
    let delegator = c.args.delegator.now in
    let operator = c.args.operator.now in
    let coin = c.args.coin.now in
    let u = c.args.self.now.lists in
    let s = c.args.staking.now.staked in
    let v0 = seen g.B.Bank.holdings c.args.g.now in
    let v = c.in_ok-can_cancel.field-0.0 in
    let e = c.in_ok-can_cancel.field-0.1 in
    let o = open-given delegator operator coin c.args.created u s v0 v e (sym c.in_ok-can_cancel.ensures) in
    let told = g.H.StakingHooks.tells.told in
    let w = behind_log log s hs v0 in
    let is = cancelled-asked told delegator operator coin c.args.created u w ∙ ap (λ r. r >>= cancelled_from told delegator operator coin c.args.created u w) (sym c.in_ok-can_cancel.ensures) in
    subst (λ r. AnswersBoth r c.lower.new.self.lists c.delegate.new.self.staked (g.H.StakingHooks.holds c.delegate.new.hooks) (seen g.B.Bank.holdings c.delegate.new.g) (Ok tt)) (sym is)
    (answers_lowered told delegator operator coin c.args.created u w v e c.delegate.new.self.staked (g.H.StakingHooks.holds c.delegate.new.hooks) (seen g.B.Bank.holdings c.delegate.new.g) c.in_ok-delegate.field-0 c.lower.new.self.lists
    (delegated-behind told v delegator coin.amount (pool Unbonded) log s hs v0 c.delegate.new.self.staked (g.H.StakingHooks.holds c.delegate.new.hooks) (seen g.B.Bank.holdings c.delegate.new.g) (Ok c.in_ok-delegate.field-0) (c.in_ok-delegate.ensures.told hs h v o.found))
    (ap (λ k. k.lists) c.in_ok-lower.ensures.ok))

pub returns-in_err-can_cancel-clause-told : goal.returns-in_err-can_cancel-clause-told
returns-in_err-can_cancel-clause-told g c = λ hs h log.
    let delegator = c.args.delegator.now in
    let operator = c.args.operator.now in
    let coin = c.args.coin.now in
    let u = c.args.self.now.lists in
    let s = c.args.staking.now.staked in
    let v0 = seen g.B.Bank.holdings c.args.g.now in
    let told = g.H.StakingHooks.tells.told in
    let w = behind_log log s hs v0 in
    let why = c.in_err-can_cancel.field-0.0 in
    let given : c.from_residual.result ≡ Err (stop.Refused why) = search rules in
    let is = cancelled-asked told delegator operator coin c.args.created u w ∙ ap (λ r. r >>= cancelled_from told delegator operator coin c.args.created u w) (sym c.in_err-can_cancel.ensures) in
    subst (AnswersBoth (cancelled told delegator operator coin c.args.created u w) u s (g.H.StakingHooks.holds c.args.hooks.now) v0) (sym given)
    (answers_refused (cancelled told delegator operator coin c.args.created u w) u s (g.H.StakingHooks.holds c.args.hooks.now) v0 why is)

pub returns-in_err-delegate-clause-told : goal.returns-in_err-delegate-clause-told
returns-in_err-delegate-clause-told g c = λ hs h log.
    let delegator = c.args.delegator.now in
    let operator = c.args.operator.now in
    let coin = c.args.coin.now in
    let u = c.args.self.now.lists in
    let s = c.args.staking.now.staked in
    let v0 = seen g.B.Bank.holdings c.args.g.now in
    let told = g.H.StakingHooks.tells.told in
    let w = behind_log log s hs v0 in
    let v = c.in_ok-can_cancel.field-0.0 in
    let e = c.in_ok-can_cancel.field-0.1 in
    let o = open-given delegator operator coin c.args.created u s v0 v e (sym c.in_ok-can_cancel.ensures) in
    let v1 = seen g.B.Bank.holdings c.delegate.new.g in
    let s1 = c.delegate.new.self.staked in
    let holds1 = g.H.StakingHooks.holds c.delegate.new.hooks in
    let why = c.in_err-delegate.field-0.0 in
    let given : c.from_residual-in_err-delegate.result ≡ Err why = search rules in
    let is = cancelled-asked told delegator operator coin c.args.created u w ∙ ap (λ r. r >>= cancelled_from told delegator operator coin c.args.created u w) (sym c.in_ok-can_cancel.ensures) in
    subst (AnswersBoth (cancelled told delegator operator coin c.args.created u w) u s1 holds1 v1) (sym given)
    (subst (λ r. AnswersBoth r u s1 holds1 v1 (Err why)) (sym is)
    (answers_stopped told delegator operator coin c.args.created u w v e s1 s1 holds1 holds1 v1 v1 u why
    (delegated-behind told v delegator coin.amount (pool Unbonded) log s hs v0 s1 holds1 v1 (Err why) (c.in_err-delegate.ensures.told hs h v o.found))))
