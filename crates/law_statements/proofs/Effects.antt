-- What stands of a pair through each message, and the fee, that a recorder hears, from a sound state whose accounts are reached.
use Rattle.std.proofs.Common.{◌≡◌, ◌==◌, Bool, true, false, ℕ, List, [], ◌∷◌, ◌++◌, append-nil, refl, sym, subst, Option, Result, Ok, Err, IfOk, nat_lt, not}
use Rattle.std.specs.Prelude.{⊤}
use Rattle.base_decimals.specs.Decimals.{trunc_of}
use Rattle.base_types.specs.{declared.{account.{Account.{Account as Holder}}}, Orders.addr_cmp}
use Rattle.base_types.specs.declared.account.Account.TheVariants as account
use Rattle.base_types.specs.declared.account.Module.TheVariants as holder
use Rattle.base_coins.specs.Coins.{Money}
use Rattle.base_shares.specs.Shares.{value_even_of}
use Rattle.base_messages.specs.declared.message.Msg.{Msg}
use Rattle.base_messages.specs.declared.message.Msg.TheVariants as msg
use Rattle.base_roles.specs.declared.{entities.Validator.Validator, facts.Fact.Fact}
use Rattle.base_roles.specs.declared.{messages.EditValidator.EditValidator, params.Params.Params}
use Rattle.base_roles.specs.declared.refusal.Refusal.{Refusal}
use Rattle.base_roles.specs.declared.refusal.Refusal.TheVariants.{FeeUnpaid, InsufficientFunds, ModuleRecipient, NoCommission, NonPositive, NoSelfDelegation, NotAuthority, NotJailed, NoValidator, Overflow, PoolTooSmall, SelfBelowMinimum}
use Rattle.base_roles.specs.{Entries.at, Holdings.is_short, Log.Log, Orders.same_addr}
use Rattle.base_roles.specs.{Staked.{delegation, validator_at}, World.{View, sent}}
use Rattle.base_roles.specs.declared.facts.Fact.TheVariants as fact
use Rattle.rule_modules.specs.{Amounts.{in_units, is_empty}, Chain.State, Distribution.{payee_of, paid_to}}
use Rattle.rule_modules.specs.Effects.{coins_sent, community_pool_spend, edit_validator, fee_paid, fund_community_pool, send, set_withdraw_address, unjail, withdraw_commission}
use Rattle.rule_modules.specs.Parameters.{update_params}
use Rattle.rule_modules.specs.Purses.{commission_due, is_above_pool, pool_joined, pool_lowered, pooled_told}
use Rattle.rule_modules.specs.{Sound.IsSound, Validators.edited, Window.{may_leave, signing_of, unjailed}}
use Rattle.rule_modules.specs.Withdrawals.{commission_withdrawn, is_module, payee_set, pool_funded, pool_spent}
use Rattle.rule_modules.proofs.{GoingLemmas.{on_bind, on_found, on_lifted, on_stop}, ParameterLemmas.on_update}
use Rattle.rule_machine.specs.{Listening.{Hearing, effect_heard, silently, unheard}, Messages.effect_of}
use Rattle.law_rewards.{specs.States.AreReached, proofs.Telling.{next_if, on_then}}
use Rattle.mod_recorder.specs.Notes.{Noted, heard}
use Rattle.mod_tracking.specs.{declared.tracker.Pair.Pair, Tracking.Tracked}
use Rattle.law_statements.proofs.Holding.{Holds, holds_commission, holds_pooled, holds_sent, holds_told}
use Rattle.law_statements.proofs.Messages.{HoldsHeard, cancellation_holds, creation_holds, delegation_holds, redelegation_holds, reward_holds, undelegation_holds}

module _ (p : Pair) (v : Option Validator) (t0 : Tracked) (n0 : ℕ) (base : Log) (earlier : List Fact) where
  -- ---- what calls no hook

  module _ (r : Noted) (w : State) (h : Holds p v t0 n0 base earlier 0 r w.view.facts w.log) where
    -- it stands so of a state, with what was heard
    abbrev Keeps : State → Type 0
    Keeps u = Holds p v t0 n0 base earlier 0 r u.view.facts u.log

    abbrev Has : List Fact → Log → Type 0
    Has facts l = Holds p v t0 n0 base earlier 0 r facts l

    -- nothing more is logged
    as_logged : (facts : List Fact) → Has facts w.log → Has facts (w.log ++ [])
    as_logged facts k = subst (Has facts) (sym (append-nil w.log)) k

    sends : (from to : Holder) (coins : Money) → Has (sent from to coins w.view).facts w.log
    sends from to coins = holds_sent p v t0 n0 base earlier 0 r w.view.facts w.log from to coins h

    pub fee_keeps : (payer : List ℕ) (fee : Money) → IfOk (fee_paid payer fee w) Keeps
    fee_keeps payer fee = on_stop (is_short w.view.bank (account.User payer) fee) FeeUnpaid _ _ (λ a. sends (account.User payer) (account.Module holder.FeeCollector) fee)

    send_keeps : (from : List ℕ) (to : Holder) (coins : Money) → IfOk (send from to coins w) Keeps
    send_keeps from to coins =
        on_then (coins_sent from to coins w.view) _ (λ u. Has u.facts w.log) _
        (on_stop (is_empty coins) NonPositive _ _ (λ a. on_stop (is_module to) ModuleRecipient _ _ (λ b. on_stop (is_short w.view.bank (account.User from) coins) InsufficientFunds _ _ (λ c. sends (account.User from) to coins))))
        (λ u k. k)

    edit_keeps : (m : EditValidator) → IfOk (edit_validator m w) Keeps
    edit_keeps m = on_bind (edited m w.view.ctx.time w.view.ctx.params.min_commission_rate w.mine.staked) _ _ (λ s e. h)

    unjail_keeps : (operator : List ℕ) → IfOk (unjail operator w) Keeps
    unjail_keeps operator =
        on_then (unjailed operator w.hooks.1 w.mine.staked w.view) _ (λ x. Has x.2.facts w.log) _
        (on_found (validator_at w.mine.staked operator) NoValidator _ _ (λ x is. on_found (delegation w.mine.staked operator operator) NoSelfDelegation _ _ (λ held has.
        on_stop (nat_lt (trunc_of (value_even_of x.tokens x.shares held)) x.min_self) SelfBelowMinimum _ _ (λ a. on_stop (not x.jailed) NotJailed _ _ (λ b.
        next_if (may_leave w.view.ctx.time (signing_of w.hooks.1 x.cons)) _ _ (holds_told p v t0 n0 base earlier 0 r w.view.facts w.log (fact.Unjailed operator) (λ f. refl) h))))))
        (λ x k. k)

    commission_keeps : (operator : List ℕ) → IfOk (withdraw_commission operator w) Keeps
    commission_keeps operator =
        on_then (commission_withdrawn operator w.hooks.0 w.view) _ (λ x. Has x.2.facts (w.log ++ x.3)) _
        (on_found (at addr_cmp w.hooks.0.purses.purses operator) NoCommission _ _ (λ purse is. on_stop (is_empty purse.commission) NoCommission _ _ (λ b.
        let to : List ℕ = payee_of w.hooks.0 operator in
        let coins : Money = commission_due purse in
        let paid : View = paid_to to coins w.view in
        holds_commission p v t0 n0 base earlier operator (in_units coins) r (paid.facts ++ fact.Commission operator to coins ∷ []) w.log
        (holds_told p v t0 n0 base earlier 0 r paid.facts w.log (fact.Commission operator to coins) (λ f. refl) (sends (account.Module holder.Distribution) (account.User to) coins)))))
        (λ x k. k)

    payee_keeps : (who : List ℕ) (to : Holder) → IfOk (set_withdraw_address who to w) Keeps
    payee_keeps who to = on_bind (payee_set who to w.view.ctx.params w.hooks.0) _ _ (λ d e. as_logged w.view.facts h)

    fund_keeps : (who : List ℕ) (coins : Money) → IfOk (fund_community_pool who coins w) Keeps
    fund_keeps who coins =
        on_then (pool_funded who coins w.hooks.0 w.view) _ (λ x. Has x.2.facts (w.log ++ [])) _
        (on_stop (is_empty coins) NonPositive _ _ (λ a. on_stop (is_short w.view.bank (account.User who) coins) InsufficientFunds _ _ (λ b. on_lifted Overflow (pool_joined (in_units coins) w.hooks.0.purses) _ _ (λ q e.
        let moved : View = sent (account.User who) (account.Module holder.Distribution) coins w.view in
        as_logged (pooled_told (in_units coins) moved.facts) (holds_pooled p v t0 n0 base earlier 0 r moved.facts w.log (in_units coins) (sends (account.User who) (account.Module holder.Distribution) coins))))))
        (λ x k. k)

    spend_keeps : (authority : List ℕ) (to : Holder) (coins : Money) → IfOk (community_pool_spend authority to coins w) Keeps
    spend_keeps authority to coins =
        on_then (pool_spent authority to coins w.hooks.0 w.view) _ (λ x. Has x.2.facts (w.log ++ [])) _
        (on_stop (not (same_addr authority w.view.ctx.params.authority)) NotAuthority _ _ (λ a. on_stop (is_empty coins) NonPositive _ _ (λ b. on_stop (is_module to) ModuleRecipient _ _ (λ c. on_stop (is_above_pool coins w.hooks.0.purses) PoolTooSmall _ _ (λ e.
        as_logged (sent (account.Module holder.Distribution) to coins w.view).facts (sends (account.Module holder.Distribution) to coins))))))
        (λ x k. k)

    update_keeps : (authority : List ℕ) (params : Params) → IfOk (update_params authority params w) Keeps
    update_keeps authority params = on_update authority params w Keeps (λ range fixed. holds_told p v t0 n0 base earlier 0 r w.view.facts w.log (fact.ParamsChanged authority) (λ f. refl) h)

  -- ---- each message

  silent : (step : State → Result State Refusal) (w : Hearing Noted) → IfOk (step (unheard w)) (λ u. Holds p v t0 n0 base earlier 0 w.hooks.0.1 u.view.facts u.log) → IfOk (silently step w) (HoldsHeard p v t0 n0 base earlier)
  silent step w k = on_then (step (unheard w)) _ (λ u. Holds p v t0 n0 base earlier 0 w.hooks.0.1 u.view.facts u.log) _ k (λ u h. h)

  pub effect_holds : (m : Msg) (w : Hearing Noted) → IsSound (unheard w) → AreReached (unheard w) → HoldsHeard p v t0 n0 base earlier w → IfOk (effect_heard heard m w) (HoldsHeard p v t0 n0 base earlier)
  effect_holds (msg.CreateValidator m) w sound reached h = creation_holds p v t0 n0 base earlier w sound reached h m
  effect_holds (msg.Delegate m) w sound reached h = delegation_holds p v t0 n0 base earlier w sound reached h m.delegator m.validator m.amount
  effect_holds (msg.Undelegate m) w sound reached h = undelegation_holds p v t0 n0 base earlier w sound reached h m.delegator m.validator m.amount
  effect_holds (msg.BeginRedelegate m) w sound reached h = redelegation_holds p v t0 n0 base earlier w sound reached h m.delegator m.source m.target m.amount
  effect_holds (msg.CancelUnbonding m) w sound reached h = cancellation_holds p v t0 n0 base earlier w sound reached h m.delegator m.validator m.amount m.creation_height
  effect_holds (msg.WithdrawReward m) w sound reached h = reward_holds p v t0 n0 base earlier w sound reached h m.delegator m.validator
  effect_holds (msg.Send m) w sound reached h = silent (effect_of (msg.Send m)) w (send_keeps w.hooks.0.1 (unheard w) h m.from m.to m.coins)
  effect_holds (msg.EditValidator m) w sound reached h = silent (effect_of (msg.EditValidator m)) w (edit_keeps w.hooks.0.1 (unheard w) h m)
  effect_holds (msg.Unjail m) w sound reached h = silent (effect_of (msg.Unjail m)) w (unjail_keeps w.hooks.0.1 (unheard w) h m.validator)
  effect_holds (msg.WithdrawCommission m) w sound reached h = silent (effect_of (msg.WithdrawCommission m)) w (commission_keeps w.hooks.0.1 (unheard w) h m.validator)
  effect_holds (msg.SetWithdrawAddress m) w sound reached h = silent (effect_of (msg.SetWithdrawAddress m)) w (payee_keeps w.hooks.0.1 (unheard w) h m.delegator m.withdraw)
  effect_holds (msg.FundCommunityPool m) w sound reached h = silent (effect_of (msg.FundCommunityPool m)) w (fund_keeps w.hooks.0.1 (unheard w) h m.depositor m.coins)
  effect_holds (msg.CommunityPoolSpend m) w sound reached h = silent (effect_of (msg.CommunityPoolSpend m)) w (spend_keeps w.hooks.0.1 (unheard w) h m.authority m.recipient m.coins)
  effect_holds (msg.UpdateParams m) w sound reached h = silent (effect_of (msg.UpdateParams m)) w (update_keeps w.hooks.0.1 (unheard w) h m.authority m.params)
