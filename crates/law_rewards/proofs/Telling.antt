-- In a sound state whose accounts are reached, what a message logs is fair, and it tells the payments that it logs.
use Rattle.std.proofs.Common.{◌≡◌, ℕ, ◌≤◌, ◌==◌, Bool, true, false, List, [], ◌∷◌, ◌++◌, length, refl, sym, ap, subst, ◌∙◌, Some, None, Result, Ok, Err, append_assoc, IfOk, if◌then◌else◌, not, nat_lt, nat_le, find, is_some}
use Rattle.std.specs.Prelude.{⊤}
use Rattle.base_decimals.specs.Decimals.{trunc_of}
use Rattle.base_types.specs.declared.{account.{Account.{Account as Holder}}, status.BondStatus.TheVariants.Unbonded}
use Rattle.base_types.specs.Orders.{addr_cmp}
use Rattle.base_types.specs.declared.account.Account.TheVariants as account
use Rattle.base_types.specs.declared.account.Module.TheVariants as holder
use Rattle.base_coins.specs.{declared.coin.Coin.Coin, Coins.Money}
use Rattle.base_shares.specs.Shares.{amount_out, has_invalid_rate, value_even_of}
use Rattle.base_roles.specs.declared.{entities.Validator.Validator, facts.Fact.Fact}
use Rattle.base_roles.specs.declared.messages.{CreateValidator.CreateValidator, EditValidator.EditValidator}
use Rattle.base_roles.specs.declared.refusal.Refusal.{Refusal}
use Rattle.base_roles.specs.declared.refusal.Refusal.TheVariants.{InsufficientFunds, WrongDenom, NonPositive, NoValidator, ValidatorExists, ConsKeyExists, CommissionRange, CommissionBelowMinimum, MinSelfNotPositive, NoDelegation, NoCommission, PoolTooSmall, NotAuthority, Overflow, ModuleRecipient, FeeUnpaid, SelfRedelegation, Transitive, RedelegationsFull, TinyRedelegation, UnbondingsFull, RateInvalid, Jailed, NoEntry, CancelTooMuch, NoSelfDelegation, SelfBelowMinimum, NotJailed}
use Rattle.base_roles.specs.{Entries.at, Holdings.is_short, Log.Log, Orders.same_addr}
use Rattle.base_roles.specs.Staked.{Staked, validator_at, validator_by_cons, delegation, is_bonded}
use Rattle.base_roles.specs.{Flow.{◌>>=◌, ◌>>◌, stopping}, World.{View, World, noted, sent, over_view}}
use Rattle.base_roles.specs.declared.params.Params.{Params}
use Rattle.base_roles.specs.declared.facts.Fact.TheVariants as fact
use Rattle.base_roles.specs.Log as log
use Rattle.rule_modules.specs.Amounts.{bond_coins, in_units, is_empty}
use Rattle.rule_modules.specs.{Chain.{Hooks, State, chain_told, staked_in, with_staked}, Parameters.update_params}
use Rattle.rule_modules.specs.Delegating.{is_wrong, wallet, pool, shares_given, delegated, delegated_by}
use Rattle.rule_modules.specs.Distribution.{Shared, started, payee_of, paid_to, reward_withdrawn, reward_renewed}
use Rattle.rule_modules.specs.Effects.{coins_sent, send, create_validator, edit_validator, delegate, undelegate, begin_redelegate, cancel_unbonding, unjail, withdraw_reward, withdraw_commission, set_withdraw_address, fund_community_pool, community_pool_spend, fee_paid}
use Rattle.rule_modules.specs.Purses.{pooled_told, pool_joined, commission_due, is_above_pool}
use Rattle.rule_modules.specs.{Redelegations.{redelegations_of, is_transitive, redelegated}, Sound.IsSound}
use Rattle.rule_modules.specs.Unbonding.{shares_to_unbond, unbonded_shares}
use Rattle.rule_modules.specs.Unbondings.{entries_of, can_be_cancelled, undelegated, cancelled}
use Rattle.rule_modules.specs.Validators.{new_validator, are_out_of_range, created, edited}
use Rattle.rule_modules.specs.Window.{may_leave, signing_of, unjailed}
use Rattle.rule_modules.specs.Withdrawals.{reward_taken, commission_withdrawn, payee_set, pool_funded, pool_spent, is_module}
use Rattle.rule_modules.proofs.{ParameterLemmas.on_update, GoingLemmas.{on_bind, on_next, on_stop, on_found, on_lifted}}
use Rattle.law_rewards.specs.{States.AreReached, WithdrawalLaws.{PaysFairly, PaysWhereReached, MessagesPayFairly}}
use Rattle.law_rewards.proofs.{Claims.ready_in, Beginnings.{if_ok, under_own}, Entries.put_there, Hooked.none_of}
use Rattle.law_rewards.proofs.{Growing.apart_back, Creating.{state_made, made_at, made_ready}, Undelegating.within_held}
use Rattle.law_rewards.proofs.Fits.{LeavesFit, fits_sound, ready_fits, unbonded_fits, unbonded_then}
use Rattle.law_rewards.proofs.Paying.{Pays, pays_then, pays_nothing, pays_logged, pays_noted, pays_sent, pays_pooled, pays_started, pays_withdrawn, withdrawn_rests}
use Rattle.law_rewards.proofs.Staking.{PaysIn, pays_delegated, pays_unbonded}

-- ---- steps one after another, where they go on

pub next_if : {A B E : Type 0} (r : Result A E) (next : Result B E) (Q : B → Type 0) → IfOk next Q → IfOk (r >> next) Q
next_if r next Q h = on_next r next Q (λ a e. h)

pub lifted_if : {A D E : Type 0} (g : D → E) (r : Result A D) (Q : A → Type 0) → IfOk r Q → IfOk (stopping g r) Q
lifted_if g (Ok a) Q h = h
lifted_if g (Err d) Q h = tt

pub on_then : {A B E : Type 0} (r : Result A E) (f : A → Result B E) (R : A → Type 0) (Q : B → Type 0) → IfOk r R → ((a : A) → R a → IfOk (f a) Q) → IfOk (r >>= f) Q
on_then (Ok a) f R Q p h = h a p
on_then (Err e) f R Q p h = tt

-- ---- what a step tells, of a state

pub fairly : (w new : State) → PaysIn w new → PaysFairly w new
fairly w new p = record { more = p.more; log_is = p.log_is; told = p.told; facts_are = p.facts_are; fair = p.fair; payments = p.payments; sent = p.sent }

-- a validator that is found, and its own place
record IsKnown (w : State) (o : List ℕ) (v : Validator) : Type 0 where
  own : o ≡ v.operator
  found : validator_at w.mine.staked v.operator ≡ Some v

known : (w : State) (o : List ℕ) (v : Validator) → IsSound w → validator_at w.mine.staked o ≡ Some v → IsKnown w o v
known w o v sound e = let own : o ≡ v.operator = under_own w o v sound e in record { own = own; found = ap (validator_at w.mine.staked) (sym own) ∙ e }

-- ---- messages that pay no reward

unlogged : (w : State) (fs : List Fact) → Pays w.log w.view.facts w.log fs → Pays w.log w.view.facts (w.log ++ []) fs
unlogged w fs p = pays_then w.log w.log (w.log ++ []) w.view.facts fs fs p (pays_logged w.log [] fs tt refl)

fee_pays : (payer : List ℕ) (fee : Money) (w : State) → IfOk (fee_paid payer fee w) (PaysIn w)
fee_pays payer fee w = on_stop (is_short w.view.bank (account.User payer) fee) FeeUnpaid _ _ (λ a. pays_sent w.log (account.User payer) (account.Module holder.FeeCollector) fee w.view.facts)

send_pays : (from : List ℕ) (to : Holder) (coins : Money) (w : State) → IfOk (send from to coins w) (PaysIn w)
send_pays from to coins w =
    on_then (coins_sent from to coins w.view) _ (λ v. Pays w.log w.view.facts w.log v.facts) _
    (on_stop (is_empty coins) NonPositive _ _ (λ a. on_stop (is_module to) ModuleRecipient _ _ (λ b. on_stop (is_short w.view.bank (account.User from) coins) InsufficientFunds _ _ (λ c.
    pays_sent w.log (account.User from) to coins w.view.facts))))
    (λ v k. k)

edit_pays : (m : EditValidator) (w : State) → IfOk (edit_validator m w) (PaysIn w)
edit_pays m w = on_bind (edited m w.view.ctx.time w.view.ctx.params.min_commission_rate w.mine.staked) _ _ (λ s e. pays_nothing w.log w.view.facts)

unjail_pays : (operator : List ℕ) (w : State) → IfOk (unjail operator w) (PaysIn w)
unjail_pays operator w =
    on_then (unjailed operator w.hooks.1 w.mine.staked w.view) _ (λ x. Pays w.log w.view.facts w.log x.2.facts) _
    (on_found (validator_at w.mine.staked operator) NoValidator _ _ (λ v f. on_found (delegation w.mine.staked operator operator) NoSelfDelegation _ _ (λ held g.
    on_stop (nat_lt (trunc_of (value_even_of v.tokens v.shares held)) v.min_self) SelfBelowMinimum _ _ (λ a. on_stop (not v.jailed) NotJailed _ _ (λ b.
    next_if (may_leave w.view.ctx.time (signing_of w.hooks.1 v.cons)) _ _ (pays_noted w.log w.view.facts (fact.Unjailed operator) (λ who op to reward coins e. cc)))))))
    (λ x k. k)

commission_pays : (operator : List ℕ) (w : State) → IfOk (withdraw_commission operator w) (PaysIn w)
commission_pays operator w =
    on_then (commission_withdrawn operator w.hooks.0 w.view) _ (λ x. Pays w.log w.view.facts (w.log ++ x.3) x.2.facts) _
    (on_found (at addr_cmp w.hooks.0.purses.purses operator) NoCommission _ _ (λ purse f. on_stop (is_empty purse.commission) NoCommission _ _ (λ b.
    let coins : Money = commission_due purse in
    let to : List ℕ = payee_of w.hooks.0 operator in
    let u : View = paid_to to coins w.view in
    let out : List Fact = (noted (fact.Commission operator to coins) u).facts in
    let m : Log = (operator, log.commission (in_units coins)) ∷ [] in
    pays_then w.log w.log (w.log ++ m) w.view.facts u.facts out (pays_sent w.log (account.Module holder.Distribution) (account.User to) coins w.view.facts)
    (pays_then w.log w.log (w.log ++ m) u.facts out out (pays_noted w.log u.facts (fact.Commission operator to coins) (λ who op t reward cs e. cc)) (pays_logged w.log m out (tt, tt) refl)))))
    (λ x k. k)

payee_pays : (who : List ℕ) (to : Holder) (w : State) → IfOk (set_withdraw_address who to w) (PaysIn w)
payee_pays who to w = on_bind (payee_set who to w.view.ctx.params w.hooks.0) _ _ (λ d e. pays_logged w.log [] w.view.facts tt refl)

fund_pays : (who : List ℕ) (coins : Money) (w : State) → IfOk (fund_community_pool who coins w) (PaysIn w)
fund_pays who coins w =
    on_then (pool_funded who coins w.hooks.0 w.view) _ (λ x. Pays w.log w.view.facts w.log x.2.facts) _
    (on_stop (is_empty coins) NonPositive _ _ (λ a. on_stop (is_short w.view.bank (account.User who) coins) InsufficientFunds _ _ (λ b. on_lifted Overflow (pool_joined (in_units coins) w.hooks.0.purses) _ _ (λ p e.
    let u : View = sent (account.User who) (account.Module holder.Distribution) coins w.view in
    pays_then w.log w.log w.log w.view.facts u.facts (pooled_told (in_units coins) u.facts) (pays_sent w.log (account.User who) (account.Module holder.Distribution) coins w.view.facts) (pays_pooled w.log (in_units coins) u.facts)))))
    (λ x k. unlogged w x.2.facts k)

spend_pays : (authority : List ℕ) (to : Holder) (coins : Money) (w : State) → IfOk (community_pool_spend authority to coins w) (PaysIn w)
spend_pays authority to coins w =
    on_then (pool_spent authority to coins w.hooks.0 w.view) _ (λ x. Pays w.log w.view.facts w.log x.2.facts) _
    (on_stop (not (same_addr authority w.view.ctx.params.authority)) NotAuthority _ _ (λ a. on_stop (is_empty coins) NonPositive _ _ (λ b. on_stop (is_module to) ModuleRecipient _ _ (λ c. on_stop (is_above_pool coins w.hooks.0.purses) PoolTooSmall _ _ (λ d.
    pays_sent w.log (account.Module holder.Distribution) to coins w.view.facts)))))
    (λ x k. unlogged w x.2.facts k)

update_pays : (authority : List ℕ) (p : Params) (w : State) → IfOk (update_params authority p w) (PaysIn w)
update_pays authority p w = on_update authority p w (PaysIn w) (λ range fixed. pays_noted w.log w.view.facts (fact.ParamsChanged authority) (λ who op to reward coins e. cc))

-- ---- messages that do

reward_pays : (who operator : List ℕ) (w : State) → IsSound w → AreReached w → IfOk (withdraw_reward who operator w) (PaysIn w)
reward_pays who operator w sound reached =
    on_then (reward_taken w.mine.staked who operator w.hooks.0 w.view) _ (λ x. Pays w.log w.view.facts (w.log ++ x.3) x.2.facts) _
    (on_found (validator_at w.mine.staked operator) NoValidator _ _ (λ v f. on_found (delegation w.mine.staked who operator) NoDelegation _ _ (λ shares g.
    let k : IsKnown w operator v = known w operator v sound f in
    lifted_if Overflow (reward_renewed v who shares w.hooks.0 w.view) _ (on_bind (reward_withdrawn v who shares w.hooks.0 w.view) _ _ (λ y e.
    let s : Shared × View × Log = started v who shares y.1 y.2 in
    subst (λ m. Pays w.log w.view.facts m s.1.facts) (append_assoc w.log y.3 s.2)
    (pays_then w.log (w.log ++ y.3) ((w.log ++ y.3) ++ s.2) w.view.facts y.2.facts s.1.facts
    (pays_withdrawn w v who shares y (ready_in w v.operator sound) k.found (ap (delegation w.mine.staked who) (sym k.own) ∙ g) reached e) (pays_started (w.log ++ y.3) v who shares y.1 y.2 (withdrawn_rests v who shares w.hooks.0 w.view y w.log e))))))))
    (λ x k. k)

delegate_pays : (who operator : List ℕ) (coin : Coin) (w : State) → IsSound w → AreReached w → IfOk (delegate who operator coin w) (PaysIn w)
delegate_pays who operator coin w sound reached =
    on_then (delegated_by chain_told who operator coin (staked_in w)) _ (λ x. PaysIn w x.1) _
    (on_stop (coin.amount == 0) NonPositive _ _ (λ a. on_found (validator_at w.mine.staked operator) NoValidator _ _ (λ v f. on_stop (is_wrong coin w.view) WrongDenom _ _ (λ b.
    if_ok (λ x. PaysIn w x.1) (delegated chain_told v who coin.amount wallet (staked_in w)) (λ x e. pays_delegated w v who coin.amount wallet x (ready_in w v.operator sound) (known w operator v sound f).found reached e)))))
    (λ x k. k)

cancel_pays : (who operator : List ℕ) (coin : Coin) (height : ℕ) (w : State) → IsSound w → AreReached w → IfOk (cancel_unbonding who operator coin height w) (PaysIn w)
cancel_pays who operator coin height w sound reached =
    on_then (cancelled chain_told who operator coin height w.mine.unbondings (staked_in w)) _ (λ x. PaysIn w x.2) _
    (on_stop (coin.amount == 0) NonPositive _ _ (λ a. on_stop (is_wrong coin w.view) WrongDenom _ _ (λ b. on_found (validator_at w.mine.staked operator) NoValidator _ _ (λ v f.
    on_stop (has_invalid_rate v.tokens v.shares) RateInvalid _ _ (λ c. on_stop v.jailed Jailed _ _ (λ d. on_found (find (can_be_cancelled height w.view.ctx.time) (entries_of w.mine.unbondings who operator)) NoEntry _ _ (λ en g.
    on_stop (nat_lt en.balance coin.amount) CancelTooMuch _ _ (λ h. on_bind (delegated chain_told v who coin.amount (pool Unbonded) (staked_in w)) _ _ (λ x e.
    pays_delegated w v who coin.amount (pool Unbonded) x (ready_in w v.operator sound) (known w operator v sound f).found reached e)))))))))
    (λ x k. k)

pub undelegate_pays : (who operator : List ℕ) (coin : Coin) (w : State) → IsSound w → AreReached w → IfOk (undelegate who operator coin w) (PaysIn w)
undelegate_pays who operator coin w sound reached =
    on_then (undelegated chain_told who operator coin w.mine.unbondings (staked_in w)) _ (λ x. PaysIn w x.2) _
    (on_stop (coin.amount == 0) NonPositive _ _ (λ a. on_found (validator_at w.mine.staked operator) NoValidator _ _ (λ v f.
    on_bind (shares_to_unbond (delegation w.mine.staked who operator) v coin.amount) _ _ (λ p g. on_stop (is_wrong coin w.view) WrongDenom _ _ (λ b.
    on_stop (nat_le w.view.ctx.params.max_entries (length (entries_of w.mine.unbondings who operator))) UnbondingsFull _ _ (λ c. on_lifted Overflow (unbonded_shares chain_told v who p.0 p.1 (staked_in w)) _ _ (λ y e.
    let k : IsKnown w operator v = known w operator v sound f in
    let held : (delegation w.mine.staked who operator ≡ Some p.0) × (p.1 ≤ p.0) = within_held (delegation w.mine.staked who operator) v coin.amount p g in
    moved v y (is_bonded v.status) (pays_unbonded w v who p.0 p.1 y (ready_in w v.operator sound) k.found (ap (delegation w.mine.staked who) (sym k.own) ∙ held.0) reached e))))))))
    (λ x k. k)
  where
    moved : (v : Validator) (y : ℕ × World Staked Hooks) (b : Bool) → PaysIn w y.1 → PaysIn w (if b then over_view (sent (account.Module holder.Bonded) (account.Module holder.NotBonded) (bond_coins w.view y.0)) y.1 else y.1)
    moved v y true p =
        let out : World Staked Hooks = over_view (sent (account.Module holder.Bonded) (account.Module holder.NotBonded) (bond_coins w.view y.0)) y.1 in
        pays_then w.log y.1.log y.1.log w.view.facts y.1.view.facts out.view.facts p (pays_sent y.1.log (account.Module holder.Bonded) (account.Module holder.NotBonded) (bond_coins w.view y.0) y.1.view.facts)
    moved v y false p = p

redelegate_pays : (who source target : List ℕ) (coin : Coin) (w : State) → IsSound w → AreReached w → IfOk (begin_redelegate who source target coin w) (PaysIn w)
redelegate_pays who source target coin w sound reached =
    on_then (redelegated chain_told who source target coin w.mine.redelegations (staked_in w)) _ (λ x. PaysIn w x.2) _
    (on_stop (coin.amount == 0) NonPositive _ _ (λ a. on_found (validator_at w.mine.staked source) NoValidator _ _ (λ v f. on_bind (shares_to_unbond (delegation w.mine.staked who source) v coin.amount) _ _ (λ p g.
    on_stop (is_wrong coin w.view) WrongDenom _ _ (λ b. on_stop (same_addr source target) SelfRedelegation _ _ (λ other. on_found (validator_at w.mine.staked target) NoValidator _ _ (λ t there.
    on_stop (is_transitive w.mine.redelegations who source) Transitive _ _ (λ c. on_stop (nat_le w.view.ctx.params.max_entries (length (redelegations_of w.mine.redelegations who source target))) RedelegationsFull _ _ (λ d.
    on_stop (amount_out v.tokens v.shares p.1 == 0) TinyRedelegation _ _ (λ h. next_if (shares_given t (amount_out v.tokens v.shares p.1)) _ _
    (on_lifted Overflow (unbonded_shares chain_told v who p.0 p.1 (staked_in w)) _ _ (λ y e.
    let k : IsKnown w source v = known w source v sound f in
    let j : IsKnown w target t = known w target t sound there in
    let held : (delegation w.mine.staked who source ≡ Some p.0) × (p.1 ≤ p.0) = within_held (delegation w.mine.staked who source) v coin.amount p g in
    let own : delegation w.mine.staked who v.operator ≡ Some p.0 = ap (delegation w.mine.staked who) (sym k.own) ∙ held.0 in
    let apart : same_addr t.operator v.operator ≡ false = (λ i. same_addr (sym j.own i) (sym k.own i)) ∙ apart_back source target other in
    let m : State = with_staked w.mine y.1 in
    let after : AreReached m = unbonded_then w v who p.0 p.1 y (fits_sound w sound) k.found own held.1 reached e in
    let l : LeavesFit w.mine.staked v.operator y.1 = unbonded_fits (staked_in w) v who p.0 p.1 y (fits_sound w sound) k.found e in
    let still : validator_at m.mine.staked t.operator ≡ Some t = l.others t.operator apart ∙ j.found in
    let first : PaysIn w y.1 = pays_unbonded w v who p.0 p.1 y (ready_in w v.operator sound) k.found own reached e in
    on_bind (delegated chain_told t who y.0 (pool v.status) y.1) _ _ (λ z q.
    pays_then w.log y.1.log z.1.log w.view.facts y.1.view.facts z.1.view.facts first (pays_delegated m t who y.0 (pool v.status) z (ready_fits m t.operator t l.fits still) still after q))))))))))))))
    (λ x k. k)

create_pays : (m : CreateValidator) (w : State) → IsSound w → AreReached w → IfOk (create_validator m w) (PaysIn w)
create_pays m w sound reached =
    let v : Validator = new_validator m w.view.ctx.time in
    let x : State = state_made w v in
    let end : ℕ × World Staked Hooks → Result (⊤ × World Staked Hooks) Refusal = λ y. Ok (tt, y.1) in
    on_then (created chain_told m (staked_in w)) _ (λ z. PaysIn w z.1) _
    (on_stop (m.amount.amount == 0) NonPositive _ _ (λ a. on_stop (are_out_of_range m) CommissionRange _ _ (λ b. on_stop (m.min_self_delegation == 0) MinSelfNotPositive _ _ (λ c.
    on_stop (nat_lt m.amount.amount m.min_self_delegation) SelfBelowMinimum _ _ (λ d. on_stop (nat_lt m.rate w.view.ctx.params.min_commission_rate) CommissionBelowMinimum _ _ (λ e.
    on_stop (is_some (validator_at w.mine.staked m.validator)) ValidatorExists _ _ (λ new. on_stop (is_some (validator_by_cons w.mine.staked m.cons)) ConsKeyExists _ _ (λ f. on_stop (is_wrong m.amount w.view) WrongDenom _ _ (λ g.
    let none : validator_at w.mine.staked m.validator ≡ None = none_of (validator_at w.mine.staked m.validator) new in
    let made : AreReached x = λ d u there. made_at d w m u sound none reached there (same_addr u.operator m.validator) refl in
    let found : validator_at x.mine.staked m.validator ≡ Some v = put_there m.validator v w.mine.staked.validators in
    let last : IfOk (delegated chain_told v m.validator m.amount.amount wallet (staked_in x) >>= end) (λ z. PaysIn w z.1) =
    on_bind (delegated chain_told v m.validator m.amount.amount wallet (staked_in x)) end (λ z. PaysIn w z.1) (λ y h.
    pays_then w.log x.log y.1.log w.view.facts x.view.facts y.1.view.facts (pays_logged w.log ((m.validator, log.made) ∷ []) w.view.facts (tt, tt) refl)
    (pays_delegated x v m.validator m.amount.amount wallet y (made_ready w v sound) found made h)) in
    last)))))))))
    (λ z k. k)

-- ---- all of them

where_reached_by : {E : Type 0} (w : State) (r : Result State E) → (AreReached w → IfOk r (PaysIn w)) → IfOk r (PaysWhereReached w)
where_reached_by w (Ok new) h = λ reached. fairly w new (h reached)
where_reached_by w (Err e) h = tt

pub where_reached : {E : Type 0} (f : State → Result State E) (w : State) → (AreReached w → IfOk (f w) (PaysIn w)) → IfOk (f w) (PaysWhereReached w)
where_reached f w h = where_reached_by w (f w) h

pub messages_pay_fairly : MessagesPayFairly
messages_pay_fairly = record {
  fees = λ payer fee m w sound. where_reached (fee_paid payer fee) w (λ reached. fee_pays payer fee w);
  sends = λ from to coins m w sound. where_reached (send from to coins) w (λ reached. send_pays from to coins w);
  creates = λ m w sound. where_reached (create_validator m) w (create_pays m w sound);
  edits = λ m w sound. where_reached (edit_validator m) w (λ reached. edit_pays m w);
  delegates = λ who operator coin w sound. where_reached (delegate who operator coin) w (delegate_pays who operator coin w sound);
  undelegates = λ who operator coin w sound whole. where_reached (undelegate who operator coin) w (undelegate_pays who operator coin w sound);
  redelegates = λ who source target coin w sound. where_reached (begin_redelegate who source target coin) w (redelegate_pays who source target coin w sound);
  cancels = λ who operator coin height w sound. where_reached (cancel_unbonding who operator coin height) w (cancel_pays who operator coin height w sound);
  unjails = λ operator w sound. where_reached (unjail operator) w (λ reached. unjail_pays operator w);
  withdraws = λ who operator w sound. where_reached (withdraw_reward who operator) w (reward_pays who operator w sound);
  commissions = λ operator w sound. where_reached (withdraw_commission operator) w (λ reached. commission_pays operator w);
  payees = λ who to w sound. where_reached (set_withdraw_address who to) w (λ reached. payee_pays who to w);
  funds = λ who coins m w sound. where_reached (fund_community_pool who coins) w (λ reached. fund_pays who coins w);
  spends = λ authority to coins m w sound. where_reached (community_pool_spend authority to coins) w (λ reached. spend_pays authority to coins w);
  updates = λ authority p w sound. where_reached (update_params authority p) w (λ reached. update_pays authority p w);
}
