-- Like states give to each message what is alike: states that are so again, or the same refusal.
use Rattle.std.proofs.Common.{◌≡◌, ◌∙◌, ℕ, Bool, true, false, List, [], Option, Some, None, Result, Ok, Err, refl, sym, ap, subst, IfOk, not, nat_lt}
use Rattle.std.specs.Prelude.{⊤}
use Rattle.base_decimals.specs.Decimals.{trunc_of}
use Rattle.base_types.specs.{declared.account.Account.Account, Orders.addr_cmp}
use Rattle.base_types.specs.declared.account.Account.TheVariants as account
use Rattle.base_coins.specs.{declared.coin.Coin.Coin, Coins.Money}
use Rattle.base_shares.specs.Shares.{value_even_of}
use Rattle.base_roles.specs.declared.facts.Fact.TheVariants as fact
use Rattle.base_roles.specs.declared.messages.{CreateValidator.CreateValidator, EditValidator.EditValidator}
use Rattle.base_roles.specs.declared.{params.{Ctx.Ctx, Params.Params}, refusal.Refusal.Refusal}
use Rattle.base_roles.specs.declared.refusal.Refusal.TheVariants.{InsufficientFunds, ModuleRecipient, NoCommission, NoDelegation, NoSelfDelegation, NoValidator, NonPositive, NotAuthority, NotJailed, Overflow, PoolTooSmall, SelfBelowMinimum, WithdrawFixed}
use Rattle.base_roles.specs.{Entries.at, Flow.{◌>>=◌, ◌>>◌, or_stop, stop_if, stopping}, Holdings.is_short, Log.Log}
use Rattle.base_roles.specs.{Orders.same_addr, Staked.{Staked, delegation, put_validator, validator_at}}
use Rattle.base_roles.specs.{World.{View, Told, World, noted}, declared.calls.Hook.Hook}
use Rattle.base_messages.specs.declared.message.Msg.{Msg}
use Rattle.base_messages.specs.declared.message.Msg.TheVariants as msg
use Rattle.rule_modules.specs.{Amounts.{in_units, is_empty}, BondedSet.{set_updated, validators_matured}}
use Rattle.rule_modules.specs.Chain.{Hooks, Stakes, State, chain_told, maturing_step, set_step, staked_in}
use Rattle.rule_modules.specs.{Delegating.delegated_by, Distribution.{Shared, reward_renewed}}
use Rattle.rule_modules.specs.Effects.{begin_redelegate, cancel_unbonding, coins_sent, community_pool_spend, create_validator, delegate, edit_validator, fund_community_pool, send, set_withdraw_address, undelegate, unjail, withdraw_commission, withdraw_reward}
use Rattle.rule_modules.specs.{Parameters.{may_update, update_params}, Purses.{is_above_pool, pool_joined}}
use Rattle.rule_modules.specs.Redelegations.{RedelegationLists, redelegated}
use Rattle.rule_modules.specs.{Unbondings.{UnbondingLists, cancelled, undelegated}, Validators.{created, edited}}
use Rattle.rule_modules.specs.Window.{Window, may_leave, signing_of, unjailed}
use Rattle.rule_modules.specs.Withdrawals.{commission_withdrawn, is_module, payee_set, pool_funded, pool_spent, reward_taken}
use Rattle.rule_machine.specs.{Messages.effect_of, Promises.MessageHasCoins}
use Rattle.law_soundness.proofs.{Creating.create_fits, Delegating.delegate_fits, Leaving.{cancel_fits, undelegate_fits}}
use Rattle.law_soundness.proofs.{Moves.{payee_fits, send_fits}, Points.{AreAllWhole, StateFits, StateLeft}}
use Rattle.law_soundness.proofs.{Pool.{commission_fits, fund_fits, spend_fits}, Redelegating.redelegate_fits}
use Rattle.law_soundness.proofs.{Rewards.reward_fits, Standing.{edit_fits, unjail_fits}}
use Rattle.chain_modules.proofs.CarryLemmas.{cancelled_carried, carried, carried_by, carried_with, created_carried, delegated_by_carried, matured_all_carried, redelegated_carried, set_carried, undelegated_carried}
use Rattle.store_resuming.proofs.SharedLemmas.{FourAlike, HooksAlike, SharedAlike, beside, chain_tells, renewed_alike, shared_by, with_rewards}
use Rattle.store_resuming.proofs.SideLemmas.{AreAlike, Both, WorldsAlike, from_two, left, right, same_left, same_next_alike, same_right, same_then_alike, sides_alike, stopping_alike, then_alike, tighter_alike, two}
use Rattle.store_resuming.proofs.WindowLemmas.{WindowsAlike, found_alike, resized_alike, same_leave}

-- the window of the parameters
abbrev pub window_at : State → ℕ
window_at p = p.view.ctx.params.signed_blocks_window

-- All is the same of two states but what is held of rewards and of votes, which is alike: of votes the last ones of a window are the
-- same.
abbrev pub LooseAlike : ℕ → State → State → Type 0
LooseAlike window p q = WorldsAlike (HooksAlike window) p q

-- of the window of the parameters
abbrev pub StatesAlike : State → State → Type 0
StatesAlike p q = LooseAlike (window_at p) p q

-- all of one state, but the rewards, the signing records and the log of another
abbrev pub over : State → State → State
over p q = record { mine = p.mine; hooks = (with_rewards q.hooks.0.rewards p.hooks.0, q.hooks.1); view = p.view; log = q.log }

pub state_by : (window : ℕ) (p q : State) → LooseAlike window p q → (F : State → Type 0) → F (over p q) → F q
state_by window p q a F h = subst F path h
  where
    path : over p q ≡ q
    path = λ i. record {
      mine = a.mine i;
      hooks = (record { rewards = q.hooks.0.rewards; purses = a.hooks.0.purses i; withdraw = a.hooks.0.withdraw i }, q.hooks.1);
      view = a.view i;
      log = q.log;
    }

pub over_hooks : (window : ℕ) (p q : State) → LooseAlike window p q → HooksAlike window p.hooks (over p q).hooks
over_hooks window p q a = (beside p.hooks.0 q.hooks.0 a.hooks.0, a.hooks.1)

module _ (window : ℕ) where
  abbrev R : Hooks → Hooks → Type 0
  R = HooksAlike window

  abbrev Two : Type 0
  Two = Both R

  abbrev tells : Two → Hook → View → Told Two
  tells = two R chain_told (chain_tells window)

  -- the same answer beside like worlds, and the same two answers
  abbrev ByAlike : {A : Type 0} → A × World Staked Hooks → A × World Staked Hooks → Type 0
  ByAlike a b = (a.0 ≡ b.0) × WorldsAlike R a.1 b.1

  abbrev WithAlike : {A U : Type 0} → A × U × World Staked Hooks → A × U × World Staked Hooks → Type 0
  WithAlike a b = (a.0 ≡ b.0) × (a.1 ≡ b.1) × WorldsAlike R a.2 b.2

  staked_alike : (p q : State) → LooseAlike window p q → WorldsAlike R (staked_in p) (staked_in q)
  staked_alike p q a = record { mine = ap (λ (c : Stakes). c.staked) a.mine; hooks = a.hooks; view = a.view }

  abbrev stood : World Staked Hooks → UnbondingLists → RedelegationLists → State
  stood x u r = record { mine = record { staked = x.mine; unbondings = u; redelegations = r }; hooks = x.hooks; view = x.view; log = x.log }

  stood_alike : (x y : World Staked Hooks) (u v : UnbondingLists) (r s : RedelegationLists) → WorldsAlike R x y → u ≡ v → r ≡ s → LooseAlike window (stood x u r) (stood y v s)
  stood_alike x y u v r s k e f = record { mine = λ i. record { staked = k.mine i; unbondings = e i; redelegations = f i }; hooks = k.hooks; view = k.view }

  same_unbondings : (p q : State) → LooseAlike window p q → p.mine.unbondings ≡ q.mine.unbondings
  same_unbondings p q a = ap (λ (c : Stakes). c.unbondings) a.mine

  same_redelegations : (p q : State) → LooseAlike window p q → p.mine.redelegations ≡ q.mine.redelegations
  same_redelegations p q a = ap (λ (c : Stakes). c.redelegations) a.mine

  -- ---- messages that call hooks

  created_two : (m : CreateValidator) (x y : World Staked Hooks) → WorldsAlike R x y → AreAlike (ByAlike {A = ⊤}) (created chain_told m x) (created chain_told m y)
  created_two m x y a =
      from_two R (ByAlike {A = ⊤}) (created chain_told m) (created tells m) (λ k c. carried_by (left R) k c) (λ k c. carried_by (right R) k c)
      (λ k w. created_carried (left R) k tells chain_told (same_left R chain_told (chain_tells window) k) m w)
      (λ k w. created_carried (right R) k tells chain_told (same_right R chain_told (chain_tells window) k) m w)
      (λ k l c. (refl, sides_alike R k l c.1)) x y a

  pub create_alike : (m : CreateValidator) (p q : State) → LooseAlike window p q → AreAlike (LooseAlike window) (create_validator m p) (create_validator m q)
  create_alike m p q a =
      then_alike (ByAlike {A = ⊤}) (LooseAlike window) (created chain_told m (staked_in p)) (created chain_told m (staked_in q)) _ _ (created_two m (staked_in p) (staked_in q) (staked_alike p q a))
      (λ x y k. stood_alike x.1 y.1 p.mine.unbondings q.mine.unbondings p.mine.redelegations q.mine.redelegations k.1 (same_unbondings p q a) (same_redelegations p q a))

  delegated_two : (who operator : List ℕ) (coin : Coin) (x y : World Staked Hooks) → WorldsAlike R x y → AreAlike (ByAlike {A = ℕ}) (delegated_by chain_told who operator coin x) (delegated_by chain_told who operator coin y)
  delegated_two who operator coin x y a =
      from_two R (ByAlike {A = ℕ}) (delegated_by chain_told who operator coin) (delegated_by tells who operator coin) (λ k c. carried_by (left R) k c) (λ k c. carried_by (right R) k c)
      (λ k w. delegated_by_carried (left R) k tells chain_told (same_left R chain_told (chain_tells window) k) who operator coin w)
      (λ k w. delegated_by_carried (right R) k tells chain_told (same_right R chain_told (chain_tells window) k) who operator coin w)
      (λ k l c. (refl, sides_alike R k l c.1)) x y a

  pub delegate_alike : (who operator : List ℕ) (coin : Coin) (p q : State) → LooseAlike window p q → AreAlike (LooseAlike window) (delegate who operator coin p) (delegate who operator coin q)
  delegate_alike who operator coin p q a =
      then_alike (ByAlike {A = ℕ}) (LooseAlike window) (delegated_by chain_told who operator coin (staked_in p)) (delegated_by chain_told who operator coin (staked_in q)) _ _
      (delegated_two who operator coin (staked_in p) (staked_in q) (staked_alike p q a))
      (λ x y k. stood_alike x.1 y.1 p.mine.unbondings q.mine.unbondings p.mine.redelegations q.mine.redelegations k.1 (same_unbondings p q a) (same_redelegations p q a))

  undelegated_two : (who operator : List ℕ) (coin : Coin) (u : UnbondingLists) (x y : World Staked Hooks) → WorldsAlike R x y
      → AreAlike (WithAlike {A = ℕ} {U = UnbondingLists}) (undelegated chain_told who operator coin u x) (undelegated chain_told who operator coin u y)
  undelegated_two who operator coin u x y a =
      from_two R (WithAlike {A = ℕ} {U = UnbondingLists}) (undelegated chain_told who operator coin u) (undelegated tells who operator coin u) (λ k c. carried_with (left R) k c) (λ k c. carried_with (right R) k c)
      (λ k w. undelegated_carried (left R) k tells chain_told (same_left R chain_told (chain_tells window) k) who operator coin u w)
      (λ k w. undelegated_carried (right R) k tells chain_told (same_right R chain_told (chain_tells window) k) who operator coin u w)
      (λ k l c. (refl, refl, sides_alike R k l c.2)) x y a

  pub undelegate_alike : (who operator : List ℕ) (coin : Coin) (p q : State) → LooseAlike window p q → AreAlike (LooseAlike window) (undelegate who operator coin p) (undelegate who operator coin q)
  undelegate_alike who operator coin p q a =
      then_alike (WithAlike {A = ℕ} {U = UnbondingLists}) (LooseAlike window) (undelegated chain_told who operator coin p.mine.unbondings (staked_in p)) (undelegated chain_told who operator coin q.mine.unbondings (staked_in q)) _ _
      (subst (λ (u : UnbondingLists). AreAlike (WithAlike {A = ℕ} {U = UnbondingLists}) (undelegated chain_told who operator coin p.mine.unbondings (staked_in p)) (undelegated chain_told who operator coin u (staked_in q))) (same_unbondings p q a)
      (undelegated_two who operator coin p.mine.unbondings (staked_in p) (staked_in q) (staked_alike p q a)))
      (λ x y k. stood_alike x.2 y.2 x.1 y.1 p.mine.redelegations q.mine.redelegations k.2 k.1 (same_redelegations p q a))

  cancelled_two : (who operator : List ℕ) (coin : Coin) (height : ℕ) (u : UnbondingLists) (x y : World Staked Hooks) → WorldsAlike R x y
      → AreAlike (WithAlike {A = ⊤} {U = UnbondingLists}) (cancelled chain_told who operator coin height u x) (cancelled chain_told who operator coin height u y)
  cancelled_two who operator coin height u x y a =
      from_two R (WithAlike {A = ⊤} {U = UnbondingLists}) (cancelled chain_told who operator coin height u) (cancelled tells who operator coin height u) (λ k c. carried_with (left R) k c) (λ k c. carried_with (right R) k c)
      (λ k w. cancelled_carried (left R) k tells chain_told (same_left R chain_told (chain_tells window) k) who operator coin height u w)
      (λ k w. cancelled_carried (right R) k tells chain_told (same_right R chain_told (chain_tells window) k) who operator coin height u w)
      (λ k l c. (refl, refl, sides_alike R k l c.2)) x y a

  pub cancel_alike : (who operator : List ℕ) (coin : Coin) (height : ℕ) (p q : State) → LooseAlike window p q → AreAlike (LooseAlike window) (cancel_unbonding who operator coin height p) (cancel_unbonding who operator coin height q)
  cancel_alike who operator coin height p q a =
      then_alike (WithAlike {A = ⊤} {U = UnbondingLists}) (LooseAlike window) (cancelled chain_told who operator coin height p.mine.unbondings (staked_in p)) (cancelled chain_told who operator coin height q.mine.unbondings (staked_in q)) _ _
      (subst (λ (u : UnbondingLists). AreAlike (WithAlike {A = ⊤} {U = UnbondingLists}) (cancelled chain_told who operator coin height p.mine.unbondings (staked_in p)) (cancelled chain_told who operator coin height u (staked_in q))) (same_unbondings p q a)
      (cancelled_two who operator coin height p.mine.unbondings (staked_in p) (staked_in q) (staked_alike p q a)))
      (λ x y k. stood_alike x.2 y.2 x.1 y.1 p.mine.redelegations q.mine.redelegations k.2 k.1 (same_redelegations p q a))

  redelegated_two : (who source target : List ℕ) (coin : Coin) (r : RedelegationLists) (x y : World Staked Hooks) → WorldsAlike R x y
      → AreAlike (WithAlike {A = ⊤} {U = RedelegationLists}) (redelegated chain_told who source target coin r x) (redelegated chain_told who source target coin r y)
  redelegated_two who source target coin r x y a =
      from_two R (WithAlike {A = ⊤} {U = RedelegationLists}) (redelegated chain_told who source target coin r) (redelegated tells who source target coin r) (λ k c. carried_with (left R) k c) (λ k c. carried_with (right R) k c)
      (λ k w. redelegated_carried (left R) k tells chain_told (same_left R chain_told (chain_tells window) k) who source target coin r w)
      (λ k w. redelegated_carried (right R) k tells chain_told (same_right R chain_told (chain_tells window) k) who source target coin r w)
      (λ k l c. (refl, refl, sides_alike R k l c.2)) x y a

  pub redelegate_alike : (who source target : List ℕ) (coin : Coin) (p q : State) → LooseAlike window p q → AreAlike (LooseAlike window) (begin_redelegate who source target coin p) (begin_redelegate who source target coin q)
  redelegate_alike who source target coin p q a =
      then_alike (WithAlike {A = ⊤} {U = RedelegationLists}) (LooseAlike window) (redelegated chain_told who source target coin p.mine.redelegations (staked_in p)) (redelegated chain_told who source target coin q.mine.redelegations (staked_in q)) _ _
      (subst (λ (r : RedelegationLists). AreAlike (WithAlike {A = ⊤} {U = RedelegationLists}) (redelegated chain_told who source target coin p.mine.redelegations (staked_in p)) (redelegated chain_told who source target coin r (staked_in q))) (same_redelegations p q a)
      (redelegated_two who source target coin p.mine.redelegations (staked_in p) (staked_in q) (staked_alike p q a)))
      (λ x y k. stood_alike x.2 y.2 p.mine.unbondings q.mine.unbondings x.1 y.1 k.2 (same_unbondings p q a) k.1)

  -- ---- the bonded set, and validators that are mature

  set_two : (x y : World Staked Hooks) → WorldsAlike R x y → AreAlike (WorldsAlike R) (set_updated chain_told x) (set_updated chain_told y)
  set_two x y a =
      from_two R (WorldsAlike R) (set_updated chain_told) (set_updated tells) (λ k c. carried (left R) k c) (λ k c. carried (right R) k c)
      (λ k w. set_carried (left R) k tells chain_told (same_left R chain_told (chain_tells window) k) w)
      (λ k w. set_carried (right R) k tells chain_told (same_right R chain_told (chain_tells window) k) w)
      (λ k l c. sides_alike R k l c) x y a

  pub set_alike : (p q : State) → LooseAlike window p q → AreAlike (LooseAlike window) (set_step p) (set_step q)
  set_alike p q a =
      then_alike (WorldsAlike R) (LooseAlike window) (set_updated chain_told (staked_in p)) (set_updated chain_told (staked_in q)) _ _ (set_two (staked_in p) (staked_in q) (staked_alike p q a))
      (λ x y k. stood_alike x y p.mine.unbondings q.mine.unbondings p.mine.redelegations q.mine.redelegations k (same_unbondings p q a) (same_redelegations p q a))

  matured_two : (x y : World Staked Hooks) → WorldsAlike R x y → AreAlike (WorldsAlike R) (validators_matured chain_told x) (validators_matured chain_told y)
  matured_two x y a =
      from_two R (WorldsAlike R) (validators_matured chain_told) (validators_matured tells) (λ k c. carried (left R) k c) (λ k c. carried (right R) k c)
      (λ k w. matured_all_carried (left R) k tells chain_told (same_left R chain_told (chain_tells window) k) w)
      (λ k w. matured_all_carried (right R) k tells chain_told (same_right R chain_told (chain_tells window) k) w)
      (λ k l c. sides_alike R k l c) x y a

  pub maturing_alike : (p q : State) → LooseAlike window p q → AreAlike (LooseAlike window) (maturing_step p) (maturing_step q)
  maturing_alike p q a =
      then_alike (WorldsAlike R) (LooseAlike window) (validators_matured chain_told (staked_in p)) (validators_matured chain_told (staked_in q)) _ _ (matured_two (staked_in p) (staked_in q) (staked_alike p q a))
      (λ x y k. stood_alike x y p.mine.unbondings q.mine.unbondings p.mine.redelegations q.mine.redelegations k (same_unbondings p q a) (same_redelegations p q a))

  -- ---- messages that call none

  pub send_alike : (from : List ℕ) (to : Account) (coins : Money) (p q : State) → LooseAlike window p q → AreAlike (LooseAlike window) (send from to coins p) (send from to coins q)
  send_alike from to coins p q a =
      state_by window p q a (λ (z : State). AreAlike (LooseAlike window) (send from to coins p) (send from to coins z))
      (same_then_alike (LooseAlike window) (coins_sent from to coins p.view) (coins_sent from to coins p.view) _ _ refl (λ v. record { mine = refl; hooks = over_hooks window p q a; view = refl }))

  pub edit_alike : (m : EditValidator) (p q : State) → LooseAlike window p q → AreAlike (LooseAlike window) (edit_validator m p) (edit_validator m q)
  edit_alike m p q a =
      let done = edited m p.view.ctx.time p.view.ctx.params.min_commission_rate p.mine.staked in
      state_by window p q a (λ (z : State). AreAlike (LooseAlike window) (edit_validator m p) (edit_validator m z))
      (same_then_alike (LooseAlike window) done done _ _ refl (λ s. record { mine = refl; hooks = over_hooks window p q a; view = refl }))

  same_unjailed : (operator : List ℕ) (i j : Window) (s : Staked) (w : View) → WindowsAlike window i j → unjailed operator i s w ≡ unjailed operator j s w
  same_unjailed operator i j s w h = λ k. (do
    v ← or_stop (validator_at s operator) NoValidator
    held ← or_stop (delegation s operator operator) NoSelfDelegation
    stop_if (nat_lt (trunc_of (value_even_of v.tokens v.shares held)) v.min_self) SelfBelowMinimum
    stop_if (not v.jailed) NotJailed
    leaves v.cons k
    Ok (tt, put_validator (record v { jailed = false }) s, noted (fact.Unjailed operator) w))
    where
      leaves : (cons : List ℕ) → may_leave w.ctx.time (signing_of i cons) ≡ may_leave w.ctx.time (signing_of j cons)
      leaves cons = same_leave window w.ctx.time (signing_of i cons) (signing_of j cons) (found_alike window cons i j h)

  pub unjail_alike : (operator : List ℕ) (p q : State) → LooseAlike window p q → AreAlike (LooseAlike window) (unjail operator p) (unjail operator q)
  unjail_alike operator p q a =
      state_by window p q a (λ (z : State). AreAlike (LooseAlike window) (unjail operator p) (unjail operator z))
      (same_then_alike (LooseAlike window) (unjailed operator p.hooks.1 p.mine.staked p.view) (unjailed operator q.hooks.1 p.mine.staked p.view) _ _ (same_unjailed operator p.hooks.1 q.hooks.1 p.mine.staked p.view a.hooks.1)
      (λ t. record { mine = refl; hooks = over_hooks window p q a; view = refl }))

  taken_alike : (s : Staked) (who operator : List ℕ) (d e : Shared) (v : View) → SharedAlike d e → AreAlike FourAlike (reward_taken s who operator d v) (reward_taken s who operator e v)
  taken_alike s who operator d e v a =
      same_then_alike FourAlike (or_stop (validator_at s operator) NoValidator) (or_stop (validator_at s operator) NoValidator) _ _ refl (λ val.
      same_then_alike FourAlike (or_stop (delegation s who operator) NoDelegation) (or_stop (delegation s who operator) NoDelegation) _ _ refl (λ shares.
      stopping_alike FourAlike Overflow (reward_renewed val who shares d v) (reward_renewed val who shares e v) (renewed_alike val who shares d e v a)))

  pub reward_alike : (who operator : List ℕ) (p q : State) → LooseAlike window p q → AreAlike (LooseAlike window) (withdraw_reward who operator p) (withdraw_reward who operator q)
  reward_alike who operator p q a =
      let e : Shared = (over p q).hooks.0 in
      state_by window p q a (λ (z : State). AreAlike (LooseAlike window) (withdraw_reward who operator p) (withdraw_reward who operator z))
      (then_alike FourAlike (LooseAlike window) (reward_taken p.mine.staked who operator p.hooks.0 p.view) (reward_taken p.mine.staked who operator e p.view) _ _
      (taken_alike p.mine.staked who operator p.hooks.0 e p.view (beside p.hooks.0 q.hooks.0 a.hooks.0)) (λ x y k. record { mine = refl; hooks = (k.1, a.hooks.1); view = k.2 }))

  commissions_alike : (operator : List ℕ) (d e : Shared) (v : View) → SharedAlike d e → AreAlike FourAlike (commission_withdrawn operator d v) (commission_withdrawn operator (with_rewards e.rewards d) v)
  commissions_alike operator d e v a =
      same_then_alike FourAlike (or_stop (at addr_cmp d.purses.purses operator) NoCommission) (or_stop (at addr_cmp d.purses.purses operator) NoCommission) _ _ refl (λ purse.
      same_next_alike FourAlike (stop_if (is_empty purse.commission) NoCommission) (stop_if (is_empty purse.commission) NoCommission) _ _ refl
      (refl, record { rewards = a.rewards; purses = refl; withdraw = refl }, refl, refl))

  pub commission_alike : (operator : List ℕ) (p q : State) → LooseAlike window p q → AreAlike (LooseAlike window) (withdraw_commission operator p) (withdraw_commission operator q)
  commission_alike operator p q a =
      state_by window p q a (λ (z : State). AreAlike (LooseAlike window) (withdraw_commission operator p) (withdraw_commission operator z))
      (then_alike FourAlike (LooseAlike window) (commission_withdrawn operator p.hooks.0 p.view) (commission_withdrawn operator (over p q).hooks.0 p.view) _ _
      (commissions_alike operator p.hooks.0 q.hooks.0 p.view a.hooks.0) (λ x y k. record { mine = refl; hooks = (k.1, a.hooks.1); view = k.2 }))

  payees_alike : (who : List ℕ) (to : Account) (n : Params) (d e : Shared) → SharedAlike d e → AreAlike SharedAlike (payee_set who to n d) (payee_set who to n (with_rewards e.rewards d))
  payees_alike who (account.Module m) n d e a = refl
  payees_alike who (account.User to) n d e a =
      same_next_alike SharedAlike (stop_if (not n.withdraw_addr_enabled) WithdrawFixed) (stop_if (not n.withdraw_addr_enabled) WithdrawFixed) _ _ refl (record { rewards = a.rewards; purses = refl; withdraw = refl })

  pub payee_alike : (who : List ℕ) (to : Account) (p q : State) → LooseAlike window p q → AreAlike (LooseAlike window) (set_withdraw_address who to p) (set_withdraw_address who to q)
  payee_alike who to p q a =
      state_by window p q a (λ (z : State). AreAlike (LooseAlike window) (set_withdraw_address who to p) (set_withdraw_address who to z))
      (then_alike SharedAlike (LooseAlike window) (payee_set who to p.view.ctx.params p.hooks.0) (payee_set who to p.view.ctx.params (over p q).hooks.0) _ _
      (payees_alike who to p.view.ctx.params p.hooks.0 q.hooks.0 a.hooks.0) (λ x y k. record { mine = refl; hooks = (k, a.hooks.1); view = refl }))

  abbrev ThenAlike : ⊤ × Shared × View → ⊤ × Shared × View → Type 0
  ThenAlike x y = SharedAlike x.1 y.1 × (x.2 ≡ y.2)

  funds_alike : (who : List ℕ) (coins : Money) (d e : Shared) (v : View) → SharedAlike d e → AreAlike ThenAlike (pool_funded who coins d v) (pool_funded who coins (with_rewards e.rewards d) v)
  funds_alike who coins d e v a =
      let short = stop_if (is_short v.bank (account.User who) coins) InsufficientFunds in
      same_next_alike ThenAlike (stop_if (is_empty coins) NonPositive) (stop_if (is_empty coins) NonPositive) _ _ refl
      (same_next_alike ThenAlike short short _ _ refl
      (same_then_alike ThenAlike (stopping Overflow (pool_joined (in_units coins) d.purses)) (stopping Overflow (pool_joined (in_units coins) d.purses)) _ _ refl (λ z.
      (record { rewards = a.rewards; purses = refl; withdraw = refl }, refl))))

  pub fund_alike : (who : List ℕ) (coins : Money) (p q : State) → LooseAlike window p q → AreAlike (LooseAlike window) (fund_community_pool who coins p) (fund_community_pool who coins q)
  fund_alike who coins p q a =
      state_by window p q a (λ (z : State). AreAlike (LooseAlike window) (fund_community_pool who coins p) (fund_community_pool who coins z))
      (then_alike ThenAlike (LooseAlike window) (pool_funded who coins p.hooks.0 p.view) (pool_funded who coins (over p q).hooks.0 p.view) _ _ (funds_alike who coins p.hooks.0 q.hooks.0 p.view a.hooks.0)
      (λ x y k. record { mine = refl; hooks = (k.0, a.hooks.1); view = k.1 }))

  spends_alike : (authority : List ℕ) (to : Account) (coins : Money) (d e : Shared) (v : View) → SharedAlike d e → AreAlike ThenAlike (pool_spent authority to coins d v) (pool_spent authority to coins (with_rewards e.rewards d) v)
  spends_alike authority to coins d e v a =
      let first = stop_if (not (same_addr authority v.ctx.params.authority)) NotAuthority in
      let above = stop_if (is_above_pool coins d.purses) PoolTooSmall in
      same_next_alike ThenAlike first first _ _ refl
      (same_next_alike ThenAlike (stop_if (is_empty coins) NonPositive) (stop_if (is_empty coins) NonPositive) _ _ refl
      (same_next_alike ThenAlike (stop_if (is_module to) ModuleRecipient) (stop_if (is_module to) ModuleRecipient) _ _ refl
      (same_next_alike ThenAlike above above _ _ refl
      (record { rewards = a.rewards; purses = refl; withdraw = refl }, refl))))

  pub spend_alike : (authority : List ℕ) (to : Account) (coins : Money) (p q : State) → LooseAlike window p q → AreAlike (LooseAlike window) (community_pool_spend authority to coins p) (community_pool_spend authority to coins q)
  spend_alike authority to coins p q a =
      state_by window p q a (λ (z : State). AreAlike (LooseAlike window) (community_pool_spend authority to coins p) (community_pool_spend authority to coins z))
      (then_alike ThenAlike (LooseAlike window) (pool_spent authority to coins p.hooks.0 p.view) (pool_spent authority to coins (over p q).hooks.0 p.view) _ _ (spends_alike authority to coins p.hooks.0 q.hooks.0 p.view a.hooks.0)
      (λ x y k. record { mine = refl; hooks = (k.0, a.hooks.1); view = k.1 }))

-- other parameters, and so perhaps another window
update_alike : (authority : List ℕ) (n : Params) (p q : State) → StatesAlike p q → AreAlike StatesAlike (update_params authority n p) (update_params authority n q)
update_alike authority n p q a =
    let may = may_update authority p.view.ctx.params n in
    state_by (window_at p) p q a (λ (z : State). AreAlike StatesAlike (update_params authority n p) (update_params authority n z))
    (same_next_alike StatesAlike may may _ _ refl (record {
      mine = refl;
      hooks = (beside p.hooks.0 q.hooks.0 a.hooks.0, resized_alike (window_at p) n.signed_blocks_window p.hooks.1 q.hooks.1 a.hooks.1);
      view = refl;
    }))

-- ---- each message

module _ (P : List ℕ → Type 0) (T : List ℕ → ℕ) where
  -- the window is that of the parameters, which stay
  tight : (p : State) (r q : Result State Refusal) → IfOk r (StateLeft P T p) → AreAlike (LooseAlike (window_at p)) r q → AreAlike StatesAlike r q
  tight p r q left h =
      tighter_alike (LooseAlike (window_at p)) StatesAlike (StateLeft P T p) r q (λ x y k s. subst (λ n. LooseAlike n x y) (sym (ap (λ (c : Ctx). c.params.signed_blocks_window) s.ctx)) k) left h

  pub message_alike : (m : Msg) (p q : State) → MessageHasCoins m → StatesAlike p q → StateFits P T p → AreAllWhole p → AreAlike StatesAlike (effect_of m p) (effect_of m q)
  message_alike (msg.Send m) p q c a h k = tight p (effect_of (msg.Send m) p) (effect_of (msg.Send m) q) (send_fits P T m.from m.to m.coins c p h) (send_alike (window_at p) m.from m.to m.coins p q a)
  message_alike (msg.CreateValidator m) p q c a h k = tight p (effect_of (msg.CreateValidator m) p) (effect_of (msg.CreateValidator m) q) (create_fits P T m p h) (create_alike (window_at p) m p q a)
  message_alike (msg.EditValidator m) p q c a h k = tight p (effect_of (msg.EditValidator m) p) (effect_of (msg.EditValidator m) q) (edit_fits P T m p h) (edit_alike (window_at p) m p q a)
  message_alike (msg.Delegate m) p q c a h k = tight p (effect_of (msg.Delegate m) p) (effect_of (msg.Delegate m) q) (delegate_fits P T m.delegator m.validator m.amount p h) (delegate_alike (window_at p) m.delegator m.validator m.amount p q a)
  message_alike (msg.Undelegate m) p q c a h k = tight p (effect_of (msg.Undelegate m) p) (effect_of (msg.Undelegate m) q) (undelegate_fits P T m.delegator m.validator m.amount p h k) (undelegate_alike (window_at p) m.delegator m.validator m.amount p q a)
  message_alike (msg.BeginRedelegate m) p q c a h k =
      tight p (effect_of (msg.BeginRedelegate m) p) (effect_of (msg.BeginRedelegate m) q) (redelegate_fits P T m.delegator m.source m.target m.amount p h) (redelegate_alike (window_at p) m.delegator m.source m.target m.amount p q a)
  message_alike (msg.CancelUnbonding m) p q c a h k =
      tight p (effect_of (msg.CancelUnbonding m) p) (effect_of (msg.CancelUnbonding m) q) (cancel_fits P T m.delegator m.validator m.amount m.creation_height p h) (cancel_alike (window_at p) m.delegator m.validator m.amount m.creation_height p q a)
  message_alike (msg.Unjail m) p q c a h k = tight p (effect_of (msg.Unjail m) p) (effect_of (msg.Unjail m) q) (unjail_fits P T m.validator p h) (unjail_alike (window_at p) m.validator p q a)
  message_alike (msg.WithdrawReward m) p q c a h k = tight p (effect_of (msg.WithdrawReward m) p) (effect_of (msg.WithdrawReward m) q) (reward_fits P T m.delegator m.validator p h) (reward_alike (window_at p) m.delegator m.validator p q a)
  message_alike (msg.WithdrawCommission m) p q c a h k = tight p (effect_of (msg.WithdrawCommission m) p) (effect_of (msg.WithdrawCommission m) q) (commission_fits P T m.validator p h) (commission_alike (window_at p) m.validator p q a)
  message_alike (msg.SetWithdrawAddress m) p q c a h k = tight p (effect_of (msg.SetWithdrawAddress m) p) (effect_of (msg.SetWithdrawAddress m) q) (payee_fits P T m.delegator m.withdraw p h) (payee_alike (window_at p) m.delegator m.withdraw p q a)
  message_alike (msg.FundCommunityPool m) p q c a h k = tight p (effect_of (msg.FundCommunityPool m) p) (effect_of (msg.FundCommunityPool m) q) (fund_fits P T m.depositor m.coins c p h) (fund_alike (window_at p) m.depositor m.coins p q a)
  message_alike (msg.CommunityPoolSpend m) p q c a h k =
      tight p (effect_of (msg.CommunityPoolSpend m) p) (effect_of (msg.CommunityPoolSpend m) q) (spend_fits P T m.authority m.recipient m.coins c p h) (spend_alike (window_at p) m.authority m.recipient m.coins p q a)
  message_alike (msg.UpdateParams m) p q c a h k = update_alike m.authority m.params p q a
