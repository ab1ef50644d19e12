-- Each message that names no payee, the fee and all parts of a block carry on what the rules of distribution do.
use Rattle.std.proofs.Common.{◌≡◌, ℕ, ◌-◌, ◌*◌, ◌^◌, ◌==◌, Bool, true, false, List, [], ◌∷◌, ◌++◌, length, refl, ap, subst, ◌∙◌, Option, Some, None, Result, Ok, append_assoc, IfOk, if◌then◌else◌, ◌&&◌, not, nat_lt, nat_le, find, is_some, map, sum}
use Rattle.std.specs.{Prelude.⊤, Map.values_of}
use Rattle.base_decimals.specs.{declared.over.Over.Over, Decimals.quo_cut_of}
use Rattle.base_types.specs.declared.{account.{Account.{Account as Holder}}, status.BondStatus.TheVariants.Unbonded}
use Rattle.base_types.specs.Orders.{addr_cmp}
use Rattle.base_types.specs.declared.account.Account.TheVariants as account
use Rattle.base_types.specs.declared.account.Module.TheVariants as holder
use Rattle.base_coins.specs.{declared.coin.Coin.Coin, Coins.{Money, coins_mul_cut, coins_taken}}
use Rattle.base_shares.specs.Shares.{amount_out, has_invalid_rate}
use Rattle.base_roles.specs.declared.{entities.Validator.Validator, facts.Fact.Fact}
use Rattle.base_roles.specs.declared.messages.{CreateValidator.CreateValidator, EditValidator.EditValidator, Vote.Vote}
use Rattle.base_roles.specs.declared.refusal.Refusal.{Refusal}
use Rattle.base_roles.specs.declared.refusal.Refusal.TheVariants.{InsufficientFunds, WrongDenom, NonPositive, NoValidator, ValidatorExists, ConsKeyExists, CommissionRange, CommissionBelowMinimum, MinSelfNotPositive, NoDelegation, NoCommission, PoolTooSmall, NotAuthority, Overflow, ModuleRecipient, FeeUnpaid, SelfRedelegation, Transitive, RedelegationsFull, TinyRedelegation, UnbondingsFull, RateInvalid, Jailed, NoEntry, CancelTooMuch, SelfBelowMinimum}
use Rattle.base_roles.specs.{Entries.{at, with}, Holdings.{coins_of, is_short}, Log.Log, Orders.same_addr}
use Rattle.base_roles.specs.Staked.{Staked, validator_at, validator_by_cons, delegation, is_bonded}
use Rattle.base_roles.specs.{Flow.{◌>>=◌, each}, World.{View, World, sent, over_view}, declared.params.Params.Params}
use Rattle.base_roles.specs.declared.facts.Fact.TheVariants as fact
use Rattle.base_roles.specs.Log as log
use Rattle.rule_modules.specs.Allocation.{share_given, shares_allocated, sharing, allocated, fees_allocated}
use Rattle.rule_modules.specs.Amounts.{bond_coins, in_units, is_empty}
use Rattle.rule_modules.specs.BondedSet.{joining_of, leaving_of, joined_set, left_set, set_updated, matured, validators_matured}
use Rattle.rule_modules.specs.Chain.{Hooks, State, chain_told, staked_in, allocation_step, set_step, maturing_step, unbondings_step, redelegations_step}
use Rattle.rule_modules.specs.Parameters.{update_params}
use Rattle.rule_modules.specs.Delegating.{is_wrong, wallet, pool, shares_given, delegated, delegated_by}
use Rattle.rule_modules.specs.Distribution.{Shared, started, reward_withdrawn, reward_renewed}
use Rattle.rule_modules.specs.Effects.{coins_sent, send, create_validator, edit_validator, delegate, undelegate, begin_redelegate, cancel_unbonding, unjail, withdraw_reward, withdraw_commission, fund_community_pool, community_pool_spend, fee_paid}
use Rattle.rule_modules.specs.Periods.{start_of}
use Rattle.rule_modules.specs.Purses.{Purses, purse_of, with_purse, pool_joined, share_joined, commission_due, commission_paid, is_above_pool, pool_lowered}
use Rattle.rule_modules.specs.{Redelegations.{redelegations_of, is_transitive, redelegated}, Sound.IsSound}
use Rattle.rule_modules.specs.Stakes.{changed, is_unbonding}
use Rattle.rule_modules.specs.Unbonding.{shares_to_unbond, unbonded_shares, removed_if_empty}
use Rattle.rule_modules.specs.Unbondings.{entries_of, can_be_cancelled, undelegated, cancelled}
use Rattle.rule_modules.specs.{Validators.{new_validator, are_out_of_range, created, edited}, Window.unjailed}
use Rattle.rule_modules.specs.Withdrawals.{reward_taken, commission_withdrawn, pool_funded, pool_spent, is_module}
use Rattle.rule_modules.proofs.{ParameterLemmas.on_update, GoingLemmas.{on_bind, on_stop, on_found, on_lifted}}
use Rattle.law_rewards.proofs.{Beginnings.if_ok, Hooked.none_of, Creating.{nobody_has, state_made}}
use Rattle.law_rewards.proofs.Telling.{next_if, lifted_if, on_then}
use Rattle.law_rewards.proofs.Carried.{IsCarried, nothing_logged, withdrawn_kept, delegated_kept, unbonded_kept, emptied_kept}

module _ (Q : Shared → Log → Type 0) (carries : IsCarried Q) where
  -- so it is in a state, and in a world of staking
  abbrev AreCarried : State → Type 0
  AreCarried w = Q w.hooks.0 w.log

  abbrev CarriedIn : World Staked Hooks → Type 0
  CarriedIn w = Q w.hooks.0 w.log

  -- ---- messages that change no start

  pub fee_carried : (payer : List ℕ) (fee : Money) (w : State) → AreCarried w → IfOk (fee_paid payer fee w) AreCarried
  fee_carried payer fee w r = on_stop (is_short w.view.bank (account.User payer) fee) FeeUnpaid _ _ (λ a. r)

  pub send_carried : (from : List ℕ) (to : Holder) (coins : Money) (w : State) → AreCarried w → IfOk (send from to coins w) AreCarried
  send_carried from to coins w r = on_bind (coins_sent from to coins w.view) _ _ (λ v e. r)

  pub edit_carried : (m : EditValidator) (w : State) → AreCarried w → IfOk (edit_validator m w) AreCarried
  edit_carried m w r = on_bind (edited m w.view.ctx.time w.view.ctx.params.min_commission_rate w.mine.staked) _ _ (λ s e. r)

  pub unjail_carried : (operator : List ℕ) (w : State) → AreCarried w → IfOk (unjail operator w) AreCarried
  unjail_carried operator w r = on_bind (unjailed operator w.hooks.1 w.mine.staked w.view) _ _ (λ x e. r)

  pub commission_carried : (operator : List ℕ) (w : State) → AreCarried w → IfOk (withdraw_commission operator w) AreCarried
  commission_carried operator w r =
      on_then (commission_withdrawn operator w.hooks.0 w.view) _ (λ x. Q x.1 (w.log ++ x.3)) _
      (on_found (at addr_cmp w.hooks.0.purses.purses operator) NoCommission _ _ (λ purse f. on_stop (is_empty purse.commission) NoCommission _ _ (λ b.
      let d : Shared = record w.hooks.0 { purses = with_purse operator (commission_paid purse) w.hooks.0.purses } in
      carries.plain d w.log operator (log.commission (in_units (commission_due purse))) tt (carries.same w.hooks.0 d w.log refl refl r))))
      (λ x k. k)

  pub fund_carried : (who : List ℕ) (coins : Money) (w : State) → AreCarried w → IfOk (fund_community_pool who coins w) AreCarried
  fund_carried who coins w r =
      on_then (pool_funded who coins w.hooks.0 w.view) _ (λ x. Q x.1 (w.log ++ [])) _
      (on_stop (is_empty coins) NonPositive _ _ (λ a. on_stop (is_short w.view.bank (account.User who) coins) InsufficientFunds _ _ (λ b. on_lifted Overflow (pool_joined (in_units coins) w.hooks.0.purses) _ _ (λ p e.
      let d : Shared = record w.hooks.0 { purses = p } in
      nothing_logged Q carries d w.log (carries.same w.hooks.0 d w.log refl refl r)))))
      (λ x k. k)

  pub spend_carried : (authority : List ℕ) (to : Holder) (coins : Money) (w : State) → AreCarried w → IfOk (community_pool_spend authority to coins w) AreCarried
  spend_carried authority to coins w r =
      on_then (pool_spent authority to coins w.hooks.0 w.view) _ (λ x. Q x.1 (w.log ++ [])) _
      (on_stop (not (same_addr authority w.view.ctx.params.authority)) NotAuthority _ _ (λ a. on_stop (is_empty coins) NonPositive _ _ (λ b. on_stop (is_module to) ModuleRecipient _ _ (λ c. on_stop (is_above_pool coins w.hooks.0.purses) PoolTooSmall _ _ (λ e.
      let d : Shared = record w.hooks.0 { purses = pool_lowered coins w.hooks.0.purses } in
      nothing_logged Q carries d w.log (carries.same w.hooks.0 d w.log refl refl r))))))
      (λ x k. k)

  pub update_carried : (authority : List ℕ) (p : Params) (w : State) → AreCarried w → IfOk (update_params authority p w) AreCarried
  update_carried authority p w r = on_update authority p w AreCarried (λ range fixed. r)

  -- ---- messages that do

  pub reward_carried : (who operator : List ℕ) (w : State) → AreCarried w → IfOk (withdraw_reward who operator w) AreCarried
  reward_carried who operator w r =
      on_then (reward_taken w.mine.staked who operator w.hooks.0 w.view) _ (λ x. Q x.1 (w.log ++ x.3)) _
      (on_found (validator_at w.mine.staked operator) NoValidator _ _ (λ v f. on_found (delegation w.mine.staked who operator) NoDelegation _ _ (λ shares g.
      lifted_if Overflow (reward_renewed v who shares w.hooks.0 w.view) _ (on_bind (reward_withdrawn v who shares w.hooks.0 w.view) _ _ (λ y e.
      let s : Shared × View × Log = started v who shares y.1 y.2 in
      subst (λ m. Q s.0 m) (append_assoc w.log y.3 s.2)
      (carries.starts v who shares y.1 y.2 (w.log ++ y.3) (withdrawn_kept Q carries v who shares w.hooks.0 w.view y w.log e r)))))))
      (λ x k. k)

  pub delegate_carried : (who operator : List ℕ) (coin : Coin) (w : State) → AreCarried w → IfOk (delegate who operator coin w) AreCarried
  delegate_carried who operator coin w r =
      on_then (delegated_by chain_told who operator coin (staked_in w)) _ (λ x. CarriedIn x.1) _
      (on_stop (coin.amount == 0) NonPositive _ _ (λ a. on_found (validator_at w.mine.staked operator) NoValidator _ _ (λ v f. on_stop (is_wrong coin w.view) WrongDenom _ _ (λ b.
      if_ok (λ x. CarriedIn x.1) (delegated chain_told v who coin.amount wallet (staked_in w)) (λ x e. delegated_kept Q carries v who coin.amount wallet (staked_in w) x e r)))))
      (λ x k. k)

  pub cancel_carried : (who operator : List ℕ) (coin : Coin) (height : ℕ) (w : State) → AreCarried w → IfOk (cancel_unbonding who operator coin height w) AreCarried
  cancel_carried who operator coin height w r =
      on_then (cancelled chain_told who operator coin height w.mine.unbondings (staked_in w)) _ (λ x. CarriedIn x.2) _
      (on_stop (coin.amount == 0) NonPositive _ _ (λ a. on_stop (is_wrong coin w.view) WrongDenom _ _ (λ b. on_found (validator_at w.mine.staked operator) NoValidator _ _ (λ v f.
      on_stop (has_invalid_rate v.tokens v.shares) RateInvalid _ _ (λ c. on_stop v.jailed Jailed _ _ (λ d. on_found (find (can_be_cancelled height w.view.ctx.time) (entries_of w.mine.unbondings who operator)) NoEntry _ _ (λ en g.
      on_stop (nat_lt en.balance coin.amount) CancelTooMuch _ _ (λ h. on_bind (delegated chain_told v who coin.amount (pool Unbonded) (staked_in w)) _ _ (λ x e.
      delegated_kept Q carries v who coin.amount (pool Unbonded) (staked_in w) x e r)))))))))
      (λ x k. k)

  pub undelegate_carried : (who operator : List ℕ) (coin : Coin) (w : State) → AreCarried w → IfOk (undelegate who operator coin w) AreCarried
  undelegate_carried who operator coin w r =
      on_then (undelegated chain_told who operator coin w.mine.unbondings (staked_in w)) _ (λ x. CarriedIn x.2) _
      (on_stop (coin.amount == 0) NonPositive _ _ (λ a. on_found (validator_at w.mine.staked operator) NoValidator _ _ (λ v f.
      on_bind (shares_to_unbond (delegation w.mine.staked who operator) v coin.amount) _ _ (λ p g. on_stop (is_wrong coin w.view) WrongDenom _ _ (λ b.
      on_stop (nat_le w.view.ctx.params.max_entries (length (entries_of w.mine.unbondings who operator))) UnbondingsFull _ _ (λ c. on_lifted Overflow (unbonded_shares chain_told v who p.0 p.1 (staked_in w)) _ _ (λ y e.
      moved v y (is_bonded v.status) (unbonded_kept Q carries v who p.0 p.1 (staked_in w) y e r))))))))
      (λ x k. k)
    where
      moved : (v : Validator) (y : ℕ × World Staked Hooks) (b : Bool) → CarriedIn y.1 → CarriedIn (if b then over_view (sent (account.Module holder.Bonded) (account.Module holder.NotBonded) (bond_coins w.view y.0)) y.1 else y.1)
      moved v y true k = k
      moved v y false k = k

  pub redelegate_carried : (who source target : List ℕ) (coin : Coin) (w : State) → AreCarried w → IfOk (begin_redelegate who source target coin w) AreCarried
  redelegate_carried who source target coin w r =
      on_then (redelegated chain_told who source target coin w.mine.redelegations (staked_in w)) _ (λ x. CarriedIn x.2) _
      (on_stop (coin.amount == 0) NonPositive _ _ (λ a. on_found (validator_at w.mine.staked source) NoValidator _ _ (λ v f. on_bind (shares_to_unbond (delegation w.mine.staked who source) v coin.amount) _ _ (λ p g.
      on_stop (is_wrong coin w.view) WrongDenom _ _ (λ b. on_stop (same_addr source target) SelfRedelegation _ _ (λ other. on_found (validator_at w.mine.staked target) NoValidator _ _ (λ t there.
      on_stop (is_transitive w.mine.redelegations who source) Transitive _ _ (λ c. on_stop (nat_le w.view.ctx.params.max_entries (length (redelegations_of w.mine.redelegations who source target))) RedelegationsFull _ _ (λ d.
      on_stop (amount_out v.tokens v.shares p.1 == 0) TinyRedelegation _ _ (λ h. next_if (shares_given t (amount_out v.tokens v.shares p.1)) _ _
      (on_lifted Overflow (unbonded_shares chain_told v who p.0 p.1 (staked_in w)) _ _ (λ y e.
      on_bind (delegated chain_told t who y.0 (pool v.status) y.1) _ _ (λ z q.
      delegated_kept Q carries t who y.0 (pool v.status) y.1 z q (unbonded_kept Q carries v who p.0 p.1 (staked_in w) y e r))))))))))))))
      (λ x k. k)

  pub create_carried : (m : CreateValidator) (w : State) → IsSound w → AreCarried w → IfOk (create_validator m w) AreCarried
  create_carried m w sound r =
      let v : Validator = new_validator m w.view.ctx.time in
      let x : State = state_made w v in
      let end : ℕ × World Staked Hooks → Result (⊤ × World Staked Hooks) Refusal = λ y. Ok (tt, y.1) in
      on_then (created chain_told m (staked_in w)) _ (λ z. CarriedIn z.1) _
      (on_stop (m.amount.amount == 0) NonPositive _ _ (λ a. on_stop (are_out_of_range m) CommissionRange _ _ (λ b. on_stop (m.min_self_delegation == 0) MinSelfNotPositive _ _ (λ c.
      on_stop (nat_lt m.amount.amount m.min_self_delegation) SelfBelowMinimum _ _ (λ d. on_stop (nat_lt m.rate w.view.ctx.params.min_commission_rate) CommissionBelowMinimum _ _ (λ e.
      on_stop (is_some (validator_at w.mine.staked m.validator)) ValidatorExists _ _ (λ new. on_stop (is_some (validator_by_cons w.mine.staked m.cons)) ConsKeyExists _ _ (λ f. on_stop (is_wrong m.amount w.view) WrongDenom _ _ (λ g.
      let none : validator_at w.mine.staked m.validator ≡ None = none_of (validator_at w.mine.staked m.validator) new in
      let unstarted : (who : List ℕ) → start_of w.hooks.0.rewards who m.validator ≡ None =
      λ who. none_of (start_of w.hooks.0.rewards who m.validator) (sound.stands.starts who m.validator ∙ ap is_some (nobody_has w who m.validator sound none)) in
      let made : CarriedIn (staked_in x) = carries.makes v w.hooks.0 w.log unstarted r in
      let last : IfOk (delegated chain_told v m.validator m.amount.amount wallet (staked_in x) >>= end) (λ z. CarriedIn z.1) =
      on_bind (delegated chain_told v m.validator m.amount.amount wallet (staked_in x)) end (λ z. CarriedIn z.1) (λ y h. delegated_kept Q carries v m.validator m.amount.amount wallet (staked_in x) y h made) in
      last)))))))))
      (λ z k. k)

  -- ---- allocation

  given_carried : (d : Shared) (l : Log) (o : Option Validator) (share : Money) (p : Purses) (fs : List Fact) → Q d l → IfOk (share_given o share p fs) (λ y. Q d (l ++ y.2))
  given_carried d l None share p fs r = nothing_logged Q carries d l r
  given_carried d l (Some v) share p fs r = by (is_empty share)
    where
      by : (b : Bool) → IfOk {T = Purses × List Fact × Log} {E = Over} (if b then Ok (p, fs, []) else (share_joined share v.commission.rate (purse_of p v.operator) >>= λ x.
          Ok (record p { purses = with addr_cmp p.purses v.operator x.1 }, fs ++ fact.Allocated v.operator share ∷ [], (v.operator, log.allocated share x.0 v.tokens) ∷ []))) (λ y. Q d (l ++ y.2))
      by true = nothing_logged Q carries d l r
      by false = on_bind (share_joined share v.commission.rate (purse_of p v.operator)) _ _ (λ x e. carries.plain d l v.operator (log.allocated share x.0 v.tokens) tt r)

  shares_carried : (ts : List Vote) (s : Staked) (base : Money) (total : ℕ) (left : Money) (p : Purses) (fs : List Fact) (l start : Log) (d : Shared) → Q d (start ++ l)
      → IfOk (shares_allocated s base total ts left p fs l) (λ x. Q d (start ++ x.2))
  shares_carried [] s base total left p fs l start d r = on_bind (pool_joined left p) _ _ (λ q e. r)
  shares_carried (t ∷ ts) s base total left p fs l start d r =
      on_bind (quo_cut_of (t.power * 10 ^ 18) (total * 10 ^ 18)) _ _ (λ part a. on_bind (coins_mul_cut base part) _ _ (λ share b.
      on_then (share_given (validator_by_cons s t.cons) share p fs) _ (λ y. Q d ((start ++ l) ++ y.2)) _ (given_carried d (start ++ l) (validator_by_cons s t.cons) share p fs r) (λ y k.
      shares_carried ts s base total (coins_taken left share) y.0 y.1 (l ++ y.2) start d (subst (λ m. Q d m) (append_assoc start l y.2) k))))

  pub allocation_carried : (votes : List Vote) (w : State) → AreCarried w → IfOk (allocation_step votes w) AreCarried
  allocation_carried votes w r =
      on_then (fees_allocated w.mine.staked votes w.hooks.0 w.view) _ (λ x. Q x.0 (w.log ++ x.2)) _ (by (nat_le w.view.ctx.height 1)) (λ x k. k)
    where
      fees : Money
      fees = coins_of w.view.bank (account.Module holder.FeeCollector)

      v1 : View
      v1 = sent (account.Module holder.FeeCollector) (account.Module holder.Distribution) fees w.view

      by : (b : Bool) → IfOk {T = Shared × View × Log} {E = Over} (if b then Ok (w.hooks.0, w.view, []) else (allocated w.mine.staked w.view.ctx.params fees votes w.hooks.0.purses v1.facts >>= λ x.
          Ok (record w.hooks.0 { purses = x.0 }, record v1 { facts = x.1 }, x.2))) (λ x. Q x.0 (w.log ++ x.2))
      by true = nothing_logged Q carries w.hooks.0 w.log r
      by false =
          let total : ℕ = sum (map (λ t. t.power) votes) in
          on_then (allocated w.mine.staked w.view.ctx.params fees votes w.hooks.0.purses v1.facts) _ (λ x. Q w.hooks.0 (w.log ++ x.2)) _
          (on_bind (coins_mul_cut (in_units fees) (10 ^ 18 - w.view.ctx.params.community_tax)) _ _ (λ base e.
          shares_carried (sharing total votes) w.mine.staked base total (in_units fees) w.hooks.0.purses v1.facts [] w.log w.hooks.0 (nothing_logged Q carries w.hooks.0 w.log r)))
          (λ x k. let d : Shared = record w.hooks.0 { purses = x.0 } in carries.same w.hooks.0 d (w.log ++ x.2) refl refl k)

  -- ---- validators

  pub each_carried : {A E : Type 0} (f : A → World Staked Hooks → Result (World Staked Hooks) E) → ((x : A) (y : World Staked Hooks) → CarriedIn y → IfOk (f x y) CarriedIn) → (xs : List A) (y : World Staked Hooks) → CarriedIn y
      → IfOk (each f xs y) CarriedIn
  each_carried f one [] y r = r
  each_carried f one (x ∷ xs) y r = on_then (f x y) (λ z. each f xs z) CarriedIn CarriedIn (one x y r) (λ z k. each_carried f one xs z k)

  joined_carried : (v : Validator) (y : World Staked Hooks) → CarriedIn y → IfOk (joined_set chain_told v y) CarriedIn
  joined_carried v y r = nothing_logged Q carries y.hooks.0 y.log r

  left_carried : (v : Validator) (y : World Staked Hooks) → CarriedIn y → IfOk (left_set chain_told v y) CarriedIn
  left_carried v y r = r

  -- the bonded set made anew
  pub updated_carried : (y : World Staked Hooks) → CarriedIn y → IfOk (set_updated chain_told y) CarriedIn
  updated_carried y r =
      let vs : List Validator = values_of y.mine.validators in
      let reduction : ℕ = y.view.ctx.params.power_reduction in
      let most : ℕ = y.view.ctx.params.max_validators in
      let joining : List Validator = joining_of reduction most vs in
      let leaving : List Validator = leaving_of reduction most vs in
      on_then (each (joined_set chain_told) joining y) _ CarriedIn _ (each_carried (joined_set chain_told) joined_carried joining y r) (λ a h.
      on_then (each (left_set chain_told) leaving a) _ CarriedIn _ (each_carried (left_set chain_told) left_carried leaving a h) (λ b k. k))

  pub set_carried : (w : State) → AreCarried w → IfOk (set_step w) AreCarried
  set_carried w r = on_then (set_updated chain_told (staked_in w)) _ CarriedIn _ (updated_carried (staked_in w) r) (λ y k. k)

  matured_carried : (v : Validator) (y : World Staked Hooks) → CarriedIn y → IfOk (matured chain_told v y) CarriedIn
  matured_carried v y r = by (is_unbonding v.status && nat_le v.unbonding_time y.view.ctx.time)
    where
      by : (b : Bool) → IfOk (if b then removed_if_empty chain_told (record v { status = Unbonded }) (changed v Unbonded y) else Ok y) CarriedIn
      by true =
          let x : World Staked Hooks = changed v Unbonded y in
          if_ok CarriedIn (removed_if_empty chain_told (record v { status = Unbonded }) x) (λ z e. emptied_kept Q carries (record v { status = Unbonded }) x z e r)
      by false = r

  pub maturing_carried : (w : State) → AreCarried w → IfOk (maturing_step w) AreCarried
  maturing_carried w r = on_then (validators_matured chain_told (staked_in w)) _ CarriedIn _ (each_carried (matured chain_told) matured_carried (values_of w.mine.staked.validators) (staked_in w) r) (λ y k. k)

  -- ---- entries

  pub unbondings_carried : (w : State) → AreCarried w → IfOk (unbondings_step w) AreCarried
  unbondings_carried w r = r

  pub redelegations_carried : (w : State) → AreCarried w → IfOk (redelegations_step w) AreCarried
  redelegations_carried w r = r
