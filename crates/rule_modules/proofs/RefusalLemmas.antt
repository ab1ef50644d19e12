-- Messages whose refusals are those of their conditions in every state.
use Rattle.std.proofs.Common.{◌≡◌, ℕ, ◌+◌, ◌-◌, ◌^◌, ◌==◌, Bool, true, false, not, nat_lt, nat_le, List, [], ◌∷◌, ◌++◌, Option, Some, None, option_map, unwrap_or, is_none, Result, Ok, Err, refl, sym, ◌∙◌, ap}
use Rattle.base_decimals.specs.Decimals.{trunc_of}
use Rattle.base_types.specs.{declared.account.Account.Account, Orders.addr_cmp}
use Rattle.base_types.specs.declared.account.Account.TheVariants as account
use Rattle.base_types.specs.declared.account.Module.TheVariants as holder
use Rattle.base_coins.specs.Coins.{Money}
use Rattle.base_shares.specs.Shares.{value_even_of}
use Rattle.base_roles.specs.declared.{entities.{Purse.Purse, Validator.Validator}, messages.EditValidator.EditValidator}
use Rattle.base_roles.specs.declared.refusal.Refusal.{Refusal}
use Rattle.base_roles.specs.declared.refusal.Refusal.TheVariants.{InsufficientFunds, ModuleRecipient, NonPositive, NoValidator, CommissionRange, CommissionBelowMinimum, CommissionTooSoon, CommissionAboveMax, CommissionStep, MinSelfNotPositive, SelfBelowMinimum, MinSelfNotRaised, NotJailed, NoSelfDelegation, StillJailed, Tombstoned, NoCommission, PoolTooSmall, NotAuthority, WithdrawFixed}
use Rattle.base_roles.specs.{Entries.{at, with}, Holdings.is_short, Log.Log, Orders.same_addr}
use Rattle.base_roles.specs.{Staked.{validator_at, delegation, put_validator}, Flow.{◌>>=◌, ◌>>◌, stop_if, or_stop}}
use Rattle.base_roles.specs.World.{View, sent, noted, over_view, over_mine}
use Rattle.base_roles.specs.declared.facts.Fact.TheVariants as fact
use Rattle.base_roles.specs.Log as log
use Rattle.rule_modules.specs.{Amounts.{is_empty, in_units, seconds}, Chain.{State, with_shared}}
use Rattle.rule_modules.specs.{Conditions.{when, first_of}, Distribution.{Shared, payee_of, paid_to}}
use Rattle.rule_modules.specs.Effects.{send, coins_sent, edit_validator, unjail, set_withdraw_address, withdraw_commission, community_pool_spend}
use Rattle.rule_modules.specs.Purses.{with_purse, commission_due, commission_paid, is_above_pool, pool_lowered}
use Rattle.rule_modules.specs.RefusalOrder.{refused_in, refusal_of, AreRefusedAnywhere, against_send, against_payee, against_commission, against_spend, against_leaving, against_unjail, against_edit, against_rate, against_minimum}
use Rattle.rule_modules.specs.Validators.{edited, rate_edited, minimum_edited}
use Rattle.rule_modules.specs.Window.{Signing, signing_of, may_leave, unjailed}
use Rattle.rule_modules.specs.Withdrawals.{payee_set, commission_withdrawn, pool_spent, is_module}
use Rattle.rule_modules.proofs.ParameterLemmas.{updates_refused}

-- one condition, then the others
pub stop_step : {A : Type 0} (b : Bool) (why : Refusal) (next : Result A Refusal) (rest : List (Option Refusal)) → refused_in next ≡ first_of rest → refused_in (stop_if b why >> next) ≡ first_of (when b why ∷ rest)
stop_step true why next rest h = refl
stop_step false why next rest h = h

-- what is done with an answer refuses nothing
pub mapped : {A B : Type 0} (r : Result A Refusal) (g : A → B) → refused_in (r >>= λ a. Ok (g a)) ≡ refused_in r
mapped (Ok a) g = refl
mapped (Err e) g = refl

-- ---- sending, payees, commission and the pool

pub sends_refused : (from : List ℕ) (to : Account) (coins : Money) (w : State) → refusal_of (send from to coins) w ≡ first_of (against_send from to coins w)
sends_refused from to coins w =
    mapped (coins_sent from to coins w.view) (λ v. over_view (λ u. v) w)
    ∙ stop_step (is_empty coins) NonPositive _ _ (stop_step (is_module to) ModuleRecipient _ _ (stop_step (is_short w.view.bank (account.User from) coins) InsufficientFunds (Ok (sent (account.User from) to coins w.view)) [] refl))

payee_chosen : (delegator : List ℕ) (to : Account) (w : State) → refused_in (payee_set delegator to w.view.ctx.params w.hooks.0) ≡ first_of (against_payee to w)
payee_chosen delegator (account.Module m) w = refl
payee_chosen delegator (account.User a) w = stop_step (not w.view.ctx.params.withdraw_addr_enabled) WithdrawFixed (Ok (record w.hooks.0 { withdraw = with addr_cmp w.hooks.0.withdraw delegator a })) [] refl

pub payees_refused : (delegator : List ℕ) (to : Account) (w : State) → refusal_of (set_withdraw_address delegator to) w ≡ first_of (against_payee to w)
payees_refused delegator to w = mapped (payee_set delegator to w.view.ctx.params w.hooks.0) (λ d. with_shared d w.view [] w) ∙ payee_chosen delegator to w

spent : (authority : List ℕ) (to : Account) (coins : Money) (w : State) → refused_in (pool_spent authority to coins w.hooks.0 w.view) ≡ first_of (against_spend authority to coins w)
spent authority to coins w =
    stop_step (not (same_addr authority w.view.ctx.params.authority)) NotAuthority _ _ (stop_step (is_empty coins) NonPositive _ _ (stop_step (is_module to) ModuleRecipient _ _
    (stop_step (is_above_pool coins w.hooks.0.purses) PoolTooSmall (Ok (tt, record w.hooks.0 { purses = pool_lowered coins w.hooks.0.purses }, sent (account.Module holder.Distribution) to coins w.view)) [] refl)))

pub spends_refused : (authority : List ℕ) (to : Account) (coins : Money) (w : State) → refusal_of (community_pool_spend authority to coins) w ≡ first_of (against_spend authority to coins w)
spends_refused authority to coins w = mapped (pool_spent authority to coins w.hooks.0 w.view) (λ p. with_shared p.1 p.2 [] w) ∙ spent authority to coins w

commission_of : {A : Type 0} (purse : Option Purse) (g : Purse → A) → refused_in (or_stop purse NoCommission >>= λ p. stop_if (is_empty p.commission) NoCommission >> Ok (g p))
    ≡ first_of (when (unwrap_or (option_map (λ p. is_empty p.commission) purse) true) NoCommission ∷ [])
commission_of None g = refl
commission_of (Some p) g = stop_step (is_empty p.commission) NoCommission (Ok (g p)) [] refl

pub commissions_refused : (operator : List ℕ) (w : State) → refusal_of (withdraw_commission operator) w ≡ first_of (against_commission operator w)
commissions_refused operator w =
    mapped (commission_withdrawn operator w.hooks.0 w.view) (λ p. with_shared p.1 p.2 p.3 w)
    ∙ commission_of (at addr_cmp w.hooks.0.purses.purses operator) (commission_answer operator w)
  where
    commission_answer : List ℕ → State → Purse → Money × Shared × View × Log
    commission_answer operator w purse = (
      commission_due purse,
      record w.hooks.0 { purses = with_purse operator (commission_paid purse) w.hooks.0.purses },
      noted (fact.Commission operator (payee_of w.hooks.0 operator) (commission_due purse)) (paid_to (payee_of w.hooks.0 operator) (commission_due purse) w.view),
      (operator, log.commission (in_units (commission_due purse))) ∷ [],
    )

-- ---- leaving jail

may_leave_refused : (s : Option Signing) (w : State) → refused_in (may_leave w.view.ctx.time s) ≡ first_of (against_leaving s w)
may_leave_refused None w = refl
may_leave_refused (Some s) w = stop_step s.tombstoned Tombstoned _ _ (last_step (nat_lt w.view.ctx.time s.jailed_until) (StillJailed s.jailed_until))
  where
    last_step : (b : Bool) (why : Refusal) → refused_in (stop_if b why) ≡ first_of (when b why ∷ [])
    last_step true why = refl
    last_step false why = refl

-- by the validator, its own delegation and its signing record
jail_of : {A : Type 0} (v : Option Validator) (held : Option ℕ) (s : Validator → Option Signing) (w : State) (g : Validator → A)
    → refused_in (or_stop v NoValidator >>= λ v. or_stop held NoSelfDelegation >>= λ n. stop_if (nat_lt (trunc_of (value_even_of v.tokens v.shares n)) v.min_self) SelfBelowMinimum >> (stop_if (not v.jailed) NotJailed >> (may_leave w.view.ctx.time (s v) >> Ok (g v))))
    ≡ first_of (
    when (is_none v) NoValidator
    ∷ when (is_none held) NoSelfDelegation
    ∷ when (unwrap_or (option_map (λ v. nat_lt (trunc_of (value_even_of v.tokens v.shares (unwrap_or held 0))) v.min_self) v) false) SelfBelowMinimum
    ∷ when (not (unwrap_or (option_map (λ v. v.jailed) v) false)) NotJailed
    ∷ first_of (against_leaving (unwrap_or (option_map (λ v. s v) v) None) w)
    ∷ [])
jail_of None held s w g = refl
jail_of (Some v) None s w g = refl
jail_of (Some v) (Some n) s w g =
    stop_step (nat_lt (trunc_of (value_even_of v.tokens v.shares n)) v.min_self) SelfBelowMinimum _ _ (stop_step (not v.jailed) NotJailed _ _ (then_ok (may_leave w.view.ctx.time (s v)) (g v) ∙ ap (λ o. first_of (o ∷ [])) (may_leave_refused (s v) w)))
  where
    then_ok : {A B : Type 0} (r : Result A Refusal) (b : B) → refused_in (r >> Ok b) ≡ first_of (refused_in r ∷ [])
    then_ok (Ok a) b = refl
    then_ok (Err e) b = refl

pub unjails_refused : (operator : List ℕ) (w : State) → refusal_of (unjail operator) w ≡ first_of (against_unjail operator w)
unjails_refused operator w =
    mapped (unjailed operator w.hooks.1 w.mine.staked w.view) (λ p. over_view (λ u. p.2) (over_mine (λ c. record c { staked = p.1 }) w))
    ∙ jail_of (validator_at w.mine.staked operator) (delegation w.mine.staked operator operator) (λ v. signing_of w.hooks.1 v.cons) w (λ v. (tt, put_validator (record v { jailed = false }) w.mine.staked, noted (fact.Unjailed operator) w.view))

-- ---- editing a validator

-- one condition, then the others, before a step
stop_bind : {A B : Type 0} (b : Bool) (why : Refusal) (r : Result A Refusal) (f : A → Result B Refusal) (rest : List (Option Refusal)) → refused_in (r >>= f) ≡ first_of rest → refused_in ((stop_if b why >> r) >>= f) ≡ first_of (when b why ∷ rest)
stop_bind true why r f rest h = refl
stop_bind false why r f rest h = h

-- conditions within conditions
nest : (xs ys : List (Option Refusal)) → first_of (first_of xs ∷ ys) ≡ first_of (xs ++ ys)
nest [] ys = refl
nest (None ∷ xs) ys = nest xs ys
nest (Some why ∷ xs) ys = refl

two_steps : {A : Type 0} (a b : Bool) (x y : Refusal) (next : Result A Refusal) (rest : List (Option Refusal)) → refused_in next ≡ first_of rest → refused_in ((stop_if a x >> stop_if b y) >> next) ≡ first_of (when a x ∷ when b y ∷ rest)
two_steps true b x y next rest h = refl
two_steps false true x y next rest h = refl
two_steps false false x y next rest h = h

abbrev rate_list : ℕ → Validator → State → List (Option Refusal)
rate_list rate v w =
    when (nat_lt (w.view.ctx.time - v.commission.updated) (seconds 86400)) CommissionTooSoon
    ∷ when (nat_lt v.commission.max_rate rate) CommissionAboveMax
    ∷ when (nat_lt (v.commission.rate + v.commission.max_change) rate) CommissionStep
    ∷ when (nat_lt rate w.view.ctx.params.min_commission_rate) CommissionBelowMinimum
    ∷ []

rate_then : {B : Type 0} (rate : ℕ) (v : Validator) (w : State) (f : Validator → Result B Refusal) (rest : List (Option Refusal))
    → refused_in (f (record v { commission = record v.commission { rate = rate; updated = w.view.ctx.time } })) ≡ first_of rest
    → refused_in (rate_edited (Some rate) w.view.ctx.time w.view.ctx.params.min_commission_rate v >>= f) ≡ first_of (first_of (rate_list rate v w) ∷ rest)
rate_then rate v w f rest h =
    stop_bind (nat_lt (w.view.ctx.time - v.commission.updated) (seconds 86400)) CommissionTooSoon _ f _
    (stop_bind (nat_lt v.commission.max_rate rate) CommissionAboveMax _ f _
    (stop_bind (nat_lt (v.commission.rate + v.commission.max_change) rate) CommissionStep _ f _
    (stop_bind (nat_lt rate w.view.ctx.params.min_commission_rate) CommissionBelowMinimum (Ok (record v { commission = record v.commission { rate = rate; updated = w.view.ctx.time } })) f rest h)))
    ∙ sym (nest (rate_list rate v w) rest)

abbrev minimum_list : ℕ → Validator → List (Option Refusal)
minimum_list n v = when (nat_le n v.min_self) MinSelfNotRaised ∷ when (nat_lt v.tokens n) SelfBelowMinimum ∷ []

minimum_then : {B : Type 0} (n : ℕ) (v : Validator) (g : Validator → B)
    → refused_in (minimum_edited (Some n) v >>= λ set. Ok (g set)) ≡ first_of (first_of (minimum_list n v) ∷ [])
minimum_then n v g =
    stop_bind (nat_le n v.min_self) MinSelfNotRaised _ (λ set. Ok (g set)) _ (stop_bind (nat_lt v.tokens n) SelfBelowMinimum (Ok (record v { min_self = n })) (λ set. Ok (g set)) [] refl)
    ∙ sym (nest (minimum_list n v) [])

-- what a given rate, and a given minimum, is judged by
abbrev against_rate_of : Option ℕ → Option Validator → State → List (Option Refusal)
against_rate_of None o w = []
against_rate_of (Some rate) o w =
    when (unwrap_or (option_map (λ v. nat_lt (w.view.ctx.time - v.commission.updated) (seconds 86400)) o) false) CommissionTooSoon
    ∷ when (unwrap_or (option_map (λ v. nat_lt v.commission.max_rate rate) o) false) CommissionAboveMax
    ∷ when (unwrap_or (option_map (λ v. nat_lt (v.commission.rate + v.commission.max_change) rate) o) false) CommissionStep
    ∷ when (nat_lt rate w.view.ctx.params.min_commission_rate) CommissionBelowMinimum
    ∷ []

abbrev against_minimum_of : Option ℕ → Option Validator → List (Option Refusal)
against_minimum_of None o = []
against_minimum_of (Some n) o =
    when (unwrap_or (option_map (λ v. nat_le n v.min_self) o) false) MinSelfNotRaised
    ∷ when (unwrap_or (option_map (λ v. nat_lt v.tokens n) o) false) SelfBelowMinimum
    ∷ []

edit_of : {A : Type 0} (o : Option Validator) (rate minimum : Option ℕ) (w : State) (g : Validator → A)
    → refused_in (or_stop o NoValidator >>= λ v. rate_edited rate w.view.ctx.time w.view.ctx.params.min_commission_rate v >>= λ rated. minimum_edited minimum rated >>= λ set. Ok (g set))
    ≡ first_of (when (is_none o) NoValidator ∷ first_of (against_rate_of rate o w) ∷ first_of (against_minimum_of minimum o) ∷ [])
edit_of None rate minimum w g = refl
edit_of (Some v) None None w g = refl
edit_of (Some v) None (Some n) w g = minimum_then n v g
edit_of (Some v) (Some rate) None w g = rate_then rate v w (λ rated. minimum_edited None rated >>= λ set. Ok (g set)) (None ∷ []) refl
edit_of (Some v) (Some rate) (Some n) w g =
    rate_then rate v w (λ rated. minimum_edited (Some n) rated >>= λ set. Ok (g set)) (first_of (minimum_list n v) ∷ []) (minimum_then n (record v { commission = record v.commission { rate = rate; updated = w.view.ctx.time } }) g)

same_rate : (rate : Option ℕ) (operator : List ℕ) (w : State) → against_rate_of rate (validator_at w.mine.staked operator) w ≡ against_rate rate operator w
same_rate None operator w = refl
same_rate (Some n) operator w = refl

same_minimum : (n : Option ℕ) (operator : List ℕ) (w : State) → against_minimum_of n (validator_at w.mine.staked operator) ≡ against_minimum n operator w
same_minimum None operator w = refl
same_minimum (Some n) operator w = refl

pub edits_refused : (m : EditValidator) (w : State) → refusal_of (edit_validator m) w ≡ first_of (against_edit m w)
edits_refused m w =
    mapped (edited m w.view.ctx.time w.view.ctx.params.min_commission_rate w.mine.staked) (λ s. over_mine (λ c. record c { staked = s }) w)
    ∙ two_steps (unwrap_or m.min_self_delegation 1 == 0) (nat_lt (10 ^ 18) (unwrap_or m.rate 0)) MinSelfNotPositive CommissionRange _ _
    (edit_of (validator_at w.mine.staked m.validator) m.rate m.min_self_delegation w (λ set. put_validator set w.mine.staked)
    ∙ ap (λ xs. first_of (when (is_none (validator_at w.mine.staked m.validator)) NoValidator ∷ first_of xs ∷ first_of (against_minimum_of m.min_self_delegation (validator_at w.mine.staked m.validator)) ∷ [])) (same_rate m.rate m.validator w)
    ∙ ap (λ xs. first_of (when (is_none (validator_at w.mine.staked m.validator)) NoValidator ∷ first_of (against_rate m.rate m.validator w) ∷ first_of xs ∷ [])) (same_minimum m.min_self_delegation m.validator w))

pub are_refused_anywhere : AreRefusedAnywhere
are_refused_anywhere = record {
  sends = sends_refused;
  edits = edits_refused;
  unjails = unjails_refused;
  commissions = commissions_refused;
  payees = payees_refused;
  spends = spends_refused;
  updates = updates_refused;
}
