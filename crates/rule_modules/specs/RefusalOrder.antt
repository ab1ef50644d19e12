-- The order of conditions of each kind of message, and that a message is refused by the first that holds.
use Rattle.std.specs.Prelude.{◌≡◌, ℕ, ◌+◌, ◌-◌, ◌^◌, ◌==◌, not, false, nat_lt, nat_le, List, [], ◌∷◌, Option, Some, None, option_map, unwrap_or, is_some, is_none, Result, Ok, Err}
use Rattle.base_types.specs.declared.account.Account.{Account}
use Rattle.base_types.specs.declared.account.Account.TheVariants as account
use Rattle.base_decimals.specs.Decimals.{whole_of}
use Rattle.base_coins.specs.declared.coin.Coin.{Coin}
use Rattle.base_coins.specs.Coins.{Money, IsMoney}
use Rattle.base_roles.specs.declared.messages.CreateValidator.{CreateValidator}
use Rattle.base_roles.specs.declared.messages.EditValidator.{EditValidator}
use Rattle.base_roles.specs.declared.params.Params.{Params}
use Rattle.base_roles.specs.declared.refusal.Refusal.{Refusal}
use Rattle.base_roles.specs.declared.refusal.Refusal.TheVariants.{InsufficientFunds, ModuleRecipient, WrongDenom, NonPositive, NoValidator, ValidatorExists, ConsKeyExists, CommissionRange, CommissionBelowMinimum, CommissionTooSoon, CommissionAboveMax, CommissionStep, MinSelfNotPositive, SelfBelowMinimum, MinSelfNotRaised, NoDelegation, TooManyShares, NoTokens, RateInvalid, UnbondingsFull, SelfRedelegation, Transitive, RedelegationsFull, TinyRedelegation, Jailed, NoEntry, CancelTooMuch, NotJailed, NoSelfDelegation, StillJailed, Tombstoned, NoCommission, PoolTooSmall, NotAuthority, ParamRange, ParamFixed, WithdrawFixed, TinyDelegation}
use Rattle.base_roles.specs.Holdings.{is_short}
use Rattle.base_roles.specs.Orders.{same_addr}
use Rattle.base_roles.specs.Ranges.{out_of_range}
use Rattle.base_roles.specs.Staked.{validator_by_cons}
use Rattle.rule_modules.specs.Amounts.{bond_coins, is_empty, seconds}
use Rattle.rule_modules.specs.Chain.{State, shared_in}
use Rattle.rule_modules.specs.Conditions.{when, first_of, over_in, said_of, lacks_validator, lacks_delegation, has_no_rate, has_no_tokens, is_jailed, asks_too_much, out_for, shares_over, is_tiny, reward_over, cannot_pay, has_most_unbondings, has_most_redelegations, cancelled_entry, cancels_too_much, has_too_little, record_of, has_no_commission}
use Rattle.rule_modules.specs.Delegating.{is_wrong}
use Rattle.rule_modules.specs.Effects.{Effect, send, create_validator, edit_validator, delegate, undelegate, begin_redelegate, cancel_unbonding, unjail, withdraw_reward, withdraw_commission, set_withdraw_address, fund_community_pool, community_pool_spend}
use Rattle.rule_modules.specs.Parameters.{fixed_changed, update_params}
use Rattle.rule_modules.specs.Purses.{is_above_pool}
use Rattle.rule_modules.specs.Redelegations.{is_transitive}
use Rattle.rule_modules.specs.Sound.{IsSound}
use Rattle.rule_modules.specs.Validators.{are_out_of_range}
use Rattle.rule_modules.specs.Window.{Signing}
use Rattle.rule_modules.specs.Withdrawals.{is_module}

-- the conditions of a message, in their order
abbrev pub Order : Type 0
Order = State → List (Option Refusal)

-- sending
abbrev pub against_send : List ℕ → Account → Money → Order
against_send from to coins w =
    when (is_empty coins) NonPositive
    ∷ when (is_module to) ModuleRecipient
    ∷ when (is_short w.view.bank (account.User from) coins) InsufficientFunds
    ∷ []

-- creating a validator
abbrev pub against_create : CreateValidator → Order
against_create m w =
    when (m.amount.amount == 0) NonPositive
    ∷ when (are_out_of_range m) CommissionRange
    ∷ when (m.min_self_delegation == 0) MinSelfNotPositive
    ∷ when (nat_lt m.amount.amount m.min_self_delegation) SelfBelowMinimum
    ∷ when (nat_lt m.rate w.view.ctx.params.min_commission_rate) CommissionBelowMinimum
    ∷ when (not (lacks_validator m.validator w)) ValidatorExists
    ∷ when (is_some (validator_by_cons w.mine.staked m.cons)) ConsKeyExists
    ∷ when (is_wrong m.amount w.view) WrongDenom
    ∷ over_in (whole_of m.amount.amount)
    ∷ when (is_short w.view.bank (account.User m.validator) (bond_coins w.view m.amount.amount)) InsufficientFunds
    ∷ []

-- what a given rate, and a given least self-delegation, may be refused by
abbrev pub against_rate : Option ℕ → List ℕ → Order
against_rate None operator w = []
against_rate (Some rate) operator w =
    when (said_of false (λ v. nat_lt (w.view.ctx.time - v.commission.updated) (seconds 86400)) operator w) CommissionTooSoon
    ∷ when (said_of false (λ v. nat_lt v.commission.max_rate rate) operator w) CommissionAboveMax
    ∷ when (said_of false (λ v. nat_lt (v.commission.rate + v.commission.max_change) rate) operator w) CommissionStep
    ∷ when (nat_lt rate w.view.ctx.params.min_commission_rate) CommissionBelowMinimum
    ∷ []

-- what a given least self-delegation may be refused by
abbrev pub against_minimum : Option ℕ → List ℕ → Order
against_minimum None operator w = []
against_minimum (Some n) operator w =
    when (said_of false (λ v. nat_le n v.min_self) operator w) MinSelfNotRaised
    ∷ when (said_of false (λ v. nat_lt v.tokens n) operator w) SelfBelowMinimum
    ∷ []

-- editing a validator
abbrev pub against_edit : EditValidator → Order
against_edit m w =
    when (unwrap_or m.min_self_delegation 1 == 0) MinSelfNotPositive
    ∷ when (nat_lt (10 ^ 18) (unwrap_or m.rate 0)) CommissionRange
    ∷ when (lacks_validator m.validator w) NoValidator
    ∷ first_of (against_rate m.rate m.validator w)
    ∷ first_of (against_minimum m.min_self_delegation m.validator w)
    ∷ []

-- delegating
abbrev pub against_delegate : List ℕ → List ℕ → Coin → Order
against_delegate delegator operator coin w =
    when (coin.amount == 0) NonPositive
    ∷ when (lacks_validator operator w) NoValidator
    ∷ when (is_wrong coin w.view) WrongDenom
    ∷ when (has_no_rate operator w) RateInvalid
    ∷ shares_over operator coin.amount w
    ∷ when (is_tiny operator coin.amount w) TinyDelegation
    ∷ reward_over delegator operator w
    ∷ when (cannot_pay delegator operator coin.amount w) InsufficientFunds
    ∷ []

-- undelegating
abbrev pub against_undelegate : List ℕ → List ℕ → Coin → Order
against_undelegate delegator operator coin w =
    when (coin.amount == 0) NonPositive
    ∷ when (lacks_validator operator w) NoValidator
    ∷ when (lacks_delegation delegator operator w) NoDelegation
    ∷ when (has_no_tokens operator w) NoTokens
    ∷ when (asks_too_much delegator operator coin.amount w) TooManyShares
    ∷ when (is_wrong coin w.view) WrongDenom
    ∷ when (has_most_unbondings delegator operator w) UnbondingsFull
    ∷ reward_over delegator operator w
    ∷ []

-- redelegating
abbrev pub against_redelegate : List ℕ → List ℕ → List ℕ → Coin → Order
against_redelegate delegator source target coin w =
    when (coin.amount == 0) NonPositive
    ∷ when (lacks_validator source w) NoValidator
    ∷ when (lacks_delegation delegator source w) NoDelegation
    ∷ when (has_no_tokens source w) NoTokens
    ∷ when (asks_too_much delegator source coin.amount w) TooManyShares
    ∷ when (is_wrong coin w.view) WrongDenom
    ∷ when (same_addr source target) SelfRedelegation
    ∷ when (lacks_validator target w) NoValidator
    ∷ when (is_transitive w.mine.redelegations delegator source) Transitive
    ∷ when (has_most_redelegations delegator source target w) RedelegationsFull
    ∷ when (out_for source coin.amount w == 0) TinyRedelegation
    ∷ when (has_no_rate target w) RateInvalid
    ∷ shares_over target (out_for source coin.amount w) w
    ∷ when (is_tiny target (out_for source coin.amount w) w) TinyDelegation
    ∷ reward_over delegator source w
    ∷ reward_over delegator target w
    ∷ []

-- cancelling an unbonding
abbrev pub against_cancel : List ℕ → List ℕ → Coin → ℕ → Order
against_cancel delegator operator coin height w =
    when (coin.amount == 0) NonPositive
    ∷ when (is_wrong coin w.view) WrongDenom
    ∷ when (lacks_validator operator w) NoValidator
    ∷ when (has_no_rate operator w) RateInvalid
    ∷ when (is_jailed operator w) Jailed
    ∷ when (is_none (cancelled_entry delegator operator height w)) NoEntry
    ∷ when (cancels_too_much delegator operator height coin.amount w) CancelTooMuch
    ∷ shares_over operator coin.amount w
    ∷ when (is_tiny operator coin.amount w) TinyDelegation
    ∷ reward_over delegator operator w
    ∷ []

-- what a signing record keeps from leaving jail: a tombstone, or a time that is not over
abbrev pub against_leaving : Option Signing → Order
against_leaving None w = []
against_leaving (Some s) w =
    when s.tombstoned Tombstoned
    ∷ when (nat_lt w.view.ctx.time s.jailed_until) (StillJailed s.jailed_until)
    ∷ []

-- leaving jail
abbrev pub against_unjail : List ℕ → Order
against_unjail operator w =
    when (lacks_validator operator w) NoValidator
    ∷ when (lacks_delegation operator operator w) NoSelfDelegation
    ∷ when (has_too_little operator w) SelfBelowMinimum
    ∷ when (not (is_jailed operator w)) NotJailed
    ∷ first_of (against_leaving (record_of operator w) w)
    ∷ []

-- withdrawing a reward
abbrev pub against_reward : List ℕ → List ℕ → Order
against_reward delegator operator w =
    when (lacks_validator operator w) NoValidator
    ∷ when (lacks_delegation delegator operator w) NoDelegation
    ∷ reward_over delegator operator w
    ∷ []

-- withdrawing commission
abbrev pub against_commission : List ℕ → Order
against_commission operator w = when (has_no_commission operator w) NoCommission ∷ []

-- naming another payee
abbrev pub against_payee : Account → Order
against_payee to w =
    when (is_module to) ModuleRecipient
    ∷ when (not w.view.ctx.params.withdraw_addr_enabled) WithdrawFixed
    ∷ []

-- funding the community pool
abbrev pub against_fund : List ℕ → Money → Order
against_fund who coins w =
    when (is_empty coins) NonPositive
    ∷ when (is_short w.view.bank (account.User who) coins) InsufficientFunds
    ∷ []

-- spending from the community pool
abbrev pub against_spend : List ℕ → Account → Money → Order
against_spend authority to coins w =
    when (not (same_addr authority w.view.ctx.params.authority)) NotAuthority
    ∷ when (is_empty coins) NonPositive
    ∷ when (is_module to) ModuleRecipient
    ∷ when (is_above_pool coins (shared_in w).purses) PoolTooSmall
    ∷ []

-- replacing the parameters
abbrev pub against_update : List ℕ → Params → Order
against_update authority p w =
    when (not (same_addr authority w.view.ctx.params.authority)) NotAuthority
    ∷ option_map ParamRange (out_of_range p)
    ∷ option_map ParamFixed (fixed_changed w.view.ctx.params p)
    ∷ []

-- ---- what a message is refused by

-- the refusal of a message in a state, if it is refused
abbrev pub refused_in : {A : Type 0} → Result A Refusal → Option Refusal
refused_in (Ok a) = None
refused_in (Err why) = Some why

-- the refusal of a message
abbrev pub refusal_of : Effect → State → Option Refusal
refusal_of f w = refused_in (f w)

-- Seven kinds of messages are refused so in every state, sound or not.
pub record AreRefusedAnywhere : Type 0 where
  pub sends : (from : List ℕ) (to : Account) (coins : Money) (w : State) → refusal_of (send from to coins) w ≡ first_of (against_send from to coins w)
  pub edits : (m : EditValidator) (w : State) → refusal_of (edit_validator m) w ≡ first_of (against_edit m w)
  pub unjails : (operator : List ℕ) (w : State) → refusal_of (unjail operator) w ≡ first_of (against_unjail operator w)
  pub commissions : (operator : List ℕ) (w : State) → refusal_of (withdraw_commission operator) w ≡ first_of (against_commission operator w)
  pub payees : (delegator : List ℕ) (to : Account) (w : State) → refusal_of (set_withdraw_address delegator to) w ≡ first_of (against_payee to w)
  pub spends : (authority : List ℕ) (to : Account) (coins : Money) (w : State) → refusal_of (community_pool_spend authority to coins) w ≡ first_of (against_spend authority to coins w)
  pub updates : (authority : List ℕ) (p : Params) (w : State) → refusal_of (update_params authority p) w ≡ first_of (against_update authority p w)

-- In every sound state a message is refused by the first of its conditions that holds, and accepted where none does.
abbrev pub IsRefusedBy : Effect → Order → Type 0
IsRefusedBy f order = (w : State) → IsSound w → refusal_of f w ≡ first_of (order w)

-- So are the others in every sound state. Proved: `messages_name_conditions` of `law_soundness`.
pub record RefusalsNameConditions : Type 0 where
  pub creates : (m : CreateValidator) → IsRefusedBy (create_validator m) (against_create m)
  pub delegates : (delegator operator : List ℕ) (coin : Coin) → IsRefusedBy (delegate delegator operator coin) (against_delegate delegator operator coin)
  pub undelegates : (delegator operator : List ℕ) (coin : Coin) → IsRefusedBy (undelegate delegator operator coin) (against_undelegate delegator operator coin)
  pub redelegates : (delegator source target : List ℕ) (coin : Coin) → IsRefusedBy (begin_redelegate delegator source target coin) (against_redelegate delegator source target coin)
  pub cancels : (delegator operator : List ℕ) (coin : Coin) (height : ℕ) → IsRefusedBy (cancel_unbonding delegator operator coin height) (against_cancel delegator operator coin height)
  pub rewards : (delegator operator : List ℕ) → IsRefusedBy (withdraw_reward delegator operator) (against_reward delegator operator)
  pub funds : (who : List ℕ) (coins : Money) → IsMoney coins → IsRefusedBy (fund_community_pool who coins) (against_fund who coins)
