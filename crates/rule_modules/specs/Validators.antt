-- Creating and editing a validator (`x/staking/keeper`: `msgServer.CreateValidator`, `msgServer.EditValidator`).
use Rattle.std.specs.Prelude.{ℕ, ◌+◌, ◌-◌, ◌^◌, ◌==◌, ◌||◌, Bool, false, nat_lt, nat_le, Option, Some, None, unwrap_or, is_some, Result, Ok, ⊤}
use Rattle.base_decimals.specs.declared.over.Over.{Over}
use Rattle.base_types.specs.declared.status.BondStatus.TheVariants.{Unbonded}
use Rattle.base_roles.specs.declared.entities.Validator.{Validator}
use Rattle.base_roles.specs.declared.messages.CreateValidator.{CreateValidator}
use Rattle.base_roles.specs.declared.messages.EditValidator.{EditValidator}
use Rattle.base_roles.specs.declared.refusal.Refusal.{Refusal}
use Rattle.base_roles.specs.declared.refusal.Refusal.TheVariants.{WrongDenom, NonPositive, NoValidator, ValidatorExists, ConsKeyExists, CommissionRange, CommissionBelowMinimum, CommissionTooSoon, CommissionAboveMax, CommissionStep, MinSelfNotPositive, SelfBelowMinimum, MinSelfNotRaised, Overflow}
use Rattle.base_roles.specs.Staked.{Staked, validator_at, validator_by_cons, put_validator}
use Rattle.base_roles.specs.Flow.{◌>>=◌, ◌>>◌, stop_if, or_stop, stopping}
use Rattle.base_roles.specs.World.{View, Told, World, call, over_mine}
use Rattle.base_roles.specs.declared.calls.Hook.{Hook}
use Rattle.base_roles.specs.declared.calls.Hook.TheVariants as hook
use Rattle.rule_modules.specs.Amounts.{seconds}
use Rattle.rule_modules.specs.Delegating.{is_wrong, wallet, delegated}

-- A new validator: unbonded, not jailed, without tokens and shares; its commission counts as changed now
-- (`NewValidator`, `NewCommissionWithTime`).
abbrev pub new_validator : CreateValidator → ℕ → Validator
new_validator m time = record {
  operator = m.validator;
  cons = m.cons;
  status = Unbonded;
  jailed = false;
  tokens = 0;
  shares = 0;
  commission = record { rate = m.rate; max_rate = m.max_rate; max_change = m.max_change_rate; updated = time };
  min_self = m.min_self_delegation;
  unbonding_height = 0;
  unbonding_time = 0;
}

-- the rates are no rates: more than one, or above the highest (`CommissionRates.Validate`)
abbrev pub are_out_of_range : CreateValidator → Bool
are_out_of_range m = nat_lt (10 ^ 18) m.max_rate || nat_lt m.max_rate m.rate || nat_lt m.max_rate m.max_change_rate

module _ {H : Type 0} (told : H → Hook → View → Told H) where
  -- a validator is there, and its first hook is called (`CreateValidator`: `AfterValidatorCreated`)
  abbrev pub stored : Validator → World Staked H → Result (World Staked H) Over
  stored v w = call told (hook.Created v) (over_mine (put_validator v) w)

  -- A validator is created, then its operator delegates to it from the wallet (`msgServer.CreateValidator`).
  abbrev pub created : CreateValidator → World Staked H → Result (⊤ × World Staked H) Refusal
  created m w = do
    stop_if (m.amount.amount == 0) NonPositive
    stop_if (are_out_of_range m) CommissionRange
    stop_if (m.min_self_delegation == 0) MinSelfNotPositive
    stop_if (nat_lt m.amount.amount m.min_self_delegation) SelfBelowMinimum
    stop_if (nat_lt m.rate w.view.ctx.params.min_commission_rate) CommissionBelowMinimum
    stop_if (is_some (validator_at w.mine m.validator)) ValidatorExists
    stop_if (is_some (validator_by_cons w.mine m.cons)) ConsKeyExists
    stop_if (is_wrong m.amount w.view) WrongDenom
    let v = new_validator m w.view.ctx.time
    w1 ← stopping Overflow (stored v w)
    (issued, w2) ← delegated told v m.validator m.amount.amount wallet w1
    Ok (tt, w2)

-- what is refused of an edit whatever stands: a minimum of 0, a rate above one (`MsgEditValidator.ValidateBasic`)
abbrev pub edit_formed : EditValidator → Result ⊤ Refusal
edit_formed m = do
  stop_if (unwrap_or m.min_self_delegation 1 == 0) MinSelfNotPositive
  stop_if (nat_lt (10 ^ 18) (unwrap_or m.rate 0)) CommissionRange

-- A new rate needs 24 hours since the last, is at most the highest, raises the old by at most the most change, and is
-- at least the chain's minimum (`Commission.ValidateNewRate`, `UpdateValidatorCommission`).
abbrev pub rate_edited : Option ℕ → ℕ → ℕ → Validator → Result Validator Refusal
rate_edited None time minimum v = Ok v
rate_edited (Some rate) time minimum v = do
  stop_if (nat_lt (time - v.commission.updated) (seconds 86400)) CommissionTooSoon
  stop_if (nat_lt v.commission.max_rate rate) CommissionAboveMax
  stop_if (nat_lt (v.commission.rate + v.commission.max_change) rate) CommissionStep
  stop_if (nat_lt rate minimum) CommissionBelowMinimum
  Ok (record v { commission = record v.commission { rate = rate; updated = time } })

-- A new least self-delegation is above the old one, and at most the tokens (`msgServer.EditValidator`).
abbrev pub minimum_edited : Option ℕ → Validator → Result Validator Refusal
minimum_edited None v = Ok v
minimum_edited (Some n) v = do
  stop_if (nat_le n v.min_self) MinSelfNotRaised
  stop_if (nat_lt v.tokens n) SelfBelowMinimum
  Ok (record v { min_self = n })

-- A validator's rate and least self-delegation are changed at a time, under the chain's minimum commission
-- (`msgServer.EditValidator`).
abbrev pub edited : EditValidator → ℕ → ℕ → Staked → Result Staked Refusal
edited m time minimum s = do
  edit_formed m
  v ← or_stop (validator_at s m.validator) NoValidator
  rated ← rate_edited m.rate time minimum v
  set ← minimum_edited m.min_self_delegation rated
  Ok (put_validator set s)
