-- What calls of staking need, and what they leave that no rule says.
use Rattle.std.specs.Prelude.{◌≡◌, ℕ, ◌+◌, ◌≤◌, ◌^◌, ◌==◌, nat_lt, Bool, true, if◌then◌else◌, List, [], Option, Some, None, option_map, Result, Ok, ⊤}
use Rattle.base_types.specs.declared.account.Account.TheVariants as account
use Rattle.base_types.specs.declared.status.BondStatus.{BondStatus}
use Rattle.base_roles.specs.declared.entities.Validator.{Validator}
use Rattle.base_roles.specs.declared.facts.Fact.TheVariants as fact
use Rattle.base_roles.specs.declared.faults.MessageFault.{MessageFault}
use Rattle.base_roles.specs.declared.messages.CreateValidator.{CreateValidator}
use Rattle.base_roles.specs.declared.messages.EditValidator.{EditValidator}
use Rattle.base_roles.specs.declared.refusal.Refusal.{Refusal}
use Rattle.base_roles.specs.declared.refusal.Refusal.TheVariants.{NonPositive, CommissionRange, MinSelfNotPositive, SelfBelowMinimum, CommissionBelowMinimum}
use Rattle.base_roles.specs.Answers.{AsRuled, StopsForMemory, RefusesAs}
use Rattle.base_roles.specs.Holdings.{balance_of}
use Rattle.base_roles.specs.Staked.{Staked, validator_at, put_validator, bonded_tokens, other_tokens, is_bonded}
use Rattle.base_roles.specs.Log.{Log}
use Rattle.base_roles.specs.Flow.{◌>>=◌, ◌>>◌, stop_if}
use Rattle.base_roles.specs.World.{View, World, noted}
use Rattle.rule_modules.specs.Delegating.{Origin, wallet, pool}
use Rattle.rule_modules.specs.Sound.{StakedIsSound}
use Rattle.rule_modules.specs.Stakes.{pool_of}
use Rattle.rule_modules.specs.Validators.{are_out_of_range, edited}
use Rattle.mod_staking.specs.declared.origin.Origin as declared
use Rattle.mod_staking.specs.declared.origin.Origin.TheVariants as origin

-- staking's own condition: its records are sound, with no unbonding later than some height
abbrev pub IsSoundStake : Staked → Type 0
IsSoundStake s = (height : ℕ) × StakedIsSound height s

-- what a rule starts from: the module's records, what the hooks hold, and the ground
abbrev pub over : {S H : Type 0} → S → H → View → World S H
over s h v = record { mine = s; hooks = h; view = v; log = [] }

-- the same behind what was logged so far
abbrev pub behind_log : {S H : Type 0} → Log → S → H → View → World S H
behind_log log s h v = record { mine = s; hooks = h; view = v; log = log }

-- where the coins of a delegation come from, as rules have it
abbrev pub origin_of : declared.Origin → Origin
origin_of origin.Wallet = wallet
origin_of (origin.Pool status) = pool status

-- what is owed to validators from the account of a status
abbrev pub tokens_of_pool : BondStatus → Staked → ℕ
tokens_of_pool status s = if is_bonded status then bonded_tokens s else other_tokens s

-- The account that the coins of a delegation come from has them, besides what is owed from it to validators.
abbrev pub HasOrigin : Origin → ℕ → Staked → View → Type 0
HasOrigin wallet amount s v = ⊤
HasOrigin (pool from) amount s v = tokens_of_pool from s + amount ≤ balance_of v.bank (account.Module (pool_of from)) v.ctx.params.bond_denom

-- the account that the coins of a delegation come from has them, unless it is the delegator's own
abbrev pub CanPay : Origin → ℕ → View → Type 0
CanPay wallet amount v = ⊤
CanPay (pool from) amount v = amount ≤ balance_of v.bank (account.Module (pool_of from)) v.ctx.params.bond_denom

-- what paying in answers and leaves of the ground: what the rule gives, or its refusal; or memory is wanting
abbrev pub PaysAs : Result View Refusal → View → Result ⊤ MessageFault → Type 0
PaysAs rule v answer = AsRuled rule answer (λ due a. v ≡ due) StopsForMemory RefusesAs

-- an edit changes validators alone
abbrev pub edited_over : EditValidator → Staked → View → Result (⊤ × Staked × View) Refusal
edited_over m s v = edited m v.ctx.time v.ctx.params.min_commission_rate s >>= λ t. Ok (tt, t, v)

-- with this validator in the place of the old one, where there is one
abbrev pub with_if : Option Validator → Staked → Staked
with_if None s = s
with_if (Some v) s = put_validator v s

-- with a validator that is changed so
abbrev pub changed_at : (Validator → Validator) → List ℕ → Staked → Staked
changed_at f operator s = with_if (option_map f (validator_at s operator)) s

-- with a validator jailed, if so
abbrev pub jailed_if : Bool → Validator → Staked → Staked
jailed_if falls v s = if falls then put_validator (record v { jailed = true }) s else s

-- with this told, if so
abbrev pub jail_noted : Bool → Validator → View → View
jail_noted falls v w = if falls then noted (fact.Jailed v.operator) w else w

-- what is refused of a new validator whatever stands: no amount, rates that are none, a least self-delegation of 0 or above
-- the amount, a rate below the chain's minimum (`MsgCreateValidator.ValidateBasic`)
abbrev pub create_formed : CreateValidator → ℕ → Result ⊤ Refusal
create_formed m minimum = do
  stop_if (m.amount.amount == 0) NonPositive
  stop_if (are_out_of_range m) CommissionRange
  stop_if (m.min_self_delegation == 0) MinSelfNotPositive
  stop_if (nat_lt m.amount.amount m.min_self_delegation) SelfBelowMinimum
  stop_if (nat_lt m.rate minimum) CommissionBelowMinimum

-- the rates of a new validator are rates: none above the highest, which is at most one
pub record HasRates (m : CreateValidator) : Type 0 where
  pub max_rate : m.max_rate ≤ 10 ^ 18
  pub rate : m.rate ≤ m.max_rate
  pub max_change : m.max_change_rate ≤ m.max_rate
