-- Laws of the machine's steps: what each keeps.
use Rattle.std.specs.Prelude.{◌≡◌, ℕ, ◌+◌, ◌*◌, ◌^◌, ◌<◌, ◌≤◌, List, length, map, sum, All, IfOk, Result, Ok, Some}
use Rattle.base_types.specs.declared.account.Account.{Account}
use Rattle.base_coins.specs.declared.coin.Coin.{Coin}
use Rattle.base_coins.specs.Coins.{Money, IsMoney}
use Rattle.base_roles.specs.declared.messages.CreateValidator.{CreateValidator}
use Rattle.base_roles.specs.declared.messages.EditValidator.{EditValidator}
use Rattle.base_roles.specs.declared.messages.Evidence.{Evidence}
use Rattle.base_roles.specs.declared.messages.Vote.{Vote}
use Rattle.base_roles.specs.declared.entities.Validator.{Validator}
use Rattle.base_roles.specs.declared.params.Params.{Params}
use Rattle.base_roles.specs.Ground.{end_of_blocks}
use Rattle.base_roles.specs.Holdings.{supply_of}
use Rattle.base_roles.specs.Items.{IsOnce}
use Rattle.base_roles.specs.Staked.{validator_by_cons}
use Rattle.rule_modules.specs.Chain.{State, vote_step, evidence_step, allocation_step, set_step, window_in, maturing_step, unbondings_step, redelegations_step}
use Rattle.rule_modules.specs.Effects.{send, create_validator, edit_validator, delegate, undelegate, begin_redelegate, cancel_unbonding, unjail, withdraw_reward, withdraw_commission, set_withdraw_address, fund_community_pool, community_pool_spend, fee_paid}
use Rattle.rule_modules.specs.Parameters.{update_params}
use Rattle.rule_modules.specs.Sound.{IsSound}
use Rattle.rule_modules.specs.Window.{Signing, signing_of}
use Rattle.rule_modules.specs.Laws.{next_block, burned_in}

-- ---- atomic steps

-- what each state that meets P is, after a step that is not refused
abbrev pub KeptByStep : {E : Type 0} → (State → State → Type 0) → (State → Result State E) → Type 0
KeptByStep P f = (w : State) → IsSound w → IfOk (f w) (P w)

-- entries that were made at this height lost nothing to a slash, since slashes come at a block's beginning
abbrev pub AreWhole : State → Type 0
AreWhole w = All (λ p. All (λ e. e.created ≡ w.view.ctx.height → e.balance ≡ e.initial) p.1) w.mine.unbondings

-- fewer votes of a consensus address were counted than the height is
abbrev pub CountsBelow : List ℕ → State → Type 0
CountsBelow cons w = (s : Signing) → signing_of (window_in w) cons ≡ Some s → length s.votes < w.view.ctx.height

-- a relation between the states before and after each message, from sound states
pub record KeptByMessages (P : State → State → Type 0) : Type 0 where
  pub fees : (payer : List ℕ) (fee : Money) → IsMoney fee → KeptByStep P (fee_paid payer fee)
  pub sends : (from : List ℕ) (to : Account) (coins : Money) → IsMoney coins → KeptByStep P (send from to coins)
  pub creates : (m : CreateValidator) → KeptByStep P (create_validator m)
  pub edits : (m : EditValidator) → KeptByStep P (edit_validator m)
  pub delegates : (delegator operator : List ℕ) (coin : Coin) → KeptByStep P (delegate delegator operator coin)
  pub undelegates : (delegator operator : List ℕ) (coin : Coin) (w : State) → IsSound w → AreWhole w → IfOk (undelegate delegator operator coin w) (P w)
  pub redelegates : (delegator source target : List ℕ) (coin : Coin) → KeptByStep P (begin_redelegate delegator source target coin)
  pub cancels : (delegator operator : List ℕ) (coin : Coin) (height : ℕ) → KeptByStep P (cancel_unbonding delegator operator coin height)
  pub unjails : (operator : List ℕ) → KeptByStep P (unjail operator)
  pub withdraws : (delegator operator : List ℕ) → KeptByStep P (withdraw_reward delegator operator)
  pub commissions : (operator : List ℕ) → KeptByStep P (withdraw_commission operator)
  pub payees : (delegator : List ℕ) (to : Account) → KeptByStep P (set_withdraw_address delegator to)
  pub funds : (who : List ℕ) (coins : Money) → IsMoney coins → KeptByStep P (fund_community_pool who coins)
  pub spends : (authority : List ℕ) (to : Account) (coins : Money) → IsMoney coins → KeptByStep P (community_pool_spend authority to coins)
  pub updates : (authority : List ℕ) (p : Params) → KeptByStep P (update_params authority p)

-- a power that a block may name, in tokens
abbrev pub IsPower : ℕ → State → Type 0
IsPower power w = power * w.view.ctx.params.power_reduction ≤ 10 ^ 18

-- the votes of a block: each of a validator that stands, no consensus address twice, and all power within the limit
pub record AreVotes (votes : List Vote) (w : State) : Type 0 where
  pub known : All (λ t. (v : Validator) × (validator_by_cons w.mine.staked t.cons ≡ Some v)) votes
  pub once : IsOnce (map (λ t. t.cons) votes)
  pub power : IsPower (sum (map (λ t. t.power) votes)) w

-- the same relation for the parts of a block
pub record KeptByBlocks (P : State → State → Type 0) : Type 0 where
  pub next : (height time : ℕ) (w : State) → IsSound w → w.view.ctx.height < height → height < 2 ^ 63 → w.view.ctx.time ≤ time → time < end_of_blocks → P w (next_block height time w)
  pub allocates : (votes : List Vote) (w : State) → IsSound w → AreVotes votes w → IfOk (allocation_step votes w) (P w)
  pub votes : (t : Vote) (w : State) → IsSound w → IsPower t.power w → CountsBelow t.cons w → IfOk (vote_step t w) (P w)
  pub evidence : (e : Evidence) (w : State) → IsSound w → IsPower e.power w → 1 ≤ e.height → e.height < w.view.ctx.height → e.time ≤ w.view.ctx.time → IfOk (evidence_step e w) (P w)
  pub sets : KeptByStep P set_step
  pub matures : KeptByStep P maturing_step
  pub pays : KeptByStep P unbondings_step
  pub ends : KeptByStep P redelegations_step

-- ---- the statements

-- Each atomic step keeps a state sound; with it, the three accounts hold what they owe. Proved: `sound_is_kept` of `law_soundness`.
abbrev pub SoundIsKept : Type 0
SoundIsKept = KeptByMessages (λ old new. IsSound new) × KeptByBlocks (λ old new. IsSound new)

-- The supply and what was burned together stay.
abbrev pub SupplyFallsByBurns : State → State → Type 0
SupplyFallsByBurns old new = (d : List ℕ) → supply_of new.view.bank d + burned_in d new.view.facts ≡ supply_of old.view.bank d + burned_in d old.view.facts

-- In each atomic step each supply falls by exactly the burns that its facts tell. Proved: `only_burns_lower_supplies` of
-- `law_soundness`.
abbrev pub OnlyBurnsLowerSupplies : Type 0
OnlyBurnsLowerSupplies = KeptByMessages SupplyFallsByBurns × KeptByBlocks SupplyFallsByBurns

-- The end of a block never exceeds. Proved: `blocks_end` of `law_soundness`.
abbrev pub BlocksEnd : Type 0
BlocksEnd = (w : State) → IsSound w → ((s : State) × (set_step w ≡ Ok s)) × ((s : State) × (maturing_step w ≡ Ok s))
