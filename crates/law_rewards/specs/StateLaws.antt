-- Laws of reached states: what they bracket, and which steps keep them reached.
use Rattle.std.specs.Prelude.{◌≡◌, ℕ, ◌-◌, ◌*◌, ◌^◌, ◌<◌, ◌≤◌, List, [], All, Some, Ok}
use Rattle.base_types.specs.declared.account.Account as account
use Rattle.base_coins.specs.Coins.{Money, IsMoney, amount_of}
use Rattle.base_roles.specs.declared.entities.Validator.{Validator}
use Rattle.base_roles.specs.declared.facts.Fact.{Fact}
use Rattle.base_roles.specs.declared.messages.EditValidator.{EditValidator}
use Rattle.base_roles.specs.declared.messages.Vote.{Vote}
use Rattle.base_roles.specs.declared.params.Params.{Params}
use Rattle.base_roles.specs.Log.{Log}
use Rattle.base_roles.specs.Staked.{validator_at, delegation}
use Rattle.base_roles.specs.World.{View}
use Rattle.rule_modules.specs.Allocation.{shares_allocated}
use Rattle.rule_modules.specs.Chain.{State, with_shared, shared_in}
use Rattle.rule_modules.specs.Distribution.{Shared, ended, reward_withdrawn}
use Rattle.rule_modules.specs.Effects.{send, edit_validator, unjail, withdraw_reward, withdraw_commission, set_withdraw_address, fund_community_pool, community_pool_spend, fee_paid}
use Rattle.rule_modules.specs.Ideal.{history_of, claimed, overclaim_of}
use Rattle.rule_modules.specs.Laws.{IsBracketed, HasShortfallWithin, next_block}
use Rattle.rule_modules.specs.Parameters.{update_params}
use Rattle.rule_modules.specs.StepLaws.{KeptByStep}
use Rattle.rule_modules.specs.Periods.{periods_of, ratio_at}
use Rattle.rule_modules.specs.Purses.{Purses, purse_of}
use Rattle.rule_modules.specs.Sound.{IsSound}
use Rattle.law_rewards.specs.States.{AreReached}

-- In a sound state whose accounts are reached, each delegation's claim is bracketed, as the rules state it.
abbrev pub ReachedIsBracketed : Type 0
ReachedIsBracketed = (w : State) → IsSound w → AreReached w → IsBracketed w

-- In a state whose accounts are reached, what is outstanding for each validator covers all claims, but for the overclaim.
abbrev pub ReachedHasShortfallWithin : Type 0
ReachedHasShortfallWithin =
    (w : State) → AreReached w → (d : List ℕ) (v : Validator) → validator_at w.mine.staked v.operator ≡ Some v → HasShortfallWithin d w v

-- What an exhausted outstanding record cuts from the reward of a delegation, once the period has ended, is at most the
-- overclaim.
abbrev pub IsClaimCutWithin : List ℕ → State → List ℕ → Validator → ℕ → Type 0
IsClaimCutWithin d w who v shares =
    (full : Money) (l more : Log) (period : ℕ) (s : Shared) (view : View)
    → claimed v who shares (shared_in w) w.view w.log ≡ Ok (full, l) → ended v (shared_in w) w.view ≡ Ok (period, s, view, more)
    → 10 ^ 18 * (amount_of full d - amount_of (purse_of s.purses v.operator).outstanding d)
    ≤ overclaim_of d (history_of v.operator l []) (ratio_at (periods_of s.rewards v.operator).ratios period)

-- so it is in a sound state whose accounts are reached
abbrev pub ReachedIsCutWithin : Type 0
ReachedIsCutWithin =
    (w : State) → IsSound w → AreReached w → (d who : List ℕ) (v : Validator) (shares : ℕ) → validator_at w.mine.staked v.operator ≡ Some v
    → delegation w.mine.staked who v.operator ≡ Some shares → IsClaimCutWithin d w who v shares

-- ---- steps

-- the next block keeps accounts reached
abbrev pub NextBlockKeepsReached : Type 0
NextBlockKeepsReached = (w : State) (height time : ℕ) → w.view.ctx.height < height → AreReached w → AreReached (next_block height time w)

-- and so does the end of a validator's period
abbrev pub EndKeepsReached : Type 0
EndKeepsReached =
    (w : State) (v : Validator) (period : ℕ) (s : Shared) (view : View) (more : Log) → IsSound w → validator_at w.mine.staked v.operator ≡ Some v
    → ended v (shared_in w) w.view ≡ Ok (period, s, view, more) → AreReached w → AreReached (with_shared s view more w)

-- and so does withdrawing a delegation's reward
abbrev pub WithdrawalKeepsReached : Type 0
WithdrawalKeepsReached =
    (w : State) (v : Validator) (who : List ℕ) (shares : ℕ) (coins : Money) (s : Shared) (view : View) (more : Log) → IsSound w
    → validator_at w.mine.staked v.operator ≡ Some v → delegation w.mine.staked who v.operator ≡ Some shares
    → reward_withdrawn v who shares (shared_in w) w.view ≡ Ok (coins, s, view, more) → AreReached w → AreReached (with_shared s view more w)

-- accounts that are reached stay so
abbrev pub ReachedStays : State → State → Type 0
ReachedStays old new = AreReached old → AreReached new

-- so they do in each message that withdraws a reward
abbrev pub RewardMessagesKeepReached : Type 0
RewardMessagesKeepReached = (who operator : List ℕ) → KeptByStep ReachedStays (withdraw_reward who operator)

-- and in each message that moves coins, names a payee, funds or spends from the pool, withdraws commission, or replaces the
-- parameters
pub record QuietMessagesKeepReached : Type 0 where
  pub fees : (payer : List ℕ) (fee : Money) → KeptByStep ReachedStays (fee_paid payer fee)
  pub sends : (from : List ℕ) (to : account.Account) (coins : Money) → KeptByStep ReachedStays (send from to coins)
  pub payees : (who : List ℕ) (to : account.Account) → KeptByStep ReachedStays (set_withdraw_address who to)
  pub funds : (who : List ℕ) (coins : Money) → KeptByStep ReachedStays (fund_community_pool who coins)
  pub spends : (authority : List ℕ) (to : account.Account) (coins : Money) → KeptByStep ReachedStays (community_pool_spend authority to coins)
  pub commissions : (operator : List ℕ) → KeptByStep ReachedStays (withdraw_commission operator)
  pub updates : (authority : List ℕ) (p : Params) → KeptByStep ReachedStays (update_params authority p)

-- and in each message that edits a validator or frees it from jail
pub record StandingMessagesKeepReached : Type 0 where
  pub edits : (m : EditValidator) → KeptByStep ReachedStays (edit_validator m)
  pub unjails : (operator : List ℕ) → KeptByStep ReachedStays (unjail operator)

-- no start is of this height, as where a block begins
abbrev pub NoneStartedHere : State → Type 0
NoneStartedHere w = All (λ e. e.1.height < w.view.ctx.height) (shared_in w).rewards.starts

-- where no start is of this height, sharing fees among votes keeps accounts reached
abbrev pub SharingKeepsReached : Type 0
SharingKeepsReached =
    (w : State) (base left : Money) (total : ℕ) (votes : List Vote) (p : Purses) (facts : List Fact) (more : Log) → IsSound w → NoneStartedHere w → IsMoney base
    → shares_allocated w.mine.staked base total votes left (shared_in w).purses w.view.facts [] ≡ Ok (p, facts, more)
    → AreReached w → AreReached (with_shared (record (shared_in w) { purses = p }) w.view more w)
