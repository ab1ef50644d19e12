-- What each message does to all records, or the first condition against it. A rule of one module is put into the state.
use Rattle.std.specs.Prelude.{ℕ, ◌+◌, [], List, ◌∷◌, Result, Ok, Err}
use Rattle.base_types.specs.declared.account.Account.{Account}
use Rattle.base_types.specs.declared.account.Account.TheVariants as account
use Rattle.base_types.specs.declared.account.Module.TheVariants as holder
use Rattle.base_coins.specs.declared.coin.Coin.{Coin}
use Rattle.base_coins.specs.Coins.{Money}
use Rattle.base_roles.specs.declared.messages.CreateValidator.{CreateValidator}
use Rattle.base_roles.specs.declared.messages.EditValidator.{EditValidator}
use Rattle.base_roles.specs.declared.refusal.Refusal.{Refusal}
use Rattle.base_roles.specs.declared.refusal.Refusal.TheVariants.{InsufficientFunds, ModuleRecipient, NonPositive, FeeUnpaid}
use Rattle.base_roles.specs.Holdings.{is_short}
use Rattle.base_roles.specs.Flow.{◌>>=◌, ◌>>◌, stop_if, stopping}
use Rattle.base_roles.specs.World.{View, sent, over_view, over_mine}
use Rattle.rule_modules.specs.Amounts.{is_empty}
use Rattle.rule_modules.specs.Chain.{State, chain_told, staked_in, with_staked, with_shared, shared_in, window_in}
use Rattle.rule_modules.specs.Delegating.{delegated_by}
use Rattle.rule_modules.specs.Redelegations.{redelegated}
use Rattle.rule_modules.specs.Unbondings.{undelegated, cancelled}
use Rattle.rule_modules.specs.Validators.{created, edited}
use Rattle.rule_modules.specs.Window.{unjailed}
use Rattle.rule_modules.specs.Withdrawals.{reward_taken, commission_withdrawn, payee_set, pool_funded, pool_spent, is_module}

-- Coins of a user move to an account that is no module's (`x/bank`: `msgServer.Send`).
abbrev pub coins_sent : List ℕ → Account → Money → View → Result View Refusal
coins_sent from to coins v = do
  stop_if (is_empty coins) NonPositive
  stop_if (is_module to) ModuleRecipient
  stop_if (is_short v.bank (account.User from) coins) InsufficientFunds
  Ok (sent (account.User from) to coins v)

-- one message changes a state, or is refused
abbrev pub Effect : Type 0
Effect = State → Result State Refusal

-- coins go to an account
abbrev pub send : List ℕ → Account → Money → Effect
send from to coins w = do
  v ← coins_sent from to coins w.view
  Ok (over_view (λ u. v) w)

-- a validator is created
abbrev pub create_validator : CreateValidator → Effect
create_validator m w = do
  (done, s) ← created chain_told m (staked_in w)
  Ok (with_staked w.mine s)

-- a validator's rate and least self-delegation change
abbrev pub edit_validator : EditValidator → Effect
edit_validator m w = do
  s ← edited m w.view.ctx.time w.view.ctx.params.min_commission_rate w.mine.staked
  Ok (over_mine (λ c. record c { staked = s }) w)

-- an amount is delegated
abbrev pub delegate : List ℕ → List ℕ → Coin → Effect
delegate delegator operator coin w = do
  (issued, s) ← delegated_by chain_told delegator operator coin (staked_in w)
  Ok (with_staked w.mine s)

-- an amount is undelegated
abbrev pub undelegate : List ℕ → List ℕ → Coin → Effect
undelegate delegator operator coin w = do
  (completes, u, s) ← undelegated chain_told delegator operator coin w.mine.unbondings (staked_in w)
  Ok (with_staked (record w.mine { unbondings = u }) s)

-- an amount is redelegated
abbrev pub begin_redelegate : List ℕ → List ℕ → List ℕ → Coin → Effect
begin_redelegate delegator source target coin w = do
  (done, r, s) ← redelegated chain_told delegator source target coin w.mine.redelegations (staked_in w)
  Ok (with_staked (record w.mine { redelegations = r }) s)

-- an unbonding is cancelled
abbrev pub cancel_unbonding : List ℕ → List ℕ → Coin → ℕ → Effect
cancel_unbonding delegator operator coin height w = do
  (done, u, s) ← cancelled chain_told delegator operator coin height w.mine.unbondings (staked_in w)
  Ok (with_staked (record w.mine { unbondings = u }) s)

-- a validator leaves jail
abbrev pub unjail : List ℕ → Effect
unjail operator w = do
  (done, s, v) ← unjailed operator (window_in w) w.mine.staked w.view
  Ok (over_view (λ u. v) (over_mine (λ c. record c { staked = s }) w))

-- a reward is withdrawn
abbrev pub withdraw_reward : List ℕ → List ℕ → Effect
withdraw_reward delegator operator w = do
  (coins, d, v, l) ← reward_taken w.mine.staked delegator operator (shared_in w) w.view
  Ok (with_shared d v l w)

-- a commission is withdrawn
abbrev pub withdraw_commission : List ℕ → Effect
withdraw_commission operator w = do
  (coins, d, v, l) ← commission_withdrawn operator (shared_in w) w.view
  Ok (with_shared d v l w)

-- payments go to another address
abbrev pub set_withdraw_address : List ℕ → Account → Effect
set_withdraw_address delegator to w = do
  d ← payee_set delegator to w.view.ctx.params (shared_in w)
  Ok (with_shared d w.view [] w)

-- coins join the community pool
abbrev pub fund_community_pool : List ℕ → Money → Effect
fund_community_pool who coins w = do
  (done, d, v) ← pool_funded who coins (shared_in w) w.view
  Ok (with_shared d v [] w)

-- coins leave the community pool
abbrev pub community_pool_spend : List ℕ → Account → Money → Effect
community_pool_spend authority to coins w = do
  (done, d, v) ← pool_spent authority to coins (shared_in w) w.view
  Ok (with_shared d v [] w)

-- ---- transactions

-- The fee goes from the payer to the fee collector (`x/auth/ante`: `DeductFeeDecorator`).
abbrev pub fee_paid : List ℕ → Money → Effect
fee_paid payer fee w = do
  stop_if (is_short w.view.bank (account.User payer) fee) FeeUnpaid
  Ok (over_view (sent (account.User payer) (account.Module holder.FeeCollector) fee) w)

-- The effects of messages in order; or the place, counted from 0, and the refusal of the first that is refused.
abbrev pub effects_of : ℕ → List Effect → State → Result State (ℕ × Refusal)
effects_of place [] w = Ok w
effects_of place (f ∷ fs) w = do
  u ← stopping (λ why. (place, why)) (f w)
  effects_of (place + 1) fs u

-- how a transaction ended: with all its messages, with none since the fee is not paid, or refused at a message
pub data Ending : Type 0 where
  accepted : Ending
  unpaid : Ending
  refused_at : ℕ → Refusal → Ending

-- The messages stand together, or the fee alone.
abbrev pub stands_or_fee : State → Result State (ℕ × Refusal) → Ending × State
stands_or_fee paid (Ok w) = (accepted, w)
stands_or_fee paid (Err r) = (refused_at r.0 r.1, paid)

-- what is left after the fee was tried
abbrev pub after_fee : List Effect → State → Result State Refusal → Ending × State
after_fee effects w (Err why) = (unpaid, w)
after_fee effects w (Ok paid) = stands_or_fee paid (effects_of 0 effects paid)

-- A transaction: its fee, then its messages. Where one is refused all of them are undone and the fee stays; where the
-- fee is not paid nothing changes (`BaseApp.runTx`).
abbrev pub transaction_applied : List ℕ → Money → List Effect → State → Ending × State
transaction_applied payer fee effects w = after_fee effects w (fee_paid payer fee w)
