-- The messages of distribution (`x/distribution/keeper`: `msgServer`).
use Rattle.std.specs.Prelude.{ℕ, not, Bool, true, false, List, [], ◌∷◌, Result, Ok, Err, ⊤}
use Rattle.base_types.specs.declared.account.Account.{Account}
use Rattle.base_types.specs.declared.account.Account.TheVariants as account
use Rattle.base_types.specs.declared.account.Module.TheVariants as holder
use Rattle.base_types.specs.Orders.{addr_cmp}
use Rattle.base_coins.specs.Coins.{Money}
use Rattle.base_roles.specs.declared.facts.Fact.TheVariants as fact
use Rattle.base_roles.specs.declared.params.Params.{Params}
use Rattle.base_roles.specs.declared.refusal.Refusal.{Refusal}
use Rattle.base_roles.specs.declared.refusal.Refusal.TheVariants.{InsufficientFunds, ModuleRecipient, NonPositive, NoValidator, NoDelegation, NoCommission, PoolTooSmall, NotAuthority, Overflow, WithdrawFixed}
use Rattle.base_roles.specs.Entries.{at, with}
use Rattle.base_roles.specs.Holdings.{is_short}
use Rattle.base_roles.specs.Log.{Log}
use Rattle.base_roles.specs.Log as log
use Rattle.base_roles.specs.Orders.{same_addr}
use Rattle.base_roles.specs.Staked.{Staked, validator_at, delegation}
use Rattle.base_roles.specs.Flow.{◌>>=◌, ◌>>◌, stop_if, or_stop, stopping}
use Rattle.base_roles.specs.World.{View, noted, sent}
use Rattle.rule_modules.specs.Amounts.{is_empty, in_units, over_facts}
use Rattle.rule_modules.specs.Purses.{with_purse, pool_joined, pooled_told, commission_due, commission_paid, is_above_pool, pool_lowered}
use Rattle.rule_modules.specs.Distribution.{Shared, payee_of, paid_to, reward_renewed}

-- A delegation's reward is withdrawn, then its rewards start anew (`WithdrawDelegationRewards`). Answers the coins that
-- were paid.
abbrev pub reward_taken : Staked → List ℕ → List ℕ → Shared → View → Result (Money × Shared × View × Log) Refusal
reward_taken s delegator operator d v = do
  val ← or_stop (validator_at s operator) NoValidator
  shares ← or_stop (delegation s delegator operator) NoDelegation
  stopping Overflow (reward_renewed val delegator shares d v)

-- A validator's commission is paid, in whole coins (`WithdrawValidatorCommission`). Answers the coins that were paid.
abbrev pub commission_withdrawn : List ℕ → Shared → View → Result (Money × Shared × View × Log) Refusal
commission_withdrawn operator d v = do
  purse ← or_stop (at addr_cmp d.purses.purses operator) NoCommission
  stop_if (is_empty purse.commission) NoCommission
  let coins = commission_due purse
  let to = payee_of d operator
  let d1 = record d { purses = with_purse operator (commission_paid purse) d.purses }
  Ok (coins, d1, noted (fact.Commission operator to coins) (paid_to to coins v), (operator, log.commission (in_units coins)) ∷ [])

-- an account of a module (`BlockedAddr`)
abbrev pub is_module : Account → Bool
is_module (account.User a) = false
is_module (account.Module m) = true

-- From now on payments of an address go to another, which is no module's (`SetWithdrawAddr`).
abbrev pub payee_set : List ℕ → Account → Params → Shared → Result Shared Refusal
payee_set delegator (account.Module m) p d = Err ModuleRecipient
payee_set delegator (account.User to) p d = do
  stop_if (not p.withdraw_addr_enabled) WithdrawFixed
  Ok (record d { withdraw = with addr_cmp d.withdraw delegator to })

-- Coins of a user join the community pool (`FundCommunityPool`); no coins are refused (own).
abbrev pub pool_funded : List ℕ → Money → Shared → View → Result (⊤ × Shared × View) Refusal
pool_funded who coins d v = do
  stop_if (is_empty coins) NonPositive
  stop_if (is_short v.bank (account.User who) coins) InsufficientFunds
  p ← stopping Overflow (pool_joined (in_units coins) d.purses)
  let v1 = sent (account.User who) (account.Module holder.Distribution) coins v
  Ok (tt, record d { purses = p }, over_facts (pooled_told (in_units coins)) v1)

-- Coins of the community pool go to an account, at the authority's order (`CommunityPoolSpend`, `DistributeFromFeePool`);
-- no coins are refused (own).
abbrev pub pool_spent : List ℕ → Account → Money → Shared → View → Result (⊤ × Shared × View) Refusal
pool_spent authority to coins d v = do
  stop_if (not (same_addr authority v.ctx.params.authority)) NotAuthority
  stop_if (is_empty coins) NonPositive
  stop_if (is_module to) ModuleRecipient
  stop_if (is_above_pool coins d.purses) PoolTooSmall
  Ok (tt, record d { purses = pool_lowered coins d.purses }, sent (account.Module holder.Distribution) to coins v)
