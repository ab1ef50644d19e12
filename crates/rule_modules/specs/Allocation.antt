-- Allocating a block's fees among its votes (`x/distribution/keeper`: `AllocateTokens`; `x/distribution`: `BeginBlocker`).
use Rattle.std.specs.Prelude.{ℕ, ◌-◌, ◌*◌, ◌^◌, ◌==◌, nat_le, if◌then◌else◌, List, [], ◌∷◌, ◌++◌, map, sum, Option, Some, None, Result, Ok}
use Rattle.base_decimals.specs.declared.over.Over.{Over}
use Rattle.base_decimals.specs.Decimals.{quo_cut_of}
use Rattle.base_types.specs.declared.account.Account.TheVariants as account
use Rattle.base_types.specs.declared.account.Module.TheVariants as holder
use Rattle.base_coins.specs.Coins.{Money, coins_taken, coins_mul_cut}
use Rattle.base_roles.specs.declared.entities.Validator.{Validator}
use Rattle.base_roles.specs.declared.facts.Fact.{Fact}
use Rattle.base_roles.specs.declared.facts.Fact.TheVariants as fact
use Rattle.base_roles.specs.declared.params.Params.{Params}
use Rattle.base_roles.specs.declared.messages.Vote.{Vote}
use Rattle.base_roles.specs.Holdings.{coins_of}
use Rattle.base_roles.specs.Log.{Log}
use Rattle.base_roles.specs.Log as log
use Rattle.base_roles.specs.Staked.{Staked, validator_by_cons}
use Rattle.base_roles.specs.Flow.{◌>>=◌}
use Rattle.base_roles.specs.World.{View, sent}
use Rattle.rule_modules.specs.Amounts.{is_empty, in_units}
use Rattle.rule_modules.specs.Purses.{Purses, purse_of, with_purse, pool_joined, pooled_told, share_joined}
use Rattle.rule_modules.specs.Distribution.{Shared}

-- A vote's share goes to the purse of its validator, where it is not empty (`AllocateTokensToValidator`).
abbrev pub share_given : Option Validator → Money → Purses → List Fact → Result (Purses × List Fact × Log) Over
share_given None share p facts = Ok (p, facts, [])
share_given (Some val) share p facts = if is_empty share then Ok (p, facts, []) else (do
  (rest, purse) ← share_joined share val.commission.rate (purse_of p val.operator)
  Ok (with_purse val.operator purse p, facts ++ fact.Allocated val.operator share ∷ [], (val.operator, log.allocated share rest val.tokens) ∷ []))

-- The shares of votes, one after another: the base times the vote's part of all power, both cut. Behind them, what is
-- left of the fees joins the pool (`AllocateTokens`: `remaining`).
abbrev pub shares_allocated : Staked → Money → ℕ → List Vote → Money → Purses → List Fact → Log → Result (Purses × List Fact × Log) Over
shares_allocated s base total [] left p facts l = do
  p1 ← pool_joined left p
  Ok (p1, pooled_told left facts, l)
shares_allocated s base total (t ∷ ts) left p facts l = do
  part ← quo_cut_of (t.power * 10 ^ 18) (total * 10 ^ 18)
  share ← coins_mul_cut base part
  (p1, told, more) ← share_given (validator_by_cons s t.cons) share p facts
  shares_allocated s base total ts (coins_taken left share) p1 told (l ++ more)

-- the votes among which fees are shared: none where all power is 0
abbrev pub sharing : ℕ → List Vote → List Vote
sharing total votes = if total == 0 then [] else votes

-- Fees among votes, signed or not: the base is the fees less the community tax. Without votes, or where their power is
-- 0, all fees join the pool (`AllocateTokens`). There is no proposer's bonus.
abbrev pub allocated : Staked → Params → Money → List Vote → Purses → List Fact → Result (Purses × List Fact × Log) Over
allocated s params fees votes p facts = do
  let left = in_units fees
  let total = sum (map (λ t. t.power) votes)
  base ← coins_mul_cut left (10 ^ 18 - params.community_tax)
  shares_allocated s base total (sharing total votes) left p facts []

-- In a block above height 1 all that the fee collector holds moves to the distribution account and is allocated
-- (`BeginBlocker`).
abbrev pub fees_allocated : Staked → List Vote → Shared → View → Result (Shared × View × Log) Over
fees_allocated s votes d v = if nat_le v.ctx.height 1 then Ok (d, v, []) else (do
  let fees = coins_of v.bank (account.Module holder.FeeCollector)
  let v1 = sent (account.Module holder.FeeCollector) (account.Module holder.Distribution) fees v
  (p, facts, l) ← allocated s v.ctx.params fees votes d.purses v1.facts
  Ok (record d { purses = p }, record v1 { facts = facts }, l))
