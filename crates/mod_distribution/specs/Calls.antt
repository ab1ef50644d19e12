-- What the calls need, the parts of rules that they carry out, and what they answer and leave.
use Rattle.std.specs.Prelude.{◌≡◌, ℕ, ◌*◌, ◌^◌, ◌<◌, ◌≤◌, ◌==◌, if◌then◌else◌, true, List, [], ◌∷◌, ◌++◌, is_some, Result, Ok, ⊤}
use Rattle.base_decimals.specs.declared.over.Over.{Over}
use Rattle.base_coins.specs.Coins.{Money, coins_taken, coins_quo_cut, whole_coins, fractions}
use Rattle.base_roles.specs.declared.entities.Purse.{Purse}
use Rattle.base_roles.specs.declared.entities.Validator.{Validator}
use Rattle.base_roles.specs.declared.facts.Fact.{Fact}
use Rattle.base_roles.specs.declared.facts.Fact.TheVariants as fact
use Rattle.base_roles.specs.declared.faults.HookFault.{HookFault}
use Rattle.base_roles.specs.declared.faults.MessageFault.{MessageFault}
use Rattle.base_roles.specs.declared.refusal.Refusal.{Refusal}
use Rattle.base_roles.specs.Answers.{AsRuled, WantsMemory, ExceedsAs, StopsForMemory, RefusesAs}
use Rattle.base_roles.specs.Holdings.{IsBacked}
use Rattle.base_roles.specs.Hooks.{Stands}
use Rattle.base_roles.specs.Owing.{Lists}
use Rattle.base_roles.specs.Log.{Log}
use Rattle.base_roles.specs.Log as log
use Rattle.base_roles.specs.Flow.{◌>>=◌}
use Rattle.base_roles.specs.World.{View, noted}
use Rattle.rule_modules.specs.Amounts.{is_empty, over_facts}
use Rattle.rule_modules.specs.Distribution.{Shared, payee_of, paid_to}
use Rattle.rule_modules.specs.Periods.{without_start}
use Rattle.rule_modules.specs.Purses.{purse_of, current_lost, paid_out, pooled_told}
use Rattle.mod_allocation.specs.Calls.{purse_at}
use Rattle.mod_allocation.specs.Owed.{AreWithin, CanPay, nothing_more}
use Rattle.mod_periods.specs.Kept.{info_of}
use Rattle.mod_periods.specs.Scenes.{HasPeriods}
use Rattle.mod_distribution.specs.Kept.{KeptShared}
use Rattle.mod_distribution.specs.Stands.{KeepsShared}
use Rattle.mod_distribution.specs.Tells.{distribution_tells}

-- ---- what calls need

-- A validator's records stand, its periods and its purse, and no more is owed than there can be.
pub record HasRecords (k : KeptShared) (operator : List ℕ) : Type 0 where
  pub periods : HasPeriods k.rewards operator
  pub purse : is_some (purse_at k.purses operator) ≡ true
  pub within : AreWithin k.purses nothing_more

-- So do they, and the rewards of a delegation are started.
pub record HasStarted (k : KeptShared) (delegator operator : List ℕ) : Type 0 where
  pub records : HasRecords k operator
  pub started : is_some (info_of k.rewards delegator operator) ≡ true

-- These shares are some of a validator's, which has no more tokens than there can be.
pub record AreShares (v : Validator) (shares : ℕ) : Type 0 where
  pub tokens : v.tokens ≤ 10 ^ 18
  pub some : 0 < shares
  pub most : shares ≤ v.shares

-- The bank is in order, and the distribution account has at least what it owes.
pub record CanBePaid (k : KeptShared) (v : View) : Type 0 where
  pub backed : IsBacked v.bank
  pub enough : CanPay k.purses v

-- distribution stands for these lists over this ground
abbrev pub StandFor : KeptShared → View → Lists → Type 0
StandFor k v l = Stands (KeepsShared k) distribution_tells v l

-- ---- parts of rules

-- A reward that is due is paid, as the second part of a withdrawal: as far as what is outstanding goes it leaves, its
-- whole coins are paid, its fractions join the pool, and the start is gone. Answers the coins that were paid.
abbrev pub reward_paid : List ℕ → List ℕ → Money → Shared → View → Result (Money × Shared × View × Log) Over
reward_paid operator delegator full d v = do
  (reward, p) ← paid_out operator full d.purses
  let coins = whole_coins reward
  let to = payee_of d delegator
  let entry = log.withdrawn delegator to full (purse_of d.purses operator).outstanding
  let v1 = over_facts (pooled_told (fractions reward)) (paid_to to coins v)
  let d1 = record d { rewards = without_start delegator operator d.rewards; purses = p }
  Ok (coins, d1, noted (fact.Paid delegator operator to reward coins) v1, (operator, entry) ∷ [])

-- a commission that is paid to the operator of a removed validator is told where there are coins
abbrev pub commission_told : List ℕ → List ℕ → Money → List Fact → List Fact
commission_told operator to coins facts = if is_empty coins then facts else facts ++ fact.Commission operator to coins ∷ []

-- by how much the ratio grows with the end of a period: by the current rewards of one token, and without tokens by nothing
abbrev pub increment_at_end : ℕ → Purse → Result Money Over
increment_at_end tokens p = if tokens == 0 then Ok [] else coins_quo_cut p.current (tokens * 10 ^ 18)

-- what is outstanding in a purse then: without tokens, the current rewards are lost
abbrev pub left_at_end : ℕ → Purse → Money
left_at_end tokens p = if tokens == 0 then coins_taken p.outstanding (current_lost p) else p.outstanding

-- ---- what calls answer and leave

-- What a call answers and leaves that carries out a rule: what the rule gives, or its excess; or memory is wanting.
abbrev pub CarriesOut : {A : Type 0} → Result (A × Shared × View × Log) Over → KeptShared → View → Result A HookFault → Type 0
CarriesOut rule k v answer = AsRuled rule answer (λ due a. (a ≡ due.0) × KeepsShared k due.1 × (v ≡ due.2)) WantsMemory ExceedsAs

-- The same of a message, which may be refused.
abbrev pub CarriesOutOrRefuses : {A : Type 0} → Result (A × Shared × View × Log) Refusal → KeptShared → View → Result A MessageFault → Type 0
CarriesOutOrRefuses rule k v answer = AsRuled rule answer (λ due a. (a ≡ due.0) × KeepsShared k due.1 × (v ≡ due.2)) StopsForMemory RefusesAs

-- The same of a message that changes records alone.
abbrev pub SetsOrRefuses : Result Shared Refusal → KeptShared → Result ⊤ MessageFault → Type 0
SetsOrRefuses rule k answer = AsRuled rule answer (λ due a. KeepsShared k due) StopsForMemory RefusesAs

-- The same of a message that moves coins of the pool, of which nothing is logged.
abbrev pub PoolsOrRefuses : Result (⊤ × Shared × View) Refusal → KeptShared → View → Result ⊤ MessageFault → Type 0
PoolsOrRefuses rule k v answer = AsRuled rule answer (λ due a. KeepsShared k due.1 × (v ≡ due.2)) StopsForMemory RefusesAs
