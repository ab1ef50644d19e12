-- What the types of values give: the ranges in which the values of a report lie.
use Rattle.std.specs.Prelude.{◌≡◌, ℕ, ◌^◌, ◌<◌, List, length, true, All, None, ⊤}
use Rattle.base_types.specs.declared.account.Account.{Account}
use Rattle.base_types.specs.declared.account.Account.TheVariants as account
use Rattle.base_types.specs.Address.{IsAddress}
use Rattle.base_types.specs.Denom.{is_denom}
use Rattle.base_types.specs.Modules.{module_of}
use Rattle.base_coins.specs.Coins.{Money}
use Rattle.base_roles.specs.declared.facts.Fact.{Fact}
use Rattle.base_roles.specs.declared.facts.Fact.TheVariants as fact
use Rattle.base_roles.specs.declared.refusal.Refusal.{Refusal}
use Rattle.base_roles.specs.declared.refusal.Refusal.TheVariants as refusal
use Rattle.base_messages.specs.declared.report.BlockReport.{BlockReport}
use Rattle.base_messages.specs.declared.report.Outcome.{Outcome}
use Rattle.base_messages.specs.declared.report.Outcome.TheVariants as outcome
use Rattle.base_messages.specs.declared.report.TxReport.{TxReport}

-- the address of a user: twenty bytes that are no module's
abbrev pub IsUser : List ℕ → Type 0
IsUser bytes = IsAddress bytes × (module_of bytes ≡ None)

-- an account of a user or of a module
abbrev pub IsAccount : Account → Type 0
IsAccount (account.User bytes) = IsUser bytes
IsAccount (account.Module m) = ⊤

-- a number of 64 bits
abbrev pub IsCount : ℕ → Type 0
IsCount n = n < 2 ^ 64

-- an amount, or a decimal in units of 10^-18
abbrev pub IsAmount : ℕ → Type 0
IsAmount n = n < 10 ^ 38

-- an amount of a denomination
abbrev pub IsCoin : List ℕ × ℕ → Type 0
IsCoin coin = (is_denom coin.0 ≡ true) × IsAmount coin.1

-- coins, each an amount of a denomination
abbrev pub AreCoins : Money → Type 0
AreCoins coins = All IsCoin coins

-- a fact of such values
abbrev pub IsFact : Fact → Type 0
IsFact (fact.Transfer from to coins) = IsAccount from × IsAccount to × AreCoins coins
IsFact (fact.Burn from coin) = (is_denom coin.denom ≡ true) × IsAmount coin.amount
IsFact (fact.Allocated validator share) = IsUser validator × AreCoins share
IsFact (fact.Pooled coins) = AreCoins coins
IsFact (fact.Period validator period ratio) = IsUser validator × IsCount period × AreCoins ratio
IsFact (fact.Started delegator validator period stake) =
    IsUser delegator × IsUser validator × IsCount period × IsAmount stake
IsFact (fact.Slashed validator fraction burned) = IsUser validator × IsAmount fraction × IsAmount burned
IsFact (fact.Paid delegator validator to reward coins) =
    IsUser delegator × IsUser validator × IsUser to × AreCoins reward × AreCoins coins
IsFact (fact.Commission validator to coins) = IsUser validator × IsUser to × AreCoins coins
IsFact (fact.Changed validator status) = IsUser validator
IsFact (fact.Jailed validator) = IsUser validator
IsFact (fact.Unjailed validator) = IsUser validator
IsFact (fact.Tombstoned validator) = IsUser validator
IsFact (fact.Removed validator) = IsUser validator
IsFact (fact.ParamsChanged authority) = IsUser authority

-- a reason whose number of a parameter has 64 bits
abbrev pub IsReason : Refusal → Type 0
IsReason (refusal.ParamRange number) = IsCount number
IsReason (refusal.ParamFixed number) = IsCount number
IsReason _ = ⊤

-- an outcome whose place of a message has 64 bits
abbrev pub IsOutcome : Outcome → Type 0
IsOutcome outcome.Accepted = ⊤
IsOutcome outcome.FeeUnpaid = ⊤
IsOutcome (outcome.Refused message reason) = IsCount message × IsReason reason

-- what a transaction told
pub record IsTxReport (tx : TxReport) : Type 0 where
  pub facts : All IsFact tx.facts
  pub outcome : IsOutcome tx.outcome

-- what a block told
pub record IsReport (block : BlockReport) : Type 0 where
  pub height : IsCount block.height
  pub begun : All IsFact block.begun
  pub txs : All IsTxReport block.txs
  pub few : IsCount (length block.txs)
  pub ended : All IsFact block.ended
