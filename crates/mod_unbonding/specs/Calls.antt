-- What calls of unbonding need, and what they leave.
use Rattle.std.specs.Prelude.{◌≡◌, ℕ, ◌==◌, Bool, nat_le, nat_lt, List, length, filter, find, All, Result, Ok, if◌then◌else◌}
use Rattle.base_types.specs.declared.account.Account.TheVariants as account
use Rattle.base_types.specs.declared.account.Module.TheVariants as holder
use Rattle.base_coins.specs.declared.coin.Coin.{Coin}
use Rattle.base_shares.specs.Shares.{has_invalid_rate}
use Rattle.base_roles.specs.declared.entities.UnbondingEntry.{UnbondingEntry}
use Rattle.base_roles.specs.declared.entities.Validator.{Validator}
use Rattle.base_roles.specs.declared.refusal.Refusal.{Refusal}
use Rattle.base_roles.specs.declared.refusal.Refusal.TheVariants.{WrongDenom, NonPositive, NoValidator, RateInvalid, UnbondingsFull, Jailed, NoEntry, CancelTooMuch}
use Rattle.base_roles.specs.Staked.{Staked, validator_at, delegation, bonded_tokens}
use Rattle.base_roles.specs.StakeChanges.{HoldsStake}
use Rattle.base_roles.specs.Flow.{◌>>=◌, ◌>>◌, stop_if, or_stop}
use Rattle.base_roles.specs.World.{View, sent}
use Rattle.rule_modules.specs.Amounts.{bond_coins}
use Rattle.rule_modules.specs.Delegating.{is_wrong}
use Rattle.rule_modules.specs.Owed.{balances_of, owed_from_not_bonded}
use Rattle.rule_modules.specs.Sound.{UnbondingsAreSound}
use Rattle.rule_modules.specs.Unbonding.{shares_to_unbond}
use Rattle.rule_modules.specs.Unbondings.{UnbondingLists, entries_of, is_mature, can_be_cancelled}

-- unbonding's own condition: its entries are sound, made no later than some height
abbrev pub AreSoundLists : UnbondingLists → Type 0
AreSoundLists u = (height : ℕ) × UnbondingsAreSound height u

-- an entry that was made at this height has its whole initial amount
abbrev pub IsWhole : ℕ → UnbondingEntry → Type 0
IsWhole height e = e.created ≡ height → e.balance ≡ e.initial

-- the same of all entries: none that was made at this height was slashed yet
abbrev pub AreWhole : ℕ → UnbondingLists → Type 0
AreWhole height u = All (λ p. All (IsWhole height) p.1) u

-- the two staking accounts hold at least what is owed from them to validators and to entries
abbrev pub HoldsEntries : View → Staked → UnbondingLists → Type 0
HoldsEntries v s u = HoldsStake v (bonded_tokens s) (owed_from_not_bonded s u)

-- What is refused of an undelegation before a share is unbonded; or else the validator, and the shares that the amount
-- stands for.
abbrev pub undelegation : List ℕ → List ℕ → Coin → UnbondingLists → Staked → View → Result (Validator × ℕ) Refusal
undelegation delegator operator coin u s view = do
  stop_if (coin.amount == 0) NonPositive
  v ← or_stop (validator_at s operator) NoValidator
  parts ← shares_to_unbond (delegation s delegator operator) v coin.amount
  stop_if (is_wrong coin view) WrongDenom
  stop_if (nat_le view.ctx.params.max_entries (length (entries_of u delegator operator))) UnbondingsFull
  Ok (v, parts.1)

-- the ground once an amount moved from the bonded to the not-bonded account, if so
abbrev pub moved_out : Bool → ℕ → View → View
moved_out was_bonded n v = if was_bonded then sent (account.Module holder.Bonded) (account.Module holder.NotBonded) (bond_coins v n) v else v

-- What is refused of a cancellation before an amount is delegated; or else the validator, and the first entry of that
-- creation height that is not mature.
abbrev pub cancellation : List ℕ → List ℕ → Coin → ℕ → UnbondingLists → Staked → View → Result (Validator × UnbondingEntry) Refusal
cancellation delegator operator coin height u s view = do
  stop_if (coin.amount == 0) NonPositive
  stop_if (is_wrong coin view) WrongDenom
  v ← or_stop (validator_at s operator) NoValidator
  stop_if (has_invalid_rate v.tokens v.shares) RateInvalid
  stop_if v.jailed Jailed
  e ← or_stop (find (can_be_cancelled height view.ctx.time) (entries_of u delegator operator)) NoEntry
  stop_if (nat_lt e.balance coin.amount) CancelTooMuch
  Ok (v, e)

-- the balances of mature entries
abbrev pub mature_balances : ℕ → List UnbondingEntry → ℕ
mature_balances now es = balances_of (filter (is_mature now) es)
