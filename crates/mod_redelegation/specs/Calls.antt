-- What calls of redelegating need, and what they judge first.
use Rattle.std.specs.Prelude.{ℕ, ◌+◌, ◌==◌, nat_le, List, length, OnOk, Result, Ok}
use Rattle.base_coins.specs.declared.coin.Coin.{Coin}
use Rattle.base_shares.specs.Shares.{amount_out}
use Rattle.base_roles.specs.declared.entities.Validator.{Validator}
use Rattle.base_roles.specs.declared.refusal.Refusal.{Refusal}
use Rattle.base_roles.specs.declared.refusal.Refusal.TheVariants.{WrongDenom, NonPositive, NoValidator, SelfRedelegation, Transitive, RedelegationsFull, TinyRedelegation}
use Rattle.base_roles.specs.Orders.{same_addr}
use Rattle.base_roles.specs.Staked.{Staked, validator_at, delegation, bonded_tokens, other_tokens}
use Rattle.base_roles.specs.StakeChanges.{HoldsStake}
use Rattle.base_roles.specs.Flow.{◌>>=◌, ◌>>◌, stop_if, or_stop}
use Rattle.base_roles.specs.World.{View}
use Rattle.rule_modules.specs.Delegating.{is_wrong, shares_given}
use Rattle.rule_modules.specs.Redelegations.{RedelegationLists, redelegations_of, is_transitive}
use Rattle.rule_modules.specs.Sound.{RedelegationsAreSound}
use Rattle.rule_modules.specs.Unbonding.{shares_to_unbond}

-- redelegating's own condition: its entries are sound, made no later than some height
abbrev pub AreSoundLists : RedelegationLists → Type 0
AreSoundLists r = (height : ℕ) × RedelegationsAreSound height r

-- What is refused of the source of a redelegation; or else its validator, and the shares that the amount stands for.
abbrev pub leaving : List ℕ → List ℕ → Coin → Staked → View → Result (Validator × ℕ) Refusal
leaving delegator source coin s view = do
  stop_if (coin.amount == 0) NonPositive
  v ← or_stop (validator_at s source) NoValidator
  parts ← shares_to_unbond (delegation s delegator source) v coin.amount
  stop_if (is_wrong coin view) WrongDenom
  Ok (v, parts.1)

-- What is refused of its target, at which an amount is delegated.
abbrev pub joining : List ℕ → List ℕ → List ℕ → ℕ → RedelegationLists → Staked → View → Result ℕ Refusal
joining delegator source target amount r s view = do
  stop_if (same_addr source target) SelfRedelegation
  t ← or_stop (validator_at s target) NoValidator
  stop_if (is_transitive r delegator source) Transitive
  stop_if (nat_le view.ctx.params.max_entries (length (redelegations_of r delegator source target))) RedelegationsFull
  stop_if (amount == 0) TinyRedelegation
  shares_given t amount

-- What is refused of a redelegation before a share is unbonded; or else the source's validator, and the shares that the
-- amount stands for.
abbrev pub redelegation : List ℕ → List ℕ → List ℕ → Coin → RedelegationLists → Staked → View → Result (Validator × ℕ) Refusal
redelegation delegator source target coin r s view = do
  p ← leaving delegator source coin s view
  joining delegator source target (amount_out p.0.tokens p.0.shares p.1) r s view
  Ok p

-- The two staking accounts hold so much more than is owed from them to validators, as before.
abbrev pub StillHolds : {A E : Type 0} → Staked → View → Staked → View → Result A E → Type 0
StillHolds s v s2 v2 answer = (bonded other : ℕ) → HoldsStake v (bonded_tokens s + bonded) (other_tokens s + other)
    → OnOk answer (HoldsStake v2 (bonded_tokens s2 + bonded) (other_tokens s2 + other))
