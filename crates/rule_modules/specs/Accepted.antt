-- What is so wherever a message is carried out, in every state: no machine has it that lacks the test of the most entries, or whose
-- withdrawals do nothing.
use Rattle.std.specs.Prelude.{◌≡◌, ℕ, ◌<◌, List, length, false, IfOk}
use Rattle.base_coins.specs.declared.coin.Coin.{Coin}
use Rattle.rule_modules.specs.Chain.{State}
use Rattle.rule_modules.specs.Conditions.{has_most_unbondings}
use Rattle.rule_modules.specs.Effects.{undelegate, withdraw_reward}

-- An undelegation that is carried out met a list of entries that had room.
abbrev pub UndelegationsFindRoom : Type 0
UndelegationsFindRoom =
    (delegator operator : List ℕ) (coin : Coin) (w : State)
    → IfOk (undelegate delegator operator coin w) (λ next. has_most_unbondings delegator operator w ≡ false)

-- A withdrawal of a reward that is carried out tells something.
abbrev pub WithdrawalsTell : Type 0
WithdrawalsTell =
    (delegator operator : List ℕ) (w : State)
    → IfOk (withdraw_reward delegator operator w) (λ next. length w.view.facts < length next.view.facts)
