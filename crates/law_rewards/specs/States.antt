-- The account of a validator in a state, and what the laws say of each state whose accounts are reached.
use Rattle.std.specs.Prelude.{◌≡◌, ℕ, List, [], map, filter, Some, unwrap_or}
use Rattle.base_coins.specs.Coins.{amount_of}
use Rattle.base_roles.specs.declared.entities.Validator.{Validator}
use Rattle.base_roles.specs.Orders.{same_addr}
use Rattle.base_roles.specs.Staked.{Staked, validator_at, delegation}
use Rattle.rule_modules.specs.Chain.{State, shared_in}
use Rattle.rule_modules.specs.Ideal.{history_of}
use Rattle.rule_modules.specs.Periods.{Rewards, periods_of}
use Rattle.rule_modules.specs.Purses.{purse_of}
use Rattle.law_rewards.specs.Account.{Start, Account, IsReached}

-- the starts of an operator's delegations, each with the delegation's shares
abbrev pub starts_in : Staked → Rewards → List ℕ → List Start
starts_in s r operator =
    map (λ e. record { who = e.0.1; shares = unwrap_or (delegation s e.0.1 operator) 0; info = e.1 })
    (filter (λ e. same_addr e.0.0 operator) r.starts)

-- the account of a validator in a state, in a denomination
abbrev pub account_in : List ℕ → State → Validator → Account
account_in d w v = let purse = purse_of (shared_in w).purses v.operator in record {
  height = w.view.ctx.height;
  tokens = v.tokens;
  shares = v.shares;
  current = amount_of purse.current d;
  commission = amount_of purse.commission d;
  outstanding = amount_of purse.outstanding d;
  periods = periods_of (shared_in w).rewards v.operator;
  starts = starts_in w.mine.staked (shared_in w).rewards v.operator;
  history = history_of v.operator w.log [];
}

-- fitting deeds lead to the account of each validator, in each denomination
abbrev pub AreReached : State → Type 0
AreReached w = (d : List ℕ) (v : Validator) → validator_at w.mine.staked v.operator ≡ Some v → IsReached d (account_in d w v)
