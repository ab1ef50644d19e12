-- Validators and delegations as items tell them, and what a tally asks of them.
use Rattle.std.specs.Prelude.{◌≡◌, ℕ, ◌^◌, ◌≤◌, List, All, Option, Some, None}
use Rattle.std.specs.List.{IsDistinct, filter_map}
use Rattle.std.specs.Map.{keys_of}
use Rattle.base_roles.specs.declared.entities.Validator.{Validator}
use Rattle.base_roles.specs.declared.items.Item.{Item}
use Rattle.base_roles.specs.declared.items.Item.TheVariants as item
use Rattle.base_roles.specs.Orders.{same_addr}
use Rattle.base_roles.specs.Staked.{Staked, bonded_tokens}
use Rattle.rule_modules.specs.Sound.{delegated_shares}

-- a validator, under its operator
abbrev pub validator_in : Item → Option (List ℕ × Validator)
validator_in (item.Validator validator) = Some (validator.operator, validator)
validator_in _ = None

-- shares, by operator and delegator
abbrev pub delegation_in : Item → Option ((List ℕ × List ℕ) × ℕ)
delegation_in (item.Delegation operator delegator shares) = Some ((operator, delegator), shares)
delegation_in _ = None

-- the validators and delegations among items, in their order
abbrev pub staked_in : List Item → Staked
staked_in items = record {
  validators = filter_map validator_in items;
  delegations = filter_map delegation_in items;
}

-- No operator stands twice, the shares of each validator are those of its delegations, and bonded
-- validators have no more tokens together than there can be. Every sound state meets this.
pub record CanBeTallied (s : Staked) : Type 0 where
  pub operators : IsDistinct same_addr (keys_of s.validators)
  pub named : All (λ e. e.1.operator ≡ e.0) s.validators
  pub shares : All (λ e. e.1.shares ≡ delegated_shares s e.0) s.validators
  pub tokens : bonded_tokens s ≤ 10 ^ 18
