-- The pending rewards of a state, in the order of its delegations.
use Rattle.std.specs.Prelude.{◌≡◌, ℕ, List, [], ◌∷◌, ◌++◌, map, filter, Bool, false, Some, All}
use Rattle.std.specs.List.Sorted.{IsPermutation}
use Rattle.base_roles.specs.declared.items.Item.{Item}
use Rattle.base_roles.specs.declared.items.Item.TheVariants as item
use Rattle.base_roles.specs.Orders.{same_addr}
use Rattle.base_roles.specs.Staked.{Staked, delegation, validator_at}
use Rattle.base_messages.specs.declared.report.Pending.{Pending}
use Rattle.rule_modules.specs.Chain.{State}
use Rattle.rule_machine.specs.Report.{pending_at, pending_of}

-- what the withdrawal of a delegation of these shares would be paid from
abbrev pub pending_for : State → List ℕ → List ℕ → ℕ → Pending
pending_for p operator delegator shares =
    record { delegator = delegator; operator = operator; coins = pending_at (validator_at p.mine.staked operator) delegator shares p }

-- of all delegations, by operator, then delegator
abbrev pub pending_in : State → List Pending
pending_in p = map (λ e. pending_for p e.0.0 e.0.1 e.1) p.mine.staked.delegations

-- of the item of a delegation
abbrev pub pending_of_item : State → Item → List Pending
pending_of_item p (item.Delegation operator delegator shares) = pending_for p operator delegator shares ∷ []
pending_of_item p _ = []

-- an item of a delegation is one that stands
abbrev pub IsStanding : Staked → Item → Type 0
IsStanding s (item.Delegation operator delegator shares) = delegation s delegator operator ≡ Some shares
IsStanding s _ = Unit {0}

-- ---- of one delegator

-- a pending reward is this delegator's
abbrev pub is_pending_to : List ℕ → Pending → Bool
is_pending_to who p = same_addr who p.delegator

-- the item of a delegation of this delegator
abbrev pub is_delegation_of : List ℕ → Item → Bool
is_delegation_of who (item.Delegation operator delegator shares) = same_addr who delegator
is_delegation_of who _ = false

-- of the item of a delegation of this delegator
abbrev pub own_of_item : State → List ℕ → Item → List Pending
own_of_item p who i = filter (is_pending_to who) (pending_of_item p i)

-- The pending rewards of a delegator, in whatever order: those of a state that are missing are others'.
pub record ArePendingTo (p : State) (who : List ℕ) (list : List Pending) : Type 0 where
  pub missing : List Pending
  pub others : All (λ d. is_pending_to who d ≡ false) missing
  pub rest : IsPermutation (pending_of p) (list ++ missing)
