-- What is owed by denomination, and the lists of validators and delegations that hooks are told of.
use Rattle.std.specs.Prelude.{◌≡◌, ℕ, ◌*◌, ◌^◌, Bool, List, Option, Some, None}
use Rattle.base_types.specs.declared.account.Account.TheVariants as account
use Rattle.base_types.specs.declared.account.Module.TheVariants.{Distribution}
use Rattle.base_roles.specs.Holdings.{balance_of}
use Rattle.base_roles.specs.World.{View}

-- which addresses are operators, and which pairs of delegator and operator are started
pub record Lists : Type 0 where
  pub operators : List ℕ → Bool
  pub started : List ℕ → List ℕ → Bool

-- the distribution account holds exactly what is owed from it
abbrev pub HoldsOwed : Option (List ℕ → ℕ) → View → Type 0
HoldsOwed None v = Unit {0}
HoldsOwed (Some owed) v = (d : List ℕ) → 10 ^ 18 * balance_of v.bank (account.Module Distribution) d ≡ owed d
