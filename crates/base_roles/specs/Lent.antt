-- What calls that are lent something are told of it, and what slashes leave.
use Rattle.std.specs.Prelude.{◌≡◌, ℕ, ◌+◌, ◌≤◌, false, true, List, [], ◌∷◌, ◌++◌, Option, Some, None, Result}
use Rattle.std.specs.BTreeMap.{is_at}
use Rattle.base_decimals.specs.declared.over.Over.{Over}
use Rattle.base_types.specs.declared.account.Account.{Account}
use Rattle.base_types.specs.declared.account.Account.TheVariants as account
use Rattle.base_types.specs.declared.account.Module.TheVariants.{NotBonded}
use Rattle.base_types.specs.Orders.{account_cmp, cons_cmp}
use Rattle.base_roles.specs.declared.entities.SigningInfo.{SigningInfo}
use Rattle.base_roles.specs.declared.entities.Validator.{Validator}
use Rattle.base_roles.specs.declared.facts.Fact.{Fact}
use Rattle.base_roles.specs.declared.facts.Fact.TheVariants.{Jailed}
use Rattle.base_roles.specs.declared.faults.HookFault.{HookFault}
use Rattle.base_roles.specs.Answers.{AsRuled, WantsMemory, ExceedsAs}
use Rattle.base_roles.specs.Entries.{at, with}
use Rattle.base_roles.specs.Holdings.{balance_of, supply_of}
use Rattle.base_roles.specs.Staked.{Staked}
use Rattle.base_roles.specs.StakeChanges.{of_bond}
use Rattle.base_roles.specs.World.{View, World}

-- what a call is told of the delegations that it is lent
pub record Unbonds (D H : Type 0) : Type 0 where
  pub stake : D → Staked
  pub unbond : List ℕ → List ℕ → ℕ → World D H → Result (ℕ × World D H) Over

-- what a call is told of the unbonding entries that it is lent
pub record Following (U : Type 0) : Type 0 where
  -- what the entries of a delegator and an operator that were made at a height or later lose, of at most so many tokens:
  -- the sum, the entries and the ground after it
  pub follow : List ℕ → List ℕ → ℕ → ℕ → U → View → ℕ × U × View

-- What a call answers and leaves that follows a rule over lent delegations and unbonding entries: what the rule gives, or
-- its excess; or memory is wanting.
abbrev pub FollowsLent : {S U D H : Type 0} → Result (ℕ × S × U × World D H) Over → S → U → D → (H → Type 0) → View → Result ℕ HookFault → Type 0
FollowsLent rule s u d holds v answer = AsRuled rule answer
    (λ due n. (n ≡ due.0) × (s ≡ due.1) × (u ≡ due.2) × (d ≡ due.3.mine) × holds due.3.hooks × (v ≡ due.3.view)) WantsMemory ExceedsAs

-- what a call counted, and leaves, that follows a rule without hooks
abbrev pub IsAsTold : {S : Type 0} → ℕ × S × View → S → View → ℕ → Type 0
IsAsTold p s v n = (n ≡ p.0) × (s ≡ p.1) × (v ≡ p.2)

-- The not-bonded account and the supply lost as much of the bond denomination as is no longer owed. All other balances
-- and supplies stay.
pub record IsBurned (old new : View) (owed owed2 : ℕ) : Type 0 where
  pub falls : owed2 ≤ owed
  pub from_not_bonded : (d : List ℕ) → balance_of new.bank (account.Module NotBonded) d + of_bond old d owed ≡ balance_of old.bank (account.Module NotBonded) d + of_bond old d owed2
  pub supply : (d : List ℕ) → supply_of new.bank d + of_bond old d owed ≡ supply_of old.bank d + of_bond old d owed2
  pub others : (who : Account) (d : List ℕ) → is_at (account_cmp (account.Module NotBonded)) who ≡ false → balance_of new.bank who d ≡ balance_of old.bank who d

-- the facts after the validator was jailed
abbrev pub jail_told : Option Validator → List Fact → List Fact
jail_told None facts = facts
jail_told (Some v) facts = facts ++ Jailed v.operator ∷ []

-- The info of a consensus address says that it is banned until a moment, and nothing else changed.
abbrev pub IsBanned : List ℕ → ℕ → List (List ℕ × SigningInfo) → List (List ℕ × SigningInfo) → Type 0
IsBanned cons until old new = (i : SigningInfo) × ((at cons_cmp old cons ≡ Some i) × (new ≡ with cons_cmp old cons (record i { jailed_until = until; tombstoned = true })))
