-- What staking keeps in its tables, how it is seen with its open marks, and what one change makes of it.
use Rattle.std.specs.Prelude.{◌≡◌, ℕ, Bool, false, true, if◌then◌else◌, List, [], ◌∷◌, ◌++◌, length, Option, Some, None}
use Rattle.std.specs.Ordering.{is_eq, is_lt}
use Rattle.std.specs.List.{AllByRecursion}
use Rattle.std.specs.List.Sorted.{IsStrictlySortedBy}
use Rattle.std.specs.Map.{keys_of}
use Rattle.base_types.specs.Orders.{addr_cmp, cons_cmp}
use Rattle.base_table.specs.Tabled.{Tabled}
use Rattle.base_roles.specs.declared.entities.Validator.{Validator}
use Rattle.base_roles.specs.Entries.{at}
use Rattle.base_roles.specs.Orders.{pair_cmp}
use Rattle.base_roles.specs.Staked.{Staked, validator_at}
use Rattle.base_records.specs.Marks.{side_by_side, AtEachMark}
use Rattle.mod_staking.specs.Listed.{Listed}
pub use Rattle.mod_staking.specs.Listed.{Validators}

-- delegations by operator and delegator, and operators by consensus address
abbrev pub Delegations : Type 0
Delegations = List ((List ℕ × List ℕ) × ℕ)

abbrev pub Operators : Type 0
Operators = List (List ℕ × List ℕ)

-- What staking is seen as: its validators and delegations, those at each open mark with the latest last, those at the last
-- settling, whether memory was wanting in a change, and how many tokens are one unit of power.
pub record Registered : Type 0 where
  pub staked : Staked
  pub marks : List Staked
  pub settled : Staked
  pub spent : Bool
  pub power_reduction : ℕ

-- what stays while validators and delegations change
pub record Behind : Type 0 where
  pub marks : List Staked
  pub settled : Staked
  pub power_reduction : ℕ

abbrev pub behind : Registered → Behind
behind r = record { marks = r.marks; settled = r.settled; power_reduction = r.power_reduction }

-- the keys of validators and of delegations ascend
pub record AreInOrder (s : Staked) : Type 0 where
  pub validators : IsStrictlySortedBy addr_cmp (keys_of s.validators)
  pub delegations : IsStrictlySortedBy pair_cmp (keys_of s.delegations)

-- no validator and no delegation
abbrev pub no_stake : Staked
no_stake = record { validators = []; delegations = [] }

-- nothing stands yet
abbrev pub new_register : ℕ → Registered
new_register power_reduction = record { staked = no_stake; marks = []; settled = no_stake; spent = false; power_reduction = power_reduction }

-- with other validators and delegations
abbrev pub holding : Staked → Registered → Registered
holding s r = record r { staked = s }

-- once memory was wanting in a change
abbrev pub spent_now : Registered → Registered
spent_now r = record r { spent = true }

-- with one more mark
abbrev pub with_mark : Registered → Registered
with_mark r = record r { marks = r.marks ++ r.staked ∷ [] }

-- the new one is the old one gone back to its latest mark, which is closed
pub record IsGoneBack (old new : Registered) : Type 0 where
  pub restored : new.marks ++ new.staked ∷ [] ≡ old.marks
  pub rest : new ≡ record old { staked = new.staked; marks = new.marks }

-- the new one is the old one with its latest mark closed
pub record IsForgotten (old new : Registered) : Type 0 where
  pub closed : (last : Staked) × (new.marks ++ last ∷ [] ≡ old.marks)
  pub rest : new ≡ record old { marks = new.marks }

-- validators and delegations, made one
abbrev pub staked_of : Validators → Delegations → Staked
staked_of validators delegations = record { validators = validators; delegations = delegations }

-- ---- the index by consensus address

-- the first operator whose validator has a consensus address
abbrev pub operator_by_cons : Validators → List ℕ → Option (List ℕ)
operator_by_cons [] cons = None
operator_by_cons (e ∷ es) cons = if is_eq (cons_cmp e.1.cons cons) then Some e.0 else operator_by_cons es cons

-- operators by consensus address are those of these validators
abbrev pub IsIndex : Validators → Operators → Type 0
IsIndex es index = (cons : List ℕ) → at cons_cmp index cons ≡ operator_by_cons es cons

-- the same at each mark
abbrev pub AreIndexed : List Validators → List Operators → Type 0
AreIndexed ms is = AtEachMark IsIndex ms is

-- each validator stands under its operator
abbrev pub AreKeyed : Validators → Type 0
AreKeyed [] = Unit {0}
AreKeyed (e ∷ es) = (e.1.operator ≡ e.0) × AreKeyed es

-- the lower of an operator and of the one that is there
abbrev pub lower_of : List ℕ → Option (List ℕ) → List ℕ
lower_of o None = o
lower_of o (Some p) = if is_lt (addr_cmp o p) then o else p

-- Three tables that are marked together: each validator stands under its operator, and the index tells the first operator of
-- each consensus address.
pub record HaveSameMarks (validators : Listed) (operators : Tabled (List ℕ) (List ℕ)) (delegations : Tabled (List ℕ × List ℕ) ℕ) : Type 0 where
  pub operators_depth : length operators.marks ≡ length validators.marks
  pub delegations_depth : length delegations.marks ≡ length validators.marks
  pub keyed : AreKeyed validators.entries
  pub keyed_then : AreKeyed validators.settled
  pub keyed_at_marks : AllByRecursion AreKeyed validators.marks
  pub indexed : IsIndex validators.entries operators.entries
  pub indexed_at_marks : AreIndexed validators.marks operators.marks

-- what is seen of three tables
abbrev pub registered : Listed → Tabled (List ℕ × List ℕ) ℕ → Bool → Registered
registered validators delegations spent = record {
  staked = record { validators = validators.entries; delegations = delegations.entries };
  marks = side_by_side staked_of validators.marks delegations.marks;
  settled = record { validators = validators.settled; delegations = delegations.settled };
  spent = spent;
  power_reduction = validators.power_reduction;
}

-- a validator stands under this one's operator, with its consensus address
pub record Stands (v : Validator) (s : Staked) : Type 0 where
  pub old : Validator
  pub found : validator_at s v.operator ≡ Some old
  pub cons : old.cons ≡ v.cons
