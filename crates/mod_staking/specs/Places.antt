-- The lists of validators that are kept beside their table: who has a place in one, and in which order.
use Rattle.std.specs.Prelude.{◌≡◌, ℕ, ◌≤◌, Bool, true, false, if◌then◌else◌, List, [], ◌∷◌, map, Option, Some, None}
use Rattle.std.specs.declared.cmp.Ordering.{Ordering}
use Rattle.std.specs.declared.cmp.Ordering.TheVariants.{Equal}
use Rattle.std.specs.BTreeMap.{is_at}
use Rattle.std.specs.Ordering.{nat_cmp, on, flip_args, then_cmp}
use Rattle.base_types.specs.Orders.{addr_cmp, moment_cmp}
use Rattle.base_table.specs.Tabled.{Tabled}
use Rattle.base_roles.specs.declared.entities.Validator.{Validator}
use Rattle.base_roles.specs.Entries.{with, without}
use Rattle.base_roles.specs.Orders.{both_cmp}
use Rattle.base_roles.specs.Staked.{is_bonded}
use Rattle.rule_modules.specs.BondedSet.{is_able, power_of}
use Rattle.rule_modules.specs.Stakes.{is_unbonding}
use Rattle.mod_staking.specs.declared.places.Standing.{Standing}
use Rattle.mod_staking.specs.declared.lists.Lists.{Lists}
use Rattle.mod_staking.specs.Listed.{Validators}

-- ---- places

-- more power first, then the lower operator (`GetValidatorsByPowerIndexKey`)
abbrev pub standing_cmp : Standing → Standing → Ordering
standing_cmp a b = then_cmp (flip_args (on (λ s. s.power) nat_cmp)) (on (λ s. s.operator) addr_cmp) a b

-- the earlier moment first, then the lower operator
abbrev pub time_cmp : ℕ × List ℕ → ℕ × List ℕ → Ordering
time_cmp a b = both_cmp moment_cmp addr_cmp a b

-- the place of an operator with so much power
abbrev pub standing : ℕ × List ℕ → Standing
standing a = record { power = a.0; operator = a.1 }

-- Who is not jailed and has some power has a place by power.
abbrev pub power_place : ℕ → Validator → Option Standing
power_place reduction v = if is_able reduction v then Some (standing (power_of reduction v, v.operator)) else None

-- Who is bonded has one by operator.
abbrev pub bonded_place : ℕ → Validator → Option (List ℕ)
bonded_place reduction v = if is_bonded v.status then Some v.operator else None

-- Who is unbonding has one by the time at which that ends, and by operator.
abbrev pub maturing_place : ℕ → Validator → Option (ℕ × List ℕ)
maturing_place reduction v = if is_unbonding v.status then Some (v.unbonding_time, v.operator) else None

-- places that compare equal are one, and no two operators have one place
pub record IsPlaced {K : Type 0} (cmp : K → K → Ordering) (place_of : ℕ → Validator → Option K) : Type 0 where
  pub exact : (p q : K) → cmp p q ≡ Equal → p ≡ q
  pub apart : (reduction : ℕ) (v w : Validator) (p : K) → place_of reduction v ≡ Some p → place_of reduction w ≡ Some p → v.operator ≡ w.operator

-- ---- lists

module _ {K : Type 0} (cmp : K → K → Ordering) where
  -- what stands at the place, where there is one, joins a list
  abbrev pub with_if : {X : Type 0} → Option K → X → List (K × X) → List (K × X)
  with_if None x list = list
  with_if (Some place) x list = with cmp list place x

  -- what stands at the place, where there is one, leaves it
  abbrev pub without_if : {X : Type 0} → Option K → List (K × X) → List (K × X)
  without_if None list = list
  without_if (Some place) list = without cmp list place

  -- whether two places are one, or there are none
  abbrev pub is_same_place : Option K → Option K → Bool
  is_same_place None None = true
  is_same_place (Some p) (Some q) = is_at (cmp p) q
  is_same_place None (Some q) = false
  is_same_place (Some p) None = false

  -- an operator goes from one place to another
  abbrev pub moved_place : Option K → Option K → List ℕ → List (K × List ℕ) → List (K × List ℕ)
  moved_place from to operator list = if is_same_place from to then list else with_if to operator (without_if from list)

  module _ (place_of : Validator → Option K) where
    -- the place of a validator, where there is one
    abbrev pub place_in : Option Validator → Option K
    place_in None = None
    place_in (Some v) = place_of v

    -- the validators that have a place, in the order of places
    abbrev pub in_order : Validators → List (K × Validator)
    in_order [] = []
    in_order (e ∷ es) = with_if (place_of e.1) e.1 (in_order es)

    -- their operators
    abbrev pub operators_in_order : Validators → List (K × List ℕ)
    operators_in_order es = map (λ e. (e.0, e.1.operator)) (in_order es)

    -- a list has the operators of these validators, and had them at each mark
    pub record IsListed (records : Tabled (List ℕ) Validator) (list : Tabled K (List ℕ)) : Type 0 where
      pub entries : list.entries ≡ operators_in_order records.entries
      pub marks : list.marks ≡ map operators_in_order records.marks

-- each of the three lists does
pub record AreListed (reduction : ℕ) (records : Tabled (List ℕ) Validator) (lists : Lists) : Type 0 where
  pub some : 1 ≤ reduction
  pub by_power : IsListed standing_cmp (power_place reduction) records lists.by_power
  pub bonded : IsListed addr_cmp (bonded_place reduction) records lists.bonded
  pub maturing : IsListed time_cmp (maturing_place reduction) records lists.maturing

-- an operator goes from where one validator has its places to where another has them
pub record AreMoved (reduction : ℕ) (was now : Option Validator) (operator : List ℕ) (old new : Lists) : Type 0 where
  pub by_power : new.by_power.entries ≡ moved_place standing_cmp (place_in standing_cmp (power_place reduction) was) (place_in standing_cmp (power_place reduction) now) operator old.by_power.entries
  pub bonded : new.bonded.entries ≡ moved_place addr_cmp (place_in addr_cmp (bonded_place reduction) was) (place_in addr_cmp (bonded_place reduction) now) operator old.bonded.entries
  pub maturing : new.maturing.entries ≡ moved_place time_cmp (place_in time_cmp (maturing_place reduction) was) (place_in time_cmp (maturing_place reduction) now) operator old.maturing.entries

-- the same marks are open
pub record HaveMarksOf (old new : Lists) : Type 0 where
  pub by_power : new.by_power.marks ≡ old.by_power.marks
  pub bonded : new.bonded.marks ≡ old.bonded.marks
  pub maturing : new.maturing.marks ≡ old.maturing.marks
