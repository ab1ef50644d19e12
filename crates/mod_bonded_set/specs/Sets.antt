-- The bonded set as the beginning of the validators in the order of power, and who is within its last place.
use Rattle.std.specs.Prelude.{◌≡◌, ℕ, ◌==◌, ◌&&◌, if◌then◌else◌, nat_le, Bool, List, [], ◌∷◌, length, Option, Some, None}
use Rattle.std.specs.List.{AllByRecursion}
use Rattle.std.specs.Map.{values_of}
use Rattle.base_types.specs.declared.status.BondStatus.TheVariants.{Bonded, Unbonding}
use Rattle.base_roles.specs.declared.entities.Validator.{Validator}
use Rattle.base_roles.specs.Staked.{Staked, validator_at, put_validator}
use Rattle.base_roles.specs.declared.facts.Fact.TheVariants as fact
use Rattle.base_roles.specs.World.{View, noted}
use Rattle.rule_modules.specs.BondedSet.{is_in_bonded_set, joining_of, leaving_of}
use Rattle.rule_modules.specs.Stakes.{is_unbonding}
use Rattle.mod_staking.specs.declared.places.Standing.{Standing}
use Rattle.mod_staking.specs.KnownSet.{is_within, AreBondedTo}

-- the place of the last of these
abbrev pub last_place : List (Standing × Validator) → Option Standing
last_place [] = None
last_place (e ∷ []) = Some e.0
last_place (e ∷ x ∷ es) = last_place (x ∷ es)

-- Of the validators that stand, those that are within this last place are the bonded set of at most `most`.
abbrev pub TellsSet : ℕ → ℕ → Staked → Option Standing → Type 0
TellsSet reduction most s last = (o : List ℕ) (v : Validator) → validator_at s o ≡ Some v → is_within reduction last v ≡ is_in_bonded_set reduction most (values_of s.validators) v

-- Where a place is told, nobody joins or leaves the set of at most `most`, and those within that place are bonded and no others.
abbrev pub IsUnmoved : ℕ → ℕ → Staked → Option Standing → Type 0
IsUnmoved reduction most s None = Unit {0}
IsUnmoved reduction most s (Some p) = (joining_of reduction most (values_of s.validators) ≡ []) × ((leaving_of reduction most (values_of s.validators) ≡ []) × AreBondedTo reduction p s.validators)

-- the place of the set's last validator, where these are nobody
abbrev pub unmoved_last : List Validator → List Validator → Option (ℕ × List ℕ) → Option (ℕ × List ℕ)
unmoved_last joining leaving last = if (length joining == 0) && (length leaving == 0) then last else None

-- each of these stands under its operator
abbrev pub AllStand : Staked → List Validator → Type 0
AllStand s vs = AllByRecursion (λ v. validator_at s v.operator ≡ Some v) vs

-- validators with these in the set
abbrev pub all_joined : List Validator → Staked → Staked
all_joined [] s = s
all_joined (v ∷ vs) s = all_joined vs (put_validator (record v { status = Bonded }) s)

-- validators with these outside of it, unbonding since this height until this time
abbrev pub all_left : ℕ → ℕ → List Validator → Staked → Staked
all_left height time [] s = s
all_left height time (v ∷ vs) s = all_left height time vs (put_validator (record v { status = Unbonding; unbonding_height = height; unbonding_time = time }) s)

-- the ground once it is told that these left
abbrev pub all_leavings_noted : List Validator → View → View
all_leavings_noted [] v = v
all_leavings_noted (x ∷ xs) v = all_leavings_noted xs (noted (fact.Changed x.operator Unbonding) v)

-- a validator is unbonding, and its time has come
abbrev pub is_due : ℕ → Validator → Bool
is_due now v = is_unbonding v.status && nat_le v.unbonding_time now

-- its time has come, and it has no shares: so it goes
abbrev pub goes_at : ℕ → Validator → Bool
goes_at now v = is_due now v && (v.shares == 0)

-- the operators whose time has come, among those that unbond in the order of their times
abbrev pub due_in : ℕ → List ((ℕ × List ℕ) × Validator) → List (List ℕ)
due_in now [] = []
due_in now (e ∷ es) = if nat_le e.0.0 now then e.0.1 ∷ due_in now es else []
