-- The place by power down to which validators are bonded and behind which none is, while the register knows it. As long as so
-- many are bonded as the set may have, they are the set, and nobody has to be looked for.
use Rattle.std.specs.Prelude.{◌≡◌, ℕ, ◌&&◌, not, Bool, false, if◌then◌else◌, Option, Some, None, length}
use Rattle.std.specs.Ordering.{is_lt}
use Rattle.std.specs.List.{All}
use Rattle.std.specs.Map.{values_of}
use Rattle.base_types.specs.Orders.{addr_cmp}
use Rattle.base_roles.specs.declared.entities.Validator.{Validator}
use Rattle.base_roles.specs.Staked.{is_bonded}
use Rattle.rule_modules.specs.BondedSet.{power_of, is_able}
use Rattle.mod_staking.specs.declared.places.Standing.{Standing}
use Rattle.mod_staking.specs.Listed.{Validators}
use Rattle.mod_staking.specs.Places.{standing, standing_cmp, bonded_place, in_order}

-- the place of a validator by power, whether or not it has one
abbrev pub place : ℕ → Validator → Standing
place reduction v = standing (power_of reduction v, v.operator)

-- a place is not behind the last one
abbrev pub is_not_behind : Option Standing → Standing → Bool
is_not_behind None k = false
is_not_behind (Some p) k = not (is_lt (standing_cmp p k))

-- a validator is able, and its place is not behind the last one
abbrev pub is_within : ℕ → Option Standing → Validator → Bool
is_within reduction last v = is_able reduction v && is_not_behind last (place reduction v)

-- whether both are so, or neither
abbrev pub is_same : Bool → Bool → Bool
is_same a b = if a then b else not b

-- a validator is bonded where it is within this place, and else it is not
abbrev pub is_as_told : ℕ → Standing → Validator → Bool
is_as_told reduction least v = is_same (is_within reduction (Some least) v) (is_bonded v.status)

-- Those within this place are bonded, and no others are.
abbrev pub AreBondedTo : ℕ → Standing → Validators → Type 0
AreBondedTo reduction least es = All (λ v. is_within reduction (Some least) v ≡ is_bonded v.status) (values_of es)

-- What is known of the bonded ones is so.
abbrev pub IsKnown : ℕ → Option Standing → Validators → Type 0
IsKnown reduction None es = Unit {0}
IsKnown reduction (Some least) es = AreBondedTo reduction least es

-- the place that is known once a validator stands as it does now
abbrev pub known_with : ℕ → Option Standing → Validator → Option Standing
known_with reduction None v = None
known_with reduction (Some least) v = if is_as_told reduction least v then Some least else None

-- So many are bonded, those within some place and no others.
pub record AreSet (reduction most : ℕ) (es : Validators) : Type 0 where
  pub least : Standing
  pub bonded : AreBondedTo reduction least es
  pub many : length (in_order addr_cmp (bonded_place reduction) es) ≡ most
