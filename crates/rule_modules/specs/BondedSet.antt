-- The bonded set, its changes, and validators whose unbonding is mature (`x/staking/keeper`:
-- `ApplyAndReturnValidatorSetUpdates`, `UnbondAllMatureValidators`).
use Rattle.std.specs.Prelude.{◌≡◌, ◌<◌, ℕ, ◌-◌, ◌/◌, ◌==◌, ◌&&◌, ◌||◌, not, Bool, false, IsTrue, nat_lt, nat_le, if◌then◌else◌, List, [], ◌∷◌, filter, map, sum, Result, Ok}
use Rattle.std.specs.Ordering.{is_lt}
use Rattle.std.specs.List.{AllByRecursion}
use Rattle.std.specs.Map.{values_of}
use Rattle.base_decimals.specs.declared.over.Over.{Over}
use Rattle.base_types.specs.declared.account.Account.TheVariants as account
use Rattle.base_types.specs.declared.account.Module.TheVariants as holder
use Rattle.base_types.specs.declared.status.BondStatus.TheVariants.{Bonded, Unbonding, Unbonded}
use Rattle.base_types.specs.Orders.{addr_cmp}
use Rattle.base_roles.specs.declared.entities.Validator.{Validator}
use Rattle.base_roles.specs.Orders.{same_addr}
use Rattle.base_roles.specs.Staked.{Staked, is_bonded}
use Rattle.base_roles.specs.Flow.{◌>>=◌, each}
use Rattle.base_roles.specs.World.{View, Told, World, call, sent, over_view}
use Rattle.base_roles.specs.declared.calls.Hook.{Hook}
use Rattle.base_roles.specs.declared.calls.Hook.TheVariants.{Bonded as bonded}
use Rattle.rule_modules.specs.Amounts.{bond_coins, count_where}
use Rattle.rule_modules.specs.Stakes.{is_unbonding, changed}
use Rattle.rule_modules.specs.Unbonding.{removed_if_empty}
use Rattle.rule_modules.specs.Unbondings.{completion}

-- the power of a validator: its tokens by the reduction, cut (`Validator.ConsensusPower`)
abbrev pub power_of : ℕ → Validator → ℕ
power_of reduction v = v.tokens / reduction

-- a validator that is not jailed and has some power can be in the set
abbrev pub is_able : ℕ → Validator → Bool
is_able reduction v = not v.jailed && nat_lt 0 (power_of reduction v)

-- One stands before another: it has more power, or the same and a lower address (`GetValidatorsByPowerIndexKey`).
abbrev pub stands_before : ℕ → Validator → Validator → Bool
stands_before reduction u v =
    nat_lt (power_of reduction v) (power_of reduction u)
    || ((power_of reduction u == power_of reduction v) && is_lt (addr_cmp u.operator v.operator))

-- how many able validators stand before this one
abbrev pub rank_of : ℕ → List Validator → Validator → ℕ
rank_of reduction vs v = count_where (λ u. is_able reduction u && stands_before reduction u v) vs

-- A validator is in the bonded set of at most `most` where it is able, and fewer than `most` able ones stand before it.
pub record IsInBondedSet (reduction most : ℕ) (vs : List Validator) (v : Validator) : Type 0 where
  pub able : IsTrue (is_able reduction v)
  pub among : rank_of reduction vs v < most

-- the same as a test
abbrev pub is_in_bonded_set : ℕ → ℕ → List Validator → Validator → Bool
is_in_bonded_set reduction most vs v = is_able reduction v && nat_lt (rank_of reduction vs v) most

-- a validator at its place among those that stand in order
abbrev pub placed : ℕ → Validator → List Validator → List Validator
placed reduction v [] = v ∷ []
placed reduction v (u ∷ us) = if stands_before reduction u v then u ∷ placed reduction v us else v ∷ u ∷ us

-- validators in the order of the set
abbrev pub by_power : ℕ → List Validator → List Validator
by_power reduction [] = []
by_power reduction (v ∷ vs) = placed reduction v (by_power reduction vs)

-- validators of which each stands under an operator of its own
abbrev pub HaveOwnOperators : List Validator → Type 0
HaveOwnOperators [] = Unit {0}
HaveOwnOperators (v ∷ vs) = AllByRecursion (λ u. same_addr v.operator u.operator ≡ false) vs × HaveOwnOperators vs

-- those of the set that are not bonded yet, in the set's order
abbrev pub joining_of : ℕ → ℕ → List Validator → List Validator
joining_of reduction most vs = by_power reduction (filter (λ v. is_in_bonded_set reduction most vs v && not (is_bonded v.status)) vs)

-- those that are bonded and no longer in the set, by ascending operator
abbrev pub leaving_of : ℕ → ℕ → List Validator → List Validator
leaving_of reduction most vs = filter (λ v. is_bonded v.status && not (is_in_bonded_set reduction most vs v)) vs

-- the tokens of validators together
abbrev pub tokens_of : List Validator → ℕ
tokens_of vs = sum (map (λ v. v.tokens) vs)

-- The difference of the joining and the leaving tokens moves between the staking accounts, one way, the other, or not
-- (`ApplyAndReturnValidatorSetUpdates`: `amtFromBondedToNotBonded`).
abbrev pub difference_moved : ℕ → ℕ → View → View
difference_moved joined left v =
    if nat_lt left joined then sent (account.Module holder.NotBonded) (account.Module holder.Bonded) (bond_coins v (joined - left)) v
    else sent (account.Module holder.Bonded) (account.Module holder.NotBonded) (bond_coins v (left - joined)) v

module _ {H : Type 0} (told : H → Hook → View → Told H) where
  -- a validator joins the set (`bondValidator`: `AfterValidatorBonded`)
  abbrev pub joined_set : Validator → World Staked H → Result (World Staked H) Over
  joined_set v w = call told (bonded (record v { status = Bonded })) (changed v Bonded w)

  -- A validator leaves the set and begins to unbond (`beginUnbondingValidator`).
  abbrev pub left_set : Validator → World Staked H → Result (World Staked H) Over
  left_set v w =
      Ok (changed (record v { unbonding_height = w.view.ctx.height; unbonding_time = completion w.view.ctx }) Unbonding w)

  -- The set is made anew: those that join, then those that leave, then the difference moves
  -- (`ApplyAndReturnValidatorSetUpdates`).
  abbrev pub set_updated : World Staked H → Result (World Staked H) Over
  set_updated w = do
    let p = w.view.ctx.params
    let vs = values_of w.mine.validators
    let joining = joining_of p.power_reduction p.max_validators vs
    let leaving = leaving_of p.power_reduction p.max_validators vs
    w1 ← each joined_set joining w
    w2 ← each left_set leaving w1
    Ok (over_view (difference_moved (tokens_of joining) (tokens_of leaving)) w2)

  -- An unbonding validator whose time has come is unbonded, and goes where it has no shares (`UnbondAllMatureValidators`:
  -- `UnbondingToUnbonded`, `RemoveValidator`).
  abbrev pub matured : Validator → World Staked H → Result (World Staked H) Over
  matured v w =
      if is_unbonding v.status && nat_le v.unbonding_time w.view.ctx.time
      then removed_if_empty told (record v { status = Unbonded }) (changed v Unbonded w)
      else Ok w

  -- all of them, by ascending operator (the order: own)
  abbrev pub validators_matured : World Staked H → Result (World Staked H) Over
  validators_matured w = each matured (values_of w.mine.validators) w
