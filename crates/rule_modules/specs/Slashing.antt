-- The slash of a validator, and jailing (`x/staking/keeper`: `Slash`, `Jail`).
use Rattle.std.specs.Prelude.{ℕ, ◌+◌, ◌-◌, ◌*◌, ◌^◌, ◌==◌, min, true, if◌then◌else◌, List, Option, Some, None, Result, Ok}
use Rattle.base_decimals.specs.declared.over.Over.{Over}
use Rattle.base_decimals.specs.Rounding.{cut}
use Rattle.base_shares.specs.Burns.{recorded_fraction}
use Rattle.base_roles.specs.declared.entities.Validator.{Validator}
use Rattle.base_roles.specs.declared.facts.Fact.TheVariants as fact
use Rattle.base_roles.specs.Lent.{Unbonds, Following, jail_told}
use Rattle.base_roles.specs.Log as log
use Rattle.base_roles.specs.Staked.{Staked, validator_at, validator_by_cons, put_validator, is_unbonded}
use Rattle.base_roles.specs.Flow.{◌>>=◌}
use Rattle.base_roles.specs.World.{View, Told, World, call, noted, burnt, over_view, over_mine, logged}
use Rattle.base_roles.specs.declared.calls.Hook.{Hook}
use Rattle.base_roles.specs.declared.calls.Hook.TheVariants.{Slashing as slashing}
use Rattle.rule_modules.specs.Stakes.{pool_of}
use Rattle.rule_modules.specs.Unbonding.{shares_unbonded}
use Rattle.rule_modules.specs.Unbondings.{UnbondingLists}
use Rattle.rule_modules.specs.Redelegations.{RedelegationLists}
use Rattle.rule_modules.specs.EntrySlashes.{unbondings_slashed, plain_following, redelegations_slashed}

-- what staking holds: validators and delegations, unbonding entries, and redelegation entries
pub record Core (U R : Type 0) : Type 0 where
  pub staked : Staked
  pub unbondings : U
  pub redelegations : R

-- how entries are slashed, of whatever form they are
pub record EntriesSlash (U R H : Type 0) : Type 0 where
  pub of_unbondings : List ℕ → ℕ → ℕ → U → View → ℕ × U × View
  pub of_followed : Following U
  pub of_redelegations : Unbonds Staked H → Following U → List ℕ → ℕ → ℕ → R → U → World Staked H → Result (ℕ × R × U × World Staked H) Over

-- plain lists of entries are slashed by their rules
abbrev pub plain_slash : {H : Type 0} → EntriesSlash UnbondingLists RedelegationLists H
plain_slash = record {
  of_unbondings = unbondings_slashed;
  of_followed = plain_following;
  of_redelegations = λ lent unbondings. redelegations_slashed lent unbondings;
}

-- The amount of a slash: the factor of the tokens that the power stands for, cut (`Slash`: `TokensFromConsensusPower`,
-- `TruncateInt`).
abbrev pub slash_amount : ℕ → ℕ → ℕ → ℕ
slash_amount power reduction factor = cut (power * reduction * factor) (10 ^ 18)

-- the fraction that is recorded of a burn, at most 1 (`Slash`: `effectiveFraction`)
abbrev pub slash_fraction : ℕ → ℕ → ℕ
slash_fraction burned tokens = min (10 ^ 18) (recorded_fraction burned tokens)

module _ {H : Type 0} (told : H → Hook → View → Told H) where
  -- what a call is told that is lent these delegations
  abbrev pub staked_unbonds : Unbonds Staked H
  staked_unbonds = record { stake = λ s. s; unbond = shares_unbonded told }

  -- The hook of a slash, and its fact; a validator without tokens has neither (`Slash`: `BeforeValidatorSlashed`).
  abbrev pub slash_told : Validator → ℕ → World Staked H → Result (World Staked H) Over
  slash_told v burned w = if v.tokens == 0 then Ok w else (do
    let fraction = slash_fraction burned v.tokens
    w1 ← call told (slashing v fraction) w
    Ok (over_view (noted (fact.Slashed v.operator fraction burned)) (logged v.operator (log.slashed burned v.tokens fraction) w1)))

  -- A validator burns an amount, at most its tokens, from the account of its status (`Slash`: `RemoveValidatorTokens`,
  -- `burnBondedTokens`, `burnNotBondedTokens`). Answers what was burned.
  abbrev pub validator_slashed : Validator → ℕ → World Staked H → Result (ℕ × World Staked H) Over
  validator_slashed v amount w = do
    let burned = min amount v.tokens
    w1 ← slash_told v burned w
    let less = record v { tokens = v.tokens - burned }
    Ok (burned, over_view (burnt (pool_of v.status) w.view.ctx.params.bond_denom burned) (over_mine (put_validator less) w1))

  -- the same of a validator that may be gone
  abbrev pub rest_slashed : Option Validator → ℕ → World Staked H → Result (ℕ × World Staked H) Over
  rest_slashed None amount w = Ok (0, w)
  rest_slashed (Some v) amount w = validator_slashed v amount w

  module _ {U R : Type 0} (entries : EntriesSlash U R H) where
    -- The slash of a validator: of its unbonding entries, of the redelegation entries from it and the unbonding entries
    -- that follow these, then of itself by the amount less all that was counted. An unbonded validator is not slashed (own: v0.47 panics), nor one that is not known.
    abbrev pub slashed_at : Option Validator → ℕ → ℕ → ℕ → World (Core U R) H → Result (ℕ × World (Core U R) H) Over
    slashed_at None infraction power factor w = Ok (0, w)
    slashed_at (Some v) infraction power factor w = if is_unbonded v.status then Ok (0, w) else (do
      let (some, u, view) = entries.of_unbondings v.operator infraction factor w.mine.unbondings w.view
      let w1 : World Staked H = record { mine = w.mine.staked; hooks = w.hooks; view = view; log = w.log }
      (more, r, u2, w2) ← entries.of_redelegations staked_unbonds entries.of_followed v.operator infraction factor w.mine.redelegations u w1
      let amount = slash_amount power w.view.ctx.params.power_reduction factor - (some + more)
      (burned, w3) ← rest_slashed (validator_at w2.mine v.operator) amount w2
      Ok (burned, record { mine = record { staked = w3.mine; unbondings = u2; redelegations = r }; hooks = w3.hooks; view = w3.view; log = w3.log }))

    -- The slash of a consensus address since a height, by the power of then and a factor (`Slash`). Answers what the
    -- validator itself burns.
    abbrev pub slashed : List ℕ → ℕ → ℕ → ℕ → World (Core U R) H → Result (ℕ × World (Core U R) H) Over
    slashed cons infraction power factor w = slashed_at (validator_by_cons w.mine.staked cons) infraction power factor w

-- ---- jailing, and what is lent of both

-- a validator that is jailed, where it is known
abbrev pub jailed_of : Option Validator → Staked → Staked
jailed_of None s = s
jailed_of (Some v) s = put_validator (record v { jailed = true }) s

-- the validator of a consensus address is jailed (`Jail`)
abbrev pub jailed_by_cons : {U R : Type 0} → List ℕ → Core U R → Core U R
jailed_by_cons cons c = record c { staked = jailed_of (validator_by_cons c.staked cons) c.staked }

-- what a call is told that is lent validators to slash and jail
pub record Slashes (D H : Type 0) : Type 0 where
  pub stake : D → Staked
  pub slash : List ℕ → ℕ → ℕ → ℕ → World D H → Result (ℕ × World D H) Over
  pub jail : List ℕ → D → D

-- staking as such a lender
abbrev pub core_slashes : {U R H : Type 0} → (H → Hook → View → Told H) → EntriesSlash U R H → Slashes (Core U R) H
core_slashes told entries = record { stake = λ c. c.staked; slash = slashed told entries; jail = jailed_by_cons }

-- jailing over what is lent, told by a fact
abbrev pub jail_lent : {D H : Type 0} → Slashes D H → List ℕ → World D H → World D H
jail_lent lent cons w =
    let v = validator_by_cons (lent.stake w.mine) cons in
    over_view (λ u. record u { facts = jail_told v u.facts }) (over_mine (lent.jail cons) w)
