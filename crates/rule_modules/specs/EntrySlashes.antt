-- The slash of unbonding and of redelegation entries (`x/staking/keeper`: `SlashUnbondingDelegation`,
-- `SlashRedelegation`).
use Rattle.std.specs.Prelude.{ℕ, ◌+◌, ◌-◌, ◌*◌, ◌^◌, ◌==◌, ◌&&◌, not, min, Bool, nat_le, if◌then◌else◌, List, [], ◌∷◌, filter, Option, Some, None, unwrap_or, Result, Ok, map, sum}
use Rattle.base_decimals.specs.declared.over.Over.{Over}
use Rattle.base_decimals.specs.Rounding.{cut, even}
use Rattle.base_decimals.specs.Decimals.{mul_int_quo_int_of}
use Rattle.base_types.specs.declared.account.Module.TheVariants as holder
use Rattle.base_roles.specs.declared.entities.Validator.{Validator}
use Rattle.base_roles.specs.declared.entities.UnbondingEntry.{UnbondingEntry}
use Rattle.base_roles.specs.declared.entities.RedelegationEntry.{RedelegationEntry}
use Rattle.base_roles.specs.Lent.{Unbonds, Following}
use Rattle.base_roles.specs.Orders.{same_addr}
use Rattle.base_roles.specs.Staked.{validator_at, delegation}
use Rattle.base_roles.specs.Flow.{◌>>=◌}
use Rattle.base_roles.specs.World.{View, World, burnt, over_view}
use Rattle.rule_modules.specs.Stakes.{pool_of}
use Rattle.rule_modules.specs.Unbondings.{UnbondingLists, entries_of, with_entries}
use Rattle.rule_modules.specs.Redelegations.{RedelegationLists}

-- An entry that was made at this height, and completes then, is slashed by an infraction at a height: it was made at
-- that height or later, and is not mature.
abbrev pub is_hit : ℕ → ℕ → ℕ → ℕ → Bool
is_hit infraction now created completes = nat_le infraction created && not (nat_le completes now)

-- the part of an initial amount that a factor takes, cut
abbrev pub part_of : ℕ → ℕ → ℕ
part_of factor initial = cut (initial * factor) (10 ^ 18)

-- what is counted and answered is at most 10^18 (own; a slash amount is not more)
abbrev pub counted : ℕ → ℕ
counted n = min (10 ^ 18) n

-- what is told of an entry of either kind when it was made
pub record Made : Type 0 where
  pub created : ℕ
  pub completes : ℕ
  pub initial : ℕ

-- what is counted of entries: of each that is slashed the part of its initial amount
abbrev pub counted_of : ℕ → ℕ → ℕ → List Made → ℕ
counted_of infraction factor now es =
    sum (map (λ e. part_of factor e.initial) (filter (λ e. is_hit infraction now e.created e.completes) es))

-- ---- unbonding entries

-- the entries that are slashed
abbrev pub hit_of : ℕ → ℕ → List UnbondingEntry → List UnbondingEntry
hit_of infraction now es = filter (λ e. is_hit infraction now e.created e.completes) es

-- what is burned of them: the part of each initial amount, at most the balance
abbrev pub burned_of : ℕ → ℕ → ℕ → List UnbondingEntry → ℕ
burned_of infraction factor now es = sum (map (λ e. min (part_of factor e.initial) e.balance) (hit_of infraction now es))

-- an entry after the slash
abbrev pub entry_slashed : ℕ → ℕ → ℕ → UnbondingEntry → UnbondingEntry
entry_slashed infraction factor now e =
    if is_hit infraction now e.created e.completes then record e { balance = e.balance - part_of factor e.initial } else e

-- The slash of an operator's entries, by ascending delegator, with one burn from the not-bonded account for each: the
-- entries and the ground after it.
abbrev pub entries_slashed : List ℕ → ℕ → ℕ → UnbondingLists → View → UnbondingLists × View
entries_slashed operator infraction factor [] v = ([], v)
entries_slashed operator infraction factor (p ∷ ps) v =
    if same_addr p.0.1 operator
    then (let v1 = burnt holder.NotBonded v.ctx.params.bond_denom (burned_of infraction factor v.ctx.time p.1) v in
    let rest = entries_slashed operator infraction factor ps v1 in
    ((p.0, map (entry_slashed infraction factor v.ctx.time) p.1) ∷ rest.0, rest.1))
    else (let rest = entries_slashed operator infraction factor ps v in (p ∷ rest.0, rest.1))

-- what an entry's slash counts
abbrev pub unbonding_made : UnbondingEntry → Made
unbonding_made e = record { created = e.created; completes = e.completes; initial = e.initial }

-- what is counted of all entries of an operator
abbrev pub all_counted : List ℕ → ℕ → ℕ → ℕ → UnbondingLists → ℕ
all_counted operator infraction factor now u =
    sum (map (λ p. counted_of infraction factor now (map unbonding_made p.1)) (filter (λ p. same_addr p.0.1 operator) u))

-- The slash of an operator's unbonding entries: what is counted, the entries and the ground (`SlashUnbondingDelegation`).
abbrev pub unbondings_slashed : List ℕ → ℕ → ℕ → UnbondingLists → View → ℕ × UnbondingLists × View
unbondings_slashed operator infraction factor u v =
    let rest = entries_slashed operator infraction factor u v in
    (counted (all_counted operator infraction factor v.ctx.time u), rest.0, rest.1)

-- ---- unbonding entries that follow a redelegation

-- What a delegator moved to a target and then undelegated there is no safer than what stayed. So a slash of a
-- redelegation entry first takes from the delegator's unbonding entries at the target that were made at the entry's height
-- or later and are not mature: of each, in the order of making, the smaller of its balance and what is left of the count
-- (own: v0.47 takes from the shares at the target alone).
abbrev pub entries_followed : ℕ → ℕ → ℕ → List UnbondingEntry → ℕ × List UnbondingEntry
entries_followed from now left [] = (0, [])
entries_followed from now left (e ∷ es) =
    let lost = if is_hit from now e.created e.completes then min left e.balance else 0 in
    let rest = entries_followed from now (left - lost) es in
    (lost + rest.0, record e { balance = e.balance - lost } ∷ rest.1)

-- The same of the entries of a delegator and an operator, with one burn of the sum from the not-bonded account: the sum,
-- the entries and the ground after it.
abbrev pub followed : List ℕ → List ℕ → ℕ → ℕ → UnbondingLists → View → ℕ × UnbondingLists × View
followed delegator operator from tokens u v =
    let lost = entries_followed from v.ctx.time tokens (entries_of u delegator operator) in
    (lost.0, with_entries delegator operator lost.1 u, burnt holder.NotBonded v.ctx.params.bond_denom lost.0 v)

-- what a call is told that is lent plain lists of unbonding entries
abbrev pub plain_following : Following UnbondingLists
plain_following = record { follow = followed }

-- ---- redelegation entries

-- what an entry's slash counts
abbrev pub redelegation_made : RedelegationEntry → Made
redelegation_made e = record { created = e.created; completes = e.completes; initial = e.initial }

-- The shares that an entry's slash takes, of the count and of what was burned in the unbonding entries that follow: the
-- factor of what the entry gave, or of that the part of the count that is left.
abbrev pub part_left : ℕ → ℕ → ℕ → ℕ → Result ℕ Over
part_left factor given count lost =
    let part = even (factor * given) (10 ^ 18) in
    if lost == 0 then Ok part else mul_int_quo_int_of part (count - lost) count

module _ {D H : Type 0} (lent : Unbonds D H) where
  -- Shares are unbonded at the target, and what goes out is burned from the account of the target's status as it was
  -- before. Nothing is done without a target or of no shares.
  abbrev pub burned_at_target : Option Validator → List ℕ → ℕ → World D H → Result (World D H) Over
  burned_at_target None delegator part w = Ok w
  burned_at_target (Some t) delegator part w = if part == 0 then Ok w else (do
    (out, w1) ← lent.unbond delegator t.operator part w
    Ok (over_view (burnt (pool_of t.status) w.view.ctx.params.bond_denom out) w1))

  -- at most what the delegation has
  abbrev pub shares_hit : List ℕ → List ℕ → ℕ → World D H → ℕ
  shares_hit delegator target part w = min part (unwrap_or (delegation (lent.stake w.mine) delegator target) 0)

  module _ {U : Type 0} (unbondings : Following U) where
    -- The slash of one entry: of the unbonding entries that follow it, and then of shares at the target for what is left.
    abbrev pub entry_hit : List ℕ → List ℕ → ℕ → RedelegationEntry → U → World D H → Result (U × World D H) Over
    entry_hit delegator target factor e u w = do
      let count = part_of factor e.initial
      let (lost, u1, view) = unbondings.follow delegator target e.created count u w.view
      part ← part_left factor e.shares_dst count lost
      let w1 : World D H = record w { view = view }
      w2 ← burned_at_target (validator_at (lent.stake w1.mine) target) delegator (shares_hit delegator target part w1) w1
      Ok (u1, w2)

    -- the slash of the entries of one delegator and target, one after another
    abbrev pub targets_slashed : List ℕ → List ℕ → ℕ → ℕ → List RedelegationEntry → U → World D H → Result (U × World D H) Over
    targets_slashed delegator target infraction factor [] u w = Ok (u, w)
    targets_slashed delegator target infraction factor (e ∷ es) u w =
        if is_hit infraction w.view.ctx.time e.created e.completes then (do
          (u1, w1) ← entry_hit delegator target factor e u w
          targets_slashed delegator target infraction factor es u1 w1)
        else targets_slashed delegator target infraction factor es u w

    -- the same of all entries from an operator, by ascending delegator and target
    abbrev pub sources_slashed : List ℕ → ℕ → ℕ → RedelegationLists → U → World D H → Result (U × World D H) Over
    sources_slashed operator infraction factor [] u w = Ok (u, w)
    sources_slashed operator infraction factor (p ∷ ps) u w =
        if same_addr p.0.1 operator then (do
          (u1, w1) ← targets_slashed p.0.0 p.0.2 infraction factor p.1 u w
          sources_slashed operator infraction factor ps u1 w1)
        else sources_slashed operator infraction factor ps u w

    -- The slash of the redelegation entries from an operator: what is counted, the entries, which stay as they are, the
    -- unbonding entries and the world (`SlashRedelegation`). What is counted is of each entry the part of its initial
    -- amount, whatever of it was burned where.
    abbrev pub redelegations_slashed : List ℕ → ℕ → ℕ → RedelegationLists → U → World D H → Result (ℕ × RedelegationLists × U × World D H) Over
    redelegations_slashed operator infraction factor r u w = do
      (u1, w1) ← sources_slashed operator infraction factor r u w
      let all = sum (map (λ p. counted_of infraction factor w.view.ctx.time (map redelegation_made p.1)) (filter (λ p. same_addr p.0.1 operator) r))
      Ok (counted all, r, u1, w1)
