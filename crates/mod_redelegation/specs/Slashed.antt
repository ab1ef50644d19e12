-- The slash of redelegation entries, entry by entry and key by key.
use Rattle.std.specs.Prelude.{ℕ, min, if◌then◌else◌, List, [], ◌∷◌, Option, unwrap_or, Result, Ok}
use Rattle.base_decimals.specs.declared.over.Over.{Over}
use Rattle.base_roles.specs.declared.entities.RedelegationEntry.{RedelegationEntry}
use Rattle.base_roles.specs.declared.entities.Validator.{Validator}
use Rattle.base_roles.specs.Lent.{Unbonds, Following}
use Rattle.base_roles.specs.Orders.{triple_cmp}
use Rattle.base_roles.specs.Staked.{Staked}
use Rattle.base_roles.specs.Flow.{◌>>=◌}
use Rattle.base_roles.specs.World.{View, World, burnt, over_view}
use Rattle.rule_modules.specs.EntrySlashes.{is_hit, entry_hit, targets_slashed}
use Rattle.rule_modules.specs.Redelegations.{RedelegationLists}
use Rattle.rule_modules.specs.Stakes.{pool_of}
use Rattle.mod_entries.specs.Lists.{list_at}

-- so many shares, at most what the delegation has
abbrev pub part_hit : ℕ → Option ℕ → ℕ
part_hit part held = min part (unwrap_or held 0)

-- delegations that are lent, of which it is told what they hold and what unbonding gives
abbrev pub lent_of : {D H : Type 0} → (D → Staked) → (List ℕ → List ℕ → ℕ → World D H → Result (ℕ × World D H) Over) → Unbonds D H
lent_of stake unbond = record { stake = stake; unbond = unbond }

-- unbonding entries that are lent, of which it is told what those lose that follow
abbrev pub following_of : {U : Type 0} → (List ℕ → List ℕ → ℕ → ℕ → U → View → ℕ × U × View) → Following U
following_of follow = record { follow = follow }

module _ {D H : Type 0} (lent : Unbonds D H) where
  -- shares are unbonded at a validator, and what goes out is burned
  abbrev pub unbonded_burnt : Validator → List ℕ → ℕ → World D H → Result (World D H) Over
  unbonded_burnt t delegator part w = do
    (out, w1) ← lent.unbond delegator t.operator part w
    Ok (over_view (burnt (pool_of t.status) w.view.ctx.params.bond_denom out) w1)

  module _ {U : Type 0} (unbondings : Following U) where
    -- the slash of one entry
    abbrev pub entry_slashed : List ℕ → List ℕ → ℕ → ℕ → RedelegationEntry → U → World D H → Result (U × World D H) Over
    entry_slashed delegator target infraction factor e u w =
        if is_hit infraction w.view.ctx.time e.created e.completes then entry_hit lent unbondings delegator target factor e u w else Ok (u, w)

    -- the slash of the entries of these keys, one after another
    abbrev pub keys_slashed : ℕ → ℕ → List (List ℕ × List ℕ × List ℕ) → RedelegationLists → U → World D H → Result (U × World D H) Over
    keys_slashed infraction factor [] r u w = Ok (u, w)
    keys_slashed infraction factor (k ∷ ks) r u w =
        targets_slashed lent unbondings k.0 k.2 infraction factor (list_at triple_cmp r k) u w >>= λ p. keys_slashed infraction factor ks r p.0 p.1
