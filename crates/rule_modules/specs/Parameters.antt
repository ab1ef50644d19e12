-- Parameters that change: which of them never do, and what changes with them (own: on a chain the authority, `x/gov`, sends a
-- `MsgUpdateParams` of each module).
use Rattle.std.specs.Prelude.{ℕ, ◌==◌, not, List, [], ◌∷◌, Option, Some, None, Result, Ok, Err, ⊤}
use Rattle.std.specs.BTreeMap.{is_at}
use Rattle.base_types.specs.Orders.{denom_cmp}
use Rattle.base_roles.specs.declared.facts.Fact.TheVariants as fact
use Rattle.base_roles.specs.declared.params.Params.{Params}
use Rattle.base_roles.specs.declared.refusal.Refusal.{Refusal}
use Rattle.base_roles.specs.declared.refusal.Refusal.TheVariants.{NotAuthority, ParamRange, ParamFixed}
use Rattle.base_roles.specs.Flow.{◌>>=◌, ◌>>◌, stop_if}
use Rattle.base_roles.specs.Orders.{same_addr}
use Rattle.base_roles.specs.Ranges.{first_number, out_of_range, unless}
use Rattle.base_roles.specs.World.{View, noted}
use Rattle.rule_modules.specs.Chain.{State, shared_in, window_in}
use Rattle.rule_modules.specs.Effects.{Effect}
use Rattle.rule_modules.specs.Window.{window_resized}

-- The number of the first parameter that never changes and would: the bond denomination, and how many tokens are a unit of
-- power.
abbrev pub fixed_changed : Params → Params → Option ℕ
fixed_changed old new =
    first_number (
    unless (is_at (denom_cmp old.bond_denom) new.bond_denom) 10
    ∷ unless (old.power_reduction == new.power_reduction) 11
    ∷ [])

-- refused for the parameter of this number, where there is one
abbrev pub refused_for : (ℕ → Refusal) → Option ℕ → Result ⊤ Refusal
refused_for why None = Ok tt
refused_for why (Some number) = Err (why number)

-- the ground with other parameters
abbrev pub with_params : Params → View → View
with_params p v = record v { ctx = record v.ctx { params = p } }

-- The state with other parameters, which this authority named: what follows in the same transaction sees them. The signing
-- records keep of their votes what both windows hold.
abbrev pub with_updated : List ℕ → Params → State → State
with_updated authority p w =
    let i = window_resized w.view.ctx.params.signed_blocks_window p.signed_blocks_window (window_in w) in
    record w { hooks = (shared_in w, i); view = noted (fact.ParamsChanged authority) (with_params p w.view) }

-- what refuses to let an address replace parameters by others
abbrev pub may_update : List ℕ → Params → Params → Result ⊤ Refusal
may_update authority old new = do
  stop_if (not (same_addr authority old.authority)) NotAuthority
  refused_for ParamRange (out_of_range new)
  refused_for ParamFixed (fixed_changed old new)

-- The authority replaces the parameters, at once.
abbrev pub update_params : List ℕ → Params → Effect
update_params authority p w = do
  may_update authority w.view.ctx.params p
  Ok (with_updated authority p w)
