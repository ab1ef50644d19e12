-- What completing and a slash make of the entries of one key, and of the ground.
use Rattle.std.specs.Prelude.{ℕ, not, List, map, filter, if◌then◌else◌}
use Rattle.base_types.specs.declared.account.Module.TheVariants as holder
use Rattle.base_roles.specs.declared.entities.UnbondingEntry.{UnbondingEntry}
use Rattle.base_roles.specs.Orders.{same_addr}
use Rattle.base_roles.specs.World.{View, burnt}
use Rattle.rule_modules.specs.EntrySlashes.{burned_of, entry_slashed}
use Rattle.rule_modules.specs.Unbondings.{is_mature, paid_back}
use Rattle.mod_entries.specs.Walked.{Change}

-- a delegator and an operator
abbrev pub Key : Type 0
Key = List ℕ × List ℕ

-- the mature entries of a key are paid, and go
abbrev pub paid_at : Change Key UnbondingEntry View
paid_at key es v = (filter (λ e. not (is_mature v.ctx.time e)) es, paid_back key.0 es v)

-- the entries of a key are slashed, and what they lose is burned
abbrev pub slashed_in : ℕ → ℕ → Change Key UnbondingEntry View
slashed_in infraction factor key es v =
    (map (entry_slashed infraction factor v.ctx.time) es, burnt holder.NotBonded v.ctx.params.bond_denom (burned_of infraction factor v.ctx.time es) v)

-- the same where the key is of this operator
abbrev pub slashed_at : List ℕ → ℕ → ℕ → Change Key UnbondingEntry View
slashed_at operator infraction factor key es v = if same_addr key.1 operator then slashed_in infraction factor key es v else (es, v)
