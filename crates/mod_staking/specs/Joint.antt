-- The table of validators and that of the first operator of each consensus address, changed together.
use Rattle.std.specs.Prelude.{ℕ, Bool, true, if◌then◌else◌, List, Option, Some, None}
use Rattle.std.specs.Ordering.{is_lt}
use Rattle.base_types.specs.Orders.{addr_cmp, cons_cmp}
use Rattle.base_roles.specs.declared.entities.Validator.{Validator}
use Rattle.base_roles.specs.Entries.{at, with}
use Rattle.mod_staking.specs.Registered.{Operators}

-- an operator is lower than the one that is there, or there is none
abbrev pub is_lower : List ℕ → Option (List ℕ) → Bool
is_lower o None = true
is_lower o (Some p) = is_lt (addr_cmp o p)

-- the operators by consensus address once a validator joins
abbrev pub listed : Validator → Operators → Operators
listed v index = if is_lower v.operator (at cons_cmp index v.cons) then with cons_cmp index v.cons v.operator else index
