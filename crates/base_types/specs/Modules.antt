-- The accounts that belong to the modules.
use Rattle.std.specs.Prelude.{ℕ, List, [], ◌∷◌, bytes_eq, codes, if◌then◌else◌, Option, Some, None}
use Rattle.base_types.specs.declared.account.Module.{Module}
use Rattle.base_types.specs.declared.account.Module.TheVariants.{FeeCollector, Bonded, NotBonded, Distribution}

-- the last byte of a module's address, and its place in the order of modules
abbrev pub module_number : Module → ℕ
module_number FeeCollector = 1
module_number Bonded = 2
module_number NotBonded = 3
module_number Distribution = 4

-- a module's address: nineteen zero bytes, then its number
abbrev pub module_bytes : Module → List ℕ
module_bytes m =
    0 ∷ 0 ∷ 0 ∷ 0 ∷ 0 ∷ 0 ∷ 0 ∷ 0 ∷ 0 ∷ 0 ∷ 0 ∷ 0 ∷ 0 ∷ 0 ∷ 0 ∷ 0 ∷ 0 ∷ 0 ∷ 0 ∷ module_number m ∷ []

-- the name that a module is printed by
abbrev pub module_name : Module → List ℕ
module_name FeeCollector = codes "fee_collector"
module_name Bonded = codes "bonded_tokens_pool"
module_name NotBonded = codes "not_bonded_tokens_pool"
module_name Distribution = codes "distribution"

-- the module whose address this is, if it is a module's
abbrev pub module_of : List ℕ → Option Module
module_of bytes =
    if bytes_eq bytes (module_bytes FeeCollector) then Some FeeCollector
    else (if bytes_eq bytes (module_bytes Bonded) then Some Bonded
    else (if bytes_eq bytes (module_bytes NotBonded) then Some NotBonded
    else (if bytes_eq bytes (module_bytes Distribution) then Some Distribution else None)))

-- a user's address is one that is no module's
abbrev pub user_or_none : List ℕ → Option Module → Option (List ℕ)
user_or_none bytes None = Some bytes
user_or_none bytes (Some m) = None

abbrev pub user_from : List ℕ → Option (List ℕ)
user_from bytes = user_or_none bytes (module_of bytes)
