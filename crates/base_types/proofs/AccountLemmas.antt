-- An account keeps the bytes that it is made of.
use Rattle.std.proofs.Common.{◌≡◌, sym, refl, ℕ, List, Bool, true, false, cond, bytes_eq, Some, None}
use Rattle.std.proofs.lemmas.Slice.Eq.{bytes_eq-Decides}
use Rattle.base_types.specs.declared.account.Module.{Module}
use Rattle.base_types.specs.declared.account.Module.TheVariants.{FeeCollector, Bonded, NotBonded, Distribution}
use Rattle.base_types.specs.{Modules.{module_bytes, module_name}, Address.address_of}
use Rattle.base_types.specs.Accounts.{user_or_module, account_from, account_bytes}
use Rattle.base_types.specs.declared.account.Account.TheVariants as account

kept : (bytes : List ℕ) (first second third fourth : Bool) → (first ≡ true → bytes ≡ module_bytes FeeCollector) → (second ≡ true → bytes ≡ module_bytes Bonded)
    → (third ≡ true → bytes ≡ module_bytes NotBonded) → (fourth ≡ true → bytes ≡ module_bytes Distribution)
    → account_bytes (user_or_module bytes (cond first (Some FeeCollector) (cond second (Some Bonded) (cond third (Some NotBonded) (cond fourth (Some Distribution) None))))) ≡ bytes
kept bytes true second third fourth a b c d = sym (a refl)
kept bytes false true third fourth a b c d = sym (b refl)
kept bytes false false true fourth a b c d = sym (c refl)
kept bytes false false false true a b c d = sym (d refl)
kept bytes false false false false a b c d = refl

pub account_bytes-account_from : (bytes : List ℕ) → account_bytes (account_from bytes) ≡ bytes
account_bytes-account_from bytes =
    kept bytes (bytes_eq bytes (module_bytes FeeCollector)) (bytes_eq bytes (module_bytes Bonded)) (bytes_eq bytes (module_bytes NotBonded)) (bytes_eq bytes (module_bytes Distribution))
    (bytes_eq-Decides bytes (module_bytes FeeCollector)).0 (bytes_eq-Decides bytes (module_bytes Bonded)).0 (bytes_eq-Decides bytes (module_bytes NotBonded)).0 (bytes_eq-Decides bytes (module_bytes Distribution)).0

pub account_from-module_bytes : (m : Module) → account_from (module_bytes m) ≡ account.Module m
account_from-module_bytes FeeCollector = refl
account_from-module_bytes Bonded = refl
account_from-module_bytes NotBonded = refl
account_from-module_bytes Distribution = refl

pub address_of-module_name : (m : Module) → address_of (module_name m) ≡ None
address_of-module_name FeeCollector = refl
address_of-module_name Bonded = refl
address_of-module_name NotBonded = refl
address_of-module_name Distribution = refl
