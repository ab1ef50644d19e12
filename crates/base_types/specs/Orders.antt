-- The orders of keys.
use Rattle.std.specs.Prelude.{ℕ, List}
use Rattle.std.specs.declared.cmp.Ordering.{Ordering}
use Rattle.std.specs.declared.cmp.Ordering.TheVariants.{Less, Greater}
use Rattle.std.specs.Ordering.{nat_cmp}
use Rattle.std.specs.Cmp.Lexicographic.{slice_cmp}
use Rattle.base_types.specs.declared.account.Account.{Account}
use Rattle.base_types.specs.declared.account.Account.TheVariants as account
use Rattle.base_types.specs.Modules.{module_number}

-- addresses, by their bytes
abbrev pub addr_cmp : List ℕ → List ℕ → Ordering
addr_cmp a b = slice_cmp nat_cmp a b

-- consensus addresses, by their bytes
abbrev pub cons_cmp : List ℕ → List ℕ → Ordering
cons_cmp a b = slice_cmp nat_cmp a b

-- denominations, by their bytes
abbrev pub denom_cmp : List ℕ → List ℕ → Ordering
denom_cmp a b = slice_cmp nat_cmp a b

-- moments, the earlier first
abbrev pub moment_cmp : ℕ → ℕ → Ordering
moment_cmp a b = nat_cmp a b

-- accounts: users first, by address, then the modules by their numbers
abbrev pub account_cmp : Account → Account → Ordering
account_cmp (account.User a) (account.User b) = addr_cmp a b
account_cmp (account.User a) (account.Module n) = Less
account_cmp (account.Module m) (account.User b) = Greater
account_cmp (account.Module m) (account.Module n) = nat_cmp (module_number m) (module_number n)
