-- The derived comparisons of accounts are those by address, with the modules last, and tell all accounts apart.
use Rattle.std.proofs.Common.{◌≡◌, refl, sym, ap, Bool, Ordering}
use Rattle.std.proofs.lemmas.Map.{Lookups.{CmpEqualImpliesEq, exact_bytes}, Text.is_eq-slice_cmp}
use Rattle.std.specs.BTreeMap.{is_at}
use Rattle.base_types.specs.declared.account.Account.{Account}
use Rattle.base_types.specs.declared.account.Module.TheVariants.{FeeCollector, Bonded, NotBonded, Distribution}
use Rattle.base_types.specs.contracts.account.AccountOrd.TheImpl.{ghosts}
use Rattle.base_types.specs.contracts.account.AccountPartialEq.TheImpl.{ghosts as equal_ghosts}
use Rattle.base_types.specs.Orders.{account_cmp}
use Rattle.base_types.specs.declared.account.Account.TheVariants as account

-- what `cmp` of two accounts answers
abbrev pub account_order : Account → Account → Ordering
account_order a b = ghosts.cmp a b

pub account_order_at : (a b : Account) → account_order a b ≡ account_cmp a b
account_order_at (account.User a) (account.User b) = refl
account_order_at (account.User a) (account.Module n) = refl
account_order_at (account.Module m) (account.User b) = refl
account_order_at (account.Module FeeCollector) (account.Module FeeCollector) = refl
account_order_at (account.Module FeeCollector) (account.Module Bonded) = refl
account_order_at (account.Module FeeCollector) (account.Module NotBonded) = refl
account_order_at (account.Module FeeCollector) (account.Module Distribution) = refl
account_order_at (account.Module Bonded) (account.Module FeeCollector) = refl
account_order_at (account.Module Bonded) (account.Module Bonded) = refl
account_order_at (account.Module Bonded) (account.Module NotBonded) = refl
account_order_at (account.Module Bonded) (account.Module Distribution) = refl
account_order_at (account.Module NotBonded) (account.Module FeeCollector) = refl
account_order_at (account.Module NotBonded) (account.Module Bonded) = refl
account_order_at (account.Module NotBonded) (account.Module NotBonded) = refl
account_order_at (account.Module NotBonded) (account.Module Distribution) = refl
account_order_at (account.Module Distribution) (account.Module FeeCollector) = refl
account_order_at (account.Module Distribution) (account.Module Bonded) = refl
account_order_at (account.Module Distribution) (account.Module NotBonded) = refl
account_order_at (account.Module Distribution) (account.Module Distribution) = refl

pub account_order-account_cmp : account_order ≡ account_cmp
account_order-account_cmp = λ i. λ a b. account_order_at a b i

-- what `==` of two accounts answers
abbrev pub account_equal : Account → Account → Bool
account_equal a b = equal_ghosts.eq a b

pub account_equal_at : (a b : Account) → account_equal a b ≡ is_at (account_cmp a) b
account_equal_at (account.User a) (account.User b) = sym (is_eq-slice_cmp a b)
account_equal_at (account.User a) (account.Module n) = refl
account_equal_at (account.Module m) (account.User b) = refl
account_equal_at (account.Module FeeCollector) (account.Module FeeCollector) = refl
account_equal_at (account.Module FeeCollector) (account.Module Bonded) = refl
account_equal_at (account.Module FeeCollector) (account.Module NotBonded) = refl
account_equal_at (account.Module FeeCollector) (account.Module Distribution) = refl
account_equal_at (account.Module Bonded) (account.Module FeeCollector) = refl
account_equal_at (account.Module Bonded) (account.Module Bonded) = refl
account_equal_at (account.Module Bonded) (account.Module NotBonded) = refl
account_equal_at (account.Module Bonded) (account.Module Distribution) = refl
account_equal_at (account.Module NotBonded) (account.Module FeeCollector) = refl
account_equal_at (account.Module NotBonded) (account.Module Bonded) = refl
account_equal_at (account.Module NotBonded) (account.Module NotBonded) = refl
account_equal_at (account.Module NotBonded) (account.Module Distribution) = refl
account_equal_at (account.Module Distribution) (account.Module FeeCollector) = refl
account_equal_at (account.Module Distribution) (account.Module Bonded) = refl
account_equal_at (account.Module Distribution) (account.Module NotBonded) = refl
account_equal_at (account.Module Distribution) (account.Module Distribution) = refl

-- ---- accounts that compare equal are one

pub account_exact : CmpEqualImpliesEq account_cmp
account_exact (account.User a) (account.User b) e = ap account.User (exact_bytes a b e)
account_exact (account.User a) (account.Module n) e = absurd cc
account_exact (account.Module m) (account.User b) e = absurd cc
account_exact (account.Module FeeCollector) (account.Module FeeCollector) e = refl
account_exact (account.Module Bonded) (account.Module Bonded) e = refl
account_exact (account.Module NotBonded) (account.Module NotBonded) e = refl
account_exact (account.Module Distribution) (account.Module Distribution) e = refl
account_exact (account.Module m) (account.Module n) e = absurd cc
