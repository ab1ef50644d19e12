-- The orders of the keys: they are total, and tell all keys apart.
use Rattle.std.proofs.Common.{◌≡◌, ℕ, ◌&&◌, true, List, is_eq, sym, ap}
use Rattle.std.specs.{Cmp.{IsTotalOrder, tied_itself, tied_then, on_total, then_total, eq_by_cmp_equiv}, BTreeMap.is_at}
use Rattle.std.proofs.lemmas.{Cmp.nat_list_cmp_total, Map.Lookups.exact_bytes}
use Rattle.base_types.specs.Orders.{addr_cmp, cons_cmp}
use Rattle.base_roles.specs.Orders.{pair_cmp, same_addr}
pub use Rattle.base_types.proofs.MapLemmas.{equal}

pub addr_total : IsTotalOrder addr_cmp
addr_total = nat_list_cmp_total

pub cons_total : IsTotalOrder cons_cmp
cons_total = nat_list_cmp_total

pub pair_total : IsTotalOrder pair_cmp
pair_total = then_total (on_total (λ (t : List ℕ × List ℕ). t.0) addr_total) (on_total (λ (t : List ℕ × List ℕ). t.1) addr_total)

pub same_is : (a b : List ℕ) → same_addr a b ≡ true → a ≡ b
same_is a b h = exact_bytes a b (equal _ h)

pub same_itself : (a : List ℕ) → same_addr a a ≡ true
same_itself a = ap is_eq (tied_itself addr_total a)

pub same_back : (a b : List ℕ) → same_addr a b ≡ same_addr b a
same_back a b = (eq_by_cmp_equiv addr_total).symm a b

-- a delegation is found where both its operator and its delegator are
pub pair_found : (o p a b : List ℕ) → is_at (pair_cmp (o, a)) (p, b) ≡ (same_addr o p && same_addr a b)
pair_found o p a b = sym (tied_then (addr_cmp o p) (addr_cmp a b))
