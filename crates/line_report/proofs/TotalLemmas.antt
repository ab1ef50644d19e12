-- The orders of keys are total, and tell all keys apart.
use Rattle.std.proofs.Common.{◌≡◌, ℕ, List, refl, Ordering, Less, Equal, Greater}
use Rattle.std.specs.{Cmp.{IsTotalOrder, on_total, then_total}, Ordering.ordering_then}
use Rattle.std.proofs.lemmas.Map.Lookups.{CmpEqualImpliesEq, exact_bytes, exact_pairs}
use Rattle.base_types.specs.Orders.{addr_cmp}
use Rattle.base_roles.specs.Orders.{pair_cmp, triple_cmp}
pub use Rattle.base_types.proofs.OrderLemmas.{account_exact}
pub use Rattle.base_roles.proofs.HoldingLemmas.{place_exact}
pub use Rattle.rule_modules.proofs.OrderLemmas.{addr_total, pair_total}

pub pair_exact : CmpEqualImpliesEq pair_cmp
pair_exact = exact_pairs addr_cmp addr_cmp exact_bytes exact_bytes

pub triple_total : IsTotalOrder triple_cmp
triple_total = then_total (on_total (λ (t : List ℕ × List ℕ × List ℕ). t.0) addr_total) (then_total (on_total (λ (t : List ℕ × List ℕ × List ℕ). t.1) addr_total) (on_total (λ (t : List ℕ × List ℕ × List ℕ). t.2) addr_total))

then_equal : (a b : Ordering) → ordering_then a b ≡ Equal → (a ≡ Equal) × (b ≡ Equal)
then_equal Less b e = absurd cc
then_equal Equal b e = (refl, e)
then_equal Greater b e = absurd cc

pub triple_exact : CmpEqualImpliesEq triple_cmp
triple_exact x y e =
    let front = then_equal (addr_cmp x.0 y.0) (ordering_then (addr_cmp x.1 y.1) (addr_cmp x.2 y.2)) e in
    let back = then_equal (addr_cmp x.1 y.1) (addr_cmp x.2 y.2) front.1 in
    λ i. (exact_bytes x.0 y.0 front.0 i, exact_bytes x.1 y.1 back.0 i, exact_bytes x.2 y.2 back.1 i)
