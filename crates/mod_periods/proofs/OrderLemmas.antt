-- The orders of the keys of periods and of slash events: they are total, and tell all keys apart. Those of operators and
-- of delegations are passed on.
use Rattle.std.proofs.Common.{◌≡◌, ℕ, ◌==◌, ◌&&◌, List, nat_cmp, is_eq, sym, ◌∙◌, ap, arith}
use Rattle.std.specs.{Cmp.{IsTotalOrder, tied_then, on_total, then_total}, BTreeMap.is_at}
use Rattle.std.proofs.lemmas.{Bool.Decides.nat_tests, Cmp.nat_cmp_total}
use Rattle.base_types.specs.Orders.{addr_cmp}
use Rattle.base_roles.specs.Orders.{same_addr}
use Rattle.mod_periods.specs.Kept.{period_cmp, event_cmp}
pub use Rattle.base_types.proofs.MapLemmas.{equal}
pub use Rattle.rule_modules.proofs.OrderLemmas.{addr_total, pair_total, same_is, same_itself, pair_found}

pub period_total : IsTotalOrder period_cmp
period_total = then_total (on_total (λ (t : List ℕ × ℕ). t.0) addr_total) (on_total (λ (t : List ℕ × ℕ). t.1) nat_cmp_total)

pub event_total : IsTotalOrder event_cmp
event_total = then_total (then_total (on_total (λ (t : List ℕ × ℕ × ℕ). t.0) addr_total) (on_total (λ (t : List ℕ × ℕ × ℕ). t.1) nat_cmp_total)) (on_total (λ (t : List ℕ × ℕ × ℕ). t.2) nat_cmp_total)

pub same_number : (a b : ℕ) → is_eq (nat_cmp a b) ≡ (a == b)
same_number a b = grind (arith, nat_tests)

-- a key of a period is found where both parts are
pub period_found : (o p : _) (n m : ℕ) → is_at (period_cmp (o, n)) (p, m) ≡ (same_addr o p && (n == m))
period_found o p n m = sym (tied_then (addr_cmp o p) (nat_cmp n m)) ∙ ap (λ b. same_addr o p && b) (same_number n m)
