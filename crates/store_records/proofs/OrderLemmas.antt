-- The orders of keys with periods, and of three addresses, are total.
use Rattle.std.specs.{Prelude.{ℕ, List}, Cmp.{IsTotalOrder, on_total, then_total, nat_cmp_total}}
use Rattle.base_roles.specs.Orders.{triple_cmp}
use Rattle.rule_modules.proofs.OrderLemmas.{addr_total}
use Rattle.store_records.specs.Plain.{period_cmp, event_cmp}

pub period_total : IsTotalOrder period_cmp
period_total = then_total (on_total (λ (t : List ℕ × ℕ). t.0) addr_total) (on_total (λ (t : List ℕ × ℕ). t.1) nat_cmp_total)

pub event_total : IsTotalOrder event_cmp
event_total = then_total (then_total (on_total (λ (t : List ℕ × ℕ × ℕ). t.0) addr_total) (on_total (λ (t : List ℕ × ℕ × ℕ). t.1) nat_cmp_total)) (on_total (λ (t : List ℕ × ℕ × ℕ). t.2) nat_cmp_total)

pub triple_total : IsTotalOrder triple_cmp
triple_total = then_total (on_total (λ (t : List ℕ × List ℕ × List ℕ). t.0) addr_total)
    (then_total (on_total (λ (t : List ℕ × List ℕ × List ℕ). t.1) addr_total) (on_total (λ (t : List ℕ × List ℕ × List ℕ). t.2) addr_total))
