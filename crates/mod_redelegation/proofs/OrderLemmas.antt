-- The order of keys of three addresses: it is total, tells all keys apart, and is that in which tables keep them.
use Rattle.std.proofs.Common.{◌≡◌, ◌∙◌, ℕ, List, refl, Ordering, Less, Equal, Greater}
use Rattle.std.specs.{Cmp.{IsTotalOrder, on_total, then_total}, Ordering.ordering_then}
use Rattle.base_types.specs.Orders.{addr_cmp}
use Rattle.base_roles.specs.Orders.{triple_cmp}
use Rattle.rule_modules.proofs.OrderLemmas.{addr_total}
use Rattle.mod_entries.specs.Exact.{exact_triple}

abbrev pub Key : Type 0
Key = List ℕ × List ℕ × List ℕ

pub triple_total : IsTotalOrder triple_cmp
triple_total = then_total (on_total (λ (t : Key). t.0) addr_total) (then_total (on_total (λ (t : Key). t.1) addr_total) (on_total (λ (t : Key). t.2) addr_total))

-- the first two parts before the third
abbrev pub triple_order : Key → Key → Ordering
triple_order x y = ordering_then (ordering_then (addr_cmp x.0 y.0) (addr_cmp x.1 y.1)) (addr_cmp x.2 y.2)

then_again : (a b c : Ordering) → ordering_then (ordering_then a b) c ≡ ordering_then a (ordering_then b c)
then_again Less b c = refl
then_again Equal b c = refl
then_again Greater b c = refl

pub triple_order_is : triple_order ≡ triple_cmp
triple_order_is = λ i. λ x y. then_again (addr_cmp x.0 y.0) (addr_cmp x.1 y.1) (addr_cmp x.2 y.2) i

pub exact_key : (a b : Key) → triple_cmp a b ≡ Equal → a ≡ b
exact_key a b h = exact_triple a b (then_again (addr_cmp a.0 b.0) (addr_cmp a.1 b.1) (addr_cmp a.2 b.2) ∙ h)
