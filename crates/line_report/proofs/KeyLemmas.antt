-- The orders in which maps keep balances and redelegations are those of their definitions.
use Rattle.std.proofs.Common.{◌≡◌, ℕ, List, refl, subst, Ordering, Less, Equal, Greater}
use Rattle.std.specs.{BTreeMap.insert_entry, Ordering.ordering_then}
use Rattle.base_types.specs.{declared.account.Account.Account, Orders.addr_cmp}
use Rattle.base_roles.{proofs.HoldingLemmas.{place_order, place_order_is}, specs.Orders.{place_cmp, triple_cmp}}

pub balance_put : (es new : List ((Account × List ℕ) × ℕ)) (e : (Account × List ℕ) × ℕ) → new ≡ insert_entry place_order es e.0 e.1 → new ≡ insert_entry place_cmp es e.0 e.1
balance_put es new e h = subst (λ order. new ≡ insert_entry order es e.0 e.1) place_order_is h

-- three addresses, the first two before the third
abbrev triple_order : List ℕ × List ℕ × List ℕ → List ℕ × List ℕ × List ℕ → Ordering
triple_order x y = ordering_then (ordering_then (addr_cmp x.0 y.0) (addr_cmp x.1 y.1)) (addr_cmp x.2 y.2)

then_again : (a b c : Ordering) → ordering_then (ordering_then a b) c ≡ ordering_then a (ordering_then b c)
then_again Less b c = refl
then_again Equal b c = refl
then_again Greater b c = refl

triple_order_is : triple_order ≡ triple_cmp
triple_order_is = λ i. λ x y. then_again (addr_cmp x.0 y.0) (addr_cmp x.1 y.1) (addr_cmp x.2 y.2) i

pub triple_put : {X : Type 0} (es new : List ((List ℕ × List ℕ × List ℕ) × X)) (e : (List ℕ × List ℕ × List ℕ) × X) → new ≡ insert_entry triple_order es e.0 e.1 → new ≡ insert_entry triple_cmp es e.0 e.1
triple_put es new e h = subst (λ order. new ≡ insert_entry order es e.0 e.1) triple_order_is h
