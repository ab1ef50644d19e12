-- The orders in which maps keep places and keys of three addresses are those of their definitions.
use Rattle.std.proofs.Common.{◌≡◌, ℕ, List, refl, ap, Ordering, Less, Equal, Greater}
use Rattle.std.specs.Ordering.{ordering_then}
use Rattle.base_types.specs.{declared.account.Account.Account, Orders.addr_cmp}
use Rattle.base_roles.{specs.Orders.{place_cmp, triple_cmp}, proofs.HoldingLemmas.{place_order, place_order_is}}
use Rattle.store_records.specs.Gathering.{with_new}

pub balance_new : (es : List ((Account × List ℕ) × ℕ)) (place : Account × List ℕ) (n : ℕ) → with_new place_order es place n ≡ with_new place_cmp es place n
balance_new es place n = ap (λ order. with_new order es place n) place_order_is

-- three addresses, the first two before the third
abbrev pub triple_order : List ℕ × List ℕ × List ℕ → List ℕ × List ℕ × List ℕ → Ordering
triple_order x y = ordering_then (ordering_then (addr_cmp x.0 y.0) (addr_cmp x.1 y.1)) (addr_cmp x.2 y.2)

then_again : (a b c : Ordering) → ordering_then (ordering_then a b) c ≡ ordering_then a (ordering_then b c)
then_again Less b c = refl
then_again Equal b c = refl
then_again Greater b c = refl

triple_order_is : triple_order ≡ triple_cmp
triple_order_is = λ i. λ x y. then_again (addr_cmp x.0 y.0) (addr_cmp x.1 y.1) (addr_cmp x.2 y.2) i

pub triple_new : {X : Type 0} (es : List ((List ℕ × List ℕ × List ℕ) × X)) (key : List ℕ × List ℕ × List ℕ) (x : X) → with_new triple_order es key x ≡ with_new triple_cmp es key x
triple_new es key x = ap (λ order. with_new order es key x) triple_order_is
