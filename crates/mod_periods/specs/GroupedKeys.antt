-- The keys of the tables are grouped by their operators.
use Rattle.std.specs.Prelude.{◌≡◌, ◌≢◌, ℕ, true, false, List, refl}
use Rattle.std.specs.declared.cmp.Ordering.{Ordering}
use Rattle.std.specs.declared.cmp.Ordering.TheVariants.{Less, Equal, Greater}
use Rattle.std.specs.Cmp.{IsTotalOrder}
use Rattle.std.specs.Ordering.{nat_cmp, ordering_then, ordering_reverse, is_eq, is_gt}
use Rattle.std.proofs.Common.{◌∙◌, ap, arith}
use Rattle.std.proofs.lemmas.Bool.Decides.{nat_tests}
use Rattle.std.proofs.lemmas.Cmp.{nat_list_cmp_total}
use Rattle.std.proofs.lemmas.Map.Lookups.{exact_bytes}
use Rattle.base_types.specs.Orders.{addr_cmp}
use Rattle.base_types.proofs.MapLemmas.{equal}
use Rattle.base_roles.specs.Orders.{same_addr}
use Rattle.mod_periods.specs.Grouped.{IsGrouped}
use Rattle.mod_periods.specs.Kept.{period_cmp, event_cmp}

addr_total : IsTotalOrder addr_cmp
addr_total = nat_list_cmp_total

equal_back : (a b : List ℕ) → addr_cmp a b ≡ Equal → addr_cmp b a ≡ Equal
equal_back a b h = addr_total.antisymm b a ∙ ap ordering_reverse h

-- no number is below 0
zero_first : (n : ℕ) → is_gt (nat_cmp 0 n) ≡ false
zero_first n = grind (arith, nat_tests)

not_above : (a b : Ordering) → is_gt (ordering_then a b) ≡ false → a ≢ Greater
not_above Less b h e = cc
not_above Equal b h e = cc
not_above Greater b h e = cc

-- a second part makes no answer Less that was Greater
not_above_less : (a b : Ordering) → ordering_then a b ≡ Less → a ≢ Greater
not_above_less Less b h e = cc
not_above_less Equal b h e = cc
not_above_less Greater b h e = cc

-- between two that are equal all are equal to them
between : (o x k : List ℕ) → addr_cmp o x ≢ Greater → addr_cmp x k ≢ Greater → addr_cmp k o ≡ Equal → addr_cmp x o ≡ Equal
between o x k low high same = by (addr_cmp o x) refl
  where
    by : (r : Ordering) → addr_cmp o x ≡ r → addr_cmp x o ≡ Equal
    by Less e = absurd (high (addr_total.antisymm x k ∙ ap ordering_reverse (addr_total.congr k o x same ∙ e)))
    by Equal e = equal_back o x e
    by Greater e = absurd (low e)

first_not : (a b : Ordering) → ordering_then a b ≢ Greater → a ≢ Greater
first_not Less b h e = cc
first_not Equal b h e = cc
first_not Greater b h e = h refl

first_equal : (a b : Ordering) → ordering_then a b ≡ Equal → a ≡ Equal
first_equal Less b h = cc
first_equal Equal b h = refl
first_equal Greater b h = cc

neither : (a b : Ordering) → is_gt a ≡ false → is_gt b ≡ false → is_gt (ordering_then a b) ≡ false
neither Less b g h = refl
neither Equal b g h = h
neither Greater b g h = cc

same_first : (operator other : List ℕ) → same_addr other operator ≡ true → is_gt (addr_cmp operator other) ≡ false
same_first operator other same = ap is_gt (equal_back other operator (equal _ same))

pub periods_are_grouped : IsGrouped period_cmp (λ key. key.0) (λ operator. (operator, 0))
periods_are_grouped = record {
  least = λ operator k same. neither (addr_cmp operator k.0) (nat_cmp 0 k.1) (same_first operator k.0 same) (zero_first k.1);
  together = λ operator x k low high same.
      ap is_eq (between operator x.0 k.0 (not_above (addr_cmp operator x.0) (nat_cmp 0 x.1) low) (not_above_less (addr_cmp x.0 k.0) (nat_cmp x.1 k.1) high) (equal _ same));
  alike = λ k x tie. exact_bytes k.0 x.0 (first_equal (addr_cmp k.0 x.0) (nat_cmp k.1 x.1) tie);
}

pub events_are_grouped : IsGrouped event_cmp (λ key. key.0) (λ operator. (operator, 0, 0))
events_are_grouped = record {
  least = λ operator k same.
      neither (ordering_then (addr_cmp operator k.0) (nat_cmp 0 k.1)) (nat_cmp 0 k.2)
      (neither (addr_cmp operator k.0) (nat_cmp 0 k.1) (same_first operator k.0 same) (zero_first k.1)) (zero_first k.2);
  together = λ operator x k low high same.
      ap is_eq (between operator x.0 k.0
      (first_not (addr_cmp operator x.0) (nat_cmp 0 x.1) (not_above (ordering_then (addr_cmp operator x.0) (nat_cmp 0 x.1)) (nat_cmp 0 x.2) low))
      (first_not (addr_cmp x.0 k.0) (nat_cmp x.1 k.1) (not_above_less (ordering_then (addr_cmp x.0 k.0) (nat_cmp x.1 k.1)) (nat_cmp x.2 k.2) high))
      (equal _ same));
  alike = λ k x tie. exact_bytes k.0 x.0 (first_equal (addr_cmp k.0 x.0) (nat_cmp k.1 x.1) (first_equal (ordering_then (addr_cmp k.0 x.0) (nat_cmp k.1 x.1)) (nat_cmp k.2 x.2) tie));
}
