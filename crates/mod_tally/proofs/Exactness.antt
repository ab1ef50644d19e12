-- The totals lie less than a unit for each value from the exact ones.
use Rattle.std.proofs.Math.Nat.{mul-le-mul_right, le_of_mul-le-mul_right, lt_of_mul-lt-mul_right}
use Rattle.std.proofs.lemmas.{Bool.{cases_lt, false≢true}, List.Elements.recursion_from_All}
use Rattle.std.specs.{List.AllByRecursion, Map.values_of}
use Rattle.std.proofs.Common.{◌≡◌, ◌∙◌, ℕ, ◌+◌, ◌-◌, ◌*◌, ◌^◌, ◌<◌, ◌≤◌, Bool, true, false, cond, List, [], ◌∷◌, length, inl, inr, refl, sym, ap, subst, arith, ◌&&◌, nat_lt, filter, sum_by}
use Rattle.base_decimals.specs.Fractions.{Fraction, fraction_of}
use Rattle.base_shares.specs.Burns.{plus, ratio_of}
use Rattle.base_roles.specs.{declared.entities.Validator.Validator, Entries.sum_where, Orders.same_addr}
use Rattle.base_roles.specs.Staked.{Staked, is_bonded, tokens_where}
use Rattle.mod_tally.specs.{declared.choice.Choice.Choice, Ballots.{Chosen, is_for}}
use Rattle.mod_tally.specs.Exact.{DifferBelow, exact_at, exact_of, exact_value, given_to, sum_exact, values_for, values_of_total}
use Rattle.mod_tally.specs.{Laws.TotalsAreNearExact, Taken.CanBeTallied}
use Rattle.mod_tally.specs.Tally.{Delegations, counted_of, counts, delegations_to, from_delegators, from_operator, shares_in, shares_left, stake_for, those_cast, those_for, total_of}
use Rattle.mod_tally.proofs.Nearness.{IsNear, near_both, near_if, near_most, near_values}
use Rattle.mod_tally.proofs.{Parts.{cast_within, counts_some, delegated_is, for_within, given_is}, Sums.sum_next}

-- ---- near a fraction

-- A total of n values is near a fraction.
pub record IsNearTo (n total : ℕ) (q : Fraction) : Type 0 where
  pub some : 0 < q.denominator
  pub up : total * q.denominator ≤ q.numerator * 10 ^ 18 + n * q.denominator
  pub down : q.numerator * 10 ^ 18 ≤ total * q.denominator + n * q.denominator
  pub below : 0 < n → total * q.denominator < q.numerator * 10 ^ 18 + n * q.denominator
  pub above : 0 < n → q.numerator * 10 ^ 18 < total * q.denominator + n * q.denominator

-- so the two differ by less than so many units
near_differ : (n total : ℕ) (q : Fraction) → IsNearTo n total q → DifferBelow n (fraction_of total) q
near_differ n total q h = record {
  low = omega (arith, h.up);
  high = omega (arith, h.down);
  below = λ some. let less : total * q.denominator < q.numerator * 10 ^ 18 + n * q.denominator = h.below some in omega arith;
  above = λ some. let less : q.numerator * 10 ^ 18 < total * q.denominator + n * q.denominator = h.above some in omega arith;
}

near_shares : (t x n total shares : ℕ) → 0 < x → IsNear t x n total shares → IsNearTo n total (ratio_of (shares * t) x)
near_shares t x n total shares some h =
    let up : total * x + n ≤ shares * t * 10 ^ 18 + n * x = h.up in
    let down : shares * t * 10 ^ 18 + n ≤ total * x + n * x = h.down in
    record { some = some; up = omega arith; down = omega arith; below = λ more. omega arith; above = λ more. omega arith }

-- the same of an equal fraction
equal_of : (n total pn pd qn qd : ℕ) → pn * qd ≡ qn * pd → 0 < qd → IsNearTo n total (ratio_of pn pd) → IsNearTo n total (ratio_of qn qd)
equal_of n total pn pd qn qd e some h =
    let have : 0 < pd = h.some in
    let up : (total * pd) * qd ≤ (pn * 10 ^ 18 + n * pd) * qd = mul-le-mul_right qd h.up in
    let up2 : (total * qd) * pd ≤ (qn * 10 ^ 18 + n * qd) * pd = omega arith in
    let down : (pn * 10 ^ 18) * qd ≤ (total * pd + n * pd) * qd = mul-le-mul_right qd h.down in
    let down2 : (qn * 10 ^ 18) * pd ≤ (total * qd + n * qd) * pd = omega arith in
    record {
      some = some;
      up = le_of_mul-le-mul_right up2 have;
      down = le_of_mul-le-mul_right down2 have;
      below = λ more.
          let strict : total * pd < pn * 10 ^ 18 + n * pd = h.below more in
          let less : total * pd + 1 ≤ pn * 10 ^ 18 + n * pd = omega (arith, strict) in
          let scaled : (total * pd + 1) * qd ≤ (pn * 10 ^ 18 + n * pd) * qd = mul-le-mul_right qd less in
          let turned : (total * qd) * pd < (qn * 10 ^ 18 + n * qd) * pd = omega arith in
          lt_of_mul-lt-mul_right pd turned;
      above = λ more.
          let strict : pn * 10 ^ 18 < total * pd + n * pd = h.above more in
          let less : pn * 10 ^ 18 + 1 ≤ total * pd + n * pd = omega (arith, strict) in
          let scaled : (pn * 10 ^ 18 + 1) * qd ≤ (total * pd + n * pd) * qd = mul-le-mul_right qd less in
          let turned : (qn * 10 ^ 18) * pd < (total * qd + n * qd) * pd = omega arith in
          lt_of_mul-lt-mul_right pd turned;
    }

positive_product : (a b : ℕ) → 0 < a → 0 < b → 0 < a * b
positive_product a b h k =
    let scaled : 1 * b ≤ a * b = mul-le-mul_right b h in
    omega arith

-- two totals together
sum_of : (m n a b pn pd qn qd : ℕ) → IsNearTo m a (ratio_of pn pd) → IsNearTo n b (ratio_of qn qd) → IsNearTo (m + n) (a + b) (ratio_of (pn * qd + qn * pd) (pd * qd))
sum_of m n a b pn pd qn qd h k =
    let p : 0 < pd = h.some in
    let q : 0 < qd = k.some in
    let up : (a * pd) * qd ≤ (pn * 10 ^ 18 + m * pd) * qd = mul-le-mul_right qd h.up in
    let up2 : (b * qd) * pd ≤ (qn * 10 ^ 18 + n * qd) * pd = mul-le-mul_right pd k.up in
    let down : (pn * 10 ^ 18) * qd ≤ (a * pd + m * pd) * qd = mul-le-mul_right qd h.down in
    let down2 : (qn * 10 ^ 18) * pd ≤ (b * qd + n * qd) * pd = mul-le-mul_right pd k.down in
    record {
      some = positive_product pd qd p q;
      up = omega arith;
      down = omega arith;
      below = λ more. elim (cases_lt 0 m) [
        | inl first ↦
            let strict : a * pd < pn * 10 ^ 18 + m * pd = h.below first in
            let less : a * pd + 1 ≤ pn * 10 ^ 18 + m * pd = omega (arith, strict) in
            let scaled : (a * pd + 1) * qd ≤ (pn * 10 ^ 18 + m * pd) * qd = mul-le-mul_right qd less in
            omega arith
        | inr none ↦
            let second : 0 < n = omega arith in
            let strict : b * qd < qn * 10 ^ 18 + n * qd = k.below second in
            let less : b * qd + 1 ≤ qn * 10 ^ 18 + n * qd = omega (arith, strict) in
            let scaled : (b * qd + 1) * pd ≤ (qn * 10 ^ 18 + n * qd) * pd = mul-le-mul_right pd less in
            omega arith
      ];
      above = λ more. elim (cases_lt 0 m) [
        | inl first ↦
            let strict : pn * 10 ^ 18 < a * pd + m * pd = h.above first in
            let less : pn * 10 ^ 18 + 1 ≤ a * pd + m * pd = omega (arith, strict) in
            let scaled : (pn * 10 ^ 18 + 1) * qd ≤ (a * pd + m * pd) * qd = mul-le-mul_right qd less in
            omega arith
        | inr none ↦
            let second : 0 < n = omega arith in
            let strict : qn * 10 ^ 18 < b * qd + n * qd = k.above second in
            let less : qn * 10 ^ 18 + 1 ≤ b * qd + n * qd = omega (arith, strict) in
            let scaled : (qn * 10 ^ 18 + 1) * pd ≤ (b * qd + n * qd) * pd = mul-le-mul_right pd less in
            omega arith
      ];
    }

near_plus : (m n a b : ℕ) (p q : Fraction) → IsNearTo m a p → IsNearTo n b q → IsNearTo (m + n) (a + b) (plus p q)
near_plus m n a b p q h k = sum_of m n a b p.numerator p.denominator q.numerator q.denominator h k

near_zero : IsNearTo 0 0 (ratio_of 0 1)
near_zero = record { some = omega arith; up = omega arith; down = omega arith; below = λ more. omega arith; above = λ more. omega arith }

near_named : (m n a b : ℕ) (q : Fraction) → m ≡ n → a ≡ b → IsNearTo m a q → IsNearTo n b q
near_named m n a b q e f h = subst (λ (z : ℕ). IsNearTo n z q) f (subst (λ (z : ℕ). IsNearTo z a q) e h)

pub counts_bonded : (v : Validator) → counts v ≡ true → is_bonded v.status ≡ true
counts_bonded v h = by (is_bonded v.status) h
  where
    by : (b : Bool) → (b && nat_lt 0 v.shares) ≡ true → b ≡ true
    by true k = refl
    by false k = k

-- ---- at one validator

-- the exact value of delegations is that of their shares together
pub record IsWorth (v : Validator) (ds : Delegations) : Type 0 where
  pub some : 0 < (sum_exact (exact_value v) ds).denominator
  pub is : (sum_exact (exact_value v) ds).numerator * v.shares ≡ (shares_in ds * v.tokens) * (sum_exact (exact_value v) ds).denominator

worth_step : (part shares t x qn qd : ℕ) → qn * x ≡ (shares * t) * qd → (part * t * qd + qn * x) * x ≡ ((part + shares) * t) * (x * qd)
worth_step part shares t x qn qd e =
    let scaled : (qn * x) * x ≡ ((shares * t) * qd) * x = ap (λ n. n * x) e in
    omega arith

worth_all : (v : Validator) (ds : Delegations) → 0 < v.shares → IsWorth v ds
worth_all v [] some = record { some = omega arith; is = omega arith }
worth_all v (d ∷ ds) some =
    let q : Fraction = sum_exact (exact_value v) ds in
    let later : IsWorth v ds = worth_all v ds some in
    record {
      some = positive_product v.shares q.denominator some later.some;
      is =
          worth_step d.1 (shares_in ds) v.tokens v.shares q.numerator q.denominator later.is
          ∙ ap (λ n. (n * v.tokens) * (v.shares * q.denominator)) (sym (sum_next (λ e. e.1) d ds));
    }

-- a validator of the shares of its delegations
pub record IsFull (ds : Delegations) (v : Validator) : Type 0 where
  pub shares : v.shares ≡ shares_in (delegations_to v.operator ds)

module _ (chosen : Chosen) (c : Choice) (ds : Delegations) where
  -- the shares that are given to the choice
  abbrev given : Validator → ℕ
  given v = shares_in (given_to chosen c (delegations_to v.operator ds))

  stake_near : (v : Validator) → 0 < v.shares → IsFull ds v → IsNear v.tokens v.shares (values_for chosen c ds v) (stake_for chosen c ds v) (given v)
  stake_near v some full =
      let voters : IsNear v.tokens v.shares (length (those_for chosen c (delegations_to v.operator ds))) (from_delegators chosen c ds v) (shares_in (those_for chosen c (delegations_to v.operator ds)))
      = near_values v.tokens v.shares (those_for chosen c (delegations_to v.operator ds)) some in
      let own : IsNear v.tokens v.shares (cond (is_for (chosen v.operator) c) 1 0) (from_operator chosen c ds v) (cond (is_for (chosen v.operator) c) (shares_left chosen ds v) 0)
      = near_if v.tokens v.shares (shares_left chosen ds v) (is_for (chosen v.operator) c) some in
      subst (IsNear v.tokens v.shares (values_for chosen c ds v) (stake_for chosen c ds v)) (given_is chosen c v.operator ds v.shares full.shares)
      (near_both v.tokens v.shares (length (those_for chosen c (delegations_to v.operator ds))) (cond (is_for (chosen v.operator) c) 1 0) (from_delegators chosen c ds v) (from_operator chosen c ds v)
      (shares_in (those_for chosen c (delegations_to v.operator ds))) (cond (is_for (chosen v.operator) c) (shares_left chosen ds v) 0) voters own)

  -- the exact value of what is given at one validator
  abbrev exact_here : Validator → Fraction
  exact_here v = exact_at chosen c ds v

  stake_exact : (v : Validator) → 0 < v.shares → IsFull ds v → IsNearTo (values_for chosen c ds v) (stake_for chosen c ds v) (exact_here v)
  stake_exact v some full =
      let worth : IsWorth v (given_to chosen c (delegations_to v.operator ds)) = worth_all v (given_to chosen c (delegations_to v.operator ds)) some in
      equal_of (values_for chosen c ds v) (stake_for chosen c ds v) (given v * v.tokens) v.shares (exact_here v).numerator (exact_here v).denominator (sym worth.is) worth.some
      (near_shares v.tokens v.shares (values_for chosen c ds v) (stake_for chosen c ds v) (given v) some (stake_near v some full))

  given_within : (v : Validator) → IsFull ds v → given v ≤ v.shares
  given_within v full = by (is_for (chosen v.operator) c) (given_is chosen c v.operator ds v.shares full.shares)
    where
      by : (b : Bool) → shares_in (those_for chosen c (delegations_to v.operator ds)) + cond b (shares_left chosen ds v) 0 ≡ given v → given v ≤ v.shares
      by true e = omega (arith, e, for_within chosen c v.operator ds, cast_within chosen c v.operator ds, full.shares)
      by false e = omega (arith, e, for_within chosen c v.operator ds, cast_within chosen c v.operator ds, full.shares)

  -- ---- over all validators

  abbrev Full : List (List ℕ × Validator) → Type 0
  Full es = AllByRecursion (λ (e : List ℕ × Validator). IsFull ds e.1) es

  totals_exact : (es : List (List ℕ × Validator)) → Full es
      → IsNearTo (sum_by (values_for chosen c ds) (filter counts (values_of es))) (sum_by (stake_for chosen c ds) (filter counts (values_of es))) (sum_exact exact_here (filter counts (values_of es)))
  totals_exact [] h = near_zero
  totals_exact (e ∷ es) h = by (counts e.1) refl (totals_exact es h.1)
    where
      by : (b : Bool) → counts e.1 ≡ b
          → IsNearTo (sum_by (values_for chosen c ds) (filter counts (values_of es))) (sum_by (stake_for chosen c ds) (filter counts (values_of es))) (sum_exact exact_here (filter counts (values_of es)))
          → IsNearTo (sum_by (values_for chosen c ds) (cond b (e.1 ∷ filter counts (values_of es)) (filter counts (values_of es))))
          (sum_by (stake_for chosen c ds) (cond b (e.1 ∷ filter counts (values_of es)) (filter counts (values_of es))))
          (sum_exact exact_here (cond b (e.1 ∷ filter counts (values_of es)) (filter counts (values_of es))))
      by true is later =
          near_named (values_for chosen c ds e.1 + sum_by (values_for chosen c ds) (filter counts (values_of es))) (sum_by (values_for chosen c ds) (e.1 ∷ filter counts (values_of es)))
          (stake_for chosen c ds e.1 + sum_by (stake_for chosen c ds) (filter counts (values_of es))) (sum_by (stake_for chosen c ds) (e.1 ∷ filter counts (values_of es)))
          (plus (exact_here e.1) (sum_exact exact_here (filter counts (values_of es))))
          (sym (sum_next (values_for chosen c ds) e.1 (filter counts (values_of es)))) (sym (sum_next (stake_for chosen c ds) e.1 (filter counts (values_of es))))
          (near_plus (values_for chosen c ds e.1) (sum_by (values_for chosen c ds) (filter counts (values_of es))) (stake_for chosen c ds e.1) (sum_by (stake_for chosen c ds) (filter counts (values_of es)))
          (exact_here e.1) (sum_exact exact_here (filter counts (values_of es))) (stake_exact e.1 (counts_some e.1 is) h.0) later)
      by false is later = later

  -- a total is at most the bonded tokens, and a unit for each value
  pub totals_most : (es : List (List ℕ × Validator)) → Full es
      → sum_by (stake_for chosen c ds) (filter counts (values_of es)) ≤ tokens_where is_bonded es * 10 ^ 18 + sum_by (values_for chosen c ds) (filter counts (values_of es))
  totals_most [] h = omega arith
  totals_most (e ∷ es) h = by (is_bonded e.1.status) (counts e.1) refl (counts_bonded e.1) (totals_most es h.1)
    where
      most : counts e.1 ≡ true → stake_for chosen c ds e.1 ≤ e.1.tokens * 10 ^ 18 + values_for chosen c ds e.1
      most is =
          let some : 0 < e.1.shares = counts_some e.1 is in
          let full : IsFull ds e.1 = h.0 in
          let within : given e.1 ≤ e.1.shares = given_within e.1 full in
          near_most e.1.tokens e.1.shares (values_for chosen c ds e.1) (stake_for chosen c ds e.1) (given e.1) some within (stake_near e.1 some full)

      by : (bonded b : Bool) → counts e.1 ≡ b → (b ≡ true → bonded ≡ true)
          → sum_by (stake_for chosen c ds) (filter counts (values_of es)) ≤ tokens_where is_bonded es * 10 ^ 18 + sum_by (values_for chosen c ds) (filter counts (values_of es))
          → sum_by (stake_for chosen c ds) (cond b (e.1 ∷ filter counts (values_of es)) (filter counts (values_of es)))
          ≤ (cond bonded e.1.tokens 0 + tokens_where is_bonded es) * 10 ^ 18 + sum_by (values_for chosen c ds) (cond b (e.1 ∷ filter counts (values_of es)) (filter counts (values_of es)))
      by true true is k later =
          let one : stake_for chosen c ds e.1 ≤ e.1.tokens * 10 ^ 18 + values_for chosen c ds e.1 = most is in
          let a : sum_by (stake_for chosen c ds) (e.1 ∷ filter counts (values_of es)) ≡ stake_for chosen c ds e.1 + sum_by (stake_for chosen c ds) (filter counts (values_of es)) = sum_next (stake_for chosen c ds) e.1 (filter counts (values_of es)) in
          let b : sum_by (values_for chosen c ds) (e.1 ∷ filter counts (values_of es)) ≡ values_for chosen c ds e.1 + sum_by (values_for chosen c ds) (filter counts (values_of es)) = sum_next (values_for chosen c ds) e.1 (filter counts (values_of es)) in
          omega arith
      by false true is k later = absurd (false≢true (k refl))
      by true false is k later = omega arith
      by false false is k later = omega arith

-- ---- the law

told_full : (ds : Delegations) (es : List (List ℕ × Validator)) → AllByRecursion (λ (e : List ℕ × Validator). e.1.operator ≡ e.0) es
    → AllByRecursion (λ (e : List ℕ × Validator). e.1.shares ≡ sum_where (λ key. same_addr key.0 e.0) ds) es → AllByRecursion (λ (e : List ℕ × Validator). IsFull ds e.1) es
told_full ds [] named shares = tt
told_full ds (e ∷ es) named shares =
    let own : e.1.shares ≡ shares_in (delegations_to e.1.operator ds) = shares.0 ∙ delegated_is e.0 ds ∙ ap (λ o. shares_in (delegations_to o ds)) (sym named.0) in
    (record { shares = own }, told_full ds es named.1 shares.1)

-- the validators that a tally is over have the shares of their delegations
pub all_full : (s : Staked) → CanBeTallied s → AllByRecursion (λ (e : List ℕ × Validator). IsFull s.delegations e.1) s.validators
all_full s can =
    told_full s.delegations s.validators (recursion_from_All (λ (e : List ℕ × Validator). e.1.operator ≡ e.0) s.validators can.named)
    (recursion_from_All (λ (e : List ℕ × Validator). e.1.shares ≡ sum_where (λ key. same_addr key.0 e.0) s.delegations) s.validators can.shares)

pub totals_are_near_exact : TotalsAreNearExact
totals_are_near_exact = λ s chosen choice can.
    let near : IsNearTo (values_of_total s chosen choice) (total_of s chosen choice) (exact_of s chosen choice) = totals_exact chosen choice s.delegations s.validators (all_full s can) in
    record { some = near.some; differ = near_differ (values_of_total s chosen choice) (total_of s chosen choice) (exact_of s chosen choice) near }
