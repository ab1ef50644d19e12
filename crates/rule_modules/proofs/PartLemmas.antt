-- Parts of an amount, and whole coins in units of 10^-18, number by number.
use Rattle.std.proofs.Common.{◌≡◌, ℕ, ◌+◌, ◌-◌, ◌*◌, ◌^◌, ◌<◌, ◌≤◌, Bool, true, false, cond, List, [], ◌∷◌, Some, Ok, Err, refl, sym, ap, subst, arith, nat_lt, mul-le-mul_right, le_of_mul-le-mul_right, unwrap_or, if◌then◌else◌}
use Rattle.std.specs.{BTreeMap.is_at, Map.lookup}
use Rattle.base_decimals.specs.{declared.over.Over.Over, Decimals.{below, digits_36, mul_cut_of, quo_cut_of}}
use Rattle.base_decimals.specs.Rounding.{cut}
use Rattle.base_shares.proofs.Roundings.{cut_low, cut_high}
use Rattle.base_types.specs.Orders.{denom_cmp}
use Rattle.base_coins.{specs.Coins.{Money, amount_of}, proofs.Order.{Above, same_name, amount-above}}
use Rattle.base_coins.proofs.Amounts.{is_equal}
use Rattle.rule_modules.specs.Amounts.{in_units}

-- what is below the limit is given
pub below_value : (e : Over) (n m : ℕ) → below e n ≡ Ok m → m ≡ n
below_value e n m h = by (nat_lt n (10 ^ 38)) h
  where
    by : (b : Bool) → (if b then Ok n else Err e) ≡ Ok m → m ≡ n
    by true k = cc
    by false k = absurd cc

-- the part of a power in all power, cut from 36 digits
pub part_low : (power total part : ℕ) → 0 < total → quo_cut_of (power * 10 ^ 18) (total * 10 ^ 18) ≡ Ok part → part * total ≤ power * 10 ^ 18
part_low power total part some e =
    let digits : ℕ = digits_36 (power * 10 ^ 18) (total * 10 ^ 18) in
    let is : part ≡ cut digits (10 ^ 18) = below_value _ (cut digits (10 ^ 18)) part e in
    let one : cut digits (10 ^ 18) * 10 ^ 18 ≤ digits = cut_low digits (10 ^ 18) (omega arith) in
    let two : digits * (total * 10 ^ 18) ≤ power * 10 ^ 18 * 10 ^ 36 = cut_low (power * 10 ^ 18 * 10 ^ 36) (total * 10 ^ 18) (omega (arith, some)) in
    let three : part * 10 ^ 18 * total ≤ digits * total = mul-le-mul_right total (omega (arith, is, one)) in
    omega (arith, two, three)

pub part_high : (power total part : ℕ) → 0 < total → quo_cut_of (power * 10 ^ 18) (total * 10 ^ 18) ≡ Ok part → power * 10 ^ 18 ≤ part * total + total
part_high power total part some e =
    let digits : ℕ = digits_36 (power * 10 ^ 18) (total * 10 ^ 18) in
    let is : part ≡ cut digits (10 ^ 18) = below_value _ (cut digits (10 ^ 18)) part e in
    let one : digits < cut digits (10 ^ 18) * 10 ^ 18 + 10 ^ 18 = cut_high digits (10 ^ 18) (omega arith) in
    let two : power * 10 ^ 18 * 10 ^ 36 < digits * (total * 10 ^ 18) + total * 10 ^ 18 = cut_high (power * 10 ^ 18 * 10 ^ 36) (total * 10 ^ 18) (omega (arith, some)) in
    let three : (digits + 1) * total ≤ (part * 10 ^ 18 + 10 ^ 18) * total = mul-le-mul_right total (omega (arith, is, one)) in
    omega (arith, two, three)

-- a share is within its part of the base
pub share_low : (base part share : ℕ) → mul_cut_of base part ≡ Ok share → share * 10 ^ 18 ≤ base * part
share_low base part share e =
    let is : share ≡ cut (base * part) (10 ^ 18) = below_value _ (cut (base * part) (10 ^ 18)) share e in
    let one : cut (base * part) (10 ^ 18) * 10 ^ 18 ≤ base * part = cut_low (base * part) (10 ^ 18) (omega arith) in
    omega (arith, is, one)

pub share_high : (base part share : ℕ) → mul_cut_of base part ≡ Ok share → base * part ≤ share * 10 ^ 18 + 10 ^ 18
share_high base part share e =
    let is : share ≡ cut (base * part) (10 ^ 18) = below_value _ (cut (base * part) (10 ^ 18)) share e in
    let one : base * part < cut (base * part) (10 ^ 18) * 10 ^ 18 + 10 ^ 18 = cut_high (base * part) (10 ^ 18) (omega arith) in
    omega (arith, is, one)

-- what is left covers the other votes, and this share
pub left_covers : (base left share power rest total : ℕ) → 0 < total → share * total ≤ base * power → base * (power + rest) ≤ left * total → (share ≤ left) × (base * rest ≤ (left - share) * total)
left_covers base left share power rest total some p q =
    let within : share ≤ left = le_of_mul-le-mul_right (omega (arith, p, q)) some in (
      within,
      covers (left - share) (apart left share within),
    )
  where
    apart : (a b : ℕ) → b ≤ a → a ≡ (a - b) + b
    apart a b l = omega (arith, l)

    covers : (d : ℕ) → left ≡ d + share → base * rest ≤ d * total
    covers d e = let whole : left * total ≡ (d + share) * total = ap (λ n. n * total) e in omega (arith, p, q, whole)

pub share_within : (base part share power total : ℕ) → part * total ≤ power * 10 ^ 18 → share * 10 ^ 18 ≤ base * part → share * total ≤ base * power
share_within base part share power total p q =
    let one : share * 10 ^ 18 * total ≤ base * part * total = mul-le-mul_right total q in
    let two : part * total * base ≤ power * 10 ^ 18 * base = mul-le-mul_right base p in
    omega (arith, one, two)

-- ---- whole coins

pub amount_in_units : (d : List ℕ) (x : Money) → amount_of (in_units x) d ≡ amount_of x d * 10 ^ 18
amount_in_units d [] = refl
amount_in_units d (c ∷ cs) = by (is_at (denom_cmp d) c.0) (amount_in_units d cs)
  where
    by : (b : Bool) → unwrap_or (lookup (is_at (denom_cmp d)) (in_units cs)) 0 ≡ unwrap_or (lookup (is_at (denom_cmp d)) cs) 0 * 10 ^ 18
        → unwrap_or (cond b (Some (c.1 * 10 ^ 18)) (lookup (is_at (denom_cmp d)) (in_units cs))) 0 ≡ unwrap_or (cond b (Some c.1) (lookup (is_at (denom_cmp d)) cs)) 0 * 10 ^ 18
    by true h = refl
    by false h = h

-- the amounts behind the first coin are no greater than those of all
pub rest_within : (c : List ℕ × ℕ) (cs : Money) (d : List ℕ) → Above c.0 cs → amount_of cs d ≤ amount_of (c ∷ cs) d
rest_within c cs d a = by (is_at (denom_cmp d) c.0) refl
  where
    by : (b : Bool) → is_at (denom_cmp d) c.0 ≡ b → amount_of cs d ≤ unwrap_or (cond b (Some c.1) (lookup (is_at (denom_cmp d)) cs)) 0
    by false e = omega arith
    by true e =
        let none : amount_of cs d ≡ 0 = subst (λ x. amount_of cs x ≡ 0) (sym (same_name d c.0 (is_equal d c.0 e))) (amount-above c.0 cs a) in
        omega (arith, none)
