-- The part of a delegation that a slash takes.
use Rattle.std.proofs.Common.{◌≡◌, ◌∙◌, sym, ap, ℕ, ◌*◌, ◌^◌, ◌<◌, ◌≤◌, Bool, true, false, cond, List, Option, Some, None, refl, arith, ◌≢◌, ◌-◌, ◌==◌, Ok, Err, Result, min, nat_lt, unwrap_or}
use Rattle.std.proofs.lemmas.{Bool.Decides.nat_tests, Nat.mul-le}
use Rattle.base_decimals.specs.{declared.over.Over.Over, Decimals.{mul_even_of, mul_int_quo_int_of, quotient_over}}
use Rattle.base_decimals.specs.Rounding.{cut, even}
use Rattle.base_shares.proofs.Roundings.{cut_most, even_most}
use Rattle.base_roles.specs.{Staked.{Staked, delegation}, StakeChanges.HasShares}
use Rattle.rule_modules.specs.EntrySlashes.{part_left}

-- a factor of at most one of a decimal is no more than it
even_within : (a b : ℕ) → a ≤ 10 ^ 18 → even (a * b) (10 ^ 18) ≤ b
even_within a b p =
    let m : a * b ≤ 10 ^ 18 * b = mul-le a b (10 ^ 18) b p (omega arith) in
    even_most (a * b) (10 ^ 18) b (omega arith) (omega (arith, m))

-- so it is never over
pub mul_even_fits : (a b : ℕ) → a ≤ 10 ^ 18 → b < 10 ^ 38 → mul_even_of a b ≡ Ok (even (a * b) (10 ^ 18))
mul_even_fits a b p q = by (nat_lt (even (a * b) (10 ^ 18)) (10 ^ 38)) refl
  where
    by : (c : Bool) → nat_lt (even (a * b) (10 ^ 18)) (10 ^ 38) ≡ c → cond {A = Result ℕ Over} c (Ok (even (a * b) (10 ^ 18))) (Err (quotient_over a b (10 ^ 18))) ≡ Ok (even (a * b) (10 ^ 18))
    by true e = refl
    by false e = let m = even_within a b p in absurd (grind (arith, nat_tests, e, m, q))

-- what so many of no fewer are of a decimal is no more than it
cut_within : (a n m : ℕ) → 0 < m → n ≤ m → cut (a * n) m ≤ a
cut_within a n m some p = cut_most (a * n) m a some (mul-le a n a m (omega arith) p)

-- so it is never over
pub rest_fits : (a n m : ℕ) → 0 < m → n ≤ m → a < 10 ^ 38 → mul_int_quo_int_of a n m ≡ Ok (cut (a * n) m)
rest_fits a n m some p q = by (nat_lt (cut (a * n) m) (10 ^ 38)) refl
  where
    by : (c : Bool) → nat_lt (cut (a * n) m) (10 ^ 38) ≡ c → cond {A = Result ℕ Over} c (Ok (cut (a * n) m)) (Err (quotient_over a n m)) ≡ Ok (cut (a * n) m)
    by true e = refl
    by false e = let k = cut_within a n m some p in absurd (grind (arith, nat_tests, e, k, q))

-- ---- the shares that a slash takes, of what was lost before

module _ (factor given count lost : ℕ) where
  abbrev whole : ℕ
  whole = even (factor * given) (10 ^ 18)

  abbrev left_if : Bool → Result ℕ Over
  left_if b = cond b (Ok whole) (mul_int_quo_int_of whole (count - lost) count)

  pub left-none : (part : ℕ) → lost ≡ 0 → part ≡ whole → part_left factor given count lost ≡ Ok part
  left-none part e p = ap (λ n. left_if (n == 0)) e ∙ ap (λ n. Ok n) (sym p)

  pub left-some : (part rest : ℕ) → lost ≢ 0 → part ≡ whole → mul_int_quo_int_of part (count - lost) count ≡ Ok rest → part_left factor given count lost ≡ Ok rest
  left-some part rest h p q = by (lost == 0) refl
    where
      by : (b : Bool) → (lost == 0) ≡ b → left_if b ≡ Ok rest
      by true f = absurd (h (grind (arith, nat_tests, f)))
      by false f = ap (λ n. mul_int_quo_int_of n (count - lost) count) (sym p) ∙ q

-- where something was lost, something was counted
pub some_counted : (lost count : ℕ) → lost ≤ count → lost ≢ 0 → 0 < count
some_counted lost count p h = omega (arith, p, h)

-- a part of something that a delegation has
pub has_part : (s : Staked) (delegator target : List ℕ) (x part : ℕ) → part ≡ min x (unwrap_or (delegation s delegator target) 0) → 0 < part → HasShares s delegator target part
has_part s delegator target x part = by (delegation s delegator target) refl
  where
    by : (o : Option ℕ) → delegation s delegator target ≡ o → part ≡ min x (unwrap_or o 0) → 0 < part → HasShares s delegator target part
    by None f e some = absurd (omega (arith, e, some))
    by (Some held) f e some = (held, (f, omega (arith, e)))
