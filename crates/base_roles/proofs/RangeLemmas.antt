-- The number of the first parameter that is out of its range: it is none exactly where all are in theirs.
use Rattle.std.proofs.Common.{◌≡◌, ◌∙◌, ℕ, ◌^◌, ◌≤◌, ◌<◌, Bool, true, false, List, [], ◌∷◌, ◌++◌, Option, Some, None, refl, ap, arith, ◌&&◌, nat_lt, nat_le}
use Rattle.std.proofs.lemmas.Bool.Decides.{nat_tests}
use Rattle.base_roles.specs.{declared.params.Params.Params, Ground.AreInRange}
use Rattle.base_roles.specs.Ranges.{first_number, is_within, out_of_range, unless}

-- ---- two lists, one behind the other

pub found_first : (xs ys : List (Option ℕ)) (n : ℕ) → first_number xs ≡ Some n → first_number (xs ++ ys) ≡ Some n
found_first [] ys n e = absurd cc
found_first (None ∷ xs) ys n e = found_first xs ys n e
found_first (Some m ∷ xs) ys n e = e

pub found_later : (xs ys : List (Option ℕ)) → first_number xs ≡ None → first_number (xs ++ ys) ≡ first_number ys
found_later [] ys e = refl
found_later (None ∷ xs) ys e = found_later xs ys e
found_later (Some m ∷ xs) ys e = absurd cc

-- ---- tests

-- where none is found, the first passed, and none is found behind it
pub unless_none : (b : Bool) (n : ℕ) (rest : List (Option ℕ)) → first_number (unless b n ∷ rest) ≡ None → (b ≡ true) × (first_number rest ≡ None)
unless_none true n rest e = (refl, e)
unless_none false n rest e = absurd cc

-- and the other way round
passes : (b : Bool) (n : ℕ) (rest : List (Option ℕ)) → b ≡ true → first_number rest ≡ None → first_number (unless b n ∷ rest) ≡ None
passes true n rest p e = e
passes false n rest p e = absurd cc

at_most : (n most : ℕ) → nat_le n most ≡ true → n ≤ most
at_most n most e = grind (arith, nat_tests)

below : (n most : ℕ) → nat_lt n most ≡ true → n < most
below n most e = grind (arith, nat_tests)

both : (a b : Bool) → (a && b) ≡ true → (a ≡ true) × (b ≡ true)
both true true e = (refl, refl)
both true false e = absurd cc
both false b e = absurd cc

within : (least most n : ℕ) → is_within least most n ≡ true → (least ≤ n) × (n ≤ most)
within least most n e = let all = both (nat_le least n) (nat_le n most) e in (at_most least n all.0, at_most n most all.1)

le_test : (n most : ℕ) → n ≤ most → nat_le n most ≡ true
le_test n most l = grind (arith, nat_tests)

lt_test : (n most : ℕ) → n < most → nat_lt n most ≡ true
lt_test n most l = grind (arith, nat_tests)

within_test : (least most n : ℕ) → least ≤ n → n ≤ most → is_within least most n ≡ true
within_test least most n l m = ap (λ b. b && nat_le n most) (le_test least n l) ∙ le_test n most m

-- ---- all of them

pub in_range : (p : Params) → out_of_range p ≡ None → AreInRange p
in_range p e =
    let c1 = unless_none (is_within 1 (10 ^ 18) p.power_reduction) 11 _ e in
    let c2 = unless_none (is_within 1 (10 ^ 9) p.unbonding_time) 12 _ c1.1 in
    let c3 = unless_none (is_within 1 1000 p.max_validators) 13 _ c2.1 in
    let c4 = unless_none (is_within 1 100 p.max_entries) 14 _ c3.1 in
    let c5 = unless_none (nat_le p.min_commission_rate (10 ^ 18)) 15 _ c4.1 in
    let c6 = unless_none (nat_le p.community_tax (10 ^ 18)) 16 _ c5.1 in
    let c7 = unless_none (is_within 1 100000 p.signed_blocks_window) 18 _ c6.1 in
    let c8 = unless_none (nat_le p.min_signed_per_window (10 ^ 18)) 19 _ c7.1 in
    let c9 = unless_none (nat_le p.downtime_jail_duration (10 ^ 9)) 20 _ c8.1 in
    let c10 = unless_none (nat_le p.slash_fraction_double_sign (10 ^ 18)) 21 _ c9.1 in
    let c11 = unless_none (nat_le p.slash_fraction_downtime (10 ^ 18)) 22 _ c10.1 in
    let c12 = unless_none (nat_le p.max_age_duration (10 ^ 9)) 23 _ c11.1 in
    let c13 = unless_none (nat_lt p.max_age_num_blocks (2 ^ 63)) 24 [] c12.1 in
    record {
      power_reduction = (within 1 (10 ^ 18) p.power_reduction c1.0).0;
      power_reduction_most = (within 1 (10 ^ 18) p.power_reduction c1.0).1;
      unbonding_time = (within 1 (10 ^ 9) p.unbonding_time c2.0).0;
      unbonding_time_most = (within 1 (10 ^ 9) p.unbonding_time c2.0).1;
      max_validators = (within 1 1000 p.max_validators c3.0).0;
      max_validators_most = (within 1 1000 p.max_validators c3.0).1;
      max_entries = (within 1 100 p.max_entries c4.0).0;
      max_entries_most = (within 1 100 p.max_entries c4.0).1;
      min_commission_rate = at_most p.min_commission_rate (10 ^ 18) c5.0;
      community_tax = at_most p.community_tax (10 ^ 18) c6.0;
      signed_blocks_window = (within 1 100000 p.signed_blocks_window c7.0).0;
      signed_blocks_window_most = (within 1 100000 p.signed_blocks_window c7.0).1;
      min_signed_per_window = at_most p.min_signed_per_window (10 ^ 18) c8.0;
      downtime_jail_duration = at_most p.downtime_jail_duration (10 ^ 9) c9.0;
      slash_fraction_double_sign = at_most p.slash_fraction_double_sign (10 ^ 18) c10.0;
      slash_fraction_downtime = at_most p.slash_fraction_downtime (10 ^ 18) c11.0;
      max_age_duration = at_most p.max_age_duration (10 ^ 9) c12.0;
      max_age_num_blocks = below p.max_age_num_blocks (2 ^ 63) c13.0;
    }

pub none_out : (p : Params) → AreInRange p → out_of_range p ≡ None
none_out p r =
    passes (is_within 1 (10 ^ 18) p.power_reduction) 11 _ (within_test 1 (10 ^ 18) p.power_reduction r.power_reduction r.power_reduction_most)
    (passes (is_within 1 (10 ^ 9) p.unbonding_time) 12 _ (within_test 1 (10 ^ 9) p.unbonding_time r.unbonding_time r.unbonding_time_most)
    (passes (is_within 1 1000 p.max_validators) 13 _ (within_test 1 1000 p.max_validators r.max_validators r.max_validators_most)
    (passes (is_within 1 100 p.max_entries) 14 _ (within_test 1 100 p.max_entries r.max_entries r.max_entries_most)
    (passes (nat_le p.min_commission_rate (10 ^ 18)) 15 _ (le_test p.min_commission_rate (10 ^ 18) r.min_commission_rate)
    (passes (nat_le p.community_tax (10 ^ 18)) 16 _ (le_test p.community_tax (10 ^ 18) r.community_tax)
    (passes (is_within 1 100000 p.signed_blocks_window) 18 _ (within_test 1 100000 p.signed_blocks_window r.signed_blocks_window r.signed_blocks_window_most)
    (passes (nat_le p.min_signed_per_window (10 ^ 18)) 19 _ (le_test p.min_signed_per_window (10 ^ 18) r.min_signed_per_window)
    (passes (nat_le p.downtime_jail_duration (10 ^ 9)) 20 _ (le_test p.downtime_jail_duration (10 ^ 9) r.downtime_jail_duration)
    (passes (nat_le p.slash_fraction_double_sign (10 ^ 18)) 21 _ (le_test p.slash_fraction_double_sign (10 ^ 18) r.slash_fraction_double_sign)
    (passes (nat_le p.slash_fraction_downtime (10 ^ 18)) 22 _ (le_test p.slash_fraction_downtime (10 ^ 18) r.slash_fraction_downtime)
    (passes (nat_le p.max_age_duration (10 ^ 9)) 23 _ (le_test p.max_age_duration (10 ^ 9) r.max_age_duration)
    (passes (nat_lt p.max_age_num_blocks (2 ^ 63)) 24 [] (lt_test p.max_age_num_blocks (2 ^ 63) r.max_age_num_blocks) refl))))))))))))
