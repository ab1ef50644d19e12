-- Worked examples of the operations and texts, each by computing.
use Rattle.std.specs.Prelude.{◌≡◌, ◌+◌, ◌-◌, ◌*◌, ◌^◌, ◌<◌, Some, None, Ok, Err, codes}
use Rattle.base_decimals.specs.Decimals.{sum_over, quotient_over, add_of, mul_even_of, mul_cut_of, digits_36, quo_even_of, quo_cut_of, quo_up_of, mul_int_quo_even_of, mul_int_quo_int_of, trunc_of, round_int_of}
use Rattle.base_decimals.specs.Texts.{dec_of, dec_text}

-- one unit times 0.5 is 0 and divided by 2 upward is one unit; three units times 0.5 are two, at a tie
abbrev pub HalvesOfUnits : Type 0
HalvesOfUnits =
    (mul_even_of 1 (5 * 10 ^ 17) ≡ Ok 0)
    × (mul_cut_of 1 (5 * 10 ^ 17) ≡ Ok 0)
    × (quo_up_of 1 (2 * 10 ^ 18) ≡ Ok 1)
    × (mul_even_of 3 (5 * 10 ^ 17) ≡ Ok 2)

-- 1 / 3 cut and upward, and 2 / 3 to the nearest
abbrev pub Thirds : Type 0
Thirds =
    (quo_cut_of (10 ^ 18) (3 * 10 ^ 18) ≡ Ok 333333333333333333)
    × (quo_up_of (10 ^ 18) (3 * 10 ^ 18) ≡ Ok 333333333333333334)
    × (quo_even_of (2 * 10 ^ 18) (3 * 10 ^ 18) ≡ Ok 666666666666666667)

-- one unit divided by 1.999999999999999999 is more than half a unit, but its 36 digits are half a unit, so it is 0
abbrev pub TieAt36Digits : Type 0
TieAt36Digits =
    (1999999999999999999 < 2 * 10 ^ 18)
    × (digits_36 1 1999999999999999999 ≡ 5 * 10 ^ 17)
    × (quo_even_of 1 1999999999999999999 ≡ Ok 0)

-- the largest decimal has no successor, and a predecessor
abbrev pub LargestDecimal : Type 0
LargestDecimal =
    (dec_of (codes "99999999999999999999.999999999999999999") ≡ Some (10 ^ 38 - 1))
    × (add_of (10 ^ 38 - 1) 1 ≡ Err (sum_over (10 ^ 38 - 1) 1))
    × (dec_text (10 ^ 38 - 1 - 1) ≡ codes "99999999999999999999.999999999999999998")

-- the fractions of two burns, of all but one of 10^18 tokens and of one of 10^18 - 1: only the 36th digit of the second
-- is not 0
abbrev pub BurnedFractions : Type 0
BurnedFractions =
    (quo_up_of (999999999999999999 * 10 ^ 18) (10 ^ 18 * 10 ^ 18) ≡ Ok 999999999999999999)
    × (quo_up_of (10 ^ 18) (999999999999999999 * 10 ^ 18) ≡ Ok 2)

-- shares for 10 of 99 tokens that have 100 shares, and what they are worth
abbrev pub SharesOfTokens : Type 0
SharesOfTokens =
    (mul_int_quo_int_of (100 * 10 ^ 18) 10 99 ≡ Ok 10101010101010101010)
    × (mul_int_quo_even_of 10101010101010101010 99 (100 * 10 ^ 18) ≡ Ok (10 * 10 ^ 18))
    × (mul_int_quo_int_of (10 ^ 30) (10 ^ 9) 1 ≡ Err (quotient_over (10 ^ 30) (10 ^ 9) 1))

-- ties at the point go to the even whole number
abbrev pub WholeNumbers : Type 0
WholeNumbers =
    (trunc_of (2 * 10 ^ 18 - 1) ≡ 1)
    × (round_int_of (5 * 10 ^ 17) ≡ 0)
    × (round_int_of (15 * 10 ^ 17) ≡ 2)
    × (round_int_of (25 * 10 ^ 17) ≡ 2)
    × (round_int_of (25 * 10 ^ 17 + 1) ≡ 3)

-- texts that are decimals and texts that are none
abbrev pub TextsOfDecimals : Type 0
TextsOfDecimals =
    (dec_of (codes "007.5") ≡ Some (75 * 10 ^ 17))
    × (dec_of (codes "1") ≡ Some (10 ^ 18))
    × (dec_of (codes "1.") ≡ None)
    × (dec_of (codes ".5") ≡ None)
    × (dec_of (codes "1.0000000000000000001") ≡ None)
    × (dec_of (codes "100000000000000000000") ≡ None)
    × (dec_of (codes "-1") ≡ None)
    × (dec_of (codes "1.5.2") ≡ None)
    × (dec_text 0 ≡ codes "0.000000000000000000")
    × (dec_text (1234 * 10 ^ 16) ≡ codes "12.340000000000000000")
