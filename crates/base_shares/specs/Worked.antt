-- Worked examples of shares and of recorded fractions, each by computing.
use Rattle.std.specs.Prelude.{◌≡◌, ◌-◌, ◌*◌, ◌^◌, Ok, Err}
use Rattle.base_decimals.specs.Decimals.{quotient_over, digits_36, mul_cut_of}
use Rattle.base_shares.specs.declared.fault.ShareFault.TheVariants as fault
use Rattle.base_shares.specs.Shares.{issued_shares, value_even_of, value_cut_of, shares_for_amount, removed}
use Rattle.base_shares.specs.Burns.{recorded_fraction}

-- 100 shares have 99 tokens left: 10 more tokens issue 10.101010101010101010 shares
abbrev pub IssuingAfterASlash : Type 0
IssuingAfterASlash = issued_shares 99 (100 * 10 ^ 18) 10 ≡ Ok 10101010101010101010

-- undelegating 10 of these removes as many: their value 9.9999999999999999999 is 10 to the nearest, so 10 goes out
abbrev pub UndelegatingTen : Type 0
UndelegatingTen =
    (shares_for_amount 99 (100 * 10 ^ 18) 10 ≡ Ok 10101010101010101010)
    × (digits_36 (10101010101010101010 * 99) (100 * 10 ^ 18) ≡ 99999999999999999999 * 10 ^ 17)
    × (value_even_of 99 (100 * 10 ^ 18) 10101010101010101010 ≡ 10 * 10 ^ 18)
    × (value_cut_of 99 (100 * 10 ^ 18) 10101010101010101010 ≡ 10 * 10 ^ 18 - 1)
    × (removed 99 (100 * 10 ^ 18) 10101010101010101010 ≡ (89, 89898989898989898990, 10))

-- undelegating 98 of the 99 gives 97, since their value is below 98
abbrev pub UndelegatingAllButOne : Type 0
UndelegatingAllButOne =
    (shares_for_amount 99 (100 * 10 ^ 18) 98 ≡ Ok 98989898989898989898)
    × (value_even_of 99 (100 * 10 ^ 18) 98989898989898989898 ≡ 97999999999999999999)
    × (removed 99 (100 * 10 ^ 18) 98989898989898989898 ≡ (2, 1010101010101010102, 97))

-- undelegating all 99 removes all shares, and nothing is left
abbrev pub UndelegatingAll : Type 0
UndelegatingAll =
    (shares_for_amount 99 (100 * 10 ^ 18) 99 ≡ Ok (100 * 10 ^ 18))
    × (removed 99 (100 * 10 ^ 18) (100 * 10 ^ 18) ≡ (0, 0, 99))

-- a burn of 1 of 3 tokens: a stake of 1 keeps 0.666666666666666666
abbrev pub BurningAThird : Type 0
BurningAThird =
    (recorded_fraction 1 3 ≡ 333333333333333334)
    × (mul_cut_of (10 ^ 18) (10 ^ 18 - recorded_fraction 1 3) ≡ Ok 666666666666666666)

-- all but one of 10^18 tokens burned, and one of 10^18 - 1: the second fraction is two units, since its 36th digit is
-- not 0
abbrev pub FractionsOfManyTokens : Type 0
FractionsOfManyTokens =
    (recorded_fraction 999999999999999999 (10 ^ 18) ≡ 999999999999999999)
    × (recorded_fraction 1 999999999999999999 ≡ 2)

-- 10^12 shares have one token left: the shares for 10^9 more are over, with the operands of their quotient
abbrev pub IssuingTooMany : Type 0
IssuingTooMany = issued_shares 1 (10 ^ 12 * 10 ^ 18) (10 ^ 9) ≡ Err (fault.Over (quotient_over (10 ^ 30) (10 ^ 9) 1))

-- without tokens: the first shares equal the amount, shares that are there give no rate, and an amount has no shares
abbrev pub WithoutTokens : Type 0
WithoutTokens =
    (issued_shares 0 0 7 ≡ Ok (7 * 10 ^ 18))
    × (issued_shares 0 1 7 ≡ Err fault.RateInvalid)
    × (shares_for_amount 0 1 7 ≡ Err fault.NoTokens)
