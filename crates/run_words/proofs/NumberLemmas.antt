-- What `parse` gives for digits.
use Rattle.std.proofs.Common.{◌≡◌, ℕ, List, true, Result, Ok, ◌≤◌, ◌<◌, length, nat_lt, nat_le, ◌&&◌, arith, rules, leb-true}
use Rattle.std.specs.{Str.Parse.{ParsesUnsigned, digits_value}, Char.is_ascii_digit, List.list_all}
use Rattle.std.proofs.lemmas.Str.Parse.{IsNumeralModel, numerals_by_value, parse_gives, digits_value_short}
use Rattle.std.proofs.lemmas.Bool.{and_parts}
use Rattle.base_decimals.specs.Texts.{is_number}

are_digits_model : IsNumeralModel (λ digits. list_all is_ascii_digit digits ≡ true) (digits_value 10)
are_digits_model = numerals_by_value _ (search rules)

-- a text of 1 to so many digits, of which there are at most 38
pub number_parsed : {E : Type 0} (most : ℕ) (text : List ℕ) (r : Result ℕ E) → most ≤ 38 → ParsesUnsigned 128 10 text r → is_number most text ≡ true → r ≡ Ok (digits_value 10 text)
number_parsed most text r few parsed h =
    let parts : ((nat_lt 0 (length text) && nat_le (length text) most) ≡ true) × (list_all is_ascii_digit text ≡ true) = and_parts _ _ h in
    let sizes : (nat_lt 0 (length text) ≡ true) × (nat_le (length text) most ≡ true) = and_parts _ _ parts.0 in
    let some : 0 < length text = leb-true _ _ sizes.0 in
    let shorter : length text ≤ most = leb-true _ _ sizes.1 in
    let short : length text ≤ 38 = omega (arith, shorter, few) in
    parse_gives are_digits_model 128 text r parsed parts.1 some (omega (arith, digits_value_short are_digits_model text 38 parts.1 short))
