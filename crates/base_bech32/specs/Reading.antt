-- What a text is read as behind a prefix: the bytes that it spells, or why it spells none.
use Rattle.std.specs.Prelude.{ℕ, ◌+◌, not, ◌==◌, nat_eq, bytes_eq, if◌then◌else◌, Option, Some, None, Result, Ok, Err, List, [], ◌∷◌, ◌++◌, length, map, take, drop, position}
use Rattle.std.specs.List.{starts_with}
use Rattle.base_bech32.specs.declared.fault.BechFault.{BechFault}
use Rattle.base_bech32.specs.declared.fault.BechFault.TheVariants.{Prefix, Length, Digit, Sum}
use Rattle.base_bech32.specs.Alphabet.{is_letter, value_of}
use Rattle.base_bech32.specs.Digits.{digits, number_of}
use Rattle.base_bech32.specs.Spelling.{check_of}

-- the bytes of thirty-two values
abbrev pub bytes_of : List ℕ → List ℕ
bytes_of values = digits 256 20 (number_of 32 values)

-- the bytes of the first thirty-two values, where the others check them
abbrev pub bytes_checked : List ℕ → List ℕ → Result (List ℕ) BechFault
bytes_checked prefix values =
    if bytes_eq (drop 32 values) (check_of prefix (take 32 values))
    then Ok (bytes_of (take 32 values)) else Err Sum

-- the first place at which there is no letter
abbrev pub wrong_place : List ℕ → Option ℕ
wrong_place text = position (λ c. not (is_letter c)) text

abbrev pub values_or_fault : List ℕ → Option ℕ → Result (List ℕ) BechFault
values_or_fault text None = Ok (map value_of text)
values_or_fault text (Some place) = Err (Digit place)

-- the values of letters, or the first place at which there is none
abbrev pub values_read : List ℕ → Result (List ℕ) BechFault
values_read text = values_or_fault text (wrong_place text)

-- the second step, if the first gave a value
infixl 10 ◌>>=◌
abbrev pub ◌>>=◌ : {A B : Type 0}
    → Result A BechFault → (A → Result B BechFault) → Result B BechFault
(Ok a) >>= f = f a
(Err fault) >>= f = Err fault

-- what follows the prefix and `1`
abbrev pub rest_read : List ℕ → List ℕ → Result (List ℕ) BechFault
rest_read prefix text =
    if length text == 38 then values_read text >>= bytes_checked prefix else Err Length

-- the text, which has the prefix and `1` (49) first
abbrev pub unspelled : List ℕ → List ℕ → Result (List ℕ) BechFault
unspelled prefix text =
    if starts_with nat_eq text (prefix ++ 49 ∷ [])
    then rest_read prefix (drop (length prefix + 1) text) else Err Prefix
