-- Shares and tokens of a validator. Tokens and amounts are whole numbers, and shares and values are decimals, each as
-- its whole number of units of 10^-18.
use Rattle.std.specs.Prelude.{◌≡◌, ℕ, ◌-◌, ◌*◌, ◌^◌, ◌<◌, ◌==◌, ◌&&◌, Bool, nat_lt, if◌then◌else◌, Result, Ok, Err}
use Rattle.base_decimals.specs.declared.over.Over.{Over}
use Rattle.base_decimals.specs.Rounding.{cut, even}
use Rattle.base_decimals.specs.Decimals.{whole_of, digits_36, mul_int_quo_int_of, trunc_of}
use Rattle.base_shares.specs.declared.fault.ShareFault.{ShareFault}
use Rattle.base_shares.specs.declared.fault.ShareFault.TheVariants as fault

-- shares that stand over no tokens
abbrev pub HasInvalidRate : ℕ → ℕ → Type 0
HasInvalidRate tokens shares = (tokens ≡ 0) × (0 < shares)

-- the same as a test
abbrev pub has_invalid_rate : ℕ → ℕ → Bool
has_invalid_rate tokens shares = (tokens == 0) && nat_lt 0 shares

-- a decimal, or the fault that it is over
abbrev pub or_over : Result ℕ Over → Result ℕ ShareFault
or_over (Ok raw) = Ok raw
or_over (Err over) = Err (fault.Over over)

-- the first shares equal the amount, and later ones are shares * amount / tokens
abbrev pub issued_shares : ℕ → ℕ → ℕ → Result ℕ ShareFault
issued_shares tokens shares amount =
    if has_invalid_rate tokens shares then Err fault.RateInvalid
    else if shares == 0 then or_over (whole_of amount)
    else or_over (mul_int_quo_int_of shares amount tokens)

-- the value of a part of the shares, part * tokens / shares, to the nearest
abbrev pub value_even_of : ℕ → ℕ → ℕ → ℕ
value_even_of tokens shares part = even (digits_36 (part * tokens) shares) (10 ^ 18)

-- the same value, cut
abbrev pub value_cut_of : ℕ → ℕ → ℕ → ℕ
value_cut_of tokens shares part = cut (digits_36 (part * tokens) shares) (10 ^ 18)

-- the shares that an amount of the tokens has, shares * amount / tokens
abbrev pub shares_for_amount : ℕ → ℕ → ℕ → Result ℕ ShareFault
shares_for_amount tokens shares amount =
    if tokens == 0 then Err fault.NoTokens else or_over (mul_int_quo_int_of shares amount tokens)

-- what goes out for a part of the shares: all tokens where no share is left, and else the whole part of its value
abbrev pub amount_out : ℕ → ℕ → ℕ → ℕ
amount_out tokens shares part = if part == shares then tokens else trunc_of (value_even_of tokens shares part)

-- the tokens left, the shares left and the amount that goes out
abbrev pub removed : ℕ → ℕ → ℕ → ℕ × ℕ × ℕ
removed tokens shares part =
    (tokens - amount_out tokens shares part, shares - part, amount_out tokens shares part)
