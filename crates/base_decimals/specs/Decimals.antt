-- The operations on decimals of 18 places, each decimal as its whole number of units of 10^-18.
use Rattle.std.specs.Prelude.{ℕ, ◌+◌, ◌*◌, ◌/◌, ◌%◌, ◌^◌, nat_lt, if◌then◌else◌, Option, Some, None, Result, Ok, Err}
use Rattle.base_decimals.specs.declared.over.Over.{Over}
use Rattle.base_decimals.specs.declared.over.OverKind.TheVariants.{Sum, Quotient, Period}
use Rattle.base_decimals.specs.Rounding.{cut, up, even}

-- a raw number below the limit, or else the operands that led past it
abbrev pub below : Over → ℕ → Result ℕ Over
below over n = if nat_lt n (10 ^ 38) then Ok n else Err over

-- a sum that is over: what stood there and what was added
abbrev pub sum_over : ℕ → ℕ → Over
sum_over a b = record { kind = Sum; a = a; b = b; c = 0 }

-- a product a * b, divided by c, that is over
abbrev pub quotient_over : ℕ → ℕ → ℕ → Over
quotient_over a b c = record { kind = Quotient; a = a; b = b; c = c }

-- a period that stands at its limit of 10^18
abbrev pub period_over : Over
period_over = record { kind = Period; a = 10 ^ 18; b = 0; c = 0 }

-- a * b / c below the limit, with the rest
abbrev pub mul_div_of : ℕ → ℕ → ℕ → Option (ℕ × ℕ)
mul_div_of a b c = if nat_lt (a * b / c) (10 ^ 38) then Some (a * b / c, (a * b) % c) else None

abbrev pub add_of : ℕ → ℕ → Result ℕ Over
add_of a b = below (sum_over a b) (a + b)

-- the decimal of a whole number
abbrev pub whole_of : ℕ → Result ℕ Over
whole_of n = below (quotient_over n (10 ^ 18) 1) (n * 10 ^ 18)

-- products are rounded from their exact value
abbrev pub mul_even_of : ℕ → ℕ → Result ℕ Over
mul_even_of a b = below (quotient_over a b (10 ^ 18)) (even (a * b) (10 ^ 18))

abbrev pub mul_cut_of : ℕ → ℕ → Result ℕ Over
mul_cut_of a b = below (quotient_over a b (10 ^ 18)) (cut (a * b) (10 ^ 18))

-- a quotient cut at 36 digits behind the point, as its number of units of 10^-36
abbrev pub digits_36 : ℕ → ℕ → ℕ
digits_36 a b = a * 10 ^ 36 / b

-- quotients are rounded from their 36 digits
abbrev pub quo_even_of : ℕ → ℕ → Result ℕ Over
quo_even_of a b = below (quotient_over a (10 ^ 18) b) (even (digits_36 a b) (10 ^ 18))

abbrev pub quo_cut_of : ℕ → ℕ → Result ℕ Over
quo_cut_of a b = below (quotient_over a (10 ^ 18) b) (cut (digits_36 a b) (10 ^ 18))

abbrev pub quo_up_of : ℕ → ℕ → Result ℕ Over
quo_up_of a b = below (quotient_over a (10 ^ 18) b) (up (digits_36 a b) (10 ^ 18))

-- a * n / b for a whole number n, rounded from its 36 digits
abbrev pub mul_int_quo_even_of : ℕ → ℕ → ℕ → Result ℕ Over
mul_int_quo_even_of a n b = below (quotient_over a (n * 10 ^ 18) b) (even (digits_36 (a * n) b) (10 ^ 18))

abbrev pub mul_int_quo_cut_of : ℕ → ℕ → ℕ → Result ℕ Over
mul_int_quo_cut_of a n b = below (quotient_over a (n * 10 ^ 18) b) (cut (digits_36 (a * n) b) (10 ^ 18))

-- a * n / m for whole numbers n and m
abbrev pub mul_int_quo_int_of : ℕ → ℕ → ℕ → Result ℕ Over
mul_int_quo_int_of a n m = below (quotient_over a n m) (cut (a * n) m)

-- the whole part
abbrev pub trunc_of : ℕ → ℕ
trunc_of a = cut a (10 ^ 18)

-- the nearest whole number, and at a tie the even one
abbrev pub round_int_of : ℕ → ℕ
round_int_of a = even a (10 ^ 18)
