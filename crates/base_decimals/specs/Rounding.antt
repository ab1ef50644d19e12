-- The three ways to make a whole number of a fraction a / c, and the limit of raw numbers.
use Rattle.std.specs.Prelude.{ℕ, ◌+◌, ◌*◌, ◌/◌, ◌%◌, ◌^◌, ◌≤◌, ◌==◌, nat_lt, if◌then◌else◌}

-- the whole number below a / c
abbrev pub cut : ℕ → ℕ → ℕ
cut a c = a / c

-- the whole number above a / c, where it is not whole itself
abbrev pub up : ℕ → ℕ → ℕ
up a c = if a % c == 0 then a / c else a / c + 1

-- the whole number nearest to a / c, and at a tie the even one
abbrev pub even : ℕ → ℕ → ℕ
even a c =
    if nat_lt (2 * (a % c)) c then a / c
    else if nat_lt c (2 * (a % c)) then a / c + 1
    else a / c + (a / c) % 2

-- a raw number at or above the limit of decimals, which is 10^38
abbrev pub IsOver : ℕ → Type 0
IsOver n = 10 ^ 38 ≤ n
