-- Which parameters are out of their ranges.
use Rattle.std.specs.Prelude.{ℕ, ◌^◌, ◌&&◌, Bool, true, false, nat_lt, nat_le, List, [], ◌∷◌, ◌++◌, Option, Some, None}
use Rattle.base_roles.specs.declared.params.Params.{Params}

-- a number is from the one to the other
abbrev pub is_within : ℕ → ℕ → ℕ → Bool
is_within least most n = nat_le least n && nat_le n most

-- this number, unless the test passes
abbrev pub unless : Bool → ℕ → Option ℕ
unless true number = None
unless false number = Some number

-- the first number of a list that is there
abbrev pub first_number : List (Option ℕ) → Option ℕ
first_number [] = None
first_number (None ∷ rest) = first_number rest
first_number (Some number ∷ rest) = Some number

-- The parameters of staking and distribution, each with the number by which lines name it; the unit of rates and fractions is
-- 10^-18. The bond denomination has no range, and whether another payee may be named has none.
abbrev pub ranges_of_staking : Params → List (Option ℕ)
ranges_of_staking p =
    unless (is_within 1 (10 ^ 18) p.power_reduction) 11
    ∷ unless (is_within 1 (10 ^ 9) p.unbonding_time) 12
    ∷ unless (is_within 1 1000 p.max_validators) 13
    ∷ unless (is_within 1 100 p.max_entries) 14
    ∷ unless (nat_le p.min_commission_rate (10 ^ 18)) 15
    ∷ unless (nat_le p.community_tax (10 ^ 18)) 16
    ∷ []

-- The same of slashing and evidence. The authority has no range.
abbrev pub ranges_of_slashing : Params → List (Option ℕ)
ranges_of_slashing p =
    unless (is_within 1 100000 p.signed_blocks_window) 18
    ∷ unless (nat_le p.min_signed_per_window (10 ^ 18)) 19
    ∷ unless (nat_le p.downtime_jail_duration (10 ^ 9)) 20
    ∷ unless (nat_le p.slash_fraction_double_sign (10 ^ 18)) 21
    ∷ unless (nat_le p.slash_fraction_downtime (10 ^ 18)) 22
    ∷ unless (nat_le p.max_age_duration (10 ^ 9)) 23
    ∷ unless (nat_lt p.max_age_num_blocks (2 ^ 63)) 24
    ∷ []

-- the number of the first parameter that is out of its range
abbrev pub out_of_range : Params → Option ℕ
out_of_range p = first_number (ranges_of_staking p ++ ranges_of_slashing p)
