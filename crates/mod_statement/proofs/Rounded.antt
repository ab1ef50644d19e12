-- A part of an amount is at most the amount, so it is a decimal.
use Rattle.std.proofs.Common.{◌≡◌, ℕ, ◌*◌, ◌^◌, ◌<◌, ◌≤◌, ap, arith, mul-le-mul_right, Ok, Err, if◌then◌else◌, lt-ltb}
use Rattle.base_decimals.{specs.{Decimals.quotient_over, Rounding.{cut, up}}, proofs.Nearest.up_least}
use Rattle.base_shares.proofs.Roundings.{cut_most}
use Rattle.mod_statement.specs.Rounding.{quotient_cut_of, quotient_up_of}

pub up_within : (a p w : ℕ) → p ≤ w → 0 < w → up (a * p) w ≤ a
up_within a p w within some = up_least (a * p) w a some (omega (arith, mul-le-mul_right a within))

pub part_up_fits : (a p w : ℕ) → a < 10 ^ 38 → p ≤ w → 0 < w → quotient_up_of a p w ≡ Ok (up (a * p) w)
part_up_fits a p w small within some =
    let fits : up (a * p) w < 10 ^ 38 = omega (arith, up_within a p w within some) in
    ap (λ t. if t then Ok (up (a * p) w) else Err (quotient_over a p w)) (lt-ltb (up (a * p) w) (10 ^ 38) fits)

pub part_cut_fits : (a p w : ℕ) → a < 10 ^ 38 → p ≤ w → 0 < w → quotient_cut_of a p w ≡ Ok (cut (a * p) w)
part_cut_fits a p w small within some =
    let most : cut (a * p) w ≤ a = cut_most (a * p) w a some (omega (arith, mul-le-mul_right a within)) in
    let fits : cut (a * p) w < 10 ^ 38 = omega arith in
    ap (λ t. if t then Ok (cut (a * p) w) else Err (quotient_over a p w)) (lt-ltb (cut (a * p) w) (10 ^ 38) fits)
