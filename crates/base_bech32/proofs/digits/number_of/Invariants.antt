use Rattle.std.proofs.Common.{◌≡◌, take}
use Rattle.base_bech32.specs.Digits.{number_of}
use Rattle.base_bech32.proofs.digits.number_of.Given as goal

-- the number of the digits so far
abbrev pub invariant-digits : goal.invariant-digits
invariant-digits l = l.number ≡ number_of l.base (take l.i l.ds)
