use Rattle.std.proofs.Common.{◌≡◌, ◌-◌, ◌++◌, drop, length}
use Rattle.base_bech32.specs.Digits.{digits}
use Rattle.base_bech32.proofs.digits.put_digits.Given as goal

-- the digits that are written stand behind those of the rest
abbrev pub invariant-digits : goal.invariant-digits
invariant-digits l =
    digits l.base (length l.out - l.i) l.rest ++ drop (length l.out - l.i) l.out ≡ digits l.base (length l.out) l.fn.number
