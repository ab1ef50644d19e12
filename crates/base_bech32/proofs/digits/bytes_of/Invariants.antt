use Rattle.std.proofs.Common.{◌≡◌, ◌*◌, length, take}
use Rattle.base_bech32.specs.Digits.{digits, number_of}
use Rattle.base_bech32.proofs.digits.bytes_of.Given as goal

-- the bytes of the groups so far
abbrev pub invariant-parts : goal.invariant-parts
invariant-parts l =
    (length l.bytes ≡ 20) × (take (5 * l.i) l.bytes ≡ digits 256 (5 * l.i) (number_of 32 (take (8 * l.i) l.values)))
