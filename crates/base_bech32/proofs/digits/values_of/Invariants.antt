use Rattle.std.proofs.Common.{◌≡◌, ◌*◌, length, take}
use Rattle.base_bech32.specs.Digits.{digits, number_of}
use Rattle.base_bech32.proofs.digits.values_of.Given as goal

-- the groups of the bytes so far
abbrev pub invariant-parts : goal.invariant-parts
invariant-parts l =
    (length l.values ≡ 32) × (take (8 * l.i) l.values ≡ digits 32 (8 * l.i) (number_of 256 (take (5 * l.i) l.bytes)))
