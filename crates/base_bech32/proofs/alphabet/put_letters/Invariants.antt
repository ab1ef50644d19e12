use Rattle.std.proofs.Common.{◌≡◌, map, take}
use Rattle.base_bech32.specs.Alphabet.{letter_of}
use Rattle.base_bech32.proofs.alphabet.put_letters.Given as goal

-- the letters of the values so far
abbrev pub invariant-values : goal.invariant-values
invariant-values l = take l.i l.out ≡ map letter_of (take l.i l.values)
