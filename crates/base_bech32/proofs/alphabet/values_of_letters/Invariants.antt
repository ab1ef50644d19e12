use Rattle.std.proofs.Common.{◌≡◌, ℕ, ◌<◌, length, map, slice_index, take}
use Rattle.base_bech32.specs.Alphabet.{value_of}
use Rattle.base_bech32.proofs.alphabet.values_of_letters.Given as goal

-- the values of the letters so far, and each was a letter
abbrev pub invariant-letters : goal.invariant-letters
invariant-letters l =
    (length l.values ≡ 38) × (take l.i l.values ≡ map value_of (take l.i l.letters))
    × ((k : ℕ) → k < l.i → value_of (slice_index l.letters k) < 32)
