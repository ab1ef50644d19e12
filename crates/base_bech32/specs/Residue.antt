-- The residue of a list of values, by which a spelling is checked (BIP 173: the checksum, a cyclic
-- code over the field of thirty-two elements).
use Rattle.std.specs.Prelude.{ℕ, ◌*◌, ◌/◌, ◌%◌, ◌^◌, ◌==◌, bit_xor, if◌then◌else◌, List, [], ◌∷◌, ◌++◌, map}
use Rattle.std.specs.List.{fold}

-- the constants of the code
abbrev pub constants : List ℕ
constants = 0x3b6a_57b2 ∷ 0x2650_8e6d ∷ 0x1ea1_19fa ∷ 0x3d42_33dd ∷ 0x2a14_62b3 ∷ []

-- the exclusive-or of those constants whose bit is set, where the first constant has the lowest bit
unfoldable pub chosen : ℕ → List ℕ → ℕ
chosen bits [] = 0
chosen bits (constant ∷ others) =
    bit_xor (if bits % 2 == 1 then constant else 0) (chosen (bits / 2) others)

-- the residue after one more value: the lower 25 bits move up by five for the value, and each bit
-- that was above them brings its constant
unfoldable pub residue_step : ℕ → ℕ → ℕ
residue_step residue value =
    bit_xor (bit_xor (residue % 2 ^ 25 * 32) value) (chosen (residue / 2 ^ 25) constants)

-- the residue of values, which starts at 1
abbrev pub residue : List ℕ → ℕ
residue values = fold residue_step 1 values

-- the values that a prefix counts as: the higher bits of each character, a zero, and the lower five
-- bits of each
abbrev pub expansion : List ℕ → List ℕ
expansion prefix = map (λ c. c / 32) prefix ++ 0 ∷ map (λ c. c % 32) prefix
