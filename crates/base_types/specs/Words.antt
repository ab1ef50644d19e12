-- Bytes as numbers.
use Rattle.std.specs.Prelude.{ℕ, List, take, drop}
use Rattle.std.specs.Slice.Scan.{big_endian}

-- the number that n bytes from place i on spell, the first of them the highest
abbrev pub number_at : ℕ → ℕ → List ℕ → ℕ
number_at i n bytes = big_endian 0 (take n (drop i bytes))
