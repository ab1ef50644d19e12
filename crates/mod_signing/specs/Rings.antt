-- How the bits of rings stand in rows of a table.
use Rattle.std.specs.Prelude.{ℕ, zero, suc, ◌+◌, ◌/◌, ◌%◌, ◌==◌, Bool, List, [], ◌∷◌, ◌++◌, take, drop}
use Rattle.std.specs.declared.cmp.Ordering.{Ordering}
use Rattle.std.specs.Int.{bit_at}
use Rattle.std.specs.Ordering.{nat_cmp}
use Rattle.base_types.specs.Orders.{cons_cmp}
use Rattle.base_roles.specs.Entries.{number_at}
use Rattle.base_roles.specs.Orders.{both_cmp}

-- the number of a row, then a consensus address: what a block's votes change lies side by side
abbrev pub row_cmp : ℕ × List ℕ → ℕ × List ℕ → Ordering
row_cmp x y = both_cmp nat_cmp cons_cmp x y

-- Rows by number and consensus address. A row has a bit for each of 128 places, the lowest for the first; where none stands,
-- no place is set.
abbrev pub Rows : Type 0
Rows = List ((ℕ × List ℕ) × ℕ)

-- whether a test passes at each of the first numbers, so many of them
abbrev pub firsts : (ℕ → Bool) → ℕ → List Bool
firsts test zero = []
firsts test (suc n) = firsts test n ++ test n ∷ []

-- whether a place of a row is set
abbrev pub is_set : ℕ → ℕ → Bool
is_set row place = bit_at row place == 1

-- whether a place of the ring of a consensus address is set
abbrev pub place_set : Rows → List ℕ → ℕ → Bool
place_set rows cons place = is_set (number_at row_cmp rows (place / 128, cons)) (place % 128)

-- the first places of a ring, so many of them
abbrev pub ring_of : Rows → List ℕ → ℕ → List Bool
ring_of rows cons n = firsts (place_set rows cons) n

-- a ring with this vote at a place, which is one of its own, or the next behind its last
abbrev pub ring_with : ℕ → Bool → List Bool → List Bool
ring_with place missed ring = take place ring ++ missed ∷ drop (place + 1) ring

-- the first places of a row, so many of them
abbrev pub places_of : ℕ → ℕ → List Bool
places_of row n = firsts (is_set row) n
