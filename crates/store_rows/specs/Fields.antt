-- How the fields of a row are spelled by bytes. Numbers have a fixed length and their highest byte first.
use Rattle.std.specs.Prelude.{ℕ, ◌+◌, ◌*◌, zero, suc, Bool, true, false, List, [], ◌∷◌, ◌++◌, length, take, drop}
use Rattle.std.specs.Int.{w32, w64, w128, to_be_bytes, div_ceil}
use Rattle.std.specs.List.{flat_map}
use Rattle.base_types.specs.declared.status.BondStatus.{BondStatus}
use Rattle.base_types.specs.declared.status.BondStatus.TheVariants.{Bonded, Unbonding, Unbonded}
use Rattle.base_coins.specs.declared.coin.DecCoin.{DecCoin}
use Rattle.base_coins.specs.Coins.{Money}
use Rattle.store_rows.specs.declared.format.Format.{Format}
use Rattle.store_rows.specs.declared.format.Format.TheVariants.{First, Second}

-- the length of a list
unfoldable pub four_bytes : ℕ → List ℕ
four_bytes n = to_be_bytes w32 n

-- a height, a period, or a number that is counted
unfoldable pub eight_bytes : ℕ → List ℕ
eight_bytes n = to_be_bytes w64 n

-- an amount, the units of a decimal, the nanoseconds of a moment, or a count of references
unfoldable pub sixteen_bytes : ℕ → List ℕ
sixteen_bytes n = to_be_bytes w128 n

-- a truth value is one byte
abbrev pub truth_byte : Bool → ℕ
truth_byte false = 0
truth_byte true = 1

-- so is a status
abbrev pub status_byte : BondStatus → ℕ
status_byte Bonded = 0
status_byte Unbonding = 1
status_byte Unbonded = 2

-- a denomination: one byte of length, and its bytes
abbrev pub denom_bytes : List ℕ → List ℕ
denom_bytes name = length name ∷ name

-- a list: its length, and its elements
abbrev pub list_bytes : {A : Type 0} → (A → List ℕ) → List A → List ℕ
list_bytes spelled xs = four_bytes (length xs) ++ flat_map spelled xs

-- a decimal coin as a list of coins has it
abbrev pub coin_seen : DecCoin → List ℕ × ℕ
coin_seen c = (c.denom, c.amount)

-- a coin: its denomination, and its amount
abbrev pub coin_bytes : List ℕ × ℕ → List ℕ
coin_bytes coin = denom_bytes coin.0 ++ sixteen_bytes coin.1

abbrev pub coins_bytes : Money → List ℕ
coins_bytes coins = list_bytes coin_bytes coins

-- ---- the places of a window, eight in a byte

-- the number that at most eight places spell, the first in the lowest bit
abbrev pub places_byte : List Bool → ℕ
places_byte [] = 0
places_byte (missed ∷ places) = truth_byte missed + 2 * places_byte places

-- so many bytes, each of the next eight places; a place that is not there is 0
abbrev pub packed : ℕ → List Bool → List ℕ
packed zero places = []
packed (suc n) places = places_byte (take 8 places) ∷ packed n (drop 8 places)

-- how many bytes so many places take
abbrev pub packed_len : ℕ → ℕ
packed_len n = div_ceil n 8

-- a ring in the first format: the number of its places, and the places
abbrev pub packed_ring_bytes : List Bool → List ℕ
packed_ring_bytes places = four_bytes (length places) ++ packed (packed_len (length places)) places

-- ---- the missed places of a window alone

-- the numbers of the missed places, the first place being of this number
abbrev pub missed_from : ℕ → List Bool → List ℕ
missed_from n [] = []
missed_from n (true ∷ places) = n ∷ missed_from (n + 1) places
missed_from n (false ∷ places) = missed_from (n + 1) places

-- counted from 0
abbrev pub missed_of : List Bool → List ℕ
missed_of places = missed_from 0 places

-- a ring in the second format: the number of its places, and the list of the missed ones
abbrev pub missed_ring_bytes : List Bool → List ℕ
missed_ring_bytes places = four_bytes (length places) ++ list_bytes four_bytes (missed_of places)

-- a ring in a format
abbrev pub ring_bytes : Format → List Bool → List ℕ
ring_bytes First = packed_ring_bytes
ring_bytes Second = missed_ring_bytes
