-- Worked rows, each by computing.
use Rattle.std.specs.Prelude.{◌≡◌, ℕ, true, false, List, [], ◌∷◌, ◌++◌, replicate, codes, Ok, Err}
use Rattle.base_types.specs.declared.account.Account.TheVariants as account
use Rattle.base_types.specs.declared.account.Module.TheVariants.{FeeCollector}
use Rattle.base_roles.specs.declared.items.Item.{Item}
use Rattle.base_roles.specs.declared.items.Item.TheVariants as item
use Rattle.store_rows.specs.declared.fault.RowFault.TheVariants.{BadRow}
use Rattle.store_rows.specs.declared.format.Format.TheVariants.{First, Second}
use Rattle.store_rows.specs.Fields.{coins_bytes, ring_bytes}
use Rattle.store_rows.specs.Reading.{item_of}
use Rattle.store_rows.specs.Rows.{row_in, row_of, key_bytes, value_in}

abbrev pub uatom : List ℕ
uatom = 117 ∷ 97 ∷ 116 ∷ 111 ∷ 109 ∷ []

-- an address of twenty bytes 11, in hexadecimal digits
abbrev pub alice : List ℕ
alice = replicate 20 17

-- a user's 890 uatom
abbrev pub BalanceRow : Type 0
BalanceRow =
    row_of (item.Balance (account.User alice) (codes "uatom") 890)
    ≡ (16 ∷ replicate 20 17 ++ 5 ∷ 117 ∷ 97 ∷ 116 ∷ 111 ∷ 109 ∷ [], replicate 14 0 ++ 3 ∷ 122 ∷ [])

-- a module has its own address
abbrev pub ModuleKey : Type 0
ModuleKey = key_bytes (item.Balance (account.Module FeeCollector) (codes "uatom") 10) ≡ 16 ∷ replicate 19 0 ++ 1 ∷ 5 ∷ uatom

-- height 1, five seconds after the year 2024 begins, behind the number of the format
abbrev pub head : Item
head = item.Head 1 1_704_067_205_000_000_000

abbrev pub height_and_time : List ℕ
height_and_time = replicate 7 0 ++ 1 ∷ replicate 8 0 ++ 23 ∷ 166 ∷ 16 ∷ 24 ∷ 43 ∷ 106 ∷ 242 ∷ 0 ∷ []

abbrev pub HeadRows : Type 0
HeadRows = (row_in First head ≡ (1 ∷ [], 1 ∷ height_and_time)) × (row_in Second head ≡ (1 ∷ [], 2 ∷ height_and_time))

-- a window of which five places are known, and the second and the fourth were missed
abbrev pub signing : Item
signing = item.Signing (replicate 20 80) (record { start = 0; counted = 5; missed = 2; jailed_until = 0; tombstoned = false }) (false ∷ true ∷ false ∷ true ∷ false ∷ [])

-- start 0, counted 5, missed 2, jailed until the year 1970 begins, not tombstoned
abbrev pub before_ring : List ℕ
before_ring = replicate 7 0 ++ 0 ∷ replicate 7 0 ++ 5 ∷ replicate 7 0 ++ 2 ∷ replicate 16 0 ++ 0 ∷ []

-- the first format has a byte of the five places, the second the numbers of two of them
abbrev pub SigningRows : Type 0
SigningRows =
    (row_in First signing ≡ (48 ∷ replicate 20 80, before_ring ++ 0 ∷ 0 ∷ 0 ∷ 5 ∷ 10 ∷ []))
    × (row_in Second signing ≡ (48 ∷ replicate 20 80, before_ring ++ 0 ∷ 0 ∷ 0 ∷ 5 ∷ 0 ∷ 0 ∷ 0 ∷ 2 ∷ 0 ∷ 0 ∷ 0 ∷ 1 ∷ 0 ∷ 0 ∷ 0 ∷ 3 ∷ []))

-- nine missed places take two bytes; and 28 signed ones take four, which in the second format tell
-- that none was missed
abbrev pub Rings : Type 0
Rings =
    (ring_bytes First (replicate 9 true) ≡ 0 ∷ 0 ∷ 0 ∷ 9 ∷ 255 ∷ 1 ∷ [])
    × (ring_bytes First (replicate 28 false) ≡ 0 ∷ 0 ∷ 0 ∷ 28 ∷ replicate 4 0)
    × (ring_bytes Second (replicate 28 false) ≡ 0 ∷ 0 ∷ 0 ∷ 28 ∷ replicate 4 0)

-- no coins, and one coin of 258 units
abbrev pub CoinLists : Type 0
CoinLists =
    (coins_bytes [] ≡ 0 ∷ 0 ∷ 0 ∷ 0 ∷ [])
    × (coins_bytes ((uatom, 258) ∷ []) ≡ 0 ∷ 0 ∷ 0 ∷ 1 ∷ 5 ∷ 117 ∷ 97 ∷ 116 ∷ 111 ∷ 109 ∷ replicate 14 0 ++ 1 ∷ 2 ∷ [])

-- these rows are read as their items
abbrev pub AreReadBack : Type 0
AreReadBack =
    (item_of First (key_bytes signing) (value_in First signing) ≡ Ok signing)
    × (item_of Second (key_bytes signing) (value_in Second signing) ≡ Ok signing)
    × (item_of Second (65 ∷ []) (replicate 4 0) ≡ Ok (item.Pool []))
    × (item_of Second (66 ∷ replicate 20 17) (replicate 20 18) ≡ Ok (item.Withdraw (replicate 20 17) (replicate 20 18)))

-- the row is the spelling of no item in either format
abbrev pub IsBad : List ℕ → List ℕ → Type 0
IsBad key value = (item_of First key value ≡ Err BadRow) × (item_of Second key value ≡ Err BadRow)

-- no key at all; a byte of no kind; a byte behind the key; one behind the value; one that is missing
abbrev pub BadEnds : Type 0
BadEnds =
    IsBad [] []
    × IsBad (255 ∷ []) []
    × IsBad (65 ∷ 0 ∷ []) (replicate 4 0)
    × IsBad (65 ∷ []) (replicate 5 0)
    × IsBad (65 ∷ []) (replicate 3 0)

-- a supply of 0; rewards that go to a module; a truth value of 2; no number of a format; a bit
-- behind the last place
abbrev pub BadValues : Type 0
BadValues =
    IsBad (17 ∷ 5 ∷ uatom) (replicate 16 0)
    × IsBad (66 ∷ replicate 20 17) (replicate 19 0 ++ 4 ∷ [])
    × IsBad (48 ∷ replicate 20 80) (replicate 40 0 ++ 2 ∷ replicate 4 0)
    × IsBad (1 ∷ []) (3 ∷ replicate 24 0)
    × IsBad (48 ∷ replicate 20 80) (replicate 41 0 ++ 0 ∷ 0 ∷ 0 ∷ 5 ∷ 32 ∷ [])

-- a signing record of the second format with this ring is that of no item
abbrev pub IsBadRing : List ℕ → Type 0
IsBadRing ring = item_of Second (48 ∷ replicate 20 80) (before_ring ++ ring) ≡ Err BadRow

-- a place twice; places that don't ascend; a place at the length; a place too few; a byte behind;
-- the same places in the first format
abbrev pub BadRings : Type 0
BadRings =
    IsBadRing (0 ∷ 0 ∷ 0 ∷ 5 ∷ 0 ∷ 0 ∷ 0 ∷ 2 ∷ 0 ∷ 0 ∷ 0 ∷ 1 ∷ 0 ∷ 0 ∷ 0 ∷ 1 ∷ [])
    × IsBadRing (0 ∷ 0 ∷ 0 ∷ 5 ∷ 0 ∷ 0 ∷ 0 ∷ 2 ∷ 0 ∷ 0 ∷ 0 ∷ 3 ∷ 0 ∷ 0 ∷ 0 ∷ 1 ∷ [])
    × IsBadRing (0 ∷ 0 ∷ 0 ∷ 5 ∷ 0 ∷ 0 ∷ 0 ∷ 1 ∷ 0 ∷ 0 ∷ 0 ∷ 5 ∷ [])
    × IsBadRing (0 ∷ 0 ∷ 0 ∷ 5 ∷ 0 ∷ 0 ∷ 0 ∷ 3 ∷ 0 ∷ 0 ∷ 0 ∷ 1 ∷ 0 ∷ 0 ∷ 0 ∷ 3 ∷ [])
    × IsBadRing (0 ∷ 0 ∷ 0 ∷ 5 ∷ 0 ∷ 0 ∷ 0 ∷ 2 ∷ 0 ∷ 0 ∷ 0 ∷ 1 ∷ 0 ∷ 0 ∷ 0 ∷ 3 ∷ 0 ∷ [])
    × IsBadRing (0 ∷ 0 ∷ 0 ∷ 5 ∷ 10 ∷ [])

-- a coin of 0; a denomination twice; one that begins with a digit
abbrev pub BadCoins : Type 0
BadCoins =
    IsBad (65 ∷ []) (0 ∷ 0 ∷ 0 ∷ 1 ∷ 5 ∷ uatom ++ replicate 16 0)
    × IsBad (65 ∷ []) (0 ∷ 0 ∷ 0 ∷ 2 ∷ 5 ∷ uatom ++ replicate 15 0 ++ 1 ∷ 5 ∷ uatom ++ replicate 15 0 ++ 2 ∷ [])
    × IsBad (65 ∷ []) (0 ∷ 0 ∷ 0 ∷ 1 ∷ 3 ∷ 49 ∷ 97 ∷ 97 ∷ replicate 15 0 ++ 1 ∷ [])
