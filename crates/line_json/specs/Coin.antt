-- Coins, and lists of coins, with whole amounts or with decimals.
use Rattle.std.specs.Prelude.{ℕ, List, [], ◌∷◌, map, codes, if◌then◌else◌, Result, Ok, Err}
use Rattle.serde_json.specs.Data.{Data}
use Rattle.base_coins.specs.Steps.{◌>>=◌}
use Rattle.base_coins.specs.Coins.{Money, sorted_coins, stands_twice}
use Rattle.base_coins.specs.declared.coin.Coin.{Coin}
use Rattle.base_coins.specs.declared.coin.DecCoin.{DecCoin}
use Rattle.base_messages.specs.declared.faults.LineFault.{LineFault}
use Rattle.base_messages.specs.declared.faults.LineFault.TheVariants.{BadShape}
use Rattle.line_json.specs.Members.{denom_at, amount_at, decimal_at, only_named}
use Rattle.line_json.specs.Nested.{object_at, list_at}

-- an amount of a denomination
unfoldable pub coin_of : Data → Result Coin LineFault
coin_of d = do
  denom ← denom_at 32 (codes "denom") d
  amount ← amount_at 33 (codes "amount") d
  only ← only_named (codes "denom" ∷ codes "amount" ∷ []) d
  Ok (record { denom = denom; amount = amount })

-- one coin
abbrev pub coin_at : ℕ → List ℕ → Data → Result Coin LineFault
coin_at = object_at coin_of

-- coins in any order as a list of coins, where no denomination stands twice
abbrev pub money_of : ℕ → Money → Result Money LineFault
money_of number coins = if stands_twice coins then Err (BadShape number) else Ok (sorted_coins coins)

-- A list of coins in any order, each walked in full. Those of amount 0 are dropped; a denomination that stands
-- twice, also with an amount of 0, is the fault of the list.
unfoldable pub coins_at : ℕ → List ℕ → Data → Result Money LineFault
coins_at number name d = do
  coins ← list_at coin_of number name d
  money_of number (map (λ coin. (coin.denom, coin.amount)) coins)

-- ---- decimals

-- a decimal amount of a denomination
unfoldable pub dec_coin_of : Data → Result DecCoin LineFault
dec_coin_of d = do
  denom ← denom_at 32 (codes "denom") d
  amount ← decimal_at 134 (codes "amount") d
  only ← only_named (codes "denom" ∷ codes "amount" ∷ []) d
  Ok (record { denom = denom; amount = amount })

-- A list of decimal coins in any order, read as one of coins is.
unfoldable pub dec_coins_at : ℕ → List ℕ → Data → Result Money LineFault
dec_coins_at number name d = do
  coins ← list_at dec_coin_of number name d
  money_of number (map (λ coin. (coin.denom, coin.amount)) coins)
