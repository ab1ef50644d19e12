-- Compact texts of values: what stands there is the compact text of a tree that spells the value.
use Rattle.std.specs.Prelude.{◌≡◌, ℕ, suc, List, map, false, Option, Some, Result, Ok}
use Rattle.serde_json.specs.Data.{Data, Items, array}
use Rattle.base_types.specs.Denom.{denom_of}
use Rattle.base_coins.specs.declared.coin.Coin.{Coin}
use Rattle.base_coins.specs.Coins.{Money, sorted_coins, stands_twice}
use Rattle.base_messages.specs.declared.faults.LineFault.{LineFault}
use Rattle.line_compact.specs.Begins.{Begins}
use Rattle.line_json.specs.Coin.{coin_of}
use Rattle.line_json.specs.Nested.{each_element}

-- the text begins with a tree of this value, and the rest follows
pub record IsCompact {A : Type 0} (form : Data → Result A LineFault) (k : ℕ) (text : List ℕ) (value : A) (rest : List ℕ) : Type 0 where
  pub tree : Data
  pub begins : Begins k text tree rest
  pub reads : form tree ≡ Ok value

-- the text begins with a list of these values, and the rest follows
pub record IsCompactList {A : Type 0} (form : Data → Result A LineFault) (k : ℕ) (text : List ℕ) (values : List A) (rest : List ℕ) : Type 0 where
  pub elements : Items
  pub begins : Begins (suc k) text (array elements) rest
  pub reads : each_element form elements ≡ Ok values

-- the text begins with a coin, if this is the name of a denomination, and the rest follows
pub record IsCompactCoin (text name : List ℕ) (amount : ℕ) (rest : List ℕ) : Type 0 where
  pub tree : Data
  pub begins : Begins 1 text tree rest
  pub reads : (denom : List ℕ) → denom_of name ≡ Some denom → coin_of tree ≡ Ok (record { denom = denom; amount = amount })

-- the coins make this money, and no denomination stands twice
abbrev pub IsMoneyOf : List Coin → Money → Type 0
IsMoneyOf coins money =
    (stands_twice (map (λ coin. (coin.denom, coin.amount)) coins) ≡ false)
    × (money ≡ sorted_coins (map (λ coin. (coin.denom, coin.amount)) coins))
