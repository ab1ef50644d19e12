-- How much there may be of a denomination.
use Rattle.std.specs.Prelude.{ℕ, ◌^◌, ◌<◌, ◌≤◌, List}
use Rattle.std.specs.List.Sorted.{IsStrictlySortedBy}
use Rattle.std.specs.Map.{keys_of}
use Rattle.base_types.specs.Orders.{denom_cmp}
use Rattle.base_coins.specs.Coins.{Money, amount_of}

-- Denominations ascend, and there is not too much of any.
pub record IsLow (s : Money) : Type 0 where
  pub ascend : IsStrictlySortedBy denom_cmp (keys_of s)
  pub most : (d : List ℕ) → amount_of s d ≤ 10 ^ 18

-- there is too much of some denomination
abbrev pub IsHigh : Money → Type 0
IsHigh s = (d : List ℕ) × (10 ^ 18 < amount_of s d)
