-- The answers of what asks for past rows, and of what begins to keep them.
use Rattle.std.specs.Prelude.{◌≡◌, ◌⊎◌, ℕ, ◌<◌, ◌≤◌, List, map, Some, None, Result, Ok, Err, Vec}
use Rattle.std.specs.declared.alloc.Global.{Global}
use Rattle.base_io.specs.declared.keeper.Row.{Row}
use Rattle.base_io.specs.Rows.{Pair}
use Rattle.base_io.specs.Changes.{pair_of}
use Rattle.store_history.specs.declared.going_back.PastFault.{PastFault}
use Rattle.store_history.specs.declared.going_back.PastFault.TheVariants.{BadHistory, NoPast, NoMemory}
use Rattle.store_history.specs.History.{ArePast, IsHistory, base_of, last_of}

-- Rows of a history, of which a height is between the base and the last height.
pub record IsWithin (rows : List Pair) (height last : ℕ) : Type 0 where
  pub history : IsHistory rows
  pub last_is : last_of rows ≡ Some last
  pub low : base_of rows last ≤ height
  pub high : height ≤ last

-- Rows of a history, of which a height is outside of the base and the last height, which are these.
pub record IsOutside (rows : List Pair) (height base last : ℕ) : Type 0 where
  pub history : IsHistory rows
  pub last_is : last_of rows ≡ Some last
  pub base_is : base ≡ base_of rows last
  pub outside : (height < base) ⊎ (last < height)

-- What is answered where past rows at a height are asked for: the past rows, where there are any;
-- that the history is not of its form, or no head stands; that it tells nothing of this height; or
-- that memory is wanting.
abbrev pub Tells : List Pair → ℕ → Result (Vec Row Global) PastFault → Type 0
Tells rows height (Ok past) =
    ((last : ℕ) × IsWithin rows height last) × ArePast rows height (map pair_of past.items)
Tells rows height (Err BadHistory) = IsHistory rows → last_of rows ≡ None
Tells rows height (Err (NoPast base last)) = IsOutside rows height base last
Tells rows height (Err NoMemory) = Unit {0}
