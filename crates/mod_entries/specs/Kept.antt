-- What entries are seen as, and what one change makes of it.
use Rattle.std.specs.Prelude.{◌≡◌, ◌++◌, Bool, false, true, List, [], ◌∷◌}
use Rattle.base_table.specs.Tabled.{Tabled}

-- The entries by key, those at each open mark with the latest last, those at the last settling, and whether memory was wanting
-- in a change.
pub record Kept (K E : Type 0) : Type 0 where
  pub lists : List (K × List E)
  pub marks : List (List (K × List E))
  pub settled : List (K × List E)
  pub spent : Bool

-- what stays while entries change
pub record Behind (K E : Type 0) : Type 0 where
  pub marks : List (List (K × List E))
  pub settled : List (K × List E)

module _ {K E : Type 0} where
  -- nothing stands yet
  abbrev pub nothing_kept : Kept K E
  nothing_kept = record { lists = []; marks = []; settled = []; spent = false }

  -- what is seen of a table of entries
  abbrev pub kept : Tabled K (List E) → Bool → Kept K E
  kept lists spent = record { lists = lists.entries; marks = lists.marks; settled = lists.settled; spent = spent }

  -- with other entries
  abbrev pub holding : List (K × List E) → Kept K E → Kept K E
  holding u k = record k { lists = u }

  -- once memory was wanting in a change
  abbrev pub spent_now : Kept K E → Kept K E
  spent_now k = record k { spent = true }

  -- with one more mark
  abbrev pub with_mark : Kept K E → Kept K E
  with_mark k = record k { marks = k.marks ++ k.lists ∷ [] }

  -- settled as it is
  abbrev pub settled_now : Kept K E → Kept K E
  settled_now k = record k { settled = k.lists }

  abbrev pub behind : Kept K E → Behind K E
  behind k = record { marks = k.marks; settled = k.settled }

  -- the new ones are the old ones gone back to their latest mark, which is closed
  pub record IsGoneBack (old new : Kept K E) : Type 0 where
    pub restored : new.marks ++ new.lists ∷ [] ≡ old.marks
    pub rest : new ≡ record old { lists = new.lists; marks = new.marks }

  -- the new ones are the old ones with their latest mark closed
  pub record IsForgotten (old new : Kept K E) : Type 0 where
    pub closed : (last : List (K × List E)) × (new.marks ++ last ∷ [] ≡ old.marks)
    pub rest : new ≡ record old { marks = new.marks }
