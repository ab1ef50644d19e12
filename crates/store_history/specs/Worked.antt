-- Worked rows of a history, each by computing: a genesis and two blocks.
use Rattle.std.specs.Prelude.{◌≡◌, ℕ, List, [], ◌∷◌, ◌++◌, replicate, Option, Some, None}
use Rattle.base_io.specs.Rows.{Pair}
use Rattle.store_history.specs.Commits.{Seen, committed}
use Rattle.store_history.specs.History.{head_key, last_of, past_value, stored_base, visible}

-- a small number in eight bytes
abbrev pub eight : ℕ → List ℕ
eight n = replicate 7 0 ++ n ∷ []

-- a head of this height: a form of rows, the height, and what else it names
abbrev pub head : ℕ → Seen
head height = (head_key, Some (2 ∷ (eight height ++ 9 ∷ [])))

-- the rows of the keys 32 and 33, as changes
abbrev pub first : Option ℕ → Seen
first None = (32 ∷ [], None)
first (Some value) = (32 ∷ [], Some (value ∷ []))

abbrev pub second : ℕ → Seen
second value = (33 ∷ [], Some (value ∷ []))

-- the genesis puts 32, block 1 changes it and puts 33, block 2 removes it
abbrev pub at_genesis : List Pair
at_genesis = committed (head 0 ∷ first (Some 7) ∷ []) []

abbrev pub at_one : List Pair
at_one = committed (head 1 ∷ first (Some 8) ∷ second 5 ∷ []) at_genesis

abbrev pub at_two : List Pair
at_two = committed (head 2 ∷ first None ∷ []) at_one

-- the genesis makes its height the base, and keeps nothing
abbrev pub GenesisRows : Type 0
GenesisRows =
    at_genesis ≡ (1 ∷ [], 2 ∷ (eight 0 ++ 9 ∷ [])) ∷ (32 ∷ [], 7 ∷ []) ∷ (97 ∷ [], eight 0) ∷ []

-- block 1 keeps what each changed row was: a head, a value, and nothing
abbrev pub BlockRows : Type 0
BlockRows =
    at_one
    ≡ (1 ∷ [], 2 ∷ (eight 1 ++ 9 ∷ [])) ∷ (32 ∷ [], 8 ∷ []) ∷ (33 ∷ [], 5 ∷ [])
    ∷ (96 ∷ (eight 1 ++ 1 ∷ []), 1 ∷ 2 ∷ (eight 0 ++ 9 ∷ []))
    ∷ (96 ∷ (eight 1 ++ 32 ∷ []), 1 ∷ 7 ∷ []) ∷ (96 ∷ (eight 1 ++ 33 ∷ []), 0 ∷ [])
    ∷ (97 ∷ [], eight 0) ∷ []

-- what is seen of rows is without them
abbrev pub VisibleRows : Type 0
VisibleRows = visible at_two ≡ (1 ∷ [], 2 ∷ (eight 2 ++ 9 ∷ [])) ∷ (33 ∷ [], 5 ∷ []) ∷ []

-- past values of the keys 32 and 33 at the heights 0, 1 and 2: the least height above decides
abbrev pub PastValues : Type 0
PastValues =
    (past_value at_two 0 (32 ∷ []) ≡ Some (7 ∷ []))
    × (past_value at_two 1 (32 ∷ []) ≡ Some (8 ∷ []))
    × (past_value at_two 2 (32 ∷ []) ≡ None)
    × (past_value at_two 0 (33 ∷ []) ≡ None)
    × (past_value at_two 1 (33 ∷ []) ≡ Some (5 ∷ []))
    × (past_value at_two 2 (33 ∷ []) ≡ Some (5 ∷ []))

-- the base and the last height
abbrev pub Heights : Type 0
Heights = (stored_base at_two ≡ Some 0) × (last_of at_two ≡ Some 2)

-- a commit of the last height, as where rows are brought to another form, begins a new history
abbrev pub BegunAnew : Type 0
BegunAnew =
    committed (head 2 ∷ second 6 ∷ []) at_two
    ≡ (1 ∷ [], 2 ∷ (eight 2 ++ 9 ∷ [])) ∷ (33 ∷ [], 6 ∷ []) ∷ (97 ∷ [], eight 2) ∷ []

-- where no base stands, a commit of a greater height makes the last height the base
abbrev pub BaseOfLast : Type 0
BaseOfLast =
    committed (head 6 ∷ []) ((1 ∷ [], 2 ∷ eight 5) ∷ [])
    ≡ (1 ∷ [], 2 ∷ (eight 6 ++ 9 ∷ [])) ∷ (96 ∷ (eight 6 ++ 1 ∷ []), 1 ∷ 2 ∷ eight 5)
    ∷ (97 ∷ [], eight 5) ∷ []
