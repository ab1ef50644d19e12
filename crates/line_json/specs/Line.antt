-- Written lines.
use Rattle.std.specs.Prelude.{ℕ, List, [], ◌∷◌, ◌++◌, codes}
use Rattle.serde_json.specs.Data.{Data, number, unsigned, string, object, Members, no_members, put}
use Rattle.serde_json.specs.Written.{compact_text}

-- names with their values, put in ascending order of the names
abbrev pub members_of : List (List ℕ × Data) → Members
members_of [] = no_members
members_of (m ∷ ms) = put m.0 m.1 (members_of ms)

-- an object of these members
abbrev pub object_of : List (List ℕ × Data) → Data
object_of ms = object (members_of ms)

-- what is told at a height: the height, a kind and further members
abbrev pub told_members : ℕ → List ℕ → List (List ℕ × Data) → Members
told_members height kind ms =
    members_of ((codes "height", number (unsigned height)) ∷ (codes "kind", string kind) ∷ ms)

abbrev pub told_at : ℕ → List ℕ → List (List ℕ × Data) → Data
told_at height kind ms = object (told_members height kind ms)

-- the compact text of an object, and the byte that ends a line
abbrev pub line_of : Data → List ℕ
line_of d = compact_text d ++ 10 ∷ []
