-- What a text begins with: the compact text of a tree that `serde_json` reads.
use Rattle.std.specs.Prelude.{◌≡◌, ℕ, ◌≤◌, List, ◌++◌, Option, Some, IsUtf8}
use Rattle.json.specs.Tree.{depth, HasNumbers}
use Rattle.serde_json.specs.Data.{Data, string}
use Rattle.serde_json.specs.Read.{of_json}
use Rattle.serde_json.specs.Written.{compact_text, outline}

-- A tree as it is written, its members in the order of the text, and the tree that is read from its compact text: no
-- deeper than this, its numbers are numbers, and the text is UTF-8.
pub record IsRead (k : ℕ) (written read : Data) : Type 0 where
  pub numbers : HasNumbers (outline written)
  pub shallow : depth (outline written) ≤ k
  pub back : of_json (outline written) ≡ Some read
  pub utf8 : IsUtf8 (compact_text written)

-- the text is the compact text of a tree that is read as this one, and the rest
pub record Begins (k : ℕ) (text : List ℕ) (read : Data) (rest : List ℕ) : Type 0 where
  pub written : Data
  pub spelled : text ≡ compact_text written ++ rest
  pub is_read : IsRead k written read

-- the text begins with a string of which the form makes this value, and the rest follows
pub record IsSpelled {A : Type 0} (form : List ℕ → Option A) (text : List ℕ) (value : A) (rest : List ℕ) : Type 0 where
  pub word : List ℕ
  pub begins : Begins 0 text (string word) rest
  pub spells : form word ≡ Some value
