-- How the input is cut into lines. `line` is what came of a line before the bytes.
use Rattle.std.specs.Prelude.{ℕ, List, [], ◌∷◌, ◌++◌, ◌==◌, if◌then◌else◌}

-- the lines that end within the bytes, each without its end, the byte 10
abbrev pub whole_from : List ℕ → List ℕ → List (List ℕ)
whole_from line [] = []
whole_from line (b ∷ bytes) = if b == 10 then line ∷ whole_from [] bytes else whole_from (line ++ b ∷ []) bytes

-- what comes after the last end
abbrev pub rest_from : List ℕ → List ℕ → List ℕ
rest_from line [] = line
rest_from line (b ∷ bytes) = if b == 10 then rest_from [] bytes else rest_from (line ++ b ∷ []) bytes

-- bytes after the last end are a line, and no bytes are none
abbrev pub last_line : List ℕ → List (List ℕ)
last_line [] = []
last_line (b ∷ bytes) = (b ∷ bytes) ∷ []

-- all lines, where the input ends with these bytes
abbrev pub lines_from : List ℕ → List ℕ → List (List ℕ)
lines_from line bytes = whole_from line bytes ++ last_line (rest_from line bytes)

-- the lines of an input
abbrev pub lines_of : List ℕ → List (List ℕ)
lines_of input = lines_from [] input
