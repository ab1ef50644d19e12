-- The command line as `clap` is told it: words by their places, none of which has to be there.
use Rattle.std.specs.Prelude.{true, ℕ, List, [], ◌∷◌, codes}
use Rattle.std.specs.List.{fold}
use Rattle.clap.specs.Simple.{App, new_app, new_rule, with_rule}

-- the program's own name is not among the words
abbrev pub without_own_name : App → App
without_own_name a = record a { top = record a.top { no_binary_name = true } }

-- the names of the places: the longest command has six words
abbrev pub places : List (List ℕ)
places =
    codes "first" ∷ codes "second" ∷ codes "third" ∷ codes "fourth" ∷ codes "fifth" ∷ codes "sixth"
    ∷ []

abbrev pub six : App
six = fold (λ app place. with_rule app (new_rule place)) (without_own_name (new_app (codes "stakeplay"))) places
