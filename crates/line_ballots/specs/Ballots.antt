-- The ballot that a line spells, and what is written of a tally.
use Rattle.std.specs.Prelude.{ℕ, List, [], ◌∷◌, bytes_eq, codes, if◌then◌else◌, Option, Some, None, Result, Ok}
use Rattle.serde_json.specs.Data.{Data, string}
use Rattle.base_bech32.specs.declared.form.Form.{Form}
use Rattle.base_coins.specs.Steps.{◌>>=◌}
use Rattle.base_messages.specs.declared.faults.LineFault.{LineFault}
use Rattle.line_json.specs.Reading.{tree_of}
use Rattle.line_json.specs.Members.{member_at, only_named, spelled_by, user_at, word_at}
use Rattle.line_json.specs.Line.{line_of, object_of}
use Rattle.line_json.specs.Values.{decimal_data, whole_data}
use Rattle.mod_tally.specs.declared.choice.Choice.{Choice}
use Rattle.mod_tally.specs.declared.choice.Choice.TheVariants.{Yes, Abstain, No, Veto}
use Rattle.mod_tally.specs.declared.outcome.Tally.{Tally}
use Rattle.line_ballots.specs.declared.ballot.Ballot.{Ballot}

-- ---- a ballot

-- the choice of this name
unfoldable pub choice_of : List ℕ → Option Choice
choice_of name =
    if bytes_eq name (codes "yes") then Some Yes
    else (if bytes_eq name (codes "abstain") then Some Abstain
    else (if bytes_eq name (codes "no") then Some No
    else (if bytes_eq name (codes "no_with_veto") then Some Veto else None)))

-- what a ballot chooses
abbrev pub choice_at : Data → Result Choice LineFault
choice_at = member_at (spelled_by choice_of) 142 (codes "option")

-- the ballot of a tree
unfoldable pub ballot_of_tree : Form → Data → Result Ballot LineFault
ballot_of_tree f d = do
  kind ← word_at 140 (codes "kind") (codes "ballot") d
  voter ← user_at f 141 (codes "voter") d
  choice ← choice_at d
  only ← only_named (codes "kind" ∷ codes "voter" ∷ codes "option" ∷ []) d
  Ok (record { voter = voter; choice = choice })

-- the ballot that the line spells, or the first fault of it
unfoldable pub ballot_of : Form → List ℕ → Result Ballot LineFault
ballot_of f line = tree_of line >>= ballot_of_tree f

-- ---- a tally

-- the totals of the choices, and the tokens of all bonded validators
abbrev pub tally_data : Tally → Data
tally_data t = object_of (
    (codes "kind", string (codes "tally"))
    ∷ (codes "yes", decimal_data t.yes)
    ∷ (codes "abstain", decimal_data t.abstain)
    ∷ (codes "no", decimal_data t.no)
    ∷ (codes "no_with_veto", decimal_data t.veto)
    ∷ (codes "bonded", whole_data t.bonded)
    ∷ [])

-- what is written of a tally
abbrev pub text_of_tally : Tally → List ℕ
text_of_tally t = line_of (tally_data t)
