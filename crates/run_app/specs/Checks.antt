-- How a run ends that checks statements, of which each line of its input is one: of the command `check`.
use Rattle.std.specs.Prelude.{◌≡◌, ℕ, ◌+◌, ◌≤◌, ◌<◌, ◌⊎◌, Bool, List, [], ◌∷◌, ◌++◌, length, nat_lt, if◌then◌else◌, Option, Some, None, Result, Ok, Err}
use Rattle.base_bech32.specs.declared.form.Form.{Form}
use Rattle.base_io.specs.Calls.{AddsPart}
use Rattle.base_io.specs.Outside.{IsPart}
use Rattle.base_messages.specs.declared.faults.LineFault.{LineFault}
use Rattle.line_statements.specs.Statements.{statement_of, text_of_answer}
use Rattle.mod_statement.specs.declared.fault.StatementFault.{StatementFault}
use Rattle.mod_statement.specs.declared.fault.StatementFault.TheVariants as fault
use Rattle.mod_statement.specs.declared.statement.Statement.{Statement}
use Rattle.mod_statement.specs.Answers.{IsAnswer}
use Rattle.mod_statement.specs.Bounds.{bounds_of}
use Rattle.run_app.specs.declared.status.InputFault.TheVariants.{BadShape}
use Rattle.run_app.specs.declared.status.Status.{Status}
use Rattle.run_app.specs.declared.status.Status.TheVariants.{Done, BadInput, Limit, ReadFault, WriteFault, NoMemory}
use Rattle.run_app.specs.declared.status.LimitKind.TheVariants.{Line, Input, Bound}
use Rattle.run_app.specs.Ending.{status_of}
use Rattle.run_app.specs.Lines.{whole_from, rest_from, lines_of}
use Rattle.run_app.specs.Machine.{longest, not_read}
use Rattle.run_app.specs.Outcome.{AreEnded, most_bytes}
use Rattle.run_app.specs.Seen.{SinkTold, SourceTold}
use Rattle.run_app.specs.Told.{TakesFrom}
use Rattle.run_generated.specs.Writing.{Grows}

-- ---- a line

-- Why the statement of the line of this number has no bounds: an operation of them is over, or its
-- entries are no span.
abbrev pub not_bounded : ℕ → StatementFault → Status
not_bounded n (fault.Over over) = Limit n (Bound over)
not_bounded n fault.NoSpan = BadInput n (BadShape 130)
not_bounded n fault.NoMemory = NoMemory

-- the fault of bounds that are wanting; none where they are there
abbrev pub fault_of_bounds : {B : Type 0} → ℕ → Result B StatementFault → Option Status
fault_of_bounds n (Ok due) = None
fault_of_bounds n (Err why) = Some (not_bounded n why)

abbrev pub fault_of : ℕ → Result Statement LineFault → Option Status
fault_of n (Err why) = Some (status_of (not_read n why))
fault_of n (Ok s) = fault_of_bounds n (bounds_of s.entries s.removals s.ratio)

-- Why the line of this number is not answered: it is over its limit, it is no statement, or its
-- entries have no bounds. None where it is answered.
unfoldable pub fault_at : Form → ℕ → List ℕ → Option Status
fault_at form n line =
    if nat_lt longest (length line) then Some (Limit n Line) else fault_of n (statement_of form line)

-- The line of this number is answered with this text: it is a statement within its limit, and the text
-- tells whether that is right.
pub record IsChecked (form : Form) (n : ℕ) (line text : List ℕ) : Type 0 where
  pub statement : Statement
  pub right : Bool
  pub short : length line ≤ longest
  pub statement_is : statement_of form line ≡ Ok statement
  pub answer : IsAnswer statement right
  pub text_is : text ≡ text_of_answer n right

-- why a line within its limit is not answered; memory may always be wanting
abbrev pub IsUnanswered : Form → ℕ → List ℕ → Status → Type 0
IsUnanswered form n line (BadInput m why) = fault_at form n line ≡ Some (BadInput m why)
IsUnanswered form n line (Limit m (Bound over)) = fault_at form n line ≡ Some (Limit m (Bound over))
IsUnanswered form n line NoMemory = Unit {0}
IsUnanswered form n line _ = ⊥

-- the line is answered, and its text was written
abbrev pub TakesCheck : Form → ℕ → List ℕ → Option (List ℕ) → Option (List ℕ) → Type 0
TakesCheck form n line w w' = (text : List ℕ) × IsChecked form n line text × Grows w w' text

-- a part of its text was written
abbrev pub WritesPart : Form → ℕ → List ℕ → Option (List ℕ) → Option (List ℕ) → Type 0
WritesPart form n line w w' = (text : List ℕ) × IsChecked form n line text × AddsPart w w' text

-- The line stops the run: it is not answered, and nothing was written; or its text was not written
-- whole.
abbrev pub HaltsCheck : Form → Status → ℕ → List ℕ → Option (List ℕ) → Option (List ℕ) → Type 0
HaltsCheck form status n line w w' =
    (IsUnanswered form n line status × (w' ≡ w))
    ⊎ (((status ≡ WriteFault) ⊎ (status ≡ NoMemory)) × WritesPart form n line w w')

-- ---- lines

-- each of the lines from this number on is answered, and this is the text of all
abbrev pub AreChecked : Form → ℕ → List (List ℕ) → List ℕ → Type 0
AreChecked form n [] text = text ≡ []
AreChecked form n (line ∷ lines) text =
    (first : List ℕ) × (rest : List ℕ) × IsChecked form n line first × (text ≡ first ++ rest)
    × AreChecked form (n + 1) lines rest

-- the lines before one are answered with this text, and that one stops the run so
pub record StopsCheck (form : Form) (status : Status) (lines : List (List ℕ)) (text : List ℕ) : Type 0 where
  pub before : List (List ℕ)
  pub line : List ℕ
  pub after : List (List ℕ)
  pub lines_are : lines ≡ before ++ line ∷ after
  pub checked : AreChecked form 1 before text
  pub stop : fault_at form (1 + length before) line ≡ Some status

-- the lines before one are answered, and a part of that one's text was written behind theirs
pub record CutsCheck (form : Form) (lines : List (List ℕ)) (text : List ℕ) : Type 0 where
  pub before : List (List ℕ)
  pub line : List ℕ
  pub after : List (List ℕ)
  pub lines_are : lines ≡ before ++ line ∷ after
  pub done : List ℕ
  pub answer : List ℕ
  pub front : List ℕ
  pub checked : AreChecked form 1 before done
  pub one : IsChecked form (1 + length before) line answer
  pub part : IsPart front answer
  pub text_is : text ≡ done ++ front

-- the first of the lines are answered with this text
pub record BeginsCheck (form : Form) (lines : List (List ℕ)) (text : List ℕ) : Type 0 where
  pub before : List (List ℕ)
  pub after : List (List ℕ)
  pub lines_are : lines ≡ before ++ after
  pub checked : AreChecked form 1 before text

-- ---- an input

-- as many bytes were taken as an input may have, and one more came, at which the line was not too long
pub record PassesCheck (form : Form) (n : ℕ) (taken text : List ℕ) : Type 0 where
  pub bytes : List ℕ
  pub byte : ℕ
  pub taken_is : taken ≡ bytes ++ byte ∷ []
  pub full : length bytes ≡ most_bytes
  pub checked : AreChecked form 1 (whole_from [] bytes) text
  pub number : n ≡ 1 + length (whole_from [] bytes)
  pub line : (byte ≡ 10) ⊎ (length (rest_from [] bytes) < longest)

-- a line of an input, of which these bytes were taken and those are left, stops the run so
abbrev pub StopsCheckIn : Form → Status → List ℕ → List ℕ → List ℕ → Type 0
StopsCheckIn form status taken rest text =
    (length taken ≤ most_bytes)
    × (lines : List (List ℕ)) × AreEnded lines taken rest × StopsCheck form status lines text

-- From an input of which these bytes were taken and those are left, a run wrote this text and ended
-- so.
abbrev pub ChecksSo : Form → Status → List ℕ → List ℕ → List ℕ → Type 0
ChecksSo form Done taken rest text =
    (rest ≡ []) × (length taken ≤ most_bytes) × AreChecked form 1 (lines_of taken) text
ChecksSo form (BadInput n why) taken rest text = StopsCheckIn form (BadInput n why) taken rest text
ChecksSo form (Limit n Line) taken rest text =
    (length taken ≤ most_bytes + 1)
    × ((more : List ℕ) → StopsCheck form (Limit n Line) (lines_of (taken ++ more)) text)
ChecksSo form (Limit n Input) taken rest text = PassesCheck form n taken text
ChecksSo form (Limit n (Bound over)) taken rest text =
    StopsCheckIn form (Limit n (Bound over)) taken rest text
ChecksSo form ReadFault taken rest text =
    (length taken ≤ most_bytes) × AreChecked form 1 (whole_from [] taken) text
ChecksSo form WriteFault taken rest text =
    (length taken ≤ most_bytes)
    × (((lines : List (List ℕ)) × AreEnded lines taken rest × CutsCheck form lines text)
    ⊎ ((rest ≡ []) × AreChecked form 1 (lines_of taken) text))
ChecksSo form NoMemory taken rest text =
    (length taken ≤ most_bytes)
    × (lines : List (List ℕ)) × AreEnded lines taken rest
    × (CutsCheck form lines text ⊎ BeginsCheck form lines text)
ChecksSo form _ taken rest text = ⊥

-- There are bytes and a text, as the source and the sink tell them where they do: the source was taken to
-- its end, and this is the text of the answers to its lines.
abbrev pub ChecksAll : Form → Option (List ℕ) → Option (List ℕ) → Option (List ℕ) → Option (List ℕ) → Type 0
ChecksAll form left left' written written' =
    (taken : List ℕ) × (text : List ℕ)
    × TakesFrom left left' taken [] × Grows written written' text
    × (length taken ≤ most_bytes) × AreChecked form 1 (lines_of taken) text

-- There are bytes that were taken, a rest that is left, and a text that was written, as the source and
-- the sink tell them where they do, by which a run ended so.
abbrev pub CheckEnds : Form → SourceTold → SinkTold → Status → Type 0
CheckEnds form source sink status =
    (taken : List ℕ) × (rest : List ℕ) × (text : List ℕ)
    × TakesFrom source.left source.left' taken rest × Grows sink.written sink.written' text × ChecksSo form status taken rest text

-- a source that tells, and an input within its limit, of which each line is answered
pub record ChecksCalmly (form : Form) (left : Option (List ℕ)) : Type 0 where
  pub input : List ℕ
  pub text : List ℕ
  pub left_is : left ≡ Some input
  pub good : AreChecked form 1 (lines_of input) text
  pub short : length input ≤ most_bytes
