-- What a stop may leave behind a run.
use Rattle.std.specs.Prelude.{◌≡◌, ◌⊎◌, ℕ, ◌+◌, ◌≤◌, List, [], ◌++◌, length, Option, Some, None, Ok, IsSome}
use Rattle.base_bech32.specs.declared.form.Form.{Form}
use Rattle.run_generated.specs.Writing.{Grows, IsFront}
use Rattle.base_io.specs.Rows.{Pair}
use Rattle.store_resuming.specs.Restored.{IsStorable, state_rows}
use Rattle.store_rows.specs.declared.format.Format.{Format}
use Rattle.rule_modules.specs.Chain.{State}
use Rattle.run_words.specs.declared.mode.Mode.{Mode}
use Rattle.run_words.specs.declared.mode.Mode.TheVariants.{Replay, Resume, Query, Tally, Check, Statement, Gen, Trial}
use Rattle.run_app.specs.Kept.{AreRowsOf}
use Rattle.run_app.specs.Lines.{lines_of}
use Rattle.run_app.specs.Machine.{Standing, report_of}
use Rattle.run_app.specs.Runs.{AreAnswered}
use Rattle.run_app.specs.Told.{IsToldAs}

-- Each of these lines has its answer. The texts of all but the last N were written, and those of the last N but for this lacking part.
pub record LacksOfLast (form : Form) (every : ℕ) (first : Standing) (lines : List (List ℕ)) (text lacking : List ℕ) : Type 0 where
  pub before : List (List ℕ)
  pub last : List (List ℕ)
  pub middle : Standing
  pub end : Standing
  pub done : List ℕ
  pub due : List ℕ
  pub front : List ℕ
  pub lines_are : lines ≡ before ++ last
  pub few : length last ≤ every
  pub answered : AreAnswered form 1 first before done middle
  pub answered_last : AreAnswered form (1 + length before) middle last due end
  pub text_is : text ≡ done ++ front
  pub due_lacks : due ≡ front ++ lacking

-- All of these answers were written, and behind them a front of the report.
pub record ReportsBehind (form : Form) (end : Standing) (answers text : List ℕ) : Type 0 where
  pub report : List ℕ
  pub front : List ℕ
  pub report_is : report_of form end ≡ Ok report
  pub part : IsFront front report
  pub text_is : text ≡ answers ++ front

-- What was written for lines: all answers but for a part of those of the last N lines; or, where no line is behind them, all answers
-- and a front of the report.
abbrev pub IsOfAnswers : Form → ℕ → Standing → List (List ℕ) → List (List ℕ) → Standing → List ℕ → List ℕ → Type 0
IsOfAnswers form every first lines more end answers text =
    ((lacking : List ℕ) × LacksOfLast form every first lines text lacking)
    ⊎ ((more ≡ []) × ReportsBehind form end answers text)

-- The rows after a front of the input's lines, each of which has its answer. Of these answers at most the texts of the last N were
-- not written to their end, and no line behind them has a byte in what was written.
pub record AreRowsBehind (form : Form) (every : ℕ) (first : Standing) (input text : List ℕ) (left : List Pair) : Type 0 where
  pub lines : List (List ℕ)
  pub more : List (List ℕ)
  pub end : Standing
  pub answers : List ℕ
  pub lines_are : lines_of input ≡ lines ++ more
  pub answered : AreAnswered form 1 first lines answers end
  pub kept : AreRowsOf left end
  pub written : IsOfAnswers form every first lines more end answers text

-- A stop behind a run that began at the first standing, over this input, and wrote this text: it leaves what it could leave
-- before, and nothing was written; or the rows after a front of the lines that holds each line of which a byte was written, and at most
-- N lines more.
abbrev pub StopLeaves : Form → ℕ → Standing → (List Pair → Type 0) → (List Pair → Type 0) → List ℕ → List ℕ → Type 0
StopLeaves form every first leaves leaves' input text = (left : List Pair) → leaves' left → (leaves left × (text ≡ [])) ⊎ AreRowsBehind form every first input text left

-- The same of a run over a keeper that tells its rows as the run begins, and is honest to its end: there are an input and a text, as
-- the source and the sink tell them where they do, of which a stop leaves so.
abbrev pub RunStops : Form → ℕ → Standing → Option (List ℕ) → Option (List ℕ) → Option (List ℕ) → Option (List Pair) → Type 0 → (List Pair → Type 0) → (List Pair → Type 0) → Type 0
RunStops form every first left written written' rows honest' leaves leaves' =
    honest' → IsSome rows →
    (input : List ℕ) × (text : List ℕ)
    × IsToldAs left input × Grows written written' text × StopLeaves form every first leaves leaves' input text

-- a stop leaves what it could leave before
abbrev pub LeavesAsBefore : Type 0 → (List Pair → Type 0) → (List Pair → Type 0) → Type 0
LeavesAsBefore honest' leaves leaves' = honest' → (left : List Pair) → leaves' left → leaves left

-- What a stop leaves behind each command. A replay begins on no rows, a resume on those of a state
-- in one format or the other; nothing else changes any.
abbrev pub ModeStops : Form → ℕ → Mode → Option (List ℕ) → Option (List ℕ) → Option (List ℕ) → Option (List Pair) → Type 0 → (List Pair → Type 0) → (List Pair → Type 0) → Type 0
ModeStops form every Replay left written written' rows honest' leaves leaves' = RunStops form every None left written written' rows honest' leaves leaves'
ModeStops form every Resume left written written' rows honest' leaves leaves' = (f : Format) (p : State) → IsStorable p → rows ≡ Some (state_rows f p) → RunStops form every (Some p) left written written' rows honest' leaves leaves'
ModeStops form every (Query what) left written written' rows honest' leaves leaves' = LeavesAsBefore honest' leaves leaves'
ModeStops form every Tally left written written' rows honest' leaves leaves' = LeavesAsBefore honest' leaves leaves'
ModeStops form every Check left written written' rows honest' leaves leaves' = LeavesAsBefore honest' leaves leaves'
ModeStops form every (Statement delegator operator) left written written' rows honest' leaves leaves' = LeavesAsBefore honest' leaves leaves'
ModeStops form every (Gen seed count) left written written' rows honest' leaves leaves' = LeavesAsBefore honest' leaves leaves'
ModeStops form every (Trial seed count) left written written' rows honest' leaves leaves' = LeavesAsBefore honest' leaves leaves'
