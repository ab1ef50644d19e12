-- A stopped run, and one that goes on from its rows, print together what one run prints.
use Rattle.std.specs.Prelude.{◌≡◌, ◌⊎◌, ℕ, List, [], ◌++◌, length, Some, option_map}
use Rattle.base_bech32.specs.declared.form.Form.{Form}
use Rattle.base_io.specs.Rows.{Pair}
use Rattle.rule_modules.specs.Chain.{State}
use Rattle.run_generated.specs.Writing.{IsFront}
use Rattle.store_commits.specs.Held.{rows_at}
use Rattle.store_resuming.specs.Restored.{IsStorable, rows_of}
use Rattle.run_app.specs.Laws.{AnswersJoin, MayGoOn, ResumesAreTheRest, RowsDecideAnswers, RunsMayGoOn, moved}
use Rattle.run_app.specs.Lines.{lines_of}
use Rattle.run_app.specs.Machine.{Standing}
use Rattle.run_app.specs.Outcome.{answer_from}
use Rattle.run_app.specs.Runs.{Ran}
use Rattle.run_app.specs.Stops.{AreRowsBehind, LacksOfLast}

-- The whole is what was printed; then what is lacking of the texts of the last N stored lines, if
-- anything; then what the run prints that goes on.
pub record PrintsTheRest (form : Form) (every : ℕ) (first : Standing) (stored : List (List ℕ)) (text : List ℕ) (whole rest : Ran) : Type 0 where
  pub lacking : List ℕ
  pub of_last : LacksOfLast form every first stored text lacking
  pub text_is : whole.text ≡ text ++ (lacking ++ rest.text)

-- All lines were stored and printed, and behind them a front of the report, which the run prints
-- again that goes on.
pub record PrintsReportAgain (text : List ℕ) (whole rest : Ran) : Type 0 where
  pub done : List ℕ
  pub front : List ℕ
  pub text_is : text ≡ done ++ front
  pub part : IsFront front rest.text
  pub whole_is : whole.text ≡ done ++ rest.text

-- What a stopped run printed for stored lines, and what the run prints that goes on over the other
-- lines, are the whole of one run over all. Both have the same fault, or none, but for the number
-- of its line.
pub record AreJoined (form : Form) (every : ℕ) (first : Standing) (stored others : List (List ℕ)) (text : List ℕ) (whole rest : Ran) : Type 0 where
  pub texts :
      PrintsTheRest form every first stored text whole rest
      ⊎ ((others ≡ []) × PrintsReportAgain text whole rest)
  pub fault_is : whole.fault ≡ option_map (moved (length stored)) rest.fault

-- How a run goes on that was stopped. The rows that it left are those after some of its lines: there
-- are none, or they are those of a state that a keeper can hold. And what goes on from there, over
-- an input of the other lines, prints the rest.
pub record IsContinued (form : Form) (every : ℕ) (first : Standing) (input text : List ℕ) (left : List Pair) : Type 0 where
  pub stored : List (List ℕ)
  pub others : List (List ℕ)
  pub end : Standing
  pub lines_are : lines_of input ≡ stored ++ others
  pub rows_are : left ≡ rows_at end
  pub storable : (p : State) → end ≡ Some p → IsStorable p × (left ≡ rows_of p)
  pub joined :
      (rest : List ℕ) → lines_of rest ≡ others
      → AreJoined form every first stored others text (answer_from form first input) (answer_from form end rest)

-- So it is with each run that began before a genesis or from a sound state, wherever it was stopped, at however many blocks it committed.
abbrev pub StoppedRunsGoOn : Form → Type 0
StoppedRunsGoOn form =
    (every : ℕ) (first : Standing) (input text : List ℕ) (left : List Pair)
    → MayGoOn first → AreRowsBehind form every first input text left
    → IsContinued form every first input text left

-- What holds of runs that go on: a stopped and a resumed one print what one run prints; from wherever
-- lines led, a run writes the rest, and its answers are those of one run; wherever lines lead, a run
-- may go on; and states of the same rows answer alike.
pub record RunsGoOn (form : Form) : Type 0 where
  pub stopped : StoppedRunsGoOn form
  pub rest : ResumesAreTheRest form
  pub joined : AnswersJoin form
  pub onward : RunsMayGoOn form
  pub alike : RowsDecideAnswers form
