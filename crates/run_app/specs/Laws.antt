-- What lines that are answered lead to: a replay, of which all that the machine keeps is said.
use Rattle.std.specs.Prelude.{◌≡◌, ℕ, ◌+◌, List, [], ◌∷◌, ◌++◌, length, Some, None, option_map, Ok}
use Rattle.base_bech32.specs.declared.form.Form.{Form}
use Rattle.base_messages.specs.declared.block.Block.{Block}
use Rattle.base_messages.specs.declared.report.BlockReport.{BlockReport}
use Rattle.line_json.specs.Block.{block_of}
use Rattle.line_json.specs.Genesis.{genesis_of}
use Rattle.line_json.specs.Written.{text_of_genesis, text_of_block}
use Rattle.rule_modules.specs.Chain.{State}
use Rattle.rule_modules.specs.Sound.{IsSound}
use Rattle.rule_machine.specs.Promises.{Replayed, run_in}
use Rattle.rule_machine.specs.Report as machine
use Rattle.line_report.specs.Lines as report
use Rattle.store_commits.specs.Held.{rows_at}
use Rattle.store_resuming.specs.Restored.{HaveSameRows, IsStorable}
use Rattle.run_app.specs.declared.status.LineStop.{LineStop}
use Rattle.run_app.specs.declared.status.LineStop.TheVariants as stop
use Rattle.run_app.specs.Lines.{lines_of}
use Rattle.run_app.specs.Outcome.{answer_to}
use Rattle.run_app.specs.Machine.{Standing}
use Rattle.run_app.specs.Runs.{AreAnswered, Ran, ran_from}

-- the lines spell these blocks, one each
abbrev pub SpellBlocks : Form → List (List ℕ) → List Block → Type 0
SpellBlocks form [] [] = Unit {0}
SpellBlocks form [] (b ∷ blocks) = ⊥
SpellBlocks form (line ∷ lines) [] = ⊥
SpellBlocks form (line ∷ lines) (b ∷ blocks) = (block_of form line ≡ Ok b) × SpellBlocks form lines blocks

-- the texts of what blocks report, one after the other
abbrev pub texts_of : Form → List BlockReport → List ℕ
texts_of form [] = []
texts_of form (report ∷ reports) = text_of_block form report ++ texts_of form reports

-- Lines are a replay that leads to this state: the first spells a good genesis, the others blocks, none of which has a fault; and
-- their text is that of the supply at the genesis, and of what each of the blocks reports.
pub record AreReplayed (form : Form) (line : List ℕ) (lines : List (List ℕ)) (text : List ℕ) (end : State) : Type 0 where
  pub replay : Replayed
  pub genesis_is : genesis_of form line ≡ Ok replay.genesis
  pub blocks_are : SpellBlocks form lines replay.blocks
  pub no_fault : (run_in replay).fault ≡ None
  pub text_is : text ≡ text_of_genesis replay.start.state.view.bank.supplies ++ texts_of form (run_in replay).reports
  pub end_is : (run_in replay).state ≡ end

-- Wherever lines lead to, they are a replay. So all that holds of replays holds of them, and of what is written for them: their
-- states are sound, accounts hold what they owe, supplies fall by burns, refusals are named, faults have their causes, rewards are
-- bracketed and shortfalls bounded.
abbrev pub LinesAreReplayed : Form → Type 0
LinesAreReplayed form = (line : List ℕ) (lines : List (List ℕ)) (text : List ℕ) (end : State) → AreAnswered form 1 None (line ∷ lines) text (Some end) → AreReplayed form line lines text end

-- An input is a replay that is told so: its first line and the others are one, and behind what is written for them comes the report
-- of the state in which it ends.
pub record IsReplayed (form : Form) (input text : List ℕ) : Type 0 where
  pub line : List ℕ
  pub lines : List (List ℕ)
  pub done : List ℕ
  pub end : State
  pub lines_are : lines_of input ≡ line ∷ lines
  pub replayed : AreReplayed form line lines done end
  pub text_is : text ≡ done ++ report.text_of (report.lines_of form (machine.report_of end))

-- A whole answer without a fault, as a run that is done wrote it, is that of a replay.
abbrev pub AnswersAreReplays : Form → Type 0
AnswersAreReplays form = (input text : List ℕ) → answer_to form input ≡ record { text = text; fault = None } → IsReplayed form input text

-- the fault of a line, with so many lines more before it
abbrev pub moved : ℕ → LineStop → LineStop
moved count (stop.BadInput n fault) = stop.BadInput (count + n) fault
moved count (stop.Long n) = stop.Long (count + n)
moved count (stop.Ratio n over) = stop.Ratio (count + n) over
moved count stop.Write = stop.Write
moved count stop.Keep = stop.Keep
moved count stop.NoMemory = stop.NoMemory

-- What a run writes from where lines led is the rest of what one run writes for these lines and those behind them: so a stopped and
-- resumed run prints what one run does. Both have the same fault, or none; only the number of its line differs, by the lines before,
-- since a run that goes on counts its own.
pub record IsRest (count : ℕ) (text : List ℕ) (whole rest : Ran) : Type 0 where
  pub text_is : whole.text ≡ text ++ rest.text
  pub fault_is : whole.fault ≡ option_map (moved count) rest.fault

abbrev pub ResumesAreTheRest : Form → Type 0
ResumesAreTheRest form =
    (first middle : Standing) (lines more : List (List ℕ)) (text : List ℕ) → AreAnswered form 1 first lines text middle
    → IsRest (length lines) text (ran_from form 1 first (lines ++ more)) (ran_from form 1 middle more)

-- A run may go on from here: from before the genesis, or from a sound state without facts of what led to it.
abbrev pub MayGoOn : Standing → Type 0
MayGoOn None = Unit {0}
MayGoOn (Some p) = IsSound p × (p.view.facts ≡ [])

-- Wherever lines lead that are answered, a run may go on. So the rows that a run leaves, of which each item has one of its own, are
-- those of a sound state, and no run that goes on from them, or asks of them, refuses them.
abbrev pub RunsMayGoOn : Form → Type 0
RunsMayGoOn form = (n : ℕ) (first : Standing) (lines : List (List ℕ)) (text : List ℕ) (end : Standing) → MayGoOn first → AreAnswered form n first lines text end → MayGoOn end

-- Lines that were answered, and those that a run answered that went on from where they led, are answered as the lines of one run. So
-- what holds of replays holds of what a resume writes too, with each history that led to the rows on which it began.
abbrev pub AnswersJoin : Form → Type 0
AnswersJoin form =
    (first middle end : Standing) (lines more : List (List ℕ)) (text text' : List ℕ) → AreAnswered form 1 first lines text middle
    → AreAnswered form 1 middle more text' end → AreAnswered form 1 first (lines ++ more) (text ++ text') end

-- Two states answer alike. Each input has from both the same text, the report with it, and the same fault or none; where its lines
-- are answered they lead from both to states of the same rows; and both have one report, and one stake by which ballots are counted.
pub record AnswerAlike (form : Form) (p q : State) : Type 0 where
  pub ran : (n : ℕ) (lines : List (List ℕ)) → ran_from form n (Some p) lines ≡ ran_from form n (Some q) lines
  pub rows : (n : ℕ) (lines : List (List ℕ)) (text : List ℕ) (end : Standing) → AreAnswered form n (Some p) lines text end
      → (other : Standing) × AreAnswered form n (Some q) lines text other × (rows_at end ≡ rows_at other)
  pub report : machine.report_of p ≡ machine.report_of q
  pub staked : p.mine.staked ≡ q.mine.staked

-- States that a keeper can hold and whose rows are the same answer alike: the rows of a store decide all later answers.
abbrev pub RowsDecideAnswers : Form → Type 0
RowsDecideAnswers form = (p q : State) → IsStorable p → IsStorable q → HaveSameRows p q → AnswerAlike form p q
