-- How runs end that go on from the rows of their keeper: of the commands `resume` and `query`.
use Rattle.std.specs.Prelude.{◌≡◌, ◌≢◌, ◌⊎◌, ℕ, true, List, [], Option, Some, None, IfSome, IsSome}
use Rattle.base_bech32.specs.declared.form.Form.{Form}
use Rattle.base_io.specs.Outside.{Rose}
use Rattle.base_io.specs.Rows.{Makes, Pair}
use Rattle.rule_machine.specs.Report.{report_of}
use Rattle.line_report.specs.declared.question.Query.{Query}
use Rattle.line_report.specs.Asking.{answered_by}
use Rattle.store_resuming.specs.declared.fault.RestoreFault.{RestoreFault}
use Rattle.store_resuming.specs.declared.fault.RestoreFault.TheVariants as fault
use Rattle.store_resuming.specs.Restored.{AreLoaded, AreOfNone, AreStateRows, HaveSameRows, IsStorable, old_rows_of, rows_of, state_rows}
use Rattle.store_rows.specs.declared.format.Format.{Format}
use Rattle.rule_modules.specs.Chain.{State}
use Rattle.run_app.specs.declared.status.Status.{Status}
use Rattle.run_app.specs.declared.status.Status.TheVariants.{KeepFault, NoMemory, BadStore, WrongStore, NotFound}
use Rattle.run_app.specs.Kept.{AreLeft, Began, LeftIn}
use Rattle.run_app.specs.Outcome.{IsUntroubled, RunEnds}
use Rattle.run_app.specs.Seen.{KeeperTold, SinkTold, SourceTold}
use Rattle.run_app.specs.Writes.{Adds, IsWritten, Leaves}

-- ---- runs of which no chain comes

-- how a run ends where no chain comes of its keeper
abbrev pub status_of_restore : RestoreFault → Status
status_of_restore fault.Failed = KeepFault
status_of_restore fault.NoMemory = NoMemory
status_of_restore fault.Empty = WrongStore true
status_of_restore fault.Unsound = BadStore

-- Why a run did not go on from the rows of its keeper: they were not loaded, memory was wanting, there are none, or they are those of
-- no sound state.
abbrev pub IsUnresumed : Status → Option (List Pair) → Option (List Pair) → Type 0 → Type 0
IsUnresumed KeepFault rows rows' honest' = Unit {0}
IsUnresumed NoMemory rows rows' honest' = Unit {0}
IsUnresumed BadStore rows rows' honest' = AreLoaded rows rows' honest' (λ now. (now ≢ []) × AreOfNone now)
IsUnresumed (WrongStore is_empty) rows rows' honest' = (is_empty ≡ true) × AreLoaded rows rows' honest' (λ now. now ≡ [])
IsUnresumed _ rows rows' honest' = ⊥

-- ---- resume

-- a run that began on the rows of this state
abbrev pub on_rows_of : State → Option (List Pair) → Began
on_rows_of p rows = record { first = Some p; rows = rows }

-- A run went on from the rows of its keeper: they are those of a state in one format or the other,
-- where the keeper was honest; and from each state of the same rows it ended as the machine says
-- from there, with its lines numbered from 1. Rows of the first format were brought to the second
-- before any line.
pub record GoesOn (form : Form) (every : ℕ) (left left' written written' : Option (List ℕ)) (rows rows' : Option (List Pair)) (honest' : Type 0) (leaves' : List Pair → Type 0) (status : Status) : Type 0 where
  pub first : State
  pub storable : IsStorable first
  pub loaded : honest' → IfSome rows (λ now. AreStateRows now first)
  pub ends : (p : State) → IsStorable p → HaveSameRows p first → RunEnds form every (Some p) (LeftIn (on_rows_of p rows) rows' honest' leaves') left left' written written' status

-- Rows of the first format were not brought to the second: their commit failed, or memory was
-- wanting for it. They are as before. A stop leaves what it could leave before, or the rows of the
-- same state in the second format.
pub record IsUnmigrated (status : Status) (rows rows' : Option (List Pair)) (honest' : Type 0) (leaves leaves' : List Pair → Type 0) : Type 0 where
  pub first : State
  pub storable : IsStorable first
  pub why : (status ≡ KeepFault) ⊎ (status ≡ NoMemory)
  pub loaded : honest' → IfSome rows (λ now. now ≡ old_rows_of first)
  pub rows_are : Makes (λ before. before) rows rows'
  pub stop : honest' → IsSome rows → (left : List Pair) → leaves' left → leaves left ⊎ (left ≡ rows_of first)

-- A resume goes on from the rows of its keeper; or no chain comes of them, it takes and writes
-- nothing, and leaves all rows; or these were not brought to the format that is written, and it
-- takes and writes nothing.
abbrev pub ResumeEnds : Form → ℕ → SourceTold → SinkTold → KeeperTold → Status → Type 0
ResumeEnds form every source sink keeper status =
    GoesOn form every source.left source.left' sink.written sink.written' keeper.rows keeper.rows' keeper.honest' keeper.leaves' status
    ⊎ (IsUnresumed status keeper.rows keeper.rows' keeper.honest' × Leaves source sink (λ text. text ≡ []) × AreLeft keeper)
    ⊎ (IsUnmigrated status keeper.rows keeper.rows' keeper.honest' keeper.leaves keeper.leaves' × Leaves source sink (λ text. text ≡ []))

-- ---- query

-- What a run has written that is to write this answer: its text, or nothing where there is none.
abbrev pub IsAnswered : Option (List ℕ) → Status → List ℕ → Type 0
IsAnswered (Some whole) status text = IsWritten whole status text
IsAnswered None status text = ((status ≡ NotFound) ⊎ (status ≡ NoMemory)) × (text ≡ [])

abbrev pub Answers : Option (List ℕ) → Option (List ℕ) → Option (List ℕ) → Status → Type 0
Answers due written written' status = Adds written written' (IsAnswered due status)

-- A run asked the chain of its keeper's rows: they are those of a state in one format or the other,
-- and for each state of the same rows the lines of its report that answer the question were
-- written.
pub record Asked (form : Form) (what : Query) (written written' : Option (List ℕ)) (rows rows' : Option (List Pair)) (honest' : Type 0) (status : Status) : Type 0 where
  pub first : State
  pub storable : IsStorable first
  pub loaded : AreLoaded rows rows' honest' (λ now. AreStateRows now first)
  pub answered : (p : State) → IsStorable p → HaveSameRows p first → Answers (answered_by form (report_of p) what) written written' status

-- A query leaves all rows. It answers from them; or no chain comes of them, and it writes nothing.
abbrev pub QueryEnds : Form → Query → SinkTold → KeeperTold → Status → Type 0
QueryEnds form what sink keeper status =
    AreLeft keeper
    × (Asked form what sink.written sink.written' keeper.rows keeper.rows' keeper.honest' status
    ⊎ (IsUnresumed status keeper.rows keeper.rows' keeper.honest' × Adds sink.written sink.written' (λ text. text ≡ [])))

-- ---- runs that nothing keeps from their end

-- a keeper with the rows of this state, in one format or the other, that is honest to the end, and
-- of which no call fails
pub record FitsState (p : State) (rows : Option (List Pair)) (honest' : Type 0) (faults faults' : ℕ) : Type 0 where
  pub storable : IsStorable p
  pub rows_are : (f : Format) × (rows ≡ Some (state_rows f p))
  pub honest : honest'
  pub quiet : ¬ Rose faults faults'

-- the rows are those of a state from which the input is free of faults
abbrev pub ResumesCalmly : Form → Option (List ℕ) → Option (List Pair) → Type 0 → ℕ → ℕ → Type 0
ResumesCalmly form left rows honest' faults faults' = (p : State) × IsUntroubled form (Some p) left × FitsState p rows honest' faults faults'

-- the rows are those of a state whose report answers the question
abbrev pub AsksCalmly : Form → Query → Option (List Pair) → Type 0 → ℕ → ℕ → Type 0
AsksCalmly form what rows honest' faults faults' =
    (p : State) × FitsState p rows honest' faults faults' × ((text : List ℕ) × (answered_by form (report_of p) what ≡ Some text))
