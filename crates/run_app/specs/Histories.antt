-- How runs end that keep what their commits replace, and questions that are asked of a past height.
use Rattle.std.specs.Prelude.{◌≡◌, ◌≢◌, ◌⊎◌, ℕ, true, List, [], Option, Some, None, IfSome}
use Rattle.base_bech32.specs.declared.form.Form.{Form}
use Rattle.base_io.specs.Outside.{Rose}
use Rattle.base_io.specs.Rows.{Pair}
use Rattle.line_report.specs.declared.question.Query.{Query}
use Rattle.line_report.specs.Asking.{answered_by}
use Rattle.rule_machine.specs.Report.{report_of}
use Rattle.rule_modules.specs.Chain.{State}
use Rattle.run_words.specs.declared.mode.Mode.{Mode}
use Rattle.run_words.specs.declared.mode.Mode.TheVariants.{Replay, Resume}
use Rattle.store_history.specs.declared.loading.OpenFault.{OpenFault}
use Rattle.store_history.specs.declared.loading.OpenFault.TheVariants as unopened
use Rattle.store_history.specs.declared.going_back.PastFault.{PastFault}
use Rattle.store_history.specs.declared.going_back.PastFault.TheVariants as past
use Rattle.store_history.specs.Answers.{IsOutside, IsWithin}
use Rattle.store_history.specs.Held.{HaveBecome}
use Rattle.store_history.specs.History.{ArePast, IsHistory, last_of}
use Rattle.store_resuming.specs.Restored.{AreLoaded, AreOfNone, AreStateRows, HaveSameRows, IsStorable}
use Rattle.run_app.specs.declared.status.Status.{Status}
use Rattle.run_app.specs.declared.status.Status.TheVariants.{BadStore, KeepFault, NoMemory, NoPast, WrongStore}
use Rattle.run_app.specs.Kept.{AreLeft}
use Rattle.run_app.specs.Modes.{ModeEnds}
use Rattle.run_app.specs.Seen.{KeeperTold, SinkTold, SourceTold, visible}
use Rattle.run_app.specs.Resumes.{Answers}
use Rattle.run_app.specs.Writes.{Adds, Leaves}

-- ---- runs that keep a history

-- the commands that commit
abbrev pub IsCommitting : Mode → Type 0
IsCommitting Replay = Unit {0}
IsCommitting Resume = Unit {0}
IsCommitting _ = ⊥

-- how a run ends that was to keep a history, and does not begin
abbrev pub status_of_open : OpenFault → Status
status_of_open unopened.Failed = KeepFault
status_of_open unopened.BadHistory = BadStore
status_of_open unopened.NoMemory = NoMemory

-- Why it does not begin: its rows were not loaded, memory was wanting, or a history in them is not of its form.
abbrev pub IsUnopened : Status → Option (List Pair) → Option (List Pair) → Type 0 → Type 0
IsUnopened KeepFault rows rows' honest' = Unit {0}
IsUnopened NoMemory rows rows' honest' = Unit {0}
IsUnopened BadStore rows rows' honest' = AreLoaded rows rows' honest' (λ now. ¬ IsHistory now)
IsUnopened _ rows rows' honest' = ⊥

-- A run that keeps a history commits at each block, and ends, of the visible rows, as one that keeps none. The rows are what commits made of those before, and a
-- history in them is of its form.
pub record Keeps (form : Form) (m : Mode) (source : SourceTold) (sink : SinkTold) (keeper : KeeperTold) (status : Status) : Type 0 where
  pub ends : ModeEnds form 1 m source sink (visible keeper) status
  pub became : HaveBecome keeper.rows keeper.rows'
  pub history : IfSome keeper.rows' IsHistory

-- Or it does not begin, takes and writes nothing, and leaves all rows.
abbrev pub KeepEnds : Form → Mode → SourceTold → SinkTold → KeeperTold → Status → Type 0
KeepEnds form m source sink keeper status =
    Keeps form m source sink keeper status
    ⊎ (IsUnopened status keeper.rows keeper.rows' keeper.honest' × Leaves source sink (λ text. text ≡ []) × AreLeft keeper)

-- ---- questions of a past height

-- how a run ends where rows tell nothing of a height
abbrev pub status_of_past : PastFault → Status
status_of_past past.BadHistory = BadStore
status_of_past (past.NoPast base last) = NoPast base last
status_of_past past.NoMemory = NoMemory

-- rows tell of a height, and these are the past rows there
pub record TellPast (rows : List Pair) (height : ℕ) (stood : List Pair) : Type 0 where
  pub within : (last : ℕ) × IsWithin rows height last
  pub are : ArePast rows height stood

-- rows are at a height those of this state
abbrev pub AreRowsAt : ℕ → State → List Pair → Type 0
AreRowsAt height p rows = (stood : List Pair) × TellPast rows height stood × AreStateRows stood p

-- Rows are at a height those of no sound state: a history in them is not of its form, or no head stands, or the past rows are so.
abbrev pub AreBadAt : ℕ → List Pair → Type 0
AreBadAt height rows =
    (IsHistory rows → last_of rows ≡ None)
    ⊎ ((stood : List Pair) × TellPast rows height stood × AreOfNone stood)

-- The chain of past rows was asked, as far as the rows are told: at a height they are those of a state, and for each state of the same
-- rows the lines of its report that answer the question were written.
pub record AskedAt (form : Form) (height : ℕ) (what : Query) (told : (List Pair → Type 0) → Type 0) (written written' : Option (List ℕ)) (status : Status) : Type 0 where
  pub first : State
  pub storable : IsStorable first
  pub rows_are : told (AreRowsAt height first)
  pub answered : (p : State) → IsStorable p → HaveSameRows p first → Answers (answered_by form (report_of p) what) written written' status

-- Why it was not: the rows are there those of no sound state, they tell nothing of this height, or memory was wanting.
abbrev pub IsRefusedAt : ℕ → ((List Pair → Type 0) → Type 0) → Status → Type 0
IsRefusedAt height told BadStore = told (AreBadAt height)
IsRefusedAt height told (NoPast base last) = told (λ now. IsOutside now height base last)
IsRefusedAt height told NoMemory = Unit {0}
IsRefusedAt height told _ = ⊥

-- A question of the past rows is answered, or it is refused, and nothing is written.
abbrev pub PastAnswers : Form → ℕ → Query → ((List Pair → Type 0) → Type 0) → Option (List ℕ) → Option (List ℕ) → Status → Type 0
PastAnswers form height what told written written' status =
    AskedAt form height what told written written' status
    ⊎ (IsRefusedAt height told status × Adds written written' (λ text. text ≡ []))

-- Why a run did not ask the past rows of its keeper: these were not loaded, memory was wanting, there are none, they are at the height
-- those of no sound state, or they tell nothing of it.
abbrev pub IsUnasked : ℕ → Status → Option (List Pair) → Option (List Pair) → Type 0 → Type 0
IsUnasked height KeepFault rows rows' honest' = Unit {0}
IsUnasked height NoMemory rows rows' honest' = Unit {0}
IsUnasked height (WrongStore is_empty) rows rows' honest' = (is_empty ≡ true) × AreLoaded rows rows' honest' (λ now. now ≡ [])
IsUnasked height BadStore rows rows' honest' = AreLoaded rows rows' honest' (λ now. (now ≢ []) × AreBadAt height now)
IsUnasked height (NoPast base last) rows rows' honest' = AreLoaded rows rows' honest' (λ now. IsOutside now height base last)
IsUnasked height _ rows rows' honest' = ⊥

-- A question of a past height leaves all rows. It is answered from the past rows; or it is not, and nothing is written.
abbrev pub PastEnds : Form → ℕ → Query → SinkTold → KeeperTold → Status → Type 0
PastEnds form height what sink keeper status =
    AreLeft keeper
    × (AskedAt form height what (AreLoaded keeper.rows keeper.rows' keeper.honest') sink.written sink.written' status
    ⊎ (IsUnasked height status keeper.rows keeper.rows' keeper.honest' × Adds sink.written sink.written' (λ text. text ≡ [])))

-- a keeper whose rows are at a height those of a state that has an answer, that is honest to the end, and of which no call fails
pub record FitsPast (form : Form) (height : ℕ) (what : Query) (rows : Option (List Pair)) (honest' : Type 0) (faults faults' : ℕ) : Type 0 where
  pub now : List Pair
  pub rows_are : rows ≡ Some now
  pub state : State
  pub storable : IsStorable state
  pub at : AreRowsAt height state now
  pub answer : (text : List ℕ) × (answered_by form (report_of state) what ≡ Some text)
  pub honest : honest'
  pub quiet : ¬ Rose faults faults'
