-- How a run of each command ends.
use Rattle.std.specs.Prelude.{◌≡◌, ◌⊎◌, ℕ, ◌≤◌, Bool, false, List, [], Option, Some, None, Result, Ok, Err}
use Rattle.base_bech32.specs.declared.form.Form.{Form}
use Rattle.base_io.specs.Outside.{Rose}
use Rattle.base_io.specs.Rows.{Pair}
use Rattle.base_roles.specs.declared.refusal.Refusal.{Refusal}
use Rattle.run_words.specs.declared.mode.Mode.{Mode}
use Rattle.run_words.specs.declared.mode.Mode.TheVariants.{Replay, Resume, Query, Tally, Check, Statement, Gen, Trial}
use Rattle.run_generated.specs.Writing.{generated_text}
use Rattle.run_trial.specs.Summary.{Stopped}
use Rattle.run_trial.specs.Trial.{trial_of}
use Rattle.run_app.specs.declared.status.Status.{Status}
use Rattle.run_app.specs.declared.status.Status.TheVariants.{NoMemory}
use Rattle.run_app.specs.Checks.{CheckEnds, ChecksCalmly}
use Rattle.run_app.specs.Kept.{AreLeft, AreSome, AreUntouched, IsUnbegun, LeftIn, on_none}
use Rattle.run_app.specs.Machine.{not_applied}
use Rattle.run_app.specs.Outcome.{IsUntroubled, RunEnds}
use Rattle.run_app.specs.Seen.{KeeperTold, SinkTold, SourceTold}
use Rattle.run_app.specs.Ending.{status_of}
use Rattle.run_app.specs.Resumes.{AsksCalmly, QueryEnds, ResumeEnds, ResumesCalmly}
use Rattle.run_app.specs.Statements.{StatementEnds, StatesCalmly}
use Rattle.run_app.specs.Tallies.{TalliesCalmly, TallyEnds}
use Rattle.run_app.specs.Writes.{Adds, IsWritten, Leaves}

-- ---- a trial

-- A trial writes its summary. A block that may not follow is answered as in a replay, and nothing is written then; nor is
-- anything where memory is wanting before the summary stands.
abbrev pub IsTried : Result (Result (List ℕ) Stopped) Refusal → Status → List ℕ → Type 0
IsTried (Ok (Ok summary)) status text = IsWritten summary status text
IsTried (Ok (Err stopped)) status text = ((status ≡ status_of (not_applied stopped.line stopped.fault)) ⊎ (status ≡ NoMemory)) × (text ≡ [])
IsTried (Err why) status text = (status ≡ NoMemory) × (text ≡ [])

abbrev pub Tries : Result (Result (List ℕ) Stopped) Refusal → Option (List ℕ) → Option (List ℕ) → Status → Type 0
Tries due written written' status = Adds written written' (IsTried due status)

-- ---- commands

-- A generated input has at most 100,000 blocks.
abbrev pub HasFewBlocks : Mode → Type 0
HasFewBlocks Replay = Unit {0}
HasFewBlocks Resume = Unit {0}
HasFewBlocks (Query what) = Unit {0}
HasFewBlocks Tally = Unit {0}
HasFewBlocks Check = Unit {0}
HasFewBlocks (Statement delegator operator) = Unit {0}
HasFewBlocks (Gen seed count) = count ≤ 100000
HasFewBlocks (Trial seed count) = count ≤ 100000

-- A replay begins on no rows, and ends as its input says; or it does not begin, takes and writes nothing, and leaves all rows.
abbrev pub ReplayEnds : Form → ℕ → SourceTold → SinkTold → KeeperTold → Status → Type 0
ReplayEnds form every source sink keeper status =
    RunEnds form every None (LeftIn (on_none keeper.rows) keeper.rows' keeper.honest' keeper.leaves') source.left source.left' sink.written sink.written' status
    ⊎ (IsUnbegun status (AreSome keeper.rows keeper.rows' keeper.honest') × Leaves source sink (λ text. text ≡ []) × AreLeft keeper)

-- What was taken, written and kept at the end of a run: of a replay and of a run that goes on, which commit at each Nth block, of a question, of a
-- tally, of statements that are checked, of those that are made, of the generated input, of a trial.
abbrev pub ModeEnds : Form → ℕ → Mode → SourceTold → SinkTold → KeeperTold → Status → Type 0
ModeEnds form every Replay source sink keeper status = ReplayEnds form every source sink keeper status
ModeEnds form every Resume source sink keeper status = ResumeEnds form every source sink keeper status
ModeEnds form every (Query what) source sink keeper status = (source.left' ≡ source.left) × QueryEnds form what sink keeper status
ModeEnds form every Tally source sink keeper status = TallyEnds form source sink keeper status
ModeEnds form every Check source sink keeper status =
    CheckEnds form source sink status × AreUntouched keeper.rows keeper.rows' keeper.leaves keeper.leaves'
ModeEnds form every (Statement delegator operator) source sink keeper status =
    StatementEnds form delegator operator source sink status × AreUntouched keeper.rows keeper.rows' keeper.leaves keeper.leaves'
ModeEnds form every (Gen seed count) source sink keeper status =
    Leaves source sink (IsWritten (generated_text form seed count) status) × AreUntouched keeper.rows keeper.rows' keeper.leaves keeper.leaves'
ModeEnds form every (Trial seed count) source sink keeper status =
    Leaves source sink (IsTried (trial_of seed count) status) × AreUntouched keeper.rows keeper.rows' keeper.leaves keeper.leaves'

-- a keeper that keeps nothing, or one without rows, that is honest to the end, and of which no call fails
pub record FitsReplay (keeps : Bool) (rows : Option (List Pair)) (honest' : Type 0) (faults faults' : ℕ) : Type 0 where
  pub none : (keeps ≡ false) ⊎ (rows ≡ Some [])
  pub honest : honest'
  pub quiet : ¬ Rose faults faults'

-- An input free of faults: that of the source, of which `check` answers each line, or one whose blocks all follow, and pay the pair of
-- `statement`; what `gen` writes needs none. A replay has a keeper that fits it, and so have a run that goes on, a tally, and a question, which has an answer.
abbrev pub IsUntroubledAt : Form → Mode → Option (List ℕ) → Bool → Option (List Pair) → Type 0 → ℕ → ℕ → Type 0
IsUntroubledAt form Replay left keeps rows honest' faults faults' = IsUntroubled form None left × FitsReplay keeps rows honest' faults faults'
IsUntroubledAt form Resume left keeps rows honest' faults faults' = ResumesCalmly form left rows honest' faults faults'
IsUntroubledAt form (Query what) left keeps rows honest' faults faults' = AsksCalmly form what rows honest' faults faults'
IsUntroubledAt form Tally left keeps rows honest' faults faults' = TalliesCalmly form left rows honest' faults faults'
IsUntroubledAt form Check left keeps rows honest' faults faults' = ChecksCalmly form left
IsUntroubledAt form (Statement delegator operator) left keeps rows honest' faults faults' = StatesCalmly form delegator operator left
IsUntroubledAt form (Gen seed count) left keeps rows honest' faults faults' = Unit {0}
IsUntroubledAt form (Trial seed count) left keeps rows honest' faults faults' = (summary : List ℕ) × (trial_of seed count ≡ Ok (Ok summary))
