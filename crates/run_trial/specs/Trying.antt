-- What a trial of the generated input leaves.
use Rattle.std.specs.Prelude.{◌≡◌, ℕ, ◌+◌, ◌-◌, List, ◌++◌, length, Some, None, Result, Ok, Err}
use Rattle.base_roles.specs.declared.refusal.Refusal.{Refusal}
use Rattle.base_messages.specs.declared.block.Block.{Block}
use Rattle.base_messages.specs.declared.faults.BlockFault.{BlockFault}
use Rattle.base_messages.specs.declared.faults.BlockFault.TheVariants as why
use Rattle.base_messages.specs.declared.report.BlockReport.{BlockReport}
use Rattle.rule_modules.specs.Chain.{State}
use Rattle.rule_machine.specs.GenesisState.{Start, chain_started}
use Rattle.rule_machine.specs.Machine.{Run, Step, run_of, step}
use Rattle.chain_modules.specs.Kept.{KeptState, StandsFor}
use Rattle.run_generated.specs.Drawing.{in_turn, numbers_from}
use Rattle.run_generated.specs.Input.{block_drawn, first_genesis}
use Rattle.run_trial.specs.declared.counts.Counts.{Counts}
use Rattle.run_trial.specs.Summary.{HasRoom, Stopped, counted, counts_of}
use Rattle.run_trial.specs.declared.fault.TrialFault.{TrialFault}
use Rattle.run_trial.specs.declared.fault.TrialFault.TheVariants as fault

-- ---- a block

-- there is room for the counts of a block that has a step
abbrev pub HasRoomFor : Counts → Result Step BlockFault → Type 0
HasRoomFor c (Ok s) = HasRoom c s.report
HasRoomFor c (Err f) = Unit {0}

-- a block was applied: its report is counted, and what is kept stands for the state behind it
abbrev pub AddsStep : Result Step BlockFault → Counts → Counts → KeptState → Type 0
AddsStep (Ok s) c c' k = (c' ≡ counted c s.report) × StandsFor k s.state
AddsStep (Err f) c c' k = ⊥

-- it was not: by this fault of its own, or memory is wanting
abbrev pub IsFaultOf : Result Step BlockFault → BlockFault → Type 0
IsFaultOf due why.NoMemory = Unit {0}
IsFaultOf due f = due ≡ Err f

-- why there is no summary, where the block behind so many others was not applied: it is on the line of this number, the
-- genesis being the first
abbrev pub stopped_at : ℕ → BlockFault → TrialFault
stopped_at before (why.BadHeight due) = fault.Block (before + 2) (why.BadHeight due)
stopped_at before (why.BadTime last) = fault.Block (before + 2) (why.BadTime last)
stopped_at before (why.UnknownVote place) = fault.Block (before + 2) (why.UnknownVote place)
stopped_at before (why.RepeatedVote place) = fault.Block (before + 2) (why.RepeatedVote place)
stopped_at before (why.BadPower place) = fault.Block (before + 2) (why.BadPower place)
stopped_at before (why.BadEvidence place) = fault.Block (before + 2) (why.BadEvidence place)
stopped_at before (why.RatioLimit over) = fault.Block (before + 2) (why.RatioLimit over)
stopped_at before why.NoMemory = fault.NoMemory

-- ---- blocks

-- what earlier blocks report, in front of a run
abbrev pub behind_reports : List BlockReport → Run → Run
behind_reports reports r = record r { reports = reports ++ r.reports }

-- the run of so many blocks that are drawn behind so many others, from this state of the generator on
abbrev pub drawn_run : ℕ → ℕ → ℕ → State → Run
drawn_run before many x p = run_of (in_turn block_drawn (numbers_from (before + 1) many) x).value p

-- So many blocks of a run were applied: their reports are counted, and what is kept stands for a state from which the run goes on.
pub record IsOnTheWay (whole : Run) (before many x : ℕ) (c : Counts) (k : KeptState) : Type 0 where
  pub reports : List BlockReport
  pub state : State
  pub stands : StandsFor k state
  pub counts : c ≡ counts_of reports
  pub so_many : length reports ≡ before
  pub run : whole ≡ behind_reports reports (drawn_run before (many - before) x state)

-- the run came to its end: all its reports are counted, and what is kept stands for its state
pub record EndsSo (r : Run) (c : Counts) (k : KeptState) : Type 0 where
  pub fault : r.fault ≡ None
  pub counts : c ≡ counts_of r.reports
  pub stands : StandsFor k r.state

-- it stopped at the block on the line of this number
abbrev pub StopsSo : Run → TrialFault → Type 0
StopsSo r (fault.Block n f) = (r.fault ≡ Some f) × (n ≡ length r.reports + 2)
StopsSo r fault.NoMemory = Unit {0}

-- what is kept stands for the state that the generated genesis starts
pub record IsStarted (k : KeptState) : Type 0 where
  pub start : Start
  pub started : chain_started first_genesis ≡ Ok start
  pub stands : StandsFor k start.state

-- ---- the trial

-- why there is no summary: the block at which the machine stops, or memory is wanting
abbrev pub IsTrialFault : Result (Result (List ℕ) Stopped) Refusal → TrialFault → Type 0
IsTrialFault due (fault.Block n f) = due ≡ Ok (Err (record { line = n; fault = f }))
IsTrialFault due fault.NoMemory = Unit {0}
