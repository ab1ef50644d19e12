-- How a run ends, by what its words ask for: no command, or one, of which the words before it say in which way it is carried out.
use Rattle.std.specs.Prelude.{◌≡◌, ℕ, Bool, true, false, List, [], Option, Some, None, IfSome}
use Rattle.base_bech32.specs.declared.form.Form.{Form}
use Rattle.base_io.specs.Rows.{Pair}
use Rattle.line_report.specs.declared.question.Query.{Query as Question}
use Rattle.run_words.specs.declared.mode.Command.{Command}
use Rattle.run_words.specs.declared.mode.Mode.{Mode}
use Rattle.run_words.specs.declared.mode.Mode.TheVariants.{Replay, Resume, Query, Tally, Check, Statement, Gen, Trial}
use Rattle.store_history.specs.Held.{ShowsLeft, shown}
use Rattle.store_history.specs.History.{IsHistory}
use Rattle.run_app.specs.declared.performing.Way.{Way}
use Rattle.run_app.specs.declared.performing.Way.TheVariants.{Plain, Kept, Past}
use Rattle.run_app.specs.declared.status.Status.{Status}
use Rattle.run_app.specs.declared.status.Status.TheVariants.{BadStore}
use Rattle.run_app.specs.Histories.{FitsPast, KeepEnds, PastEnds}
use Rattle.run_app.specs.Kept.{AreUntouched}
use Rattle.run_app.specs.Modes.{IsUntroubledAt, ModeEnds}
use Rattle.run_app.specs.Seen.{KeeperTold, SinkTold, SourceTold}
use Rattle.run_app.specs.Stops.{LeavesAsBefore, ModeStops}
use Rattle.run_app.specs.Unkept.{FindsNoRows, ModeUnkept}
use Rattle.run_app.specs.Writes.{Leaves}

-- a command that commits may keep what it replaces
abbrev pub kept_way : Bool → Mode → Way
kept_way true m = Kept m
kept_way false m = Plain m

-- a question may be of a past height
abbrev pub past_way : Option ℕ → Question → Way
past_way (Some height) what = Past height what
past_way None what = Plain (Query what)

-- the way of a command, by the words before it
abbrev pub way_in : Bool → Option ℕ → Mode → Way
way_in keep past Replay = kept_way keep Replay
way_in keep past Resume = kept_way keep Resume
way_in keep past (Query what) = past_way past what
way_in keep past Tally = Plain Tally
way_in keep past Check = Plain Check
way_in keep past (Statement delegator operator) = Plain (Statement delegator operator)
way_in keep past (Gen seed count) = Plain (Gen seed count)
way_in keep past (Trial seed count) = Plain (Trial seed count)

abbrev pub way_of : Command → Way
way_of c = way_in c.keep c.past c.mode

-- ---- what was taken, written and kept

abbrev pub WayEnds : Form → ℕ → Way → SourceTold → SinkTold → KeeperTold → Status → Type 0
WayEnds form every (Plain m) source sink keeper status = ModeEnds form every m source sink keeper status
WayEnds form every (Kept m) source sink keeper status = KeepEnds form m source sink keeper status
WayEnds form every (Past height what) source sink keeper status = (source.left' ≡ source.left) × PastEnds form height what sink keeper status

-- the same of what words ask for: of no command, and of one with addresses in its form, which commits at so many blocks
abbrev pub CommandEnds : Option Command → SourceTold → SinkTold → KeeperTold → Status → Type 0
CommandEnds None source sink keeper status = Leaves source sink (λ text. text ≡ []) × AreUntouched keeper.rows keeper.rows' keeper.leaves keeper.leaves'
CommandEnds (Some c) source sink keeper status = WayEnds c.form c.every (way_of c) source sink keeper status

-- ---- what a stop leaves

-- Where what is replaced is kept, a stop leaves the visible rows as without it. A question changes no rows.
abbrev pub WayStops : Form → ℕ → Way → Option (List ℕ) → Option (List ℕ) → Option (List ℕ) → Option (List Pair) → Type 0 → (List Pair → Type 0) → (List Pair → Type 0) → Type 0
WayStops form every (Plain m) left written written' rows honest' leaves leaves' = ModeStops form every m left written written' rows honest' leaves leaves'
WayStops form every (Kept m) left written written' rows honest' leaves leaves' = ModeStops form 1 m left written written' (shown rows) honest' (ShowsLeft leaves) (ShowsLeft leaves')
WayStops form every (Past height what) left written written' rows honest' leaves leaves' = LeavesAsBefore honest' leaves leaves'

-- the same of what words ask for: where they are no command, a stop leaves what it could leave before
abbrev pub CommandStops : Option Command → Option (List ℕ) → Option (List ℕ) → Option (List ℕ) → Option (List Pair) → Type 0 → (List Pair → Type 0) → (List Pair → Type 0) → Type 0
CommandStops None left written written' rows honest' leaves leaves' = LeavesAsBefore honest' leaves leaves'
CommandStops (Some c) left written written' rows honest' leaves leaves' = WayStops c.form c.every (way_of c) left written written' rows honest' leaves leaves'

-- ---- over a keeper that keeps nothing

-- There is no history that is not of its form, and no past rows.
abbrev pub WayUnkept : Way → SourceTold → SinkTold → Status → Type 0
WayUnkept (Plain m) source sink status = ModeUnkept m source sink status
WayUnkept (Kept m) source sink status = ModeUnkept m source sink status × (status ≡ BadStore → ⊥)
WayUnkept (Past height what) source sink status = FindsNoRows source sink status

-- the same of what words ask for
abbrev pub CommandUnkept : Option Command → SourceTold → SinkTold → Status → Type 0
CommandUnkept None source sink status = Unit {0}
CommandUnkept (Some c) source sink status = WayUnkept (way_of c) source sink status

-- ---- runs that nothing keeps from their end

-- Where what is replaced is kept, the visible rows fit the command, and a history in the rows is of its form.
abbrev pub WayIsUntroubled : Form → Way → Option (List ℕ) → Bool → Option (List Pair) → Type 0 → ℕ → ℕ → Type 0
WayIsUntroubled form (Plain m) left keeps rows honest' faults faults' = IsUntroubledAt form m left keeps rows honest' faults faults'
WayIsUntroubled form (Kept m) left keeps rows honest' faults faults' = IsUntroubledAt form m left keeps (shown rows) honest' faults faults' × IfSome rows IsHistory
WayIsUntroubled form (Past height what) left keeps rows honest' faults faults' = FitsPast form height what rows honest' faults faults'

-- the same of what words ask for, which is a command
abbrev pub IsUntroubledBy : Option Command → Option (List ℕ) → Bool → Option (List Pair) → Type 0 → ℕ → ℕ → Type 0
IsUntroubledBy None left keeps rows honest' faults faults' = ⊥
IsUntroubledBy (Some c) left keeps rows honest' faults faults' = WayIsUntroubled c.form (way_of c) left keeps rows honest' faults faults'
