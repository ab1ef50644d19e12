-- What the parts of a run leave: a line, a piece of the input, the end of the input.
use Rattle.std.specs.Prelude.{◌≡◌, ℕ, ◌+◌, ◌≤◌, ◌<◌, ◌==◌, ◌⊎◌, ⊤, Bool, true, false, List, [], ◌∷◌, ◌++◌, length, Option, Some, Result, Ok, Err}
use Rattle.base_bech32.specs.declared.form.Form.{Form}
use Rattle.base_io.specs.declared.keeper.KeepFault.{KeepFault as KeeperFault}
use Rattle.base_io.specs.declared.keeper.KeepFault.TheVariants as keep
use Rattle.base_io.specs.Rows.{Pair}
use Rattle.chain_whole.specs.Chained.{Chained}
use Rattle.run_app.specs.declared.progress.Ending.{Ending}
use Rattle.run_app.specs.declared.progress.Ending.TheVariants as ending
use Rattle.run_app.specs.declared.status.Status.{Status}
use Rattle.run_app.specs.declared.status.Status.TheVariants.{Done, BadInput, Limit, ReadFault, WriteFault, KeepFault, NoMemory}
use Rattle.run_app.specs.declared.status.LimitKind.TheVariants.{Line, Ratio}
use Rattle.run_app.specs.declared.status.LineStop.{LineStop}
use Rattle.run_app.specs.declared.status.LineStop.TheVariants as stop
use Rattle.run_app.specs.declared.status.EndStop.{EndStop}
use Rattle.run_app.specs.declared.status.EndStop.TheVariants as ends
use Rattle.run_app.specs.Counts.{is_keep_fault, is_read_fault, is_write_fault}
use Rattle.run_app.specs.Kept.{Began, Keeping}
use Rattle.run_app.specs.Lines.{whole_from, rest_from, lines_of}
use Rattle.run_app.specs.Machine.{Standing, Answer, longest, line_answer}
use Rattle.run_app.specs.Outcome.{AreEnded, Ends, most_bytes}
use Rattle.run_app.specs.Runs.{AreAnswered, Wrote, Unkept, Held, Answered, Reported, Lacking, Finished}
use Rattle.run_app.specs.Told.{TakesFrom}

abbrev pub status_at_end : EndStop → Status
status_at_end (ends.Lacking n fault) = BadInput n fault
status_at_end ends.Report = WriteFault
status_at_end ends.Flush = WriteFault
status_at_end ends.NoMemory = NoMemory

-- how a run ends whose end came to this
abbrev pub status_of_end : Result ⊤ EndStop → Status
status_of_end (Ok done) = Done
status_of_end (Err stop) = status_at_end stop

-- why a line is not answered that the keeper did not take
abbrev pub not_kept : KeeperFault → LineStop
not_kept keep.Failed = stop.Keep
not_kept keep.NoMemory = stop.NoMemory

-- only a line over its limit stops so
abbrev pub LongOnly : LineStop → List ℕ → Type 0
LongOnly (stop.BadInput n fault) line = Unit {0}
LongOnly (stop.Long n) line = longest < length line
LongOnly (stop.Ratio n over) line = Unit {0}
LongOnly stop.Write line = Unit {0}
LongOnly stop.Keep line = Unit {0}
LongOnly stop.NoMemory line = Unit {0}

-- what was written grew by the text
abbrev pub Grows : Option (List ℕ) → Option (List ℕ) → List ℕ → Type 0
Grows written written' text = (old : List ℕ) → written ≡ Some old → written' ≡ Some (old ++ text)

-- ---- lines that wait

-- Between two lines of a run that began at the first standing: the texts of the first lines were written, and what they led to, `s`, is
-- committed. The other lines wait, fewer than N; they led to `t`, and the held texts are the answers to them.
pub record Waits (form : Form) (every : ℕ) (first : Standing) (lines : List (List ℕ)) (s t : Standing) (waiting : ℕ) (held : List ℕ) (from written : Option (List ℕ)) : Type 0 where
  pub done : List (List ℕ)
  pub last : List (List ℕ)
  pub text : List ℕ
  pub lines_are : lines ≡ done ++ last
  pub answered : AreAnswered form 1 first done text s
  pub answered_last : AreAnswered form (1 + length done) s last held t
  pub count : waiting ≡ length last
  pub few : waiting < every
  pub grows : Grows from written text

-- Where a run stands that began so: these lines were answered, and of them fewer than N wait.
pub record Stands (form : Form) (every : ℕ) (b : Began) (lines : List (List ℕ)) (end : Standing) (number : ℕ) (chain : Option Chained) (waiting : ℕ) (held : List ℕ) (from written : Option (List ℕ)) (told : Option (List Pair)) (honest : Type 0) (leaves : List Pair → Type 0) : Type 0 where
  pub settled : Standing
  pub number_is : number ≡ 1 + length lines
  pub waits : Waits form every b.first lines settled end waiting held from written
  pub kept : Keeping b chain told honest leaves settled end

-- The same within a line: all these bytes were taken, and this has come of the next line.
pub record Fed (form : Form) (every : ℕ) (b : Began) (taken : List ℕ) (end : Standing) (number : ℕ) (line : List ℕ) (chain : Option Chained) (waiting : ℕ) (held : List ℕ) (from written : Option (List ℕ)) (told : Option (List Pair)) (honest : Type 0) (leaves : List Pair → Type 0) : Type 0 where
  pub stands : Stands form every b (whole_from [] taken) end number chain waiting held from written told honest leaves
  pub line_is : line ≡ rest_from [] taken
  pub short : length line ≤ longest

-- ---- how a part of a run stops

-- the line behind these lines, which led to this standing, has this fault
pub record IsAt (form : Form) (before : List (List ℕ)) (end : Standing) (lines : List (List ℕ)) (fault : LineStop) : Type 0 where
  pub line : List ℕ
  pub after : List (List ℕ)
  pub lines_are : lines ≡ before ++ line ∷ after
  pub fault_is : line_answer form (1 + length before) end line ≡ Err fault

-- The lines that waited are lost: what they led to was not committed, or their texts were not written, or memory was wanting.
abbrev pub Loses : Form → ℕ → Standing → (Standing → Standing → Type 0) → List (List ℕ) → Option (List ℕ) → Option (List ℕ) → LineStop → Type 0
Loses form every first L lines from written stop.Write = (text : List ℕ) × Grows from written text × Wrote form every L 1 first lines text
Loses form every first L lines from written stop.Keep = (text : List ℕ) × Grows from written text × Unkept form every L 1 first lines text
Loses form every first L lines from written stop.NoMemory =
    (text : List ℕ) × Grows from written text
    × (Wrote form every L 1 first lines text ⊎ Held form L 1 first lines text ⊎ Unkept form every L 1 first lines text)
Loses form every first L lines from written (stop.BadInput m fault) = ⊥
Loses form every first L lines from written (stop.Long m) = ⊥
Loses form every first L lines from written (stop.Ratio m over) = ⊥

-- A part of a run stopped. `ended` are the lines that have ended, and `all` those that there will be, by what is still to come. At a line
-- that has a fault, `W` is said of the lines before it, which may wait, and of what they led to; else these are lost.
abbrev pub PartStops : Form → ℕ → Standing → {X : Type 0} → (Standing → Standing → Type 0) → (List (List ℕ) → Standing → Type 0) → (X → List (List ℕ)) → List (List ℕ) → Option (List ℕ) → Option (List ℕ) → LineStop → Type 0
PartStops form every first L W all ended from written (stop.BadInput m fault) =
    (before : List (List ℕ)) × (end : Standing) × W before end × IsAt form before end ended (stop.BadInput m fault)
PartStops form every first L W all ended from written (stop.Long m) =
    (before : List (List ℕ)) × (more : List (List ℕ)) × (end : Standing) × W before end
    × (ended ≡ before ++ more) × ((x : _) → IsAt form before end (all x) (stop.Long m))
PartStops form every first L W all ended from written (stop.Ratio m over) =
    (before : List (List ℕ)) × (end : Standing) × W before end × IsAt form before end ended (stop.Ratio m over)
PartStops form every first L W all ended from written stop.Write = Loses form every first L ended from written stop.Write
PartStops form every first L W all ended from written stop.Keep = Loses form every first L ended from written stop.Keep
PartStops form every first L W all ended from written stop.NoMemory = Loses form every first L ended from written stop.NoMemory

-- ---- where no more lines are taken

-- how a line that is not answered ends a run: by this status, once what waits was released, or at once
abbrev pub ending_of : LineStop → Result Ending Status
ending_of (stop.BadInput m fault) = Ok (ending.Before (BadInput m fault))
ending_of (stop.Long m) = Ok (ending.Before (Limit m Line))
ending_of (stop.Ratio m over) = Ok (ending.Before (Limit m (Ratio over)))
ending_of stop.Write = Err WriteFault
ending_of stop.Keep = Err KeepFault
ending_of stop.NoMemory = Err NoMemory

-- Why a run ends by this status behind lines that led to this standing, where these bytes were taken: the source failed, or the line
-- behind them has a fault, or is too long whatever is still to come.
abbrev pub StopsAt : Form → List ℕ → List (List ℕ) → List (List ℕ) → Standing → Status → Type 0
StopsAt form taken lines more end (BadInput n fault) = IsAt form lines end (lines ++ more) (stop.BadInput n fault)
StopsAt form taken lines more end (Limit n Line) = (b : List ℕ) → IsAt form lines end (lines_of (taken ++ b)) (stop.Long n)
StopsAt form taken lines more end (Limit n (Ratio over)) = IsAt form lines end (lines ++ more) (stop.Ratio n over)
StopsAt form taken lines more end ReadFault = lines ≡ whole_from [] taken
StopsAt form taken lines more end _ = ⊥

-- No more lines are taken: each of these was answered, and `W` is said of them. Others may have ended behind them.
pub record PausedBefore (form : Form) (taken rest : List ℕ) (W : List (List ℕ) → Standing → Type 0) (status : Status) : Type 0 where
  pub short : length taken ≤ most_bytes
  pub lines : List (List ℕ)
  pub more : List (List ℕ)
  pub end : Standing
  pub ended : AreEnded (lines ++ more) taken rest
  pub waits : W lines end
  pub why : StopsAt form taken lines more end status

abbrev pub IsPaused : Form → List ℕ → List ℕ → (List (List ℕ) → Standing → Type 0) → Ending → Type 0
IsPaused form taken rest W ending.End = (rest ≡ []) × (length taken ≤ most_bytes) × (end : Standing) × W (lines_of taken) end
IsPaused form taken rest W (ending.Before status) = PausedBefore form taken rest W status

-- the same, of bytes that the source gave
abbrev pub Pauses : Form → Option (List ℕ) → Option (List ℕ) → (List (List ℕ) → Standing → Type 0) → Ending → Type 0
Pauses form left left' W e = (taken : List ℕ) × (rest : List ℕ) × TakesFrom left left' taken rest × IsPaused form taken rest W e

-- a run ended so, of which these bytes were taken and those are left
abbrev pub EndsSo : Form → ℕ → Standing → (Standing → Standing → Type 0) → List ℕ → List ℕ → Option (List ℕ) → Option (List ℕ) → Status → Type 0
EndsSo form every first L taken rest from written status = (text : List ℕ) × Grows from written text × Ends form every first L taken rest status text

-- by these statuses a run ends once what waits was released
abbrev pub IsPause : Status → Type 0
IsPause (BadInput n fault) = Unit {0}
IsPause (Limit n kind) = Unit {0}
IsPause ReadFault = Unit {0}
IsPause _ = ⊥

-- and by these at once
abbrev pub IsStop : Status → Type 0
IsStop (Limit n kind) = Unit {0}
IsStop ReadFault = Unit {0}
IsStop WriteFault = Unit {0}
IsStop KeepFault = Unit {0}
IsStop NoMemory = Unit {0}
IsStop _ = ⊥

abbrev pub HasStopped : Result Ending Status → Type 0
HasStopped (Ok ending.End) = Unit {0}
HasStopped (Ok (ending.Before status)) = IsPause status
HasStopped (Err status) = IsStop status

-- ---- which counts of faults rise

abbrev pub is_write_stop : {X : Type 0} → Result X LineStop → Bool
is_write_stop (Err stop.Write) = true
is_write_stop _ = false

abbrev pub is_keep_stop : {X : Type 0} → Result X LineStop → Bool
is_keep_stop (Err stop.Keep) = true
is_keep_stop _ = false

abbrev pub is_read : Result Ending Status → Bool
is_read (Ok ending.End) = false
is_read (Ok (ending.Before status)) = is_read_fault status
is_read (Err status) = is_read_fault status

abbrev pub is_write : Result Ending Status → Bool
is_write (Ok x) = false
is_write (Err status) = is_write_fault status

abbrev pub is_keep : Result Ending Status → Bool
is_keep (Ok x) = false
is_keep (Err status) = is_keep_fault status

-- a stop of the sink, and one of the keeper
abbrev pub IsOfSink : LineStop → Type 0
IsOfSink stop.Write = Unit {0}
IsOfSink stop.NoMemory = Unit {0}
IsOfSink _ = ⊥

abbrev pub IsOfKeeper : LineStop → Type 0
IsOfKeeper stop.Keep = Unit {0}
IsOfKeeper stop.NoMemory = Unit {0}
IsOfKeeper _ = ⊥

-- a stop at which what waited is lost
abbrev pub IsLoss : LineStop → Type 0
IsLoss stop.Write = Unit {0}
IsLoss stop.Keep = Unit {0}
IsLoss stop.NoMemory = Unit {0}
IsLoss _ = ⊥

-- the fact holds, unless memory was wanting
abbrev pub UnlessNoMemory : LineStop → Type 0 → Type 0
UnlessNoMemory stop.NoMemory P = Unit {0}
UnlessNoMemory _ P = P

-- ---- the end

-- the end of a run, with these lines left
abbrev pub FinishEnds : Form → (Standing → Standing → Type 0) → ℕ → Standing → List (List ℕ) → EndStop → List ℕ → Type 0
FinishEnds form L n s lines (ends.Lacking m fault) text = Lacking form L n s lines text (stop.BadInput m fault)
FinishEnds form L n s lines ends.Report text = Reported form L n s lines text
FinishEnds form L n s lines ends.Flush text = Finished form L n s lines text
FinishEnds form L n s lines ends.NoMemory text = Reported form L n s lines text ⊎ Answered form L n s lines text

abbrev pub FinishStops : Form → (Standing → Standing → Type 0) → ℕ → Standing → List (List ℕ) → Option (List ℕ) → Option (List ℕ) → EndStop → Type 0
FinishStops form L n s lines written written' stop = (text : List ℕ) × Grows written written' text × FinishEnds form L n s lines stop text

-- what is written for the last lines and the report
abbrev pub Finishes : Form → (Standing → Standing → Type 0) → ℕ → Standing → List (List ℕ) → Option (List ℕ) → Option (List ℕ) → Type 0
Finishes form L n s lines written written' = (text : List ℕ) × Finished form L n s lines text × Grows written written' text

-- at the end of the input, with these lines left
abbrev pub FinishAs : Form → (Standing → Standing → Type 0) → ℕ → Standing → List (List ℕ) → Status → List ℕ → Type 0
FinishAs form L n s lines Done text = Finished form L n s lines text
FinishAs form L n s lines (BadInput m fault) text = Lacking form L n s lines text (stop.BadInput m fault)
FinishAs form L n s lines WriteFault text = Reported form L n s lines text ⊎ Finished form L n s lines text
FinishAs form L n s lines NoMemory text = Reported form L n s lines text ⊎ Answered form L n s lines text
FinishAs form L n s lines _ text = ⊥

abbrev pub FinishStatus : Form → (Standing → Standing → Type 0) → ℕ → Standing → List (List ℕ) → Option (List ℕ) → Option (List ℕ) → Status → Type 0
FinishStatus form L n s lines written written' status = (text : List ℕ) × Grows written written' text × FinishAs form L n s lines status text

-- no end of a line is among the bytes
abbrev pub HasNoEnd : List ℕ → Type 0
HasNoEnd [] = Unit {0}
HasNoEnd (b ∷ bytes) = ((b == 10) ≡ false) × HasNoEnd bytes

-- why bytes were not added to a line: it would be too long, or memory was wanting
abbrev pub NotExtended : LineStop → ℕ → List ℕ → List ℕ → Type 0
NotExtended stop.NoMemory n line bytes = Unit {0}
NotExtended stop.Write n line bytes = ⊥
NotExtended stop.Keep n line bytes = ⊥
NotExtended (stop.BadInput m fault) n line bytes = ⊥
NotExtended (stop.Long m) n line bytes = (m ≡ n) × (longest < length (line ++ bytes))
NotExtended (stop.Ratio m over) n line bytes = ⊥

-- a fault of the input, as the machine answers it; memory may always be wanting
abbrev pub IsFault : LineStop → Result Answer LineStop → Type 0
IsFault stop.NoMemory answer = Unit {0}
IsFault stop.Write answer = ⊥
IsFault stop.Keep answer = ⊥
IsFault (stop.BadInput m fault) answer = answer ≡ Err (stop.BadInput m fault)
IsFault (stop.Long m) answer = ⊥
IsFault (stop.Ratio m over) answer = answer ≡ Err (stop.Ratio m over)
