-- Counts of faults move with the status.
use Rattle.std.proofs.Common.{◌≡◌, ◌⊎◌, ◌<◌, inl, inr, ℕ, Bool, true, false, List, Result, Ok, Err, IfErr, OnErr, refl, ap, subst, arith}
use Rattle.base_io.specs.Outside.{Rose}
use Rattle.run_app.specs.declared.{progress.Ending.Ending, status.{EndStop.EndStop, InputFault.InputFault}}
use Rattle.run_app.specs.declared.status.{LineStop.LineStop, Status.Status}
use Rattle.run_app.specs.declared.status.Status.TheVariants.{Done, Usage, BadInput, Limit, ReadFault, WriteFault, KeepFault, NoMemory, BadStore, WrongStore, NotFound, NoPast}
use Rattle.run_app.specs.{Counts.{Moved, ReadMoved, is_keep_fault, is_read_fault, is_write_fault}, Ending.status_of}
use Rattle.run_app.specs.Outcome.{HasBegun, UnlessReadFault, UnlessWriteFault}
use Rattle.run_app.specs.Parts.{HasStopped, IsLoss, IsOfKeeper, IsOfSink, IsPause, IsStop, NotExtended, ending_of, is_keep, is_keep_stop, is_read, is_write, is_write_stop, status_at_end}
use Rattle.run_app.specs.declared.progress.Ending.TheVariants as ending
use Rattle.run_app.specs.declared.status.LineStop.TheVariants as stops
use Rattle.run_app.specs.declared.status.EndStop.TheVariants as ends

-- ---- by a status

pub moved_read : (s : Status) (before now : ℕ) → (s ≡ ReadFault → Rose before now) → UnlessReadFault s (now ≡ before) → Moved (is_read_fault s) before now
moved_read Done before now cause quiet = quiet
moved_read Usage before now cause quiet = quiet
moved_read (BadInput n fault) before now cause quiet = quiet
moved_read (Limit n kind) before now cause quiet = quiet
moved_read ReadFault before now cause quiet = cause refl
moved_read WriteFault before now cause quiet = quiet
moved_read KeepFault before now cause quiet = quiet
moved_read NoMemory before now cause quiet = quiet
moved_read BadStore before now cause quiet = quiet
moved_read (WrongStore is_empty) before now cause quiet = quiet
moved_read NotFound before now cause quiet = quiet
moved_read (NoPast base last) before now cause quiet = quiet

pub moved_write : (s : Status) (before now : ℕ) → (s ≡ WriteFault → Rose before now) → UnlessWriteFault s (now ≡ before) → Moved (is_write_fault s) before now
moved_write Done before now cause quiet = quiet
moved_write Usage before now cause quiet = quiet
moved_write (BadInput n fault) before now cause quiet = quiet
moved_write (Limit n kind) before now cause quiet = quiet
moved_write ReadFault before now cause quiet = quiet
moved_write WriteFault before now cause quiet = cause refl
moved_write KeepFault before now cause quiet = quiet
moved_write NoMemory before now cause quiet = quiet
moved_write BadStore before now cause quiet = quiet
moved_write (WrongStore is_empty) before now cause quiet = quiet
moved_write NotFound before now cause quiet = quiet
moved_write (NoPast base last) before now cause quiet = quiet

-- a run that does not end by a fault of the keeper
pub unkept : (s : Status) → (s ≡ KeepFault → ⊥) → is_keep_fault s ≡ false
unkept Done never = refl
unkept Usage never = refl
unkept (BadInput n fault) never = refl
unkept (Limit n kind) never = refl
unkept ReadFault never = refl
unkept WriteFault never = refl
unkept KeepFault never = absurd (never refl)
unkept NoMemory never = refl
unkept BadStore never = refl
unkept (WrongStore is_empty) never = refl
unkept NotFound never = refl
unkept (NoPast base last) never = refl

-- where a run ended by a fault, its count rose
pub rose_write : (s : Status) (before now : ℕ) → Moved (is_write_fault s) before now → s ≡ WriteFault → Rose before now
rose_write s before now moved e = subst (λ (t : Status). Moved (is_write_fault t) before now) e moved

pub rose_keep : (s : Status) (before now : ℕ) → Moved (is_keep_fault s) before now → s ≡ KeepFault → Rose before now
rose_keep s before now moved e = subst (λ (t : Status). Moved (is_keep_fault t) before now) e moved

-- a run that commits at each Nth block moves it so too
pub still_read : (every : ℕ) (s : Status) (before now : ℕ) → Moved (is_read_fault s) before now → ReadMoved every s before now
still_read every Done before now h = h
still_read every Usage before now h = h
still_read every (BadInput n fault) before now h = h
still_read every (Limit n kind) before now h = h
still_read every ReadFault before now h = h
still_read every WriteFault before now h = inl h
still_read every KeepFault before now h = inl h
still_read every NoMemory before now h = inl h
still_read every BadStore before now h = h
still_read every (WrongStore is_empty) before now h = h
still_read every NotFound before now h = h
still_read every (NoPast base last) before now h = h

one_so : (before now : ℕ) → (now ≡ before) ⊎ ((1 < 1) × Rose before now) → now ≡ before
one_so before now (inl same) = same
one_so before now (inr h) = let never : 1 < 1 = h.0 in absurd (omega (arith, never))

-- where it is each block it moves as the others
pub one_read : (s : Status) (before now : ℕ) → ReadMoved 1 s before now → Moved (is_read_fault s) before now
one_read Done before now h = h
one_read Usage before now h = h
one_read (BadInput n fault) before now h = h
one_read (Limit n kind) before now h = h
one_read ReadFault before now h = h
one_read WriteFault before now h = one_so before now h
one_read KeepFault before now h = one_so before now h
one_read NoMemory before now h = one_so before now h
one_read BadStore before now h = h
one_read (WrongStore is_empty) before now h = h
one_read NotFound before now h = h
one_read (NoPast base last) before now h = h

pub quiet_read : (every : ℕ) (s : Status) (before now : ℕ) → is_read_fault s ≡ false → now ≡ before → ReadMoved every s before now
quiet_read every s before now none same = still_read every s before now (rw none same)

pub rose_read : (every : ℕ) (s : Status) (before now : ℕ) → ReadMoved every s before now → s ≡ ReadFault → Rose before now
rose_read every s before now moved e = subst (λ (t : Status). ReadMoved every t before now) e moved

lost_so : (every : ℕ) (why : LineStop) (before now : ℕ) → IsLoss why → 1 < every → (now ≡ before) ⊎ Rose before now → ReadMoved every (status_of why) before now
lost_so every stops.Write before now of more (inl h) = inl h
lost_so every stops.Write before now of more (inr h) = inr (more, h)
lost_so every stops.Keep before now of more (inl h) = inl h
lost_so every stops.Keep before now of more (inr h) = inr (more, h)
lost_so every stops.NoMemory before now of more (inl h) = inl h
lost_so every stops.NoMemory before now of more (inr h) = inr (more, h)
lost_so every (stops.BadInput n fault) before now of more h = absurd of
lost_so every (stops.Long n) before now of more h = absurd of
lost_so every (stops.Ratio n over) before now of more h = absurd of

either : (s : Status) (before now : ℕ) → Moved (is_read_fault s) before now → (now ≡ before) ⊎ Rose before now
either s before now h = by (is_read_fault s) h
  where
    by : (b : Bool) → Moved b before now → (now ≡ before) ⊎ Rose before now
    by true h = inr h
    by false h = inl h

-- where lines wait at a fault of the source, and are then lost
pub lost_read : (every : ℕ) (why : LineStop) (e : Ending) (before now : ℕ) → IsLoss why → 1 < every → Moved (is_read (Ok e)) before now → ReadMoved every (status_of why) before now
lost_read every why ending.End before now of more h = lost_so every why before now of more (inl h)
lost_read every why (ending.Before s) before now of more h = lost_so every why before now of more (either s before now h)

-- ---- by the stop of a part

pub part_writes : (X : Type 0) (why : LineStop) (before now : ℕ) → Moved (is_write_stop {X = X} (Err why)) before now → Moved (is_write_fault (status_of why)) before now
part_writes X (stops.BadInput n fault) before now h = h
part_writes X (stops.Long n) before now h = h
part_writes X (stops.Ratio n over) before now h = h
part_writes X stops.Write before now h = h
part_writes X stops.Keep before now h = h
part_writes X stops.NoMemory before now h = h

pub part_keeps : (X : Type 0) (why : LineStop) (before now : ℕ) → Moved (is_keep_stop {X = X} (Err why)) before now → Moved (is_keep_fault (status_of why)) before now
part_keeps X (stops.BadInput n fault) before now h = h
part_keeps X (stops.Long n) before now h = h
part_keeps X (stops.Ratio n over) before now h = h
part_keeps X stops.Write before now h = h
part_keeps X stops.Keep before now h = h
part_keeps X stops.NoMemory before now h = h

pub part_reads : (why : LineStop) → is_read_fault (status_of why) ≡ false
part_reads (stops.BadInput n fault) = refl
part_reads (stops.Long n) = refl
part_reads (stops.Ratio n over) = refl
part_reads stops.Write = refl
part_reads stops.Keep = refl
part_reads stops.NoMemory = refl

pub part_undone : (why : LineStop) → status_of why ≡ Done → ⊥
part_undone (stops.BadInput n fault) e = cc
part_undone (stops.Long n) e = cc
part_undone (stops.Ratio n over) e = cc
part_undone stops.Write e = cc
part_undone stops.Keep e = cc
part_undone stops.NoMemory e = cc

pub begun_by : (why : LineStop) → HasBegun (status_of why)
begun_by (stops.BadInput n fault) = tt
begun_by (stops.Long n) = tt
begun_by (stops.Ratio n over) = tt
begun_by stops.Write = tt
begun_by stops.Keep = tt
begun_by stops.NoMemory = tt

-- what stops a line of the sink or the keeper loses what waited
pub keeper_loss : (why : LineStop) → IsOfKeeper why → IsLoss why
keeper_loss (stops.BadInput n fault) of = absurd of
keeper_loss (stops.Long n) of = absurd of
keeper_loss (stops.Ratio n over) of = absurd of
keeper_loss stops.Write of = absurd of
keeper_loss stops.Keep of = tt
keeper_loss stops.NoMemory of = tt

pub sink_loss : {X : Type 0} (r : Result X LineStop) → IfErr r IsOfSink → IfErr r IsLoss
sink_loss (Ok x) of = tt
sink_loss (Err (stops.BadInput n fault)) of = absurd of
sink_loss (Err (stops.Long n)) of = absurd of
sink_loss (Err (stops.Ratio n over)) of = absurd of
sink_loss (Err stops.Write) of = tt
sink_loss (Err stops.Keep) of = absurd of
sink_loss (Err stops.NoMemory) of = tt

-- a fact that holds holds where a part stopped
pub on_stop : {X : Type 0} (r : Result X LineStop) (P : Type 0) → P → OnErr r P
on_stop (Ok x) P p = tt
on_stop (Err why) P p = p

-- a stop of the sink is none of the keeper, and the other way round
pub sink_moved : {X : Type 0} (r : Result X LineStop) (count : ℕ) → IfErr r IsOfSink → Moved (is_keep_stop r) count count
sink_moved (Ok x) count of = refl
sink_moved (Err (stops.BadInput n fault)) count of = refl
sink_moved (Err (stops.Long n)) count of = refl
sink_moved (Err (stops.Ratio n over)) count of = refl
sink_moved (Err stops.Write) count of = refl
sink_moved (Err stops.Keep) count of = absurd of
sink_moved (Err stops.NoMemory) count of = refl

pub keeper_moved : (X : Type 0) (why : LineStop) (count : ℕ) → IsOfKeeper why → Moved (is_write_stop {X = X} (Err why)) count count
keeper_moved X (stops.BadInput n fault) count of = refl
keeper_moved X (stops.Long n) count of = refl
keeper_moved X (stops.Ratio n over) count of = refl
keeper_moved X stops.Write count of = absurd of
keeper_moved X stops.Keep count of = refl
keeper_moved X stops.NoMemory count of = refl

-- bytes that do not come to a line are no fault of the sink or the keeper
pub extended_writes : (X : Type 0) (why : LineStop) (n : ℕ) (line bytes : List ℕ) (count : ℕ) → NotExtended why n line bytes → Moved (is_write_stop {X = X} (Err why)) count count
extended_writes X (stops.BadInput m fault) n line bytes count h = refl
extended_writes X (stops.Long m) n line bytes count h = refl
extended_writes X (stops.Ratio m over) n line bytes count h = refl
extended_writes X stops.Write n line bytes count h = absurd h
extended_writes X stops.Keep n line bytes count h = refl
extended_writes X stops.NoMemory n line bytes count h = refl

pub extended_keeps : (X : Type 0) (why : LineStop) (n : ℕ) (line bytes : List ℕ) (count : ℕ) → NotExtended why n line bytes → Moved (is_keep_stop {X = X} (Err why)) count count
extended_keeps X (stops.BadInput m fault) n line bytes count h = refl
extended_keeps X (stops.Long m) n line bytes count h = refl
extended_keeps X (stops.Ratio m over) n line bytes count h = refl
extended_keeps X stops.Write n line bytes count h = refl
extended_keeps X stops.Keep n line bytes count h = absurd h
extended_keeps X stops.NoMemory n line bytes count h = refl

pub all_writes : {X : Type 0} (r : Result X LineStop) (n : ℕ) (line bytes : List ℕ) (count : ℕ) → IfErr r (λ why. NotExtended why n line bytes) → Moved (is_write_stop r) count count
all_writes {X} (Ok x) n line bytes count h = refl
all_writes {X} (Err why) n line bytes count h = extended_writes X why n line bytes count h

pub all_keeps : {X : Type 0} (r : Result X LineStop) (n : ℕ) (line bytes : List ℕ) (count : ℕ) → IfErr r (λ why. NotExtended why n line bytes) → Moved (is_keep_stop r) count count
all_keeps {X} (Ok x) n line bytes count h = refl
all_keeps {X} (Err why) n line bytes count h = extended_keeps X why n line bytes count h

-- ---- by where no more lines are taken

pub paused_writes : (s : Status) → IsPause s → is_write_fault s ≡ false
paused_writes (BadInput n fault) of = refl
paused_writes (Limit n kind) of = refl
paused_writes ReadFault of = refl
paused_writes Done of = absurd of
paused_writes Usage of = absurd of
paused_writes WriteFault of = absurd of
paused_writes KeepFault of = absurd of
paused_writes NoMemory of = absurd of
paused_writes BadStore of = absurd of
paused_writes (WrongStore is_empty) of = absurd of
paused_writes NotFound of = absurd of
paused_writes (NoPast base last) of = absurd of

pub paused_keeps : (s : Status) → IsPause s → is_keep_fault s ≡ false
paused_keeps (BadInput n fault) of = refl
paused_keeps (Limit n kind) of = refl
paused_keeps ReadFault of = refl
paused_keeps Done of = absurd of
paused_keeps Usage of = absurd of
paused_keeps WriteFault of = absurd of
paused_keeps KeepFault of = absurd of
paused_keeps NoMemory of = absurd of
paused_keeps BadStore of = absurd of
paused_keeps (WrongStore is_empty) of = absurd of
paused_keeps NotFound of = absurd of
paused_keeps (NoPast base last) of = absurd of

pub paused_undone : (s : Status) → IsPause s → s ≡ Done → ⊥
paused_undone s of e = subst IsPause e of

pub stopped_undone : (s : Status) → IsStop s → s ≡ Done → ⊥
stopped_undone s of e = subst IsStop e of

pub paused_begun : (s : Status) → IsPause s → HasBegun s
paused_begun (BadInput n fault) of = tt
paused_begun (Limit n kind) of = tt
paused_begun ReadFault of = tt
paused_begun Done of = absurd of
paused_begun Usage of = absurd of
paused_begun WriteFault of = absurd of
paused_begun KeepFault of = absurd of
paused_begun NoMemory of = absurd of
paused_begun BadStore of = absurd of
paused_begun (WrongStore is_empty) of = absurd of
paused_begun NotFound of = absurd of
paused_begun (NoPast base last) of = absurd of

pub stopped_begun : (s : Status) → IsStop s → HasBegun s
stopped_begun (Limit n kind) of = tt
stopped_begun ReadFault of = tt
stopped_begun WriteFault of = tt
stopped_begun KeepFault of = tt
stopped_begun NoMemory of = tt
stopped_begun Done of = absurd of
stopped_begun Usage of = absurd of
stopped_begun (BadInput n fault) of = absurd of
stopped_begun BadStore of = absurd of
stopped_begun (WrongStore is_empty) of = absurd of
stopped_begun NotFound of = absurd of
stopped_begun (NoPast base last) of = absurd of

-- the stop of a line, as an ending
pub ending_stopped : (why : LineStop) → HasStopped (ending_of why)
ending_stopped (stops.BadInput n fault) = tt
ending_stopped (stops.Long n) = tt
ending_stopped (stops.Ratio n over) = tt
ending_stopped stops.Write = tt
ending_stopped stops.Keep = tt
ending_stopped stops.NoMemory = tt

pub loss_stopped : (why : LineStop) → IsLoss why → IsStop (status_of why)
loss_stopped (stops.BadInput n fault) of = absurd of
loss_stopped (stops.Long n) of = absurd of
loss_stopped (stops.Ratio n over) of = absurd of
loss_stopped stops.Write of = tt
loss_stopped stops.Keep of = tt
loss_stopped stops.NoMemory of = tt

pub ending_reads : (why : LineStop) → is_read (ending_of why) ≡ false
ending_reads (stops.BadInput n fault) = refl
ending_reads (stops.Long n) = refl
ending_reads (stops.Ratio n over) = refl
ending_reads stops.Write = refl
ending_reads stops.Keep = refl
ending_reads stops.NoMemory = refl

pub ending_writes : (X : Type 0) (why : LineStop) (before now : ℕ) → Moved (is_write_stop {X = X} (Err why)) before now → Moved (is_write (ending_of why)) before now
ending_writes X (stops.BadInput n fault) before now h = h
ending_writes X (stops.Long n) before now h = h
ending_writes X (stops.Ratio n over) before now h = h
ending_writes X stops.Write before now h = h
ending_writes X stops.Keep before now h = h
ending_writes X stops.NoMemory before now h = h

pub ending_keeps : (X : Type 0) (why : LineStop) (before now : ℕ) → Moved (is_keep_stop {X = X} (Err why)) before now → Moved (is_keep (ending_of why)) before now
ending_keeps X (stops.BadInput n fault) before now h = h
ending_keeps X (stops.Long n) before now h = h
ending_keeps X (stops.Ratio n over) before now h = h
ending_keeps X stops.Write before now h = h
ending_keeps X stops.Keep before now h = h
ending_keeps X stops.NoMemory before now h = h

-- ---- by the stop of the end

pub missing_so : {X : Type 0} (why : EndStop) (n : ℕ) (fault : InputFault) → ◌≡◌ {A = Result X EndStop} (Err why) (Err (ends.Lacking n fault)) → status_at_end why ≡ BadInput n fault
missing_so why n fault e = let same : why ≡ ends.Lacking n fault = cc in ap status_at_end same

pub end_reads : (why : EndStop) → is_read_fault (status_at_end why) ≡ false
end_reads (ends.Lacking n fault) = refl
end_reads ends.Report = refl
end_reads ends.Flush = refl
end_reads ends.NoMemory = refl

pub end_keeps : (why : EndStop) → is_keep_fault (status_at_end why) ≡ false
end_keeps (ends.Lacking n fault) = refl
end_keeps ends.Report = refl
end_keeps ends.Flush = refl
end_keeps ends.NoMemory = refl

pub end_undone : (why : EndStop) → status_at_end why ≡ Done → ⊥
end_undone (ends.Lacking n fault) e = cc
end_undone ends.Report e = cc
end_undone ends.Flush e = cc
end_undone ends.NoMemory e = cc

pub begun_at_end : (stop : EndStop) → HasBegun (status_at_end stop)
begun_at_end (ends.Lacking n fault) = tt
begun_at_end ends.Report = tt
begun_at_end ends.Flush = tt
begun_at_end ends.NoMemory = tt
