-- How a run ends over a keeper that keeps nothing, and so has no rows.
use Rattle.std.specs.Prelude.{◌≡◌, true, false, []}
use Rattle.run_words.specs.declared.mode.Mode.{Mode}
use Rattle.run_words.specs.declared.mode.Mode.TheVariants.{Replay, Resume, Query, Tally, Check, Statement, Gen, Trial}
use Rattle.run_app.specs.declared.status.Status.{Status}
use Rattle.run_app.specs.declared.status.Status.TheVariants.{KeepFault, NoMemory, WrongStore}
use Rattle.run_app.specs.Seen.{SinkTold, SourceTold}
use Rattle.run_app.specs.Writes.{Leaves}

-- A run was to go on from rows, and found none; or they were not loaded, or memory was wanting.
abbrev pub IsOfNoRows : Status → Type 0
IsOfNoRows (WrongStore is_empty) = is_empty ≡ true
IsOfNoRows KeepFault = Unit {0}
IsOfNoRows NoMemory = Unit {0}
IsOfNoRows _ = ⊥

-- Then it takes and writes nothing.
abbrev pub FindsNoRows : SourceTold → SinkTold → Status → Type 0
FindsNoRows source sink status = IsOfNoRows status × Leaves source sink (λ text. text ≡ [])

-- Over a keeper that keeps nothing a replay is not refused as one on rows, and what goes on from
-- rows finds none.
abbrev pub ModeUnkept : Mode → SourceTold → SinkTold → Status → Type 0
ModeUnkept Replay source sink status = status ≡ WrongStore false → ⊥
ModeUnkept Resume source sink status = FindsNoRows source sink status
ModeUnkept (Query what) source sink status = FindsNoRows source sink status
ModeUnkept Tally source sink status = FindsNoRows source sink status
ModeUnkept Check source sink status = Unit {0}
ModeUnkept (Statement delegator operator) source sink status = Unit {0}
ModeUnkept (Gen seed count) source sink status = Unit {0}
ModeUnkept (Trial seed count) source sink status = Unit {0}
