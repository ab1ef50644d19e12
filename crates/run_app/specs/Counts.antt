-- How counts of faults move with the status of a run, and which statuses are of words.
use Rattle.std.specs.Prelude.{◌≡◌, ◌⊎◌, ◌<◌, ℕ, Bool, true, false, Option, Some, None}
use Rattle.base_io.specs.Outside.{Rose}
use Rattle.run_words.specs.declared.mode.Command.{Command}
use Rattle.run_app.specs.declared.status.Status.{Status}
use Rattle.run_app.specs.declared.status.Status.TheVariants.{Usage, ReadFault, WriteFault, KeepFault, NoMemory}

-- the source failed
abbrev pub is_read_fault : Status → Bool
is_read_fault ReadFault = true
is_read_fault _ = false

-- the sink failed
abbrev pub is_write_fault : Status → Bool
is_write_fault WriteFault = true
is_write_fault _ = false

-- the keeper failed
abbrev pub is_keep_fault : Status → Bool
is_keep_fault KeepFault = true
is_keep_fault _ = false

-- A count of faults rose where a run ended by such a fault, and stands still where it did not.
abbrev pub Moved : Bool → ℕ → ℕ → Type 0
Moved true before now = Rose before now
Moved false before now = now ≡ before

-- The source's count of a run that commits at each Nth block: as `Moved` says; but where lines wait at a fault of the source, and are
-- then not kept or not written, the run ends by that later fault.
abbrev pub ReadMoved : ℕ → Status → ℕ → ℕ → Type 0
ReadMoved every ReadFault before now = Rose before now
ReadMoved every WriteFault before now = (now ≡ before) ⊎ ((1 < every) × Rose before now)
ReadMoved every KeepFault before now = (now ≡ before) ⊎ ((1 < every) × Rose before now)
ReadMoved every NoMemory before now = (now ≡ before) ⊎ ((1 < every) × Rose before now)
ReadMoved every _ before now = now ≡ before

-- at how many blocks what words ask for commits: where they are no command it is as at each
abbrev pub every_of : Option Command → ℕ
every_of None = 1
every_of (Some c) = c.every

-- Usage is of words that are no command, and each other status of words that are one; but memory
-- may be wanting for either.
abbrev pub IsOfWords : Option Command → Status → Type 0
IsOfWords asked Usage = asked ≡ None
IsOfWords asked NoMemory = Unit {0}
IsOfWords asked _ = asked ≡ None → ⊥
