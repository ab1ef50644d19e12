-- Where a run keeps its rows.
use Rattle.std.specs.Prelude.{ℕ, ◌&&◌, Bool, true, false, not, if◌then◌else◌, List, bytes_eq, codes, Option, Some, None}
use Rattle.base_io.specs.declared.keeper.KeepFault.{KeepFault as KeeperFault}
use Rattle.base_io.specs.declared.keeper.KeepFault.TheVariants as keep
use Rattle.run_words.specs.declared.mode.Command.{Command}
use Rattle.run_words.specs.declared.mode.Mode.{Mode}
use Rattle.run_words.specs.declared.mode.Mode.TheVariants.{Replay}
use Rattle.run_words.specs.Words.{is_option}
use Rattle.run_app.specs.declared.status.Status.{Status}
use Rattle.run_app.specs.declared.status.Status.TheVariants.{KeepFault, NoMemory}
use Rattle.stakeplay.specs.declared.place.Place.{Place}
use Rattle.stakeplay.specs.declared.place.Place.TheVariants.{Nowhere, File, Refused}

-- the command is a replay
abbrev pub is_replay : Mode → Bool
is_replay Replay = true
is_replay _ = false

-- only a replay makes a store where there is none
abbrev pub makes_store : Option Command → Bool
makes_store None = false
makes_store (Some c) = is_replay c.mode

-- Of the name `-` there is no store; a name that is an option is refused; and where there is no file
-- of the name, only a replay makes one, and everything else finds no rows.
abbrev pub place_of : List ℕ → Option Command → Bool → Place
place_of store asked is_absent =
    if bytes_eq store (codes "-") then Nowhere
    else (if is_option store then Refused
    else (if is_absent && not (makes_store asked) then Nowhere else File))

-- how a run ends whose store does not open
abbrev pub status_of_opening : KeeperFault → Status
status_of_opening keep.Failed = KeepFault
status_of_opening keep.NoMemory = NoMemory
