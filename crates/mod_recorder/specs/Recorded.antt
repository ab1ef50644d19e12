-- A recorder as contracts see it: what it heard, what it had heard at each open mark, and at the last settling. It keeps
-- one list of notes, and of each mark its length then.
use Rattle.std.specs.Prelude.{ℕ, Bool, ◌&&◌, nat_le, List, [], ◌∷◌, map, take}
use Rattle.mod_recorder.specs.declared.note.Note.{Note}
use Rattle.mod_recorder.specs.declared.recorder.Place.{Place}
use Rattle.mod_recorder.specs.Notes.{Noted, nothing_noted}

pub record Recorded : Type 0 where
  pub noted : Noted
  pub marks : List Noted
  pub settled : Noted

abbrev pub new_recorded : Recorded
new_recorded = record { noted = nothing_noted; marks = []; settled = nothing_noted }

-- what was heard when so many of the notes stood
abbrev pub noted_at : List Note → Place → Noted
noted_at notes p = record { notes = take p.notes notes; before = p.before }

abbrev pub recorded : List Note → ℕ → List Place → Place → Recorded
recorded notes before marks settled = record {
  noted = record { notes = notes; before = before };
  marks = map (noted_at notes) marks;
  settled = noted_at notes settled;
}

-- the lengths at places rise, from one length to another
abbrev pub are_rising : ℕ → List Place → ℕ → Bool
are_rising low [] high = nat_le low high
are_rising low (p ∷ ps) high = nat_le low p.notes && are_rising p.notes ps high
