-- What a recorder heard: its notes, and how many facts the parts of the present block told before this one.
use Rattle.std.specs.Prelude.{ℕ, ◌+◌, ◌-◌, ◌*◌, ◌^◌, ◌≤◌, ⊤, min, List, [], ◌∷◌, ◌++◌, length, Option, Some, None}
use Rattle.base_decimals.specs.Rounding.{cut}
use Rattle.base_roles.specs.World.{View}
use Rattle.base_roles.specs.declared.calls.Hook.{Hook}
use Rattle.base_roles.specs.declared.calls.Hook.TheVariants.{Created as created, Removed as removed, Bonded as bonded, Starting as starting, Modifying as modifying, Modified as modified, Slashing as slashing}
use Rattle.mod_statement.specs.declared.entry.Entry.TheVariants.{Started, Slashed, Touched}
use Rattle.mod_recorder.specs.declared.note.Note.{Note}

-- the notes in the order of their calls, and the facts of the block's earlier parts
pub record Noted : Type 0 where
  pub notes : List Note
  pub before : ℕ

abbrev pub nothing_noted : Noted
nothing_noted = record { notes = []; before = 0 }

-- what a slash of this fraction burns of so many tokens, cut to whole ones
abbrev pub burned_of : ℕ → ℕ → ℕ
burned_of fraction tokens = cut (fraction * tokens) (10 ^ 18)

-- so many facts and so many more, counted up to 2^64 - 1
abbrev pub counted : ℕ → ℕ → ℕ
counted before facts = min (before + facts) (2 ^ 64 - 1)

-- What is noted of a call, behind so many facts of its block: that the validator was created; that a delegation's
-- shares are about to change; that a delegation's rewards begin, with its shares and the tokens and shares of the
-- validator; that tokens are slashed, with what burns of them. Nothing is noted of the other calls.
abbrev pub note_of : ℕ → Hook → Option Note
note_of facts (created v) = Some (record { operator = v.operator; delegator = None; facts = facts; entry = None })
note_of facts (removed v) = None
note_of facts (bonded v) = None
note_of facts (starting v delegator) = None
note_of facts (modifying v delegator shares) = Some (record { operator = v.operator; delegator = Some delegator; facts = facts; entry = Some Touched })
note_of facts (modified v delegator shares) = Some (record { operator = v.operator; delegator = Some delegator; facts = facts; entry = Some (Started shares v.tokens v.shares) })
note_of facts (slashing v fraction) = Some (record { operator = v.operator; delegator = None; facts = facts; entry = Some (Slashed (burned_of fraction v.tokens) v.tokens) })

-- a slash is of at most the whole of at most 10^18 tokens
abbrev pub CanBurn : Hook → Type 0
CanBurn (created v) = ⊤
CanBurn (removed v) = ⊤
CanBurn (bonded v) = ⊤
CanBurn (starting v delegator) = ⊤
CanBurn (modifying v delegator shares) = ⊤
CanBurn (modified v delegator shares) = ⊤
CanBurn (slashing v fraction) = (fraction ≤ 10 ^ 18) × (v.tokens ≤ 10 ^ 18)

-- one more note, where there is one
abbrev pub noted : Option Note → Noted → Noted
noted None r = r
noted (Some n) r = record r { notes = r.notes ++ n ∷ [] }

-- what is heard after a call over this ground
abbrev pub heard : Noted → Hook → View → Noted
heard r hook v = noted (note_of (counted r.before (length v.facts)) hook) r

-- after a part of a block that told so many facts, and after the block
abbrev pub parted : Noted → ℕ → Noted
parted r facts = record r { before = counted r.before facts }

abbrev pub ended : Noted → Noted
ended r = record r { before = 0 }
