-- Worked notes, each by computing.
use Rattle.std.specs.Prelude.{◌≡◌, ℕ, ◌*◌, ◌^◌, ◌-◌, false, List, [], ◌∷◌, replicate, None, Some}
use Rattle.base_types.specs.declared.status.BondStatus.TheVariants.{Bonded}
use Rattle.base_roles.specs.declared.entities.Validator.{Validator}
use Rattle.base_roles.specs.declared.calls.Hook.{Hook}
use Rattle.base_roles.specs.declared.calls.Hook.TheVariants.{Bonded as bonded, Created as created, Modified as modified, Modifying as modifying, Slashing as slashing}
use Rattle.mod_statement.specs.declared.entry.Entry.TheVariants.{Started, Slashed, Touched}
use Rattle.mod_recorder.specs.declared.note.Note.{Note}
use Rattle.mod_recorder.specs.Notes.{Noted, counted, ended, note_of, noted, nothing_noted, parted}

-- an address, by its first byte
abbrev pub address : ℕ → List ℕ
address n = n ∷ replicate 19 7

-- a validator of so many tokens, with as many whole shares
abbrev pub validator : ℕ → Validator
validator tokens = record {
  operator = address 1;
  cons = address 2;
  status = Bonded;
  jailed = false;
  tokens = tokens;
  shares = tokens * 10 ^ 18;
  commission = record { rate = 0; max_rate = 0; max_change = 0; updated = 0 };
  min_self = 1;
  unbonding_height = 0;
  unbonding_time = 0;
}

-- what is heard of a call behind so many facts of its own part
abbrev pub heard_behind : ℕ → Hook → Noted → Noted
heard_behind facts hook r = noted (note_of (counted r.before facts) hook) r

-- A delegation of 2,000,000 of 3,000,000 begins in the second transaction of a block, behind four facts of it; the
-- beginning told three and the first transaction five, so twelve facts of the block stand before it.
abbrev pub StartBehindParts : Type 0
StartBehindParts =
    heard_behind 4 (modified (validator 3000000) (address 9) (2000000 * 10 ^ 18)) (parted (parted nothing_noted 3) 5)
    ≡ record {
      notes = record { operator = address 1; delegator = Some (address 9); facts = 12; entry = Some (Started (2000000 * 10 ^ 18) 3000000 (3000000 * 10 ^ 18)) } ∷ [];
      before = 8;
    }

-- A slash of a twentieth of 999,999 tokens burns 49,999 of them, cut.
abbrev pub SlashIsCut : Type 0
SlashIsCut =
    (heard_behind 0 (slashing (validator 999999) (5 * 10 ^ 16)) nothing_noted).notes
    ≡ record { operator = address 1; delegator = None; facts = 0; entry = Some (Slashed 49999 999999) } ∷ []

-- A validator is created, a delegation to it is about to change, and it is bonded: of the last nothing is noted. The
-- next block counts its facts from none.
abbrev pub NotesInOrder : Type 0
NotesInOrder =
    ended (parted (heard_behind 2 (bonded (validator 1)) (heard_behind 1 (modifying (validator 1) (address 9) 1) (heard_behind 0 (created (validator 1)) nothing_noted))) 6)
    ≡ record {
      notes =
          record { operator = address 1; delegator = None; facts = 0; entry = None }
          ∷ record { operator = address 1; delegator = Some (address 9); facts = 1; entry = Some Touched }
          ∷ [];
      before = 0;
    }
