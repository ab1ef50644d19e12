-- What another size of the window makes of the signing records that are kept.
use Rattle.std.specs.Prelude.{ℕ, ◌-◌, ◌%◌, ◌==◌, ◌&&◌, ◌||◌, nat_lt, if◌then◌else◌, Bool, List, ◌++◌, map, take, drop, length, Option, Some, None}
use Rattle.rule_modules.specs.Amounts.{count_where}
use Rattle.mod_signing.specs.Kept.{Signed, Kept, with_signed}

-- the next place of a ring after so many votes: the first one, until it is full
abbrev pub next_of : ℕ → ℕ → ℕ
next_of counted places = if places == 0 then 0 else counted % places

-- the votes of a ring after so many, the earliest first: from the next place on, then up to it
abbrev pub votes_of : ℕ → List Bool → List Bool
votes_of counted ring =
    let next = next_of counted (length ring) in
    drop next ring ++ take next ring

-- the last votes, at most so many, the earliest first
abbrev pub last_votes_of : ℕ → ℕ → List Bool → List Bool
last_votes_of most counted ring = drop (length ring - most) (votes_of counted ring)

-- Whether a window of this size leaves a record of so many votes and places as it is: its ring has as many places as the window,
-- or fewer and every vote that was counted.
abbrev pub has_room : ℕ → ℕ → ℕ → Bool
has_room window counted places = (places == window) || (nat_lt places window && (counted == places))

-- of a record only the last votes, at most so many, the earliest at the first place
abbrev pub with_last : ℕ → Signed → Signed
with_last most s =
    let votes = last_votes_of most s.info.counted s.ring in
    record { info = record s.info { counted = length votes; missed = count_where (λ missed. missed) votes }; ring = votes }

-- a record in a window of this size
abbrev pub signed_resized : ℕ → Signed → Signed
signed_resized window s = if has_room window s.info.counted (length s.ring) then s else with_last window s

-- all records in a window of this size
abbrev pub kept_resized : ℕ → Kept → Kept
kept_resized window kept = map (λ e. (e.0, signed_resized window e.1)) kept

-- the record of one consensus address, where there is one, in a window of this size
abbrev pub resized_at : ℕ → List ℕ → Option Signed → Kept → Kept
resized_at window cons None kept = kept
resized_at window cons (Some s) kept = if has_room window s.info.counted (length s.ring) then kept else with_signed cons (with_last window s) kept
