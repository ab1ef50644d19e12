-- What a statement of a pair of a delegator and a validator rests on, as notes and facts come, and the pair's payments.
use Rattle.std.specs.Prelude.{ℕ, ◌&&◌, Bool, false, nat_le, if◌then◌else◌, List, [], ◌∷◌, ◌++◌, Option, Some, None, Result, Ok, Err}
use Rattle.base_decimals.specs.declared.over.Over.{Over}
use Rattle.base_coins.specs.Coins.{Money, coins_mul_even, coins_taken}
use Rattle.base_roles.specs.declared.entities.Validator.{Validator}
use Rattle.base_roles.specs.declared.facts.Fact.{Fact}
use Rattle.base_roles.specs.declared.facts.Fact.TheVariants as fact
use Rattle.base_roles.specs.Orders.{same_addr}
use Rattle.mod_statement.specs.declared.entry.Entry.{Entry}
use Rattle.mod_statement.specs.declared.entry.Entry.TheVariants.{Started, Allocated, Ended, Slashed, Touched}
use Rattle.mod_recorder.specs.declared.note.Note.{Note}
use Rattle.mod_recorder.specs.Notes.{counted}
use Rattle.mod_tracking.specs.declared.tracker.Pair.{Pair}

-- What stands of a pair: the entries since the delegator's last start, of which there are none where it has no start or was
-- paid since; how often shares were about to change since the validator was created; and the validator's last ratio.
pub record Tracked : Type 0 where
  pub entries : List Entry
  pub removals : ℕ
  pub ratio : Money

abbrev pub tracked : List Entry → ℕ → Money → Tracked
tracked entries removals ratio = record { entries = entries; removals = removals; ratio = ratio }

-- nothing happened to the validator yet
abbrev pub untracked : Tracked
untracked = tracked [] 0 []

-- a payment of the pair: its reward, and what stood then, on which it rests
pub record Payment : Type 0 where
  pub reward : Money
  pub rests_on : Tracked

-- what stands of the pair, and its payments so far
pub record Followed : Type 0 where
  pub tracked : Tracked
  pub payments : List Payment

abbrev pub followed : Tracked → List Payment → Followed
followed t payments = record { tracked = t; payments = payments }

-- no payment yet
abbrev pub unpaid : Tracked → Followed
unpaid t = followed t []

-- ---- entries

-- one entry more, where there is a start
abbrev pub behind_start : Entry → List Entry → List Entry
behind_start e [] = []
behind_start e (first ∷ rest) = first ∷ rest ++ e ∷ []

abbrev pub with_entry : Entry → Tracked → Tracked
with_entry e t = record t { entries = behind_start e t.entries }

-- a start, before which no entry counts
abbrev pub started : ℕ → ℕ → ℕ → Tracked → Tracked
started shares tokens total t = record t { entries = Started shares tokens total ∷ [] }

-- once more, counted up to 2^64 - 1
abbrev pub once_more : ℕ → ℕ
once_more n = counted n 1

-- shares are about to change
abbrev pub touched : Tracked → Tracked
touched t = with_entry Touched (record t { removals = once_more t.removals })

-- ---- notes

-- the address is that of the delegator
abbrev pub is_of : List ℕ → Option (List ℕ) → Bool
is_of delegator None = false
is_of delegator (Some who) = same_addr who delegator

-- What a note of the validator tells, of whom: that the rewards of a delegation begin, which is a start where it is the
-- delegator's; that shares are about to change; that tokens are slashed.
abbrev pub entry_taken : List ℕ → Option (List ℕ) → Entry → Tracked → Tracked
entry_taken delegator who (Started shares tokens total) t =
    if is_of delegator who then started shares tokens total t else t
entry_taken delegator who Touched t = touched t
entry_taken delegator who (Slashed burned tokens) t = with_entry (Slashed burned tokens) t
entry_taken delegator who (Allocated coins tokens) t = t
entry_taken delegator who Ended t = t

-- or that it was created, before which nothing counts
abbrev pub own_taken : List ℕ → Option (List ℕ) → Option Entry → Tracked → Tracked
own_taken delegator who None t = untracked
own_taken delegator who (Some e) t = entry_taken delegator who e t

abbrev pub note_taken : Pair → Note → Tracked → Tracked
note_taken p n t = if same_addr n.operator p.operator then own_taken p.delegator n.delegator n.entry t else t

-- notes in their order
abbrev pub notes_taken : Pair → List Note → Tracked → Tracked
notes_taken p [] t = t
notes_taken p (n ∷ ns) t = notes_taken p ns (note_taken p n t)

-- ---- facts

-- What the validator's delegators get of a share: what is left of it behind commission. That commission is never over is a law.
abbrev pub rest_or : Money → Result Money Over → Money
rest_or share (Ok part) = coins_taken share part
rest_or share (Err over) = share

abbrev pub rest_of : Money → ℕ → Money
rest_of share rate = rest_or share (coins_mul_even share rate)

-- an allocation, by the validator as it was before the block
abbrev pub allocation : Option Validator → Money → Tracked → Tracked
allocation None share t = t
allocation (Some v) share t = with_entry (Allocated (rest_of share v.commission.rate) v.tokens) t

-- the end of a period
abbrev pub period_ended : Money → Tracked → Tracked
period_ended ratio t = with_entry Ended (record t { ratio = ratio })

-- What a fact tells that pays nothing: an allocation to the validator, or the end of a period of it.
abbrev pub fact_taken : Pair → Option Validator → Fact → Tracked → Tracked
fact_taken p v (fact.Allocated operator share) t = if same_addr operator p.operator then allocation v share t else t
fact_taken p v (fact.Period operator period ratio) t = if same_addr operator p.operator then period_ended ratio t else t
fact_taken p v f t = t

-- a payment uses up the entries
abbrev pub paid : Money → Followed → Followed
paid reward w = record {
  tracked = record w.tracked { entries = [] };
  payments = w.payments ++ record { reward = reward; rests_on = w.tracked } ∷ [];
}

-- it is the pair's
abbrev pub is_pair : Pair → List ℕ → List ℕ → Bool
is_pair p delegator operator = same_addr delegator p.delegator && same_addr operator p.operator

-- what stands after a fact
abbrev pub fact_followed : Pair → Option Validator → Fact → Followed → Followed
fact_followed p v (fact.Paid delegator operator to reward coins) w = if is_pair p delegator operator then paid reward w else w
fact_followed p v f w = record w { tracked = fact_taken p v f w.tracked }

-- ---- a block

-- a note stands before the fact at this place
abbrev pub stands_before : ℕ → Note → Bool
stands_before n note = nat_le note.facts n

-- the notes up to the first that does not, and those from it on
abbrev pub notes_before : ℕ → List Note → List Note
notes_before n [] = []
notes_before n (m ∷ ms) = if stands_before n m then m ∷ notes_before n ms else []

abbrev pub notes_behind : ℕ → List Note → List Note
notes_behind n [] = []
notes_behind n (m ∷ ms) = if stands_before n m then notes_behind n ms else m ∷ ms

-- what stands while a block is walked: of the pair, with its payments, and the notes that are left
pub record Walk : Type 0 where
  pub followed : Followed
  pub notes : List Note

abbrev pub walk_of : Followed → List Note → Walk
walk_of f notes = record { followed = f; notes = notes }

-- notes that are taken
abbrev pub after_notes : Pair → List Note → Followed → Followed
after_notes p notes w = record w { tracked = notes_taken p notes w.tracked }

-- The fact at a place of a block, behind the notes that stand before it. `v` is the validator before the block.
abbrev pub one_walked : Pair → Option Validator → ℕ → Fact → Walk → Walk
one_walked p v n f w = record {
  followed = fact_followed p v f (after_notes p (notes_before n w.notes) w.followed);
  notes = notes_behind n w.notes;
}

-- facts from a place on
abbrev pub facts_walked : Pair → Option Validator → ℕ → List Fact → Walk → Walk
facts_walked p v n [] w = w
facts_walked p v n (f ∷ fs) w = facts_walked p v (once_more n) fs (one_walked p v n f w)

-- and the notes behind the last fact
abbrev pub last_walked : Pair → Walk → Followed
last_walked p w = after_notes p w.notes w.followed

-- a block's facts and notes
abbrev pub block_followed : Pair → Option Validator → List Fact → List Note → Tracked → Followed
block_followed p v facts notes t = last_walked p (facts_walked p v 0 facts (walk_of (unpaid t) notes))
