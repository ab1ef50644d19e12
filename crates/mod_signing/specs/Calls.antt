-- What the window's calls answer and leave.
use Rattle.std.specs.Prelude.{◌≡◌, ℕ, ◌+◌, ◌-◌, ◌/◌, ◌%◌, ◌<◌, nat_lt, not, ◌&&◌, cond, Bool, false, true, List, [], ◌∷◌, length, slice_get, Option, Some, None, Result, Ok, Err, OnOk, ⊤}
use Rattle.base_decimals.specs.declared.over.Over.{Over}
use Rattle.base_decimals.specs.Decimals.{trunc_of}
use Rattle.base_types.specs.declared.status.BondStatus.{BondStatus}
use Rattle.base_shares.specs.Shares.{value_even_of}
use Rattle.base_roles.specs.declared.bank.Ground.{Ground}
use Rattle.base_roles.specs.declared.entities.SigningInfo.{SigningInfo}
use Rattle.base_roles.specs.declared.entities.Validator.{Validator}
use Rattle.base_roles.specs.declared.faults.HookFault.{HookFault}
use Rattle.base_roles.specs.declared.faults.MessageFault.{MessageFault}
use Rattle.base_roles.specs.declared.faults.MessageFault.TheVariants as stop
use Rattle.base_roles.specs.declared.params.Ctx.{Ctx}
use Rattle.base_roles.specs.declared.refusal.Refusal.{Refusal}
use Rattle.base_roles.specs.declared.refusal.Refusal.TheVariants.{SelfBelowMinimum, NotJailed, StillJailed, Tombstoned}
use Rattle.base_roles.specs.Answers.{AsRuled, WantsMemory, ExceedsAs}
use Rattle.base_roles.specs.Ground.{CanBeUndone}
use Rattle.base_roles.specs.Hooks.{Tells, Stands}
use Rattle.base_roles.specs.Staked.{Staked, validator_by_cons, is_unbonded, lists_of, bonded_tokens, other_tokens}
use Rattle.base_roles.specs.StakeChanges.{HoldsStake}
use Rattle.base_roles.specs.Flow.{◌>>=◌, ◌>>◌, stop_if}
use Rattle.base_roles.specs.World.{View, World}
use Rattle.rule_modules.specs.Slashing.{Slashes, jail_lent}
use Rattle.rule_modules.specs.Window.{Signing, Window, allowed_of, is_downtime}
use Rattle.mod_signing.specs.declared.entry.Entry.{Entry}
use Rattle.mod_signing.specs.Kept.{Signed, Kept, Windowed, behind, signed_of}
use Rattle.mod_signing.specs.Rings.{is_set}

-- What a vote answers and leaves: of the window, for which plain records it stands; of the slasher, the hooks and the ground
-- what the rule gives; or the rule's excess; or memory is wanting.
abbrev pub VoteAnswers : {S H : Type 0} → Result (⊤ × Window × World S H) Over → (Window → Type 0) → S → (H → Type 0) → View → Result ⊤ HookFault → Type 0
VoteAnswers rule stands s holds v answer = AsRuled rule answer
    (λ due a. stands due.1 × (s ≡ due.2.mine) × holds due.2.hooks × (v ≡ due.2.view)) WantsMemory ExceedsAs

-- whether a vote is punished
abbrev pub is_punished : Ctx → Option Validator → Option Signing → Bool → Bool
is_punished c None s signed = false
is_punished c (Some v) None signed = false
is_punished c (Some v) (Some s) signed = not v.jailed && is_downtime c (record s { votes = not signed ∷ s.votes }) v

-- the info of an entry, and how many places its ring has
abbrev pub told_of_entry : Option Entry → Option (SigningInfo × ℕ)
told_of_entry None = None
told_of_entry (Some e) = Some (e.info, e.places)

-- the same of a record
abbrev pub told_of_signed : Option Signed → Option (SigningInfo × ℕ)
told_of_signed None = None
told_of_signed (Some s) = Some (s.info, length s.ring)

-- an entry under its consensus address: the address, the info, and how many places the ring has
abbrev pub entry_told : List ℕ × Entry → List ℕ × SigningInfo × ℕ
entry_told e = (e.0, e.1.info, e.1.places)

-- the same of a record
abbrev pub signed_told : List ℕ × Signed → List ℕ × SigningInfo × ℕ
signed_told e = (e.0, e.1.info, length e.1.ring)

-- the votes of a record's ring, and none where there is no record
abbrev pub ring_if : Option Signed → List Bool
ring_if None = []
ring_if (Some s) = s.ring

abbrev pub ring_at : Kept → List ℕ → List Bool
ring_at kept cons = ring_if (signed_of kept cons)

-- a row has the votes of a ring's places that belong to it
abbrev pub IsRow : ℕ → ℕ → List Bool → Type 0
IsRow number row ring = (place : ℕ) → place / 128 ≡ number → place < length ring → slice_get ring place ≡ Some (is_set row (place % 128))

-- a record stands under a consensus address, with this info and so many places of its ring
abbrev pub HasEntry : List ℕ → SigningInfo → ℕ → Kept → Type 0
HasEntry cons info places kept = (s : Signed) × ((signed_of kept cons ≡ Some s) × ((info ≡ s.info) × (places ≡ length s.ring)))

-- an info with one more vote, in whose place a miss stood, or none
abbrev pub one_more : Bool → Bool → SigningInfo → SigningInfo
one_more was_missed missed info = record info { counted = info.counted + 1; missed = info.missed - cond was_missed 1 0 + cond missed 1 0 }

-- an entry begins at a height, or begins again
abbrev pub begun_entry : ℕ → Option Entry → Entry
begun_entry height None = record { info = record { start = height; counted = 0; missed = 0; jailed_until = 0; tombstoned = false }; places = 0 }
begun_entry height (Some e) = record e { info = record e.info { start = height } }

-- whether a record with this info is down, and its validator has this status
abbrev pub down_of : Ctx → SigningInfo → BondStatus → Bool
down_of c info status = (nat_lt info.start (c.height - c.params.signed_blocks_window) && nat_lt (allowed_of c.params) info.missed) && not (is_unbonded status)

-- a validator of a consensus address stands, and is not unbonded
abbrev pub CanBeSlashed : List ℕ → Staked → Type 0
CanBeSlashed cons s = (v : Validator) × ((validator_by_cons s cons ≡ Some v) × (is_unbonded v.status ≡ false))

-- the slash for downtime, two heights back, and the jailing
abbrev pub downtime_slashed : {S H : Type 0} → Slashes S H → List ℕ → ℕ → World S H → Result (World S H) Over
downtime_slashed lent cons power w = do
  (burned, w1) ← lent.slash cons (w.view.ctx.height - 2) power w.view.ctx.params.slash_fraction_downtime w
  Ok (jail_lent lent cons w1)

-- The scene of a vote: the slasher's records are sound, the hooks stand for them, and the two staking accounts hold what is
-- owed from them.
pub record IsScene {H : Type 0} (tells : Tells H) (holds : H → Type 0) (v : View) (is_sound : Type 0) (s : Staked) (owed : ℕ) : Type 0 where
  pub sound : is_sound
  pub stand : Stands holds tells v (lists_of s)
  pub accounts : HoldsStake v (bonded_tokens s) (other_tokens s + owed)

-- What a vote leaves of the window whatever it answers: the open marks and what was settled stay; once memory was wanting in a
-- change, it stays so; and where the call succeeds, memory was not wanting in it.
pub record WindowGoesOn {A E : Type 0} (old new : Windowed) (answer : Result A E) : Type 0 where
  pub behind : behind new ≡ behind old
  pub spent : old.spent ≡ true → new.spent ≡ true
  pub unspent : OnOk answer (new.spent ≡ old.spent)

-- What a call leaves of the ground, the hooks and the slasher whatever it answers: what it changed can be taken back, and open
-- marks stay.
pub record GroundGoesOn {B M H N S K : Type 0} (bank_marks : B → M) (most_steps : B → ℕ) (marks_of : H → N) (marks_on : S → K) (g g2 : Ground B) (hooks hooks2 : H) (slasher slasher2 : S) : Type 0 where
  pub undone : CanBeUndone bank_marks g g2
  pub bank : most_steps g2.bank ≡ most_steps g.bank
  pub hook_marks : marks_of hooks2 ≡ marks_of hooks
  pub slasher_marks : marks_on slasher2 ≡ marks_on slasher

-- what refuses to let a validator leave jail of which its own operator holds these shares
abbrev pub free_to_leave : Validator → ℕ → Result ⊤ Refusal
free_to_leave v held = do
  stop_if (nat_lt (trunc_of (value_even_of v.tokens v.shares held)) v.min_self) SelfBelowMinimum
  stop_if (not v.jailed) NotJailed

-- what refuses at a time to let a record with this info leave jail
abbrev pub over_by : ℕ → SigningInfo → Result ⊤ Refusal
over_by now info = do
  stop_if info.tombstoned Tombstoned
  stop_if (nat_lt now info.jailed_until) (StillJailed info.jailed_until)

-- what holds where a message is refused
abbrev pub OnRefusal : {A : Type 0} → Result A MessageFault → Type 0 → Type 0
OnRefusal (Ok a) P = ⊤
OnRefusal (Err (stop.Refused why)) P = P
OnRefusal (Err stop.NoMemory) P = ⊤
