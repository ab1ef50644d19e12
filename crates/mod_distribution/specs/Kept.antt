-- What distribution keeps in its tables, and how it is seen with its open marks.
use Rattle.std.specs.Prelude.{◌≡◌, ℕ, ◌||◌, Bool, true, false, List, [], length, unwrap_or, Result, OnOk}
use Rattle.base_types.specs.Orders.{addr_cmp}
use Rattle.base_table.specs.Tabled.{Tabled}
use Rattle.base_roles.specs.Entries.{at, with}
use Rattle.rule_modules.specs.Purses.{Purses}
use Rattle.base_records.specs.Marks.{side_by_side}
use Rattle.mod_allocation.specs.Kept.{Pursed, no_purses}
use Rattle.mod_periods.specs.Kept.{Recorded, no_records}
use Rattle.mod_periods.specs.Kept as f1

-- to whom payments of an address go, where not to itself
abbrev pub Payees : Type 0
Payees = List (List ℕ × List ℕ)

-- The records that stand: periods, starts and slash events, of which those are deleted to which nothing refers; purses
-- and the pool; and to whom payments go.
pub record KeptShared : Type 0 where
  pub rewards : f1.Kept
  pub purses : Purses
  pub withdraw : Payees

abbrev pub kept_with : f1.Kept → Purses → Payees → KeptShared
kept_with rewards purses withdraw = record { rewards = rewards; purses = purses; withdraw = withdraw }

-- nothing stands, and the pool is empty
abbrev pub nothing_kept : KeptShared
nothing_kept = kept_with no_records no_purses []

-- the address to which payments of an address go, by itself its own
abbrev pub payee_in : Payees → List ℕ → List ℕ
payee_in payees who = unwrap_or (at addr_cmp payees who) who

-- payments of an address go to another
abbrev pub with_payee : List ℕ → List ℕ → KeptShared → KeptShared
with_payee who to k = record k { withdraw = with addr_cmp k.withdraw who to }

-- ---- marks

-- What distribution is seen as: its records, those at each open mark with the latest last, those at the last settling,
-- and whether memory was wanting in a change.
pub record Distributed : Type 0 where
  pub kept : KeptShared
  pub marks : List KeptShared
  pub settled : KeptShared
  pub spent : Bool

-- what stays while records change: the open marks, and what was settled
pub record Behind : Type 0 where
  pub marks : List KeptShared
  pub settled : KeptShared

abbrev pub behind : Distributed → Behind
behind d = record { marks = d.marks; settled = d.settled }

-- nothing stands yet
abbrev pub new_distributed : Distributed
new_distributed = record { kept = nothing_kept; marks = []; settled = nothing_kept; spent = false }

-- with other records
abbrev pub keeping : KeptShared → Distributed → Distributed
keeping k d = record d { kept = k }

-- rewards and purses at each mark, then payees beside them
abbrev pub two_marks : List f1.Kept → List Purses → List (f1.Kept × Purses)
two_marks rewards purses = side_by_side (λ r p. (r, p)) rewards purses

abbrev pub marks_of : List f1.Kept → List Purses → List Payees → List KeptShared
marks_of rewards purses payees = side_by_side (λ two w. kept_with two.0 two.1 w) (two_marks rewards purses) payees

-- what is seen of periods, purses and payees; the flag says whether memory was wanting in a change of payees
abbrev pub distributed : Recorded → Pursed → Tabled (List ℕ) (List ℕ) → Bool → Distributed
distributed f p w spent = record {
  kept = kept_with f.kept p.kept w.entries;
  marks = marks_of f.marks p.marks w.marks;
  settled = kept_with f.settled p.settled w.settled;
  spent = f.spent || (p.spent || spent);
}

-- the three are marked together
pub record HaveSameMarks (f : Recorded) (p : Pursed) (w : Tabled (List ℕ) (List ℕ)) : Type 0 where
  pub purses : length p.marks ≡ length f.marks
  pub payees : length w.marks ≡ length f.marks

-- What a call leaves of the open marks and of the want of memory, whatever it answers.
pub record SharedGoesOn {A E : Type 0} (old new : Distributed) (answer : Result A E) : Type 0 where
  -- the open marks, and what stood at the last settling, stay
  pub behind : behind new ≡ behind old
  -- once memory was wanting in a change, it stays so
  pub spent : old.spent ≡ true → new.spent ≡ true
  -- where the call succeeds, memory was not wanting in it
  pub unspent : OnOk answer (new.spent ≡ old.spent)
