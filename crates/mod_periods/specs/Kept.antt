-- What F1 keeps in its tables, how it is seen with its open marks, and what one change makes of it.
use Rattle.std.specs.Prelude.{◌≡◌, ℕ, ◌+◌, ◌-◌, ◌==◌, Bool, true, false, if◌then◌else◌, List, [], ◌∷◌, ◌++◌, filter, map, length, Option, Some, None, option_map}
use Rattle.std.specs.declared.cmp.Ordering.{Ordering}
use Rattle.std.specs.List.Sorted.{IsStrictlySortedBy}
use Rattle.std.specs.Map.{keys_of}
use Rattle.std.specs.Ordering.{nat_cmp, ordering_then}
use Rattle.base_types.specs.Orders.{addr_cmp}
use Rattle.base_coins.specs.Coins.{Money}
use Rattle.base_table.specs.Tabled.{Tabled, with_value, without_key}
use Rattle.base_roles.specs.declared.entities.Historical.{Historical}
use Rattle.base_roles.specs.declared.entities.StartingInfo.{StartingInfo}
use Rattle.base_roles.specs.declared.entities.SlashEvent.{SlashEvent}
use Rattle.base_roles.specs.Entries.{at, with, without}
use Rattle.base_roles.specs.Orders.{both_cmp, pair_cmp, same_addr}

-- an operator and a period
abbrev pub period_cmp : List ℕ × ℕ → List ℕ × ℕ → Ordering
period_cmp x y = both_cmp addr_cmp nat_cmp x y

-- an operator, a height and a period
abbrev pub event_cmp : List ℕ × ℕ × ℕ → List ℕ × ℕ × ℕ → Ordering
event_cmp x y = ordering_then (ordering_then (addr_cmp x.0 y.0) (nat_cmp x.1 y.1)) (nat_cmp x.2 y.2)

-- The records that stand: the periods that run by operator, the records of ended periods by operator and period, the
-- starts by operator and delegator, and the fractions of slash events by operator, height and period.
pub record Kept : Type 0 where
  pub current : List (List ℕ × ℕ)
  pub historical : List ((List ℕ × ℕ) × Historical)
  pub starts : List ((List ℕ × List ℕ) × StartingInfo)
  pub events : List ((List ℕ × ℕ × ℕ) × ℕ)

-- the keys ascend in each list
pub record AreInOrder (k : Kept) : Type 0 where
  pub current : IsStrictlySortedBy addr_cmp (keys_of k.current)
  pub historical : IsStrictlySortedBy period_cmp (keys_of k.historical)
  pub starts : IsStrictlySortedBy pair_cmp (keys_of k.starts)
  pub events : IsStrictlySortedBy event_cmp (keys_of k.events)

-- nothing stands
abbrev pub no_records : Kept
no_records = record { current = []; historical = []; starts = []; events = [] }

-- the period of an operator that runs
abbrev pub current_of : Kept → List ℕ → Option ℕ
current_of k operator = at addr_cmp k.current operator

-- the record of an ended period
abbrev pub record_of : Kept → List ℕ → ℕ → Option Historical
record_of k operator period = at period_cmp k.historical (operator, period)

-- how many refer to a period, where its record stands
abbrev pub count_of : Kept → List ℕ → ℕ → Option ℕ
count_of k operator period = option_map (λ h. h.count) (record_of k operator period)

-- where the rewards of a delegation begin
abbrev pub info_of : Kept → List ℕ → List ℕ → Option StartingInfo
info_of k delegator operator = at pair_cmp k.starts (operator, delegator)

-- the slash event of an entry: its height and period are those of the key
abbrev pub event_at : (List ℕ × ℕ × ℕ) × ℕ → SlashEvent
event_at e = record { height = e.0.1; period = e.0.2; fraction = e.1 }

-- the slash events of an operator, by height, then by period
abbrev pub events_of : Kept → List ℕ → List SlashEvent
events_of k operator = map event_at (filter (λ e. same_addr e.0.0 operator) k.events)

-- ---- one change

-- with this period of an operator that runs
abbrev pub with_current : List ℕ → ℕ → Kept → Kept
with_current operator period k = record k { current = with addr_cmp k.current operator period }

-- with the record of a period, to which so many refer; without it where nothing does
abbrev pub with_record : List ℕ → ℕ → Money → ℕ → Kept → Kept
with_record operator period ratio count k = record k {
  historical =
      if count == 0 then without period_cmp k.historical (operator, period)
      else with period_cmp k.historical (operator, period) (record { ratio = ratio; count = count });
}

-- with the record of a period as it is given
abbrev pub with_history : List ℕ → ℕ → Historical → Kept → Kept
with_history operator period h k = record k { historical = with period_cmp k.historical (operator, period) h }

-- with another number of references in a record
abbrev pub recounted : Option Historical → (ℕ → ℕ) → List ℕ → ℕ → Kept → Kept
recounted None f operator period k = k
recounted (Some h) f operator period k = with_record operator period h.ratio (f h.count) k

-- one more refers to a period
abbrev pub referred : List ℕ → ℕ → Kept → Kept
referred operator period k = recounted (record_of k operator period) (λ n. n + 1) operator period k

-- one fewer refers to a period
abbrev pub released : List ℕ → ℕ → Kept → Kept
released operator period k = recounted (record_of k operator period) (λ n. n - 1) operator period k

-- with where the rewards of a delegation begin
abbrev pub with_info : List ℕ → List ℕ → StartingInfo → Kept → Kept
with_info delegator operator s k = record k { starts = with pair_cmp k.starts (operator, delegator) s }

-- without it
abbrev pub without_info : List ℕ → List ℕ → Kept → Kept
without_info delegator operator k = record k { starts = without pair_cmp k.starts (operator, delegator) }

-- with a slash event
abbrev pub with_event : List ℕ → SlashEvent → Kept → Kept
with_event operator e k = record k { events = with event_cmp k.events (operator, e.height, e.period) e.fraction }

-- the entries whose keys are of another operator
abbrev pub others : {K X : Type 0} → (K → List ℕ) → List ℕ → List (K × X) → List (K × X)
others operator_of operator es = filter (λ e. if same_addr (operator_of e.0) operator then false else true) es

-- without the periods and the slash events of an operator
abbrev pub without_operator : List ℕ → Kept → Kept
without_operator operator k = record k {
  current = without addr_cmp k.current operator;
  historical = others (λ key. key.0) operator k.historical;
  events = others (λ key. key.0) operator k.events;
}

-- ---- marks

-- What F1 is seen as: its records, those at each open mark with the latest last, those at the last settling, and
-- whether memory was wanting in a change.
pub record Recorded : Type 0 where
  pub kept : Kept
  pub marks : List Kept
  pub settled : Kept
  pub spent : Bool

-- what stays while records change: the open marks, and what was settled
pub record Behind : Type 0 where
  pub marks : List Kept
  pub settled : Kept

abbrev pub behind : Recorded → Behind
behind f = record { marks = f.marks; settled = f.settled }

-- nothing stands yet
abbrev pub new_records : Recorded
new_records = record { kept = no_records; marks = []; settled = no_records; spent = false }

-- with other records
abbrev pub keeping : Kept → Recorded → Recorded
keeping k f = record f { kept = k }

-- once memory was wanting in a change
abbrev pub spent_now : Recorded → Recorded
spent_now f = record f { spent = true }

-- with one more mark
abbrev pub with_mark : Recorded → Recorded
with_mark f = record f { marks = f.marks ++ f.kept ∷ [] }

-- the new one is the old one gone back to its latest mark, which is closed
pub record IsGoneBack (old new : Recorded) : Type 0 where
  pub restored : new.marks ++ new.kept ∷ [] ≡ old.marks
  pub rest : new ≡ record old { kept = new.kept; marks = new.marks }

-- the new one is the old one with its latest mark closed
pub record IsForgotten (old new : Recorded) : Type 0 where
  pub closed : (last : Kept) × (new.marks ++ last ∷ [] ≡ old.marks)
  pub rest : new ≡ record old { marks = new.marks }

-- the entries of four tables side by side, mark by mark
abbrev pub side_by_side : List (List (List ℕ × ℕ)) → List (List ((List ℕ × ℕ) × Historical)) → List (List ((List ℕ × List ℕ) × StartingInfo)) → List (List ((List ℕ × ℕ × ℕ) × ℕ)) → List Kept
side_by_side [] hs ss es = []
side_by_side (c ∷ cs) [] ss es = []
side_by_side (c ∷ cs) (h ∷ hs) [] es = []
side_by_side (c ∷ cs) (h ∷ hs) (s ∷ ss) [] = []
side_by_side (c ∷ cs) (h ∷ hs) (s ∷ ss) (e ∷ es) = record { current = c; historical = h; starts = s; events = e } ∷ side_by_side cs hs ss es

-- four tables are marked together
pub record HaveSameMarks {A B C D : Type 0} (current : List A) (histories : List B) (infos : List C) (slashes : List D) : Type 0 where
  pub historical : length histories ≡ length current
  pub starts : length infos ≡ length current
  pub events : length slashes ≡ length current

-- the table of records with this one, or without the key where nothing refers to it
abbrev pub record_set : Tabled (List ℕ × ℕ) Historical → List ℕ × ℕ → Historical → Tabled (List ℕ × ℕ) Historical
record_set t key h = if h.count == 0 then without_key period_cmp t key else with_value period_cmp t key h
