-- Ways to entries: tables in which each key stands under a place that its entries give it, or under none.
use Rattle.std.specs.Prelude.{◌≡◌, Bool, true, false, List, Option, Some, None, length, if◌then◌else◌}
use Rattle.std.specs.BTreeMap.{is_at}
use Rattle.std.specs.declared.cmp.Ordering.{Ordering}
use Rattle.base_table.specs.Tabled.{Tabled}
use Rattle.base_roles.specs.Entries.{at, with, without}
use Rattle.base_roles.specs.Orders.{both_cmp}
use Rattle.base_records.specs.Marks.{AtEachMark}

-- keys by their places
abbrev pub Way : Type 0 → Type 0 → Type 0
Way P K = List ((P × K) × Bool)

module _ {P : Type 0} (first : P → P → Ordering) where
  -- the place of a key, where it has one, is this one
  abbrev pub is_there : P → Option P → Bool
  is_there p None = false
  is_there p (Some q) = is_at (first p) q

  -- what stands under a place where this is the key's
  abbrev pub standing : P → Option P → Option Bool
  standing p place = if is_there p place then Some true else None

  module _ {K : Type 0} (cmp : K → K → Ordering) where
    -- each key stands under the place that its entries give it, and nothing else stands
    abbrev pub IsWay : {E : Type 0} → (K → Option (List E) → Option P) → List (K × List E) → Way P K → Type 0
    IsWay place u way = (p : P) (key : K) → at (both_cmp first cmp) way (p, key) ≡ standing p (place key (at cmp u key))

    -- a way without a key that stood under its place, where it had one
    abbrev pub unqueued : K → Option P → Way P K → Way P K
    unqueued key None way = way
    unqueued key (Some p) way = without (both_cmp first cmp) way (p, key)

    -- a way with a key under its place, where it has one
    abbrev pub queued : K → Option P → Way P K → Way P K
    queued key None way = way
    queued key (Some p) way = with (both_cmp first cmp) way (p, key) true

-- A table and a way to its keys that are marked together.
pub record InStep {K V P : Type 0} (IsTold : List (K × V) → Way P K → Type 0) (lists : Tabled K V) (way : Tabled (P × K) Bool) : Type 0 where
  pub depth : length way.marks ≡ length lists.marks
  pub told : IsTold lists.entries way.entries
  pub told_at_marks : AtEachMark IsTold lists.marks way.marks
