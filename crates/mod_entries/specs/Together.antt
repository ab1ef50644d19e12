-- The table of entries by key and the ways to them, which change together.
use Rattle.std.specs.Prelude.{◌≡◌, ℕ, List, Bool}
use Rattle.std.specs.List.{AllByRecursion}
use Rattle.std.specs.declared.cmp.Ordering.{Ordering}
use Rattle.base_table.specs.Tabled.{Tabled}
use Rattle.rule_modules.specs.EntrySlashes.{Made}
use Rattle.mod_entries.specs.Lists.{AllKeys}
use Rattle.mod_entries.specs.Queue.{IsQueue}
use Rattle.mod_entries.specs.Sources.{AreSourced}
use Rattle.mod_entries.specs.Ways.{InStep}

-- nothing that a table holds is another, but for what is listed as touched, and whether memory was wanting
pub record Stays {K V : Type 0} (old new : Tabled K V) : Type 0 where
  pub entries : new.entries ≡ old.entries
  pub marks : new.marks ≡ old.marks
  pub settled : new.settled ≡ old.settled

-- Tables that are marked together, of which two tell the earliest completions and the sources of the first.
pub record HaveSameMarks {K E : Type 0} (cmp : K → K → Ordering) (fits : K → Type 0) (source : K → List ℕ) (made : E → Made)
    (lists : Tabled K (List E)) (queue : Tabled (ℕ × K) Bool) (sources : Tabled (List ℕ × K) Bool) : Type 0 where
  pub queued : InStep (IsQueue cmp made) lists queue
  pub sourced : InStep (AreSourced cmp source) lists sources
  -- each key is one of the type, also at each mark
  pub fit : AllKeys fits lists.entries
  pub fit_at_marks : AllByRecursion (AllKeys fits) lists.marks
