-- The sixth point: slash events belong to validators, take at most all, and have heights that were
-- and periods below the current one, which grow with the height and differ.
use Rattle.std.specs.Prelude.{ℕ, ◌^◌, ◌&&◌, ◌||◌, nat_lt, nat_le, not, Bool, true, List, [], ◌∷◌, Option, Some, None}
use Rattle.std.specs.List.{list_all}
use Rattle.base_types.specs.Orders.{addr_cmp}
use Rattle.base_roles.specs.Entries.{at}
use Rattle.base_roles.specs.Orders.{same_addr}
use Rattle.store_records.specs.Plain.{SharedSeen}
use Rattle.store_soundness.specs.Standing.{is_before}

-- a slash event is of at most all, before the period that runs, at a height that was
abbrev pub is_event_sound : ℕ → List (List ℕ × ℕ) → List ℕ × ℕ × ℕ → ℕ → Bool
is_event_sound height currents key fraction =
    is_before key.2 (at addr_cmp currents key.0) && nat_le key.1 height && nat_le fraction (10 ^ 18)

-- an event comes behind the one before it, by height, if that is of the same operator: it has a
-- later period
abbrev pub is_later : Option (List ℕ × ℕ) → List ℕ × ℕ × ℕ → Bool
is_later None key = true
is_later (Some last) key = not (same_addr last.0 key.0) || nat_lt last.1 key.2

-- periods grow with the heights, behind the last event
abbrev pub are_later : Option (List ℕ × ℕ) → List ((List ℕ × ℕ × ℕ) × ℕ) → Bool
are_later last [] = true
are_later last (e ∷ events) = is_later last e.0 && are_later (Some (e.0.0, e.0.2)) events

abbrev pub are_events_sound : ℕ → SharedSeen → Bool
are_events_sound height s =
    list_all (λ e. is_event_sound height s.currents e.0 e.1) s.events && are_later None s.events
