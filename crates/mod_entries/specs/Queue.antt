-- The way to entries by their earliest completions.
use Rattle.std.specs.Prelude.{ℕ, nat_lt, nat_le, List, [], ◌∷◌, Option, Some, None, unwrap_or, if◌then◌else◌}
use Rattle.std.specs.declared.cmp.Ordering.{Ordering}
use Rattle.base_types.specs.Orders.{moment_cmp}
use Rattle.base_roles.specs.Orders.{both_cmp}
use Rattle.rule_modules.specs.EntrySlashes.{Made}
use Rattle.mod_entries.specs.Ways.{Way, IsWay}

-- keys by the earliest completion of their entries
abbrev pub Completions : Type 0 → Type 0
Completions K = Way ℕ K

-- by completion, then by key
abbrev pub completion_cmp : {K : Type 0} → (K → K → Ordering) → ℕ × K → ℕ × K → Ordering
completion_cmp cmp x y = both_cmp moment_cmp cmp x y

-- the sooner of two moments, of which the first may be none
abbrev pub sooner : Option ℕ → ℕ → ℕ
sooner None t = t
sooner (Some u) t = if nat_lt u t then u else t

module _ {E : Type 0} (made : E → Made) where
  -- the earliest of a moment, which may be none, and of the completions of entries
  abbrev pub earliest_from : Option ℕ → List E → Option ℕ
  earliest_from first [] = first
  earliest_from first (e ∷ es) = earliest_from (Some (sooner first (made e).completes)) es

  -- the earliest completion of entries
  abbrev pub earliest : List E → Option ℕ
  earliest es = earliest_from None es

  -- that of the entries under a key, where it stands
  abbrev pub completion_of : {K : Type 0} → K → Option (List E) → Option ℕ
  completion_of key list = earliest (unwrap_or list [])

-- each key stands under its earliest completion, and nothing else stands
abbrev pub IsQueue : {K E : Type 0} → (K → K → Ordering) → (E → Made) → List (K × List E) → Completions K → Type 0
IsQueue cmp made u queue = IsWay moment_cmp cmp (completion_of made) u queue

-- the keys at the head of the queue whose completions are not after a moment, in its order
abbrev pub due_in : {K : Type 0} → ℕ → Completions K → List K
due_in now [] = []
due_in now (e ∷ es) = if nat_le e.0.0 now then e.0.1 ∷ due_in now es else []
