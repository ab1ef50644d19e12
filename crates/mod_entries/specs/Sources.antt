-- The way to entries by the operator that they are from, their source.
use Rattle.std.specs.Prelude.{◌≡◌, ℕ, true, List, filter, Option, Some, None, if◌then◌else◌}
use Rattle.std.specs.Ordering.{is_le}
use Rattle.std.specs.declared.cmp.Ordering.{Ordering}
use Rattle.base_types.specs.Orders.{addr_cmp}
use Rattle.base_roles.specs.Orders.{same_addr}
use Rattle.mod_entries.specs.Ways.{Way, IsWay}

-- keys by their sources
abbrev pub Sources : Type 0 → Type 0
Sources K = Way (List ℕ) K

-- the source of a key, where it stands
abbrev pub source_of : {K E : Type 0} → (K → List ℕ) → K → Option (List E) → Option (List ℕ)
source_of source key None = None
source_of source key (Some list) = Some (source key)

-- each key that stands does so under its source, and nothing else stands
abbrev pub AreSourced : {K E : Type 0} → (K → K → Ordering) → (K → List ℕ) → List (K × List E) → Sources K → Type 0
AreSourced cmp source u sources = IsWay addr_cmp cmp (source_of source) u sources

-- the entries from an operator, by key
abbrev pub from_operator : {K E : Type 0} → (K → List ℕ) → List ℕ → List (K × List E) → List (K × List E)
from_operator source operator u = filter (λ p. same_addr (source p.0) operator) u

-- the key that stands under a source, where there is one and the source is this operator
abbrev pub own_key : {K V : Type 0} → List ℕ → Option ((List ℕ × K) × V) → Option K
own_key operator None = None
own_key operator (Some e) = if same_addr e.0.0 operator then Some e.0.1 else None

-- no key that fits comes before this one
abbrev pub IsLeast : {K : Type 0} → (K → K → Ordering) → (K → Type 0) → K → Type 0
IsLeast {K} cmp fits least = (key : K) → fits key → is_le (cmp least key) ≡ true
