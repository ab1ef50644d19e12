-- What a slash counts of entries by key.
use Rattle.std.specs.Prelude.{ℕ, Bool, List, map, sum}
use Rattle.base_roles.specs.Orders.{same_addr}
use Rattle.rule_modules.specs.EntrySlashes.{Made, counted_of}
use Rattle.mod_entries.specs.Sources.{from_operator}

-- a key is of entries from this operator
abbrev pub is_from : {K E : Type 0} → (K → List ℕ) → List ℕ → K → List E → Bool
is_from source operator key es = same_addr (source key) operator

-- what is counted of all entries from an operator
abbrev pub all_counted : {K E : Type 0} → (K → List ℕ) → (E → Made) → List ℕ → ℕ → ℕ → ℕ → List (K × List E) → ℕ
all_counted source made operator infraction factor now u =
    sum (map (λ p. counted_of infraction factor now (map made p.1)) (from_operator source operator u))
