-- Lists of entries in the order of their keys, as the tables of the modules are seen.
use Rattle.std.specs.Prelude.{ℕ, ◌+◌, ◌==◌, if◌then◌else◌, cond, Bool, List, [], ◌∷◌, Option, unwrap_or}
use Rattle.std.specs.declared.cmp.Ordering.{Ordering}
use Rattle.std.specs.Map.{lookup, remove_entry}
use Rattle.std.specs.BTreeMap.{insert_entry, is_at}

module _ {K X : Type 0} (cmp : K → K → Ordering) where
  -- what stands at the key
  abbrev pub at : List (K × X) → K → Option X
  at es k = lookup (is_at (cmp k)) es

  -- the entries with this one at the key
  abbrev pub with : List (K × X) → K → X → List (K × X)
  with es k x = insert_entry cmp es k x

  -- the entries with none at the key
  abbrev pub without : List (K × X) → K → List (K × X)
  without es k = remove_entry (is_at (cmp k)) es

module _ {K : Type 0} (cmp : K → K → Ordering) where
  -- the number at the key, and 0 where none stands
  abbrev pub number_at : List (K × ℕ) → K → ℕ
  number_at es k = unwrap_or (at cmp es k) 0

  -- the entries with this number at the key, which has no entry where the number is 0
  abbrev pub with_number : List (K × ℕ) → K → ℕ → List (K × ℕ)
  with_number es k n = if n == 0 then without cmp es k else with cmp es k n

-- the sum of the numbers at the keys that pass the test
abbrev pub sum_where : {K : Type 0} → (K → Bool) → List (K × ℕ) → ℕ
sum_where test [] = 0
sum_where test (e ∷ es) = cond (test e.0) e.1 0 + sum_where test es
