-- Entries that are changed one key after another: of all keys, or of some.
use Rattle.std.specs.Prelude.{ℕ, Bool, List, [], ◌∷◌, map, filter, sum}
use Rattle.std.specs.declared.cmp.Ordering.{Ordering}
use Rattle.std.specs.Map.{values_of}
use Rattle.rule_modules.specs.Amounts.{count_where}
use Rattle.rule_modules.specs.EntrySlashes.{Made}
use Rattle.rule_modules.specs.Unbondings.{key_then}
use Rattle.mod_entries.specs.Lists.{list_at, with_list, is_mature, some_mature}

-- what a change makes of the entries of one key, and of what it runs over, as the ground
abbrev pub Change : Type 0 → Type 0 → Type 0 → Type 0
Change K E V = K → List E → V → List E × V

-- the entries of each key changed, in the order of the keys
abbrev pub walked : {K E V : Type 0} → Change K E V → List (K × List E) → V → List (K × List E) × V
walked f [] v = ([], v)
walked f (p ∷ ps) v =
    let one = f p.0 p.1 v in
    let rest = walked f ps one.1 in
    (key_then p.0 one.0 rest.0, rest.1)

-- the entries of these keys changed, one after another
abbrev pub stepped : {K E V : Type 0} → (K → K → Ordering) → Change K E V → List K → List (K × List E) → V → List (K × List E) × V
stepped cmp f [] u v = (u, v)
stepped cmp f (k ∷ ks) u v =
    let one = f k (list_at cmp u k) v in
    stepped cmp f ks (with_list cmp k one.0 u) one.1

-- the keys whose entries pass a test
abbrev pub keys_where : {K E : Type 0} → (K → List E → Bool) → List (K × List E) → List K
keys_where test u = map (λ p. p.0) (filter (λ p. test p.0 p.1) u)

-- some entry of a key is mature
abbrev pub is_due : {K E : Type 0} → (E → Made) → ℕ → K → List E → Bool
is_due made now key es = some_mature made now es

-- how many entries are mature
abbrev pub mature_entries : {K E : Type 0} → (E → Made) → ℕ → List (K × List E) → ℕ
mature_entries made now u = sum (map (λ es. count_where (is_mature made now) es) (values_of u))
