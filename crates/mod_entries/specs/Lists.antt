-- Lists of entries by key, in the order of making; no key has none.
use Rattle.std.specs.Prelude.{◌≡◌, ℕ, ◌^◌, ◌≤◌, ◌<◌, nat_le, not, Bool, List, [], ◌∷◌, length, filter, unwrap_or, All}
use Rattle.std.specs.declared.cmp.Ordering.{Ordering}
use Rattle.std.specs.declared.cmp.Ordering.TheVariants.{Equal}
use Rattle.std.specs.List.{list_any}
use Rattle.std.specs.List.Sorted.{IsStrictlySortedBy}
use Rattle.std.specs.Map.{keys_of}
use Rattle.base_roles.specs.Entries.{at, with, without}
use Rattle.rule_modules.specs.EntrySlashes.{Made}

-- an address is twenty bytes
abbrev pub IsAddr : List ℕ → Type 0
IsAddr bytes = length bytes ≡ 20

-- what holds of each key
abbrev pub AllKeys : {K E : Type 0} → (K → Type 0) → List (K × List E) → Type 0
AllKeys P u = All P (keys_of u)

-- keys that compare equal are one key
abbrev pub IsExact : {K : Type 0} → (K → K → Ordering) → Type 0
IsExact {K} cmp = (a b : K) → cmp a b ≡ Equal → a ≡ b

module _ {K E : Type 0} (cmp : K → K → Ordering) where
  -- the entries under a key
  abbrev pub list_at : List (K × List E) → K → List E
  list_at u key = unwrap_or (at cmp u key) []

  -- with these entries under a key, and without the key where there are none
  abbrev pub with_list : K → List E → List (K × List E) → List (K × List E)
  with_list key [] u = without cmp u key
  with_list key (e ∷ es) u = with cmp u key (e ∷ es)

module _ {E : Type 0} (made : E → Made) where
  -- an entry is mature from its completion on
  abbrev pub is_mature : ℕ → E → Bool
  is_mature now e = nat_le (made e).completes now

  -- the entries that are not mature
  abbrev pub unmatured : ℕ → List E → List E
  unmatured now es = filter (λ e. not (is_mature now e)) es

  -- some entry is mature
  abbrev pub some_mature : ℕ → List E → Bool
  some_mature now es = list_any (is_mature now) es

-- a key has at least one entry
abbrev pub AreSome : {K E : Type 0} → List (K × List E) → Type 0
AreSome u = All (λ p. 0 < length p.1) u

-- each key has 1 to 100 entries, each of at most 10^18
pub record AreFew {K E : Type 0} (cmp : K → K → Ordering) (made : E → Made) (u : List (K × List E)) : Type 0 where
  pub ascend : IsStrictlySortedBy cmp (keys_of u)
  pub some : AreSome u
  pub most : All (λ p. length p.1 ≤ 100) u
  pub initials : All (λ p. All (λ e. (made e).initial ≤ 10 ^ 18) p.1) u
