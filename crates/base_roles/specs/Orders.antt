-- The orders of keys of two and three parts.
use Rattle.std.specs.Prelude.{ℕ, Bool, List}
use Rattle.std.specs.Ordering.{ordering_then, is_eq}
use Rattle.std.specs.declared.cmp.Ordering.{Ordering}
use Rattle.base_types.specs.declared.account.Account.{Account}
use Rattle.base_types.specs.Orders.{addr_cmp, account_cmp, denom_cmp}

-- by the first part, then by the second
abbrev pub both_cmp : {A B : Type 0} → (A → A → Ordering) → (B → B → Ordering) → A × B → A × B → Ordering
both_cmp f g x y = ordering_then (f x.0 y.0) (g x.1 y.1)

-- two addresses
abbrev pub pair_cmp : List ℕ × List ℕ → List ℕ × List ℕ → Ordering
pair_cmp x y = both_cmp addr_cmp addr_cmp x y

-- three addresses
abbrev pub triple_cmp : List ℕ × List ℕ × List ℕ → List ℕ × List ℕ × List ℕ → Ordering
triple_cmp x y = ordering_then (addr_cmp x.0 y.0) (ordering_then (addr_cmp x.1 y.1) (addr_cmp x.2 y.2))

-- an account and a denomination
abbrev pub place_cmp : Account × List ℕ → Account × List ℕ → Ordering
place_cmp x y = both_cmp account_cmp denom_cmp x y

-- whether two addresses are one
abbrev pub same_addr : List ℕ → List ℕ → Bool
same_addr a b = is_eq (addr_cmp a b)
