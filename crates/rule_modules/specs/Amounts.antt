-- Amounts that the rules name: coins of the bond denomination, whole amounts as decimals, and how many pass a test.
use Rattle.std.specs.Prelude.{ℕ, ◌+◌, ◌*◌, ◌^◌, cond, Bool, true, false, List, [], ◌∷◌, map}
use Rattle.base_coins.specs.Coins.{Money, coin_then}
use Rattle.base_roles.specs.declared.facts.Fact.{Fact}
use Rattle.base_roles.specs.World.{View}

-- so much of the bond denomination, as a list of coins
abbrev pub bond_coins : View → ℕ → Money
bond_coins v n = coin_then v.ctx.params.bond_denom n []

-- whole amounts in units of 10^-18, without a limit
abbrev pub in_units : Money → Money
in_units x = map (λ c. (c.0, c.1 * 10 ^ 18)) x

-- the ground with other facts
abbrev pub over_facts : (List Fact → List Fact) → View → View
over_facts f v = record v { facts = f v.facts }

-- no coin is there
abbrev pub is_empty : Money → Bool
is_empty [] = true
is_empty (c ∷ cs) = false

-- how many pass the test
abbrev pub count_where : {A : Type 0} → (A → Bool) → List A → ℕ
count_where test [] = 0
count_where test (x ∷ xs) = cond (test x) 1 0 + count_where test xs

-- seconds in nanoseconds
abbrev pub seconds : ℕ → ℕ
seconds n = n * 10 ^ 9
