-- Numbers drawn one after another from a seed, by a linear congruential generator (the one of D. E. Knuth's MMIX).
use Rattle.std.specs.Prelude.{ℕ, zero, suc, ◌+◌, ◌*◌, ◌/◌, ◌%◌, ◌^◌, List, [], ◌∷◌}

-- the state after a draw
unfoldable pub next : ℕ → ℕ
next x = (6364136223846793005 * x + 1442695040888963407) % 2 ^ 64

-- what was drawn, and the state after it
pub record Drawn (A : Type 0) : Type 0 where
  pub value : A
  pub state : ℕ

-- something drawn from the state before it
abbrev pub Draw : Type 0 → Type 0
Draw A = ℕ → Drawn A

-- a value without a draw
abbrev pub done : {A : Type 0} → A → Draw A
done a = λ x. record { value = a; state = x }

-- another draw, which may use what was drawn
abbrev pub after : {A B : Type 0} → Drawn A → (A → Draw B) → Drawn B
after drawn more = more drawn.value drawn.state

-- one draw, then another
infixl 10 ◌>>=◌
abbrev pub ◌>>=◌ : {A B : Type 0} → Draw A → (A → Draw B) → Draw B
draw >>= more = λ x. after (draw x) more

-- a number below n: the upper 31 bits of the new state, modulo n
abbrev pub pick : ℕ → Draw ℕ
pick n = λ x. record { value = next x / 2 ^ 33 % n; state = next x }

-- something drawn for each item, in their order
abbrev pub in_turn : {A B : Type 0} → (A → Draw B) → List A → Draw (List B)
in_turn draw [] = done []
in_turn draw (item ∷ items) = do
  first ← draw item
  others ← in_turn draw items
  done (first ∷ others)

-- so many numbers from the first on
abbrev pub numbers_from : ℕ → ℕ → List ℕ
numbers_from first zero = []
numbers_from first (suc many) = first ∷ numbers_from (first + 1) many
