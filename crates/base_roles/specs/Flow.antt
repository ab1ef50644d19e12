-- One step after another, where a step may end with an answer of its own.
use Rattle.std.specs.Prelude.{Bool, true, false, List, [], ◌∷◌, Option, Some, None, Result, Ok, Err, ⊤}

-- the second step, if the first gave a value
infixl 10 ◌>>=◌
abbrev pub ◌>>=◌ : {E A B : Type 0} → Result A E → (A → Result B E) → Result B E
(Ok a) >>= f = f a
(Err e) >>= f = Err e

-- the same, where the value does not matter
infixl 10 ◌>>◌
abbrev pub ◌>>◌ : {E A B : Type 0} → Result A E → Result B E → Result B E
(Ok a) >> next = next
(Err e) >> next = Err e

-- ends with this answer where the test passes
abbrev pub stop_if : {E : Type 0} → Bool → E → Result ⊤ E
stop_if true e = Err e
stop_if false e = Ok tt

-- what is there, or else this answer
abbrev pub or_stop : {E A : Type 0} → Option A → E → Result A E
or_stop None e = Err e
or_stop (Some a) e = Ok a

-- the same step with another kind of answer
abbrev pub stopping : {D E A : Type 0} → (D → E) → Result A D → Result A E
stopping f (Ok a) = Ok a
stopping f (Err d) = Err (f d)

-- one step for each item
abbrev pub each : {E A S : Type 0} → (A → S → Result S E) → List A → S → Result S E
each f [] s = Ok s
each f (x ∷ xs) s = f x s >>= λ t. each f xs t
