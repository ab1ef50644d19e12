-- What holds of the answer of steps, one after another, where they go on.
use Rattle.std.proofs.Common.{Result, Ok, Err, IfOk}
use Rattle.base_roles.specs.Flow.{◌>>=◌, stopping}
pub use Rattle.rule_modules.proofs.GoingLemmas.{from_if, if_ok, weaker_if}

pub on_then : {A B E : Type 0} (r : Result A E) (f : A → Result B E) (R : A → Type 0) (Q : B → Type 0) → IfOk r R → ((a : A) → R a → IfOk (f a) Q) → IfOk (r >>= f) Q
on_then (Ok a) f R Q p h = h a p
on_then (Err e) f R Q p h = tt

pub on_lifted_then : {A B D E : Type 0} (g : D → E) (r : Result A D) (f : A → Result B E) (R : A → Type 0) (Q : B → Type 0) → IfOk r R → ((a : A) → R a → IfOk (f a) Q) → IfOk (stopping g r >>= f) Q
on_lifted_then g (Ok a) f R Q p h = h a p
on_lifted_then g (Err d) f R Q p h = tt

pub lifted_if : {A D E : Type 0} (g : D → E) (r : Result A D) (Q : A → Type 0) → IfOk r Q → IfOk (stopping g r) Q
lifted_if g (Ok a) Q h = h
lifted_if g (Err d) Q h = tt

-- both of two
pub and_also : {A B : Type 0} → A → B → A × B
and_also a b = (a, b)

-- what holds of one answer in two ways
pub both_if : {A E : Type 0} (r : Result A E) (R Q : A → Type 0) → IfOk r R → IfOk r Q → IfOk r (λ a. R a × Q a)
both_if (Ok a) R Q h k = (h, k)
both_if (Err e) R Q h k = tt
