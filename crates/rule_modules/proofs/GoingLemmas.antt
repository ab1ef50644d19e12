-- What holds of the answer of steps, one after another, where they go on.
use Rattle.std.proofs.Common.{◌≡◌, Bool, true, false, Option, Some, None, Result, Ok, Err, refl, ap, subst, IfOk}
use Rattle.base_roles.specs.Flow.{◌>>=◌, ◌>>◌, stop_if, or_stop, stopping}

pub on_bind : {A B E : Type 0} (r : Result A E) (f : A → Result B E) (Q : B → Type 0) → ((a : A) → r ≡ Ok a → IfOk (f a) Q) → IfOk (r >>= f) Q
on_bind (Ok a) f Q h = h a refl
on_bind (Err e) f Q h = tt

pub on_next : {A B E : Type 0} (r : Result A E) (next : Result B E) (Q : B → Type 0) → ((a : A) → r ≡ Ok a → IfOk next Q) → IfOk (r >> next) Q
on_next (Ok a) next Q h = h a refl
on_next (Err e) next Q h = tt

pub on_stop : {B E : Type 0} (b : Bool) (why : E) (next : Result B E) (Q : B → Type 0) → (b ≡ false → IfOk next Q) → IfOk (stop_if b why >> next) Q
on_stop true why next Q h = tt
on_stop false why next Q h = h refl

pub on_found : {A B E : Type 0} (o : Option A) (why : E) (f : A → Result B E) (Q : B → Type 0) → ((a : A) → o ≡ Some a → IfOk (f a) Q) → IfOk (or_stop o why >>= f) Q
on_found (Some a) why f Q h = h a refl
on_found None why f Q h = tt

pub on_lifted : {A B D E : Type 0} (g : D → E) (r : Result A D) (f : A → Result B E) (Q : B → Type 0) → ((a : A) → r ≡ Ok a → IfOk (f a) Q) → IfOk (stopping g r >>= f) Q
on_lifted g (Ok a) f Q h = h a refl
on_lifted g (Err d) f Q h = tt

-- ---- the parts of an answer

pub same_ok : {A E : Type 0} (x y : A) → Path (Result A E) (Ok x) (Ok y) → x ≡ y
same_ok x y h = cc

-- a step that gave something, and what the next gave of it
pub step_parts : {A B E : Type 0} (r : Result A E) (f : A → Result B E) (z : B) → (r >>= f) ≡ Ok z → (a : A) × (r ≡ Ok a) × (f a ≡ Ok z)
step_parts (Ok a) f z h = (a, refl, h)
step_parts (Err e) f z h = absurd cc

-- a step whose value is read alone stops where it does
pub mapped_stops : {A B E : Type 0} (r : Result A E) (g : A → B) (over : E) → (r >>= λ a. Ok (g a)) ≡ Err over → r ≡ Err over
mapped_stops (Ok a) g over e = absurd cc
mapped_stops (Err x) g over e = let same : x ≡ over = cc in ap Err same

-- the answer of a rule is had where what holds of it is known
pub if_ok : {A E : Type 0} (P : A → Type 0) (r : Result A E) → ((a : A) → r ≡ Ok a → P a) → IfOk r P
if_ok P (Ok a) f = f a refl
if_ok P (Err e) f = tt

-- and what holds where a rule answers holds of its answer
pub from_if : {A E : Type 0} (P : A → Type 0) (r : Result A E) (a : A) → r ≡ Ok a → IfOk r P → P a
from_if P (Ok b) a e h = subst P (same_ok b a e) h
from_if P (Err d) a e h = absurd cc

pub weaker_if : {A E : Type 0} (r : Result A E) (R Q : A → Type 0) → IfOk r R → ((a : A) → R a → Q a) → IfOk r Q
weaker_if (Ok a) R Q h f = f a h
weaker_if (Err e) R Q h f = tt
