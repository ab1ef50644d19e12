-- Two values that hooks may hold, side by side: where hooks tell of like values what is alike, rules that do not look at them do with
-- each what they do with both, and so give what is alike.
use Rattle.std.proofs.Common.{◌≡◌, ◌∙◌, List, [], ◌∷◌, ◌++◌, Result, Ok, Err, refl, sym, ap, subst, append-nil, IfOk}
use Rattle.base_decimals.specs.declared.over.Over.{Over}
use Rattle.base_roles.specs.{Flow.{◌>>=◌, ◌>>◌, each, stopping}, Log.Log, World.{View, Told, gives, exceeds, World}}
use Rattle.base_roles.specs.declared.calls.Hook.{Hook}
use Rattle.chain_modules.proofs.CarryLemmas.{carried_ok, told_carried}

-- ---- answers

-- both are values that are alike, or the same refusal
abbrev pub AreAlike : {A B E : Type 0} → (A → B → Type 0) → Result A E → Result B E → Type 0
AreAlike R (Ok a) (Ok b) = R a b
AreAlike R (Ok a) (Err e) = ⊥
AreAlike R (Err d) (Ok b) = ⊥
AreAlike R (Err d) (Err e) = d ≡ e

-- one step after another
pub then_alike : {A B C D E : Type 0} (R : A → B → Type 0) (S : C → D → Type 0) (r : Result A E) (q : Result B E) (f : A → Result C E) (g : B → Result D E)
    → AreAlike R r q → ((a : A) (b : B) → R a b → AreAlike S (f a) (g b)) → AreAlike S (r >>= f) (q >>= g)
then_alike R S (Ok a) (Ok b) f g h n = n a b h
then_alike R S (Ok a) (Err e) f g h n = absurd h
then_alike R S (Err d) (Ok b) f g h n = absurd h
then_alike R S (Err d) (Err e) f g h n = h

-- where more is known of the first answer
pub then_alike_if : {A B C D E : Type 0} (R : A → B → Type 0) (S : C → D → Type 0) (P : A → Type 0) (r : Result A E) (q : Result B E) (f : A → Result C E) (g : B → Result D E)
    → AreAlike R r q → IfOk r P → ((a : A) (b : B) → R a b → P a → AreAlike S (f a) (g b)) → AreAlike S (r >>= f) (q >>= g)
then_alike_if R S P (Ok a) (Ok b) f g h p n = n a b h p
then_alike_if R S P (Ok a) (Err e) f g h p n = absurd h
then_alike_if R S P (Err d) (Ok b) f g h p n = absurd h
then_alike_if R S P (Err d) (Err e) f g h p n = h

-- after one and the same step
pub same_then_alike : {A C D E : Type 0} (S : C → D → Type 0) (r q : Result A E) (f : A → Result C E) (g : A → Result D E) → r ≡ q → ((a : A) → AreAlike S (f a) (g a)) → AreAlike S (r >>= f) (q >>= g)
same_then_alike {A = A} {E = E} S r q f g e n = subst (λ (x : Result A E). AreAlike S (r >>= f) (x >>= g)) e (by r)
  where
    by : (x : Result A E) → AreAlike S (x >>= f) (x >>= g)
    by (Ok a) = n a
    by (Err d) = refl

pub same_next_alike : {A C D E : Type 0} (S : C → D → Type 0) (r q : Result A E) (f : Result C E) (g : Result D E) → r ≡ q → AreAlike S f g → AreAlike S (r >> f) (q >> g)
same_next_alike {A = A} {E = E} S r q f g e n = subst (λ (x : Result A E). AreAlike S (r >> f) (x >> g)) e (by r)
  where
    by : (x : Result A E) → AreAlike S (x >> f) (x >> g)
    by (Ok a) = n
    by (Err d) = refl

-- with another kind of refusal
pub stopping_alike : {A B D E : Type 0} (R : A → B → Type 0) (s : D → E) (r : Result A D) (q : Result B D) → AreAlike R r q → AreAlike R (stopping s r) (stopping s q)
stopping_alike R s (Ok a) (Ok b) h = h
stopping_alike R s (Ok a) (Err e) h = absurd h
stopping_alike R s (Err d) (Ok b) h = absurd h
stopping_alike R s (Err d) (Err e) h = ap s h

pub weaker_alike : {A B E : Type 0} (R S : A → B → Type 0) (r : Result A E) (q : Result B E) → ((a : A) (b : B) → R a b → S a b) → AreAlike R r q → AreAlike S r q
weaker_alike R S (Ok a) (Ok b) n h = n a b h
weaker_alike R S (Ok a) (Err e) n h = absurd h
weaker_alike R S (Err d) (Ok b) n h = absurd h
weaker_alike R S (Err d) (Err e) n h = h

-- and where more is known of the first
pub tighter_alike : {A B E : Type 0} (R S : A → B → Type 0) (P : A → Type 0) (r : Result A E) (q : Result B E) → ((a : A) (b : B) → R a b → P a → S a b) → IfOk r P → AreAlike R r q → AreAlike S r q
tighter_alike R S P (Ok a) (Ok b) n p h = n a b h p
tighter_alike R S P (Ok a) (Err e) n p h = absurd h
tighter_alike R S P (Err d) (Ok b) n p h = absurd h
tighter_alike R S P (Err d) (Err e) n p h = h

-- one is like another that is like a third
pub alike_then : {A B C E : Type 0} (R : A → B → Type 0) (S : B → C → Type 0) (T : A → C → Type 0) (r : Result A E) (q : Result B E) (p : Result C E)
    → ((a : A) (b : B) (c : C) → R a b → S b c → T a c) → AreAlike R r q → AreAlike S q p → AreAlike T r p
alike_then R S T (Ok a) (Ok b) (Ok c) n h k = n a b c h k
alike_then R S T (Ok a) (Ok b) (Err e) n h k = absurd k
alike_then R S T (Ok a) (Err d) p n h k = absurd h
alike_then R S T (Err d) (Ok b) p n h k = absurd h
alike_then R S T (Err d) (Err e) (Ok c) n h k = absurd k
alike_then R S T (Err d) (Err e) (Err f) n h k = h ∙ k

-- one step for each item
pub each_alike : {A S E : Type 0} (R : S → S → Type 0) (f : A → S → Result S E) → ((x : A) (s t : S) → R s t → AreAlike R (f x s) (f x t)) → (xs : List A) (s t : S) → R s t → AreAlike R (each f xs s) (each f xs t)
each_alike R f h [] s t r = r
each_alike R f h (x ∷ xs) s t r = then_alike R R (f x s) (f x t) (λ u. each f xs u) (λ u. each f xs u) (h x s t r) (λ u v k. each_alike R f h xs u v k)

-- ---- worlds

-- the same is held of the module, on the same ground, and what hooks hold is alike
pub record WorldsAlike {S H : Type 0} (R : H → H → Type 0) (x y : World S H) : Type 0 where
  pub mine : x.mine ≡ y.mine
  pub hooks : R x.hooks y.hooks
  pub view : x.view ≡ y.view

module _ {H : Type 0} (R : H → H → Type 0) where
  -- two held values that are alike
  abbrev pub Both : Type 0
  Both = (a : H) × (b : H) × R a b

  abbrev pub left : Both → H
  left t = t.0

  abbrev pub right : Both → H
  right t = t.1

  -- what is told is alike
  abbrev pub ToldAlike : Told H → Told H → Type 0
  ToldAlike (gives a v l) (gives b w m) = R a b × (v ≡ w) × (l ≡ m)
  ToldAlike (gives a v l) (exceeds over) = ⊥
  ToldAlike (exceeds over) (gives b w m) = ⊥
  ToldAlike (exceeds over) (exceeds other) = over ≡ other

  -- hooks tell of like values what is alike
  abbrev pub TellAlike : (H → Hook → View → Told H) → Type 0
  TellAlike told = (a b : H) → R a b → (hook : Hook) (v : View) → ToldAlike (told a hook v) (told b hook v)

  joined : (t u : Told H) → ToldAlike t u → Told Both
  joined (gives a v l) (gives b w m) h = gives (a, b, h.0) v l
  joined (gives a v l) (exceeds over) h = absurd h
  joined (exceeds over) (gives b w m) h = absurd h
  joined (exceeds over) (exceeds other) h = exceeds over

  left_told : (k : Log) (t u : Told H) (h : ToldAlike t u) → t ≡ told_carried left k (joined t u h)
  unfolding joined
  left_told k (gives a v l) (gives b w m) h = refl
  left_told k (gives a v l) (exceeds over) h = absurd h
  left_told k (exceeds over) (gives b w m) h = absurd h
  left_told k (exceeds over) (exceeds other) h = refl

  right_told : (k : Log) (t u : Told H) (h : ToldAlike t u) → u ≡ told_carried right k (joined t u h)
  unfolding joined
  right_told k (gives a v l) (gives b w m) h = λ i. gives b (sym h.1 i) (sym h.2 i)
  right_told k (gives a v l) (exceeds over) h = absurd h
  right_told k (exceeds over) (gives b w m) h = absurd h
  right_told k (exceeds over) (exceeds other) h = ap (λ (x : Over). exceeds x) (sym h)

  module _ (told : H → Hook → View → Told H) (alike : TellAlike told) where
    -- what is told of both
    pub two : Both → Hook → View → Told Both
    two t hook v = joined (told t.0 hook v) (told t.1 hook v) (alike t.0 t.1 t.2 hook v)

    pub same_left : (k : Log) (t : Both) (hook : Hook) (v : View) → told (left t) hook v ≡ told_carried left k (two t hook v)
    unfolding two
    same_left k t hook v = left_told k (told t.0 hook v) (told t.1 hook v) (alike t.0 t.1 t.2 hook v)

    pub same_right : (k : Log) (t : Both) (hook : Hook) (v : View) → told (right t) hook v ≡ told_carried right k (two t hook v)
    unfolding two
    same_right k t hook v = right_told k (told t.0 hook v) (told t.1 hook v) (alike t.0 t.1 t.2 hook v)

  -- one side of a world, behind an earlier log
  abbrev pub side : {S : Type 0} → (Both → H) → Log → World S Both → World S H
  side f k w = record { mine = w.mine; hooks = f w.hooks; view = w.view; log = k ++ w.log }

  -- two worlds that are alike, as one
  both_sides : {S : Type 0} (x y : World S H) → WorldsAlike R x y → World S Both
  both_sides x y a = record { mine = x.mine; hooks = (x.hooks, y.hooks, a.hooks); view = x.view; log = [] }

  left_is : {S : Type 0} (x y : World S H) (a : WorldsAlike R x y) → x ≡ side left x.log (both_sides x y a)
  unfolding both_sides
  left_is x y a = λ i. record { mine = x.mine; hooks = x.hooks; view = x.view; log = sym (append-nil x.log) i }

  right_is : {S : Type 0} (x y : World S H) (a : WorldsAlike R x y) → y ≡ side right y.log (both_sides x y a)
  unfolding both_sides
  right_is x y a = λ i. record { mine = sym a.mine i; hooks = y.hooks; view = sym a.view i; log = sym (append-nil y.log) i }

  pub sides_alike : {S : Type 0} (k l : Log) (w : World S Both) → WorldsAlike R (side left k w) (side right l w)
  sides_alike k l w = record { mine = refl; hooks = w.hooks.2; view = refl }

  carried_alike : {C X E : Type 0} (RX : X → X → Type 0) (g h : C → X) (r : Result C E) (p q : Result X E) → p ≡ carried_ok g r → q ≡ carried_ok h r → ((c : C) → RX (g c) (h c)) → AreAlike RX p q
  carried_alike {X = X} {E = E} RX g h (Ok c) p q e f n = subst (λ (z : Result X E). AreAlike RX z q) (sym e) (subst (λ (z : Result X E). AreAlike RX (Ok (g c)) z) (sym f) (n c))
  carried_alike {X = X} {E = E} RX g h (Err d) p q e f n = subst (λ (z : Result X E). AreAlike RX z q) (sym e) (subst (λ (z : Result X E). AreAlike RX (Err d) z) (sym f) refl)

  -- A rule that does with each side what it does with both gives of like worlds what is alike.
  pub from_two : {S C X E : Type 0} (RX : X → X → Type 0) (rule : World S H → Result X E) (of_two : World S Both → Result C E) (g h : Log → C → X)
      → ((k : Log) (w : World S Both) → rule (side left k w) ≡ carried_ok (g k) (of_two w))
      → ((k : Log) (w : World S Both) → rule (side right k w) ≡ carried_ok (h k) (of_two w))
      → ((k l : Log) (c : C) → RX (g k c) (h l c))
      → (x y : World S H) → WorldsAlike R x y → AreAlike RX (rule x) (rule y)
  from_two RX rule of_two g h lefts rights ends x y a =
      let w = both_sides x y a in
      carried_alike RX (g x.log) (h y.log) (of_two w) (rule x) (rule y) (ap rule (left_is x y a) ∙ lefts x.log w) (ap rule (right_is x y a) ∙ rights y.log w) (ends x.log y.log)
