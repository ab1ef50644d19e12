-- Loops over lists of validators: what is left, what can be taken back, and steps.
use Rattle.std.proofs.Common.{◌≡◌, ◌∙◌, ℕ, ◌+◌, ◌*◌, ◌<◌, ◌≤◌, Bool, true, false, cond, List, [], ◌∷◌, ◌++◌, length, get_or, drop, add-one, append-nil, append_assoc, refl, sym, ap, arith, filter, Result, Ok, Err, OnOk}
use Rattle.std.{proofs.Math.{Nat.{suc-mul, mul-le-mul, mul-le-mul_right}, Seq.drop-cons}, specs.Prelude.⊤}
use Rattle.base_roles.specs.{declared.{bank.Ground.Ground, faults.HookFault.HookFault}, Ground.CanBeUndone}
use Rattle.rule_modules.specs.Amounts.{count_where}
use Rattle.mod_staking.specs.{Registered.Registered, Scenes.{RegisterGoesOn, GoesOn}}
use Rattle.mod_bonded_set.specs.Calls.{RegisterStays, AllStays}

-- the next item, and what is left behind it
pub next_of : {A : Type 0} (xs : List A) (i : ℕ) (x : A) → i < length xs → x ≡ get_or xs i x → drop i xs ≡ x ∷ drop (i + 1) xs
next_of xs i x lt is = rw (add-one) (drop-cons xs i x lt) ∙ ap (λ y. y ∷ drop (i + 1) xs) (sym is)

-- as many pass a test as it counts
pub length_count : {A : Type 0} (t : A → Bool) (xs : List A) → length (filter t xs) ≡ count_where t xs
length_count t [] = refl
length_count t (x ∷ xs) = by (t x) (length_count t xs)
  where
    by : (b : Bool) → length (filter t xs) ≡ count_where t xs → length (cond b (x ∷ filter t xs) (filter t xs)) ≡ cond b 1 0 + count_where t xs
    by true ih = omega (arith, ih)
    by false ih = omega (arith, ih)

-- ---- what can be taken back

module _ {B M : Type 0} (marks_of : B → M) where
  pub undone-none : (g : Ground B) → CanBeUndone marks_of g g
  undone-none g = record { marks = refl; ctx = refl; facts = ([], sym (append-nil g.facts)) }

  pub undone-then : (g g2 g3 : Ground B) → CanBeUndone marks_of g g2 → CanBeUndone marks_of g2 g3 → CanBeUndone marks_of g g3
  undone-then g g2 g3 a b = record {
    marks = b.marks ∙ a.marks;
    ctx = b.ctx ∙ a.ctx;
    facts = (a.facts.0 ++ b.facts.0, b.facts.1 ∙ ap (λ l. l ++ b.facts.0) a.facts.1 ∙ append_assoc g.facts a.facts.0 b.facts.0);
  }

-- ---- what stays

-- the answer of a call so far
abbrev pub fine : Result ⊤ HookFault
fine = Ok tt

on_then : {A E : Type 0} (answer : Result A E) (P Q : Type 0) → (P → Q) → OnOk answer P → OnOk answer Q
on_then (Ok a) P Q f p = f p
on_then (Err e) P Q f p = tt

on_any : {A E : Type 0} (answer : Result A E) (P : Type 0) → P → OnOk answer P
on_any (Ok a) P p = p
on_any (Err e) P p = tt

pub register-none : {A E : Type 0} (s : Registered) (answer : Result A E) → RegisterStays s s answer
register-none s answer = record { behind = refl; spent = λ e. e; unspent = on_any answer (s.spent ≡ s.spent) refl }

pub register-of : {A E : Type 0} {s s2 : Registered} {answer : Result A E} → RegisterGoesOn s s2 answer → RegisterStays s s2 answer
register-of r = record { behind = r.behind; spent = r.spent; unspent = r.unspent }

pub register-then : {A E : Type 0} (s s2 s3 : Registered) (answer : Result A E) → RegisterStays s s2 fine → RegisterStays s2 s3 answer → RegisterStays s s3 answer
register-then s s2 s3 answer a b = record {
  behind = b.behind ∙ a.behind;
  spent = λ e. b.spent (a.spent e);
  unspent = on_then answer (s3.spent ≡ s2.spent) (s3.spent ≡ s.spent) (λ e. e ∙ a.unspent) b.unspent;
}

module _ {B M H N : Type 0} (bank_marks : B → M) (most_steps : B → ℕ) (marks_of : H → N) where
  pub stays-none : {A E : Type 0} (g : Ground B) (h : H) (s : Registered) (answer : Result A E) → AllStays bank_marks most_steps marks_of g g h h s s answer
  stays-none g h s answer = record { undone = undone-none bank_marks g; bank = refl; hook_marks = refl; register = register-none s answer }

  pub stays-of : {A E : Type 0} (g g2 : Ground B) (h h2 : H) (s s2 : Registered) (answer : Result A E) → GoesOn bank_marks most_steps marks_of g g2 h h2 s s2 answer → AllStays bank_marks most_steps marks_of g g2 h h2 s s2 answer
  stays-of g g2 h h2 s s2 answer a = record { undone = a.undone; bank = a.bank; hook_marks = a.hook_marks; register = register-of a.register }

  pub stays-then : {A E : Type 0} (g g2 g3 : Ground B) (h h2 h3 : H) (s s2 s3 : Registered) (answer : Result A E) → AllStays bank_marks most_steps marks_of g g2 h h2 s s2 fine → AllStays bank_marks most_steps marks_of g2 g3 h2 h3 s2 s3 answer
      → AllStays bank_marks most_steps marks_of g g3 h h3 s s3 answer
  stays-then g g2 g3 h h2 h3 s s2 s3 answer a b = record {
    undone = undone-then bank_marks g g2 g3 a.undone b.undone;
    bank = b.bank ∙ a.bank;
    hook_marks = b.hook_marks ∙ a.hook_marks;
    register = register-then s s2 s3 answer a.register b.register;
  }

-- ---- steps

-- one turn more, each of so many steps
pub cost_more : (i t s s1 s2 : ℕ) → s1 ≤ s + i * (9 + t) → s2 ≤ s1 + 9 + t → s2 ≤ s + (i + 1) * (9 + t)
cost_more i t s s1 s2 h k =
    let e : (i + 1) * (9 + t) ≡ i * (9 + t) + (9 + t) = ap (λ n. n * (9 + t)) (add-one i) ∙ suc-mul i (9 + t) in
    omega (arith, e, h, k)

-- fewer turns than all
pub cost_within : (i n t s s2 : ℕ) → i ≤ n → s2 ≤ s + i * (9 + t) → s2 ≤ s + n * (9 + t)
cost_within i n t s s2 l h =
    let m : i * (9 + t) ≤ n * (9 + t) = mul-le-mul_right (9 + t) l in
    omega (arith, m, h)

-- so many turns, where a hook touches at most four
pub turns_within : (n most t : ℕ) → n ≤ most → t ≤ 4 → n * (9 + t) ≤ most * 13
turns_within n most t h k =
    let few : 9 + t ≤ 13 = omega (arith, k) in
    mul-le-mul h few
