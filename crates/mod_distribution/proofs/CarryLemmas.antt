-- What calls answer and leave that carry out rules, one after another.
use Rattle.std.proofs.Common.{◌≡◌, ◌++◌, Ok, Err, refl, sym, ap, subst, Result, OnOk, IfErr}
use Rattle.std.specs.Prelude.{⊤}
use Rattle.base_decimals.specs.declared.over.Over.{Over}
use Rattle.base_roles.specs.declared.{faults.HookFault.HookFault, refusal.Refusal.{Refusal, TheVariants.Overflow}}
use Rattle.base_roles.specs.{Answers.Answers, Log.Log, Flow.{◌>>=◌, stopping}, Stops.stop_of_hook}
use Rattle.base_roles.specs.World.{View, Told, gives, exceeds}
use Rattle.base_roles.specs.declared.faults.HookFault.TheVariants as hook
use Rattle.base_roles.specs.declared.faults.MessageFault.TheVariants as stop
use Rattle.rule_modules.specs.Distribution.{Shared, told_of, left_by}
use Rattle.mod_sums.specs.Faults.{IsExcessOf}
use Rattle.mod_distribution.specs.{Calls.{CarriesOut, CarriesOutOrRefuses}, Kept.KeptShared, Stands.KeepsShared}

-- what a rule gives: an answer, records, the ground and the log
abbrev pub Ruled : Type 0 → Type 0
Ruled A = Result (A × Shared × View × Log) Over

-- behind another log
abbrev pub relogged : {A : Type 0} → Log → Ruled A → Ruled A
relogged l (Ok x) = Ok (x.0, x.1, x.2, l ++ x.3)
relogged l (Err over) = Err over

module _ {A : Type 0} (k : KeptShared) (v : View) where
  -- memory may always be wanting
  pub wants_memory : (r : Ruled A) → CarriesOut r k v (Err hook.NoMemory)
  wants_memory (Ok x) = tt
  wants_memory (Err over) = tt

  pub wants : (r : Ruled A) (fault : HookFault) → fault ≡ hook.NoMemory → CarriesOut r k v (Err fault)
  wants r fault e = subst (λ f. CarriesOut r k v (Err f)) (sym e) (wants_memory r)

  -- the call has the rule's excess
  pub exceeds_as : (r : Ruled A) (fault : HookFault) → IsExcessOf r fault → CarriesOut r k v (Err fault)
  exceeds_as r (hook.Over over) h = subst (λ x. CarriesOut x k v (Err (hook.Over over))) (sym h) refl
  exceeds_as r hook.NoMemory h = wants_memory r

  -- the call does what the rule gives
  pub carried : (r : Ruled A) (a : A) (d : Shared) (u : View) (l : Log) → r ≡ Ok (a, d, u, l) → KeepsShared k d → v ≡ u → CarriesOut r k v (Ok a)
  carried r a d u l e s q = subst (λ x. CarriesOut x k v (Ok a)) (sym e) (refl, s, q)

  -- where the call succeeded, so does the rule
  pub carried_from : (r : Ruled A) (a : A) → CarriesOut r k v (Ok a) → (x : A × Shared × View × Log) × ((r ≡ Ok x) × (a ≡ x.0) × KeepsShared k x.1 × (v ≡ x.2))
  carried_from (Ok x) a h = (x, (refl, h.0, h.1, h.2))
  carried_from (Err over) a h = absurd h

  -- as hooks tell it, apart from the answer
  pub told_left : (r : Ruled A) (a : A) → CarriesOut r k v (Ok a) → Answers (told_of (left_by r)) (KeepsShared k) v (Ok tt)
  told_left (Ok x) a h = (h.1, h.2)
  told_left (Err over) a h = absurd h

  pub told_fault : (r : Ruled A) (fault : HookFault) → CarriesOut r k v (Err fault) → Answers (told_of (left_by r)) (KeepsShared k) v (Err fault)
  told_fault (Ok x) fault h = h
  told_fault (Err over) fault h = h

  -- the log is no part of it
  pub carried_relogged : (l : Log) (r : Ruled A) (answer : Result A HookFault) → CarriesOut r k v answer → CarriesOut (relogged l r) k v answer
  carried_relogged l (Ok x) (Ok a) h = h
  carried_relogged l (Ok x) (Err fault) h = h
  carried_relogged l (Err over) (Ok a) h = h
  carried_relogged l (Err over) (Err fault) h = h

  -- as a message
  pub message : (r : Ruled A) (a : A) → CarriesOut r k v (Ok a) → CarriesOutOrRefuses (stopping Overflow r) k v (Ok a)
  message (Ok x) a h = h
  message (Err over) a h = absurd h

  pub message_fault : (r : Ruled A) (fault : HookFault) → CarriesOut r k v (Err fault) → CarriesOutOrRefuses (stopping Overflow r) k v (Err (stop_of_hook fault))
  message_fault (Ok x) (hook.Over over) h = absurd h
  message_fault (Ok x) hook.NoMemory h = tt
  message_fault (Err due) (hook.Over over) h = ap Overflow h
  message_fault (Err due) hook.NoMemory h = tt

  pub message_refused : (r : Result (A × Shared × View × Log) Refusal) (why : Refusal) → r ≡ Err why → CarriesOutOrRefuses r k v (Err (stop.Refused why))
  message_refused r why e = subst (λ x. CarriesOutOrRefuses x k v (Err (stop.Refused why))) (sym e) refl

  pub message_carried : (r : Result (A × Shared × View × Log) Refusal) (a : A) (d : Shared) (u : View) (l : Log) → r ≡ Ok (a, d, u, l) → KeepsShared k d → v ≡ u → CarriesOutOrRefuses r k v (Ok a)
  message_carried r a d u l e s q = subst (λ x. CarriesOutOrRefuses x k v (Ok a)) (sym e) (refl, s, q)

-- ---- one rule after another

module _ {A B : Type 0} (r : Ruled A) (f : A × Shared × View × Log → Ruled B) where
  -- a fault of the first is one of both
  pub first_fault : (k k2 : KeptShared) (v v2 : View) (fault : HookFault) → CarriesOut r k v (Err fault) → CarriesOut (r >>= f) k2 v2 (Err fault)
  first_fault k k2 v v2 fault h = by r h
    where
      by : (r : Ruled A) → CarriesOut r k v (Err fault) → CarriesOut (r >>= f) k2 v2 (Err fault)
      by (Ok x) g = memory fault g (f x)
        where
          memory : (fault : HookFault) → CarriesOut {A = A} (Ok x) k v (Err fault) → (q : Ruled B) → CarriesOut q k2 v2 (Err fault)
          memory (hook.Over over) g q = absurd g
          memory hook.NoMemory g q = wants_memory k2 v2 q
      by (Err over) g = g

  -- behind the first, both are the second
  pub behind_first : (k : KeptShared) (v : View) (x : A × Shared × View × Log) (answer : Result B HookFault) → r ≡ Ok x → CarriesOut (f x) k v answer → CarriesOut (r >>= f) k v answer
  behind_first k v x answer e h = subst (λ y. CarriesOut (y >>= f) k v answer) (sym e) h

-- ---- a rule of two hooks' kind, of which nothing is answered

module _ (k : KeptShared) (v : View) where
  pub told_wants : (t : Told Shared) (fault : HookFault) → fault ≡ hook.NoMemory → Answers t (KeepsShared k) v (Err fault)
  told_wants t fault e = subst (λ f. Answers t (KeepsShared k) v (Err f)) (sym e) (by t)
    where
      by : (t : Told Shared) → Answers t (KeepsShared k) v (Err hook.NoMemory)
      by (gives d u l) = tt
      by (exceeds over) = tt

-- a call of which something is told fails for want of memory alone
pub given_wants : (k : KeptShared) (v : View) (d : Shared) (u : View) (l : Log) (fault : HookFault) → Answers (gives d u l) (KeepsShared k) v (Err fault) → fault ≡ hook.NoMemory
given_wants k v d u l (hook.Over over) h = absurd h
given_wants k v d u l hook.NoMemory h = refl

-- what a call answers that gives what is told, with one way out behind it
pub answers_given : (k : KeptShared) (d : Shared) (u u2 : View) (l : Log) (r : Result ⊤ HookFault) → OnOk r (KeepsShared k d) → OnOk r (u2 ≡ u) → IfErr r (λ fault. fault ≡ hook.NoMemory) → Answers (gives d u l) (KeepsShared k) u2 r
answers_given k d u u2 l (Ok a) h e f = (h, e)
answers_given k d u u2 l (Err fault) h e f = told_wants k u2 (gives d u l) fault f

-- of two facts of one answer
pub on_both : {E A : Type 0} (P Q : Type 0) (r : Result A E) → OnOk r P → OnOk r Q → OnOk r (P × Q)
on_both P Q (Ok a) p q = (p, q)
on_both P Q (Err e) p q = tt
