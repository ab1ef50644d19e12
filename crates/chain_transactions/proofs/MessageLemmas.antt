-- Messages that were carried out so far.
use Rattle.std.proofs.Common.{◌≡◌, ◌∙◌, ℕ, ◌+◌, ◌≤◌, ◌<◌, List, [], ◌∷◌, drop, length, get_or, map, add-one, drop-cons, ◌++◌, Option, Some, None, Result, Ok, Err, refl, sym, ap, subst, arith}
use Rattle.base_roles.specs.declared.{faults.MessageFault.MessageFault, refusal.Refusal.Refusal}
use Rattle.base_roles.specs.{Answers.StopsForMemory, Flow.{◌>>=◌, stopping}}
use Rattle.base_roles.specs.declared.faults.MessageFault.TheVariants as stop
use Rattle.rule_modules.specs.{Chain.State, Effects.effects_of}
use Rattle.base_messages.specs.declared.message.Msg.{Msg}
use Rattle.rule_machine.specs.Messages.{effect_of}
use Rattle.chain_modules.specs.{declared.modules.Modules.Modules, Kept.{KeptState, StandsWhole, kept_of, AreSteady}}
use Rattle.chain_modules.{specs.Marks.MessagesGoOn, proofs.MarkLemmas.{at_moment, stay_on, then_messages}}
use Rattle.chain_transactions.specs.Answers.{MessageEnds, MessagesEnd}

-- ---- lists from a place on

pub next : {A : Type 0} (xs : List A) (i : ℕ) (x : A) → i < length xs → x ≡ get_or xs i x → drop i xs ≡ x ∷ drop (i + 1) xs
next xs i x lt is = rw (add-one) (drop-cons xs i x lt) ∙ ap (λ y. y ∷ drop (i + 1) xs) (sym is)

drop_all : {A : Type 0} (xs : List A) → drop (length xs) xs ≡ []
drop_all [] = refl
drop_all (x ∷ xs) = drop_all xs

pub drop_end : {A : Type 0} (xs : List A) (i : ℕ) → i ≤ length xs → length xs ≤ i → drop i xs ≡ []
drop_end xs i most least = let e : i ≡ length xs = omega arith in ap (λ k. drop k xs) e ∙ drop_all xs

-- an option that is no Some is None
pub none_left : {A : Type 0} (o : Option A) → ((x : A) → o ≡ Some x → ⊥) → o ≡ None
none_left None h = refl
none_left (Some x) h = absurd (h x refl)

pub append_nil : {A : Type 0} (xs : List A) → xs ++ [] ≡ xs
append_nil [] = refl
append_nil (x ∷ xs) = ap (λ l. x ∷ l) (append_nil xs)

-- ---- messages

-- a message that was carried out leaves what stands for the state that is due
pub done : (r : Result State Refusal) (k : KeptState) → MessageEnds r k (Ok tt) → (due : State) × (r ≡ Ok due) × StandsWhole k due
done (Ok due) k e = (due, refl, e)
done (Err why) k e = absurd e

-- one that is refused has its refusal
pub refused : (r : Result State Refusal) (k : KeptState) (why : Refusal) → MessageEnds r k (Err (stop.Refused why)) → r ≡ Err why
refused (Ok due) k why e = absurd e
refused (Err due) k why e = ap (λ x. Err x) (sym e)

-- one that was carried out, behind which memory was wanting
pub wants_behind : (r : Result State Refusal) (k k2 : KeptState) (fault : MessageFault) → fault ≡ stop.NoMemory → MessageEnds r k (Ok tt) → MessageEnds r k2 (Err fault)
wants_behind (Ok due) k k2 fault is e = subst StopsForMemory (sym is) tt
wants_behind (Err why) k k2 fault is e = absurd e

-- The messages before this place were carried out, none of them refused: from each state that stood first, they lead to one
-- that stands now.
pub record SoFar {E : Type 0} (messages : List Msg) (place : ℕ) (old new : Modules E) : Type 0 where
  pub steady : AreSteady new
  pub go_on : MessagesGoOn old new
  pub rest : (p : State) → StandsWhole (kept_of old) p
      → (q : State) × StandsWhole (kept_of new) q × (effects_of place (map effect_of (drop place messages)) q ≡ effects_of 0 (map effect_of messages) p)

-- before the first of them
pub none_yet : {E : Type 0} (messages : List Msg) (m : Modules E) → AreSteady m → SoFar messages 0 m m
none_yet messages m s = record { steady = s; go_on = at_moment m m (stay_on m); rest = λ p k. (p, k, refl) }

module _ {E : Type 0} (messages : List Msg) (place : ℕ) (message : Msg) (old new : Modules E) (lt : place < length messages) (is : message ≡ get_or messages place message) (so : SoFar messages place old new) where
  -- what the messages from here on come to, by what this one comes to
  here : (p : State) (k : StandsWhole (kept_of old) p) (r : Result State Refusal) → effect_of message (so.rest p k).0 ≡ r
      → (stopping (λ why. (place, why)) r >>= λ u. effects_of (place + 1) (map effect_of (drop (place + 1) messages)) u) ≡ effects_of 0 (map effect_of messages) p
  here p k r e =
      sym (ap (λ (x : Result State Refusal). stopping (λ why. (place, why)) x >>= λ u. effects_of (place + 1) (map effect_of (drop (place + 1) messages)) u) e)
      ∙ sym (ap (λ (l : List Msg). effects_of place (map effect_of l) (so.rest p k).0) (next messages place message lt is))
      ∙ (so.rest p k).2

  pub one_more : (last : Modules E) → ((p : State) → StandsWhole (kept_of new) p → MessageEnds (effect_of message p) (kept_of last) (Ok tt))
      → AreSteady last → MessagesGoOn new last → SoFar messages (place + 1) old last
  one_more last ends s g = record {
    steady = s;
    go_on = then_messages old new last so.go_on g;
    rest = λ p k.
        let q = so.rest p k in
        let d = done (effect_of message q.0) (kept_of last) (ends q.0 q.1) in
        (d.0, d.2, here p k (Ok d.0) d.1);
  }

  pub one_refused : (last : Modules E) (why : Refusal) → ((p : State) → StandsWhole (kept_of new) p → MessageEnds (effect_of message p) (kept_of last) (Err (stop.Refused why)))
      → (p : State) → StandsWhole (kept_of old) p → MessagesEnd (effects_of 0 (map effect_of messages) p) (Some (place, why)) (kept_of last)
  one_refused last why ends p k =
      let q = so.rest p k in
      subst (λ r. MessagesEnd r (Some (place, why)) (kept_of last)) (here p k (Err why) (refused (effect_of message q.0) (kept_of last) why (ends q.0 q.1))) refl

-- none was refused
pub all_done : {E : Type 0} (messages : List Msg) (place : ℕ) (old new : Modules E) → drop place messages ≡ [] → SoFar messages place old new
    → (p : State) → StandsWhole (kept_of old) p → MessagesEnd (effects_of 0 (map effect_of messages) p) None (kept_of new)
all_done messages place old new e so p k =
    let q = so.rest p k in
    subst (λ r. MessagesEnd r None (kept_of new)) (sym (ap (λ (l : List Msg). effects_of place (map effect_of l) q.0) e) ∙ q.2) q.1
