-- Lists of entries by delegator, source and target: their order, and that they stay sound as they change.
use Rattle.std.proofs.Common.{◌≡◌, ◌∙◌, ℕ, ◌+◌, ◌^◌, ◌<◌, ◌≤◌, Bool, true, false, cond, List, [], ◌∷◌, ◌++◌, length, Option, Some, None, refl, sym, subst, arith, inl, inr, ◌⊎◌, All, max, not, nat_le, filter, unwrap_or}
use Rattle.std.specs.{BTreeMap.is_at, List.Sorted.IsStrictlySortedBy, Map.keys_of}
use Rattle.std.proofs.Math.Nat.{le-max_left, le-max_right}
use Rattle.std.proofs.lemmas.List.Elements.{All-weaker, All-nil, All-cons, All-head, All-tail}
use Rattle.base_types.proofs.MapLemmas.{ascend-taken, equal}
use Rattle.base_roles.specs.{declared.entities.RedelegationEntry.RedelegationEntry, Entries.{at, with, without}}
use Rattle.base_roles.specs.Orders.{triple_cmp}
use Rattle.rule_modules.specs.EntrySlashes.{redelegation_made}
use Rattle.rule_modules.specs.Redelegations.{RedelegationLists, redelegations_of, appended}
use Rattle.rule_modules.specs.Sound.{RedelegationIsSound, RedelegationsAreSound}
use Rattle.rule_modules.proofs.{EntryLemmas.{at-put, at-taken, ascend-put, from_all, to_all}, SoundLemmas.either_some}
use Rattle.mod_entries.specs.Lists.{list_at, with_list, unmatured, AreFew}
use Rattle.mod_redelegation.{specs.Calls.AreSoundLists, proofs.OrderLemmas.{Key, triple_total, exact_key}}

-- ---- what holds of all

still_there : {A : Type 0} (b : Bool) (x : A) (r : Option A) → cond b None r ≡ Some x → r ≡ Some x
still_there true x r e = absurd cc
still_there false x r e = e

module _ (P : Key × List RedelegationEntry → Type 0) (r : RedelegationLists) (in_order : IsStrictlySortedBy triple_cmp (keys_of r)) (h : All P r) where
  pub holds_at : (k : Key) (es : List RedelegationEntry) → at triple_cmp r k ≡ Some es → P (k, es)
  holds_at = from_all triple_cmp triple_total P r exact_key h

  pub all-put : (k : Key) (l : List RedelegationEntry) → P (k, l) → All P (with triple_cmp r k l)
  all-put k l p = to_all triple_cmp triple_total P (with triple_cmp r k l) (ascend-put triple_cmp triple_total r k l in_order)
      (λ q es e. either q es (either_some (is_at (triple_cmp q) k) l es (at triple_cmp r q) (sym (at-put triple_cmp triple_total r k q l) ∙ e)))
    where
      either : (q : Key) (es : List RedelegationEntry) → ((is_at (triple_cmp q) k ≡ true) × (l ≡ es)) ⊎ ((is_at (triple_cmp q) k ≡ false) × (at triple_cmp r q ≡ Some es)) → P (q, es)
      either q es (inl s) = subst (λ x. P (x, es)) (sym (exact_key q k (equal _ s.0))) (subst (λ x. P (k, x)) s.1 p)
      either q es (inr s) = holds_at q es s.1

  all-take : (k : Key) → All P (without triple_cmp r k)
  all-take k = to_all triple_cmp triple_total P (without triple_cmp r k) (ascend-taken triple_cmp (is_at (triple_cmp k)) r in_order)
      (λ q es e. holds_at q es (still_there (is_at (triple_cmp q) k) es (at triple_cmp r q) (sym (at-taken triple_cmp triple_total r k q in_order) ∙ e)))

  -- it holds of all once other entries stand under a key, where it holds of them, unless they are none
  pub all-list : (k : Key) (l : List RedelegationEntry) → (0 < length l → P (k, l)) → All P (with_list triple_cmp k l r)
  all-list k [] p = all-take k
  all-list k (e ∷ es) p = all-put k (e ∷ es) (p (omega arith))

-- what holds of all, and of none, holds of the entries of a key
pub list-at : (P : List RedelegationEntry → Type 0) (r : RedelegationLists) → P [] → All (λ p. P p.1) r → (k : Key) → P (list_at triple_cmp r k)
list-at P r none h k = by (at triple_cmp r k) refl
  where
    by : (o : Option (List RedelegationEntry)) → at triple_cmp r k ≡ o → P (unwrap_or o [])
    by None e = none
    by (Some es) e = from_all triple_cmp triple_total (λ p. P p.1) r exact_key h k es e

pub ascend-list : (k : Key) (l : List RedelegationEntry) (r : RedelegationLists) → IsStrictlySortedBy triple_cmp (keys_of r) → IsStrictlySortedBy triple_cmp (keys_of (with_list triple_cmp k l r))
ascend-list k [] r s = ascend-taken triple_cmp (is_at (triple_cmp k)) r s
ascend-list k (e ∷ es) r s = ascend-put triple_cmp triple_total r k (e ∷ es) s

-- ---- sound lists

-- sound entries are few, and of at most so much
pub are_few : (r : RedelegationLists) → AreSoundLists r → AreFew triple_cmp redelegation_made r
are_few r h = record {
  ascend = h.1.ascend;
  some = h.1.some;
  most = h.1.most;
  initials = All-weaker (λ p. All (RedelegationIsSound h.0) p.1) (λ p. All (λ e. (redelegation_made e).initial ≤ 10 ^ 18) p.1)
      (λ p a. All-weaker (RedelegationIsSound h.0) (λ e. (redelegation_made e).initial ≤ 10 ^ 18) (λ e k. k.initial) p.1 a) r h.1.entries;
}

-- the entries of a key are sound, and few
pub own-sound : (height : ℕ) (r : RedelegationLists) → RedelegationsAreSound height r → (k : Key) → All (RedelegationIsSound height) (list_at triple_cmp r k)
own-sound height r h k = list-at (All (RedelegationIsSound height)) r (All-nil (RedelegationIsSound height)) h.entries k

pub own-few : (height : ℕ) (r : RedelegationLists) → RedelegationsAreSound height r → (k : Key) → length (list_at triple_cmp r k) ≤ 100
own-few height r h k = list-at (λ es. length es ≤ 100) r (omega arith) h.most k

-- they stay so once other sound entries stand under a key
pub sound-list : (height : ℕ) (r : RedelegationLists) → RedelegationsAreSound height r → (k : Key) (l : List RedelegationEntry) → length l ≤ 100 → All (RedelegationIsSound height) l → RedelegationsAreSound height (with_list triple_cmp k l r)
sound-list height r h k l few sound = record {
  ascend = ascend-list k l r h.ascend;
  some = all-list (λ p. 0 < length p.1) r h.ascend h.some k l (λ n. n);
  most = all-list (λ p. length p.1 ≤ 100) r h.ascend h.most k l (λ n. few);
  entries = all-list (λ p. All (RedelegationIsSound height) p.1) r h.ascend h.entries k l (λ n. sound);
}

-- the entries that are not mature are sound, and no more
all_filter : {A : Type 0} (P : A → Type 0) (test : A → Bool) (es : List A) → All P es → All P (filter test es)
all_filter P test [] a = All-nil P
all_filter P test (e ∷ es) a = by (test e) (all_filter P test es (All-tail P e es a))
  where
    by : (b : Bool) → All P (filter test es) → All P (cond b (e ∷ filter test es) (filter test es))
    by true later = All-cons P e (filter test es) (All-head P e es a) later
    by false later = later

length_filter : {A : Type 0} (test : A → Bool) (es : List A) → length (filter test es) ≤ length es
length_filter test [] = omega arith
length_filter {A} test (e ∷ es) = by (test e) (length_filter test es)
  where
    rest : List A
    rest = filter test es

    by : (b : Bool) → length rest ≤ length es → length (cond b (e ∷ rest) rest) ≤ length (e ∷ es)
    by true later = let goal : length (e ∷ rest) ≤ length (e ∷ es) = omega (arith, later) in goal
    by false later = let goal : length rest ≤ length (e ∷ es) = omega (arith, later) in goal

pub completed-sound : (now : ℕ) (r : RedelegationLists) → AreSoundLists r → (k : Key) → AreSoundLists (with_list triple_cmp k (unmatured redelegation_made now (list_at triple_cmp r k)) r)
completed-sound now r h k =
    let es = list_at triple_cmp r k in
    let test : RedelegationEntry → Bool = λ e. not (nat_le e.completes now) in
    let few = own-few h.0 r h.1 k in
    let less = length_filter test es in
    (h.0, sound-list h.0 r h.1 k (unmatured redelegation_made now es) (omega (arith, few, less)) (all_filter (RedelegationIsSound h.0) test es (own-sound h.0 r h.1 k)))

-- ---- one entry more

length_behind : {A : Type 0} (es : List A) (e : A) → length (es ++ e ∷ []) ≡ length es + 1
length_behind [] e = omega arith
length_behind (x ∷ es) e = let n = length_behind es e in omega (arith, n)

all_behind : {A : Type 0} (P : A → Type 0) (es : List A) (e : A) → All P es → P e → All P (es ++ e ∷ [])
all_behind P [] e a p = All-cons P e [] p (All-nil P)
all_behind P (x ∷ es) e a p = All-cons P x (es ++ e ∷ []) (All-head P x es a) (all_behind P es e (All-tail P x es a) p)

pub later_entry : (a b : ℕ) → a ≤ b → (e : RedelegationEntry) → RedelegationIsSound a e → RedelegationIsSound b e
later_entry a b p e h = record { initial = h.initial; created = let c = h.created in omega (arith, c, p) }

pub later_lists : (a b : ℕ) → a ≤ b → (r : RedelegationLists) → RedelegationsAreSound a r → RedelegationsAreSound b r
later_lists a b p r h = record {
  ascend = h.ascend;
  some = h.some;
  most = h.most;
  entries = All-weaker (λ q. All (RedelegationIsSound a) q.1) (λ q. All (RedelegationIsSound b) q.1) (λ q k. All-weaker (RedelegationIsSound a) (RedelegationIsSound b) (later_entry a b p) q.1 k) r h.entries;
}

behind_list : (k : Key) (es : List RedelegationEntry) (e : RedelegationEntry) (r : RedelegationLists) → with_list triple_cmp k (es ++ e ∷ []) r ≡ with triple_cmp r k (es ++ e ∷ [])
behind_list k [] e r = refl
behind_list k (x ∷ es) e r = refl

pub appended-sound : (delegator source target : List ℕ) (t : Option (ℕ × ℕ)) (amount shares : ℕ) (r : RedelegationLists) → AreSoundLists r → length (redelegations_of r delegator source target) < 100 → amount ≤ 10 ^ 18
    → AreSoundLists (appended delegator source target t amount shares r)
appended-sound delegator source target None amount shares r h room most = h
appended-sound delegator source target (Some t) amount shares r h room most =
    let es = redelegations_of r delegator source target in
    let e : RedelegationEntry = record { created = t.0; completes = t.1; initial = amount; shares_dst = shares } in
    let top = max h.0 t.0 in
    let all = later_lists h.0 top (le-max_left h.0 t.0) r h.1 in
    let n = length_behind es e in
    let own : RedelegationIsSound top e = record { initial = most; created = le-max_right h.0 t.0 } in (
      top,
      subst (RedelegationsAreSound top) (behind_list (delegator, source, target) es e r)
          (sound-list top r all (delegator, source, target) (es ++ e ∷ []) (omega (arith, n, room)) (all_behind (RedelegationIsSound top) es e (own-sound top r all (delegator, source, target)) own)),
    )
