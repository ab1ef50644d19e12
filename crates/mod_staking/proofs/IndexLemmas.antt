-- The first operator of each consensus address, as validators join, change and leave.
use Rattle.std.proofs.Common.{◌≡◌, ◌∙◌, ℕ, Bool, true, false, cond, List, [], ◌∷◌, Option, Some, None, refl, sym, ap, subst, find, if◌then◌else◌, IfSome, Ordering, Less, Equal, Greater, is_eq, is_lt}
use Rattle.std.specs.{Ordering.{match_ordering, ordering_reverse}, List.{AllByRecursion, Sorted.IsStrictlySortedBy}}
use Rattle.std.specs.{Map.{keys_of, values_of, remove_entry}, BTreeMap.{insert_entry, is_at}}
use Rattle.std.proofs.lemmas.Map.{lookup-none, Entries.none_below_head}
use Rattle.base_types.{specs.Orders.{addr_cmp, cons_cmp}, proofs.MapLemmas.{ascend-taken, at-put, at-taken}}
use Rattle.base_roles.specs.{declared.entities.Validator.Validator, Entries.{at, with, without}, Orders.same_addr}
use Rattle.mod_staking.specs.Joint.{is_lower, listed}
use Rattle.mod_staking.specs.Registered.{Validators, Operators, operator_by_cons, IsIndex, AreKeyed, lower_of}
use Rattle.rule_modules.proofs.OrderLemmas.{addr_total, cons_total, same_is, same_itself, same_back}

abbrev has_cons : Validator → List ℕ → Bool
has_cons v c = is_eq (cons_cmp v.cons c)

-- a validator that is found stands under its operator
pub keyed_found : (es : Validators) (o : List ℕ) (v : Validator) → AreKeyed es → at addr_cmp es o ≡ Some v → v.operator ≡ o
keyed_found [] o v k f = absurd cc
keyed_found (e ∷ es) o v k f = by (same_addr o e.0) refl f (λ g. keyed_found es o v k.1 g)
  where
    by : (b : Bool) → same_addr o e.0 ≡ b → cond b (Some e.1) (at addr_cmp es o) ≡ Some v → (at addr_cmp es o ≡ Some v → v.operator ≡ o) → v.operator ≡ o
    by true h g later = let one : e.1 ≡ v = cc in sym (ap (λ x. x.operator) one) ∙ k.0 ∙ sym (same_is o e.0 h)
    by false h g later = later g

-- what holds of a validator wherever one is found
pub own_if_found : (found : Option Validator) (o : List ℕ) → ((v : Validator) → found ≡ Some v → v.operator ≡ o) → IfSome found (λ v. v.operator ≡ o)
own_if_found None o each = tt
own_if_found (Some v) o each = each v refl

pub keyed-put : (es : Validators) (v : Validator) → AreKeyed es → AreKeyed (insert_entry addr_cmp es v.operator v)
keyed-put [] v k = (refl, tt)
keyed-put (e ∷ es) v k = by (addr_cmp v.operator e.0) refl (keyed-put es v k.1)
  where
    by : (r : Ordering) → addr_cmp v.operator e.0 ≡ r → AreKeyed (insert_entry addr_cmp es v.operator v) → AreKeyed (match_ordering r ((v.operator, v) ∷ e ∷ es) ((e.0, v) ∷ es) (e ∷ insert_entry addr_cmp es v.operator v))
    by Less p later = (refl, k)
    by Equal p later = (same_is v.operator e.0 (ap is_eq p), k.1)
    by Greater p later = (k.0, later)

pub keyed-removed : (es : Validators) (o : List ℕ) → AreKeyed es → AreKeyed (remove_entry (is_at (addr_cmp o)) es)
keyed-removed [] o k = tt
keyed-removed (e ∷ es) o k = by (same_addr o e.0) (keyed-removed es o k.1)
  where
    by : (b : Bool) → AreKeyed (remove_entry (is_at (addr_cmp o)) es) → AreKeyed (cond b es (e ∷ remove_entry (is_at (addr_cmp o)) es))
    by true later = k.1
    by false later = (k.0, later)

-- ---- looking up

-- what holds of all operators holds of the one that is found
of_all : (P : List ℕ → Type 0) (es : Validators) (c o : List ℕ) → AllByRecursion P (keys_of es) → operator_by_cons es c ≡ Some o → P o
of_all P [] c o h f = absurd cc
of_all P (e ∷ es) c o h f = by (has_cons e.1 c) f (λ g. of_all P es c o h.1 g)
  where
    by : (b : Bool) → cond b (Some e.0) (operator_by_cons es c) ≡ Some o → (operator_by_cons es c ≡ Some o → P o) → P o
    by true g later = let one : e.0 ≡ o = cc in subst P one h.0
    by false g later = later g

not_below : (o p : List ℕ) → addr_cmp p o ≡ Less → same_addr o p ≡ false
not_below o p h = ap is_eq (addr_total.antisymm o p ∙ ap ordering_reverse h)

pub by_cons-none : (es : Validators) (c : List ℕ) → operator_by_cons es c ≡ None → find (λ v. has_cons v c) (values_of es) ≡ None
by_cons-none [] c f = refl
by_cons-none (e ∷ es) c f = by (has_cons e.1 c) f (λ g. by_cons-none es c g)
  where
    by : (b : Bool) → cond b (Some e.0) (operator_by_cons es c) ≡ None → (operator_by_cons es c ≡ None → find (λ v. has_cons v c) (values_of es) ≡ None) → cond b (Some e.1) (find (λ v. has_cons v c) (values_of es)) ≡ None
    by true g later = absurd cc
    by false g later = later g

pub by_cons-some : (es : Validators) (c o : List ℕ) → IsStrictlySortedBy addr_cmp (keys_of es) → operator_by_cons es c ≡ Some o
    → at addr_cmp es o ≡ find (λ v. has_cons v c) (values_of es)
unfolding IsStrictlySortedBy
by_cons-some [] c o s f = absurd cc
by_cons-some (e ∷ es) c o s f = by (has_cons e.1 c) f (λ g. by_cons-some es c o s.1 g)
  where
    by : (b : Bool) → cond b (Some e.0) (operator_by_cons es c) ≡ Some o → (operator_by_cons es c ≡ Some o → at addr_cmp es o ≡ find (λ v. has_cons v c) (values_of es)) → at addr_cmp (e ∷ es) o ≡ cond b (Some e.1) (find (λ v. has_cons v c) (values_of es))
    by true g later = let one : e.0 ≡ o = cc in ap (λ b. cond b (Some e.1) (at addr_cmp es o)) (ap (λ x. same_addr x e.0) (sym one) ∙ same_itself e.0)
    by false g later =
        let above : addr_cmp e.0 o ≡ Less = of_all (λ y. addr_cmp e.0 y ≡ Less) es c o s.0 g in
        ap (λ b. cond b (Some e.1) (at addr_cmp es o)) (not_below o e.0 above) ∙ later g

-- ---- a validator in the place of one with its consensus address

module _ (v w : Validator) (same : w.cons ≡ v.cons) (c : List ℕ) where
  pub index-put : (es : Validators) → IsStrictlySortedBy addr_cmp (keys_of es) → at addr_cmp es v.operator ≡ Some w
      → operator_by_cons (insert_entry addr_cmp es v.operator v) c ≡ operator_by_cons es c
  unfolding IsStrictlySortedBy
  index-put [] s f = absurd cc
  index-put (e ∷ es) s f = by (addr_cmp v.operator e.0) refl f (λ g. index-put es s.1 g)
    where
      by : (r : Ordering) → addr_cmp v.operator e.0 ≡ r → cond (is_eq r) (Some e.1) (at addr_cmp es v.operator) ≡ Some w
          → (at addr_cmp es v.operator ≡ Some w → operator_by_cons (insert_entry addr_cmp es v.operator v) c ≡ operator_by_cons es c)
          → operator_by_cons (match_ordering r ((v.operator, v) ∷ e ∷ es) ((e.0, v) ∷ es) (e ∷ insert_entry addr_cmp es v.operator v)) c ≡ operator_by_cons (e ∷ es) c
      by Less p g later =
          let none : at addr_cmp es v.operator ≡ None = lookup-none (is_at (addr_cmp v.operator)) es (none_below_head addr_total v.operator e es s p).1 in
          absurd cc
      by Equal p g later =
          let one : e.1 ≡ w = cc in
          ap (λ x. cond (is_eq (cons_cmp x c)) (Some e.0) (operator_by_cons es c)) (sym (ap (λ x. x.cons) one ∙ same))
      by Greater p g later = ap (cond (has_cons e.1 c) (Some e.0)) (later g)

-- ---- a validator that joins

lower-least : (o : List ℕ) (es : Validators) (c : List ℕ) → AllByRecursion (λ y. addr_cmp o y ≡ Less) (keys_of es) → lower_of o (operator_by_cons es c) ≡ o
lower-least o es c h = by (operator_by_cons es c) refl
  where
    by : (x : Option (List ℕ)) → operator_by_cons es c ≡ x → lower_of o x ≡ o
    by None f = refl
    by (Some p) f = ap (λ r. if is_lt r then o else p) (of_all (λ y. addr_cmp o y ≡ Less) es c p h f)

above-all : (o p : List ℕ) (ks : List (List ℕ)) → addr_cmp o p ≡ Less → AllByRecursion (λ y. addr_cmp p y ≡ Less) ks → AllByRecursion (λ y. addr_cmp o y ≡ Less) ks
above-all o p [] h a = tt
above-all o p (k ∷ ks) h a = (addr_total.trans o p k h a.0, above-all o p ks h a.1)

cond-both : {A : Type 0} (b : Bool) (x y : A) → x ≡ y → y ≡ cond b x y
cond-both true x y e = sym e
cond-both false x y e = refl

module _ (v : Validator) (c : List ℕ) where
  pub index-joined : (es : Validators) → IsStrictlySortedBy addr_cmp (keys_of es) → at addr_cmp es v.operator ≡ None
      → operator_by_cons (insert_entry addr_cmp es v.operator v) c ≡ cond (has_cons v c) (Some (lower_of v.operator (operator_by_cons es c))) (operator_by_cons es c)
  unfolding IsStrictlySortedBy
  index-joined [] s f = refl
  index-joined (e ∷ es) s f = by (addr_cmp v.operator e.0) refl f (λ g. index-joined es s.1 g)
    where
      all : Option (List ℕ)
      all = operator_by_cons (e ∷ es) c

      behind : (b : Bool) → addr_cmp v.operator e.0 ≡ Greater
          → cond b (Some e.0) (cond (has_cons v c) (Some (lower_of v.operator (operator_by_cons es c))) (operator_by_cons es c))
          ≡ cond (has_cons v c) (Some (lower_of v.operator (cond b (Some e.0) (operator_by_cons es c)))) (cond b (Some e.0) (operator_by_cons es c))
      behind true p = cond-both (has_cons v c) _ _ (ap Some (ap (λ r. if is_lt r then v.operator else e.0) p))
      behind false p = refl

      by : (r : Ordering) → addr_cmp v.operator e.0 ≡ r → cond (is_eq r) (Some e.1) (at addr_cmp es v.operator) ≡ None
          → (at addr_cmp es v.operator ≡ None → operator_by_cons (insert_entry addr_cmp es v.operator v) c ≡ cond (has_cons v c) (Some (lower_of v.operator (operator_by_cons es c))) (operator_by_cons es c))
          → operator_by_cons (match_ordering r ((v.operator, v) ∷ e ∷ es) ((e.0, v) ∷ es) (e ∷ insert_entry addr_cmp es v.operator v)) c ≡ cond (has_cons v c) (Some (lower_of v.operator (operator_by_cons (e ∷ es) c))) (operator_by_cons (e ∷ es) c)
      by Less p g later = ap (λ x. cond (has_cons v c) (Some x) (operator_by_cons (e ∷ es) c)) (sym (lower-least v.operator (e ∷ es) c (p, above-all v.operator e.0 (keys_of es) p s.0)))
      by Equal p g later = absurd cc
      by Greater p g later = ap (cond (has_cons e.1 c) (Some e.0)) (later g) ∙ behind (has_cons e.1 c) p

lower-if : (o : List ℕ) (x : Option (List ℕ)) → is_lower o x ≡ true → lower_of o x ≡ o
lower-if o None h = refl
lower-if o (Some p) h = ap (λ b. if b then o else p) h

lower-not : (o : List ℕ) (x : Option (List ℕ)) → is_lower o x ≡ false → x ≡ Some (lower_of o x)
lower-not o None h = absurd cc
lower-not o (Some p) h = sym (ap (λ b. Some (if b then o else p)) h)

-- the index tells the first operators once a validator is listed
pub listed-joined : (v : Validator) (es : Validators) (index : Operators) → IsStrictlySortedBy addr_cmp (keys_of es) → at addr_cmp es v.operator ≡ None → IsIndex es index
    → IsIndex (insert_entry addr_cmp es v.operator v) (listed v index)
listed-joined v es index s f i c = by (is_lower v.operator (at cons_cmp index v.cons)) refl ∙ sym (index-joined v c es s f)
  where
    here : has_cons v c ≡ true → operator_by_cons es c ≡ at cons_cmp index v.cons
    here h = sym (i c) ∙ ap (at cons_cmp index) (sym (same_is v.cons c h))

    flipped : same_addr c v.cons ≡ has_cons v c
    flipped = same_back c v.cons

    first : (b : Bool) → has_cons v c ≡ b → is_lower v.operator (at cons_cmp index v.cons) ≡ true
        → cond b (Some v.operator) (at cons_cmp index c) ≡ cond b (Some (lower_of v.operator (operator_by_cons es c))) (operator_by_cons es c)
    first true h l = ap Some (sym (ap (lower_of v.operator) (here h) ∙ lower-if v.operator (at cons_cmp index v.cons) l))
    first false h l = i c

    second : (b : Bool) → has_cons v c ≡ b → is_lower v.operator (at cons_cmp index v.cons) ≡ false
        → at cons_cmp index c ≡ cond b (Some (lower_of v.operator (operator_by_cons es c))) (operator_by_cons es c)
    second true h l = i c ∙ here h ∙ lower-not v.operator (at cons_cmp index v.cons) l ∙ ap (λ x. Some (lower_of v.operator x)) (sym (here h))
    second false h l = i c

    by : (b : Bool) → is_lower v.operator (at cons_cmp index v.cons) ≡ b
        → at cons_cmp (cond b (with cons_cmp index v.cons v.operator) index) c ≡ cond (has_cons v c) (Some (lower_of v.operator (operator_by_cons es c))) (operator_by_cons es c)
    by true l = at-put cons_cmp cons_total index v.cons c v.operator ∙ ap (λ b. cond b (Some v.operator) (at cons_cmp index c)) flipped ∙ first (has_cons v c) refl l
    by false l = second (has_cons v c) refl l

-- ---- a validator that leaves

others-stay : (v : Validator) (c : List ℕ) (es : Validators) → has_cons v c ≡ false → at addr_cmp es v.operator ≡ Some v → operator_by_cons (without addr_cmp es v.operator) c ≡ operator_by_cons es c
others-stay v c [] h f = refl
others-stay v c (e ∷ es) h f = by (same_addr v.operator e.0) f (λ g. others-stay v c es h g)
  where
    by : (b : Bool) → cond b (Some e.1) (at addr_cmp es v.operator) ≡ Some v → (at addr_cmp es v.operator ≡ Some v → operator_by_cons (without addr_cmp es v.operator) c ≡ operator_by_cons es c)
        → operator_by_cons (cond b es (e ∷ without addr_cmp es v.operator)) c ≡ cond (has_cons e.1 c) (Some e.0) (operator_by_cons es c)
    by true g later = let one : e.1 ≡ v = cc in sym (ap (λ b. cond b (Some e.0) (operator_by_cons es c)) (ap (λ x. has_cons x c) one ∙ h))
    by false g later = ap (cond (has_cons e.1 c) (Some e.0)) (later g)

-- the index tells the first operators once a validator and its consensus address are gone
pub index-left : (v : Validator) (es : Validators) (index : Operators) → IsStrictlySortedBy cons_cmp (keys_of index) → at addr_cmp es v.operator ≡ Some v
    → operator_by_cons (without addr_cmp es v.operator) v.cons ≡ None → IsIndex es index → IsIndex (without addr_cmp es v.operator) (without cons_cmp index v.cons)
index-left v es index s f alone i c = at-taken cons_cmp cons_total index v.cons c s ∙ by (has_cons v c) refl
  where
    by : (b : Bool) → has_cons v c ≡ b → cond (same_addr c v.cons) None (at cons_cmp index c) ≡ operator_by_cons (without addr_cmp es v.operator) c
    by true h = ap (λ b. cond b None (at cons_cmp index c)) (same_back c v.cons ∙ h) ∙ sym (ap (operator_by_cons (without addr_cmp es v.operator)) (sym (same_is v.cons c h)) ∙ alone)
    by false h = ap (λ b. cond b None (at cons_cmp index c)) (same_back c v.cons ∙ h) ∙ i c ∙ sym (others-stay v c es h f)

-- ---- who has a consensus address

-- the validator of the operator that is found has it
pub found_by_cons : (es : Validators) (c o : List ℕ) → IsStrictlySortedBy addr_cmp (keys_of es) → operator_by_cons es c ≡ Some o → (v : Validator) × ((at addr_cmp es o ≡ Some v) × (v.cons ≡ c))
unfolding IsStrictlySortedBy
found_by_cons [] c o s f = absurd cc
found_by_cons (e ∷ es) c o s f = by (has_cons e.1 c) refl f (λ g. found_by_cons es c o s.1 g)
  where
    by : (b : Bool) → has_cons e.1 c ≡ b → cond b (Some e.0) (operator_by_cons es c) ≡ Some o → (operator_by_cons es c ≡ Some o → (v : Validator) × ((at addr_cmp es o ≡ Some v) × (v.cons ≡ c)))
        → (v : Validator) × ((cond (same_addr o e.0) (Some e.1) (at addr_cmp es o) ≡ Some v) × (v.cons ≡ c))
    by true h g later = let one : e.0 ≡ o = cc in (e.1, (ap (λ b. cond b (Some e.1) (at addr_cmp es o)) (ap (λ x. same_addr x e.0) (sym one) ∙ same_itself e.0), same_is e.1.cons c h))
    by false h g later =
        let r = later g in
        let above : addr_cmp e.0 o ≡ Less = of_all (λ y. addr_cmp e.0 y ≡ Less) es c o s.0 g in
        (r.0, (ap (λ b. cond b (Some e.1) (at addr_cmp es o)) (not_below o e.0 above) ∙ r.1.0, r.1.1))

-- a validator that stands has its consensus address found
pub nobody_has : (es : Validators) (c o : List ℕ) (v : Validator) → find (λ x. has_cons x c) (values_of es) ≡ None → at addr_cmp es o ≡ Some v → v.cons ≡ c → ⊥
nobody_has [] c o v f e g = cc
nobody_has (x ∷ es) c o v f e g = by (has_cons x.1 c) refl (same_addr o x.0) f e (λ p q. nobody_has es c o v p q g)
  where
    by : (b : Bool) → has_cons x.1 c ≡ b → (d : Bool) → cond b (Some x.1) (find (λ y. has_cons y c) (values_of es)) ≡ None → cond d (Some x.1) (at addr_cmp es o) ≡ Some v
        → (find (λ y. has_cons y c) (values_of es) ≡ None → at addr_cmp es o ≡ Some v → ⊥) → ⊥
    by true h d p q later = cc
    by false h true p q later =
        let one : x.1 ≡ v = cc in
        let has : has_cons x.1 c ≡ true = ap (λ y. has_cons y c) one ∙ ap (λ y. is_eq (cons_cmp y c)) g ∙ same_itself c in
        let f2 : true ≡ false = sym has ∙ h in
        cc
    by false h false p q later = later p q

-- where each consensus address stands once, no other validator has this one's
pub alone_without : (es : Validators) (v : Validator) → IsStrictlySortedBy addr_cmp (keys_of es) → at addr_cmp es v.operator ≡ Some v
    → ((o : List ℕ) (x : Validator) → at addr_cmp es o ≡ Some x → x.cons ≡ v.cons → o ≡ v.operator) → operator_by_cons (without addr_cmp es v.operator) v.cons ≡ None
alone_without es v s f one = by (operator_by_cons (without addr_cmp es v.operator) v.cons) refl
  where
    taken : (b : Bool) (o : List ℕ) (x : Validator) (r : Option Validator) → cond b None r ≡ Some x → (b ≡ false) × (r ≡ Some x)
    taken true o x r e = absurd cc
    taken false o x r e = (refl, e)

    by : (r : Option (List ℕ)) → operator_by_cons (without addr_cmp es v.operator) v.cons ≡ r → r ≡ None
    by None e = refl
    by (Some o) e =
        let found = found_by_cons (without addr_cmp es v.operator) v.cons o (ascend-taken addr_cmp (is_at (addr_cmp v.operator)) es s) e in
        let old = taken (same_addr o v.operator) o found.0 (at addr_cmp es o) (sym (at-taken addr_cmp addr_total es v.operator o s) ∙ found.1.0) in
        let same : o ≡ v.operator = one o found.0 old.1 found.1.1 in
        let yes : same_addr o v.operator ≡ true = ap (λ y. same_addr y v.operator) same ∙ same_itself v.operator in
        let f2 : true ≡ false = sym yes ∙ old.0 in
        absurd cc
