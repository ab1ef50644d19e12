-- Entries by address and by pairs of addresses, and the history of one validator.
use Rattle.std.proofs.Common.{◌≡◌, ℕ, Bool, true, false, cond, zero, suc, List, [], ◌∷◌, ◌++◌, ◌<◌, ◌≤◌, length, map, filter, refl, arith, sym, ap, subst, ◌∙◌, Some, slice_get, insert, remove, Ordering, Less, Equal, Greater, is_eq}
use Rattle.std.specs.{List.AllByRecursion, Map.{lookup, remove_entry}, BTreeMap.{insert_entry, is_at}}
use Rattle.std.{specs.Ordering.{match_ordering, ordering_then}, proofs.lemmas.Map.Text.is_eq-slice_cmp}
use Rattle.std.proofs.lemmas.{Slice.Eq.bytes_eq-Decides, Cmp.nat_list_cmp_total}
use Rattle.base_types.{proofs.MapLemmas.at-put, specs.Orders.addr_cmp}
use Rattle.base_roles.specs.{Log.{Log, LogEntry}, Orders.{pair_cmp, same_addr}}
use Rattle.rule_modules.specs.Ideal.{behind, history_of}
use Rattle.law_rewards.proofs.{Lists.insert_first, Following.own_addr}

-- one address
pub addr_is : (a b : List ℕ) → same_addr a b ≡ true → a ≡ b
addr_is a b h = (bytes_eq-Decides a b).0 (sym (is_eq-slice_cmp a b) ∙ h)

both_equal : (r s : Ordering) → is_eq (ordering_then r s) ≡ true → (is_eq r ≡ true) × (is_eq s ≡ true)
both_equal Equal s h = (refl, h)
both_equal Less s h = absurd cc
both_equal Greater s h = absurd cc

pub pair_is : (x y : List ℕ × List ℕ) → is_at (pair_cmp x) y ≡ true → (x.0 ≡ y.0) × (x.1 ≡ y.1)
pair_is x y h = let p : (is_eq (addr_cmp x.0 y.0) ≡ true) × (is_eq (addr_cmp x.1 y.1) ≡ true) = both_equal (addr_cmp x.0 y.0) (addr_cmp x.1 y.1) h in
    (addr_is x.0 y.0 p.0, addr_is x.1 y.1 p.1)

-- ---- what stands at a key after an entry was put there or elsewhere

pub put_there : {X : Type 0} (k : List ℕ) (v : X) (es : List (List ℕ × X)) → lookup (is_at (addr_cmp k)) (insert_entry addr_cmp es k v) ≡ Some v
put_there k v es = at-put addr_cmp nat_list_cmp_total es k k v ∙ ap (λ b. cond b (Some v) (lookup (is_at (addr_cmp k)) es)) (own_addr k)

pub put_elsewhere : {X : Type 0} (k q : List ℕ) (v : X) (es : List (List ℕ × X)) → same_addr q k ≡ false → lookup (is_at (addr_cmp q)) (insert_entry addr_cmp es k v) ≡ lookup (is_at (addr_cmp q)) es
put_elsewhere k q v es apart = at-put addr_cmp nat_list_cmp_total es k q v ∙ ap (λ b. cond b (Some v) (lookup (is_at (addr_cmp q)) es)) apart

-- what holds of each entry that passes holds of one that does
pub one_passes : {E S : Type 0} (P : S → Type 0) (f : E → S) (test : E → Bool) (i : ℕ) (es : List E) (e : E) → slice_get es i ≡ Some e → test e ≡ true
    → AllByRecursion P (map f (filter test es)) → P (f e)
one_passes P f test i [] e is pass each = absurd cc
one_passes P f test zero (x ∷ es) e is pass each =
    let same : x ≡ e = cc in
    let there : test x ≡ true = ap test same ∙ pass in
    let front : AllByRecursion P (map f (cond true (x ∷ filter test es) (filter test es))) = subst (λ b. AllByRecursion P (map f (cond b (x ∷ filter test es) (filter test es)))) there each in
    subst (λ y. P (f y)) same front.0
one_passes P f test (suc i) (x ∷ es) e is pass each = one_passes P f test i es e is pass (behind_it (test x) each)
  where
    behind_it : (b : Bool) → AllByRecursion P (map f (cond b (x ∷ filter test es) (filter test es))) → AllByRecursion P (map f (filter test es))
    behind_it true a = a.1
    behind_it false a = a

-- the history with one more entry of its own
pub history_behind : (operator : List ℕ) (l : Log) (e : LogEntry) (es : List LogEntry) → history_of operator (l ++ (operator, e) ∷ []) es ≡ behind (history_of operator l es) e
history_behind operator [] e es = ap (λ b. cond b (behind es e) es) (own_addr operator)
history_behind operator (x ∷ l) e es = history_behind operator l e (cond (same_addr x.0 operator) (behind es x.1) es)

-- an entry of another validator
pub history_elsewhere : (operator other : List ℕ) (l : Log) (e : LogEntry) (es : List LogEntry) → same_addr other operator ≡ false → history_of operator (l ++ (other, e) ∷ []) es ≡ history_of operator l es
history_elsewhere operator other [] e es apart = ap (λ b. cond b (behind es e) es) apart
history_elsewhere operator other (x ∷ l) e es apart = history_elsewhere operator other l e (cond (same_addr x.0 operator) (behind es x.1) es) apart

-- ---- lists of which one entry goes

-- one item is gone, from a place
pub record IsGoneFrom {S : Type 0} (before after : List S) (gone : S) : Type 0 where
  pub place : ℕ
  pub within : place < length before
  pub was : slice_get before place ≡ Some gone
  pub is : after ≡ remove before place

module _ {K X S : Type 0} (passes : K → Bool) (test : K × X → Bool) (f : K × X → S) (g : X → S) where
  gone_behind : (t : Bool) (e : K × X) (es rest : List (K × X)) (x : X) → IsGoneFrom (map f es) (map f rest) (g x) → IsGoneFrom (map f (cond t (e ∷ es) es)) (map f (cond t (e ∷ rest) rest)) (g x)
  gone_behind true e es rest x h = record { place = suc h.place; within = omega (arith, h.within); was = h.was; is = ap (λ ys. f e ∷ ys) h.is }
  gone_behind false e es rest x h = h

  gone_first : (t : Bool) (e : K × X) (es : List (K × X)) (x : X) → t ≡ true → f e ≡ g x → IsGoneFrom (map f (cond t (e ∷ es) es)) (map f es) (g x)
  gone_first true e es x p q = record { place = 0; within = omega arith; was = ap Some q; is = refl }
  gone_first false e es x p q = absurd cc

  gone_step : (b : Bool) (e : K × X) (es : List (K × X)) (x : X) → passes e.0 ≡ b → cond b (Some e.1) (lookup passes es) ≡ Some x
      → ((d : K × X) → passes d.0 ≡ true → (test d ≡ true) × ((y : X) → f (d.0, y) ≡ g y))
      → (lookup passes es ≡ Some x → IsGoneFrom (map f (filter test es)) (map f (filter test (remove_entry passes es))) (g x))
      → IsGoneFrom (map f (filter test (e ∷ es))) (map f (filter test (cond b es (e ∷ remove_entry passes es)))) (g x)
  gone_step true e es x is found own later =
      let same : e.1 ≡ x = cc in
      gone_first (test e) e (filter test es) x (own e is).0 ((own e is).1 e.1 ∙ ap g same)
  gone_step false e es x is found own later = gone_behind (test e) e (filter test es) (filter test (remove_entry passes es)) x (later found)

  -- the entry that a look-up finds is gone from the list of those that pass another test
  pub gone_from : (es : List (K × X)) (x : X) → lookup passes es ≡ Some x → ((d : K × X) → passes d.0 ≡ true → (test d ≡ true) × ((y : X) → f (d.0, y) ≡ g y))
      → IsGoneFrom (map f (filter test es)) (map f (filter test (remove_entry passes es))) (g x)
  gone_from [] x found own = absurd cc
  gone_from (e ∷ es) x found own = gone_step (passes e.0) e es x refl found own (λ h. gone_from es x h own)

module _ {K X : Type 0} (passes : K → Bool) (test : K × X → Bool) where
  kept_first : (t : Bool) (e : K × X) (es : List (K × X)) → t ≡ false → es ≡ cond t (e ∷ es) es
  kept_first true e es h = absurd cc
  kept_first false e es h = refl

  kept_step : (b : Bool) (e : K × X) (es : List (K × X)) → passes e.0 ≡ b → ((d : K × X) → passes d.0 ≡ true → test d ≡ false) → filter test (remove_entry passes es) ≡ filter test es
      → filter test (cond b es (e ∷ remove_entry passes es)) ≡ filter test (e ∷ es)
  kept_step true e es is other later = kept_first (test e) e (filter test es) (other e is)
  kept_step false e es is other later = ap (λ ys. cond (test e) (e ∷ ys) ys) later

  -- what passes no other test goes from no list of those that do
  pub kept_by : (es : List (K × X)) → ((d : K × X) → passes d.0 ≡ true → test d ≡ false) → filter test (remove_entry passes es) ≡ filter test es
  kept_by [] other = refl
  kept_by (e ∷ es) other = kept_step (passes e.0) e es refl other (kept_by es other)

-- ---- lists into which an entry was put

-- one item stands at a place where none of it stood
pub record IsPutInto {S : Type 0} (before after : List S) (new : S) : Type 0 where
  pub place : ℕ
  pub within : place ≤ length before
  pub is : after ≡ insert before place new

module _ {K X S : Type 0} (cmp : K → K → Ordering) (test : K × X → Bool) (f : K × X → S) (P : S → Type 0) (k : K) (x : X) where
  into_first : (t : Bool) (es : List (K × X)) → t ≡ true → IsPutInto (map f es) (map f (cond t ((k, x) ∷ es) es)) (f (k, x))
  into_first true es h = record { place = 0; within = omega arith; is = sym (insert_first (f (k, x)) (map f es)) }
  into_first false es h = absurd cc

  into_behind : (t : Bool) (e : K × X) (es rest : List (K × X)) → IsPutInto (map f es) (map f rest) (f (k, x)) → IsPutInto (map f (cond t (e ∷ es) es)) (map f (cond t (e ∷ rest) rest)) (f (k, x))
  into_behind true e es rest h = record { place = suc h.place; within = omega (arith, h.within); is = ap (λ ys. f e ∷ ys) h.is }
  into_behind false e es rest h = h

  rest_of : (t : Bool) (e : K × X) (es : List (K × X)) → AllByRecursion P (map f (cond t (e ∷ es) es)) → AllByRecursion P (map f es)
  rest_of true e es a = a.1
  rest_of false e es a = a

  first_of : (t : Bool) (e : K × X) (es : List (K × X)) → t ≡ true → AllByRecursion P (map f (cond t (e ∷ es) es)) → P (f e)
  first_of true e es h a = a.0
  first_of false e es h a = absurd cc

  into_step : (r : Ordering) (e : K × X) (es : List (K × X)) → cmp k e.0 ≡ r → test (k, x) ≡ true → ((d : K × X) → cmp k d.0 ≡ Equal → (test d ≡ true) × (P (f d) → ⊥))
      → AllByRecursion P (map f (filter test (e ∷ es))) → (AllByRecursion P (map f (filter test es)) → IsPutInto (map f (filter test es)) (map f (filter test (insert_entry cmp es k x))) (f (k, x)))
      → IsPutInto (map f (filter test (e ∷ es))) (map f (filter test (match_ordering r ((k, x) ∷ e ∷ es) ((e.0, x) ∷ es) (e ∷ insert_entry cmp es k x)))) (f (k, x))
  into_step Less e es is own other each later = into_first (test (k, x)) (filter test (e ∷ es)) own
  into_step Equal e es is own other each later = absurd ((other e is).1 (first_of (test e) e (filter test es) (other e is).0 each))
  into_step Greater e es is own other each later = into_behind (test e) e (filter test es) (filter test (insert_entry cmp es k x)) (later (rest_of (test e) e (filter test es) each))

  -- an entry that is put, and passes, joins the list of those that do
  pub put_into : (es : List (K × X)) → test (k, x) ≡ true → ((d : K × X) → cmp k d.0 ≡ Equal → (test d ≡ true) × (P (f d) → ⊥)) → AllByRecursion P (map f (filter test es))
      → IsPutInto (map f (filter test es)) (map f (filter test (insert_entry cmp es k x))) (f (k, x))
  put_into [] own other each = into_first (test (k, x)) [] own
  put_into (e ∷ es) own other each = into_step (cmp k e.0) e es refl own other each (λ a. put_into es own other a)

module _ {K X : Type 0} (cmp : K → K → Ordering) (test : K → Bool) (k : K) (x : X) where
  none_more : (t : Bool) (e : K × X) (es : List (K × X)) → t ≡ false → cond t (e ∷ es) es ≡ es
  none_more true e es h = absurd cc
  none_more false e es h = refl

  outside_step : (r : Ordering) (e : K × X) (es : List (K × X)) → cmp k e.0 ≡ r → test k ≡ false → ((d : K) → cmp k d ≡ Equal → test d ≡ false)
      → filter (λ d. test d.0) (insert_entry cmp es k x) ≡ filter (λ d. test d.0) es
      → filter (λ d. test d.0) (match_ordering r ((k, x) ∷ e ∷ es) ((e.0, x) ∷ es) (e ∷ insert_entry cmp es k x)) ≡ filter (λ d. test d.0) (e ∷ es)
  outside_step Less e es is own other later = none_more (test k) (k, x) (filter (λ d. test d.0) (e ∷ es)) own
  outside_step Equal e es is own other later =
      none_more (test e.0) (e.0, x) (filter (λ d. test d.0) es) (other e.0 is) ∙ sym (none_more (test e.0) e (filter (λ d. test d.0) es) (other e.0 is))
  outside_step Greater e es is own other later = ap (λ ys. cond (test e.0) (e ∷ ys) ys) later

  -- an entry that does not pass joins no list of those that do
  pub put_outside : (es : List (K × X)) → test k ≡ false → ((d : K) → cmp k d ≡ Equal → test d ≡ false) → filter (λ d. test d.0) (insert_entry cmp es k x) ≡ filter (λ d. test d.0) es
  put_outside [] own other = none_more (test k) (k, x) [] own
  put_outside (e ∷ es) own other = outside_step (cmp k e.0) e es refl own other (put_outside es own other)
