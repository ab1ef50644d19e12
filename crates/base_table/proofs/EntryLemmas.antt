-- Lists of entries in the order of their keys, told by the entry that stands at each key.
use Rattle.std.proofs.Common.{◌≡◌, Bool, true, false, cond, List, [], ◌∷◌, Option, Some, None, option_map, unwrap_or, refl, sym, ◌∙◌, ap, Ordering, Less, Equal, Greater, is_eq}
use Rattle.std.specs.{Ordering.{match_ordering, ordering_reverse}, Cmp.{IsTotalOrder, alike_right, tied_itself}}
use Rattle.std.specs.List.{AllByRecursion, Sorted.IsStrictlySortedBy}
use Rattle.std.specs.{Map.{keys_of, lookup, lookup_entry, lookup_key, remove_entry}, BTreeMap.{insert_entry, is_at}}
use Rattle.std.proofs.lemmas.Map.Keys.{sorted_head, sorted_tail}
use Rattle.base_types.proofs.MapLemmas.{all-below, equal}
use Rattle.base_table.specs.Restored.{with_entry}

-- the value and the key of the entry that a look-up finds
pub lookup_is : {K X : Type 0} (test : K → Bool) (es : List (K × X)) → lookup test es ≡ option_map (λ e. e.1) (lookup_entry test es)
lookup_is test [] = refl
lookup_is test (e ∷ es) = elim (test e.0) as (λ b. cond b (Some e.1) (lookup test es) ≡ option_map (λ e. e.1) (cond b (Some e) (lookup_entry test es))) [ true ↦ refl | false ↦ lookup_is test es ]

pub lookup_key_is : {K X : Type 0} (test : K → Bool) (es : List (K × X)) → lookup_key test es ≡ option_map (λ e. e.0) (lookup_entry test es)
lookup_key_is test [] = refl
lookup_key_is test (e ∷ es) = elim (test e.0) as (λ b. cond b (Some e.0) (lookup_key test es) ≡ option_map (λ e. e.0) (cond b (Some e) (lookup_entry test es))) [ true ↦ refl | false ↦ lookup_key_is test es ]

-- a test that is repeated: the inner branch is never reached
shadowed : {A : Type 0} (b c : Bool) (x y z : A) → c ≡ b → cond b x z ≡ cond b x (cond c y z)
shadowed true c x y z h = refl
shadowed false c x y z h = sym (ap (λ d. cond d y z) h)

swapped : {A : Type 0} (a b : Bool) (x y z : A) → (a ≡ true → b ≡ true → ⊥) → cond a x (cond b y z) ≡ cond b y (cond a x z)
swapped true true x y z apart = absurd (apart refl refl)
swapped true false x y z apart = refl
swapped false b x y z apart = refl

module _ {K : Type 0} {R : K → K → Ordering} (o : IsTotalOrder R) where
  -- keys that tie are found at the same entries
  pub tied_is_at : (q k : K) → is_at (R q) k ≡ true → (x : K) → is_at (R q) x ≡ is_at (R k) x
  tied_is_at q k t x = ap is_eq (o.congr q k x (equal _ t))

  pub alike_is_at : (q k x : K) → is_at (R k) x ≡ true → is_at (R q) x ≡ is_at (R q) k
  alike_is_at q k x t = sym (ap is_eq (alike_right o k x q (equal _ t)))

  pub tied_entry : {X : Type 0} (q k : K) → is_at (R q) k ≡ true → (es : List (K × X)) → lookup_entry (is_at (R q)) es ≡ lookup_entry (is_at (R k)) es
  tied_entry q k t [] = refl
  tied_entry q k t (e ∷ es) = λ i. cond (tied_is_at q k t e.0 i) (Some e) (tied_entry q k t es i)

  pub tied_lookup : {X : Type 0} (q k : K) → is_at (R q) k ≡ true → (es : List (K × X)) → lookup (is_at (R q)) es ≡ lookup (is_at (R k)) es
  tied_lookup q k t [] = refl
  tied_lookup q k t (e ∷ es) = λ i. cond (tied_is_at q k t e.0 i) (Some e.1) (tied_lookup q k t es i)

  -- a key that ties with two others makes them tie
  joins : (q x y : K) → is_at (R q) x ≡ true → is_at (R q) y ≡ true → R x y ≡ Equal
  joins q x y a b = sym (o.congr q x y (equal _ a)) ∙ equal _ b

  apart_entries : (q k x : K) (r : Ordering) → R k x ≡ r → is_eq r ≡ false → is_at (R q) x ≡ true → is_at (R q) k ≡ true → ⊥
  apart_entries q k x r is differ a b = let e : is_eq Equal ≡ false = ap is_eq (sym (joins q k x b a) ∙ is) ∙ differ in cc

  module _ {X : Type 0} where
    pub entry-with_entry : (q k : K) (v : X) (es : List (K × X)) → lookup_entry (is_at (R q)) (with_entry R k v es) ≡ cond (is_at (R q) k) (Some (k, v)) (lookup_entry (is_at (R q)) es)
    entry-with_entry q k v [] = refl
    entry-with_entry q k v (e ∷ es) =
        elim (R k e.0) as (λ r. R k e.0 ≡ r → lookup_entry (is_at (R q)) (match_ordering r ((k, v) ∷ e ∷ es) ((k, v) ∷ es) (e ∷ with_entry R k v es)) ≡ cond (is_at (R q) k) (Some (k, v)) (cond (is_at (R q) e.0) (Some e) (lookup_entry (is_at (R q)) es))) [
          | Less ↦ λ p. refl
          | Equal ↦ λ p. shadowed (is_at (R q) k) (is_at (R q) e.0) _ _ _ (ap is_eq (sym (alike_right o k e.0 q p)))
          | Greater ↦ λ p. ap (cond (is_at (R q) e.0) (Some e)) (entry-with_entry q k v es) ∙ swapped _ _ _ _ _ (λ a b. apart_entries q k e.0 Greater p refl a b)
        ] refl

    -- an insertion changes no other key's entry
    pub entry-insert_other : (q k : K) (v : X) (es : List (K × X)) → is_at (R q) k ≡ false → lookup_entry (is_at (R q)) (insert_entry R es k v) ≡ lookup_entry (is_at (R q)) es
    entry-insert_other q k v [] other = ap (λ b. cond b (Some (k, v)) None) other
    entry-insert_other q k v (e ∷ es) other =
        elim (R k e.0) as (λ r. R k e.0 ≡ r → lookup_entry (is_at (R q)) (match_ordering r ((k, v) ∷ e ∷ es) ((e.0, v) ∷ es) (e ∷ insert_entry R es k v)) ≡ lookup_entry (is_at (R q)) (e ∷ es)) [
          | Less ↦ λ p. ap (λ b. cond b (Some (k, v)) (lookup_entry (is_at (R q)) (e ∷ es))) other
          | Equal ↦ λ p.
              let here : is_at (R q) e.0 ≡ false = ap is_eq (sym (alike_right o k e.0 q p)) ∙ other in
              ap (λ b. cond b (Some (e.0, v)) (lookup_entry (is_at (R q)) es)) here ∙ sym (ap (λ b. cond b (Some e) (lookup_entry (is_at (R q)) es)) here)
          | Greater ↦ λ p. ap (cond (is_at (R q) e.0) (Some e)) (entry-insert_other q k v es other)
        ] refl

    -- no entry stands at a key below all
    pub entry_below : (q x : K) (es : List (K × X)) → is_at (R q) x ≡ true → AllByRecursion (λ y. R x y ≡ Less) (keys_of es) → lookup_entry (is_at (R q)) es ≡ None
    entry_below q x [] t below = refl
    entry_below q x (e ∷ es) t below = ap (λ r. cond (is_eq r) (Some e) (lookup_entry (is_at (R q)) es)) (o.congr q x e.0 (equal _ t) ∙ below.0) ∙ entry_below q x es t below.1

    pub entry-remove_entry : (q k : K) (es : List (K × X)) → IsStrictlySortedBy R (keys_of es) → lookup_entry (is_at (R q)) (remove_entry (is_at (R k)) es) ≡ cond (is_at (R q) k) None (lookup_entry (is_at (R q)) es)
    entry-remove_entry q k [] sorted = elim (is_at (R q) k) as (λ b. ◌≡◌ {A = Option (K × X)} None (cond b None None)) [ true ↦ refl | false ↦ refl ]
    entry-remove_entry q k (e ∷ es) sorted =
        elim (is_at (R k) e.0) as (λ b. is_at (R k) e.0 ≡ b → lookup_entry (is_at (R q)) (cond b es (e ∷ remove_entry (is_at (R k)) es)) ≡ cond (is_at (R q) k) None (cond (is_at (R q) e.0) (Some e) (lookup_entry (is_at (R q)) es))) [
          | true ↦ λ p.
              let alike : is_at (R q) k ≡ is_at (R q) e.0 = ap is_eq (alike_right o k e.0 q (equal _ p)) in
              removed q e es (sorted_head R e.0 (keys_of es) sorted) ∙ ap (λ b. cond b None (cond (is_at (R q) e.0) (Some e) (lookup_entry (is_at (R q)) es))) (sym alike)
          | false ↦ λ p. ap (cond (is_at (R q) e.0) (Some e)) (entry-remove_entry q k es (sorted_tail R e.0 (keys_of es) sorted))
              ∙ swapped _ _ _ _ _ (λ a b. apart_entries q k e.0 (R k e.0) refl p a b)
        ] refl
      where
        removed : (q : K) (e : K × X) (es : List (K × X)) → AllByRecursion (λ y. R e.0 y ≡ Less) (keys_of es) → lookup_entry (is_at (R q)) es ≡ cond (is_at (R q) e.0) None (cond (is_at (R q) e.0) (Some e) (lookup_entry (is_at (R q)) es))
        removed q e es below = elim (is_at (R q) e.0) as (λ b. is_at (R q) e.0 ≡ b → lookup_entry (is_at (R q)) es ≡ cond b None (cond b (Some e) (lookup_entry (is_at (R q)) es))) [
          | true ↦ λ p. entry_below q e.0 es p below
          | false ↦ λ p. refl
        ] refl

    all_with : (P : K → Type 0) (k : K) (v : X) (es : List (K × X)) → P k → AllByRecursion P (keys_of es) → AllByRecursion P (keys_of (with_entry R k v es))
    all_with P k v [] p h = (p, tt)
    all_with P k v (e ∷ es) p h = elim (R k e.0) as (λ r. AllByRecursion P (keys_of (match_ordering r ((k, v) ∷ e ∷ es) ((k, v) ∷ es) (e ∷ with_entry R k v es)))) [
      | Less ↦ (p, h)
      | Equal ↦ (p, h.1)
      | Greater ↦ (h.0, all_with P k v es p h.1)
    ]

    pub below_tied : (x y : K) (es : List (K × X)) → R x y ≡ Equal → AllByRecursion (λ z. R y z ≡ Less) (keys_of es) → AllByRecursion (λ z. R x z ≡ Less) (keys_of es)
    below_tied x y [] p h = tt
    below_tied x y (e ∷ es) p h = (o.congr x y e.0 p ∙ h.0, below_tied x y es p h.1)

    pub sorted-cons : (e : K × X) (es : List (K × X)) → AllByRecursion (λ y. R e.0 y ≡ Less) (keys_of es) → IsStrictlySortedBy R (keys_of es) → IsStrictlySortedBy R (keys_of (e ∷ es))
    unfolding IsStrictlySortedBy
    sorted-cons e es below sorted = (below, sorted)

    pub sorted-with_entry : (k : K) (v : X) (es : List (K × X)) → IsStrictlySortedBy R (keys_of es) → IsStrictlySortedBy R (keys_of (with_entry R k v es))
    sorted-with_entry k v [] h = sorted-cons (k, v) [] tt h
    sorted-with_entry k v (e ∷ es) h =
        let below = sorted_head R e.0 (keys_of es) h in
        let rest = sorted_tail R e.0 (keys_of es) h in
        elim (R k e.0) as (λ r. R k e.0 ≡ r → IsStrictlySortedBy R (keys_of (match_ordering r ((k, v) ∷ e ∷ es) ((k, v) ∷ es) (e ∷ with_entry R k v es)))) [
          | Less ↦ λ p. sorted-cons (k, v) (e ∷ es) (p, all-below R o k e.0 (keys_of es) p below) h
          | Equal ↦ λ p. sorted-cons (k, v) es (below_tied k e.0 es p below) rest
          | Greater ↦ λ p. sorted-cons e (with_entry R k v es) (all_with (λ y. R e.0 y ≡ Less) k v es (o.antisymm e.0 k ∙ ap ordering_reverse p) below) (sorted-with_entry k v es rest)
        ] refl

    entry_first : (e : K × X) (es : List (K × X)) → lookup_entry (is_at (R e.0)) (e ∷ es) ≡ Some e
    entry_first e es = ap (λ r. cond (is_eq r) (Some e) (lookup_entry (is_at (R e.0)) es)) (tied_itself o e.0)

    -- a key below each key of a list in order is not found in it
    missed : (e f : K × X) (es fs : List (K × X)) → R e.0 f.0 ≡ Less → AllByRecursion (λ y. R f.0 y ≡ Less) (keys_of fs) → lookup_entry (is_at (R e.0)) (e ∷ es) ≡ lookup_entry (is_at (R e.0)) (f ∷ fs) → ⊥
    missed e f es fs p below is =
        let found : Some e ≡ None = sym (entry_first e es) ∙ is ∙ entry_below e.0 e.0 (f ∷ fs) (ap is_eq (tied_itself o e.0)) (p, all-below R o e.0 f.0 (keys_of fs) p below) in cc

    tails : (q : K) (e : K × X) (es fs : List (K × X)) → AllByRecursion (λ y. R e.0 y ≡ Less) (keys_of es) → AllByRecursion (λ y. R e.0 y ≡ Less) (keys_of fs) → lookup_entry (is_at (R q)) (e ∷ es) ≡ lookup_entry (is_at (R q)) (e ∷ fs) → lookup_entry (is_at (R q)) es ≡ lookup_entry (is_at (R q)) fs
    tails q e es fs g h =
        elim (is_at (R q) e.0) as (λ b. is_at (R q) e.0 ≡ b → cond b (Some e) (lookup_entry (is_at (R q)) es) ≡ cond b (Some e) (lookup_entry (is_at (R q)) fs) → lookup_entry (is_at (R q)) es ≡ lookup_entry (is_at (R q)) fs) [
          | true ↦ λ p is. entry_below q e.0 es p g ∙ sym (entry_below q e.0 fs p h)
          | false ↦ λ p is. is
        ] refl

    -- lists in order with the same entry at each key are one list
    pub same_entries : (es fs : List (K × X)) → IsStrictlySortedBy R (keys_of es) → IsStrictlySortedBy R (keys_of fs) → ((q : K) → lookup_entry (is_at (R q)) es ≡ lookup_entry (is_at (R q)) fs) → es ≡ fs
    same_entries [] [] g h is = refl
    same_entries [] (f ∷ fs) g h is = let found : None ≡ Some f = is f.0 ∙ entry_first f fs in cc
    same_entries (e ∷ es) [] g h is = let found : Some e ≡ None = sym (entry_first e es) ∙ is e.0 in cc
    same_entries (e ∷ es) (f ∷ fs) g h is =
        let below_e = sorted_head R e.0 (keys_of es) g in
        let below_f = sorted_head R f.0 (keys_of fs) h in
        elim (R e.0 f.0) as (λ r. R e.0 f.0 ≡ r → e ∷ es ≡ f ∷ fs) [
          | Less ↦ λ p. absurd (missed e f es fs p below_f (is e.0))
          | Greater ↦ λ p. absurd (missed f e fs es (o.antisymm f.0 e.0 ∙ ap ordering_reverse p) below_e (sym (is f.0)))
          | Equal ↦ λ p.
              let found : Some e ≡ Some f = sym (entry_first e es) ∙ is e.0 ∙ ap (λ r. cond (is_eq r) (Some f) (lookup_entry (is_at (R e.0)) fs)) p in
              let first : e ≡ f = ap (λ x. unwrap_or x e) found in
              let rest = same_entries es fs (sorted_tail R e.0 (keys_of es) g) (sorted_tail R f.0 (keys_of fs) h)
              (λ q. tails q e es fs below_e (below_tied e.0 f.0 fs p below_f) (is q ∙ ap (λ x. lookup_entry (is_at (R q)) (x ∷ fs)) (sym first))) in
              λ i. first i ∷ rest i
        ] refl
