-- Entries as items, and the changes of touched keys.
use Rattle.std.proofs.Common.{◌≡◌, ◌∙◌, Bool, true, false, cond, List, [], ◌∷◌, Option, Some, None, refl, sym, ap, subst, inl, inr, ◌≢◌, ◌⊎◌, is_some, Ordering}
use Rattle.std.{proofs.lemmas.Map.Keys.IsDistinct-from_sorted, specs.{Ordering.eq_by_cmp, Cmp.IsTotalOrder}}
use Rattle.std.specs.{List.{AllByRecursion, IsDistinct, cons_option, Sorted.IsStrictlySortedBy}, Map.keys_of}
use Rattle.std.specs.BTreeMap.{insert_entry, is_at}
use Rattle.base_table.specs.Tabled.{Tabled, TellsSettled, value_at}
use Rattle.base_types.proofs.MapLemmas.{ascend-put, at-put}
use Rattle.base_roles.specs.{declared.items.Item.Item, Items.{key_of, IsOnce, IsAdded, AreChanges}}
use Rattle.base_records.specs.{Items.{rows_of, change_of, changes_of, AreFit, IsRowed}, Kinds.AreOf}
use Rattle.base_records.proofs.KindLemmas.{added, all-changes}
use Rattle.base_records.proofs.MemberLemmas.{Member, Once, member, contained, once, entry_of, value_of, same_key, at_itself, other_key}

some_same : {A : Type 0} (a b : A) → Some a ≡ Some b → a ≡ b
some_same a b e = cc

abbrev row_change : Item → Bool → Item × Bool
row_change i b = (i, b)

none_some : {A : Type 0} (a : A) → None ≡ Some a → ⊥
none_some a e = absurd cc

module _ {K V : Type 0} (cmp : K → K → Ordering) (o : IsTotalOrder cmp)
    (Fits : K → V → Type 0) (of : K → V → Item) (gone : K → Item) (same : V → V → Bool) (entry : Item → Option (K × V)) (rowed : IsRowed cmp Fits of gone same entry) where
  -- items of two entries are told apart
  apart : (k q : K) (n m : V) → Fits k n → Fits q m → of k n ≡ of q m → (k ≡ q) × (n ≡ m)
  apart k q n m f g e =
      let one : (k, n) ≡ (q, m) = some_same (k, n) (q, m) (sym (rowed.read k n f) ∙ ap entry e ∙ rowed.read q m g) in
      (ap (λ x. x.0) one, ap (λ x. x.1) one)

  -- each value fits its key
  abbrev pub AllFit : List (K × V) → Type 0
  AllFit es = (k : K) (n : V) → Member es (k, n) → Fits k n

  pub all-fit : (es : List (K × V)) → AreFit Fits es → AllFit es
  all-fit es fits k n m = fits k n (contained es (k, n) m)

  fit_at : (es : List (K × V)) → AllFit es → (k : K) (n : V) → value_at cmp es k ≡ Some n → Fits k n
  fit_at es fits k n e = fits k n (entry_of cmp o rowed.exact es k n e)

  -- ---- rows

  -- an item of these entries
  abbrev pub IsRow : List (K × V) → Item → Type 0
  IsRow es i = (k : K) × (n : V) × (i ≡ of k n) × (value_at cmp es k ≡ Some n)

  pub row_entry : (es : List (K × V)) (i : Item) → Member (rows_of of es) i → (k : K) × (n : V) × (i ≡ of k n) × Member es (k, n)
  row_entry [] i m = absurd m
  row_entry (e ∷ es) i (inl p) = (e.0, e.1, sym p, inl refl)
  row_entry (e ∷ es) i (inr m) = let r = row_entry es i m in (r.0, r.1, r.2, inr r.3)

  entry_row : (es : List (K × V)) (k : K) (n : V) → Member es (k, n) → Member (rows_of of es) (of k n)
  entry_row [] k n m = absurd m
  entry_row (e ∷ es) k n (inl p) = inl (ap (λ x. of x.0 x.1) p)
  entry_row (e ∷ es) k n (inr m) = inr (entry_row es k n m)

  pub row-member : (es : List (K × V)) (i : Item) → IsRow es i → Member (rows_of of es) i
  row-member es i r = subst (Member (rows_of of es)) (sym r.2) (entry_row es r.0 r.1 (entry_of cmp o rowed.exact es r.0 r.1 r.3))

  module _ (es : List (K × V)) (s : IsStrictlySortedBy cmp (keys_of es)) where
    pub member-row : (i : Item) → Member (rows_of of es) i → IsRow es i
    member-row i m = let r = row_entry es i m in (r.0, r.1, r.2, value_of cmp o rowed.exact es r.0 r.1 (IsDistinct-from_sorted cmp (keys_of es) s) r.3)

    pub value-row : AllFit es → (k : K) (n : V) → Fits k n → Member (rows_of of es) (of k n) → value_at cmp es k ≡ Some n
    value-row fits k n fit m =
        let r = member-row (of k n) m in
        let parts = apart k r.0 n r.1 fit (fit_at es fits r.0 r.1 r.3) r.2 in
        ap (value_at cmp es) parts.0 ∙ r.3 ∙ ap Some (sym parts.1)

    -- ---- one more row

    module _ (fits : AllFit es) (k : K) (v : V) (fit : Fits k v) where
      key_apart : (q : K) (n : V) → Fits q n → (q ≡ k → ⊥) → key_of (of q n) ≢ key_of (of k v)
      key_apart q n f ne e = ne (rowed.alone q k (sym (rowed.keyed q n f) ∙ e ∙ rowed.keyed k v fit))

      pub added-only : (i : Item) → Member (rows_of of (insert_entry cmp es k v)) i → IsStrictlySortedBy cmp (keys_of (insert_entry cmp es k v)) → (i ≡ of k v) ⊎ (Member (rows_of of es) i × (key_of i ≢ key_of (of k v)))
      added-only i m s2 =
          let r = row_entry (insert_entry cmp es k v) i m in
          let here : value_at cmp (insert_entry cmp es k v) r.0 ≡ Some r.1 = value_of cmp o rowed.exact (insert_entry cmp es k v) r.0 r.1 (IsDistinct-from_sorted cmp (keys_of (insert_entry cmp es k v)) s2) r.3 in
          by r.0 r.1 r.2 (is_at (cmp r.0) k) refl (sym (at-put cmp o es k r.0 v) ∙ here)
        where
          by : (q : K) (n : V) → i ≡ of q n → (b : Bool) → is_at (cmp q) k ≡ b → cond b (Some v) (value_at cmp es q) ≡ Some n → (i ≡ of k v) ⊎ (Member (rows_of of es) i × (key_of i ≢ key_of (of k v)))
          by q n p true h e = inl (p ∙ (λ j. of (same_key cmp o rowed.exact q k h j) (sym (some_same v n e) j)))
          by q n p false h e = inr (row-member es i (q, n, p, e), λ f. key_apart q n (fit_at es fits q n e) (other_key cmp o rowed.exact q k h) (ap key_of (sym p) ∙ f))

      pub added-all : (i : Item) → (i ≡ of k v) ⊎ (Member (rows_of of es) i × (key_of i ≢ key_of (of k v))) → Member (rows_of of (insert_entry cmp es k v)) i
      added-all i (inl e) = row-member (insert_entry cmp es k v) i (k, v, e, at-put cmp o es k k v ∙ ap (λ b. cond b (Some v) (value_at cmp es k)) (at_itself cmp o rowed.exact k))
      added-all i (inr m) = let r = member-row i m.0 in by r.0 r.1 r.2 r.3 (is_at (cmp r.0) k) refl
        where
          by : (q : K) (n : V) → i ≡ of q n → value_at cmp es q ≡ Some n → (b : Bool) → is_at (cmp q) k ≡ b → Member (rows_of of (insert_entry cmp es k v)) i
          by q n p e true h = absurd (m.1 (ap key_of p ∙ rowed.keyed q n (fit_at es fits q n e) ∙ ap (λ x. gone x) (same_key cmp o rowed.exact q k h) ∙ sym (rowed.keyed k v fit)))
          by q n p e false h = row-member (insert_entry cmp es k v) i (q, n, p, at-put cmp o es k q v ∙ ap (λ b. cond b (Some v) (value_at cmp es q)) h ∙ e)

  -- ---- rows stand once

  no_row : (es : List (K × V)) (k : K) (n : V) → Fits k n → AllFit es → AllByRecursion (λ y. eq_by_cmp cmp k y ≡ false) (keys_of es) → Member (rows_of of es) (of k n) → ⊥
  no_row [] k n fit fits h m = m
  no_row (e ∷ es) k n fit fits h (inl p) = other_key cmp o rowed.exact k e.0 h.0 (sym (apart e.0 k e.1 n (fits e.0 e.1 (inl refl)) fit p).0)
  no_row (e ∷ es) k n fit fits h (inr m) = no_row es k n fit (λ q x y. fits q x (inr y)) h.1 m

  pub rows-once : (es : List (K × V)) → AllFit es → IsDistinct (eq_by_cmp cmp) (keys_of es) → Once (rows_of of es)
  unfolding IsDistinct
  rows-once [] fits d = tt
  rows-once (e ∷ es) fits d = (no_row es e.0 e.1 (fits e.0 e.1 (inl refl)) (λ q x y. fits q x (inr y)) d.0, rows-once es (λ q x y. fits q x (inr y)) d.1)

  -- ---- changes

  abbrev change : K → V → Bool → Item × Bool
  change k n b = (of k n, b)

  change_entry : (es : List (K × V)) (ts : List (K × Option V)) (p : Item × Bool) → Member (changes_of cmp of gone same ts es) p
      → (k : K) × (was : Option V) × Member ts (k, was) × (change_of of gone same k was (value_at cmp es k) ≡ Some p)
  change_entry es [] p m = absurd m
  change_entry es (t ∷ ts) p m = by (change_of of gone same t.0 t.1 (value_at cmp es t.0)) refl m (λ n. let r = change_entry es ts p n in (r.0, r.1, inr r.2, r.3))
    where
      by : (c : Option (Item × Bool)) → change_of of gone same t.0 t.1 (value_at cmp es t.0) ≡ c → Member (cons_option c (changes_of cmp of gone same ts es)) p
          → (Member (changes_of cmp of gone same ts es) p → (k : K) × (was : Option V) × Member (t ∷ ts) (k, was) × (change_of of gone same k was (value_at cmp es k) ≡ Some p))
          → (k : K) × (was : Option V) × Member (t ∷ ts) (k, was) × (change_of of gone same k was (value_at cmp es k) ≡ Some p)
      by None h n more = more n
      by (Some c) h (inl e) more = (t.0, t.1, inl refl, h ∙ ap Some e)
      by (Some c) h (inr n) more = more n

  entry_change : (es : List (K × V)) (ts : List (K × Option V)) (p : Item × Bool) (k : K) (was : Option V) → Member ts (k, was) → change_of of gone same k was (value_at cmp es k) ≡ Some p → Member (changes_of cmp of gone same ts es) p
  entry_change es [] p k was m e = absurd m
  entry_change es (t ∷ ts) p k was (inl h) e =
      let is : change_of of gone same t.0 t.1 (value_at cmp es t.0) ≡ Some p = ap (λ u. change_of of gone same u.0 u.1 (value_at cmp es u.0)) h ∙ e in
      subst (λ c. Member (cons_option c (changes_of cmp of gone same ts es)) p) (sym is) (inl refl)
  entry_change es (t ∷ ts) p k was (inr m) e = by (change_of of gone same t.0 t.1 (value_at cmp es t.0)) (entry_change es ts p k was m e)
    where
      by : (c : Option (Item × Bool)) → Member (changes_of cmp of gone same ts es) p → Member (cons_option c (changes_of cmp of gone same ts es)) p
      by None n = n
      by (Some c) n = inr n

  -- a change is of its key
  of_key : (k : K) (was now : Option V) (p : Item × Bool) → ((n : V) → now ≡ Some n → Fits k n) → change_of of gone same k was now ≡ Some p → key_of p.0 ≡ gone k
  of_key k None None p f e = absurd cc
  of_key k None (Some n) p f e = ap (λ x. key_of x.0) (sym (some_same (of k n, true) p e)) ∙ rowed.keyed k n (f n refl)
  of_key k (Some w) None p f e = ap (λ x. key_of x.0) (sym (some_same (gone k, false) p e)) ∙ rowed.gone_keyed k
  of_key k (Some w) (Some n) p f e = by (same w n) e
    where
      by : (b : Bool) → cond b None (Some (change k n true)) ≡ Some p → key_of p.0 ≡ gone k
      by true h = absurd cc
      by false h = ap (λ x. key_of x.0) (sym (some_same (of k n, true) p h)) ∙ rowed.keyed k n (f n refl)

  no_change : (es : List (K × V)) → AllFit es → (ts : List (K × Option V)) (k : K) (i : Item) (b : Bool) → key_of i ≡ gone k → AllByRecursion (λ y. eq_by_cmp cmp k y ≡ false) (keys_of ts) → Member (changes_of cmp of gone same ts es) (i, b) → ⊥
  no_change es fits [] k i b q h m = m
  no_change es fits (t ∷ ts) k i b q h m = by (change_of of gone same t.0 t.1 (value_at cmp es t.0)) refl m (λ x. no_change es fits ts k i b q h.1 x)
    where
      by : (c : Option (Item × Bool)) → change_of of gone same t.0 t.1 (value_at cmp es t.0) ≡ c → Member (cons_option c (changes_of cmp of gone same ts es)) (i, b) → (Member (changes_of cmp of gone same ts es) (i, b) → ⊥) → ⊥
      by None e x later = later x
      by (Some c) e (inl x) later = other_key cmp o rowed.exact k t.0 h.0 (rowed.alone k t.0 (sym q ∙ ap (λ y. key_of y.0) (sym x) ∙ of_key t.0 t.1 (value_at cmp es t.0) c (fit_at es fits t.0) e))
      by (Some c) e (inr x) later = later x

  pub changes-once : (es : List (K × V)) → AllFit es → (ts : List (K × Option V)) → IsDistinct (eq_by_cmp cmp) (keys_of ts) → Once (changes_of cmp of gone same ts es)
  unfolding IsDistinct
  changes-once es fits [] d = tt
  changes-once es fits (t ∷ ts) d = by (change_of of gone same t.0 t.1 (value_at cmp es t.0)) refl (changes-once es fits ts d.1)
    where
      by : (c : Option (Item × Bool)) → change_of of gone same t.0 t.1 (value_at cmp es t.0) ≡ c → Once (changes_of cmp of gone same ts es) → Once (cons_option c (changes_of cmp of gone same ts es))
      by None e rest = rest
      by (Some c) e rest = (λ x. no_change es fits ts t.0 c.0 c.1 (of_key t.0 t.1 (value_at cmp es t.0) c (fit_at es fits t.0) e) d.0 x, rest)

  -- ---- what the changes of a table say

  pair_of : (i : Item) (b : Bool) (c : Item × Bool) → Some c ≡ Some (i, b) → (c.0 ≡ i) × (c.1 ≡ b)
  pair_of i b c e = let is : c ≡ (i, b) = cc in (ap (λ x. x.0) is, ap (λ x. x.1) is)

  module _ (t : Tabled K V) (tells : TellsSettled cmp t) (s : IsStrictlySortedBy cmp (keys_of t.entries)) (now_fit : AllFit t.entries) (was_fit : AllFit t.settled) where
    change_found : (p : Item × Bool) → Member (changes_of cmp of gone same t.touched t.entries) p → (k : K) × (change_of of gone same k (value_at cmp t.settled k) (value_at cmp t.entries k) ≡ Some p)
    change_found p m =
        let r = change_entry t.entries t.touched p m in
        let was : value_at cmp t.touched r.0 ≡ Some r.1 = value_of cmp o rowed.exact t.touched r.0 r.1 tells.distinct r.2 in
        (r.0, ap (λ w. change_of of gone same r.0 w (value_at cmp t.entries r.0)) (tells.listed r.0 r.1 was) ∙ r.3)

    found_change : (p : Item × Bool) (k : K) → (value_at cmp t.settled k ≡ value_at cmp t.entries k → ⊥) → change_of of gone same k (value_at cmp t.settled k) (value_at cmp t.entries k) ≡ Some p → Member (changes_of cmp of gone same t.touched t.entries) p
    found_change p k differ e = by (value_at cmp t.touched k) refl
      where
        by : (x : Option (Option V)) → value_at cmp t.touched k ≡ x → Member (changes_of cmp of gone same t.touched t.entries) p
        by None h = absurd (differ (tells.others k h))
        by (Some was) h = entry_change t.entries t.touched p k was (entry_of cmp o rowed.exact t.touched k was h) (ap (λ w. change_of of gone same k w (value_at cmp t.entries k)) (sym (tells.listed k was h)) ∙ e)

    -- what is new or has another value
    pub stands-only : (i : Item) → Member (changes_of cmp of gone same t.touched t.entries) (i, true) → Member (rows_of of t.entries) i × (Member (rows_of of t.settled) i → ⊥)
    stands-only i m = let r = change_found (i, true) m in by r.0 (value_at cmp t.settled r.0) (value_at cmp t.entries r.0) refl refl r.1
      where
        new : (k : K) (n : V) → i ≡ of k n → value_at cmp t.entries k ≡ Some n → (value_at cmp t.settled k ≡ Some n → ⊥) → Member (rows_of of t.entries) i × (Member (rows_of of t.settled) i → ⊥)
        new k n p e ne = (row-member t.entries i (k, n, p, e), λ x. ne (value-row t.settled tells.ordered was_fit k n (fit_at t.entries now_fit k n e) (subst (Member (rows_of of t.settled)) p x)))

        by : (k : K) (was now : Option V) → value_at cmp t.settled k ≡ was → value_at cmp t.entries k ≡ now → change_of of gone same k was now ≡ Some (i, true) → Member (rows_of of t.entries) i × (Member (rows_of of t.settled) i → ⊥)
        by k None None a b e = absurd cc
        by k None (Some n) a b e = new k n (sym (pair_of i true (of k n, true) e).0) b (λ x. none_some n (sym a ∙ x))
        by k (Some w) None a b e = let f : false ≡ true = (pair_of i true (gone k, false) e).1 in absurd cc
        by k (Some w) (Some n) a b e = which (same w n) refl e
          where
            which : (x : Bool) → (same w n) ≡ x → cond x None (Some (change k n true)) ≡ Some (i, true) → Member (rows_of of t.entries) i × (Member (rows_of of t.settled) i → ⊥)
            which true h f = absurd cc
            which false h f = new k n (sym (pair_of i true (of k n, true) f).0) b (λ x. rowed.no w n h (some_same w n (sym a ∙ x)))

    pub stands-all : (i : Item) → Member (rows_of of t.entries) i → (Member (rows_of of t.settled) i → ⊥) → Member (changes_of cmp of gone same t.touched t.entries) (i, true)
    stands-all i m ne = let r = member-row t.entries s i m in by r.0 r.1 r.2 r.3 (value_at cmp t.settled r.0) refl
      where
        by : (k : K) (n : V) → i ≡ of k n → value_at cmp t.entries k ≡ Some n → (was : Option V) → value_at cmp t.settled k ≡ was → Member (changes_of cmp of gone same t.touched t.entries) (i, true)
        by k n p b None a = found_change (i, true) k (λ x. none_some n (sym a ∙ x ∙ b)) ((λ j. change_of of gone same k (a j) (b j)) ∙ (λ j. Some (row_change (sym p j) true)))
        by k n p b (Some w) a = which (same w n) refl
          where
            which : (x : Bool) → (same w n) ≡ x → Member (changes_of cmp of gone same t.touched t.entries) (i, true)
            which true h = absurd (ne (row-member t.settled i (k, n, p, a ∙ ap Some (rowed.yes w n h))))
            which false h = found_change (i, true) k (λ x. rowed.no w n h (some_same w n (sym a ∙ x ∙ b)))
                ((λ j. change_of of gone same k (a j) (b j)) ∙ ap (λ x. cond x None (Some (change k n true))) h ∙ (λ j. Some (row_change (sym p j) true)))

    -- what is gone
    abbrev pub IsGone : Item → Type 0
    IsGone i = (was : Item) × (Member (rows_of of t.settled) was × (i ≡ key_of was) × ((now : Item) → Member (rows_of of t.entries) now → key_of now ≢ key_of was))

    pub gone-only : (i : Item) → Member (changes_of cmp of gone same t.touched t.entries) (i, false) → IsGone i
    gone-only i m = let r = change_found (i, false) m in by r.0 (value_at cmp t.settled r.0) (value_at cmp t.entries r.0) refl refl r.1
      where
        by : (k : K) (was now : Option V) → value_at cmp t.settled k ≡ was → value_at cmp t.entries k ≡ now → change_of of gone same k was now ≡ Some (i, false) → IsGone i
        by k None None a b e = absurd cc
        by k None (Some n) a b e = let f : true ≡ false = (pair_of i false (of k n, true) e).1 in absurd cc
        by k (Some w) (Some n) a b e = which (same w n) e
          where
            which : (x : Bool) → cond x None (Some (change k n true)) ≡ Some (i, false) → IsGone i
            which true f = absurd cc
            which false f = let g : true ≡ false = (pair_of i false (of k n, true) f).1 in absurd cc
        by k (Some w) None a b e =
            (of k w, (row-member t.settled (of k w) (k, w, refl, a), sym (pair_of i false (gone k, false) e).0 ∙ sym (rowed.keyed k w (fit_at t.settled was_fit k w a)), left))
          where
            left : (now : Item) → Member (rows_of of t.entries) now → key_of now ≢ key_of (of k w)
            left now x f =
                let r = member-row t.entries s now x in
                let one : r.0 ≡ k = rowed.alone r.0 k (sym (rowed.keyed r.0 r.1 (fit_at t.entries now_fit r.0 r.1 r.3)) ∙ ap key_of (sym r.2) ∙ f ∙ rowed.keyed k w (fit_at t.settled was_fit k w a)) in
                none_some r.1 (sym b ∙ ap (value_at cmp t.entries) (sym one) ∙ r.3)

    pub gone-all : (i : Item) → IsGone i → Member (changes_of cmp of gone same t.touched t.entries) (i, false)
    gone-all i g = let r = member-row t.settled tells.ordered g.0 g.1.0 in by r.0 r.1 r.2 r.3 (value_at cmp t.entries r.0) refl
      where
        by : (k : K) (w : V) → g.0 ≡ of k w → value_at cmp t.settled k ≡ Some w → (now : Option V) → value_at cmp t.entries k ≡ now → Member (changes_of cmp of gone same t.touched t.entries) (i, false)
        by k w p e (Some n) b = absurd (g.1.2 (of k n) (row-member t.entries (of k n) (k, n, refl, b)) (rowed.keyed k n (fit_at t.entries now_fit k n b) ∙ sym (rowed.keyed k w (fit_at t.settled was_fit k w e)) ∙ ap key_of (sym p)))
        by k w p e None b = found_change (i, false) k (λ x. none_some w (sym b ∙ sym x ∙ e))
            ((λ j. change_of of gone same k (e j) (b j)) ∙ (λ j. Some (row_change (sym (g.1.1 ∙ ap key_of p ∙ rowed.keyed k w (fit_at t.settled was_fit k w e)) j) false)))

  -- ---- in the words of records

  pub rows-of-kind : (es : List (K × V)) → AreFit Fits es → AreOf (λ i. is_some (entry i)) (rows_of of es)
  rows-of-kind es fits i c =
      let r = row_entry es i (member (rows_of of es) i c) in
      ap (λ j. is_some (entry j)) r.2 ∙ ap is_some (rowed.read r.0 r.1 (fits r.0 r.1 (contained es (r.0, r.1) r.3)))

  pub rows-told-once : (es : List (K × V)) → AreFit Fits es → IsStrictlySortedBy cmp (keys_of es) → IsOnce (rows_of of es)
  rows-told-once es fits s = once (rows_of of es) (rows-once es (all-fit es fits) (IsDistinct-from_sorted cmp (keys_of es) s))

  pub row-added : (es : List (K × V)) → AreFit Fits es → IsStrictlySortedBy cmp (keys_of es) → (k : K) (v : V) → Fits k v → IsAdded (rows_of of es) (of k v) (rows_of of (insert_entry cmp es k v))
  row-added es fits s k v fit = added (rows_of of es) (of k v) (rows_of of (insert_entry cmp es k v))
      (λ i m. added-only es s (all-fit es fits) k v fit i m (ascend-put cmp o es k v s))
      (added-all es s (all-fit es fits) k v fit)

  pub rows-changed : (t : Tabled K V) → TellsSettled cmp t → IsStrictlySortedBy cmp (keys_of t.entries) → AreFit Fits t.entries → AreFit Fits t.settled
      → AreChanges (rows_of of t.settled) (rows_of of t.entries) (changes_of cmp of gone same t.touched t.entries)
  rows-changed t tells s now was = all-changes (rows_of of t.settled) (rows_of of t.entries) (changes_of cmp of gone same t.touched t.entries) (record {
    once = changes-once t.entries (all-fit t.entries now) t.touched tells.distinct;
    stands_only = stands-only t tells s (all-fit t.entries now) (all-fit t.settled was);
    stands_all = stands-all t tells s (all-fit t.entries now) (all-fit t.settled was);
    gone_only = gone-only t tells s (all-fit t.entries now) (all-fit t.settled was);
    gone_all = gone-all t tells s (all-fit t.entries now) (all-fit t.settled was);
  })
