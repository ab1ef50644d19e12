-- Values in finite maps, as lists of pairs whose keys rise.
use Rattle.std.proofs.Common.{◌≡◌, ◌∙◌, ℕ, Bool, true, false, List, [], ◌∷◌, filter, Option, Some, None, Ordering, Less, Equal, Greater, ◌⊎◌, inl, inr, refl, sym, ap, ap₂, subst}
use Rattle.std.{specs.{List.AllByRecursion, Ordering.{match_ordering, ordering_reverse}}, proofs.lemmas.Bool.cases_Bool}
use Rattle.std.proofs.lemmas.{Cmp.tied_itself, Map.Lookups.exact_bytes}
use Rattle.base_io.{specs.{Rows.{Pair, key_cmp, put}, Changes.{Rises, value_of}}, proofs.RowLemmas.{put_rises, total}}

-- ---- keys

pub tied : (a b : List ℕ) → key_cmp a b ≡ Equal → a ≡ b
tied a b e = exact_bytes a b e

pub itself : (a : List ℕ) → key_cmp a a ≡ Equal
itself a = tied_itself total a

pub tie : (a b : List ℕ) → a ≡ b → key_cmp a b ≡ Equal
tie a b same = ap (key_cmp a) (sym same) ∙ itself a

pub flip : (a b : List ℕ) → key_cmp a b ≡ Greater → key_cmp b a ≡ Less
flip a b e = total.antisymm b a ∙ ap ordering_reverse e

pub flop : (a b : List ℕ) → key_cmp a b ≡ Less → key_cmp b a ≡ Greater
flop a b e = total.antisymm b a ∙ ap ordering_reverse e

-- ---- what holds of all

pub all_weaker : {A : Type 0} (P Q : A → Type 0) (xs : List A) → ((x : A) → P x → Q x) → AllByRecursion P xs → AllByRecursion Q xs
all_weaker P Q [] weaker h = tt
all_weaker P Q (x ∷ xs) weaker h = (weaker x h.0, all_weaker P Q xs weaker h.1)

pub above_all : (key : List ℕ) (p : Pair) (ps : List Pair) → key_cmp key p.0 ≡ Less → Rises (p ∷ ps) → AllByRecursion (λ q. key_cmp key q.0 ≡ Less) (p ∷ ps)
above_all key p ps less up = (less, all_weaker (λ q. key_cmp p.0 q.0 ≡ Less) (λ q. key_cmp key q.0 ≡ Less) ps (λ q h. total.trans key p.0 q.0 less h) up.0)

-- ---- values

abbrev Value : Ordering → List ℕ → Pair → List Pair → Option (List ℕ)
Value o key p ps = match_ordering o (value_of key ps) (Some p.1) None

pub none_below : (key : List ℕ) (ps : List Pair) → AllByRecursion (λ q. key_cmp key q.0 ≡ Less) ps → value_of key ps ≡ None
none_below key [] h = refl
none_below key (q ∷ ps) h = ap (λ (o : Ordering). Value o key q ps) (flop key q.0 h.0)

pub value_first : (p : Pair) (ps : List Pair) → value_of p.0 (p ∷ ps) ≡ Some p.1
value_first p ps = ap (λ (o : Ordering). Value o p.0 p ps) (itself p.0)

-- a row of another key is passed over
pub passed : (p : Pair) (ps : List Pair) (key : List ℕ) → Rises (p ∷ ps) → (key_cmp p.0 key ≡ Equal → ⊥) → value_of key (p ∷ ps) ≡ value_of key ps
passed p ps key up other = go (key_cmp p.0 key) refl
  where
    go : (o : Ordering) → key_cmp p.0 key ≡ o → Value o key p ps ≡ value_of key ps
    go Less is = refl
    go Equal is = absurd (other is)
    go Greater is = sym (none_below key ps (above_all key p ps (flip p.0 key is) up).1)

abbrev Put : Ordering → Pair → Pair → List Pair → List Pair
Put o new p ps = match_ordering o (p ∷ put new ps) (new ∷ ps) (new ∷ p ∷ ps)

pub at_put : (new : Pair) (ps : List Pair) → value_of new.0 (put new ps) ≡ Some new.1
at_put new [] = value_first new []
at_put new (p ∷ ps) = go (key_cmp p.0 new.0) refl (at_put new ps)
  where
    go : (o : Ordering) → key_cmp p.0 new.0 ≡ o → value_of new.0 (put new ps) ≡ Some new.1 → value_of new.0 (Put o new p ps) ≡ Some new.1
    go Less is later = ap (λ (o : Ordering). match_ordering o (value_of new.0 (put new ps)) (Some p.1) None) is ∙ later
    go Equal is later = value_first new ps
    go Greater is later = value_first new (p ∷ ps)

pub off_put : (new : Pair) (ps : List Pair) (key : List ℕ) → Rises ps → (key_cmp new.0 key ≡ Equal → ⊥) → value_of key (put new ps) ≡ value_of key ps
off_put new [] key up other = passed new [] key (tt, tt) other
off_put new (p ∷ ps) key up other = go (key_cmp p.0 new.0) refl (off_put new ps key up.1 other) (put_rises new (p ∷ ps) up)
  where
    go : (o : Ordering) → key_cmp p.0 new.0 ≡ o → value_of key (put new ps) ≡ value_of key ps → Rises (Put o new p ps) → value_of key (Put o new p ps) ≡ value_of key (p ∷ ps)
    go Less is later rises = ap (λ (v : Option (List ℕ)). match_ordering (key_cmp p.0 key) v (Some p.1) None) later
    go Equal is later rises = passed new ps key rises other ∙ sym (passed p ps key up (λ e. other (tie new.0 key (sym (tied p.0 new.0 is) ∙ tied p.0 key e))))
    go Greater is later rises = passed new (p ∷ ps) key rises other

-- ---- rows whose keys pass a test

module _ (test : List ℕ → Bool) where
  abbrev pub passing : List Pair → List Pair
  passing ps = filter (λ p. test p.0) ps

  pub at_filter : (key : List ℕ) (ps : List Pair) → Rises ps → test key ≡ true → value_of key (passing ps) ≡ value_of key ps
  at_filter key [] up passes = refl
  at_filter key (p ∷ ps) up passes = elim (cases_Bool (test p.0)) [
    | inl stays ↦ rw stays (ap (λ (v : Option (List ℕ)). match_ordering (key_cmp p.0 key) v (Some p.1) None) (at_filter key ps up.1 passes))
    | inr goes ↦
        let other : key_cmp p.0 key ≡ Equal → ⊥ = λ e. let same = ap test (tied p.0 key e) in cc in
        rw goes (at_filter key ps up.1 passes ∙ sym (passed p ps key up other))
  ]

  pub off_filter : (key : List ℕ) (ps : List Pair) → test key ≡ false → value_of key (passing ps) ≡ None
  off_filter key [] fails = refl
  off_filter key (p ∷ ps) fails = elim (cases_Bool (test p.0)) [
    | inl stays ↦
        let go : (o : Ordering) → key_cmp p.0 key ≡ o → match_ordering o (value_of key (passing ps)) (Some p.1) None ≡ None = λ o is. later o is stays (off_filter key ps fails) in
        rw stays (go (key_cmp p.0 key) refl)
    | inr goes ↦ rw goes (off_filter key ps fails)
  ]
    where
      later : (o : Ordering) → key_cmp p.0 key ≡ o → test p.0 ≡ true → value_of key (passing ps) ≡ None → match_ordering o (value_of key (passing ps)) (Some p.1) None ≡ None
      later Less is stays none = none
      later Equal is stays none = absurd (let same = ap test (tied p.0 key is) in cc)
      later Greater is stays none = refl

  all_passing : (P : Pair → Type 0) (ps : List Pair) → AllByRecursion P ps → AllByRecursion P (passing ps)
  all_passing P [] h = tt
  all_passing P (p ∷ ps) h = elim (cases_Bool (test p.0)) [ inl stays ↦ rw stays (h.0, all_passing P ps h.1) | inr goes ↦ rw goes (all_passing P ps h.1) ]

  pub filter_rises : (ps : List Pair) → Rises ps → Rises (passing ps)
  filter_rises [] up = tt
  filter_rises (p ∷ ps) up = elim (cases_Bool (test p.0)) [
    | inl stays ↦ rw stays (all_passing (λ q. key_cmp p.0 q.0 ≡ Less) ps up.0, filter_rises ps up.1)
    | inr goes ↦ rw goes (filter_rises ps up.1)
  ]

  pub all_pass : (ps : List Pair) → AllByRecursion (λ p. test p.0 ≡ true) (passing ps)
  all_pass [] = tt
  all_pass (p ∷ ps) = elim (cases_Bool (test p.0)) [ inl stays ↦ rw stays (stays, all_pass ps) | inr goes ↦ rw goes (all_pass ps) ]

-- the pair of a value
pub some_same : (x y : List ℕ) → Some x ≡ Some y → x ≡ y
some_same x y e = cc

-- ---- the same values are the same rows

pub same_or_other : (a b : List ℕ) → (a ≡ b) ⊎ (a ≡ b → ⊥)
same_or_other a b = go (key_cmp a b) refl
  where
    go : (o : Ordering) → key_cmp a b ≡ o → (a ≡ b) ⊎ (a ≡ b → ⊥)
    go Less e = inr (λ same. let both = tie a b same in cc)
    go Equal e = inl (tied a b e)
    go Greater e = inr (λ same. let both = tie a b same in cc)

tail_values : (x y : Pair) (xs ys : List Pair) → Rises (x ∷ xs) → Rises (y ∷ ys) → x.0 ≡ y.0 → ((key : List ℕ) → value_of key (x ∷ xs) ≡ value_of key (y ∷ ys)) → (k : List ℕ) → value_of k xs ≡ value_of k ys
tail_values x y xs ys p q key same k = elim (same_or_other x.0 k) [
  | inl is ↦
      let left : value_of k xs ≡ None = subst (λ (k : List ℕ). value_of k xs ≡ None) is (none_below x.0 xs p.0) in
      let right : value_of k ys ≡ None = subst (λ (k : List ℕ). value_of k ys ≡ None) (sym key ∙ is) (none_below y.0 ys q.0) in
      left ∙ sym right
  | inr other ↦
      sym (passed x xs k p (λ e. other (tied x.0 k e))) ∙ same k ∙ passed y ys k q (λ e. other (key ∙ tied y.0 k e))
]

pub same_values : (xs ys : List Pair) → Rises xs → Rises ys → ((key : List ℕ) → value_of key xs ≡ value_of key ys) → xs ≡ ys
same_values [] [] p q same = refl
same_values [] (y ∷ ys) p q same = absurd (let e = same y.0 ∙ value_first y ys in cc)
same_values (x ∷ xs) [] p q same = absurd (let e = sym (same x.0) ∙ value_first x xs in cc)
same_values (x ∷ xs) (y ∷ ys) p q same = go (key_cmp x.0 y.0) refl (same_values xs ys p.1 q.1)
  where
    go : (o : Ordering) → key_cmp x.0 y.0 ≡ o → (((key : List ℕ) → value_of key xs ≡ value_of key ys) → xs ≡ ys) → ◌≡◌ {A = List Pair} (x ∷ xs) (y ∷ ys)
    go Less is later =
        let there = sym (value_first x xs) ∙ same x.0 in
        let none = none_below x.0 (y ∷ ys) (above_all x.0 y ys is q) in
        absurd cc
    go Greater is later =
        let there = sym (value_first y ys) ∙ sym (same y.0) in
        let none = none_below y.0 (x ∷ xs) (above_all y.0 x xs (flip x.0 y.0 is) p) in
        absurd cc
    go Equal is later =
        let key : x.0 ≡ y.0 = tied x.0 y.0 is in
        let value : x.1 ≡ y.1 = some_same x.1 y.1 (sym (value_first x xs) ∙ same x.0 ∙ ap (λ (k : List ℕ). value_of k (y ∷ ys)) key ∙ value_first y ys) in
        let first : x ≡ y = ap₂ (λ (k v : List ℕ). (k, v)) key value in
        ap₂ (λ (r : Pair) (rs : List Pair). r ∷ rs) first (later (tail_values x y xs ys p q key same))

-- ---- members by their values

pub all_from_values : (P : Pair → Type 0) (ps : List Pair) → Rises ps → ((key value : List ℕ) → value_of key ps ≡ Some value → P (key, value)) → AllByRecursion P ps
all_from_values P [] up each = tt
all_from_values P (p ∷ ps) up each = (
  each p.0 p.1 (value_first p ps),
  all_from_values P ps up.1 (λ key value is. elim (same_or_other p.0 key) [
    | inl same ↦
        let none : value_of key ps ≡ None = subst (λ (k : List ℕ). value_of k ps ≡ None) same (none_below p.0 ps up.0) in
        absurd cc
    | inr other ↦ each key value (passed p ps key up (λ e. other (tied p.0 key e)) ∙ is)
  ]),
)

pub all_at_value : (P : Pair → Type 0) (ps : List Pair) (key value : List ℕ) → AllByRecursion P ps → value_of key ps ≡ Some value → P (key, value)
all_at_value P [] key value h is = absurd cc
all_at_value P (p ∷ ps) key value h is = go (key_cmp p.0 key) refl is (all_at_value P ps key value h.1)
  where
    go : (o : Ordering) → key_cmp p.0 key ≡ o → Value o key p ps ≡ Some value → (value_of key ps ≡ Some value → P (key, value)) → P (key, value)
    go Less e is later = later is
    go Equal e is later = subst (λ (q : Pair). P q) (ap₂ (λ (k v : List ℕ). (k, v)) (tied p.0 key e) (some_same p.1 value is)) h.0
    go Greater e is later = absurd cc
