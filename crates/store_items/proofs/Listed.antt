-- Rows in the order of their keys, and the items of which they are the rows in a format.
use Rattle.std.proofs.Common.{◌≡◌, ◌∙◌, ◌⊎◌, inl, inr, ℕ, suc, ◌<◌, List, [], ◌∷◌, length, map, All, refl, sym, ap, subst, arith, Ordering, Less, Equal, Greater, Contains, slice_get, Some, IsPermutation}
use Rattle.std.{specs.{List.AllByRecursion, Ordering.match_ordering}, proofs.lemmas.Cmp.tied_itself}
use Rattle.std.proofs.lemmas.List.Elements.{All-from_recursion, recursion_from_All}
use Rattle.std.proofs.lemmas.List.Sorted.{Contains-permutation, IsPermutation-cons, IsPermutation-refl, IsPermutation-swap, IsPermutation-sym, IsPermutation-trans}
use Rattle.sqlite_rules.{specs.Lists.Has, proofs.ListLemmas.{all_from, all_has}}
use Rattle.base_io.specs.{Rows.{Pair, key_cmp, put}, Changes.Rises}
use Rattle.base_roles.specs.{declared.items.Item.Item, Items.IsOnce}
use Rattle.store_rows.specs.{declared.format.Format.Format, Rows.{key_bytes, row_in}, Spelled.HasRow}
use Rattle.store_rows.proofs.{KeyLemmas.keys_one_to_one, WholeLemmas.{key_alone, one_to_one}}
use Rattle.store_sqlite.proofs.Maps.{same_members, total}
use Rattle.store_items.specs.Stored.{AreStored, rows_as}
use Rattle.store_items.proofs.Members.{AreOnce, has_map, has_of, item_there, map_has, place_of, row_there, rows_rise}

-- ---- lists without repeats, of the same elements

module _ {A : Type 0} where
  abbrev pub AreApart : List A → Type 0
  AreApart [] = Unit {0}
  AreApart (x ∷ xs) = (Has xs x → ⊥) × AreApart xs

  -- the list without this element, where it stands first
  abbrev without : (ys : List A) (x : A) → Has ys x → List A
  without [] x h = []
  without (y ∷ ys) x (inl same) = ys
  without (y ∷ ys) x (inr later) = y ∷ without ys x later

  without_permuted : (ys : List A) (x : A) (h : Has ys x) → IsPermutation (x ∷ without ys x h) ys
  without_permuted [] x h = absurd h
  without_permuted (y ∷ ys) x (inl same) = subst (λ (z : A). IsPermutation (z ∷ ys) (y ∷ ys)) (sym same) (IsPermutation-refl (y ∷ ys))
  without_permuted (y ∷ ys) x (inr later) =
      let rest = without ys x later in
      IsPermutation-trans (x ∷ y ∷ rest) (y ∷ x ∷ rest) (y ∷ ys) (IsPermutation-swap (x ∷ y ∷ rest) (y ∷ x ∷ rest) 0 1 (omega arith) (omega arith) refl) (IsPermutation-cons y (x ∷ rest) ys (without_permuted ys x later))

  without_has : (ys : List A) (x : A) (h : Has ys x) (z : A) → Has (without ys x h) z → Has ys z
  without_has [] x h z k = absurd h
  without_has (y ∷ ys) x (inl same) z k = inr k
  without_has (y ∷ ys) x (inr later) z (inl e) = inl e
  without_has (y ∷ ys) x (inr later) z (inr k) = inr (without_has ys x later z k)

  has_without : (ys : List A) (x : A) (h : Has ys x) (z : A) → Has ys z → (z ≡ x) ⊎ Has (without ys x h) z
  has_without [] x h z k = absurd h
  has_without (y ∷ ys) x (inl same) z (inl e) = inl (e ∙ sym same)
  has_without (y ∷ ys) x (inl same) z (inr k) = inr k
  has_without (y ∷ ys) x (inr later) z (inl e) = inr (inl e)
  has_without (y ∷ ys) x (inr later) z (inr k) = elim (has_without ys x later z k) [ inl e ↦ inl e | inr l ↦ inr (inr l) ]

  without_apart : (ys : List A) (x : A) (h : Has ys x) → AreApart ys → (Has (without ys x h) x → ⊥) × AreApart (without ys x h)
  without_apart [] x h apart = absurd h
  without_apart (y ∷ ys) x (inl same) apart = ((λ k. apart.0 (subst (Has ys) same k)), apart.1)
  without_apart (y ∷ ys) x (inr later) apart =
      let rest = without_apart ys x later apart.1 in (
        (λ k. elim k [ inl e ↦ apart.0 (subst (Has ys) e later) | inr l ↦ rest.0 l ]),
        ((λ k. apart.0 (without_has ys x later y k)), rest.1),
      )

  pub permuted : (xs ys : List A) → AreApart xs → AreApart ys → ((z : A) → Has xs z → Has ys z) → ((z : A) → Has ys z → Has xs z) → IsPermutation xs ys
  permuted [] [] a b f g = IsPermutation-refl []
  permuted [] (y ∷ ys) a b f g = absurd (g y (inl refl))
  permuted (x ∷ xs) ys a b f g =
      let h : Has ys x = f x (inl refl) in
      let rest = without ys x h in
      let apart = without_apart ys x h b in
      let to : (z : A) → Has xs z → Has rest z = λ z k. elim (has_without ys x h z (f z (inr k))) [ inl e ↦ absurd (a.0 (subst (Has xs) e k)) | inr l ↦ l ] in
      let from : (z : A) → Has rest z → Has xs z = λ z k. elim (g z (without_has ys x h z k)) [ inl e ↦ absurd (apart.0 (subst (Has rest) e k)) | inr l ↦ l ] in
      IsPermutation-trans (x ∷ xs) (x ∷ rest) ys (IsPermutation-cons x xs rest (permuted xs rest a.1 apart.1 to from)) (without_permuted ys x h)

  pub got_at : (xs : List A) (x : A) → Has xs x → (k : ℕ) × (k < length xs) × (slice_get xs k ≡ Some x)
  got_at [] x h = absurd h
  got_at (y ∷ ys) x (inl same) = (0, omega arith, ap (λ z. Some z) (sym same))
  got_at (y ∷ ys) x (inr later) = let (k, lt, is) = got_at ys x later in (suc k, omega (arith, lt), is)

  -- of which no element stands twice
  pub apart_of : (xs : List A) → IsOnce xs → AreApart xs
  apart_of [] once = tt
  apart_of (x ∷ xs) once = (first, apart_of xs others)
    where
      first : Has xs x → ⊥
      first h =
          let (k, lt, is) = got_at xs x h in
          let same : 0 ≡ suc k = once 0 (suc k) (omega arith) (omega (arith, lt)) (sym is) in
          omega (arith, same)

      others : IsOnce xs
      others i j li lj same = let e : suc i ≡ suc j = once (suc i) (suc j) (omega (arith, li)) (omega (arith, lj)) same in omega (arith, e)

pub apart_under : {A B : Type 0} (f : A → B) (xs : List A) → AreApart (map f xs) → AreApart xs
apart_under f [] apart = tt
apart_under f (x ∷ xs) apart = ((λ h. apart.0 (has_map f xs x h)), apart_under f xs apart.1)

-- ---- rows that rise

pub never_itself : (a b : List ℕ) → key_cmp a b ≡ Less → a ≡ b → ⊥
never_itself a b less same =
    let tie : key_cmp a b ≡ Equal = ap (key_cmp a) (sym same) ∙ tied_itself total a in
    cc

-- of a key stands one row
same_row : (ps : List Pair) → Rises ps → (p q : Pair) → Has ps p → Has ps q → p.0 ≡ q.0 → p ≡ q
same_row [] up p q h k same = absurd h
same_row (r ∷ ps) up p q (inl a) (inl b) same = a ∙ sym b
same_row (r ∷ ps) up p q (inl a) (inr k) same = absurd (never_itself r.0 q.0 (all_has (λ (x : Pair). key_cmp r.0 x.0 ≡ Less) ps q up.0 k) (sym (ap (λ (x : Pair). x.0) a) ∙ same))
same_row (r ∷ ps) up p q (inr h) (inl b) same = absurd (never_itself r.0 p.0 (all_has (λ (x : Pair). key_cmp r.0 x.0 ≡ Less) ps p up.0 h) (sym (ap (λ (x : Pair). x.0) b) ∙ sym same))
same_row (r ∷ ps) up p q (inr h) (inr k) same = same_row ps up.1 p q h k same

rising_apart : (ps : List Pair) → Rises ps → AreApart ps
rising_apart [] up = tt
rising_apart (p ∷ ps) up = ((λ h. never_itself p.0 p.0 (all_has (λ (x : Pair). key_cmp p.0 x.0 ≡ Less) ps p up.0 h) refl), rising_apart ps up.1)

-- ---- items whose rows rise

module _ (items : List Item) (all : All HasRow items) where
  pub has_row : (i : Item) → Has items i → HasRow i
  has_row i h = all_has HasRow items i (recursion_from_All HasRow items all) h

  module _ (f : Format) (up : Rises (map (row_in f) items)) where
    bytes_once : AreOnce items
    bytes_once i j h k same = one_to_one f i j (has_row i h) (has_row j k) (same_row (map (row_in f) items) up (row_in f i) (row_in f j) (has_map (row_in f) items i h) (has_map (row_in f) items j k) same)

    pub rising_rows : rows_as f items ≡ map (row_in f) items
    rising_rows = same_members (rows_as f items) (map (row_in f) items) (rows_rise f items) up
        (λ p h. let (i, there, is) = item_there f items p h in subst (Has (map (row_in f) items)) is (has_map (row_in f) items i there))
        (λ p h. let (i, there, is) = map_has (row_in f) items p h in subst (Has (rows_as f items)) is (row_there f items i bytes_once there))

    pub rising_stored : AreStored items
    rising_stored = record {
      have_rows = λ i c. has_row i (has_of items i c);
      once = λ i j c d same. bytes_once i j (has_of items i c) (has_of items j d) (sym (key_alone i) ∙ ap key_bytes same ∙ key_alone j);
    }

    pub rising_items_apart : AreApart items
    rising_items_apart = apart_under (row_in f) items (rising_apart (map (row_in f) items) up)

-- ---- items of the same rows

pub bytes_apart : (items : List Item) → AreStored items → AreOnce items
bytes_apart items s i j h k same =
    s.once i j (place_of items i h) (place_of items j k) (keys_one_to_one i j (s.have_rows i (place_of items i h)) (s.have_rows j (place_of items j k)) same)

-- what has its row in other items is one of them
pub same_has : (f : Format) (xs ys : List Item) → AreStored xs → AreStored ys → rows_as f xs ≡ rows_as f ys → (i : Item) → Has xs i → Has ys i
same_has f xs ys s t same i h =
    let there : Has (rows_as f ys) (row_in f i) = subst (λ (l : List Pair). Has l (row_in f i)) same (row_there f xs i (bytes_apart xs s) h) in
    let (j, k, is) = item_there f ys (row_in f i) there in
    subst (Has ys) (one_to_one f j i (t.have_rows j (place_of ys j k)) (s.have_rows i (place_of xs i h)) is) k

pub same_rows_permuted : (f : Format) (xs ys : List Item) → AreStored xs → AreStored ys → AreApart xs → AreApart ys → rows_as f xs ≡ rows_as f ys → IsPermutation xs ys
same_rows_permuted f xs ys s t a b same = permuted xs ys a b (same_has f xs ys s t same) (same_has f ys xs t s (sym same))

-- items of the same rows in one format have the same rows in each
pub rows_same : (f g : Format) (xs ys : List Item) → AreStored xs → AreStored ys → rows_as f xs ≡ rows_as f ys → rows_as g xs ≡ rows_as g ys
rows_same f g xs ys s t same = same_members (rows_as g xs) (rows_as g ys) (rows_rise g xs) (rows_rise g ys) (to xs ys s t same) (to ys xs t s (sym same))
  where
    to : (xs ys : List Item) → AreStored xs → AreStored ys → rows_as f xs ≡ rows_as f ys → (p : Pair) → Has (rows_as g xs) p → Has (rows_as g ys) p
    to xs ys s t same p h =
        let (i, there, is) = item_there g xs p h in
        subst (Has (rows_as g ys)) is (row_there g ys i (bytes_apart ys t) (same_has f xs ys s t same i there))

pub stored_permuted : (xs ys : List Item) → IsPermutation xs ys → AreStored xs → AreStored ys
stored_permuted xs ys p s =
    let back : (i : Item) → Contains ys i → Contains xs i = λ i c. Contains-permutation ys xs i (IsPermutation-sym xs ys p) c in
    record { have_rows = λ i c. s.have_rows i (back i c); once = λ i j c d same. s.once i j (back i c) (back j d) same }

pub permuted_rows : (f : Format) (xs ys : List Item) → IsPermutation xs ys → AreStored xs → rows_as f xs ≡ rows_as f ys
permuted_rows f xs ys p s = same_members (rows_as f xs) (rows_as f ys) (rows_rise f xs) (rows_rise f ys) (to xs ys p s) (to ys xs (IsPermutation-sym xs ys p) (stored_permuted xs ys p s))
  where
    to : (xs ys : List Item) → IsPermutation xs ys → AreStored xs → (r : Pair) → Has (rows_as f xs) r → Has (rows_as f ys) r
    to xs ys p s r h =
        let (i, there, is) = item_there f xs r h in
        let moved : Has ys i = has_of ys i (Contains-permutation xs ys i p (place_of xs i there)) in
        subst (Has (rows_as f ys)) is (row_there f ys i (bytes_apart ys (stored_permuted xs ys p s)) moved)

-- ---- the rows of items are those of a list in their order

inserted : (f : Format) (i : Item) (js : List Item) → HasRow i → AllByRecursion HasRow js → (more : List Item) × AllByRecursion HasRow more × (map (row_in f) more ≡ put (row_in f i) (map (row_in f) js))
inserted f i [] h all = (i ∷ [], (h, tt), refl)
inserted f i (j ∷ js) h all = by (key_cmp (key_bytes j) (key_bytes i)) (inserted f i js h all.1)
  where
    by : (o : Ordering) → ((more : List Item) × AllByRecursion HasRow more × (map (row_in f) more ≡ put (row_in f i) (map (row_in f) js)))
        → (more : List Item) × AllByRecursion HasRow more × (map (row_in f) more ≡ match_ordering o (row_in f j ∷ put (row_in f i) (map (row_in f) js)) (row_in f i ∷ map (row_in f) js) (row_in f i ∷ row_in f j ∷ map (row_in f) js))
    by Less later = (j ∷ later.0, (all.0, later.1), ap (λ (l : List Pair). row_in f j ∷ l) later.2)
    by Equal later = (i ∷ js, (h, all.1), refl)
    by Greater later = (i ∷ j ∷ js, (h, all), refl)

listed : (f : Format) (items : List Item) → AllByRecursion HasRow items → (its : List Item) × AllByRecursion HasRow its × (map (row_in f) its ≡ rows_as f items)
listed f [] all = ([], tt, refl)
listed f (i ∷ items) all =
    let (its, rows, is) = listed f items all.1 in
    let (more, have, are) = inserted f i its all.0 rows in
    (more, have, are ∙ ap (put (row_in f i)) is)

pub rows_listed : (f : Format) (items : List Item) → AreStored items → (its : List Item) × All HasRow its × (map (row_in f) its ≡ rows_as f items)
rows_listed f items s =
    let (its, rows, is) = listed f items (all_from HasRow items (λ i h. s.have_rows i (place_of items i h))) in
    (its, All-from_recursion HasRow its rows, is)
