-- Members of lists, and the rows of items.
use Rattle.std.proofs.Common.{◌≡◌, ◌∙◌, ◌⊎◌, inl, inr, ℕ, zero, suc, ◌<◌, List, [], ◌∷◌, length, map, refl, sym, ap, subst, arith, Ordering, Less, Equal, Greater, Contains, slice_index_or}
use Rattle.std.proofs.lemmas.{Cmp.tied_itself, Map.Lookups.exact_bytes}
use Rattle.sqlite_rules.specs.Lists.{Has}
use Rattle.base_io.specs.{Rows.{Pair, key_cmp, put}, Changes.Rises}
use Rattle.base_roles.specs.declared.items.Item.{Item}
use Rattle.store_rows.specs.{declared.format.Format.Format, Rows.{key_bytes, row_in}}
use Rattle.store_sqlite.proofs.Maps.{has_put, put_has, put_keeps, put_rises, total}
use Rattle.store_items.specs.Stored.{rows_as}

-- ---- members

has_at : {A : Type 0} (xs : List A) (k : ℕ) (x : A) → k < length xs → slice_index_or xs k x ≡ x → Has xs x
has_at [] k x lt is = absurd (omega (arith, lt))
has_at (y ∷ ys) zero x lt is = inl (sym is)
has_at (y ∷ ys) (suc k) x lt is = inr (has_at ys k x (omega (arith, lt)) is)

pub has_of : {A : Type 0} (xs : List A) (x : A) → Contains xs x → Has xs x
has_of xs x it = has_at xs it.0 x it.1 it.2

pub place_of : {A : Type 0} (xs : List A) (x : A) → Has xs x → Contains xs x
place_of [] x h = absurd h
place_of (y ∷ ys) x (inl same) = (0, omega arith, sym same)
place_of (y ∷ ys) x (inr later) = let (k, lt, is) = place_of ys x later in (suc k, omega (arith, lt), is)

pub has_map : {A B : Type 0} (f : A → B) (xs : List A) (x : A) → Has xs x → Has (map f xs) (f x)
has_map f [] x h = h
has_map f (y ∷ ys) x (inl same) = inl (ap f same)
has_map f (y ∷ ys) x (inr later) = inr (has_map f ys x later)

pub map_has : {A B : Type 0} (f : A → B) (xs : List A) (y : B) → Has (map f xs) y → (x : A) × Has xs x × (f x ≡ y)
map_has f [] y h = absurd h
map_has f (x ∷ xs) y (inl same) = (x, inl refl, sym same)
map_has f (x ∷ xs) y (inr later) = let (z, there, is) = map_has f xs y later in (z, inr there, is)

-- ---- bytes

pub tied : (a b : List ℕ) → key_cmp a b ≡ Equal → a ≡ b
tied a b e = exact_bytes a b e

pub same_or_other : (a b : List ℕ) → (a ≡ b) ⊎ (a ≡ b → ⊥)
same_or_other a b = go (key_cmp a b) refl
  where
    go : (o : Ordering) → key_cmp a b ≡ o → (a ≡ b) ⊎ (a ≡ b → ⊥)
    go Less e = inr (λ same. let tie : key_cmp a b ≡ Equal = ap (key_cmp a) (sym same) ∙ tied_itself total a in cc)
    go Equal e = inl (tied a b e)
    go Greater e = inr (λ same. let tie : key_cmp a b ≡ Equal = ap (key_cmp a) (sym same) ∙ tied_itself total a in cc)

-- ---- rows of items

-- no key of a row stands for two items
abbrev pub AreOnce : List Item → Type 0
AreOnce items = (i j : Item) → Has items i → Has items j → key_bytes i ≡ key_bytes j → i ≡ j

pub rows_rise : (f : Format) (items : List Item) → Rises (rows_as f items)
rows_rise f [] = tt
rows_rise f (j ∷ js) = put_rises (row_in f j) (rows_as f js) (rows_rise f js)

pub row_there : (f : Format) (items : List Item) (i : Item) → AreOnce items → Has items i → Has (rows_as f items) (row_in f i)
row_there f [] i once h = absurd h
row_there f (j ∷ js) i once (inl same) = subst (λ (k : Item). Has (rows_as f (j ∷ js)) (row_in f k)) (sym same) (has_put (row_in f j) (rows_as f js))
row_there f (j ∷ js) i once (inr later) = go (key_cmp (key_bytes i) (key_bytes j)) refl (row_there f js i (λ a b p q. once a b (inr p) (inr q)) later)
  where
    go : (o : Ordering) → key_cmp (key_bytes i) (key_bytes j) ≡ o → Has (rows_as f js) (row_in f i) → Has (put (row_in f j) (rows_as f js)) (row_in f i)
    go Less e there = put_keeps (row_in f j) (rows_as f js) (row_in f i) there (λ f. cc)
    go Equal e there = subst (λ (k : Item). Has (put (row_in f j) (rows_as f js)) (row_in f k)) (sym (once i j (inr later) (inl refl) (tied (key_bytes i) (key_bytes j) e))) (has_put (row_in f j) (rows_as f js))
    go Greater e there = put_keeps (row_in f j) (rows_as f js) (row_in f i) there (λ f. cc)

pub item_there : (f : Format) (items : List Item) (p : Pair) → Has (rows_as f items) p → (i : Item) × Has items i × (row_in f i ≡ p)
item_there f [] p h = absurd h
item_there f (j ∷ js) p h = elim (put_has (row_in f j) (rows_as f js) p h) [
  | inl same ↦ (j, inl refl, sym same)
  | inr later ↦ let (i, there, is) = item_there f js p later in (i, inr there, is)
]

-- an item of this key, or none
pub find_key : (items : List Item) (key : List ℕ) → ((i : Item) × Has items i × (key_bytes i ≡ key)) ⊎ ((i : Item) → Has items i → key_bytes i ≡ key → ⊥)
find_key [] key = inr (λ i h e. h)
find_key (j ∷ js) key = elim (same_or_other (key_bytes j) key) [
  | inl same ↦ inl (j, inl refl, same)
  | inr other ↦
      elim (find_key js key) [
        | inl it ↦ inl (it.0, inr it.1, it.2)
        | inr none ↦ inr (λ i h e. elim h [ inl same ↦ other (ap key_bytes (sym same) ∙ e) | inr later ↦ none i later e ])
      ]
]
