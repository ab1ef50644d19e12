-- What changes make of rows, and the changes of a commit with those of the history.
use Rattle.std.proofs.Common.{◌≡◌, ◌∙◌, ◌⊎◌, inl, inr, ℕ, ◌^◌, ◌<◌, Bool, true, false, not, List, [], ◌∷◌, ◌++◌, filter, map, Option, Some, None, Ordering, Less, Equal, Greater, is_eq, refl, sym, ap, subst, if◌then◌else◌, is_some, unwrap_or, ◌==◌}
use Rattle.std.{specs.{Option.option_or, List.AllByRecursion}, proofs.lemmas.Bool.cases_Bool}
use Rattle.base_io.{specs.{Rows.{Pair, key_cmp}, Changes.{Rises, value_of}}, proofs.RowLemmas.{put_rises, remove_rises}}
use Rattle.store_history.specs.History.{base_key, eight_bytes, is_visible, kept_key, kept_name, kept_value, stored_base}
use Rattle.store_history.specs.Commits.{Seen, anew, change_at, going_on, is_base, is_kept, made, made_by, note, put_base, removal}
use Rattle.store_history.proofs.MapLemmas.{all_pass, all_weaker, at_filter, at_put, filter_rises, itself, off_filter, off_put, passed, same_or_other, tie, tied, value_first}
use Rattle.store_history.proofs.KeyLemmas.{name_back, seen_not_kept}

-- no two of the changes are of one key
abbrev pub AreDistinct : List Seen → Type 0
AreDistinct [] = Unit {0}
AreDistinct (c ∷ cs) = AllByRecursion (λ d. c.0 ≡ d.0 → ⊥) cs × AreDistinct cs

-- all of them are of visible keys
abbrev pub AreVisible : List Seen → Type 0
AreVisible = AllByRecursion (λ c. is_visible c.0 ≡ true)

-- ---- one change

pub uneven : (a b : List ℕ) → (a ≡ b → ⊥) → is_eq (key_cmp a b) ≡ false
uneven a b other = go (key_cmp a b) refl
  where
    go : (o : Ordering) → key_cmp a b ≡ o → is_eq o ≡ false
    go Less e = refl
    go Equal e = absurd (other (tied a b e))
    go Greater e = refl

pub made_by_rises : (key : List ℕ) (value : Option (List ℕ)) (rows : List Pair) → Rises rows → Rises (made_by key value rows)
made_by_rises key None rows up = remove_rises key rows up
made_by_rises key (Some value) rows up = put_rises (key, value) rows up

pub made_by_at : (key : List ℕ) (value : Option (List ℕ)) (rows : List Pair) → value_of key (made_by key value rows) ≡ value
made_by_at key None rows = off_filter (λ k. not (is_eq (key_cmp k key))) key rows (ap (λ (o : Ordering). not (is_eq o)) (itself key))
made_by_at key (Some value) rows = at_put (key, value) rows

pub made_by_off : (name : List ℕ) (value : Option (List ℕ)) (rows : List Pair) (key : List ℕ) → Rises rows → (name ≡ key → ⊥) → value_of key (made_by name value rows) ≡ value_of key rows
made_by_off name None rows key up other = at_filter (λ k. not (is_eq (key_cmp k name))) key rows up (ap not (uneven key name (λ e. other (sym e))))
made_by_off name (Some value) rows key up other = off_put (name, value) rows key up (λ e. other (tied name key e))

-- ---- changes in turn

pub made_rises : (cs : List Seen) (rows : List Pair) → Rises rows → Rises (made cs rows)
made_rises [] rows up = up
made_rises (c ∷ cs) rows up = made_rises cs (made_by c.0 c.1 rows) (made_by_rises c.0 c.1 rows up)

abbrev At : Bool → List ℕ → Seen → List Seen → Option (Option (List ℕ))
At b key c cs = if b then Some c.1 else change_at key cs

pub change_first : (c : Seen) (cs : List Seen) (key : List ℕ) → c.0 ≡ key → change_at key (c ∷ cs) ≡ Some c.1
change_first c cs key same = ap (λ (o : Ordering). At (is_eq o) key c cs) (tie c.0 key same)

pub change_later : (c : Seen) (cs : List Seen) (key : List ℕ) → (c.0 ≡ key → ⊥) → change_at key (c ∷ cs) ≡ change_at key cs
change_later c cs key other = ap (λ (b : Bool). At b key c cs) (uneven c.0 key other)

pub none_changed : (key : List ℕ) (cs : List Seen) → AllByRecursion (λ d. key ≡ d.0 → ⊥) cs → change_at key cs ≡ None
none_changed key [] h = refl
none_changed key (c ∷ cs) h = change_later c cs key (λ e. h.0 (sym e)) ∙ none_changed key cs h.1

pub value_made : (cs : List Seen) (rows : List Pair) (key : List ℕ) → Rises rows → AreDistinct cs → value_of key (made cs rows) ≡ unwrap_or (change_at key cs) (value_of key rows)
value_made [] rows key up apart = refl
value_made (c ∷ cs) rows key up apart =
    value_made cs (made_by c.0 c.1 rows) key (made_by_rises c.0 c.1 rows up) apart.1
    ∙ elim (same_or_other c.0 key) [
      | inl same ↦
          let free = subst (λ (k : List ℕ). AllByRecursion (λ d. k ≡ d.0 → ⊥) cs) same apart.0 in
          ap (λ (o : Option (Option (List ℕ))). unwrap_or o (value_of key (made_by c.0 c.1 rows))) (none_changed key cs free)
          ∙ subst (λ (k : List ℕ). value_of k (made_by c.0 c.1 rows) ≡ c.1) same (made_by_at c.0 c.1 rows)
          ∙ sym (ap (λ (o : Option (Option (List ℕ))). unwrap_or o (value_of key rows)) (change_first c cs key same))
      | inr other ↦
          ap (unwrap_or (change_at key cs)) (made_by_off c.0 c.1 rows key up other)
          ∙ sym (ap (λ (o : Option (Option (List ℕ))). unwrap_or o (value_of key rows)) (change_later c cs key other))
    ]

pub change_append : (key : List ℕ) (xs ys : List Seen) → change_at key (xs ++ ys) ≡ option_or (change_at key xs) (change_at key ys)
change_append key [] ys = refl
change_append key (x ∷ xs) ys = go (is_eq (key_cmp x.0 key)) (change_append key xs ys)
  where
    go : (b : Bool) → change_at key (xs ++ ys) ≡ option_or (change_at key xs) (change_at key ys) → At b key x (xs ++ ys) ≡ option_or (At b key x xs) (change_at key ys)
    go true later = refl
    go false later = later

pub all_append : {A : Type 0} (P : A → Type 0) (xs ys : List A) → AllByRecursion P xs → AllByRecursion P ys → AllByRecursion P (xs ++ ys)
all_append P [] ys h k = k
all_append P (x ∷ xs) ys h k = (h.0, all_append P xs ys h.1 k)

distinct_append : (xs ys : List Seen) → AreDistinct xs → AreDistinct ys → AllByRecursion (λ x. AllByRecursion (λ d. x.0 ≡ d.0 → ⊥) ys) xs → AreDistinct (xs ++ ys)
distinct_append [] ys p q cross = q
distinct_append (x ∷ xs) ys p q cross = (all_append (λ d. x.0 ≡ d.0 → ⊥) xs ys p.0 cross.0, distinct_append xs ys p.1 q cross.1)

-- what passes a test differs from what does not
crossed : (test : List ℕ → Bool) (xs ys : List Seen) → AllByRecursion (λ x. test x.0 ≡ true) xs → AllByRecursion (λ y. test y.0 ≡ false) ys
    → AllByRecursion (λ x. AllByRecursion (λ d. x.0 ≡ d.0 → ⊥) ys) xs
crossed test xs ys p q = all_weaker (λ x. test x.0 ≡ true) (λ x. AllByRecursion (λ d. x.0 ≡ d.0 → ⊥) ys) xs (λ x passes. all_weaker (λ y. test y.0 ≡ false) (λ d. x.0 ≡ d.0 → ⊥) ys (λ y fails e. let same = ap test e in cc) q) p

-- a key of another sort is changed by none
none_of_sort : (test : List ℕ → Bool) (key : List ℕ) (cs : List Seen) → test key ≡ false → AllByRecursion (λ c. test c.0 ≡ true) cs → change_at key cs ≡ None
none_of_sort test key cs fails all = none_changed key cs (all_weaker (λ c. test c.0 ≡ true) (λ d. key ≡ d.0 → ⊥) cs (λ d passes e. let same = ap test e in cc) all)

pub hidden_unchanged : (key : List ℕ) (cs : List Seen) → AreVisible cs → is_visible key ≡ false → change_at key cs ≡ None
hidden_unchanged key cs free hidden = none_of_sort is_visible key cs hidden free

-- ---- what is noted

notes_kept : (n : ℕ) (rows : List Pair) (cs : List Seen) → AllByRecursion (λ x. is_kept x.0 ≡ true) (map (note n rows) cs)
notes_kept n rows [] = tt
notes_kept n rows (c ∷ cs) = (refl, notes_kept n rows cs)

same_name : (n : ℕ) (a b : List ℕ) → kept_key n a ≡ kept_key n b → a ≡ b
same_name n a b e = sym (name_back n a) ∙ ap kept_name e ∙ name_back n b

notes_apart : (n : ℕ) (rows : List Pair) (a : List ℕ) (cs : List Seen) → AllByRecursion (λ d. a ≡ d.0 → ⊥) cs → AllByRecursion (λ d. kept_key n a ≡ d.0 → ⊥) (map (note n rows) cs)
notes_apart n rows a [] h = tt
notes_apart n rows a (c ∷ cs) h = (λ e. h.0 (same_name n a c.0 e), notes_apart n rows a cs h.1)

notes_distinct : (n : ℕ) (rows : List Pair) (cs : List Seen) → AreDistinct cs → AreDistinct (map (note n rows) cs)
notes_distinct n rows [] h = tt
notes_distinct n rows (c ∷ cs) h = (notes_apart n rows c.0 cs h.0, notes_distinct n rows cs h.1)

-- what is noted of a key that had this value, where it is changed
abbrev pub noted : Option (List ℕ) → Option (Option (List ℕ)) → Option (Option (List ℕ))
noted value None = None
noted value (Some new) = Some (Some (kept_value value))

pub note_at : (n : ℕ) (rows : List Pair) (cs : List Seen) (key : List ℕ) → change_at (kept_key n key) (map (note n rows) cs) ≡ noted (value_of key rows) (change_at key cs)
note_at n rows [] key = refl
note_at n rows (c ∷ cs) key = elim (same_or_other c.0 key) [
  | inl same ↦
      change_first (note n rows c) (map (note n rows) cs) (kept_key n key) (ap (kept_key n) same)
      ∙ ap (λ (k : List ℕ). Some (Some (kept_value (value_of k rows)))) same
      ∙ sym (ap (noted (value_of key rows)) (change_first c cs key same))
  | inr other ↦
      change_later (note n rows c) (map (note n rows) cs) (kept_key n key) (λ e. other (same_name n c.0 key e))
      ∙ note_at n rows cs key
      ∙ sym (ap (noted (value_of key rows)) (change_later c cs key other))
]

-- what is noted is of a visible key
pub note_there : (n : ℕ) (rows : List Pair) (cs : List Seen) (key : List ℕ) (value : Option (List ℕ)) → AreVisible cs → change_at key (map (note n rows) cs) ≡ Some value
    → (name : List ℕ) × (key ≡ kept_key n name) × (value ≡ Some (kept_value (value_of name rows))) × (is_visible name ≡ true)
note_there n rows [] key value free is = absurd cc
note_there n rows (c ∷ cs) key value free is = elim (same_or_other (kept_key n c.0) key) [
  | inl same ↦
      let value_is : value ≡ Some (kept_value (value_of c.0 rows)) = inside (sym is ∙ change_first (note n rows c) (map (note n rows) cs) key same) in
      (c.0, sym same, value_is, free.0)
  | inr other ↦ note_there n rows cs key value free.1 (sym (change_later (note n rows c) (map (note n rows) cs) key other) ∙ is)
]
  where
    inside : Some value ≡ Some (Some (kept_value (value_of c.0 rows))) → value ≡ Some (kept_value (value_of c.0 rows))
    inside e = cc

pub note_other : (n : ℕ) (rows : List Pair) (cs : List Seen) (key : List ℕ) → ((name : List ℕ) → key ≡ kept_key n name → ⊥) → change_at key (map (note n rows) cs) ≡ None
note_other n rows [] key other = refl
note_other n rows (c ∷ cs) key other = change_later (note n rows c) (map (note n rows) cs) key (λ e. other c.0 (sym e)) ∙ note_other n rows cs key other

-- ---- what is removed

abbrev gone : Option (List ℕ) → Option (Option (List ℕ))
gone None = None
gone (Some value) = Some None

removal_at : (ps : List Pair) (key : List ℕ) → Rises ps → change_at key (map removal ps) ≡ gone (value_of key ps)
removal_at [] key up = refl
removal_at (p ∷ ps) key up = elim (same_or_other p.0 key) [
  | inl same ↦
      change_first (removal p) (map removal ps) key same
      ∙ sym (ap gone (subst (λ (k : List ℕ). value_of k (p ∷ ps) ≡ Some p.1) same (value_first p ps)))
  | inr other ↦
      change_later (removal p) (map removal ps) key other
      ∙ removal_at ps key up.1
      ∙ sym (ap gone (passed p ps key up (λ e. other (tied p.0 key e))))
]

removals_apart : (key : List ℕ) (ps : List Pair) → AllByRecursion (λ q. key_cmp key q.0 ≡ Less) ps → AllByRecursion (λ d. key ≡ d.0 → ⊥) (map removal ps)
removals_apart key [] h = tt
removals_apart key (p ∷ ps) h = (λ e. let same = tie key p.0 e in let less = h.0 in cc, removals_apart key ps h.1)

removals_distinct : (ps : List Pair) → Rises ps → AreDistinct (map removal ps)
removals_distinct [] up = tt
removals_distinct (p ∷ ps) up = (removals_apart p.0 ps up.0, removals_distinct ps up.1)

removals_kept : (ps : List Pair) → AllByRecursion (λ p. is_kept p.0 ≡ true) ps → AllByRecursion (λ d. is_kept d.0 ≡ true) (map removal ps)
removals_kept [] h = tt
removals_kept (p ∷ ps) h = (h.0, removals_kept ps h.1)

-- ---- the base

is_based : List ℕ → Bool
is_based [] = false
is_based (first ∷ others) = first == 97

seen_not_based : (key : List ℕ) → is_visible key ≡ true → is_based key ≡ false
unfolding is_based
seen_not_based [] h = refl
seen_not_based (first ∷ others) h = elim (cases_Bool (first == 97)) [
  | inr other ↦ other
  | inl is ↦ elim (cases_Bool (first == 96)) [ inl other ↦ absurd (let e = rw other at h in cc) | inr other ↦ absurd (let e = rw (other, is) at h in cc) ]
]

kept_not_based : (key : List ℕ) → is_kept key ≡ true → is_based key ≡ false
unfolding is_based
kept_not_based [] h = refl
kept_not_based (first ∷ others) h = elim (cases_Bool (first == 97)) [
  | inr other ↦ other
  | inl is ↦ absurd (clash first h is)
]
  where
    clash : (n : ℕ) → (n == 96) ≡ true → (n == 97) ≡ true → ⊥
    clash n p q = search (Rattle.std.proofs.Common.rules)

base_distinct : (b : Bool) (height : ℕ) → AreDistinct (put_base b height)
base_distinct true height = tt
base_distinct false height = (tt, tt)

base_based : (b : Bool) (height : ℕ) → AllByRecursion (λ d. is_based d.0 ≡ true) (put_base b height)
unfolding is_based
base_based true height = tt
base_based false height = (refl, tt)

-- what a put of the base makes of it
abbrev pub base_change : Bool → ℕ → Option (Option (List ℕ))
base_change true height = None
base_change false height = Some (Some (eight_bytes height))

base_at : (b : Bool) (height : ℕ) → change_at base_key (put_base b height) ≡ base_change b height
base_at true height = refl
base_at false height = change_first (base_key, Some (eight_bytes height)) [] base_key refl

-- ---- the changes of a commit in three parts

or_none : (o : Option (Option (List ℕ))) → option_or o None ≡ o
or_none None = refl
or_none (Some x) = refl

abbrev Or3 : Option (Option (List ℕ)) → Option (Option (List ℕ)) → Option (Option (List ℕ)) → Option (Option (List ℕ))
Or3 a b c = option_or a (option_or b c)

three : (key : List ℕ) (xs ys zs : List Seen) → change_at key (xs ++ (ys ++ zs)) ≡ Or3 (change_at key xs) (change_at key ys) (change_at key zs)
three key xs ys zs = change_append key xs (ys ++ zs) ∙ ap (option_or (change_at key xs)) (change_append key ys zs)

not_kept : (cs : List Seen) → AreVisible cs → AllByRecursion (λ c. is_kept c.0 ≡ false) cs
not_kept cs free = all_weaker (λ c. is_visible c.0 ≡ true) (λ c. is_kept c.0 ≡ false) cs (λ c seen. seen_not_kept c.0 seen) free

not_based : (cs : List Seen) → AreVisible cs → AllByRecursion (λ c. is_based c.0 ≡ false) cs
not_based cs free = all_weaker (λ c. is_visible c.0 ≡ true) (λ c. is_based c.0 ≡ false) cs (λ c seen. seen_not_based c.0 seen) free

based_unkept : (key : List ℕ) → is_based key ≡ true → is_kept key ≡ false
based_unkept key based = elim (cases_Bool (is_kept key)) [ inl is ↦ absurd (let other = kept_not_based key is in cc) | inr other ↦ other ]

base_unkept : (b : Bool) (height : ℕ) → AllByRecursion (λ d. is_kept d.0 ≡ false) (put_base b height)
base_unkept b height = all_weaker (λ d. is_based d.0 ≡ true) (λ d. is_kept d.0 ≡ false) (put_base b height) (λ d based. based_unkept d.0 based) (base_based b height)

kept_unbased : (cs : List Seen) → AllByRecursion (λ c. is_kept c.0 ≡ true) cs → AllByRecursion (λ c. is_based c.0 ≡ false) cs
kept_unbased cs all = all_weaker (λ c. is_kept c.0 ≡ true) (λ c. is_based c.0 ≡ false) cs (λ c kept. kept_not_based c.0 kept) all

-- a put of the base changes no other sort of key
pub base_elsewhere : (b : Bool) (height : ℕ) (key : List ℕ) → (key ≡ base_key → ⊥) → change_at key (put_base b height) ≡ None
base_elsewhere true height key other = refl
base_elsewhere false height key other = change_later (base_key, Some (eight_bytes height)) [] key (λ e. other (sym e))

kept_is_not_base : (key : List ℕ) → is_kept key ≡ true → key ≡ base_key → ⊥
kept_is_not_base key kept e = let same = ap is_kept e in cc

seen_is_not_base : (key : List ℕ) → is_visible key ≡ true → key ≡ base_key → ⊥
seen_is_not_base key seen e = let same = ap is_visible e in cc

-- ---- lists of these parts have distinct keys

pub parts_on_distinct : (b : Bool) (last n : ℕ) (rows : List Pair) (cs : List Seen) → AreVisible cs → AreDistinct cs → AreDistinct (put_base b last ++ (map (note n rows) cs ++ cs))
parts_on_distinct b last n rows cs free apart =
    let notes = map (note n rows) cs in
    distinct_append (put_base b last) (notes ++ cs) (base_distinct b last)
    (distinct_append notes cs (notes_distinct n rows cs apart) apart (crossed is_kept notes cs (notes_kept n rows cs) (not_kept cs free)))
    (crossed is_based (put_base b last) (notes ++ cs) (base_based b last) (all_append (λ c. is_based c.0 ≡ false) notes cs (kept_unbased notes (notes_kept n rows cs)) (not_based cs free)))

pub parts_anew_distinct : (kept : List Pair) (b : Bool) (n : ℕ) (cs : List Seen) → Rises kept → AllByRecursion (λ p. is_kept p.0 ≡ true) kept → AreVisible cs → AreDistinct cs
    → AreDistinct (map removal kept ++ (put_base b n ++ cs))
parts_anew_distinct kept b n cs up all free apart =
    distinct_append (map removal kept) (put_base b n ++ cs) (removals_distinct kept up)
    (distinct_append (put_base b n) cs (base_distinct b n) apart (crossed is_based (put_base b n) cs (base_based b n) (not_based cs free)))
    (crossed is_kept (map removal kept) (put_base b n ++ cs) (removals_kept kept all) (all_append (λ c. is_kept c.0 ≡ false) (put_base b n) cs (base_unkept b n) (not_kept cs free)))

-- ---- a commit that goes on

module _ (rows : List Pair) (last n : ℕ) (cs : List Seen) (free : AreVisible cs) where
  abbrev on_base : List Seen
  on_base = put_base (is_some (stored_base rows)) last

  abbrev on_notes : List Seen
  on_notes = map (note n rows) cs

  pub on_distinct : AreDistinct cs → AreDistinct (going_on rows last n cs)
  on_distinct apart = parts_on_distinct (is_some (stored_base rows)) last n rows cs free apart

  pub on_seen : (key : List ℕ) → is_visible key ≡ true → change_at key (going_on rows last n cs) ≡ change_at key cs
  on_seen key seen =
      three key on_base on_notes cs
      ∙ ap (λ (o : Option (Option (List ℕ))). Or3 o (change_at key on_notes) (change_at key cs)) (base_elsewhere (is_some (stored_base rows)) last key (seen_is_not_base key seen))
      ∙ ap (λ (o : Option (Option (List ℕ))). option_or o (change_at key cs)) (none_of_sort is_kept key on_notes (seen_not_kept key seen) (notes_kept n rows cs))

  pub on_kept : (key : List ℕ) → is_kept key ≡ true → is_visible key ≡ false → change_at key (going_on rows last n cs) ≡ change_at key (map (note n rows) cs)
  on_kept key kept hidden =
      three key on_base on_notes cs
      ∙ ap (λ (o : Option (Option (List ℕ))). Or3 o (change_at key on_notes) (change_at key cs)) (base_elsewhere (is_some (stored_base rows)) last key (kept_is_not_base key kept))
      ∙ ap (option_or (change_at key on_notes)) (hidden_unchanged key cs free hidden)
      ∙ or_none (change_at key on_notes)

  pub on_noted : (key : List ℕ) → change_at (kept_key n key) (going_on rows last n cs) ≡ noted (value_of key rows) (change_at key cs)
  on_noted key = on_kept (kept_key n key) refl refl ∙ note_at n rows cs key

  pub on_else : (key : List ℕ) → is_visible key ≡ false → is_kept key ≡ false → (key ≡ base_key → ⊥) → change_at key (going_on rows last n cs) ≡ None
  on_else key hidden unkept other =
      three key on_base on_notes cs
      ∙ ap (λ (o : Option (Option (List ℕ))). Or3 o (change_at key on_notes) (change_at key cs)) (base_elsewhere (is_some (stored_base rows)) last key other)
      ∙ ap (λ (o : Option (Option (List ℕ))). option_or o (change_at key cs)) (none_of_sort is_kept key on_notes unkept (notes_kept n rows cs))
      ∙ hidden_unchanged key cs free hidden

  pub on_based : change_at base_key (going_on rows last n cs) ≡ base_change (is_some (stored_base rows)) last
  on_based =
      three base_key on_base on_notes cs
      ∙ ap (λ (o : Option (Option (List ℕ))). Or3 (change_at base_key on_base) o (change_at base_key cs)) (none_of_sort is_kept base_key on_notes refl (notes_kept n rows cs))
      ∙ ap (option_or (change_at base_key on_base)) (hidden_unchanged base_key cs free refl)
      ∙ or_none (change_at base_key on_base)
      ∙ base_at (is_some (stored_base rows)) last

-- ---- a commit that begins anew

module _ (rows : List Pair) (n : ℕ) (cs : List Seen) (up : Rises rows) (free : AreVisible cs) where
  abbrev new_removals : List Seen
  new_removals = map removal (filter (λ p. is_kept p.0) rows)

  abbrev new_base : List Seen
  new_base = put_base (is_base n (stored_base rows)) n

  all_removals : AllByRecursion (λ d. is_kept d.0 ≡ true) new_removals
  all_removals = removals_kept (filter (λ p. is_kept p.0) rows) (all_pass is_kept rows)

  pub new_distinct : AreDistinct cs → AreDistinct (anew rows n cs)
  new_distinct apart =
      parts_anew_distinct (filter (λ p. is_kept p.0) rows) (is_base n (stored_base rows)) n cs (filter_rises is_kept rows up) (all_pass is_kept rows) free apart

  pub new_seen : (key : List ℕ) → is_visible key ≡ true → change_at key (anew rows n cs) ≡ change_at key cs
  new_seen key seen =
      three key new_removals new_base cs
      ∙ ap (λ (o : Option (Option (List ℕ))). Or3 o (change_at key new_base) (change_at key cs)) (none_of_sort is_kept key new_removals (seen_not_kept key seen) all_removals)
      ∙ ap (λ (o : Option (Option (List ℕ))). option_or o (change_at key cs)) (base_elsewhere (is_base n (stored_base rows)) n key (seen_is_not_base key seen))

  -- what was kept is gone
  pub new_kept : (key : List ℕ) → is_kept key ≡ true → is_visible key ≡ false → unwrap_or (change_at key (anew rows n cs)) (value_of key rows) ≡ None
  new_kept key kept hidden =
      ap (λ (o : Option (Option (List ℕ))). unwrap_or o (value_of key rows)) (
      three key new_removals new_base cs
      ∙ ap (λ (o : Option (Option (List ℕ))). Or3 (change_at key new_removals) o (change_at key cs)) (base_elsewhere (is_base n (stored_base rows)) n key (kept_is_not_base key kept))
      ∙ ap (option_or (change_at key new_removals)) (hidden_unchanged key cs free hidden)
      ∙ or_none (change_at key new_removals)
      ∙ removal_at (filter (λ p. is_kept p.0) rows) key (filter_rises is_kept rows up)
      ∙ ap gone (at_filter is_kept key rows up kept)
      ) ∙ nothing (value_of key rows)
    where
      nothing : (o : Option (List ℕ)) → unwrap_or (gone o) o ≡ None
      nothing None = refl
      nothing (Some value) = refl

  pub new_else : (key : List ℕ) → is_visible key ≡ false → is_kept key ≡ false → (key ≡ base_key → ⊥) → change_at key (anew rows n cs) ≡ None
  new_else key hidden unkept other =
      three key new_removals new_base cs
      ∙ ap (λ (o : Option (Option (List ℕ))). Or3 o (change_at key new_base) (change_at key cs)) (none_of_sort is_kept key new_removals unkept all_removals)
      ∙ ap (λ (o : Option (Option (List ℕ))). option_or o (change_at key cs)) (base_elsewhere (is_base n (stored_base rows)) n key other)
      ∙ hidden_unchanged key cs free hidden

  pub new_based : change_at base_key (anew rows n cs) ≡ base_change (is_base n (stored_base rows)) n
  new_based =
      three base_key new_removals new_base cs
      ∙ ap (λ (o : Option (Option (List ℕ))). Or3 o (change_at base_key new_base) (change_at base_key cs)) (none_of_sort is_kept base_key new_removals refl all_removals)
      ∙ ap (option_or (change_at base_key new_base)) (hidden_unchanged base_key cs free refl)
      ∙ or_none (change_at base_key new_base)
      ∙ base_at (is_base n (stored_base rows)) n
