-- Entries and rows as records: what is found under one address, and what a change of both makes of the records.
use Rattle.std.proofs.Common.{◌≡◌, ◌∙◌, ◌⊎◌, inl, inr, ℕ, ◌+◌, ◌/◌, ◌%◌, ◌<◌, ◌==◌, Bool, true, false, cond, List, [], ◌∷◌, length, Option, Some, None, refl, sym, ap, subst, div-add-mod', mod-lt, arith, ◌&&◌, ◌≢◌, option_map, unwrap_or, slice_get, Ordering, Less, Equal, Greater, nat_cmp, is_eq}
use Rattle.std.specs.{BTreeMap.{insert_entry, is_at}, Cmp.{IsTotalOrder, tied_itself, tied_then, on_total, then_total}}
use Rattle.std.specs.{List.{AllByRecursion, Sorted.IsStrictlySortedBy}, Map.keys_of}
use Rattle.std.{specs.Ordering.{match_ordering, ordering_reverse}, proofs.lemmas.Bool.Decides.nat_tests}
use Rattle.std.proofs.lemmas.{Cmp.{nat_list_cmp_total, nat_cmp_total}, Map.Lookups.exact_bytes}
use Rattle.base_types.{specs.Orders.cons_cmp, proofs.MapLemmas.{equal, all-below, at-put}}
use Rattle.base_roles.specs.Entries.{at, number_at}
use Rattle.mod_signing.specs.declared.entry.Entry.{Entry}
use Rattle.mod_signing.specs.Calls.{IsRow, ring_at, ring_if, told_of_entry, told_of_signed}
use Rattle.mod_signing.specs.Kept.{kept_of, signed_of, with_signed}
use Rattle.mod_signing.specs.{Rings.{Rows, is_set, place_set, ring_of, ring_with, row_cmp}, Items.signed_over}
use Rattle.mod_signing.proofs.UptoLemmas.{first_at, first_changed, first_length, first_next, first_same}

pub cons_total : IsTotalOrder cons_cmp
cons_total = nat_list_cmp_total

pub row_total : IsTotalOrder row_cmp
row_total = then_total (on_total (λ (t : ℕ × List ℕ). t.0) nat_cmp_total) (on_total (λ (t : ℕ × List ℕ). t.1) cons_total)

pub cons_exact : (a b : List ℕ) → is_eq (cons_cmp a b) ≡ true → a ≡ b
cons_exact a b h = exact_bytes a b (equal _ h)

same_number : (a b : ℕ) → is_eq (nat_cmp a b) ≡ (a == b)
same_number a b = grind (arith, nat_tests)

-- a row is found where both its number and its address are
pub row_found : (n m : ℕ) (a b : List ℕ) → is_at (row_cmp (n, a)) (m, b) ≡ ((n == m) && is_eq (cons_cmp a b))
row_found n m a b = sym (tied_then (nat_cmp n m) (cons_cmp a b)) ∙ ap (λ t. t && is_eq (cons_cmp a b)) (same_number n m)

-- ---- found

-- the record of an address is its entry over the rows
pub signed_found : (es : List (List ℕ × Entry)) (rows : Rows) (cons : List ℕ) → signed_of (kept_of es rows) cons ≡ option_map (signed_over rows cons) (at cons_cmp es cons)
signed_found [] rows cons = refl
signed_found (e ∷ es) rows cons = by (is_at (cons_cmp cons) e.0) refl (signed_found es rows cons)
  where
    by : (b : Bool) → is_at (cons_cmp cons) e.0 ≡ b → signed_of (kept_of es rows) cons ≡ option_map (signed_over rows cons) (at cons_cmp es cons)
        → cond b (Some (signed_over rows e.0 e.1)) (signed_of (kept_of es rows) cons) ≡ option_map (signed_over rows cons) (cond b (Some e.1) (at cons_cmp es cons))
    by true h later = ap (λ k. Some (signed_over rows k e.1)) (sym (cons_exact cons e.0 h))
    by false h later = later

-- the info and the places of an entry are those of the record
pub entry_found : (es : List (List ℕ × Entry)) (rows : Rows) (cons : List ℕ) → told_of_entry (at cons_cmp es cons) ≡ told_of_signed (signed_of (kept_of es rows) cons)
entry_found es rows cons = by (at cons_cmp es cons) ∙ sym (ap told_of_signed (signed_found es rows cons))
  where
    by : (x : Option Entry) → told_of_entry x ≡ told_of_signed (option_map (signed_over rows cons) x)
    by None = refl
    by (Some e) = ap (λ n. Some (e.info, n)) (sym (first_length (place_set rows cons) e.places))

-- the ring of an address, which has an entry or not
abbrev pub places_if : Option Entry → ℕ
places_if None = 0
places_if (Some e) = e.places

pub ring_found : (es : List (List ℕ × Entry)) (rows : Rows) (cons : List ℕ) → ring_at (kept_of es rows) cons ≡ ring_of rows cons (places_if (at cons_cmp es cons))
ring_found es rows cons = ap ring_if (signed_found es rows cons) ∙ by (at cons_cmp es cons)
  where
    by : (x : Option Entry) → ring_if (option_map (signed_over rows cons) x) ≡ ring_of rows cons (places_if x)
    by None = refl
    by (Some e) = refl

-- a row has the places of the ring that belong to it
pub row_is : (es : List (List ℕ × Entry)) (rows : Rows) (cons : List ℕ) (number : ℕ) → IsRow number (number_at row_cmp rows (number, cons)) (ring_at (kept_of es rows) cons)
row_is es rows cons number place here within =
    let n = places_if (at cons_cmp es cons) in
    let size : length (ring_at (kept_of es rows) cons) ≡ n = ap length (ring_found es rows cons) ∙ first_length (place_set rows cons) n in
    ap (λ r. slice_get r place) (ring_found es rows cons) ∙ first_at (place_set rows cons) n place (omega (arith, within, size))
    ∙ ap (λ k. Some (is_set (number_at row_cmp rows (k, cons)) (place % 128))) here

-- the same of a row that was looked up
pub row_given : (es : List (List ℕ × Entry)) (rows : Rows) (cons : List ℕ) (number : ℕ) (found : Option ℕ) → found ≡ at row_cmp rows (number, cons) → IsRow number (unwrap_or found 0) (ring_at (kept_of es rows) cons)
row_given es rows cons number found e = subst (λ x. IsRow number (unwrap_or x 0) (ring_at (kept_of es rows) cons)) (sym e) (row_is es rows cons number)

-- ---- changed

-- what a row is once one was put
row_put : (rows : Rows) (n m : ℕ) (c d : List ℕ) (w : ℕ) → number_at row_cmp (insert_entry row_cmp rows (n, c) w) (m, d) ≡ cond ((m == n) && is_eq (cons_cmp d c)) w (number_at row_cmp rows (m, d))
row_put rows n m c d w =
    ap (λ x. unwrap_or x 0) (at-put row_cmp row_total rows (n, c) (m, d) w ∙ ap (λ b. cond b (Some w) (at row_cmp rows (m, d))) (row_found m n d c))
    ∙ by ((m == n) && is_eq (cons_cmp d c))
  where
    by : (b : Bool) → unwrap_or (cond b (Some w) (at row_cmp rows (m, d))) 0 ≡ cond b w (unwrap_or (at row_cmp rows (m, d)) 0)
    by true = refl
    by false = refl

and_false : (b : Bool) → b && false ≡ false
and_false true = refl
and_false false = refl

-- a ring of another address stays
pub ring_other : (rows : Rows) (n : ℕ) (c d : List ℕ) (w : ℕ) → is_eq (cons_cmp d c) ≡ false → (places : ℕ) → ring_of (insert_entry row_cmp rows (n, c) w) d places ≡ ring_of rows d places
ring_other rows n c d w h places = first_same (place_set (insert_entry row_cmp rows (n, c) w) d) (place_set rows d) places (λ p l. ap (λ x. is_set x (p % 128)) (same (p / 128)))
  where
    same : (m : ℕ) → number_at row_cmp (insert_entry row_cmp rows (n, c) w) (m, d) ≡ number_at row_cmp rows (m, d)
    same m = row_put rows n m c d w ∙ ap (λ b. cond b w (number_at row_cmp rows (m, d))) (ap (λ b. (m == n) && b) h ∙ and_false (m == n))

-- the rows of other addresses are as they were
abbrev pub OthersStay : List ℕ → Rows → Rows → Type 0
OthersStay cons old new = (other : List ℕ) → is_eq (cons_cmp other cons) ≡ false → (places : ℕ) → ring_of new other places ≡ ring_of old other places

not_equal : (a b : List ℕ) (r : Ordering) → cons_cmp a b ≡ r → is_eq (ordering_reverse r) ≡ false → is_eq (cons_cmp b a) ≡ false
not_equal a b r e h = ap is_eq (cons_total.antisymm b a ∙ ap ordering_reverse e) ∙ h

module _ (cons : List ℕ) (old new : Rows) (stay : OthersStay cons old new) where
  record_stays : (e : List ℕ × Entry) → is_eq (cons_cmp e.0 cons) ≡ false → signed_over new e.0 e.1 ≡ signed_over old e.0 e.1
  record_stays e h = ap (λ r. record { info = e.1.info; ring = r }) (stay e.0 h e.1.places)

  -- what lies above the address stays
  above_stay : (es : List (List ℕ × Entry)) → AllByRecursion (λ y. cons_cmp cons y ≡ Less) (keys_of es) → kept_of es new ≡ kept_of es old
  above_stay [] h = refl
  above_stay (e ∷ es) h =
      let first = record_stays e (not_equal cons e.0 Less h.0 refl) in
      let rest = above_stay es h.1 in
      (λ i. (e.0, first i) ∷ rest i)

  -- an entry that is put is a record that is put
  pub kept_put : (es : List (List ℕ × Entry)) (e : Entry) → IsStrictlySortedBy cons_cmp (keys_of es) → kept_of (insert_entry cons_cmp es cons e) new ≡ with_signed cons (signed_over new cons e) (kept_of es old)
  unfolding IsStrictlySortedBy
  kept_put [] e s = refl
  kept_put (a ∷ es) e s = by (cons_cmp cons a.0) refl (kept_put es e s.1)
    where
      by : (r : Ordering) → cons_cmp cons a.0 ≡ r → kept_of (insert_entry cons_cmp es cons e) new ≡ with_signed cons (signed_over new cons e) (kept_of es old)
          → kept_of (match_ordering r ((cons, e) ∷ a ∷ es) ((a.0, e) ∷ es) (a ∷ insert_entry cons_cmp es cons e)) new
          ≡ match_ordering r ((cons, signed_over new cons e) ∷ kept_of (a ∷ es) old) ((a.0, signed_over new cons e) ∷ kept_of es old) ((a.0, signed_over old a.0 a.1) ∷ insert_entry cons_cmp (kept_of es old) cons (signed_over new cons e))
      by Less p later = ap (λ t. (cons, signed_over new cons e) ∷ t) (above_stay (a ∷ es) (p, all-below cons_cmp cons_total cons a.0 (keys_of es) p s.0))
      by Equal p later =
          let same : cons ≡ a.0 = cons_exact cons a.0 (ap is_eq p) in
          let rest : kept_of es new ≡ kept_of es old = above_stay es (subst (λ k. AllByRecursion (λ y. cons_cmp k y ≡ Less) (keys_of es)) (sym same) s.0) in
          (λ i. (a.0, signed_over new (sym same i) e) ∷ rest i)
      by Greater p later =
          let first = record_stays a (not_equal cons a.0 Greater p refl) in
          (λ i. (a.0, first i) ∷ later i)

-- the places of a row that is put, and those of other rows
module _ (rows : Rows) (cons : List ℕ) (number next : ℕ) where
  itself : is_eq (cons_cmp cons cons) ≡ true
  itself = ap is_eq (tied_itself cons_total cons)

  pub same_row : (q : ℕ) → q / 128 ≡ number → place_set (insert_entry row_cmp rows (number, cons) next) cons q ≡ is_set next (q % 128)
  same_row q e = ap (λ x. is_set x (q % 128)) (row_put rows number (q / 128) cons cons next ∙ ap (λ t. cond t next (number_at row_cmp rows (q / 128, cons))) both)
    where
      equal_numbers : (q / 128 == number) ≡ true
      equal_numbers = grind (arith, nat_tests, e)

      both : ((q / 128 == number) && is_eq (cons_cmp cons cons)) ≡ true
      both = (λ i. equal_numbers i && itself i)

  pub other_row : (q : ℕ) → q / 128 ≢ number → place_set (insert_entry row_cmp rows (number, cons) next) cons q ≡ place_set rows cons q
  other_row q ne = ap (λ x. is_set x (q % 128)) (row_put rows number (q / 128) cons cons next ∙ ap (λ t. cond (t && is_eq (cons_cmp cons cons)) next (number_at row_cmp rows (q / 128, cons))) unequal)
    where
      unequal : (q / 128 == number) ≡ false
      unequal = grind (arith, nat_tests, ne)

-- ---- a vote

-- Another row with a vote at a place, and else as it was, gives the ring with that vote.
module _ (rows : Rows) (cons : List ℕ) (n place row next : ℕ) (b : Bool)
    (is : IsRow (place / 128) row (ring_of rows cons n)) (here : is_set next (place % 128) ≡ b)
    (others : (other : ℕ) → other < 128 → other ≢ place % 128 → is_set next other ≡ is_set row other) where
  abbrev then_rows : Rows
  then_rows = insert_entry row_cmp rows (place / 128, cons) next

  pub place_is : place_set then_rows cons place ≡ b
  place_is = same_row rows cons (place / 128) next place refl ∙ here

  other_place : (q : ℕ) → q / 128 ≡ place / 128 → q ≢ place → q % 128 ≢ place % 128
  other_place q e ne f = ne (omega (arith, div-add-mod' q 128, div-add-mod' place 128, e, f))

  pub place_stays : (q : ℕ) → q < n → q ≢ place → place_set then_rows cons q ≡ place_set rows cons q
  place_stays q l ne = by (equal_or (q / 128) (place / 128))
    where
      equal_or : (a c : ℕ) → (a ≡ c) ⊎ (a ≢ c)
      equal_or a c = grind arith

      some_is : {A : Type 0} (x y : A) → Some x ≡ Some y → x ≡ y
      some_is x y e = cc

      by : (q / 128 ≡ place / 128) ⊎ (q / 128 ≢ place / 128) → place_set then_rows cons q ≡ place_set rows cons q
      by (inl e) =
          same_row rows cons (place / 128) next q e ∙ others (q % 128) (mod-lt q (omega arith)) (other_place q e ne)
          ∙ some_is (is_set row (q % 128)) (place_set rows cons q)
          (sym (is q e (omega (arith, l, first_length (place_set rows cons) n))) ∙ first_at (place_set rows cons) n q l)
      by (inr u) = other_row rows cons (place / 128) next q u

  -- at a place of the ring
  pub voted_within : place < n → ring_of then_rows cons n ≡ ring_with place b (ring_of rows cons n)
  voted_within l = first_changed (place_set rows cons) (place_set then_rows cons) n place l place_stays ∙ ap (λ c. ring_with place c (ring_of rows cons n)) place_is

  -- at the next place behind its last
  pub voted_behind : place ≡ n → ring_of then_rows cons (n + 1) ≡ ring_with place b (ring_of rows cons n)
  voted_behind e =
      first_next (place_set rows cons) (place_set then_rows cons) n (λ q l. place_stays q l (below q l))
      ∙ ap (λ k. ring_with k (place_set then_rows cons k) (ring_of rows cons n)) (sym e) ∙ ap (λ c. ring_with place c (ring_of rows cons n)) place_is
    where
      below : (q : ℕ) → q < n → q ≢ place
      below q l f = absurd (omega (arith, l, f, e))
