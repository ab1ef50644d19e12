-- What loops over places keep: of a ring that is compared, counted, or written row by row.
use Rattle.std.proofs.Common.{◌≡◌, ◌∙◌, ◌⊎◌, inl, inr, ℕ, ◌+◌, ◌-◌, ◌*◌, ◌/◌, ◌%◌, ◌<◌, ◌≤◌, Bool, true, false, cond, List, [], ◌∷◌, length, take, min, get_or, Option, Some, None, refl, sym, ap, subst, below_more, div-add-mod', mod-lt, arith, zero, suc, ◌≢◌, slice_get, unwrap_or, ext_get_or}
use Rattle.std.{specs.BTreeMap.insert_entry, proofs.lemmas.{List.take_more, Nat.mod-mul-add}}
use Rattle.base_table.specs.Tabled.{Tabled, TellsSettled, value_at}
use Rattle.base_roles.specs.Entries.{number_at}
use Rattle.rule_modules.specs.Amounts.{count_where}
use Rattle.mod_signing.{specs.Rings.{Rows, firsts, is_set, place_set, ring_of, row_cmp}, proofs.InfoLemmas.got}
use Rattle.mod_signing.proofs.{RingLemmas.count_of_join, TableLemmas.{other_row, same_row}}
use Rattle.mod_signing.proofs.UptoLemmas.{first_at, first_length, first_same}

some_is : {A : Type 0} (x y : A) → Some x ≡ Some y → x ≡ y
some_is x y e = cc

-- ---- a ring that is compared, from its end

-- from a place on, so many places are as they were settled
abbrev pub StayFrom : Rows → Rows → List ℕ → ℕ → ℕ → Type 0
StayFrom settled rows cons left places = (p : ℕ) → left ≤ p → p < places → place_set settled cons p ≡ place_set rows cons p

pub stay_at_end : (settled rows : Rows) (cons : List ℕ) (places : ℕ) → StayFrom settled rows cons places places
stay_at_end settled rows cons places p h l = absurd (omega (arith, h, l))

pub stay_all : (settled rows : Rows) (cons : List ℕ) (places : ℕ) → StayFrom settled rows cons 0 places → ring_of settled cons places ≡ ring_of rows cons places
stay_all settled rows cons places h = first_same (place_set settled cons) (place_set rows cons) places (λ p l. h p (omega arith) l)

pub stay_not : (settled rows : Rows) (cons : List ℕ) (places p : ℕ) → p < places → (place_set settled cons p ≡ place_set rows cons p → ⊥) → ring_of settled cons places ≡ ring_of rows cons places → ⊥
stay_not settled rows cons places p l differ e =
    differ (some_is (place_set settled cons p) (place_set rows cons p)
    (sym (first_at (place_set settled cons) places p l) ∙ ap (λ r. slice_get r p) e ∙ first_at (place_set rows cons) places p l))

-- the last row that is left, of which so many places are
module _ (left : ℕ) (some : 0 < left) where
  abbrev number : ℕ
  number = (left - 1) / 128

  abbrev last : ℕ
  last = (left - 1) % 128 + 1

  pub last_row : number * 128 + last ≡ left
  last_row = omega (arith, some, div-add-mod' (left - 1) 128)

  pub last_few : last ≤ 128
  last_few = let l : (left - 1) % 128 < 128 = mod-lt (left - 1) (omega arith) in omega (arith, l)

  -- a place of that row
  place_of : (q : ℕ) → q < last → ((number * 128 + q) / 128 ≡ number) × ((number * 128 + q) % 128 ≡ q)
  place_of q l =
      let below : q < 128 = omega (arith, l, last_few) in
      let rest : (number * 128 + q) % 128 ≡ q = mod-mul-add number 128 q below in
      (omega (arith, rest, div-add-mod' (number * 128 + q) 128), rest)

  place_is : (rows : Rows) (cons : List ℕ) (q : ℕ) → q < last → place_set rows cons (number * 128 + q) ≡ is_set (number_at row_cmp rows (number, cons)) q
  place_is rows cons q l = let parts = place_of q l in λ i. is_set (number_at row_cmp rows (parts.0 i, cons)) (parts.1 i)

  pub stay_more : (settled rows : Rows) (cons : List ℕ) (places : ℕ) → StayFrom settled rows cons left places
      → ((q : ℕ) → q < last → is_set (number_at row_cmp settled (number, cons)) q ≡ is_set (number_at row_cmp rows (number, cons)) q)
      → StayFrom settled rows cons (left - last) places
  stay_more settled rows cons places h agree p from l = by (either p left)
    where
      either : (a c : ℕ) → (a < c) ⊎ (c ≤ a)
      either a c = grind arith

      by : (p < left) ⊎ (left ≤ p) → place_set settled cons p ≡ place_set rows cons p
      by (inr m) = h p m l
      by (inl b) =
          let q_is : number * 128 + (p - number * 128) ≡ p = omega (arith, from, last_row) in
          let q_less : p - number * 128 < last = omega (arith, b, last_row, from) in
          subst (λ k. place_set settled cons k ≡ place_set rows cons k) q_is
          (place_is settled cons (p - number * 128) q_less ∙ agree (p - number * 128) q_less ∙ sym (place_is rows cons (p - number * 128) q_less))

  pub stay_differs : (settled rows : Rows) (cons : List ℕ) (places q : ℕ) → left ≤ places → q < last
      → (is_set (number_at row_cmp settled (number, cons)) q ≡ is_set (number_at row_cmp rows (number, cons)) q → ⊥)
      → ring_of settled cons places ≡ ring_of rows cons places → ⊥
  stay_differs settled rows cons places q within l differ =
      stay_not settled rows cons places (number * 128 + q) (omega (arith, within, l, last_row))
      (λ e. differ (sym (place_is settled cons q l) ∙ e ∙ place_is rows cons q l))

-- ---- a ring that is counted

pub one_most : (b : Bool) → cond b 1 0 ≤ 1
one_most true = omega arith
one_most false = omega arith

-- one place more
pub count_more : (ring : List Bool) (place : ℕ) (b : Bool) → place < length ring → slice_get ring place ≡ Some b
    → count_where (λ x. x) (take (place + 1) ring) ≡ count_where (λ x. x) (take place ring) + cond b 1 0
count_more ring place b l e =
    let last : ◌≡◌ {A = ℕ} (cond (get_or ring place false) 1 0) (cond b 1 0) = ap (λ x. cond x 1 0) (got ring place b e) in
    ap (count_where (λ x. x)) (take_more ring place false l) ∙ count_of_join (take place ring) (get_or ring place false ∷ []) ∙ omega (arith, last)

-- ---- a row that is written

-- what stands at a place
here_is : (votes : List Bool) (n : ℕ) (d : Bool) → n < length votes → slice_get votes n ≡ Some (get_or votes n d)
here_is [] n d l = absurd (omega (arith, l))
here_is (v ∷ votes) zero d l = refl
here_is (v ∷ votes) (suc n) d l = here_is votes n d (omega (arith, l))

-- so many places of a row are those of a list of votes from a place on
abbrev pub IsWritten : List Bool → ℕ → ℕ → ℕ → Type 0
IsWritten votes from places row = (q : ℕ) → q < places → slice_get votes (from + q) ≡ Some (is_set row q)

-- one place more
pub written_more : (votes : List Bool) (from places row next : ℕ) (d : Bool) → IsWritten votes from places row → is_set next places ≡ get_or votes (from + places) d
    → ((other : ℕ) → other < 128 → other ≢ places → is_set next other ≡ is_set row other) → places < 128 → from + places < length votes → IsWritten votes from (places + 1) next
written_more votes from places row next d w here others few within = below_more (λ q. slice_get votes (from + q) ≡ Some (is_set next q)) places
    (λ q l. w q l ∙ ap Some (sym (others q (omega (arith, l, few)) (unlike q places l))))
    (here_is votes (from + places) d within ∙ ap Some (sym here))
  where
    unlike : (a c : ℕ) → a < c → a ≢ c
    unlike a c l f = absurd (omega (arith, l, f))

-- ---- a ring that is written

-- the places before this one are those of the ring
abbrev pub IsBegun : Rows → List ℕ → List Bool → ℕ → Type 0
IsBegun rows cons ring from = (p : ℕ) → p < from → slice_get ring p ≡ Some (place_set rows cons p)

-- all of them are
pub begun_all : (rows : Rows) (cons : List ℕ) (ring : List Bool) → IsBegun rows cons ring (length ring) → ring_of rows cons (length ring) ≡ ring
begun_all rows cons ring h = same (place_set rows cons) ring h
  where
    same : (f : ℕ → Bool) (xs : List Bool) → ((p : ℕ) → p < length xs → slice_get xs p ≡ Some (f p)) → firsts f (length xs) ≡ xs
    same f xs g = ext_get_or false (firsts f (length xs)) xs (first_length f (length xs))
        (λ p l. let m : p < length xs = omega (arith, l, first_length f (length xs)) in
        got (firsts f (length xs)) p (f p) (first_at f (length xs) p m) ∙ sym (got xs p (f p) (g p m)))

-- the next row of it
pub begun_more : (rows : Rows) (cons : List ℕ) (ring : List Bool) (from some row : ℕ) → from % 128 ≡ 0 → some ≤ 128 → IsBegun rows cons ring from → IsWritten ring from some row
    → IsBegun (insert_entry row_cmp rows (from / 128, cons) row) cons ring (from + some)
begun_more rows cons ring from some row whole few b w p l = by (either p from)
  where
    either : (a c : ℕ) → (a < c) ⊎ (c ≤ a)
    either a c = grind arith

    from_is : from / 128 * 128 ≡ from
    from_is = omega (arith, div-add-mod' from 128, whole)

    before : p < from → p / 128 ≢ from / 128
    before m e = absurd (omega (arith, div-add-mod' p 128, e, from_is, m))

    by : (p < from) ⊎ (from ≤ p) → slice_get ring p ≡ Some (place_set (insert_entry row_cmp rows (from / 128, cons) row) cons p)
    by (inl m) = b p m ∙ ap Some (sym (other_row rows cons (from / 128) row p (before m)))
    by (inr m) =
        let q_less : p - from < some = omega (arith, m, l) in
        let below : p - from < 128 = omega (arith, q_less, few) in
        let p_is : p ≡ from / 128 * 128 + (p - from) = omega (arith, from_is, m) in
        let rest : p % 128 ≡ p - from = ap (λ k. k % 128) p_is ∙ mod-mul-add (from / 128) 128 (p - from) below in
        let number_is : p / 128 ≡ from / 128 = omega (arith, div-add-mod' p 128, rest, from_is, m) in
        let at_from : from + (p - from) ≡ p = omega (arith, m) in
        ap (slice_get ring) (sym at_from) ∙ w (p - from) q_less ∙ ap (λ k. Some (is_set row k)) (sym rest) ∙ ap Some (sym (same_row rows cons (from / 128) row p number_is))

-- a row ends with its last place, or with that of the ring
pub next_whole : (from some places : ℕ) → from % 128 ≡ 0 → from ≤ places → some ≡ min 128 (places - from) → ((from + some) % 128 ≡ 0) ⊎ (from + some ≡ places)
next_whole from some places whole within is = by (either 128 (places - from))
  where
    either : (a c : ℕ) → (a ≤ c) ⊎ (c < a)
    either a c = grind arith

    by : (128 ≤ places - from) ⊎ (places - from < 128) → ((from + some) % 128 ≡ 0) ⊎ (from + some ≡ places)
    by (inl l) =
        let full : some ≡ 128 = omega (arith, is, l) in
        let sum : from + some ≡ (from / 128 + 1) * 128 + 0 = omega (arith, div-add-mod' from 128, whole, full) in
        inl (ap (λ k. k % 128) sum ∙ mod-mul-add (from / 128 + 1) 128 0 (omega arith))
    by (inr l) = inr (omega (arith, is, l, within))

-- where places are left, the ring is read or written up to a whole row
pub still_whole : (from places : ℕ) → (from % 128 ≡ 0) ⊎ (from ≡ places) → from < places → from % 128 ≡ 0
still_whole from places (inl e) l = e
still_whole from places (inr e) l = absurd (omega (arith, e, l))

-- ---- a row that was settled

pub row-listed_as : (t : Tabled (ℕ × List ℕ) ℕ) → TellsSettled row_cmp t → (key : ℕ × List ℕ) (was : Option ℕ) → Some was ≡ value_at row_cmp t.touched key → unwrap_or was 0 ≡ number_at row_cmp t.settled key
row-listed_as t tells key was e = ap (λ x. unwrap_or x 0) (sym (tells.listed key was (sym e)))

pub row-unlisted : (t : Tabled (ℕ × List ℕ) ℕ) → TellsSettled row_cmp t → (key : ℕ × List ℕ) → None ≡ value_at row_cmp t.touched key → number_at row_cmp t.entries key ≡ number_at row_cmp t.settled key
row-unlisted t tells key e = ap (λ x. unwrap_or x 0) (sym (tells.others key (sym e)))
