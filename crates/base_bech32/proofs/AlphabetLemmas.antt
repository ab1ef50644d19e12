-- Letters and their values: each gives the other back, and the values of letters are read one after the other.
use Rattle.std.proofs.Common.{◌≡◌, ◌∙◌, sym, ap, refl, ℕ, zero, suc, ◌<◌, ◌≤◌, ◌==◌, Bool, true, false, not, cond, List, [], ◌∷◌, length, map, slice_index, take, arith, ◌&&◌, get_or, nat_lt, replicate, Option, Some, None, Ok, Err, eqb-true, lt-ltb, le-ltb, ltb-true, ltb-false, take_all}
use Rattle.std.proofs.lemmas.{Bool.not-false, List.{get_or-replicate, FromFn.get_or-map-range_with_len}}
use Rattle.std.proofs.lemmas.List.Sums.{fails_before_first, passes_at_first, position_or_len_is}
use Rattle.std.specs.List.{list_all, position_or_len, range_with_len}
use Rattle.base_bech32.specs.declared.{alphabet.TheConstants.VALUES, fault.BechFault.TheVariants.Digit}
use Rattle.base_bech32.specs.{Alphabet.{letters, letter_of, value_of, is_letter, IsValues}, Spelling.is_plain}
use Rattle.base_bech32.specs.Reading.{values_or_fault, values_read, wrong_place}

-- ---- the tables

values_are : VALUES ≡ map value_of (range_with_len 0 256)
unfolding value_of
values_are = refl

pub value_at : (c : ℕ) → c < 256 → slice_index VALUES c ≡ value_of c
value_at c h = ap (λ (l : List ℕ). slice_index l c) values_are ∙ get_or-map-range_with_len value_of 0 256 c c 0 h (omega arith)

back : map (λ v. value_of (letter_of v)) (range_with_len 0 32) ≡ range_with_len 0 32
unfolding value_of letter_of
back = refl

pub value_of-letter_of : (v : ℕ) → v < 32 → value_of (letter_of v) ≡ v
value_of-letter_of v h =
    sym (get_or-map-range_with_len (λ n. value_of (letter_of n)) 0 32 v v 0 h (omega arith))
    ∙ ap (λ (l : List ℕ). slice_index l v) (back ∙ ids) ∙ get_or-map-range_with_len (λ n. n) 0 32 v v 0 h (omega arith)
  where
    ids : range_with_len 0 32 ≡ map (λ n. n) (range_with_len 0 32)
    ids = refl

-- the letter at the place of a letter is this letter
pub letter_of-value_of : (c : ℕ) → value_of c < 32 → letter_of (value_of c) ≡ c
unfolding value_of letter_of
letter_of-value_of c h = eqb-true _ _ (passes_at_first (λ l. l == c) letters 0 h)

plain_letters : map (λ v. is_plain (letter_of v)) (range_with_len 0 32) ≡ replicate 32 true
unfolding letter_of
plain_letters = refl

letter_of-plain : (v : ℕ) → v < 32 → is_plain (letter_of v) ≡ true
letter_of-plain v h =
    sym (get_or-map-range_with_len (λ n. is_plain (letter_of n)) 0 32 v v true h (omega arith))
    ∙ ap (λ (l : List Bool). get_or l v true) plain_letters ∙ get_or-replicate 32 v true true h

-- ---- the loop over letters

abbrev is_wrong : ℕ → Bool
is_wrong c = not (is_letter c)

found : (text : List ℕ) (i : ℕ) → position_or_len is_wrong text ≡ i → i < length text → wrong_place text ≡ Some i
found text i e h =
    let within : nat_lt i (length text) ≡ true = lt-ltb i (length text) h in
    rw e (rw within refl)

-- letters at the first places and none at this one
pub wrong_here : (text : List ℕ) (i value : ℕ) → i < length text → ((k : ℕ) → k < i → value_of (slice_index text k) < 32)
    → value ≡ value_of (slice_index text i) → 31 < value → Err (Digit i) ≡ values_read text
wrong_here text i value within before e over =
    let first : position_or_len is_wrong text ≡ i =
    position_or_len_is is_wrong text i 0 (omega arith) (λ k h. ap not (lt-ltb (value_of (slice_index text k)) 32 (before k h)))
    (λ h. ap not (le-ltb (value_of (slice_index text i)) 32 (omega arith))) in
    sym (ap (values_or_fault text) (found text i first within))

pub all_letters : (text : List ℕ) → ((k : ℕ) → k < length text → value_of (slice_index text k) < 32) → wrong_place text ≡ None
all_letters text h =
    let first : position_or_len is_wrong text ≡ length text =
    position_or_len_is is_wrong text (length text) 0 (omega arith) (λ k l. ap not (lt-ltb (value_of (slice_index text k)) 32 (h k l)))
    (λ l. absurd (omega arith)) in
    let past : nat_lt (length text) (length text) ≡ false = le-ltb (length text) (length text) (omega arith) in
    rw first (rw past refl)

-- the values of letters, when all were read
pub values_done : (text values : List ℕ) (i : ℕ) → length text ≡ 38 → length values ≡ 38 → 38 ≤ i → take i values ≡ map value_of (take i text)
    → ((k : ℕ) → k < i → value_of (slice_index text k) < 32) → Ok values ≡ values_read text
values_done text values i long same done inv before =
    let values_are : values ≡ map value_of text = sym (take_all i values (omega arith)) ∙ inv ∙ ap (map value_of) (take_all i text (omega arith)) in
    ap Ok values_are ∙ sym (ap (values_or_fault text) (all_letters text (λ k l. before k (omega arith))))

pub values_of_text : (text : List ℕ) → ((k : ℕ) → k < length text → value_of (slice_index text k) < 32) → IsValues (map value_of text)
values_of_text [] h i = omega arith
values_of_text (c ∷ cs) h zero = h 0 (omega arith)
values_of_text (c ∷ cs) h (suc i) = values_of_text cs (λ k l. h (suc k) (omega arith)) i

pub values_below : (text values : List ℕ) (i : ℕ) → length text ≡ 38 → length values ≡ 38 → 38 ≤ i → take i values ≡ map value_of (take i text)
    → ((k : ℕ) → k < i → value_of (slice_index text k) < 32) → IsValues values
values_below text values i long same done inv before =
    let values_are : values ≡ map value_of text = sym (take_all i values (omega arith)) ∙ inv ∙ ap (map value_of) (take_all i text (omega arith)) in
    rw values_are (values_of_text text (λ k l. before k (omega arith)))

-- what is read of a text is the values of its letters, and each is one
pub values_are_read : (text values : List ℕ) → values_read text ≡ Ok values
    → (values ≡ map value_of text) × ((k : ℕ) → k < length text → value_of (slice_index text k) < 32)
values_are_read text values e = by (wrong_place text) refl e
  where
    none : (b : Bool) → cond b (Some (position_or_len is_wrong text)) None ≡ None → b ≡ false
    none true f = absurd (cc f)
    none false f = refl

    by : (o : Option ℕ) → wrong_place text ≡ o → values_or_fault text o ≡ Ok values
        → (values ≡ map value_of text) × ((k : ℕ) → k < length text → value_of (slice_index text k) < 32)
    by (Some place) w f = absurd (cc f)
    by None w f =
        let past : length text ≤ position_or_len is_wrong text = ltb-false (position_or_len is_wrong text) (length text) (none (nat_lt (position_or_len is_wrong text) (length text)) w) in (
          sym (cc f),
          λ k h. ltb-true (value_of (slice_index text k)) 32 (not-false (is_letter (slice_index text k)) (fails_before_first is_wrong text k 0 (omega arith))),
        )

-- ---- the letters of values

letters_of : (values : List ℕ) → IsValues values → (k : ℕ) → k < length (map letter_of values) → value_of (slice_index (map letter_of values) k) < 32
letters_of [] h k l = absurd (omega arith)
letters_of (v ∷ vs) h zero l = let e = value_of-letter_of v (h 0) in let b : v < 32 = h 0 in omega (arith, e)
letters_of (v ∷ vs) h (suc k) l = letters_of vs (λ i. h (suc i)) k (omega arith)

values_back : (values : List ℕ) → IsValues values → map value_of (map letter_of values) ≡ values
values_back [] h = refl
values_back (v ∷ vs) h = λ i. value_of-letter_of v (h 0) i ∷ values_back vs (λ k. h (suc k)) i

-- the letters of values are read as these
pub letters_are_read : (values : List ℕ) → IsValues values → values_read (map letter_of values) ≡ Ok values
letters_are_read values h =
    ap (values_or_fault (map letter_of values)) (all_letters (map letter_of values) (letters_of values h)) ∙ ap Ok (values_back values h)

-- a text of letters is the letters of its values
pub letters_back : (text : List ℕ) → ((k : ℕ) → k < length text → value_of (slice_index text k) < 32) → map letter_of (map value_of text) ≡ text
letters_back [] h = refl
letters_back (c ∷ cs) h = λ i. letter_of-value_of c (h 0 (omega arith)) i ∷ letters_back cs (λ k l. h (suc k) (omega arith)) i

pub letters_are_plain : (values : List ℕ) → IsValues values → list_all is_plain (map letter_of values) ≡ true
letters_are_plain [] h = refl
letters_are_plain (v ∷ vs) h = λ i. letter_of-plain v (h 0) i && letters_are_plain vs (λ k. h (suc k)) i
