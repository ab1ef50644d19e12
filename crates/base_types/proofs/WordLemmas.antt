-- Lists of bytes lie as the numbers that their parts spell.
use Rattle.std.proofs.Common.{◌≡◌, ◌∙◌, sym, ap, refl, ℕ, zero, suc, ◌+◌, ◌*◌, ◌<◌, ◌≤◌, List, [], ◌∷◌, length, take, drop, length-drop, ◌&&◌, ◌==◌, arith, nat_eq, get_or-drop, length-take-le, take_all, Ordering, Less, Equal, Greater, nat_cmp, is_eq}
use Rattle.std.specs.{Ordering.{ordering_then, MatchOrdering}, Cmp.{nat_cmp_is, ranks, unsigned_ties, both_tied}}
use Rattle.std.specs.{Cmp.Lexicographic.{pointwise, slice_cmp, texts_ties}, Slice.Scan.big_endian}
use Rattle.hex.specs.Hex.{IsBytes}
use Rattle.base_types.specs.Words.{number_at}

then_again : (a b c : Ordering) → ordering_then (ordering_then a b) c ≡ ordering_then a (ordering_then b c)
then_again Less b c = refl
then_again Equal b c = refl
then_again Greater b c = refl

then_Equal : (a : Ordering) → a ≡ ordering_then a Equal
then_Equal Less = refl
then_Equal Equal = refl
then_Equal Greater = refl

abbrev Lies : ℕ → ℕ → Ordering → Type 0
Lies a b r = MatchOrdering r (a < b) (a ≡ b) (b < a)

lies : (n m x y : ℕ) → x < 256 → y < 256 → (r s : Ordering) → Lies n m r → Lies x y s → Lies (n * 256 + x) (m * 256 + y) (ordering_then r s)
lies n m x y bx by Less s h k = let l : n < m = h in omega arith
lies n m x y bx by Greater s h k = let l : m < n = h in omega arith
lies n m x y bx by Equal Less h k =
    let e : n ≡ m = h in
    let l : x < y = k in omega arith
lies n m x y bx by Equal Equal h k =
    let e : n ≡ m = h in
    let f : x ≡ y = k in omega arith
lies n m x y bx by Equal Greater h k =
    let e : n ≡ m = h in
    let l : y < x = k in omega arith

-- one byte more is told by what came before, and then by the byte
one_more : (n m x y : ℕ) → x < 256 → y < 256 → nat_cmp (n * 256 + x) (m * 256 + y) ≡ ordering_then (nat_cmp n m) (nat_cmp x y)
one_more n m x y bx by = sym (nat_cmp_is (n * 256 + x) (m * 256 + y) _ (lies n m x y bx by (nat_cmp n m) (nat_cmp x y) (ranks n m) (ranks x y)))

numbers_lie : (n m : ℕ) (xs ys : List ℕ) → length xs ≡ length ys → IsBytes xs → IsBytes ys
    → nat_cmp (big_endian n xs) (big_endian m ys) ≡ ordering_then (nat_cmp n m) (slice_cmp nat_cmp xs ys)
numbers_lie n m [] [] e bx by = then_Equal (nat_cmp n m)
numbers_lie n m [] (y ∷ ys) e bx by = absurd (omega (arith, e))
numbers_lie n m (x ∷ xs) [] e bx by = absurd (omega (arith, e))
numbers_lie n m (x ∷ xs) (y ∷ ys) e bx by =
    numbers_lie (n * 256 + x) (m * 256 + y) xs ys (omega arith) (λ k. bx (suc k)) (λ k. by (suc k))
    ∙ ap (λ o. ordering_then o (slice_cmp nat_cmp xs ys)) (one_more n m x y (bx 0) (by 0))
    ∙ then_again (nat_cmp n m) (nat_cmp x y) (slice_cmp nat_cmp xs ys)

-- the order goes by the first bytes, and then by the others
in_parts : (n : ℕ) (xs ys : List ℕ) → n ≤ length xs → n ≤ length ys
    → slice_cmp nat_cmp xs ys ≡ ordering_then (slice_cmp nat_cmp (take n xs) (take n ys)) (slice_cmp nat_cmp (drop n xs) (drop n ys))
in_parts zero xs ys h k = refl
in_parts (suc n) [] ys h k = absurd (omega arith)
in_parts (suc n) (x ∷ xs) [] h k = absurd (omega arith)
in_parts (suc n) (x ∷ xs) (y ∷ ys) h k =
    ap (ordering_then (nat_cmp x y)) (in_parts n xs ys (omega arith) (omega arith))
    ∙ sym (then_again (nat_cmp x y) (slice_cmp nat_cmp (take n xs) (take n ys)) (slice_cmp nat_cmp (drop n xs) (drop n ys)))

abbrev part_order : ℕ → ℕ → List ℕ → List ℕ → Ordering
part_order i n xs ys = nat_cmp (number_at i n xs) (number_at i n ys)

abbrev the_none : List ℕ
the_none = []

bytes_taken : (n : ℕ) (xs : List ℕ) → IsBytes xs → IsBytes (take n xs)
bytes_taken zero xs h k = omega arith
bytes_taken (suc n) [] h k = omega arith
bytes_taken (suc n) (x ∷ xs) h zero = h 0
bytes_taken (suc n) (x ∷ xs) h (suc k) = bytes_taken n xs (λ j. h (suc j)) k

bytes_between : (i n : ℕ) (xs : List ℕ) → IsBytes xs → IsBytes (take n (drop i xs))
bytes_between i n xs h = bytes_taken n (drop i xs) (λ k. rw (get_or-drop i xs k 0) (h (i + k)))

drop_none : (n : ℕ) → drop n (the_none) ≡ the_none
drop_none zero = refl
drop_none (suc n) = refl

drop_drop : (i n : ℕ) (xs : List ℕ) → drop n (drop i xs) ≡ drop (i + n) xs
drop_drop zero n xs = let e : 0 + n ≡ n = omega arith in ap (λ k. drop k xs) (sym e)
drop_drop (suc i) n [] = let e : suc i + n ≡ suc (i + n) = omega arith in drop_none n ∙ ap (λ k. drop k the_none) (sym e)
drop_drop (suc i) n (x ∷ xs) = let e : suc i + n ≡ suc (i + n) = omega arith in drop_drop i n xs ∙ ap (λ k. drop k (x ∷ xs)) (sym e)

part_lies : (i n : ℕ) (xs ys : List ℕ) → i + n ≤ length xs → length xs ≡ length ys → IsBytes xs → IsBytes ys
    → slice_cmp nat_cmp (take n (drop i xs)) (take n (drop i ys)) ≡ part_order i n xs ys
part_lies i n xs ys h e bx by =
    let same : length (take n (drop i xs)) ≡ length (take n (drop i ys)) = omega (arith, length-take-le n (drop i xs), length-take-le n (drop i ys), length-drop i xs, length-drop i ys) in
    sym (numbers_lie 0 0 (take n (drop i xs)) (take n (drop i ys)) same (bytes_between i n xs bx) (bytes_between i n ys by))

-- twenty bytes lie as their three words
pub words_lie : (xs ys : List ℕ) → length xs ≡ 20 → length ys ≡ 20 → IsBytes xs → IsBytes ys
    → ordering_then (part_order 0 8 xs ys) (ordering_then (part_order 8 8 xs ys) (part_order 16 4 xs ys)) ≡ slice_cmp nat_cmp xs ys
words_lie xs ys ex ey bx by =
    let last = λ (zs : List ℕ) (e : length zs ≡ 20). take_all 4 (drop 16 zs) (omega (arith, length-drop 16 zs, e)) ∙ sym (drop_drop 8 8 zs) in
    let third : part_order 16 4 xs ys ≡ slice_cmp nat_cmp (drop 8 (drop 8 xs)) (drop 8 (drop 8 ys)) =
    sym (part_lies 16 4 xs ys (omega (arith, ex)) (ex ∙ sym ey) bx by) ∙ (λ i. slice_cmp nat_cmp (last xs ex i) (last ys ey i)) in
    let second = part_lies 8 8 xs ys (omega (arith, ex)) (ex ∙ sym ey) bx by in
    let first = part_lies 0 8 xs ys (omega (arith, ex)) (ex ∙ sym ey) bx by in
    let later = in_parts 8 (drop 8 xs) (drop 8 ys) (omega (arith, length-drop 8 xs, ex)) (omega (arith, length-drop 8 ys, ey)) in
    let rest : slice_cmp nat_cmp (drop 8 xs) (drop 8 ys) ≡ ordering_then (part_order 8 8 xs ys) (part_order 16 4 xs ys) = later ∙ (λ i. ordering_then (second i) (sym third i)) in
    sym (in_parts 8 xs ys (omega (arith, ex)) (omega (arith, ey)) ∙ (λ i. ordering_then (first i) (rest i)))

-- where two words differ, nothing after them counts
pub differing : (x y : ℕ) (o : Ordering) → (x ≡ y → ⊥) → ordering_then (nat_cmp x y) o ≡ nat_cmp x y
differing x y o n = by (nat_cmp x y) (ranks x y)
  where
    by : (r : Ordering) → Lies x y r → ordering_then r o ≡ r
    by Less h = refl
    by Equal h = absurd (n h)
    by Greater h = refl

pub alike : (x y : ℕ) (o : Ordering) → x ≡ y → ordering_then (nat_cmp x y) o ≡ o
alike x y o e = by (nat_cmp x y) (ranks x y)
  where
    by : (r : Ordering) → Lies x y r → ordering_then r o ≡ o
    by Less h = let l : x < y = h in absurd (omega arith)
    by Equal h = refl
    by Greater h = let l : y < x = h in absurd (omega arith)

-- three words are equal where the bytes are
pub words_equal : (xs ys : List ℕ) → length xs ≡ 20 → length ys ≡ 20 → IsBytes xs → IsBytes ys
    → (((number_at 0 8 xs == number_at 0 8 ys) && (number_at 8 8 xs == number_at 8 8 ys)) && (number_at 16 4 xs == number_at 16 4 ys)) ≡ pointwise nat_eq xs ys
words_equal xs ys ex ey bx by =
    let both = both_tied _ _ (part_order 0 8 xs ys) (part_order 8 8 xs ys) (unsigned_ties (number_at 0 8 xs) (number_at 0 8 ys)) (unsigned_ties (number_at 8 8 xs) (number_at 8 8 ys)) in
    both_tied _ _ (ordering_then (part_order 0 8 xs ys) (part_order 8 8 xs ys)) (part_order 16 4 xs ys) both (unsigned_ties (number_at 16 4 xs) (number_at 16 4 ys))
    ∙ ap is_eq (then_again (part_order 0 8 xs ys) (part_order 8 8 xs ys) (part_order 16 4 xs ys) ∙ words_lie xs ys ex ey bx by) ∙ sym (texts_ties xs ys)
