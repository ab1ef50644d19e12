-- Keys of the rows of a history.
use Rattle.std.proofs.Common.{◌≡◌, ◌∙◌, inl, inr, ℕ, zero, suc, ◌/◌, ◌%◌, ◌^◌, ◌<◌, true, false, List, [], ◌∷◌, ◌++◌, drop, length, take, refl, sym, ap, ap₂, arith, ◌==◌, Ordering, Less, Equal, Greater, nat_cmp}
use Rattle.std.specs.{Int.{byte_at, bytes_high_first}, Ordering.{MatchOrdering, ordering_then}, Cmp.nat_cmp_is}
use Rattle.std.proofs.{lemmas.{Cmp.ranked, Nat.from_be_bytes-to_be_bytes_8}, Math.Nat.{div-div-eq-div-mul, pow-suc}}
use Rattle.std.proofs.lemmas.Bool.{cases_Bool}
use Rattle.base_io.specs.{Changes.IsReserved, Rows.key_cmp}
use Rattle.store_history.specs.History.{Begins, eight_bytes, is_visible, kept_height, kept_key, kept_name, number_in}
use Rattle.store_history.specs.Commits.{is_kept}

-- ---- numbers in order

then_assoc : (a b c : Ordering) → ordering_then (ordering_then a b) c ≡ ordering_then a (ordering_then b c)
then_assoc Less b c = refl
then_assoc Equal b c = refl
then_assoc Greater b c = refl

then_equal : (a : Ordering) → ordering_then a Equal ≡ a
then_equal Less = refl
then_equal Equal = refl
then_equal Greater = refl

-- fields of one length come one after the other
append_cmp : (a b x y : List ℕ) → length a ≡ length b → key_cmp (a ++ x) (b ++ y) ≡ ordering_then (key_cmp a b) (key_cmp x y)
append_cmp [] [] x y h = refl
append_cmp [] (b ∷ bs) x y h = absurd (omega (arith, h))
append_cmp (a ∷ more) [] x y h = absurd (omega (arith, h))
append_cmp (a ∷ more) (b ∷ bs) x y h =
    ap (λ (o : Ordering). ordering_then (nat_cmp a b) o) (append_cmp more bs x y (omega (arith, h))) ∙ sym (then_assoc (nat_cmp a b) (key_cmp more bs) (key_cmp x y))

-- the last digit decides where all before it are the same
digit : (m n : ℕ) (o : Ordering) → o ≡ nat_cmp (m / 256) (n / 256) → ordering_then o (nat_cmp (m % 256) (n % 256)) ≡ nat_cmp m n
digit m n o e = nat_cmp_is m n _ (go o (nat_cmp (m % 256) (n % 256)) (ranked (m / 256) (n / 256) o e) (ranked (m % 256) (n % 256) _ refl))
  where
    go : (o p : Ordering) → MatchOrdering o (m / 256 < n / 256) (m / 256 ≡ n / 256) (n / 256 < m / 256) → MatchOrdering p (m % 256 < n % 256) (m % 256 ≡ n % 256) (n % 256 < m % 256)
        → MatchOrdering (ordering_then o p) (m < n) (m ≡ n) (n < m)
    go Less p h k = omega (arith, h)
    go Equal Less h k = omega (arith, h, k)
    go Equal Equal h k = omega (arith, h, k)
    go Equal Greater h k = omega (arith, h, k)
    go Greater p h k = omega (arith, h)

byte_is : (j n : ℕ) → byte_at j n ≡ n / 256 ^ j % 256
byte_is zero n = omega arith
byte_is (suc j) n = refl

-- the digits above some bytes, and then those bytes
above : (j m n : ℕ) → ordering_then (nat_cmp (m / 256 ^ j) (n / 256 ^ j)) (key_cmp (bytes_high_first j m) (bytes_high_first j n)) ≡ nat_cmp m n
above zero m n =
    let one : (x : ℕ) → x / 1 ≡ x = λ x. omega arith in
    then_equal (nat_cmp (m / 1) (n / 1)) ∙ ap₂ nat_cmp (one m) (one n)
above (suc j) m n =
    let up : (x : ℕ) → x / 256 ^ suc j ≡ x / 256 ^ j / 256 = λ x. ap (λ (k : ℕ). x / k) (pow-suc 256 j) ∙ sym (div-div-eq-div-mul x (256 ^ j) 256) in
    let rest = key_cmp (bytes_high_first j m) (bytes_high_first j n) in
    let more = nat_cmp (m / 256 ^ suc j) (n / 256 ^ suc j) in
    ap (λ (o : Ordering). ordering_then more (ordering_then o rest)) (ap₂ nat_cmp (byte_is j m) (byte_is j n))
    ∙ sym (then_assoc more (nat_cmp (m / 256 ^ j % 256) (n / 256 ^ j % 256)) rest)
    ∙ ap (λ (o : Ordering). ordering_then o rest) (digit (m / 256 ^ j) (n / 256 ^ j) _ (ap₂ nat_cmp (up m) (up n)))
    ∙ above j m n

-- numbers of eight bytes
eight_cmp : (m n : ℕ) → m < 2 ^ 64 → n < 2 ^ 64 → key_cmp (eight_bytes m) (eight_bytes n) ≡ nat_cmp m n
unfolding eight_bytes
eight_cmp m n small below =
    let high : (x : ℕ) → x < 2 ^ 64 → x / 256 ^ 8 ≡ 0 = λ x h. omega (arith, h) in
    sym (ap (λ (o : Ordering). ordering_then o (key_cmp (eight_bytes m) (eight_bytes n))) (ap₂ nat_cmp (high m small) (high n below))) ∙ above 8 m n

pub eight_long : (n : ℕ) → length (eight_bytes n) ≡ 8
unfolding eight_bytes
eight_long n = refl

pub number_back : (n : ℕ) → n < 2 ^ 64 → number_in (eight_bytes n) ≡ n
unfolding eight_bytes number_in
number_back n small = from_be_bytes-to_be_bytes_8 n small

-- ---- keys that keep

front : (n : ℕ) (key : List ℕ) → take 8 (drop 1 (kept_key n key)) ≡ eight_bytes n
unfolding eight_bytes
front n key = refl

pub height_back : (n : ℕ) (key : List ℕ) → n < 2 ^ 64 → kept_height (kept_key n key) ≡ n
height_back n key small = ap number_in (front n key) ∙ number_back n small

pub name_back : (n : ℕ) (key : List ℕ) → kept_name (kept_key n key) ≡ key
unfolding eight_bytes
name_back n key = refl

-- keys of two heights go by the height
pub heights_cmp : (m n : ℕ) (a b : List ℕ) → m < n → n < 2 ^ 64 → key_cmp (kept_key m a) (kept_key n b) ≡ Less
heights_cmp m n a b less small =
    append_cmp (eight_bytes m) (eight_bytes n) a b (eight_long m ∙ sym (eight_long n))
    ∙ ap (λ (o : Ordering). ordering_then o (key_cmp a b)) (eight_cmp m n (omega (arith, less, small)) small ∙ sym (nat_cmp_is m n Less less))

-- ---- the sorts of keys

is_byte : (first byte : ℕ) → (first == byte) ≡ true → first ≡ byte
is_byte first byte h = search (Rattle.std.proofs.Common.rules)

pub begins_kept : (key : List ℕ) → Begins 96 key → is_kept key ≡ true
begins_kept [] h = absurd h
begins_kept (first ∷ others) h = rw h refl

pub kept_begins : (key : List ℕ) → is_kept key ≡ true → Begins 96 key
kept_begins [] h = absurd cc
kept_begins (first ∷ others) h = is_byte first 96 h

pub seen_not_kept : (key : List ℕ) → is_visible key ≡ true → is_kept key ≡ false
seen_not_kept [] h = refl
seen_not_kept (first ∷ others) h = elim (cases_Bool (first == 96)) [ inl is ↦ absurd (let e = rw is at h in cc) | inr other ↦ other ]

pub kept_not_seen : (key : List ℕ) → is_kept key ≡ true → is_visible key ≡ false
kept_not_seen [] h = absurd cc
kept_not_seen (first ∷ others) h = rw h refl

pub free_is_seen : (key : List ℕ) → (IsReserved key → ⊥) → is_visible key ≡ true
free_is_seen [] free = refl
free_is_seen (first ∷ others) free = elim (cases_Bool (first == 96)) [
  | inl is ↦ absurd (free (inl (is_byte first 96 is)))
  | inr other ↦ elim (cases_Bool (first == 97)) [ inl is ↦ absurd (free (inr (is_byte first 97 is))) | inr not_base ↦ rw (other, not_base) refl ]
]

pub based_not_kept : (key : List ℕ) → Begins 97 key → is_kept key ≡ false
based_not_kept [] h = absurd h
based_not_kept (first ∷ others) h = rw h refl

pub based_not_seen : (key : List ℕ) → Begins 97 key → is_visible key ≡ false
based_not_seen [] h = absurd h
based_not_seen (first ∷ others) h = rw h refl
