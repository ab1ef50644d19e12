-- Numbers and their digits: each gives the other back, and digits are written part by part.
use Rattle.std.proofs.Common.{◌≡◌, ◌∙◌, sym, ap, refl, subst, ℕ, zero, suc, ◌+◌, ◌-◌, ◌*◌, ◌/◌, ◌%◌, ◌^◌, ◌<◌, ◌≤◌, List, [], ◌∷◌, ◌++◌, length, slice_index, slice_set, take, drop, arith, append_assoc, append-nil, length-append, length-set, length-take-le, length-drop, take-append-drop, take-take, div-add-mod'}
use Rattle.std.proofs.lemmas.Int.Digits.{number_after_append, number_push, number_more, number_lt}
use Rattle.std.proofs.lemmas.{List.{drop-set, drop-take}, Slice.take-put_mid}
use Rattle.std.proofs.lemmas.Nat.{div-mul-add, mod-mul-add, div_below, mod_below}
use Rattle.std.proofs.Math.Nat.{pow-suc, pow-zero, pow-le-pow_right}
use Rattle.std.specs.Int.Digits.{number_from_digits_after, AllBelowBase}
use borrow.Rule.Slice.PartMut.{put_mid}
use Rattle.base_bech32.specs.Digits.{digits, number_of, AreDigits}

-- ---- a number and its digits

pub length-digits : (base places number : ℕ) → length (digits base places number) ≡ places
unfolding digits
length-digits base zero number = refl
length-digits base (suc places) number =
    length-append (digits base places (number / base)) (number % base ∷ []) ∙ omega (arith, length-digits base places (number / base))

below : (base : ℕ) (ds : List ℕ) → AreDigits base ds → AllBelowBase base ds
below base [] h = tt
below base (d ∷ ds) h = (h 0 (omega arith), below base ds (λ i k. h (suc i) (omega arith)))

digits_below : (base : ℕ) (ds : List ℕ) → AllBelowBase base ds → AreDigits base ds
digits_below base [] h i k = absurd (omega arith)
digits_below base (d ∷ ds) h zero k = h.0
digits_below base (d ∷ ds) h (suc i) k = digits_below base ds h.1 i (omega arith)

pub number_of-lt : (base : ℕ) (ds : List ℕ) → AreDigits base ds → number_of base ds < base ^ length ds
number_of-lt base ds h = number_lt base ds (below base ds h)

-- the digits of a number spell it
pub number_of-digits : (base places number : ℕ) → 0 < base → number < base ^ places → number_of base (digits base places number) ≡ number
unfolding digits
number_of-digits base zero number some h = omega (arith, pow-zero base)
number_of-digits base (suc places) number some h =
    let less : number < base ^ places * base = omega (arith, pow-suc base places) in
    number_push base (digits base places (number / base)) (number % base)
    ∙ ap (λ n. n * base + number % base) (number_of-digits base places (number / base) some (div_below number base (base ^ places) some less))
    ∙ div-add-mod' number base

-- digits behind a number are the last digits of what they spell together
pub digits-number_after : (base places number : ℕ) (ds : List ℕ) → AreDigits base ds
    → digits base (places + length ds) (number_from_digits_after base number ds) ≡ digits base places number ++ ds
unfolding digits
digits-number_after base places number [] h =
    let same : places + 0 ≡ places = omega arith in
    ap (λ n. digits base n number) same ∙ sym (append-nil (digits base places number))
digits-number_after base places number (d ∷ ds) h =
    let here : d < base = h 0 (omega arith) in
    let more : places + suc (length ds) ≡ suc places + length ds = omega arith in
    let quotient : (number * base + d) / base ≡ number = div-mul-add number base d here in
    let rest : (number * base + d) % base ≡ d = mod-mul-add number base d here in
    ap (λ n. digits base n (number_from_digits_after base (number * base + d) ds)) more
    ∙ digits-number_after base (suc places) (number * base + d) ds (λ i k. h (suc i) (omega arith))
    ∙ (λ i. (digits base places (quotient i) ++ rest i ∷ []) ++ ds)
    ∙ append_assoc (digits base places number) (d ∷ []) ds

-- the number of digits has these digits
pub digits-number_of : (base : ℕ) (ds : List ℕ) → AreDigits base ds → digits base (length ds) (number_of base ds) ≡ ds
unfolding digits
digits-number_of base ds h =
    let same : 0 + length ds ≡ length ds = omega arith in
    ap (λ n. digits base n (number_of base ds)) (sym same) ∙ digits-number_after base 0 0 ds h

split_step : (n b d p q m x : ℕ) → q ≡ p * b → x ≡ (0 * b + d) * p + m → (n * b + d) * p + m ≡ n * q + x
split_step n b d p q m x e f = rw (e, f) (omega arith)

number_after_split : (base number : ℕ) (ds : List ℕ) → number_from_digits_after base number ds ≡ number * base ^ length ds + number_of base ds
number_after_split base number [] =
    let one : base ^ 0 ≡ 1 = pow-zero base in
    let same : number ≡ number * 1 + 0 = omega arith in
    same ∙ ap (λ n. number * n + 0) (sym one)
number_after_split base number (d ∷ ds) =
    number_after_split base (number * base + d) ds
    ∙ split_step number base d (base ^ length ds) (base ^ suc (length ds)) (number_of base ds) (number_of base (d ∷ ds)) (pow-suc base (length ds)) (number_after_split base (0 * base + d) ds)

pub digits_are : (base places number : ℕ) → 0 < base → AreDigits base (digits base places number)
unfolding digits
digits_are base places number some = digits_below base (digits base places number) (all places number)
  where
    pushed : (ds : List ℕ) (d : ℕ) → AllBelowBase base ds → d < base → AllBelowBase base (ds ++ d ∷ [])
    pushed [] d h k = (k, tt)
    pushed (e ∷ ds) d h k = (h.0, pushed ds d h.1 k)

    all : (places number : ℕ) → AllBelowBase base (digits base places number)
    all zero number = tt
    all (suc places) number = pushed (digits base places (number / base)) (number % base) (all places (number / base)) (mod_below number base some)

-- the digits of a number that has two parts
pub digits_joined : (base places more front back : ℕ) → 0 < base → back < base ^ more
    → digits base (places + more) (front * base ^ more + back) ≡ digits base places front ++ digits base more back
digits_joined base places more front back some h =
    let ds = digits base more back in
    let long : length ds ≡ more = length-digits base more back in
    let spelt : number_from_digits_after base front ds ≡ front * base ^ more + back =
    number_after_split base front ds ∙ (λ i. front * base ^ long i + number_of-digits base more back some h i) in
    ap (digits base (places + more)) (sym spelt)
    ∙ ap (λ n. digits base (places + n) (number_from_digits_after base front ds)) (sym long)
    ∙ digits-number_after base places front ds (digits_are base more back some)

digits_taken : (base : ℕ) (ds : List ℕ) (n : ℕ) → AreDigits base ds → AreDigits base (take n ds)
digits_taken base ds zero h k l = absurd (omega arith)
digits_taken base [] (suc n) h k l = absurd (omega arith)
digits_taken base (d ∷ ds) (suc n) h zero l = h 0 (omega arith)
digits_taken base (d ∷ ds) (suc n) h (suc k) l = digits_taken base ds n (λ j m. h (suc j) (omega arith)) k (omega arith)

digits_dropped : (base : ℕ) (ds : List ℕ) (n : ℕ) → AreDigits base ds → AreDigits base (drop n ds)
digits_dropped base ds zero h k l = h k l
digits_dropped base [] (suc n) h k l = absurd (omega arith)
digits_dropped base (d ∷ ds) (suc n) h k l = digits_dropped base ds n (λ j m. h (suc j) (omega arith)) k l

-- a part of digits is digits
pub digits_within : (base : ℕ) (ds : List ℕ) (from many : ℕ) → AreDigits base ds → AreDigits base (take many (drop from ds))
digits_within base ds from many h = digits_taken base (drop from ds) many (digits_dropped base ds from h)

-- ---- the loops

-- one digit more fits
pub number_fits : (base : ℕ) (ds : List ℕ) (i number : ℕ) → AreDigits base ds → base ^ length ds < 2 ^ 64 → i < length ds
    → number ≡ number_of base (take i ds) → number * base + slice_index ds i < 2 ^ 64
number_fits base ds i number h fits within inv =
    let some : 0 < base = let d : slice_index ds i < base = h i within in omega arith in
    let front : AreDigits base (take (i + 1) ds) = digits_taken base ds (i + 1) h in
    let long : length (take (i + 1) ds) ≡ i + 1 = length-take-le (i + 1) ds (omega arith) in
    let less : number_of base (take (i + 1) ds) < base ^ (i + 1) = subst (λ n. number_of base (take (i + 1) ds) < base ^ n) long (number_of-lt base (take (i + 1) ds) front) in
    let wide : base ^ (i + 1) ≤ base ^ length ds = pow-le-pow_right some (omega arith) in
    let more = number_more base ds i within in
    let same : number * base ≡ number_of base (take i ds) * base = ap (λ n. n * base) inv in
    omega (arith, more, same, less, wide, fits)

-- one digit more is put before those that stand
pub digit_put : (base : ℕ) (out : List ℕ) (i rest number : ℕ) → i < length out
    → digits base (length out - i) rest ++ drop (length out - i) out ≡ digits base (length out) number
    → (let put = slice_set out (length out - 1 - i) (rest % base) in
    digits base (length put - (i + 1)) (rest / base) ++ drop (length put - (i + 1)) put ≡ digits base (length put) number)
unfolding digits
digit_put base out i rest number within inv =
    let put = slice_set out (length out - 1 - i) (rest % base) in
    let long : length put ≡ length out = length-set out (length out - 1 - i) (rest % base) in
    let place : length put - (i + 1) ≡ length out - 1 - i = omega arith in
    let next : suc (length out - 1 - i) ≡ length out - i = omega arith in
    let after : length out - 1 - i + 1 ≡ length out - i = omega arith in
    let split : drop (length out - 1 - i) put ≡ rest % base ∷ drop (length out - i) out =
    drop-set out (length out - 1 - i) (rest % base) (omega arith) ∙ ap (λ n. rest % base ∷ drop n out) after in
    (λ i. digits base (place i) (rest / base) ++ drop (place i) put)
    ∙ ap (λ l. digits base (length out - 1 - i) (rest / base) ++ l) split
    ∙ sym (append_assoc (digits base (length out - 1 - i) (rest / base)) (rest % base ∷ []) (drop (length out - i) out))
    ∙ ap (λ n. digits base n rest ++ drop (length out - i) out) next
    ∙ inv
    ∙ ap (λ n. digits base n number) (sym long)

pub digits_put : (base number rest i : ℕ) (out was : List ℕ) → length was ≤ i → length out ≡ length was
    → digits base (length out - i) rest ++ drop (length out - i) out ≡ digits base (length out) number
    → out ≡ digits base (length was) number
unfolding digits
digits_put base number rest i out was done long inv =
    let none : length out - i ≡ 0 = omega arith in
    sym (λ k. digits base (none k) rest ++ drop (none k) out) ∙ inv ∙ ap (λ n. digits base n number) long

-- one part more of a list of digits in one base is put as digits in another
pub part_put : (a p b q : ℕ) (xs ys part : List ℕ) (i k m : ℕ) → 0 < b → a ^ p ≡ b ^ q → m ≡ p → k ≡ q
    → p * i + p ≤ length xs → q * i + q ≤ length ys → AreDigits a xs
    → part ≡ digits b q (number_of a (take m (drop (p * i) xs)))
    → take (q * i) ys ≡ digits b (q * i) (number_of a (take (p * i) xs))
    → take (q * (i + 1)) (put_mid (q * i) k ys part) ≡ digits b (q * (i + 1)) (number_of a (take (p * (i + 1)) xs))
part_put a p b q xs ys part i k m some same long wide room space ds written inv =
    let front = take (p * i) xs in
    let back = take p (drop (p * i) xs) in
    let here : p * (i + 1) ≡ p * i + p = omega arith in
    let there : q * (i + 1) ≡ q * i + q = omega arith in
    let lengths : length back ≡ p = length-take-le p (drop (p * i) xs) (omega (arith, length-drop (p * i) xs)) in
    let halves : take (p * i + p) xs ≡ front ++ back = sym (take-append-drop (p * i) (take (p * i + p) xs)) ∙ (λ k. take-take (p * i) (p * i + p) xs (omega arith) k ++ drop-take (p * i) p xs k) in
    let whole : number_of a (take (p * i + p) xs) ≡ number_of a front * b ^ q + number_of a back =
    ap (number_of a) halves ∙ number_after_append a 0 front back ∙ number_after_split a (number_of a front) back
    ∙ ap (λ n. number_of a front * a ^ n + number_of a back) lengths ∙ ap (λ n. number_of a front * n + number_of a back) same in
    let small : number_of a back < b ^ q = subst (λ n. number_of a back < n) (ap (λ n. a ^ n) lengths ∙ same) (number_of-lt a back (digits_within a xs (p * i) p ds)) in
    let grown : part ≡ digits b q (number_of a back) = written ∙ ap (λ n. digits b q (number_of a (take n (drop (p * i) xs)))) long in
    let put : take (q * i + q) (put_mid (q * i) k ys part) ≡ take (q * i) ys ++ part =
    take-put_mid (q * i) k ys part (q * i + q) (omega (arith, ap length grown, length-digits b q (number_of a back))) (omega arith) in
    ap (λ n. take n (put_mid (q * i) k ys part)) there ∙ put ∙ (λ k. inv k ++ grown k)
    ∙ sym (digits_joined b (q * i) q (number_of a front) (number_of a back) some small)
    ∙ ap (digits b (q * i + q)) (sym whole)
    ∙ (λ k. digits b (sym there k) (number_of a (take (sym here k) xs)))

pub length-part_put : (a k n : ℕ) (xs ys : List ℕ) → a + k ≤ length xs → length ys ≡ k → length xs ≡ n → length (put_mid a k xs ys) ≡ n
length-part_put a k n xs ys within same long =
    length-append (take a xs) (ys ++ drop k (drop a xs))
    ∙ omega (arith, length-append ys (drop k (drop a xs)), length-take-le a xs (omega arith), length-drop k (drop a xs), length-drop a xs)
