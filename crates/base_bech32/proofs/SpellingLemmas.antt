-- Spellings are read back, and what is read is spelled by its text.
use Rattle.std.proofs.Common.{◌≡◌, ◌∙◌, sym, ap, refl, subst, ℕ, zero, suc, ◌+◌, ◌-◌, ◌^◌, ◌<◌, ◌≤◌, ◌==◌, ◌&&◌, Bool, true, false, inl, inr, cond, List, [], ◌∷◌, ◌++◌, length, map, slice_index, take, drop, arith, nat_eq, nat_le, slice_set, IsAscii, IfOk, Result, Ok, Err, bytes_eq, eq-eqb, eqb-true, leb-true, append_assoc, drop_at, drop-drop, length-append, length-take-le, take_at, take-append-drop}
use Rattle.std.proofs.lemmas.Bool.{and_parts, or_cases, or_left, Decides.same_from_decides}
use Rattle.std.proofs.lemmas.List.{drop_more, get_or_append_left, length-map, map-append, same_from_push, set_at, take_more}
use Rattle.std.proofs.lemmas.{List.Folds.list_all-append, Slice.Eq.bytes_eq-Decides}
use Rattle.std.specs.List.{list_all, starts_with}
use borrow.Rule.Slice.PartMut.{put_mid}
use Rattle.base_types.specs.Address.{IsAddress}
use Rattle.base_bech32.specs.{Alphabet.{letter_of, value_of, IsValues}, declared.fault.BechFault.BechFault}
use Rattle.base_bech32.specs.declared.fault.BechFault.TheVariants.{Prefix, Length, Sum}
use Rattle.base_bech32.specs.Digits.{digits, number_of, AreDigits}
use Rattle.base_bech32.specs.Reading.{bytes_checked, bytes_of, rest_read, unspelled, values_read, ◌>>=◌}
use Rattle.base_bech32.specs.Spelling.{check_number, check_of, checked_letters, is_plain, is_prefix, is_small_letter, spelling_of, values_of}
use Rattle.base_bech32.proofs.AlphabetLemmas.{letters_are_plain, letters_are_read, letters_back, values_are_read, values_of_text}
use Rattle.base_bech32.proofs.DigitLemmas.{digits_are, digits-number_of, length-digits, number_of-digits, number_of-lt}

-- ---- digits as values and as bytes

below : (base : ℕ) (ds : List ℕ) → 0 < base → AreDigits base ds → (i : ℕ) → slice_index ds i < base
below base [] some h i = some
below base (d ∷ ds) some h zero = h 0 (omega arith)
below base (d ∷ ds) some h (suc i) = below base ds some (λ k l. h (suc k) (omega arith)) i

pub groups_below : (places number : ℕ) → IsValues (digits 32 places number)
groups_below places number = below 32 (digits 32 places number) (omega arith) (digits_are 32 places number (omega arith))

pub values_of-below : (bytes : List ℕ) → IsValues (values_of bytes)
values_of-below bytes = groups_below 32 (number_of 256 bytes)

pub check_of-below : (prefix values : List ℕ) → IsValues (check_of prefix values)
check_of-below prefix values = groups_below 6 (check_number prefix values)

bytes_of-address : (values : List ℕ) → IsAddress (bytes_of values)
bytes_of-address values = (length-digits 256 20 (number_of 32 values), below 256 (bytes_of values) (omega arith) (digits_are 256 20 (number_of 32 values) (omega arith)))

-- the values of an address give it back
pub bytes_of-values_of : (bytes : List ℕ) → IsAddress bytes → bytes_of (values_of bytes) ≡ bytes
bytes_of-values_of bytes h =
    let small : number_of 256 bytes < 32 ^ 32 = subst (λ n. number_of 256 bytes < 256 ^ n) h.0 (number_of-lt 256 bytes (λ k l. h.1 k)) in
    ap (digits 256 20) (number_of-digits 32 32 (number_of 256 bytes) (omega arith) small)
    ∙ (λ i. digits 256 (sym h.0 i) (number_of 256 bytes)) ∙ digits-number_of 256 bytes (λ k l. h.1 k)

-- the address of values gives them back
pub values_of-bytes_of : (values : List ℕ) → length values ≡ 32 → IsValues values → values_of (bytes_of values) ≡ values
values_of-bytes_of values long h =
    let small : number_of 32 values < 256 ^ 20 = subst (λ n. number_of 32 values < 32 ^ n) long (number_of-lt 32 values (λ k l. h k)) in
    ap (digits 32 32) (number_of-digits 256 20 (number_of 32 values) (omega arith) small)
    ∙ (λ i. digits 32 (sym long i) (number_of 32 values)) ∙ digits-number_of 32 values (λ k l. h k)

pub values_taken : (n : ℕ) (xs : List ℕ) → IsValues xs → IsValues (take n xs)
values_taken zero xs h i = omega arith
values_taken (suc n) [] h i = omega arith
values_taken (suc n) (x ∷ xs) h zero = h 0
values_taken (suc n) (x ∷ xs) h (suc i) = values_taken n xs (λ k. h (suc k)) i

pub values_dropped : (n : ℕ) (xs : List ℕ) → IsValues xs → IsValues (drop n xs)
values_dropped zero xs h i = h i
values_dropped (suc n) [] h i = omega arith
values_dropped (suc n) (x ∷ xs) h i = values_dropped n xs (λ k. h (suc k)) i

-- ---- a spelling is read back

both_below : (xs ys : List ℕ) → IsValues xs → IsValues ys → IsValues (xs ++ ys)
both_below [] ys h k i = k i
both_below (x ∷ xs) ys h k zero = h 0
both_below (x ∷ xs) ys h k (suc i) = both_below xs ys (λ j. h (suc j)) k i

begins : (front rest : List ℕ) → starts_with nat_eq (front ++ rest) front ≡ true
begins front rest = ap (λ l. bytes_eq front l) (take_at front rest (length front) refl) ∙ (bytes_eq-Decides front front).1 refl

-- what a text is read as that passes each test
pub read_through : (prefix text values : List ℕ) → starts_with nat_eq text (prefix ++ 49 ∷ []) ≡ true
    → length (drop (length prefix + 1) text) ≡ 38 → values_read (drop (length prefix + 1) text) ≡ Ok values
    → bytes_eq (drop 32 values) (check_of prefix (take 32 values)) ≡ true
    → unspelled prefix text ≡ Ok (bytes_of (take 32 values))
read_through prefix text values starts long read checked =
    let rest = drop (length prefix + 1) text in
    ap (λ b. cond b (rest_read prefix rest) (Err Prefix)) starts
    ∙ ap (λ b. cond b (values_read rest >>= bytes_checked prefix) (Err Length)) (eq-eqb (length rest) 38 long)
    ∙ ap (λ r. r >>= bytes_checked prefix) read
    ∙ ap (λ b. cond b (Ok (bytes_of (take 32 values))) (Err Sum)) checked

pub spelling_is_read : (prefix bytes : List ℕ) → IsAddress bytes → unspelled prefix (spelling_of prefix bytes) ≡ Ok bytes
spelling_is_read prefix bytes h =
    let values = values_of bytes in
    let check = check_of prefix values in
    let front = prefix ++ 49 ∷ [] in
    let letters = checked_letters prefix values in
    let split : spelling_of prefix bytes ≡ front ++ letters = sym (append_assoc prefix (49 ∷ []) letters) in
    let many : length values ≡ 32 = length-digits 32 32 (number_of 256 bytes) in
    let six : length check ≡ 6 = length-digits 32 6 (check_number prefix values) in
    let rest : drop (length prefix + 1) (front ++ letters) ≡ letters = drop_at front letters (length prefix + 1) (length-append prefix (49 ∷ [])) in
    let long : length letters ≡ 38 = length-map (values ++ check) letter_of ∙ length-append values check ∙ omega arith in
    let read : values_read letters ≡ Ok (values ++ check) = letters_are_read (values ++ check) (both_below values check (values_of-below bytes) (check_of-below prefix values)) in
    let first : take 32 (values ++ check) ≡ values = take_at values check 32 many in
    let last : drop 32 (values ++ check) ≡ check = drop_at values check 32 many in
    let checked : bytes_eq (drop 32 (values ++ check)) (check_of prefix (take 32 (values ++ check))) ≡ true =
    (λ i. bytes_eq (last i) (check_of prefix (first i))) ∙ (bytes_eq-Decides check check).1 refl in
    ap (unspelled prefix) split
    ∙ read_through prefix (front ++ letters) (values ++ check) (begins front letters) (ap length rest ∙ long) (ap values_read rest ∙ read) checked
    ∙ ap (λ l. Ok (bytes_of l)) first ∙ ap Ok (bytes_of-values_of bytes h)

-- ---- what is read is spelled

abbrev if_ok : {A : Type 0} → Bool → Result A BechFault → BechFault → Result A BechFault
if_ok b r fault = cond b r (Err fault)

passed : {A : Type 0} (b : Bool) (r : Result A BechFault) (fault : BechFault) (x : A) → if_ok b r fault ≡ Ok x → (b ≡ true) × (r ≡ Ok x)
passed true r fault x e = (refl, e)
passed false r fault x e = absurd (cc e)

went_on : {A B : Type 0} (r : Result A BechFault) (f : A → Result B BechFault) (y : B) → (r >>= f) ≡ Ok y → (x : A) × (r ≡ Ok x) × (f x ≡ Ok y)
went_on (Ok x) f y e = (x, refl, e)
went_on (Err fault) f y e = absurd (cc e)

took : (front text : List ℕ) → starts_with nat_eq text front ≡ true → text ≡ front ++ drop (length front) text
took front text e =
    sym (take-append-drop (length front) text) ∙ ap (λ l. l ++ drop (length front) text) (sym ((bytes_eq-Decides front (take (length front) text)).0 e))

pub reading_is_spelled : (prefix text bytes : List ℕ) → unspelled prefix text ≡ Ok bytes → IsAddress bytes × (text ≡ spelling_of prefix bytes)
reading_is_spelled prefix text bytes e =
    let front = prefix ++ 49 ∷ [] in
    let rest = drop (length prefix + 1) text in
    let one = passed (starts_with nat_eq text front) (rest_read prefix rest) Prefix bytes e in
    let two = passed (length rest == 38) (values_read rest >>= bytes_checked prefix) Length bytes one.1 in
    let three = went_on (values_read rest) (bytes_checked prefix) bytes two.1 in
    let values = three.0 in
    let four = passed (bytes_eq (drop 32 values) (check_of prefix (take 32 values))) (Ok (bytes_of (take 32 values))) Sum bytes three.2 in
    let told = values_are_read rest values three.1 in
    let long : length rest ≡ 38 = eqb-true (length rest) 38 two.0 in
    let many : length values ≡ 38 = ap length told.0 ∙ length-map rest value_of ∙ long in
    let checks : drop 32 values ≡ check_of prefix (take 32 values) = (bytes_eq-Decides (drop 32 values) (check_of prefix (take 32 values))).0 four.0 in
    let address : bytes_of (take 32 values) ≡ bytes = cc four.1 in
    let within : IsValues values = subst IsValues (sym told.0) (values_of_text rest told.1) in
    let again : values_of bytes ≡ take 32 values =
    ap values_of (sym address) ∙ values_of-bytes_of (take 32 values) (length-take-le 32 values (omega (arith, many))) (values_taken 32 values within) in
    let letters : rest ≡ checked_letters prefix (values_of bytes) =
    sym (letters_back rest told.1) ∙ ap (map letter_of) (sym told.0 ∙ sym (take-append-drop 32 values) ∙ ap (λ l. take 32 values ++ l) checks) ∙ ap (checked_letters prefix) (sym again) in
    let length_is : length front ≡ length prefix + 1 = length-append prefix (49 ∷ []) in (
      subst IsAddress address (bytes_of-address (take 32 values)),
      took front text one.0 ∙ ap (λ n. front ++ drop n text) length_is ∙ ap (λ l. front ++ l) letters ∙ append_assoc prefix (49 ∷ []) (checked_letters prefix (values_of bytes)),
    )

pub spelled_if_read : (prefix text : List ℕ) (r : Result (List ℕ) BechFault) → r ≡ unspelled prefix text → IfOk r (λ bytes. text ≡ spelling_of prefix bytes)
spelled_if_read prefix text (Ok bytes) e = (reading_is_spelled prefix text bytes (sym e)).1
spelled_if_read prefix text (Err fault) e = tt

-- ---- the calls

-- a text begins with a prefix and one byte more
pub prefix_tested : (prefix text : List ℕ) (c : ℕ) → length prefix < length text
    → (bytes_eq (take (length prefix) text) prefix && (slice_index text (length prefix) == c)) ≡ starts_with nat_eq text (prefix ++ c ∷ [])
prefix_tested prefix text c h =
    same_from_decides _ _ (one, two) (bytes_eq-Decides (prefix ++ c ∷ []) (take (length (prefix ++ c ∷ [])) text))
  where
    long : length (prefix ++ c ∷ []) ≡ length prefix + 1
    long = length-append prefix (c ∷ [])

    split : take (length (prefix ++ c ∷ [])) text ≡ take (length prefix) text ++ slice_index text (length prefix) ∷ []
    split = ap (λ n. take n text) long ∙ take_more text (length prefix) 0 h

    one : (bytes_eq (take (length prefix) text) prefix && (slice_index text (length prefix) == c)) ≡ true
        → prefix ++ c ∷ [] ≡ take (length (prefix ++ c ∷ [])) text
    one e =
        let parts = and_parts (bytes_eq (take (length prefix) text) prefix) (slice_index text (length prefix) == c) e in
        let front = (bytes_eq-Decides (take (length prefix) text) prefix).0 parts.0 in
        let last = eqb-true (slice_index text (length prefix)) c parts.1 in
        sym (split ∙ (λ i. front i ++ last i ∷ []))

    two : prefix ++ c ∷ [] ≡ take (length (prefix ++ c ∷ [])) text
        → (bytes_eq (take (length prefix) text) prefix && (slice_index text (length prefix) == c)) ≡ true
    two e =
        let both = same_from_push (take (length prefix) text) prefix (slice_index text (length prefix)) c (sym split ∙ sym e) in
        let front = (bytes_eq-Decides (take (length prefix) text) prefix).1 both.0 in
        let last = eq-eqb (slice_index text (length prefix)) c both.1 in
        (λ i. front i && last i)

-- six values are those of a number where they spell it
pub check_agrees : (values : List ℕ) (spelt number : ℕ) → length values ≡ 6 → IsValues values → number < 2 ^ 30
    → spelt ≡ number_of 32 values → (spelt == number) ≡ bytes_eq values (digits 32 6 number)
check_agrees values spelt number long h small e =
    same_from_decides _ _ (one, two) (bytes_eq-Decides values (digits 32 6 number))
  where
    back : digits 32 6 (number_of 32 values) ≡ values
    back = (λ i. digits 32 (sym long i) (number_of 32 values)) ∙ digits-number_of 32 values (λ k l. h k)

    one : (spelt == number) ≡ true → values ≡ digits 32 6 number
    one t = sym back ∙ ap (digits 32 6) (sym e ∙ eqb-true spelt number t)

    two : values ≡ digits 32 6 number → (spelt == number) ≡ true
    two t = eq-eqb spelt number (e ∙ ap (number_of 32) t ∙ number_of-digits 32 6 number (omega arith) small)

-- ---- what is written

-- a part more behind what stands
put_next : (front out part : List ℕ) (n k m : ℕ) → length front ≡ n → n + k ≡ m
    → put_mid n k (front ++ drop n out) part ≡ (front ++ part) ++ drop m out
put_next front out part n k m long sum =
    (λ i. take_at front (drop n out) n long i ++ (part ++ drop k (drop_at front (drop n out) n long i)))
    ∙ ap (λ l. front ++ (part ++ l)) (drop-drop k n out ∙ ap (λ j. drop j out) sum)
    ∙ sym (append_assoc front part (drop m out))

-- the 1 behind the prefix
one_put : (prefix out : List ℕ) (n : ℕ) → length prefix ≡ n → n < length out
    → slice_set (prefix ++ drop n out) n 49 ≡ (prefix ++ 49 ∷ []) ++ drop (n + 1) out
one_put prefix out n long room =
    ap (λ l. slice_set (prefix ++ l) n 49) (drop_more out n 0 room)
    ∙ set_at prefix (slice_index out n) (drop (n + 1) out) 49 n long
    ∙ sym (append_assoc prefix (49 ∷ []) (drop (n + 1) out))

pub all_written : (prefix bytes out values check copied first second : List ℕ) (n : ℕ) → length prefix ≡ n → n + 39 ≤ length out
    → values ≡ values_of bytes → check ≡ check_of prefix (values_of bytes) → copied ≡ prefix
    → first ≡ map letter_of values → second ≡ map letter_of check
    → put_mid (n + 33) (n + 39 - (n + 33)) (put_mid (n + 1) (n + 33 - (n + 1)) (slice_set (copied ++ drop n out) n 49) first) second
    ≡ spelling_of prefix bytes ++ drop (n + 39) out
all_written prefix bytes out values check copied first second n long room ve ce pe fe se =
    let front = prefix ++ 49 ∷ [] in
    let letters = map letter_of (values_of bytes) in
    let checks = map letter_of (check_of prefix (values_of bytes)) in
    let firsts : first ≡ letters = fe ∙ ap (map letter_of) ve in
    let seconds : second ≡ checks = se ∙ ap (map letter_of) ce in
    let begun : length front ≡ n + 1 = length-append prefix (49 ∷ []) ∙ ap (λ k. k + 1) long in
    let many : length letters ≡ 32 = length-map (values_of bytes) letter_of ∙ length-digits 32 32 (number_of 256 bytes) in
    let grown : length (front ++ letters) ≡ n + 33 = length-append front letters ∙ omega arith in
    let whole : spelling_of prefix bytes ≡ (front ++ letters) ++ checks =
    sym (append_assoc prefix (49 ∷ []) (checked_letters prefix (values_of bytes)))
    ∙ ap (λ l. front ++ l) (map-append letter_of (values_of bytes) (check_of prefix (values_of bytes)))
    ∙ sym (append_assoc front letters checks) in
    (λ i. put_mid (n + 33) (n + 39 - (n + 33)) (put_mid (n + 1) (n + 33 - (n + 1)) (slice_set (pe i ++ drop n out) n 49) (firsts i)) (seconds i))
    ∙ ap (λ l. put_mid (n + 33) (n + 39 - (n + 33)) (put_mid (n + 1) (n + 33 - (n + 1)) l letters) checks) (one_put prefix out n long (omega arith))
    ∙ ap (λ l. put_mid (n + 33) (n + 39 - (n + 33)) l checks) (put_next front out letters (n + 1) (n + 33 - (n + 1)) (n + 33) begun (omega arith))
    ∙ put_next (front ++ letters) out checks (n + 33) (n + 39 - (n + 33)) (n + 39) grown (omega arith)
    ∙ ap (λ l. l ++ drop (n + 39) out) (sym whole)

-- ---- the characters of a spelling

small_is_plain : (cs : List ℕ) → list_all is_small_letter cs ≡ true → list_all is_plain cs ≡ true
small_is_plain [] e = refl
small_is_plain (c ∷ cs) e =
    let parts = and_parts (is_small_letter c) (list_all is_small_letter cs) e in
    let here : is_plain c ≡ true = or_left (is_small_letter c) (nat_le 48 c && nat_le c 57) parts.0 in
    (λ i. here i && small_is_plain cs parts.1 i)

pub spelling_is_plain : (prefix bytes : List ℕ) → is_prefix prefix ≡ true → list_all is_plain (spelling_of prefix bytes) ≡ true
spelling_is_plain prefix bytes h =
    let values = values_of bytes in
    let small = (and_parts (nat_le 1 (length prefix) && nat_le (length prefix) 20) (list_all is_small_letter prefix) h).1 in
    let letters = letters_are_plain (values ++ check_of prefix values) (both_below values (check_of prefix values) (values_of-below bytes) (check_of-below prefix values)) in
    list_all-append is_plain prefix (49 ∷ checked_letters prefix values)
    ∙ (λ i. small_is_plain prefix small i && letters i)

plain_is_low : (c : ℕ) → is_plain c ≡ true → c < 128
plain_is_low c e =
    elim (or_cases (is_small_letter c) (nat_le 48 c && nat_le c 57) e) [
      | inl small ↦
          let low : c ≤ 122 = leb-true c 122 (and_parts (nat_le 97 c) (nat_le c 122) small).1 in
          omega arith
      | inr digit ↦
          let low : c ≤ 57 = leb-true c 57 (and_parts (nat_le 48 c) (nat_le c 57) digit).1 in
          omega arith
    ]

plain_is_ascii : (cs : List ℕ) → list_all is_plain cs ≡ true → IsAscii cs
plain_is_ascii [] e i = omega arith
plain_is_ascii (c ∷ cs) e zero = plain_is_low c (and_parts (is_plain c) (list_all is_plain cs) e).0
plain_is_ascii (c ∷ cs) e (suc i) = plain_is_ascii cs (and_parts (is_plain c) (list_all is_plain cs) e).1 i

pub spelling_is_ascii : (prefix bytes : List ℕ) → is_prefix prefix ≡ true → IsAscii (spelling_of prefix bytes)
spelling_is_ascii prefix bytes h = plain_is_ascii (spelling_of prefix bytes) (spelling_is_plain prefix bytes h)

pub length-spelling_of : (prefix bytes : List ℕ) → length (spelling_of prefix bytes) ≡ length prefix + 39
length-spelling_of prefix bytes =
    let values = values_of bytes in
    let letters : length (checked_letters prefix values) ≡ 38 =
    length-map (values ++ check_of prefix values) letter_of ∙ length-append values (check_of prefix values)
    ∙ omega (arith, length-digits 32 32 (number_of 256 bytes), length-digits 32 6 (check_number prefix values)) in
    length-append prefix (49 ∷ checked_letters prefix values) ∙ omega arith

-- the characters that were written are those of the spelling
pub character_is_ascii : (prefix bytes out rest : List ℕ) (i end : ℕ) → is_prefix prefix ≡ true → out ≡ spelling_of prefix bytes ++ rest
    → end ≡ length prefix + 39 → i < end → slice_index out i < 128
character_is_ascii prefix bytes out rest i end h e long within =
    let here : slice_index out i ≡ slice_index (spelling_of prefix bytes) i =
    ap (λ l. slice_index l i) e ∙ get_or_append_left (spelling_of prefix bytes) rest 0 i (omega (arith, length-spelling_of prefix bytes)) in
    let low = spelling_is_ascii prefix bytes h i in
    omega arith

pub prefix_is_short : (prefix : List ℕ) → is_prefix prefix ≡ true → length prefix ≤ 20
prefix_is_short prefix h =
    let parts = and_parts (nat_le 1 (length prefix) && nat_le (length prefix) 20) (list_all is_small_letter prefix) h in
    leb-true (length prefix) 20 (and_parts (nat_le 1 (length prefix)) (nat_le (length prefix) 20) parts.0).1
