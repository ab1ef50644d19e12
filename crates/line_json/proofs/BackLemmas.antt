-- Values are read from what is written of them: numbers, names and addresses; and whole trees, whose texts are UTF-8.
use Rattle.std.{specs.{Result.result_ok, List.AllByRecursion}, proofs.lemmas.Bool.and_parts}
use Rattle.std.proofs.lemmas.Fmt.{decimal_is_IsNumeral_wide, length-decimal-le_wide, IsAscii-decimal}
use Rattle.std.proofs.lemmas.{List.Elements.{All-append, All-cons, All-nil}, Str.{IsUtf8-append, IsUtf8-from_ascii}}
use Rattle.std.proofs.lemmas.Str.Ascii.{IsAscii-from_all}
use Rattle.std.proofs.Common.{IsUtf8, ◌≡◌, ℕ, zero, suc, ◌+◌, ◌/◌, ◌%◌, ◌^◌, ◌<◌, ◌≤◌, ◌==◌, ◌&&◌, nat_lt, Bool, true, false, List, [], ◌∷◌, ◌++◌, All, map, cond, Some, None, Option, option_and_then, Result, Ok, decimal, refl, ap, ◌∙◌, arith, ltb-true}
use Rattle.json.{proofs.Printed.Utf8.{are_ascii, IsUtf8-are_ascii, IsUtf8-quoted}, specs.Print.quoted}
use Rattle.serde_json.specs.Data.{Data, boolean, number, unsigned, string, array, object, Items, no_items, item, Members, no_members, member, put}
use Rattle.serde_json.specs.{Find.{get, as_array}, Read.max_depth, View.items_of}
use Rattle.serde_json.specs.Written.{compact_text, comma_if, items_text, members_text}
use Rattle.base_decimals.proofs.Inverse.{number_some}
use Rattle.base_types.specs.{Address.IsAddress, Calendar.{date_of, end_of_time}, Denom.{denom_of, is_denom}}
use Rattle.base_types.specs.Modules.{module_of, user_from, user_or_none}
use Rattle.base_types.specs.Moment.{clock_text, date_text, digits, fraction_text, moment_text, two}
use Rattle.base_types.proofs.{AddressLemmas.address_of-address_text, DateLemmas.{bounds_of, date_of-is}}
use Rattle.base_types.proofs.{DigitLemmas.address_text_is_utf8, MomentLemmas.{quotient_below, rest_below}}
use Rattle.base_bech32.specs.{declared.form.Form.{Form, TheVariants.{Hex, Bech32}}, Spelling.is_prefix}
use Rattle.base_bech32.proofs.SpellingLemmas.{spelling_is_ascii, spelling_is_read}
use Rattle.base_coins.specs.Steps.{◌>>=◌}
use Rattle.base_messages.specs.declared.faults.LineFault.{LineFault, TheVariants.BadShape}
use Rattle.line_json.specs.Addresses.{account_prefix, bytes_in, bytes_text, operator_in, operator_prefix, operator_text, user_in, user_text}
use Rattle.line_json.specs.{Members.{amount_of, member_at}, Nested.{each_element, list_at, with_front}}
use Rattle.line_json.{specs.Reading.{or_fault, tree_of}, proofs.ReadingLemmas.{are_digits_model, tree_found}}
use Rattle.line_json.proofs.WrittenLemmas.{AreElements, AreMembers, IsPlain, array_plain, count_plain, deeper, no_element, no_member, object_plain, one_element, one_member, read_written, string_plain}

-- ---- numbers and names

pub amount_is_read : (n : ℕ) → n < 10 ^ 38 → amount_of (decimal n) ≡ Some n
amount_is_read n small =
    let is = decimal_is_IsNumeral_wide n (omega (arith, small)) in
    number_some 38 (decimal n) is.0.0 (length-decimal-le_wide 38 n (omega arith) small (omega (arith, small))) (are_digits_model.from (decimal n) is.0.1)
    ∙ ap Some is.1

pub denom_is_read : (name : List ℕ) → is_denom name ≡ true → denom_of name ≡ Some name
denom_is_read name h = ap (λ b. cond b (Some name) None) h

-- ---- addresses

pub bytes_back : (f : Form) (prefix bytes : List ℕ) → IsAddress bytes → bytes_in f prefix (bytes_text f prefix bytes) ≡ Some bytes
bytes_back Hex prefix bytes h = address_of-address_text bytes h
bytes_back Bech32 prefix bytes h = ap result_ok (spelling_is_read prefix bytes h)

pub user_back : (f : Form) (bytes : List ℕ) → IsAddress bytes → module_of bytes ≡ None → user_in f (user_text f bytes) ≡ Some bytes
user_back f bytes h none = ap (option_and_then user_from) (bytes_back f account_prefix bytes h) ∙ ap (user_or_none bytes) none

pub operator_back : (f : Form) (bytes : List ℕ) → IsAddress bytes → module_of bytes ≡ None → operator_in f (operator_text f bytes) ≡ Some bytes
operator_back f bytes h none = ap (option_and_then user_from) (bytes_back f operator_prefix bytes h) ∙ ap (user_or_none bytes) none

pub bytes_text_is_utf8 : (f : Form) (prefix bytes : List ℕ) → is_prefix prefix ≡ true → IsUtf8 (bytes_text f prefix bytes)
bytes_text_is_utf8 Hex prefix bytes h = address_text_is_utf8 bytes
bytes_text_is_utf8 Bech32 prefix bytes h = IsUtf8-from_ascii _ (spelling_is_ascii prefix bytes h)

-- ---- moments

abbrev IsSmall : ℕ → Type 0
IsSmall byte = byte < 128

small : (b : ℕ) → nat_lt b 128 ≡ true → IsSmall b
small b e = ltb-true b 128 e

two_small : (n : ℕ) → n < 100 → All IsSmall (two n)
two_small n h =
    let high : 48 + n / 10 < 128 = omega (arith, h) in
    let low : 48 + n % 10 < 128 = omega arith in
    All-cons IsSmall (48 + n / 10) ((48 + n % 10) ∷ []) high (All-cons IsSmall (48 + n % 10) [] low (All-nil IsSmall))

digit_small : (d : ℕ) → d < 10 → IsSmall (48 + d)
digit_small d h = omega (arith, h)

digits_small : (p n : ℕ) → n < 10 ^ p → All IsSmall (digits p n)
digits_small zero n h = All-nil IsSmall
digits_small (suc p) n h = by (n == 0) (digits_small p (n % 10 ^ p) (rest_below n p))
  where
    by : (b : Bool) → All IsSmall (digits p (n % 10 ^ p)) → All IsSmall (cond b [] ((48 + n / 10 ^ p) ∷ digits p (n % 10 ^ p)))
    by true rest = All-nil IsSmall
    by false rest = All-cons IsSmall (48 + n / 10 ^ p) (digits p (n % 10 ^ p)) (digit_small (n / 10 ^ p) (quotient_below n p h)) rest

fraction_small : (n : ℕ) → n < 10 ^ 9 → All IsSmall (fraction_text n)
fraction_small n h = by (n == 0)
  where
    by : (b : Bool) → All IsSmall (cond b [] (46 ∷ digits 9 n))
    by true = All-nil IsSmall
    by false = All-cons IsSmall 46 (digits 9 n) (small 46 refl) (digits_small 9 n h)

-- a mark, and two digits
marked_small : (mark n : ℕ) → nat_lt mark 128 ≡ true → n < 100 → All IsSmall (mark ∷ two n)
marked_small mark n e h = All-cons IsSmall mark (two n) (small mark e) (two_small n h)

date_small : (date : ℕ × ℕ × ℕ) → (date.0 < 10000) × (date.1 < 100) × (date.2 < 100) → All IsSmall (date_text date)
date_small (y, m, d) b =
    let high : y / 100 < 100 = omega (arith, b.0) in
    let low : y % 100 < 100 = omega arith in
    let year : List ℕ = two (y / 100) ++ two (y % 100) in
    All-append IsSmall (year ++ 45 ∷ two m) (45 ∷ two d)
    (All-append IsSmall year (45 ∷ two m) (All-append IsSmall (two (y / 100)) (two (y % 100)) (two_small (y / 100) high) (two_small (y % 100) low)) (marked_small 45 m refl b.1))
    (marked_small 45 d refl b.2)

clock_small : (s : ℕ) → s < 86400 → All IsSmall (84 ∷ clock_text s)
clock_small s h =
    let hours : s / 3600 < 100 = omega (arith, h) in
    let minutes : s / 60 % 60 < 100 = omega arith in
    let seconds : s % 60 < 100 = omega arith in
    All-cons IsSmall 84 (clock_text s) (small 84 refl)
    (All-append IsSmall (two (s / 3600) ++ 58 ∷ two (s / 60 % 60)) (58 ∷ two (s % 60))
    (All-append IsSmall (two (s / 3600)) (58 ∷ two (s / 60 % 60)) (two_small (s / 3600) hours) (marked_small 58 (s / 60 % 60) refl minutes))
    (marked_small 58 (s % 60) refl seconds))

-- the parts of a moment's text
parts_small : (date : ℕ × ℕ × ℕ) (s part : ℕ) → (date.0 < 10000) × (date.1 < 100) × (date.2 < 100) → s < 86400 → part < 10 ^ 9
    → IsUtf8 (date_text date ++ 84 ∷ clock_text s ++ fraction_text part ++ 90 ∷ [])
parts_small date s part hd hs hp =
    let day : List ℕ = date_text date ++ 84 ∷ clock_text s in
    let all : List ℕ = day ++ fraction_text part ++ 90 ∷ [] in
    IsUtf8-from_ascii all (IsAscii-from_all all
    (All-append IsSmall (day ++ fraction_text part) (90 ∷ [])
    (All-append IsSmall day (fraction_text part) (All-append IsSmall (date_text date) (84 ∷ clock_text s) (date_small date hd) (clock_small s hs)) (fraction_small part hp))
    (All-cons IsSmall 90 [] (small 90 refl) (All-nil IsSmall))))

pub moment_text_is_utf8 : (nanos : ℕ) → nanos < end_of_time → IsUtf8 (moment_text nanos)
unfolding moment_text
moment_text_is_utf8 nanos h =
    let day : nanos / 86400000000000 ≤ 2932896 = omega (arith, h) in
    let second : nanos / 1000000000 % 86400 < 86400 = omega arith in
    let part : nanos % 1000000000 < 1000000000 = omega arith in
    parts_small (date_of (nanos / 86400000000000)) (nanos / 1000000000 % 86400) (nanos % 1000000000)
    (bounds_of (nanos / 86400000000000) (date_of (nanos / 86400000000000)) (date_of-is (nanos / 86400000000000) day)) second part

-- ---- trees

-- a tree that nests no deeper, is read back from its text, and whose text is UTF-8
pub record IsBack (k : ℕ) (d : Data) : Type 0 where
  pub plain : IsPlain k d
  pub utf8 : IsUtf8 (compact_text d)

-- elements of which each is
pub record AreBack (k : ℕ) (ds : Items) : Type 0 where
  pub elements : AreElements k ds
  pub utf8 : (later : Bool) → IsUtf8 (items_text later ds)

-- the names of members are ASCII
abbrev pub are_named : Members → Bool
are_named no_members = true
are_named (member name d ms) = are_ascii name && are_named ms

-- members of which each is, and which make an object whole that has others
pub record HaveBack (k : ℕ) (found ms whole : Members) : Type 0 where
  pub members : AreMembers k found ms whole
  pub utf8 : (later : Bool) → are_named ms ≡ true → IsUtf8 (members_text later ms)

pub tree_back : (d : Data) → IsBack max_depth d → tree_of (compact_text d) ≡ Ok d
tree_back d h = tree_found (compact_text d) d h.utf8 (read_written d h.plain)

pub back_deeper : (k n : ℕ) (d : Data) → k ≤ n → IsBack k d → IsBack n d
back_deeper k n d more h = record { plain = deeper k n d more h.plain; utf8 = h.utf8 }

pub string_back : (k : ℕ) (s : List ℕ) → IsUtf8 s → IsBack k (string s)
string_back k s u = record { plain = string_plain k s; utf8 = IsUtf8-quoted s u }

pub count_back : (k n : ℕ) → n < 2 ^ 64 → IsBack k (number (unsigned n))
count_back k n small = record { plain = count_plain k n small; utf8 = IsUtf8-from_ascii (decimal n) (IsAscii-decimal n small) }

pub flag_back : (k : ℕ) (b : Bool) → IsBack k (boolean b)
flag_back k true = record { plain = record { numbers = tt; shallow = omega arith; back = refl }; utf8 = IsUtf8-are_ascii _ refl }
flag_back k false = record { plain = record { numbers = tt; shallow = omega arith; back = refl }; utf8 = IsUtf8-are_ascii _ refl }

-- one byte in front
byte_then : (x : ℕ) (xs : List ℕ) → are_ascii (x ∷ []) ≡ true → IsUtf8 xs → IsUtf8 (x ∷ xs)
byte_then x xs e u = IsUtf8-append (x ∷ []) xs (IsUtf8-are_ascii (x ∷ []) e) u

comma_is_utf8 : (later : Bool) → IsUtf8 (comma_if later)
comma_is_utf8 true = IsUtf8-are_ascii _ refl
comma_is_utf8 false = IsUtf8-are_ascii _ refl

no_element_back : (k : ℕ) → AreBack k no_items
no_element_back k = record { elements = no_element k; utf8 = λ later. IsUtf8-are_ascii _ refl }

element_back : (k : ℕ) (d : Data) (ds : Items) → IsBack k d → AreBack k ds → AreBack k (item d ds)
element_back k d ds h g = record {
  elements = one_element k d ds h.plain g.elements;
  utf8 = λ later. IsUtf8-append (comma_if later) (compact_text d ++ items_text true ds) (comma_is_utf8 later) (IsUtf8-append (compact_text d) (items_text true ds) h.utf8 (g.utf8 true));
}

pub array_back : (k : ℕ) (ds : Items) → AreBack k ds → IsBack (suc k) (array ds)
array_back k ds h = record { plain = array_plain k ds h.elements; utf8 = byte_then 91 (items_text false ds) refl (h.utf8 false) }

pub elements_back : {A : Type 0} (k : ℕ) (form : A → Data) (xs : List A) → AllByRecursion (λ x. IsBack k (form x)) xs → AreBack k (items_of (map form xs))
elements_back k form [] h = no_element_back k
elements_back k form (x ∷ xs) h = element_back k (form x) (items_of (map form xs)) h.0 (elements_back k form xs h.1)

pub no_more : {k : ℕ} {found : Members} → HaveBack k found no_members found
no_more = record { members = no_member _ _; utf8 = λ later e. IsUtf8-are_ascii _ refl }

pub one_more : {k : ℕ} {name : List ℕ} {d : Data} {found ms all : Members} → IsBack k d → HaveBack k (put name d found) ms all → HaveBack k found (member name d ms) all
one_more {k} {name} {d} {found} {ms} {all} h g = record {
  members = one_member k name d found ms all h.plain g.members;
  utf8 = λ later e.
      let p = and_parts (are_ascii name) (are_named ms) e in
      IsUtf8-append (comma_if later) (quoted name ++ 58 ∷ (compact_text d ++ members_text true ms)) (comma_is_utf8 later)
      (IsUtf8-append (quoted name) (58 ∷ (compact_text d ++ members_text true ms)) (IsUtf8-quoted name (IsUtf8-are_ascii name p.0))
      (byte_then 58 (compact_text d ++ members_text true ms) refl (IsUtf8-append (compact_text d) (members_text true ms) h.utf8 (g.utf8 true p.1))));
}

pub object_back : (k : ℕ) (ms : Members) → HaveBack k no_members ms ms → are_named ms ≡ true → IsBack (suc k) (object ms)
object_back k ms h e = record { plain = object_plain k ms h.members; utf8 = byte_then 123 (members_text false ms) refl (h.utf8 false e) }

-- ---- reading

-- a step of reading that gave something
pub next_is : {A B : Type 0} (r : Result A LineFault) (a : A) (k : A → Result B LineFault) → r ≡ Ok a → (r >>= k) ≡ k a
next_is r a k h = ap (λ q. q >>= k) h

-- a member that is there, and of its form
pub member_read : {A : Type 0} (form : Data → Option A) (n : ℕ) (name : List ℕ) (d v : Data) (a : A) → get name d ≡ Some v → form v ≡ Some a → member_at form n name d ≡ Ok a
member_read form n name d v a g h = ap (λ o. or_fault (BadShape n) (option_and_then form o)) g ∙ ap (or_fault (BadShape n)) h

-- every element of a list
each_read : {A : Type 0} (form : Data → Result A LineFault) (data_of : A → Data) (xs : List A) → AllByRecursion (λ x. form (data_of x) ≡ Ok x) xs → each_element form (items_of (map data_of xs)) ≡ Ok xs
each_read form data_of [] h = refl
each_read form data_of (x ∷ xs) h =
    let rest : Items = items_of (map data_of xs) in
    next_is (form (data_of x)) x (λ y. with_front (y ∷ []) (each_element form rest)) h.0 ∙ ap (with_front (x ∷ [])) (each_read form data_of xs h.1)

-- a member that is a list
pub list_read : {A : Type 0} (form : Data → Result A LineFault) (data_of : A → Data) (n : ℕ) (name : List ℕ) (d : Data) (xs : List A) → get name d ≡ Some (array (items_of (map data_of xs)))
    → AllByRecursion (λ x. form (data_of x) ≡ Ok x) xs → list_at form n name d ≡ Ok xs
list_read form data_of n name d xs g h =
    let items : Items = items_of (map data_of xs) in
    next_is (member_at as_array n name d) items (each_element form) (member_read as_array n name d (array items) items g refl) ∙ each_read form data_of xs h

-- ---- values of several members

pub read_one : {A T : Type 0} (g : A → T) (r : Result A LineFault) (a : A) → r ≡ Ok a → (r >>= (λ x. Ok (g x))) ≡ Ok (g a)
read_one g r a h = ap (λ q. q >>= (λ x. Ok (g x))) h

pub read_two : {A B T : Type 0} (g : A → B → T) (r : Result A LineFault) (a : A) (s : Result B LineFault) (b : B) → r ≡ Ok a → s ≡ Ok b
    → (r >>= (λ x. s >>= (λ y. Ok (g x y)))) ≡ Ok (g a b)
read_two g r a s b h k = ap (λ q. q >>= (λ x. s >>= (λ y. Ok (g x y)))) h ∙ read_one (g a) s b k

pub read_three : {A B C T : Type 0} (g : A → B → C → T) (r : Result A LineFault) (a : A) (s : Result B LineFault) (b : B) (t : Result C LineFault) (c : C) → r ≡ Ok a → s ≡ Ok b → t ≡ Ok c
    → (r >>= (λ x. s >>= (λ y. t >>= (λ z. Ok (g x y z))))) ≡ Ok (g a b c)
read_three g r a s b t c h k l = ap (λ q. q >>= (λ x. s >>= (λ y. t >>= (λ z. Ok (g x y z))))) h ∙ read_two (g a) s b t c k l

pub read_four : {A B C D T : Type 0} (g : A → B → C → D → T) (r : Result A LineFault) (a : A) (s : Result B LineFault) (b : B) (t : Result C LineFault) (c : C) (u : Result D LineFault) (d : D)
    → r ≡ Ok a → s ≡ Ok b → t ≡ Ok c → u ≡ Ok d → (r >>= (λ x. s >>= (λ y. t >>= (λ z. u >>= (λ w. Ok (g x y z w)))))) ≡ Ok (g a b c d)
read_four g r a s b t c u d h k l m = ap (λ q. q >>= (λ x. s >>= (λ y. t >>= (λ z. u >>= (λ w. Ok (g x y z w)))))) h ∙ read_three (g a) s b t c u d k l m

pub read_five : {A B C D E T : Type 0} (g : A → B → C → D → E → T) (r : Result A LineFault) (a : A) (s : Result B LineFault) (b : B) (t : Result C LineFault) (c : C) (u : Result D LineFault) (d : D) (v : Result E LineFault) (e : E)
    → r ≡ Ok a → s ≡ Ok b → t ≡ Ok c → u ≡ Ok d → v ≡ Ok e
    → (r >>= (λ x. s >>= (λ y. t >>= (λ z. u >>= (λ w. v >>= (λ o. Ok (g x y z w o))))))) ≡ Ok (g a b c d e)
read_five g r a s b t c u d v e h k l m n =
    ap (λ q. q >>= (λ x. s >>= (λ y. t >>= (λ z. u >>= (λ w. v >>= (λ o. Ok (g x y z w o))))))) h ∙ read_four (g a) s b t c u d v e k l m n

pub read_six : {A B C D E F T : Type 0} (g : A → B → C → D → E → F → T) (r : Result A LineFault) (a : A) (s : Result B LineFault) (b : B) (t : Result C LineFault) (c : C) (u : Result D LineFault) (d : D) (v : Result E LineFault) (e : E) (i : Result F LineFault) (j : F)
    → r ≡ Ok a → s ≡ Ok b → t ≡ Ok c → u ≡ Ok d → v ≡ Ok e → i ≡ Ok j
    → (r >>= (λ x. s >>= (λ y. t >>= (λ z. u >>= (λ w. v >>= (λ o. i >>= (λ p. Ok (g x y z w o p)))))))) ≡ Ok (g a b c d e j)
read_six g r a s b t c u d v e i j h k l m n p =
    ap (λ q. q >>= (λ x. s >>= (λ y. t >>= (λ z. u >>= (λ w. v >>= (λ o. i >>= (λ f. Ok (g x y z w o f)))))))) h ∙ read_five (g a) s b t c u d v e i j k l m n p
