-- What a text begins with, from what its pieces were matched with.
use Rattle.std.proofs.Common.{◌≡◌, ◌∙◌, ap, ap₂, sym, refl, arith, IsUtf8, ℕ, suc, ◌^◌, ◌<◌, ◌≤◌, List, [], ◌∷◌, ◌++◌, Bool, true, false, ◌&&◌, Some, decimal, append-nil, append_assoc, nat_lt, subst, cond, lt-ltb, zero, ◌+◌, ◌%◌, ◌/◌, ◌==◌}
use Rattle.std.{specs.{Fmt.{digits, digits_onto, digit_glyph}, List.list_all}, proofs.lemmas.Bool.and_parts}
use Rattle.std.proofs.lemmas.{Bool.Decides.nat_tests, List.Concat.flat_map-cons}
use Rattle.json.{specs.Print.{escape, escape_byte, quoted}, proofs.Printed.Strings.escape_byte_plain}
use Rattle.json.proofs.Printed.Utf8.{are_ascii, IsUtf8-are_ascii}
use Rattle.serde_json.specs.Data.{Data, boolean, number, unsigned, string, array, object, Items, no_items, item, Members, no_members, member, put}
use Rattle.serde_json.specs.{Read.{read, max_depth}, Written.{compact_text, comma_if, items_text, members_text}}
use Rattle.line_compact.specs.{Begins.Begins, Pieces.stands_for_itself}
use Rattle.line_compact.proofs.ReadLemmas.{AreRead, HaveRead, array_is_read, count_is_read, element_is_read, flag_is_read, is_deeper, member_is_read, no_element_is_read, no_member_is_read, object_is_read, read_whole, string_is_read}

-- ---- a whole text

-- nothing follows
pub whole_is_read : (text : List ℕ) (d : Data) → Begins max_depth text d [] → (read text ≡ Some d) × IsUtf8 text
whole_is_read text d h =
    let same : text ≡ compact_text h.written = h.spelled ∙ append-nil (compact_text h.written) in
    (ap read same ∙ read_whole h.written d h.is_read, subst_utf8 text (compact_text h.written) same h.is_read.utf8)
  where
    subst_utf8 : (a b : List ℕ) → a ≡ b → IsUtf8 b → IsUtf8 a
    subst_utf8 a b e u = rw e u

pub deeper : {k n : ℕ} {text rest : List ℕ} {d : Data} → k ≤ n → Begins k text d rest → Begins n text d rest
deeper more h = record { written = h.written; spelled = h.spelled; is_read = is_deeper more h.is_read }

-- ---- strings

byte_kept : (b : ℕ) → stands_for_itself b ≡ true → escape_byte b ≡ b ∷ []
byte_kept b h = escape_byte_plain b (λ e. quote b h e) (λ e. slash b h e) (low b h)
  where
    quote : (b : ℕ) → stands_for_itself b ≡ true → (b ≡ 34 → ⊥)
    quote b h e = grind (arith, nat_tests)

    slash : (b : ℕ) → stands_for_itself b ≡ true → (b ≡ 92 → ⊥)
    slash b h e = grind (arith, nat_tests)

    low : (b : ℕ) → stands_for_itself b ≡ true → 32 ≤ b
    low b h = grind (arith, nat_tests)

pub string_kept : (s : List ℕ) → list_all stands_for_itself s ≡ true → escape s ≡ s
string_kept [] h = refl
string_kept (b ∷ s) h =
    let p = and_parts (stands_for_itself b) (list_all stands_for_itself s) h in
    flat_map-cons escape_byte b s ∙ ap₂ (λ x y. x ++ y) (byte_kept b p.0) (string_kept s p.1)

byte_is_ascii : (b : ℕ) → stands_for_itself b ≡ true → nat_lt b 128 ≡ true
byte_is_ascii b h = grind (arith, nat_tests)

string_is_ascii : (s : List ℕ) → list_all stands_for_itself s ≡ true → are_ascii s ≡ true
string_is_ascii [] h = refl
string_is_ascii (b ∷ s) h =
    let p = and_parts (stands_for_itself b) (list_all stands_for_itself s) h in
    ap₂ (λ x y. x && y) (byte_is_ascii b p.0) (string_is_ascii s p.1)

-- a quote, bytes that stand for themselves and a quote
pub string_begins : {text inner rest : List ℕ} (s : List ℕ) → list_all stands_for_itself s ≡ true → text ≡ 34 ∷ inner → inner ≡ s ++ 34 ∷ rest → Begins 0 text (string s) rest
string_begins {text} {inner} {rest} s h e f = record {
  written = string s;
  spelled = e ∙ ap (λ t. 34 ∷ t) (f ∙ ap (λ t. t ++ 34 ∷ rest) (sym (string_kept s h)) ∙ sym (append_assoc (escape s) (34 ∷ []) rest));
  is_read = string_is_read 0 s (IsUtf8-are_ascii s (string_is_ascii s h));
}

-- ---- numbers and truth values

pub count_begins : {text rest : List ℕ} (n : ℕ) → n < 2 ^ 64 → text ≡ decimal n ++ rest → Begins 0 text (number (unsigned n)) rest
count_begins n small e = record { written = number (unsigned n); spelled = e; is_read = count_is_read 0 n small }

pub flag_begins : {text rest : List ℕ} (b : Bool) → text ≡ compact_text (boolean b) ++ rest → Begins 0 text (boolean b) rest
flag_begins b e = record { written = boolean b; spelled = e; is_read = flag_is_read 0 b }

-- ---- lists

-- what is left of a list, where `later` says whether an element stands before
pub record HasElements (k : ℕ) (later : Bool) (text : List ℕ) (read : Items) (rest : List ℕ) : Type 0 where
  pub written : Items
  pub spelled : text ≡ items_text later written ++ rest
  pub are_read : AreRead k written read

pub no_more_elements : {k : ℕ} {later : Bool} {text rest : List ℕ} → text ≡ 93 ∷ rest → HasElements k later text no_items rest
no_more_elements e = record { written = no_items; spelled = e; are_read = no_element_is_read _ }

pub one_more_element : {k : ℕ} {later : Bool} {text inner behind rest : List ℕ} {d : Data} {ds : Items} → text ≡ comma_if later ++ inner → Begins k inner d behind → HasElements k true behind ds rest → HasElements k later text (item d ds) rest
one_more_element {later = later} {rest = rest} e h g = record {
  written = item h.written g.written;
  spelled =
      let first = compact_text h.written in
      let others = items_text true g.written in
      e ∙ ap (λ t. comma_if later ++ t) (h.spelled ∙ ap (λ t. first ++ t) g.spelled ∙ sym (append_assoc first others rest)) ∙ sym (append_assoc (comma_if later) (first ++ others) rest);
  are_read = element_is_read h.is_read g.are_read;
}

pub array_begins : {k : ℕ} {text inner rest : List ℕ} {ds : Items} → text ≡ 91 ∷ inner → HasElements k false inner ds rest → Begins (suc k) text (array ds) rest
array_begins e h = record { written = array h.written; spelled = e ∙ ap (λ t. 91 ∷ t) h.spelled; is_read = array_is_read h.are_read }

-- ---- objects

-- what is left of an object: with the members found before it makes the whole
pub record HasMembers (k : ℕ) (later : Bool) (found : Members) (text : List ℕ) (whole : Members) (rest : List ℕ) : Type 0 where
  pub written : Members
  pub spelled : text ≡ members_text later written ++ rest
  pub have_read : HaveRead k found written whole

pub no_more_members : {k : ℕ} {later : Bool} {found : Members} {text rest : List ℕ} → text ≡ 125 ∷ rest → HasMembers k later found text found rest
no_more_members e = record { written = no_members; spelled = e; have_read = no_member_is_read _ _ }

-- the piece in front of a member's value
abbrev pub member_piece : Bool → List ℕ → List ℕ
member_piece later name = comma_if later ++ (quoted name ++ 58 ∷ [])

pub one_more_member : {k : ℕ} {later : Bool} {found whole : Members} {text inner behind rest : List ℕ} {d : Data} (name : List ℕ) → are_ascii name ≡ true
    → text ≡ member_piece later name ++ inner → Begins k inner d behind → HasMembers k true (put name d found) behind whole rest → HasMembers k later found text whole rest
one_more_member {later = later} {inner = inner} {rest = rest} name ascii e h g = record {
  written = member name h.written g.written;
  spelled =
      let value = compact_text h.written in
      let others = members_text true g.written in
      let inside : inner ≡ (value ++ others) ++ rest = h.spelled ∙ ap (λ t. value ++ t) g.spelled ∙ sym (append_assoc value others rest) in
      e ∙ append_assoc (comma_if later) (quoted name ++ 58 ∷ []) inner ∙ ap (λ t. comma_if later ++ t) (append_assoc (quoted name) (58 ∷ []) inner ∙ ap (λ t. quoted name ++ 58 ∷ t) inside
      ∙ sym (append_assoc (quoted name) (58 ∷ (value ++ others)) rest)) ∙ sym (append_assoc (comma_if later) (quoted name ++ 58 ∷ (value ++ others)) rest);
  have_read = member_is_read name ascii h.is_read g.have_read;
}

pub object_begins : {k : ℕ} {text inner rest : List ℕ} {ds : Members} → text ≡ 123 ∷ inner → HasMembers k false no_members inner ds rest → Begins (suc k) text (object ds) rest
object_begins e h = record { written = object h.written; spelled = e ∙ ap (λ t. 123 ∷ t) h.spelled; is_read = object_is_read h.have_read }

-- ---- numbers in strings

glyph_stands : (d : ℕ) → d < 10 → stands_for_itself (digit_glyph false d) ≡ true
glyph_stands d h = subst (λ b. stands_for_itself (cond b (48 + d) (87 + d)) ≡ true) (sym (lt-ltb d 10 h)) (stands d h)
  where
    stands : (d : ℕ) → d < 10 → stands_for_itself (48 + d) ≡ true
    stands d h = grind (arith, nat_tests)

either_stands : (b : Bool) (s t : List ℕ) → list_all stands_for_itself s ≡ true → list_all stands_for_itself t ≡ true → list_all stands_for_itself (cond b s t) ≡ true
either_stands true s t h k = h
either_stands false s t h k = k

onto_stands : (k n : ℕ) (acc : List ℕ) → list_all stands_for_itself acc ≡ true → list_all stands_for_itself (digits_onto k 10 false n acc) ≡ true
onto_stands zero n acc h = h
onto_stands (suc k) n acc h =
    let d = digit_glyph false (n % 10) in
    let more : list_all stands_for_itself (d ∷ acc) ≡ true = ap₂ (λ x y. x && y) (glyph_stands (n % 10) (omega arith)) h in
    either_stands (n / 10 == 0) (d ∷ acc) (digits_onto k 10 false (n / 10) (d ∷ acc)) more (onto_stands k (n / 10) (d ∷ acc) more)

decimal_stands : (n : ℕ) → list_all stands_for_itself (decimal n) ≡ true
unfolding digits
decimal_stands n = onto_stands 64 n [] refl

-- a quote, digits and a quote
pub amount_begins : {text inner behind rest : List ℕ} (n : ℕ) → text ≡ 34 ∷ inner → inner ≡ decimal n ++ behind → behind ≡ 34 ∷ rest → Begins 0 text (string (decimal n)) rest
amount_begins n e f g = string_begins (decimal n) (decimal_stands n) e (f ∙ ap (λ t. decimal n ++ t) g)
