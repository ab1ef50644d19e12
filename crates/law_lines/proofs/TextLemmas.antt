-- Compact text of values whose strings are UTF-8 is UTF-8, and its tree is the value.
use Rattle.std.proofs.Common.{◌≡◌, ℕ, suc, ◌^◌, ◌<◌, ◌≤◌, Bool, true, false, List, [], ◌∷◌, ◌++◌, decimal, Ok, refl, arith, IsUtf8}
use Rattle.std.proofs.lemmas.Fmt.{IsAscii-decimal, IsAscii-decimal_wide}
use Rattle.std.proofs.lemmas.Str.{IsUtf8-append, IsUtf8-from_ascii, IsUtf8-nil}
use Rattle.json.{specs.Print.quoted, proofs.Printed.Utf8.{IsUtf8-are_ascii, IsUtf8-quoted, are_ascii}}
use Rattle.serde_json.specs.Data.{Data, number, unsigned, string, array, object, Items, no_items, item, Members, no_members, member, put}
use Rattle.serde_json.specs.{Read.max_depth, Written.{comma_if, compact_text, items_text, members_text}}
use Rattle.base_bech32.specs.{declared.form.Form.{Form, TheVariants.{Hex, Bech32}}, Spelling.spelling_of}
use Rattle.base_bech32.proofs.SpellingLemmas.{spelling_is_ascii}
use Rattle.base_types.proofs.DigitLemmas.{address_text_is_utf8}
use Rattle.line_json.specs.{Addresses.{account_prefix, operator_prefix, operator_text, user_text}, Reading.tree_of}
use Rattle.line_json.proofs.ReadingLemmas.{tree_found}
use Rattle.line_json.proofs.WrittenLemmas.{AreElements, AreMembers, IsPlain, array_plain, count_plain, deeper, no_element, no_member, object_plain, one_element, one_member, read_written, string_plain}

byte_then : (b : ℕ) (bytes : List ℕ) → are_ascii (b ∷ []) ≡ true → IsUtf8 bytes → IsUtf8 (b ∷ bytes)
byte_then b bytes low u = IsUtf8-append (b ∷ []) bytes (IsUtf8-are_ascii (b ∷ []) low) u

comma_is_utf8 : (later : Bool) → IsUtf8 (comma_if later)
comma_is_utf8 true = IsUtf8-are_ascii (44 ∷ []) refl
comma_is_utf8 false = IsUtf8-nil

-- a value that nests no deeper, that its text stands for
pub record IsSpelled (k : ℕ) (d : Data) : Type 0 where
  pub plain : IsPlain k d
  pub utf8 : IsUtf8 (compact_text d)

-- elements of which each is
pub record AreSpelled (k : ℕ) (ds : Items) : Type 0 where
  pub plain : AreElements k ds
  pub utf8 : (later : Bool) → IsUtf8 (items_text later ds)

-- members of which each is, and which make an object whole that has others
pub record MembersAreSpelled (k : ℕ) (found ms whole : Members) : Type 0 where
  pub plain : AreMembers k found ms whole
  pub utf8 : (later : Bool) → IsUtf8 (members_text later ms)

pub tree_spelled : (d : Data) → IsSpelled max_depth d → tree_of (compact_text d) ≡ Ok d
tree_spelled d h = tree_found (compact_text d) d h.utf8 (read_written d h.plain)

pub spelled_deeper : (k n : ℕ) (d : Data) → k ≤ n → IsSpelled k d → IsSpelled n d
spelled_deeper k n d more h = record { plain = deeper k n d more h.plain; utf8 = h.utf8 }

pub text : {k : ℕ} (s : List ℕ) → IsUtf8 s → IsSpelled k (string s)
text {k} s u = record { plain = string_plain k s; utf8 = IsUtf8-quoted s u }

pub count : {k : ℕ} (n : ℕ) → n < 2 ^ 64 → IsSpelled k (number (unsigned n))
count {k} n few = record { plain = count_plain k n few; utf8 = IsUtf8-from_ascii (decimal n) (IsAscii-decimal n few) }

pub no_elements : {k : ℕ} → AreSpelled k no_items
no_elements {k} = record { plain = no_element k; utf8 = λ later. IsUtf8-are_ascii (93 ∷ []) refl }

pub element : {k : ℕ} (d : Data) (ds : Items) → IsSpelled k d → AreSpelled k ds → AreSpelled k (item d ds)
element {k} d ds h g = record {
  plain = one_element k d ds h.plain g.plain;
  utf8 = λ later. IsUtf8-append (comma_if later) (compact_text d ++ items_text true ds) (comma_is_utf8 later) (IsUtf8-append (compact_text d) (items_text true ds) h.utf8 (g.utf8 true));
}

pub elements : {k : ℕ} (ds : Items) → AreSpelled k ds → IsSpelled (suc k) (array ds)
elements {k} ds h = record { plain = array_plain k ds h.plain; utf8 = byte_then 91 (items_text false ds) refl (h.utf8 false) }

pub end : {k : ℕ} {found : Members} → MembersAreSpelled k found no_members found
end {k} {found} = record { plain = no_member k found; utf8 = λ later. IsUtf8-are_ascii (125 ∷ []) refl }

pub more : {k : ℕ} {name : List ℕ} {d : Data} {found ms all : Members} → are_ascii name ≡ true → IsSpelled k d → MembersAreSpelled k (put name d found) ms all → MembersAreSpelled k found (member name d ms) all
more {k} {name} {d} {found} {ms} {all} low h g =
    let behind : IsUtf8 (58 ∷ (compact_text d ++ members_text true ms)) = byte_then 58 (compact_text d ++ members_text true ms) refl (IsUtf8-append (compact_text d) (members_text true ms) h.utf8 (g.utf8 true)) in
    record {
      plain = one_member k name d found ms all h.plain g.plain;
      utf8 = λ later.
          IsUtf8-append (comma_if later) (quoted name ++ 58 ∷ (compact_text d ++ members_text true ms)) (comma_is_utf8 later)
          (IsUtf8-append (quoted name) (58 ∷ (compact_text d ++ members_text true ms)) (IsUtf8-quoted name (IsUtf8-are_ascii name low)) behind);
    }

pub members : {k : ℕ} {ms : Members} → MembersAreSpelled k no_members ms ms → IsSpelled (suc k) (object ms)
members {k} {ms} h = record { plain = object_plain k ms h.plain; utf8 = byte_then 123 (members_text false ms) refl (h.utf8 false) }

-- ---- texts of values

pub amount_is_utf8 : (n : ℕ) → n < 10 ^ 38 → IsUtf8 (decimal n)
amount_is_utf8 n small = IsUtf8-from_ascii (decimal n) (IsAscii-decimal_wide n (omega arith))

pub user_is_utf8 : (f : Form) (bytes : List ℕ) → IsUtf8 (user_text f bytes)
user_is_utf8 Hex bytes = address_text_is_utf8 bytes
user_is_utf8 Bech32 bytes = IsUtf8-from_ascii (spelling_of account_prefix bytes) (spelling_is_ascii account_prefix bytes refl)

pub operator_is_utf8 : (f : Form) (bytes : List ℕ) → IsUtf8 (operator_text f bytes)
operator_is_utf8 Hex bytes = address_text_is_utf8 bytes
operator_is_utf8 Bech32 bytes = IsUtf8-from_ascii (spelling_of operator_prefix bytes) (spelling_is_ascii operator_prefix bytes refl)
