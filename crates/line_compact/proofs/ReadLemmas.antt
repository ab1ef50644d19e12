-- Trees that are read from their compact text, part by part.
use Rattle.std.proofs.Common.{◌≡◌, ◌∙◌, ap, sym, refl, arith, IsUtf8, ℕ, suc, ◌^◌, ◌<◌, ◌≤◌, List, [], ◌∷◌, ◌++◌, Bool, true, false, Some, option_and_then, option_map, decimal, append-nil}
use Rattle.std.proofs.lemmas.{Fmt.IsAscii-decimal, Str.{IsUtf8-append, IsUtf8-from_ascii}}
use Rattle.json.specs.{Lex.tokens, Print.quoted}
use Rattle.json.specs.Tree.{json_tokens, items_depth, members_depth, ItemsHaveNumbers, MembersHaveNumbers}
use Rattle.json.proofs.Printed.{Decimals.IsNumber-decimal, Tokens.tokens-print}
use Rattle.json.proofs.Printed.Utf8.{are_ascii, IsUtf8-are_ascii, IsUtf8-quoted}
use Rattle.json.proofs.Printed.Trees.{value-json_tokens, ArePrintable-json_tokens}
use Rattle.json.specs.Json as json
use Rattle.serde_json.specs.Data.{Data, boolean, number, unsigned, string, array, object, Items, no_items, item, Members, no_members, member, put}
use Rattle.serde_json.specs.Read.{read, max_depth, of_json, of_items, of_members}
use Rattle.serde_json.specs.Written.{outline, items_outline, members_outline, compact_text, comma_if, items_text, members_text}
use Rattle.serde_json.proofs.{Numbers.number_of-decimal, Texts.print-outline}
use Rattle.line_compact.specs.Begins.{IsRead}

-- elements as they are written, and those that are read
pub record AreRead (k : ℕ) (written read : Items) : Type 0 where
  pub numbers : ItemsHaveNumbers (items_outline written)
  pub shallow : items_depth (items_outline written) ≤ k
  pub back : of_items (items_outline written) ≡ Some read
  pub utf8 : (later : Bool) → IsUtf8 (items_text later written)

-- members as they are written, and the whole that they make of those found before
pub record HaveRead (k : ℕ) (found written whole : Members) : Type 0 where
  pub numbers : MembersHaveNumbers (members_outline written)
  pub shallow : members_depth (members_outline written) ≤ k
  pub back : of_members (members_outline written) found ≡ Some whole
  pub utf8 : (later : Bool) → IsUtf8 (members_text later written)

-- `serde_json` reads the tree from the whole text
pub read_whole : (u d : Data) → IsRead max_depth u d → read (compact_text u) ≡ Some d
read_whole u d h =
    let same : tokens (compact_text u) ≡ json_tokens (outline u) ++ [] =
    ap tokens (sym (print-outline u)) ∙ tokens-print (json_tokens (outline u)) (ArePrintable-json_tokens (outline u) h.numbers) ∙ sym (append-nil (json_tokens (outline u)))
    in
    ap (λ ts. option_and_then of_json (option_and_then (λ p. json.if_last p.0 p.1) (json.value max_depth ts))) same
    ∙ ap (λ o. option_and_then of_json (option_and_then (λ p. json.if_last p.0 p.1) o)) (value-json_tokens (outline u) max_depth [] h.shallow)
    ∙ h.back

pub is_deeper : {k n : ℕ} {u d : Data} → k ≤ n → IsRead k u d → IsRead n u d
is_deeper more h = record { numbers = h.numbers; shallow = omega (arith, h.shallow, more); back = h.back; utf8 = h.utf8 }

-- ---- single values

pub string_is_read : (k : ℕ) (s : List ℕ) → IsUtf8 s → IsRead k (string s) (string s)
string_is_read k s u = record { numbers = tt; shallow = omega arith; back = refl; utf8 = IsUtf8-quoted s u }

pub count_is_read : (k n : ℕ) → n < 2 ^ 64 → IsRead k (number (unsigned n)) (number (unsigned n))
count_is_read k n small = record {
  numbers = IsNumber-decimal n small;
  shallow = omega arith;
  back = ap (option_map number) (number_of-decimal n small);
  utf8 = IsUtf8-from_ascii (decimal n) (IsAscii-decimal n small);
}

pub flag_is_read : (k : ℕ) (b : Bool) → IsRead k (boolean b) (boolean b)
flag_is_read k true = record { numbers = tt; shallow = omega arith; back = refl; utf8 = IsUtf8-are_ascii _ refl }
flag_is_read k false = record { numbers = tt; shallow = omega arith; back = refl; utf8 = IsUtf8-are_ascii _ refl }

-- ---- lists

-- one byte in front
byte_then : (x : ℕ) (xs : List ℕ) → are_ascii (x ∷ []) ≡ true → IsUtf8 xs → IsUtf8 (x ∷ xs)
byte_then x xs e u = IsUtf8-append (x ∷ []) xs (IsUtf8-are_ascii (x ∷ []) e) u

comma_is_utf8 : (later : Bool) → IsUtf8 (comma_if later)
comma_is_utf8 true = IsUtf8-are_ascii _ refl
comma_is_utf8 false = IsUtf8-are_ascii _ refl

pub no_element_is_read : (k : ℕ) → AreRead k no_items no_items
no_element_is_read k = record { numbers = tt; shallow = omega arith; back = refl; utf8 = λ later. IsUtf8-are_ascii _ refl }

pub element_is_read : {k : ℕ} {u d : Data} {us ds : Items} → IsRead k u d → AreRead k us ds → AreRead k (item u us) (item d ds)
element_is_read {k} {u} {d} {us} {ds} h g = record {
  numbers = (h.numbers, g.numbers);
  shallow = omega (arith, h.shallow, g.shallow);
  back = ap (option_and_then (λ e. option_map (item e) (of_items (items_outline us)))) h.back ∙ ap (option_map (item d)) g.back;
  utf8 = λ later. IsUtf8-append (comma_if later) (compact_text u ++ items_text true us) (comma_is_utf8 later) (IsUtf8-append (compact_text u) (items_text true us) h.utf8 (g.utf8 true));
}

pub array_is_read : {k : ℕ} {us ds : Items} → AreRead k us ds → IsRead (suc k) (array us) (array ds)
array_is_read {k} {us} {ds} h = record {
  numbers = h.numbers;
  shallow = omega (arith, h.shallow);
  back = ap (option_map array) h.back;
  utf8 = byte_then 91 (items_text false us) refl (h.utf8 false);
}

-- ---- objects

pub no_member_is_read : (k : ℕ) (found : Members) → HaveRead k found no_members found
no_member_is_read k found = record { numbers = tt; shallow = omega arith; back = refl; utf8 = λ later. IsUtf8-are_ascii _ refl }

pub member_is_read : {k : ℕ} {u d : Data} {found us whole : Members} (name : List ℕ) → are_ascii name ≡ true → IsRead k u d → HaveRead k (put name d found) us whole → HaveRead k found (member name u us) whole
member_is_read {k} {u} {d} {found} {us} {whole} name e h g = record {
  numbers = (h.numbers, g.numbers);
  shallow = omega (arith, h.shallow, g.shallow);
  back = ap (option_and_then (λ v. of_members (members_outline us) (put name v found))) h.back ∙ g.back;
  utf8 = λ later.
      IsUtf8-append (comma_if later) (quoted name ++ 58 ∷ (compact_text u ++ members_text true us)) (comma_is_utf8 later)
      (IsUtf8-append (quoted name) (58 ∷ (compact_text u ++ members_text true us)) (IsUtf8-quoted name (IsUtf8-are_ascii name e))
      (byte_then 58 (compact_text u ++ members_text true us) refl (IsUtf8-append (compact_text u) (members_text true us) h.utf8 (g.utf8 true))));
}

pub object_is_read : {k : ℕ} {us ds : Members} → HaveRead k no_members us ds → IsRead (suc k) (object us) (object ds)
object_is_read {k} {us} {ds} h = record {
  numbers = h.numbers;
  shallow = omega (arith, h.shallow);
  back = ap (option_map object) h.back;
  utf8 = byte_then 123 (members_text false us) refl (h.utf8 false);
}
