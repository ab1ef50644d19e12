-- Compact text of values without floats is read back as the value.
use Rattle.std.proofs.Common.{◌≡◌, ℕ, suc, ◌^◌, ◌<◌, ◌≤◌, List, [], ◌∷◌, ◌++◌, map, Some, option_and_then, option_map, codes, decimal, refl, sym, ap, ◌∙◌, arith, append-nil}
use Rattle.json.specs.{Lex.tokens, Tree.{json_tokens, HasNumbers, ItemsHaveNumbers, MembersHaveNumbers}}
use Rattle.json.proofs.Printed.{Decimals.IsNumber-decimal, Tokens.tokens-print}
use Rattle.json.proofs.Printed.Trees.{value-json_tokens, ArePrintable-json_tokens}
use Rattle.json.specs.Json as json
use Rattle.json.specs.Tree as tree
use Rattle.serde_json.specs.Data.{Data, number, unsigned, string, array, object, Items, no_items, item, Members, no_members, member, put}
use Rattle.serde_json.specs.{Read.{read, max_depth, of_json, of_items, of_members}, View.items_of}
use Rattle.serde_json.specs.Written.{outline, items_outline, members_outline, compact_text}
use Rattle.serde_json.proofs.{Numbers.number_of-decimal, Texts.print-outline}
use Rattle.base_coins.specs.Coins.{Money}
use Rattle.base_decimals.specs.Texts.{dec_text}
use Rattle.line_json.specs.Values.{coin_data, coins_data, dec_coins_data, decimal_data, whole_data}

-- a value that nests no deeper and that its outline stands for
pub record IsPlain (k : ℕ) (d : Data) : Type 0 where
  pub numbers : HasNumbers (outline d)
  pub shallow : tree.depth (outline d) ≤ k
  pub back : of_json (outline d) ≡ Some d

-- elements of which each is
pub record AreElements (k : ℕ) (ds : Items) : Type 0 where
  pub numbers : ItemsHaveNumbers (items_outline ds)
  pub shallow : tree.items_depth (items_outline ds) ≤ k
  pub back : of_items (items_outline ds) ≡ Some ds

-- members of which each is, and which make an object whole that has others
pub record AreMembers (k : ℕ) (found ms whole : Members) : Type 0 where
  pub numbers : MembersHaveNumbers (members_outline ms)
  pub shallow : tree.members_depth (members_outline ms) ≤ k
  pub back : of_members (members_outline ms) found ≡ Some whole

pub read_written : (d : Data) → IsPlain max_depth d → read (compact_text d) ≡ Some d
read_written d h =
    let same : tokens (compact_text d) ≡ json_tokens (outline d) ++ [] =
    ap tokens (sym (print-outline d)) ∙ tokens-print (json_tokens (outline d)) (ArePrintable-json_tokens (outline d) h.numbers) ∙ sym (append-nil (json_tokens (outline d)))
    in
    ap (λ ts. option_and_then of_json (option_and_then (λ p. json.if_last p.0 p.1) (json.value max_depth ts))) same
    ∙ ap (λ o. option_and_then of_json (option_and_then (λ p. json.if_last p.0 p.1) o)) (value-json_tokens (outline d) max_depth [] h.shallow)
    ∙ h.back

pub deeper : (k n : ℕ) (d : Data) → k ≤ n → IsPlain k d → IsPlain n d
deeper k n d more h = record { numbers = h.numbers; shallow = omega (arith, h.shallow, more); back = h.back }

pub string_plain : (k : ℕ) (s : List ℕ) → IsPlain k (string s)
string_plain k s = record { numbers = tt; shallow = omega arith; back = refl }

pub count_plain : (k n : ℕ) → n < 2 ^ 64 → IsPlain k (number (unsigned n))
count_plain k n small = record { numbers = IsNumber-decimal n small; shallow = omega arith; back = ap (option_map number) (number_of-decimal n small) }

pub no_element : (k : ℕ) → AreElements k no_items
no_element k = record { numbers = tt; shallow = omega arith; back = refl }

pub one_element : (k : ℕ) (d : Data) (ds : Items) → IsPlain k d → AreElements k ds → AreElements k (item d ds)
one_element k d ds h g = record {
  numbers = (h.numbers, g.numbers);
  shallow = omega (arith, h.shallow, g.shallow);
  back = ap (option_and_then (λ e. option_map (item e) (of_items (items_outline ds)))) h.back ∙ ap (option_map (item d)) g.back;
}

pub array_plain : (k : ℕ) (ds : Items) → AreElements k ds → IsPlain (suc k) (array ds)
array_plain k ds h = record { numbers = h.numbers; shallow = omega (arith, h.shallow); back = ap (option_map array) h.back }

pub no_member : (k : ℕ) (found : Members) → AreMembers k found no_members found
no_member k found = record { numbers = tt; shallow = omega arith; back = refl }

pub one_member : (k : ℕ) (name : List ℕ) (d : Data) (found ms whole : Members) → IsPlain k d → AreMembers k (put name d found) ms whole → AreMembers k found (member name d ms) whole
one_member k name d found ms whole h g = record {
  numbers = (h.numbers, g.numbers);
  shallow = omega (arith, h.shallow, g.shallow);
  back = ap (option_and_then (λ e. of_members (members_outline ms) (put name e found))) h.back ∙ g.back;
}

pub object_plain : (k : ℕ) (ms : Members) → AreMembers k no_members ms ms → IsPlain (suc k) (object ms)
object_plain k ms h = record { numbers = h.numbers; shallow = omega (arith, h.shallow); back = ap (option_map object) h.back }

-- ---- coins

coin_plain : (amount_data : ℕ → Data) → ((n : ℕ) → IsPlain 0 (amount_data n)) → (coin : List ℕ × ℕ) → IsPlain 1 (coin_data amount_data coin)
coin_plain amount_data amounts coin =
    object_plain 0 _
    (one_member 0 (codes "amount") (amount_data coin.1) no_members _ _ (amounts coin.1)
    (one_member 0 (codes "denom") (string coin.0) _ _ _ (string_plain 0 coin.0) (no_member 0 _)))

elements_plain : (amount_data : ℕ → Data) → ((n : ℕ) → IsPlain 0 (amount_data n)) → (coins : Money) → AreElements 1 (items_of (map (coin_data amount_data) coins))
elements_plain amount_data amounts [] = no_element 1
elements_plain amount_data amounts (c ∷ cs) = one_element 1 (coin_data amount_data c) _ (coin_plain amount_data amounts c) (elements_plain amount_data amounts cs)

pub coins_plain : (amount_data : ℕ → Data) → ((n : ℕ) → IsPlain 0 (amount_data n)) → (coins : Money) → IsPlain 2 (array (items_of (map (coin_data amount_data) coins)))
coins_plain amount_data amounts coins = array_plain 1 _ (elements_plain amount_data amounts coins)

-- ---- members of a line, in the order of their names

pub text : {s : List ℕ} → IsPlain 2 (string s)
text = string_plain 2 _

pub count : {n : ℕ} → n < 2 ^ 64 → IsPlain 2 (number (unsigned n))
count small = count_plain 2 _ small

pub whole : (coins : Money) → IsPlain 2 (coins_data coins)
whole coins = coins_plain whole_data (λ n. string_plain 0 (decimal n)) coins

pub decimals : (coins : Money) → IsPlain 2 (dec_coins_data coins)
decimals coins = coins_plain decimal_data (λ n. string_plain 0 (dec_text n)) coins

pub end : {found : Members} → AreMembers 2 found no_members found
end = no_member 2 _

pub more : {name : List ℕ} {d : Data} {found ms all : Members} → IsPlain 2 d → AreMembers 2 (put name d found) ms all → AreMembers 2 found (member name d ms) all
more h g = one_member 2 _ _ _ _ _ h g

pub whole_object : {ms : Members} → AreMembers 2 no_members ms ms → IsPlain 3 (object ms)
whole_object h = object_plain 2 _ h
