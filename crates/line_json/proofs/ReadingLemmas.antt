-- The tree of a line, the keys of an object, and amounts.
use Rattle.std.proofs.Common.{◌≡◌, List, [], ◌∷◌, String, Global, string_bytes, map, ℕ, Bool, true, false, refl, Some, None, Result, Ok, Err, cond, ◌≤◌, ◌<◌, length, nat_lt, nat_le, ◌&&◌, arith, rules, IsUtf8, leb-true, sym, ap, ◌∙◌, subst}
use Rattle.std.specs.{Str.{is_utf8, Parse.{ParsesUnsigned, digits_value}}, Char.is_ascii_digit}
use Rattle.std.specs.{List.{list_all, list_any}, Map.keys_of}
use Rattle.std.proofs.lemmas.Str.{is_utf8-from_IsUtf8, IsUtf8-from_is_utf8}
use Rattle.std.proofs.lemmas.Str.Parse.{IsNumeralModel, numerals_by_value, parse_gives, digits_value_short}
use Rattle.std.proofs.lemmas.Bool.{and_parts}
use Rattle.serde_json.specs.{Data.Data, Read.read, View.members_view, declared.value.Value.Value}
use Rattle.base_decimals.specs.Texts.{is_number}
use Rattle.base_messages.specs.declared.faults.LineFault.{LineFault, TheVariants.{NotJson, BadShape, NoMemory}}
use Rattle.line_json.specs.{Reading.{tree_of, or_fault, Fails, Gives}, Members.{is_among, are_among}}
use Rattle.line_json.{specs.Tape.{Spells, tree_at}, proofs.TapeLemmas.tree_at-Spells}
use Rattle.json.specs.Token.{Token}
use Rattle.base_coins.specs.Steps.{◌>>=◌}

pub tree_found : (line : List ℕ) (d : Data) → IsUtf8 line → read line ≡ Some d → tree_of line ≡ Ok d
unfolding tree_of
tree_found line d u r = rw (is_utf8-from_IsUtf8 line u, r) refl

absent : (b : Bool) (line : List ℕ) → (b ≡ true → read line ≡ None) → or_fault NotJson (cond b (read line) None) ≡ Err NotJson
absent true line h = rw (h refl) refl
absent false line h = refl

pub tree_absent : (line : List ℕ) → (IsUtf8 line → read line ≡ None) → tree_of line ≡ Err NotJson
unfolding tree_of
tree_absent line h = absent (is_utf8 line) line (λ e. h (IsUtf8-from_is_utf8 line e))

pub list_any-map : {X Y : Type 0} (p : Y → Bool) (f : X → Y) (xs : List X) → list_any p (map f xs) ≡ list_any (λ x. p (f x)) xs
list_any-map p f [] = refl
list_any-map p f (x ∷ xs) = rw (list_any-map p f xs) refl

-- the keys of a map are the names of the object
pub are_among-keys : (names : List (List ℕ)) (es : List (String Global × Value)) → are_among names (members_view es) ≡ list_all (λ k. is_among names (string_bytes k)) (keys_of es)
are_among-keys names [] = refl
are_among-keys names (e ∷ es) = rw (are_among-keys names es) refl

pub are_digits_model : IsNumeralModel (λ digits. list_all is_ascii_digit digits ≡ true) (digits_value 10)
are_digits_model = numerals_by_value _ (search rules)

-- what `parse` gives for a text of 1 to 38 digits
pub amount_parsed : {E : Type 0} (text : List ℕ) (r : Result ℕ E) → ParsesUnsigned 128 10 text r → is_number 38 text ≡ true → r ≡ Ok (digits_value 10 text)
amount_parsed text r parsed h =
    let parts : ((nat_lt 0 (length text) && nat_le (length text) 38) ≡ true) × (list_all is_ascii_digit text ≡ true) = and_parts _ _ h in
    let sizes : (nat_lt 0 (length text) ≡ true) × (nat_le (length text) 38 ≡ true) = and_parts _ _ parts.0 in
    let some : 0 < length text = leb-true _ _ sizes.0 in
    let short : length text ≤ 38 = leb-true _ _ sizes.1 in
    parse_gives are_digits_model 128 text r parsed parts.1 some (omega (arith, digits_value_short are_digits_model text 38 parts.1 short))

own_fault : (Y : Type 0) (fault : LineFault) → Fails {Y = Y} fault (Err fault)
own_fault Y NoMemory = tt
own_fault Y NotJson = refl
own_fault Y (BadShape number) = refl

-- a call that hands a reading's fault on
pub fault_given : {X Y : Type 0} (seen : X → Y) (fault : LineFault) (result : Result X LineFault) → result ≡ Err fault → Gives seen result (Err fault)
fault_given seen fault result e = rw e (own_fault _ fault)

-- A walk over a plain tape gives what the walk over the tree of the line gives.
pub walked : {X Y : Type 0} (seen : X → Y) (r : Result X LineFault) (form : Data → Result Y LineFault) (text : List ℕ) (ts : List Token) (d : Data) → IsUtf8 text → Spells ts d → read text ≡ Some d
    → Gives seen r (form (tree_at ts)) → Gives seen r (tree_of text >>= form)
walked seen r form text ts d utf8 spells is h =
    let same : tree_of text >>= form ≡ form (tree_at ts) = ap (λ t. t >>= form) (tree_found text d utf8 is) ∙ sym (ap form (tree_at-Spells ts d spells)) in
    subst (Gives seen r) (sym same) h
