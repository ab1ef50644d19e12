-- A plain tape spells the tree that `serde_json` reads, and each place of it spells one tree.
use Rattle.std.proofs.Common.{◌≡◌, ℕ, zero, suc, ◌+◌, ◌-◌, ◌^◌, ◌<◌, ◌≤◌, ◌&&◌, ◌==◌, nat_lt, Bool, true, false, List, [], ◌∷◌, ◌++◌, length, Option, Some, None, is_some, drop, Float, ℤ, option_map, option_and_then, refl, sym, ap, ◌∙◌, subst, arith, append_assoc, append-nil, length-append, IsSome, slice_index, unwrap_or, if◌then◌else◌, leb-true}
use Rattle.std.{specs.Prelude.⊤, proofs.lemmas.Bool.and_parts}
use Rattle.fast_float.specs.Text.{minus, scan, digits_of}
use Rattle.json.{specs.{Token.Token, Lex.tokens, Find.{BeginsWith, InItems}}, proofs.Grammar.closed_array}
use Rattle.json.proofs.{Printed.Trees.value-json_tokens, Unique.Spelling.{value-json_tokens_back, tokens-document}}
use Rattle.json.specs.Json as json
use Rattle.json.specs.Tree as tree
use Rattle.serde_json.specs.Data.{Num, unsigned, negative, float, Data, null, number, array, object, Items, item, Members, no_members, put}
use Rattle.serde_json.specs.Find.{as_u64}
use Rattle.serde_json.specs.Read.{is_integer, number_of, number_from, float_of, of_json, of_items, of_members, max_depth, read}
use Rattle.line_json.specs.Tape.{count_of, is_count, is_plain, Spells, tree_at}

-- ---- a value nests no deeper than it has tokens

mutual
  depth_within : (j : json.Json) → tree.depth j ≤ length (tree.json_tokens j)
  depth_within json.null = omega arith
  depth_within (json.boolean b) = omega arith
  depth_within (json.number s) = omega arith
  depth_within (json.string s) = omega arith
  depth_within (json.array js) = omega (arith, items_within js)
  depth_within (json.object ms) = omega (arith, members_within ms)

  items_within : (js : json.Items) → tree.items_depth js ≤ length (tree.items_tokens js)
  items_within json.no_items = omega arith
  items_within (json.item j js) = omega (arith, depth_within j, items_within js, length-append (tree.json_tokens j) (tree.items_tokens js))

  members_within : (ms : json.Members) → tree.members_depth ms ≤ length (tree.members_tokens ms)
  members_within json.no_members = omega arith
  members_within (json.member k j ms) = omega (arith, depth_within j, members_within ms, length-append (tree.json_tokens j) (tree.members_tokens ms))

-- ---- the tree at a place

at_length : (ts r : List Token) (j : json.Json) → ts ≡ tree.json_tokens j ++ r → json.value (length ts) ts ≡ Some (j, r)
at_length ts r j e =
    let long : length ts ≡ length (tree.json_tokens j) + length r = ap length e ∙ length-append (tree.json_tokens j) r in
    ap (json.value (length ts)) e ∙ value-json_tokens j (length ts) r (omega (arith, long, depth_within j))

pub tree_at-Spells : (ts : List Token) (d : Data) → Spells ts d → tree_at ts ≡ d
unfolding tree_at
tree_at-Spells ts d h =
    let j = h.0 in
    let begins = h.1 in
    let found = at_length ts begins.1 j (value-json_tokens_back begins.0 ts begins.1 j begins.2) in
    ap (λ o. unwrap_or (option_and_then (λ p. of_json p.0) o) null) found ∙ ap (λ o. unwrap_or o null) h.2

-- ---- a whole text

-- an object or an array is plain as long as one more bracket may open
room_left : (b : Bool) (room : ℕ) → (nat_lt 0 room && b) ≡ true → (0 < room) × (b ≡ true)
room_left b room h =
    let parts = and_parts (nat_lt 0 room) b h in
    (leb-true 1 room parts.0, parts.1)

counted : (s : List ℕ) → is_count s ≡ true → (n : Num) × (number_of s ≡ Some n)
unfolding number_of
counted s h = go (slice_index s 0 == minus) (is_integer (scan s) && nat_lt (digits_of (scan s)) (2 ^ 64)) refl refl h
  where
    go : (m c : Bool) → (slice_index s 0 == minus) ≡ m → (is_integer (scan s) && nat_lt (digits_of (scan s)) (2 ^ 64)) ≡ c
        → is_some (if m then None else (if c then Some (digits_of (scan s)) else None)) ≡ true
        → (n : Num) × ((if m then number_from true (scan (drop 1 s)) else (if c then Some (unsigned (digits_of (scan s))) else float_of false (scan s))) ≡ Some n)
    go true c x e h = absurd cc
    go false true x e h = (unsigned (digits_of (scan s)), refl)
    go false false x e h = absurd cc

no_float : (b : Bool) (x : Float) → None ≡ option_and_then as_u64 (if b then Some (float x) else None)
no_float true x = refl
no_float false x = refl

signed : (b : Bool) (z : ℤ) (x : Float) (finite : Bool) → None ≡ option_and_then as_u64 (if b then Some (negative z) else (if finite then Some (float x) else None))
signed true z x finite = refl
signed false z x finite = no_float finite x

unsigned_or : (b : Bool) (n : ℕ) (x : Float) (finite : Bool) → (if b then Some n else None) ≡ option_and_then as_u64 (if b then Some (unsigned n) else (if finite then Some (float x) else None))
unsigned_or true n x finite = refl
unsigned_or false n x finite = no_float finite x

either_sign : (m : Bool) (a : Option ℕ) (p q : Option Num) → None ≡ option_and_then as_u64 p → a ≡ option_and_then as_u64 q → (if m then None else a) ≡ option_and_then as_u64 (if m then p else q)
either_sign true a p q h k = h
either_sign false a p q h k = k

-- the count that a number's text spells is that of the number
pub count_of-number_of : (s : List ℕ) → count_of s ≡ option_and_then as_u64 (number_of s)
unfolding number_of
count_of-number_of s = either_sign (slice_index s 0 == minus) _ _ _ (signed _ _ _ _) (unsigned_or _ _ _ _)

mutual
  plain_value : (j : json.Json) (room : ℕ) (rest : List Token) → is_plain room (tree.json_tokens j ++ rest) ≡ true → (tree.depth j ≤ room) × (d : Data) × (of_json j ≡ Some d) × (is_plain room rest ≡ true)
  plain_value json.null room rest h = (omega arith, _, refl, h)
  plain_value (json.boolean b) room rest h = (omega arith, _, refl, h)
  plain_value (json.number s) room rest h =
      let parts = and_parts (is_count s) _ h in
      (omega arith, _, ap (option_map number) (counted s parts.0).1, parts.1)
  plain_value (json.string s) room rest h = (omega arith, _, refl, h)
  plain_value (json.array js) room rest h =
      let opened = room_left _ room h in
      let inner = plain_items js (room - 1) rest opened.1 in
      let back : room - 1 + 1 ≡ room = omega (arith, opened.0) in
      (omega (arith, opened.0, inner.0), _, ap (option_map array) inner.2, subst (λ n. is_plain n rest ≡ true) back inner.3)
  plain_value (json.object ms) room rest h =
      let opened = room_left _ room h in
      let inner = plain_members ms (room - 1) rest no_members opened.1 in
      let back : room - 1 + 1 ≡ room = omega (arith, opened.0) in
      (omega (arith, opened.0, inner.0), _, ap (option_map object) inner.2, subst (λ n. is_plain n rest ≡ true) back inner.3)

  plain_items : (js : json.Items) (room : ℕ) (rest : List Token) → is_plain room (tree.items_tokens js ++ rest) ≡ true → (tree.items_depth js ≤ room) × (ds : Items) × (of_items js ≡ Some ds) × (is_plain (room + 1) rest ≡ true)
  plain_items json.no_items room rest h = (omega arith, _, refl, h)
  plain_items (json.item j js) room rest h =
      let first = plain_value j room (tree.items_tokens js ++ rest) (ap (is_plain room) (sym (append_assoc (tree.json_tokens j) (tree.items_tokens js) rest)) ∙ h) in
      let others = plain_items js room rest first.3 in
      (omega (arith, first.0, others.0), _, ap (option_and_then (λ d. option_map (item d) (of_items js))) first.2 ∙ ap (option_map (item first.1)) others.2, others.3)

  plain_members : (ms : json.Members) (room : ℕ) (rest : List Token) (found : Members) → is_plain room (tree.members_tokens ms ++ rest) ≡ true → (tree.members_depth ms ≤ room) × (ds : Members) × (of_members ms found ≡ Some ds) × (is_plain (room + 1) rest ≡ true)
  plain_members json.no_members room rest found h = (omega arith, found, refl, h)
  plain_members (json.member k j ms) room rest found h =
      let first = plain_value j room (tree.members_tokens ms ++ rest) (ap (is_plain room) (sym (append_assoc (tree.json_tokens j) (tree.members_tokens ms) rest)) ∙ h) in
      let others = plain_members ms room rest (put k first.1 found) first.3 in
      (omega (arith, first.0, others.0), others.1, ap (option_and_then (λ d. of_members ms (put k d found))) first.2 ∙ others.2, others.3)

-- THE CENTRAL LEMMA: where a text is JSON and its tokens are plain, `serde_json` reads the tree that they spell
pub plain_is_read : (text : List ℕ) (j : json.Json) → json.document text ≡ Some j → is_plain max_depth (tokens text) ≡ true → (d : Data) × (of_json j ≡ Some d) × (read text ≡ Some d)
plain_is_read text j e h =
    let same : tokens text ≡ tree.json_tokens j ++ [] = tokens-document text j e ∙ sym (append-nil (tree.json_tokens j)) in
    let plain = plain_value j max_depth [] (ap (is_plain max_depth) (sym same) ∙ h) in
    let value : json.value max_depth (tokens text) ≡ Some (j, []) = ap (json.value max_depth) same ∙ value-json_tokens j max_depth [] plain.0 in
    (plain.1, plain.2, ap (λ o. option_and_then of_json (option_and_then (λ p. json.if_last p.0 p.1) o)) value ∙ plain.2)

-- ---- the elements of an array

abbrev Spelled : {A : Type 0} → (A → List Token) → List Token → Option (A × List Token) → Type 0
Spelled f ts None = ⊤
Spelled f ts (Some p) = ts ≡ f p.0 ++ p.1

then_items : (j : json.Json) (ts r : List Token) → ts ≡ tree.json_tokens j ++ r → (o : Option (json.Items × List Token)) → Spelled tree.items_tokens r o → Spelled tree.items_tokens ts (json.parse_map (json.item j) o)
then_items j ts r e None x = tt
then_items j ts r e (Some p) x = e ∙ ap (λ l. tree.json_tokens j ++ l) x ∙ sym (append_assoc (tree.json_tokens j) (tree.items_tokens p.0) p.1)

module _ (d : ℕ) where
  first_item : (n : ℕ) → ((ts : List Token) → Spelled tree.items_tokens ts (json.items (json.value d) n ts)) → (ts : List Token) (o : Option (json.Json × List Token)) → json.value d ts ≡ o
      → Spelled tree.items_tokens ts (option_and_then (λ q. json.parse_map (json.item q.0) (json.items (json.value d) n q.1)) o)
  first_item n again ts None e = tt
  first_item n again ts (Some q) e = then_items q.0 ts q.1 (value-json_tokens_back d ts q.1 q.0 e) _ (again q.1)

  item_turn : (n : ℕ) → ((ts : List Token) → Spelled tree.items_tokens ts (json.items (json.value d) n ts)) → (ts : List Token) (o : Option (List Token)) → json.after_end_array ts ≡ o
      → Spelled tree.items_tokens ts (json.items_step (json.value d) (json.items (json.value d) n) ts o)
  item_turn n again ts (Some r) e = closed_array ts r e
  item_turn n again ts None e = first_item n again ts (json.value d ts) refl

  items_spelled : (n : ℕ) (ts : List Token) → Spelled tree.items_tokens ts (json.items (json.value d) n ts)
  unfolding json.items
  items_spelled zero ts = tt
  items_spelled (suc n) ts = item_turn n (items_spelled n) ts (json.after_end_array ts) refl

-- the elements that are left are an array of their own
pub items_begin : (ts : List Token) (js : json.Items) → InItems ts js → BeginsWith (Token.begin_array ∷ ts) (json.array js)
items_begin ts js (d, n, r, e) =
    let spelled : ts ≡ tree.items_tokens js ++ r = subst (Spelled tree.items_tokens ts) e (items_spelled d n ts) in
    (length (Token.begin_array ∷ ts), r, at_length (Token.begin_array ∷ ts) r (json.array js) (ap (λ l. Token.begin_array ∷ l) spelled))

some_there : {A : Type 0} (o : Option A) → IsSome o → (a : A) × (o ≡ Some a)
some_there None h = absurd cc
some_there (Some a) h = (a, refl)

-- the same of a tape that was parsed
pub plain_tape : (text : List ℕ) (ts : List Token) → ts ≡ tokens text → IsSome (json.document text) → ((j : json.Json) → json.document text ≡ Some j → BeginsWith ts j) → is_plain max_depth ts ≡ true → (d : Data) × Spells ts d × (read text ≡ Some d)
plain_tape text ts same some begins h =
    let j = some_there (json.document text) some in
    let told = plain_is_read text j.0 j.1 (ap (is_plain max_depth) (sym same) ∙ h) in
    (told.0, (j.0, begins j.0 j.1, told.1), told.2)
