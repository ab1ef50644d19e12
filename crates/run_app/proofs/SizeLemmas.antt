-- A list that a line spells has no more elements than the line has bytes, and one more.
use Rattle.std.proofs.Common.{◌≡◌, ℕ, zero, suc, ◌+◌, ◌<◌, ◌≤◌, Bool, true, false, cond, List, [], ◌∷◌, ◌++◌, length, Option, Some, None, option_map, option_and_then, Result, Ok, Err, refl, ap, subst, arith, codes, Ordering, Less, Equal, Greater, nat_cmp}
use Rattle.std.specs.{Prelude.⊤, Ordering.match_ordering, Cmp.Lexicographic.slice_cmp}
use Rattle.json.specs.Token.{Token}
use Rattle.json.specs.Json.{Json, Parse, parse_map, after_end_array, read_key, items_step, members_step, if_last}
use Rattle.json.specs.Lex.{Lexeme, Mode, Class, Place, class, lex, lex_byte, tokens, punctuate, place_token, if_allowed, begins_colon, may_begin, may_close}
use Rattle.json.proofs.Grammar.{left, skip_value-shorter, read_key-shorter}
use Rattle.json.specs.Json as json
use Rattle.json.specs.Lex as lexer
use Rattle.serde_json.specs.Data.{Data, null, boolean, number, string, array, object, Items, no_items, item, Members, no_members, member, put}
use Rattle.serde_json.specs.{Find.{get, get_member, as_array}, Read.{of_json, of_items, of_members, read, max_depth}}
use Rattle.base_bech32.specs.declared.form.Form.{Form}
use Rattle.base_coins.specs.Steps.{◌>>=◌}
use Rattle.base_messages.specs.declared.faults.LineFault.{LineFault, TheVariants.{BadShape, NotJson}}
use Rattle.base_messages.specs.declared.genesis.Genesis.{Genesis}
use Rattle.line_json.specs.{Reading.{or_fault, tree_of}, Members.{member_at, moment_at, word_at, only_named}}
use Rattle.line_json.specs.{Nested.{each_element, with_front, list_at, object_at}, Params.params_of}
use Rattle.line_json.specs.Genesis.{account_of_tree, validator_of, delegation_of, genesis_of_tree, genesis_of}
use Rattle.run_app.specs.Sizes.{DelegationsAreFew}

-- ---- what holds of what is found

-- the fact holds of what is found, where something is
abbrev Holds : {A : Type 0} → (A → Type 0) → Option A → Type 0
Holds P None = ⊤
Holds P (Some x) = P x

holds_map : {A B : Type 0} (P : A → Type 0) (Q : B → Type 0) (f : A → B) (o : Option A) → ((x : A) → P x → Q (f x)) → Holds P o → Holds Q (option_map f o)
holds_map P Q f None h k = tt
holds_map P Q f (Some x) h k = h x k

holds_then : {A B : Type 0} (P : A → Type 0) (Q : B → Type 0) (f : A → Option B) (o : Option A) → ((x : A) → o ≡ Some x → P x → Holds Q (f x)) → Holds P o → Holds Q (option_and_then f o)
holds_then P Q f None h k = tt
holds_then P Q f (Some x) h k = h x refl k

anything : {A : Type 0} (o : Option A) → Holds (λ (x : A). ⊤) o
anything None = tt
anything (Some x) = tt

-- ---- bytes and tokens

shorter_lex : (m : Mode) (xs : List ℕ) → length (lex m xs) ≤ length xs
unfolding lex
shorter_lex m [] = omega arith
shorter_lex m (x ∷ xs) = by m (class x) (λ next. shorter_lex next xs)
  where
    by : (n : Mode) (c : Class) → ((next : Mode) → length (lex next xs) ≤ length xs) → length (lex_byte n c x xs (λ next. lex next xs)) ≤ length (x ∷ xs)
    by lexer.between lexer.quote h = omega (arith, h lexer.in_string)
    by lexer.between lexer.backslash h = omega (arith, h lexer.in_word)
    by lexer.between lexer.operator h = omega (arith, h lexer.between)
    by lexer.between lexer.space h = omega (arith, h lexer.between)
    by lexer.between lexer.other h = omega (arith, h lexer.in_word)
    by lexer.in_word lexer.quote h = omega (arith, h lexer.in_word)
    by lexer.in_word lexer.backslash h = omega (arith, h lexer.in_word)
    by lexer.in_word lexer.operator h = omega (arith, h lexer.between)
    by lexer.in_word lexer.space h = omega (arith, h lexer.between)
    by lexer.in_word lexer.other h = omega (arith, h lexer.in_word)
    by lexer.in_string lexer.quote h = omega (arith, h lexer.between)
    by lexer.in_string lexer.backslash h = omega (arith, h lexer.in_escape)
    by lexer.in_string lexer.operator h = omega (arith, h lexer.in_string)
    by lexer.in_string lexer.space h = omega (arith, h lexer.in_string)
    by lexer.in_string lexer.other h = omega (arith, h lexer.in_string)
    by lexer.in_escape c h = omega (arith, h lexer.in_string)

shorter_allowed : (b : Bool) (t : Token) (k : Place → List Token) (next : Place) (n : ℕ) → ((p : Place) → length (k p) ≤ n + 1) → length (if_allowed b t k next) ≤ n + 2
shorter_allowed true t k next n h = omega (arith, h next)
shorter_allowed false t k next n h = omega arith

shorter_place : (p : Place) (t : Token) (b : Bool) (k : Place → List Token) (n : ℕ) → ((q : Place) → length (k q) ≤ n + 1) → length (place_token p t b k) ≤ n + 2
shorter_place p Token.begin_object b k n h = shorter_allowed (may_begin p) Token.begin_object k lexer.fresh n h
shorter_place p Token.end_object b k n h = shorter_allowed (may_close p) Token.end_object k lexer.after_value n h
shorter_place p Token.begin_array b k n h = shorter_allowed (may_begin p) Token.begin_array k lexer.fresh n h
shorter_place p Token.end_array b k n h = shorter_allowed (may_close p) Token.end_array k lexer.after_value n h
shorter_place p (Token.key s) b k n h = omega arith
shorter_place p (Token.string s) true k n h = shorter_allowed (may_begin p) (Token.key s) k lexer.after_key n h
shorter_place p (Token.string s) false k n h = shorter_allowed (may_begin p) (Token.string s) k lexer.after_value n h
shorter_place p (Token.number s) b k n h = shorter_allowed (may_begin p) (Token.number s) k lexer.after_value n h
shorter_place p (Token.boolean c) b k n h = shorter_allowed (may_begin p) (Token.boolean c) k lexer.after_value n h
shorter_place p Token.null b k n h = shorter_allowed (may_begin p) Token.null k lexer.after_value n h
shorter_place p Token.bad b k n h = omega arith

shorter_tokens : (p : Place) (ls : List Lexeme) → length (punctuate p ls) ≤ length ls + 1
unfolding punctuate
shorter_tokens lexer.fresh [] = omega arith
shorter_tokens lexer.after_value [] = omega arith
shorter_tokens lexer.after_comma [] = omega arith
shorter_tokens lexer.after_key [] = omega arith
shorter_tokens lexer.fresh (lexer.token t ∷ ls) = omega (arith, shorter_place lexer.fresh t (begins_colon ls) (λ next. punctuate next ls) (length ls) (λ q. shorter_tokens q ls))
shorter_tokens lexer.after_value (lexer.token t ∷ ls) = omega (arith, shorter_place lexer.after_value t (begins_colon ls) (λ next. punctuate next ls) (length ls) (λ q. shorter_tokens q ls))
shorter_tokens lexer.after_comma (lexer.token t ∷ ls) = omega (arith, shorter_place lexer.after_comma t (begins_colon ls) (λ next. punctuate next ls) (length ls) (λ q. shorter_tokens q ls))
shorter_tokens lexer.after_key (lexer.token t ∷ ls) = omega (arith, shorter_place lexer.after_key t (begins_colon ls) (λ next. punctuate next ls) (length ls) (λ q. shorter_tokens q ls))
shorter_tokens lexer.fresh (lexer.comma ∷ ls) = omega arith
shorter_tokens lexer.after_value (lexer.comma ∷ ls) = omega (arith, shorter_tokens lexer.after_comma ls)
shorter_tokens lexer.after_comma (lexer.comma ∷ ls) = omega arith
shorter_tokens lexer.after_key (lexer.comma ∷ ls) = omega arith
shorter_tokens lexer.fresh (lexer.colon ∷ ls) = omega arith
shorter_tokens lexer.after_value (lexer.colon ∷ ls) = omega arith
shorter_tokens lexer.after_comma (lexer.colon ∷ ls) = omega arith
shorter_tokens lexer.after_key (lexer.colon ∷ ls) = omega (arith, shorter_tokens lexer.fresh ls)

few_tokens : (text : List ℕ) → length (tokens text) ≤ length text + 1
few_tokens text = omega (arith, shorter_tokens lexer.fresh (lex lexer.between text), shorter_lex lexer.between text)

-- ---- tokens and lists in a text

abbrev count_of : json.Items → ℕ
count_of json.no_items = 0
count_of (json.item j js) = 1 + count_of js

-- a value that is a list has at most so many elements
abbrev IsShort : ℕ → Json → Type 0
IsShort n json.null = ⊤
IsShort n (json.boolean b) = ⊤
IsShort n (json.number s) = ⊤
IsShort n (json.string s) = ⊤
IsShort n (json.array js) = count_of js ≤ n
IsShort n (json.object ms) = ⊤

-- each member of an object is such a value
abbrev AreShort : ℕ → json.Members → Type 0
AreShort n json.no_members = ⊤
AreShort n (json.member k j ms) = IsShort n j × AreShort n ms

-- the turns bound the elements
items_short : (p : Parse Json) (n : ℕ) (ts : List Token) → Holds (λ q. count_of q.0 ≤ n) (json.items p n ts)
unfolding json.items
items_short p zero ts = tt
items_short p (suc n) ts = by (after_end_array ts) (λ rest. items_short p n rest)
  where
    by : (o : Option (List Token)) → ((rest : List Token) → Holds (λ q. count_of q.0 ≤ n) (json.items p n rest)) → Holds (λ q. count_of q.0 ≤ suc n) (items_step p (json.items p n) ts o)
    by (Some rest) again = omega arith
    by None again = holds_then (λ q. ⊤) (λ q. count_of q.0 ≤ suc n) (λ q. parse_map (json.item q.0) (json.items p n q.1)) (p ts)
        (λ q e t. holds_map (λ r. count_of r.0 ≤ n) (λ r. count_of r.0 ≤ suc n) (λ r. (json.item q.0 r.0, r.1)) (json.items p n q.1) (λ r l. omega (arith, l)) (again q.1)) (anything (p ts))

-- one value of so many tokens
value_short : (depth n : ℕ) (ts : List Token) → length ts ≤ n → Holds (λ q. IsShort n q.0) (json.value depth ts)
unfolding json.value
value_short zero n [] l = tt
value_short zero n (Token.begin_object ∷ ts) l = tt
value_short zero n (Token.end_object ∷ ts) l = tt
value_short zero n (Token.begin_array ∷ ts) l = tt
value_short zero n (Token.end_array ∷ ts) l = tt
value_short zero n (Token.key s ∷ ts) l = tt
value_short zero n (Token.string s ∷ ts) l = tt
value_short zero n (Token.number s ∷ ts) l = tt
value_short zero n (Token.boolean b ∷ ts) l = tt
value_short zero n (Token.null ∷ ts) l = tt
value_short zero n (Token.bad ∷ ts) l = tt
value_short (suc d) n [] l = tt
value_short (suc d) n (Token.begin_object ∷ ts) l = holds_map (λ q. ⊤) (λ q. IsShort n q.0) (λ q. (json.object q.0, q.1)) (json.members (json.value d) (length ts) ts) (λ q t. tt) (anything (json.members (json.value d) (length ts) ts))
value_short (suc d) n (Token.end_object ∷ ts) l = tt
value_short (suc d) n (Token.begin_array ∷ ts) l = holds_map (λ q. count_of q.0 ≤ length ts) (λ q. IsShort n q.0) (λ q. (json.array q.0, q.1)) (json.items (json.value d) (length ts) ts) (λ q h. omega (arith, h, l)) (items_short (json.value d) (length ts) ts)
value_short (suc d) n (Token.end_array ∷ ts) l = tt
value_short (suc d) n (Token.key s ∷ ts) l = tt
value_short (suc d) n (Token.string s ∷ ts) l = tt
value_short (suc d) n (Token.number s ∷ ts) l = tt
value_short (suc d) n (Token.boolean b ∷ ts) l = tt
value_short (suc d) n (Token.null ∷ ts) l = tt
value_short (suc d) n (Token.bad ∷ ts) l = tt

-- the members of an object of so many tokens
members_short : (depth n t : ℕ) (ts : List Token) → length ts ≤ n → Holds (λ q. AreShort n q.0) (json.members (json.value depth) t ts)
unfolding json.members
members_short depth n zero ts l = tt
members_short depth n (suc t) ts l = by (read_key ts) refl (λ s m. members_short depth n t s m)
  where
    rest : (k : List ℕ) (s : List Token) → length s ≤ n → ((r : List Token) → length r ≤ n → Holds (λ q. AreShort n q.0) (json.members (json.value depth) t r)) → Holds (λ q. AreShort n q.0) (option_and_then (λ q. parse_map (json.member k q.0) (json.members (json.value depth) t q.1)) (json.value depth s))
    rest k s m again = holds_then (λ q. IsShort n q.0) (λ q. AreShort n q.0) (λ q. parse_map (json.member k q.0) (json.members (json.value depth) t q.1)) (json.value depth s)
        (λ q e short. let less : length q.1 < length s = skip_value-shorter depth s q.1 (ap left e) in
        holds_map (λ r. AreShort n r.0) (λ r. AreShort n r.0) (λ r. (json.member k q.0 r.0, r.1)) (json.members (json.value depth) t q.1) (λ r h. (short, h)) (again q.1 (omega (arith, less, m))))
        (value_short depth n s m)

    by : (o : Option (Option (List ℕ) × List Token)) → read_key ts ≡ o → ((r : List Token) → length r ≤ n → Holds (λ q. AreShort n q.0) (json.members (json.value depth) t r)) → Holds (λ q. AreShort n q.0) (option_and_then (λ q. members_step (json.value depth) (json.members (json.value depth) t) q.0 q.1) o)
    by None e again = tt
    by (Some (None, s)) e again = tt
    by (Some (Some k, s)) e again = rest k s (let less = read_key-shorter ts (Some k) s e in omega (arith, less, l)) again

-- the value of a text: where it is an object, each of its lists is short
abbrev IsRoot : ℕ → Json → Type 0
IsRoot n json.null = ⊤
IsRoot n (json.boolean b) = ⊤
IsRoot n (json.number s) = ⊤
IsRoot n (json.string s) = ⊤
IsRoot n (json.array js) = ⊤
IsRoot n (json.object ms) = AreShort n ms

root_short : (depth n : ℕ) (ts : List Token) → length ts ≤ n → Holds (λ q. IsRoot n q.0) (json.value depth ts)
unfolding json.value
root_short zero n [] l = tt
root_short zero n (Token.begin_object ∷ ts) l = tt
root_short zero n (Token.end_object ∷ ts) l = tt
root_short zero n (Token.begin_array ∷ ts) l = tt
root_short zero n (Token.end_array ∷ ts) l = tt
root_short zero n (Token.key s ∷ ts) l = tt
root_short zero n (Token.string s ∷ ts) l = tt
root_short zero n (Token.number s ∷ ts) l = tt
root_short zero n (Token.boolean b ∷ ts) l = tt
root_short zero n (Token.null ∷ ts) l = tt
root_short zero n (Token.bad ∷ ts) l = tt
root_short (suc d) n [] l = tt
root_short (suc d) n (Token.begin_object ∷ ts) l = holds_map (λ q. AreShort n q.0) (λ q. IsRoot n q.0) (λ q. (json.object q.0, q.1)) (json.members (json.value d) (length ts) ts) (λ q h. h) (members_short d n (length ts) ts (omega (arith, l)))
root_short (suc d) n (Token.end_object ∷ ts) l = tt
root_short (suc d) n (Token.begin_array ∷ ts) l = holds_map (λ q. ⊤) (λ q. IsRoot n q.0) (λ q. (json.array q.0, q.1)) (json.items (json.value d) (length ts) ts) (λ q t. tt) (anything (json.items (json.value d) (length ts) ts))
root_short (suc d) n (Token.end_array ∷ ts) l = tt
root_short (suc d) n (Token.key s ∷ ts) l = tt
root_short (suc d) n (Token.string s ∷ ts) l = tt
root_short (suc d) n (Token.number s ∷ ts) l = tt
root_short (suc d) n (Token.boolean b ∷ ts) l = tt
root_short (suc d) n (Token.null ∷ ts) l = tt
root_short (suc d) n (Token.bad ∷ ts) l = tt

-- ---- the tree

abbrev length_of : Items → ℕ
length_of no_items = 0
length_of (item d ds) = 1 + length_of ds

abbrev IsFew : ℕ → Data → Type 0
IsFew n null = ⊤
IsFew n (boolean b) = ⊤
IsFew n (number m) = ⊤
IsFew n (string s) = ⊤
IsFew n (array ds) = length_of ds ≤ n
IsFew n (object ms) = ⊤

abbrev AreFew : ℕ → Members → Type 0
AreFew n no_members = ⊤
AreFew n (member k d ms) = IsFew n d × AreFew n ms

abbrev HasFew : ℕ → Data → Type 0
HasFew n null = ⊤
HasFew n (boolean b) = ⊤
HasFew n (number m) = ⊤
HasFew n (string s) = ⊤
HasFew n (array ds) = ⊤
HasFew n (object ms) = AreFew n ms

items_few : (n : ℕ) (js : json.Items) → count_of js ≤ n → Holds (λ ds. length_of ds ≤ n) (of_items js)
items_few n json.no_items l = omega arith
items_few zero (json.item j js) l = absurd (omega (arith, l))
items_few (suc n) (json.item j js) l =
    holds_then (λ d. ⊤) (λ ds. length_of ds ≤ suc n) (λ d. option_map (item d) (of_items js)) (of_json j)
    (λ d e t. holds_map (λ ds. length_of ds ≤ n) (λ ds. length_of ds ≤ suc n) (item d) (of_items js) (λ ds h. omega (arith, h)) (items_few n js (omega (arith, l)))) (anything (of_json j))

value_few : (n : ℕ) (j : Json) → IsShort n j → Holds (IsFew n) (of_json j)
value_few n json.null h = tt
value_few n (json.boolean b) h = tt
value_few n (json.number s) h = holds_map (λ m. ⊤) (IsFew n) number _ (λ m t. tt) (anything _)
value_few n (json.string s) h = tt
value_few n (json.array js) h = holds_map (λ ds. length_of ds ≤ n) (IsFew n) array (of_items js) (λ ds k. k) (items_few n js h)
value_few n (json.object ms) h = holds_map (λ ns. ⊤) (IsFew n) object (of_members ms no_members) (λ ns t. tt) (anything (of_members ms no_members))

few_put : (n : ℕ) (k : List ℕ) (d : Data) (ms : Members) → IsFew n d → AreFew n ms → AreFew n (put k d ms)
few_put n k d no_members f h = (f, tt)
few_put n k d (member l e ms) f h = by (slice_cmp nat_cmp k l) (few_put n k d ms f h.1)
  where
    by : (o : Ordering) → AreFew n (put k d ms) → AreFew n (match_ordering o (member k d (member l e ms)) (member l d ms) (member l e (put k d ms)))
    by Less rest = (f, h)
    by Equal rest = (f, h.1)
    by Greater rest = (h.0, rest)

members_few : (n : ℕ) (ms : json.Members) (found : Members) → AreShort n ms → AreFew n found → Holds (AreFew n) (of_members ms found)
members_few n json.no_members found h f = f
members_few n (json.member k j ms) found h f = holds_then (IsFew n) (AreFew n) (λ d. of_members ms (put k d found)) (of_json j) (λ d e few. members_few n ms (put k d found) h.1 (few_put n k d found few f)) (value_few n j h.0)

root_few : (n : ℕ) (j : Json) → IsRoot n j → Holds (HasFew n) (of_json j)
root_few n json.null h = tt
root_few n (json.boolean b) h = tt
root_few n (json.number s) h = holds_map (λ m. ⊤) (HasFew n) number _ (λ m t. tt) (anything _)
root_few n (json.string s) h = tt
root_few n (json.array js) h = holds_map (λ ds. ⊤) (HasFew n) array (of_items js) (λ ds k. tt) (anything (of_items js))
root_few n (json.object ms) h = holds_map (AreFew n) (HasFew n) object (of_members ms no_members) (λ ns k. k) (members_few n ms no_members h tt)

last_is : (n : ℕ) (j : Json) (ts : List Token) → IsRoot n j → Holds (IsRoot n) (if_last j ts)
last_is n j [] h = h
last_is n j (t ∷ ts) h = tt

read_few : (text : List ℕ) → Holds (HasFew (length text + 1)) (read text)
read_few text =
    let n : ℕ = length text + 1 in
    holds_then (IsRoot n) (HasFew n) of_json (option_and_then (λ p. if_last p.0 p.1) (json.value max_depth (tokens text))) (λ j e h. root_few n j h)
    (holds_then (λ q. IsRoot n q.0) (IsRoot n) (λ p. if_last p.0 p.1) (json.value max_depth (tokens text)) (λ q e h. last_is n q.0 q.1 h) (root_short max_depth n (tokens text) (few_tokens text)))

-- ---- what a line spells

abbrev Gives : {A : Type 0} → (A → Type 0) → Result A LineFault → Type 0
Gives P (Ok x) = P x
Gives P (Err e) = ⊤

gives_then : {A B : Type 0} (P : A → Type 0) (Q : B → Type 0) (r : Result A LineFault) (f : A → Result B LineFault) → ((x : A) → P x → Gives Q (f x)) → Gives P r → Gives Q (r >>= f)
gives_then P Q (Ok x) f h k = h x k
gives_then P Q (Err e) f h k = tt

gives_any : {A : Type 0} (r : Result A LineFault) → Gives (λ (x : A). ⊤) r
gives_any (Ok x) = tt
gives_any (Err e) = tt

past : {A B : Type 0} (Q : B → Type 0) (r : Result A LineFault) (f : A → Result B LineFault) → ((x : A) → Gives Q (f x)) → Gives Q (r >>= f)
past Q r f h = gives_then (λ x. ⊤) Q r f (λ x t. h x) (gives_any r)

gives_of : {A : Type 0} (P : A → Type 0) (r : Result A LineFault) (x : A) → r ≡ Ok x → Gives P r → P x
gives_of P (Ok y) x e h = let same : y ≡ x = cc in subst P same h
gives_of P (Err f) x e h = absurd cc

faulty : {A : Type 0} (P : A → Type 0) (fault : LineFault) (o : Option A) → Holds P o → Gives P (or_fault fault o)
faulty P fault None h = tt
faulty P fault (Some x) h = h

elements : {A : Type 0} (reading : Data → Result A LineFault) (ds : Items) → Gives (λ xs. length xs ≡ length_of ds) (each_element reading ds)
elements reading no_items = refl
elements {A} reading (item d ds) = past (λ xs. length xs ≡ 1 + length_of ds) (reading d) (λ x. with_front (x ∷ []) (each_element reading ds))
    (λ x. gives_then (λ (xs : List A). length xs ≡ length_of ds) (λ xs. length xs ≡ 1 + length_of ds) (each_element reading ds) (λ rest. Ok ((x ∷ []) ++ rest)) (λ xs e. omega (arith, e)) (elements reading ds))

found_few : (n : ℕ) (name : List ℕ) (ms : Members) → AreFew n ms → Holds (IsFew n) (get_member name ms)
found_few n name no_members h = tt
found_few n name (member l e ms) h = by (slice_cmp nat_cmp name l) (found_few n name ms h.1)
  where
    by : (o : Ordering) → Holds (IsFew n) (get_member name ms) → Holds (IsFew n) (match_ordering o (get_member name ms) (Some e) (get_member name ms))
    by Less k = k
    by Equal k = h.0
    by Greater k = k

get_few : (n : ℕ) (name : List ℕ) (d : Data) → HasFew n d → Holds (IsFew n) (get name d)
get_few n name null h = tt
get_few n name (boolean b) h = tt
get_few n name (number m) h = tt
get_few n name (string s) h = tt
get_few n name (array ds) h = tt
get_few n name (object ms) h = found_few n name ms h

array_few : (n : ℕ) (d : Data) → IsFew n d → Holds (λ ds. length_of ds ≤ n) (as_array d)
array_few n null h = tt
array_few n (boolean b) h = tt
array_few n (number m) h = tt
array_few n (string s) h = tt
array_few n (array ds) h = h
array_few n (object ms) h = tt

list_few : {A : Type 0} (reading : Data → Result A LineFault) (n place : ℕ) (name : List ℕ) (d : Data) → HasFew n d → Gives (λ xs. length xs ≤ n) (list_at reading place name d)
list_few {A} reading n place name d h =
    gives_then (λ ds. length_of ds ≤ n) (λ (xs : List A). length xs ≤ n) (member_at as_array place name d) (each_element reading)
    (λ ds l. weaker ds l (each_element reading ds) (elements reading ds))
    (faulty (λ ds. length_of ds ≤ n) (BadShape place) (option_and_then as_array (get name d)) (holds_then (IsFew n) (λ ds. length_of ds ≤ n) as_array (get name d) (λ x e f. array_few n x f) (get_few n name d h)))
  where
    weaker : (ds : Items) → length_of ds ≤ n → (r : Result (List A) LineFault) → Gives (λ xs. length xs ≡ length_of ds) r → Gives (λ (xs : List A). length xs ≤ n) r
    weaker ds l (Ok xs) e = omega (arith, l, e)
    weaker ds l (Err f) e = tt

genesis_few : (form : Form) (n : ℕ) (d : Data) → HasFew n d → Gives (λ (g : Genesis). length g.delegations ≤ n) (genesis_of_tree form d)
unfolding genesis_of_tree
genesis_few form n d h =
    past _ (word_at 1 (codes "kind") (codes "genesis") d) _ (λ kind.
    past _ (moment_at 2 (codes "time") d) _ (λ time.
    past _ (object_at (params_of form) 3 (codes "params") d) _ (λ params.
    past _ (list_at (account_of_tree form) 4 (codes "accounts") d) _ (λ accounts.
    past _ (list_at (validator_of form) 5 (codes "validators") d) _ (λ validators.
    gives_then (λ xs. length xs ≤ n) (λ (g : Genesis). length g.delegations ≤ n) (list_at (delegation_of form) 6 (codes "delegations") d) _ (λ delegations few.
    past _ (only_named (codes "kind" ∷ codes "time" ∷ codes "params" ∷ codes "accounts" ∷ codes "validators" ∷ codes "delegations" ∷ []) d) _ (λ only. few)) (list_few (delegation_of form) n 6 (codes "delegations") d h))))))

tree_few : (line : List ℕ) → Gives (HasFew (length line + 1)) (tree_of line)
unfolding tree_of
tree_few line = by _
  where
    by : (b : Bool) → Gives (HasFew (length line + 1)) (or_fault NotJson (cond b (read line) None))
    by true = faulty (HasFew (length line + 1)) NotJson (read line) (read_few line)
    by false = tt

pub delegations_few : (form : Form) → DelegationsAreFew form
unfolding genesis_of
delegations_few form line g e = gives_of (λ (x : Genesis). length x.delegations ≤ length line + 1) (genesis_of form line) g e
    (gives_then (HasFew (length line + 1)) (λ (x : Genesis). length x.delegations ≤ length line + 1) (tree_of line) (genesis_of_tree form) (λ d h. genesis_few form (length line + 1) d h) (tree_few line))
