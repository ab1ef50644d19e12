-- The line of a statement is read as the statement.
use Rattle.std.proofs.Common.{◌≡◌, ◌∙◌, ap, sym, refl, ℕ, ◌^◌, ◌<◌, lt-ltb, true, false, List, [], ◌∷◌, ◌++◌, map, decimal, Some, Result, Ok, codes, arith, All, flat_map}
use Rattle.std.proofs.lemmas.{List.Elements.{All-cons, All-head, All-nil, All-tail}, Map.Keys.IsDistinct-from_sorted}
use Rattle.std.specs.Map.{keys_of}
use Rattle.json.proofs.Printed.Utf8.{IsUtf8-are_ascii, are_ascii}
use Rattle.serde_json.specs.{Data.string, Read.max_depth, View.items_of}
use Rattle.base_types.specs.{Denom.is_denom, Orders.denom_cmp}
use Rattle.base_bech32.specs.declared.form.Form.{Form}
use Rattle.base_coins.specs.{Coins.{IsMoney, Money, sorted_coins, stands_twice}, Steps.{◌>>=◌}}
use Rattle.base_coins.{specs.declared.coin.DecCoin.DecCoin, proofs.{Amounts.same_list, Order.rises_from_money}}
use Rattle.base_coins.proofs.Sorting.{amount-sorted, not_twice, rises_sorted}
use Rattle.base_decimals.specs.Texts.{dec_text}
use Rattle.base_messages.specs.declared.faults.LineFault.{LineFault, TheVariants.BadShape}
use Rattle.line_json.specs.{Coin.{dec_coin_of, dec_coins_at, money_of}, Members.number_in}
use Rattle.line_json.specs.{Nested.{each_element, with_front}, Reading.or_fault}
use Rattle.line_json.specs.Values.{coin_data, count_data, dec_coins_data, decimal_data, whole_data}
use Rattle.line_json.proofs.{TextLemmas.{dec_text_is_utf8, denom_is_utf8}, EndLemmas.first_line}
use Rattle.line_json.proofs.BackLemmas.{amount_is_read, denom_is_read}
use Rattle.mod_statement.specs.declared.{entry.Entry.Entry, statement.Statement.Statement}
use Rattle.mod_statement.specs.declared.entry.Entry.TheVariants as entry
use Rattle.line_statements.specs.Entries.{allocated_of, entries_data, entry_data, entry_of, kind_of, slashed_of, started_of}
use Rattle.line_statements.specs.Statements.{statement_data, statement_of, statement_of_tree, text_of_statement}
use Rattle.law_lines.specs.Statements.{AreDecCoins, IsEntry, IsStated, StatementsAreRead, StatementsDiffer, StatementsInTextsAreRead, statements_in}
use Rattle.law_lines.proofs.TextLemmas.{AreSpelled, IsSpelled, amount_is_utf8, count, element, elements, end, members, more, no_elements, operator_is_utf8, spelled_deeper, text, tree_spelled, user_is_utf8}
use Rattle.law_lines.proofs.ValueLemmas.{decimal_is_read, operator_is_read, user_is_read}

-- ---- one step after another

step : {A B : Type 0} (r : Result A LineFault) (a : A) (g : A → Result B LineFault) (b : B) → r ≡ Ok a → g a ≡ Ok b → (r >>= g) ≡ Ok b
step r a g b h k = ap (λ q. q >>= g) h ∙ k

-- ---- decimal coins

-- a coin, as it is read
abbrev coin_read : List ℕ × ℕ → DecCoin
coin_read c = record { denom = c.0; amount = c.1 }

dec_coin_is_read : (c : List ℕ × ℕ) → is_denom c.0 ≡ true → c.1 < 10 ^ 38 → dec_coin_of (coin_data decimal_data c) ≡ Ok (coin_read c)
unfolding dec_coin_of
dec_coin_is_read c name small =
    step _ c.0 _ _ (ap (or_fault (BadShape 32)) (denom_is_read c.0 name))
    (step _ c.1 _ _ (ap (or_fault (BadShape 134)) (decimal_is_read c.1 small)) refl)

each_coin_is_read : (coins : Money) → All (λ c. is_denom c.0 ≡ true) coins → All (λ c. c.1 < 10 ^ 38) coins
    → each_element dec_coin_of (items_of (map (coin_data decimal_data) coins)) ≡ Ok (map coin_read coins)
each_coin_is_read [] names small = refl
each_coin_is_read (c ∷ cs) names small =
    ap (λ r. r >>= λ x. with_front (x ∷ []) (each_element dec_coin_of (items_of (map (coin_data decimal_data) cs))))
    (dec_coin_is_read c (All-head (λ d. is_denom d.0 ≡ true) c cs names) (All-head (λ d. d.1 < 10 ^ 38) c cs small))
    ∙ ap (with_front (coin_read c ∷ [])) (each_coin_is_read cs (All-tail (λ d. is_denom d.0 ≡ true) c cs names) (All-tail (λ d. d.1 < 10 ^ 38) c cs small))

pairs_again : (coins : Money) → map (λ (coin : DecCoin). (coin.denom, coin.amount)) (map coin_read coins) ≡ coins
pairs_again [] = refl
pairs_again (c ∷ cs) = ap (λ (l : Money). c ∷ l) (pairs_again cs)

-- a list of coins is sorted already, and has each denomination once
sorted_again : (coins : Money) → IsMoney coins → sorted_coins coins ≡ coins
sorted_again coins m = same_list (sorted_coins coins) coins (rises_sorted coins m.below) (rises_from_money coins m) (λ q. amount-sorted coins q m.below)

money_is_read : (number : ℕ) (coins : Money) → IsMoney coins → money_of number coins ≡ Ok coins
money_is_read number coins m =
    let once : stands_twice coins ≡ false = not_twice coins (IsDistinct-from_sorted denom_cmp (keys_of coins) m.sorted) in
    rw once (ap Ok (sorted_again coins m))

-- the member of decimal coins, where this was found
coins_are_read : (number : ℕ) (coins : Money) → AreDecCoins coins
    → (each_element dec_coin_of (items_of (map (coin_data decimal_data) coins)) >>= λ found. money_of number (map (λ (coin : DecCoin). (coin.denom, coin.amount)) found)) ≡ Ok coins
coins_are_read number coins h =
    step _ (map coin_read coins) _ _ (each_coin_is_read coins h.names h.money.below) (ap (money_of number) (pairs_again coins) ∙ money_is_read number coins h.money)

coin_is_spelled : (c : List ℕ × ℕ) → is_denom c.0 ≡ true → IsSpelled 1 (coin_data decimal_data c)
coin_is_spelled c name = members (more refl (text (dec_text c.1) (dec_text_is_utf8 c.1)) (more refl (text c.0 (denom_is_utf8 c.0 name)) end))

each_coin_is_spelled : (coins : Money) → All (λ c. is_denom c.0 ≡ true) coins → AreSpelled 1 (items_of (map (coin_data decimal_data) coins))
each_coin_is_spelled [] names = no_elements
each_coin_is_spelled (c ∷ cs) names =
    element (coin_data decimal_data c) (items_of (map (coin_data decimal_data) cs)) (coin_is_spelled c (All-head (λ d. is_denom d.0 ≡ true) c cs names))
    (each_coin_is_spelled cs (All-tail (λ d. is_denom d.0 ≡ true) c cs names))

coins_are_spelled : (coins : Money) → AreDecCoins coins → IsSpelled 2 (dec_coins_data coins)
coins_are_spelled coins h = elements (items_of (map (coin_data decimal_data) coins)) (each_coin_is_spelled coins h.names)

-- ---- entries

started_is_read : (shares tokens total : ℕ) → IsEntry (entry.Started shares tokens total) → started_of (entry_data (entry.Started shares tokens total)) ≡ Ok (entry.Started shares tokens total)
unfolding started_of
started_is_read shares tokens total h =
    step _ shares _ _ (ap (or_fault (BadShape 132)) (decimal_is_read shares h.0))
    (step _ tokens _ _ (ap (or_fault (BadShape 133)) (amount_is_read tokens h.1))
    (step _ total _ _ (ap (or_fault (BadShape 135)) (decimal_is_read total h.2)) refl))

allocated_is_read : (coins : Money) (tokens : ℕ) → IsEntry (entry.Allocated coins tokens) → allocated_of (entry_data (entry.Allocated coins tokens)) ≡ Ok (entry.Allocated coins tokens)
unfolding allocated_of dec_coins_at
allocated_is_read coins tokens h =
    step _ coins _ _ (coins_are_read 136 coins h.0)
    (step _ tokens _ _ (ap (or_fault (BadShape 133)) (amount_is_read tokens h.1)) refl)

slashed_is_read : (burned tokens : ℕ) → IsEntry (entry.Slashed burned tokens) → slashed_of (entry_data (entry.Slashed burned tokens)) ≡ Ok (entry.Slashed burned tokens)
unfolding slashed_of
slashed_is_read burned tokens h =
    step _ burned _ _ (ap (or_fault (BadShape 137)) (amount_is_read burned h.0))
    (step _ tokens _ _ (ap (or_fault (BadShape 133)) (amount_is_read tokens h.1)) refl)

entry_is_read : (e : Entry) → IsEntry e → entry_of (entry_data e) ≡ Ok e
unfolding entry_of kind_of
entry_is_read (entry.Started shares tokens total) h = started_is_read shares tokens total h
entry_is_read (entry.Allocated coins tokens) h = allocated_is_read coins tokens h
entry_is_read entry.Ended h = refl
entry_is_read (entry.Slashed burned tokens) h = slashed_is_read burned tokens h
entry_is_read entry.Touched h = refl

entries_are_read : (es : List Entry) → All IsEntry es → each_element entry_of (items_of (map entry_data es)) ≡ Ok es
entries_are_read [] h = refl
entries_are_read (e ∷ es) h =
    ap (λ r. r >>= λ x. with_front (x ∷ []) (each_element entry_of (items_of (map entry_data es)))) (entry_is_read e (All-head IsEntry e es h))
    ∙ ap (with_front (e ∷ [])) (entries_are_read es (All-tail IsEntry e es h))

decimal_is_spelled : {k : ℕ} (n : ℕ) → IsSpelled k (decimal_data n)
decimal_is_spelled n = text (dec_text n) (dec_text_is_utf8 n)

amount_is_spelled : {k : ℕ} (n : ℕ) → n < 10 ^ 38 → IsSpelled k (whole_data n)
amount_is_spelled n small = text (decimal n) (amount_is_utf8 n small)

word : {k : ℕ} (name : List ℕ) → are_ascii name ≡ true → IsSpelled k (string name)
word name low = text name (IsUtf8-are_ascii name low)

entry_is_spelled : (e : Entry) → IsEntry e → IsSpelled 3 (entry_data e)
entry_is_spelled (entry.Started shares tokens total) h =
    members (more refl (word (codes "started") refl) (more refl (decimal_is_spelled shares) (more refl (amount_is_spelled tokens h.1) (more refl (decimal_is_spelled total) end))))
entry_is_spelled (entry.Allocated coins tokens) h =
    members (more refl (coins_are_spelled coins h.0) (more refl (word (codes "allocated") refl) (more refl (amount_is_spelled tokens h.1) end)))
entry_is_spelled entry.Ended h = members (more refl (word (codes "ended") refl) end)
entry_is_spelled (entry.Slashed burned tokens) h =
    members (more refl (amount_is_spelled burned h.0) (more refl (word (codes "slashed") refl) (more refl (amount_is_spelled tokens h.1) end)))
entry_is_spelled entry.Touched h = members (more refl (word (codes "touched") refl) end)

each_entry_is_spelled : (es : List Entry) → All IsEntry es → AreSpelled 3 (items_of (map entry_data es))
each_entry_is_spelled [] h = no_elements
each_entry_is_spelled (e ∷ es) h =
    element (entry_data e) (items_of (map entry_data es)) (entry_is_spelled e (All-head IsEntry e es h)) (each_entry_is_spelled es (All-tail IsEntry e es h))

entries_are_spelled : (es : List Entry) → All IsEntry es → IsSpelled 4 (entries_data es)
entries_are_spelled es h = elements (items_of (map entry_data es)) (each_entry_is_spelled es h)

-- ---- statements

whole_is_read : (n : ℕ) → n < 2 ^ 63 → number_in (count_data n) ≡ Some n
whole_is_read n few = rw (lt-ltb n (2 ^ 63) few) refl

coins_in : (coins : Money) → AreDecCoins coins → IsSpelled 4 (dec_coins_data coins)
coins_in coins h = spelled_deeper 2 4 (dec_coins_data coins) (omega arith) (coins_are_spelled coins h)

statement_is_spelled : (f : Form) (s : Statement) → IsStated s → IsSpelled 5 (statement_data f s)
statement_is_spelled f s h =
    members
    (more refl (text _ (user_is_utf8 f s.delegator))
    (more refl (entries_are_spelled s.entries h.entries)
    (more refl (count s.height (omega (arith, h.height)))
    (more refl (coins_in s.high h.high)
    (more refl (word (codes "statement") refl)
    (more refl (coins_in s.low h.low)
    (more refl (coins_in s.ratio h.ratio)
    (more refl (count s.removals (omega (arith, h.removals)))
    (more refl (coins_in s.reward h.reward)
    (more refl (coins_in s.slack h.slack)
    (more refl (text _ (operator_is_utf8 f s.operator)) end)))))))))))

tree_is_read : (f : Form) (s : Statement) → IsStated s → statement_of_tree f (statement_data f s) ≡ Ok s
unfolding statement_of_tree dec_coins_at
tree_is_read f s h =
    step _ s.delegator _ _ (ap (or_fault (BadShape 121)) (user_is_read f s.delegator h.delegator))
    (step _ s.operator _ _ (ap (or_fault (BadShape 122)) (operator_is_read f s.operator h.operator))
    (step _ s.height _ _ (ap (or_fault (BadShape 123)) (whole_is_read s.height h.height))
    (step _ s.reward _ _ (coins_are_read 124 s.reward h.reward)
    (step _ s.low _ _ (coins_are_read 125 s.low h.low)
    (step _ s.high _ _ (coins_are_read 126 s.high h.high)
    (step _ s.slack _ _ (coins_are_read 127 s.slack h.slack)
    (step _ s.removals _ _ (ap (or_fault (BadShape 128)) (whole_is_read s.removals h.removals))
    (step _ s.ratio _ _ (coins_are_read 129 s.ratio h.ratio)
    (step _ s.entries _ _ (entries_are_read s.entries h.entries) refl)))))))))

pub statement_is_read : StatementsAreRead
unfolding statement_of
statement_is_read f s h =
    ap (λ t. t >>= statement_of_tree f) (tree_spelled (statement_data f s) (spelled_deeper 5 max_depth (statement_data f s) (omega arith) (statement_is_spelled f s h)))
    ∙ tree_is_read f s h

pub texts_are_read : StatementsInTextsAreRead
texts_are_read f [] h = refl
texts_are_read f (s ∷ ss) h =
    let rest = flat_map (text_of_statement f) ss in
    ap (map (statement_of f)) (first_line (statement_data f s) rest)
    ∙ ap (λ (r : Result Statement LineFault). r ∷ statements_in f rest) (statement_is_read f s (All-head IsStated s ss h))
    ∙ ap (λ (rs : List (Result Statement LineFault)). Ok s ∷ rs) (texts_are_read f ss (All-tail IsStated s ss h))

first_same : (s t : Statement) → ◌≡◌ {A = List (Result Statement LineFault)} (Ok s ∷ []) (Ok t ∷ []) → s ≡ t
first_same s t e = cc

pub statements_differ : StatementsDiffer
statements_differ f s t hs ht e =
    let one : (r : Statement) → IsStated r → All IsStated (r ∷ []) = λ r hr. All-cons IsStated r [] hr (All-nil IsStated) in
    first_same s t (sym (texts_are_read f (s ∷ []) (one s hs)) ∙ ap (λ text. statements_in f (text ++ [])) e ∙ texts_are_read f (t ∷ []) (one t ht))
