-- Compact texts of coins and of lists, and values of members.
use Rattle.std.proofs.Common.{◌≡◌, ◌∙◌, ap, sym, subst, refl, arith, ℕ, ◌^◌, ◌<◌, ◌≤◌, List, [], ◌∷◌, ◌++◌, All, Bool, true, false, map, Option, Some, None, option_map, option_and_then, Result, Ok, codes, decimal, lt-ltb, append_assoc, length, length-append, if◌then◌else◌}
use Rattle.json.specs.Print.{escape_byte}
use Rattle.serde_json.specs.Data.{Data, Items, no_items, item, number, unsigned, string, array, object, no_members, put}
use Rattle.serde_json.specs.{Find.{get, as_array}, Written.compact_text}
use Rattle.base_types.specs.{declared.account.Account.Account, Accounts.account_from, Denom.denom_of, Modules.user_from}
use Rattle.base_bech32.specs.declared.form.Form.{Form}
use Rattle.base_coins.specs.{declared.coin.Coin.Coin, Coins.Money, Steps.{◌>>=◌}}
use Rattle.base_messages.specs.declared.faults.LineFault.{LineFault, TheVariants.BadShape}
use Rattle.line_compact.specs.Begins.{Begins, IsSpelled}
use Rattle.line_compact.proofs.BeginLemmas.{HasElements, array_begins, no_more_elements, no_more_members, object_begins, one_more_element, one_more_member}
use Rattle.line_json.specs.Addresses.{account_in, account_prefix, bytes_in}
use Rattle.line_json.specs.Coin.{coin_at, coin_of, coins_at, money_of}
use Rattle.line_json.specs.{Compact.{IsCompact, IsCompactCoin, IsCompactList, IsMoneyOf}, Reading.or_fault}
use Rattle.line_json.specs.Members.{amount_of, member_at, number_in, spelled_by}
use Rattle.line_json.specs.Nested.{each_element, list_at, with_front}
use Rattle.line_json.proofs.{BackLemmas.{amount_is_read, member_read, next_is, read_two}, CoinLemmas.coins_below}

-- ---- members

pub number_read : (n : ℕ) → n < 2 ^ 63 → number_in (number (unsigned n)) ≡ Some n
number_read n h = ap (λ b. if b then Some n else None) (lt-ltb n (2 ^ 63) h)

pub list_read : {A : Type 0} (form : Data → Result A LineFault) (n : ℕ) (name : List ℕ) (d : Data) (elements : Items) (xs : List A) → get name d ≡ Some (array elements) → each_element form elements ≡ Ok xs
    → list_at form n name d ≡ Ok xs
list_read form n name d elements xs g h =
    next_is (member_at as_array n name d) elements (each_element form) (member_read as_array n name d (array elements) elements g refl) ∙ h

-- the address of a user
pub user_read : (f : Form) (prefix word bytes user : List ℕ) → bytes_in f prefix word ≡ Some bytes → Some user ≡ user_from bytes → option_and_then user_from (bytes_in f prefix word) ≡ Some user
user_read f prefix word bytes user h is = ap (option_and_then user_from) h ∙ sym is

-- the address of an account
pub account_read : (f : Form) (word bytes : List ℕ) (account : Account) → bytes_in f account_prefix word ≡ Some bytes → account ≡ account_from bytes → account_in f word ≡ Some account
account_read f word bytes account h is = ap (option_map account_from) h ∙ ap Some (sym is)

-- ---- strings

pub word_spelled : {A : Type 0} {text rest : List ℕ} (form : List ℕ → Option A) (bytes word : List ℕ) (value : A) → Begins 0 text (string bytes) rest → word ≡ bytes → Some value ≡ form word
    → IsSpelled form text value rest
word_spelled form bytes word value b e h = record { word = bytes; begins = b; spells = ap form (sym e) ∙ sym h }

pub amount_spelled : {text rest : List ℕ} (n : ℕ) → Begins 0 text (string (decimal n)) rest → n < 2 ^ 63 → IsSpelled amount_of text n rest
amount_spelled n b small = record { word = decimal n; begins = b; spells = amount_is_read n (omega (arith, small)) }

-- ---- lists

-- an element, and the others behind it
pub record HasFirst (k : ℕ) (text : List ℕ) (first : Data) (others : Items) (rest : List ℕ) : Type 0 where
  pub behind : List ℕ
  pub begins : Begins k text first behind
  pub has_others : HasElements k true behind others rest

-- Values were read up to here: with those of whatever elements are left, they are the values of the list.
abbrev pub IsReadUpTo : {A : Type 0} → (Data → Result A LineFault) → ℕ → List ℕ → List A → List ℕ → Type 0
IsReadUpTo {A} form k text values left =
    (d : Data) (ds : Items) (vs : List A) (rest : List ℕ) → HasFirst k left d ds rest → each_element form (item d ds) ≡ Ok vs
    → IsCompactList form k text (values ++ vs) rest

-- one value more is read than of the others
one_more_value : {A : Type 0} (form : Data → Result A LineFault) (d : Data) (ds : Items) (x : A) (vs : List A) → form d ≡ Ok x → each_element form ds ≡ Ok vs → each_element form (item d ds) ≡ Ok (x ∷ vs)
one_more_value form d ds x vs h g = ap (λ r. r >>= λ y. with_front (y ∷ []) (each_element form ds)) h ∙ ap (with_front (x ∷ [])) g

pub none_read : {A : Type 0} (form : Data → Result A LineFault) (k : ℕ) (text inner : List ℕ) → text ≡ 91 ∷ inner → IsReadUpTo form k text [] inner
none_read form k text inner e d ds vs rest h r = record {
  elements = item d ds;
  begins = array_begins e (one_more_element {later = false} refl h.begins h.has_others);
  reads = r;
}

pub one_more_read : {A : Type 0} (form : Data → Result A LineFault) (k : ℕ) (text : List ℕ) (values : List A) (left : List ℕ) (x : A) (behind others : List ℕ)
    → IsReadUpTo form k text values left → IsCompact form k left x behind → behind ≡ 44 ∷ others → IsReadUpTo form k text (values ++ x ∷ []) others
one_more_read form k text values left x behind others before p e d ds vs rest h r =
    let first : HasFirst k left p.tree (item d ds) rest
    = record { behind = behind; begins = p.begins; has_others = one_more_element {later = true} e h.begins h.has_others } in
    subst (λ ys. IsCompactList form k text ys rest) (sym (append_assoc values (x ∷ []) vs))
    (before p.tree (item d ds) (x ∷ vs) rest first (one_more_value form p.tree (item d ds) x vs p.reads r))

pub last_read : {A : Type 0} (form : Data → Result A LineFault) (k : ℕ) (text : List ℕ) (values : List A) (left : List ℕ) (x : A) (behind rest : List ℕ)
    → IsReadUpTo form k text values left → IsCompact form k left x behind → behind ≡ 93 ∷ rest → IsCompactList form k text (values ++ x ∷ []) rest
last_read form k text values left x behind rest before p e =
    before p.tree no_items (x ∷ []) rest (record { behind = behind; begins = p.begins; has_others = no_more_elements e }) (one_more_value form p.tree no_items x [] p.reads refl)

pub empty_read : {A : Type 0} (form : Data → Result A LineFault) (k : ℕ) (text inner rest : List ℕ) → text ≡ 91 ∷ inner → inner ≡ 93 ∷ rest → IsCompactList form k text [] rest
empty_read form k text inner rest e f = record { elements = no_items; begins = array_begins e (no_more_elements f); reads = refl }

-- what follows is no longer
pub no_longer : {A : Type 0} (form : Data → Result A LineFault) (k : ℕ) (left : List ℕ) (x : A) (behind : List ℕ) → IsCompact form k left x behind → length behind ≤ length left
no_longer form k left x behind p = omega (arith, ap length p.begins.spelled, length-append (compact_text p.begins.written) behind)

-- what was pushed, if it was
pub pushed : {A : Type 0} (b : Bool) (new more old : List A) → new ≡ (if b then more else old) → b ≡ true → new ≡ more
pushed b new more old e h = e ∙ ap (λ t. if t then more else old) h

-- ---- coins

-- a coin, its members in ascending order
abbrev coin_tree : List ℕ → List ℕ → Data
coin_tree name digits = object (put (codes "amount") (string digits) (put (codes "denom") (string name) no_members))

coin_read : (name denom digits : List ℕ) (amount : ℕ) → amount_of digits ≡ Some amount → denom_of name ≡ Some denom → coin_of (coin_tree name digits) ≡ Ok (record { denom = denom; amount = amount })
unfolding coin_of
coin_read name denom digits amount is h =
    let d : Data = coin_tree name digits in
    read_two {T = Coin} (λ x y. record { denom = x; amount = y }) _ denom _ amount
    (member_read (spelled_by denom_of) 32 (codes "denom") d (string name) denom refl h)
    (member_read (spelled_by amount_of) 33 (codes "amount") d (string digits) amount refl is)

pub coin_begins : {text a b c e rest : List ℕ} (name : List ℕ) (amount : ℕ)
    → text ≡ codes "{\"denom\":" ++ a → Begins 0 a (string name) b
    → b ≡ codes ",\"amount\":" ++ c → IsSpelled amount_of c amount e
    → e ≡ codes "}" ++ rest
    → IsCompactCoin text name amount rest
unfolding escape_byte
coin_begins name amount e₁ b₁ e₂ b₂ e₃ = record {
  tree = coin_tree name b₂.word;
  begins = object_begins e₁ (one_more_member (codes "denom") refl refl b₁ (one_more_member (codes "amount") refl e₂ b₂.begins (no_more_members e₃)));
  reads = λ denom h. coin_read name denom b₂.word amount b₂.spells h;
}

pub coin_begins_by_name : {text a b c e rest : List ℕ} (name : List ℕ) (amount : ℕ)
    → text ≡ codes "{\"amount\":" ++ a → IsSpelled amount_of a amount b
    → b ≡ codes ",\"denom\":" ++ c → Begins 0 c (string name) e
    → e ≡ codes "}" ++ rest
    → IsCompactCoin text name amount rest
unfolding escape_byte
coin_begins_by_name name amount e₁ b₁ e₂ b₂ e₃ = record {
  tree = coin_tree name b₁.word;
  begins = object_begins e₁ (one_more_member (codes "amount") refl refl b₁.begins (one_more_member (codes "denom") refl e₂ b₂ (no_more_members e₃)));
  reads = λ denom h. coin_read name denom b₁.word amount b₁.spells h;
}

pub coin_is_compact : {text rest : List ℕ} (name denom : List ℕ) (amount : ℕ) → IsCompactCoin text name amount rest → Some denom ≡ denom_of name
    → IsCompact coin_of 1 text (record { denom = denom; amount = amount }) rest
coin_is_compact name denom amount h is = record { tree = h.tree; begins = h.begins; reads = h.reads denom (sym is) }

-- a list of coins has amounts of its own
pub amounts_below : (text : List ℕ) (coins : List Coin) (rest : List ℕ) → IsCompactList coin_of 1 text coins rest → All (λ coin. coin.amount < 10 ^ 38) coins
amounts_below text coins rest h =
    let d : Data = object (put (codes "coins") (array h.elements) no_members) in
    coins_below 0 (codes "coins") d coins (list_read coin_of 0 (codes "coins") d h.elements coins refl h.reads)

pub coins_read : (n : ℕ) (name : List ℕ) (d : Data) {text : List ℕ} {coins : List Coin} {rest : List ℕ} (money : Money) (h : IsCompactList coin_of 1 text coins rest) → IsMoneyOf coins money
    → get name d ≡ Some (array h.elements) → coins_at n name d ≡ Ok money
unfolding coins_at
coins_read n name d money h is g =
    ap (λ r. r >>= (λ coins. money_of n (map (λ coin. (coin.denom, coin.amount)) coins))) (list_read coin_of n name d h.elements _ g h.reads) ∙ rw (is.0, is.1) refl

-- one coin
pub one_coin_read : (n : ℕ) (name : List ℕ) (d coin : Data) (value : Coin) → get name d ≡ Some coin → coin_of coin ≡ Ok value → coin_at n name d ≡ Ok value
one_coin_read n name d coin value g h = ap (λ o. or_fault (BadShape n) o >>= coin_of) g ∙ h
