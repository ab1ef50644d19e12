-- The amounts of coins that were read are below 10^38.
use Rattle.std.proofs.Common.{◌≡◌, ◌^◌, ◌<◌, ℕ, List, [], ◌∷◌, length, Bool, true, false, nat_lt, nat_le, ◌&&◌, if◌then◌else◌, Option, Some, None, option_and_then, Result, Ok, Err, refl, rules, codes, All, IfOk, IfSome, leb-true}
use Rattle.std.specs.{Prelude.⊤, Char.is_ascii_digit, List.list_all, Str.Parse.digits_value}
use Rattle.std.proofs.lemmas.{Bool.and_parts, List.Elements.All-cons, Str.Parse.digits_value_short}
use Rattle.serde_json.specs.{Data.{Data, Items, no_items, item}, Find.{get, as_str, as_array}}
use Rattle.base_decimals.specs.Texts.{is_number}
use Rattle.base_coins.specs.{Steps.{◌>>=◌}, declared.coin.Coin.Coin}
use Rattle.base_messages.specs.declared.faults.LineFault.{LineFault}
use Rattle.line_json.specs.Reading.{or_fault}
use Rattle.line_json.specs.Members.{amount_of, spelled_by, member_at, denom_at, amount_at, only_named}
use Rattle.line_json.{specs.{Nested.{each_element, list_at}, Coin.coin_of}, proofs.ReadingLemmas.are_digits_model}

abbrev Below : ℕ → Type 0
Below n = n < 10 ^ 38

abbrev IsBelow : Coin → Type 0
IsBelow coin = coin.amount < 10 ^ 38

any : {A : Type 0} (r : Result A LineFault) → IfOk r (λ _. ⊤)
any (Ok x) = tt
any (Err fault) = tt

-- what holds of a first step's value and then of the second's holds of both
step : {A B : Type 0} (P : A → Type 0) (Q : B → Type 0) (r : Result A LineFault) (f : A → Result B LineFault) → IfOk r P → ((x : A) → P x → IfOk (f x) Q) → IfOk (r >>= f) Q
step P Q (Ok x) f h g = g x h
step P Q (Err fault) f h g = tt

found : {A : Type 0} (P : A → Type 0) (fault : LineFault) (o : Option A) → IfSome o P → IfOk (or_fault fault o) P
found P fault None h = tt
found P fault (Some x) h = h

formed : {A B : Type 0} (P : B → Type 0) (form : A → Option B) (o : Option A) → ((x : A) → IfSome (form x) P) → IfSome (option_and_then form o) P
formed P form None h = tt
formed P form (Some x) h = h x

short : (text : List ℕ) → is_number 38 text ≡ true → Below (digits_value 10 text)
short text h =
    let parts : ((nat_lt 0 (length text) && nat_le (length text) 38) ≡ true) × (list_all is_ascii_digit text ≡ true) = and_parts _ _ h in
    let sizes : (nat_lt 0 (length text) ≡ true) × (nat_le (length text) 38 ≡ true) = and_parts _ _ parts.0 in
    digits_value_short are_digits_model text 38 parts.1 (leb-true _ _ sizes.1)

amount_or_none : (b : Bool) (text : List ℕ) → is_number 38 text ≡ b → IfSome (if b then Some (digits_value 10 text) else None) Below
amount_or_none true text h = short text h
amount_or_none false text h = tt

amount_below : (number : ℕ) (name : List ℕ) (d : Data) → IfOk (amount_at number name d) Below
amount_below number name d =
    found Below _ _ (formed Below (spelled_by amount_of) (get name d) (λ e. formed Below amount_of (as_str e) (λ text. amount_or_none (is_number 38 text) text refl)))

coin_below : (d : Data) → IfOk (coin_of d) IsBelow
unfolding coin_of
coin_below d =
    step (λ _. ⊤) IsBelow (denom_at 32 (codes "denom") d) _ (any _) (λ denom _.
    step Below IsBelow (amount_at 33 (codes "amount") d) _ (amount_below 33 (codes "amount") d) (λ amount h.
    step (λ _. ⊤) IsBelow (only_named (codes "denom" ∷ codes "amount" ∷ []) d) _ (any _) (λ _ _. h)))

each_all : {A : Type 0} (P : A → Type 0) (form : Data → Result A LineFault) → ((d : Data) → IfOk (form d) P) → (ds : Items) → IfOk (each_element form ds) (All P)
each_all P form h no_items = search rules
each_all P form h (item d ds) =
    step P (All P) (form d) _ (h d) (λ x here. step (All P) (All P) (each_element form ds) _ (each_all P form h ds) (λ xs rest. All-cons P x xs here rest))

list_below : (number : ℕ) (name : List ℕ) (d : Data) → IfOk (list_at coin_of number name d) (All IsBelow)
list_below number name d = step (λ _. ⊤) (All IsBelow) (member_at as_array number name d) (each_element coin_of) (any _) (λ ds _. each_all IsBelow coin_of coin_below ds)

at : {A : Type 0} (P : A → Type 0) (r : Result A LineFault) (x : A) → r ≡ Ok x → IfOk r P → P x
at P (Ok y) x e h =
    let same : y ≡ x = cc in
    rw (← same) h
at P (Err fault) x e h = absurd cc

pub coins_below : (number : ℕ) (name : List ℕ) (d : Data) (coins : List Coin) → list_at coin_of number name d ≡ Ok coins → All (λ coin. coin.amount < 10 ^ 38) coins
coins_below number name d coins e = at (All IsBelow) (list_at coin_of number name d) coins e (list_below number name d)
