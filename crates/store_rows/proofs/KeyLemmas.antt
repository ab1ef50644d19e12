-- The keys of rows are one to one with those of items.
use Rattle.std.proofs.Common.{◌≡◌, ◌∙◌, ℕ, List, [], ◌∷◌, ◌++◌, Some, Result, Ok, refl, sym, ap, w64}
use Rattle.base_types.specs.{Accounts.account_bytes, Address.IsAddress}
use Rattle.base_coins.specs.Steps.{◌>>=◌}
use Rattle.base_roles.specs.declared.items.Item.{Item}
use Rattle.base_roles.specs.Items.{key_of, no_address, no_info, no_params, no_purse, no_validator}
use Rattle.base_roles.specs.declared.items.Item.TheVariants as item
use Rattle.store_rows.specs.{declared.{fault.RowFault.RowFault, kind.Kind.Kind}, Fields.{denom_bytes, eight_bytes}}
use Rattle.store_rows.specs.{Kinds.{kind_of, prefix_of}, Rows.{key_bytes, key_fields, kind_in}}
use Rattle.store_rows.specs.Reading.{account_at, bytes_at, denom_at, ends, number_at, user_at, user_of, users_of}
use Rattle.store_rows.specs.Spelled.{HasRow, IsKeyInRange, IsName, IsShort, IsUser}
use Rattle.store_rows.proofs.{ReadsLemmas.{bind_is, ok_is}, NumberLemmas.eight_read, CoinReads.account_reads}
use Rattle.store_rows.proofs.ValueLemmas.{cons_reads, denom_reads, user_reads}
use Rattle.store_rows.proofs.{ItemLemmas.{ended_again, user_again, users_again}, WholeLemmas.kind_again}
use Rattle.store_rows.specs.declared.kind.Kind.TheVariants as kind

-- the key of an item of this kind, from the fields of a row's key
abbrev key_in : Kind → List ℕ → Result Item RowFault
key_in kind.Head fields = Ok (item.Head 0 0)
key_in kind.Parameters fields = Ok (item.Parameters no_params)
key_in kind.Balance fields = account_at fields >>= λ a. denom_at a.1 >>= λ d. ends d.1 >>= λ u. Ok (item.Balance a.0 d.0 0)
key_in kind.Supply fields = denom_at fields >>= λ d. ends d.1 >>= λ u. Ok (item.Supply d.0 0)
key_in kind.Validator fields = user_of fields >>= λ o. Ok (item.Validator (no_validator o))
key_in kind.Delegation fields = users_of fields >>= λ p. Ok (item.Delegation p.0 p.1 0)
key_in kind.Unbonding fields = users_of fields >>= λ p. Ok (item.Unbonding p.0 p.1 [])
key_in kind.Redelegation fields = user_at fields >>= λ d. users_of d.1 >>= λ p. Ok (item.Redelegation d.0 p.0 p.1 [])
key_in kind.Signing fields = bytes_at 20 fields >>= λ c. ends c.1 >>= λ u. Ok (item.Signing c.0 no_info [])
key_in kind.Purse fields = user_of fields >>= λ o. Ok (item.Purse o no_purse)
key_in kind.Pool fields = Ok (item.Pool [])
key_in kind.Withdraw fields = user_of fields >>= λ d. Ok (item.Withdraw d no_address)
key_in kind.CurrentPeriod fields = user_of fields >>= λ o. Ok (item.CurrentPeriod o 0)
key_in kind.Historical fields = user_at fields >>= λ o. number_at w64 o.1 >>= λ p. ends p.1 >>= λ u. Ok (item.Historical o.0 p.0 (record { ratio = []; count = 0 }))
key_in kind.Start fields = users_of fields >>= λ p. Ok (item.Start p.0 p.1 (record { period = 0; stake = 0; height = 0 }))
key_in kind.Event fields = user_at fields >>= λ o. number_at w64 o.1 >>= λ h. number_at w64 h.1 >>= λ p. ends p.1 >>= λ u. Ok (item.Event o.0 (record { height = h.0; period = p.0; fraction = 0 }))

of_user : (u : List ℕ) (made : List ℕ → Item) → IsUser u → (user_of u >>= λ o. Ok (made o)) ≡ Ok (made u)
of_user u made it = bind_is (user_of u) u (λ o. Ok (made o)) (Ok (made u)) (user_again u it) refl

of_users : (a b : List ℕ) (made : List ℕ → List ℕ → Item) → IsUser a → IsUser b → (users_of (a ++ b) >>= λ p. Ok (made p.0 p.1)) ≡ Ok (made a b)
of_users a b made one two = bind_is (users_of (a ++ b)) (a, b) (λ p. Ok (made p.0 p.1)) (Ok (made a b)) (users_again a b one two) refl

key_read : (i : Item) → IsKeyInRange i → key_in (kind_in i) (key_fields i) ≡ Ok (key_of i)
key_read (item.Head height time) h = refl
key_read (item.Parameters params) h = refl
key_read (item.Balance account denom amount) h =
    bind_is (account_at (account_bytes account ++ denom_bytes denom)) (account, denom_bytes denom) (λ a. denom_at a.1 >>= λ d. ends d.1 >>= λ u. Ok (item.Balance a.0 d.0 0)) (Ok (item.Balance account denom 0)) (account_reads.again account (denom_bytes denom) h.0)
    (ended_again denom_at denom_bytes IsName denom_reads denom (λ d. Ok (item.Balance account d 0)) (item.Balance account denom 0) h.1 refl)
key_read (item.Supply denom amount) h = ended_again denom_at denom_bytes IsName denom_reads denom (λ d. Ok (item.Supply d 0)) (item.Supply denom 0) h refl
key_read (item.Validator validator) h = of_user validator.operator (λ o. item.Validator (no_validator o)) h
key_read (item.Delegation operator delegator shares) h = of_users operator delegator (λ a b. item.Delegation a b 0) h.0 h.1
key_read (item.Unbonding delegator operator entries) h = of_users delegator operator (λ a b. item.Unbonding a b []) h.0 h.1
key_read (item.Redelegation delegator source target entries) h =
    bind_is (user_at (delegator ++ (source ++ target))) (delegator, source ++ target) (λ d. users_of d.1 >>= λ p. Ok (item.Redelegation d.0 p.0 p.1 [])) (Ok (item.Redelegation delegator source target [])) (user_reads.again delegator (source ++ target) h.0)
    (of_users source target (λ a b. item.Redelegation delegator a b []) h.1 h.2)
key_read (item.Signing cons info ring) h = ended_again (bytes_at 20) (λ b. b) IsAddress cons_reads cons (λ c. Ok (item.Signing c no_info [])) (item.Signing cons no_info []) h refl
key_read (item.Purse operator purse) h = of_user operator (λ o. item.Purse o no_purse) h
key_read (item.Pool coins) h = refl
key_read (item.Withdraw delegator to) h = of_user delegator (λ d. item.Withdraw d no_address) h
key_read (item.CurrentPeriod operator period) h = of_user operator (λ o. item.CurrentPeriod o 0) h
key_read (item.Historical operator period history) h =
    bind_is (user_at (operator ++ eight_bytes period)) (operator, eight_bytes period) (λ o. number_at w64 o.1 >>= λ p. ends p.1 >>= λ u. Ok (item.Historical o.0 p.0 (record { ratio = []; count = 0 }))) (Ok (item.Historical operator period (record { ratio = []; count = 0 }))) (user_reads.again operator (eight_bytes period) h.0)
    (ended_again (number_at w64) eight_bytes IsShort eight_read period (λ p. Ok (item.Historical operator p (record { ratio = []; count = 0 }))) (item.Historical operator period (record { ratio = []; count = 0 })) h.1 refl)
key_read (item.Start operator delegator info) h = of_users operator delegator (λ a b. item.Start a b (record { period = 0; stake = 0; height = 0 })) h.0 h.1
key_read (item.Event operator event) h =
    bind_is (user_at (operator ++ (eight_bytes event.height ++ eight_bytes event.period))) (operator, eight_bytes event.height ++ eight_bytes event.period) (λ o. number_at w64 o.1 >>= λ h. number_at w64 h.1 >>= λ p. ends p.1 >>= λ u. Ok (item.Event o.0 (record { height = h.0; period = p.0; fraction = 0 }))) (Ok (item.Event operator (record { height = event.height; period = event.period; fraction = 0 }))) (user_reads.again operator (eight_bytes event.height ++ eight_bytes event.period) h.0)
    (bind_is (number_at w64 (eight_bytes event.height ++ eight_bytes event.period)) (event.height, eight_bytes event.period) (λ h. number_at w64 h.1 >>= λ p. ends p.1 >>= λ u. Ok (item.Event operator (record { height = h.0; period = p.0; fraction = 0 }))) (Ok (item.Event operator (record { height = event.height; period = event.period; fraction = 0 }))) (eight_read.again event.height (eight_bytes event.period) h.1)
    (ended_again (number_at w64) eight_bytes IsShort eight_read event.period (λ p. Ok (item.Event operator (record { height = event.height; period = p; fraction = 0 }))) (item.Event operator (record { height = event.height; period = event.period; fraction = 0 })) h.2 refl))

-- the key of an item that has a row is in range
pub key_in_range : (i : Item) → HasRow i → IsKeyInRange i
key_in_range (item.Head height time) h = tt
key_in_range (item.Parameters params) h = tt
key_in_range (item.Balance account denom amount) h = (h.1.0, h.1.1)
key_in_range (item.Supply denom amount) h = h.1.0
key_in_range (item.Validator validator) h = h.1.operator
key_in_range (item.Delegation operator delegator shares) h = (h.1.0, h.1.1)
key_in_range (item.Unbonding delegator operator entries) h = (h.1.0, h.1.1)
key_in_range (item.Redelegation delegator source target entries) h = (h.1.0, h.1.1, h.1.2)
key_in_range (item.Signing cons info ring) h = h.1.0
key_in_range (item.Purse operator purse) h = h.1.0
key_in_range (item.Pool coins) h = tt
key_in_range (item.Withdraw delegator to) h = h.1.0
key_in_range (item.CurrentPeriod operator period) h = h.1.0
key_in_range (item.Historical operator period history) h = (h.1.0, h.1.1)
key_in_range (item.Start operator delegator info) h = (h.1.0, h.1.1)
key_in_range (item.Event operator event) h = (h.1.0, h.1.1.0, h.1.1.1)

heads_same : (a b : ℕ) (xs ys : List ℕ) → a ∷ xs ≡ b ∷ ys → (a ≡ b) × (xs ≡ ys)
heads_same a b xs ys e = (cc, cc)

some_same : (k l : Kind) → Some k ≡ Some l → k ≡ l
some_same k l e = cc

-- kinds of one byte are one kind
pub same_kind : (k l : Kind) → prefix_of k ≡ prefix_of l → k ≡ l
same_kind k l byte = some_same k l (sym (kind_again k) ∙ ap kind_of byte ∙ kind_again l)

-- keys of rows that are in range are those of items of one key, where they are one
pub ranged_one_to_one : (i j : Item) → IsKeyInRange i → IsKeyInRange j → key_bytes i ≡ key_bytes j → key_of i ≡ key_of j
ranged_one_to_one i j hi hj same =
    let (byte, fields) = heads_same (prefix_of (kind_in i)) (prefix_of (kind_in j)) (key_fields i) (key_fields j) same in
    let kinds = same_kind (kind_in i) (kind_in j) byte in
    ok_is (key_of i) (key_of j) (sym (key_read i hi) ∙ ap (λ (k : Kind). key_in k (key_fields i)) kinds ∙ ap (key_in (kind_in j)) fields ∙ key_read j hj)

-- rows of one key are rows of items of one key
pub keys_one_to_one : (i j : Item) → HasRow i → HasRow j → key_bytes i ≡ key_bytes j → key_of i ≡ key_of j
keys_one_to_one i j hi hj = ranged_one_to_one i j (key_in_range i hi) (key_in_range j hj)
