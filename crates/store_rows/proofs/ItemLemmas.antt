-- Items are read from the rows that they have, and from no other.
use Rattle.std.proofs.Common.{◌≡◌, ◌∙◌, ℕ, zero, suc, ◌<◌, Bool, true, false, cond, eqb, List, [], ◌∷◌, ◌++◌, length, Result, Ok, Err, refl, sym, ap, subst, arith, w64, eqb-true, append-nil}
use Rattle.std.{specs.{Prelude.⊤, Int.w128, List.AllByRecursion}, proofs.lemmas.Bool.Decides.nat_tests}
use Rattle.std.proofs.lemmas.List.{nil_from_length}
use Rattle.base_types.specs.{declared.account.Account.Account, Accounts.account_bytes, Address.IsAddress}
use Rattle.base_coins.specs.{Coins.Money, Steps.{◌>>=◌}}
use Rattle.base_roles.specs.declared.{items.Item.Item, params.Params.Params, entities.Historical.Historical}
use Rattle.base_roles.specs.declared.entities.{Purse.Purse, RedelegationEntry.RedelegationEntry}
use Rattle.base_roles.specs.declared.entities.{SigningInfo.SigningInfo, SlashEvent.SlashEvent}
use Rattle.base_roles.specs.declared.entities.{StartingInfo.StartingInfo, UnbondingEntry.UnbondingEntry}
use Rattle.base_roles.specs.declared.entities.Validator.{Validator}
use Rattle.base_roles.specs.declared.items.Item.TheVariants as item
use Rattle.store_rows.specs.declared.{fault.RowFault.{RowFault, TheVariants.BadRow}, format.Format.Format}
use Rattle.store_rows.specs.declared.{format.Format.TheVariants.{First, Second}, kind.Kind.Kind}
use Rattle.store_rows.specs.Fields.{coins_bytes, denom_bytes, eight_bytes, list_bytes, ring_bytes, sixteen_bytes}
use Rattle.store_rows.specs.Formats.{number_of}
use Rattle.store_rows.specs.Rows.{kind_in, key_fields, value_in, history_bytes, info_bytes, params_bytes, purse_bytes, redelegation_bytes, starting_bytes, unbonding_bytes, validator_bytes}
use Rattle.store_rows.specs.Reading.{ends, number_at, bytes_at, account_at, info_at, ring_at, coins_at, decimal_at, denom_at, format_at, moment_at, user_at, list_at, params_at, redelegation_at, unbonding_at, validator_at, user_of, users_of, amount_of, balance_of, current_of, delegation_of, event_of, head_of, historical_of, parameters_of, pool_of, purse_of, redelegation_of, signing_of, start_of, supply_of, unbonding_of, validator_of, withdraw_of}
use Rattle.store_rows.specs.Spelled.{AreCoins, AreParams, HasRow, IsAccount, IsCountable, IsDecimal, IsEvent, IsHistory, IsInfo, IsLong, IsMoment, IsName, IsPurse, IsRedelegation, IsShort, IsStart, IsUnbonding, IsUser, IsValidator}
use Rattle.store_rows.proofs.ReadsLemmas.{IsBytes, Reads, bind_is, bind_ok, ok_is}
use Rattle.store_rows.proofs.NumberLemmas.{eight_read, sixteen_read}
use Rattle.store_rows.proofs.RecordLemmas.{info_reads, params_reads, redelegation_reads, unbonding_reads, validator_reads}
use Rattle.store_rows.proofs.{CoinReads.{account_reads, coins_reads}, MissedReads.ring_reads, RingReads.passed}
use Rattle.store_rows.proofs.ValueLemmas.{cons_reads, decimal_reads, denom_reads, list_reads, moment_reads, user_reads}
use Rattle.store_rows.specs.declared.kind.Kind.TheVariants as kind

nothing_left : (rest : List ℕ) (u : ⊤) → ends rest ≡ Ok u → rest ≡ []
nothing_left rest u e = nil_from_length rest (go (eqb (length rest) 0) refl e)
  where
    go : (b : Bool) → eqb (length rest) 0 ≡ b → cond b (Ok tt) (Err BadRow) ≡ Ok u → length rest ≡ 0
    go true is h = eqb-true _ _ is
    go false is h = absurd cc

-- A field that ends the bytes, and what is made of it.
module _ {A B : Type 0} (p : List ℕ → Result (A × List ℕ) RowFault) (s : A → List ℕ) (F : A → Type 0) (reads : Reads p s F) where
  pub ended_ok : (bytes : List ℕ) (k : A → Result B RowFault) (y : B) → IsBytes bytes → (p bytes >>= λ x. ends x.1 >>= λ u. k x.0) ≡ Ok y → (a : A) × (bytes ≡ s a) × F a × (k a ≡ Ok y)
  ended_ok bytes k y fits e =
      let (x, here, after) = bind_ok (p bytes) (λ x. ends x.1 >>= λ u. k x.0) y e in
      let (u, empty, made) = bind_ok (ends x.1) (λ u. k x.0) y after in
      let (parts, rest_fits, it) = reads.takes bytes x.0 x.1 fits here in
      (x.0, parts ∙ ap (λ (r : List ℕ). s x.0 ++ r) (nothing_left x.1 u empty) ∙ append-nil (s x.0), it, made)

  pub ended_again : (a : A) (k : A → Result B RowFault) (y : B) → F a → k a ≡ Ok y → (p (s a) >>= λ x. ends x.1 >>= λ u. k x.0) ≡ Ok y
  ended_again a k y it made =
      let whole : p (s a) ≡ Ok (a, []) = ap p (sym (append-nil (s a))) ∙ reads.again a [] it in
      bind_is (p (s a)) (a, []) (λ x. ends x.1 >>= λ u. k x.0) (Ok y) whole made

-- ---- users alone

pub user_takes : (bytes u : List ℕ) → IsBytes bytes → user_of bytes ≡ Ok u → (bytes ≡ u) × IsUser u
unfolding user_of
user_takes bytes u fits e =
    let (a, is, it, end) = ended_ok user_at (λ b. b) IsUser user_reads bytes (λ v. Ok v) u fits e in
    subst (λ (w : List ℕ). (bytes ≡ w) × IsUser w) (ok_is a u end) (is, it)

pub user_again : (u : List ℕ) → IsUser u → user_of u ≡ Ok u
unfolding user_of
user_again u it = ended_again user_at (λ b. b) IsUser user_reads u (λ v. Ok v) u it refl

pub users_take : (bytes : List ℕ) (pair : List ℕ × List ℕ) → IsBytes bytes → users_of bytes ≡ Ok pair → (bytes ≡ pair.0 ++ pair.1) × IsUser pair.0 × IsUser pair.1
unfolding users_of
users_take bytes pair fits e =
    let (first, here, after) = bind_ok (user_at bytes) (λ first. user_at first.1 >>= λ second. ends second.1 >>= λ u. Ok (first.0, second.0)) pair e in
    let (parts, rest_fits, one) = user_reads.takes bytes first.0 first.1 fits here in
    let (second, is, two, end) = ended_ok user_at (λ b. b) IsUser user_reads first.1 (λ v. Ok (first.0, v)) pair rest_fits after in
    subst (λ (q : List ℕ × List ℕ). (bytes ≡ q.0 ++ q.1) × IsUser q.0 × IsUser q.1) (ok_is (first.0, second) pair end)
    (parts ∙ ap (λ (r : List ℕ). first.0 ++ r) is, one, two)

pub users_again : (a b : List ℕ) → IsUser a → IsUser b → users_of (a ++ b) ≡ Ok (a, b)
unfolding users_of
users_again a b one two =
    bind_is (user_at (a ++ b)) (a, b) (λ first. user_at first.1 >>= λ second. ends second.1 >>= λ u. Ok (first.0, second.0)) (Ok (a, b)) (user_reads.again a b one)
    (ended_again user_at (λ v. v) IsUser user_reads b (λ v. Ok (a, v)) (a, b) two refl)

-- ---- what is said of each kind

-- the item is of this kind, and has the row of these fields in this format
pub record IsRead (f : Format) (k : Kind) (key value : List ℕ) (i : Item) : Type 0 where
  pub kind_is : kind_in i ≡ k
  pub key_is : key ≡ key_fields i
  pub value_is : value ≡ value_in f i
  pub has : HasRow i

pub delegation_takes : (f : Format) (key value : List ℕ) (i : Item) → IsBytes key → IsBytes value → delegation_of key value ≡ Ok i → IsRead f kind.Delegation key value i
unfolding delegation_of
delegation_takes f key value i key_fits value_fits e =
    let (pair, here, after) = bind_ok (users_of key) (λ pair. decimal_at value >>= λ shares. ends shares.1 >>= λ u. Ok (item.Delegation pair.0 pair.1 shares.0)) i e in
    let (key_is, one, two) = users_take key pair key_fits here in
    let (shares, value_is, small, end) = ended_ok decimal_at sixteen_bytes IsDecimal decimal_reads value (λ shares. Ok (item.Delegation pair.0 pair.1 shares)) i value_fits after in
    subst (IsRead f kind.Delegation key value) (ok_is (item.Delegation pair.0 pair.1 shares) i end)
    (record { kind_is = refl; key_is = key_is; value_is = value_is; has = (tt, (one, two, small)) })

pub delegation_again : (operator delegator : List ℕ) (shares : ℕ) → IsUser operator → IsUser delegator → IsDecimal shares
    → delegation_of (operator ++ delegator) (sixteen_bytes shares) ≡ Ok (item.Delegation operator delegator shares)
unfolding delegation_of
delegation_again operator delegator shares one two small =
    bind_is (users_of (operator ++ delegator)) (operator, delegator) (λ pair. decimal_at (sixteen_bytes shares) >>= λ n. ends n.1 >>= λ u. Ok (item.Delegation pair.0 pair.1 n.0)) (Ok (item.Delegation operator delegator shares)) (users_again operator delegator one two)
    (ended_again decimal_at sixteen_bytes IsDecimal decimal_reads shares (λ n. Ok (item.Delegation operator delegator n)) (item.Delegation operator delegator shares) small refl)

pub withdraw_takes : (f : Format) (key value : List ℕ) (i : Item) → IsBytes key → IsBytes value → withdraw_of key value ≡ Ok i → IsRead f kind.Withdraw key value i
unfolding withdraw_of
withdraw_takes f key value i key_fits value_fits e =
    let (delegator, here, after) = bind_ok (user_of key) (λ delegator. user_of value >>= λ to. Ok (item.Withdraw delegator to)) i e in
    let (to, there, end) = bind_ok (user_of value) (λ to. Ok (item.Withdraw delegator to)) i after in
    let (key_is, one) = user_takes key delegator key_fits here in
    let (value_is, two) = user_takes value to value_fits there in
    subst (IsRead f kind.Withdraw key value) (ok_is (item.Withdraw delegator to) i end)
    (record { kind_is = refl; key_is = key_is; value_is = value_is; has = (tt, (one, two)) })

pub withdraw_again : (delegator to : List ℕ) → IsUser delegator → IsUser to → withdraw_of delegator to ≡ Ok (item.Withdraw delegator to)
unfolding withdraw_of
withdraw_again delegator to one two =
    bind_is (user_of delegator) delegator (λ d. user_of to >>= λ t. Ok (item.Withdraw d t)) (Ok (item.Withdraw delegator to)) (user_again delegator one)
    (bind_is (user_of to) to (λ t. Ok (item.Withdraw delegator t)) (Ok (item.Withdraw delegator to)) (user_again to two) refl)

pub current_takes : (f : Format) (key value : List ℕ) (i : Item) → IsBytes key → IsBytes value → current_of key value ≡ Ok i → IsRead f kind.CurrentPeriod key value i
unfolding current_of
current_takes f key value i key_fits value_fits e =
    let (operator, here, after) = bind_ok (user_of key) (λ operator. number_at w64 value >>= λ period. ends period.1 >>= λ u. Ok (item.CurrentPeriod operator period.0)) i e in
    let (key_is, one) = user_takes key operator key_fits here in
    let (period, value_is, small, end) = ended_ok (number_at w64) eight_bytes IsShort eight_read value (λ period. Ok (item.CurrentPeriod operator period)) i value_fits after in
    subst (IsRead f kind.CurrentPeriod key value) (ok_is (item.CurrentPeriod operator period) i end)
    (record { kind_is = refl; key_is = key_is; value_is = value_is; has = (tt, (one, small)) })

pub current_again : (operator : List ℕ) (period : ℕ) → IsUser operator → IsShort period → current_of operator (eight_bytes period) ≡ Ok (item.CurrentPeriod operator period)
unfolding current_of
current_again operator period one small =
    bind_is (user_of operator) operator (λ o. number_at w64 (eight_bytes period) >>= λ n. ends n.1 >>= λ u. Ok (item.CurrentPeriod o n.0)) (Ok (item.CurrentPeriod operator period)) (user_again operator one)
    (ended_again (number_at w64) eight_bytes IsShort eight_read period (λ n. Ok (item.CurrentPeriod operator n)) (item.CurrentPeriod operator period) small refl)

pub parameters_take : (f : Format) (key value : List ℕ) (i : Item) → IsBytes value → parameters_of key value ≡ Ok i → IsRead f kind.Parameters key value i
unfolding parameters_of
parameters_take f key value i value_fits e =
    let (u, empty, after) = bind_ok (ends key) (λ u. params_at value >>= λ params. ends params.1 >>= λ v. Ok (item.Parameters params.0)) i e in
    let (params, value_is, it, end) = ended_ok params_at params_bytes AreParams params_reads value (λ params. Ok (item.Parameters params)) i value_fits after in
    subst (IsRead f kind.Parameters key value) (ok_is (item.Parameters params) i end)
    (record { kind_is = refl; key_is = nothing_left key u empty; value_is = value_is; has = (tt, it) })

pub parameters_again : (params : Params) → AreParams params → parameters_of [] (params_bytes params) ≡ Ok (item.Parameters params)
unfolding parameters_of
parameters_again params it = ended_again params_at params_bytes AreParams params_reads params (λ p. Ok (item.Parameters p)) (item.Parameters params) it refl

-- ---- amounts

not_zero : (n m : ℕ) → cond (eqb n 0) (Err BadRow) (Ok n) ≡ Ok m → (0 < n) × (n ≡ m)
not_zero n m e = go (eqb n 0) refl e
  where
    go : (b : Bool) → eqb n 0 ≡ b → cond b (Err BadRow) (Ok n) ≡ Ok m → (0 < n) × (n ≡ m)
    go true is h = absurd cc
    go false is h = (grind (arith, nat_tests, is), cc)

amount_takes : (value : List ℕ) (n : ℕ) → IsBytes value → amount_of value ≡ Ok n → (value ≡ sixteen_bytes n) × (0 < n) × IsLong n
unfolding amount_of
amount_takes value n fits e =
    let (m, is, small, end) = ended_ok (number_at w128) sixteen_bytes IsLong sixteen_read value (λ m. cond (eqb m 0) (Err BadRow) (Ok m)) n fits e in
    let (some, same) = not_zero m n end in
    subst (λ (k : ℕ). (value ≡ sixteen_bytes k) × (0 < k) × IsLong k) same (is, some, small)

amount_again : (n : ℕ) → 0 < n → IsLong n → amount_of (sixteen_bytes n) ≡ Ok n
unfolding amount_of
amount_again n some small =
    let not_none : eqb n 0 ≡ false = grind (arith, nat_tests, some) in
    ended_again (number_at w128) sixteen_bytes IsLong sixteen_read n (λ m. cond (eqb m 0) (Err BadRow) (Ok m)) n small (ap (λ (b : Bool). cond b (Err BadRow) (Ok n)) not_none)

pub balance_takes : (f : Format) (key value : List ℕ) (i : Item) → IsBytes key → IsBytes value → balance_of key value ≡ Ok i → IsRead f kind.Balance key value i
unfolding balance_of
balance_takes f key value i key_fits value_fits e =
    let (a, here, after) = bind_ok (account_at key) (λ a. denom_at a.1 >>= λ d. ends d.1 >>= λ u. amount_of value >>= λ n. Ok (item.Balance a.0 d.0 n)) i e in
    let (parts, rest_fits, account_fits) = account_reads.takes key a.0 a.1 key_fits here in
    let (d, is, name, then) = ended_ok denom_at denom_bytes IsName denom_reads a.1 (λ d. amount_of value >>= λ n. Ok (item.Balance a.0 d n)) i rest_fits after in
    let (n, there, end) = bind_ok (amount_of value) (λ n. Ok (item.Balance a.0 d n)) i then in
    let (value_is, some, small) = amount_takes value n value_fits there in
    subst (IsRead f kind.Balance key value) (ok_is (item.Balance a.0 d n) i end)
    (record { kind_is = refl; key_is = parts ∙ ap (λ (r : List ℕ). account_bytes a.0 ++ r) is; value_is = value_is; has = (some, (account_fits, name, small)) })

pub supply_takes : (f : Format) (key value : List ℕ) (i : Item) → IsBytes key → IsBytes value → supply_of key value ≡ Ok i → IsRead f kind.Supply key value i
unfolding supply_of
supply_takes f key value i key_fits value_fits e =
    let (d, is, name, then) = ended_ok denom_at denom_bytes IsName denom_reads key (λ d. amount_of value >>= λ n. Ok (item.Supply d n)) i key_fits e in
    let (n, there, end) = bind_ok (amount_of value) (λ n. Ok (item.Supply d n)) i then in
    let (value_is, some, small) = amount_takes value n value_fits there in
    subst (IsRead f kind.Supply key value) (ok_is (item.Supply d n) i end)
    (record { kind_is = refl; key_is = is; value_is = value_is; has = (some, (name, small)) })

pub unbonding_takes : (f : Format) (key value : List ℕ) (i : Item) → IsBytes key → IsBytes value → unbonding_of key value ≡ Ok i → IsRead f kind.Unbonding key value i
unfolding unbonding_of
unbonding_takes f key value i key_fits value_fits e =
    let (pair, here, after) = bind_ok (users_of key) (λ pair. list_at unbonding_at value >>= λ entries. ends entries.1 >>= λ u. Ok (item.Unbonding pair.0 pair.1 entries.0)) i e in
    let (key_is, one, two) = users_take key pair key_fits here in
    let (entries, value_is, (count, each), end) = ended_ok (list_at unbonding_at) (list_bytes unbonding_bytes) (λ xs. IsCountable xs × AllByRecursion IsUnbonding xs) (list_reads unbonding_at unbonding_bytes IsUnbonding unbonding_reads) value (λ entries. Ok (item.Unbonding pair.0 pair.1 entries)) i value_fits after in
    subst (IsRead f kind.Unbonding key value) (ok_is (item.Unbonding pair.0 pair.1 entries) i end)
    (record { kind_is = refl; key_is = key_is; value_is = value_is; has = (count, (one, two, each)) })

pub pool_takes : (f : Format) (key value : List ℕ) (i : Item) → IsBytes value → pool_of key value ≡ Ok i → IsRead f kind.Pool key value i
unfolding pool_of
pool_takes f key value i value_fits e =
    let (u, empty, after) = bind_ok (ends key) (λ u. coins_at value >>= λ coins. ends coins.1 >>= λ v. Ok (item.Pool coins.0)) i e in
    let (coins, value_is, (count, each), end) = ended_ok coins_at coins_bytes (λ c. IsCountable c × AreCoins c) coins_reads value (λ coins. Ok (item.Pool coins)) i value_fits after in
    subst (IsRead f kind.Pool key value) (ok_is (item.Pool coins) i end)
    (record { kind_is = refl; key_is = nothing_left key u empty; value_is = value_is; has = (count, each) })

pub historical_takes : (f : Format) (key value : List ℕ) (i : Item) → IsBytes key → IsBytes value → historical_of key value ≡ Ok i → IsRead f kind.Historical key value i
unfolding historical_of
historical_takes f key value i key_fits value_fits e =
    let (o, here, after) = bind_ok (user_at key) (λ o. number_at w64 o.1 >>= λ p. ends p.1 >>= λ u. coins_at value >>= λ r. number_at w128 r.1 >>= λ c. ends c.1 >>= λ v. Ok (item.Historical o.0 p.0 (record { ratio = r.0; count = c.0 }))) i e in
    let (parts, rest_fits, one) = user_reads.takes key o.0 o.1 key_fits here in
    let (p, is, small, then) = ended_ok (number_at w64) eight_bytes IsShort eight_read o.1 (λ p. coins_at value >>= λ r. number_at w128 r.1 >>= λ c. ends c.1 >>= λ v. Ok (item.Historical o.0 p (record { ratio = r.0; count = c.0 }))) i rest_fits after in
    let (r, there, later) = bind_ok (coins_at value) (λ r. number_at w128 r.1 >>= λ c. ends c.1 >>= λ v. Ok (item.Historical o.0 p (record { ratio = r.0; count = c.0 }))) i then in
    let (value_parts, value_rest, (count, each)) = coins_reads.takes value r.0 r.1 value_fits there in
    let (c, last_is, long, end) = ended_ok (number_at w128) sixteen_bytes IsLong sixteen_read r.1 (λ c. Ok (item.Historical o.0 p (record { ratio = r.0; count = c }))) i value_rest later in
    subst (IsRead f kind.Historical key value) (ok_is (item.Historical o.0 p (record { ratio = r.0; count = c })) i end)
    (record { kind_is = refl; key_is = parts ∙ ap (λ (x : List ℕ). o.0 ++ x) is; value_is = value_parts ∙ ap (λ (x : List ℕ). coins_bytes r.0 ++ x) last_is; has = (count, (one, small, (each, long))) })

-- ---- the other kinds

format_takes : (f : Format) (value fields : List ℕ) → IsBytes value → format_at f value ≡ Ok fields → (value ≡ number_of f ∷ fields) × IsBytes fields
format_takes f [] fields fits e = absurd cc
format_takes f (first ∷ rest) fields fits e =
    let (number, end) = passed (eqb first (number_of f)) (Ok rest) fields e in
    subst (λ (y : List ℕ). (first ∷ rest ≡ number_of f ∷ y) × IsBytes y) (ok_is rest fields end) (ap (λ (n : ℕ). n ∷ rest) (eqb-true _ _ number), λ i. fits (suc i))

format_again : (f : Format) (rest : List ℕ) → format_at f (number_of f ∷ rest) ≡ Ok rest
format_again First rest = refl
format_again Second rest = refl

pub head_takes : (f : Format) (key value : List ℕ) (i : Item) → IsBytes value → head_of f key value ≡ Ok i → IsRead f kind.Head key value i
unfolding head_of
head_takes f key value i value_fits e =
    let (u, empty, after) = bind_ok (ends key) (λ u. format_at f value >>= λ fields. number_at w64 fields >>= λ h. moment_at h.1 >>= λ t. ends t.1 >>= λ v. Ok (item.Head h.0 t.0)) i e in
    let (fields, here, then) = bind_ok (format_at f value) (λ fields. number_at w64 fields >>= λ h. moment_at h.1 >>= λ t. ends t.1 >>= λ v. Ok (item.Head h.0 t.0)) i after in
    let (first, fields_fit) = format_takes f value fields value_fits here in
    let (h, there, later) = bind_ok (number_at w64 fields) (λ h. moment_at h.1 >>= λ t. ends t.1 >>= λ v. Ok (item.Head h.0 t.0)) i then in
    let (parts, rest_fits, short) = eight_read.takes fields h.0 h.1 fields_fit there in
    let (t, is, early, end) = ended_ok moment_at sixteen_bytes IsMoment moment_reads h.1 (λ t. Ok (item.Head h.0 t)) i rest_fits later in
    subst (IsRead f kind.Head key value) (ok_is (item.Head h.0 t) i end)
    (record { kind_is = refl; key_is = nothing_left key u empty; value_is = first ∙ ap (λ (x : List ℕ). number_of f ∷ x) (parts ∙ ap (λ (x : List ℕ). eight_bytes h.0 ++ x) is); has = (tt, (short, early)) })

pub validator_takes : (f : Format) (key value : List ℕ) (i : Item) → IsBytes key → IsBytes value → validator_of key value ≡ Ok i → IsRead f kind.Validator key value i
unfolding validator_of
validator_takes f key value i key_fits value_fits e =
    let (operator, here, after) = bind_ok (user_of key) (λ operator. validator_at operator value >>= λ v. ends v.1 >>= λ u. Ok (item.Validator v.0)) i e in
    let (key_is, one) = user_takes key operator key_fits here in
    let (v, value_is, it, end) = ended_ok (validator_at operator) validator_bytes _ (validator_reads operator) value (λ v. Ok (item.Validator v)) i value_fits after in
    let same : v.operator ≡ operator = it.7 in
    subst (IsRead f kind.Validator key value) (ok_is (item.Validator v) i end)
    (record { kind_is = refl; key_is = key_is ∙ sym same; value_is = value_is; has = (tt, record { operator = subst IsUser (sym same) one; cons = it.0; tokens = it.1; shares = it.2; commission = it.3; min_self = it.4; unbonding_height = it.5; unbonding_time = it.6 }) })

pub redelegation_takes : (f : Format) (key value : List ℕ) (i : Item) → IsBytes key → IsBytes value → redelegation_of key value ≡ Ok i → IsRead f kind.Redelegation key value i
unfolding redelegation_of
redelegation_takes f key value i key_fits value_fits e =
    let (d, here, after) = bind_ok (user_at key) (λ d. users_of d.1 >>= λ pair. list_at redelegation_at value >>= λ entries. ends entries.1 >>= λ u. Ok (item.Redelegation d.0 pair.0 pair.1 entries.0)) i e in
    let (parts, rest_fits, zeroth) = user_reads.takes key d.0 d.1 key_fits here in
    let (pair, there, then) = bind_ok (users_of d.1) (λ pair. list_at redelegation_at value >>= λ entries. ends entries.1 >>= λ u. Ok (item.Redelegation d.0 pair.0 pair.1 entries.0)) i after in
    let (pair_is, one, two) = users_take d.1 pair rest_fits there in
    let (entries, value_is, (count, each), end) = ended_ok (list_at redelegation_at) (list_bytes redelegation_bytes) (λ xs. IsCountable xs × AllByRecursion IsRedelegation xs) (list_reads redelegation_at redelegation_bytes IsRedelegation redelegation_reads) value (λ entries. Ok (item.Redelegation d.0 pair.0 pair.1 entries)) i value_fits then in
    subst (IsRead f kind.Redelegation key value) (ok_is (item.Redelegation d.0 pair.0 pair.1 entries) i end)
    (record { kind_is = refl; key_is = parts ∙ ap (λ (x : List ℕ). d.0 ++ x) pair_is; value_is = value_is; has = (count, (zeroth, one, two, each)) })

pub purse_takes : (f : Format) (key value : List ℕ) (i : Item) → IsBytes key → IsBytes value → purse_of key value ≡ Ok i → IsRead f kind.Purse key value i
unfolding purse_of
purse_takes f key value i key_fits value_fits e =
    let (operator, here, after) = bind_ok (user_of key) (λ operator. coins_at value >>= λ o. coins_at o.1 >>= λ c. coins_at c.1 >>= λ r. ends r.1 >>= λ u. Ok (item.Purse operator (record { outstanding = o.0; commission = c.0; current = r.0 }))) i e in
    let (key_is, one) = user_takes key operator key_fits here in
    let (o, at_o, then_o) = bind_ok (coins_at value) (λ o. coins_at o.1 >>= λ c. coins_at c.1 >>= λ r. ends r.1 >>= λ u. Ok (item.Purse operator (record { outstanding = o.0; commission = c.0; current = r.0 }))) i after in
    let (o_parts, o_fits, (o_count, o_each)) = coins_reads.takes value o.0 o.1 value_fits at_o in
    let (c, at_c, then_c) = bind_ok (coins_at o.1) (λ c. coins_at c.1 >>= λ r. ends r.1 >>= λ u. Ok (item.Purse operator (record { outstanding = o.0; commission = c.0; current = r.0 }))) i then_o in
    let (c_parts, c_fits, (c_count, c_each)) = coins_reads.takes o.1 c.0 c.1 o_fits at_c in
    let (r, r_is, (r_count, r_each), end) = ended_ok coins_at coins_bytes (λ x. IsCountable x × AreCoins x) coins_reads c.1 (λ r. Ok (item.Purse operator (record { outstanding = o.0; commission = c.0; current = r }))) i c_fits then_c in
    subst (IsRead f kind.Purse key value) (ok_is (item.Purse operator (record { outstanding = o.0; commission = c.0; current = r })) i end)
    (record { kind_is = refl; key_is = key_is; value_is = o_parts ∙ ap (λ (x : List ℕ). coins_bytes o.0 ++ x) (c_parts ∙ ap (λ (x : List ℕ). coins_bytes c.0 ++ x) r_is); has = ((o_count, c_count, r_count), (one, (o_each, c_each, r_each))) })

pub start_takes : (f : Format) (key value : List ℕ) (i : Item) → IsBytes key → IsBytes value → start_of key value ≡ Ok i → IsRead f kind.Start key value i
unfolding start_of
start_takes f key value i key_fits value_fits e =
    let (pair, here, after) = bind_ok (users_of key) (λ pair. number_at w64 value >>= λ p. decimal_at p.1 >>= λ s. number_at w64 s.1 >>= λ h. ends h.1 >>= λ u. Ok (item.Start pair.0 pair.1 (record { period = p.0; stake = s.0; height = h.0 }))) i e in
    let (key_is, one, two) = users_take key pair key_fits here in
    let (p, at_p, then_p) = bind_ok (number_at w64 value) (λ p. decimal_at p.1 >>= λ s. number_at w64 s.1 >>= λ h. ends h.1 >>= λ u. Ok (item.Start pair.0 pair.1 (record { period = p.0; stake = s.0; height = h.0 }))) i after in
    let (p_parts, p_fits, p_short) = eight_read.takes value p.0 p.1 value_fits at_p in
    let (s, at_s, then_s) = bind_ok (decimal_at p.1) (λ s. number_at w64 s.1 >>= λ h. ends h.1 >>= λ u. Ok (item.Start pair.0 pair.1 (record { period = p.0; stake = s.0; height = h.0 }))) i then_p in
    let (s_parts, s_fits, s_small) = decimal_reads.takes p.1 s.0 s.1 p_fits at_s in
    let (h, h_is, h_short, end) = ended_ok (number_at w64) eight_bytes IsShort eight_read s.1 (λ h. Ok (item.Start pair.0 pair.1 (record { period = p.0; stake = s.0; height = h }))) i s_fits then_s in
    subst (IsRead f kind.Start key value) (ok_is (item.Start pair.0 pair.1 (record { period = p.0; stake = s.0; height = h })) i end)
    (record { kind_is = refl; key_is = key_is; value_is = p_parts ∙ ap (λ (x : List ℕ). eight_bytes p.0 ++ x) (s_parts ∙ ap (λ (x : List ℕ). sixteen_bytes s.0 ++ x) h_is); has = (tt, (one, two, (p_short, s_small, h_short))) })

pub event_takes : (f : Format) (key value : List ℕ) (i : Item) → IsBytes key → IsBytes value → event_of key value ≡ Ok i → IsRead f kind.Event key value i
unfolding event_of
event_takes f key value i key_fits value_fits e =
    let (o, at_o, then_o) = bind_ok (user_at key) (λ o. number_at w64 o.1 >>= λ h. number_at w64 h.1 >>= λ p. ends p.1 >>= λ u. decimal_at value >>= λ f. ends f.1 >>= λ v. Ok (item.Event o.0 (record { height = h.0; period = p.0; fraction = f.0 }))) i e in
    let (o_parts, o_fits, one) = user_reads.takes key o.0 o.1 key_fits at_o in
    let (h, at_h, then_h) = bind_ok (number_at w64 o.1) (λ h. number_at w64 h.1 >>= λ p. ends p.1 >>= λ u. decimal_at value >>= λ f. ends f.1 >>= λ v. Ok (item.Event o.0 (record { height = h.0; period = p.0; fraction = f.0 }))) i then_o in
    let (h_parts, h_fits, h_short) = eight_read.takes o.1 h.0 h.1 o_fits at_h in
    let (p, p_is, p_short, then_p) = ended_ok (number_at w64) eight_bytes IsShort eight_read h.1 (λ p. decimal_at value >>= λ f. ends f.1 >>= λ v. Ok (item.Event o.0 (record { height = h.0; period = p; fraction = f.0 }))) i h_fits then_h in
    let (part, part_is, part_small, end) = ended_ok decimal_at sixteen_bytes IsDecimal decimal_reads value (λ f. Ok (item.Event o.0 (record { height = h.0; period = p; fraction = f }))) i value_fits then_p in
    subst (IsRead f kind.Event key value) (ok_is (item.Event o.0 (record { height = h.0; period = p; fraction = part })) i end)
    (record { kind_is = refl; key_is = o_parts ∙ ap (λ (x : List ℕ). o.0 ++ x) (h_parts ∙ ap (λ (x : List ℕ). eight_bytes h.0 ++ x) p_is); value_is = part_is; has = (tt, (one, (h_short, p_short, part_small))) })

-- ---- what is spelled is read

pub balance_again : (a : Account) (d : List ℕ) (n : ℕ) → 0 < n → IsAccount a → IsName d → IsLong n → balance_of (account_bytes a ++ denom_bytes d) (sixteen_bytes n) ≡ Ok (item.Balance a d n)
unfolding balance_of
balance_again a d n some one name small =
    bind_is (account_at (account_bytes a ++ denom_bytes d)) (a, denom_bytes d) (λ b. denom_at b.1 >>= λ e. ends e.1 >>= λ u. amount_of (sixteen_bytes n) >>= λ m. Ok (item.Balance b.0 e.0 m)) (Ok (item.Balance a d n)) (account_reads.again a (denom_bytes d) one)
    (ended_again denom_at denom_bytes IsName denom_reads d (λ e. amount_of (sixteen_bytes n) >>= λ m. Ok (item.Balance a e m)) (item.Balance a d n) name
    (bind_is (amount_of (sixteen_bytes n)) n (λ m. Ok (item.Balance a d m)) (Ok (item.Balance a d n)) (amount_again n some small) refl))

pub supply_again : (d : List ℕ) (n : ℕ) → 0 < n → IsName d → IsLong n → supply_of (denom_bytes d) (sixteen_bytes n) ≡ Ok (item.Supply d n)
unfolding supply_of
supply_again d n some name small =
    ended_again denom_at denom_bytes IsName denom_reads d (λ e. amount_of (sixteen_bytes n) >>= λ m. Ok (item.Supply e m)) (item.Supply d n) name
    (bind_is (amount_of (sixteen_bytes n)) n (λ m. Ok (item.Supply d m)) (Ok (item.Supply d n)) (amount_again n some small) refl)

pub head_again : (f : Format) (height time : ℕ) → IsShort height → IsMoment time → head_of f [] (number_of f ∷ (eight_bytes height ++ sixteen_bytes time)) ≡ Ok (item.Head height time)
unfolding head_of
head_again f height time short early =
    bind_is (format_at f (number_of f ∷ (eight_bytes height ++ sixteen_bytes time))) (eight_bytes height ++ sixteen_bytes time) (λ fields. number_at w64 fields >>= λ h. moment_at h.1 >>= λ t. ends t.1 >>= λ v. Ok (item.Head h.0 t.0)) (Ok (item.Head height time)) (format_again f (eight_bytes height ++ sixteen_bytes time))
    (bind_is (number_at w64 (eight_bytes height ++ sixteen_bytes time)) (height, sixteen_bytes time) (λ h. moment_at h.1 >>= λ t. ends t.1 >>= λ v. Ok (item.Head h.0 t.0)) (Ok (item.Head height time)) (eight_read.again height (sixteen_bytes time) short)
    (ended_again moment_at sixteen_bytes IsMoment moment_reads time (λ t. Ok (item.Head height t)) (item.Head height time) early refl))

pub pool_again : (coins : Money) → IsCountable coins → AreCoins coins → pool_of [] (coins_bytes coins) ≡ Ok (item.Pool coins)
unfolding pool_of
pool_again coins count each = ended_again coins_at coins_bytes (λ x. IsCountable x × AreCoins x) coins_reads coins (λ c. Ok (item.Pool c)) (item.Pool coins) (count, each) refl

pub signing_takes : (f : Format) (key value : List ℕ) (i : Item) → IsBytes key → IsBytes value → signing_of f key value ≡ Ok i → IsRead f kind.Signing key value i
unfolding signing_of
signing_takes f key value i key_fits value_fits e =
    let (cons, key_is, one, after) = ended_ok (bytes_at 20) (λ b. b) IsAddress cons_reads key (λ cons. info_at value >>= λ info. ring_at f info.1 >>= λ ring. ends ring.1 >>= λ u. Ok (item.Signing cons info.0 ring.0)) i key_fits e in
    let (info, here, then) = bind_ok (info_at value) (λ info. ring_at f info.1 >>= λ ring. ends ring.1 >>= λ u. Ok (item.Signing cons info.0 ring.0)) i after in
    let (parts, rest_fits, it) = info_reads.takes value info.0 info.1 value_fits here in
    let (ring, ring_is, count, end) = ended_ok (ring_at f) (ring_bytes f) IsCountable (ring_reads f) info.1 (λ ring. Ok (item.Signing cons info.0 ring)) i rest_fits then in
    subst (IsRead f kind.Signing key value) (ok_is (item.Signing cons info.0 ring) i end)
    (record { kind_is = refl; key_is = key_is; value_is = parts ∙ ap (λ (x : List ℕ). info_bytes info.0 ++ x) ring_is; has = (count, (one, it)) })

pub validator_again : (v : Validator) → IsValidator v → validator_of v.operator (validator_bytes v) ≡ Ok (item.Validator v)
unfolding validator_of
validator_again v it =
    bind_is (user_of v.operator) v.operator (λ o. validator_at o (validator_bytes v) >>= λ w. ends w.1 >>= λ u. Ok (item.Validator w.0)) (Ok (item.Validator v)) (user_again v.operator it.operator)
    (ended_again (validator_at v.operator) validator_bytes _ (validator_reads v.operator) v (λ w. Ok (item.Validator w)) (item.Validator v) (it.cons, it.tokens, it.shares, it.commission, it.min_self, it.unbonding_height, it.unbonding_time, refl) refl)

pub unbonding_again : (d o : List ℕ) (entries : List UnbondingEntry) → IsUser d → IsUser o → IsCountable entries → AllByRecursion IsUnbonding entries
    → unbonding_of (d ++ o) (list_bytes unbonding_bytes entries) ≡ Ok (item.Unbonding d o entries)
unfolding unbonding_of
unbonding_again d o entries one two count each =
    bind_is (users_of (d ++ o)) (d, o) (λ pair. list_at unbonding_at (list_bytes unbonding_bytes entries) >>= λ xs. ends xs.1 >>= λ u. Ok (item.Unbonding pair.0 pair.1 xs.0)) (Ok (item.Unbonding d o entries)) (users_again d o one two)
    (ended_again (list_at unbonding_at) (list_bytes unbonding_bytes) (λ xs. IsCountable xs × AllByRecursion IsUnbonding xs) (list_reads unbonding_at unbonding_bytes IsUnbonding unbonding_reads) entries (λ xs. Ok (item.Unbonding d o xs)) (item.Unbonding d o entries) (count, each) refl)

pub redelegation_again : (d s t : List ℕ) (entries : List RedelegationEntry) → IsUser d → IsUser s → IsUser t → IsCountable entries → AllByRecursion IsRedelegation entries
    → redelegation_of (d ++ (s ++ t)) (list_bytes redelegation_bytes entries) ≡ Ok (item.Redelegation d s t entries)
unfolding redelegation_of
redelegation_again d s t entries zeroth one two count each =
    bind_is (user_at (d ++ (s ++ t))) (d, s ++ t) (λ x. users_of x.1 >>= λ pair. list_at redelegation_at (list_bytes redelegation_bytes entries) >>= λ xs. ends xs.1 >>= λ u. Ok (item.Redelegation x.0 pair.0 pair.1 xs.0)) (Ok (item.Redelegation d s t entries)) (user_reads.again d (s ++ t) zeroth)
    (bind_is (users_of (s ++ t)) (s, t) (λ pair. list_at redelegation_at (list_bytes redelegation_bytes entries) >>= λ xs. ends xs.1 >>= λ u. Ok (item.Redelegation d pair.0 pair.1 xs.0)) (Ok (item.Redelegation d s t entries)) (users_again s t one two)
    (ended_again (list_at redelegation_at) (list_bytes redelegation_bytes) (λ xs. IsCountable xs × AllByRecursion IsRedelegation xs) (list_reads redelegation_at redelegation_bytes IsRedelegation redelegation_reads) entries (λ xs. Ok (item.Redelegation d s t xs)) (item.Redelegation d s t entries) (count, each) refl))

pub signing_again : (f : Format) (cons : List ℕ) (info : SigningInfo) (ring : List Bool) → IsAddress cons → IsInfo info → IsCountable ring → signing_of f cons (info_bytes info ++ ring_bytes f ring) ≡ Ok (item.Signing cons info ring)
unfolding signing_of
signing_again f cons info ring one it count =
    ended_again (bytes_at 20) (λ b. b) IsAddress cons_reads cons (λ c. info_at (info_bytes info ++ ring_bytes f ring) >>= λ i. ring_at f i.1 >>= λ r. ends r.1 >>= λ u. Ok (item.Signing c i.0 r.0)) (item.Signing cons info ring) one
    (bind_is (info_at (info_bytes info ++ ring_bytes f ring)) (info, ring_bytes f ring) (λ i. ring_at f i.1 >>= λ r. ends r.1 >>= λ u. Ok (item.Signing cons i.0 r.0)) (Ok (item.Signing cons info ring)) (info_reads.again info (ring_bytes f ring) it)
    (ended_again (ring_at f) (ring_bytes f) IsCountable (ring_reads f) ring (λ r. Ok (item.Signing cons info r)) (item.Signing cons info ring) count refl))

pub purse_again : (o : List ℕ) (p : Purse) → IsUser o → IsCountable p.outstanding → IsCountable p.commission → IsCountable p.current → IsPurse p → purse_of o (purse_bytes p) ≡ Ok (item.Purse o p)
unfolding purse_of
purse_again o p one a b c it =
    bind_is (user_of o) o (λ w. coins_at (purse_bytes p) >>= λ x. coins_at x.1 >>= λ y. coins_at y.1 >>= λ r. ends r.1 >>= λ u. Ok (item.Purse w (record { outstanding = x.0; commission = y.0; current = r.0 }))) (Ok (item.Purse o p)) (user_again o one)
    (bind_is (coins_at (purse_bytes p)) (p.outstanding, coins_bytes p.commission ++ coins_bytes p.current) (λ x. coins_at x.1 >>= λ y. coins_at y.1 >>= λ r. ends r.1 >>= λ u. Ok (item.Purse o (record { outstanding = x.0; commission = y.0; current = r.0 }))) (Ok (item.Purse o p)) (coins_reads.again p.outstanding (coins_bytes p.commission ++ coins_bytes p.current) (a, it.0))
    (bind_is (coins_at (coins_bytes p.commission ++ coins_bytes p.current)) (p.commission, coins_bytes p.current) (λ y. coins_at y.1 >>= λ r. ends r.1 >>= λ u. Ok (item.Purse o (record { outstanding = p.outstanding; commission = y.0; current = r.0 }))) (Ok (item.Purse o p)) (coins_reads.again p.commission (coins_bytes p.current) (b, it.1))
    (ended_again coins_at coins_bytes (λ x. IsCountable x × AreCoins x) coins_reads p.current (λ r. Ok (item.Purse o (record { outstanding = p.outstanding; commission = p.commission; current = r }))) (item.Purse o p) (c, it.2) refl)))

pub historical_again : (o : List ℕ) (period : ℕ) (h : Historical) → IsUser o → IsShort period → IsCountable h.ratio → IsHistory h
    → historical_of (o ++ eight_bytes period) (history_bytes h) ≡ Ok (item.Historical o period h)
unfolding historical_of
historical_again o period h one short count it =
    bind_is (user_at (o ++ eight_bytes period)) (o, eight_bytes period) (λ w. number_at w64 w.1 >>= λ p. ends p.1 >>= λ u. coins_at (history_bytes h) >>= λ r. number_at w128 r.1 >>= λ c. ends c.1 >>= λ v. Ok (item.Historical w.0 p.0 (record { ratio = r.0; count = c.0 }))) (Ok (item.Historical o period h)) (user_reads.again o (eight_bytes period) one)
    (ended_again (number_at w64) eight_bytes IsShort eight_read period (λ p. coins_at (history_bytes h) >>= λ r. number_at w128 r.1 >>= λ c. ends c.1 >>= λ v. Ok (item.Historical o p (record { ratio = r.0; count = c.0 }))) (item.Historical o period h) short
    (bind_is (coins_at (history_bytes h)) (h.ratio, sixteen_bytes h.count) (λ r. number_at w128 r.1 >>= λ c. ends c.1 >>= λ v. Ok (item.Historical o period (record { ratio = r.0; count = c.0 }))) (Ok (item.Historical o period h)) (coins_reads.again h.ratio (sixteen_bytes h.count) (count, it.0))
    (ended_again (number_at w128) sixteen_bytes IsLong sixteen_read h.count (λ c. Ok (item.Historical o period (record { ratio = h.ratio; count = c }))) (item.Historical o period h) it.1 refl)))

pub start_again : (o d : List ℕ) (s : StartingInfo) → IsUser o → IsUser d → IsStart s → start_of (o ++ d) (starting_bytes s) ≡ Ok (item.Start o d s)
unfolding start_of
start_again o d s one two it =
    bind_is (users_of (o ++ d)) (o, d) (λ pair. number_at w64 (starting_bytes s) >>= λ p. decimal_at p.1 >>= λ k. number_at w64 k.1 >>= λ h. ends h.1 >>= λ u. Ok (item.Start pair.0 pair.1 (record { period = p.0; stake = k.0; height = h.0 }))) (Ok (item.Start o d s)) (users_again o d one two)
    (bind_is (number_at w64 (starting_bytes s)) (s.period, sixteen_bytes s.stake ++ eight_bytes s.height) (λ p. decimal_at p.1 >>= λ k. number_at w64 k.1 >>= λ h. ends h.1 >>= λ u. Ok (item.Start o d (record { period = p.0; stake = k.0; height = h.0 }))) (Ok (item.Start o d s)) (eight_read.again s.period (sixteen_bytes s.stake ++ eight_bytes s.height) it.0)
    (bind_is (decimal_at (sixteen_bytes s.stake ++ eight_bytes s.height)) (s.stake, eight_bytes s.height) (λ k. number_at w64 k.1 >>= λ h. ends h.1 >>= λ u. Ok (item.Start o d (record { period = s.period; stake = k.0; height = h.0 }))) (Ok (item.Start o d s)) (decimal_reads.again s.stake (eight_bytes s.height) it.1)
    (ended_again (number_at w64) eight_bytes IsShort eight_read s.height (λ h. Ok (item.Start o d (record { period = s.period; stake = s.stake; height = h }))) (item.Start o d s) it.2 refl)))

pub event_again : (o : List ℕ) (v : SlashEvent) → IsUser o → IsEvent v → event_of (o ++ (eight_bytes v.height ++ eight_bytes v.period)) (sixteen_bytes v.fraction) ≡ Ok (item.Event o v)
unfolding event_of
event_again o v one it =
    bind_is (user_at (o ++ (eight_bytes v.height ++ eight_bytes v.period))) (o, eight_bytes v.height ++ eight_bytes v.period) (λ w. number_at w64 w.1 >>= λ h. number_at w64 h.1 >>= λ p. ends p.1 >>= λ u. decimal_at (sixteen_bytes v.fraction) >>= λ f. ends f.1 >>= λ x. Ok (item.Event w.0 (record { height = h.0; period = p.0; fraction = f.0 }))) (Ok (item.Event o v)) (user_reads.again o (eight_bytes v.height ++ eight_bytes v.period) one)
    (bind_is (number_at w64 (eight_bytes v.height ++ eight_bytes v.period)) (v.height, eight_bytes v.period) (λ h. number_at w64 h.1 >>= λ p. ends p.1 >>= λ u. decimal_at (sixteen_bytes v.fraction) >>= λ f. ends f.1 >>= λ x. Ok (item.Event o (record { height = h.0; period = p.0; fraction = f.0 }))) (Ok (item.Event o v)) (eight_read.again v.height (eight_bytes v.period) it.0)
    (ended_again (number_at w64) eight_bytes IsShort eight_read v.period (λ p. decimal_at (sixteen_bytes v.fraction) >>= λ f. ends f.1 >>= λ w. Ok (item.Event o (record { height = v.height; period = p; fraction = f.0 }))) (item.Event o v) it.1
    (ended_again decimal_at sixteen_bytes IsDecimal decimal_reads v.fraction (λ f. Ok (item.Event o (record { height = v.height; period = v.period; fraction = f }))) (item.Event o v) it.2 refl)))
