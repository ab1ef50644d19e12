-- The bank that a genesis starts.
use Rattle.std.proofs.Common.{◌≡◌, ◌∙◌, ℕ, ◌+◌, ◌^◌, ◌≤◌, ◌<◌, Bool, true, false, cond, List, [], ◌∷◌, ◌++◌, map, take, length, get_or, Option, Some, None, refl, sym, ap, subst, arith, unwrap_or, All}
use Rattle.std.proofs.lemmas.List.Elements.{All-nil, All-cons, All-head, All-tail, All-more, All-append}
use Rattle.std.proofs.lemmas.{List.{map_more, map-append}, Map.Text.is_eq-slice_cmp, Slice.Eq.bytes_eq-Decides}
use Rattle.std.specs.{Map.lookup, BTreeMap.is_at}
use Rattle.base_types.specs.{declared.account.Account.Account, Orders.denom_cmp}
use Rattle.base_types.specs.declared.account.Account.TheVariants as account
use Rattle.base_types.specs.declared.account.Module.TheVariants as holder
use Rattle.base_coins.specs.Coins.{Money, IsMoney, amount_of}
use Rattle.base_coins.proofs.Order.{Above, Rises, rises_from_money, amount-above}
use Rattle.base_roles.specs.Holdings.{Holdings}
use Rattle.mod_bank.specs.Given.{coin_given, coins_given, all_given, held_by as given_by, given_of, IsBounded}
use Rattle.base_messages.specs.declared.genesis.{Genesis.Genesis, GenesisAccount.GenesisAccount}
use Rattle.rule_machine.specs.Genesis.{with_coins, balances_with, coins_joined, supplies_with, held_at_start}
use Rattle.rule_machine.specs.GenesisConditions.{start_condition, accounts_at_start, delegated_coins}
use Rattle.rule_machine.proofs.{Kept.amount_within, StartLemmas.may_start}
use Rattle.chain_whole.proofs.DelegatedLemmas.{amounts, delegated_most, one_money}
use Rattle.chain_whole.proofs.SupplyLemmas.{Ascend, joined, amount-joined, ascend-joined, ascend_all, ascend-nil}

-- an account with its coins
abbrev pub pair_of : GenesisAccount → Account × Money
pair_of a = (a.address, a.coins)

-- ---- what is given

given_coins : (who : Account) (coins : Money) (h : Holdings) → coins_given who coins h ≡ record { balances = with_coins who coins h.balances; supplies = coins_joined coins h.supplies }
given_coins who [] h = refl
given_coins who (c ∷ cs) h = given_coins who cs (coin_given who c.0 c.1 h)

given_all : (accounts : List GenesisAccount) (h : Holdings) → all_given (map pair_of accounts) h ≡ record { balances = balances_with accounts h.balances; supplies = supplies_with accounts h.supplies }
given_all [] h = refl
given_all (a ∷ accounts) h = ap (all_given (map pair_of accounts)) (given_coins a.address a.coins h) ∙ given_all accounts (record { balances = with_coins a.address a.coins h.balances; supplies = coins_joined a.coins h.supplies })

-- a bank that gives each account its coins holds what the genesis says
pub given_is_held : (accounts : List GenesisAccount) → given_by (map pair_of accounts) ≡ held_at_start accounts
given_is_held accounts = given_all accounts (record { balances = []; supplies = [] })

-- ---- how much is given

first_amount : (b : Bool) (n : ℕ) (rest : Option ℕ) → (b ≡ true → unwrap_or rest 0 ≡ 0) → unwrap_or (cond b (Some n) rest) 0 ≡ cond b n 0 + unwrap_or rest 0
first_amount true n rest z = let e : unwrap_or rest 0 ≡ 0 = z refl in omega (arith, e)
first_amount false n rest z = omega arith

amount-cons : (c : List ℕ × ℕ) (cs : Money) (d : List ℕ) → Above c.0 cs → amount_of (c ∷ cs) d ≡ cond (is_at (denom_cmp d) c.0) c.1 0 + amount_of cs d
amount-cons c cs d a = first_amount (is_at (denom_cmp d) c.0) c.1 (lookup (is_at (denom_cmp d)) cs)
    (λ p. ap (λ x. amount_of cs x) ((bytes_eq-Decides d c.0).0 (sym (is_eq-slice_cmp d c.0) ∙ p)) ∙ amount-above c.0 cs a)

same_amount : (s : Money) (e d : List ℕ) → is_at (denom_cmp e) d ≡ true → amount_of s e ≡ amount_of s d
same_amount s e d p = ap (λ x. amount_of s x) ((bytes_eq-Decides e d).0 (sym (is_eq-slice_cmp e d) ∙ p))

sums_by : (b : Bool) (there d n rest now : ℕ) → (b ≡ true → d ≡ there) → now ≡ cond b (there + n) d → now + rest ≡ d + (cond b n 0 + rest)
sums_by true there d n rest now same e = let k : d ≡ there = same refl in omega (arith, k, e)
sums_by false there d n rest now same e = omega (arith, e)

sum_coins : (coins s : Money) (d : List ℕ) → Ascend s → Rises coins → amount_of (coins_joined coins s) d ≡ amount_of s d + amount_of coins d
sum_coins [] s d a r = omega arith
sum_coins (c ∷ cs) s d a r =
    sum_coins cs (joined s c.0 c.1) d (ascend-joined s c.0 c.1 a) r.3
    ∙ sums_by (is_at (denom_cmp d) c.0) (amount_of s c.0) (amount_of s d) c.1 (amount_of cs d) (amount_of (joined s c.0 c.1) d) (same_amount s d c.0) (amount-joined s c.0 c.1 d a)
    ∙ ap (λ n. amount_of s d + n) (sym (amount-cons c cs d r.0))

-- each account's coins are a list of coins
abbrev pub HasMoney : GenesisAccount → Type 0
HasMoney a = IsMoney a.coins

abbrev pub HaveMoney : List GenesisAccount → Type 0
HaveMoney accounts = All HasMoney accounts

sum_accounts : (accounts : List GenesisAccount) (s : Money) (d : List ℕ) → Ascend s → All HasMoney accounts → amount_of (supplies_with accounts s) d ≡ amount_of s d + given_of (map pair_of accounts) d
sum_accounts [] s d a m = omega arith
sum_accounts (x ∷ accounts) s d a m =
    let rest : amount_of (supplies_with accounts (coins_joined x.coins s)) d ≡ amount_of (coins_joined x.coins s) d + given_of (map pair_of accounts) d = sum_accounts accounts (coins_joined x.coins s) d (ascend_all x.coins s a) (All-tail HasMoney x accounts m) in
    let one : amount_of (coins_joined x.coins s) d ≡ amount_of s d + amount_of x.coins d = sum_coins x.coins s d a (rises_from_money x.coins (All-head HasMoney x accounts m)) in
    omega (arith, rest, one)

-- the not-bonded account, which has what is delegated
abbrev pub not_bonded : Genesis → GenesisAccount
not_bonded g = record { address = account.Module holder.NotBonded; coins = delegated_coins g }

-- of no denomination too much is given
pub bounded : (g : Genesis) → start_condition g ≡ None → HaveMoney g.accounts → IsBounded (map pair_of (accounts_at_start g))
bounded g e m d =
    let own : IsMoney (delegated_coins g) = one_money g.params.bond_denom (amounts g.delegations) (delegated_most g e) in
    let money : All HasMoney (accounts_at_start g) = All-append HasMoney g.accounts (not_bonded g ∷ []) m (All-cons HasMoney (not_bonded g) [] own (All-nil HasMoney)) in
    let sum : amount_of (supplies_with (accounts_at_start g) []) d ≡ 0 + given_of (map pair_of (accounts_at_start g)) d = sum_accounts (accounts_at_start g) [] d ascend-nil money in
    let most : amount_of (supplies_with (accounts_at_start g) []) d ≤ 10 ^ 18 = amount_within (supplies_with (accounts_at_start g) []) d (may_start g e).not_too_much in
    omega (arith, sum, most)

-- the pairs of all accounts, and last that of the not-bonded account
pub all_pairs : (g : Genesis) (pairs pairs2 : List (Account × Money)) (coins : Money) → pairs ≡ map pair_of g.accounts → coins ≡ delegated_coins g → pairs2 ≡ pairs ++ (account.Module holder.NotBonded, coins) ∷ []
    → pairs2 ≡ map pair_of (accounts_at_start g)
all_pairs g pairs pairs2 coins e f is =
    is ∙ ap (λ (p : List (Account × Money)). p ++ (account.Module holder.NotBonded, coins) ∷ []) e
    ∙ ap (λ (c : Money). map pair_of g.accounts ++ (account.Module holder.NotBonded, c) ∷ []) f
    ∙ sym (map-append pair_of g.accounts (not_bonded g ∷ []))

-- one more account has its pair
pub pairs_more : (accounts : List GenesisAccount) (i : ℕ) (a : GenesisAccount) (pairs pairs2 : List (Account × Money)) (coins : Money) → i < length accounts → a ≡ get_or accounts i a
    → pairs ≡ map pair_of (take i accounts) → pairs2 ≡ pairs ++ (a.address, coins) ∷ [] → coins ≡ a.coins → pairs2 ≡ map pair_of (take (i + 1) accounts)
pairs_more accounts i a pairs pairs2 coins lt is so e same =
    e ∙ ap (λ (p : List (Account × Money)). p ++ (a.address, coins) ∷ []) so
    ∙ ap (λ (m : Money). map pair_of (take i accounts) ++ (a.address, m) ∷ []) same
    ∙ ap (λ (x : GenesisAccount). map pair_of (take i accounts) ++ pair_of x ∷ []) is
    ∙ sym (map_more pair_of accounts i a lt)

-- one more account has a list of coins
pub money_more : (accounts : List GenesisAccount) (i : ℕ) (a : GenesisAccount) → i < length accounts → a ≡ get_or accounts i a → All HasMoney (take i accounts) → IsMoney a.coins → All HasMoney (take (i + 1) accounts)
money_more accounts i a lt is all money = All-more HasMoney accounts i a lt all (subst HasMoney is money)
