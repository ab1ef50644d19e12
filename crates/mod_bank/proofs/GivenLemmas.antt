-- What accounts hold that are given coins, amount by amount.
use Rattle.std.proofs.Common.{◌≡◌, ◌∙◌, ℕ, ◌+◌, ◌&&◌, Bool, true, false, cond, List, [], ◌∷◌, refl, sym, ap, arith, Ordering, Less, Equal, Greater, is_eq}
use Rattle.std.specs.{Ordering.ordering_then, Map.keys_of, List.Sorted.IsStrictlySortedBy, BTreeMap.is_at}
use Rattle.base_types.specs.{declared.account.Account.Account, Orders.{account_cmp, denom_cmp}}
use Rattle.base_coins.{specs.Coins.{Money, amount_of}, proofs.Order.{Rises, rises_from_money}}
use Rattle.base_roles.specs.{Holdings.{Holdings, balance_of, supply_of, no_holdings}, Orders.place_cmp}
use Rattle.base_roles.proofs.EntryLemmas.{ascend-after}
use Rattle.base_roles.proofs.HoldingLemmas.{place_total, place_exact, denom_total, balance-changed, ascend-changed, backed-none}
use Rattle.mod_bank.specs.Given.{coin_given, coins_given, all_given, given_of, given_to}
use Rattle.mod_bank.specs.Laws.{AreCoins, EachHoldsWhatItIsGiven, SuppliesAreWhatAllAreGiven}
use Rattle.mod_bank.proofs.GiveLemmas.{supply-given, amount-cons}
use Rattle.base_records.proofs.MemberLemmas.{same_key}

both_at : (r s : Ordering) → is_eq (ordering_then r s) ≡ is_eq r && is_eq s
both_at Less s = refl
both_at Greater s = refl
both_at Equal s = refl

-- ---- a coin that is given

balance-given : (h : Holdings) (who : Account) (d : List ℕ) (n : ℕ) (w : Account) (e : List ℕ) → IsStrictlySortedBy place_cmp (keys_of h.balances)
    → balance_of (coin_given who d n h) w e ≡ balance_of h w e + cond (is_at (account_cmp w) who && is_at (denom_cmp e) d) n 0
balance-given h who d n w e s =
    balance-changed h who d (balance_of h who d + n) w e s
    ∙ by (is_at (place_cmp (w, e)) (who, d)) refl
    ∙ ap (λ b. balance_of h w e + cond b n 0) (both_at (account_cmp w who) (denom_cmp e d))
  where
    by : (b : Bool) → is_at (place_cmp (w, e)) (who, d) ≡ b → cond b (balance_of h who d + n) (balance_of h w e) ≡ balance_of h w e + cond b n 0
    by true p = ap (λ (x : Account × List ℕ). balance_of h x.0 x.1 + n) (sym (same_key place_cmp place_total place_exact (w, e) (who, d) p))
    by false p = omega arith

-- ---- the coins of an account

together : (f b : Bool) (x0 x1 x2 n a : ℕ) → x1 ≡ x0 + cond (f && b) n 0 → x2 ≡ x1 + cond f a 0 → x2 ≡ x0 + cond f (cond b n 0 + a) 0
together true true x0 x1 x2 n a p q = omega (arith, p, q)
together true false x0 x1 x2 n a p q = omega (arith, p, q)
together false true x0 x1 x2 n a p q = omega (arith, p, q)
together false false x0 x1 x2 n a p q = omega (arith, p, q)

nothing : (f : Bool) (x : ℕ) → x ≡ x + cond f 0 0
nothing true x = omega arith
nothing false x = omega arith

coin-balances : (coins : Money) (h : Holdings) (who w : Account) (e : List ℕ) → IsStrictlySortedBy place_cmp (keys_of h.balances) → Rises coins
    → balance_of (coins_given who coins h) w e ≡ balance_of h w e + cond (is_at (account_cmp w) who) (amount_of coins e) 0
coin-balances [] h who w e s r = nothing (is_at (account_cmp w) who) (balance_of h w e)
coin-balances (c ∷ cs) h who w e s r =
    together (is_at (account_cmp w) who) (is_at (denom_cmp e) c.0) (balance_of h w e) (balance_of (coin_given who c.0 c.1 h) w e) (balance_of (coins_given who (c ∷ cs) h) w e) c.1 (amount_of cs e)
    (balance-given h who c.0 c.1 w e s) (coin-balances cs (coin_given who c.0 c.1 h) who w e (ascend-changed h who c.0 (balance_of h who c.0 + c.1) s) r.3)
    ∙ ap (λ a. balance_of h w e + cond (is_at (account_cmp w) who) a 0) (sym (amount-cons c cs e r.0))

coin-balances_ascend : (coins : Money) (h : Holdings) (who : Account) → IsStrictlySortedBy place_cmp (keys_of h.balances) → IsStrictlySortedBy place_cmp (keys_of (coins_given who coins h).balances)
coin-balances_ascend [] h who s = s
coin-balances_ascend (c ∷ cs) h who s = coin-balances_ascend cs (coin_given who c.0 c.1 h) who (ascend-changed h who c.0 (balance_of h who c.0 + c.1) s)

coin-supplies_ascend : (coins : Money) (h : Holdings) (who : Account) → IsStrictlySortedBy denom_cmp (keys_of h.supplies) → IsStrictlySortedBy denom_cmp (keys_of (coins_given who coins h).supplies)
coin-supplies_ascend [] h who s = s
coin-supplies_ascend (c ∷ cs) h who s = coin-supplies_ascend cs (coin_given who c.0 c.1 h) who (ascend-after denom_cmp denom_total h.supplies c.0 (supply_of h c.0 + c.1) s)

summed : (x0 x1 x2 n a t : ℕ) → x1 ≡ x0 + n → x2 ≡ x1 + a → t ≡ n + a → x2 ≡ x0 + t
summed x0 x1 x2 n a t p q r = omega (arith, p, q, r)

coin-supplies : (coins : Money) (h : Holdings) (who : Account) (e : List ℕ) → IsStrictlySortedBy denom_cmp (keys_of h.supplies) → Rises coins → supply_of (coins_given who coins h) e ≡ supply_of h e + amount_of coins e
coin-supplies [] h who e s r = omega arith
coin-supplies (c ∷ cs) h who e s r =
    summed (supply_of h e) (supply_of (coin_given who c.0 c.1 h) e) (supply_of (coins_given who (c ∷ cs) h) e) (cond (is_at (denom_cmp e) c.0) c.1 0) (amount_of cs e) (amount_of (c ∷ cs) e)
    (supply-given h who c.0 c.1 e s) (coin-supplies cs (coin_given who c.0 c.1 h) who e (ascend-after denom_cmp denom_total h.supplies c.0 (supply_of h c.0 + c.1) s) r.3) (amount-cons c cs e r.0)

-- ---- all accounts

all-balances : (accounts : List (Account × Money)) (h : Holdings) (w : Account) (e : List ℕ) → IsStrictlySortedBy place_cmp (keys_of h.balances) → AreCoins accounts
    → balance_of (all_given accounts h) w e ≡ balance_of h w e + given_to accounts w e
all-balances [] h w e s m = omega arith
all-balances (a ∷ rest) h w e s m =
    summed (balance_of h w e) (balance_of (coins_given a.0 a.1 h) w e) (balance_of (all_given (a ∷ rest) h) w e) (cond (is_at (account_cmp w) a.0) (amount_of a.1 e) 0) (given_to rest w e) (given_to (a ∷ rest) w e)
    (coin-balances a.1 h a.0 w e s (rises_from_money a.1 m.0)) (all-balances rest (coins_given a.0 a.1 h) w e (coin-balances_ascend a.1 h a.0 s) m.1) refl

all-supplies : (accounts : List (Account × Money)) (h : Holdings) (e : List ℕ) → IsStrictlySortedBy denom_cmp (keys_of h.supplies) → AreCoins accounts
    → supply_of (all_given accounts h) e ≡ supply_of h e + given_of accounts e
all-supplies [] h e s m = omega arith
all-supplies (a ∷ rest) h e s m =
    summed (supply_of h e) (supply_of (coins_given a.0 a.1 h) e) (supply_of (all_given (a ∷ rest) h) e) (amount_of a.1 e) (given_of rest e) (given_of (a ∷ rest) e)
    (coin-supplies a.1 h a.0 e s (rises_from_money a.1 m.0)) (all-supplies rest (coins_given a.0 a.1 h) e (coin-supplies_ascend a.1 h a.0 s) m.1) refl

from_nothing : (x n : ℕ) → x ≡ 0 + n → x ≡ n
from_nothing x n e = omega (arith, e)

pub each_holds_what_it_is_given : EachHoldsWhatItIsGiven
each_holds_what_it_is_given accounts m who d = from_nothing (balance_of (all_given accounts no_holdings) who d) (given_to accounts who d) (all-balances accounts no_holdings who d backed-none.balances_ascend m)

pub supplies_are_what_all_are_given : SuppliesAreWhatAllAreGiven
supplies_are_what_all_are_given accounts m d = from_nothing (supply_of (all_given accounts no_holdings) d) (given_of accounts d) (all-supplies accounts no_holdings d backed-none.supplies_ascend m)
