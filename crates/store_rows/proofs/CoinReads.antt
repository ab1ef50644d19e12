-- Lists of coins and accounts are read as they are spelled.
use Rattle.std.proofs.Common.{◌≡◌, ◌∙◌, ℕ, zero, suc, ◌^◌, ◌<◌, Bool, true, false, cond, List, [], ◌∷◌, ◌++◌, length, replicate, Some, None, Option, Ok, Err, refl, sym, ap, subst, arith, nat_lt, is_lt, ltb-true, lt-ltb}
use Rattle.std.specs.{List.{AllByRecursion, Sorted.IsStrictlySortedBy}, Map.keys_of}
use Rattle.std.proofs.lemmas.{Bool.{and_from, and_parts}, List.Elements.{All-from_recursion, recursion_from_All}}
use Rattle.base_types.specs.declared.account.{Account.Account, Module.Module}
use Rattle.base_types.specs.declared.account.Module.TheVariants.{FeeCollector, Bonded, NotBonded, Distribution}
use Rattle.base_types.specs.{Accounts.{account_bytes, account_from, user_or_module}, Modules.{module_bytes, module_of}}
use Rattle.base_types.specs.Orders.{denom_cmp}
use Rattle.base_types.proofs.AccountLemmas.{account_bytes-account_from, account_from-module_bytes}
use Rattle.base_types.specs.declared.account.Account.TheVariants as account
use Rattle.base_coins.specs.{Coins.{Money, IsMoney}, Steps.{◌>>=◌}}
use Rattle.store_rows.specs.declared.fault.RowFault.TheVariants.{BadRow}
use Rattle.store_rows.specs.Fields.{coin_bytes, coins_bytes, denom_bytes, sixteen_bytes}
use Rattle.store_rows.specs.Reading.{account_at, bytes_at, coin_at, coins_at, comes_before, decimal_at, denom_at, is_in_order, list_at}
use Rattle.store_rows.{specs.Spelled.{AreCoins, IsAccount, IsCountable, IsDecimal, IsName}, proofs.CoinLemmas.ascends}
use Rattle.store_rows.proofs.ReadsLemmas.{IsBytes, Reads, bind_is, bind_ok, field, last, ok_is, told}
use Rattle.store_rows.proofs.{NumberLemmas.bytes_read, ValueLemmas.{decimal_reads, denom_reads, list_reads}}

abbrev IsCoin : List ℕ × ℕ → Type 0
IsCoin c = IsName c.0 × IsDecimal c.1

coin_reads : Reads coin_at coin_bytes IsCoin
unfolding coin_at
coin_reads = told coin_at coin_bytes (λ c. IsCoin c × Unit {0}) IsCoin (λ c h. h.0) (λ c h. (h, tt))
    (field denom_at denom_bytes IsName denom_reads (λ (c : List ℕ × ℕ). c.0) (λ c. Unit {0}) (λ denom bytes. decimal_at bytes >>= λ amount. Ok ((denom, amount.0), amount.1))
    (λ c. sixteen_bytes c.1) (λ c. IsDecimal c.1)
    (λ denom. last decimal_at sixteen_bytes IsDecimal decimal_reads (λ (c : List ℕ × ℕ). c.1) (λ c. (c.0 ≡ denom) × Unit {0}) (λ amount. (denom, amount)) (λ amount. (refl, (refl, tt))) (λ c k. ap (λ (d : List ℕ). (d, c.1)) (sym k.0))))

-- ---- the order of coins

each_weaker : {A : Type 0} (P Q : A → Type 0) → ((x : A) → P x → Q x) → (xs : List A) → AllByRecursion P xs → AllByRecursion Q xs
each_weaker P Q weaker [] h = tt
each_weaker P Q weaker (x ∷ xs) h = (weaker x h.0, each_weaker P Q weaker xs h.1)

positive_each : (x : Money) → is_in_order x ≡ true → AllByRecursion (λ c. 0 < c.1) x
positive_each [] h = tt
positive_each (c ∷ []) h = (ltb-true 0 c.1 (and_parts (comes_before c []) true h).0, tt)
positive_each (c ∷ d ∷ cs) h =
    let parts = and_parts (comes_before c (d ∷ cs)) (is_in_order (d ∷ cs)) h in
    (ltb-true 0 c.1 (and_parts (nat_lt 0 c.1) (is_lt (denom_cmp c.0 d.0)) parts.0).0, positive_each (d ∷ cs) parts.1)

money_from : (x : Money) → is_in_order x ≡ true → AllByRecursion IsCoin x → IsMoney x
money_from x h coins = record {
  sorted = ascends x h;
  positive = All-from_recursion (λ c. 0 < c.1) x (positive_each x h);
  below = All-from_recursion (λ c. c.1 < 10 ^ 38) x (each_weaker IsCoin (λ c. c.1 < 10 ^ 38) (λ c it. it.1) x coins);
}

order_from : (x : Money) → IsStrictlySortedBy denom_cmp (keys_of x) → AllByRecursion (λ c. 0 < c.1) x → is_in_order x ≡ true
unfolding IsStrictlySortedBy
order_from [] up some = refl
order_from (c ∷ []) up some = and_from (nat_lt 0 c.1) true (lt-ltb 0 c.1 some.0) refl
order_from (c ∷ d ∷ cs) up some =
    let less : is_lt (denom_cmp c.0 d.0) ≡ true = rw up.0.0 refl in
    and_from (comes_before c (d ∷ cs)) (is_in_order (d ∷ cs)) (and_from (nat_lt 0 c.1) (is_lt (denom_cmp c.0 d.0)) (lt-ltb 0 c.1 some.0) less) (order_from (d ∷ cs) up.1 some.1)

both_each : (x : Money) → AllByRecursion (λ c. IsName c.0) x → AllByRecursion (λ c. c.1 < 10 ^ 38) x → AllByRecursion IsCoin x
both_each [] names below = tt
both_each (c ∷ cs) names below = ((names.0, below.0), both_each cs names.1 below.1)

passed : {A : Type 0} (b : Bool) (x y : A) → cond b (Ok x) (Err BadRow) ≡ Ok y → (b ≡ true) × (x ≡ y)
passed true x y e = (refl, cc)
passed false x y e = absurd cc

pub coins_reads : Reads coins_at coins_bytes (λ c. IsCountable c × AreCoins c)
unfolding coins_at
coins_reads = record {
  takes = λ bytes coins rest fits e.
      let (x, here, after) = bind_ok (list_at coin_at bytes) (λ x. cond (is_in_order x.0) (Ok x) (Err BadRow)) (coins, rest) e in
      let (parts, rest_fits, (count, each)) = (list_reads coin_at coin_bytes IsCoin coin_reads).takes bytes x.0 x.1 fits here in
      let (order, same) = passed (is_in_order x.0) x (coins, rest) after in
      subst (λ (y : Money × List ℕ). (bytes ≡ coins_bytes y.0 ++ y.1) × IsBytes y.1 × (IsCountable y.0 × AreCoins y.0)) same
      (parts, rest_fits, (count, (money_from x.0 order each, each_weaker IsCoin (λ c. IsName c.0) (λ c it. it.0) x.0 each)));
  again = λ coins rest it.
      let (count, (money, names)) = it in
      let each = both_each coins names (recursion_from_All (λ c. c.1 < 10 ^ 38) coins money.below) in
      let order = order_from coins money.sorted (recursion_from_All (λ c. 0 < c.1) coins money.positive) in
      bind_is (list_at coin_at (coins_bytes coins ++ rest)) (coins, rest) (λ x. cond (is_in_order x.0) (Ok x) (Err BadRow)) (Ok (coins, rest)) ((list_reads coin_at coin_bytes IsCoin coin_reads).again coins rest (count, each))
      (ap (λ (b : Bool). cond b (Ok (coins, rest)) (Err BadRow)) order);
}

-- ---- accounts

bytes_after : (b : ℕ) (bytes : List ℕ) → b < 256 → IsBytes bytes → IsBytes (b ∷ bytes)
bytes_after b bytes small fits zero = small
bytes_after b bytes small fits (suc i) = fits i

zeros_small : (k : ℕ) (bytes : List ℕ) → IsBytes bytes → IsBytes (replicate k 0 ++ bytes)
zeros_small zero bytes fits = fits
zeros_small (suc k) bytes fits = bytes_after 0 (replicate k 0 ++ bytes) (omega arith) (zeros_small k bytes fits)

one_small : (n : ℕ) → n < 256 → IsBytes (n ∷ [])
one_small n small = bytes_after n [] small (λ i. omega arith)

module_small : (m : Module) → IsBytes (module_bytes m)
module_small FeeCollector = zeros_small 19 (1 ∷ []) (one_small 1 (omega arith))
module_small Bonded = zeros_small 19 (2 ∷ []) (one_small 2 (omega arith))
module_small NotBonded = zeros_small 19 (3 ∷ []) (one_small 3 (omega arith))
module_small Distribution = zeros_small 19 (4 ∷ []) (one_small 4 (omega arith))

pub account_is : (bytes : List ℕ) → length bytes ≡ 20 → IsBytes bytes → IsAccount (account_from bytes)
account_is bytes len small = go (module_of bytes) refl
  where
    go : (o : Option Module) → module_of bytes ≡ o → IsAccount (user_or_module bytes o)
    go None free = ((len, small), free)
    go (Some m) is = tt

pub twenty : (a : Account) → IsAccount a → (length (account_bytes a) ≡ 20) × IsBytes (account_bytes a)
twenty (account.User bytes) it = it.0
twenty (account.Module m) it = (refl, module_small m)

from_bytes : (a : Account) → IsAccount a → account_from (account_bytes a) ≡ a
from_bytes (account.User bytes) it = ap (λ (o : Option Module). user_or_module bytes o) it.1
from_bytes (account.Module m) it = account_from-module_bytes m

pub account_reads : Reads account_at account_bytes IsAccount
unfolding account_at
account_reads = record {
  takes = λ bytes a rest fits e.
      let (x, here, after) = bind_ok (bytes_at 20 bytes) (λ x. Ok (account_from x.0, x.1)) (a, rest) e in
      let (parts, rest_fits, (len, small)) = (bytes_read 20).takes bytes x.0 x.1 fits here in
      subst (λ (y : Account × List ℕ). (bytes ≡ account_bytes y.0 ++ y.1) × IsBytes y.1 × IsAccount y.0) (ok_is (account_from x.0, x.1) (a, rest) after)
      (parts ∙ ap (λ (b : List ℕ). b ++ x.1) (sym (account_bytes-account_from x.0)), rest_fits, account_is x.0 len small);
  again = λ a rest it.
      bind_is (bytes_at 20 (account_bytes a ++ rest)) (account_bytes a, rest) (λ x. Ok (account_from x.0, x.1)) (Ok (a, rest)) ((bytes_read 20).again (account_bytes a) rest (twenty a it))
      (ap (λ (b : Account). Ok (b, rest)) (from_bytes a it));
}
