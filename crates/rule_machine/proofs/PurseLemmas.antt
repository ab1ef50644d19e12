-- The coins of an account are a list of coins, and have of each denomination what the account holds.
use Rattle.std.proofs.Common.{◌≡◌, ◌∙◌, ℕ, ◌+◌, ◌^◌, ◌≤◌, ◌<◌, ◌==◌, ◌&&◌, Bool, true, false, cond, List, [], ◌∷◌, Option, Some, None, refl, sym, ap, subst, arith, All, unwrap_or, Ordering, Less, Equal, Greater, filter_map, is_eq}
use Rattle.std.specs.{BTreeMap.is_at, Cmp.eq_by_cmp_equiv, List.{AllByRecursion, cons_option}}
use Rattle.std.specs.{List.Sorted.IsStrictlySortedBy, Map.{keys_of, lookup}, Ordering.ordering_then}
use Rattle.std.proofs.lemmas.{Bool.Decides.nat_tests, List.Elements.{All-head, All-tail}}
use Rattle.base_types.specs.{declared.account.Account.Account, Orders.{account_cmp, denom_cmp}}
use Rattle.base_coins.{specs.Coins.{Money, IsMoney, amount_of, coin_then}, proofs.Amounts.same_list}
use Rattle.base_coins.proofs.Order.{Above, Rises, money_from_rises}
use Rattle.base_roles.specs.Entries.{number_at, sum_where}
use Rattle.base_roles.specs.{Holdings.{Balances, Holdings, balance_of, coin_if, coins_of, IsBacked}, Orders.place_cmp}
use Rattle.base_roles.proofs.{AmountLemmas.both_at, HoldingLemmas.{account_total, denom_total, of_denom}}

-- the coins of an account among balances
abbrev pub coins_among : Account → Balances → Money
coins_among who es = filter_map (λ e. coin_if (is_at (account_cmp who) e.0.0) (e.0.1, e.1)) es

-- no balance is above 10^18 where no sum is
most_each : (es : Balances) → ((d : List ℕ) → sum_where (of_denom d) es ≤ 10 ^ 18) → AllByRecursion (λ e. e.1 ≤ 10 ^ 18) es
most_each [] h = tt
most_each (e ∷ es) h = (
  first (is_at (denom_cmp e.0.1) e.0.1) ((eq_by_cmp_equiv denom_total).refl e.0.1) (h e.0.1),
  most_each es (λ d. rest (is_at (denom_cmp d) e.0.1) (sum_where (of_denom d) es) (h d)),
)
  where
    first : (b : Bool) → b ≡ true → cond b e.1 0 + sum_where (of_denom e.0.1) es ≤ 10 ^ 18 → e.1 ≤ 10 ^ 18
    first true p l = omega (arith, l)
    first false p l = absurd cc

    rest : (b : Bool) (n : ℕ) → cond b e.1 0 + n ≤ 10 ^ 18 → n ≤ 10 ^ 18
    rest b n l = omega (arith, l)

module _ (who : Account) where
  -- two places of the account: the lower one has the lower denomination
  own_below : (x y : Account × List ℕ) → is_at (account_cmp who) x.0 ≡ true → is_at (account_cmp who) y.0 ≡ true → place_cmp x y ≡ Less → denom_cmp x.1 y.1 ≡ Less
  own_below x y p q e = by (account_cmp x.0 y.0) (sym ((eq_by_cmp_equiv account_total).congr who x.0 y.0 p) ∙ q) e
    where
      by : (r : Ordering) → is_eq r ≡ true → ordering_then r (denom_cmp x.1 y.1) ≡ Less → denom_cmp x.1 y.1 ≡ Less
      by Equal h l = l
      by Less h l = absurd cc
      by Greater h l = absurd cc

  above_all : (x : Account × List ℕ) (es : Balances) → is_at (account_cmp who) x.0 ≡ true → AllByRecursion (λ y. place_cmp x y ≡ Less) (keys_of es) → Above x.1 (coins_among who es)
  above_all x [] p h = tt
  above_all x (e ∷ es) p h = by (is_at (account_cmp who) e.0.0) refl (above_all x es p h.1)
    where
      first : place_cmp x e.0 ≡ Less
      first = h.0

      by : (b : Bool) → is_at (account_cmp who) e.0.0 ≡ b → Above x.1 (coins_among who es) → Above x.1 (cons_option (coin_if b (e.0.1, e.1)) (coins_among who es))
      by true q rest = (own_below x e.0 p q first, rest)
      by false q rest = rest

  coins_rise : (es : Balances) → IsStrictlySortedBy place_cmp (keys_of es) → All (λ e. 0 < e.1) es → AllByRecursion (λ e. e.1 ≤ 10 ^ 18) es → Rises (coins_among who es)
  unfolding IsStrictlySortedBy
  coins_rise [] s p m = tt
  coins_rise (e ∷ es) s p m = by (is_at (account_cmp who) e.0.0) refl (coins_rise es s.1 (All-tail (λ (x : (Account × List ℕ) × ℕ). 0 < x.1) e es p) m.1)
    where
      above : AllByRecursion (λ y. place_cmp e.0 y ≡ Less) (keys_of es)
      above = s.0

      most : e.1 ≤ 10 ^ 18
      most = m.0

      by : (b : Bool) → is_at (account_cmp who) e.0.0 ≡ b → Rises (coins_among who es) → Rises (cons_option (coin_if b (e.0.1, e.1)) (coins_among who es))
      by true q rest = (above_all e.0 es q above, All-head (λ (x : (Account × List ℕ) × ℕ). 0 < x.1) e es p, omega (arith, most), rest)
      by false q rest = rest

  coins_amount : (es : Balances) (d : List ℕ) → amount_of (coins_among who es) d ≡ number_at place_cmp es (who, d)
  coins_amount [] d = refl
  coins_amount (e ∷ es) d =
      by (is_at (account_cmp who) e.0.0) (coins_amount es d)
      ∙ ap (λ b. unwrap_or (cond b (Some e.1) (lookup (is_at (place_cmp (who, d))) es)) 0) (sym (both_at (account_cmp who e.0.0) (denom_cmp d e.0.1)))
    where
      choose : (c : Bool) (n : ℕ) (x y : Option ℕ) → unwrap_or x 0 ≡ unwrap_or y 0 → unwrap_or (cond c (Some n) x) 0 ≡ unwrap_or (cond c (Some n) y) 0
      choose true n x y h = refl
      choose false n x y h = h

      by : (b : Bool) → amount_of (coins_among who es) d ≡ number_at place_cmp es (who, d)
          → amount_of (cons_option (coin_if b (e.0.1, e.1)) (coins_among who es)) d ≡ unwrap_or (cond (b && is_at (denom_cmp d) e.0.1) (Some e.1) (lookup (is_at (place_cmp (who, d))) es)) 0
      by true rest = choose (is_at (denom_cmp d) e.0.1) e.1 (lookup (is_at (denom_cmp d)) (coins_among who es)) (lookup (is_at (place_cmp (who, d))) es) rest
      by false rest = rest

-- the coins of an account are a list of coins, of the amounts that it holds
pub coins-rise : (h : Holdings) (who : Account) → IsBacked h → Rises (coins_of h who)
coins-rise h who b = coins_rise who h.balances b.balances_ascend b.balances_positive (most_each h.balances (λ d. subst (λ n. n ≤ 10 ^ 18) (b.backed d) (b.bounded d)))

pub coins-amount : (h : Holdings) (who : Account) (d : List ℕ) → amount_of (coins_of h who) d ≡ balance_of h who d
coins-amount h who d = coins_amount who h.balances d

-- ---- one coin

pub one-rises : (d : List ℕ) (n : ℕ) → n < 10 ^ 38 → Rises (coin_then d n [])
one-rises d n l = by (n == 0) refl
  where
    by : (z : Bool) → (n == 0) ≡ z → Rises (cond z [] ((d, n) ∷ []))
    by true e = tt
    by false e = (tt, grind (arith, nat_tests), l, tt)

pub one-money : (d : List ℕ) (n : ℕ) → n < 10 ^ 38 → IsMoney (coin_then d n [])
one-money d n l = money_from_rises (coin_then d n []) (one-rises d n l)

pub one-amount : (d e : List ℕ) (n : ℕ) → amount_of (coin_then d n []) e ≡ cond (is_at (denom_cmp e) d) n 0
one-amount d e n = by (n == 0) refl
  where
    nothing : (b : Bool) → n ≡ 0 → 0 ≡ cond b n 0
    nothing true z = sym z
    nothing false z = refl

    there : (b : Bool) → unwrap_or (cond b (Some n) None) 0 ≡ cond b n 0
    there true = refl
    there false = refl

    by : (z : Bool) → (n == 0) ≡ z → amount_of (cond z [] ((d, n) ∷ [])) e ≡ cond (is_at (denom_cmp e) d) n 0
    by true h = nothing (is_at (denom_cmp e) d) (grind (arith, nat_tests))
    by false h = there (is_at (denom_cmp e) d)

-- an account that holds this coin alone has this list of coins
pub coins-one : (h : Holdings) (who : Account) (bond : List ℕ) (n : ℕ) → IsBacked h → n < 10 ^ 38 → ((d : List ℕ) → balance_of h who d ≡ cond (is_at (denom_cmp d) bond) n 0) → coins_of h who ≡ coin_then bond n []
coins-one h who bond n b l e = same_list (coins_of h who) (coin_then bond n []) (coins-rise h who b) (one-rises bond n l) (λ d. coins-amount h who d ∙ e d ∙ sym (one-amount bond d n))
