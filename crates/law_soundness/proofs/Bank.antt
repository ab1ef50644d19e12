-- A bank whose denominations have a property, and coins that move in it.
use Rattle.std.proofs.Common.{◌≡◌, ℕ, ◌+◌, ◌^◌, ◌<◌, ◌≤◌, ◌==◌, Bool, true, false, cond, List, [], ◌∷◌, refl, sym, ap, subst, arith, ◌-◌, unwrap_or, Option, Some, None}
use Rattle.rule_modules.proofs.OrderLemmas.{equal}
use Rattle.std.specs.{List.AllByRecursion, BTreeMap.is_at, Map.lookup}
use Rattle.base_types.specs.declared.account.Account.{Account}
use Rattle.base_coins.{specs.Coins.{Money, IsMoney}, proofs.Order.{Rises, rises_from_money}}
use Rattle.base_roles.specs.Entries.{with, without}
use Rattle.base_roles.specs.Holdings.{Balances, Holdings, balance_of, with_balance, coin_moved, moved, coin_burned, burned, is_short, IsBacked}
use Rattle.base_roles.specs.Orders.{place_cmp}
use Rattle.base_roles.proofs.HoldingLemmas.{place_exact, first_enough, rest_enough, balance-most}
use Rattle.law_soundness.proofs.{Lists.{all_taken, all_put, looked_up}, Names.{AreNamed, IsKnown}}

module _ (P : List ℕ → Type 0) where
  -- all denominations of the balances have the property
  abbrev pub AreHeld : Balances → Type 0
  AreHeld es = AllByRecursion (λ e. P e.0.1) es

  pub held_with : (h : Holdings) (who : Account) (d : List ℕ) (n : ℕ) → P d → AreHeld h.balances → AreHeld (with_balance h who d n).balances
  held_with h who d n p k = by (n == 0)
    where
      by : (z : Bool) → AreHeld (cond z (without place_cmp h.balances (who, d)) (with place_cmp h.balances (who, d) n))
      by true = all_taken (λ (e : (Account × List ℕ) × ℕ). P e.0.1) (is_at (place_cmp (who, d))) h.balances k
      by false = all_put (λ (e : (Account × List ℕ) × ℕ). P e.0.1) place_cmp place_exact (who, d) n h.balances p k

  held_coin_moved : (h : Holdings) (from to : Account) (d : List ℕ) (n : ℕ) → P d → AreHeld h.balances → AreHeld (coin_moved from to d n h).balances
  held_coin_moved h from to d n p k =
      let less = with_balance h from d (balance_of h from d - n) in
      held_with less to d (balance_of less to d + n) p (held_with h from d (balance_of h from d - n) p k)

  pub held_moved : (coins : Money) (h : Holdings) (from to : Account) → AreNamed P coins → AreHeld h.balances → AreHeld (moved from to coins h).balances
  held_moved [] h from to n k = k
  held_moved (c ∷ cs) h from to n k = held_moved cs (coin_moved from to c.0 c.1 h) from to n.1 (held_coin_moved h from to c.0 c.1 n.0 k)

  -- a denomination of which somebody holds something has it
  pub name_held : (h : Holdings) (who : Account) (d : List ℕ) → 0 < balance_of h who d → AreHeld h.balances → P d
  name_held h who d p k = by (lookup (is_at (place_cmp (who, d))) h.balances) refl p
    where
      by : (r : Option ℕ) → lookup (is_at (place_cmp (who, d))) h.balances ≡ r → 0 < unwrap_or r 0 → P d
      by None e q = absurd (omega (arith, q))
      by (Some n) e q = looked_up (λ (e : (Account × List ℕ) × ℕ). P e.0.1) (is_at (place_cmp (who, d))) (λ m. P d)
          (λ x m t g. subst P (sym (ap (λ (y : Account × List ℕ). y.1) (place_exact (who, d) x (equal (place_cmp (who, d) x) t)))) g) h.balances n e k

  -- so has each that an account has enough of
  named_enough : (coins : Money) (h : Holdings) (who : Account) → Rises coins → is_short h who coins ≡ false → AreHeld h.balances → AreNamed P coins
  named_enough [] h who r s k = tt
  named_enough (c ∷ cs) h who r s k =
      let has = first_enough h who c cs s in
      let some : 0 < c.1 = r.1 in
      (name_held h who c.0 (omega (arith, has, some)) k, named_enough cs h who r.3 (rest_enough h who c cs s) k)

  most_enough : (coins : Money) (h : Holdings) (who : Account) → is_short h who coins ≡ false → IsBacked h → AllByRecursion (λ c. c.1 ≤ 10 ^ 18) coins
  most_enough [] h who s b = tt
  most_enough (c ∷ cs) h who s b =
      let has = first_enough h who c cs s in
      let most = balance-most h who c.0 b in
      (omega (arith, has, most), most_enough cs h who (rest_enough h who c cs s) b)

  -- coins that an account has enough of are known, and none is above 10^18
  pub known_enough : (coins : Money) (h : Holdings) (who : Account) → IsMoney coins → is_short h who coins ≡ false → AreHeld h.balances → IsKnown P coins
  known_enough coins h who m s k = record { money = m; named = named_enough coins h who (rises_from_money coins m) s k }

pub each_within : (coins : Money) (h : Holdings) (who : Account) → is_short h who coins ≡ false → IsBacked h → AllByRecursion (λ c. c.1 ≤ 10 ^ 18) coins
each_within coins h who s b = most_enough (λ d. Unit {0}) coins h who s b
