-- Lists of coins whose denominations have a property, and what is made of them by sums, differences, products and parts.
use Rattle.std.proofs.Common.{◌≡◌, ℕ, ◌*◌, ◌^◌, ◌<◌, ◌≤◌, ◌==◌, Bool, true, false, cond, List, [], ◌∷◌, Result, Ok, refl, subst, arith, ◌-◌, ◌%◌, min, unwrap_or, Some}
use Rattle.std.specs.{List.AllByRecursion, Map.{lookup, remove_entry}, BTreeMap.{is_at, insert_entry}}
use Rattle.base_decimals.specs.declared.over.Over.{Over}
use Rattle.base_decimals.specs.Decimals.{trunc_of, add_of, mul_cut_of, mul_even_of, quo_cut_of}
use Rattle.base_types.specs.Orders.{denom_cmp}
use Rattle.base_coins.specs.Coins.{Money, IsMoney, amount_of, with_amount, coin_then, all_coins, by_coin, coins_added, coins_taken, smaller_of, whole_coins, fractions, coins_mul_cut, coins_mul_even, coins_quo_cut}
use Rattle.base_coins.{specs.Steps.{◌>>=◌}, proofs.Amounts.{same_ok, bind_ok}}
use Rattle.base_coins.proofs.Order.{Above, Rises, same_name, money-nil, money_from_rises, rises_from_money}
use Rattle.base_coins.proofs.Parts.{by_is_money, below_is, whole_is_money, fractions_is_money}
use Rattle.base_coins.proofs.Results.{sum_is_money, taken_is_money, smaller_is_money}
use Rattle.rule_modules.specs.Amounts.{in_units}
use Rattle.law_soundness.proofs.Lists.{all_taken, all_put}

module _ (P : List ℕ → Type 0) where
  -- all denominations have the property
  abbrev pub AreNamed : Money → Type 0
  AreNamed c = AllByRecursion (λ e. P e.0) c

  pub named_then : (d : List ℕ) (n : ℕ) (c : Money) → P d → AreNamed c → AreNamed (coin_then d n c)
  named_then d n c p h = by (n == 0)
    where
      by : (z : Bool) → AreNamed (cond z c ((d, n) ∷ c))
      by true = h
      by false = (p, h)

  pub named_all : (f : List ℕ → ℕ → ℕ) (x : Money) → AreNamed x → AreNamed (all_coins f x)
  named_all f [] h = tt
  named_all f (c ∷ cs) h = named_then c.0 (f c.0 c.1) (all_coins f cs) h.0 (named_all f cs h.1)

  pub named_by : (f : ℕ → Result ℕ Over) (x z : Money) → by_coin f x ≡ Ok z → AreNamed x → AreNamed z
  named_by f [] z e h = subst AreNamed (same_ok e) tt
  named_by f (c ∷ cs) z e h =
      let one : (n : ℕ) × (f c.1 ≡ Ok n) × ((by_coin f cs >>= λ rest. Ok (coin_then c.0 n rest)) ≡ Ok z) = bind_ok (f c.1) (λ n. by_coin f cs >>= λ rest. Ok (coin_then c.0 n rest)) z e in
      let two : (rest : Money) × (by_coin f cs ≡ Ok rest) × (Path (Result Money Over) (Ok (coin_then c.0 one.0 rest)) (Ok z)) = bind_ok (by_coin f cs) (λ rest. Ok (coin_then c.0 one.0 rest)) z one.2 in
      subst AreNamed (same_ok two.2) (named_then c.0 one.0 two.0 h.0 (named_by f cs two.0 two.1 h.1))

  pub named_with : (x : Money) (d : List ℕ) (n : ℕ) → P d → AreNamed x → AreNamed (with_amount x d n)
  named_with x d n p h = by (n == 0)
    where
      by : (z : Bool) → AreNamed (cond z (remove_entry (is_at (denom_cmp d)) x) (insert_entry denom_cmp x d n))
      by true = all_taken (λ (e : List ℕ × ℕ). P e.0) (is_at (denom_cmp d)) x h
      by false = all_put (λ (e : List ℕ × ℕ). P e.0) denom_cmp same_name d n x p h

  pub named_added : (x y z : Money) → coins_added x y ≡ Ok z → AreNamed x → AreNamed y → AreNamed z
  named_added x [] z e h k = subst AreNamed (same_ok e) h
  named_added x (c ∷ cs) z e h k =
      let one : (n : ℕ) × (add_of (amount_of x c.0) c.1 ≡ Ok n) × (coins_added (with_amount x c.0 n) cs ≡ Ok z) = bind_ok (add_of (amount_of x c.0) c.1) (λ n. coins_added (with_amount x c.0 n) cs) z e in
      named_added (with_amount x c.0 one.0) cs z one.2 (named_with x c.0 one.0 k.0 h) k.1

  -- a list of coins of such denominations
  pub record IsKnown (c : Money) : Type 0 where
    pub money : IsMoney c
    pub named : AreNamed c

  pub known_none : IsKnown []
  known_none = record { money = money-nil; named = tt }

  pub known_added : (x y z : Money) → coins_added x y ≡ Ok z → IsKnown x → IsKnown y → IsKnown z
  known_added x y z e h k = record { money = sum_is_money x y z h.money k.money e; named = named_added x y z e h.named k.named }

  pub known_taken : (x y : Money) → IsKnown x → IsKnown (coins_taken x y)
  known_taken x y h = record { money = taken_is_money x y h.money; named = named_all (λ d n. n - amount_of y d) x h.named }

  pub known_smaller : (x y : Money) → IsKnown x → IsKnown (smaller_of x y)
  known_smaller x y h = record { money = smaller_is_money x y h.money; named = named_all (λ d n. min n (amount_of y d)) x h.named }

  pub known_whole : (x : Money) → IsKnown x → IsKnown (whole_coins x)
  known_whole x h = record { money = whole_is_money x h.money; named = named_all (λ d n. trunc_of n) x h.named }

  pub known_fractions : (x : Money) → IsKnown x → IsKnown (fractions x)
  known_fractions x h = record { money = fractions_is_money x h.money; named = named_all (λ d n. n % 10 ^ 18) x h.named }

  pub known_by : (f : ℕ → Result ℕ Over) → ((n m : ℕ) → f n ≡ Ok m → m < 10 ^ 38) → (x z : Money) → by_coin f x ≡ Ok z → IsKnown x → IsKnown z
  known_by f below x z e h = record { money = by_is_money f below x z h.money e; named = named_by f x z e h.named }

  pub known_mul_cut : (x z : Money) (by : ℕ) → coins_mul_cut x by ≡ Ok z → IsKnown x → IsKnown z
  known_mul_cut x z by e h = known_by (λ n. mul_cut_of n by) (λ n m k. below_is _ _ m k) x z e h

  pub known_mul_even : (x z : Money) (by : ℕ) → coins_mul_even x by ≡ Ok z → IsKnown x → IsKnown z
  known_mul_even x z by e h = known_by (λ n. mul_even_of n by) (λ n m k. below_is _ _ m k) x z e h

  pub known_quo_cut : (x z : Money) (by : ℕ) → coins_quo_cut x by ≡ Ok z → IsKnown x → IsKnown z
  known_quo_cut x z by e h = known_by (λ n. quo_cut_of n by) (λ n m k. below_is _ _ m k) x z e h

-- ---- whole amounts in units

rises_in_units : (d : List ℕ) (x : Money) → Above d x → Above d (in_units x)
rises_in_units d [] h = tt
rises_in_units d (c ∷ cs) h = (h.0, rises_in_units d cs h.1)

units_rise : (x : Money) → Rises x → AllByRecursion (λ c. c.1 ≤ 10 ^ 18) x → Rises (in_units x)
units_rise [] r m = tt
units_rise (c ∷ cs) r m =
    let some : 0 < c.1 = r.1 in
    let most : c.1 ≤ 10 ^ 18 = m.0 in
    (rises_in_units c.0 cs r.0, omega (arith, some), omega (arith, most), units_rise cs r.3 m.1)

-- amounts of at most 10^18 are decimals in units
pub units_known : (P : List ℕ → Type 0) (x : Money) → AllByRecursion (λ c. c.1 ≤ 10 ^ 18) x → IsKnown P x → IsKnown P (in_units x)
units_known P x m h = record { money = money_from_rises (in_units x) (units_rise x (rises_from_money x h.money) m); named = named_units x h.named }
  where
    named_units : (y : Money) → AreNamed P y → AreNamed P (in_units y)
    named_units [] k = tt
    named_units (c ∷ cs) k = (k.0, named_units cs k.1)
