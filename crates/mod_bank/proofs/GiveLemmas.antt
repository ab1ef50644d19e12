-- Coins that are given one after another, and the supplies meanwhile.
use Rattle.std.proofs.Common.{◌≡◌, ◌∙◌, ℕ, ◌+◌, ◌^◌, ◌≤◌, Bool, true, false, cond, List, [], ◌∷◌, Option, Some, refl, sym, ap, subst, arith, unwrap_or, Ordering, Less, Equal, Greater}
use Rattle.std.{proofs.lemmas.{Map.Text.is_eq-slice_cmp, Slice.Eq.bytes_eq-Decides}, specs.Ordering.ordering_then}
use Rattle.std.specs.{Map.{lookup, keys_of}, List.Sorted.IsStrictlySortedBy, BTreeMap.is_at}
use Rattle.base_types.specs.{declared.account.Account.Account, Orders.{account_cmp, denom_cmp}}
use Rattle.base_coins.specs.Coins.{Money, IsMoney, amount_of}
use Rattle.base_coins.proofs.Order.{Above, Rises, rises_from_money, same_name, amount-above}
use Rattle.base_roles.specs.{Holdings.{Holdings, balance_of, supply_of, total_of, IsBacked}, Orders.place_cmp}
use Rattle.base_roles.proofs.EntryLemmas.{number-after, ascend-after, positive-after, sum-after, Respects}
use Rattle.base_roles.proofs.HoldingLemmas.{place_total, denom_total, ascend-changed, balance-within, backed-none, of_denom}
use Rattle.mod_bank.specs.Booked.{Booked, holding, new_book}
use Rattle.mod_bank.specs.Given.{coin_given, coins_given, all_given, held_by, given_of, IsBounded}

-- ---- a coin that is given

equal_name : (a b : List ℕ) → is_at (denom_cmp a) b ≡ true → a ≡ b
equal_name a b h = (bytes_eq-Decides a b).0 (sym (is_eq-slice_cmp a b) ∙ h)

then_second : (r s : Ordering) → ordering_then r s ≡ Equal → s ≡ Equal
then_second Equal s e = e
then_second Less s e = absurd cc
then_second Greater s e = absurd cc

of_denom-respects : (d : List ℕ) → Respects place_cmp place_total (of_denom d)
of_denom-respects d k x e = ap (λ e. is_at (denom_cmp d) e) (sym (same_name k.1 x.1 (then_second (account_cmp k.0 x.0) (denom_cmp k.1 x.1) e)))

-- the supply of a denomination once a coin is given
pub supply-given : (h : Holdings) (who : Account) (d : List ℕ) (n : ℕ) (e : List ℕ) → IsStrictlySortedBy denom_cmp (keys_of h.supplies)
    → supply_of (coin_given who d n h) e ≡ supply_of h e + cond (is_at (denom_cmp e) d) n 0
supply-given h who d n e s = number-after denom_cmp denom_total h.supplies d e (supply_of h d + n) s ∙ by (is_at (denom_cmp e) d) refl
  where
    by : (b : Bool) → is_at (denom_cmp e) d ≡ b → cond b (supply_of h d + n) (supply_of h e) ≡ supply_of h e + cond b n 0
    by true p = ap (λ x. supply_of h x + n) (sym (equal_name e d p))
    by false p = omega arith

raised : (b : Bool) (t2 t held n : ℕ) → t2 + cond b held 0 ≡ t + cond b (held + n) 0 → t + cond b n 0 ≡ t2
raised true t2 t held n e = omega (arith, e)
raised false t2 t held n e = omega (arith, e)

most : (b : Bool) (se sd n : ℕ) → (b ≡ true → se ≡ sd) → sd + n ≤ 10 ^ 18 → se ≤ 10 ^ 18 → se + cond b n 0 ≤ 10 ^ 18
most true se sd n same p q = let k : se ≡ sd = same refl in omega (arith, k, p)
most false se sd n same p q = omega (arith, q)

pub backed-given : (h : Holdings) (who : Account) (d : List ℕ) (n : ℕ) → IsBacked h → supply_of h d + n ≤ 10 ^ 18 → IsBacked (coin_given who d n h)
backed-given h who d n b le =
    let m = balance_of h who d + n in
    record {
      balances_ascend = ascend-changed h who d m b.balances_ascend;
      balances_positive = positive-after place_cmp place_total h.balances (who, d) m b.balances_positive;
      supplies_ascend = ascend-after denom_cmp denom_total h.supplies d (supply_of h d + n) b.supplies_ascend;
      supplies_positive = positive-after denom_cmp denom_total h.supplies d (supply_of h d + n) b.supplies_positive;
      backed = λ e. supply-given h who d n e b.supplies_ascend
          ∙ ap (λ x. x + cond (is_at (denom_cmp e) d) n 0) (b.backed e)
          ∙ raised (is_at (denom_cmp e) d) (total_of (coin_given who d n h) e) (total_of h e) (balance_of h who d) n (sum-after place_cmp place_total (of_denom e) (who, d) m h.balances (of_denom-respects e) b.balances_ascend);
      bounded = λ e. subst (λ x. x ≤ 10 ^ 18) (sym (supply-given h who d n e b.supplies_ascend))
          (most (is_at (denom_cmp e) d) (supply_of h e) (supply_of h d) n (λ p. ap (supply_of h) (equal_name e d p)) le (b.bounded e));
    }

-- what an account holds fits, once a coin is given
pub given-fits : (h : Holdings) (who : Account) (d : List ℕ) (n : ℕ) → IsBacked h → supply_of h d + n ≤ 10 ^ 18 → balance_of h who d + n ≤ 10 ^ 18
given-fits h who d n b le =
    let e : supply_of h d ≡ total_of h d = b.backed d in
    let w : balance_of h who d ≤ total_of h d = balance-within h who d in
    omega (arith, e, w, le)

-- ---- the amounts of a list, coin by coin

amount-step : (b : Bool) (n : ℕ) (x : Option ℕ) → (b ≡ true → unwrap_or x 0 ≡ 0) → unwrap_or (cond b (Some n) x) 0 ≡ cond b n 0 + unwrap_or x 0
amount-step true n x z = let k : unwrap_or x 0 ≡ 0 = z refl in omega (arith, k)
amount-step false n x z = omega arith

pub amount-cons : (c : List ℕ × ℕ) (cs : Money) (e : List ℕ) → Above c.0 cs → amount_of (c ∷ cs) e ≡ cond (is_at (denom_cmp e) c.0) c.1 0 + amount_of cs e
amount-cons c cs e a = amount-step (is_at (denom_cmp e) c.0) c.1 (lookup (is_at (denom_cmp e)) cs) (λ p. subst (λ x. amount_of cs x ≡ 0) (sym (equal_name e c.0 p)) (amount-above c.0 cs a))

amount-first : (c : List ℕ × ℕ) (cs : Money) → Above c.0 cs → amount_of (c ∷ cs) c.0 ≡ c.1 + amount_of cs c.0
amount-first c cs a = amount-cons c cs c.0 a ∙ ap (λ b. cond b c.1 0 + amount_of cs c.0) (is_eq-slice_cmp c.0 c.0 ∙ (bytes_eq-Decides c.0 c.0).1 refl)

-- ---- coins on their way

-- some coins of a list are given, these are left, and they will end where all are
pub record Giving (who : Account) (coins : Money) (start here : Booked) (rest : Money) : Type 0 where
  pub same : here ≡ holding here.holdings start
  pub gives : coins_given who rest here.holdings ≡ coins_given who coins start.holdings
  pub backed : IsBacked here.holdings
  pub supplies : (d : List ℕ) → supply_of here.holdings d + amount_of rest d ≡ supply_of start.holdings d + amount_of coins d
  pub rises : Rises rest

module _ (who : Account) (coins : Money) (start : Booked) (bounded : (d : List ℕ) → supply_of start.holdings d + amount_of coins d ≤ 10 ^ 18) where
  pub giving-start : IsBacked start.holdings → IsMoney coins → Giving who coins start start coins
  giving-start b m = record { same = refl; gives = refl; backed = b; supplies = λ d. refl; rises = rises_from_money coins m }

  pub giving-bounded : (here : Booked) (c : List ℕ × ℕ) (rest cs : Money) → rest ≡ c ∷ cs → Giving who coins start here rest → supply_of here.holdings c.0 + c.1 ≤ 10 ^ 18
  giving-bounded here c rest cs r m =
      let rises : Rises (c ∷ cs) = subst Rises r m.rises in
      let s : supply_of here.holdings c.0 + amount_of rest c.0 ≡ supply_of start.holdings c.0 + amount_of coins c.0 = m.supplies c.0 in
      let a : amount_of rest c.0 ≡ c.1 + amount_of cs c.0 = ap (λ l. amount_of l c.0) r ∙ amount-first c cs rises.0 in
      let b : supply_of start.holdings c.0 + amount_of coins c.0 ≤ 10 ^ 18 = bounded c.0 in
      omega (arith, s, a, b)

  moved_over : (s2 s x a r t : ℕ) → s2 ≡ s + x → r ≡ x + a → s + r ≡ t → s2 + a ≡ t
  moved_over s2 s x a r t e f g = omega (arith, e, f, g)

  pub giving-next : (here next : Booked) (c : List ℕ × ℕ) (rest cs : Money) → rest ≡ c ∷ cs → Giving who coins start here rest
      → next ≡ holding (coin_given who c.0 c.1 here.holdings) here → Giving who coins start next cs
  giving-next here next c rest cs r m e =
      let gives : coins_given who (c ∷ cs) here.holdings ≡ coins_given who coins start.holdings = subst (λ l. coins_given who l here.holdings ≡ coins_given who coins start.holdings) r m.gives in
      let rises : Rises (c ∷ cs) = subst Rises r m.rises in
      let le : supply_of here.holdings c.0 + c.1 ≤ 10 ^ 18 = giving-bounded here c rest cs r m in
      let held : next.holdings ≡ coin_given who c.0 c.1 here.holdings = ap (λ b. b.holdings) e in
      record {
        same = e ∙ ap (λ b. holding (coin_given who c.0 c.1 here.holdings) b) m.same ∙ ap (λ h. holding h start) (sym held);
        gives = ap (coins_given who cs) held ∙ gives;
        backed = subst IsBacked (sym held) (backed-given here.holdings who c.0 c.1 m.backed le);
        supplies = λ d. moved_over (supply_of next.holdings d) (supply_of here.holdings d) (cond (is_at (denom_cmp d) c.0) c.1 0) (amount_of cs d) (amount_of rest d) (supply_of start.holdings d + amount_of coins d)
            (ap (λ h. supply_of h d) held ∙ supply-given here.holdings who c.0 c.1 d m.backed.supplies_ascend) (ap (λ l. amount_of l d) r ∙ amount-cons c cs d rises.0) (m.supplies d);
        rises = rises.3;
      }

-- ---- accounts on their way

-- some accounts are given their coins, and these are left
pub record Starting (accounts : List (Account × Money)) (here : Booked) (rest : List (Account × Money)) : Type 0 where
  pub same : here ≡ holding here.holdings new_book
  pub gives : all_given rest here.holdings ≡ held_by accounts
  pub backed : IsBacked here.holdings
  pub bounded : (d : List ℕ) → supply_of here.holdings d + given_of rest d ≤ 10 ^ 18

module _ (accounts : List (Account × Money)) where
  pub starting-first : IsBounded accounts → Starting accounts new_book accounts
  starting-first b = record { same = refl; gives = refl; backed = backed-none; bounded = λ d. let l : given_of accounts d ≤ 10 ^ 18 = b d in omega (arith, l) }
