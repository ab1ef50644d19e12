-- What coins that move do to each balance.
use Rattle.std.proofs.Common.{◌≡◌, ◌∙◌, ℕ, ◌+◌, ◌-◌, ◌≤◌, ◌&&◌, Bool, true, false, cond, List, [], ◌∷◌, Some, refl, sym, ap, subst, arith, unwrap_or, Ordering, Less, Equal, Greater, is_eq}
use Rattle.std.{proofs.lemmas.{Map.Text.is_eq-slice_cmp, Slice.Eq.bytes_eq-Decides}, specs.Ordering.ordering_then}
use Rattle.std.specs.{Cmp.eq_by_cmp_equiv, List.Sorted.IsStrictlySortedBy, Map.{keys_of, lookup}, BTreeMap.is_at}
use Rattle.base_types.specs.{declared.account.Account.Account, Orders.{account_cmp, denom_cmp}}
use Rattle.base_coins.{specs.Coins.{Money, amount_of}, proofs.Order.{Above, Rises, rises_from_money, amount-above}}
use Rattle.base_roles.specs.Holdings.{Holdings, balance_of, with_balance, coin_moved, moved, is_short, IsBacked}
use Rattle.base_roles.specs.{Laws.MovesByAmounts, Orders.place_cmp}
use Rattle.base_roles.proofs.HoldingLemmas.{place_total, balance-changed, ascend-changed, backed-coin_moved, first_enough, rest_enough, still_enough}

pub both_at : (r s : Ordering) → is_eq (ordering_then r s) ≡ is_eq r && is_eq s
both_at Less s = refl
both_at Greater s = refl
both_at Equal s = refl

pub same_place : (h : Holdings) (who w : Account) (e d : List ℕ) → is_at (place_cmp (who, e)) (w, d) ≡ true → balance_of h who e ≡ balance_of h w d
same_place h who w e d p = ap (λ test. unwrap_or (lookup test h.balances) 0) (λ i y. (eq_by_cmp_equiv place_total).congr (who, e) (w, d) y p i)

one_coin : (f t : Bool) (x0 x1 x2 y m n : ℕ) → n ≤ m → x1 ≡ cond f (m - n) x0 → x2 ≡ cond t (y + n) x1 → (f ≡ true → x0 ≡ m) → (t ≡ true → x1 ≡ y) → x2 + cond f n 0 ≡ x0 + cond t n 0
one_coin true true x0 x1 x2 y m n le a b p q = let k : x0 ≡ m = p refl in let j : x1 ≡ y = q refl in omega (arith, le, a, b, k, j)
one_coin true false x0 x1 x2 y m n le a b p q = let k : x0 ≡ m = p refl in omega (arith, le, a, b, k)
one_coin false true x0 x1 x2 y m n le a b p q = let j : x1 ≡ y = q refl in omega (arith, a, b, j)
one_coin false false x0 x1 x2 y m n le a b p q = omega (arith, a, b)

coin_by_amount : (h : Holdings) (from to : Account) (d : List ℕ) (n : ℕ) (who : Account) (e : List ℕ) → IsStrictlySortedBy place_cmp (keys_of h.balances) → n ≤ balance_of h from d
    → balance_of (coin_moved from to d n h) who e + cond (is_at (place_cmp (who, e)) (from, d)) n 0 ≡ balance_of h who e + cond (is_at (place_cmp (who, e)) (to, d)) n 0
coin_by_amount h from to d n who e s le =
    let m = balance_of h from d in
    let less = with_balance h from d (m - n) in
    one_coin (is_at (place_cmp (who, e)) (from, d)) (is_at (place_cmp (who, e)) (to, d)) (balance_of h who e) (balance_of less who e) _ (balance_of less to d) m n le
    (balance-changed h from d (m - n) who e s) (balance-changed less to d (balance_of less to d + n) who e (ascend-changed h from d (m - n) s))
    (same_place h who from e d) (same_place less who to e d)

amount-step : (b : Bool) (n : ℕ) (rest : ℕ) (cs : Money) (e : List ℕ) → (b ≡ true → amount_of cs e ≡ 0) → unwrap_or (cond b (Some n) (lookup (is_at (denom_cmp e)) cs)) 0 ≡ cond b n 0 + amount_of cs e
amount-step true n rest cs e z = let k : amount_of cs e ≡ 0 = z refl in omega (arith, k)
amount-step false n rest cs e z = omega arith

amount-cons : (c : List ℕ × ℕ) (cs : Money) (e : List ℕ) → Above c.0 cs → amount_of (c ∷ cs) e ≡ cond (is_at (denom_cmp e) c.0) c.1 0 + amount_of cs e
amount-cons c cs e a = amount-step (is_at (denom_cmp e) c.0) c.1 0 cs e (λ p. subst (λ x. amount_of cs x ≡ 0) (sym ((bytes_eq-Decides e c.0).0 (sym (is_eq-slice_cmp e c.0) ∙ p))) (amount-above c.0 cs a))

together : (f t b : Bool) (x0 x1 x2 n a : ℕ) → x2 + cond f a 0 ≡ x1 + cond t a 0 → x1 + cond (f && b) n 0 ≡ x0 + cond (t && b) n 0 → x2 + cond f (cond b n 0 + a) 0 ≡ x0 + cond t (cond b n 0 + a) 0
together true true true x0 x1 x2 n a p q = omega (arith, p, q)
together true true false x0 x1 x2 n a p q = omega (arith, p, q)
together true false true x0 x1 x2 n a p q = omega (arith, p, q)
together true false false x0 x1 x2 n a p q = omega (arith, p, q)
together false true true x0 x1 x2 n a p q = omega (arith, p, q)
together false true false x0 x1 x2 n a p q = omega (arith, p, q)
together false false true x0 x1 x2 n a p q = omega (arith, p, q)
together false false false x0 x1 x2 n a p q = omega (arith, p, q)

by_amounts : (coins : Money) (h : Holdings) (from to who : Account) (e : List ℕ) → IsBacked h → Rises coins → is_short h from coins ≡ false
    → balance_of (moved from to coins h) who e + cond (is_at (account_cmp who) from) (amount_of coins e) 0 ≡ balance_of h who e + cond (is_at (account_cmp who) to) (amount_of coins e) 0
by_amounts [] h from to who e b r s = nothing (is_at (account_cmp who) from) (is_at (account_cmp who) to) (balance_of h who e)
  where
    nothing : (f t : Bool) (x : ℕ) → x + cond f 0 0 ≡ x + cond t 0 0
    nothing true true x = refl
    nothing true false x = refl
    nothing false true x = refl
    nothing false false x = refl
by_amounts (c ∷ cs) h from to who e b r s =
    let le = first_enough h from c cs s in
    let rest = by_amounts cs (coin_moved from to c.0 c.1 h) from to who e (backed-coin_moved h from to c.0 c.1 b le) r.3 (still_enough cs h from to c.0 c.1 b.balances_ascend r.0 (rest_enough h from c cs s)) in
    let one = coin_by_amount h from to c.0 c.1 who e b.balances_ascend le in
    let f = both_at (account_cmp who from) (denom_cmp e c.0) in
    let t = both_at (account_cmp who to) (denom_cmp e c.0) in
    rw (amount-cons c cs e r.0)
    (together (is_at (account_cmp who) from) (is_at (account_cmp who) to) (is_at (denom_cmp e) c.0) (balance_of h who e) (balance_of (coin_moved from to c.0 c.1 h) who e) (balance_of (moved from to (c ∷ cs) h) who e) c.1 (amount_of cs e)
    rest (λ i. (subst (λ u. balance_of (coin_moved from to c.0 c.1 h) who e + cond u c.1 0 ≡ balance_of h who e + cond (is_at (account_cmp who) to && is_at (denom_cmp e) c.0) c.1 0) f
    (subst (λ u. balance_of (coin_moved from to c.0 c.1 h) who e + cond (is_at (place_cmp (who, e)) (from, c.0)) c.1 0 ≡ balance_of h who e + cond u c.1 0) t one)) i))

pub moves_by_amounts : MovesByAmounts
moves_by_amounts h from to coins b m s who d = by_amounts coins h from to who d b (rises_from_money coins m) s
