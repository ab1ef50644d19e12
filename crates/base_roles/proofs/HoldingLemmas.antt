-- Holdings after coins moved or were burned.
use Rattle.std.proofs.Common.{◌≡◌, ◌∙◌, ℕ, ◌+◌, ◌-◌, ◌^◌, ◌≤◌, ◌<◌, Bool, true, false, cond, List, [], ◌∷◌, refl, sym, ap, subst, arith, ◌||◌, ◌==◌, ◌≢◌, nat_lt, length, Ordering, Less, Equal, Greater, nat_cmp, is_eq}
use Rattle.std.proofs.lemmas.{List.Elements.All-nil, Cmp.nat_list_cmp_total, Bool.Decides.nat_tests}
use Rattle.std.proofs.lemmas.Map.{Lookups.{CmpEqualImpliesEq, exact_bytes, exact_pairs}, Text.is_eq-slice_cmp}
use Rattle.std.{proofs.lemmas.Slice.Eq.bytes_eq-Decides, specs.Ordering.{ordering_then, ordering_reverse}}
use Rattle.std.specs.{Cmp.{IsTotalOrder, on_total, then_total, Lexicographic.slice_cmp}, List.Sorted.IsStrictlySortedBy}
use Rattle.std.specs.{Map.keys_of, BTreeMap.is_at}
use Rattle.base_types.specs.{declared.account.Account.Account, Modules.module_number, Orders.{account_cmp, denom_cmp}}
use Rattle.base_types.proofs.OrderLemmas.{account_exact, account_order, account_order_at}
use Rattle.base_types.specs.declared.account.Account.TheVariants as account
use Rattle.base_coins.{specs.Coins.{Money, IsMoney}, proofs.Order.{Above, Rises, rises_from_money}}
use Rattle.base_roles.specs.Holdings.{Holdings, balance_of, supply_of, total_of, with_balance, coin_moved, moved, coin_burned, burned, is_short, IsBacked, no_holdings}
use Rattle.base_roles.specs.Orders.{place_cmp}
use Rattle.base_roles.proofs.EntryLemmas.{number-after, ascend-after, positive-after, sum-after, number-within, Respects}

-- ---- the order of places

account_key : Account → List ℕ
account_key (account.User bytes) = 0 ∷ bytes
account_key (account.Module m) = 1 ∷ module_number m ∷ []

then_equal : (r : Ordering) → r ≡ ordering_then r Equal
then_equal Less = refl
then_equal Equal = refl
then_equal Greater = refl

account_is : (a b : Account) → account_cmp a b ≡ slice_cmp nat_cmp (account_key a) (account_key b)
unfolding account_key
account_is (account.User a) (account.User b) = refl
account_is (account.User a) (account.Module n) = refl
account_is (account.Module m) (account.User b) = refl
account_is (account.Module m) (account.Module n) = then_equal (nat_cmp (module_number m) (module_number n))

pub account_total : IsTotalOrder account_cmp
account_total = subst IsTotalOrder (λ i a b. sym (account_is a b) i) (on_total account_key nat_list_cmp_total)

pub place_total : IsTotalOrder place_cmp
place_total = then_total (on_total (λ p. p.0) account_total) (on_total (λ p. p.1) nat_list_cmp_total)

pub place_exact : CmpEqualImpliesEq place_cmp
place_exact = exact_pairs account_cmp denom_cmp account_exact exact_bytes

-- the derived order, in which maps keep places
abbrev pub place_order : Account × List ℕ → Account × List ℕ → Ordering
place_order x y = ordering_then (account_order x.0 y.0) (denom_cmp x.1 y.1)

pub place_order_is : place_order ≡ place_cmp
place_order_is = λ i. λ x y. ordering_then (account_order_at x.0 y.0 i) (denom_cmp x.1 y.1)

pub denom_total : IsTotalOrder denom_cmp
denom_total = nat_list_cmp_total

same_list : (a b : List ℕ) → slice_cmp nat_cmp a b ≡ Equal → a ≡ b
same_list a b e = (bytes_eq-Decides a b).0 (sym (is_eq-slice_cmp a b) ∙ ap is_eq e)

then_second : (r s : Ordering) → ordering_then r s ≡ Equal → s ≡ Equal
then_second Equal s e = e
then_second Less s e = absurd cc
then_second Greater s e = absurd cc

abbrev pub of_denom : List ℕ → Account × List ℕ → Bool
of_denom d place = is_at (denom_cmp d) place.1

of_denom-respects : (d : List ℕ) → Respects place_cmp place_total (of_denom d)
of_denom-respects d k x e = ap (λ e. is_at (denom_cmp d) e) (sym (same_list k.1 x.1 (then_second (account_cmp k.0 x.0) (denom_cmp k.1 x.1) e)))

same_denom : (d : List ℕ) → is_at (denom_cmp d) d ≡ true
same_denom d = is_eq-slice_cmp d d ∙ (bytes_eq-Decides d d).1 refl

-- ---- balances after a change of one

-- what an account holds after a change of another balance or the same
pub balance-changed : (h : Holdings) (w : Account) (d : List ℕ) (n : ℕ) (who : Account) (e : List ℕ) → IsStrictlySortedBy place_cmp (keys_of h.balances)
    → balance_of (with_balance h w d n) who e ≡ cond (is_at (place_cmp (who, e)) (w, d)) n (balance_of h who e)
balance-changed h w d n who e s = number-after place_cmp place_total h.balances (w, d) (who, e) n s

pub ascend-changed : (h : Holdings) (w : Account) (d : List ℕ) (n : ℕ) → IsStrictlySortedBy place_cmp (keys_of h.balances) → IsStrictlySortedBy place_cmp (keys_of (with_balance h w d n).balances)
ascend-changed h w d n s = ascend-after place_cmp place_total h.balances (w, d) n s

total-changed : (h : Holdings) (w : Account) (d : List ℕ) (n : ℕ) (e : List ℕ) → IsStrictlySortedBy place_cmp (keys_of h.balances)
    → total_of (with_balance h w d n) e + cond (is_at (denom_cmp e) d) (balance_of h w d) 0 ≡ total_of h e + cond (is_at (denom_cmp e) d) n 0
total-changed h w d n e s = sum-after place_cmp place_total (of_denom e) (w, d) n h.balances (of_denom-respects e) s

-- no balance is above the sum of its denomination
pub balance-within : (h : Holdings) (who : Account) (d : List ℕ) → balance_of h who d ≤ total_of h d
balance-within h who d = number-within place_cmp place_total (of_denom d) (who, d) h.balances (of_denom-respects d) (same_denom d)

-- nor above 10^18
pub balance-most : (h : Holdings) (who : Account) (d : List ℕ) → IsBacked h → balance_of h who d ≤ 10 ^ 18
balance-most h who d b =
    let a : balance_of h who d ≤ total_of h d = balance-within h who d in
    let c : supply_of h d ≡ total_of h d = b.backed d in
    let e : supply_of h d ≤ 10 ^ 18 = b.bounded d in
    omega (arith, a, c, e)

-- ---- a coin that moves

two_steps : (b : Bool) (s s1 s2 held there n : ℕ) → n ≤ held → s1 + cond b held 0 ≡ s + cond b (held - n) 0 → s2 + cond b there 0 ≡ s1 + cond b (there + n) 0 → s2 ≡ s
two_steps true s s1 s2 held there n le e f = omega arith
two_steps false s s1 s2 held there n le e f = omega arith

total-coin_moved : (h : Holdings) (from to : Account) (d : List ℕ) (n : ℕ) (e : List ℕ) → IsBacked h → n ≤ balance_of h from d → total_of (coin_moved from to d n h) e ≡ total_of h e
total-coin_moved h from to d n e b le =
    let less = with_balance h from d (balance_of h from d - n) in
    two_steps (is_at (denom_cmp e) d) (total_of h e) (total_of less e) _ (balance_of h from d) (balance_of less to d) n le
    (total-changed h from d (balance_of h from d - n) e b.balances_ascend)
    (total-changed less to d (balance_of less to d + n) e (ascend-changed h from d (balance_of h from d - n) b.balances_ascend))

pub backed-coin_moved : (h : Holdings) (from to : Account) (d : List ℕ) (n : ℕ) → IsBacked h → n ≤ balance_of h from d → IsBacked (coin_moved from to d n h)
backed-coin_moved h from to d n b le =
    let less = with_balance h from d (balance_of h from d - n) in
    record {
      balances_ascend = ascend-changed less to d (balance_of less to d + n) (ascend-changed h from d (balance_of h from d - n) b.balances_ascend);
      balances_positive = positive-after place_cmp place_total less.balances (to, d) (balance_of less to d + n) (positive-after place_cmp place_total h.balances (from, d) (balance_of h from d - n) b.balances_positive);
      supplies_ascend = b.supplies_ascend;
      supplies_positive = b.supplies_positive;
      backed = λ e. b.backed e ∙ sym (total-coin_moved h from to d n e b le);
      bounded = b.bounded;
    }

pub first_enough : (h : Holdings) (who : Account) (c : List ℕ × ℕ) (cs : Money) → is_short h who (c ∷ cs) ≡ false → c.1 ≤ balance_of h who c.0
first_enough h who c cs e = by (balance_of h who c.0) c.1 (is_short h who cs) e
  where
    by : (a n : ℕ) (b : Bool) → (nat_lt a n || b) ≡ false → n ≤ a
    by a n b e = grind (arith, nat_tests)

pub rest_enough : (h : Holdings) (who : Account) (c : List ℕ × ℕ) (cs : Money) → is_short h who (c ∷ cs) ≡ false → is_short h who cs ≡ false
rest_enough h who c cs e = by (nat_lt (balance_of h who c.0) c.1) (is_short h who cs) e
  where
    by : (a b : Bool) → (a || b) ≡ false → b ≡ false
    by true b e = absurd cc
    by false b e = e

-- ---- balances that a move leaves

cond-false : (b : Bool) (m n : ℕ) → b ≡ false → cond b m n ≡ n
cond-false b m n h = ap (λ c. cond c m n) h

other_denom : (r : Ordering) (d e : List ℕ) → denom_cmp d e ≡ Less → is_eq (ordering_then r (denom_cmp e d)) ≡ false
other_denom Less d e h = refl
other_denom Greater d e h = refl
other_denom Equal d e h = ap is_eq (denom_total.antisymm e d ∙ ap ordering_reverse h)

other_account : (r s : Ordering) → is_eq r ≡ false → is_eq (ordering_then r s) ≡ false
other_account Less s h = refl
other_account Greater s h = refl
other_account Equal s h = absurd cc

balance-coin_moved_of_other : (h : Holdings) (from to : Account) (d : List ℕ) (n : ℕ) (who : Account) (e : List ℕ) → IsStrictlySortedBy place_cmp (keys_of h.balances) → denom_cmp d e ≡ Less
    → balance_of (coin_moved from to d n h) who e ≡ balance_of h who e
balance-coin_moved_of_other h from to d n who e s o =
    let m = balance_of h from d - n in
    let less = with_balance h from d m in
    balance-changed less to d (balance_of less to d + n) who e (ascend-changed h from d m s)
    ∙ cond-false (is_at (place_cmp (who, e)) (to, d)) _ _ (other_denom (account_cmp who to) d e o)
    ∙ balance-changed h from d m who e s
    ∙ cond-false (is_at (place_cmp (who, e)) (from, d)) _ _ (other_denom (account_cmp who from) d e o)

balance-coin_moved_elsewhere : (h : Holdings) (from to : Account) (d : List ℕ) (n : ℕ) (who : Account) (e : List ℕ) → IsStrictlySortedBy place_cmp (keys_of h.balances)
    → is_at (account_cmp who) from ≡ false → is_at (account_cmp who) to ≡ false → balance_of (coin_moved from to d n h) who e ≡ balance_of h who e
balance-coin_moved_elsewhere h from to d n who e s f t =
    let m = balance_of h from d - n in
    let less = with_balance h from d m in
    balance-changed less to d (balance_of less to d + n) who e (ascend-changed h from d m s)
    ∙ cond-false (is_at (place_cmp (who, e)) (to, d)) _ _ (other_account (account_cmp who to) (denom_cmp e d) t)
    ∙ balance-changed h from d m who e s
    ∙ cond-false (is_at (place_cmp (who, e)) (from, d)) _ _ (other_account (account_cmp who from) (denom_cmp e d) f)

ascend-coin_moved : (h : Holdings) (from to : Account) (d : List ℕ) (n : ℕ) → IsStrictlySortedBy place_cmp (keys_of h.balances) → IsStrictlySortedBy place_cmp (keys_of (coin_moved from to d n h).balances)
ascend-coin_moved h from to d n s =
    let m = balance_of h from d - n in
    let less = with_balance h from d m in
    ascend-changed less to d (balance_of less to d + n) (ascend-changed h from d m s)

-- coins that move between other accounts
pub balance-moved_elsewhere : (coins : Money) (h : Holdings) (from to who : Account) (e : List ℕ) → IsStrictlySortedBy place_cmp (keys_of h.balances)
    → is_at (account_cmp who) from ≡ false → is_at (account_cmp who) to ≡ false → balance_of (moved from to coins h) who e ≡ balance_of h who e
balance-moved_elsewhere [] h from to who e s f t = refl
balance-moved_elsewhere (c ∷ cs) h from to who e s f t =
    balance-moved_elsewhere cs (coin_moved from to c.0 c.1 h) from to who e (ascend-coin_moved h from to c.0 c.1 s) f t
    ∙ balance-coin_moved_elsewhere h from to c.0 c.1 who e s f t

-- a move leaves the supplies
pub supplies-moved : (coins : Money) (h : Holdings) (from to : Account) → (moved from to coins h).supplies ≡ h.supplies
supplies-moved [] h from to = refl
supplies-moved (c ∷ cs) h from to = supplies-moved cs (coin_moved from to c.0 c.1 h) from to

-- ---- holdings stay in order

or-first : (a b : Bool) → (a || b) ≡ false → a ≡ false
or-first true b e = absurd cc
or-first false b e = refl

or-both : (a b : Bool) → a ≡ false → b ≡ false → (a || b) ≡ false
or-both a b p q = ap (λ c. c || b) p ∙ q

pub still_enough : (cs : Money) (h : Holdings) (from to : Account) (d : List ℕ) (n : ℕ) → IsStrictlySortedBy place_cmp (keys_of h.balances) → Above d cs → is_short h from cs ≡ false
    → is_short (coin_moved from to d n h) from cs ≡ false
still_enough [] h from to d n s a e = refl
still_enough (x ∷ xs) h from to d n s a e =
    or-both (nat_lt (balance_of (coin_moved from to d n h) from x.0) x.1) (is_short (coin_moved from to d n h) from xs)
    (ap (λ m. nat_lt m x.1) (balance-coin_moved_of_other h from to d n from x.0 s a.0) ∙ or-first (nat_lt (balance_of h from x.0) x.1) (is_short h from xs) e)
    (still_enough xs h from to d n s a.1 (rest_enough h from x xs e))

moved_backed : (coins : Money) (h : Holdings) (from to : Account) → IsBacked h → Rises coins → is_short h from coins ≡ false → IsBacked (moved from to coins h)
moved_backed [] h from to b r e = b
moved_backed (c ∷ cs) h from to b r e =
    moved_backed cs (coin_moved from to c.0 c.1 h) from to (backed-coin_moved h from to c.0 c.1 b (first_enough h from c cs e)) r.3
    (still_enough cs h from to c.0 c.1 b.balances_ascend r.0 (rest_enough h from c cs e))

-- a bank in order stays so when coins move
pub backed-moved : (coins : Money) (h : Holdings) (from to : Account) → IsBacked h → IsMoney coins → is_short h from coins ≡ false → IsBacked (moved from to coins h)
backed-moved coins h from to b m e = moved_backed coins h from to b (rises_from_money coins m) e

burned_backs : (b : Bool) (se sd t t2 held n : ℕ) → (b ≡ true → se ≡ sd) → n ≤ held → se ≡ t → t2 + cond b held 0 ≡ t + cond b (held - n) 0 → cond b (sd - n) se ≡ t2
burned_backs true se sd t t2 held n same le e f = let k : se ≡ sd = same refl in omega (arith, k, le, e, f)
burned_backs false se sd t t2 held n same le e f = omega (arith, e, f)

burned_most : (b : Bool) (se sd n : ℕ) → se ≤ 10 ^ 18 → sd ≤ 10 ^ 18 → cond b (sd - n) se ≤ 10 ^ 18
burned_most true se sd n p q = omega (arith, q)
burned_most false se sd n p q = p

pub same_supply : (h : Holdings) (e d : List ℕ) → is_at (denom_cmp e) d ≡ true → supply_of h e ≡ supply_of h d
same_supply h e d p = ap (λ x. supply_of h x) ((bytes_eq-Decides e d).0 (sym (is_eq-slice_cmp e d) ∙ p))

backed-coin_burned : (h : Holdings) (from : Account) (d : List ℕ) (n : ℕ) → IsBacked h → n ≤ balance_of h from d → IsBacked (coin_burned from d n h)
backed-coin_burned h from d n b le =
    let m = balance_of h from d - n in
    let less = with_balance h from d m in
    let s : (e : List ℕ) → supply_of (coin_burned from d n h) e ≡ cond (is_at (denom_cmp e) d) (supply_of h d - n) (supply_of h e) = λ e. number-after denom_cmp denom_total h.supplies d e (supply_of h d - n) b.supplies_ascend in
    record {
      balances_ascend = ascend-changed h from d m b.balances_ascend;
      balances_positive = positive-after place_cmp place_total h.balances (from, d) m b.balances_positive;
      supplies_ascend = ascend-after denom_cmp denom_total h.supplies d (supply_of h d - n) b.supplies_ascend;
      supplies_positive = positive-after denom_cmp denom_total h.supplies d (supply_of h d - n) b.supplies_positive;
      backed = λ e. s e ∙ burned_backs (is_at (denom_cmp e) d) (supply_of h e) (supply_of h d) (total_of h e) (total_of less e) (balance_of h from d) n (same_supply h e d) le (b.backed e) (total-changed h from d m e b.balances_ascend);
      bounded = λ e. subst (λ x. x ≤ 10 ^ 18) (sym (s e)) (burned_most (is_at (denom_cmp e) d) (supply_of h e) (supply_of h d) n (b.bounded e) (b.bounded d));
    }

-- and when a coin is burned
pub backed-burned : (h : Holdings) (from : Account) (d : List ℕ) (n : ℕ) → IsBacked h → n ≤ balance_of h from d → IsBacked (burned from d n h)
backed-burned h from d n b le = by (n == 0)
  where
    by : (z : Bool) → IsBacked (cond z h (coin_burned from d n h))
    by true = b
    by false = backed-coin_burned h from d n b le

-- ---- a bank that holds nothing

pub backed-none : IsBacked no_holdings
unfolding IsStrictlySortedBy
backed-none = record { balances_ascend = tt; balances_positive = All-nil (λ (e : (Account × List ℕ) × ℕ). 0 < e.1); supplies_ascend = tt; supplies_positive = All-nil (λ (c : List ℕ × ℕ). 0 < c.1); backed = λ d. refl; bounded = λ d. omega arith }

short_rises : (who : Account) (c : List ℕ × ℕ) (cs : Money) → Rises (c ∷ cs) → is_short no_holdings who (c ∷ cs) ≡ true
short_rises who c cs r = by c.1 (is_short no_holdings who cs) r.1
  where
    by : (n : ℕ) (b : Bool) → 0 < n → (nat_lt 0 n || b) ≡ true
    by n b p = grind (arith, nat_tests)

-- whoever sends a coin is short
pub short-none : (who : Account) (coins : Money) → IsMoney coins → length coins ≢ 0 → is_short no_holdings who coins ≡ true
short-none who [] m e = absurd (e refl)
short-none who (c ∷ cs) m e = short_rises who c cs (rises_from_money (c ∷ cs) m)
