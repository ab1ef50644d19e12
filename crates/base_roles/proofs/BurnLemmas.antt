-- What a coin that burns does to each balance and to each supply.
use Rattle.std.proofs.Common.{◌≡◌, ℕ, ◌+◌, ◌-◌, ◌≤◌, Bool, true, false, cond, List, refl, subst, arith, ◌==◌}
use Rattle.std.{proofs.lemmas.Bool.Decides.nat_tests, specs.BTreeMap.is_at}
use Rattle.base_types.specs.{declared.account.Account.Account, Orders.{account_cmp, denom_cmp}}
use Rattle.base_roles.specs.Holdings.{Holdings, balance_of, supply_of, total_of, coin_burned, burned, IsBacked}
use Rattle.base_roles.specs.{Laws.{BurnsByAmounts, BurnsLowerSupplies}, Orders.place_cmp}
use Rattle.base_roles.proofs.{AmountLemmas.{both_at, same_place}, EntryLemmas.number-after}
use Rattle.base_roles.proofs.HoldingLemmas.{denom_total, balance-changed, balance-within, same_supply}

lowered : (b : Bool) (x x2 m n : ℕ) → n ≤ m → x2 ≡ cond b (m - n) x → (b ≡ true → x ≡ m) → x2 + cond b n 0 ≡ x
lowered true x x2 m n le a p = let k : x ≡ m = p refl in omega (arith, le, a, k)
lowered false x x2 m n le a p = omega (arith, a)

coin_by_amount : (h : Holdings) (from : Account) (d : List ℕ) (n : ℕ) (who : Account) (e : List ℕ) → IsBacked h → n ≤ balance_of h from d
    → balance_of (coin_burned from d n h) who e + cond (is_at (place_cmp (who, e)) (from, d)) n 0 ≡ balance_of h who e
coin_by_amount h from d n who e b le =
    lowered (is_at (place_cmp (who, e)) (from, d)) (balance_of h who e) (balance_of (coin_burned from d n h) who e) (balance_of h from d) n le
    (balance-changed h from d (balance_of h from d - n) who e b.balances_ascend) (same_place h who from e d)

supply-within : (h : Holdings) (from : Account) (d : List ℕ) → IsBacked h → balance_of h from d ≤ supply_of h d
supply-within h from d b =
    let a : balance_of h from d ≤ total_of h d = balance-within h from d in
    let c : supply_of h d ≡ total_of h d = b.backed d in
    omega (arith, a, c)

supply_by_amount : (h : Holdings) (from : Account) (d : List ℕ) (n : ℕ) (e : List ℕ) → IsBacked h → n ≤ balance_of h from d
    → supply_of (coin_burned from d n h) e + cond (is_at (denom_cmp e) d) n 0 ≡ supply_of h e
supply_by_amount h from d n e b le =
    let within : balance_of h from d ≤ supply_of h d = supply-within h from d b in
    let enough : n ≤ supply_of h d = omega (arith, le, within) in
    lowered (is_at (denom_cmp e) d) (supply_of h e) (supply_of (coin_burned from d n h) e) (supply_of h d) n enough
    (number-after denom_cmp denom_total h.supplies d e (supply_of h d - n) b.supplies_ascend) (same_supply h e d)

-- also where nothing burns
burned_or_not : (read : Holdings → ℕ) (h h2 : Holdings) (b : Bool) (n : ℕ) → read h2 + cond b n 0 ≡ read h → read (cond (n == 0) h h2) + cond b n 0 ≡ read h
burned_or_not read h h2 b n p = by (n == 0) refl
  where
    unchanged : (c : Bool) (x : ℕ) → n ≡ 0 → x + cond c n 0 ≡ x
    unchanged true x z = omega (arith, z)
    unchanged false x z = omega arith

    by : (z : Bool) → (n == 0) ≡ z → read (cond z h h2) + cond b n 0 ≡ read h
    by true z = unchanged b (read h) (grind (arith, nat_tests, z))
    by false z = p

pub burns_by_amounts : BurnsByAmounts
burns_by_amounts h from d n b le who e =
    subst (λ u. balance_of (burned from d n h) who e + cond u n 0 ≡ balance_of h who e) (both_at (account_cmp who from) (denom_cmp e d))
    (burned_or_not (λ k. balance_of k who e) h (coin_burned from d n h) (is_at (place_cmp (who, e)) (from, d)) n (coin_by_amount h from d n who e b le))

pub burns_lower_supplies : BurnsLowerSupplies
burns_lower_supplies h from d n b le e = burned_or_not (λ k. supply_of k e) h (coin_burned from d n h) (is_at (denom_cmp e) d) n (supply_by_amount h from d n e b le)
