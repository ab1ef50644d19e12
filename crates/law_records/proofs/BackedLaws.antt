-- The tests of the ground decide that it is in order.
use Rattle.std.proofs.Common.{◌≡◌, ◌∙◌, ℕ, ◌+◌, ◌^◌, ◌≤◌, ◌<◌, Bool, true, false, cond, List, [], ◌∷◌, Option, Some, None, refl, sym, ap, subst, arith, ◌==◌, ◌&&◌, nat_le, nat_lt, is_some, unwrap_or, All, Decides, Equal, true≢false}
use Rattle.std.specs.{BTreeMap.is_at, List.{list_all, Sorted.IsStrictlySortedBy}, Map.{keys_of, lookup}}
use Rattle.std.proofs.lemmas.{Bool.Decides.{nat_tests, Decides-and, Decides-eqb}, Map.Lookups.exact_bytes}
use Rattle.base_types.specs.{declared.account.Account.Account, Orders.denom_cmp}
use Rattle.base_coins.specs.Coins.{Money, amount_of}
use Rattle.base_roles.specs.Entries.{at, sum_where}
use Rattle.base_roles.specs.{Holdings.{Balances, Holdings, IsBacked, balance_of, supply_of, total_of}, Orders.place_cmp}
use Rattle.base_roles.specs.Ranges.{is_within}
use Rattle.base_roles.proofs.HoldingLemmas.{denom_total, place_total, place_exact, balance-within}
use Rattle.rule_modules.proofs.EntryLemmas.{to_all, from_all}
use Rattle.store_soundness.specs.Ranges.{balances_of, is_supply_sound, are_supplies_sound, is_balance_sound, are_balances_sound, are_backed}
use Rattle.store_soundness.proofs.TallyLemmas.{lookup_alike}
use Rattle.law_records.proofs.TestLemmas.{at_most, below, within, all_decides}

supply_decides : (supply held : ℕ) → Decides (is_supply_sound supply held) (((1 ≤ supply) × (supply ≤ 10 ^ 18)) × (held ≡ supply))
supply_decides supply held = Decides-and (is_within 1 (10 ^ 18) supply) (held == supply) (within 1 (10 ^ 18) supply) (Decides-eqb held supply)

some_decides : {A : Type 0} (o : Option A) → Decides (is_some o) (is_some o ≡ true)
some_decides o = (λ t. t, λ t. t)

balance_decides : (supplies : Money) (e : (Account × List ℕ) × ℕ) → Decides (is_balance_sound supplies e.0.1 e.1) ((0 < e.1) × (is_some (at denom_cmp supplies e.0.1) ≡ true))
balance_decides supplies e = Decides-and (nat_lt 0 e.1) (is_some (at denom_cmp supplies e.0.1)) (below 0 e.1) (some_decides (at denom_cmp supplies e.0.1))

first : (a b : Bool) → (a && b) ≡ true → a ≡ true
first true b k = refl
first false b k = k

second : (a b : Bool) → (a && b) ≡ true → b ≡ true
second true b k = k
second false b k = absurd cc

-- nothing is held of a denomination that has no supply
none_held : (supplies : Money) (d : List ℕ) → is_some (at denom_cmp supplies d) ≡ false → (es : Balances) → are_balances_sound supplies es ≡ true → balances_of es d ≡ 0
none_held supplies d none [] t = refl
none_held supplies d none (e ∷ es) t =
    by (none_held supplies d none es (second (is_balance_sound supplies e.0.1 e.1) (are_balances_sound supplies es) t)) (is_at (denom_cmp d) e.0.1) refl
  where
    by : balances_of es d ≡ 0 → (b : Bool) → is_at (denom_cmp d) e.0.1 ≡ b → cond b e.1 0 + balances_of es d ≡ 0
    by rest true same = absurd (true≢false (sym (second (nat_lt 0 e.1) (is_some (at denom_cmp supplies e.0.1)) (first (is_balance_sound supplies e.0.1 e.1) (are_balances_sound supplies es) t)) ∙ ap is_some (lookup_alike denom_cmp denom_total supplies e.0.1 d same) ∙ none))
    by rest false other = omega arith

-- a supply: from 1 to 10^18, and so much is held
abbrev IsSupply : Balances → List ℕ × ℕ → Type 0
IsSupply balances c = ((1 ≤ c.1) × (c.1 ≤ 10 ^ 18)) × (balances_of balances c.0 ≡ c.1)

-- a balance: not 0, of a denomination that has a supply
abbrev IsBalance : Money → (Account × List ℕ) × ℕ → Type 0
IsBalance supplies e = (0 < e.1) × (is_some (at denom_cmp supplies e.0.1) ≡ true)

grounds : (h : Holdings) → Decides (are_backed h.balances h.supplies) (All (IsSupply h.balances) h.supplies × All (IsBalance h.supplies) h.balances)
grounds h = Decides-and (are_supplies_sound (balances_of h.balances) h.supplies) (are_balances_sound h.supplies h.balances)
    (all_decides (λ (c : List ℕ × ℕ). is_supply_sound c.1 (balances_of h.balances c.0)) (IsSupply h.balances) (λ c. supply_decides c.1 (balances_of h.balances c.0)) h.supplies)
    (all_decides (λ (e : (Account × List ℕ) × ℕ). is_balance_sound h.supplies e.0.1 e.1) (IsBalance h.supplies) (balance_decides h.supplies) h.balances)

-- the supply of a denomination is what is held, and within the most
held_just : (h : Holdings) → are_balances_sound h.supplies h.balances ≡ true → All (IsSupply h.balances) h.supplies → (d : List ℕ) → (supply_of h d ≡ total_of h d) × (supply_of h d ≤ 10 ^ 18)
held_just h t all d = by (at denom_cmp h.supplies d) refl
  where
    by : (r : Option ℕ) → at denom_cmp h.supplies d ≡ r → (unwrap_or r 0 ≡ total_of h d) × (unwrap_or r 0 ≤ 10 ^ 18)
    by (Some n) e = let p = from_all denom_cmp denom_total (IsSupply h.balances) h.supplies exact_bytes all d n e in (sym p.1, p.0.1)
    by None e = (sym (none_held h.supplies d (ap is_some e) h.balances t), omega arith)

told : (h : Holdings) → IsStrictlySortedBy place_cmp (keys_of h.balances) → IsStrictlySortedBy denom_cmp (keys_of h.supplies) → are_backed h.balances h.supplies ≡ true → IsBacked h
told h balances supplies t =
    let all = (grounds h).0 t in
    let sound = second (are_supplies_sound (balances_of h.balances) h.supplies) (are_balances_sound h.supplies h.balances) t in
    record {
      balances_ascend = balances;
      balances_positive = λ k d lt. (all.1 k d lt).0;
      supplies_ascend = supplies;
      supplies_positive = λ k d lt. (all.0 k d lt).0.0;
      backed = λ d. (held_just h sound all.0 d).0;
      bounded = λ d. (held_just h sound all.0 d).1;
    }

-- a denomination of which something is held has a supply
has_supply : (h : Holdings) → IsBacked h → (k : Account × List ℕ) (v : ℕ) → 0 < v → at place_cmp h.balances k ≡ Some v → is_some (at denom_cmp h.supplies k.1) ≡ true
has_supply h b k v positive e = by (at denom_cmp h.supplies k.1) refl
  where
    by : (r : Option ℕ) → at denom_cmp h.supplies k.1 ≡ r → is_some r ≡ true
    by (Some n) found = refl
    by None none =
        let held : balance_of h k.0 k.1 ≡ v = ap (λ r. unwrap_or r 0) e in
        let supply : supply_of h k.1 ≡ 0 = ap (λ r. unwrap_or r 0) none in
        let within : balance_of h k.0 k.1 ≤ total_of h k.1 = balance-within h k.0 k.1 in
        let backed : supply_of h k.1 ≡ total_of h k.1 = b.backed k.1 in
        absurd (omega (arith, held, supply, within, backed, positive))

tested : (h : Holdings) → IsBacked h → are_backed h.balances h.supplies ≡ true
tested h b = (grounds h).1 (supplies, balances)
  where
    supply_is : (k : List ℕ) (v : ℕ) → at denom_cmp h.supplies k ≡ Some v → supply_of h k ≡ v
    supply_is k v e = ap (λ r. unwrap_or r 0) e

    supplies : All (IsSupply h.balances) h.supplies
    supplies = to_all denom_cmp denom_total (IsSupply h.balances) h.supplies b.supplies_ascend
        (λ k v e. (
          (
            from_all denom_cmp denom_total (λ c. 0 < c.1) h.supplies exact_bytes b.supplies_positive k v e,
            subst (λ n. n ≤ 10 ^ 18) (supply_is k v e) (b.bounded k),
          ),
          sym (b.backed k) ∙ supply_is k v e,
        ))

    positive : (k : Account × List ℕ) (v : ℕ) → at place_cmp h.balances k ≡ Some v → 0 < v
    positive k v e = from_all place_cmp place_total (λ c. 0 < c.1) h.balances place_exact b.balances_positive k v e

    balances : All (IsBalance h.supplies) h.balances
    balances = to_all place_cmp place_total (IsBalance h.supplies) h.balances b.balances_ascend (λ k v e. (positive k v e, has_supply h b k v (positive k v e) e))

-- the test of supplies decides that holdings are backed
pub backed_decides : (h : Holdings) → IsStrictlySortedBy place_cmp (keys_of h.balances) → IsStrictlySortedBy denom_cmp (keys_of h.supplies) → Decides (are_backed h.balances h.supplies) (IsBacked h)
backed_decides h balances supplies = (told h balances supplies, tested h)
