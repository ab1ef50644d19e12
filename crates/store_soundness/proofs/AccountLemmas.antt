-- What the not-bonded and the distribution account owe, by totals up to 10^38.
use Rattle.std.proofs.Common.{◌≡◌, ◌∙◌, ℕ, ◌+◌, ◌*◌, ◌^◌, ◌≤◌, ◌<◌, Bool, true, false, cond, not, List, [], ◌∷◌, map, refl, sym, ap, subst, inl, inr, arith, zero-add, add-zero, add_assoc, ◌⊎◌, ◌==◌, ◌&&◌, ◌||◌, min, nat_le}
use Rattle.std.proofs.{Math.Nat.min-le_left, lemmas.{Bool.{cases_lt, Decides.nat_tests}, List.Sums.sum_by-cons}}
use Rattle.std.specs.{Map.values_of, BTreeMap.is_at, List.list_all}
use Rattle.base_types.specs.{declared.account.Account.Account, Orders.{account_cmp, denom_cmp}}
use Rattle.base_types.specs.declared.account.Account.TheVariants as account
use Rattle.base_types.specs.declared.account.Module.TheVariants as holder
use Rattle.base_coins.specs.Coins.{Money}
use Rattle.base_roles.specs.declared.entities.{Purse.Purse, UnbondingEntry.UnbondingEntry, Validator.Validator}
use Rattle.base_roles.specs.{Entries.number_at, Holdings.Balances, Orders.place_cmp, Staked.{is_bonded, tokens_where}}
use Rattle.base_roles.proofs.HoldingLemmas.{denom_total}
use Rattle.rule_modules.specs.{Owed.{balances_of as entries_together, entry_balances}, Unbondings.UnbondingLists}
use Rattle.store_soundness.specs.Accounts.{others_of, with_unbondings, not_bonded_in, holds_just, units_in, coin_totals, outstanding_in, outstanding_totals, owed_in, is_held, are_held, is_elsewhere_or_held, holds_owed}
use Rattle.store_soundness.specs.Tally.{summed, tallied}
use Rattle.store_soundness.proofs.BackingLemmas.{all_alike, just_alike, other_sum, entry_sum}
use Rattle.store_soundness.proofs.TallyLemmas.{min_low, min_again, sum_of, summed_is, sum_at, tallied_at, low_tallied, low_none, IsLow, equal_below}

-- ---- the not-bonded account

balances_low : (es : List UnbondingEntry) (total : ℕ) → total ≤ 10 ^ 38 → summed (λ (e : UnbondingEntry). e.balance) es total ≡ min (10 ^ 38) (total + entries_together es)
balances_low es total low = summed_is (λ (e : UnbondingEntry). e.balance) es total low ∙ ap (λ n. min (10 ^ 38) (total + n)) (entry_sum es)

unbonding_sum : (u : UnbondingLists) (total : ℕ) → total ≤ 10 ^ 38 → with_unbondings u total ≡ min (10 ^ 38) (total + entry_balances u)
unbonding_sum [] total low = sym (min_low (10 ^ 38) total low) ∙ ap (min (10 ^ 38)) (sym (add-zero total))
unbonding_sum (p ∷ ps) total low =
    let here = balances_low p.1 total low in
    unbonding_sum ps (summed (λ (e : UnbondingEntry). e.balance) p.1 total) (subst (λ n. n ≤ 10 ^ 38) (sym here) (min-le_left (10 ^ 38) (total + entries_together p.1)))
    ∙ ap (λ n. min (10 ^ 38) (n + entry_balances ps)) here
    ∙ min_again (10 ^ 38) (total + entries_together p.1) (entry_balances ps)
    ∙ ap (min (10 ^ 38)) (add_assoc total (entries_together p.1) (entry_balances ps) ∙ ap (λ n. total + n) (sym (sum_by-cons (λ n. n) (entries_together p.1) (map entries_together (values_of ps)))))

pub holds_other_tokens : (balances : Balances) (who : Account) (d : List ℕ) (vs : List (List ℕ × Validator)) (u : UnbondingLists)
    → holds_just balances who d (with_unbondings u (summed (λ (e : List ℕ × Validator). others_of e.1) vs 0)) ≡ holds_just balances who d (not_bonded_in vs u)
holds_other_tokens balances who d vs u =
    let others = tokens_where (λ status. not (is_bonded status)) vs in
    let tokens : summed (λ (e : List ℕ × Validator). others_of e.1) vs 0 ≡ min (10 ^ 38) others
    = summed_is (λ (e : List ℕ × Validator). others_of e.1) vs 0 (omega arith) ∙ ap (min (10 ^ 38)) (zero-add (sum_of (λ (e : List ℕ × Validator). others_of e.1) vs) ∙ other_sum vs) in
    ap (holds_just balances who d)
    (ap (with_unbondings u) tokens ∙ unbonding_sum u (min (10 ^ 38) others) (min-le_left (10 ^ 38) others) ∙ min_again (10 ^ 38) others (entry_balances u))
    ∙ just_alike balances who d (others + entry_balances u)

-- ---- the distribution account

units : (coins : Money) (d : List ℕ) → sum_at denom_cmp denom_total (λ (c : List ℕ × ℕ). c.0) (λ c. c.1) coins d ≡ units_in coins d
units [] d = refl
units (c ∷ cs) d = ap (λ n. cond (is_at (denom_cmp d) c.0) c.1 0 + n) (units cs d)

coins_at : (coins totals : Money) (d : List ℕ) → IsLow denom_cmp denom_total totals → number_at denom_cmp (coin_totals coins totals) d ≡ min (10 ^ 38) (number_at denom_cmp totals d + units_in coins d)
coins_at coins totals d low =
    tallied_at denom_cmp denom_total (λ (c : List ℕ × ℕ). c.0) (λ c. c.1) coins totals d low ∙ ap (λ n. min (10 ^ 38) (number_at denom_cmp totals d + n)) (units coins d)

coins_low : (coins totals : Money) → IsLow denom_cmp denom_total totals → IsLow denom_cmp denom_total (coin_totals coins totals)
coins_low coins totals low = low_tallied denom_cmp denom_total (λ (c : List ℕ × ℕ). c.0) (λ c. c.1) coins totals low

outstanding_at : (purses : List (List ℕ × Purse)) (totals : Money) (d : List ℕ) → IsLow denom_cmp denom_total totals
    → number_at denom_cmp (outstanding_totals purses totals) d ≡ min (10 ^ 38) (number_at denom_cmp totals d + outstanding_in purses d)
outstanding_at [] totals d low = sym (min_low (10 ^ 38) (number_at denom_cmp totals d) (low d)) ∙ ap (min (10 ^ 38)) (sym (add-zero (number_at denom_cmp totals d)))
outstanding_at (e ∷ es) totals d low =
    let n = number_at denom_cmp totals d in
    let here = units_in e.1.outstanding d in
    outstanding_at es (coin_totals e.1.outstanding totals) d (coins_low e.1.outstanding totals low)
    ∙ ap (λ m. min (10 ^ 38) (m + outstanding_in es d)) (coins_at e.1.outstanding totals d low)
    ∙ min_again (10 ^ 38) (n + here) (outstanding_in es d) ∙ ap (min (10 ^ 38)) (add_assoc n here (outstanding_in es d))

owed_at : (purses : List (List ℕ × Purse)) (pool : Money) (d : List ℕ) → number_at denom_cmp (outstanding_totals purses (coin_totals pool [])) d ≡ min (10 ^ 38) (owed_in purses pool d)
owed_at purses pool d =
    outstanding_at purses (coin_totals pool []) d (coins_low pool [] (low_none denom_cmp denom_total))
    ∙ ap (λ m. min (10 ^ 38) (m + outstanding_in purses d)) (coins_at pool [] d (low_none denom_cmp denom_total) ∙ ap (min (10 ^ 38)) (zero-add (units_in pool d)))
    ∙ min_again (10 ^ 38) (units_in pool d) (outstanding_in purses d)

within_held : (held x : ℕ) → (nat_le held (10 ^ 18) && (min (10 ^ 38) x == held * 10 ^ 18)) ≡ (nat_le held (10 ^ 18) && (x == held * 10 ^ 18))
within_held held x = by (cases_lt (10 ^ 18) held)
  where
    by : (10 ^ 18 < held) ⊎ (held ≤ 10 ^ 18) → (nat_le held (10 ^ 18) && (min (10 ^ 38) x == held * 10 ^ 18)) ≡ (nat_le held (10 ^ 18) && (x == held * 10 ^ 18))
    by (inl high) =
        let over : nat_le held (10 ^ 18) ≡ false = grind (arith, nat_tests) in
        ap (λ b. b && (min (10 ^ 38) x == held * 10 ^ 18)) over ∙ sym (ap (λ b. b && (x == held * 10 ^ 18)) over)
    by (inr low) =
        let below : held * 10 ^ 18 < 10 ^ 38 = omega arith in
        ap (λ b. nat_le held (10 ^ 18) && b) (equal_below (held * 10 ^ 18) x below)

held_alike : (balances : Balances) (d : List ℕ) (x : ℕ) → is_held balances d (min (10 ^ 38) x) ≡ is_held balances d x
held_alike balances d x = within_held (number_at place_cmp balances (account.Module holder.Distribution, d)) x

pub owed_alike : (balances : Balances) (purses : List (List ℕ × Purse)) (pool owed : Money) → owed ≡ outstanding_totals purses (coin_totals pool [])
    → holds_owed balances (number_at denom_cmp owed) purses pool ≡ holds_owed balances (owed_in purses pool) purses pool
owed_alike balances purses pool owed is =
    let f = number_at denom_cmp owed in
    let g = owed_in purses pool in
    let same : (d : List ℕ) → is_held balances d (f d) ≡ is_held balances d (g d)
    = λ d. ap (is_held balances d) (ap (λ (t : Money). number_at denom_cmp t d) is ∙ owed_at purses pool d) ∙ held_alike balances d (g d) in
    let coins : (cs : Money) → are_held balances f cs ≡ are_held balances g cs
    = λ cs. all_alike (λ (c : List ℕ × ℕ). is_held balances c.0 (f c.0)) (λ c. is_held balances c.0 (g c.0)) (λ c. same c.0) cs in
    let all : list_all (λ (e : (Account × List ℕ) × ℕ). is_elsewhere_or_held balances f e.0) balances ≡ list_all (λ (e : (Account × List ℕ) × ℕ). is_elsewhere_or_held balances g e.0) balances
    = all_alike (λ (e : (Account × List ℕ) × ℕ). is_elsewhere_or_held balances f e.0) (λ e. is_elsewhere_or_held balances g e.0)
    (λ e. ap (λ b. not (is_at (account_cmp (account.Module holder.Distribution)) e.0.0) || b) (same e.0.1)) balances in
    let out : list_all (λ (e : List ℕ × Purse). are_held balances f e.1.outstanding) purses ≡ list_all (λ (e : List ℕ × Purse). are_held balances g e.1.outstanding) purses
    = all_alike (λ (e : List ℕ × Purse). are_held balances f e.1.outstanding) (λ e. are_held balances g e.1.outstanding) (λ e. coins e.1.outstanding) purses in
    ap (λ b. b && list_all (λ (e : List ℕ × Purse). are_held balances f e.1.outstanding) purses && are_held balances f pool) all
    ∙ ap (λ b. list_all (λ (e : (Account × List ℕ) × ℕ). is_elsewhere_or_held balances g e.0) balances && b && are_held balances f pool) out
    ∙ ap (λ b. list_all (λ (e : (Account × List ℕ) × ℕ). is_elsewhere_or_held balances g e.0) balances && list_all (λ (e : List ℕ × Purse). are_held balances g e.1.outstanding) purses && b) (coins pool)
