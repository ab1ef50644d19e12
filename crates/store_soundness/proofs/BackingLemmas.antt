-- Totals up to 10^38 serve as well as whole ones in the tests of supplies, shares, accounts and counts.
use Rattle.std.proofs.Common.{◌≡◌, ◌∙◌, ℕ, ◌+◌, ◌-◌, ◌*◌, ◌^◌, ◌≤◌, ◌<◌, Bool, true, false, cond, not, List, [], ◌∷◌, map, refl, sym, ap, subst, inl, inr, arith, zero-add, ◌⊎◌, ◌==◌, ◌&&◌, min, nat_le, nat_lt, if◌then◌else◌}
use Rattle.std.{proofs.lemmas.{Bool.{cases_lt, Decides.nat_tests}, List.Sums.sum_by-cons}, specs.BTreeMap.is_at}
use Rattle.std.specs.List.{list_all}
use Rattle.base_types.specs.declared.{account.Account.Account, status.BondStatus.BondStatus}
use Rattle.base_types.specs.Orders.{addr_cmp, denom_cmp}
use Rattle.base_coins.specs.Coins.{Money}
use Rattle.base_roles.specs.declared.entities.{Purse.Purse, UnbondingEntry.UnbondingEntry, Validator.Validator}
use Rattle.base_roles.specs.{Entries.{number_at, sum_where}, Holdings.Balances, Orders.place_cmp}
use Rattle.base_roles.{specs.{Staked.{is_bonded, tokens_where}, Ranges.is_within}, proofs.HoldingLemmas.denom_total}
use Rattle.rule_modules.specs.{Owed.{balances_of as entries_together, entry_balances}, Unbondings.UnbondingLists}
use Rattle.rule_modules.proofs.OrderLemmas.{addr_total}
use Rattle.store_soundness.specs.Accounts.{bonded_of, others_of, with_unbondings, not_bonded_in, holds_just, is_elsewhere_or, units_in, coin_totals, outstanding_in, outstanding_totals, owed_in, is_held, are_held, is_elsewhere_or_held, holds_owed}
use Rattle.store_soundness.specs.Ranges.{balances_of, balance_totals, is_supply_sound, are_supplies_sound}
use Rattle.store_soundness.specs.Shares.{shares_of, share_totals, is_total, have_shares}
use Rattle.store_soundness.specs.Tally.{summed, tallied, up_to_most, AreNumbers}
use Rattle.store_soundness.proofs.TallyLemmas.{min_low, min_high, sum_of, summed_is, sum_at, tallied_at, low_tallied, low_none, numbers_of, equal_below, within_below}

-- two tests that agree at each element agree on lists
pub all_alike : {A : Type 0} (p q : A → Bool) → ((x : A) → p x ≡ q x) → (xs : List A) → list_all p xs ≡ list_all q xs
all_alike p q h [] = refl
all_alike p q h (x ∷ xs) = ap (λ b. b && list_all p xs) (h x) ∙ ap (λ b. q x && b) (all_alike p q h xs)

-- ---- supplies

held_at : (balances : Balances) (d : List ℕ) → sum_at denom_cmp denom_total (λ (e : (Account × List ℕ) × ℕ). e.0.1) (λ e. e.1) balances d ≡ balances_of balances d
held_at [] d = refl
held_at (e ∷ es) d = ap (λ n. cond (is_at (denom_cmp d) e.0.1) e.1 0 + n) (held_at es d)

supply_alike : (n x : ℕ) → is_supply_sound n (min (10 ^ 38) x) ≡ is_supply_sound n x
supply_alike n x = by (cases_lt n (10 ^ 38))
  where
    by : (n < 10 ^ 38) ⊎ (10 ^ 38 ≤ n) → is_supply_sound n (min (10 ^ 38) x) ≡ is_supply_sound n x
    by (inl low) = ap (λ b. is_within 1 (10 ^ 18) n && b) (equal_below n x low)
    by (inr high) =
        let over : is_within 1 (10 ^ 18) n ≡ false = grind (arith, nat_tests) in
        ap (λ b. b && (min (10 ^ 38) x == n)) over ∙ sym (ap (λ b. b && (x == n)) over)

pub supplied : (balances : Balances) (supplies totals : Money) → totals ≡ balance_totals balances [] → are_supplies_sound (number_at denom_cmp totals) supplies ≡ are_supplies_sound (balances_of balances) supplies
supplied balances supplies totals is =
    ap (λ (t : Money). are_supplies_sound (number_at denom_cmp t) supplies) is
    ∙ all_alike (λ (c : List ℕ × ℕ). is_supply_sound c.1 (number_at denom_cmp (balance_totals balances []) c.0)) (λ c. is_supply_sound c.1 (balances_of balances c.0))
    (λ c. ap (is_supply_sound c.1) (numbers_of denom_cmp denom_total (λ (e : (Account × List ℕ) × ℕ). e.0.1) (λ e. e.1) balances c.0)
    ∙ supply_alike c.1 (sum_at denom_cmp denom_total (λ (e : (Account × List ℕ) × ℕ). e.0.1) (λ e. e.1) balances c.0) ∙ ap (is_supply_sound c.1) (held_at balances c.0)) supplies

-- ---- shares

delegated_at : (delegations : List ((List ℕ × List ℕ) × ℕ)) (o : List ℕ) → sum_at addr_cmp addr_total (λ (e : (List ℕ × List ℕ) × ℕ). e.0.0) (λ e. e.1) delegations o ≡ shares_of delegations o
delegated_at [] o = refl
delegated_at (e ∷ es) o = ap (λ n. cond (is_at (addr_cmp o) e.0.0) e.1 0 + n) (delegated_at es o)

total_alike : (n x : ℕ) → is_total (min (10 ^ 38) x) n ≡ is_total x n
total_alike n x = by (cases_lt n (10 ^ 38))
  where
    by : (n < 10 ^ 38) ⊎ (10 ^ 38 ≤ n) → is_total (min (10 ^ 38) x) n ≡ is_total x n
    by (inl low) = ap (λ b. nat_lt n (10 ^ 38) && b) (equal_below n x low)
    by (inr high) =
        let over : nat_lt n (10 ^ 38) ≡ false = grind (arith, nat_tests) in
        ap (λ b. b && (min (10 ^ 38) x == n)) over ∙ sym (ap (λ b. b && (x == n)) over)

pub delegated : (delegations : List ((List ℕ × List ℕ) × ℕ)) (validators : List (List ℕ × Validator)) (totals : List (List ℕ × ℕ)) → totals ≡ share_totals delegations []
    → have_shares (number_at addr_cmp totals) validators ≡ have_shares (shares_of delegations) validators
delegated delegations validators totals is =
    ap (λ (t : List (List ℕ × ℕ)). have_shares (number_at addr_cmp t) validators) is
    ∙ all_alike (λ (e : List ℕ × Validator). is_total (number_at addr_cmp (share_totals delegations []) e.0) e.1.shares) (λ e. is_total (shares_of delegations e.0) e.1.shares)
    (λ e. ap (λ n. is_total n e.1.shares) (numbers_of addr_cmp addr_total (λ (d : (List ℕ × List ℕ) × ℕ). d.0.0) (λ d. d.1) delegations e.0)
    ∙ total_alike e.1.shares (sum_at addr_cmp addr_total (λ (d : (List ℕ × List ℕ) × ℕ). d.0.0) (λ d. d.1) delegations e.0) ∙ ap (λ n. is_total n e.1.shares) (delegated_at delegations e.0)) validators

-- ---- the staking accounts

pub just_alike : (balances : Balances) (who : Account) (d : List ℕ) (x : ℕ) → holds_just balances who d (min (10 ^ 38) x) ≡ holds_just balances who d x
just_alike balances who d x = by (cases_lt (10 ^ 38) x)
  where
    rest : Bool
    rest = list_all (λ e. is_elsewhere_or who d e.0) balances

    by : (10 ^ 38 < x) ⊎ (x ≤ 10 ^ 38) → holds_just balances who d (min (10 ^ 38) x) ≡ holds_just balances who d x
    by (inl high) =
        let over : nat_le x (10 ^ 18) ≡ false = grind (arith, nat_tests) in
        ap (λ b. b && (number_at place_cmp balances (who, d) == min (10 ^ 38) x) && list_all (λ e. is_elsewhere_or who d e.0) balances) (within_below x ∙ over)
        ∙ sym (ap (λ b. b && (number_at place_cmp balances (who, d) == x) && list_all (λ e. is_elsewhere_or who d e.0) balances) over)
    by (inr low) = ap (holds_just balances who d) (min_low (10 ^ 38) x low)

bonded_sum : (vs : List (List ℕ × Validator)) → sum_of (λ (e : List ℕ × Validator). bonded_of e.1) vs ≡ tokens_where is_bonded vs
bonded_sum [] = refl
bonded_sum (e ∷ es) = ap (λ n. bonded_of e.1 + n) (bonded_sum es)

not_then : (b : Bool) (n : ℕ) → (if b then 0 else n) ≡ (if not b then n else 0)
not_then true n = refl
not_then false n = refl

pub other_sum : (vs : List (List ℕ × Validator)) → sum_of (λ (e : List ℕ × Validator). others_of e.1) vs ≡ tokens_where (λ status. not (is_bonded status)) vs
other_sum [] = refl
other_sum (e ∷ es) = ap (λ n. n + sum_of (λ (d : List ℕ × Validator). others_of d.1) es) (not_then (is_bonded e.1.status) e.1.tokens) ∙ ap (λ n. (if not (is_bonded e.1.status) then e.1.tokens else 0) + n) (other_sum es)

pub holds_bonded_tokens : (balances : Balances) (who : Account) (d : List ℕ) (vs : List (List ℕ × Validator)) → holds_just balances who d (summed (λ (e : List ℕ × Validator). bonded_of e.1) vs 0) ≡ holds_just balances who d (tokens_where is_bonded vs)
holds_bonded_tokens balances who d vs =
    ap (holds_just balances who d) (summed_is (λ (e : List ℕ × Validator). bonded_of e.1) vs 0 (omega arith) ∙ ap (min (10 ^ 38)) (zero-add (sum_of (λ (e : List ℕ × Validator). bonded_of e.1) vs) ∙ bonded_sum vs))
    ∙ just_alike balances who d (tokens_where is_bonded vs)

pub entry_sum : (es : List UnbondingEntry) → sum_of (λ (e : UnbondingEntry). e.balance) es ≡ entries_together es
entry_sum [] = refl
entry_sum (e ∷ es) = ap (λ n. e.balance + n) (entry_sum es) ∙ sym (sum_by-cons (λ n. n) e.balance (map (λ (x : UnbondingEntry). x.balance) es))
