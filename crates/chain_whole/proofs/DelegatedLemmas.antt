-- What is delegated at the start, and how much there is of each denomination with it.
use Rattle.std.proofs.Common.{◌≡◌, ◌∙◌, ℕ, ◌+◌, ◌^◌, ◌≤◌, ◌<◌, Bool, true, false, cond, nat_lt, List, [], ◌∷◌, ◌++◌, map, drop, Option, Some, None, refl, sym, ap, subst, arith, ◌==◌, sum, IsSome, MatchOption, true≢false}
use Rattle.std.{specs.{BTreeMap.{is_at, insert_entry}, Map.remove_entry}, proofs.lemmas.Bool.Decides.nat_tests}
use Rattle.base_types.specs.Orders.{denom_cmp}
use Rattle.base_coins.specs.Coins.{Money, IsMoney, amount_of, with_amount, coin_then, sorted_coins}
use Rattle.base_coins.proofs.Order.{money_from_rises, money-nil}
use Rattle.base_messages.specs.declared.genesis.{Genesis.Genesis, GenesisAccount.GenesisAccount}
use Rattle.base_messages.specs.declared.genesis.GenesisDelegation.{GenesisDelegation}
use Rattle.rule_machine.specs.Genesis.{coins_joined, supplies_with}
use Rattle.rule_machine.specs.GenesisConditions.{delegated_coins, accounts_at_start, start_condition}
use Rattle.rule_machine.proofs.StartLemmas.{may_start}
use Rattle.chain_whole.specs.Supplies.{IsLow, IsHigh}
use Rattle.chain_whole.proofs.SupplyLemmas.{Ascend, joined, amount-joined, at_same, same_denom, grows, ascend-nil, ascend_accounts, low_joined, too_much}

-- ---- the sum of what is delegated

abbrev pub amounts : List GenesisDelegation → ℕ
amounts ds = sum (map (λ d. d.amount) ds)

-- the total is of the delegations before this place, and there may be so much
pub record TotalSoFar (ds : List GenesisDelegation) (place total : ℕ) : Type 0 where
  pub rest : total + amounts (drop place ds) ≡ amounts ds
  pub most : total ≤ 10 ^ 18

-- ---- the supplies with it

supplies-last : (accounts : List GenesisAccount) (a : GenesisAccount) (s : Money) → supplies_with (accounts ++ a ∷ []) s ≡ coins_joined a.coins (supplies_with accounts s)
supplies-last [] a s = refl
supplies-last (x ∷ accounts) a s = supplies-last accounts a (coins_joined x.coins s)

coin-joined_if : (b : Bool) (d : List ℕ) (n : ℕ) (s : Money) → coins_joined (cond b [] ((d, n) ∷ [])) s ≡ cond b s (joined s d n)
coin-joined_if true d n s = refl
coin-joined_if false d n s = refl

-- the supplies of the accounts alone
abbrev pub of_accounts : Genesis → Money
of_accounts g = supplies_with g.accounts []

-- the supplies with what is delegated
abbrev pub at_start : Genesis → Money
at_start g = supplies_with (accounts_at_start g) []

at_start_is : (g : Genesis) → at_start g ≡ cond (amounts g.delegations == 0) (of_accounts g) (joined (of_accounts g) g.params.bond_denom (amounts g.delegations))
at_start_is g = supplies-last g.accounts _ [] ∙ coin-joined_if (amounts g.delegations == 0) g.params.bond_denom (amounts g.delegations) (of_accounts g)

not_zero : (n : ℕ) → 0 < n → (n == 0) ≡ false
not_zero n p = grind (arith, nat_tests)

pub start_none : (g : Genesis) → amounts g.delegations ≡ 0 → at_start g ≡ of_accounts g
start_none g e = at_start_is g ∙ ap (λ n. cond (n == 0) (of_accounts g) (joined (of_accounts g) g.params.bond_denom n)) e

start_some : (g : Genesis) → 0 < amounts g.delegations → at_start g ≡ joined (of_accounts g) g.params.bond_denom (amounts g.delegations)
start_some g p = at_start_is g ∙ ap (λ b. cond b (of_accounts g) (joined (of_accounts g) g.params.bond_denom (amounts g.delegations))) (not_zero (amounts g.delegations) p)

ascends : (g : Genesis) → Ascend (of_accounts g)
ascends g = ascend_accounts g.accounts [] ascend-nil

bond_at_start : (g : Genesis) → 0 < amounts g.delegations → amount_of (at_start g) g.params.bond_denom ≡ amount_of (of_accounts g) g.params.bond_denom + amounts g.delegations
bond_at_start g p =
    let d = g.params.bond_denom in
    ap (λ s. amount_of s d) (start_some g p)
    ∙ amount-joined (of_accounts g) d (amounts g.delegations) d (ascends g)
    ∙ at_same (is_at (denom_cmp d) d) (same_denom d) (amount_of (of_accounts g) d + amounts g.delegations) (amount_of (of_accounts g) d)

-- too much is delegated
pub high_delegated : (g : Genesis) → 10 ^ 18 < amounts g.delegations → IsHigh (at_start g)
high_delegated g more = let bond = bond_at_start g (omega (arith, more)) in (g.params.bond_denom, omega (arith, bond, more))

-- the accounts have too much already
pub high_accounts : (g : Genesis) → IsHigh (of_accounts g) → IsHigh (at_start g)
high_accounts g high =
    let grown = grows (delegated_coins g) (of_accounts g) high.0 (ascends g) in
    let more : 10 ^ 18 < amount_of (of_accounts g) high.0 = high.1 in
    subst IsHigh (sym (supplies-last g.accounts _ [])) (high.0, omega (arith, grown, more))

-- both together are too much of the bond denomination
pub high_together : (g : Genesis) (s : Money) (n : ℕ) → s ≡ of_accounts g → n ≡ amounts g.delegations → 0 < n → 10 ^ 18 < amount_of s g.params.bond_denom + n → IsHigh (at_start g)
high_together g s n e f p more =
    let same : amount_of s g.params.bond_denom ≡ amount_of (of_accounts g) g.params.bond_denom = ap (λ x. amount_of x g.params.bond_denom) e in
    let bond = bond_at_start g (omega (arith, f, p)) in
    (g.params.bond_denom, omega (arith, bond, more, same, f))

-- both together are not too much
pub low_together : (g : Genesis) (s s2 : Money) (n : ℕ) → s ≡ of_accounts g → IsLow s → n ≡ amounts g.delegations → 0 < n → s2 ≡ with_amount s g.params.bond_denom (amount_of s g.params.bond_denom + n) → amount_of s g.params.bond_denom + n ≤ 10 ^ 18
    → (s2 ≡ at_start g) × IsLow s2
low_together g s s2 n e low f p is le = (
  is ∙ ap (λ x. joined x g.params.bond_denom n) e ∙ ap (λ k. joined (of_accounts g) g.params.bond_denom k) f ∙ sym (start_some g (omega (arith, f, p))),
  subst IsLow (sym is) (low_joined s g.params.bond_denom n low le),
)

-- nothing is delegated
pub low_alone : (g : Genesis) (s : Money) (n : ℕ) → s ≡ of_accounts g → IsLow s → n ≡ amounts g.delegations → n ≡ 0 → (s ≡ at_start g) × IsLow s
low_alone g s n e low f z = (e ∙ sym (start_none g (sym f ∙ z)), low)

-- ---- what is delegated where no condition holds

-- a test that fails
by_test : {P : Type 0} (b : Bool) → (b ≡ true → P) → (b ≡ false → P) → P
by_test true f g = f refl
by_test false f g = g refl

pub delegated_most : (g : Genesis) → start_condition g ≡ None → amounts g.delegations ≤ 10 ^ 18
delegated_most g e = by_test (nat_lt (10 ^ 18) (amounts g.delegations))
    (λ t. absurd (true≢false (sym (too_much (at_start g) (high_delegated g (below (amounts g.delegations) t))) ∙ (may_start g e).not_too_much)))
    (λ f. not_below (amounts g.delegations) f)
  where
    below : (n : ℕ) → nat_lt (10 ^ 18) n ≡ true → 10 ^ 18 < n
    below n t = grind (arith, nat_tests)

    not_below : (n : ℕ) → nat_lt (10 ^ 18) n ≡ false → n ≤ 10 ^ 18
    not_below n f = grind (arith, nat_tests)

pub total_known : (Q : ℕ → Type 0) (o : Option ℕ) (n : ℕ) → MatchOption o (10 ^ 18 < n) Q → n ≤ 10 ^ 18 → IsSome o
total_known Q None n m le = absurd (omega (arith, m, le))
total_known Q (Some x) n m le = refl

one_coin_if : (b : Bool) (d : List ℕ) (n : ℕ) → cond b (remove_entry (is_at (denom_cmp d)) []) (insert_entry denom_cmp [] d n) ≡ cond b [] ((d, n) ∷ [])
one_coin_if true d n = refl
one_coin_if false d n = refl

-- one coin in its place
pub one_coin : (d : List ℕ) (n : ℕ) → sorted_coins ((d, n) ∷ []) ≡ coin_then d n []
one_coin d n = one_coin_if (n == 0) d n

pub one_money : (d : List ℕ) (n : ℕ) → n ≤ 10 ^ 18 → IsMoney (coin_then d n [])
one_money d n le = by_test (n == 0)
    (λ t. subst (λ b. IsMoney (cond b [] ((d, n) ∷ []))) (sym t) money-nil)
    (λ f. subst (λ b. IsMoney (cond b [] ((d, n) ∷ []))) (sym f) (money_from_rises ((d, n) ∷ []) (tt, positive n f, omega (arith, le), tt)))
  where
    positive : (k : ℕ) → (k == 0) ≡ false → 0 < k
    positive k f = grind (arith, nat_tests)
