-- What the accounts of a genesis hold is in order, and backed where there is not too much.
use Rattle.std.proofs.Common.{◌≡◌, ◌∙◌, ℕ, ◌+◌, ◌^◌, ◌≤◌, ◌<◌, Bool, true, false, cond, nat_lt, List, [], ◌∷◌, Option, Some, refl, sym, ap, arith, All, ◌||◌, unwrap_or, Ordering, Less, Equal, Greater, nat_cmp, is_eq}
use Rattle.std.proofs.lemmas.{Bool.Decides.nat_tests, List.Elements.All-nil, Map.Text.is_eq-slice_cmp}
use Rattle.std.{proofs.lemmas.Slice.Eq.bytes_eq-Decides, specs.{Ordering.ordering_then, Cmp.Lexicographic.slice_cmp}}
use Rattle.std.specs.{BTreeMap.is_at, List.Sorted.IsStrictlySortedBy, Map.{keys_of, lookup}}
use Rattle.base_types.specs.{declared.account.Account.Account, Orders.{account_cmp, denom_cmp}}
use Rattle.base_coins.specs.Coins.{Money, amount_of, with_amount}
use Rattle.base_roles.specs.{Entries.{number_at, with_number, sum_where}, Holdings.{Balances, IsBacked}}
use Rattle.base_roles.specs.Orders.{place_cmp}
use Rattle.base_roles.proofs.EntryLemmas.{number-after, ascend-after, positive-after, sum-after, Respects}
use Rattle.base_roles.proofs.HoldingLemmas.{place_total, denom_total, of_denom}
use Rattle.base_messages.specs.declared.genesis.GenesisAccount.{GenesisAccount}
use Rattle.rule_machine.specs.Genesis.{with_coins, balances_with, coins_joined, supplies_with, held_at_start, has_too_much}

-- ---- what a genesis gives

-- balances and supplies in order, each supply the sum of its balances
pub record Summed (b : Balances) (s : Money) : Type 0 where
  pub balances_ascend : IsStrictlySortedBy place_cmp (keys_of b)
  pub balances_positive : All (λ e. 0 < e.1) b
  pub supplies_ascend : IsStrictlySortedBy denom_cmp (keys_of s)
  pub supplies_positive : All (λ c. 0 < c.1) s
  pub held : (d : List ℕ) → amount_of s d ≡ sum_where (of_denom d) b

same_list : (a b : List ℕ) → slice_cmp nat_cmp a b ≡ Equal → a ≡ b
same_list a b e = (bytes_eq-Decides a b).0 (sym (is_eq-slice_cmp a b) ∙ ap is_eq e)

then_second : (r s : Ordering) → ordering_then r s ≡ Equal → s ≡ Equal
then_second Equal s e = e
then_second Less s e = absurd cc
then_second Greater s e = absurd cc

of_denom-respects : (d : List ℕ) → Respects place_cmp place_total (of_denom d)
of_denom-respects d k x e = ap (λ e. is_at (denom_cmp d) e) (sym (same_list k.1 x.1 (then_second (account_cmp k.0 x.0) (denom_cmp k.1 x.1) e)))

none_summed : Summed [] []
unfolding IsStrictlySortedBy
none_summed = record { balances_ascend = tt; balances_positive = All-nil (λ (e : (Account × List ℕ) × ℕ). 0 < e.1); supplies_ascend = tt; supplies_positive = All-nil (λ (c : List ℕ × ℕ). 0 < c.1); held = λ d. refl }

same_amount : (s : Money) (e d : List ℕ) → is_at (denom_cmp e) d ≡ true → amount_of s e ≡ amount_of s d
same_amount s e d p = ap (λ x. amount_of s x) ((bytes_eq-Decides e d).0 (sym (is_eq-slice_cmp e d) ∙ p))

grown : (b : Bool) (total total2 supply s held n : ℕ) → (b ≡ true → supply ≡ s) → supply ≡ total → total2 + cond b held 0 ≡ total + cond b (held + n) 0 → cond b (s + n) supply ≡ total2
grown true total total2 supply s held n same e f = let k : supply ≡ s = same refl in omega (arith, k, e, f)
grown false total total2 supply s held n same e f = omega (arith, e, f)

coin_summed : (who : Account) (d : List ℕ) (n : ℕ) (b : Balances) (s : Money) → Summed b s
    → Summed (with_number place_cmp b (who, d) (number_at place_cmp b (who, d) + n)) (with_amount s d (amount_of s d + n))
coin_summed who d n b s x = record {
  balances_ascend = ascend-after place_cmp place_total b (who, d) (number_at place_cmp b (who, d) + n) x.balances_ascend;
  balances_positive = positive-after place_cmp place_total b (who, d) (number_at place_cmp b (who, d) + n) x.balances_positive;
  supplies_ascend = ascend-after denom_cmp denom_total s d (amount_of s d + n) x.supplies_ascend;
  supplies_positive = positive-after denom_cmp denom_total s d (amount_of s d + n) x.supplies_positive;
  held = λ e. number-after denom_cmp denom_total s d e (amount_of s d + n) x.supplies_ascend
      ∙ grown (is_at (denom_cmp e) d) (sum_where (of_denom e) b) _ (amount_of s e) (amount_of s d) (number_at place_cmp b (who, d)) n (same_amount s e d) (x.held e)
      (sum-after place_cmp place_total (of_denom e) (who, d) (number_at place_cmp b (who, d) + n) b (of_denom-respects e) x.balances_ascend);
}

coins_summed : (who : Account) (coins : Money) (b : Balances) (s : Money) → Summed b s → Summed (with_coins who coins b) (coins_joined coins s)
coins_summed who [] b s x = x
coins_summed who (c ∷ cs) b s x = coins_summed who cs (with_number place_cmp b (who, c.0) (number_at place_cmp b (who, c.0) + c.1)) (with_amount s c.0 (amount_of s c.0 + c.1)) (coin_summed who c.0 c.1 b s x)

accounts_summed : (accounts : List GenesisAccount) (b : Balances) (s : Money) → Summed b s → Summed (balances_with accounts b) (supplies_with accounts s)
accounts_summed [] b s x = x
accounts_summed (a ∷ accounts) b s x = accounts_summed accounts (with_coins a.address a.coins b) (coins_joined a.coins s) (coins_summed a.address a.coins b s x)

-- what accounts hold is in order, whatever they are
pub held_summed : (accounts : List GenesisAccount) → Summed (balances_with accounts []) (supplies_with accounts [])
held_summed accounts = accounts_summed accounts [] [] none_summed

within_by : (at : Bool) (n most : ℕ) (rest : Option ℕ) → n ≤ most → unwrap_or rest 0 ≤ most → unwrap_or (cond at (Some n) rest) 0 ≤ most
within_by true n most rest a b = a
within_by false n most rest a b = b

-- no amount is above the most that there may be
pub amount_within : (s : Money) (d : List ℕ) → has_too_much s ≡ false → amount_of s d ≤ 10 ^ 18
amount_within [] d e = omega arith
amount_within (c ∷ cs) d e = within_by (is_at (denom_cmp d) c.0) c.1 (10 ^ 18) (lookup (is_at (denom_cmp d)) cs) (first c.1 (has_too_much cs) e) (amount_within cs d (later (nat_lt (10 ^ 18) c.1) (has_too_much cs) e))
  where
    first : (n : ℕ) (b : Bool) → (nat_lt (10 ^ 18) n || b) ≡ false → n ≤ 10 ^ 18
    first n b h = grind (arith, nat_tests)

    later : (a b : Bool) → (a || b) ≡ false → b ≡ false
    later true b h = absurd cc
    later false b h = h

-- what the accounts of a genesis hold, where there is not too much, is backed
pub held_backed : (accounts : List GenesisAccount) → has_too_much (supplies_with accounts []) ≡ false → IsBacked (held_at_start accounts)
held_backed accounts e = let x : Summed (balances_with accounts []) (supplies_with accounts []) = held_summed accounts in record {
  balances_ascend = x.balances_ascend;
  balances_positive = x.balances_positive;
  supplies_ascend = x.supplies_ascend;
  supplies_positive = x.supplies_positive;
  backed = x.held;
  bounded = λ d. amount_within (supplies_with accounts []) d e;
}
