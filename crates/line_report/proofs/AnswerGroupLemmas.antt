-- The groups that are asked for are those of the report, as far as they belong to an address.
use Rattle.std.proofs.Common.{◌≡◌, ◌∙◌, sym, ℕ, List, [], ◌∷◌, ◌++◌, filter, Bool, true, false, true≢false, cond, Some, None, refl, ap, subst, unwrap_or, Less, filter_map, is_eq}
use Rattle.std.specs.{BTreeMap.is_at, List.{AllByRecursion, Sorted.IsStrictlySortedBy}, Map.{keys_of, values_of}}
use Rattle.std.proofs.lemmas.Map.{Entries.lookup-filter-keys, Keys.{sorted_head, sorted_tail}, Lookups.exact_bytes}
use Rattle.base_types.specs.{declared.account.Account.Account, Accounts.account_bytes, Orders.{account_cmp, addr_cmp}}
use Rattle.base_types.proofs.MapLemmas.{equal}
use Rattle.base_coins.specs.Coins.{Money}
use Rattle.base_roles.specs.{declared.{entities.{Purse.Purse, Validator.Validator}, items.Item.Item}, Holdings.Balances}
use Rattle.base_roles.{specs.{Items.no_purse, Orders.{pair_cmp, place_cmp}}, proofs.HoldingLemmas.place_total}
use Rattle.base_roles.specs.declared.items.Item.TheVariants as item
use Rattle.base_messages.specs.declared.report.Pending.{Pending}
use Rattle.rule_machine.specs.{Report.{accounts_in, is_same_account, joined}, Orders.in_order}
use Rattle.line_report.specs.Groups.{accounts_of, delegations_of, pending_of, purse_at, purses_of, redelegations_of, signing_of, unbondings_of, validators_of, with_purses}
use Rattle.line_report.specs.Telling.{Asked, balance_in, delegation_in, is_asked, pending_in, purse_in, redelegation_in, signing_in, unbonding_in, validator_in}
use Rattle.line_report.proofs.AccountOrderLemmas.{BehindFirst, behind_itself, behind_head, not_before}
use Rattle.line_report.proofs.AskedLemmas.{asked, asked_in_order, holds_in_order, holds_of_told}
use Rattle.line_report.proofs.EntryLemmas.{ascend_in_order}
use Rattle.line_report.proofs.TotalLemmas.{account_exact, addr_total, pair_exact, pair_total, place_exact, triple_exact, triple_total}

-- ---- accounts

-- none of these is the account
abbrev Apart : Account → List (Account × Money) → Type 0
Apart who accounts = AllByRecursion (λ a. is_same_account who a.0 ≡ false) accounts

-- none behind the first is
abbrev ApartBehind : Account → List (Account × Money) → Type 0
ApartBehind who [] = Unit {0}
ApartBehind who (a ∷ accounts) = Apart who accounts

apart_from_behind : (who : Account) (accounts : List (Account × Money)) → BehindFirst who accounts → ApartBehind who accounts
apart_from_behind who [] h = tt
apart_from_behind who (a ∷ accounts) h = by accounts h
  where
    by : (more : List (Account × Money)) → AllByRecursion (λ o. account_cmp who o.0 ≡ Less) more → Apart who more
    by [] h = tt
    by (other ∷ more) h = (ap is_eq h.0, by more h.1)

gathered_apart : (b : (Account × List ℕ) × ℕ) (bs : Balances) → IsStrictlySortedBy place_cmp (keys_of (b ∷ bs)) → ApartBehind b.0.0 (accounts_in bs)
gathered_apart b [] s = tt
gathered_apart b (c ∷ cs) s =
    let later = sorted_tail place_cmp b.0 (keys_of (c ∷ cs)) s in
    let first = not_before b.0 (c ∷ cs) (sorted_head place_cmp b.0 (keys_of (c ∷ cs)) s) in
    apart_from_behind b.0.0 (accounts_in (c ∷ cs)) (behind_head b.0.0 c.0.0 (accounts_in (c ∷ cs)) first.0 (behind_itself c cs later))

module _ (P : Account → Bool) where
  abbrev kept : List (Account × Money) → List (Account × Money)
  kept accounts = filter (λ a. P a.0) accounts

  apart_kept : (who : Account) (accounts : List (Account × Money)) → Apart who accounts → Apart who (kept accounts)
  apart_kept who [] h = tt
  apart_kept who (a ∷ accounts) h = by (P a.0) (apart_kept who accounts h.1)
    where
      by : (b : Bool) → Apart who (kept accounts) → Apart who (cond b (a ∷ kept accounts) (kept accounts))
      by true later = (h.0, later)
      by false later = later

  joined_in_front : (who : Account) (coins : Money) (accounts : List (Account × Money)) → Apart who accounts → joined who coins accounts ≡ (who, coins) ∷ accounts
  joined_in_front who coins [] h = refl
  joined_in_front who coins (a ∷ accounts) h = ap (λ t. cond t ((who, coins ++ a.1) ∷ accounts) ((who, coins) ∷ a ∷ accounts)) h.0

  joined_kept : (who : Account) (coins : Money) (accounts : List (Account × Money)) → P who ≡ true → ApartBehind who accounts → joined who coins (kept accounts) ≡ kept (joined who coins accounts)
  joined_kept who coins [] y h = ap (λ t. cond t ((who, coins) ∷ []) []) (sym y)
  joined_kept who coins (a ∷ accounts) y h = by (is_same_account who a.0) refl (P a.0) refl
    where
      by : (t : Bool) → is_same_account who a.0 ≡ t → (p : Bool) → P a.0 ≡ p
          → joined who coins (cond p (a ∷ kept accounts) (kept accounts)) ≡ kept (cond t ((who, coins ++ a.1) ∷ accounts) ((who, coins) ∷ a ∷ accounts))
      by true e true p =
          ap (λ t. cond t ((who, coins ++ a.1) ∷ kept accounts) ((who, coins) ∷ a ∷ kept accounts)) e
          ∙ ap (λ t. cond t ((who, coins ++ a.1) ∷ kept accounts) (kept accounts)) (sym y)
      by true e false p = absurd (true≢false (sym y ∙ (ap P (account_exact who a.0 (equal (account_cmp who a.0) e)) ∙ p)))
      by false e true p =
          ap (λ t. cond t ((who, coins ++ a.1) ∷ kept accounts) ((who, coins) ∷ a ∷ kept accounts)) e
          ∙ (ap (λ t. cond t ((who, coins) ∷ a ∷ kept accounts) (a ∷ kept accounts)) (sym y)
          ∙ ap (λ q. cond (P who) ((who, coins) ∷ cond q (a ∷ kept accounts) (kept accounts)) (cond q (a ∷ kept accounts) (kept accounts))) (sym p))
      by false e false p =
          joined_in_front who coins (kept accounts) (apart_kept who accounts h)
          ∙ (ap (λ t. cond t ((who, coins) ∷ kept accounts) (kept accounts)) (sym y)
          ∙ ap (λ q. cond (P who) ((who, coins) ∷ cond q (a ∷ kept accounts) (kept accounts)) (cond q (a ∷ kept accounts) (kept accounts))) (sym p))

  left_out : (who : Account) (coins : Money) (accounts : List (Account × Money)) → P who ≡ false → kept accounts ≡ kept (joined who coins accounts)
  left_out who coins [] n = ap (λ t. cond t ((who, coins) ∷ []) []) (sym n)
  left_out who coins (a ∷ accounts) n = by (is_same_account who a.0) refl
    where
      by : (t : Bool) → is_same_account who a.0 ≡ t → cond (P a.0) (a ∷ kept accounts) (kept accounts) ≡ kept (cond t ((who, coins ++ a.1) ∷ accounts) ((who, coins) ∷ a ∷ accounts))
      by true e =
          let unasked : P a.0 ≡ false = sym (ap P (account_exact who a.0 (equal (account_cmp who a.0) e))) ∙ n in
          ap (λ p. cond p (a ∷ kept accounts) (kept accounts)) unasked ∙ ap (λ p. cond p ((who, coins ++ a.1) ∷ kept accounts) (kept accounts)) (sym n)
      by false e = ap (λ p. cond p ((who, coins) ∷ cond (P a.0) (a ∷ kept accounts) (kept accounts)) (cond (P a.0) (a ∷ kept accounts) (kept accounts))) (sym n)

  -- the accounts of the balances that are asked for are the accounts that are asked for
  pub accounts_kept : (bs : Balances) → IsStrictlySortedBy place_cmp (keys_of bs) → accounts_in (filter (λ e. P e.0.0) bs) ≡ kept (accounts_in bs)
  accounts_kept [] s = refl
  accounts_kept (b ∷ bs) s = by (P b.0.0) refl (accounts_kept bs (sorted_tail place_cmp b.0 (keys_of bs) s))
    where
      by : (t : Bool) → P b.0.0 ≡ t → accounts_in (filter (λ e. P e.0.0) bs) ≡ kept (accounts_in bs)
          → accounts_in (cond t (b ∷ filter (λ e. P e.0.0) bs) (filter (λ e. P e.0.0) bs)) ≡ kept (joined b.0.0 ((b.0.1, b.1) ∷ []) (accounts_in bs))
      by true y later = ap (joined b.0.0 ((b.0.1, b.1) ∷ [])) later ∙ joined_kept b.0.0 ((b.0.1, b.1) ∷ []) (accounts_in bs) y (gathered_apart b bs s)
      by false n later = later ∙ left_out b.0.0 ((b.0.1, b.1) ∷ []) (accounts_in bs) n

-- ---- what is told, where it is asked for

module _ (who : Asked) where
  balance_asked : (i : Item) → balance_in who i ≡ asked (λ k. is_asked who (account_bytes k.0)) (balance_in None i)
  balance_asked (item.Balance account denom amount) = refl
  balance_asked _ = refl

  validator_asked : (i : Item) → validator_in who i ≡ asked (is_asked who) (validator_in None i)
  validator_asked (item.Validator validator) = refl
  validator_asked _ = refl

  purse_asked : (i : Item) → purse_in who i ≡ asked (is_asked who) (purse_in None i)
  purse_asked (item.Purse operator purse) = refl
  purse_asked _ = refl

  delegation_asked : (i : Item) → delegation_in who i ≡ asked (λ k. is_asked who k.0) (delegation_in None i)
  delegation_asked (item.Delegation operator delegator shares) = refl
  delegation_asked _ = refl

  unbonding_asked : (i : Item) → unbonding_in who i ≡ asked (λ k. is_asked who k.0) (unbonding_in None i)
  unbonding_asked (item.Unbonding delegator operator entries) = refl
  unbonding_asked _ = refl

  redelegation_asked : (i : Item) → redelegation_in who i ≡ asked (λ k. is_asked who k.0) (redelegation_in None i)
  redelegation_asked (item.Redelegation delegator source target entries) = refl
  redelegation_asked _ = refl

  signing_asked : (i : Item) → signing_in who i ≡ asked (is_asked who) (signing_in None i)
  signing_asked (item.Signing cons info ring) = refl
  signing_asked _ = refl

  -- ---- the groups

  pub accounts_asked : (items : List Item) → accounts_of who items ≡ filter (λ a. is_asked who (account_bytes a.0)) (accounts_of None items)
  accounts_asked items =
      ap accounts_in (asked_in_order place_total place_exact (λ k. is_asked who (account_bytes k.0)) (balance_in None) (balance_in who) balance_asked items)
      ∙ accounts_kept (λ a. is_asked who (account_bytes a)) (in_order place_cmp (filter_map (balance_in None) items)) (ascend_in_order place_total (filter_map (balance_in None) items))

  pub delegations_asked : (items : List Item) → delegations_of who items ≡ filter (λ d. is_asked who d.0.0) (delegations_of None items)
  delegations_asked items = asked_in_order pair_total pair_exact (λ k. is_asked who k.0) (delegation_in None) (delegation_in who) delegation_asked items

  pub unbondings_asked : (items : List Item) → unbondings_of who items ≡ filter (λ u. is_asked who u.0.0) (unbondings_of None items)
  unbondings_asked items = asked_in_order pair_total pair_exact (λ k. is_asked who k.0) (unbonding_in None) (unbonding_in who) unbonding_asked items

  pub redelegations_asked : (items : List Item) → redelegations_of who items ≡ filter (λ r. is_asked who r.0.0) (redelegations_of None items)
  redelegations_asked items = asked_in_order triple_total triple_exact (λ k. is_asked who k.0) (redelegation_in None) (redelegation_in who) redelegation_asked items

  pub signing_asked_for : (items : List Item) → signing_of who items ≡ filter (λ s. is_asked who s.0) (signing_of None items)
  signing_asked_for items = asked_in_order addr_total exact_bytes (is_asked who) (signing_in None) (signing_in who) signing_asked items

  -- ---- validators with their purses

  purse_kept : (purses : List (List ℕ × Purse)) (operator : List ℕ) → is_asked who operator ≡ true → purse_at (filter (λ e. is_asked who e.0) purses) operator ≡ purse_at purses operator
  purse_kept purses operator y =
      ap (λ o. unwrap_or o no_purse) (lookup-filter-keys (is_at (addr_cmp operator)) (is_asked who) true
      (λ k h. ap (is_asked who) (sym (exact_bytes operator k (equal (addr_cmp operator k) h))) ∙ y) purses)

  with_purses_kept : (purses : List (List ℕ × Purse)) (es : List (List ℕ × Validator)) → AllByRecursion (λ e. e.1.operator ≡ e.0) es
      → with_purses (filter (λ e. is_asked who e.0) purses) (filter (λ e. is_asked who e.0) es) ≡ filter (λ v. is_asked who v.0.operator) (with_purses purses es)
  with_purses_kept purses [] h = refl
  with_purses_kept purses (e ∷ es) h =
      by (is_asked who e.0) refl (with_purses_kept purses es h.1)
      ∙ ap (λ t. cond t ((e.1, purse_at purses e.0) ∷ filter (λ v. is_asked who v.0.operator) (with_purses purses es)) (filter (λ v. is_asked who v.0.operator) (with_purses purses es))) (ap (is_asked who) (sym h.0))
    where
      by : (t : Bool) → is_asked who e.0 ≡ t
          → with_purses (filter (λ e. is_asked who e.0) purses) (filter (λ e. is_asked who e.0) es) ≡ filter (λ v. is_asked who v.0.operator) (with_purses purses es)
          → with_purses (filter (λ e. is_asked who e.0) purses) (cond t (e ∷ filter (λ e. is_asked who e.0) es) (filter (λ e. is_asked who e.0) es))
          ≡ cond (is_asked who e.0) ((e.1, purse_at purses e.0) ∷ filter (λ v. is_asked who v.0.operator) (with_purses purses es)) (filter (λ v. is_asked who v.0.operator) (with_purses purses es))
      by true y later = (λ i. (e.1, purse_kept purses e.0 y i) ∷ later i) ∙ ap (λ t. cond t ((e.1, purse_at purses e.0) ∷ filter (λ v. is_asked who v.0.operator) (with_purses purses es)) (filter (λ v. is_asked who v.0.operator) (with_purses purses es))) (sym y)
      by false n later = later ∙ ap (λ t. cond t ((e.1, purse_at purses e.0) ∷ filter (λ v. is_asked who v.0.operator) (with_purses purses es)) (filter (λ v. is_asked who v.0.operator) (with_purses purses es))) (sym n)

  own_operator : (i : Item) (e : List ℕ × Validator) → validator_in None i ≡ Some e → e.1.operator ≡ e.0
  own_operator (item.Validator validator) e h = subst (λ x. x.1.operator ≡ x.0) (ap (λ t. unwrap_or t (validator.operator, validator)) h) refl
  own_operator _ e h = absurd cc

  pub validators_asked : (items : List Item) → validators_of who items ≡ filter (λ v. is_asked who v.0.operator) (validators_of None items)
  validators_asked items =
      (λ i. with_purses (asked_in_order addr_total exact_bytes (is_asked who) (purse_in None) (purse_in who) purse_asked items i)
      (asked_in_order addr_total exact_bytes (is_asked who) (validator_in None) (validator_in who) validator_asked items i))
      ∙ with_purses_kept (purses_of None items) (in_order addr_cmp (filter_map (validator_in None) items))
      (holds_in_order exact_bytes (λ e. e.1.operator ≡ e.0) (filter_map (validator_in None) items) (holds_of_told exact_bytes (λ e. e.1.operator ≡ e.0) (validator_in None) own_operator items))

  -- ---- pending rewards

  values_kept : (es : List ((List ℕ × List ℕ) × Pending)) → AllByRecursion (λ e. e.1.delegator ≡ e.0.0) es → values_of (filter (λ e. is_asked who e.0.0) es) ≡ filter (λ p. is_asked who p.delegator) (values_of es)
  values_kept [] h = refl
  values_kept (e ∷ es) h =
      by (is_asked who e.0.0) (values_kept es h.1)
      ∙ ap (λ a. cond (is_asked who a) (e.1 ∷ filter (λ p. is_asked who p.delegator) (values_of es)) (filter (λ p. is_asked who p.delegator) (values_of es))) (sym h.0)
    where
      by : (t : Bool) → values_of (filter (λ e. is_asked who e.0.0) es) ≡ filter (λ p. is_asked who p.delegator) (values_of es)
          → values_of (cond t (e ∷ filter (λ e. is_asked who e.0.0) es) (filter (λ e. is_asked who e.0.0) es)) ≡ cond t (e.1 ∷ filter (λ p. is_asked who p.delegator) (values_of es)) (filter (λ p. is_asked who p.delegator) (values_of es))
      by true later = ap (λ ps. e.1 ∷ ps) later
      by false later = later

  own_delegator : (p : Pending) (e : (List ℕ × List ℕ) × Pending) → pending_in None p ≡ Some e → e.1.delegator ≡ e.0.0
  own_delegator p e h = subst (λ x. x.1.delegator ≡ x.0.0) (ap (λ t. unwrap_or t ((p.delegator, p.operator), p)) h) refl

  pub pending_asked_for : (pending : List Pending) → pending_of who pending ≡ filter (λ p. is_asked who p.delegator) (pending_of None pending)
  pending_asked_for pending =
      ap values_of (asked_in_order pair_total pair_exact (λ k. is_asked who k.0) (pending_in None) (pending_in who) (λ p. refl) pending)
      ∙ values_kept (in_order pair_cmp (filter_map (pending_in None) pending))
      (holds_in_order pair_exact (λ e. e.1.delegator ≡ e.0.0) (filter_map (pending_in None) pending) (holds_of_told pair_exact (λ e. e.1.delegator ≡ e.0.0) (pending_in None) own_delegator pending))
