-- The groups of a state's report are those of its items.
use Rattle.std.proofs.Common.{◌≡◌, ◌∙◌, sym, ℕ, List, [], ◌∷◌, ◌++◌, map, false, Option, Some, None, refl, ap, subst, All, unwrap_or, option_map, Ordering, Less, Equal, Greater, filter_map, IsPermutation, is_eq}
use Rattle.std.specs.{BTreeMap.is_at, Cmp.IsTotalOrder, List.{AllByRecursion, IsDistinct, cons_option}}
use Rattle.std.specs.{List.Sorted.IsStrictlySortedBy, Map.{keys_of, lookup, values_of}}
use Rattle.std.specs.Ordering.{eq_by_cmp, ordering_then}
use Rattle.std.proofs.lemmas.{List.Elements.{All-head, All-tail, recursion_from_All}, Map.Keys.IsDistinct-from_sorted}
use Rattle.std.proofs.lemmas.Map.Lookups.{CmpEqualImpliesEq, exact_bytes}
use Rattle.base_types.specs.Orders.{addr_cmp, cons_cmp, denom_cmp}
use Rattle.base_coins.specs.Coins.{Money}
use Rattle.base_roles.specs.declared.{entities.Validator.Validator, items.Item.Item}
use Rattle.base_roles.{specs.Orders.{pair_cmp, place_cmp, triple_cmp}, proofs.HoldingLemmas.{denom_total, place_total}}
use Rattle.base_roles.specs.declared.items.Item.TheVariants as item
use Rattle.base_messages.specs.declared.report.Pending.{Pending}
use Rattle.rule_modules.specs.{Chain.State, Purses.purse_of, Window.info_of}
use Rattle.rule_machine.specs.{Items.{IsInKeyOrder, items_of}, Report.{Delegations, by_delegator}, Orders.in_order}
use Rattle.rule_machine.specs.Report as machine
use Rattle.line_report.specs.{Groups.{or_else, pending_of, pool_of, with_purses}, Laws.{AreItemsOf, IsUnread}}
use Rattle.line_report.specs.Telling.{balance_in, delegation_in, pending_in, pool_in, purse_in, redelegation_in, signing_in, supply_in, unbonding_in, validator_in}
use Rattle.line_report.proofs.EntryLemmas.{ascend_in_order, lookup_in_order}
use Rattle.line_report.proofs.ItemLemmas.{IsBlind, balance_blind, balances_told, delegation_blind, delegations_told, pool_entry, pool_told, purse_blind, purses_told, redelegation_blind, redelegations_told, signing_blind, signing_told, supplies_told, supply_blind, told_without, unbonding_blind, unbondings_told, validator_blind, validators_told}
use Rattle.line_report.proofs.ToldLemmas.{alike_anyway, order_anyway, table_anyway}
use Rattle.line_report.proofs.TotalLemmas.{addr_total, pair_exact, pair_total, place_exact, triple_exact, triple_total}

-- ---- groups that are the lists of the state

module _ (w : State) (items : List Item) (are : AreItemsOf w items) where
  -- a list of the state, as the items tell it
  group : {K X : Type 0} {R : K → K → Ordering} (o : IsTotalOrder R) → CmpEqualImpliesEq R → (tell : Item → Option (K × X)) → IsBlind tell → tell (item.Pool []) ≡ None
      → (table : List (K × X)) → filter_map tell (items_of w) ≡ table → IsStrictlySortedBy R (keys_of table) → in_order R (filter_map tell items) ≡ table
  group {R = R} o exact tell blind pool table told s =
      sym (ap (in_order R) (told_without tell blind pool items are.missing are.unread))
      ∙ table_anyway o tell exact (items_of w) (items ++ are.missing) table are.rest told s

  pub supply_group : (ok : IsInKeyOrder w) → in_order denom_cmp (filter_map supply_in items) ≡ w.view.bank.supplies
  supply_group ok = group denom_total exact_bytes supply_in supply_blind refl w.view.bank.supplies (supplies_told w) ok.supplies

  pub balance_group : (ok : IsInKeyOrder w) → in_order place_cmp (filter_map (balance_in None) items) ≡ w.view.bank.balances
  balance_group ok = group place_total place_exact (balance_in None) balance_blind refl w.view.bank.balances (balances_told w) ok.balances

  pub unbonding_group : (ok : IsInKeyOrder w) → in_order pair_cmp (filter_map (unbonding_in None) items) ≡ w.mine.unbondings
  unbonding_group ok = group pair_total pair_exact (unbonding_in None) unbonding_blind refl w.mine.unbondings (unbondings_told w) ok.unbondings

  pub redelegation_group : (ok : IsInKeyOrder w) → in_order triple_cmp (filter_map (redelegation_in None) items) ≡ w.mine.redelegations
  redelegation_group ok = group triple_total triple_exact (redelegation_in None) redelegation_blind refl w.mine.redelegations (redelegations_told w) ok.redelegations

  pub purse_group : (ok : IsInKeyOrder w) → in_order addr_cmp (filter_map (purse_in None) items) ≡ w.hooks.0.purses.purses
  purse_group ok = group addr_total exact_bytes (purse_in None) purse_blind refl w.hooks.0.purses.purses (purses_told w) ok.purses

  -- ---- validators

  under_operators : (es : List (List ℕ × Validator)) → All (λ e. e.1.operator ≡ e.0) es → map (λ e. (e.1.operator, e.1)) es ≡ es
  under_operators [] h = refl
  under_operators (e ∷ es) h = λ i. (All-head (λ e. e.1.operator ≡ e.0) e es h i, e.1) ∷ under_operators es (All-tail (λ e. e.1.operator ≡ e.0) e es h) i

  pub validator_group : (ok : IsInKeyOrder w) → in_order addr_cmp (filter_map (validator_in None) items) ≡ w.mine.staked.validators
  validator_group ok =
      group addr_total exact_bytes (validator_in None) validator_blind refl w.mine.staked.validators
      (validators_told w ∙ under_operators w.mine.staked.validators ok.operators) ok.validators

  -- ---- signing records

  same_keys : {X Y : Type 0} (f : X → Y) (es : List (List ℕ × X)) → keys_of (map (λ e. (e.0, f e.1)) es) ≡ keys_of es
  same_keys f [] = refl
  same_keys f (e ∷ es) = ap (λ ks. e.0 ∷ ks) (same_keys f es)

  pub signing_group : (ok : IsInKeyOrder w) → in_order cons_cmp (filter_map (signing_in None) items) ≡ map (λ e. (e.0, info_of w.view.ctx.params.signed_blocks_window e.1)) w.hooks.1
  signing_group ok =
      group addr_total exact_bytes (signing_in None) signing_blind refl _ (signing_told w)
      (subst (IsStrictlySortedBy cons_cmp) (sym (same_keys (info_of w.view.ctx.params.signed_blocks_window) w.hooks.1)) ok.signing)

-- ---- validators with their purses

pub with_purses_is : (w : State) (es : List (List ℕ × Validator)) → All (λ e. e.1.operator ≡ e.0) es
    → with_purses w.hooks.0.purses.purses es ≡ map (λ v. (v, purse_of w.hooks.0.purses v.operator)) (values_of es)
with_purses_is w [] h = refl
with_purses_is w (e ∷ es) h =
    λ i. (e.1, purse_of w.hooks.0.purses (sym (All-head (λ e. e.1.operator ≡ e.0) e es h) i)) ∷ with_purses_is w es (All-tail (λ e. e.1.operator ≡ e.0) e es h) i

-- ---- delegations

abbrev swapped : Delegations → Delegations
swapped ds = map (λ d. ((d.0.1, d.0.0), d.1)) ds

both_ways : (a b : Ordering) → is_eq (ordering_then a b) ≡ is_eq (ordering_then b a)
both_ways Less Less = refl
both_ways Less Equal = refl
both_ways Less Greater = refl
both_ways Equal Less = refl
both_ways Equal Equal = refl
both_ways Equal Greater = refl
both_ways Greater Less = refl
both_ways Greater Equal = refl
both_ways Greater Greater = refl

swapped_apart : (k : List ℕ × List ℕ) (ds : Delegations) → AllByRecursion (λ y. eq_by_cmp pair_cmp k y ≡ false) (keys_of ds) → AllByRecursion (λ y. eq_by_cmp pair_cmp (k.1, k.0) y ≡ false) (keys_of (swapped ds))
swapped_apart k [] h = tt
swapped_apart k (d ∷ ds) h = (both_ways (addr_cmp k.1 d.0.1) (addr_cmp k.0 d.0.0) ∙ h.0, swapped_apart k ds h.1)

swapped_differ : (ds : Delegations) → IsDistinct (eq_by_cmp pair_cmp) (keys_of ds) → IsDistinct (eq_by_cmp pair_cmp) (keys_of (swapped ds))
unfolding IsDistinct
swapped_differ [] d = tt
swapped_differ (x ∷ ds) d = (swapped_apart x.0 ds d.0, swapped_differ ds d.1)

pub delegation_group : (w : State) (items : List Item) → AreItemsOf w items → IsInKeyOrder w → in_order pair_cmp (filter_map (delegation_in None) items) ≡ by_delegator w.mine.staked.delegations
delegation_group w items are ok =
    let ds = w.mine.staked.delegations in
    let told = delegations_told w in
    let apart : IsDistinct (eq_by_cmp pair_cmp) (keys_of (swapped ds)) = swapped_differ ds (IsDistinct-from_sorted pair_cmp (keys_of ds) ok.delegations) in
    let differ : IsDistinct (eq_by_cmp pair_cmp) (keys_of (filter_map (delegation_in None) (items_of w))) = subst (λ es. IsDistinct (eq_by_cmp pair_cmp) (keys_of es)) (sym told) apart in
    sym (ap (in_order pair_cmp) (told_without (delegation_in None) delegation_blind refl items are.missing are.unread))
    ∙ order_anyway pair_total (delegation_in None) pair_exact (items_of w) (items ++ are.missing) (by_delegator ds) are.rest differ
    (λ q. ap (lookup (is_at (pair_cmp q))) told ∙ sym (lookup_in_order pair_total q (swapped ds) apart)) (ascend_in_order pair_total (swapped ds))

-- ---- pending rewards

abbrev keyed : List Pending → List ((List ℕ × List ℕ) × Pending)
keyed ps = map (λ p. ((p.delegator, p.operator), p)) ps

pending_told : (ps : List Pending) → filter_map (pending_in None) ps ≡ keyed ps
pending_told [] = refl
pending_told (p ∷ ps) = ap (λ es. ((p.delegator, p.operator), p) ∷ es) (pending_told ps)

keyed_values : (ps : List Pending) → values_of (keyed ps) ≡ ps
keyed_values [] = refl
keyed_values (p ∷ ps) = ap (λ qs. p ∷ qs) (keyed_values ps)

keyed_keys : (coins : (List ℕ × List ℕ) × ℕ → Option Money) (ds : Delegations) → keys_of (keyed (map (λ d. record { delegator = d.0.0; operator = d.0.1; coins = coins d }) ds)) ≡ keys_of ds
keyed_keys coins [] = refl
keyed_keys coins (d ∷ ds) = ap (λ ks. d.0 ∷ ks) (keyed_keys coins ds)

pub pending_group : (w : State) (pending : List Pending) → IsPermutation (machine.pending_of w) pending → pending_of None pending ≡ machine.pending_of w
pending_group w pending p =
    let ds = by_delegator w.mine.staked.delegations in
    let rewards = machine.pending_of w in
    let ascend : IsStrictlySortedBy pair_cmp (keys_of (keyed rewards)) = subst (IsStrictlySortedBy pair_cmp) (sym (keyed_keys _ ds)) (ascend_in_order pair_total (swapped w.mine.staked.delegations)) in
    ap values_of (table_anyway pair_total (pending_in None) pair_exact rewards pending (keyed rewards) p (pending_told rewards) ascend)
    ∙ keyed_values rewards

-- ---- the community pool

abbrev one_key : Unit {0} → Unit {0} → Ordering
one_key a b = Equal

one_total : IsTotalOrder one_key
one_total = record { antisymm = λ x y. refl; trans = λ x y z h k. absurd cc; congr = λ x y z h. refl }

abbrev pool_at : List Item → Option Money
pool_at items = lookup (is_at (one_key tt)) (filter_map pool_entry items)

none_missing : (missing : List Item) → AllByRecursion IsUnread missing → unwrap_or (pool_at missing) [] ≡ []
none_missing [] h = refl
none_missing (item.Pool [] ∷ is) h = refl
none_missing (item.Pool (c ∷ cs) ∷ is) h = absurd h.0
none_missing (i ∷ is) h = none_missing is h.1

pool_or : (found : Option Money) (rest : Option (Unit {0} × Money)) (es : List (Unit {0} × Money)) (other : Money) → rest ≡ option_map (λ coins. (tt, coins)) found
    → other ≡ unwrap_or (lookup (is_at (one_key tt)) es) [] → or_else found other ≡ unwrap_or (lookup (is_at (one_key tt)) (cons_option rest es)) []
pool_or None rest es other is h = h ∙ ap (λ r. unwrap_or (lookup (is_at (one_key tt)) (cons_option r es)) []) (sym is)
pool_or (Some coins) rest es other is h = ap (λ r. unwrap_or (lookup (is_at (one_key tt)) (cons_option r es)) []) (sym is)

pool_is_at : (items missing : List Item) → AllByRecursion IsUnread missing → pool_of items ≡ unwrap_or (pool_at (items ++ missing)) []
pool_is_at [] missing h = sym (none_missing missing h)
pool_is_at (i ∷ items) missing h = pool_or (pool_in i) (pool_entry i) (filter_map pool_entry (items ++ missing)) (pool_of items) refl (pool_is_at items missing h)

one_pool : (pool : Money) → IsDistinct (eq_by_cmp one_key) (keys_of ((tt, pool) ∷ []))
unfolding IsDistinct
one_pool pool = (tt, tt)

pub pool_group : (w : State) (items : List Item) → AreItemsOf w items → pool_of items ≡ w.hooks.0.purses.pool
pool_group w items are =
    let told = pool_told w in
    let differ : IsDistinct (eq_by_cmp one_key) (keys_of (filter_map pool_entry (items_of w))) = subst (λ es. IsDistinct (eq_by_cmp one_key) (keys_of es)) (sym told) (one_pool w.hooks.0.purses.pool) in
    pool_is_at items are.missing (recursion_from_All IsUnread are.missing are.unread)
    ∙ ap (λ o. unwrap_or o []) (alike_anyway one_total pool_entry tt (items_of w) (items ++ are.missing) are.rest differ ∙ ap (lookup (is_at (one_key tt))) told)
