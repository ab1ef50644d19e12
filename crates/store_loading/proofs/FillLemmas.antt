-- Modules that have just the items of records keep these records.
use Rattle.std.proofs.Common.{◌≡◌, ◌∙◌, ℕ, Bool, true, List, [], ◌∷◌, ◌++◌, map, refl, sym, ap, subst, inl, inr, ◌⊎◌, Contains}
use Rattle.std.specs.{List.{AllByRecursion, Sorted.IsStrictlySortedBy}, Map.keys_of}
use Rattle.std.proofs.lemmas.List.Elements.{All-from_recursion}
use Rattle.base_types.specs.Orders.{cons_cmp}
use Rattle.base_roles.specs.{declared.{entities.Validator.Validator, items.Item.Item}, Items.IsEmptyPool}
use Rattle.base_roles.specs.Orders.{pair_cmp, triple_cmp}
use Rattle.base_roles.specs.declared.items.Item.TheVariants as item
use Rattle.base_records.specs.Items.{rows_of}
use Rattle.base_records.proofs.MemberLemmas.{Member, contained, member, member-left, member-right}
use Rattle.mod_bank.specs.Booked as bank_kept
use Rattle.mod_bank.specs.Items.{balance_item, supply_item}
use Rattle.mod_bank.specs.Items as bank
use Rattle.mod_staking.specs.{Registered.AreKeyed, Items.{delegation_item, validator_item}}
use Rattle.mod_staking.specs.Registered as book_kept
use Rattle.mod_staking.specs.Items as book
use Rattle.mod_unbonding.specs.Items.{unbonding_item}
use Rattle.mod_unbonding.specs.Items as unbonding
use Rattle.mod_redelegation.specs.Items.{redelegation_item}
use Rattle.mod_redelegation.specs.Items as redelegate
use Rattle.mod_periods.specs.Items.{current_item, event_item, historical_item, start_item}
use Rattle.mod_allocation.specs.Items.{pool_item, purse_item}
use Rattle.mod_signing.specs.Kept as window_kept
use Rattle.mod_signing.specs.Items.{signing_item}
use Rattle.mod_signing.specs.Items as window
use Rattle.mod_distribution.specs.Items.{payee_item}
use Rattle.mod_distribution.specs.Items as distr
use Rattle.chain_modules.specs.Kept.{KeptState}
use Rattle.store_records.specs.{declared.records.Signed.Signed, Plain.{AreAscending, PlainSeen, listed}}
use Rattle.store_records.proofs.ListedLemmas.{StandsIn, from_both, from_map, in_map, listed_stands, same_standing, stands_listed, under_own}
use Rattle.store_loading.specs.Loaded.{Holds, HoldItems, kept_in, plain_in, plain_signed, signings_in}

-- ---- the items of each module are those of its records

module _ (k : KeptState) where
  abbrev q : PlainSeen
  q = plain_in k

  abbrev P : Item → Type 0
  P = StandsIn q

  bank_stands : (i : Item) → Member (bank.items_of k.view.bank) i → P i
  bank_stands =
      from_both P (rows_of balance_item k.view.bank.balances) (rows_of supply_item k.view.bank.supplies) (from_map P (λ e. balance_item e.0 e.1) k.view.bank.balances (λ e n. n))
      (from_map P (λ e. supply_item e.0 e.1) k.view.bank.supplies (λ e n. n))

  module _ (up : AreAscending q.lists) where
    stakes_stand : (i : Item) → Member (book.items_of k.stakes.staked) i → P i
    stakes_stand =
        from_both P (rows_of validator_item k.stakes.staked.validators) (rows_of delegation_item k.stakes.staked.delegations)
        (from_map P (λ e. validator_item e.0 e.1) k.stakes.staked.validators (under_own q up.operators)) (from_map P (λ e. delegation_item e.0 e.1) k.stakes.staked.delegations (λ e n. n))

  unbondings_stand : (i : Item) → Member (unbonding.items_of k.stakes.unbondings) i → P i
  unbondings_stand = from_map P (λ e. unbonding_item e.0 e.1) k.stakes.unbondings (λ e n. n)

  redelegations_stand : (i : Item) → Member (redelegate.items_of k.stakes.redelegations) i → P i
  redelegations_stand = from_map P (λ e. redelegation_item e.0 e.1) k.stakes.redelegations (λ e n. n)

  signing_in : (ks : window_kept.Kept) (e : List ℕ × window_kept.Signed) → Member ks e → Member {A = List ℕ × Signed} (map (λ x. (x.0, plain_signed x.1)) ks) (e.0, plain_signed e.1)
  signing_in [] e m = absurd m
  signing_in (x ∷ ks) e (inl p) = inl (ap (λ y. (y.0, plain_signed y.1)) p)
  signing_in (x ∷ ks) e (inr m) = inr (signing_in ks e m)

  signing_out : (ks : window_kept.Kept) (cons : List ℕ) (s : Signed) → Member {A = List ℕ × Signed} (map (λ x. (x.0, plain_signed x.1)) ks) (cons, s) → Member {A = List ℕ × window_kept.Signed} ks (cons, record { info = s.info; ring = s.ring })
  signing_out [] cons s m = absurd m
  signing_out (x ∷ ks) cons s (inl p) = inl (ap (λ (y : List ℕ × Signed). (y.0, record { info = y.1.info; ring = y.1.ring })) p)
  signing_out (x ∷ ks) cons s (inr m) = inr (signing_out ks cons s m)

  signings_stand : (i : Item) → Member (window.items_of k.signings) i → P i
  signings_stand = from_map P (λ e. signing_item e.0 e.1) k.signings (signing_in k.signings)

  pool_stands : (i : Item) → Member (pool_item k.shared.purses.pool ∷ []) i → P i
  pool_stands i (inl e) = subst P e refl
  pool_stands i (inr m) = absurd m

  abbrev currents : List Item
  currents = rows_of current_item k.shared.rewards.current

  abbrev histories : List Item
  histories = rows_of historical_item k.shared.rewards.historical

  abbrev starts : List Item
  starts = rows_of start_item k.shared.rewards.starts

  abbrev events : List Item
  events = rows_of event_item k.shared.rewards.events

  abbrev purses : List Item
  purses = rows_of purse_item k.shared.purses.purses

  abbrev pool : List Item
  pool = pool_item k.shared.purses.pool ∷ []

  abbrev payees : List Item
  payees = rows_of payee_item k.shared.withdraw

  abbrev rewards : List Item
  rewards = currents ++ (histories ++ (starts ++ events))

  rewards_stand : (i : Item) → Member rewards i → P i
  rewards_stand =
      from_both P currents (histories ++ (starts ++ events)) (from_map P (λ e. current_item e.0 e.1) k.shared.rewards.current (λ e n. n))
      (from_both P histories (starts ++ events) (from_map P (λ e. historical_item e.0 e.1) k.shared.rewards.historical (λ e n. n))
      (from_both P starts events (from_map P (λ e. start_item e.0 e.1) k.shared.rewards.starts (λ e n. n)) (from_map P (λ e. event_item e.0 e.1) k.shared.rewards.events (λ e n. n))))

  shared_stands : (i : Item) → Member (distr.items_of k.shared) i → P i
  shared_stands =
      from_both P (purses ++ pool) (payees ++ rewards) (from_both P purses pool (from_map P (λ e. purse_item e.0 e.1) k.shared.purses.purses (λ e n. n)) pool_stands)
      (from_both P payees rewards (from_map P (λ e. payee_item e.0 e.1) k.shared.withdraw (λ e n. n)) rewards_stand)

  -- ---- and back, but for the community pool

  in_shared : (i : Item) → Member (payees ++ rewards) i → Member (distr.items_of k.shared) i
  in_shared i m = member-right (purses ++ pool) (payees ++ rewards) i m

  in_rewards : (i : Item) → Member rewards i → Member (distr.items_of k.shared) i
  in_rewards i m = in_shared i (member-right payees rewards i m)

  in_later : (i : Item) → Member (histories ++ (starts ++ events)) i → Member (distr.items_of k.shared) i
  in_later i m = in_rewards i (member-right currents (histories ++ (starts ++ events)) i m)

-- ---- modules that have just the items of records

module _ (r : PlainSeen) (k : KeptState) (up : AreAscending r.lists) (up2 : AreAscending (plain_in k).lists) (h : HoldItems (listed r) k) (ctx : k.view.ctx ≡ r.ctx) where
  given : (i : Item) → StandsIn r i → Contains (listed r) i
  given i s = contained (listed r) i (stands_listed r i s)

  shared_there : (i : Item) → StandsIn r i → distr.is_distributed i ≡ true → StandsIn (plain_in k) i
  shared_there i s kind = shared_stands k i (member (distr.items_of k.shared) i (h.shared.all i (given i s) kind))

  -- each record stands in its module
  there : (i : Item) → StandsIn r i → StandsIn (plain_in k) i
  there (item.Head height time) s = (ap (λ c. c.height) ctx ∙ s.0, ap (λ c. c.time) ctx ∙ s.1)
  there (item.Parameters params) s = ap (λ c. c.params) ctx ∙ s
  there (item.Balance account denom amount) s = let i = item.Balance account denom amount in bank_stands k i (member (bank.items_of k.view.bank) i (h.bank.all i (given i s) refl))
  there (item.Supply denom amount) s = let i = item.Supply denom amount in bank_stands k i (member (bank.items_of k.view.bank) i (h.bank.all i (given i s) refl))
  there (item.Validator validator) s = let i = item.Validator validator in stakes_stand k up2 i (member (book.items_of k.stakes.staked) i (h.staked.all i (given i s) refl))
  there (item.Delegation operator delegator shares) s =
      let i = item.Delegation operator delegator shares in stakes_stand k up2 i (member (book.items_of k.stakes.staked) i (h.staked.all i (given i s) refl))
  there (item.Unbonding delegator operator entries) s =
      let i = item.Unbonding delegator operator entries in unbondings_stand k i (member (unbonding.items_of k.stakes.unbondings) i (h.unbondings.all i (given i s) refl))
  there (item.Redelegation delegator source target entries) s =
      let i = item.Redelegation delegator source target entries in redelegations_stand k i (member (redelegate.items_of k.stakes.redelegations) i (h.redelegations.all i (given i s) refl))
  there (item.Signing cons info ring) s = let i = item.Signing cons info ring in signings_stand k i (member (window.items_of k.signings) i (h.signings.all i (given i s) refl))
  there (item.Purse operator purse) s = shared_there (item.Purse operator purse) s refl
  there (item.Pool coins) s = shared_there (item.Pool coins) s refl
  there (item.Withdraw delegator to) s = shared_there (item.Withdraw delegator to) s refl
  there (item.CurrentPeriod operator period) s = shared_there (item.CurrentPeriod operator period) s refl
  there (item.Historical operator period history) s = shared_there (item.Historical operator period history) s refl
  there (item.Start operator delegator info) s = shared_there (item.Start operator delegator info) s refl
  there (item.Event operator event) s = shared_there (item.Event operator event) s refl

  from_given : (is_kind : Item → Bool) (kept : List Item) → Holds is_kind (listed r) kept → (i : Item) → Member kept i → (IsEmptyPool i → ⊥) → StandsIn r i
  from_given is_kind kept holds i m other = by (holds.only i (contained kept i m))
    where
      by : Contains (listed r) i ⊎ IsEmptyPool i → StandsIn r i
      by (inl c) = listed_stands r up.operators i (member (listed r) i c)
      by (inr e) = absurd (other e)

  from_bank : (i : Item) → Member (bank.items_of k.view.bank) i → (IsEmptyPool i → ⊥) → StandsIn r i
  from_bank = from_given bank.is_holding (bank.items_of k.view.bank) h.bank

  from_stakes : (i : Item) → Member (book.items_of k.stakes.staked) i → (IsEmptyPool i → ⊥) → StandsIn r i
  from_stakes = from_given book.is_stake (book.items_of k.stakes.staked) h.staked

  from_shared : (i : Item) → Member (distr.items_of k.shared) i → (IsEmptyPool i → ⊥) → StandsIn r i
  from_shared = from_given distr.is_distributed (distr.items_of k.shared) h.shared

  -- a module has no other
  here : (i : Item) → StandsIn (plain_in k) i → StandsIn r i
  here (item.Head height time) s = (sym (ap (λ c. c.height) ctx) ∙ s.0, sym (ap (λ c. c.time) ctx) ∙ s.1)
  here (item.Parameters params) s = sym (ap (λ c. c.params) ctx) ∙ s
  here (item.Balance account denom amount) m =
      let i = item.Balance account denom amount in
      from_bank i (member-left (rows_of balance_item k.view.bank.balances) (rows_of supply_item k.view.bank.supplies) i
      (in_map (λ e. balance_item e.0 e.1) k.view.bank.balances ((account, denom), amount) m)) (λ e. e)
  here (item.Supply denom amount) m =
      let i = item.Supply denom amount in
      from_bank i (member-right (rows_of balance_item k.view.bank.balances) (rows_of supply_item k.view.bank.supplies) i (in_map (λ e. supply_item e.0 e.1) k.view.bank.supplies (denom, amount) m)) (λ e. e)
  here (item.Validator validator) m =
      let i = item.Validator validator in
      from_stakes i (member-left (rows_of validator_item k.stakes.staked.validators) (rows_of delegation_item k.stakes.staked.delegations) i
      (in_map (λ e. validator_item e.0 e.1) k.stakes.staked.validators (validator.operator, validator) m)) (λ e. e)
  here (item.Delegation operator delegator shares) m =
      let i = item.Delegation operator delegator shares in
      from_stakes i (member-right (rows_of validator_item k.stakes.staked.validators) (rows_of delegation_item k.stakes.staked.delegations) i
      (in_map (λ e. delegation_item e.0 e.1) k.stakes.staked.delegations ((operator, delegator), shares) m)) (λ e. e)
  here (item.Unbonding delegator operator entries) m =
      from_given unbonding.is_unbonding (unbonding.items_of k.stakes.unbondings) h.unbondings (item.Unbonding delegator operator entries)
      (in_map (λ e. unbonding_item e.0 e.1) k.stakes.unbondings ((delegator, operator), entries) m) (λ e. e)
  here (item.Redelegation delegator source target entries) m =
      from_given redelegate.is_redelegation (redelegate.items_of k.stakes.redelegations) h.redelegations (item.Redelegation delegator source target entries)
      (in_map (λ e. redelegation_item e.0 e.1) k.stakes.redelegations ((delegator, source, target), entries) m) (λ e. e)
  here (item.Signing cons info ring) m =
      from_given window.is_signing (window.items_of k.signings) h.signings (item.Signing cons info ring)
      (in_map (λ e. signing_item e.0 e.1) k.signings (cons, record { info = info; ring = ring }) (signing_out k k.signings cons (record { info = info; ring = ring }) m)) (λ e. e)
  here (item.Purse operator purse) m =
      let i = item.Purse operator purse in
      from_shared i (member-left (purses k ++ pool k) (payees k ++ rewards k) i (member-left (purses k) (pool k) i (in_map (λ e. purse_item e.0 e.1) k.shared.purses.purses (operator, purse) m))) (λ e. e)
  here (item.Pool coins) s = sym (there (item.Pool r.pool) refl) ∙ s
  here (item.Withdraw delegator to) m =
      let i = item.Withdraw delegator to in
      from_shared i (in_shared k i (member-left (payees k) (rewards k) i (in_map (λ e. payee_item e.0 e.1) k.shared.withdraw (delegator, to) m))) (λ e. e)
  here (item.CurrentPeriod operator period) m =
      let i = item.CurrentPeriod operator period in
      from_shared i (in_rewards k i (member-left (currents k) (histories k ++ (starts k ++ events k)) i (in_map (λ e. current_item e.0 e.1) k.shared.rewards.current (operator, period) m))) (λ e. e)
  here (item.Historical operator period history) m =
      let i = item.Historical operator period history in
      from_shared i (in_later k i (member-left (histories k) (starts k ++ events k) i (in_map (λ e. historical_item e.0 e.1) k.shared.rewards.historical ((operator, period), history) m))) (λ e. e)
  here (item.Start operator delegator info) m =
      let i = item.Start operator delegator info in
      from_shared i (in_later k i (member-right (histories k) (starts k ++ events k) i (member-left (starts k) (events k) i
      (in_map (λ e. start_item e.0 e.1) k.shared.rewards.starts ((operator, delegator), info) m)))) (λ e. e)
  here (item.Event operator event) m =
      let i = item.Event operator event in
      from_shared i (in_later k i (member-right (histories k) (starts k ++ events k) i (member-right (starts k) (events k) i
      (in_map (λ e. event_item e.0 e.1) k.shared.rewards.events ((operator, event.height, event.period), event.fraction) m)))) (λ e. e)

  just : r ≡ plain_in k
  just = same_standing r (plain_in k) up up2 there here

-- ---- what is kept, out of its records

signings_back : (ks : window_kept.Kept) → ks ≡ signings_in (map (λ e. (e.0, plain_signed e.1)) ks)
signings_back [] = refl
signings_back (e ∷ ks) = ap (λ l. e ∷ l) (signings_back ks)

kept_back : (k : KeptState) → k.view.facts ≡ [] → k ≡ kept_in (plain_in k)
kept_back k facts = λ i. record {
  stakes = k.stakes;
  shared = k.shared;
  signings = signings_back k.signings i;
  view = record { bank = k.view.bank; ctx = k.view.ctx; facts = facts i };
}

-- Modules that have just the items of records, in their context and without facts, keep just these records.
pub keep_just : (r : PlainSeen) (k : KeptState) → AreAscending r.lists → AreAscending (plain_in k).lists → HoldItems (listed r) k → k.view.ctx ≡ r.ctx → k.view.facts ≡ [] → k ≡ kept_in r
keep_just r k up up2 h ctx facts = kept_back k facts ∙ ap kept_in (sym (just r k up up2 h ctx))

-- ---- their keys ascend

keys_same : (ks : window_kept.Kept) → keys_of (map (λ e. (e.0, plain_signed e.1)) ks) ≡ keys_of ks
keys_same [] = refl
keys_same (e ∷ ks) = ap (λ l. e.0 ∷ l) (keys_same ks)

under_operators : (es : List (List ℕ × Validator)) → AreKeyed es → AllByRecursion (λ e. e.1.operator ≡ e.0) es
under_operators [] h = tt
under_operators (e ∷ es) h = (h.0, under_operators es h.1)

module _ (k : KeptState) where
  pub keys_ascend : bank_kept.AreInOrder k.view.bank → book_kept.AreInOrder k.stakes.staked → AreKeyed k.stakes.staked.validators → IsStrictlySortedBy pair_cmp (keys_of k.stakes.unbondings)
      → IsStrictlySortedBy triple_cmp (keys_of k.stakes.redelegations) → distr.AreInOrder k.shared → window_kept.AreInOrder k.signings → AreAscending (plain_in k).lists
  keys_ascend b s keyed u r d w = record {
    balances = b.balances;
    supplies = b.supplies;
    validators = s.validators;
    operators = All-from_recursion (λ (e : List ℕ × Validator). e.1.operator ≡ e.0) k.stakes.staked.validators (under_operators k.stakes.staked.validators keyed);
    delegations = s.delegations;
    unbondings = u;
    redelegations = r;
    signings = subst (IsStrictlySortedBy cons_cmp) (sym (keys_same k.signings)) w;
    shared = record {
      purses = d.purses.ascend;
      payees = d.payees;
      currents = d.rewards.current;
      histories = d.rewards.historical;
      starts = d.rewards.starts;
      events = d.rewards.events;
    };
  }
