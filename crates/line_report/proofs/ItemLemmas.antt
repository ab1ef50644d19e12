-- What the items of a state tell.
use Rattle.std.proofs.Common.{◌≡◌, ◌∙◌, ◌⊎◌, inl, inr, ⊎_elim, ℕ, Bool, List, [], ◌∷◌, ◌++◌, map, map-id, Option, Some, None, refl, ap, append-nil, subst, All, option_map, reverse, unwrap_or, filter_map, flat_map}
use Rattle.std.specs.List.{AllByRecursion, cons_option}
use Rattle.std.proofs.lemmas.List.Elements.{filter_map-append, recursion_from_All}
use Rattle.base_types.specs.declared.account.Account.{Account}
use Rattle.base_coins.specs.Coins.{Money}
use Rattle.base_roles.specs.declared.entities.{Historical.Historical, Purse.Purse, RedelegationEntry.RedelegationEntry}
use Rattle.base_roles.specs.declared.entities.{SigningInfo.SigningInfo, UnbondingEntry.UnbondingEntry}
use Rattle.base_roles.specs.declared.{entities.Validator.Validator, items.Item.Item}
use Rattle.base_roles.specs.declared.items.Item.TheVariants as item
use Rattle.rule_modules.specs.{Chain.State, Periods.{Periods, Rewards, history_kept, starts_of}, Window.info_of}
use Rattle.rule_machine.specs.Items.{entry_items, ground_items, historical_items, holding_items, items_of, purse_items, reward_items, ring_of, shared_items, signing_items, staked_items}
use Rattle.line_report.specs.Laws.{IsUnread}
use Rattle.line_report.specs.Telling.{balance_in, delegation_in, pool_in, purse_in, redelegation_in, signing_in, supply_in, unbonding_in, validator_in}

-- ---- items that tell nothing

-- what is reported of no state
abbrev pub IsUntold : Item → Type 0
IsUntold (item.Head height time) = Unit {0}
IsUntold (item.Parameters params) = Unit {0}
IsUntold (item.Withdraw delegator to) = Unit {0}
IsUntold (item.CurrentPeriod operator period) = Unit {0}
IsUntold (item.Historical operator period history) = Unit {0}
IsUntold (item.Start operator delegator info) = Unit {0}
IsUntold (item.Event operator event) = Unit {0}
IsUntold _ = ⊥

-- nothing is told of that
abbrev pub IsBlind : {Y : Type 0} → (Item → Option Y) → Type 0
IsBlind tell = (i : Item) → IsUntold i → tell i ≡ None

unread_cases : (i : Item) → IsUnread i → IsUntold i ⊎ (i ≡ item.Pool [])
unread_cases (item.Pool []) h = inr refl
unread_cases (item.Pool (c ∷ cs)) h = absurd h
unread_cases _ h = inl h

module _ {Y : Type 0} (tell : Item → Option Y) where
  -- what a list tells behind one thing
  told_cons : (x : Item) (t : Option Y) (xs : List Item) (ys : List Y) → tell x ≡ t → filter_map tell xs ≡ ys → filter_map tell (x ∷ xs) ≡ cons_option t ys
  told_cons x t xs ys h k = λ i. cons_option (h i) (k i)

  pub nothing_read : IsBlind tell → (xs : List Item) → AllByRecursion IsUntold xs → filter_map tell xs ≡ []
  nothing_read blind [] h = refl
  nothing_read blind (x ∷ xs) h = told_cons x None xs [] (blind x h.0) (nothing_read blind xs h.1)

  none_of : {A : Type 0} (f : A → Item) → ((a : A) → tell (f a) ≡ None) → (xs : List A) → filter_map tell (map f xs) ≡ []
  none_of f h [] = refl
  none_of f h (x ∷ xs) = told_cons (f x) None (map f xs) [] (h x) (none_of f h xs)

  each_of : {A : Type 0} (f : A → Item) (g : A → Y) → ((a : A) → tell (f a) ≡ Some (g a)) → (xs : List A) → filter_map tell (map f xs) ≡ map g xs
  each_of f g h [] = refl
  each_of f g h (x ∷ xs) = told_cons (f x) (Some (g x)) (map f xs) (map g xs) (h x) (each_of f g h xs)

  -- what is told of lists that follow one another
  told_then : (xs ys : List Item) (us vs : List Y) → filter_map tell xs ≡ us → filter_map tell ys ≡ vs → filter_map tell (xs ++ ys) ≡ us ++ vs
  told_then xs ys us vs h k = filter_map-append tell xs ys ∙ (λ i. h i ++ k i)

-- ---- what rewards are told from is not read

all_append : (xs ys : List Item) → AllByRecursion IsUntold xs → AllByRecursion IsUntold ys → AllByRecursion IsUntold (xs ++ ys)
all_append [] ys h k = k
all_append (x ∷ xs) ys h k = (h.0, all_append xs ys h.1 k)

all_of : {A : Type 0} (f : A → Item) → ((a : A) → IsUntold (f a)) → (xs : List A) → AllByRecursion IsUntold (map f xs)
all_of f h [] = tt
all_of f h (x ∷ xs) = (h x, all_of f h xs)

all_of_each : {A : Type 0} (f : A → List Item) → ((a : A) → AllByRecursion IsUntold (f a)) → (xs : List A) → AllByRecursion IsUntold (flat_map f xs)
all_of_each f h [] = tt
all_of_each f h (x ∷ xs) = all_append (f x) (flat_map f xs) (h x) (all_of_each f h xs)

all_of_some : {A : Type 0} (f : A → Option Item) → ((a : A) (i : Item) → f a ≡ Some i → IsUntold i) → (xs : List A) → AllByRecursion IsUntold (filter_map f xs)
all_of_some f h [] = tt
all_of_some f h (x ∷ xs) = by (f x) refl (all_of_some f h xs)
  where
    by : (t : Option Item) → f x ≡ t → AllByRecursion IsUntold (filter_map f xs) → AllByRecursion IsUntold (cons_option t (filter_map f xs))
    by None is later = later
    by (Some i) is later = (h x i is, later)

history_untold : (operator : List ℕ) (period : ℕ) (kept : Option Historical) (i : Item) → option_map (λ h. item.Historical operator period h) kept ≡ Some i → IsUntold i
history_untold operator period None i h = absurd cc
history_untold operator period (Some kept) i h = subst IsUntold (ap (λ t. unwrap_or t (item.Historical operator period kept)) h) tt

histories_untold : (r : Rewards) (e : List ℕ × Periods) → AllByRecursion IsUntold (historical_items r e)
histories_untold r e = all_of_some _ (λ ended i h. history_untold e.0 ended.0 (history_kept e.1 (starts_of r e.0) ended.0) i h) (reverse e.1.ratios)

rewards_untold : (r : Rewards) → AllByRecursion IsUntold (reward_items r)
rewards_untold r =
    all_append _ _ (all_of _ (λ e. tt) r.periods)
    (all_append _ _ (all_of_each (historical_items r) (histories_untold r) r.periods)
    (all_append _ _ (all_of _ (λ e. tt) r.starts) (all_of_each _ (λ e. all_of _ (λ event. tt) e.1.events) r.periods)))

-- ---- kind by kind

module _ {Y : Type 0} (tell : Item → Option Y) where
  module _ (blind : IsBlind tell) (w : State) where
    -- what the items of a state tell, from what each kind of them tells
    pub told_items : (balances supplies validators delegations unbondings redelegations signing purses pool : List Y)
        → filter_map tell (map (λ e. item.Balance e.0.0 e.0.1 e.1) w.view.bank.balances) ≡ balances
        → filter_map tell (map (λ e. item.Supply e.0 e.1) w.view.bank.supplies) ≡ supplies
        → filter_map tell (map (λ e. item.Validator e.1) w.mine.staked.validators) ≡ validators
        → filter_map tell (map (λ e. item.Delegation e.0.0 e.0.1 e.1) w.mine.staked.delegations) ≡ delegations
        → filter_map tell (map (λ e. item.Unbonding e.0.0 e.0.1 e.1) w.mine.unbondings) ≡ unbondings
        → filter_map tell (map (λ e. item.Redelegation e.0.0 e.0.1 e.0.2 e.1) w.mine.redelegations) ≡ redelegations
        → filter_map tell (signing_items w.view.ctx.params.signed_blocks_window w.hooks.1) ≡ signing
        → filter_map tell (map (λ e. item.Purse e.0 e.1) w.hooks.0.purses.purses) ≡ purses
        → filter_map tell (item.Pool w.hooks.0.purses.pool ∷ []) ≡ pool
        → filter_map tell (items_of w) ≡ ((balances ++ supplies) ++ (validators ++ delegations)) ++ ((unbondings ++ redelegations) ++ (signing ++ ((purses ++ pool) ++ [])))
    told_items b s x y u r g p c eb es ev ed eu er eg ep ec =
        let v = w.view in
        let window = v.ctx.params.signed_blocks_window in
        let d = w.hooks.0 in
        let holding = told_then tell (map (λ e. item.Balance e.0.0 e.0.1 e.1) v.bank.balances) (map (λ e. item.Supply e.0 e.1) v.bank.supplies) b s eb es in
        let parameters = told_cons tell (item.Parameters v.ctx.params) None (holding_items v.bank) (b ++ s) (blind _ tt) holding in
        let ground = told_cons tell (item.Head v.ctx.height v.ctx.time) None (item.Parameters v.ctx.params ∷ holding_items v.bank) (b ++ s) (blind _ tt) parameters in
        let staked = told_then tell (map (λ e. item.Validator e.1) w.mine.staked.validators) (map (λ e. item.Delegation e.0.0 e.0.1 e.1) w.mine.staked.delegations) x y ev ed in
        let entries = told_then tell (map (λ e. item.Unbonding e.0.0 e.0.1 e.1) w.mine.unbondings) (map (λ e. item.Redelegation e.0.0 e.0.1 e.0.2 e.1) w.mine.redelegations) u r eu er in
        let unread = nothing_read tell blind (map (λ e. item.Withdraw e.0 e.1) d.withdraw ++ reward_items d.rewards)
        (all_append (map (λ e. item.Withdraw e.0 e.1) d.withdraw) (reward_items d.rewards) (all_of (λ e. item.Withdraw e.0 e.1) (λ e. tt) d.withdraw) (rewards_untold d.rewards)) in
        let purses = told_then tell (map (λ e. item.Purse e.0 e.1) d.purses.purses) (item.Pool d.purses.pool ∷ []) p c ep ec in
        let shared = told_then tell (purse_items d.purses) (map (λ e. item.Withdraw e.0 e.1) d.withdraw ++ reward_items d.rewards) (p ++ c) [] purses unread in
        let behind = told_then tell (signing_items window w.hooks.1) (shared_items d) g ((p ++ c) ++ []) eg shared in
        let rest = told_then tell (entry_items w.mine.unbondings w.mine.redelegations) (signing_items window w.hooks.1 ++ shared_items d) (u ++ r) (g ++ ((p ++ c) ++ [])) entries behind in
        told_then tell (ground_items v ++ staked_items w.mine.staked) (entry_items w.mine.unbondings w.mine.redelegations ++ (signing_items window w.hooks.1 ++ shared_items d))
        ((b ++ s) ++ (x ++ y)) ((u ++ r) ++ (g ++ ((p ++ c) ++ [])))
        (told_then tell (ground_items v) (staked_items w.mine.staked) (b ++ s) (x ++ y) ground staked) rest

  -- what is missing tells nothing
  pub nothing_missing : IsBlind tell → tell (item.Pool []) ≡ None → (missing : List Item) → AllByRecursion IsUnread missing → filter_map tell missing ≡ []
  nothing_missing blind pool [] h = refl
  nothing_missing blind pool (i ∷ is) h = told_cons tell i None is [] (⊎_elim (λ u. blind i u) (λ e. ap tell e ∙ pool) (unread_cases i h.0)) (nothing_missing blind pool is h.1)

  pub told_without : IsBlind tell → tell (item.Pool []) ≡ None → (items missing : List Item) → All IsUnread missing → filter_map tell (items ++ missing) ≡ filter_map tell items
  told_without blind pool items missing h =
      told_then tell items missing _ [] refl (nothing_missing blind pool missing (recursion_from_All IsUnread missing h)) ∙ append-nil (filter_map tell items)

-- ---- items of which nothing is told

module _ {Y : Type 0} (tell : Item → Option Y) (w : State) where
  no_balances : ((account : Account) (denom : List ℕ) (amount : ℕ) → tell (item.Balance account denom amount) ≡ None) → filter_map tell (map (λ e. item.Balance e.0.0 e.0.1 e.1) w.view.bank.balances) ≡ []
  no_balances h = none_of tell (λ e. item.Balance e.0.0 e.0.1 e.1) (λ e. h e.0.0 e.0.1 e.1) w.view.bank.balances

  no_supplies : ((denom : List ℕ) (amount : ℕ) → tell (item.Supply denom amount) ≡ None) → filter_map tell (map (λ e. item.Supply e.0 e.1) w.view.bank.supplies) ≡ []
  no_supplies h = none_of tell (λ e. item.Supply e.0 e.1) (λ e. h e.0 e.1) w.view.bank.supplies

  no_validators : ((v : Validator) → tell (item.Validator v) ≡ None) → filter_map tell (map (λ e. item.Validator e.1) w.mine.staked.validators) ≡ []
  no_validators h = none_of tell (λ e. item.Validator e.1) (λ e. h e.1) w.mine.staked.validators

  no_delegations : ((operator delegator : List ℕ) (shares : ℕ) → tell (item.Delegation operator delegator shares) ≡ None) → filter_map tell (map (λ e. item.Delegation e.0.0 e.0.1 e.1) w.mine.staked.delegations) ≡ []
  no_delegations h = none_of tell (λ e. item.Delegation e.0.0 e.0.1 e.1) (λ e. h e.0.0 e.0.1 e.1) w.mine.staked.delegations

  no_unbondings : ((delegator operator : List ℕ) (entries : List UnbondingEntry) → tell (item.Unbonding delegator operator entries) ≡ None) → filter_map tell (map (λ e. item.Unbonding e.0.0 e.0.1 e.1) w.mine.unbondings) ≡ []
  no_unbondings h = none_of tell (λ e. item.Unbonding e.0.0 e.0.1 e.1) (λ e. h e.0.0 e.0.1 e.1) w.mine.unbondings

  no_redelegations : ((delegator source target : List ℕ) (entries : List RedelegationEntry) → tell (item.Redelegation delegator source target entries) ≡ None) → filter_map tell (map (λ e. item.Redelegation e.0.0 e.0.1 e.0.2 e.1) w.mine.redelegations) ≡ []
  no_redelegations h = none_of tell (λ e. item.Redelegation e.0.0 e.0.1 e.0.2 e.1) (λ e. h e.0.0 e.0.1 e.0.2 e.1) w.mine.redelegations

  no_signing : ((cons : List ℕ) (info : SigningInfo) (ring : List Bool) → tell (item.Signing cons info ring) ≡ None) → filter_map tell (map (λ e. item.Signing e.0 (info_of w.view.ctx.params.signed_blocks_window e.1) (ring_of w.view.ctx.params.signed_blocks_window e.1.votes)) w.hooks.1) ≡ []
  no_signing h = none_of tell (λ e. item.Signing e.0 (info_of w.view.ctx.params.signed_blocks_window e.1) (ring_of w.view.ctx.params.signed_blocks_window e.1.votes)) (λ e. h e.0 (info_of w.view.ctx.params.signed_blocks_window e.1) (ring_of w.view.ctx.params.signed_blocks_window e.1.votes)) w.hooks.1

  no_purses : ((operator : List ℕ) (purse : Purse) → tell (item.Purse operator purse) ≡ None) → filter_map tell (map (λ e. item.Purse e.0 e.1) w.hooks.0.purses.purses) ≡ []
  no_purses h = none_of tell (λ e. item.Purse e.0 e.1) (λ e. h e.0 e.1) w.hooks.0.purses.purses

-- ---- what each kind tells

none_after : {Y : Type 0} (ys : List Y) → (ys ++ []) ++ [] ≡ ys
none_after ys = append-nil (ys ++ []) ∙ append-nil ys

none_around : {Y : Type 0} (ys : List Y) → ((ys ++ []) ++ []) ++ [] ≡ ys
none_around ys = append-nil ((ys ++ []) ++ []) ∙ none_after ys

pub balance_blind : IsBlind (balance_in None)
balance_blind (item.Balance account denom amount) h = absurd h
balance_blind _ h = refl

pub supply_blind : IsBlind supply_in
supply_blind (item.Supply denom amount) h = absurd h
supply_blind _ h = refl

pub validator_blind : IsBlind (validator_in None)
validator_blind (item.Validator validator) h = absurd h
validator_blind _ h = refl

pub delegation_blind : IsBlind (delegation_in None)
delegation_blind (item.Delegation operator delegator shares) h = absurd h
delegation_blind _ h = refl

pub unbonding_blind : IsBlind (unbonding_in None)
unbonding_blind (item.Unbonding delegator operator entries) h = absurd h
unbonding_blind _ h = refl

pub redelegation_blind : IsBlind (redelegation_in None)
redelegation_blind (item.Redelegation delegator source target entries) h = absurd h
redelegation_blind _ h = refl

pub signing_blind : IsBlind (signing_in None)
signing_blind (item.Signing cons info ring) h = absurd h
signing_blind _ h = refl

pub purse_blind : IsBlind (purse_in None)
purse_blind (item.Purse operator purse) h = absurd h
purse_blind _ h = refl

-- the pool, under the only key that there is
abbrev pub pool_entry : Item → Option (Unit {0} × Money)
pool_entry i = option_map (λ coins. (tt, coins)) (pool_in i)

pub pool_blind : IsBlind pool_entry
pool_blind (item.Pool coins) h = absurd h
pool_blind _ h = refl

module _ (w : State) where
  pub balances_told : filter_map (balance_in None) (items_of w) ≡ w.view.bank.balances
  balances_told =
      told_items (balance_in None) balance_blind w w.view.bank.balances [] [] [] [] [] [] [] []
      (each_of (balance_in None) (λ e. item.Balance e.0.0 e.0.1 e.1) (λ e. e) (λ e. refl) w.view.bank.balances ∙ map-id w.view.bank.balances) (no_supplies (balance_in None) w (λ a b. refl)) (no_validators (balance_in None) w (λ a. refl)) (no_delegations (balance_in None) w (λ a b c. refl))
      (no_unbondings (balance_in None) w (λ a b c. refl)) (no_redelegations (balance_in None) w (λ a b c d. refl)) (no_signing (balance_in None) w (λ a b c. refl)) (no_purses (balance_in None) w (λ a b. refl)) refl
      ∙ none_around w.view.bank.balances

  pub supplies_told : filter_map supply_in (items_of w) ≡ w.view.bank.supplies
  supplies_told =
      told_items supply_in supply_blind w [] w.view.bank.supplies [] [] [] [] [] [] []
      (no_balances supply_in w (λ a b c. refl)) (each_of supply_in (λ e. item.Supply e.0 e.1) (λ e. e) (λ e. refl) w.view.bank.supplies ∙ map-id w.view.bank.supplies) (no_validators supply_in w (λ a. refl)) (no_delegations supply_in w (λ a b c. refl))
      (no_unbondings supply_in w (λ a b c. refl)) (no_redelegations supply_in w (λ a b c d. refl)) (no_signing supply_in w (λ a b c. refl)) (no_purses supply_in w (λ a b. refl)) refl
      ∙ none_after w.view.bank.supplies

  pub validators_told : filter_map (validator_in None) (items_of w) ≡ map (λ e. (e.1.operator, e.1)) w.mine.staked.validators
  validators_told =
      told_items (validator_in None) validator_blind w [] [] (map (λ e. (e.1.operator, e.1)) w.mine.staked.validators) [] [] [] [] [] []
      (no_balances (validator_in None) w (λ a b c. refl)) (no_supplies (validator_in None) w (λ a b. refl)) (each_of (validator_in None) (λ e. item.Validator e.1) (λ e. (e.1.operator, e.1)) (λ e. refl) w.mine.staked.validators) (no_delegations (validator_in None) w (λ a b c. refl))
      (no_unbondings (validator_in None) w (λ a b c. refl)) (no_redelegations (validator_in None) w (λ a b c d. refl)) (no_signing (validator_in None) w (λ a b c. refl)) (no_purses (validator_in None) w (λ a b. refl)) refl
      ∙ none_after (map (λ e. (e.1.operator, e.1)) w.mine.staked.validators)

  pub delegations_told : filter_map (delegation_in None) (items_of w) ≡ map (λ e. ((e.0.1, e.0.0), e.1)) w.mine.staked.delegations
  delegations_told =
      told_items (delegation_in None) delegation_blind w [] [] [] (map (λ e. ((e.0.1, e.0.0), e.1)) w.mine.staked.delegations) [] [] [] [] []
      (no_balances (delegation_in None) w (λ a b c. refl)) (no_supplies (delegation_in None) w (λ a b. refl)) (no_validators (delegation_in None) w (λ a. refl)) (each_of (delegation_in None) (λ e. item.Delegation e.0.0 e.0.1 e.1) (λ e. ((e.0.1, e.0.0), e.1)) (λ e. refl) w.mine.staked.delegations)
      (no_unbondings (delegation_in None) w (λ a b c. refl)) (no_redelegations (delegation_in None) w (λ a b c d. refl)) (no_signing (delegation_in None) w (λ a b c. refl)) (no_purses (delegation_in None) w (λ a b. refl)) refl
      ∙ append-nil (map (λ e. ((e.0.1, e.0.0), e.1)) w.mine.staked.delegations)

  pub unbondings_told : filter_map (unbonding_in None) (items_of w) ≡ w.mine.unbondings
  unbondings_told =
      told_items (unbonding_in None) unbonding_blind w [] [] [] [] w.mine.unbondings [] [] [] []
      (no_balances (unbonding_in None) w (λ a b c. refl)) (no_supplies (unbonding_in None) w (λ a b. refl)) (no_validators (unbonding_in None) w (λ a. refl)) (no_delegations (unbonding_in None) w (λ a b c. refl))
      (each_of (unbonding_in None) (λ e. item.Unbonding e.0.0 e.0.1 e.1) (λ e. e) (λ e. refl) w.mine.unbondings ∙ map-id w.mine.unbondings) (no_redelegations (unbonding_in None) w (λ a b c d. refl)) (no_signing (unbonding_in None) w (λ a b c. refl)) (no_purses (unbonding_in None) w (λ a b. refl)) refl
      ∙ none_after w.mine.unbondings

  pub redelegations_told : filter_map (redelegation_in None) (items_of w) ≡ w.mine.redelegations
  redelegations_told =
      told_items (redelegation_in None) redelegation_blind w [] [] [] [] [] w.mine.redelegations [] [] []
      (no_balances (redelegation_in None) w (λ a b c. refl)) (no_supplies (redelegation_in None) w (λ a b. refl)) (no_validators (redelegation_in None) w (λ a. refl)) (no_delegations (redelegation_in None) w (λ a b c. refl))
      (no_unbondings (redelegation_in None) w (λ a b c. refl)) (each_of (redelegation_in None) (λ e. item.Redelegation e.0.0 e.0.1 e.0.2 e.1) (λ e. e) (λ e. refl) w.mine.redelegations ∙ map-id w.mine.redelegations) (no_signing (redelegation_in None) w (λ a b c. refl)) (no_purses (redelegation_in None) w (λ a b. refl)) refl
      ∙ append-nil w.mine.redelegations

  pub signing_told : filter_map (signing_in None) (items_of w) ≡ map (λ e. (e.0, info_of w.view.ctx.params.signed_blocks_window e.1)) w.hooks.1
  signing_told =
      told_items (signing_in None) signing_blind w [] [] [] [] [] [] (map (λ e. (e.0, info_of w.view.ctx.params.signed_blocks_window e.1)) w.hooks.1) [] []
      (no_balances (signing_in None) w (λ a b c. refl)) (no_supplies (signing_in None) w (λ a b. refl)) (no_validators (signing_in None) w (λ a. refl)) (no_delegations (signing_in None) w (λ a b c. refl))
      (no_unbondings (signing_in None) w (λ a b c. refl)) (no_redelegations (signing_in None) w (λ a b c d. refl)) (each_of (signing_in None) (λ e. item.Signing e.0 (info_of w.view.ctx.params.signed_blocks_window e.1) (ring_of w.view.ctx.params.signed_blocks_window e.1.votes)) (λ e. (e.0, info_of w.view.ctx.params.signed_blocks_window e.1)) (λ e. refl) w.hooks.1) (no_purses (signing_in None) w (λ a b. refl)) refl
      ∙ append-nil (map (λ e. (e.0, info_of w.view.ctx.params.signed_blocks_window e.1)) w.hooks.1)

  pub purses_told : filter_map (purse_in None) (items_of w) ≡ w.hooks.0.purses.purses
  purses_told =
      told_items (purse_in None) purse_blind w [] [] [] [] [] [] [] w.hooks.0.purses.purses []
      (no_balances (purse_in None) w (λ a b c. refl)) (no_supplies (purse_in None) w (λ a b. refl)) (no_validators (purse_in None) w (λ a. refl)) (no_delegations (purse_in None) w (λ a b c. refl))
      (no_unbondings (purse_in None) w (λ a b c. refl)) (no_redelegations (purse_in None) w (λ a b c d. refl)) (no_signing (purse_in None) w (λ a b c. refl)) (each_of (purse_in None) (λ e. item.Purse e.0 e.1) (λ e. e) (λ e. refl) w.hooks.0.purses.purses ∙ map-id w.hooks.0.purses.purses) refl
      ∙ none_after w.hooks.0.purses.purses

  pub pool_told : filter_map pool_entry (items_of w) ≡ (tt, w.hooks.0.purses.pool) ∷ []
  pool_told =
      told_items pool_entry pool_blind w [] [] [] [] [] [] [] [] ((tt, w.hooks.0.purses.pool) ∷ [])
      (no_balances pool_entry w (λ a b c. refl)) (no_supplies pool_entry w (λ a b. refl)) (no_validators pool_entry w (λ a. refl)) (no_delegations pool_entry w (λ a b c. refl))
      (no_unbondings pool_entry w (λ a b c. refl)) (no_redelegations pool_entry w (λ a b c d. refl)) (no_signing pool_entry w (λ a b c. refl)) (no_purses pool_entry w (λ a b. refl)) refl
      ∙ append-nil ((tt, w.hooks.0.purses.pool) ∷ [])
