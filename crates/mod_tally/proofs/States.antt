-- The items of a sound state tell its validators and delegations, of which a tally can be taken.
use Rattle.std.proofs.Common.{◌≡◌, ◌∙◌, ℕ, ◌^◌, ◌≤◌, true, cond, List, [], ◌∷◌, ◌++◌, append-nil, map, map-id, Option, Some, None, refl, sym, ap, subst, arith, All, option_map, reverse, unwrap_or, filter_map, flat_map}
use Rattle.std.specs.{List.{AllByRecursion, cons_option}, Map.keys_of}
use Rattle.std.proofs.lemmas.{List.Elements.{All-head, All-tail, filter_map-append}, Map.Keys.IsDistinct-from_sorted}
use Rattle.base_types.specs.declared.account.Account.TheVariants as account
use Rattle.base_types.specs.declared.account.Module.TheVariants as holder
use Rattle.base_types.specs.Orders.{addr_cmp}
use Rattle.base_coins.specs.Coins.{amount_of}
use Rattle.base_roles.specs.declared.{entities.{Historical.Historical, Validator.Validator}, items.Item.Item}
use Rattle.base_roles.{specs.{Holdings.balance_of, Staked.{Staked, bonded_tokens}}, proofs.HoldingLemmas.balance-most}
use Rattle.base_roles.specs.declared.items.Item.TheVariants as item
use Rattle.rule_modules.specs.{Chain.State, Periods.{Periods, Rewards, history_kept, starts_of}, Sound.IsSound}
use Rattle.rule_modules.proofs.OrderLemmas.{same_itself}
use Rattle.rule_machine.specs.Items.{entry_items, ground_items, historical_items, items_of, reward_items, ring_of, shared_items, signing_items, staked_items}
use Rattle.rule_machine.proofs.PurseLemmas.{coins-amount, one-amount}
use Rattle.mod_tally.specs.{Laws.SoundStatesAreTallied, Taken.{CanBeTallied, delegation_in, staked_in, validator_in}}

-- ---- items that tell no validator and no delegation

abbrev IsOther : Item → Type 0
IsOther (item.Validator validator) = ⊥
IsOther (item.Delegation operator delegator shares) = ⊥
IsOther _ = Unit {0}

all_both : (xs ys : List Item) → AllByRecursion IsOther xs → AllByRecursion IsOther ys → AllByRecursion IsOther (xs ++ ys)
all_both [] ys h k = k
all_both (x ∷ xs) ys h k = (h.0, all_both xs ys h.1 k)

all_of : {A : Type 0} (f : A → Item) → ((a : A) → IsOther (f a)) → (xs : List A) → AllByRecursion IsOther (map f xs)
all_of f h [] = tt
all_of f h (x ∷ xs) = (h x, all_of f h xs)

all_of_each : {A : Type 0} (f : A → List Item) → ((a : A) → AllByRecursion IsOther (f a)) → (xs : List A) → AllByRecursion IsOther (flat_map f xs)
all_of_each f h [] = tt
all_of_each f h (x ∷ xs) = all_both (f x) (flat_map f xs) (h x) (all_of_each f h xs)

all_of_some : {A : Type 0} (f : A → Option Item) → ((a : A) (i : Item) → f a ≡ Some i → IsOther i) → (xs : List A) → AllByRecursion IsOther (filter_map f xs)
all_of_some f h [] = tt
all_of_some f h (x ∷ xs) = by (f x) refl (all_of_some f h xs)
  where
    by : (t : Option Item) → f x ≡ t → AllByRecursion IsOther (filter_map f xs) → AllByRecursion IsOther (cons_option t (filter_map f xs))
    by None is later = later
    by (Some i) is later = (h x i is, later)

history_other : (operator : List ℕ) (period : ℕ) (kept : Option Historical) (i : Item) → option_map (λ h. item.Historical operator period h) kept ≡ Some i → IsOther i
history_other operator period None i h = absurd cc
history_other operator period (Some kept) i h = subst IsOther (ap (λ t. unwrap_or t (item.Historical operator period kept)) h) tt

histories_other : (r : Rewards) (e : List ℕ × Periods) → AllByRecursion IsOther (historical_items r e)
histories_other r e = all_of_some _ (λ ended i h. history_other e.0 ended.0 (history_kept e.1 (starts_of r e.0) ended.0) i h) (reverse e.1.ratios)

rewards_other : (r : Rewards) → AllByRecursion IsOther (reward_items r)
rewards_other r =
    all_both _ _ (all_of _ (λ e. tt) r.periods)
    (all_both _ _ (all_of_each (historical_items r) (histories_other r) r.periods)
    (all_both _ _ (all_of _ (λ e. tt) r.starts) (all_of_each _ (λ e. all_of _ (λ event. tt) e.1.events) r.periods)))

module _ (w : State) where
  ground_other : AllByRecursion IsOther (ground_items w.view)
  ground_other = (tt, (tt, all_both _ _ (all_of _ (λ e. tt) w.view.bank.balances) (all_of _ (λ e. tt) w.view.bank.supplies)))

  -- all items behind validators and delegations
  abbrev behind : List Item
  behind = entry_items w.mine.unbondings w.mine.redelegations ++ (signing_items w.view.ctx.params.signed_blocks_window w.hooks.1 ++ shared_items w.hooks.0)

  behind_other : AllByRecursion IsOther behind
  behind_other =
      all_both _ _ (all_both _ _ (all_of _ (λ e. tt) w.mine.unbondings) (all_of _ (λ e. tt) w.mine.redelegations))
      (all_both _ _ (all_of _ (λ e. tt) w.hooks.1)
      (all_both _ _ (all_both _ _ (all_of _ (λ e. tt) w.hooks.0.purses.purses) (tt, tt)) (all_both _ _ (all_of _ (λ e. tt) w.hooks.0.withdraw) (rewards_other w.hooks.0.rewards))))

-- ---- what the items of a state tell

module _ {Y : Type 0} (tell : Item → Option Y) where
  told_front : (x : Item) (t : Option Y) (xs : List Item) (ys : List Y) → tell x ≡ t → filter_map tell xs ≡ ys → filter_map tell (x ∷ xs) ≡ cons_option t ys
  told_front x t xs ys h k = λ i. cons_option (h i) (k i)

  nothing_told : ((i : Item) → IsOther i → tell i ≡ None) → (xs : List Item) → AllByRecursion IsOther xs → filter_map tell xs ≡ []
  nothing_told blind [] h = refl
  nothing_told blind (x ∷ xs) h = told_front x None xs [] (blind x h.0) (nothing_told blind xs h.1)

  none_of : {A : Type 0} (f : A → Item) → ((a : A) → tell (f a) ≡ None) → (xs : List A) → filter_map tell (map f xs) ≡ []
  none_of f h [] = refl
  none_of f h (x ∷ xs) = told_front (f x) None (map f xs) [] (h x) (none_of f h xs)

  each_of : {A : Type 0} (f : A → Item) (g : A → Y) → ((a : A) → tell (f a) ≡ Some (g a)) → (xs : List A) → filter_map tell (map f xs) ≡ map g xs
  each_of f g h [] = refl
  each_of f g h (x ∷ xs) = told_front (f x) (Some (g x)) (map f xs) (map g xs) (h x) (each_of f g h xs)

  told_of_state : ((i : Item) → IsOther i → tell i ≡ None) → (w : State) (ys : List Y) → filter_map tell (staked_items w.mine.staked) ≡ ys → filter_map tell (items_of w) ≡ ys
  told_of_state blind w ys h =
      let before : filter_map tell (ground_items w.view) ≡ [] = nothing_told blind (ground_items w.view) (ground_other w) in
      let after : filter_map tell (behind w) ≡ [] = nothing_told blind (behind w) (behind_other w) in
      filter_map-append tell (ground_items w.view ++ staked_items w.mine.staked) (behind w)
      ∙ (λ i. filter_map-append tell (ground_items w.view) (staked_items w.mine.staked) i ++ after i)
      ∙ (λ i. (before i ++ h i) ++ [])
      ∙ append-nil ys

validator_blind : (i : Item) → IsOther i → validator_in i ≡ None
validator_blind (item.Validator validator) h = absurd h
validator_blind _ h = refl

delegation_blind : (i : Item) → IsOther i → delegation_in i ≡ None
delegation_blind (item.Delegation operator delegator shares) h = absurd h
delegation_blind _ h = refl

under_operators : (es : List (List ℕ × Validator)) → All (λ e. e.1.operator ≡ e.0) es → map (λ e. (e.1.operator, e.1)) es ≡ es
under_operators [] h = refl
under_operators (e ∷ es) h = λ i. (All-head (λ e. e.1.operator ≡ e.0) e es h i, e.1) ∷ under_operators es (All-tail (λ e. e.1.operator ≡ e.0) e es h) i

staked_told : (w : State) → All (λ e. e.1.operator ≡ e.0) w.mine.staked.validators → staked_in (items_of w) ≡ w.mine.staked
staked_told w named =
    let s : Staked = w.mine.staked in
    let validators : filter_map validator_in (items_of w) ≡ s.validators =
    told_of_state validator_in validator_blind w s.validators
    (filter_map-append validator_in (map (λ e. item.Validator e.1) s.validators) (map (λ e. item.Delegation e.0.0 e.0.1 e.1) s.delegations)
    ∙ (λ i. each_of validator_in (λ (e : List ℕ × Validator). item.Validator e.1) (λ e. (e.1.operator, e.1)) (λ e. refl) s.validators i ++ none_of validator_in (λ (e : (List ℕ × List ℕ) × ℕ). item.Delegation e.0.0 e.0.1 e.1) (λ e. refl) s.delegations i)
    ∙ append-nil (map (λ e. (e.1.operator, e.1)) s.validators)
    ∙ under_operators s.validators named) in
    let delegations : filter_map delegation_in (items_of w) ≡ s.delegations =
    told_of_state delegation_in delegation_blind w s.delegations
    (filter_map-append delegation_in (map (λ e. item.Validator e.1) s.validators) (map (λ e. item.Delegation e.0.0 e.0.1 e.1) s.delegations)
    ∙ (λ i. none_of delegation_in (λ (e : List ℕ × Validator). item.Validator e.1) (λ e. refl) s.validators i ++ each_of delegation_in (λ (e : (List ℕ × List ℕ) × ℕ). item.Delegation e.0.0 e.0.1 e.1) (λ e. e) (λ e. refl) s.delegations i)
    ∙ map-id s.delegations) in
    λ i. record { validators = validators i; delegations = delegations i }

-- ---- what a tally asks

bonded_most : (w : State) → IsSound w → bonded_tokens w.mine.staked ≤ 10 ^ 18
bonded_most w sound =
    let bond : List ℕ = w.view.ctx.params.bond_denom in
    let held : balance_of w.view.bank (account.Module holder.Bonded) bond ≡ bonded_tokens w.mine.staked =
    sym (coins-amount w.view.bank (account.Module holder.Bonded) bond)
    ∙ ap (λ c. amount_of c bond) sound.accounts.bonded
    ∙ one-amount bond bond (bonded_tokens w.mine.staked)
    ∙ ap (λ b. cond b (bonded_tokens w.mine.staked) 0) (same_itself bond) in
    let most : balance_of w.view.bank (account.Module holder.Bonded) bond ≤ 10 ^ 18 = balance-most w.view.bank (account.Module holder.Bonded) bond sound.ground.bank in
    omega arith

staked_can : (w : State) → IsSound w → CanBeTallied w.mine.staked
staked_can w sound = record {
  operators = IsDistinct-from_sorted addr_cmp (keys_of w.mine.staked.validators) sound.staked.validators_ascend;
  named = sound.staked.operators;
  shares = sound.staked.shares;
  tokens = bonded_most w sound;
}

pub sound_states_are_tallied : SoundStatesAreTallied
sound_states_are_tallied = λ w sound.
    let told : staked_in (items_of w) ≡ w.mine.staked = staked_told w sound.staked.operators in
    record { told = told; can = subst CanBeTallied (sym told) (staked_can w sound) }
