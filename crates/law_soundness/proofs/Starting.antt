-- What a good genesis starts is sound.
use Rattle.std.proofs.Common.{◌≡◌, ◌∙◌, ℕ, ◌+◌, ◌*◌, ◌^◌, ◌<◌, ◌≤◌, Bool, true, false, cond, List, [], ◌∷◌, length, map, Some, None, Option, Ok, refl, sym, ap, subst, arith, nat_lt, sum, unwrap_or, All, IfOk, Contains}
use Rattle.std.specs.{BTreeMap.is_at, List.{AllByRecursion, Sorted.IsStrictlySortedBy}, Map.{keys_of, lookup}}
use Rattle.std.proofs.lemmas.{Bool.Decides.nat_tests, List.Elements.{All-nil, recursion_from_All, All-contains_itself}}
use Rattle.std.proofs.lemmas.List.Sums.{sum_by-cons}
use Rattle.base_types.specs.declared.{account.Account.Account, status.BondStatus.TheVariants.Unbonded}
use Rattle.base_types.specs.Orders.{denom_cmp}
use Rattle.base_types.specs.declared.account.Module.TheVariants as holder
use Rattle.base_roles.specs.declared.entities.{UnbondingEntry.UnbondingEntry, RedelegationEntry.RedelegationEntry}
use Rattle.base_roles.specs.declared.{entities.Validator.Validator, params.{Ctx.Ctx, Params.Params}}
use Rattle.base_roles.specs.{declared.refusal.Refusal.TheVariants.{NoValidator, Overflow}, Flow.each}
use Rattle.base_roles.specs.{World.{View, World}, Holdings.{Holdings, IsBacked, balance_of, supply_of, total_of}}
use Rattle.base_roles.specs.{Orders.place_cmp, Staked.{Staked, lists_of, validator_at}}
use Rattle.base_roles.proofs.HoldingLemmas.{balance-within, place_exact, place_total}
use Rattle.base_messages.specs.declared.genesis.{Genesis.Genesis, GenesisDelegation.GenesisDelegation}
use Rattle.base_messages.specs.declared.genesis.GenesisValidator.{GenesisValidator}
use Rattle.rule_machine.specs.Genesis.{held_at_start, supplies_with}
use Rattle.rule_machine.specs.GenesisConditions.{accounts_at_start, start_condition}
use Rattle.rule_machine.specs.GenesisState.{Start, ground_at_start, empty_over, validator_added, delegation_added, stake_added, chain_started}
use Rattle.rule_machine.specs.Promises.{IsGoodGenesis, Replayed, RunsAreSound, SuppliesFallByBurns, AccountsHoldWhatIsOwed}
use Rattle.rule_machine.proofs.EnterLemmas.{IsEntering, Enters, entering, one_enters}
use Rattle.rule_machine.proofs.StartLemmas.{may_start, start_in_order, modules_hold, no_stake, entrant}
use Rattle.rule_machine.proofs.StakesLemmas.{nobody_has}
use Rattle.rule_modules.specs.{Delegating.{pool, delegated}, BondedSet.set_updated}
use Rattle.rule_modules.specs.{Chain.{Hooks, chain_told, staked_in, with_staked}, Distribution.nothing_shared}
use Rattle.rule_modules.specs.Sound.{IsSound, RedelegationIsSound, RedelegationsAreSound, SigningIsSound, UnbondingIsSound, UnbondingsAreSound, WindowIsSound}
use Rattle.rule_modules.{specs.Window.Signing, proofs.{GoingLemmas.on_found, EntryLemmas.{from_all, to_all}}}
use Rattle.rule_modules.proofs.{OrderLemmas.same_back, SoundLemmas.none_sound}
use Rattle.base_coins.{proofs.{Amounts.is_equal, Order.same_name}, specs.Coins.{Money, amount_of}}
use Rattle.law_soundness.proofs.{Burns.total_in, Bank.AreHeld, Bonding.set_fits, Creating.stored_fits}
use Rattle.law_soundness.proofs.{Delegating.delegated_fits, Lists.{from_mapped, looked_up}, Names.known_none}
use Rattle.law_soundness.proofs.Points.{SharedFits, StakeFits, StateFits, from_fits}
use Rattle.law_soundness.proofs.{Running.{runs_burn, runs_keep_soundness}, Standing.own_place}
use Rattle.law_soundness.proofs.Steps.{and_also, from_if, on_lifted_then, on_then, weaker_if}
use Rattle.law_soundness.proofs.Transactions.{without_facts_fits}

-- ---- the denominations

-- a denomination of which there is some is among those of the supplies
supplied : (supplies : Money) (d : List ℕ) → 0 < amount_of supplies d → Contains (keys_of supplies) d
supplied supplies d some = by (lookup (is_at (denom_cmp d)) supplies) refl some
  where
    each_key : AllByRecursion (λ c. Contains (keys_of supplies) c.0) supplies
    each_key = from_mapped (Contains (keys_of supplies)) (λ (c : List ℕ × ℕ). c.0) supplies (recursion_from_All (Contains (keys_of supplies)) (keys_of supplies) (All-contains_itself (keys_of supplies)))

    by : (r : Option ℕ) → lookup (is_at (denom_cmp d)) supplies ≡ r → 0 < unwrap_or r 0 → Contains (keys_of supplies) d
    by None e p = absurd (omega (arith, p))
    by (Some n) e p = looked_up (λ (c : List ℕ × ℕ). Contains (keys_of supplies) c.0) (is_at (denom_cmp d)) (λ m. Contains (keys_of supplies) d) (λ k m t g. subst (Contains (keys_of supplies)) (sym (same_name d k (is_equal d k t))) g) supplies n e each_key

-- so is each of a balance
pub held_supplied : (h : Holdings) → IsBacked h → AreHeld (Contains (keys_of h.supplies)) h.balances
held_supplied h b =
    recursion_from_All (λ e. Contains (keys_of h.supplies) e.0.1) h.balances
    (to_all place_cmp place_total (λ e. Contains (keys_of h.supplies) e.0.1) h.balances b.balances_ascend (λ k n e.
    let some : 0 < n = from_all place_cmp place_total (λ (e : (Account × List ℕ) × ℕ). 0 < e.1) h.balances place_exact b.balances_positive k n e in
    let here : balance_of h k.0 k.1 ≡ n = ap (λ r. unwrap_or r 0) e in
    let within = balance-within h k.0 k.1 in
    let all = b.backed k.1 in
    supplied h.supplies k.1 (more n (balance_of h k.0 k.1) (total_of h k.1) (supply_of h k.1) some here within all)))
  where
    more : (n b t s : ℕ) → 0 < n → b ≡ n → b ≤ t → s ≡ t → 0 < s
    more n b t s p e l f = omega (arith, p, e, l, f)

names_few : (xs : Money) → length (keys_of xs) ≡ length xs
names_few [] = refl
names_few (x ∷ xs) = omega (arith, names_few xs)

module _ (P : List ℕ → Type 0) (T : List ℕ → ℕ) where
  -- ---- nobody at first

  empty_shared : SharedFits P 0 (lists_of no_stake) nothing_shared
  unfolding IsStrictlySortedBy
  empty_shared = record {
    stands = record { purses = λ o. refl; periods = λ o. refl; starts = λ who o. refl };
    purses_ascend = tt;
    purses = tt;
    pool = known_none P;
    periods_ascend = tt;
    periods = tt;
    starts_ascend = tt;
    starts = tt;
    payees = tt;
  }

  empty_window : WindowIsSound 0 []
  unfolding IsStrictlySortedBy
  empty_window = record { ascend = tt; records = All-nil (λ (e : List ℕ × Signing). SigningIsSound 0 e.1) }

  pub start_fits : (g : Genesis) → start_condition g ≡ None → AreHeld P (held_at_start (accounts_at_start g)).balances → ((d : List ℕ) → total_in (ground_at_start g) d ≡ T d) → StakeFits P T 0 (sum (map (λ d. d.amount) g.delegations)) (lists_of no_stake) (staked_in (empty_over (ground_at_start g)))
  start_fits g e held all =
      let v = ground_at_start g in
      let total = sum (map (λ d. d.amount) g.delegations) in
      let m = may_start g e in
      record {
        ground = record { order = start_in_order g e; held = held; total = all };
        staked = none_sound;
        bonded = λ d. modules_hold g m.accounts holder.Bonded d ∙ nothing (is_at (denom_cmp g.params.bond_denom) d);
        not_bonded = λ d. modules_hold g m.accounts holder.NotBonded d ∙ own (is_at (denom_cmp d) g.params.bond_denom) (is_at (denom_cmp g.params.bond_denom) d) (same_back d g.params.bond_denom) total;
        owed = λ d. ap (λ x. 10 ^ 18 * x) (modules_hold g m.accounts holder.Distribution d);
        shared = empty_shared;
        window = empty_window;
        recorded = tt;
      }
    where
      nothing : (b : Bool) → 0 ≡ cond {A = ℕ} b 0 0
      nothing true = refl
      nothing false = refl

      own : (a b : Bool) → a ≡ b → (t : ℕ) → cond {A = ℕ} a t 0 ≡ cond {A = ℕ} b (0 + t) 0
      own true true e t = omega arith
      own false false e t = refl
      own true false e t = absurd cc
      own false true e t = absurd cc

  -- ---- validators

  pub validators_fit : (todo : List GenesisValidator) (n : ℕ) (p : Params) (w : World Staked Hooks) → IsEntering p todo w.mine → StakeFits P T 0 n (lists_of w.mine) w
      → IfOk (each (validator_added chain_told) todo w) (λ x. StakeFits P T 0 n (lists_of x.mine) x × (x.view ≡ w.view))
  validators_fit [] n p w is h = (h, refl)
  validators_fit (x ∷ todo) n p w is h =
      let one : Enters p x todo w.mine w.view = one_enters p x todo w.mine w.view is in
      let v : Validator = entrant w.view x in
      stored_fits P T 0 n w v Overflow (λ t. each (validator_added chain_told) todo t) (λ y. StakeFits P T 0 n (lists_of y.mine) y × (y.view ≡ w.view)) h one.new
      (λ q y f c. nobody_has x.cons w.mine.validators q y one.new_cons f c)
      (record { max_rate = one.max_rate; rate = one.rate; max_change = one.max_change; tokens = omega arith; empty = λ z. refl; unbonding_height = omega arith }) refl refl refl
      (λ y mine view k. weaker_if (each (validator_added chain_told) todo y) (λ z. StakeFits P T 0 n (lists_of z.mine) z × (z.view ≡ y.view)) (λ z. StakeFits P T 0 n (lists_of z.mine) z × (z.view ≡ w.view))
      (validators_fit todo n p y (subst (IsEntering p todo) (sym mine) one.entering) k) (λ z j. and_also j.0 (j.1 ∙ view)))

  -- ---- delegations

  delegations_fit : (ds : List GenesisDelegation) (w : World Staked Hooks) → StakeFits P T 0 (sum (map (λ d. d.amount) ds)) (lists_of w.mine) w
      → IfOk (each (delegation_added chain_told) ds w) (λ x. StakeFits P T 0 0 (lists_of x.mine) x × (x.view.ctx ≡ w.view.ctx))
  delegations_fit [] w h = (h, refl)
  delegations_fit (d ∷ ds) w h =
      let rest : ℕ = sum (map (λ e. e.amount) ds) in
      let all : sum (map (λ e. e.amount) (d ∷ ds)) ≡ rest + d.amount = turned _ d.amount rest (sum_by-cons (λ n. n) d.amount (map (λ e. e.amount) ds)) in
      on_then {B = World Staked Hooks} (delegation_added chain_told d w) (λ t. each (delegation_added chain_told) ds t) (λ x. StakeFits P T 0 rest (lists_of x.mine) x × (x.view.ctx ≡ w.view.ctx))
      (λ y. StakeFits P T 0 0 (lists_of y.mine) y × (y.view.ctx ≡ w.view.ctx))
      (on_found (validator_at w.mine d.validator) NoValidator _ _ (λ v found.
      on_then {B = World Staked Hooks} (delegated chain_told v d.delegator d.amount (pool Unbonded) w) (λ x. Ok x.1) (λ x. StakeFits P T 0 rest (lists_of x.1.mine) x.1 × (x.1.view.ctx ≡ w.view.ctx)) (λ x. StakeFits P T 0 rest (lists_of x.mine) x × (x.view.ctx ≡ w.view.ctx))
      (delegated_fits P T v d.delegator d.amount (pool Unbonded) 0 rest w (subst (λ m. StakeFits P T 0 m (lists_of w.mine) w) all h) (own_place P T w.view.ctx.height w.mine d.validator v h.staked found)) (λ x k. k)))
      (λ x k. weaker_if (each (delegation_added chain_told) ds x) (λ y. StakeFits P T 0 0 (lists_of y.mine) y × (y.view.ctx ≡ x.view.ctx)) (λ y. StakeFits P T 0 0 (lists_of y.mine) y × (y.view.ctx ≡ w.view.ctx)) (delegations_fit ds x k.0) (λ y j. and_also j.0 (j.1 ∙ k.1)))
    where
      turned : (a x r : ℕ) → a ≡ x + r → a ≡ r + x
      turned a x r e = omega (arith, e)

  -- ---- the chain

  -- what starts fits, at height 0
  record StartedFits (s : Start) : Type 0 where
    fits : StateFits P (total_in s.state.view) s.state
    height : s.state.view.ctx.height ≡ 0

  pub no_unbondings : UnbondingsAreSound 0 []
  unfolding IsStrictlySortedBy
  no_unbondings = record {
    ascend = tt;
    some = All-nil (λ (p : (List ℕ × List ℕ) × List UnbondingEntry). 0 < length p.1);
    most = All-nil (λ (p : (List ℕ × List ℕ) × List UnbondingEntry). length p.1 ≤ 100);
    entries = All-nil (λ (p : (List ℕ × List ℕ) × List UnbondingEntry). All (UnbondingIsSound 0) p.1);
  }

  pub no_redelegations : RedelegationsAreSound 0 []
  unfolding IsStrictlySortedBy
  no_redelegations = record {
    ascend = tt;
    some = All-nil (λ (p : (List ℕ × List ℕ × List ℕ) × List RedelegationEntry). 0 < length p.1);
    most = All-nil (λ (p : (List ℕ × List ℕ × List ℕ) × List RedelegationEntry). length p.1 ≤ 100);
    entries = All-nil (λ (p : (List ℕ × List ℕ × List ℕ) × List RedelegationEntry). All (RedelegationIsSound 0) p.1);
  }

  chain_fits : (g : Genesis) → start_condition g ≡ None → AreHeld P (held_at_start (accounts_at_start g)).balances → ((d : List ℕ) → total_in (ground_at_start g) d ≡ T d) → IfOk (chain_started g) StartedFits
  chain_fits g e held all =
      let v = ground_at_start g in
      let w = empty_over v in
      on_then (stake_added chain_told g (staked_in w)) _ (λ x. StakeFits P T 0 0 (lists_of x.mine) x × (x.view.ctx ≡ v.ctx)) _
      (on_then {B = World Staked Hooks} (each (validator_added chain_told) g.validators (staked_in w)) (λ u. each (delegation_added chain_told) g.delegations u)
      (λ x. StakeFits P T 0 (sum (map (λ d. d.amount) g.delegations)) (lists_of x.mine) x × (x.view ≡ v)) (λ x. StakeFits P T 0 0 (lists_of x.mine) x × (x.view.ctx ≡ v.ctx))
      (validators_fit g.validators (sum (map (λ d. d.amount) g.delegations)) g.params (staked_in w) (entering g e) (start_fits g e held all))
      (λ x k. weaker_if (each (delegation_added chain_told) g.delegations x) (λ y. StakeFits P T 0 0 (lists_of y.mine) y × (y.view.ctx ≡ x.view.ctx)) (λ y. StakeFits P T 0 0 (lists_of y.mine) y × (y.view.ctx ≡ v.ctx))
      (delegations_fit g.delegations x k.0) (λ y j. and_also j.0 (j.1 ∙ ap (λ (u : View). u.ctx) k.1)))) (λ x k.
      on_lifted_then Overflow (set_updated chain_told x) _ (λ y. StakeFits P T 0 0 (lists_of y.mine) y × (y.view.ctx ≡ x.view.ctx)) _ (set_fits P T 0 0 x k.0) (λ y j.
      let ctx : y.view.ctx ≡ v.ctx = j.1 ∙ k.1 in
      record {
        fits = without_facts_fits P T (with_staked w.mine y) (record {
          stake = j.0;
          unbondings = subst (λ (c : Ctx). UnbondingsAreSound c.height []) (sym ctx) no_unbondings;
          redelegations = subst (λ (c : Ctx). RedelegationsAreSound c.height []) (sym ctx) no_redelegations;
        });
        height = ap (λ (c : Ctx). c.height) ctx;
      }))

-- ---- good geneses, and runs

pub few_names : (g : Genesis) → start_condition g ≡ None → length (keys_of (held_at_start (accounts_at_start g)).supplies) ≤ 1_000_000
few_names g e =
    let m = may_start g e in
    let supplies = supplies_with (accounts_at_start g) [] in
    at_most (length (keys_of supplies)) (length supplies) _ (names_few supplies) m.not_too_many
  where
    at_most : (k n b : ℕ) → k ≡ n → nat_lt 1_000_000 (n + b) ≡ false → k ≤ 1_000_000
    at_most k n b e f = grind (arith, nat_tests)

-- what a good genesis starts, where it starts something
pub record IsWellStarted (s : Start) : Type 0 where
  pub sound : IsSound s.state
  pub height : s.state.view.ctx.height ≡ 0

well_started : (g : Genesis) → start_condition g ≡ None → IfOk (chain_started g) IsWellStarted
well_started g e =
    let h = held_at_start (accounts_at_start g) in
    let P : List ℕ → Type 0 = Contains (keys_of h.supplies) in
    let T : List ℕ → ℕ = total_in (ground_at_start g) in
    weaker_if (chain_started g) (StartedFits P T) IsWellStarted (chain_fits P T g e (held_supplied h (start_in_order g e).bank) (λ d. refl)) (λ s k. record { sound = from_fits s.state (keys_of h.supplies) (total_in s.state.view) (few_names g e) k.fits; height = k.height })

pub geneses_start_sound : (g : Genesis) → IsGoodGenesis g → IfOk (chain_started g) (λ s. IsSound s.state)
geneses_start_sound g good = weaker_if (chain_started g) IsWellStarted (λ s. IsSound s.state) (well_started g good.no_condition) (λ s k. k.sound)

pub started_well : (r : Replayed) → IsWellStarted r.start
started_well r = from_if IsWellStarted (chain_started r.genesis) r.start r.started (well_started r.genesis r.good.no_condition)

pub room : (h n : ℕ) → h ≡ 0 → n < 2 ^ 63 → h + n < 2 ^ 63
room h n e l = omega (arith, e, l)

pub runs_are_sound : RunsAreSound
runs_are_sound r =
    let s = started_well r in
    runs_keep_soundness r.blocks r.start.state r.input s.sound (room r.start.state.view.ctx.height (length r.blocks) s.height r.input.few)

pub supplies_fall_by_burns : SuppliesFallByBurns
supplies_fall_by_burns r =
    let s = started_well r in
    runs_burn r.blocks r.start.state r.input s.sound (room r.start.state.view.ctx.height (length r.blocks) s.height r.input.few)

pub accounts_hold_what_is_owed : AccountsHoldWhatIsOwed
accounts_hold_what_is_owed r = ((started_well r).sound.accounts, (runs_are_sound r).accounts)
