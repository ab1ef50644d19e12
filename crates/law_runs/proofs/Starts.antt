-- What a genesis starts has reached accounts: its validators are new, and its delegations come by the rule of delegating.
use Rattle.std.proofs.Common.{◌≡◌, ◌∙◌, ℕ, ◌+◌, Bool, true, false, List, [], ◌∷◌, map, filter, Some, None, Option, Result, Ok, Err, refl, sym, ap, subst, arith, IfOk, Contains, sum, unwrap_or}
use Rattle.std.{specs.Map.keys_of, proofs.lemmas.List.Sums.sum_by-cons}
use Rattle.base_decimals.specs.declared.over.Over.{Over}
use Rattle.base_types.specs.{declared.status.BondStatus.TheVariants.Unbonded, Orders.addr_cmp}
use Rattle.base_coins.{specs.Coins.{IsMoney, amount_of}, proofs.Order.money-nil}
use Rattle.base_roles.specs.declared.{entities.{Purse.Purse, Validator.Validator}, params.Ctx.Ctx}
use Rattle.base_roles.specs.{declared.refusal.Refusal.{Refusal, TheVariants.{NoValidator, Overflow}}, Entries.at}
use Rattle.base_roles.specs.{Items.no_purse, Orders.same_addr}
use Rattle.base_roles.specs.Staked.{Staked, validator_at, delegation, put_validator, lists_of}
use Rattle.base_roles.specs.{Flow.{◌>>=◌, stopping, each}, World.{View, World}}
use Rattle.base_roles.specs.declared.messages.CreateValidator.{CreateValidator}
use Rattle.base_roles.specs.Log as log
use Rattle.base_messages.specs.declared.genesis.{GenesisDelegation.GenesisDelegation, GenesisValidator.GenesisValidator}
use Rattle.rule_machine.specs.GenesisConditions.{accounts_at_start, creation_of, start_condition}
use Rattle.rule_machine.specs.GenesisState.{Start, delegation_added, empty_over, ground_at_start, stake_added, validator_added, without_facts}
use Rattle.rule_machine.{specs.Genesis.held_at_start, proofs.{EnterLemmas.entering, StartLemmas.start_in_order}}
use Rattle.rule_modules.specs.{BondedSet.set_updated, Chain.{Hooks, State, chain_told, staked_in, with_staked}}
use Rattle.rule_modules.specs.{Delegating.{delegated, pool}, Periods.{Periods, initial_records}}
use Rattle.rule_modules.specs.{Validators.new_validator, Sound.{RedelegationsAreSound, UnbondingsAreSound}}
use Rattle.rule_modules.proofs.GoingLemmas.{on_found}
use Rattle.law_rewards.specs.Account.{Account, Start as Begun, IsReached, new_account}
use Rattle.law_rewards.specs.{States.{account_in, AreReached}, StateLaws.ReachedStays}
use Rattle.law_rewards.proofs.{Bonding.bonded_set_keeps_reached, Claims.{IsReady, AreLists}}
use Rattle.law_rewards.proofs.{Creating.{state_made, made_other}, Endings.{same_account, same_some}}
use Rattle.law_rewards.proofs.{Entries.{addr_is, put_there, put_elsewhere, history_behind}, Growing.delegated_reached}
use Rattle.law_rewards.proofs.{Hooked.opened, Reached.new_is_reached}
use Rattle.law_soundness.proofs.{Burns.total_in, Delegating.delegated_fits, Lists.weaker, Names.IsKnown}
use Rattle.law_soundness.proofs.{Points.{StakeFits, StateFits, from_fits}, Purses.own_purse, Rewards.own_periods}
use Rattle.law_soundness.proofs.Standing.{own_place}
use Rattle.law_soundness.proofs.Starting.{few_names, held_supplied, no_redelegations, no_unbondings, start_fits, validators_fit}
use Rattle.law_soundness.proofs.Steps.{if_ok, on_then, weaker_if}
use Rattle.law_runs.{specs.RunLaws.GenesisIsReached, proofs.Running.both_if}

-- ---- validators

-- a new validator's account, where nobody's rewards run
first_account : (d : List ℕ) (x : State) (m : CreateValidator) → x.hooks.0.rewards.starts ≡ []
    → account_in d (state_made x (new_validator m x.view.ctx.time)) (new_validator m x.view.ctx.time) ≡ new_account x.view.ctx.height
first_account d x m none =
    let v : Validator = new_validator m x.view.ctx.time in
    let op : List ℕ = m.validator in
    let a : Account = account_in d (state_made x v) v in
    same_account 0 0 a.height x.view.ctx.height a.current 0 a.commission 0 a.outstanding 0 a.periods initial_records a.starts [] a.history []
    refl
    (ap (λ o. amount_of (unwrap_or o no_purse).current d) (put_there op no_purse x.hooks.0.purses.purses))
    (ap (λ o. amount_of (unwrap_or o no_purse).commission d) (put_there op no_purse x.hooks.0.purses.purses))
    (ap (λ o. amount_of (unwrap_or o no_purse).outstanding d) (put_there op no_purse x.hooks.0.purses.purses))
    (ap (λ o. unwrap_or o initial_records) (put_there op initial_records x.hooks.0.rewards.periods))
    (ap (λ es. map (λ e. let s : Begun = record { who = e.0.1; shares = unwrap_or (delegation (put_validator v x.mine.staked) e.0.1 op) 0; info = e.1 } in s) (filter (λ e. same_addr e.0.0 op) es)) none)
    (history_behind op x.log log.made [])

first_at : (d : List ℕ) (x : State) (m : CreateValidator) (u : Validator) → x.hooks.0.rewards.starts ≡ [] → AreReached x
    → validator_at (put_validator (new_validator m x.view.ctx.time) x.mine.staked) u.operator ≡ Some u → (b : Bool) → same_addr u.operator m.validator ≡ b → IsReached d (account_in d (state_made x (new_validator m x.view.ctx.time)) u)
first_at d x m u none reached there true is =
    let v : Validator = new_validator m x.view.ctx.time in
    let t : Staked = put_validator v x.mine.staked in
    let one : u ≡ v = same_some u v (validator_at t u.operator) (validator_at t m.validator) there (put_there m.validator v x.mine.staked.validators) (ap (λ o. validator_at t o) (addr_is u.operator m.validator is)) in
    subst (λ y. IsReached d (account_in d (state_made x v) y)) (sym one) (subst (λ a. IsReached d a) (sym (first_account d x m none)) (new_is_reached d x.view.ctx.height))
first_at d x m u none reached there false is =
    let v : Validator = new_validator m x.view.ctx.time in
    subst (λ a. IsReached d a) (sym (made_other d x v u is)) (reached d u (sym (put_elsewhere m.validator u.operator v x.mine.staked.validators is) ∙ there))

validators_start : (vs : List GenesisValidator) (x : State) → x.hooks.0.rewards.starts ≡ [] → AreReached x → IfOk (each (validator_added chain_told) vs (staked_in x)) (λ y. AreReached (with_staked x.mine y))
validators_start [] x none reached = reached
validators_start (v ∷ vs) x none reached =
    let m : CreateValidator = creation_of x.view.ctx.params.bond_denom v in
    validators_start vs (state_made x (new_validator m x.view.ctx.time)) none (λ d u there. first_at d x m u none reached there (same_addr u.operator m.validator) refl)

-- ---- delegations

module _ (P : List ℕ → Type 0) (T : List ℕ → ℕ) where
  ready_stake : (b n : ℕ) (x : State) (op : List ℕ) → StakeFits P T b n (lists_of x.mine.staked) (staked_in x) → IsReady x op
  ready_stake b n x op h = record {
    current = current (at addr_cmp x.hooks.0.purses.purses op) refl;
    outstanding = outstanding (at addr_cmp x.hooks.0.purses.purses op) refl;
    lists = lists (at addr_cmp x.hooks.0.rewards.periods op) refl;
    starts = λ who. h.shared.stands.starts who op;
  }
    where
      current : (r : Option Purse) → at addr_cmp x.hooks.0.purses.purses op ≡ r → IsMoney (unwrap_or r no_purse).current
      current None e = money-nil
      current (Some p) e = (own_purse P x.hooks.0.purses.purses op p e h.shared.purses).current.money

      outstanding : (r : Option Purse) → at addr_cmp x.hooks.0.purses.purses op ≡ r → IsMoney (unwrap_or r no_purse).outstanding
      outstanding None e = money-nil
      outstanding (Some p) e = (own_purse P x.hooks.0.purses.purses op p e h.shared.purses).outstanding.money

      lists : (r : Option Periods) → at addr_cmp x.hooks.0.rewards.periods op ≡ r → AreLists (unwrap_or r initial_records)
      lists None e = (money-nil, tt)
      lists (Some p) e = weaker (λ q. IsKnown P q.1) (λ q. IsMoney q.1) (λ q k. k.money) p.ratios (own_periods P T x.view.ctx.height x.hooks.0.rewards.periods op p e h.shared.periods).lists

  -- what delegations leave
  record Added (n : ℕ) (x : State) (y : World Staked Hooks) : Type 0 where
    fits : StakeFits P T 0 n (lists_of y.mine) y
    ctx : y.view.ctx ≡ x.view.ctx
    reached : AreReached (with_staked x.mine y)

  delegations_start : (ds : List GenesisDelegation) (x : State) → StakeFits P T 0 (sum (map (λ d. d.amount) ds)) (lists_of x.mine.staked) (staked_in x) → AreReached x
      → IfOk (each (delegation_added chain_told) ds (staked_in x)) (Added 0 x)
  delegations_start [] x h reached = record { fits = h; ctx = refl; reached = reached }
  delegations_start (d ∷ ds) x h reached =
      let w : World Staked Hooks = staked_in x in
      let rest : ℕ = sum (map (λ e. e.amount) ds) in
      let all : sum (map (λ e. e.amount) (d ∷ ds)) ≡ rest + d.amount = turned _ d.amount rest (sum_by-cons (λ n. n) d.amount (map (λ e. e.amount) ds)) in
      let before : StakeFits P T 0 (rest + d.amount) (lists_of w.mine) w = subst (λ m. StakeFits P T 0 m (lists_of w.mine) w) all h in
      on_then {B = World Staked Hooks} (delegation_added chain_told d w) (λ t. each (delegation_added chain_told) ds t) (Added rest x) (Added 0 x)
      (on_found (validator_at w.mine d.validator) NoValidator _ _ (λ v f.
      let found : validator_at w.mine v.operator ≡ Some v = own_place P T w.view.ctx.height w.mine d.validator v h.staked f in
      on_then {B = World Staked Hooks} (delegated chain_told v d.delegator d.amount (pool Unbonded) w) (λ z. Ok z.1)
      (λ z. (StakeFits P T 0 rest (lists_of z.1.mine) z.1 × (z.1.view.ctx ≡ w.view.ctx)) × AreReached (with_staked x.mine z.1)) (Added rest x)
      (both_if (delegated chain_told v d.delegator d.amount (pool Unbonded) w) (λ z. StakeFits P T 0 rest (lists_of z.1.mine) z.1 × (z.1.view.ctx ≡ w.view.ctx)) (λ z. AreReached (with_staked x.mine z.1))
      (delegated_fits P T v d.delegator d.amount (pool Unbonded) 0 rest w before found)
      (if_ok (λ z. AreReached (with_staked x.mine z.1)) (delegated chain_told v d.delegator d.amount (pool Unbonded) w) (λ z e.
      delegated_reached x v d.delegator d.amount (pool Unbonded) z found (λ q told. opened x v d.delegator q (ready_stake 0 (rest + d.amount) x v.operator before) found told reached) e)))
      (λ z k. record { fits = k.0.0; ctx = k.0.1; reached = k.1 })))
      (λ y k. weaker_if (each (delegation_added chain_told) ds y) (Added 0 (with_staked x.mine y)) (Added 0 x) (delegations_start ds (with_staked x.mine y) k.fits k.reached)
      (λ z j. record { fits = j.fits; ctx = j.ctx ∙ k.ctx; reached = j.reached }))
    where
      turned : (a x r : ℕ) → a ≡ x + r → a ≡ r + x
      turned a x r e = omega (arith, e)

-- ---- the chain

-- the bonded set at the end of it
set_then : (m : State) (r : Result (World Staked Hooks) Over) → AreReached m → IfOk (r >>= λ s. let out : Result State Over = Ok (with_staked m.mine s) in out) (ReachedStays m)
    → IfOk (stopping Overflow r >>= λ s. let out : Result Start Refusal = Ok (record { facts = (with_staked m.mine s).view.facts; state = without_facts (with_staked m.mine s) }) in out) (λ s. AreReached s.state)
set_then m (Ok y) reached h = λ d u there. h reached d u there
set_then m (Err e) reached h = tt

nobody_yet : (v : View) → AreReached (empty_over v)
nobody_yet v d u there = absurd cc

pub genesis_is_reached : GenesisIsReached
genesis_is_reached = λ g good.
    let e : start_condition g ≡ None = good.no_condition in
    let v : View = ground_at_start g in
    let w : State = empty_over v in
    let names : List (List ℕ) = keys_of (held_at_start (accounts_at_start g)).supplies in
    let P : List ℕ → Type 0 = Contains names in
    let T : List ℕ → ℕ = total_in v in
    let total : ℕ = sum (map (λ d. d.amount) g.delegations) in
    on_then {B = Start} (stake_added chain_told g (staked_in w)) _ (Added P T 0 w) (λ s. AreReached s.state)
    (on_then {B = World Staked Hooks} (each (validator_added chain_told) g.validators (staked_in w)) (λ u. each (delegation_added chain_told) g.delegations u)
    (λ x. (StakeFits P T 0 total (lists_of x.mine) x × (x.view ≡ v)) × AreReached (with_staked w.mine x)) (Added P T 0 w)
    (both_if (each (validator_added chain_told) g.validators (staked_in w)) (λ x. StakeFits P T 0 total (lists_of x.mine) x × (x.view ≡ v)) (λ x. AreReached (with_staked w.mine x))
    (validators_fit P T g.validators total g.params (staked_in w) (entering g e) (start_fits P T g e (held_supplied (held_at_start (accounts_at_start g)) (start_in_order g e).bank) (λ d. refl)))
    (validators_start g.validators w refl (nobody_yet v)))
    (λ x k. weaker_if (each (delegation_added chain_told) g.delegations x) (Added P T 0 (with_staked w.mine x)) (Added P T 0 w) (delegations_start P T g.delegations (with_staked w.mine x) k.0.0 k.1)
    (λ y j. record { fits = j.fits; ctx = j.ctx ∙ ap (λ (q : View). q.ctx) k.0.1; reached = j.reached })))
    (λ x k.
    let m : State = with_staked w.mine x in
    let fits : StateFits P T m = record {
      stake = k.fits;
      unbondings = subst (λ (c : Ctx). UnbondingsAreSound c.height []) (sym k.ctx) (no_unbondings P T);
      redelegations = subst (λ (c : Ctx). RedelegationsAreSound c.height []) (sym k.ctx) (no_redelegations P T);
    } in
    set_then m (set_updated chain_told x) k.reached (bonded_set_keeps_reached m (from_fits m names T (few_names g e) fits)))
