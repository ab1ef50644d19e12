-- Validators whose unbonding is mature, and the bonded set made anew, keep a state sound.
use Rattle.std.proofs.Common.{◌≡◌, ◌∙◌, ℕ, ◌+◌, Bool, true, false, cond, List, [], ◌∷◌, Some, Ok, refl, ap, arith, ◌++◌, ◌&&◌, nat_le, if◌then◌else◌, IfOk, is_eq, Less}
use Rattle.std.{proofs.lemmas.List.Elements.recursion_from_All, specs.List.{AllByRecursion, Sorted.IsStrictlySortedBy}}
use Rattle.std.specs.Map.{keys_of, values_of}
use Rattle.base_types.specs.declared.status.BondStatus.{BondStatus, TheVariants.{Bonded, Unbonding, Unbonded}}
use Rattle.base_types.specs.Orders.{addr_cmp}
use Rattle.base_roles.specs.{declared.entities.Validator.Validator, Owing.Lists, Flow.each, World.{World, over_mine}}
use Rattle.base_roles.specs.{Entries.with, Orders.same_addr}
use Rattle.base_roles.specs.Staked.{Staked, is_bonded, lists_of, tokens_where, validator_at, put_validator}
use Rattle.base_roles.specs.StakeChanges.{of_bond}
use Rattle.base_roles.specs.declared.facts.Fact.TheVariants as fact
use Rattle.law_soundness.proofs.{Burns.quiet_behind, Delegating.{others, state_with}, Lists.{all_put, mapped_all}}
use Rattle.law_soundness.proofs.{Moves.keeps, Points.{IsRecorded, StakeFits, StateFits, StateLeft}, Purses.there_still}
use Rattle.law_soundness.proofs.{Removing.{StakeLeft, removed_if_fits}, Standing.{stake_relisted, stake_told}}
use Rattle.law_soundness.{proofs.Steps.{and_also, on_then, weaker_if}, specs.StepLaws.MaturingKeepsSoundness}
use Rattle.rule_modules.proofs.{EntryLemmas.to_all, OrderLemmas.{addr_total, same_back}}
use Rattle.rule_modules.proofs.SoundLemmas.{IsSoundAt, exact_addr, found-put, found_itself, sound-put}
use Rattle.rule_modules.proofs.{TokenLemmas.{counted, tokens-put}, OperatorLemmas.values_own}
use Rattle.rule_modules.specs.BondedSet.{HaveOwnOperators, matured, validators_matured}
use Rattle.rule_modules.specs.{Chain.{Hooks, State, chain_told, maturing_step, staked_in}, Owed.entry_balances}
use Rattle.rule_modules.specs.{Sound.ValidatorIsSound, Stakes.{is_unbonding, changed}, Unbonding.removed_if_empty}

-- ---- lists of validators of different operators

-- each stands, as it is, under its own operator
abbrev pub AllStand : Staked → List Validator → Type 0
AllStand s vs = AllByRecursion (λ v. validator_at s v.operator ≡ Some v) vs

-- they stand still after one of another operator changed
pub stand_still : (s t : Staked) (op : List ℕ) (vs : List Validator) → ((o : List ℕ) → same_addr op o ≡ false → validator_at t o ≡ validator_at s o) → AllByRecursion (λ u. same_addr op u.operator ≡ false) vs → AllStand s vs → AllStand t vs
stand_still s t op [] f a h = tt
stand_still s t op (v ∷ vs) f a h = (f v.operator a.0 ∙ h.0, stand_still s t op vs f a.1 h.1)

pub values_stand : (height : ℕ) (s : Staked) → IsSoundAt height s → AllStand s (values_of s.validators)
values_stand height s h = mapped_all (λ v. validator_at s v.operator ≡ Some v) (λ (e : List ℕ × Validator). e.1) s.validators
    (recursion_from_All (λ e. validator_at s e.1.operator ≡ Some e.1) s.validators (to_all addr_cmp addr_total (λ e. validator_at s e.1.operator ≡ Some e.1) s.validators h.validators_ascend (λ k v f. ap (validator_at s) (h.operators k v f) ∙ f)))

pub operators_are : (height : ℕ) (s : Staked) → IsSoundAt height s → AllByRecursion (λ e. e.1.operator ≡ e.0) s.validators
operators_are height s h = recursion_from_All (λ e. e.1.operator ≡ e.0) s.validators (to_all addr_cmp addr_total (λ e. e.1.operator ≡ e.0) s.validators h.validators_ascend h.operators)

module _ (P : List ℕ → Type 0) (T : List ℕ → ℕ) where
  -- ---- a validator of another status, whose tokens are in the same account

  stake_restated : (b n : ℕ) (l : Lists) (w : World Staked Hooks) (u v : Validator) → StakeFits P T b n l w → validator_at w.mine v.operator ≡ Some v → u.operator ≡ v.operator → u.cons ≡ v.cons → u.tokens ≡ v.tokens → u.shares ≡ v.shares
      → is_bonded u.status ≡ is_bonded v.status → ValidatorIsSound w.view.ctx.height u → IsRecorded w.hooks.1 (u.operator, u) → StakeFits P T b n l (over_mine (put_validator u) w)
  stake_restated b n l w u v s found operator cons tokens shares status ok recorded = record {
    ground = s.ground;
    staked = sound-put w.view.ctx.height u v w.mine s.staked f (record { operator = operator; cons = cons; shares = shares; sound = ok });
    bonded = λ d. s.bonded d ∙ ap (λ m. of_bond w.view d (m + b)) (same is_bonded status);
    not_bonded = λ d. s.not_bonded d ∙ ap (λ m. of_bond w.view d (m + n)) (same others (ap (λ c. if c then false else true) status));
    owed = s.owed;
    shared = s.shared;
    window = s.window;
    recorded = all_put (IsRecorded w.hooks.1) addr_cmp exact_addr u.operator u w.mine.validators recorded s.recorded;
  }
    where
      f : validator_at w.mine u.operator ≡ Some v
      f = ap (validator_at w.mine) operator ∙ found

      same : (test : BondStatus → Bool) → test u.status ≡ test v.status → tokens_where test w.mine.validators ≡ tokens_where test (with addr_cmp w.mine.validators u.operator u)
      same test e =
          let put : tokens_where test (with addr_cmp w.mine.validators u.operator u) + counted test v ≡ tokens_where test w.mine.validators + counted test u = tokens-put test u.operator v u w.mine.validators s.staked.validators_ascend f in
          let one : counted test u ≡ counted test v = (λ i. cond (e i) (tokens i) 0) in
          omega (arith, put, one)

  -- ---- mature validators

  unbonding_is : (s : BondStatus) → is_unbonding s ≡ true → is_bonded Unbonded ≡ is_bonded s
  unbonding_is Bonded e = absurd cc
  unbonding_is Unbonding e = refl
  unbonding_is Unbonded e = absurd cc

  pub unbonded_fits : (b n : ℕ) (w : World Staked Hooks) (v : Validator) → StakeFits P T b n (lists_of w.mine) w → validator_at w.mine v.operator ≡ Some v → is_unbonding v.status ≡ true
      → StakeFits P T b n (lists_of (changed v Unbonded w).mine) (changed v Unbonded w)
  unbonded_fits b n w v h found e =
      stake_told P T b n (lists_of put.mine) put (λ facts. facts ++ fact.Changed v.operator Unbonded ∷ []) (quiet_behind w.view.facts (fact.Changed v.operator Unbonded) (λ d. refl))
      (stake_relisted P T b n (lists_of w.mine) (lists_of put.mine) put (stake_restated b n (lists_of w.mine) w u v h found refl refl refl refl (unbonding_is v.status e) sound (λ f. absurd cc)) (λ o. there_still w.mine.validators v.operator o v u found) (λ who o. refl))
    where
      u : Validator
      u = record v { status = Unbonded }

      own : ValidatorIsSound w.view.ctx.height v
      own = h.staked.validators v.operator v found

      sound : ValidatorIsSound w.view.ctx.height u
      sound = record { max_rate = own.max_rate; rate = own.rate; max_change = own.max_change; tokens = own.tokens; empty = own.empty; unbonding_height = own.unbonding_height }

      put : World Staked Hooks
      put = over_mine (put_validator u) w

  pub matured_fits : (b n : ℕ) (w : World Staked Hooks) (v : Validator) → StakeFits P T b n (lists_of w.mine) w → validator_at w.mine v.operator ≡ Some v → IfOk (matured chain_told v w) (StakeLeft P T b n w v.operator)
  matured_fits b n w v h found = by (is_unbonding v.status) (nat_le v.unbonding_time w.view.ctx.time) refl
    where
      u : Validator
      u = record v { status = Unbonded }

      next : World Staked Hooks
      next = changed v Unbonded w

      by : (s t : Bool) → is_unbonding v.status ≡ s → IfOk (if s && t then removed_if_empty chain_told u next else Ok w) (StakeLeft P T b n w v.operator)
      by true true e =
          weaker_if (removed_if_empty chain_told u next) (StakeLeft P T b n next v.operator) (StakeLeft P T b n w v.operator) (removed_if_fits P T b n next u (unbonded_fits b n w v h found e) (found_itself w.mine u)) (λ x k. record {
            fits = k.fits;
            ctx = k.ctx;
            others = λ o f. k.others o f ∙ found-put w.mine u o ∙ ap (λ c. cond c (Some u) (validator_at w.mine o)) (same_back o v.operator ∙ f);
          })
      by true false e = record { fits = h; ctx = refl; others = λ o f. refl }
      by false t e = record { fits = h; ctx = refl; others = λ o f. refl }

  all_matured : (vs : List Validator) (b n : ℕ) (w : World Staked Hooks) → StakeFits P T b n (lists_of w.mine) w → AllStand w.mine vs → HaveOwnOperators vs → IfOk (each (matured chain_told) vs w) (λ x. StakeFits P T b n (lists_of x.mine) x × (x.view.ctx ≡ w.view.ctx))
  all_matured [] b n w h s a = (h, refl)
  all_matured (v ∷ vs) b n w h s a =
      on_then (matured chain_told v w) _ (StakeLeft P T b n w v.operator) _ (matured_fits b n w v h s.0) (λ x k.
      weaker_if (each (matured chain_told) vs x) (λ y. StakeFits P T b n (lists_of y.mine) y × (y.view.ctx ≡ x.view.ctx)) (λ y. StakeFits P T b n (lists_of y.mine) y × (y.view.ctx ≡ w.view.ctx))
      (all_matured vs b n x k.fits (stand_still w.mine x.mine v.operator vs k.others a.0 s.1) a.1) (λ y j. and_also j.0 (j.1 ∙ k.ctx)))

  pub maturing_fits : (w : State) → StateFits P T w → IfOk (maturing_step w) (StateLeft P T w)
  maturing_fits w h =
      let s = w.mine.staked in
      on_then (validators_matured chain_told (staked_in w)) _ (λ x. StakeFits P T 0 (entry_balances w.mine.unbondings) (lists_of x.mine) x × (x.view.ctx ≡ w.view.ctx)) _
      (all_matured (values_of s.validators) 0 (entry_balances w.mine.unbondings) (staked_in w) h.stake (values_stand w.view.ctx.height s h.stake.staked)
      (values_own s.validators h.stake.staked.validators_ascend (operators_are w.view.ctx.height s h.stake.staked)))
      (λ x k. state_with P T w x h k.0 k.1)

pub maturing_keeps_soundness : MaturingKeepsSoundness
maturing_keeps_soundness = keeps maturing_step (λ P T w h. maturing_fits P T w h)
