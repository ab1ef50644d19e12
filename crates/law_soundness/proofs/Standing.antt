-- Validators that stand as they were, but for a rate, a least self-delegation or a jail: edits and leaving jail keep a state
-- sound.
use Rattle.std.proofs.Common.{◌≡◌, ◌∙◌, ℕ, ◌+◌, ◌≤◌, Bool, true, false, cond, List, [], ◌∷◌, Some, None, Option, refl, sym, ap, subst, arith, ◌++◌, if◌then◌else◌, IfOk, not, nat_lt, nat_le, is_some, IsSome, ◌-◌}
use Rattle.std.{proofs.lemmas.Bool.Decides.nat_tests, specs.{BTreeMap.is_at, List.Sorted.IsStrictlySortedBy}}
use Rattle.std.specs.Map.{keys_of}
use Rattle.base_types.specs.{declared.status.BondStatus.BondStatus, Orders.addr_cmp}
use Rattle.base_roles.specs.declared.{entities.Validator.Validator, messages.EditValidator.EditValidator}
use Rattle.base_roles.specs.declared.refusal.Refusal.TheVariants.{NoValidator, CommissionBelowMinimum, CommissionTooSoon, CommissionAboveMax, CommissionStep, SelfBelowMinimum, MinSelfNotRaised, NoSelfDelegation, NotJailed}
use Rattle.base_roles.specs.{World.{World, over_view, over_mine}, Entries.with, Owing.Lists}
use Rattle.base_roles.specs.Staked.{Staked, is_bonded, is_unbonded, lists_of, delegation, tokens_where, validator_at, put_validator}
use Rattle.base_roles.specs.{StakeChanges.of_bond, declared.facts.Fact.Fact, Log.Log}
use Rattle.base_roles.specs.declared.facts.Fact.TheVariants as fact
use Rattle.base_decimals.specs.Decimals.{trunc_of}
use Rattle.law_soundness.proofs.{Burns.{SayNoMore, quiet_behind}, Lists.{all_put, looked_up}}
use Rattle.law_soundness.proofs.Moves.{keeps, ground_told}
use Rattle.law_soundness.proofs.{Points.{IsRecorded, SharedFits, StakeFits, StateFits, StateLeft}, Purses.there_still}
use Rattle.law_soundness.{proofs.Steps.on_then, specs.StepLaws.{EditsKeepSoundness, UnjailingKeepsSoundness}}
use Rattle.rule_modules.proofs.GoingLemmas.{on_found, on_next, on_stop}
use Rattle.rule_modules.proofs.{SoundLemmas.{IsSoundAt, exact_addr, sound-put}, TokenLemmas.{tokens-put, counted}}
use Rattle.rule_modules.specs.{Amounts.{over_facts, seconds}, Chain.{Hooks, State, staked_in}, Distribution.Shared}
use Rattle.rule_modules.specs.{Effects.{edit_validator, unjail}, Sound.ValidatorIsSound}
use Rattle.rule_modules.specs.Validators.{edit_formed, minimum_edited, rate_edited, edited}
use Rattle.rule_modules.specs.Window.{may_leave, signing_of, unjailed}
use Rattle.base_shares.specs.Shares.{value_even_of}

-- ---- validators that are put in their own place

-- the same tokens are owed where a validator of as many, of the same status, is put
pub same_tokens : (test : BondStatus → Bool) (s : Staked) (u v : Validator) → IsStrictlySortedBy addr_cmp (keys_of s.validators) → validator_at s u.operator ≡ Some v → u.tokens ≡ v.tokens → u.status ≡ v.status
    → tokens_where test (with addr_cmp s.validators u.operator u) ≡ tokens_where test s.validators
same_tokens test s u v a f t e =
    let put : tokens_where test (with addr_cmp s.validators u.operator u) + counted test v ≡ tokens_where test s.validators + counted test u = tokens-put test u.operator v u s.validators a f in
    let one : counted test u ≡ counted test v = (λ i. cond (test (e i)) (t i) 0) in
    omega (arith, put, one)

module _ (P : List ℕ → Type 0) (T : List ℕ → ℕ) where
  -- facts are told
  pub stake_told : (b n : ℕ) (l : Lists) (w : World Staked Hooks) (f : List Fact → List Fact) → SayNoMore w.view.facts (f w.view.facts) → StakeFits P T b n l w → StakeFits P T b n l (over_view (over_facts f) w)
  stake_told b n l w f q s = record {
    ground = ground_told P T f w.view q s.ground;
    staked = s.staked;
    bonded = s.bonded;
    not_bonded = s.not_bonded;
    owed = s.owed;
    shared = s.shared;
    window = s.window;
    recorded = s.recorded;
  }

  -- something is logged
  pub stake_logged : (b n : ℕ) (l : Lists) (w : World Staked Hooks) (k : Log) → StakeFits P T b n l w → StakeFits P T b n l (record { mine = w.mine; hooks = w.hooks; view = w.view; log = k })
  stake_logged b n l w k s = record {
    ground = s.ground;
    staked = s.staked;
    bonded = s.bonded;
    not_bonded = s.not_bonded;
    owed = s.owed;
    shared = s.shared;
    window = s.window;
    recorded = s.recorded;
  }

  -- distribution stands for the same operators and pairs, said otherwise
  pub relisted : (height : ℕ) (l l2 : Lists) (d : Shared) → SharedFits P height l d → ((o : List ℕ) → l2.operators o ≡ l.operators o) → ((who o : List ℕ) → l2.started who o ≡ l.started who o) → SharedFits P height l2 d
  relisted height l l2 d s f g = record {
    stands = record { purses = λ o. s.stands.purses o ∙ sym (f o); periods = λ o. s.stands.periods o ∙ sym (f o); starts = λ who o. s.stands.starts who o ∙ sym (g who o) };
    purses_ascend = s.purses_ascend;
    purses = s.purses;
    pool = s.pool;
    periods_ascend = s.periods_ascend;
    periods = s.periods;
    starts_ascend = s.starts_ascend;
    starts = s.starts;
    payees = s.payees;
  }

  -- the same under other lists
  pub stake_relisted : (b n : ℕ) (l l2 : Lists) (w : World Staked Hooks) → StakeFits P T b n l w → ((o : List ℕ) → l2.operators o ≡ l.operators o) → ((who o : List ℕ) → l2.started who o ≡ l.started who o) → StakeFits P T b n l2 w
  stake_relisted b n l l2 w s f g = record {
    ground = s.ground;
    staked = s.staked;
    bonded = s.bonded;
    not_bonded = s.not_bonded;
    owed = s.owed;
    shared = relisted w.view.ctx.height l l2 w.hooks.0 s.shared f g;
    window = s.window;
    recorded = s.recorded;
  }

  -- a validator stands as another did, but for what is no operator, address, status, tokens or shares
  pub record StandsFor (height : ℕ) (u v : Validator) : Type 0 where
    pub operator : u.operator ≡ v.operator
    pub cons : u.cons ≡ v.cons
    pub status : u.status ≡ v.status
    pub tokens : u.tokens ≡ v.tokens
    pub shares : u.shares ≡ v.shares
    pub sound : ValidatorIsSound height u

  -- what is found under an operator stands under its own
  pub own_place : (height : ℕ) (s : Staked) (o : List ℕ) (v : Validator) → IsSoundAt height s → validator_at s o ≡ Some v → validator_at s v.operator ≡ Some v
  own_place height s o v h f = ap (validator_at s) (h.operators o v f) ∙ f

  pub stake_standing : (b n : ℕ) (l : Lists) (w : World Staked Hooks) (u v : Validator) → StakeFits P T b n l w → validator_at w.mine v.operator ≡ Some v → StandsFor w.view.ctx.height u v → StakeFits P T b n l (over_mine (put_validator u) w)
  stake_standing b n l w u v s found k =
      let f : validator_at w.mine u.operator ≡ Some v = ap (validator_at w.mine) k.operator ∙ found in
      let same = λ (test : BondStatus → Bool). same_tokens test w.mine u v s.staked.validators_ascend f k.tokens k.status in
      record {
        ground = s.ground;
        staked = sound-put w.view.ctx.height u v w.mine s.staked f (record { operator = k.operator; cons = k.cons; shares = k.shares; sound = k.sound });
        bonded = λ d. s.bonded d ∙ ap (λ m. of_bond w.view d (m + b)) (sym (same is_bonded));
        not_bonded = λ d. s.not_bonded d ∙ ap (λ m. of_bond w.view d (m + n)) (sym (same (λ status. if is_bonded status then false else true)));
        owed = s.owed;
        shared = s.shared;
        window = s.window;
        recorded = all_put (IsRecorded w.hooks.1) addr_cmp exact_addr u.operator u w.mine.validators (λ e. recorded_as e) s.recorded;
      }
    where
      old : IsRecorded w.hooks.1 (v.operator, v)
      old = looked_up (IsRecorded w.hooks.1) (is_at (addr_cmp v.operator)) (λ x. IsRecorded w.hooks.1 (v.operator, x)) (λ o x t g. g) w.mine.validators v found s.recorded

      recorded_as : is_unbonded u.status ≡ false → IsSome (signing_of w.hooks.1 u.cons)
      recorded_as e = subst (λ c. IsSome (signing_of w.hooks.1 c)) (sym k.cons) (old (ap is_unbonded (sym k.status) ∙ e))

  -- the lists stay
  pub same_operators : (s : Staked) (u v : Validator) → validator_at s u.operator ≡ Some v → (o : List ℕ) → is_some (validator_at (put_validator u s) o) ≡ is_some (validator_at s o)
  same_operators s u v f o = there_still s.validators u.operator o v u f

  -- the same of a whole state
  pub state_standing : (w : State) (u v : Validator) (f : List Fact → List Fact) → SayNoMore w.view.facts (f w.view.facts) → StateFits P T w → validator_at w.mine.staked v.operator ≡ Some v → StandsFor w.view.ctx.height u v
      → StateLeft P T w (over_view (over_facts f) (over_mine (λ c. record c { staked = put_validator u w.mine.staked }) w))
  state_standing w u v f q h found k = record {
    fits = record {
      stake = stake_told 0 _ _ _ f q (stake_relisted 0 _ (lists_of w.mine.staked) (lists_of (put_validator u w.mine.staked)) _ (stake_standing 0 _ _ (staked_in w) u v h.stake found k)
          (same_operators w.mine.staked u v (ap (validator_at w.mine.staked) k.operator ∙ found)) (λ who o. refl));
      unbondings = h.unbondings;
      redelegations = h.redelegations;
    };
    whole = λ j. j;
    ctx = refl;
  }

  -- ---- edits

  itself : (height : ℕ) (v : Validator) → ValidatorIsSound height v → StandsFor height v v
  itself height v k = record { operator = refl; cons = refl; status = refl; tokens = refl; shares = refl; sound = k }

  at_most : (a n : ℕ) → nat_lt a n ≡ false → n ≤ a
  at_most a n e = grind (arith, nat_tests)

  rated : (height : ℕ) (r : Option ℕ) (time minimum : ℕ) (v : Validator) → ValidatorIsSound height v → IfOk (rate_edited r time minimum v) (λ u. StandsFor height u v)
  rated height None time minimum v k = itself height v k
  rated height (Some rate) time minimum v k =
      on_stop (nat_lt (time - v.commission.updated) (seconds 86400)) CommissionTooSoon _ _ (λ a. on_stop (nat_lt v.commission.max_rate rate) CommissionAboveMax _ _ (λ b.
      on_stop (nat_lt (v.commission.rate + v.commission.max_change) rate) CommissionStep _ _ (λ c. on_stop (nat_lt rate minimum) CommissionBelowMinimum _ _ (λ d. record {
        operator = refl;
        cons = refl;
        status = refl;
        tokens = refl;
        shares = refl;
        sound = record { max_rate = k.max_rate; rate = at_most v.commission.max_rate rate b; max_change = k.max_change; tokens = k.tokens; empty = k.empty; unbonding_height = k.unbonding_height };
      }))))

  with_minimum : (height : ℕ) (r : Option ℕ) (v : Validator) → ValidatorIsSound height v → IfOk (minimum_edited r v) (λ u. StandsFor height u v)
  with_minimum height None v k = itself height v k
  with_minimum height (Some n) v k = on_stop (nat_le n v.min_self) MinSelfNotRaised _ _ (λ a. on_stop (nat_lt v.tokens n) SelfBelowMinimum _ _ (λ b. record {
    operator = refl;
    cons = refl;
    status = refl;
    tokens = refl;
    shares = refl;
    sound = record { max_rate = k.max_rate; rate = k.rate; max_change = k.max_change; tokens = k.tokens; empty = k.empty; unbonding_height = k.unbonding_height };
  }))

  through : (height : ℕ) (a b c : Validator) → StandsFor height a b → StandsFor height b c → StandsFor height a c
  through height a b c s t = record { operator = s.operator ∙ t.operator; cons = s.cons ∙ t.cons; status = s.status ∙ t.status; tokens = s.tokens ∙ t.tokens; shares = s.shares ∙ t.shares; sound = s.sound }

  pub edit_fits : (m : EditValidator) (w : State) → StateFits P T w → IfOk (edit_validator m w) (StateLeft P T w)
  edit_fits m w h =
      let s = w.mine.staked in
      on_then (edited m w.view.ctx.time w.view.ctx.params.min_commission_rate s) _ (λ t. StateLeft P T w (over_mine (λ c. record c { staked = t }) w)) _
      (on_next (edit_formed m) _ _ (λ t e. on_found (validator_at s m.validator) NoValidator _ _ (λ v found.
      on_then (rate_edited m.rate w.view.ctx.time w.view.ctx.params.min_commission_rate v) _ (λ u. StandsFor w.view.ctx.height u v) _ (rated w.view.ctx.height m.rate w.view.ctx.time w.view.ctx.params.min_commission_rate v (h.stake.staked.validators m.validator v found))
      (λ u k. on_then (minimum_edited m.min_self_delegation u) _ (λ x. StandsFor w.view.ctx.height x u) _ (with_minimum w.view.ctx.height m.min_self_delegation u k.sound)
      (λ x j. state_standing w x v (λ facts. facts) (λ e. refl) h (own_place w.view.ctx.height s m.validator v h.stake.staked found) (through w.view.ctx.height x u v j k))))))
      (λ t k. k)

  -- ---- out of jail

  pub unjail_fits : (operator : List ℕ) (w : State) → StateFits P T w → IfOk (unjail operator w) (StateLeft P T w)
  unjail_fits operator w h =
      let s = w.mine.staked in
      on_then (unjailed operator w.hooks.1 s w.view) _ (λ x. StateLeft P T w (over_view (λ u. x.2) (over_mine (λ c. record c { staked = x.1 }) w))) _
      (on_found (validator_at s operator) NoValidator _ _ (λ v found. on_found (delegation s operator operator) NoSelfDelegation _ _ (λ held f.
      on_stop (nat_lt (trunc_of (value_even_of v.tokens v.shares held)) v.min_self) SelfBelowMinimum _ _ (λ a. on_stop (not v.jailed) NotJailed _ _ (λ b.
      on_next (may_leave w.view.ctx.time (signing_of w.hooks.1 v.cons)) _ _ (λ t c.
      let k : ValidatorIsSound w.view.ctx.height v = h.stake.staked.validators operator v found in
      state_standing w (record v { jailed = false }) v (λ facts. facts ++ fact.Unjailed operator ∷ []) (quiet_behind w.view.facts (fact.Unjailed operator) (λ e. refl)) h (own_place w.view.ctx.height s operator v h.stake.staked found)
      (record {
        operator = refl;
        cons = refl;
        status = refl;
        tokens = refl;
        shares = refl;
        sound = record { max_rate = k.max_rate; rate = k.rate; max_change = k.max_change; tokens = k.tokens; empty = k.empty; unbonding_height = k.unbonding_height };
      })))))))
      (λ x k. k)

pub edits_keep_soundness : EditsKeepSoundness
edits_keep_soundness m = keeps (edit_validator m) (λ P T w h. edit_fits P T m w h)

pub unjailing_keeps_soundness : UnjailingKeepsSoundness
unjailing_keeps_soundness operator = keeps (unjail operator) (λ P T w h. unjail_fits P T operator w h)
