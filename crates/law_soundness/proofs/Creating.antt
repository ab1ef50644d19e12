-- Creating a validator keeps a state sound.
use Rattle.std.proofs.Common.{◌≡◌, ◌∙◌, ℕ, ◌+◌, ◌≤◌, ◌==◌, Bool, true, false, cond, List, [], ◌∷◌, Some, None, Option, Result, Ok, refl, sym, ap, arith, ◌++◌, if◌then◌else◌, IfOk, is_some, nat_lt, nat_le}
use Rattle.std.{proofs.lemmas.List.Elements.recursion_from_All, specs.List.{AllByRecursion, Sorted.IsStrictlySortedBy}}
use Rattle.std.specs.Map.{keys_of}
use Rattle.base_types.specs.{declared.status.BondStatus.BondStatus, Orders.addr_cmp}
use Rattle.base_roles.specs.declared.entities.{Purse.Purse, StartingInfo.StartingInfo, Validator.Validator}
use Rattle.base_roles.specs.declared.messages.CreateValidator.{CreateValidator}
use Rattle.base_roles.specs.declared.refusal.Refusal.TheVariants.{WrongDenom, NonPositive, ValidatorExists, ConsKeyExists, CommissionRange, CommissionBelowMinimum, MinSelfNotPositive, SelfBelowMinimum, Overflow}
use Rattle.base_roles.specs.{Hooks.with_operator, Owing.Lists, Flow.{◌>>=◌, stopping}, World.{View, World, over_mine}}
use Rattle.base_roles.specs.{Entries.{at, with}, Items.no_purse, Orders.{pair_cmp, same_addr}}
use Rattle.base_roles.specs.Staked.{Staked, is_bonded, is_unbonded, lists_of, delegation, tokens_where, validator_by_cons, validator_at, put_validator}
use Rattle.base_roles.specs.StakeChanges.{of_bond}
use Rattle.base_roles.specs.declared.calls.Hook.TheVariants as hook
use Rattle.rule_modules.specs.{Delegating.{wallet, delegated, is_wrong}, Chain.{Hooks, State, chain_told, staked_in}}
use Rattle.rule_modules.specs.{Distribution.{Shared, records_made}, Effects.create_validator, Owed.entry_balances}
use Rattle.rule_modules.specs.{Periods.{Periods, Rewards, initial_records, ratio_at, start_of}, Sound.ValidatorIsSound}
use Rattle.rule_modules.specs.Validators.{are_out_of_range, new_validator, stored, created}
use Rattle.rule_modules.proofs.{GoingLemmas.on_stop, TotalLemmas.total_joined, EntryLemmas.{ascend-put, at-put, to_all}}
use Rattle.rule_modules.proofs.OrderLemmas.{addr_total, pair_total, same_back, same_is}
use Rattle.rule_modules.proofs.SoundLemmas.{IsSoundAt, exact_addr, found_itself, sound-joined}
use Rattle.rule_modules.proofs.TokenLemmas.{tokens-joined}
use Rattle.base_coins.specs.Coins.{amount_of, Money}
use Rattle.base_decimals.specs.declared.over.Over.{Over}
use Rattle.rule_machine.proofs.StakesLemmas.{new_is_sound, nobody_has}
use Rattle.law_soundness.proofs.{Delegating.{delegated_fits, state_with}, Hooking.{hook_gave, on_hook, stake_hooks}}
use Rattle.law_soundness.proofs.{Lists.{all_put, both_all, weaker}, Moves.{HooksFit, Leaves, keeps, stake_left}}
use Rattle.law_soundness.proofs.{Names.known_none, Periods.stands_first}
use Rattle.law_soundness.proofs.Points.{IsRecorded, PeriodsFit, PurseFits, StakeFits, StartFits, StateFits, StateLeft}
use Rattle.law_soundness.proofs.{Standing.stake_relisted, Steps.{and_also, on_then}}
use Rattle.law_soundness.specs.StepLaws.{CreatingKeepsSoundness}

pub none_is : {X : Type 0} (r : Option X) → is_some r ≡ false → r ≡ None
none_is None e = refl
none_is (Some x) e = absurd cc

-- a key joins
joined_there : {X : Type 0} (es : List (List ℕ × X)) (k q : List ℕ) (x : X) → is_some (at addr_cmp (with addr_cmp es k x) q) ≡ cond (same_addr k q) true (is_some (at addr_cmp es q))
joined_there es k q x = ap is_some (at-put addr_cmp addr_total es k q x ∙ ap (λ b. cond b (Some x) (at addr_cmp es q)) (same_back q k)) ∙ by (same_addr k q)
  where
    by : (b : Bool) → is_some (cond b (Some x) (at addr_cmp es q)) ≡ cond b true (is_some (at addr_cmp es q))
    by true = refl
    by false = refl

-- no start is of an operator for whom none is started
none_of : (r : Rewards) (op : List ℕ) → IsStrictlySortedBy pair_cmp (keys_of r.starts) → ((who : List ℕ) → is_some (start_of r who op) ≡ false) → AllByRecursion (λ e. same_addr e.0.0 op ≡ false) r.starts
none_of r op a h =
    recursion_from_All (λ (e : (List ℕ × List ℕ) × StartingInfo). same_addr e.0.0 op ≡ false) r.starts (to_all pair_cmp pair_total (λ (e : (List ℕ × List ℕ) × StartingInfo). same_addr e.0.0 op ≡ false) r.starts a (λ k s f. by k s f (same_addr k.0 op) refl))
  where
    by : (k : List ℕ × List ℕ) (s : StartingInfo) → at pair_cmp r.starts k ≡ Some s → (b : Bool) → same_addr k.0 op ≡ b → same_addr k.0 op ≡ false
    by k s f false e = e
    by k s f true e =
        let there : is_some (start_of r k.1 op) ≡ true = ap (λ o. is_some (at pair_cmp r.starts (o, k.1))) (sym (same_is k.0 op e)) ∙ ap is_some f in
        let both : true ≡ false = sym there ∙ h k.1 in
        absurd cc

module _ (P : List ℕ → Type 0) (T : List ℕ → ℕ) where
  first_periods : (height : ℕ) → PeriodsFit P height initial_records
  first_periods height = record {
    first = omega arith;
    most = omega arith;
    falling = (omega arith, tt);
    lists = (known_none P, tt);
    last = stands_first 0 [];
    growing = λ d a b l. flat d a b;
    events = tt;
    order = tt;
  }
    where
      nothing : (c : Bool) → cond {A = Money} c [] [] ≡ []
      nothing true = refl
      nothing false = refl

      flat : (d : List ℕ) (a b : ℕ) → amount_of (ratio_at ((0, []) ∷ []) a) d ≤ amount_of (ratio_at ((0, []) ∷ []) b) d
      flat d a b =
          let x : amount_of (ratio_at ((0, []) ∷ []) a) d ≡ 0 = ap (λ c. amount_of c d) (nothing (nat_le 0 a)) in
          let y : amount_of (ratio_at ((0, []) ∷ []) b) d ≡ 0 = ap (λ c. amount_of c d) (nothing (nat_le 0 b)) in
          omega (arith, x, y)

  -- the first hook: initial records and an empty purse
  pub made_leaves : (val : Validator) (v : View) (l : Lists) (d : Shared) → HooksFit P T v l d → l.operators val.operator ≡ false → ((who : List ℕ) → l.started who val.operator ≡ false)
      → Leaves P T v (with_operator val.operator true l) (records_made val d) v
  made_leaves val v l d h new none =
      let s = h.shared in
      let op = val.operator in
      let no_periods : at addr_cmp d.rewards.periods op ≡ None = none_is (at addr_cmp d.rewards.periods op) (s.stands.periods op ∙ new) in
      let no_purse_yet : at addr_cmp d.purses.purses op ≡ None = none_is (at addr_cmp d.purses.purses op) (s.stands.purses op ∙ new) in
      record {
        ctx = refl;
        ground = h.ground;
        bonded = λ e. refl;
        not_bonded = λ e. refl;
        owed = λ e. h.owed e ∙ more_nothing _ _ (amount_of d.purses.pool e) (total_joined addr_cmp addr_total (λ q. amount_of q.outstanding e) op no_purse d.purses.purses no_purse_yet);
        shared = record {
          stands = record {
            purses = λ o. joined_there d.purses.purses op o no_purse ∙ ap (λ b. cond (same_addr op o) true b) (s.stands.purses o);
            periods = λ o. joined_there d.rewards.periods op o initial_records ∙ ap (λ b. cond (same_addr op o) true b) (s.stands.periods o);
            starts = s.stands.starts;
          };
          purses_ascend = ascend-put addr_cmp addr_total d.purses.purses op no_purse s.purses_ascend;
          purses = all_put (λ (e : List ℕ × Purse). PurseFits P e.1) addr_cmp exact_addr op no_purse d.purses.purses (record { outstanding = known_none P; commission = known_none P; current = known_none P }) s.purses;
          pool = s.pool;
          periods_ascend = ascend-put addr_cmp addr_total d.rewards.periods op initial_records s.periods_ascend;
          periods = all_put (λ (e : List ℕ × Periods). PeriodsFit P v.ctx.height e.1) addr_cmp exact_addr op initial_records d.rewards.periods (first_periods v.ctx.height) s.periods;
          starts_ascend = s.starts_ascend;
          starts = weaker (λ e. ((p : Periods) → at addr_cmp d.rewards.periods e.0.0 ≡ Some p → StartFits v.ctx.height p e.1) × (same_addr e.0.0 op ≡ false))
              (λ e. (p : Periods) → at addr_cmp (with addr_cmp d.rewards.periods op initial_records) e.0.0 ≡ Some p → StartFits v.ctx.height p e.1)
              (λ e k p g. k.0 p (sym (at-put addr_cmp addr_total d.rewards.periods op e.0.0 initial_records ∙ ap (λ b. cond b (Some initial_records) (at addr_cmp d.rewards.periods e.0.0)) k.1) ∙ g)) d.rewards.starts
              (both_all (λ e. (p : Periods) → at addr_cmp d.rewards.periods e.0.0 ≡ Some p → StartFits v.ctx.height p e.1) (λ e. same_addr e.0.0 op ≡ false) d.rewards.starts s.starts
              (none_of d.rewards op s.starts_ascend (λ who. s.stands.starts who op ∙ none who)));
          payees = s.payees;
        };
      }
    where
      more_nothing : (t2 t p : ℕ) → t2 ≡ t + 0 → t + p ≡ t2 + p
      more_nothing t2 t p e = omega (arith, e)

  -- ---- a validator joins

  pub stake_joined : (b n : ℕ) (l : Lists) (w : World Staked Hooks) (v : Validator) → StakeFits P T b n l w → validator_at w.mine v.operator ≡ None
      → ((p : List ℕ) (x : Validator) → validator_at w.mine p ≡ Some x → x.cons ≡ v.cons → ⊥) → ValidatorIsSound w.view.ctx.height v → v.tokens ≡ 0 → v.shares ≡ 0 → is_unbonded v.status ≡ true
      → StakeFits P T b n l (over_mine (put_validator v) w)
  stake_joined b n l w v s new apart ok tokens shares unbonded =
      let same = λ (test : BondStatus → Bool). no_more test in
      record {
        ground = s.ground;
        staked = sound-joined w.view.ctx.height w.mine v s.staked new apart ok shares;
        bonded = λ d. s.bonded d ∙ ap (λ m. of_bond w.view d (m + b)) (same is_bonded);
        not_bonded = λ d. s.not_bonded d ∙ ap (λ m. of_bond w.view d (m + n)) (same (λ status. if is_bonded status then false else true));
        owed = s.owed;
        shared = s.shared;
        window = s.window;
        recorded = all_put (IsRecorded w.hooks.1) addr_cmp exact_addr v.operator v w.mine.validators (λ e. absurd (not_both e)) s.recorded;
      }
    where
      not_both : is_unbonded v.status ≡ false → ⊥
      not_both e = let both : true ≡ false = sym unbonded ∙ e in absurd cc

      by : (c : Bool) (x y : ℕ) → y ≡ x + cond c v.tokens 0 → x ≡ y
      by true x y e = omega (arith, e, tokens)
      by false x y e = omega (arith, e)

      no_more : (test : BondStatus → Bool) → tokens_where test w.mine.validators ≡ tokens_where test (with addr_cmp w.mine.validators v.operator v)
      no_more test = by (test v.status) _ _ (tokens-joined test v.operator v w.mine.validators new)

  -- nobody delegates to an operator that is none
  pub none_started : (height : ℕ) (s : Staked) (op : List ℕ) → IsSoundAt height s → validator_at s op ≡ None → (who : List ℕ) → is_some (delegation s who op) ≡ false
  none_started height s op h new who = by (delegation s who op) refl
    where
      by : (r : Option ℕ) → delegation s who op ≡ r → is_some r ≡ false
      by None e = refl
      by (Some k) e = let there : is_some (validator_at s op) ≡ true = h.existing (op, who) k e in let both : true ≡ false = sym there ∙ ap is_some new in absurd cc

  pub stored_fits : (b n : ℕ) (w : World Staked Hooks) (v : Validator) {B E : Type 0} (g : Over → E) (f : World Staked Hooks → Result B E) (Q : B → Type 0) → StakeFits P T b n (lists_of w.mine) w → validator_at w.mine v.operator ≡ None
      → ((p : List ℕ) (x : Validator) → validator_at w.mine p ≡ Some x → x.cons ≡ v.cons → ⊥) → ValidatorIsSound w.view.ctx.height v → v.tokens ≡ 0 → v.shares ≡ 0 → is_unbonded v.status ≡ true
      → ((x : World Staked Hooks) → x.mine ≡ put_validator v w.mine → x.view ≡ w.view → StakeFits P T b n (lists_of x.mine) x → IfOk (f x) Q)
      → IfOk (stopping g (stored chain_told v w) >>= f) Q
  stored_fits b n w v g f Q s new apart ok tokens shares unbonded next =
      let l = lists_of w.mine in
      let w1 : World Staked Hooks = over_mine (put_validator v) w in
      let joined = stake_joined b n l w v s new apart ok tokens shares unbonded in
      on_hook g (hook.Created v) w1 f (λ d u. Leaves P T w1.view (with_operator v.operator true l) d u × (u ≡ w.view)) Q (λ u. refl)
      (made_leaves v w1.view l w1.hooks.0 (stake_hooks P T b n l w1 joined) (ap is_some new) (none_started w.view.ctx.height w.mine v.operator s.staked new), refl)
      (λ d u k left. next (hook_gave w1 d u k) refl left.1
      (stake_relisted P T b n (with_operator v.operator true l) (lists_of w1.mine) (hook_gave w1 d u k) (stake_left P T b n l (with_operator v.operator true l) w1 d u (w1.log ++ k) joined left.0)
      (λ o. joined_there w.mine.validators v.operator o v) (λ who o. refl)))

  -- ---- the message

  created_fits : (m : CreateValidator) (w : World Staked Hooks) (n : ℕ) → StakeFits P T 0 n (lists_of w.mine) w → IfOk (created chain_told m w) (λ x. StakeFits P T 0 n (lists_of x.1.mine) x.1 × (x.1.view.ctx ≡ w.view.ctx))
  created_fits m w n h =
      on_stop (m.amount.amount == 0) NonPositive _ _ (λ a. on_stop (are_out_of_range m) CommissionRange _ _ (λ rates. on_stop (m.min_self_delegation == 0) MinSelfNotPositive _ _ (λ c.
      on_stop (nat_lt m.amount.amount m.min_self_delegation) SelfBelowMinimum _ _ (λ d. on_stop (nat_lt m.rate w.view.ctx.params.min_commission_rate) CommissionBelowMinimum _ _ (λ e.
      on_stop (is_some (validator_at w.mine m.validator)) ValidatorExists _ _ (λ new. on_stop (is_some (validator_by_cons w.mine m.cons)) ConsKeyExists _ _ (λ cons. on_stop (is_wrong m.amount w.view) WrongDenom _ _ (λ g.
      let v : Validator = new_validator m w.view.ctx.time in
      stored_fits 0 n w v Overflow (λ w1. delegated chain_told v m.validator m.amount.amount wallet w1 >>= λ x. Ok (tt, x.1)) (λ x. StakeFits P T 0 n (lists_of x.1.mine) x.1 × (x.1.view.ctx ≡ w.view.ctx)) h (none_is (validator_at w.mine m.validator) new)
      (λ p x f k. nobody_has m.cons w.mine.validators p x (none_is (validator_by_cons w.mine m.cons) cons) f k) (new_is_sound w.view.ctx.height m w.view.ctx.time rates) refl refl refl
      (λ x mine view k. on_then (delegated chain_told v m.validator m.amount.amount wallet x) (λ y. Ok (tt, y.1)) (λ y. StakeFits P T 0 n (lists_of y.1.mine) y.1 × (y.1.view.ctx ≡ x.view.ctx)) _
      (delegated_fits P T v m.validator m.amount.amount wallet 0 n x k (ap (λ s. validator_at s m.validator) mine ∙ found_itself w.mine v))
      (λ y j. and_also j.0 (j.1 ∙ ap (λ u. u.ctx) view)))))))))))

  pub create_fits : (m : CreateValidator) (w : State) → StateFits P T w → IfOk (create_validator m w) (StateLeft P T w)
  create_fits m w h =
      on_then (created chain_told m (staked_in w)) _ (λ x. StakeFits P T 0 (entry_balances w.mine.unbondings) (lists_of x.1.mine) x.1 × (x.1.view.ctx ≡ w.view.ctx)) _ (created_fits m (staked_in w) (entry_balances w.mine.unbondings) h.stake)
      (λ x k. state_with P T w x.1 h k.0 k.1)

pub creating_keeps_soundness : CreatingKeepsSoundness
creating_keeps_soundness m = keeps (create_validator m) (λ P T w h. create_fits P T m w h)
