-- What stands of a pair behind a genesis that a recorder hears: it meets the log, and nobody was paid.
use Rattle.std.proofs.Common.{◌≡◌, ◌∙◌, ℕ, ◌+◌, ◌^◌, ◌<◌, ◌≤◌, List, [], ◌∷◌, ◌++◌, append-nil, length, refl, sym, ap, subst, arith, IfOk, Option, Some, None, Result, Ok, Err, is_some, true, unwrap_or}
use Rattle.std.specs.{List.Sorted.IsStrictlySortedBy, Map.values_of}
use Rattle.base_coins.specs.Coins.{Money}
use Rattle.base_decimals.specs.declared.over.Over.{Over}
use Rattle.base_messages.specs.declared.genesis.{Genesis.Genesis, GenesisDelegation.GenesisDelegation}
use Rattle.base_messages.specs.declared.genesis.GenesisValidator.{GenesisValidator}
use Rattle.base_roles.specs.declared.{entities.Validator.Validator, facts.Fact.Fact, refusal.Refusal.Refusal}
use Rattle.base_roles.specs.declared.refusal.Refusal.TheVariants.{NoValidator, Overflow}
use Rattle.base_roles.specs.{Flow.{◌>>=◌, each, or_stop, stopping}, Log.Log, Pair.{and_then, given_with}}
use Rattle.base_roles.specs.{Staked.{Staked, delegation, validator_at}, World.{View, Told, World, call, hooked}}
use Rattle.base_roles.specs.declared.calls.Hook.{Hook}
use Rattle.base_roles.specs.Log as log
use Rattle.base_roles.specs.declared.calls.Hook.TheVariants as hook
use Rattle.base_types.specs.declared.status.BondStatus.TheVariants.{Unbonded}
use Rattle.rule_machine.specs.GenesisConditions.{creation_of}
use Rattle.rule_machine.specs.GenesisState.{Start, chain_started, delegation_added, empty_over, ground_at_start, stake_added, validator_added, without_facts}
use Rattle.rule_machine.specs.Listening.{Hearing, Overheard, genesis_heard, heard_in, hearing, overheard_told, unheard}
use Rattle.rule_machine.{specs.Promises.{IsGoodGenesis, Replayed}, proofs.StakeLemmas.all-found}
use Rattle.rule_modules.specs.BondedSet.{joined_set, joining_of, leaving_of, left_set, set_updated}
use Rattle.rule_modules.specs.Chain.{Hooks, State, chain_told, staked_in, with_staked}
use Rattle.rule_modules.specs.Delegating.{delegated, hook_before, paid_in, pool, shares_given}
use Rattle.rule_modules.specs.Distribution.{Shared, current_taken, ended, left_by, told_of}
use Rattle.rule_modules.specs.{Periods.{period_ended, periods_of}, Validators.{new_validator, stored}}
use Rattle.rule_modules.{specs.Window.window_told, proofs.GoingLemmas.{from_if, on_bind, on_found, same_ok, step_parts}}
use Rattle.law_soundness.proofs.Halfway.{IsHalfway, all_to_come, further}
use Rattle.law_rewards.{specs.Withdrawals.payments_of, proofs.{Beginnings.went_on, Paying.logged_joined}}
use Rattle.law_rewards.proofs.Telling.{on_then}
use Rattle.mod_recorder.specs.Notes.{Noted, heard, nothing_noted}
use Rattle.mod_tracking.specs.{declared.tracker.Pair.Pair, Tracking.{Followed, Payment, followed, unpaid, untracked}}
use Rattle.law_statements.specs.{Runs.followed_first, Unheard.{RecorderChangesNothing, plainly}}
use Rattle.law_statements.proofs.{Blocks.StandsAt, Deeds.{ArePaidIn, Meets}, Holding.Holds, Hooks.{Goes, HoldsIn}}
use Rattle.law_statements.proofs.{Messages.overheard_is, Staking.{delegated_goes, set_holds, stored_goes}}
use Rattle.law_statements.proofs.Unhearing.{from_same, stake_same, validators_same}

-- ---- nobody was paid, by the log

abbrev IsUnpaid : Log → Type 0
IsUnpaid l = payments_of l ≡ []

unpaid_more : (l more : Log) → IsUnpaid l → IsUnpaid more → IsUnpaid (l ++ more)
unpaid_more l more h k = logged_joined l more ∙ ap (λ (fs : List Fact). fs ++ payments_of more) h ∙ k

something : (a b : List Fact) (f : Fact) → a ++ f ∷ b ≡ [] → ⊥
something [] b f h = cc
something (x ∷ a) b f h = cc

never_paid : (earlier later : Log) (operator who to : List ℕ) (full outstanding : Money) → IsUnpaid (earlier ++ (operator, log.withdrawn who to full outstanding) ∷ later) → ⊥
never_paid earlier later operator who to full outstanding h =
    something (payments_of earlier) (payments_of later) _ (sym (logged_joined earlier ((operator, log.withdrawn who to full outstanding) ∷ later)) ∙ h)

-- ---- the machine's rules log no payment where nobody had delegated

module _ {A E : Type 0} (f : A → World Staked Hooks → Result (World Staked Hooks) E) (one : (x : A) (w : World Staked Hooks) → IsUnpaid w.log → IfOk (f x w) (λ u. IsUnpaid u.log)) where
  each_unpaid : (xs : List A) (w : World Staked Hooks) → IsUnpaid w.log → IfOk (each f xs w) (λ u. IsUnpaid u.log)
  each_unpaid [] w h = h
  each_unpaid (x ∷ xs) w h = on_then {B = World Staked Hooks} (f x w) (λ t. each f xs t) (λ u. IsUnpaid u.log) (λ u. IsUnpaid u.log) (one x w h) (λ u k. each_unpaid xs u k)

validator_unpaid : (v : GenesisValidator) (w : World Staked Hooks) → IsUnpaid w.log → IfOk (validator_added chain_told v w) (λ u. IsUnpaid u.log)
validator_unpaid v w h = unpaid_more w.log ((v.operator, log.made) ∷ []) h refl

ended_unpaid : (val : Validator) (d : Shared) (u : View) → IfOk (ended val d u) (λ z. IsUnpaid z.3)
ended_unpaid val d u = on_bind (current_taken val d.purses) _ _ (λ t e. on_bind (period_ended t.0 (periods_of d.rewards val.operator)) _ _ (λ y m. refl))

-- the hook before a delegation that is new
starting_unpaid : (v : Validator) (who : List ℕ) (w : World Staked Hooks) → IsUnpaid w.log → IfOk (stopping Overflow (call chain_told (hook.Starting v who) w)) (λ x. IsUnpaid x.log)
starting_unpaid v who w h = by (ended v w.hooks.0 w.view) (ended_unpaid v w.hooks.0 w.view)
  where
    by : (r : Result (ℕ × Shared × View × Log) Over) → IfOk r (λ z. IsUnpaid z.3)
        → IfOk (stopping Overflow (hooked (and_then (told_of (left_by r)) (λ d u more. given_with d more (window_told w.hooks.1 (hook.Starting v who) u))) w)) (λ x. IsUnpaid x.log)
    by (Ok z) k = unpaid_more w.log (z.3 ++ []) h (ap payments_of (append-nil z.3) ∙ k)
    by (Err e) k = tt

delegated_unpaid : (x : Validator) (who : List ℕ) (n : ℕ) (w : World Staked Hooks) → delegation w.mine who x.operator ≡ None → IsUnpaid w.log → IfOk (delegated chain_told x who n (pool Unbonded) w) (λ z. IsUnpaid z.1.log)
delegated_unpaid x who n w none h =
    let held : Option ℕ = delegation w.mine who x.operator in
    on_bind (shares_given x n) _ _ (λ i e.
    on_then (stopping Overflow (call chain_told (hook_before x who held) w)) _ (λ y. IsUnpaid y.log) _
    (subst (λ (o : Option ℕ). IfOk (stopping Overflow (call chain_told (hook_before x who o) w)) (λ y. IsUnpaid y.log)) (sym none) (starting_unpaid x who w h)) (λ y s.
    on_bind (paid_in (pool Unbonded) who x.status n y.view) _ _ (λ u t. unpaid_more y.log _ s refl)))

-- its validator stands under its operator, and it is new
module _ (d : GenesisDelegation) (ds : List GenesisDelegation) (u : View) (w : World Staked Hooks) (half : IsHalfway (d ∷ ds) u w) (x : Validator) (f : validator_at w.mine d.validator ≡ Some x) where
  under : x.operator ≡ d.validator
  under = all-found (λ (e : List ℕ × Validator). e.1.operator ≡ e.0) d.validator x w.mine.validators half.starting.operators f

  stands : is_some (validator_at w.mine x.operator) ≡ true
  stands = ap (λ (o : List ℕ). is_some (validator_at w.mine o)) under ∙ ap is_some f

  new : delegation w.mine d.delegator x.operator ≡ None
  new = ap (delegation w.mine d.delegator) under ∙ half.new.none.0

delegations_unpaid : (ds : List GenesisDelegation) (u : View) (w : World Staked Hooks) → IsHalfway ds u w → IsUnpaid w.log → IfOk (each (delegation_added chain_told) ds w) (λ y. IsUnpaid y.log)
delegations_unpaid [] u w half h = h
delegations_unpaid (d ∷ ds) u w half h =
    on_bind {B = World Staked Hooks} (delegation_added chain_told d w) (λ t. each (delegation_added chain_told) ds t) (λ y. IsUnpaid y.log) (λ y e.
    delegations_unpaid ds u y (from_if (IsHalfway ds u) (delegation_added chain_told d w) y e (further d ds u w half)) (from_if (λ (z : World Staked Hooks). IsUnpaid z.log) (delegation_added chain_told d w) y e one))
  where
    one : IfOk (delegation_added chain_told d w) (λ y. IsUnpaid y.log)
    one =
        on_found (validator_at w.mine d.validator) NoValidator _ _ (λ x f.
        on_then (delegated chain_told x d.delegator d.amount (pool Unbonded) w) _ (λ z. IsUnpaid z.1.log) _ (delegated_unpaid x d.delegator d.amount w (new d ds u w half x f) h) (λ z k. k))

set_unpaid : (w : World Staked Hooks) → IsUnpaid w.log → IfOk (set_updated chain_told w) (λ u. IsUnpaid u.log)
set_unpaid w h =
    let joining : List Validator = joining_of w.view.ctx.params.power_reduction w.view.ctx.params.max_validators (values_of w.mine.validators) in
    let leaving : List Validator = leaving_of w.view.ctx.params.power_reduction w.view.ctx.params.max_validators (values_of w.mine.validators) in
    on_then (each (joined_set chain_told) joining w) _ (λ u. IsUnpaid u.log) _ (each_unpaid (joined_set chain_told) (λ v y k. unpaid_more y.log [] k refl) joining w h) (λ a ka.
    on_then (each (left_set chain_told) leaving a) _ (λ u. IsUnpaid u.log) _ (each_unpaid (left_set chain_told) (λ v y k. k) leaving a ka) (λ b kb. kb))

stake_unpaid : (g : Genesis) → IsGoodGenesis g → IfOk (stake_added chain_told g (staked_in (empty_over (ground_at_start g)))) (λ y. IsUnpaid y.log)
stake_unpaid g good =
    let u : View = ground_at_start g in
    let w : World Staked Hooks = staked_in (empty_over u) in
    on_bind {B = World Staked Hooks} (each (validator_added chain_told) g.validators w) (λ y. each (delegation_added chain_told) g.delegations y) (λ y. IsUnpaid y.log) (λ y e.
    delegations_unpaid g.delegations u y (from_if (IsHalfway g.delegations u) (each (validator_added chain_told) g.validators w) y e (all_to_come g good.no_condition))
    (from_if (λ (z : World Staked Hooks). IsUnpaid z.log) (each (validator_added chain_told) g.validators w) y e (each_unpaid (validator_added chain_told) validator_unpaid g.validators w refl)))

-- ---- the same, as a recorder hears it

module _ (nothing : RecorderChangesNothing) (p : Pair) where
  abbrev told : Overheard Noted → Hook → View → Told (Overheard Noted)
  told = overheard_told heard

  abbrev Runs : World Staked (Overheard Noted) → Type 0
  Runs s = Goes p None untracked 0 [] [] told (λ (h : Overheard Noted). h.0) overheard_is 0 s

  validators_go : (vs : List GenesisValidator) (s : World Staked (Overheard Noted)) → Runs s → IfOk (each (validator_added told) vs s) Runs
  validators_go [] s g = g
  validators_go (v ∷ vs) s g =
      on_bind {B = World Staked (Overheard Noted)} (validator_added told v s) (λ y. each (validator_added told) vs y) Runs (λ y e.
      let x : Validator = new_validator (creation_of s.view.ctx.params.bond_denom v) s.view.ctx.time in
      validators_go vs y (stored_goes p None untracked 0 [] [] told (λ h. h.0) overheard_is x s y (went_on Overflow (stored told x s) y e) g).0)

  delegations_go : (ds : List GenesisDelegation) (u : View) (s : World Staked (Overheard Noted)) → IsHalfway ds u (plainly s) → Runs s → IfOk (each (delegation_added told) ds s) Runs
  delegations_go [] u s half g = g
  delegations_go (d ∷ ds) u s half g =
      on_bind {B = World Staked (Overheard Noted)} (delegation_added told d s) (λ y. each (delegation_added told) ds y) Runs (λ y e.
      let same : delegation_added chain_told d (plainly s) ≡ Ok (plainly y) = from_same plainly (delegation_added chain_told d (plainly s)) (delegation_added told d s) y (nothing.delegations d s) e in
      delegations_go ds u y (from_if (IsHalfway ds u) (delegation_added chain_told d (plainly s)) (plainly y) same (further d ds u (plainly s) half)) (from_if Runs (delegation_added told d s) y e one))
    where
      one : IfOk (delegation_added told d s) Runs
      one =
          on_found (validator_at s.mine d.validator) NoValidator _ _ (λ x f.
          on_bind (delegated told x d.delegator d.amount (pool Unbonded) s) _ _ (λ z e.
          delegated_goes p None untracked 0 [] [] told (λ h. h.0) overheard_is x d.delegator d.amount (pool Unbonded) s z (stands d ds u (plainly s) half x f) e g))

  module _ (g : Genesis) (good : IsGoodGenesis g) where
    abbrev w0 : State
    w0 = empty_over (ground_at_start g)

    abbrev s0 : World Staked (Overheard Noted)
    s0 = staked_in (hearing nothing_noted w0)

    begins : Runs s0
    unfolding IsStrictlySortedBy
    begins = record {
      ascend = tt;
      ties = λ there. absurd cc;
      holds = record {
        before = λ s. refl;
        meets = λ s. record {
          due = unpaid untracked;
          due_is = refl;
          more = [];
          log_is = refl;
          within = tt;
          many = omega arith;
          few = omega arith;
          stands = record { spanned = refl; removals = omega arith; ratio = λ d. refl };
          payments = tt;
        };
      };
    }

    stake_goes : IfOk (stake_added told g s0) Runs
    stake_goes =
        on_bind {B = World Staked (Overheard Noted)} (each (validator_added told) g.validators s0) (λ y. each (delegation_added told) g.delegations y) Runs (λ y e.
        let same : each (validator_added chain_told) g.validators (plainly s0) ≡ Ok (plainly y) =
        from_same plainly (each (validator_added chain_told) g.validators (plainly s0)) (each (validator_added told) g.validators s0) y (validators_same nothing g s0) e in
        delegations_go g.delegations (ground_at_start g) y
        (from_if (IsHalfway g.delegations (ground_at_start g)) (each (validator_added chain_told) g.validators (plainly s0)) (plainly y) same (all_to_come g good.no_condition))
        (from_if Runs (each (validator_added told) g.validators s0) y e (validators_go g.validators s0 begins)))

  -- ---- what a genesis leaves

  -- Nobody is paid, and what stands of the pair meets the log.
  pub record IsFirst (start : Start) (first : Hearing Noted) : Type 0 where
    pub unpaid_so : followed_first p start (heard_in first) ≡ unpaid (followed_first p start (heard_in first)).tracked
    pub stands_so : StandsAt p (heard_in first) (followed_first p start (heard_in first)).tracked start.state.log

  no_payments : (more : Log) (pays : List Payment) → IsUnpaid more → ArePaidIn p None untracked 0 [] more pays → pays ≡ []
  no_payments more [] h k = refl
  no_payments more (pay ∷ pays) h k = absurd (never_paid k.0.earlier k.0.later p.operator p.delegator k.0.to k.0.full k.0.outstanding (subst IsUnpaid k.0.parts h))

  module _ (g : Genesis) where
    abbrev start_of : World Staked Hooks → Start
    start_of x = let done = with_staked (empty_over (ground_at_start g)).mine x in record { facts = done.view.facts; state = without_facts done }

    abbrev first_of : World Staked (Overheard Noted) → Hearing Noted
    first_of s = let done = with_staked (hearing nothing_noted (empty_over (ground_at_start g))).mine s in hearing (heard_in done) (without_facts (unheard done))

    first_so : (s : World Staked (Overheard Noted)) → HoldsIn p None untracked 0 [] [] told (λ h. h.0) overheard_is 0 s → IsUnpaid s.log → length s.hooks.0.1.notes < 2 ^ 64 → length s.view.facts < 2 ^ 64 → IsFirst (start_of (plainly s)) (first_of s)
    first_so s holds none notes facts =
        let m : Meets p None untracked 0 [] 0 s.hooks.0.1.notes s.view.facts s.log = holds.meets (notes, facts) in
        let due_is : followed_first p (start_of (plainly s)) (heard_in (first_of s)) ≡ m.due = m.due_is in
        let unpaid_due : m.due.payments ≡ [] = no_payments m.more m.due.payments (subst IsUnpaid m.log_is none) m.payments in
        record {
          unpaid_so = due_is ∙ ap (λ (l : List Payment). followed m.due.tracked l) unpaid_due ∙ ap (λ (f : Followed). unpaid f.tracked) (sym due_is);
          stands_so = subst (λ (f : Followed). StandsAt p (heard_in (first_of s)) f.tracked s.log) (sym due_is) (record { anew = holds.before (notes, facts); few = m.few; stands = m.stands });
        }

  pub genesis_is_first : (r : Replayed) (first : Hearing Noted) → genesis_heard heard r.genesis nothing_noted ≡ Ok first → length (heard_in first).notes < 2 ^ 64 → length r.start.facts < 2 ^ 64 → IsFirst r.start first
  genesis_is_first r first is notes facts =
      let g : Genesis = r.genesis in
      let x0 : World Staked (Overheard Noted) = s0 g r.good in
      let one = step_parts (stake_added told g x0) (λ s. stopping Overflow (set_updated told s) >>= λ t. Ok (first_of g t)) first is in
      let s1 : World Staked (Overheard Noted) = one.0 in
      let two = step_parts (stopping Overflow (set_updated told s1)) (λ t. Ok (first_of g t)) first one.2 in
      let s2 : World Staked (Overheard Noted) = two.0 in
      let set : set_updated told s1 ≡ Ok s2 = went_on Overflow (set_updated told s1) s2 two.1 in
      let first_is : first_of g s2 ≡ first = same_ok (first_of g s2) first two.2 in
      let staked : stake_added chain_told g (plainly x0) ≡ Ok (plainly s1) = from_same plainly (stake_added chain_told g (plainly x0)) (stake_added told g x0) s1 (stake_same nothing g x0) one.1 in
      let updated : set_updated chain_told (plainly s1) ≡ Ok (plainly s2) = from_same plainly (set_updated chain_told (plainly s1)) (set_updated told s1) s2 (nothing.sets s1) set in
      let started : chain_started g ≡ Ok (start_of g (plainly s2)) =
      ap (λ (q : Result (World Staked Hooks) Refusal). q >>= λ a. stopping Overflow (set_updated chain_told a) >>= λ b. Ok (start_of g b)) staked
      ∙ ap (λ (q : Result (World Staked Hooks) Over). stopping Overflow q >>= λ b. Ok (start_of g b)) updated in
      let start_is : r.start ≡ start_of g (plainly s2) = same_ok r.start (start_of g (plainly s2)) (sym r.started ∙ started) in
      let unpaid1 : IsUnpaid s1.log = from_if (λ (z : World Staked Hooks). IsUnpaid z.log) (stake_added chain_told g (plainly x0)) (plainly s1) staked (stake_unpaid g r.good) in
      let unpaid2 : IsUnpaid s2.log = from_if (λ (z : World Staked Hooks). IsUnpaid z.log) (set_updated chain_told (plainly s1)) (plainly s2) updated (set_unpaid (plainly s1) unpaid1) in
      let runs : Runs s1 = from_if Runs (stake_added told g x0) s1 one.1 (stake_goes g r.good) in
      let holds = set_holds p None untracked 0 [] [] told (λ h. h.0) overheard_is s1 s2 set runs.holds in
      let few_notes : length (heard_in (first_of g s2)).notes < 2 ^ 64 = subst (λ (y : Hearing Noted). length (heard_in y).notes < 2 ^ 64) (sym first_is) notes in
      let few_facts : length (start_of g (plainly s2)).facts < 2 ^ 64 = subst (λ (x : Start). length x.facts < 2 ^ 64) start_is facts in
      subst (λ (x : Start). IsFirst x first) (sym start_is) (subst (λ (y : Hearing Noted). IsFirst (start_of g (plainly s2)) y) first_is (first_so g s2 holds unpaid2 few_notes few_facts))
