-- What a listener hears of a genesis and of blocks.
use Rattle.std.proofs.Common.{◌≡◌, ◌∙◌, ℕ, ◌+◌, ◌<◌, List, [], drop, length, get_or, Some, Result, Ok, Err, refl, sym, ap, subst, Option}
use Rattle.std.specs.Prelude.{⊤}
use Rattle.base_decimals.specs.declared.over.Over.{Over}
use Rattle.base_messages.specs.declared.genesis.{Genesis.Genesis, GenesisDelegation.GenesisDelegation}
use Rattle.base_messages.specs.declared.genesis.GenesisValidator.{GenesisValidator}
use Rattle.base_roles.specs.declared.{entities.Validator.Validator, faults.HookFault.HookFault}
use Rattle.base_roles.specs.declared.{faults.MessageFault.MessageFault, refusal.Refusal.Refusal}
use Rattle.base_roles.specs.{declared.refusal.Refusal.TheVariants.{NoValidator, Overflow}, Answers.AnswersAs}
use Rattle.base_roles.specs.{Flow.{◌>>=◌, each, or_stop, stopping}, Staked.{Staked, validator_at}, World.{View, World}}
use Rattle.base_roles.specs.declared.calls.Hook.{Hook}
use Rattle.rule_machine.specs.GenesisConditions.{creation_of}
use Rattle.rule_machine.specs.GenesisState.{delegation_added, empty_over, ground_at_start, stake_added, validator_added, without_facts}
use Rattle.rule_machine.specs.Listening.{Hearing, Overheard, genesis_heard, heard_in, hearing, overheard_told, set_heard, unheard}
use Rattle.rule_modules.specs.{Answers.Leaves, BondedSet.set_updated}
use Rattle.rule_modules.specs.{Chain.{State, Stakes, chain_told, staked_in, with_staked}, Delegating.{delegated, pool}}
use Rattle.rule_modules.specs.{Distribution.Shared, Validators.{new_validator, stored}}
use Rattle.base_types.specs.declared.status.BondStatus.TheVariants.{Unbonded}
use Rattle.mod_signing.specs.Stands.{Signings}
use Rattle.mod_staking.specs.Calls.{over}
use Rattle.chain_modules.specs.{declared.modules.Modules.Modules, Heard.{Hears, HearsAfter, heard_hold, heard_tell}}
use Rattle.chain_modules.specs.Kept.{KeptState, Keeps, StandsFor, ground_of, hooks_hold, hooks_tell, kept_of, listener_of}
use Rattle.chain_modules.proofs.CarryLemmas.{carried, carried_by, carried_ok, delegated_carried, same_then, stored_carried, then_carried}
use Rattle.chain_modules.proofs.ErasingLemmas.{told_unheard, apart as unlistened}
use Rattle.chain_modules.proofs.HeardLemmas.{HeardAs, apart, heard_as, held, held_heard, hooked_apart, hooked_heard, led_apart, led_heard, log_again, silent_log, told_apart, told_heard, told_same}
use Rattle.chain_transactions.proofs.MessageLemmas.{next}
use Rattle.chain_whole.specs.{Answers.HasHeard, Founding.{IsAdded, StakeWorld, StakesHeard}}

-- an answer with another kind of error
stopped : {A B D E : Type 0} (g : A → B) (s : D → E) (r : Result A D) (q : Result B D) → q ≡ carried_ok g r → stopping s q ≡ carried_ok g (stopping s r)
stopped g s (Ok a) q e = ap (stopping s) e
stopped g s (Err d) q e = ap (stopping s) e

-- ---- one step of a genesis

ok_same : {A E : Type 0} (a b : A) → ◌≡◌ {A = Result A E} (Ok a) (Ok b) → a ≡ b
ok_same a b e = cc

not_ok : {A E : Type 0} (a : A) (why : E) → ◌≡◌ {A = Result A E} (Err why) (Ok a) → ⊥
not_ok a why e = absurd cc

module _ {E P : Type 0} (heard : E → P) (hears : P → Hook → View → P) (old new : Modules E) where
  -- what was heard of a step
  abbrev IsHeard : Result (World Staked (Overheard P)) Refusal → Type 0
  IsHeard (Ok s) = heard (listener_of new) ≡ s.hooks.0.1
  IsHeard (Err why) = ⊤

  -- a step that is represented without what was heard, and of which the listener heard
  added_heard : (c : Stakes) (q : Result (World Staked (Overheard P)) Refusal) (r : Result StakeWorld Refusal) → r ≡ carried_ok (carried (unlistened hears) []) q → IsAdded c r (kept_of new) → IsHeard q → StakesHeard heard c q new
  added_heard c (Ok s) r e z h =
      let same : z.0 ≡ carried (unlistened hears) [] s = sym (ok_same (carried (unlistened hears) [] s) z.0 (sym e ∙ z.1)) in
      (subst (λ x. Keeps (kept_of new) (with_staked c x)) same z.2, h)
  added_heard c (Err why) r e z h = absurd (not_ok z.0 why (sym e ∙ z.1))

  -- ---- a validator

  pub stored_apart : (x : Validator) (answer : Result ⊤ HookFault)
      → ((h : (Shared × P) × Signings) → heard_hold heard old.hooks h → Leaves (stored (heard_tell hears).told x (over old.stakes.staking.staked h (ground_of old))) new.stakes.staking.staked (heard_hold heard new.hooks) (ground_of new) answer)
      → (h : Shared × Signings) → hooks_hold old.hooks h → Leaves (stored hooks_tell.told x (over old.stakes.staking.staked h (ground_of old))) new.stakes.staking.staked (hooks_hold new.hooks) (ground_of new) answer
  stored_apart x = led_apart heard hears old new (stored hooks_tell.told x) (stored (heard_tell hears).told x) (stored_carried (apart hears) [] (heard_tell hears).told hooks_tell.told (told_apart hears) x)

  -- the validator that a genesis adds over a ground
  abbrev entrant : GenesisValidator → View → Validator
  entrant v w = new_validator (creation_of w.ctx.params.bond_denom v) w.ctx.time

  pub validator_hears : (v : GenesisValidator) (c : Stakes) (s : World Staked (Overheard P)) → Hears heard Keeps old (with_staked c s)
      → ((h : (Shared × P) × Signings) → heard_hold heard old.hooks h
      → Leaves (stored (heard_tell hears).told (entrant v (ground_of old)) (over old.stakes.staking.staked h (ground_of old))) new.stakes.staking.staked (heard_hold heard new.hooks) (ground_of new) (Ok tt))
      → IsAdded c (validator_added chain_told v (staked_in (unheard (with_staked c s)))) (kept_of new) → StakesHeard heard c (validator_added (overheard_told hears) v s) new
  validator_hears v c s k told added =
      let w : Hearing P = with_staked c s in
      let x : Validator = entrant v s.view in
      let f = stored (overheard_told hears) x in
      added_heard c (validator_added (overheard_told hears) v s) (validator_added chain_told v (staked_in (unheard w)))
      (stopped (carried (unlistened hears) []) Overflow (f s) (stored chain_told x (carried (unlistened hears) [] s)) (stored_carried (unlistened hears) [] (overheard_told hears) chain_told (told_unheard hears) x s)) added
      (by (f s)
      (led_heard heard hears old new f (stored (heard_tell hears).told x) w k.0
      (ap f (log_again hears w) ∙ stored_carried (λ (y : Overheard P). y) w.log (overheard_told hears) (overheard_told hears) (λ h hook u. told_same w.log (overheard_told hears h hook u)) x (silent_log hears w))
      (stored_carried (heard_as hears old.ground.ctx.params.signed_blocks_window) [] (overheard_told hears) (heard_tell hears).told (told_heard hears old.ground.ctx.params.signed_blocks_window) x (silent_log hears w)) (Ok tt)
      (subst (λ (u : View). Leaves (stored (heard_tell hears).told (entrant v u) (over old.stakes.staking.staked (held heard hears old new w) (ground_of old))) new.stakes.staking.staked (heard_hold heard new.hooks) (ground_of new) (Ok tt)) (sym k.0.view)
      (told (held heard hears old new w) (held_heard heard hears old new w k.0 k.1)))))
    where
      by : (r : Result (World Staked (Overheard P)) Over) → HeardAs hears {A = ⊤} {D = HookFault} (r >>= λ d. Ok (with_staked (with_staked c s).mine d)) (Ok tt) (heard (listener_of new)) → IsHeard (stopping Overflow r)
      by (Ok d) h = h
      by (Err over) h = tt

  -- ---- a delegation

  pub delegated_apart : (x : Validator) (who : List ℕ) (n : ℕ) (answer : Result ℕ MessageFault)
      → ((h : (Shared × P) × Signings) → heard_hold heard old.hooks h → AnswersAs (delegated (heard_tell hears).told x who n (pool Unbonded) (over old.stakes.staking.staked h (ground_of old))) new.stakes.staking.staked (heard_hold heard new.hooks) (ground_of new) answer)
      → (h : Shared × Signings) → hooks_hold old.hooks h → AnswersAs (delegated hooks_tell.told x who n (pool Unbonded) (over old.stakes.staking.staked h (ground_of old))) new.stakes.staking.staked (hooks_hold new.hooks) (ground_of new) answer
  delegated_apart x who n =
      hooked_apart heard hears old new (delegated hooks_tell.told x who n (pool Unbonded)) (delegated (heard_tell hears).told x who n (pool Unbonded)) (delegated_carried (apart hears) [] (heard_tell hears).told hooks_tell.told (told_apart hears) x who n (pool Unbonded))

  pub delegation_hears : (d : GenesisDelegation) (x : Validator) (issued : ℕ) (c : Stakes) (s : World Staked (Overheard P)) → Hears heard Keeps old (with_staked c s) → validator_at s.mine d.validator ≡ Some x
      → ((h : (Shared × P) × Signings) → heard_hold heard old.hooks h
      → AnswersAs (delegated (heard_tell hears).told x d.delegator d.amount (pool Unbonded) (over old.stakes.staking.staked h (ground_of old))) new.stakes.staking.staked (heard_hold heard new.hooks) (ground_of new) (Ok issued))
      → IsAdded c (delegation_added chain_told d (staked_in (unheard (with_staked c s)))) (kept_of new) → StakesHeard heard c (delegation_added (overheard_told hears) d s) new
  delegation_hears d x issued c s k found told added =
      let w : Hearing P = with_staked c s in
      let f = delegated (overheard_told hears) x d.delegator d.amount (pool Unbonded) in
      added_heard c (delegation_added (overheard_told hears) d s) (delegation_added chain_told d (staked_in (unheard w)))
      (same_then (carried (unlistened hears) []) (or_stop (validator_at s.mine d.validator) NoValidator) _ _ (λ v.
      then_carried (carried_by (unlistened hears) []) (carried (unlistened hears) []) (delegated (overheard_told hears) v d.delegator d.amount (pool Unbonded) s) (delegated chain_told v d.delegator d.amount (pool Unbonded) (carried (unlistened hears) [] s)) _ _
      (delegated_carried (unlistened hears) [] (overheard_told hears) chain_told (told_unheard hears) v d.delegator d.amount (pool Unbonded) s) (λ z. refl))) added
      (subst (λ (o : Option Validator). IsHeard (or_stop o NoValidator >>= λ v. delegated (overheard_told hears) v d.delegator d.amount (pool Unbonded) s >>= λ z. Ok z.1)) (sym found)
      (by (f s)
      (hooked_heard heard hears old new f (delegated (heard_tell hears).told x d.delegator d.amount (pool Unbonded)) w k.0
      (ap f (log_again hears w) ∙ delegated_carried (λ (y : Overheard P). y) w.log (overheard_told hears) (overheard_told hears) (λ h hook u. told_same w.log (overheard_told hears h hook u)) x d.delegator d.amount (pool Unbonded) (silent_log hears w))
      (delegated_carried (heard_as hears old.ground.ctx.params.signed_blocks_window) [] (overheard_told hears) (heard_tell hears).told (told_heard hears old.ground.ctx.params.signed_blocks_window) x d.delegator d.amount (pool Unbonded) (silent_log hears w)) (Ok issued)
      (told (held heard hears old new w) (held_heard heard hears old new w k.0 k.1)))))
    where
      by : (r : Result (ℕ × World Staked (Overheard P)) Refusal) → HeardAs hears {A = ℕ} {D = MessageFault} (r >>= λ z. Ok (with_staked (with_staked c s).mine z.1)) (Ok issued) (heard (listener_of new)) → IsHeard (r >>= λ z. Ok z.1)
      by (Ok z) h = h
      by (Err why) h = tt

-- ---- one step after another

module _ {E P : Type 0} (heard : E → P) where
  heard_gives : (c : Stakes) (m : Modules E) (q : Result (World Staked (Overheard P)) Refusal) → StakesHeard heard c q m → (s : World Staked (Overheard P)) × (q ≡ Ok s) × Hears heard Keeps m (with_staked c s)
  heard_gives c m (Ok s) h = (s, refl, h)
  heard_gives c m (Err why) h = absurd h

  module _ {A : Type 0} (f : A → World Staked (Overheard P) → Result (World Staked (Overheard P)) Refusal) (items : List A) where
    -- beside these entries, the steps before this place lead from what was heard first to what is heard now
    abbrev pub StepsHeard : ℕ → Modules E → Modules E → Type 0
    StepsHeard place old new = (c : Stakes) (s : World Staked (Overheard P)) → Hears heard Keeps old (with_staked c s)
        → (t : World Staked (Overheard P)) × Hears heard Keeps new (with_staked c t) × (each f (drop place items) t ≡ each f items s)

    pub step_heard : (place : ℕ) (x : A) (old new last : Modules E) → place < length items → x ≡ get_or items place x → StepsHeard place old new
        → ((c : Stakes) (t : World Staked (Overheard P)) → Hears heard Keeps new (with_staked c t) → StakesHeard heard c (f x t) last) → StepsHeard (place + 1) old last
    step_heard place x old new last lt is so one = λ c s k.
        let r = so c s k in
        let d = heard_gives c last (f x r.0) (one c r.0 r.1) in (
          d.0,
          d.2,
          ap (λ (z : Result (World Staked (Overheard P)) Refusal). z >>= λ t. each f (drop (place + 1) items) t) (sym d.1) ∙ ap (λ (l : List A). each f l r.0) (sym (next items place x lt is)) ∙ r.2,
        )

    pub steps_heard : (place : ℕ) (old new : Modules E) → drop place items ≡ [] → StepsHeard place old new → (c : Stakes) (s : World Staked (Overheard P)) → Hears heard Keeps old (with_staked c s) → StakesHeard heard c (each f items s) new
    steps_heard place old new end so c s k = let r = so c s k in subst (λ q. StakesHeard heard c q new) (ap (λ (l : List A). each f l r.0) (sym end) ∙ r.2) r.1

  -- validators and delegations, and then the bonded set
  pub stake_heard : (hears : P → Hook → View → P) (g : Genesis) (m0 m1 m2 m3 : Modules E)
      → ((c : Stakes) (s : World Staked (Overheard P)) → Hears heard Keeps m0 (with_staked c s) → StakesHeard heard c (each (validator_added (overheard_told hears)) g.validators s) m1)
      → ((c : Stakes) (s : World Staked (Overheard P)) → Hears heard Keeps m1 (with_staked c s) → StakesHeard heard c (each (delegation_added (overheard_told hears)) g.delegations s) m2)
      → ((w : Hearing P) → Hears heard Keeps m2 w → HearsAfter heard Keeps (set_heard hears w) m3) → (c : Stakes) (s : World Staked (Overheard P)) → Hears heard Keeps m0 (with_staked c s)
      → StakesHeard heard c (stake_added (overheard_told hears) g s >>= λ t. stopping Overflow (set_updated (overheard_told hears) t)) m3
  stake_heard hears g m0 m1 m2 m3 one two three c s k =
      let a = heard_gives c m1 (each (validator_added (overheard_told hears)) g.validators s) (one c s k) in
      let b = heard_gives c m2 (each (delegation_added (overheard_told hears)) g.delegations a.0) (two c a.0 a.2) in
      subst (λ (r : Result (World Staked (Overheard P)) Refusal). StakesHeard heard c (r >>= (λ u. each (delegation_added (overheard_told hears)) g.delegations u) >>= λ t. stopping Overflow (set_updated (overheard_told hears) t)) m3) (sym a.1)
      (subst (λ (r : Result (World Staked (Overheard P)) Refusal). StakesHeard heard c (r >>= λ t. stopping Overflow (set_updated (overheard_told hears) t)) m3) (sym b.1) (by (set_updated (overheard_told hears) b.0) (three (with_staked c b.0) b.2)))
    where
      by : (r : Result (World Staked (Overheard P)) Over) → HearsAfter heard Keeps (r >>= λ t. Ok (with_staked c t)) m3 → StakesHeard heard c (stopping Overflow r) m3
      by (Ok t) h = h
      by (Err over) h = h

  -- all of a genesis, from the modules of its accounts
  pub genesis_hears : (hears : P → Hook → View → P) (g : Genesis) (first done : Modules E) → Keeps (kept_of first) (empty_over (ground_at_start g))
      → ((c : Stakes) (s : World Staked (Overheard P)) → Hears heard Keeps first (with_staked c s) → StakesHeard heard c (stake_added (overheard_told hears) g s >>= λ t. stopping Overflow (set_updated (overheard_told hears) t)) done)
      → HasHeard (genesis_heard hears g (heard (listener_of first))) (heard (listener_of done))
  genesis_hears hears g first done keeps leads =
      let w : Hearing P = hearing (heard (listener_of first)) (empty_over (ground_at_start g)) in
      by (stake_added (overheard_told hears) g (staked_in w)) (leads w.mine (staked_in w) (keeps, refl))
    where
      made : World Staked (Overheard P) → Hearing P
      made t = let done = with_staked (empty_over (ground_at_start g)).mine t in hearing (heard_in done) (without_facts (unheard done))

      last : (r : Result (World Staked (Overheard P)) Over) → StakesHeard heard (empty_over (ground_at_start g)).mine (stopping Overflow r) done → HasHeard (stopping Overflow r >>= λ t. Ok (made t)) (heard (listener_of done))
      last (Ok t) h = h.1
      last (Err over) h = h

      by : (r : Result (World Staked (Overheard P)) Refusal) → StakesHeard heard (empty_over (ground_at_start g)).mine (r >>= λ t. stopping Overflow (set_updated (overheard_told hears) t)) done
          → HasHeard (r >>= λ t. stopping Overflow (set_updated (overheard_told hears) t) >>= λ u. Ok (made u)) (heard (listener_of done))
      by (Ok t) h = last (set_updated (overheard_told hears) t) h
      by (Err why) h = h

  -- what a step leaves with what was heard, the listener has heard
  pub has_heard : {F : Type 0} (stands : KeptState → State → Type 0) (m : Modules E) (q : Result (Hearing P) F) → HearsAfter heard stands q m → HasHeard q (heard (listener_of m))
  has_heard stands m (Ok w) h = h.1
  has_heard stands m (Err why) h = h
