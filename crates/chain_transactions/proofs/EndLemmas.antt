-- From what a module's call answers and leaves to what a message of the whole machine does.
use Rattle.std.proofs.Common.{◌≡◌, ◌∙◌, ℕ, List, [], Result, Ok, Err, refl, sym, ap, subst, OnOk, IfOk, All, Contains}
use Rattle.std.{specs.Prelude.⊤, proofs.lemmas.List.Elements.All-from_recursion}
use Rattle.base_coins.specs.declared.coin.Coin.{Coin}
use Rattle.base_roles.specs.declared.{faults.MessageFault.MessageFault, messages.CreateValidator.CreateValidator}
use Rattle.base_roles.specs.declared.{params.Ctx.Ctx, refusal.Refusal.Refusal}
use Rattle.base_roles.specs.{Answers.{AnswersAs, AsRuled, StopsForMemory, RefusesAs}, Staked.Staked, Flow.{◌>>=◌}}
use Rattle.base_roles.specs.World.{World}
use Rattle.rule_modules.specs.Chain.{Hooks, State, Stakes, chain_told, staked_in, with_staked}
use Rattle.rule_modules.specs.{Delegating.delegated_by, Distribution.Shared}
use Rattle.rule_modules.specs.Effects.{Effect, create_validator, delegate, undelegate, begin_redelegate, cancel_unbonding}
use Rattle.rule_modules.specs.{StepLaws.AreWhole, Redelegations.{RedelegationLists, redelegated}, Sound.IsSound}
use Rattle.rule_modules.specs.{Unbondings.{UnbondingLists, cancelled, undelegated}, Validators.created}
use Rattle.mod_staking.specs.Calls.{over}
use Rattle.mod_entries.specs.Answers.{AnswersBoth}
use Rattle.base_messages.specs.declared.message.Msg.{Msg}
use Rattle.base_messages.specs.declared.message.Msg.TheVariants as msg
use Rattle.rule_machine.specs.{Messages.effect_of, Promises.MessageHasCoins}
use Rattle.law_soundness.proofs.{Burns.total_in, Leaving.to_whole, Lists.weaker}
use Rattle.law_soundness.proofs.{Points.{AreAllWhole, MessageLeft, WholeEntries, from_fits, to_fits}, Steps.weaker_if}
use Rattle.law_soundness.proofs.Transactions.{message_fits}
use Rattle.mod_signing.specs.Stands.{Signings}
use Rattle.chain_modules.specs.declared.modules.Modules.{Modules}
use Rattle.chain_modules.specs.Kept.{KeptState, Keeps, StandsWhole, AreSteady, ground_of, hooks_hold, hooks_tell, kept_of}
use Rattle.chain_modules.specs.Marks.{GoOn}
use Rattle.chain_modules.proofs.CarryLemmas.{cancelled_carried, carried, carried_by, carried_ok, carried_with, created_carried, delegated_by_carried, redelegated_carried, undelegated_carried}
use Rattle.chain_modules.proofs.HookLemmas.{answers_on, held_as, logged_again, told_as, told_itself, unlogged}
use Rattle.chain_transactions.{specs.Answers.MessageEnds, proofs.MessageLemmas.done}

-- ---- what the laws give of a state after a message

pub from_whole : (w : State) → AreAllWhole w → AreWhole w
from_whole w h =
    All-from_recursion (λ p. All (λ e. e.created ≡ w.view.ctx.height → e.balance ≡ e.initial) p.1) w.mine.unbondings
    (weaker (λ p. WholeEntries w.view.ctx.height p.1) (λ p. All (λ e. e.created ≡ w.view.ctx.height → e.balance ≡ e.initial) p.1)
    (λ p k. All-from_recursion (λ e. e.created ≡ w.view.ctx.height → e.balance ≡ e.initial) p.1 k) w.mine.unbondings h)

-- a state that is as sound as the one before
pub record IsNext (p due : State) : Type 0 where
  pub sound : IsSound due
  pub whole : AreWhole due

pub sound_next : (m : Msg) (p : State) → MessageHasCoins m → IsSound p → AreWhole p → IfOk (effect_of m p) (IsNext p)
sound_next m p coins s whole =
    let P : List ℕ → Type 0 = Contains s.few.some in
    let T : List ℕ → ℕ = total_in p.view in
    weaker_if (effect_of m p) (MessageLeft P T p) (IsNext p) (message_fits P T m p coins (to_fits p s) (to_whole p whole))
    (λ due k. record { sound = from_fits due s.few.some T s.few.few k.fits; whole = from_whole due (k.whole (to_whole p whole)) })

-- a message that leaves what represents the state that is due leaves what stands for it
pub message_ends : (m : Msg) (k k2 : KeptState) (p : State) (answer : Result ⊤ MessageFault) → MessageHasCoins m → StandsWhole k p
    → AsRuled (effect_of m p) answer (λ due a. Keeps k2 due) StopsForMemory RefusesAs → MessageEnds (effect_of m p) k2 answer
message_ends m k k2 p answer coins s h = by (effect_of m p) answer h (sound_next m p coins s.sound s.whole)
  where
    by : (r : Result State Refusal) (a : Result ⊤ MessageFault) → AsRuled r a (λ due b. Keeps k2 due) StopsForMemory RefusesAs → IfOk r (IsNext p) → MessageEnds r k2 a
    by (Ok due) (Ok a) h n = record { keeps = h; sound = n.sound; whole = n.whole }
    by (Ok due) (Err fault) h n = h
    by (Err why) (Ok a) h n = h
    by (Err why) (Err fault) h n = h

-- after a message that was carried out the modules are steady again
pub steady_after : {E : Type 0} (f : Effect) (old new : Modules E) (answer : Result ⊤ MessageFault) → AreSteady old → GoOn old new → ((p : State) → StandsWhole (kept_of old) p → MessageEnds (f p) (kept_of new) answer)
    → OnOk answer (AreSteady new)
steady_after f old new (Ok a) s on ends =
    let d = done (f s.state) (kept_of new) (ends s.state s.stands) in
    record {
      power = ap (λ b. b.staking.power_reduction) on.behind ∙ s.power ∙ ap (λ (c : Ctx). c.params.power_reduction) (sym on.ctx);
      state = d.0;
      stands = d.2;
    }
steady_after f old new (Err fault) s on ends = tt

-- ---- calls of staking, over the modules' hooks

-- an answer without its value
abbrev pub dropped : {A : Type 0} → Result A MessageFault → Result ⊤ MessageFault
dropped (Ok a) = Ok tt
dropped (Err fault) = Err fault

-- what a call leaves of validators and delegations, of hooks and of the ground
pub record Left {E : Type 0} (new : Modules E) (due : World Staked Hooks) : Type 0 where
  pub staked : new.stakes.staking.staked ≡ due.mine
  pub hooks : hooks_hold new.hooks (held_as new.ground.ctx.params.signed_blocks_window due.hooks)
  pub ground : ground_of new ≡ due.view

module _ {E : Type 0} (old new : Modules E) (p : State) (k : Keeps (kept_of old) p) (ctx : new.ground.ctx ≡ old.ground.ctx) where
  -- the world that the modules' calls start from is the state's, without its log
  starts_here : over old.stakes.staking.staked (held_as old.ground.ctx.params.signed_blocks_window p.hooks) (ground_of old) ≡ carried (held_as old.ground.ctx.params.signed_blocks_window) [] (unlogged p)
  starts_here = λ i. record {
    mine = (sym k.stakes i).staked;
    hooks = held_as old.ground.ctx.params.signed_blocks_window p.hooks;
    view = sym k.view i;
    log = [];
  }

  same_number : old.ground.ctx.params.signed_blocks_window ≡ new.ground.ctx.params.signed_blocks_window
  same_number = ap (λ (c : Ctx). c.params.signed_blocks_window) (sym ctx)

  -- What a call with an answer leaves, of what the rule gives over the machine's own hooks.
  pub told_here : {A : Type 0} (f : World Staked Hooks → Result (A × World Staked Hooks) Refusal) (g : World Staked (Shared × Signings) → Result (A × World Staked (Shared × Signings)) Refusal)
      → g (carried (held_as old.ground.ctx.params.signed_blocks_window) [] (unlogged p)) ≡ carried_ok (carried_by (held_as old.ground.ctx.params.signed_blocks_window) []) (f (unlogged p))
      → (answer : Result A MessageFault)
      → AnswersAs (g (over old.stakes.staking.staked (held_as old.ground.ctx.params.signed_blocks_window p.hooks) (ground_of old))) new.stakes.staking.staked (hooks_hold new.hooks) (ground_of new) answer
      → AsRuled (f (unlogged p)) answer (λ due a. Left new due.1) StopsForMemory RefusesAs
  told_here {A = A} f g e answer h =
      by (f (unlogged p)) answer
      (answers_on old.ground.ctx.params.signed_blocks_window (f (unlogged p)) new.stakes.staking.staked (hooks_hold new.hooks) (ground_of new) answer
      (subst (λ r. AnswersAs r new.stakes.staking.staked (hooks_hold new.hooks) (ground_of new) answer) (ap g starts_here ∙ e) h))
    where
      by : (r : Result (A × World Staked Hooks) Refusal) (a : Result A MessageFault)
          → AsRuled r a (λ due b. (b ≡ due.0) × (new.stakes.staking.staked ≡ due.1.mine) × hooks_hold new.hooks (held_as old.ground.ctx.params.signed_blocks_window due.1.hooks) × (ground_of new ≡ due.1.view)) StopsForMemory RefusesAs
          → AsRuled r a (λ due b. Left new due.1) StopsForMemory RefusesAs
      by (Ok due) (Ok a) h = record { staked = h.1; hooks = subst (λ n. hooks_hold new.hooks (held_as n due.1.hooks)) same_number h.2; ground = h.3 }
      by (Ok due) (Err fault) h = h
      by (Err why) (Ok a) h = h
      by (Err why) (Err fault) h = h

  -- The same of a call that changes entries too.
  pub told_both : {A U : Type 0} (f : World Staked Hooks → Result (A × U × World Staked Hooks) Refusal) (g : World Staked (Shared × Signings) → Result (A × U × World Staked (Shared × Signings)) Refusal)
      → g (carried (held_as old.ground.ctx.params.signed_blocks_window) [] (unlogged p)) ≡ carried_ok (carried_with (held_as old.ground.ctx.params.signed_blocks_window) []) (f (unlogged p))
      → (lists : U) (answer : Result A MessageFault)
      → AnswersBoth (g (over old.stakes.staking.staked (held_as old.ground.ctx.params.signed_blocks_window p.hooks) (ground_of old))) lists new.stakes.staking.staked (hooks_hold new.hooks) (ground_of new) answer
      → AsRuled (f (unlogged p)) answer (λ due a. (lists ≡ due.1) × Left new due.2) StopsForMemory RefusesAs
  told_both {A = A} {U = U} f g e lists answer h =
      by (f (unlogged p)) answer (subst (λ r. AnswersBoth r lists new.stakes.staking.staked (hooks_hold new.hooks) (ground_of new) answer) (ap g starts_here ∙ e) h)
    where
      by : (r : Result (A × U × World Staked Hooks) Refusal) (a : Result A MessageFault)
          → AnswersBoth (carried_ok (carried_with (held_as old.ground.ctx.params.signed_blocks_window) []) r) lists new.stakes.staking.staked (hooks_hold new.hooks) (ground_of new) a
          → AsRuled r a (λ due b. (lists ≡ due.1) × Left new due.2) StopsForMemory RefusesAs
      by (Ok due) (Ok a) h = (h.1, record { staked = h.2; hooks = subst (λ n. hooks_hold new.hooks (held_as n due.2.hooks)) same_number h.3; ground = h.4 })
      by (Ok due) (Err fault) h = h
      by (Err why) (Ok a) h = h
      by (Err why) (Err fault) h = h

  -- what modules keep after it, with these entries
  keeps_left : (c : Stakes) (s : World Staked Hooks) → Left new s → c.unbondings ≡ new.stakes.unbondings.lists → c.redelegations ≡ new.stakes.redelegations.lists
      → Keeps (kept_of new) (with_staked c (carried (λ (x : Hooks). x) p.log s))
  keeps_left c s h u r = record {
    stakes = λ i. record { staked = sym h.staked i; unbondings = u i; redelegations = r i };
    shared = h.hooks.0;
    signings = h.hooks.1;
    view = sym h.ground;
  }

  same_unbondings : new.stakes.unbondings.lists ≡ old.stakes.unbondings.lists → p.mine.unbondings ≡ new.stakes.unbondings.lists
  same_unbondings e = ap (λ (c : Stakes). c.unbondings) k.stakes ∙ sym e

  same_redelegations : new.stakes.redelegations.lists ≡ old.stakes.redelegations.lists → p.mine.redelegations ≡ new.stakes.redelegations.lists
  same_redelegations e = ap (λ (c : Stakes). c.redelegations) k.stakes ∙ sym e

  -- A message of staking that leaves the entries.
  pub ends_hooked : {A : Type 0} (f : World Staked Hooks → Result (A × World Staked Hooks) Refusal) → f (staked_in p) ≡ carried_ok (carried_by (λ (x : Hooks). x) p.log) (f (unlogged p))
      → new.stakes.unbondings.lists ≡ old.stakes.unbondings.lists → new.stakes.redelegations.lists ≡ old.stakes.redelegations.lists
      → (answer : Result A MessageFault) → AsRuled (f (unlogged p)) answer (λ due a. Left new due.1) StopsForMemory RefusesAs
      → AsRuled (f (staked_in p) >>= λ d. Ok (with_staked p.mine d.1)) (dropped answer) (λ due a. Keeps (kept_of new) due) StopsForMemory RefusesAs
  ends_hooked {A = A} f e u r answer h =
      subst (λ x. AsRuled (x >>= λ d. Ok (with_staked p.mine d.1)) (dropped answer) (λ due a. Keeps (kept_of new) due) StopsForMemory RefusesAs) (sym e) (by (f (unlogged p)) answer h)
    where
      by : (x : Result (A × World Staked Hooks) Refusal) (a : Result A MessageFault) → AsRuled x a (λ due b. Left new due.1) StopsForMemory RefusesAs
          → AsRuled (carried_ok (carried_by (λ (y : Hooks). y) p.log) x >>= λ d. Ok (with_staked p.mine d.1)) (dropped a) (λ due b. Keeps (kept_of new) due) StopsForMemory RefusesAs
      by (Ok due) (Ok a) h = keeps_left p.mine due.1 h (same_unbondings u) (same_redelegations r)
      by (Ok due) (Err fault) h = h
      by (Err why) (Ok a) h = h
      by (Err why) (Err fault) h = h

  -- One that changes unbondings.
  pub ends_unbonding : {A : Type 0} (f : World Staked Hooks → Result (A × UnbondingLists × World Staked Hooks) Refusal) → f (staked_in p) ≡ carried_ok (carried_with (λ (x : Hooks). x) p.log) (f (unlogged p))
      → new.stakes.redelegations.lists ≡ old.stakes.redelegations.lists
      → (answer : Result A MessageFault) → AsRuled (f (unlogged p)) answer (λ due a. (new.stakes.unbondings.lists ≡ due.1) × Left new due.2) StopsForMemory RefusesAs
      → AsRuled (f (staked_in p) >>= λ d. Ok (with_staked (record p.mine { unbondings = d.1 }) d.2)) (dropped answer) (λ due a. Keeps (kept_of new) due) StopsForMemory RefusesAs
  ends_unbonding {A = A} f e r answer h =
      subst (λ x. AsRuled (x >>= λ d. Ok (with_staked (record p.mine { unbondings = d.1 }) d.2)) (dropped answer) (λ due a. Keeps (kept_of new) due) StopsForMemory RefusesAs) (sym e) (by (f (unlogged p)) answer h)
    where
      by : (x : Result (A × UnbondingLists × World Staked Hooks) Refusal) (a : Result A MessageFault) → AsRuled x a (λ due b. (new.stakes.unbondings.lists ≡ due.1) × Left new due.2) StopsForMemory RefusesAs
          → AsRuled (carried_ok (carried_with (λ (y : Hooks). y) p.log) x >>= λ d. Ok (with_staked (record p.mine { unbondings = d.1 }) d.2)) (dropped a) (λ due b. Keeps (kept_of new) due) StopsForMemory RefusesAs
      by (Ok due) (Ok a) h = keeps_left (record p.mine { unbondings = due.1 }) due.2 h.1 (sym h.0) (same_redelegations r)
      by (Ok due) (Err fault) h = h
      by (Err why) (Ok a) h = h
      by (Err why) (Err fault) h = h

  -- One that changes redelegations.
  pub ends_redelegating : {A : Type 0} (f : World Staked Hooks → Result (A × RedelegationLists × World Staked Hooks) Refusal) → f (staked_in p) ≡ carried_ok (carried_with (λ (x : Hooks). x) p.log) (f (unlogged p))
      → new.stakes.unbondings.lists ≡ old.stakes.unbondings.lists
      → (answer : Result A MessageFault) → AsRuled (f (unlogged p)) answer (λ due a. (new.stakes.redelegations.lists ≡ due.1) × Left new due.2) StopsForMemory RefusesAs
      → AsRuled (f (staked_in p) >>= λ d. Ok (with_staked (record p.mine { redelegations = d.1 }) d.2)) (dropped answer) (λ due a. Keeps (kept_of new) due) StopsForMemory RefusesAs
  ends_redelegating {A = A} f e u answer h =
      subst (λ x. AsRuled (x >>= λ d. Ok (with_staked (record p.mine { redelegations = d.1 }) d.2)) (dropped answer) (λ due a. Keeps (kept_of new) due) StopsForMemory RefusesAs) (sym e) (by (f (unlogged p)) answer h)
    where
      by : (x : Result (A × RedelegationLists × World Staked Hooks) Refusal) (a : Result A MessageFault) → AsRuled x a (λ due b. (new.stakes.redelegations.lists ≡ due.1) × Left new due.2) StopsForMemory RefusesAs
          → AsRuled (carried_ok (carried_with (λ (y : Hooks). y) p.log) x >>= λ d. Ok (with_staked (record p.mine { redelegations = d.1 }) d.2)) (dropped a) (λ due b. Keeps (kept_of new) due) StopsForMemory RefusesAs
      by (Ok due) (Ok a) h = keeps_left (record p.mine { redelegations = due.1 }) due.2 h.1 (same_unbondings u) (sym h.0)
      by (Ok due) (Err fault) h = h
      by (Err why) (Ok a) h = h
      by (Err why) (Err fault) h = h

-- ---- the five messages

-- an answer without a value is itself
pub drops_nothing : (answer : Result ⊤ MessageFault) → dropped answer ≡ answer
drops_nothing (Ok a) = refl
drops_nothing (Err fault) = refl

module _ {E : Type 0} (old new : Modules E) (p : State) (s : StandsWhole (kept_of old) p) (ctx : new.ground.ctx ≡ old.ground.ctx) where
  -- where the call had an answer, it is dropped
  undropped : (m : Msg) → MessageHasCoins m → (answer : Result ⊤ MessageFault) → AsRuled (effect_of m p) (dropped answer) (λ due a. Keeps (kept_of new) due) StopsForMemory RefusesAs → MessageEnds (effect_of m p) (kept_of new) answer
  undropped m coins answer h =
      message_ends m (kept_of old) (kept_of new) p answer coins s
      (subst (λ a. AsRuled (effect_of m p) a (λ due b. Keeps (kept_of new) due) StopsForMemory RefusesAs) (drops_nothing answer) h)

  -- the value that the hooks hold at first
  pub held_first : hooks_hold old.hooks (held_as old.ground.ctx.params.signed_blocks_window p.hooks)
  held_first = (s.keeps.shared, s.keeps.signings)

  pub create_ends : (m : CreateValidator) (answer : Result ⊤ MessageFault) → new.stakes.unbondings.lists ≡ old.stakes.unbondings.lists → new.stakes.redelegations.lists ≡ old.stakes.redelegations.lists
      → AnswersAs (created hooks_tell.told m (over old.stakes.staking.staked (held_as old.ground.ctx.params.signed_blocks_window p.hooks) (ground_of old))) new.stakes.staking.staked (hooks_hold new.hooks) (ground_of new) answer
      → MessageEnds (create_validator m p) (kept_of new) answer
  create_ends m answer u r h =
      undropped (msg.CreateValidator m) tt answer
      (ends_hooked old new p s.keeps ctx (created chain_told m) (ap (created chain_told m) (logged_again p) ∙ created_carried (λ (x : Hooks). x) p.log chain_told chain_told (told_itself p.log) m (unlogged p)) u r answer
      (told_here old new p s.keeps ctx (created chain_told m) (created hooks_tell.told m)
      (created_carried (held_as old.ground.ctx.params.signed_blocks_window) [] chain_told hooks_tell.told (told_as old.ground.ctx.params.signed_blocks_window) m (unlogged p)) answer h))

  pub delegate_ends : (who operator : List ℕ) (coin : Coin) (answer : Result ℕ MessageFault) → new.stakes.unbondings.lists ≡ old.stakes.unbondings.lists → new.stakes.redelegations.lists ≡ old.stakes.redelegations.lists
      → AnswersAs (delegated_by hooks_tell.told who operator coin (over old.stakes.staking.staked (held_as old.ground.ctx.params.signed_blocks_window p.hooks) (ground_of old))) new.stakes.staking.staked (hooks_hold new.hooks) (ground_of new) answer
      → MessageEnds (delegate who operator coin p) (kept_of new) (dropped answer)
  delegate_ends who operator coin answer u r h =
      message_ends (msg.Delegate (record { delegator = who; validator = operator; amount = coin })) (kept_of old) (kept_of new) p (dropped answer) tt s
      (ends_hooked old new p s.keeps ctx (delegated_by chain_told who operator coin)
      (ap (delegated_by chain_told who operator coin) (logged_again p) ∙ delegated_by_carried (λ (x : Hooks). x) p.log chain_told chain_told (told_itself p.log) who operator coin (unlogged p)) u r answer
      (told_here old new p s.keeps ctx (delegated_by chain_told who operator coin) (delegated_by hooks_tell.told who operator coin)
      (delegated_by_carried (held_as old.ground.ctx.params.signed_blocks_window) [] chain_told hooks_tell.told (told_as old.ground.ctx.params.signed_blocks_window) who operator coin (unlogged p)) answer h))

  pub undelegate_ends : (who operator : List ℕ) (coin : Coin) (answer : Result ℕ MessageFault) → new.stakes.redelegations.lists ≡ old.stakes.redelegations.lists
      → AnswersBoth (undelegated hooks_tell.told who operator coin old.stakes.unbondings.lists (over old.stakes.staking.staked (held_as old.ground.ctx.params.signed_blocks_window p.hooks) (ground_of old)))
      new.stakes.unbondings.lists new.stakes.staking.staked (hooks_hold new.hooks) (ground_of new) answer
      → MessageEnds (undelegate who operator coin p) (kept_of new) (dropped answer)
  undelegate_ends who operator coin answer r h =
      let first : old.stakes.unbondings.lists ≡ p.mine.unbondings = sym (ap (λ (c : Stakes). c.unbondings) s.keeps.stakes) in
      message_ends (msg.Undelegate (record { delegator = who; validator = operator; amount = coin })) (kept_of old) (kept_of new) p (dropped answer) tt s
      (ends_unbonding old new p s.keeps ctx (undelegated chain_told who operator coin p.mine.unbondings)
      (ap (undelegated chain_told who operator coin p.mine.unbondings) (logged_again p) ∙ undelegated_carried (λ (x : Hooks). x) p.log chain_told chain_told (told_itself p.log) who operator coin p.mine.unbondings (unlogged p)) r answer
      (told_both old new p s.keeps ctx (undelegated chain_told who operator coin p.mine.unbondings) (undelegated hooks_tell.told who operator coin p.mine.unbondings)
      (undelegated_carried (held_as old.ground.ctx.params.signed_blocks_window) [] chain_told hooks_tell.told (told_as old.ground.ctx.params.signed_blocks_window) who operator coin p.mine.unbondings (unlogged p))
      new.stakes.unbondings.lists answer
      (subst (λ u. AnswersBoth (undelegated hooks_tell.told who operator coin u (over old.stakes.staking.staked (held_as old.ground.ctx.params.signed_blocks_window p.hooks) (ground_of old)))
      new.stakes.unbondings.lists new.stakes.staking.staked (hooks_hold new.hooks) (ground_of new) answer) first h)))

  pub cancel_ends : (who operator : List ℕ) (coin : Coin) (height : ℕ) (answer : Result ⊤ MessageFault) → new.stakes.redelegations.lists ≡ old.stakes.redelegations.lists
      → AnswersBoth (cancelled hooks_tell.told who operator coin height old.stakes.unbondings.lists (over old.stakes.staking.staked (held_as old.ground.ctx.params.signed_blocks_window p.hooks) (ground_of old)))
      new.stakes.unbondings.lists new.stakes.staking.staked (hooks_hold new.hooks) (ground_of new) answer
      → MessageEnds (cancel_unbonding who operator coin height p) (kept_of new) answer
  cancel_ends who operator coin height answer r h =
      let first : old.stakes.unbondings.lists ≡ p.mine.unbondings = sym (ap (λ (c : Stakes). c.unbondings) s.keeps.stakes) in
      undropped (msg.CancelUnbonding (record { delegator = who; validator = operator; amount = coin; creation_height = height })) tt answer
      (ends_unbonding old new p s.keeps ctx (cancelled chain_told who operator coin height p.mine.unbondings)
      (ap (cancelled chain_told who operator coin height p.mine.unbondings) (logged_again p) ∙ cancelled_carried (λ (x : Hooks). x) p.log chain_told chain_told (told_itself p.log) who operator coin height p.mine.unbondings (unlogged p)) r answer
      (told_both old new p s.keeps ctx (cancelled chain_told who operator coin height p.mine.unbondings) (cancelled hooks_tell.told who operator coin height p.mine.unbondings)
      (cancelled_carried (held_as old.ground.ctx.params.signed_blocks_window) [] chain_told hooks_tell.told (told_as old.ground.ctx.params.signed_blocks_window) who operator coin height p.mine.unbondings (unlogged p))
      new.stakes.unbondings.lists answer
      (subst (λ u. AnswersBoth (cancelled hooks_tell.told who operator coin height u (over old.stakes.staking.staked (held_as old.ground.ctx.params.signed_blocks_window p.hooks) (ground_of old)))
      new.stakes.unbondings.lists new.stakes.staking.staked (hooks_hold new.hooks) (ground_of new) answer) first h)))

  pub redelegate_ends : (who source target : List ℕ) (coin : Coin) (answer : Result ⊤ MessageFault) → new.stakes.unbondings.lists ≡ old.stakes.unbondings.lists
      → AnswersBoth (redelegated hooks_tell.told who source target coin old.stakes.redelegations.lists (over old.stakes.staking.staked (held_as old.ground.ctx.params.signed_blocks_window p.hooks) (ground_of old)))
      new.stakes.redelegations.lists new.stakes.staking.staked (hooks_hold new.hooks) (ground_of new) answer
      → MessageEnds (begin_redelegate who source target coin p) (kept_of new) answer
  redelegate_ends who source target coin answer u h =
      let first : old.stakes.redelegations.lists ≡ p.mine.redelegations = sym (ap (λ (c : Stakes). c.redelegations) s.keeps.stakes) in
      undropped (msg.BeginRedelegate (record { delegator = who; source = source; target = target; amount = coin })) tt answer
      (ends_redelegating old new p s.keeps ctx (redelegated chain_told who source target coin p.mine.redelegations)
      (ap (redelegated chain_told who source target coin p.mine.redelegations) (logged_again p) ∙ redelegated_carried (λ (x : Hooks). x) p.log chain_told chain_told (told_itself p.log) who source target coin p.mine.redelegations (unlogged p)) u answer
      (told_both old new p s.keeps ctx (redelegated chain_told who source target coin p.mine.redelegations) (redelegated hooks_tell.told who source target coin p.mine.redelegations)
      (redelegated_carried (held_as old.ground.ctx.params.signed_blocks_window) [] chain_told hooks_tell.told (told_as old.ground.ctx.params.signed_blocks_window) who source target coin p.mine.redelegations (unlogged p))
      new.stakes.redelegations.lists answer
      (subst (λ r. AnswersBoth (redelegated hooks_tell.told who source target coin r (over old.stakes.staking.staked (held_as old.ground.ctx.params.signed_blocks_window p.hooks) (ground_of old)))
      new.stakes.redelegations.lists new.stakes.staking.staked (hooks_hold new.hooks) (ground_of new) answer) first h)))
