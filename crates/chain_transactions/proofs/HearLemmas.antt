-- What a listener hears of messages.
use Rattle.std.proofs.Common.{◌≡◌, ◌∙◌, ℕ, ◌+◌, ◌<◌, List, [], drop, length, get_or, Some, None, Result, Ok, Err, refl, sym, ap, subst, OnOk}
use Rattle.std.specs.Prelude.{⊤}
use Rattle.base_coins.specs.declared.coin.Coin.{Coin}
use Rattle.base_messages.specs.declared.message.Msg.{Msg}
use Rattle.base_roles.specs.declared.{entities.Validator.Validator, faults.MessageFault.MessageFault}
use Rattle.base_roles.specs.declared.{messages.CreateValidator.CreateValidator, refusal.Refusal.Refusal}
use Rattle.base_roles.specs.{Answers.{AnswersAs, RefusesAs, StopsForMemory}, Flow.{◌>>=◌}}
use Rattle.base_roles.specs.{Staked.{delegation, validator_at}, World.View, declared.calls.Hook.Hook}
use Rattle.base_roles.specs.declared.calls.Hook.TheVariants.{Modified as modified}
use Rattle.rule_machine.specs.Listening.{Hearing, Overheard, cancellation_heard, creation_heard, delegation_heard, effect_heard, heard_in, hearing, messages_heard, overheard_told, redelegation_heard, restart_heard, reward_heard, silently, undelegation_heard, unheard}
use Rattle.rule_modules.specs.{Chain.{State, Stakes}, Delegating.delegated_by, Distribution.Shared}
use Rattle.rule_modules.specs.Effects.{Effect, begin_redelegate, cancel_unbonding, create_validator, delegate, undelegate, withdraw_reward}
use Rattle.rule_modules.specs.Redelegations.{RedelegationLists, redelegated}
use Rattle.rule_modules.specs.{Unbondings.{UnbondingLists, cancelled, undelegated}, Validators.created}
use Rattle.mod_entries.specs.Answers.{AnswersBoth}
use Rattle.mod_signing.specs.Stands.{Signings}
use Rattle.mod_staking.specs.Calls.{over}
use Rattle.chain_modules.specs.{declared.modules.Modules.Modules, Heard.{Hears, HearsAfter, heard_hold, heard_tell}}
use Rattle.chain_modules.specs.Kept.{StandsWhole, ground_of, hooks_hold, hooks_tell, kept_of, listener_of}
use Rattle.chain_modules.proofs.CarryLemmas.{cancelled_carried, carried_ok, created_carried, delegated_by_carried, redelegated_carried, undelegated_carried}
use Rattle.chain_modules.proofs.ErasingLemmas.{cancellation_unheard, creation_unheard, delegation_unheard, redelegation_unheard, undelegation_unheard}
use Rattle.chain_modules.proofs.HeardLemmas.{HeardAs, after_gives, after_silence, after_step, apart, entries_apart, entries_heard, heard_as, held, held_heard, hooked_apart, hooked_heard, log_again, silent_log, told_apart, told_heard, told_same}
use Rattle.chain_modules.proofs.StandLemmas.{whole_same}
use Rattle.chain_transactions.{specs.Answers.{MessageEnds, delegation_asked}, proofs.AskLemmas.asked_is}
use Rattle.chain_transactions.proofs.{EndLemmas.{dropped, drops_nothing}, MessageLemmas.next}

module _ {E P : Type 0} (heard : E → P) (hears : P → Hook → View → P) (old new : Modules E) where
  -- A message that ends as the machine's, and whose listener holds what was heard of it, is heard.
  message_hears : {A : Type 0} (rule : Effect) (on : Hearing P → Result (Hearing P) Refusal) (w : Hearing P) (answer : Result A MessageFault) → rule (unheard w) ≡ carried_ok unheard (on w) → MessageEnds (rule (unheard w)) (kept_of new) (dropped answer)
      → HeardAs hears (on w) answer (heard (listener_of new)) → OnOk answer (HearsAfter heard StandsWhole (on w) new)
  message_hears rule on w (Ok a) e ends h = after_step heard StandsWhole new hears (rule (unheard w)) (on w) StopsForMemory RefusesAs _ tt a e ends h
  message_hears rule on w (Err fault) e ends h = tt

  -- ---- the five messages over hooks

  -- the plain values that hooks hold first are those with what was heard
  abbrev Holds : ((Shared × P) × Signings → Type 0) → Type 0
  Holds told = (h : (Shared × P) × Signings) → heard_hold heard old.hooks h → told h

  pub create_apart : (m : CreateValidator) (answer : Result ⊤ MessageFault)
      → Holds (λ h. AnswersAs (created (heard_tell hears).told m (over old.stakes.staking.staked h (ground_of old))) new.stakes.staking.staked (heard_hold heard new.hooks) (ground_of new) answer)
      → (h : Shared × Signings) → hooks_hold old.hooks h → AnswersAs (created hooks_tell.told m (over old.stakes.staking.staked h (ground_of old))) new.stakes.staking.staked (hooks_hold new.hooks) (ground_of new) answer
  create_apart m = hooked_apart heard hears old new (created hooks_tell.told m) (created (heard_tell hears).told m) (created_carried (apart hears) [] (heard_tell hears).told hooks_tell.told (told_apart hears) m)

  pub create_hears : (m : CreateValidator) (answer : Result ⊤ MessageFault)
      → Holds (λ h. AnswersAs (created (heard_tell hears).told m (over old.stakes.staking.staked h (ground_of old))) new.stakes.staking.staked (heard_hold heard new.hooks) (ground_of new) answer)
      → ((p : State) → StandsWhole (kept_of old) p → MessageEnds (create_validator m p) (kept_of new) answer)
      → (w : Hearing P) → Hears heard StandsWhole old w → OnOk answer (HearsAfter heard StandsWhole (creation_heard hears m w) new)
  create_hears m answer told ends w s =
      message_hears (create_validator m) (creation_heard hears m) w answer (creation_unheard hears m w) (subst (MessageEnds (create_validator m (unheard w)) (kept_of new)) (sym (drops_nothing answer)) (ends (unheard w) s.0))
      (hooked_heard heard hears old new (created (overheard_told hears) m) (created (heard_tell hears).told m) w s.0.keeps
      (ap (created (overheard_told hears) m) (log_again hears w) ∙ created_carried (λ (x : Overheard P). x) w.log (overheard_told hears) (overheard_told hears) (λ h hook v. told_same w.log (overheard_told hears h hook v)) m (silent_log hears w))
      (created_carried (heard_as hears old.ground.ctx.params.signed_blocks_window) [] (overheard_told hears) (heard_tell hears).told (told_heard hears old.ground.ctx.params.signed_blocks_window) m (silent_log hears w)) answer
      (told (held heard hears old new w) (held_heard heard hears old new w s.0.keeps s.1)))

  pub delegate_apart : (who operator : List ℕ) (coin : Coin) (answer : Result ℕ MessageFault)
      → Holds (λ h. AnswersAs (delegated_by (heard_tell hears).told who operator coin (over old.stakes.staking.staked h (ground_of old))) new.stakes.staking.staked (heard_hold heard new.hooks) (ground_of new) answer)
      → (h : Shared × Signings) → hooks_hold old.hooks h → AnswersAs (delegated_by hooks_tell.told who operator coin (over old.stakes.staking.staked h (ground_of old))) new.stakes.staking.staked (hooks_hold new.hooks) (ground_of new) answer
  delegate_apart who operator coin =
      hooked_apart heard hears old new (delegated_by hooks_tell.told who operator coin) (delegated_by (heard_tell hears).told who operator coin) (delegated_by_carried (apart hears) [] (heard_tell hears).told hooks_tell.told (told_apart hears) who operator coin)

  pub delegate_hears : (who operator : List ℕ) (coin : Coin) (answer : Result ℕ MessageFault)
      → Holds (λ h. AnswersAs (delegated_by (heard_tell hears).told who operator coin (over old.stakes.staking.staked h (ground_of old))) new.stakes.staking.staked (heard_hold heard new.hooks) (ground_of new) answer)
      → ((p : State) → StandsWhole (kept_of old) p → MessageEnds (delegate who operator coin p) (kept_of new) (dropped answer))
      → (w : Hearing P) → Hears heard StandsWhole old w → OnOk answer (HearsAfter heard StandsWhole (delegation_heard hears who operator coin w) new)
  delegate_hears who operator coin answer told ends w s =
      let f = delegated_by (overheard_told hears) who operator coin in
      message_hears (delegate who operator coin) (delegation_heard hears who operator coin) w answer (delegation_unheard hears who operator coin w) (ends (unheard w) s.0)
      (hooked_heard heard hears old new f (delegated_by (heard_tell hears).told who operator coin) w s.0.keeps
      (ap f (log_again hears w) ∙ delegated_by_carried (λ (x : Overheard P). x) w.log (overheard_told hears) (overheard_told hears) (λ h hook v. told_same w.log (overheard_told hears h hook v)) who operator coin (silent_log hears w))
      (delegated_by_carried (heard_as hears old.ground.ctx.params.signed_blocks_window) [] (overheard_told hears) (heard_tell hears).told (told_heard hears old.ground.ctx.params.signed_blocks_window) who operator coin (silent_log hears w)) answer
      (told (held heard hears old new w) (held_heard heard hears old new w s.0.keeps s.1)))

  pub undelegate_apart : (who operator : List ℕ) (coin : Coin) (answer : Result ℕ MessageFault)
      → Holds (λ h. AnswersBoth (undelegated (heard_tell hears).told who operator coin old.stakes.unbondings.lists (over old.stakes.staking.staked h (ground_of old))) new.stakes.unbondings.lists new.stakes.staking.staked (heard_hold heard new.hooks) (ground_of new) answer)
      → (h : Shared × Signings) → hooks_hold old.hooks h
      → AnswersBoth (undelegated hooks_tell.told who operator coin old.stakes.unbondings.lists (over old.stakes.staking.staked h (ground_of old))) new.stakes.unbondings.lists new.stakes.staking.staked (hooks_hold new.hooks) (ground_of new) answer
  undelegate_apart who operator coin =
      entries_apart heard hears old new new.stakes.unbondings.lists (undelegated hooks_tell.told who operator coin old.stakes.unbondings.lists) (undelegated (heard_tell hears).told who operator coin old.stakes.unbondings.lists)
      (undelegated_carried (apart hears) [] (heard_tell hears).told hooks_tell.told (told_apart hears) who operator coin old.stakes.unbondings.lists)

  pub undelegate_hears : (who operator : List ℕ) (coin : Coin) (answer : Result ℕ MessageFault)
      → Holds (λ h. AnswersBoth (undelegated (heard_tell hears).told who operator coin old.stakes.unbondings.lists (over old.stakes.staking.staked h (ground_of old))) new.stakes.unbondings.lists new.stakes.staking.staked (heard_hold heard new.hooks) (ground_of new) answer)
      → ((p : State) → StandsWhole (kept_of old) p → MessageEnds (undelegate who operator coin p) (kept_of new) (dropped answer))
      → (w : Hearing P) → Hears heard StandsWhole old w → OnOk answer (HearsAfter heard StandsWhole (undelegation_heard hears who operator coin w) new)
  undelegate_hears who operator coin answer told ends w s =
      let first : old.stakes.unbondings.lists ≡ w.mine.unbondings = sym (ap (λ (c : Stakes). c.unbondings) s.0.keeps.stakes) in
      let f = undelegated (overheard_told hears) who operator coin w.mine.unbondings in
      message_hears (undelegate who operator coin) (undelegation_heard hears who operator coin) w answer (undelegation_unheard hears who operator coin w) (ends (unheard w) s.0)
      (entries_heard heard hears old new new.stakes.unbondings.lists (λ u. record w.mine { unbondings = u }) f (undelegated (heard_tell hears).told who operator coin w.mine.unbondings) w s.0.keeps
      (ap f (log_again hears w) ∙ undelegated_carried (λ (x : Overheard P). x) w.log (overheard_told hears) (overheard_told hears) (λ h hook v. told_same w.log (overheard_told hears h hook v)) who operator coin w.mine.unbondings (silent_log hears w))
      (undelegated_carried (heard_as hears old.ground.ctx.params.signed_blocks_window) [] (overheard_told hears) (heard_tell hears).told (told_heard hears old.ground.ctx.params.signed_blocks_window) who operator coin w.mine.unbondings (silent_log hears w)) answer
      (subst (λ u. AnswersBoth (undelegated (heard_tell hears).told who operator coin u (over old.stakes.staking.staked (held heard hears old new w) (ground_of old))) new.stakes.unbondings.lists new.stakes.staking.staked (heard_hold heard new.hooks) (ground_of new) answer) first
      (told (held heard hears old new w) (held_heard heard hears old new w s.0.keeps s.1))))

  pub cancel_apart : (who operator : List ℕ) (coin : Coin) (height : ℕ) (answer : Result ⊤ MessageFault)
      → Holds (λ h. AnswersBoth (cancelled (heard_tell hears).told who operator coin height old.stakes.unbondings.lists (over old.stakes.staking.staked h (ground_of old))) new.stakes.unbondings.lists new.stakes.staking.staked (heard_hold heard new.hooks) (ground_of new) answer)
      → (h : Shared × Signings) → hooks_hold old.hooks h
      → AnswersBoth (cancelled hooks_tell.told who operator coin height old.stakes.unbondings.lists (over old.stakes.staking.staked h (ground_of old))) new.stakes.unbondings.lists new.stakes.staking.staked (hooks_hold new.hooks) (ground_of new) answer
  cancel_apart who operator coin height =
      entries_apart heard hears old new new.stakes.unbondings.lists (cancelled hooks_tell.told who operator coin height old.stakes.unbondings.lists) (cancelled (heard_tell hears).told who operator coin height old.stakes.unbondings.lists)
      (cancelled_carried (apart hears) [] (heard_tell hears).told hooks_tell.told (told_apart hears) who operator coin height old.stakes.unbondings.lists)

  pub cancel_hears : (who operator : List ℕ) (coin : Coin) (height : ℕ) (answer : Result ⊤ MessageFault)
      → Holds (λ h. AnswersBoth (cancelled (heard_tell hears).told who operator coin height old.stakes.unbondings.lists (over old.stakes.staking.staked h (ground_of old))) new.stakes.unbondings.lists new.stakes.staking.staked (heard_hold heard new.hooks) (ground_of new) answer)
      → ((p : State) → StandsWhole (kept_of old) p → MessageEnds (cancel_unbonding who operator coin height p) (kept_of new) answer)
      → (w : Hearing P) → Hears heard StandsWhole old w → OnOk answer (HearsAfter heard StandsWhole (cancellation_heard hears who operator coin height w) new)
  cancel_hears who operator coin height answer told ends w s =
      let first : old.stakes.unbondings.lists ≡ w.mine.unbondings = sym (ap (λ (c : Stakes). c.unbondings) s.0.keeps.stakes) in
      let f = cancelled (overheard_told hears) who operator coin height w.mine.unbondings in
      message_hears (cancel_unbonding who operator coin height) (cancellation_heard hears who operator coin height) w answer (cancellation_unheard hears who operator coin height w)
      (subst (MessageEnds (cancel_unbonding who operator coin height (unheard w)) (kept_of new)) (sym (drops_nothing answer)) (ends (unheard w) s.0))
      (entries_heard heard hears old new new.stakes.unbondings.lists (λ u. record w.mine { unbondings = u }) f (cancelled (heard_tell hears).told who operator coin height w.mine.unbondings) w s.0.keeps
      (ap f (log_again hears w) ∙ cancelled_carried (λ (x : Overheard P). x) w.log (overheard_told hears) (overheard_told hears) (λ h hook v. told_same w.log (overheard_told hears h hook v)) who operator coin height w.mine.unbondings (silent_log hears w))
      (cancelled_carried (heard_as hears old.ground.ctx.params.signed_blocks_window) [] (overheard_told hears) (heard_tell hears).told (told_heard hears old.ground.ctx.params.signed_blocks_window) who operator coin height w.mine.unbondings (silent_log hears w)) answer
      (subst (λ u. AnswersBoth (cancelled (heard_tell hears).told who operator coin height u (over old.stakes.staking.staked (held heard hears old new w) (ground_of old))) new.stakes.unbondings.lists new.stakes.staking.staked (heard_hold heard new.hooks) (ground_of new) answer) first
      (told (held heard hears old new w) (held_heard heard hears old new w s.0.keeps s.1))))

  pub redelegate_apart : (who source target : List ℕ) (coin : Coin) (answer : Result ⊤ MessageFault)
      → Holds (λ h. AnswersBoth (redelegated (heard_tell hears).told who source target coin old.stakes.redelegations.lists (over old.stakes.staking.staked h (ground_of old))) new.stakes.redelegations.lists new.stakes.staking.staked (heard_hold heard new.hooks) (ground_of new) answer)
      → (h : Shared × Signings) → hooks_hold old.hooks h
      → AnswersBoth (redelegated hooks_tell.told who source target coin old.stakes.redelegations.lists (over old.stakes.staking.staked h (ground_of old))) new.stakes.redelegations.lists new.stakes.staking.staked (hooks_hold new.hooks) (ground_of new) answer
  redelegate_apart who source target coin =
      entries_apart heard hears old new new.stakes.redelegations.lists (redelegated hooks_tell.told who source target coin old.stakes.redelegations.lists) (redelegated (heard_tell hears).told who source target coin old.stakes.redelegations.lists)
      (redelegated_carried (apart hears) [] (heard_tell hears).told hooks_tell.told (told_apart hears) who source target coin old.stakes.redelegations.lists)

  pub redelegate_hears : (who source target : List ℕ) (coin : Coin) (answer : Result ⊤ MessageFault)
      → Holds (λ h. AnswersBoth (redelegated (heard_tell hears).told who source target coin old.stakes.redelegations.lists (over old.stakes.staking.staked h (ground_of old))) new.stakes.redelegations.lists new.stakes.staking.staked (heard_hold heard new.hooks) (ground_of new) answer)
      → ((p : State) → StandsWhole (kept_of old) p → MessageEnds (begin_redelegate who source target coin p) (kept_of new) answer)
      → (w : Hearing P) → Hears heard StandsWhole old w → OnOk answer (HearsAfter heard StandsWhole (redelegation_heard hears who source target coin w) new)
  redelegate_hears who source target coin answer told ends w s =
      let first : old.stakes.redelegations.lists ≡ w.mine.redelegations = sym (ap (λ (c : Stakes). c.redelegations) s.0.keeps.stakes) in
      let f = redelegated (overheard_told hears) who source target coin w.mine.redelegations in
      message_hears (begin_redelegate who source target coin) (redelegation_heard hears who source target coin) w answer (redelegation_unheard hears who source target coin w)
      (subst (MessageEnds (begin_redelegate who source target coin (unheard w)) (kept_of new)) (sym (drops_nothing answer)) (ends (unheard w) s.0))
      (entries_heard heard hears old new new.stakes.redelegations.lists (λ r. record w.mine { redelegations = r }) f (redelegated (heard_tell hears).told who source target coin w.mine.redelegations) w s.0.keeps
      (ap f (log_again hears w) ∙ redelegated_carried (λ (x : Overheard P). x) w.log (overheard_told hears) (overheard_told hears) (λ h hook v. told_same w.log (overheard_told hears h hook v)) who source target coin w.mine.redelegations (silent_log hears w))
      (redelegated_carried (heard_as hears old.ground.ctx.params.signed_blocks_window) [] (overheard_told hears) (heard_tell hears).told (told_heard hears old.ground.ctx.params.signed_blocks_window) who source target coin w.mine.redelegations (silent_log hears w)) answer
      (subst (λ r. AnswersBoth (redelegated (heard_tell hears).told who source target coin r (over old.stakes.staking.staked (held heard hears old new w) (ground_of old))) new.stakes.redelegations.lists new.stakes.staking.staked (heard_hold heard new.hooks) (ground_of new) answer) first
      (told (held heard hears old new w) (held_heard heard hears old new w s.0.keeps s.1))))

  -- ---- the others

  -- a message that calls no hook
  pub silence_hears : (step : Effect) (answer : Result ⊤ MessageFault) → ((p : State) → StandsWhole (kept_of old) p → MessageEnds (step p) (kept_of new) answer) → listener_of new ≡ listener_of old
      → (w : Hearing P) → Hears heard StandsWhole old w → OnOk answer (HearsAfter heard StandsWhole (silently step w) new)
  silence_hears step (Ok a) ends same w s = after_silence heard StandsWhole old new step w StopsForMemory RefusesAs tt (ends (unheard w) s.0) same s.1
  silence_hears step (Err fault) ends same w s = tt

-- a reward that is withdrawn, of which the listener alone hears that it starts anew
pub reward_hears : {E P : Type 0} (heard : E → P) (hears : P → Hook → View → P) (old mid new : Modules E) (who operator : List ℕ) (x : Validator × ℕ) → delegation_asked who operator old.stakes.staking.staked ≡ Ok x
    → ((p : State) → StandsWhole (kept_of old) p → MessageEnds (withdraw_reward who operator p) (kept_of mid) (Ok tt)) → listener_of mid ≡ listener_of old → kept_of new ≡ kept_of mid
    → heard (listener_of new) ≡ hears (heard (listener_of mid)) (modified x.0 who x.1) (ground_of mid) → (w : Hearing P) → Hears heard StandsWhole old w → HearsAfter heard StandsWhole (reward_heard hears who operator w) new
reward_hears {E = E} {P = P} heard hears old mid new who operator x asked ends stays same is w s = by (withdraw_reward who operator (unheard w)) (ends (unheard w) s.0)
  where
    own : w.mine.staked ≡ old.stakes.staking.staked
    own = ap (λ (c : Stakes). c.staked) s.0.keeps.stakes

    by : (r : Result State Refusal) → MessageEnds r (kept_of mid) (Ok tt)
        → HearsAfter heard StandsWhole (r >>= λ u. Ok (hearing (restart_heard hears (validator_at w.mine.staked operator) (delegation w.mine.staked who operator) who u.view (heard_in w)) u)) new
    by (Ok u) k =
        let one = asked_is who operator old.stakes.staking.staked x asked in
        let found : validator_at w.mine.staked operator ≡ Some x.0 = ap (λ c. validator_at c operator) own ∙ one.found in
        let shares : delegation w.mine.staked who operator ≡ Some x.1 = ap (λ c. delegation c who operator) own ∙ one.held in (
          whole_same (kept_of mid) (kept_of new) u same k,
          is ∙ (λ i. hears ((ap heard stays ∙ s.1) i) (modified x.0 who x.1) (sym k.keeps.view i)) ∙ sym (λ i. restart_heard hears (found i) (shares i) who u.view (heard_in w)),
        )
    by (Err why) k = k

-- ---- messages so far

module _ {E P : Type 0} (heard : E → P) (hears : P → Hook → View → P) (messages : List Msg) where
  -- of each state with what was heard first, the messages before this place lead to one with what is heard now
  abbrev pub HeardSoFar : ℕ → Modules E → Modules E → Type 0
  HeardSoFar place old new = (w : Hearing P) → Hears heard StandsWhole old w
      → (u : Hearing P) × Hears heard StandsWhole new u × (messages_heard hears (drop place messages) u ≡ messages_heard hears messages w)

  pub none_heard : (m : Modules E) → HeardSoFar 0 m m
  none_heard m = λ w s. (w, s, refl)

  pub one_heard : (place : ℕ) (message : Msg) (old new last : Modules E) → place < length messages → message ≡ get_or messages place message → HeardSoFar place old new
      → ((u : Hearing P) → Hears heard StandsWhole new u → HearsAfter heard StandsWhole (effect_heard hears message u) last) → HeardSoFar (place + 1) old last
  one_heard place message old new last lt is so one = λ w s.
      let r = so w s in
      let d = after_gives heard StandsWhole last (effect_heard hears message r.0) (one r.0 r.1) in (
        d.0,
        d.2,
        sym (ap (λ (x : Result (Hearing P) Refusal). x >>= λ v. messages_heard hears (drop (place + 1) messages) v) d.1)
            ∙ sym (ap (λ (l : List Msg). messages_heard hears l r.0) (next messages place message lt is)) ∙ r.2,
      )

  pub all_heard : (place : ℕ) (old new : Modules E) → drop place messages ≡ [] → HeardSoFar place old new → (w : Hearing P) → Hears heard StandsWhole old w → HearsAfter heard StandsWhole (messages_heard hears messages w) new
  all_heard place old new e so w s = let r = so w s in subst (λ q. HearsAfter heard StandsWhole q new) (sym (ap (λ (l : List Msg). messages_heard hears l r.0) e) ∙ r.2) r.1
