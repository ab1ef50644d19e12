-- Without what a listener heard, each rule over hooks to which it listens is the rule over the hooks alone.
use Rattle.std.proofs.Common.{◌≡◌, ◌∙◌, ℕ, ◌+◌, List, [], ◌∷◌, map, Result, Ok, Err, refl, sym, ap, subst}
use Rattle.std.specs.Prelude.{⊤}
use Rattle.base_coins.specs.declared.coin.Coin.{Coin}
use Rattle.base_decimals.specs.declared.over.Over.{Over}
use Rattle.base_messages.specs.declared.{block.{Block.Block, Tx.Tx}, faults.BlockFault.BlockFault}
use Rattle.base_messages.specs.declared.{faults.BlockFault.TheVariants.RatioLimit, message.Msg.Msg}
use Rattle.base_messages.specs.declared.message.Msg.TheVariants as msg
use Rattle.base_roles.specs.declared.messages.{CreateValidator.CreateValidator, Evidence.Evidence, Vote.Vote}
use Rattle.base_roles.specs.{declared.refusal.Refusal.Refusal, Flow.{◌>>=◌, ◌>>◌, each, stopping}, Log.Log}
use Rattle.base_roles.specs.{Pair.{and_then, given_with}, Staked.{delegation, validator_at}}
use Rattle.base_roles.specs.{World.{View, Told, gives, exceeds}, declared.calls.Hook.Hook}
use Rattle.rule_modules.specs.BondedSet.{set_updated, validators_matured}
use Rattle.rule_modules.specs.Chain.{Hooks, State, allocation_step, begin_block, chain_told, end_block, evidence_step, maturing_step, redelegations_step, set_step, staked_in, unbondings_step, vote_step}
use Rattle.rule_modules.specs.{Delegating.delegated_by, Distribution.{Shared, distribution_told}}
use Rattle.rule_modules.specs.Effects.{begin_redelegate, cancel_unbonding, create_validator, delegate, effects_of, fee_paid, after_fee, stands_or_fee, transaction_applied, undelegate, withdraw_reward}
use Rattle.rule_modules.specs.{Evidence.{equivocation_handled, window_bans}, Laws.next_block, Redelegations.redelegated}
use Rattle.rule_modules.specs.{Slashing.{core_slashes, plain_slash}, Unbondings.{cancelled, undelegated}}
use Rattle.rule_modules.specs.{Validators.created, Window.{Window, voted, window_told}}
use Rattle.rule_machine.specs.GenesisState.{without_facts}
use Rattle.rule_machine.specs.Listening.{Hearing, Overheard, beginning_heard, beside_window, block_heard, cancellation_heard, creation_heard, delegation_heard, effect_heard, ending_heard, evidence_heard, heard_in, hearing, maturing_heard, messages_heard, overheard_told, paid_heard, part_heard, redelegation_heard, restart_heard, reward_heard, set_heard, shared_told, silently, stands_heard, tx_heard, txs_heard, undelegation_heard, unheard, vote_heard}
use Rattle.rule_machine.specs.Machine.{Step, TxSteps, block_checked, step, tx_applied, txs_applied}
use Rattle.rule_machine.specs.Messages.{effect_of}
use Rattle.chain_modules.specs.Erasing.{IsUnheard}
use Rattle.chain_modules.proofs.CarryLemmas.{cancelled_carried, carried, carried_by, carried_ok, carried_with, created_carried, delegated_by_carried, matured_all_carried, redelegated_carried, set_carried, then_carried, told_carried, undelegated_carried}
use Rattle.chain_modules.proofs.SlashCarryLemmas.{carried_core, core_with, equivocation_carried, voted_carried}

-- ---- steps one after another, of any states

-- one step for each item, over other states
each_over : {A E S T : Type 0} (f : S → T) (step : A → S → Result S E) (on : A → T → Result T E) → ((x : A) (s : S) → on x (f s) ≡ carried_ok f (step x s)) → (xs : List A) (s : S) → each on xs (f s) ≡ carried_ok f (each step xs s)
each_over f step on h [] s = refl
each_over f step on h (x ∷ xs) s = then_carried f f (step x s) (on x (f s)) _ _ (h x s) (λ t. each_over f step on h xs t)

module _ {P : Type 0} where
  -- a step that calls no hook
  pub silent_unheard : {E : Type 0} (step : State → Result State E) (w : Hearing P) → step (unheard w) ≡ carried_ok unheard (silently step w)
  silent_unheard {E = E} step w = by (step (unheard w))
    where
      by : (r : Result State E) → r ≡ carried_ok unheard (r >>= λ u. Ok (hearing (heard_in w) u))
      by (Ok u) = refl
      by (Err why) = refl

module _ {P : Type 0} (hears : P → Hook → View → P) where
  -- what hooks hold without what was heard, and what distribution holds
  abbrev pub apart : Overheard P → Hooks
  apart s = (s.0.0, s.1)

  abbrev first : Shared × P → Shared
  first s = s.0

  pub shared_unheard : (s : Shared × P) (hook : Hook) (v : View) → distribution_told (first s) hook v ≡ told_carried first [] (shared_told hears s hook v)
  shared_unheard s hook v = by (distribution_told s.0 hook v)
    where
      by : (t : Told Shared) → t ≡ told_carried first [] (and_then t (λ d w log. gives (d, hears s.1 hook w) w log))
      by (gives d w l) = refl
      by (exceeds over) = refl

  -- what is told to hooks to which a listener listens is, without what it heard, what is told without it
  pub told_unheard : (s : Overheard P) (hook : Hook) (v : View) → chain_told (apart s) hook v ≡ told_carried apart [] (overheard_told hears s hook v)
  told_unheard s hook v = by (distribution_told s.0.0 hook v)
    where
      both : (d : Shared) (p : P) (l : Log) (t : Told Window) → given_with d l t ≡ told_carried apart [] (given_with (d, p) l t)
      both d p l (gives i u m) = refl
      both d p l (exceeds over) = refl

      by : (t : Told Shared) → and_then t (λ d w log. given_with d log (window_told s.1 hook w))
          ≡ told_carried apart [] (and_then (and_then t (λ d w log. gives (d, hears s.0.1 hook w) w log)) (λ d w log. given_with d log (window_told s.1 hook w)))
      by (gives d w l) = both d (hears s.0.1 hook w) l (window_told s.1 hook w)
      by (exceeds over) = refl

  -- ---- messages

  pub reward_unheard : (who operator : List ℕ) (w : Hearing P) → withdraw_reward who operator (unheard w) ≡ carried_ok unheard (reward_heard hears who operator w)
  reward_unheard who operator w = by (withdraw_reward who operator (unheard w))
    where
      by : (r : Result State Refusal)
          → r ≡ carried_ok unheard (r >>= λ u. Ok (hearing (restart_heard hears (validator_at w.mine.staked operator) (delegation w.mine.staked who operator) who u.view (heard_in w)) u))
      by (Ok u) = refl
      by (Err why) = refl

  pub creation_unheard : (m : CreateValidator) (w : Hearing P) → create_validator m (unheard w) ≡ carried_ok unheard (creation_heard hears m w)
  creation_unheard m w =
      then_carried (carried_by apart []) unheard (created (overheard_told hears) m (staked_in w)) (created chain_told m (staked_in (unheard w))) _ _
      (created_carried apart [] (overheard_told hears) chain_told told_unheard m (staked_in w)) (λ p. refl)

  pub delegation_unheard : (who operator : List ℕ) (coin : Coin) (w : Hearing P) → delegate who operator coin (unheard w) ≡ carried_ok unheard (delegation_heard hears who operator coin w)
  delegation_unheard who operator coin w =
      then_carried (carried_by apart []) unheard (delegated_by (overheard_told hears) who operator coin (staked_in w)) (delegated_by chain_told who operator coin (staked_in (unheard w))) _ _
      (delegated_by_carried apart [] (overheard_told hears) chain_told told_unheard who operator coin (staked_in w)) (λ p. refl)

  pub undelegation_unheard : (who operator : List ℕ) (coin : Coin) (w : Hearing P) → undelegate who operator coin (unheard w) ≡ carried_ok unheard (undelegation_heard hears who operator coin w)
  undelegation_unheard who operator coin w =
      then_carried (carried_with apart []) unheard (undelegated (overheard_told hears) who operator coin w.mine.unbondings (staked_in w)) (undelegated chain_told who operator coin w.mine.unbondings (staked_in (unheard w))) _ _
      (undelegated_carried apart [] (overheard_told hears) chain_told told_unheard who operator coin w.mine.unbondings (staked_in w)) (λ p. refl)

  pub redelegation_unheard : (who source target : List ℕ) (coin : Coin) (w : Hearing P) → begin_redelegate who source target coin (unheard w) ≡ carried_ok unheard (redelegation_heard hears who source target coin w)
  redelegation_unheard who source target coin w =
      then_carried (carried_with apart []) unheard (redelegated (overheard_told hears) who source target coin w.mine.redelegations (staked_in w)) (redelegated chain_told who source target coin w.mine.redelegations (staked_in (unheard w))) _ _
      (redelegated_carried apart [] (overheard_told hears) chain_told told_unheard who source target coin w.mine.redelegations (staked_in w)) (λ p. refl)

  pub cancellation_unheard : (who operator : List ℕ) (coin : Coin) (height : ℕ) (w : Hearing P) → cancel_unbonding who operator coin height (unheard w) ≡ carried_ok unheard (cancellation_heard hears who operator coin height w)
  cancellation_unheard who operator coin height w =
      then_carried (carried_with apart []) unheard (cancelled (overheard_told hears) who operator coin height w.mine.unbondings (staked_in w)) (cancelled chain_told who operator coin height w.mine.unbondings (staked_in (unheard w))) _ _
      (cancelled_carried apart [] (overheard_told hears) chain_told told_unheard who operator coin height w.mine.unbondings (staked_in w)) (λ p. refl)

  effect_unheard : (m : Msg) (w : Hearing P) → effect_of m (unheard w) ≡ carried_ok unheard (effect_heard hears m w)
  effect_unheard (msg.CreateValidator m) w = creation_unheard m w
  effect_unheard (msg.Delegate m) w = delegation_unheard m.delegator m.validator m.amount w
  effect_unheard (msg.Undelegate m) w = undelegation_unheard m.delegator m.validator m.amount w
  effect_unheard (msg.BeginRedelegate m) w = redelegation_unheard m.delegator m.source m.target m.amount w
  effect_unheard (msg.CancelUnbonding m) w = cancellation_unheard m.delegator m.validator m.amount m.creation_height w
  effect_unheard (msg.WithdrawReward m) w = reward_unheard m.delegator m.validator w
  effect_unheard (msg.Send m) w = silent_unheard (effect_of (msg.Send m)) w
  effect_unheard (msg.EditValidator m) w = silent_unheard (effect_of (msg.EditValidator m)) w
  effect_unheard (msg.Unjail m) w = silent_unheard (effect_of (msg.Unjail m)) w
  effect_unheard (msg.WithdrawCommission m) w = silent_unheard (effect_of (msg.WithdrawCommission m)) w
  effect_unheard (msg.SetWithdrawAddress m) w = silent_unheard (effect_of (msg.SetWithdrawAddress m)) w
  effect_unheard (msg.FundCommunityPool m) w = silent_unheard (effect_of (msg.FundCommunityPool m)) w
  effect_unheard (msg.CommunityPoolSpend m) w = silent_unheard (effect_of (msg.CommunityPoolSpend m)) w
  effect_unheard (msg.UpdateParams m) w = silent_unheard (effect_of (msg.UpdateParams m)) w

  -- ---- transactions

  -- messages that stand together, or one of which is refused, with a listener and without it
  abbrev pub AreUnheard : Result State (ℕ × Refusal) → Result (Hearing P) Refusal → Type 0
  AreUnheard (Ok u) (Ok w) = u ≡ unheard w
  AreUnheard (Ok u) (Err why) = ⊥
  AreUnheard (Err stop) (Ok w) = ⊥
  AreUnheard (Err stop) (Err why) = ⊤

  pub messages_unheard : (place : ℕ) (ms : List Msg) (w : Hearing P) → AreUnheard (effects_of place (map effect_of ms) (unheard w)) (messages_heard hears ms w)
  messages_unheard place [] w = refl
  messages_unheard place (m ∷ ms) w = by (effect_of m (unheard w)) (effect_heard hears m w) (effect_unheard m w) (λ u. messages_unheard (place + 1) ms u)
    where
      by : (r : Result State Refusal) (q : Result (Hearing P) Refusal) → r ≡ carried_ok unheard q → ((u : Hearing P) → AreUnheard (effects_of (place + 1) (map effect_of ms) (unheard u)) (messages_heard hears ms u))
          → AreUnheard (stopping (λ why. (place, why)) r >>= λ u. effects_of (place + 1) (map effect_of ms) u) (q >>= λ u. messages_heard hears ms u)
      by r (Ok u) e rest = subst (λ x. AreUnheard (stopping (λ why. (place, why)) x >>= λ y. effects_of (place + 1) (map effect_of ms) y) (messages_heard hears ms u)) (sym e) (rest u)
      by r (Err why) e rest = subst (λ x. AreUnheard (stopping (λ why. (place, why)) x >>= λ y. effects_of (place + 1) (map effect_of ms) y) (Err why)) (sym e) tt

  stands_unheard : (paid : Hearing P) (r : Result State (ℕ × Refusal)) (q : Result (Hearing P) Refusal) → AreUnheard r q → (stands_or_fee (unheard paid) r).1 ≡ unheard (stands_heard hears paid q)
  stands_unheard paid (Ok u) (Ok w) e = e
  stands_unheard paid (Ok u) (Err why) e = absurd e
  stands_unheard paid (Err stop) (Ok w) e = absurd e
  stands_unheard paid (Err stop) (Err why) e = refl

  paid_unheard : (tx : Tx) (w : Hearing P) → (transaction_applied tx.payer tx.fee (map effect_of tx.msgs) (unheard w)).1 ≡ unheard (paid_heard hears tx.msgs w (silently (fee_paid tx.payer tx.fee) w))
  paid_unheard tx w = by (fee_paid tx.payer tx.fee (unheard w))
    where
      by : (r : Result State Refusal) → (after_fee (map effect_of tx.msgs) (unheard w) r).1 ≡ unheard (paid_heard hears tx.msgs w (r >>= λ u. Ok (hearing (heard_in w) u)))
      by (Ok paid) =
          let h : Hearing P = hearing (heard_in w) paid in
          stands_unheard h (effects_of 0 (map effect_of tx.msgs) paid) (messages_heard hears tx.msgs h) (messages_unheard 0 tx.msgs h)
      by (Err why) = refl

  -- ---- the beginning and the end of a block

  pub vote_unheard : (t : Vote) (w : Hearing P) → vote_step t (unheard w) ≡ carried_ok unheard (vote_heard hears t w)
  vote_unheard t w =
      then_carried (core_with first []) unheard (voted (core_slashes (shared_told hears) plain_slash) t w.hooks.1 (beside_window w)) (voted (core_slashes distribution_told plain_slash) t w.hooks.1 (carried_core first [] (beside_window w))) _ _
      (voted_carried first [] (shared_told hears) distribution_told shared_unheard t w.hooks.1 (beside_window w)) (λ p. refl)

  pub evidence_unheard : (e : Evidence) (w : Hearing P) → evidence_step e (unheard w) ≡ carried_ok unheard (evidence_heard hears e w)
  evidence_unheard e w =
      then_carried (core_with first []) unheard (equivocation_handled (core_slashes (shared_told hears) plain_slash) window_bans e w.hooks.1 (beside_window w))
      (equivocation_handled (core_slashes distribution_told plain_slash) window_bans e w.hooks.1 (carried_core first [] (beside_window w))) _ _
      (equivocation_carried first [] (shared_told hears) distribution_told shared_unheard window_bans e w.hooks.1 (beside_window w)) (λ p. refl)

  beginning_unheard : (votes : List Vote) (evidence : List Evidence) (w : Hearing P) → begin_block votes evidence (unheard w) ≡ carried_ok unheard (beginning_heard hears votes evidence w)
  beginning_unheard votes evidence w =
      then_carried unheard unheard (silently (allocation_step votes) w) (allocation_step votes (unheard w)) _ _ (silent_unheard (allocation_step votes) w) (λ w1.
      then_carried unheard unheard (each (vote_heard hears) votes w1) (each vote_step votes (unheard w1)) _ _ (each_over unheard (vote_heard hears) vote_step vote_unheard votes w1) (λ w2.
      each_over unheard (evidence_heard hears) evidence_step evidence_unheard evidence w2))

  pub set_unheard : (w : Hearing P) → set_step (unheard w) ≡ carried_ok unheard (set_heard hears w)
  set_unheard w =
      then_carried (carried apart []) unheard (set_updated (overheard_told hears) (staked_in w)) (set_updated chain_told (staked_in (unheard w))) _ _ (set_carried apart [] (overheard_told hears) chain_told told_unheard (staked_in w)) (λ s. refl)

  pub maturing_unheard : (w : Hearing P) → maturing_step (unheard w) ≡ carried_ok unheard (maturing_heard hears w)
  maturing_unheard w =
      then_carried (carried apart []) unheard (validators_matured (overheard_told hears) (staked_in w)) (validators_matured chain_told (staked_in (unheard w))) _ _
      (matured_all_carried apart [] (overheard_told hears) chain_told told_unheard (staked_in w)) (λ s. refl)

  ending_unheard : (w : Hearing P) → end_block (unheard w) ≡ carried_ok unheard (ending_heard hears w)
  ending_unheard w =
      then_carried unheard unheard (set_heard hears w) (set_step (unheard w)) _ _ (set_unheard w) (λ w1.
      then_carried unheard unheard (maturing_heard hears w1) (maturing_step (unheard w1)) _ _ (maturing_unheard w1) (λ w2.
      then_carried (unheard {P = P}) (unheard {P = P}) (silently unbondings_step w2) (unbondings_step (unheard w2)) (silently redelegations_step) redelegations_step (silent_unheard unbondings_step w2) (λ w3. silent_unheard redelegations_step w3)))

  -- ---- blocks

  module _ (parted : P → ℕ → P) (ended : P → P) where
    tx_unheard : (tx : Tx) (p : State) (w : Hearing P) → without_facts p ≡ unheard w → without_facts (tx_applied tx p).state ≡ unheard (tx_heard hears parted ended tx w)
    tx_unheard tx p w e = ap without_facts (ap (λ (x : State). (transaction_applied tx.payer tx.fee (map effect_of tx.msgs) x).1) e ∙ paid_unheard tx w)

    txs_unheard : (txs : List Tx) (p : State) (w : Hearing P) → without_facts p ≡ unheard w → without_facts (txs_applied txs p).state ≡ unheard (txs_heard hears parted ended txs w)
    txs_unheard [] p w e = e
    txs_unheard (tx ∷ txs) p w e = txs_unheard txs (tx_applied tx p).state (tx_heard hears parted ended tx w) (tx_unheard tx p w e)

    -- the last part of a block, of which this is made
    last_unheard : (make : State → Step) (seal : Hearing P → Hearing P) (r : Result State Over) (q : Result (Hearing P) Over) → ((u : Hearing P) → (make (unheard u)).state ≡ unheard (seal u)) → r ≡ carried_ok unheard q
        → IsUnheard (stopping RatioLimit r >>= λ u. Ok (make u)) (q >>= λ u. Ok (seal u))
    last_unheard make seal r (Ok u) same e = subst (λ x. IsUnheard (stopping RatioLimit x >>= λ y. Ok (make y)) (Ok (seal u))) (sym e) (same u)
    last_unheard make seal r (Err over) same e = subst (λ x. IsUnheard {P = P} (stopping RatioLimit x >>= λ y. Ok (make y)) (Err over)) (sym e) refl

    -- the parts behind the beginning
    parts_unheard : (rest : State → Result Step BlockFault) (on : Hearing P → Result (Hearing P) Over) (r : Result State Over) (q : Result (Hearing P) Over) → ((u : Hearing P) → IsUnheard (rest (unheard u)) (on u)) → r ≡ carried_ok unheard q
        → IsUnheard (stopping RatioLimit r >>= rest) (q >>= on)
    parts_unheard rest on r (Ok u) same e = subst (λ x. IsUnheard (stopping RatioLimit x >>= rest) (on u)) (sym e) (same u)
    parts_unheard rest on r (Err over) same e = subst (λ x. IsUnheard {P = P} (stopping RatioLimit x >>= rest) (Err over)) (sym e) refl

    pub blocks_unheard : (b : Block) (w : Hearing P) → block_checked b (unheard w) ≡ Ok tt → IsUnheard (step b (unheard w)) (block_heard hears parted ended b w)
    blocks_unheard b w checked =
        let start : Hearing P = hearing (heard_in w) (without_facts (next_block b.height b.time (unheard w))) in
        let made : State → TxSteps → State → Step = λ begun txs u. record { report = record { height = b.height; time = b.time; begun = begun.view.facts; txs = txs.reports; ended = u.view.facts }; state = without_facts u } in
        let rest : State → Result Step BlockFault = λ begun. (stopping RatioLimit (end_block (without_facts (txs_applied b.txs begun).state)) >>= λ u. Ok (made begun (txs_applied b.txs begun) u)) in
        let seal : Hearing P → Hearing P = λ u. hearing (ended (heard_in u)) (without_facts (unheard u)) in
        let on : Hearing P → Result (Hearing P) Over = λ begun. (ending_heard hears (txs_heard hears parted ended b.txs (part_heard hears parted ended begun)) >>= λ u. Ok (seal u)) in
        subst (λ (c : Result ⊤ BlockFault). IsUnheard (c >> (stopping RatioLimit (begin_block b.votes b.evidence (unheard start)) >>= rest)) (block_heard hears parted ended b w)) (sym checked)
        (parts_unheard rest on (begin_block b.votes b.evidence (unheard start)) (beginning_heard hears b.votes b.evidence start) (λ u.
        let left : Hearing P = txs_heard hears parted ended b.txs (part_heard hears parted ended u) in
        last_unheard (made (unheard u) (txs_applied b.txs (unheard u))) seal (end_block (without_facts (txs_applied b.txs (unheard u)).state)) (ending_heard hears left) (λ x. refl)
        (ap end_block (txs_unheard b.txs (unheard u) (part_heard hears parted ended u) refl) ∙ ending_unheard left))
        (beginning_unheard b.votes b.evidence start))
