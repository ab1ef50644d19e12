-- What the rules of distribution carry on, messages that name no payee and the parts of a block do.
use Rattle.std.proofs.Common.{List, [], ◌∷◌, IfOk}
use Rattle.base_roles.specs.{declared.messages.{Evidence.Evidence, Vote.Vote}, Log.Log, Flow.{◌>>=◌, each}}
use Rattle.base_messages.specs.declared.message.Msg.{Msg}
use Rattle.base_messages.specs.declared.message.Msg.TheVariants as msg
use Rattle.rule_machine.specs.Messages.{effect_of}
use Rattle.rule_modules.specs.Chain.{State, allocation_step, begin_block, end_block, evidence_step, maturing_step, redelegations_step, set_step, unbondings_step, vote_step}
use Rattle.rule_modules.specs.{Distribution.Shared, Sound.IsSound}
use Rattle.law_soundness.proofs.Steps.{on_then}
use Rattle.law_rewards.proofs.{Carried.IsCarried, CarriedSlashes.{vote_carried, evidence_carried}}
use Rattle.law_rewards.proofs.CarriedSteps.{send_carried, edit_carried, unjail_carried, commission_carried, fund_carried, spend_carried, update_carried, reward_carried, delegate_carried, cancel_carried, undelegate_carried, redelegate_carried, create_carried, allocation_carried, set_carried, maturing_carried, unbondings_carried, redelegations_carried}

-- a message that does not say to whom payments go
abbrev pub NamesNoPayee : Msg → Type 0
NamesNoPayee (msg.SetWithdrawAddress m) = ⊥
NamesNoPayee _ = Unit {0}

module _ (Q : Shared → Log → Type 0) (carries : IsCarried Q) where
  abbrev AreCarried : State → Type 0
  AreCarried w = Q w.hooks.0 w.log

  pub message_carried : (m : Msg) (w : State) → NamesNoPayee m → IsSound w → AreCarried w → IfOk (effect_of m w) AreCarried
  message_carried (msg.Send m) w n s r = send_carried Q carries m.from m.to m.coins w r
  message_carried (msg.CreateValidator m) w n s r = create_carried Q carries m w s r
  message_carried (msg.EditValidator m) w n s r = edit_carried Q carries m w r
  message_carried (msg.Delegate m) w n s r = delegate_carried Q carries m.delegator m.validator m.amount w r
  message_carried (msg.Undelegate m) w n s r = undelegate_carried Q carries m.delegator m.validator m.amount w r
  message_carried (msg.BeginRedelegate m) w n s r = redelegate_carried Q carries m.delegator m.source m.target m.amount w r
  message_carried (msg.CancelUnbonding m) w n s r = cancel_carried Q carries m.delegator m.validator m.amount m.creation_height w r
  message_carried (msg.Unjail m) w n s r = unjail_carried Q carries m.validator w r
  message_carried (msg.WithdrawReward m) w n s r = reward_carried Q carries m.delegator m.validator w r
  message_carried (msg.WithdrawCommission m) w n s r = commission_carried Q carries m.validator w r
  message_carried (msg.SetWithdrawAddress m) w n s r = absurd n
  message_carried (msg.FundCommunityPool m) w n s r = fund_carried Q carries m.depositor m.coins w r
  message_carried (msg.CommunityPoolSpend m) w n s r = spend_carried Q carries m.authority m.recipient m.coins w r
  message_carried (msg.UpdateParams m) w n s r = update_carried Q carries m.authority m.params w r

  votes_carried : (ts : List Vote) (w : State) → AreCarried w → IfOk (each vote_step ts w) AreCarried
  votes_carried [] w r = r
  votes_carried (t ∷ ts) w r = on_then {B = State} (vote_step t w) (λ x. each vote_step ts x) AreCarried AreCarried (vote_carried Q carries t w r) (λ x k. votes_carried ts x k)

  all_evidence_carried : (es : List Evidence) (w : State) → AreCarried w → IfOk (each evidence_step es w) AreCarried
  all_evidence_carried [] w r = r
  all_evidence_carried (e ∷ es) w r = on_then {B = State} (evidence_step e w) (λ x. each evidence_step es x) AreCarried AreCarried (evidence_carried Q carries e w r) (λ x k. all_evidence_carried es x k)

  pub begin_carried : (votes : List Vote) (evidence : List Evidence) (w : State) → AreCarried w → IfOk (begin_block votes evidence w) AreCarried
  begin_carried votes evidence w r =
      on_then {B = State} (allocation_step votes w) (λ x. each vote_step votes x >>= λ y. each evidence_step evidence y) AreCarried AreCarried (allocation_carried Q carries votes w r) (λ x k.
      on_then {B = State} (each vote_step votes x) (λ y. each evidence_step evidence y) AreCarried AreCarried (votes_carried votes x k) (λ y j. all_evidence_carried evidence y j))

  pub end_carried : (w : State) → AreCarried w → IfOk (end_block w) AreCarried
  end_carried w r =
      on_then {B = State} (set_step w) (λ a. maturing_step a >>= λ b. unbondings_step b >>= λ c. redelegations_step c) AreCarried AreCarried (set_carried Q carries w r) (λ a ka.
      on_then {B = State} (maturing_step a) (λ b. unbondings_step b >>= λ c. redelegations_step c) AreCarried AreCarried (maturing_carried Q carries a ka) (λ b kb.
      on_then {B = State} (unbondings_step b) (λ c. redelegations_step c) AreCarried AreCarried (unbondings_carried Q carries b kb) (λ c kc. redelegations_carried Q carries c kc)))
