-- Every message is refused by the first of its conditions that holds of a sound state, and accepted where none does.
use Rattle.base_messages.specs.declared.message.Msg.TheVariants as msg
use Rattle.rule_machine.specs.Promises.{MessagesNameConditions}
use Rattle.law_soundness.proofs.{Created.creations_refused, Redelegated.redelegations_refused}
use Rattle.law_soundness.proofs.Refused.{cancellations_refused, delegations_refused, rewards_refused}
use Rattle.law_soundness.proofs.{Refusing.funds_refused, Undelegated.undelegations_refused}
use Rattle.rule_modules.proofs.ParameterLemmas.{updates_refused}
use Rattle.rule_modules.proofs.RefusalLemmas.{commissions_refused, edits_refused, payees_refused, sends_refused, spends_refused, unjails_refused}
use Rattle.rule_modules.specs.RefusalOrder.{RefusalsNameConditions}

pub refusals_name_conditions : RefusalsNameConditions
refusals_name_conditions = record {
  creates = creations_refused;
  delegates = delegations_refused;
  undelegates = undelegations_refused;
  redelegates = redelegations_refused;
  cancels = cancellations_refused;
  rewards = rewards_refused;
  funds = funds_refused;
}

pub messages_name_conditions : MessagesNameConditions
messages_name_conditions (msg.Send m) c w s = sends_refused m.from m.to m.coins w
messages_name_conditions (msg.CreateValidator m) c w s = creations_refused m w s
messages_name_conditions (msg.EditValidator m) c w s = edits_refused m w
messages_name_conditions (msg.Delegate m) c w s = delegations_refused m.delegator m.validator m.amount w s
messages_name_conditions (msg.Undelegate m) c w s = undelegations_refused m.delegator m.validator m.amount w s
messages_name_conditions (msg.BeginRedelegate m) c w s = redelegations_refused m.delegator m.source m.target m.amount w s
messages_name_conditions (msg.CancelUnbonding m) c w s = cancellations_refused m.delegator m.validator m.amount m.creation_height w s
messages_name_conditions (msg.Unjail m) c w s = unjails_refused m.validator w
messages_name_conditions (msg.WithdrawReward m) c w s = rewards_refused m.delegator m.validator w s
messages_name_conditions (msg.WithdrawCommission m) c w s = commissions_refused m.validator w
messages_name_conditions (msg.SetWithdrawAddress m) c w s = payees_refused m.delegator m.withdraw w
messages_name_conditions (msg.FundCommunityPool m) c w s = funds_refused m.depositor m.coins c w s
messages_name_conditions (msg.CommunityPoolSpend m) c w s = spends_refused m.authority m.recipient m.coins w
messages_name_conditions (msg.UpdateParams m) c w s = updates_refused m.authority m.params w
