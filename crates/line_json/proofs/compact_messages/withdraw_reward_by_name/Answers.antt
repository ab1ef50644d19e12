use Rattle.line_json.proofs.CompactMessageLemmas.{withdraw_reward_is_compact_by_name}
use Rattle.line_json.proofs.compact_messages.withdraw_reward_by_name.Goals as goal

pub returns : goal.returns
returns c =
    withdraw_reward_is_compact_by_name c.args.form c.in_ok-user.user c.in_ok-delegator.delegator c.in_ok-operator.operator c.in_ok-validator.validator
    c.in_ok-delegator.ensures c.in_ok-validator.ensures
    c.in_ok-at_delegator.ensures c.in_ok-user.ensures c.in_ok-at_validator.ensures c.in_ok-operator.ensures c.in_ok-rest.ensures
