use Rattle.line_json.proofs.CompactMessageLemmas.{delegate_is_compact}
use Rattle.line_json.proofs.compact_messages.delegate.Goals as goal

pub returns : goal.returns
returns c =
    delegate_is_compact c.args.form c.in_ok-user.user c.in_ok-delegator.delegator c.in_ok-operator.operator c.in_ok-validator.validator c.in_ok-name.name.now c.in_ok-denom.denom c.in_ok-name.amount
    c.in_ok-delegator.ensures c.in_ok-validator.ensures c.in_ok-denom.ensures
    c.in_ok-at_delegator.ensures c.in_ok-user.ensures c.in_ok-at_validator.ensures c.in_ok-operator.ensures c.in_ok-at_amount.ensures c.in_ok-name.ensures c.in_ok-rest.ensures
