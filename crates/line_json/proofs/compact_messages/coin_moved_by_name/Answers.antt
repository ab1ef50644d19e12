use Rattle.line_json.proofs.CompactMessageLemmas.{begin_redelegate_is_compact_by_name, delegate_is_compact_by_name, undelegate_is_compact_by_name}
use Rattle.line_json.proofs.compact_messages.coin_moved_by_name.Goals as goal

pub returns-in-Some : goal.returns-in-Some
returns-in-Some c =
    delegate_is_compact_by_name c.args.form c.in_ok-user.user c.in_ok-delegator.delegator c.in_ok-operator.operator c.in_ok-validator.validator c.in_ok-name.name.now c.in_ok-denom.denom c.in_ok-name.number
    c.in_ok-delegator.ensures c.in_ok-validator.ensures c.in_ok-denom.ensures
    c.in_ok-at_amount.ensures c.in_ok-name.ensures c.in_ok-at_delegator.ensures c.in_ok-user.ensures c.in-Some.ensures c.in_ok-operator.ensures c.in_ok-rest.ensures

pub returns-in-Some-after : goal.returns-in-Some-after
returns-in-Some-after c =
    undelegate_is_compact_by_name c.args.form c.in_ok-user.user c.in_ok-delegator.delegator c.in_ok-operator-2.operator c.in_ok-validator-2.validator c.in_ok-name.name.now c.in_ok-denom.denom c.in_ok-name.number
    c.in_ok-delegator.ensures c.in_ok-validator-2.ensures c.in_ok-denom.ensures
    c.in_ok-at_amount.ensures c.in_ok-name.ensures c.in_ok-at_delegator.ensures c.in_ok-user.ensures c.in-Some-after.ensures c.in_ok-operator-2.ensures c.in_ok-rest-2.ensures

pub returns : goal.returns
returns c =
    begin_redelegate_is_compact_by_name c.args.form c.in_ok-user.user c.in_ok-delegator.delegator c.in_ok-left.left c.in_ok-source.source c.in_ok-joined.joined c.in_ok-target.target
    c.in_ok-name.name.now c.in_ok-denom.denom c.in_ok-name.number
    c.in_ok-delegator.ensures c.in_ok-source.ensures c.in_ok-target.ensures c.in_ok-denom.ensures
    c.in_ok-at_amount.ensures c.in_ok-name.ensures c.in_ok-at_delegator.ensures c.in_ok-user.ensures c.in_ok-at_source.ensures c.in_ok-left.ensures c.in_ok-at_target.ensures c.in_ok-joined.ensures c.in_ok-rest-3.ensures
