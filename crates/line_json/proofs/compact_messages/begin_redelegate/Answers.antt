use Rattle.line_json.proofs.CompactMessageLemmas.{begin_redelegate_is_compact}
use Rattle.line_json.proofs.compact_messages.begin_redelegate.Goals as goal

pub returns : goal.returns
returns c =
    begin_redelegate_is_compact c.args.form c.in_ok-user.user c.in_ok-delegator.delegator c.in_ok-left.left c.in_ok-source.source c.in_ok-joined.joined c.in_ok-target.target c.in_ok-name.name.now c.in_ok-denom.denom c.in_ok-name.amount
    c.in_ok-delegator.ensures c.in_ok-source.ensures c.in_ok-target.ensures c.in_ok-denom.ensures
    c.in_ok-at_delegator.ensures c.in_ok-user.ensures c.in_ok-at_source.ensures c.in_ok-left.ensures c.in_ok-at_target.ensures c.in_ok-joined.ensures c.in_ok-at_amount.ensures c.in_ok-name.ensures c.in_ok-rest.ensures
