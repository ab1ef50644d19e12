use Rattle.line_json.proofs.CompactMessageLemmas.{withdraw_commission_is_compact}
use Rattle.line_json.proofs.compact_messages.withdraw_commission.Goals as goal

pub returns : goal.returns
returns c =
    withdraw_commission_is_compact c.args.form c.in_ok-operator.operator c.in_ok-validator.validator
    c.in_ok-validator.ensures
    c.in_ok-at_validator.ensures c.in_ok-operator.ensures c.in_ok-rest.ensures
