use Rattle.std.proofs.Common.{◌∙◌, ◌++◌, sym, ap}
use Rattle.serde_json.specs.Written.{compact_text}
use Rattle.line_json.specs.{Told.told_data, Values.operator_data}
use Rattle.line_json.proofs.pieces.push_value.Goals as goal

pub returns-in_ok-push_address-in-Operator-clause-ok : goal.returns-in_ok-push_address-in-Operator-clause-ok
returns-in_ok-push_address-in-Operator-clause-ok c =
    c.in_ok-push_address-in-Operator.ensures.ok
    ∙ ap (λ bytes. c.args.out.now.items ++ compact_text (operator_data c.in-Operator.form bytes)) c.bytes-in-Operator.ensures.value
    ∙ ap (λ told. c.args.out.now.items ++ compact_text (told_data told)) (sym c.in-Operator.is)
