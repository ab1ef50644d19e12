use Rattle.std.proofs.Common.{◌∙◌, ◌++◌, sym, ap}
use Rattle.line_json.specs.{Told.{data_tokens, told_data}, Values.operator_data}
use Rattle.line_json.proofs.writing.push_told.Goals as goal

pub returns-in_ok-push_address-in-Operator-clause-ok : goal.returns-in_ok-push_address-in-Operator-clause-ok
returns-in_ok-push_address-in-Operator-clause-ok c =
    c.in_ok-push_address-in-Operator.ensures.ok
    ∙ ap (λ bytes. c.args.writer.now.tokens ++ data_tokens (operator_data c.in-Operator.form bytes)) c.bytes-in-Operator.ensures.value
    ∙ ap (λ told. c.args.writer.now.tokens ++ data_tokens (told_data told)) (sym c.in-Operator.is)
