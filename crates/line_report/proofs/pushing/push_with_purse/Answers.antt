use Rattle.std.proofs.Common.{◌≡◌, ◌++◌, [], sym, subst, OnOk}
use Rattle.line_json.specs.Line.{line_of}
use Rattle.base_coins.specs.Coins.{Money}
use Rattle.base_roles.specs.{declared.entities.Purse.Purse, Items.no_purse}
use Rattle.line_report.{specs.Lines.validator_line, proofs.OrderLemmas.{purse_found, purse_missing}}
use Rattle.line_report.proofs.pushing.push_with_purse.Goals as goal

pub returns-in-Some-clause-ok : goal.returns-in-Some-clause-ok
returns-in-Some-clause-ok c =
    subst (λ (p : Purse). OnOk c.push_validator.result (c.push_validator.new.out.items ≡ c.args.out.now.items ++ line_of (validator_line c.args.form (c.args.validator.now, p))))
    (sym (purse_found c.args.purses.now.entries c.args.operator.now c.in-Some.purse.now c.in-Some.ensures.value)) c.push_validator.ensures.ok

pub returns-in-None-clause-ok : goal.returns-in-None-clause-ok
returns-in-None-clause-ok c =
    let empty : OnOk c.push_validator-in-None.result (c.push_validator-in-None.new.out.items ≡ c.args.out.now.items ++ line_of (validator_line c.args.form (c.args.validator.now, no_purse)))
    = subst (λ (coins : Money). OnOk c.push_validator-in-None.result (c.push_validator-in-None.new.out.items
    ≡ c.args.out.now.items ++ line_of (validator_line c.args.form (c.args.validator.now, record { outstanding = coins; commission = coins; current = [] })))) c.new-nothing.ensures c.push_validator-in-None.ensures.ok in
    subst (λ (p : Purse). OnOk c.push_validator-in-None.result (c.push_validator-in-None.new.out.items ≡ c.args.out.now.items ++ line_of (validator_line c.args.form (c.args.validator.now, p))))
    (sym (purse_missing c.args.purses.now.entries c.args.operator.now c.in-None.ensures.value)) empty
