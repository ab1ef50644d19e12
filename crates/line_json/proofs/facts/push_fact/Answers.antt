use Rattle.std.proofs.Common.{◌≡◌, ◌++◌, sym, subst, OnOk}
use Rattle.line_json.specs.{Facts.fact_data, Line.line_of}
use Rattle.line_json.proofs.facts.push_fact.Goals as goal

pub returns-in-Burn-clause-ok : goal.returns-in-Burn-clause-ok
returns-in-Burn-clause-ok c =
    subst (λ fact. OnOk c.burn.result (c.burn.new.out.items ≡ c.args.out.now.items ++ line_of (fact_data c.args.form c.args.height fact)))
    (sym c.in-Burn.is) (c.burn.ensures.ok c.args.form)

pub returns-in-Pooled-clause-ok : goal.returns-in-Pooled-clause-ok
returns-in-Pooled-clause-ok c =
    subst (λ fact. OnOk c.pooled.result (c.pooled.new.out.items ≡ c.args.out.now.items ++ line_of (fact_data c.args.form c.args.height fact)))
    (sym c.in-Pooled.is) (c.pooled.ensures.ok c.args.form)

pub returns-in-Started-clause-ok : goal.returns-in-Started-clause-ok
returns-in-Started-clause-ok c =
    subst (λ fact. OnOk c.started.result (c.started.new.out.items ≡ c.args.out.now.items ++ line_of (fact_data c.args.form c.args.height fact)))
    (sym c.in-Started.is) c.started.ensures.ok

pub returns-in-Slashed-clause-ok : goal.returns-in-Slashed-clause-ok
returns-in-Slashed-clause-ok c =
    subst (λ fact. OnOk c.slashed.result (c.slashed.new.out.items ≡ c.args.out.now.items ++ line_of (fact_data c.args.form c.args.height fact)))
    (sym c.in-Slashed.is) c.slashed.ensures.ok
