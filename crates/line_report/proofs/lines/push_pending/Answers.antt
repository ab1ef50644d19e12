use Rattle.std.proofs.Common.{◌≡◌, ◌++◌, sym, subst, codes, OnOk}
use Rattle.line_json.specs.{Facts.between, Line.line_of}
use Rattle.line_report.specs.Lines.{of_kind, reward_members}
use Rattle.line_report.proofs.lines.push_pending.Goals as goal

pub returns-in-Some-clause-ok : goal.returns-in-Some-clause-ok
returns-in-Some-clause-ok c =
    subst (λ coins. OnOk c.push_line.result (c.push_line.new.out.items ≡ c.args.out.now.items
    ++ line_of (of_kind (codes "pending") (between c.args.form c.args.pending.now.delegator c.args.pending.now.operator (reward_members coins)))))
    (sym c.in-Some.is) c.push_line.ensures.ok

pub returns-in-None-clause-ok : goal.returns-in-None-clause-ok
returns-in-None-clause-ok c =
    subst (λ coins. OnOk c.push_line-in-None.result (c.push_line-in-None.new.out.items ≡ c.args.out.now.items
    ++ line_of (of_kind (codes "pending") (between c.args.form c.args.pending.now.delegator c.args.pending.now.operator (reward_members coins)))))
    (sym c.in-None.is) c.push_line-in-None.ensures.ok
