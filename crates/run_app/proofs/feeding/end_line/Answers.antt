use Rattle.std.proofs.Common.{◌∙◌, ◌++◌, ap}
use Rattle.run_app.proofs.CountLemmas.{extended_keeps, extended_writes}
use Rattle.run_app.proofs.PartLemmas.{extend_stops, line_fed, line_stops}
use Rattle.run_app.proofs.feeding.end_line.Goals as goal

pub returns-in-Err-clause-stops : goal.returns-in-Err-clause-stops
returns-in-Err-clause-stops g c = λ b taken end from k.
    extend_stops c.args.form c.args.every b taken _ _ end _ _ _ _ _ from _ _ _ _ c.in-Err.stop k c.requires.before c.in-Err.ensures.err

pub take_line-requires-clause-stands : goal.take_line-requires-clause-stands
take_line-requires-clause-stands g c =
    let r = c.requires.fed in
    (r.0, _, r.2, r.3, r.4.stands)

pub returns-in-Err-take_line-clause-stops : goal.returns-in-Err-take_line-clause-stops
returns-in-Err-take_line-clause-stops g c = λ b taken end from k.
    line_stops c.args.form c.args.every b.first _ _ taken _ _ from _ c.in-Err-take_line.stop (c.in_default.ensures.line ∙ ap (λ l. l ++ c.args.bytes.now) k.line_is) c.requires.before (c.in-Err-take_line.ensures.stops b _ end from k.stands)

pub returns-clause-fed : goal.returns-clause-fed
returns-clause-fed g c = λ b taken end from k.
    let t = c.in_default-take_line.ensures.took b _ end from k.stands in
    (t.0, line_fed c.args.form c.args.every b taken t.0 _ _ _ _ from _ _ _ _ _ _ _ (c.in_default.ensures.line ∙ ap (λ l. l ++ c.args.bytes.now) k.line_is) c.requires.before c.clear.ensures.items t.1)

pub returns-in-Err-clause-writes : goal.returns-in-Err-clause-writes
returns-in-Err-clause-writes g c = extended_writes (Unit {0}) c.in-Err.stop _ _ _ _ c.in-Err.ensures.err

pub returns-in-Err-clause-keeps : goal.returns-in-Err-clause-keeps
returns-in-Err-clause-keeps g c = extended_keeps (Unit {0}) c.in-Err.stop _ _ _ _ c.in-Err.ensures.err
