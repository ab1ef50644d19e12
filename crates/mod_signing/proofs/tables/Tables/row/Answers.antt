use Rattle.std.proofs.Common.{Some, None, subst}
use Rattle.mod_signing.{specs.Calls.{IsRow, ring_at}, proofs.TableLemmas.row_given}
use Rattle.mod_signing.proofs.tables.Tables.row.Goals as goal

pub returns-in-Some-clause-row : goal.returns-in-Some-clause-row
returns-in-Some-clause-row g c =
    subst (λ w. IsRow c.args.number c.in-Some.row.now (ring_at w.kept c.args.cons.now)) c.self.view_is
    (row_given c.self.inside.entries.entries c.self.inside.rows.entries c.args.cons.now c.args.number (Some c.in-Some.row.now) c.in-Some.ensures.value)

pub returns-in-None-clause-row : goal.returns-in-None-clause-row
returns-in-None-clause-row g c =
    subst (λ w. IsRow c.args.number 0 (ring_at w.kept c.args.cons.now)) c.self.view_is
    (row_given c.self.inside.entries.entries c.self.inside.rows.entries c.args.cons.now c.args.number None c.in-None.ensures.value)
