use Rattle.std.proofs.Common.{◌∙◌, ap}
use Rattle.mod_signing.{specs.{Calls.{told_of_entry, told_of_signed}, Kept.signed_of}, proofs.TableLemmas.entry_found}
use Rattle.mod_signing.proofs.tables.Tables.entry.Goals as goal

pub returns-clause-found : goal.returns-clause-found
returns-clause-found g c =
    ap told_of_entry c.get.ensures.value ∙ entry_found c.self.inside.entries.entries c.self.inside.rows.entries c.args.cons.now
    ∙ ap (λ w. told_of_signed (signed_of w.kept c.args.cons.now)) c.self.view_is
