use Rattle.std.proofs.Common.{◌∙◌, ap, option_map, option_copied}
use Rattle.base_types.specs.Orders.{cons_cmp}
use Rattle.base_table.specs.Tabled.{entry_above}
use Rattle.mod_signing.{specs.Calls.{entry_told, signed_told}, proofs.ResizedLemmas.{fused, told_above}}
use Rattle.mod_signing.proofs.tables.Tables.next.Goals as goal

pub returns-clause-above : goal.returns-clause-above
returns-clause-above g c =
    let after = option_copied c.args.after in
    fused entry_told (λ e. (e.0.now, e.1.now)) c.next.result
    ∙ ap (option_map entry_told) c.next.ensures.above
    ∙ told_above c.self.inside.entries.entries c.self.inside.rows.entries after
    ∙ ap (λ w. option_map signed_told (entry_above cons_cmp w.kept after)) c.self.view_is
