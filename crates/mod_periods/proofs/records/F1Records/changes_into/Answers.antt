use Rattle.std.proofs.Common.{◌∙◌, ap}
use Rattle.base_records.proofs.KindLemmas.{changed-at}
use Rattle.mod_periods.{specs.Items.items_of, proofs.ItemLemmas.{current-apart, historical-apart, starts-apart}}
use Rattle.mod_periods.proofs.records.F1Records.changes_into.Goals as goal

pub changes_into-requires : goal.changes_into-requires
changes_into-requires g c = record { told = ((λ k v m. tt, λ k v m. tt), ((λ k v m. tt, λ k v m. tt), ((λ k v m. tt, λ k v m. tt), (λ k v m. tt, λ k v m. tt), starts-apart), historical-apart), current-apart) }

pub returns-clause-changes : goal.returns-clause-changes
returns-clause-changes g c =
    changed-at items_of c.changes_into.result _ c.args.self.now.kept (c.kinds.ensures.held ∙ ap (λ b. b.kept) c.self.view_is) _ c.args.self.now.settled (c.kinds.ensures.settled ∙ ap (λ b. b.settled) c.self.view_is)
    c.args.out.now.items c.changes_into.new.out.items c.changes_into.ensures.changes
