use Rattle.std.proofs.Common.{◌∙◌, ap}
use Rattle.base_records.proofs.KindLemmas.{once-at, listed-at}
use Rattle.mod_periods.{specs.Items.items_of, proofs.ItemLemmas.{current-apart, historical-apart, starts-apart}}
use Rattle.mod_periods.proofs.records.F1Records.items_into.Goals as goal

pub items_into-requires : goal.items_into-requires
items_into-requires g c = record { told = ((λ k v m. tt, λ k v m. tt), ((λ k v m. tt, λ k v m. tt), ((λ k v m. tt, λ k v m. tt), (λ k v m. tt, λ k v m. tt), starts-apart), historical-apart), current-apart) }

pub returns-clause-once : goal.returns-clause-once
returns-clause-once g c = once-at items_of c.items_into.result _ c.args.self.now.kept (c.kinds.ensures.held ∙ ap (λ b. b.kept) c.self.view_is) c.items_into.ensures.once

pub returns-clause-items : goal.returns-clause-items
returns-clause-items g c = listed-at items_of c.items_into.result _ c.args.self.now.kept (c.kinds.ensures.held ∙ ap (λ b. b.kept) c.self.view_is) c.args.out.now.items c.items_into.new.out.items c.items_into.ensures.items
