use Rattle.std.proofs.Common.{◌≢◌, [], sym, subst}
use Rattle.base_records.proofs.MarkLemmas.{some_marks}
use Rattle.mod_periods.proofs.records.F1Records.back.Goals as goal

pub back-requires : goal.back-requires
back-requires g c = record { some = some_marks c.self.inside.tables.marks (subst (λ b. b.marks ≢ []) (sym c.self.view_is) c.requires) }
