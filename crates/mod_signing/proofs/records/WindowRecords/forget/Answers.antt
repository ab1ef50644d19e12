use Rattle.std.proofs.Common.{◌≢◌, [], sym, subst}
use Rattle.base_records.proofs.MarkLemmas.{some_marks}
use Rattle.mod_signing.proofs.records.WindowRecords.forget.Goals as goal

pub forget-requires : goal.forget-requires
forget-requires g c = record { some = some_marks c.self.inside.tables.marks (subst (λ b. b.marks ≢ []) (sym c.self.view_is) c.requires) }
