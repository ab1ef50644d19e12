use Rattle.std.proofs.Common.{◌∙◌, ap}
use Rattle.mod_bank.proofs.MarkLemmas.{closed-both}
use Rattle.mod_bank.proofs.tables.Tables.settle.Goals as goal

pub settle-requires : goal.settle-requires
settle-requires c = record { closed = (closed-both _ _ c.self.invariant c.self.inside.spent (ap (λ b. b.marks) c.self.view_is ∙ c.requires.closed)).0 }

pub settle-requires-2 : goal.settle-requires-2
settle-requires-2 c = record { closed = (closed-both _ _ c.self.invariant c.self.inside.spent (ap (λ b. b.marks) c.self.view_is ∙ c.requires.closed)).1 }
