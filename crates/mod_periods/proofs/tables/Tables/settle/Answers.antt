use Rattle.std.proofs.Common.{◌∙◌, ap}
use Rattle.mod_periods.proofs.MarkLemmas.{closed-all}
use Rattle.mod_periods.proofs.tables.Tables.settle.Goals as goal

pub settle-requires : goal.settle-requires
settle-requires c = record { closed = (closed-all c.self.inside.current c.self.inside.historical c.self.inside.starts c.self.inside.events c.self.invariant c.self.inside.spent (ap (λ b. b.marks) c.self.view_is ∙ c.requires.closed)).0 }

pub settle-requires-2 : goal.settle-requires-2
settle-requires-2 c = record { closed = (closed-all c.self.inside.current c.self.inside.historical c.self.inside.starts c.self.inside.events c.self.invariant c.self.inside.spent (ap (λ b. b.marks) c.self.view_is ∙ c.requires.closed)).1 }

pub settle-requires-3 : goal.settle-requires-3
settle-requires-3 c = record { closed = (closed-all c.self.inside.current c.self.inside.historical c.self.inside.starts c.self.inside.events c.self.invariant c.self.inside.spent (ap (λ b. b.marks) c.self.view_is ∙ c.requires.closed)).2 }

pub settle-requires-4 : goal.settle-requires-4
settle-requires-4 c = record { closed = (closed-all c.self.inside.current c.self.inside.historical c.self.inside.starts c.self.inside.events c.self.invariant c.self.inside.spent (ap (λ b. b.marks) c.self.view_is ∙ c.requires.closed)).3 }
