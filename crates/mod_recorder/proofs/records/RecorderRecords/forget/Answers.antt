use Rattle.mod_recorder.proofs.RecordLemmas.{closed_up}
use Rattle.mod_recorder.proofs.records.RecorderRecords.forget.Goals as goal

pub invariant_of-self : goal.invariant_of-self
invariant_of-self g c = let s = c.self.inside in closed_up s.notes.items s.before s.marks.items s.settled c.self.invariant c.pop.new.self.items c.pop.result c.pop.ensures.items
