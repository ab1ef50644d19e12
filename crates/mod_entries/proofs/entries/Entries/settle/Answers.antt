use Rattle.mod_entries.proofs.MarkLemmas.{in_step-settled}
use Rattle.mod_entries.proofs.entries.Entries.settle.Goals as goal

pub invariant_of-self : goal.invariant_of-self
invariant_of-self g c =
    rw (c.settle.ensures, c.settle-2.ensures.queue, c.settle-2.ensures.sources)
    (in_step-settled g.K.Ord.cmp g.K.EntryKey.fits g.K.EntryKey.source g.E.Entry.made c.self.inside.lists c.self.inside.ways.queue c.self.inside.ways.sources c.self.invariant)
