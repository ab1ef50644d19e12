use Rattle.std.proofs.Common.{ap}
use Rattle.mod_entries.proofs.MarkLemmas.{in_step-stays, in_step-with, fit-with}
use Rattle.mod_entries.proofs.entries.Entries.put.Goals as goal

pub invariant_of-self : goal.invariant_of-self
invariant_of-self g c =
    in_step-with g.K.Ord.cmp g.K.EntryKey.fits g.K.EntryKey.source g.E.Entry.made c.self.inside.lists c.self.inside.ways.queue c.self.inside.ways.sources c.self.invariant c.put_both.new.lists c.put_both.new.ways.queue c.put_both.new.ways.sources
    (ap (λ t. t.marks) c.in-Ok.ensures.lists) c.put_both.ensures.queue_marks c.put_both.ensures.source_marks c.in-Ok.ensures.queue c.in-Ok.ensures.sources
    (fit-with g.K.Ord.cmp g.K.EntryKey.fits g.K.EntryKey.source g.E.Entry.made c.self.inside.lists c.self.inside.ways.queue c.self.inside.ways.sources c.self.invariant c.put_both.new.lists c.args.key.now c.args.list c.known.ensures c.in-Ok.ensures.lists)

pub invariant_of-self-in-Err : goal.invariant_of-self-in-Err
invariant_of-self-in-Err g c =
    in_step-stays g.K.Ord.cmp g.K.EntryKey.fits g.K.EntryKey.source g.E.Entry.made c.self.inside.lists c.self.inside.ways.queue c.self.inside.ways.sources c.self.invariant c.put_both.new.lists c.put_both.new.ways.queue c.put_both.new.ways.sources
    c.in-Err.ensures.lists_stay c.in-Err.ensures.queue_stays c.put_both.ensures.queue_marks c.in-Err.ensures.sources_stay c.put_both.ensures.source_marks
