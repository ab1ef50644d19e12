use Rattle.mod_entries.proofs.MarkLemmas.{in_step-new}
use Rattle.mod_entries.proofs.entries.Entries.new.Goals as goal

pub invariant_of-result : goal.invariant_of-result
invariant_of-result g c = rw (c.new.ensures, c.new-2.ensures.queue, c.new-2.ensures.sources) (in_step-new g.K.Ord.cmp g.K.EntryKey.fits g.K.EntryKey.source g.E.Entry.made)
