use Rattle.std.proofs.Common.{ap, subst}
use Rattle.base_table.specs.Tabled.{IsGoneBack}
use Rattle.mod_entries.proofs.MarkLemmas.{in_step-marked, in_step-stays, stays-back}
use Rattle.mod_entries.proofs.entries.Entries.mark.Goals as goal

pub invariant_of-self-in-Ok : goal.invariant_of-self-in-Ok
invariant_of-self-in-Ok g c =
    rw (c.in_ok-mark.ensures.ok, c.in-Ok.ensures.queue, c.in-Ok.ensures.sources) (in_step-marked g.K.Ord.cmp g.K.EntryKey.fits g.K.EntryKey.source g.E.Entry.made c.self.inside.lists c.self.inside.ways.queue c.self.inside.ways.sources c.self.invariant)

pub invariant_of-self-in-Err : goal.invariant_of-self-in-Err
invariant_of-self-in-Err g c =
    in_step-stays g.K.Ord.cmp g.K.EntryKey.fits g.K.EntryKey.source g.E.Entry.made c.self.inside.lists c.self.inside.ways.queue c.self.inside.ways.sources c.self.invariant c.back.new.self c.mark-2.new.self.queue c.mark-2.new.self.sources
    (stays-back c.self.inside.lists c.back.new.self (subst (λ l. IsGoneBack l c.back.new.self) c.in_ok-mark.ensures.ok c.back.ensures))
    (ap (λ w. w.queue.entries) c.in-Err.ensures.err) (ap (λ w. w.queue.marks) c.in-Err.ensures.err) (ap (λ w. w.sources.entries) c.in-Err.ensures.err) (ap (λ w. w.sources.marks) c.in-Err.ensures.err)
