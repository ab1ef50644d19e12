use Rattle.std.proofs.Common.{◌≢◌, [], sym, subst}
use Rattle.mod_entries.proofs.MarkLemmas.{in_step-forgotten, some_at, some_queued, some_sourced}
use Rattle.mod_entries.proofs.entries.Entries.forget.Goals as goal

pub forget-requires : goal.forget-requires
forget-requires g c = record { some = some_at g.K.Ord.cmp g.K.EntryKey.fits g.K.EntryKey.source g.E.Entry.made c.self.inside.lists c.self.inside.ways.queue c.self.inside.ways.sources c.self.invariant (subst (λ b. b.marks ≢ []) (sym c.self.view_is) c.requires) }

pub forget-requires-2 : goal.forget-requires-2
forget-requires-2 g c =
    let some = subst (λ b. b.marks ≢ []) (sym c.self.view_is) c.requires in
    record {
      queue = some_queued g.K.Ord.cmp g.K.EntryKey.fits g.K.EntryKey.source g.E.Entry.made c.self.inside.lists c.self.inside.ways.queue c.self.inside.ways.sources c.self.invariant some;
      sources = some_sourced g.K.Ord.cmp g.K.EntryKey.fits g.K.EntryKey.source g.E.Entry.made c.self.inside.lists c.self.inside.ways.queue c.self.inside.ways.sources c.self.invariant some;
    }

pub invariant_of-self : goal.invariant_of-self
invariant_of-self g c =
    in_step-forgotten g.K.Ord.cmp g.K.EntryKey.fits g.K.EntryKey.source g.E.Entry.made c.self.inside.lists c.self.inside.ways.queue c.self.inside.ways.sources c.self.invariant c.forget.new.self c.forget-2.new.self.queue c.forget-2.new.self.sources
    c.forget.ensures c.forget-2.ensures.queue c.forget-2.ensures.sources
