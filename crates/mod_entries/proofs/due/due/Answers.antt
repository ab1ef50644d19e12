use Rattle.std.proofs.Common.{subst, arith, IsPermutation}
use Rattle.mod_entries.proofs.DueLemmas.{due-sorted, due-no_more}
use Rattle.mod_entries.proofs.due.due.Goals as goal

pub returns-in_err-keys-clause-cost : goal.returns-in_err-keys-clause-cost
returns-in_err-keys-clause-cost g c =
    let cost = c.queued.ensures.cost in
    let few = due-no_more g.K.Ord.cmp g.met.K.Ord.total g.met.K.EntryKey.exact g.E.Entry.made c.args.now c.args.lists.now.entries c.args.queue.now.entries c.known.ensures.ordered c.known-2.ensures.ordered c.requires.queue in
    omega (arith, cost, few)

pub returns-clause-cost : goal.returns-clause-cost
returns-clause-cost g c =
    let cost = c.queued.ensures.cost in
    let few = due-no_more g.K.Ord.cmp g.met.K.Ord.total g.met.K.EntryKey.exact g.E.Entry.made c.args.now c.args.lists.now.entries c.args.queue.now.entries c.known.ensures.ordered c.known-2.ensures.ordered c.requires.queue in
    omega (arith, cost, few)

pub returns-clause-keys : goal.returns-clause-keys
returns-clause-keys g c =
    due-sorted g.K.Ord.cmp g.met.K.Ord.total g.met.K.EntryKey.exact g.E.Entry.made c.args.now c.args.lists.now.entries c.args.queue.now.entries c.known.ensures.ordered c.known-2.ensures.ordered c.requires.queue c.sort_unstable.new.self.items
    (subst (λ l. IsPermutation l c.sort_unstable.new.self.items) c.in_ok-keys.ensures.keys c.sort_unstable.ensures.permutation) c.sort_unstable.ensures.sorted
