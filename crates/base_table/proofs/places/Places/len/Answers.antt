use Rattle.std.proofs.Common.{subst}
use Rattle.std.specs.{List.Sorted.IsStrictlySortedBy, Map.keys_of}
use Rattle.base_table.{specs.Places.{slot_of, slots}, proofs.{EachLemmas.sorted-each, PlaceLemmas.sorted-filled}}
use Rattle.base_table.proofs.places.Places.len.Goals as goal

pub returns-clause-ordered : goal.returns-clause-ordered
returns-clause-ordered g c =
    let ps = c.self.inside.tree.entries in
    subst (λ m. IsStrictlySortedBy g.K.Ord.cmp (keys_of m.entries)) c.self.view_is
    (sorted-filled g.met.K.Ord.total (slots ps) (sorted-each slot_of g.K.Ord.cmp ps c.len.ensures.ordered) c.self.invariant.0.fits.named)
