use Rattle.std.proofs.Common.{sym, ◌∙◌, ap}
use Rattle.std.{specs.{Map.Iter.deref_pair, Range.Bound.bound_map}, proofs.lemmas.Map.Iter.rest_more}
use Rattle.base_table.{specs.{Places.{filled, slot_of, slots}, Tabled.first_of}, proofs.EachLemmas.between-each}
use Rattle.base_table.proofs.WalkLemmas.{filled-between, is_some-map, walked_on, walked_to}
use Rattle.base_table.proofs.walk.first_from.Goals as goal

pub loop-stored-init : goal.loop-stored-init
loop-stored-init g c =
    let start = bound_map (λ key. key.now) c.args.start in
    ap (λ l. first_of (filled (slots l))) (c.into_iter-stored-iterator.ensures.into_iter_gives ∙ c.range-stored-items.ensures.between tt)
    ∙ ap (λ l. first_of (filled l)) (between-each slot_of g.K.Ord.cmp start c.args.tree.now.entries)
    ∙ ap first_of (filled-between g.met.K.Ord.total start (slots c.args.tree.now.entries) c.requires)

pub loop-stored-preserved : goal.loop-stored-preserved
loop-stored-preserved g c =
    walked_on _ _ _ _ _ c.loop-stored.invariant (ap slots (rest_more deref_pair _ _ _ (c.in-Some.stored, c.in-Some.place) c.in-Some.is c.next.ensures.steps))
    _ c.entry-entry.ensures (is_some-map _ c.entry-entry.result ∙ sym c.is_some.ensures ∙ c.if-is_some.false)

pub returns-then-is_some : goal.returns-then-is_some
returns-then-is_some g c =
    walked_to _ _ _ _ _ c.loop-stored.invariant (ap slots (rest_more deref_pair _ _ _ (c.in-Some.stored, c.in-Some.place) c.in-Some.is c.next.ensures.steps))
    _ c.entry-entry.ensures (is_some-map _ c.entry-entry.result ∙ sym c.is_some.ensures ∙ c.if-is_some.true)
