use Rattle.std.specs.BTreeMap.{is_at}
use Rattle.std.proofs.Common.{sym, ◌∙◌, ap}
use Rattle.base_table.{specs.Places.slots, proofs.UndoLemmas.{slots-absent, slots-put_back, stamps-put_back}}
use Rattle.base_table.proofs.undo.put_back.Goals as goal

pub returns-in_default-clause-slots : goal.returns-in_default-clause-slots
returns-in_default-clause-slots g c =
    ap (λ m. slots m.entries) c.get_mut.follows.holds-at-none
    ∙ slots-absent (is_at (g.K.Ord.cmp c.args.key.now)) c.args.tree.now.entries c.args.before (sym c.in_default.ensures.value)

pub returns-clause-slots : goal.returns-clause-slots
returns-clause-slots g c =
    slots-put_back (is_at (g.K.Ord.cmp c.args.key.now)) c.args.tree.now.entries c.args.before
    (c.get_mut.follows.lender (record { slot = c.args.before; stamp = c.in-Some.place.now.stamp })).entries c.in-Some.place.now (c.get_mut.follows.holds (record { slot = c.args.before; stamp = c.in-Some.place.now.stamp })).0

pub returns-clause-stamps : goal.returns-clause-stamps
returns-clause-stamps g c =
    stamps-put_back (is_at (g.K.Ord.cmp c.args.key.now)) c.args.tree.now.entries c.args.before
    (c.get_mut.follows.lender (record { slot = c.args.before; stamp = c.in-Some.place.now.stamp })).entries c.in-Some.place.now (c.get_mut.follows.holds (record { slot = c.args.before; stamp = c.in-Some.place.now.stamp })).0
    (sym c.in-Some.ensures.value)
