use Rattle.std.proofs.Common.{◌≡◌, ◌++◌, option_to_list, sym, ◌∙◌, ap, subst, arith}
use Rattle.std.specs.BTreeMap.{is_at}
use Rattle.base_table.specs.Places.{marks_of, slots, Fits, FitBelow, HavePlaces}
use Rattle.base_table.proofs.UndoLemmas.{marks_of-push, FitBelow-last, HavePlaces-last, HavePlaces-set}
use Rattle.base_table.proofs.undo.rewind.Goals as goal

pub loop-here-preserved : goal.loop-here-preserved
loop-here-preserved g c =
    let ps = slots c.loop-here.tree.entries in
    let last = c.pop.ensures.items ∙ ap (λ r. c.pop.new.self.items ++ option_to_list r) c.in-Some.is in
    let none : c.loop-here.here.marks ≡ 0 = omega arith in
    let below = FitBelow-last g.K.Ord.cmp c.pop.new.self.items c.in-Some.undo ps (subst (λ us. FitBelow g.K.Ord.cmp us ps) last c.loop-here.invariant.below) in
    let placed = HavePlaces-last g.K.Ord.cmp c.pop.new.self.items c.in-Some.undo ps (subst (λ us. HavePlaces g.K.Ord.cmp us ps) last c.loop-here.invariant.placed) in
    record {
      marks =
          ap (marks_of g.K.Ord.cmp c.pop.new.self.items c.in-Some.undo.point.marks) c.put_back.ensures.slots
          ∙ sym (marks_of-push g.K.Ord.cmp c.pop.new.self.items c.in-Some.undo ps)
          ∙ (λ i. marks_of g.K.Ord.cmp (sym last i) (sym none i) ps)
          ∙ c.loop-here.invariant.marks;
      fits = subst (Fits g.K.Ord.cmp c.in-Some.undo.point) (sym c.put_back.ensures.slots) below.0;
      below = subst (FitBelow g.K.Ord.cmp c.pop.new.self.items) (sym c.put_back.ensures.slots) below.1;
      placed =
          subst (HavePlaces g.K.Ord.cmp c.pop.new.self.items) (sym c.put_back.ensures.slots)
          (HavePlaces-set g.K.Ord.cmp c.pop.new.self.items (is_at (g.K.Ord.cmp c.in-Some.undo.key)) ps c.in-Some.undo.before placed);
      stamps = c.put_back.ensures.stamps ∙ c.loop-here.invariant.stamps;
    }
