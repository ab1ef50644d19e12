use Rattle.std.proofs.Common.{◌≡◌, ◌+◌, ◌-◌, ◌<◌, length, drop, sym, ◌∙◌, ap, subst, arith}
use Rattle.base_table.specs.Places.{filled, marks_of, FitBelow, HavePlaces}
use Rattle.base_table.proofs.UndoLemmas.{get_or-within, marks_of-closed, marks_of-fewer, no_marks, AreUnmarked, FitBelow-closed, HavePlaces-closed}
use Rattle.base_table.proofs.undo.close.Goals as goal

pub returns-then-here-gt0-clause-closed : goal.returns-then-here-gt0-clause-closed
returns-then-here-gt0-clause-closed g c = λ ps some. (filled ps, marks_of-fewer g.K.Ord.cmp c.args.log.now.items c.args.here.now.marks ps c.if-here-gt0.true)

pub returns-then-index-gt0-clause-closed : goal.returns-then-index-gt0-clause-closed
returns-then-index-gt0-clause-closed g c = λ ps some.
    let within : c.loop-at.at - 1 < length c.loop-at.log.items = omega arith in
    let none : c.args.here.now.marks ≡ 0 = omega arith in
    let turn : c.loop-at.at ≡ c.loop-at.at - 1 + 1 = omega arith in
    let one : c.index.result.now ≡ c.index_mut.result.now = c.index.ensures ∙ get_or-within _ _ _ _ within ∙ sym c.index_mut.ensures.value in
    let marked = subst (λ u. 0 < u.point.marks) one c.if-index-gt0.true in
    let after = subst (λ n. AreUnmarked (drop n c.loop-at.log.items)) turn c.loop-at.invariant.unmarked in
    let closed = marks_of-closed g.K.Ord.cmp c.loop-at.log.items (c.loop-at.at - 1) c.index_mut.result.now ps within (sym c.index_mut.ensures.value) c.args.here.now.marks none marked after in
    (closed.0, closed.1 ∙ ap (λ us. marks_of g.K.Ord.cmp us c.args.here.now.marks ps) c.loop-at.invariant.same)

pub returns-then-index-gt0-clause-below : goal.returns-then-index-gt0-clause-below
returns-then-index-gt0-clause-below g c = λ ps below.
    let within : c.loop-at.at - 1 < length c.loop-at.log.items = omega arith in
    FitBelow-closed g.K.Ord.cmp c.loop-at.log.items (c.loop-at.at - 1) c.index_mut.result.now ps within (sym c.index_mut.ensures.value)
    (subst (λ us. FitBelow g.K.Ord.cmp us ps) (sym c.loop-at.invariant.same) below)

pub returns-then-index-gt0-clause-placed : goal.returns-then-index-gt0-clause-placed
returns-then-index-gt0-clause-placed g c = λ ps placed.
    let within : c.loop-at.at - 1 < length c.loop-at.log.items = omega arith in
    HavePlaces-closed g.K.Ord.cmp c.loop-at.log.items (c.loop-at.at - 1) c.index_mut.result.now ps within (sym c.index_mut.ensures.value)
    (subst (λ us. HavePlaces g.K.Ord.cmp us ps) (sym c.loop-at.invariant.same) placed)

pub returns-clause-closed : goal.returns-clause-closed
returns-clause-closed g c = λ ps some.
    let none : c.args.here.now.marks ≡ 0 = omega arith in
    let start : c.loop-at.at ≡ 0 = omega arith in
    let all = subst (λ n. AreUnmarked (drop n c.loop-at.log.items)) start c.loop-at.invariant.unmarked in
    let empty = ap (λ us. marks_of g.K.Ord.cmp us c.args.here.now.marks ps) (sym c.loop-at.invariant.same) ∙ no_marks g.K.Ord.cmp c.loop-at.log.items c.args.here.now.marks ps none all in
    let nothing = ap length empty in
    absurd (omega arith)
