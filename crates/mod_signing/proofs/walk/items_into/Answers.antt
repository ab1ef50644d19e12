use Rattle.std.proofs.Common.{◌≡◌, ◌∙◌, ◌++◌, [], ◌∷◌, Some, None, sym, ap}
use Rattle.base_types.specs.Orders.{cons_cmp}
use Rattle.base_table.specs.Tabled.{entry_above}
use Rattle.base_records.proofs.WalkLemmas.{walked-more, walk-shorter}
use Rattle.mod_signing.proofs.{TableLemmas.cons_total, WalkLemmas.{entry_item, listed-all}}
use Rattle.mod_signing.proofs.walk.items_into.Goals as goal

pub loop-cons-preserved : goal.loop-cons-preserved
loop-cons-preserved g c =
    let here : entry_above cons_cmp c.args.entries.now.entries c.loop-cons.after ≡ Some (c.in-Some.cons.now, c.in-Some.entry.now)
    = ap (entry_above cons_cmp c.args.entries.now.entries) (sym c.as_ref.ensures.value) ∙ sym c.in-Some.ensures.above in
    walked-more cons_cmp (entry_item c.args.rows.now.entries) c.args.out.now.items c.args.entries.now.entries cons_total c.known.ensures.ordered
    c.loop-cons.out.items c.push.new.self.items c.loop-cons.after (c.in-Some.cons.now, c.in-Some.entry.now) c.loop-cons.invariant here
    (c.in_ok-push.ensures.items ∙ ap (λ x. c.loop-cons.out.items ++ x ∷ []) c.in_ok-item.ensures)

pub loop-cons-smaller : goal.loop-cons-smaller
loop-cons-smaller g c =
    let here : entry_above cons_cmp c.args.entries.now.entries c.loop-cons.after ≡ Some (c.in-Some.cons.now, c.in-Some.entry.now)
    = ap (entry_above cons_cmp c.args.entries.now.entries) (sym c.as_ref.ensures.value) ∙ sym c.in-Some.ensures.above in
    walk-shorter cons_cmp (entry_item c.args.rows.now.entries) c.args.out.now.items c.args.entries.now.entries cons_total c.known.ensures.ordered
    c.loop-cons.after (c.in-Some.cons.now, c.in-Some.entry.now) here

pub returns-clause-items : goal.returns-clause-items
returns-clause-items g c =
    let none : entry_above cons_cmp c.args.entries.now.entries c.loop-cons.after ≡ None
    = ap (entry_above cons_cmp c.args.entries.now.entries) (sym c.as_ref.ensures.value) ∙ sym c.in_default.ensures.above in
    listed-all c.args.out.now.items c.loop-cons.out.items c.args.entries.now.entries c.args.rows.now.entries c.loop-cons.after c.loop-cons.invariant none
