use Rattle.std.proofs.Common.{◌≡◌, ◌∙◌, ◌<◌, ◌++◌, [], ◌∷◌, Some, length, sym, ap, subst}
use Rattle.base_table.specs.Tabled.{entry_above}
use Rattle.base_records.proofs.WalkLemmas.{Walked, walked-more, walk-shorter, left_of}
use Rattle.base_records.proofs.walk.rows_into.Goals as goal

pub loop-key-preserved : goal.loop-key-preserved
loop-key-preserved g c =
    let here : entry_above g.R.Key.Ord.cmp c.args.table.now.entries c.loop-key.after ≡ Some (c.in-Some.key.now, c.in-Some.value.now)
    = ap (entry_above g.R.Key.Ord.cmp c.args.table.now.entries) (sym c.as_ref.ensures.value) ∙ sym c.in-Some.ensures.above in
    let key : c.in_ok-copied.field-0 ≡ c.in-Some.key.now = c.in_ok-copied.ensures.same in
    let item = c.in_ok-item.ensures in
    let more = walked-more g.R.Key.Ord.cmp (λ e. g.R.AsItem.item_of e.0 e.1) c.args.out.now.items c.args.table.now.entries g.met.R.Key.Ord.total c.known.ensures.ordered
    c.loop-key.out.items c.push.new.self.items c.loop-key.after (c.in-Some.key.now, c.in-Some.value.now) c.loop-key.invariant here
    (c.in_ok-push.ensures.items ∙ ap (λ x. c.loop-key.out.items ++ x ∷ []) item) in
    subst (λ x. Walked g.R.Key.Ord.cmp (λ e. g.R.AsItem.item_of e.0 e.1) c.args.out.now.items c.args.table.now.entries c.push.new.self.items (Some x)) (sym key) more

pub loop-key-smaller : goal.loop-key-smaller
loop-key-smaller g c =
    let here : entry_above g.R.Key.Ord.cmp c.args.table.now.entries c.loop-key.after ≡ Some (c.in-Some.key.now, c.in-Some.value.now)
    = ap (entry_above g.R.Key.Ord.cmp c.args.table.now.entries) (sym c.as_ref.ensures.value) ∙ sym c.in-Some.ensures.above in
    let key : c.in_ok-copied.field-0 ≡ c.in-Some.key.now = c.in_ok-copied.ensures.same in
    let less = walk-shorter g.R.Key.Ord.cmp (λ e. g.R.AsItem.item_of e.0 e.1) c.args.out.now.items c.args.table.now.entries g.met.R.Key.Ord.total c.known.ensures.ordered
    c.loop-key.after (c.in-Some.key.now, c.in-Some.value.now) here in
    subst (λ x. length (left_of g.R.Key.Ord.cmp c.args.table.now.entries (Some x)) < length (left_of g.R.Key.Ord.cmp c.args.table.now.entries c.loop-key.after)) (sym key) less
