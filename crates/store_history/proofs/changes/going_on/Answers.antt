use Rattle.std.proofs.Common.{◌∙◌, ◌++◌, Bool, ap, map}
use Rattle.store_history.{specs.Commits.{note, put_base, seen}, proofs.ListLemmas.three_parts}
use Rattle.store_history.proofs.changes.going_on.Goals as goal

pub returns : goal.returns
returns c =
    three_parts (map seen c.new-list.result.items) _ _ _ _ _ _ c.in_ok-append_base.ensures c.in_ok-append_notes.ensures c.in_ok-append_copies.ensures (ap (map seen) c.new-list.ensures.items)
    ∙ ap (λ (b : Bool). put_base b c.args.last ++ (map (note c.args.height c.args.history.now.visible) (map seen c.args.changes.now) ++ map seen c.args.changes.now)) c.is_some.ensures
