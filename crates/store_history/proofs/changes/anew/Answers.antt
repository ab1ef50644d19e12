use Rattle.std.proofs.Common.{◌∙◌, ◌++◌, Bool, ap, map}
use Rattle.base_io.specs.Changes.{pair_of}
use Rattle.store_history.{specs.Commits.{put_base, removal, seen}, proofs.ListLemmas.three_parts}
use Rattle.store_history.proofs.changes.anew.Goals as goal

pub returns : goal.returns
returns c =
    three_parts (map seen c.new-list.result.items) _ _ _ _ _ _ c.in_ok-append_removals.ensures c.in_ok-append_base.ensures c.in_ok-append_copies.ensures (ap (map seen) c.new-list.ensures.items)
    ∙ ap (λ (b : Bool). map removal (map pair_of c.args.kept.now) ++ (put_base b c.args.height ++ map seen c.args.changes.now)) c.is_height.ensures
