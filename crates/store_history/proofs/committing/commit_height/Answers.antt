use Rattle.std.proofs.Common.{◌∙◌}
use Rattle.store_history.proofs.ListLemmas.{ordinary_height}
use Rattle.store_history.proofs.committing.commit_height.Goals as goal

pub unreachable-requires : goal.unreachable-requires
unreachable-requires c =
    let it = ordinary_height c.args.changes.now c.requires in
    let none = c.in-None.ensures ∙ it.1 in
    cc
