use Rattle.std.proofs.Common.{◌∙◌, ap, map}
use Rattle.base_io.specs.Rows.{put}
use Rattle.store_history.proofs.TreeLemmas.{insert_is, insert_rises, pair_in}
use Rattle.store_history.proofs.visible.VisibleRows.put.Goals as goal

pub invariant_of-self : goal.invariant_of-self
invariant_of-self c =
    insert_rises c.insert.result c.self.inside.tree.entries c.insert.new.self.entries c.args.key c.args.value c.insert.ensures.entries c.insert.ensures.err c.self.invariant

pub returns-in-Ok-clause-ok : goal.returns-in-Ok-clause-ok
returns-in-Ok-clause-ok c =
    ap (map pair_in) c.in-Ok.ensures.entries ∙ insert_is c.self.inside.tree.entries c.args.key c.args.value ∙ ap (put (c.args.key.items, c.args.value.items)) c.self.view_is
