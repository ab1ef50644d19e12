use Rattle.std.proofs.Common.{◌∙◌, ap, map}
use Rattle.base_io.specs.Changes.{remove}
use Rattle.store_history.proofs.TreeLemmas.{pair_in, remove_is, remove_keeps}
use Rattle.store_history.proofs.visible.VisibleRows.remove.Goals as goal

pub invariant_of-self : goal.invariant_of-self
invariant_of-self c = remove_keeps c.args.key.now c.self.inside.tree.entries c.remove.new.self.entries c.remove.ensures.entries c.self.invariant

pub returns : goal.returns
returns c =
    ap (map pair_in) c.remove.ensures.entries ∙ remove_is c.args.key.now c.self.inside.tree.entries c.self.invariant ∙ ap (remove c.args.key.now) c.self.view_is
