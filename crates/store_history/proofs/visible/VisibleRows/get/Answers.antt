use Rattle.std.proofs.Common.{◌∙◌, Some, List, ℕ, ap}
use Rattle.base_io.specs.Changes.{value_of}
use Rattle.store_history.proofs.TreeLemmas.{bytes_in, lookup_is}
use Rattle.store_history.proofs.visible.VisibleRows.get.Goals as goal

pub returns-in-Some-clause-value : goal.returns-in-Some-clause-value
returns-in-Some-clause-value c =
    ap (λ (bytes : List ℕ). Some bytes) c.as_slice.ensures.value ∙ ap bytes_in c.in-Some.ensures.value
    ∙ lookup_is c.args.key.now c.self.inside.tree.entries c.self.invariant ∙ ap (value_of c.args.key.now) c.self.view_is

pub returns-in-None-clause-value : goal.returns-in-None-clause-value
returns-in-None-clause-value c =
    ap bytes_in c.in-None.ensures.value ∙ lookup_is c.args.key.now c.self.inside.tree.entries c.self.invariant ∙ ap (value_of c.args.key.now) c.self.view_is
