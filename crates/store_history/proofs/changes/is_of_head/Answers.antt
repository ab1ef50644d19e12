use Rattle.std.proofs.Common.{◌∙◌, ap, ap₂, is_eq, rules}
use Rattle.base_io.specs.Rows.{key_cmp}
use Rattle.store_history.proofs.changes.is_of_head.Goals as goal

pub returns : goal.returns
returns c = c.is_eq.ensures ∙ ap is_eq (c.cmp.ensures ∙ ap₂ key_cmp c.key_in.ensures (search rules))
