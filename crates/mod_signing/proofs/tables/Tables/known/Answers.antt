use Rattle.std.proofs.Common.{sym, subst}
use Rattle.std.specs.List.Sorted.{IsStrictlySortedBy}
use Rattle.base_types.specs.Orders.{cons_cmp}
use Rattle.mod_signing.{specs.Kept.AreInOrder, proofs.SettledLemmas.kept_keys}
use Rattle.mod_signing.proofs.tables.Tables.known.Goals as goal

pub returns : goal.returns
returns c =
    subst (λ w. AreInOrder w.kept) c.self.view_is
    (subst (IsStrictlySortedBy cons_cmp) (sym (kept_keys c.self.inside.entries.entries c.self.inside.rows.entries)) c.known.ensures.ordered)
