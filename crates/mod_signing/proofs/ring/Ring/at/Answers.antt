use Rattle.std.proofs.Common.{◌≡◌, ◌∙◌, ◌<◌, Some, length, refl, sym, ap, subst, slice_get}
use Rattle.mod_signing.proofs.ring.Ring.at.Goals as goal

pub returns-clause-vote : goal.returns-clause-vote
returns-clause-vote g c =
    subst (λ r. slice_get r c.args.place ≡ Some c.is_set.result) c.self.view_is
    (c.row-row.ensures.row c.args.place refl (subst (λ r. c.args.place < length r) (sym c.self.view_is) c.requires.within) ∙ ap Some (sym c.is_set.ensures))
