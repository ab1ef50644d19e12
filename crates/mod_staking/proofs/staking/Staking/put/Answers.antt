use Rattle.std.proofs.Common.{◌≡◌, ◌∙◌, Some, ap, sym, subst, refl}
use Rattle.base_types.specs.Orders.{addr_cmp}
use Rattle.base_roles.specs.{Entries.{at, with}, Staked.validator_at}
use Rattle.mod_staking.{specs.Registered.{AreKeyed, operator_by_cons}, proofs.IndexLemmas.{keyed-put, index-put}}
use Rattle.mod_staking.proofs.MarkLemmas.{in_step-with}
use Rattle.mod_staking.proofs.staking.Staking.put.Goals as goal

pub invariant_of-self : goal.invariant_of-self
invariant_of-self g c =
    let v = c.args.v.now in
    let es = c.self.inside.validators.entries in
    let step = c.self.invariant in
    let found : at addr_cmp es v.operator ≡ Some c.requires.stands.old = ap (λ r. validator_at r.staked v.operator) c.self.view_is ∙ c.requires.stands.found in
    let entries : c.put.new.self.entries ≡ with addr_cmp es v.operator v = ap (λ t. t.entries) c.in-Ok.ensures.ok in
    let marks : c.put.new.self.marks ≡ c.self.inside.validators.marks = ap (λ t. t.marks) c.in-Ok.ensures.ok in
    in_step-with c.self.inside.validators c.self.inside.operators c.self.inside.delegations step c.put.new.self c.self.inside.operators
    marks (ap (λ t. t.settled) c.in-Ok.ensures.ok) refl (subst AreKeyed (sym entries) (keyed-put es v step.keyed))
    (λ cons. step.indexed cons ∙ sym (index-put v c.requires.stands.old c.requires.stands.cons cons es c.known.ensures.ordered found) ∙ ap (λ x. operator_by_cons x cons) (sym entries))
