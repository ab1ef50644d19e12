use Rattle.std.proofs.Common.{◌≡◌, ap, sym, subst}
use Rattle.base_types.specs.Orders.{addr_cmp}
use Rattle.base_roles.specs.Entries.{with}
use Rattle.mod_staking.{specs.Registered.AreKeyed, proofs.{IndexLemmas.keyed-put, MarkLemmas.in_step-with}}
use Rattle.mod_staking.proofs.staking.Staking.add.Goals as goal

pub invariant_of-self : goal.invariant_of-self
invariant_of-self g c =
    let v = c.args.v.now in
    let step = c.self.invariant in
    let entries : c.put_both.new.validators.entries ≡ with addr_cmp c.self.inside.validators.entries v.operator v = ap (λ t. t.entries) c.in-Ok.ensures.validators in
    let marks : c.put_both.new.validators.marks ≡ c.self.inside.validators.marks = ap (λ t. t.marks) c.in-Ok.ensures.validators in
    in_step-with c.self.inside.validators c.self.inside.operators c.self.inside.delegations step c.put_both.new.validators c.put_both.new.operators
    marks (ap (λ t. t.settled) c.in-Ok.ensures.validators) c.in-Ok.ensures.marks (subst AreKeyed (sym entries) (keyed-put c.self.inside.validators.entries v step.keyed)) c.in-Ok.ensures.index
