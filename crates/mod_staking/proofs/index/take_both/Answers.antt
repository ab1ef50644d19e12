use Rattle.std.proofs.Common.{◌≡◌, ◌∙◌, ap, sym}
use Rattle.base_types.specs.Orders.{addr_cmp, cons_cmp}
use Rattle.base_roles.specs.Entries.{at, without}
use Rattle.mod_staking.{specs.Registered.operator_by_cons, proofs.IndexLemmas.index-left}
use Rattle.mod_staking.proofs.index.take_both.Goals as goal

pub returns-in-Ok-remove-clause-index : goal.returns-in-Ok-remove-clause-index
returns-in-Ok-remove-clause-index g c = λ cons.
    let v = c.args.v.now in
    let index : c.forget.new.self.entries ≡ without cons_cmp c.args.operators.now.entries v.cons
    = ap (λ t. t.entries) c.forget.ensures.rest ∙ ap (λ t. t.entries) c.in-Ok.ensures.ok ∙ ap (λ t. without cons_cmp t.entries v.cons) c.in_ok-mark.ensures.ok in
    let es : c.remove-2.new.self.entries ≡ without addr_cmp c.args.validators.now.entries v.operator = ap (λ t. t.entries) c.in-Ok-remove.ensures.ok in
    ap (λ is. at cons_cmp is cons) index
    ∙ index-left v c.args.validators.now.entries c.args.operators.now.entries c.known-2.ensures.ordered c.requires.stands c.requires.alone c.requires.index cons
    ∙ sym (ap (λ es. operator_by_cons es cons) es)
