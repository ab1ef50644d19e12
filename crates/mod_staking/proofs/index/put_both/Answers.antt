use Rattle.std.proofs.Common.{◌≡◌, ◌∙◌, ap, sym}
use Rattle.base_types.specs.Orders.{addr_cmp, cons_cmp}
use Rattle.base_roles.specs.Entries.{at, with}
use Rattle.mod_staking.{specs.{Registered.operator_by_cons, Joint.listed}, proofs.IndexLemmas.listed-joined}
use Rattle.mod_staking.proofs.index.put_both.Goals as goal

pub returns-in-Ok-put-clause-index : goal.returns-in-Ok-put-clause-index
returns-in-Ok-put-clause-index g c = λ cons.
    let v = c.args.v.now in
    let index : c.forget.new.self.entries ≡ listed v c.args.operators.now.entries
    = ap (λ t. t.entries) c.forget.ensures.rest ∙ c.in-Ok.ensures.entries ∙ ap (λ t. listed v t.entries) c.in_ok-mark.ensures.ok in
    let es : c.put.new.self.entries ≡ with addr_cmp c.args.validators.now.entries v.operator v = ap (λ t. t.entries) c.in-Ok-put.ensures.ok in
    ap (λ is. at cons_cmp is cons) index
    ∙ listed-joined v c.args.validators.now.entries c.args.operators.now.entries c.known.ensures.ordered c.requires.new c.requires.index cons
    ∙ sym (ap (λ es. operator_by_cons es cons) es)
