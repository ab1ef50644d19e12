use Rattle.std.proofs.Common.{◌≡◌, ap, sym, subst, ◌∙◌, true, false, Bool, Some, None, not, refl, unwrap_or, is_some}
use Rattle.std.specs.{BTreeMap.Range.range_contains, declared.ops.Bound.TheVariants.{Included, Unbounded}}
use Rattle.std.proofs.lemmas.Map.Text.{is_eq-slice_cmp}
use Rattle.base_roles.specs.Orders.{same_addr}
use Rattle.base_table.specs.Tabled.{entry_from, value_at}
use Rattle.mod_periods.proofs.ClearLemmas.{first-stands, none-left}
use Rattle.mod_periods.proofs.clear.first_of.Goals as goal

opposite : (b : Bool) → b ≡ not (not b)
opposite true = refl
opposite false = refl

pub returns-in-None-clause-none : goal.returns-in-None-clause-none
returns-in-None-clause-none g c =
    none-left g.K.Ord.cmp g.met.K.Ord.total g.K.Keyed.operator_of g.K.Keyed.first_of g.met.K.Keyed.grouped c.args.operator.now c.args.table.now.entries c.known.ensures.ordered
    (λ e t. let apart : None ≡ Some e = c.in-None.ensures.from ∙ ap (entry_from g.K.Ord.cmp c.args.table.now.entries) c.first-first.ensures ∙ t in cc)

pub returns-then-ne-clause-none : goal.returns-then-ne-clause-none
returns-then-ne-clause-none g c =
    let differs : same_addr c.operator.result.now c.args.operator.now ≡ false = is_eq-slice_cmp c.operator.result.now c.args.operator.now ∙ opposite _ ∙ ap not (sym c.if-ne.ensures) in
    none-left g.K.Ord.cmp g.met.K.Ord.total g.K.Keyed.operator_of g.K.Keyed.first_of g.met.K.Keyed.grouped c.args.operator.now c.args.table.now.entries c.known.ensures.ordered
    (λ e t.
    let is : Some (c.in-Some.key.now, c.in-Some.field-0-1.now) ≡ Some e = c.in-Some.ensures.from ∙ ap (entry_from g.K.Ord.cmp c.args.table.now.entries) c.first-first.ensures ∙ t in
    let same : (c.in-Some.key.now, c.in-Some.field-0-1.now) ≡ e = ap (λ o. unwrap_or o e) is in
    ap (λ d. same_addr (g.K.Keyed.operator_of d.0) c.args.operator.now) (sym same) ∙ ap (λ a. same_addr a c.args.operator.now) (sym c.operator.ensures) ∙ differs)

pub returns-clause-found : goal.returns-clause-found
returns-clause-found g c =
    subst (λ k. is_some (value_at g.K.Ord.cmp c.args.table.now.entries k) ≡ true) (sym c.in_ok-copied-in-Some.ensures.same)
    (first-stands g.K.Ord.cmp g.met.K.Ord.total (λ e. range_contains g.K.Ord.cmp (Included c.first-first.result) Unbounded e.0) c.args.table.now.entries (c.in-Some.key.now, c.in-Some.field-0-1.now) c.in-Some.ensures.from)

pub returns-clause-own : goal.returns-clause-own
returns-clause-own g c =
    let same : same_addr c.operator.result.now c.args.operator.now ≡ true = is_eq-slice_cmp c.operator.result.now c.args.operator.now ∙ opposite _ ∙ ap not (sym c.if-ne.ensures) in
    ap (λ k. same_addr (g.K.Keyed.operator_of k) c.args.operator.now) c.in_ok-copied-in-Some.ensures.same ∙ ap (λ a. same_addr a c.args.operator.now) (sym c.operator.ensures) ∙ same
