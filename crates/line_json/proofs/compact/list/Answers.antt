use Rattle.std.proofs.Common.{ap, arith, subst, sym, length, ◌++◌, ◌∷◌, []}
use Rattle.line_json.specs.Compact.{IsCompactList}
use Rattle.line_json.proofs.CompactLemmas.{IsReadUpTo, empty_read, last_read, no_longer, none_read, one_more_read, pushed}
use Rattle.line_json.proofs.compact.list.Goals as goal

pub returns-in-Some : goal.returns-in-Some
returns-in-Some g c =
    let form = g.T.FromTree.reading c.args.form in
    let deep = g.T.FromCompact.deep in
    subst (λ vs. IsCompactList form deep c.args.text.now vs c.in-Some.rest.now) (sym c.new-values.ensures.items)
    (empty_read form deep c.args.text.now c.in_ok-inner.inner.now c.in-Some.rest.now c.in_ok-inner.ensures c.in-Some.ensures)

pub elements-init : goal.elements-init
elements-init g c =
    let form = g.T.FromTree.reading c.args.form in
    let deep = g.T.FromCompact.deep in
    subst (λ vs. IsReadUpTo form deep c.args.text.now vs c.in_ok-inner.inner.now) (sym c.new-values.ensures.items)
    (none_read form deep c.args.text.now c.in_ok-inner.inner.now c.in_ok-inner.ensures)

pub elements-smaller : goal.elements-smaller
elements-smaller g c =
    omega (
      arith,
      no_longer (g.T.FromTree.reading c.args.form) g.T.FromCompact.deep c.elements.left.now c.in_ok-value.value c.in_ok-value.behind.now c.in_ok-value.ensures,
      ap length c.in-Some-after.ensures,
    )

pub elements-preserved : goal.elements-preserved
elements-preserved g c =
    let form = g.T.FromTree.reading c.args.form in
    let deep = g.T.FromCompact.deep in
    subst (λ vs. IsReadUpTo form deep c.args.text.now vs c.in-Some-after.others.now)
    (sym (pushed _ c.push.new.self.items (c.elements.values.items ++ c.in_ok-value.value ∷ []) c.elements.values.items c.push.ensures.items c.if-is_err.ensures.negation))
    (one_more_read form deep c.args.text.now c.elements.values.items c.elements.left.now c.in_ok-value.value c.in_ok-value.behind.now c.in-Some-after.others.now
    c.elements.invariant c.in_ok-value.ensures c.in-Some-after.ensures)

pub returns-in_default-after : goal.returns-in_default-after
returns-in_default-after g c =
    let form = g.T.FromTree.reading c.args.form in
    let deep = g.T.FromCompact.deep in
    subst (λ vs. IsCompactList form deep c.args.text.now vs c.in_ok-rest.rest.now)
    (sym (pushed _ c.push.new.self.items (c.elements.values.items ++ c.in_ok-value.value ∷ []) c.elements.values.items c.push.ensures.items c.if-is_err.ensures.negation))
    (last_read form deep c.args.text.now c.elements.values.items c.elements.left.now c.in_ok-value.value c.in_ok-value.behind.now c.in_ok-rest.rest.now
    c.elements.invariant c.in_ok-value.ensures c.in_ok-rest.ensures)
