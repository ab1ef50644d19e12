use Rattle.std.proofs.Common.{◌∙◌, ap, rules, sym, tests}
use Rattle.base_io.specs.Changes.{pair_of}
use Rattle.store_history.{specs.History.was, proofs.ReadLemmas.{is_kept_by, kept_between, kept_shown}}
use Rattle.store_history.proofs.forms.is_kept.Goals as goal

pub returns-in-None : goal.returns-in-None
returns-in-None c = (
  λ t. absurd (search (rules, tests)),
  λ k. absurd (c.in-None.ensures _ _ (c.as_slice.ensures.value ∙ k.key)),
)

pub returns-then-not-is_kept_value : goal.returns-then-not-is_kept_value
returns-then-not-is_kept_value c = (
  λ t. absurd (search (rules, tests)),
  λ k.
      let yes = c.is_kept_value.ensures.1 (c.as_slice-in-Some.ensures.value ∙ k.value ∙ ap Rattle.store_history.specs.History.kept_value (ap was (sym c.as_slice-in-Some.ensures.value))) in
      search (rules, tests),
)

pub returns-then-not-is_visible : goal.returns-then-not-is_visible
returns-then-not-is_visible c = (
  λ t. absurd (search (rules, tests)),
  λ k.
      let shown = kept_shown c.args.base c.args.last (pair_of c.args.row.now) c.in-Some.height c.in-Some.name.now (sym c.as_slice.ensures.value ∙ c.in-Some.ensures.0) k in
      let found = c.is_visible.ensures in
      search (rules, tests),
)

pub returns-else-not-is_visible : goal.returns-else-not-is_visible
returns-else-not-is_visible c =
    let key = sym c.as_slice.ensures.value ∙ c.in-Some.ensures.0 in
    let whole = c.is_kept_value.ensures.0 (search (rules, tests)) in
    let value = sym c.as_slice-in-Some.ensures.value ∙ whole in (
      λ t. is_kept_by c.args.base c.args.last (pair_of c.args.row.now) c.in-Some.height c.in-Some.name.now (was c.as_slice-in-Some.result.now) c.in-Some.ensures.1 key value (search (rules, tests)) (c.is_between.ensures.0 t),
      λ k. c.is_between.ensures.1 (kept_between c.args.base c.args.last (pair_of c.args.row.now) c.in-Some.height c.in-Some.name.now c.in-Some.ensures.1 key k),
    )
