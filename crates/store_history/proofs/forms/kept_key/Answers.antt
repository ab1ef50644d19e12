use Rattle.std.proofs.Common.{◌∙◌, ap, sym, ℕ, ◌∷◌}
use Rattle.store_history.proofs.ReadLemmas.{first_same, kept_key_read, not_empty}
use Rattle.store_history.proofs.forms.kept_key.Goals as goal

pub returns-in-None : goal.returns-in-None
returns-in-None c = λ height name e. not_empty height name c.args.key.now c.in-None.ensures.cases e

pub returns-then-first-ne-KEPT : goal.returns-then-first-ne-KEPT
returns-then-first-ne-KEPT c = λ height name e. c.if-first-ne-KEPT.true (first_same _ 96 _ _ (sym c.in-Some.ensures.cases.0 ∙ e))

pub returns-else-first-ne-KEPT : goal.returns-else-first-ne-KEPT
returns-else-first-ne-KEPT c =
    kept_key_read (λ it. it.0) (λ it. it.1.now) c.eight_and_rest.result c.args.key.now c.in-Some.rest.now
    (c.in-Some.ensures.cases.0 ∙ ap (λ (n : ℕ). n ∷ c.in-Some.rest.now) c.if-first-ne-KEPT.false) c.eight_and_rest.ensures
