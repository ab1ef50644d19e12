use Rattle.run_app.proofs.AskingLemmas.{text_asked}
use Rattle.run_app.proofs.answer.answer_text.Goals as goal

pub returns-in-Ok-query-clause-text : goal.returns-in-Ok-query-clause-text
returns-in-Ok-query-clause-text c = λ p s.
    text_asked c.args.form c.states_are_asked.ensures p c.in-Ok.items.items c.in_ok-pending.pending.items _ _ (c.in-Ok.ensures.order p s) (c.in-Ok.ensures.items p s) (c.in_ok-pending.ensures.list p s)
    (rw c.deref-2.ensures.value at (rw c.deref.ensures.value at c.in-Ok-query.ensures.answer))
