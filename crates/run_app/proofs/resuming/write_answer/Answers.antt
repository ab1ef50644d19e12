use Rattle.run_app.proofs.resuming.write_answer.Goals as goal

pub returns-clause-ends : goal.returns-clause-ends
returns-clause-ends g c = λ p s. c.write_told.ensures.ends _ (c.answer_text.ensures.text p s)
