use Rattle.std.proofs.Common.{inl, inr, refl}
use Rattle.run_app.proofs.{AnswerLemmas.grown, CheckLemmas.{unanswered_may, unanswered_unwritten}, ModeLemmas.quiet_at}
use Rattle.run_app.proofs.checking.CheckerTakesLines.take.Goals as goal

pub returns-in-Err-clause-stops : goal.returns-in-Err-clause-stops
returns-in-Err-clause-stops g c = inl (c.in-Err.ensures.stop, refl)

pub returns-in-Err-clause-may : goal.returns-in-Err-clause-may
returns-in-Err-clause-may g c = unanswered_may c.args.form _ _ c.in-Err.status c.in-Err.ensures.stop

pub returns-in-Err-clause-cause : goal.returns-in-Err-clause-cause
returns-in-Err-clause-cause g c = λ e. absurd (unanswered_unwritten c.args.form _ _ c.in-Err.status c.in-Err.ensures.stop e)

pub returns-in-Err-clause-quiet : goal.returns-in-Err-clause-quiet
returns-in-Err-clause-quiet g c = quiet_at _ _ refl

pub returns-in-Ok-clause-takes : goal.returns-in-Ok-clause-takes
returns-in-Ok-clause-takes g c = (_, c.in_default.ensures.text, grown _ _ _ _ c.deref.ensures.value c.in-Ok.ensures.ok)

pub returns-in-Err-Failed-clause-stops : goal.returns-in-Err-Failed-clause-stops
returns-in-Err-Failed-clause-stops g c = inr (inl refl, (_, c.in_default.ensures.text, rw c.deref.ensures.value at c.in-Err-Failed.ensures.err))

pub returns-in-Err-NoMemory-clause-stops : goal.returns-in-Err-NoMemory-clause-stops
returns-in-Err-NoMemory-clause-stops g c = inr (inr refl, (_, c.in_default.ensures.text, rw c.deref.ensures.value at c.in-Err-NoMemory.ensures.err))
