use Rattle.run_generated.proofs.WritingLemmas.{err_of, ok_of, then_stays, whole_grown}
use Rattle.run_generated.proofs.input.write_input.Goals as goal

pub returns-clause-text : goal.returns-clause-text
returns-clause-text g c = ok_of c.hand_on.result _ (then_stays _ _ _ _ c.in_ok-write_lines.ensures.text c.hand_on.ensures.same)

pub returns-clause-front : goal.returns-clause-front
returns-clause-front g c = err_of c.hand_on.result _ (whole_grown _ _ _ (then_stays _ _ _ _ c.in_ok-write_lines.ensures.text c.hand_on.ensures.same))
