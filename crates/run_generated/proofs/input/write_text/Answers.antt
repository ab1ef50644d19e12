use Rattle.run_generated.proofs.WritingLemmas.{err_of, from_some, ok_of, part_of_text, then_stays, whole_grown}
use Rattle.run_generated.proofs.input.write_text.Goals as goal

pub returns-in_err-write_all-clause-front : goal.returns-in_err-write_all-clause-front
returns-in_err-write_all-clause-front g c = err_of c.from_residual.result _ (part_of_text _ _ _ c.in_err-write_all.ensures.err)

pub returns-clause-text : goal.returns-clause-text
returns-clause-text g c =
    ok_of c.hand_on.result _ (then_stays _ _ _ _ (from_some _ _ _ c.in_ok-write_all.ensures.ok) c.hand_on.ensures.same)

pub returns-clause-front : goal.returns-clause-front
returns-clause-front g c =
    err_of c.hand_on.result _ (whole_grown _ _ _ (then_stays _ _ _ _ (from_some _ _ _ c.in_ok-write_all.ensures.ok) c.hand_on.ensures.same))
