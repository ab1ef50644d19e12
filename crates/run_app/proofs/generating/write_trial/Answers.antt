use Rattle.run_app.proofs.generating.write_trial.Goals as goal

pub returns-clause-ends : goal.returns-clause-ends
returns-clause-ends g c = c.write_summary.ensures.ends _ c.try_input.ensures.summary c.try_input.ensures.fault
