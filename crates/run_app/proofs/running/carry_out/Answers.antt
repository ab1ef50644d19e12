use Rattle.std.proofs.Common.{refl}
use Rattle.run_app.proofs.{CountLemmas.{quiet_read, still_read}, ModeLemmas.untouched}
use Rattle.run_app.proofs.running.carry_out.Goals as goal

pub returns-in-Gen-clause-ends : goal.returns-in-Gen-clause-ends
returns-in-Gen-clause-ends g c = rw c.in-Gen.is ((refl, c.write_generated.ensures.ends), untouched _ _)

pub returns-in-Trial-clause-ends : goal.returns-in-Trial-clause-ends
returns-in-Trial-clause-ends g c = rw c.in-Trial.is ((refl, c.write_trial.ensures.ends), untouched _ _)

pub returns-in-Check-clause-ends : goal.returns-in-Check-clause-ends
returns-in-Check-clause-ends g c = rw c.in-Check.is (c.check_all.ensures.ends, untouched _ _)

pub returns-in-Check-clause-keeps : goal.returns-in-Check-clause-keeps
returns-in-Check-clause-keeps g c = rw c.check_all.ensures.keep refl

pub returns-in-Gen-clause-keeps : goal.returns-in-Gen-clause-keeps
returns-in-Gen-clause-keeps g c = rw c.write_generated.ensures.keep refl

pub returns-in-Trial-clause-keeps : goal.returns-in-Trial-clause-keeps
returns-in-Trial-clause-keeps g c = rw c.write_trial.ensures.keep refl

pub returns-in-Statement-clause-ends : goal.returns-in-Statement-clause-ends
returns-in-Statement-clause-ends g c = rw c.in-Statement.is (c.state_all.ensures.ends, untouched _ _)

pub returns-in-Statement-clause-keeps : goal.returns-in-Statement-clause-keeps
returns-in-Statement-clause-keeps g c = rw c.state_all.ensures.keep refl

pub returns-in-Query-clause-ends : goal.returns-in-Query-clause-ends
returns-in-Query-clause-ends g c = rw c.in-Query.is (refl, c.answer.ensures.ends)

pub returns-in-Query-clause-unkept : goal.returns-in-Query-clause-unkept
returns-in-Query-clause-unkept g c = rw c.in-Query.is (λ off. let u = c.answer.ensures.unkept off in (u.0, (refl, u.1)))

pub returns-in-Gen-clause-unkept : goal.returns-in-Gen-clause-unkept
returns-in-Gen-clause-unkept g c = rw c.in-Gen.is (λ off. tt)

pub returns-in-Trial-clause-unkept : goal.returns-in-Trial-clause-unkept
returns-in-Trial-clause-unkept g c = rw c.in-Trial.is (λ off. tt)

pub returns-in-Replay-clause-unkept : goal.returns-in-Replay-clause-unkept
returns-in-Replay-clause-unkept g c = rw c.in-Replay.is c.replay.ensures.unkept

pub returns-in-Resume-clause-unkept : goal.returns-in-Resume-clause-unkept
returns-in-Resume-clause-unkept g c = rw c.in-Resume.is c.resume.ensures.unkept

pub returns-in-Check-clause-unkept : goal.returns-in-Check-clause-unkept
returns-in-Check-clause-unkept g c = rw c.in-Check.is (λ off. tt)

pub returns-in-Statement-clause-unkept : goal.returns-in-Statement-clause-unkept
returns-in-Statement-clause-unkept g c = rw c.in-Statement.is (λ off. tt)

pub returns-in-Tally-clause-unkept : goal.returns-in-Tally-clause-unkept
returns-in-Tally-clause-unkept g c = rw c.in-Tally.is c.tally.ensures.unkept

pub returns-in-Query-clause-reads : goal.returns-in-Query-clause-reads
returns-in-Query-clause-reads g c = quiet_read c.args.every c.answer.result _ _ c.answer.ensures.read refl

pub returns-in-Gen-clause-reads : goal.returns-in-Gen-clause-reads
returns-in-Gen-clause-reads g c = quiet_read c.args.every c.write_generated.result _ _ c.write_generated.ensures.read refl

pub returns-in-Trial-clause-reads : goal.returns-in-Trial-clause-reads
returns-in-Trial-clause-reads g c = quiet_read c.args.every c.write_trial.result _ _ c.write_trial.ensures.read refl

pub returns-in-Check-clause-reads : goal.returns-in-Check-clause-reads
returns-in-Check-clause-reads g c = still_read c.args.every c.check_all.result _ _ c.check_all.ensures.reads

pub returns-in-Statement-clause-reads : goal.returns-in-Statement-clause-reads
returns-in-Statement-clause-reads g c = still_read c.args.every c.state_all.result _ _ c.state_all.ensures.reads

pub returns-in-Tally-clause-reads : goal.returns-in-Tally-clause-reads
returns-in-Tally-clause-reads g c = still_read c.args.every c.tally.result _ _ c.tally.ensures.reads
