use Rattle.store_history.proofs.KeepingLemmas.{become_none}
use Rattle.run_app.proofs.CountLemmas.{one_read}
use Rattle.run_app.proofs.keeping.carry_out_kept.Goals as goal

pub over-over-requires-clause-became : goal.over-over-requires-clause-became
over-over-requires-clause-became g c = rw (← c.requires.rows) (become_none _)

pub returns-clause-ends : goal.returns-clause-ends
returns-clause-ends g c = rw (← c.over-over.ensures.same, c.into_inner.ensures.same) c.carry_out-status.ensures.ends

pub returns-clause-became : goal.returns-clause-became
returns-clause-became g c = rw c.requires.rows c.into_inner.ensures.became

pub returns-clause-keeps : goal.returns-clause-keeps
returns-clause-keeps g c = rw (← c.over-over.ensures.same, c.into_inner.ensures.same) c.carry_out-status.ensures.keeps

pub returns-clause-reads : goal.returns-clause-reads
returns-clause-reads g c = one_read c.carry_out-status.result _ _ c.carry_out-status.ensures.reads
