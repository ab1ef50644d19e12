use Rattle.store_history.proofs.KeepingLemmas.{become_none}
use Rattle.test_history.proofs.lending.commit_kept.Goals as goal

pub over-over-requires-clause-became : goal.over-over-requires-clause-became
over-over-requires-clause-became g c = rw (← c.requires.rows) (become_none _)

pub returns-clause-became : goal.returns-clause-became
returns-clause-became g c = rw c.requires.rows c.into_inner.ensures.became
