use Rattle.store_history.proofs.KeepingLemmas.{become_none, become_still}
use Rattle.store_history.proofs.keeper.open.Goals as goal

pub over-requires-clause-takes : goal.over-requires-clause-takes
over-requires-clause-takes g c = λ changes distinct. c.in-Ok.ensures.takes changes (c.requires.takes changes distinct)

pub over-requires-clause-became : goal.over-requires-clause-became
over-requires-clause-became g c = rw (← c.requires.rows) (become_still _ _ _ c.in-Ok.ensures.same (become_none _))

pub returns-in-Ok-clause-same : goal.returns-in-Ok-clause-same
returns-in-Ok-clause-same g c = rw c.over.ensures.same c.in-Ok.ensures.same

pub returns-in-Ok-clause-takes : goal.returns-in-Ok-clause-takes
returns-in-Ok-clause-takes g c = rw c.over.ensures.same (λ changes distinct. c.in-Ok.ensures.takes changes (c.requires.takes changes distinct))
