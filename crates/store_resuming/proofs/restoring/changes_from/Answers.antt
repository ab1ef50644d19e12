use Rattle.store_resuming.proofs.RestoreLemmas.{all_migrated}
use Rattle.store_resuming.proofs.restoring.changes_from.Goals as goal

pub returns-in-First-clause-changes : goal.returns-in-First-clause-changes
returns-in-First-clause-changes c = rw c.in-First.is (all_migrated c.migrate.result (λ list. list.items) _ c.migrate.ensures.made c.migrate.ensures.taken)

pub returns-in-First-clause-fault : goal.returns-in-First-clause-fault
returns-in-First-clause-fault c = rw c.in-First.is (λ items listed. c.migrate.ensures.fault items listed.have_rows listed.same)
