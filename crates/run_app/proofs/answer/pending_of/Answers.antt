use Rattle.run_app.proofs.AskingLemmas.{all_told, own_told}
use Rattle.run_app.proofs.answer.pending_of.Goals as goal

pub returns-in-User-clause-list : goal.returns-in-User-clause-list
returns-in-User-clause-list c = λ p s. own_told p _ c.pending_told.result c.pending_told.ensures.list _ c.in-User.who c.in-User.is (c.pending_to.ensures.pending p s)

pub returns-in-Module-clause-list : goal.returns-in-Module-clause-list
returns-in-Module-clause-list c = λ p s. all_told p _ c.pending_told-in-Module.result c.pending_told-in-Module.ensures.list _ (c.pending.ensures.pending p s)
