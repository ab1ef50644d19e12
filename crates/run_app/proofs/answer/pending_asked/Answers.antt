use Rattle.run_app.proofs.AskingLemmas.{none_told, same_question}
use Rattle.run_app.proofs.answer.pending_asked.Goals as goal

pub returns-in-Rewards-clause-list : goal.returns-in-Rewards-clause-list
returns-in-Rewards-clause-list c = λ p s. same_question p _ _ c.pending_of.result c.in-Rewards.is (c.pending_of.ensures.list p s)

pub returns-in_default : goal.returns-in_default
returns-in_default c = record { list = λ p s. none_told p _ _ c.in_default.not-Rewards c.new.ensures.items; fault = tt }
