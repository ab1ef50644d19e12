use Rattle.std.proofs.Common.{sym, subst}
use Rattle.mod_periods.specs.Answers.{Gives}
use Rattle.chain_whole.proofs.AskingLemmas.{given_some}
use Rattle.chain_whole.proofs.pending.unless_over.Goals as goal

pub returns-in-Ok : goal.returns-in-Ok
returns-in-Ok c = λ due h. sym (given_some due c.in-Ok.coins (subst (Gives due) c.in-Ok.is h))

pub returns-in-Err : goal.returns-in-Err
returns-in-Err c = λ due h. c.none_if_over.ensures due (subst (Gives due) c.in-Err.is h)
