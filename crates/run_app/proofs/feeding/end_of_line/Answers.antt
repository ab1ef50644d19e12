use Rattle.run_app.proofs.PartLemmas.{found_before, found_none}
use Rattle.run_app.proofs.feeding.end_of_line.Goals as goal

pub returns-clause-before : goal.returns-clause-before
returns-clause-before c = found_before _ _ c.memchr.ensures

pub returns-clause-none : goal.returns-clause-none
returns-clause-none c = found_none _ _ c.memchr.ensures
