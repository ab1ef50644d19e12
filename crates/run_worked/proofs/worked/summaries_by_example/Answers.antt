use Rattle.std.proofs.Common.{refl}
use Rattle.line_json.proofs.OnWritten.{written_on_literals}
use Rattle.run_worked.proofs.worked.summaries_by_example.Goals as goal

pub returns-clause-four : goal.returns-clause-four
unfolding written_on_literals
returns-clause-four c = refl
