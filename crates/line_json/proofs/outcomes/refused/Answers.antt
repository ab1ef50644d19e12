use Rattle.line_json.proofs.OnWritten.{written_on_literals}
use Rattle.line_json.proofs.outcomes.refused.Goals as goal

pub returns-clause-ok : goal.returns-clause-ok
unfolding written_on_literals
returns-clause-ok c = c.push_pieces.ensures.ok
