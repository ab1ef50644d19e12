use Rattle.line_json.proofs.CompactLemmas.{amount_spelled}
use Rattle.line_json.proofs.compact.amount.Goals as goal

pub returns-in-Some : goal.returns-in-Some
returns-in-Some c = amount_spelled c.in-Some.number c.in-Some.ensures.0 c.in-Some.ensures.1
