use Rattle.std.proofs.Common.{arith}
use Rattle.line_compact.proofs.BeginLemmas.{count_begins}
use Rattle.line_compact.proofs.pieces.count.Goals as goal

pub returns : goal.returns
returns c = (count_begins _ (omega (arith, c.in_ok-number.ensures)) c.in_ok-number.ensures.0, c.in_ok-number.ensures.1)
