use Rattle.line_compact.proofs.BeginLemmas.{string_begins}
use Rattle.line_compact.proofs.pieces.string.Goals as goal

pub returns : goal.returns
returns c = string_begins _ c.in_ok-bytes.ensures.1 c.in_ok-inner.ensures c.in_ok-bytes.ensures.0
