use Rattle.std.proofs.Common.{true, false}
use Rattle.line_compact.proofs.BeginLemmas.{flag_begins}
use Rattle.line_compact.proofs.pieces.flag.Goals as goal

pub returns-in-Some : goal.returns-in-Some
returns-in-Some c = flag_begins true c.in-Some.ensures

pub returns : goal.returns
returns c = flag_begins false c.in_ok-rest.ensures
