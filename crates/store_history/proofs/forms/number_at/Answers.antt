use Rattle.std.proofs.Common.{arith}
use Rattle.store_history.proofs.ReadLemmas.{number_found}
use Rattle.store_history.proofs.forms.number_at.Goals as goal

pub returns-in-Some : goal.returns-in-Some
returns-in-Some c =
    number_found c.args.bytes.now c.in-Some.front.now c.from_be_bytes.result c.in-Some.ensures.cases.0 (omega (arith, c.in-Some.ensures.cases.2)) c.from_be_bytes.ensures
