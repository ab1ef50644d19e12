use Rattle.std.proofs.Common.{arith, rules}
use Rattle.store_history.proofs.ReadLemmas.{eight_read}
use Rattle.store_history.proofs.forms.eight_and_rest.Goals as goal

pub returns-in-Some : goal.returns-in-Some
returns-in-Some c = (
  eight_read c.args.bytes.now c.in-Some.front.now c.in-Some.rest.now c.from_be_bytes.result c.in-Some.ensures.cases.0 c.in-Some.ensures.cases.1
      (omega (arith, c.in-Some.ensures.cases.2)) (λ i. omega (arith, c.type_inv.bytes i)) c.from_be_bytes.ensures,
  search (arith, rules),
)
