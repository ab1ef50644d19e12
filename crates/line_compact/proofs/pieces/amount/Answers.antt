use Rattle.std.proofs.Common.{arith, subst, sym, decimal}
use Rattle.serde_json.specs.Data.{string}
use Rattle.line_compact.{specs.Begins.Begins, proofs.BeginLemmas.amount_begins}
use Rattle.line_compact.proofs.pieces.amount.Goals as goal

pub returns : goal.returns
returns c =
    let begins = amount_begins c.in_ok-number.number c.in_ok-inner.ensures c.in_ok-number.ensures.0 c.in_ok-rest.ensures in (
      subst (λ n. Begins 0 c.args.text.now (string (decimal n)) c.in_ok-rest.rest.now) (sym c.from.ensures) begins,
      omega (arith, c.from.ensures, c.in_ok-number.ensures),
    )
