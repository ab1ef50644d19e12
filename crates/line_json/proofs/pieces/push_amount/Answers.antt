use Rattle.line_json.proofs.KeptLemmas.{decimal_kept}
use Rattle.line_json.proofs.pieces.push_amount.Goals as goal

pub push_kept-requires : goal.push_kept-requires
push_kept-requires c = rw (c.as_bytes.ensures.value, c.format.ensures.text) (decimal_kept c.args.amount)
