use Rattle.line_json.proofs.KeptLemmas.{address_kept}
use Rattle.line_json.proofs.pieces.push_digits.Goals as goal

pub push_kept-requires : goal.push_kept-requires
push_kept-requires c = rw c.address_digits.ensures.text (address_kept c.args.bytes.now (λ i. c.fits-bytes i))
