use Rattle.line_json.proofs.KeptLemmas.{denom_kept}
use Rattle.line_json.proofs.pieces.push_denom.Goals as goal

pub push_kept-requires : goal.push_kept-requires
push_kept-requires c = denom_kept c.bytes.result.now c.bytes.ensures.name
