use Rattle.base_types.proofs.DenomLemmas.{padded_from}
use Rattle.base_types.proofs.denom.padded.Goals as goal

pub returns : goal.returns
returns c = padded_from c.args.name.now c.copy_from_slice.new.self c.copy_from_slice.ensures.after
