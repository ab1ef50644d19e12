use Rattle.base_types.proofs.DigitLemmas.{value_at}
use Rattle.base_types.proofs.digits.value_of.Goals as goal

pub returns : goal.returns
returns c = value_at c.args.c c.ranges.c.fits
