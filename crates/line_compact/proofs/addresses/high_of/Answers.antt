use Rattle.line_compact.proofs.AddressLemmas.{high_at}
use Rattle.line_compact.proofs.addresses.high_of.Goals as goal

pub returns : goal.returns
returns c = high_at c.args.c c.ranges.c.fits
