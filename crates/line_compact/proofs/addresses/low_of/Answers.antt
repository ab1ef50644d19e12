use Rattle.line_compact.proofs.AddressLemmas.{low_at}
use Rattle.line_compact.proofs.addresses.low_of.Goals as goal

pub returns : goal.returns
returns c = low_at c.args.c c.ranges.c.fits
