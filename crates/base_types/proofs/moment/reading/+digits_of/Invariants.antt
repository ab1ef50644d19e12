use Rattle.std.proofs.Common.{length}
use Rattle.base_types.proofs.moment.reading.+digits_of.Given as goal

abbrev pub decreases-digits_of : goal.decreases-digits_of
decreases-digits_of l = length l.text.now
