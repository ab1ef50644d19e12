use Rattle.base_decimals.proofs.Written.{pow_below_20}
use Rattle.base_decimals.proofs.text.digit_count.Goals as goal

pub returns-else-value-lt10-clause-short : goal.returns-else-value-lt10-clause-short
returns-else-value-lt10-clause-short c = pow_below_20 c.ilog10.result c.args.value c.ilog10.ensures.power_le c.requires
