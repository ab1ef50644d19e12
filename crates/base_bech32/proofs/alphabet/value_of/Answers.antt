use Rattle.base_bech32.proofs.AlphabetLemmas.{value_at}
use Rattle.base_bech32.proofs.alphabet.value_of.Goals as goal

pub returns : goal.returns
returns c = value_at c.args.letter c.ranges.letter.fits
