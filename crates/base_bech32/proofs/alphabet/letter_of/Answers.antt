use Rattle.std.proofs.Common.{refl}
use Rattle.base_bech32.specs.Alphabet.{letter_of}
use Rattle.base_bech32.proofs.alphabet.letter_of.Goals as goal

pub returns : goal.returns
unfolding letter_of
returns c = refl
