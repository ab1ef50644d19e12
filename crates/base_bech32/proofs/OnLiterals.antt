-- What an answer unfolds to compute spellings of literals.
use Rattle.std.specs.Prelude.{⊤}
use Rattle.base_bech32.specs.{Alphabet.{letter_of, value_of}, Digits.digits, Residue.{chosen, residue_step}}

unfoldable pub spellings_on_literals : ⊤
unfolding letter_of value_of digits chosen residue_step
spellings_on_literals = tt
