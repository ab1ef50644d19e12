use Rattle.base_bech32.proofs.SpellingLemmas.{length-spelling_of, spelling_is_ascii, spelling_is_plain}
use Rattle.base_bech32.proofs.laws.spellings_are_plain.Goals as goal

pub returns : goal.returns
returns c = record { length = length-spelling_of; characters = spelling_is_plain; ascii = spelling_is_ascii }
