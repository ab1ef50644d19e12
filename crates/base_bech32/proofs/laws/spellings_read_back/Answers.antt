use Rattle.std.proofs.Common.{◌∙◌, ap}
use Rattle.base_bech32.{specs.Reading.unspelled, proofs.SpellingLemmas.{reading_is_spelled, spelling_is_read}}
use Rattle.base_bech32.proofs.laws.spellings_read_back.Goals as goal

pub returns : goal.returns
returns c = λ prefix text bytes. (
  reading_is_spelled prefix text bytes,
  λ h. ap (unspelled prefix) h.1 ∙ spelling_is_read prefix bytes h.0,
)
