-- What an answer unfolds to compute lines with spellings.
use Rattle.std.specs.Prelude.{⊤}
use Rattle.base_bech32.proofs.OnLiterals.{spellings_on_literals}
use Rattle.line_json.proofs.{OnWritten.written_on_literals, ReadingOnLiterals.reading_on_literals}

unfoldable pub spelled_on_literals : ⊤
unfolding spellings_on_literals written_on_literals reading_on_literals
spelled_on_literals = tt
