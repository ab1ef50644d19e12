-- What an answer unfolds to compute the generated input on literals.
use Rattle.std.specs.Prelude.{⊤}
use Rattle.base_bech32.proofs.OnLiterals.{spellings_on_literals}
use Rattle.line_json.proofs.OnWritten.{written_on_literals}
use Rattle.run_generated.specs.Drawing.{next}

unfoldable pub gen_on_literals : ⊤
unfolding next spellings_on_literals written_on_literals
gen_on_literals = tt
