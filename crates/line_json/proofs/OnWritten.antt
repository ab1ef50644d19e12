-- What an answer unfolds to compute written lines on literals.
use Rattle.std.specs.{Prelude.⊤, Fmt.digits, Str.{is_utf8, chars}}
use Rattle.serde_json.proofs.OnLiterals.{serde_json_on_literals}
use Rattle.base_types.proofs.OnLiterals.{types_on_literals}

unfoldable pub written_on_literals : ⊤
unfolding digits is_utf8 chars serde_json_on_literals types_on_literals
written_on_literals = tt
