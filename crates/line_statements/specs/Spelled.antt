-- A statement in the type that a line is read into.
use Rattle.std.specs.Prelude.{Result, Ok}
use Rattle.serde_json.specs.Data.{Data}
use Rattle.base_bech32.specs.declared.form.Form.{Form}
use Rattle.base_coins.specs.Steps.{◌>>=◌}
use Rattle.base_messages.specs.declared.faults.LineFault.{LineFault}
use Rattle.line_statements.specs.declared.reading.Spelled.{Spelled}
use Rattle.line_statements.specs.Statements.{statement_of_tree}

abbrev pub spelled_of : Form → Data → Result Spelled LineFault
spelled_of f d = statement_of_tree f d >>= λ s. Ok (record { statement = s })
