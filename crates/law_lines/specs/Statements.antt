-- Laws of the lines of statements: each is read back as its statement.
use Rattle.std.specs.Prelude.{◌≡◌, ℕ, ◌^◌, ◌<◌, List, map, All, ⊤, true, Result, Ok}
use Rattle.std.specs.List.{flat_map}
use Rattle.serde_json.specs.Written.{compact_text}
use Rattle.base_types.specs.Denom.{is_denom}
use Rattle.base_bech32.specs.declared.form.Form.{Form}
use Rattle.base_coins.specs.Coins.{IsMoney, Money}
use Rattle.base_messages.specs.declared.faults.LineFault.{LineFault}
use Rattle.mod_statement.specs.declared.entry.Entry.{Entry}
use Rattle.mod_statement.specs.declared.entry.Entry.TheVariants as entry
use Rattle.mod_statement.specs.declared.statement.Statement.{Statement}
use Rattle.line_statements.specs.Statements.{statement_data, statement_of, text_of_statement}
use Rattle.line_json.specs.Lines.{lines_of}
use Rattle.law_lines.specs.Ranges.{IsAmount, IsUser}

-- ---- what the types of values give

-- a list of decimal coins, as every such list is
pub record AreDecCoins (coins : Money) : Type 0 where
  pub money : IsMoney coins
  pub names : All (λ c. is_denom c.0 ≡ true) coins

-- an entry of such values
abbrev pub IsEntry : Entry → Type 0
IsEntry (entry.Started shares tokens total) = IsAmount shares × IsAmount tokens × IsAmount total
IsEntry (entry.Allocated coins tokens) = AreDecCoins coins × IsAmount tokens
IsEntry entry.Ended = ⊤
IsEntry (entry.Slashed burned tokens) = IsAmount burned × IsAmount tokens
IsEntry entry.Touched = ⊤

-- a height or a number of removals that a line may have
abbrev pub IsWhole : ℕ → Type 0
IsWhole n = n < 2 ^ 63

-- a statement of such values
pub record IsStated (s : Statement) : Type 0 where
  pub delegator : IsUser s.delegator
  pub operator : IsUser s.operator
  pub height : IsWhole s.height
  pub reward : AreDecCoins s.reward
  pub low : AreDecCoins s.low
  pub high : AreDecCoins s.high
  pub slack : AreDecCoins s.slack
  pub removals : IsWhole s.removals
  pub ratio : AreDecCoins s.ratio
  pub entries : All IsEntry s.entries

-- ---- laws

-- The line of a statement, without its end, is read as the statement.
abbrev pub StatementsAreRead : Type 0
StatementsAreRead =
    (f : Form) (s : Statement) → IsStated s
    → statement_of f (compact_text (statement_data f s)) ≡ Ok s

-- what each line of a text spells
abbrev pub statements_in : Form → List ℕ → List (Result Statement LineFault)
statements_in f text = map (statement_of f) (lines_of text)

-- The lines of statements, one after another, are read as these statements.
abbrev pub StatementsInTextsAreRead : Type 0
StatementsInTextsAreRead =
    (f : Form) (ss : List Statement) → All IsStated ss
    → statements_in f (flat_map (text_of_statement f) ss) ≡ map (λ s. Ok s) ss

-- No two statements have the same line.
abbrev pub StatementsDiffer : Type 0
StatementsDiffer =
    (f : Form) (s t : Statement) → IsStated s → IsStated t
    → text_of_statement f s ≡ text_of_statement f t → s ≡ t
