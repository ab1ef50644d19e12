-- The statement that a line spells, the line of a statement, and the line that answers whether one is right.
use Rattle.std.specs.Prelude.{ℕ, Bool, List, [], ◌∷◌, ◌++◌, codes, Result, Ok}
use Rattle.json.specs.Token.{Token, key}
use Rattle.serde_json.specs.Data.{Data, Members, boolean, member, no_members, string}
use Rattle.base_bech32.specs.declared.form.Form.{Form}
use Rattle.base_coins.specs.Steps.{◌>>=◌}
use Rattle.base_messages.specs.declared.faults.LineFault.{LineFault}
use Rattle.line_json.specs.Reading.{tree_of}
use Rattle.line_json.specs.Members.{number_at, only_named, operator_at, user_at, word_at}
use Rattle.line_json.specs.Coin.{dec_coins_at}
use Rattle.line_json.specs.Line.{line_of, object_of}
use Rattle.line_json.specs.Told.{data_tokens}
use Rattle.line_json.specs.Values.{count_data, dec_coins_data, operator_data, user_data}
use Rattle.mod_statement.specs.declared.statement.Statement.{Statement}
use Rattle.line_statements.specs.Entries.{entries_at, entries_data}

-- ---- what is read

-- the statement of a tree
unfoldable pub statement_of_tree : Form → Data → Result Statement LineFault
statement_of_tree f d = do
  kind ← word_at 120 (codes "kind") (codes "statement") d
  delegator ← user_at f 121 (codes "delegator") d
  operator ← operator_at f 122 (codes "validator") d
  height ← number_at 123 (codes "height") d
  reward ← dec_coins_at 124 (codes "reward") d
  low ← dec_coins_at 125 (codes "low") d
  high ← dec_coins_at 126 (codes "high") d
  slack ← dec_coins_at 127 (codes "slack") d
  removals ← number_at 128 (codes "removals") d
  ratio ← dec_coins_at 129 (codes "ratio") d
  entries ← entries_at d
  only ← only_named (
      codes "kind" ∷ codes "delegator" ∷ codes "validator" ∷ codes "height" ∷ codes "reward" ∷ codes "low"
      ∷ codes "high" ∷ codes "slack" ∷ codes "removals" ∷ codes "ratio" ∷ codes "entries" ∷ []) d
  Ok (record {
    delegator = delegator;
    operator = operator;
    height = height;
    reward = reward;
    low = low;
    high = high;
    slack = slack;
    removals = removals;
    ratio = ratio;
    entries = entries;
  })

-- the statement that the line spells, or the first fault of it
unfoldable pub statement_of : Form → List ℕ → Result Statement LineFault
statement_of f line = tree_of line >>= statement_of_tree f

-- ---- what is written

-- what a writer writes for members, without the end of their object
abbrev pub member_tokens : Members → List Token
member_tokens no_members = []
member_tokens (member name d ms) = key name ∷ (data_tokens d ++ member_tokens ms)

-- a statement, all of it
abbrev pub statement_data : Form → Statement → Data
statement_data f s = object_of (
    (codes "kind", string (codes "statement"))
    ∷ (codes "delegator", user_data f s.delegator)
    ∷ (codes "validator", operator_data f s.operator)
    ∷ (codes "height", count_data s.height)
    ∷ (codes "reward", dec_coins_data s.reward)
    ∷ (codes "low", dec_coins_data s.low)
    ∷ (codes "high", dec_coins_data s.high)
    ∷ (codes "slack", dec_coins_data s.slack)
    ∷ (codes "removals", count_data s.removals)
    ∷ (codes "ratio", dec_coins_data s.ratio)
    ∷ (codes "entries", entries_data s.entries)
    ∷ [])

-- what is written of a statement
abbrev pub text_of_statement : Form → Statement → List ℕ
text_of_statement f s = line_of (statement_data f s)

-- ---- an answer

-- whether the statement of the line of this number is right
abbrev pub answer_data : ℕ → Bool → Data
answer_data n right = object_of (
    (codes "kind", string (codes "checked"))
    ∷ (codes "line", count_data n)
    ∷ (codes "yes", boolean right)
    ∷ [])

-- what is written of that
abbrev pub text_of_answer : ℕ → Bool → List ℕ
text_of_answer n right = line_of (answer_data n right)
