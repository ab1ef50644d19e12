-- Worked statements as lines, and lines that are none.
use Rattle.std.specs.Prelude.{◌≡◌, ℕ, ◌*◌, ◌^◌, true, false, List, [], ◌∷◌, ◌++◌, replicate, codes, Result, Ok, Err}
use Rattle.base_bech32.specs.declared.form.Form.TheVariants.{Hex, Bech32}
use Rattle.base_coins.specs.Coins.{Money}
use Rattle.base_messages.specs.declared.faults.LineFault.{LineFault}
use Rattle.base_messages.specs.declared.faults.LineFault.TheVariants.{BadShape, NotJson}
use Rattle.mod_statement.specs.declared.entry.Entry.{Entry}
use Rattle.mod_statement.specs.declared.entry.Entry.TheVariants.{Started, Allocated, Ended, Slashed, Touched}
use Rattle.mod_statement.specs.declared.statement.Statement.{Statement}
use Rattle.line_statements.specs.Statements.{statement_of, text_of_answer, text_of_statement}

-- so many units of 10^-18 uatom
abbrev pub uatom : ℕ → Money
uatom units = (codes "uatom", units) ∷ []

-- an entry of each kind
abbrev pub one_of_each : List Entry
one_of_each =
    Started (2 * 10 ^ 18) 3 (3 * 10 ^ 18) ∷ Allocated (uatom 5) 3 ∷ Touched ∷ Slashed 1 3 ∷ Ended ∷ []

-- the statement of the withdrawal of the user of twenty bytes 11 (hexadecimal) from the operator of these
abbrev pub stated : List ℕ → Money → List Entry → Statement
stated operator slack entries = record {
  delegator = replicate 20 17;
  operator = operator;
  height = 7;
  reward = uatom 4;
  low = [];
  high = uatom (4 * 10 ^ 18);
  slack = slack;
  removals = 1;
  ratio = [];
  entries = entries;
}

-- the operator of twenty bytes 22
abbrev pub of_twos : Money → List Entry → Statement
of_twos = stated (replicate 20 34)

-- ---- what is written

abbrev pub line : List ℕ
line =
    codes "{\"delegator\":\"1111111111111111111111111111111111111111\",\"entries\":["
    ++ codes "{\"kind\":\"started\",\"shares\":\"2.000000000000000000\",\"tokens\":\"3\",\"total\":\"3.000000000000000000\"},"
    ++ codes "{\"coins\":[{\"amount\":\"0.000000000000000005\",\"denom\":\"uatom\"}],\"kind\":\"allocated\",\"tokens\":\"3\"},"
    ++ codes "{\"kind\":\"touched\"},{\"burned\":\"1\",\"kind\":\"slashed\",\"tokens\":\"3\"},{\"kind\":\"ended\"}],"
    ++ codes "\"height\":7,\"high\":[{\"amount\":\"4.000000000000000000\",\"denom\":\"uatom\"}],\"kind\":\"statement\","
    ++ codes "\"low\":[],\"ratio\":[],\"removals\":1,\"reward\":[{\"amount\":\"0.000000000000000004\",\"denom\":\"uatom\"}],"
    ++ codes "\"slack\":[],\"validator\":\"2222222222222222222222222222222222222222\"}"

pub record StatementsWritten : Type 0 where
  pub line : text_of_statement Hex (of_twos [] one_of_each) ≡ line ++ 10 ∷ []
  pub right : text_of_answer 1 true ≡ codes "{\"kind\":\"checked\",\"line\":1,\"yes\":true}\n"
  pub wrong : text_of_answer 20 false ≡ codes "{\"kind\":\"checked\",\"line\":20,\"yes\":false}\n"

-- ---- what is read

abbrev pub read : List ℕ → Result Statement LineFault
read text = statement_of Hex text

-- a line with these members from `slack` on, in the order in which members are read
abbrev pub line_to : List ℕ → List ℕ
line_to rest =
    codes "{\"kind\":\"statement\",\"delegator\":\"1111111111111111111111111111111111111111\","
    ++ codes "\"validator\":\"2222222222222222222222222222222222222222\",\"height\":7,"
    ++ codes "\"reward\":[{\"denom\":\"uatom\",\"amount\":\"0.000000000000000004\"}],\"low\":[],"
    ++ codes "\"high\":[{\"denom\":\"uatom\",\"amount\":\"4\"}],"
    ++ rest

-- a line with this slack and these entries
abbrev pub line_with : List ℕ → List ℕ → List ℕ
line_with slack entries =
    line_to (
    codes "\"slack\":" ++ slack ++ codes ",\"removals\":1,\"ratio\":[],\"entries\":[" ++ entries ++ codes "]}")

pub record StatementsRead : Type 0 where
  pub written : read line ≡ Ok (of_twos [] one_of_each)
  -- coins stand in any order, and those of amount 0 are dropped
  pub coins :
      read (
      line_with
      (codes "[{\"amount\":\"2\",\"denom\":\"uosmo\"},{\"amount\":\"0\",\"denom\":\"uatom\"},{\"amount\":\"1.5\",\"denom\":\"ibc/07\"}]")
      (codes "{\"kind\":\"ended\"}"))
      ≡ Ok (of_twos ((codes "ibc/07", 15 * 10 ^ 17) ∷ (codes "uosmo", 2 * 10 ^ 18) ∷ []) (Ended ∷ []))
  -- entries need not be a span
  pub no_span : read (line_with (codes "[]") []) ≡ Ok (of_twos [] [])

-- what is no statement
pub record StatementsRefused : Type 0 where
  pub nothing : read [] ≡ Err NotJson
  pub array : read (codes "[]") ≡ Err (BadShape 120)
  pub block : read (codes "{\"kind\":\"block\"}") ≡ Err (BadShape 120)
  pub no_delegator : read (codes "{\"kind\":\"statement\",\"validator\":7}") ≡ Err (BadShape 121)
  pub no_slack : read (line_to (codes "\"removals\":-1}")) ≡ Err (BadShape 127)
  pub twice :
      read (line_with (codes "[{\"amount\":\"0\",\"denom\":\"uatom\"},{\"amount\":\"1\",\"denom\":\"uatom\"}]") [])
      ≡ Err (BadShape 127)
  pub no_denom : read (line_with (codes "[7]") []) ≡ Err (BadShape 32)
  pub no_amount : read (line_with (codes "[{\"denom\":\"uatom\",\"amount\":7}]") []) ≡ Err (BadShape 134)
  pub removals : read (line_to (codes "\"slack\":[],\"removals\":\"1\"}")) ≡ Err (BadShape 128)
  pub ratio : read (line_to (codes "\"slack\":[],\"removals\":1,\"ratio\":{}}")) ≡ Err (BadShape 129)
  pub entries : read (line_to (codes "\"slack\":[],\"removals\":1,\"ratio\":[],\"more\":1}")) ≡ Err (BadShape 130)
  pub further :
      read (line_to (codes "\"slack\":[],\"removals\":1,\"ratio\":[],\"entries\":[],\"more\":1}"))
      ≡ Err (BadShape 0)

-- a statement of this entry
abbrev pub of_entry : List ℕ → Result Statement LineFault
of_entry entry = read (line_with (codes "[]") entry)

-- what is no entry
pub record EntriesRefused : Type 0 where
  pub number : of_entry (codes "7") ≡ Err (BadShape 131)
  pub unknown : of_entry (codes "{\"kind\":\"begun\"}") ≡ Err (BadShape 131)
  pub shares : of_entry (codes "{\"kind\":\"started\",\"tokens\":\"1\",\"total\":\"1\"}") ≡ Err (BadShape 132)
  pub tokens : of_entry (codes "{\"kind\":\"started\",\"shares\":\"1\",\"tokens\":\"1.0\"}") ≡ Err (BadShape 133)
  pub total : of_entry (codes "{\"kind\":\"started\",\"shares\":\"1\",\"tokens\":\"1\"}") ≡ Err (BadShape 135)
  pub coins : of_entry (codes "{\"kind\":\"allocated\",\"coins\":\"\",\"tokens\":\"1\"}") ≡ Err (BadShape 136)
  pub burned : of_entry (codes "{\"kind\":\"slashed\",\"tokens\":\"1\"}") ≡ Err (BadShape 137)
  pub further : of_entry (codes "{\"kind\":\"ended\",\"tokens\":\"1\"}") ≡ Err (BadShape 0)

-- ---- spellings

-- a statement of a delegator and an operator of these texts
abbrev pub spelled : List ℕ → List ℕ → List ℕ
spelled delegator operator =
    codes "{\"kind\":\"statement\",\"delegator\":\"" ++ delegator ++ codes "\",\"validator\":\"" ++ operator
    ++ codes "\",\"height\":7,\"reward\":[{\"denom\":\"uatom\",\"amount\":\"0.000000000000000004\"}],\"low\":[],"
    ++ codes "\"high\":[{\"denom\":\"uatom\",\"amount\":\"4\"}],\"slack\":[],\"removals\":1,\"ratio\":[],\"entries\":[]}"

-- the delegator's account, and the operator of the same bytes
abbrev pub account_text : List ℕ
account_text = codes "cosmos1zyg3zyg3zyg3zyg3zyg3zyg3zyg3zyg3pahzj0"

abbrev pub operator_text : List ℕ
operator_text = codes "cosmosvaloper1zyg3zyg3zyg3zyg3zyg3zyg3zyg3zyg3yfrh7u"

-- a delegator is spelled as an account, and a validator as an operator
pub record SpellingsRead : Type 0 where
  pub both : statement_of Bech32 (spelled account_text operator_text) ≡ Ok (stated (replicate 20 17) [] [])
  pub account : statement_of Bech32 (spelled account_text account_text) ≡ Err (BadShape 122)
  pub operator : statement_of Bech32 (spelled operator_text operator_text) ≡ Err (BadShape 121)
