-- Worked lines whose addresses are spellings of BIP 173: what is read of them, what is refused, and what is written.
use Rattle.std.specs.Prelude.{◌≡◌, ℕ, List, [], ◌++◌, codes, Some, None, Result, Ok, Err}
use Rattle.base_types.specs.declared.account.Account.TheVariants as account
use Rattle.base_types.specs.declared.account.Module.TheVariants.{FeeCollector}
use Rattle.base_bech32.specs.declared.form.Form.TheVariants.{Bech32}
use Rattle.base_coins.specs.Steps.{◌>>=◌}
use Rattle.base_roles.specs.declared.facts.Fact.{Fact}
use Rattle.base_roles.specs.declared.facts.Fact.TheVariants as fact
use Rattle.base_messages.specs.declared.faults.LineFault.{LineFault}
use Rattle.base_messages.specs.declared.faults.LineFault.TheVariants.{BadShape}
use Rattle.base_messages.specs.declared.message.Msg.{Msg}
use Rattle.line_json.specs.Addresses.{account_in, cons_in, cons_text, operator_asked, operator_in, user_in}
use Rattle.line_json.specs.Reading.{tree_of}
use Rattle.line_json.specs.Block.{block_of}
use Rattle.line_json.specs.Messages.{message_of}
use Rattle.line_json.specs.Line.{line_of}
use Rattle.line_json.specs.Facts.{fact_data}
use Rattle.line_json.specs.Written.{text_of_block}
use Rattle.line_json.specs.ReadingExample as read
use Rattle.line_json.specs.WrittenExample as written

-- ---- spellings

-- of the user of twenty bytes 11 (hexadecimal), and of that of 22
abbrev pub user_ones : List ℕ
user_ones = codes "cosmos1zyg3zyg3zyg3zyg3zyg3zyg3zyg3zyg3pahzj0"

abbrev pub user_twos : List ℕ
user_twos = codes "cosmos1yg3zyg3zyg3zyg3zyg3zyg3zyg3zyg3zwqjy6c"

-- of the operator of 22, and of that of 33
abbrev pub operator_twos : List ℕ
operator_twos = codes "cosmosvaloper1yg3zyg3zyg3zyg3zyg3zyg3zyg3zyg3zt5x3kt"

abbrev pub operator_threes : List ℕ
operator_threes = codes "cosmosvaloper1xvenxvenxvenxvenxvenxvenxvenxvene23vre"

-- of the consensus address of 44
abbrev pub cons_fours : List ℕ
cons_fours = codes "cosmosvalcons1g3zyg3zyg3zyg3zyg3zyg3zyg3zyg3zyjk20fk"

-- of the account of the fee collector, and of its bytes as an operator
abbrev pub collector : List ℕ
collector = codes "cosmos1qqqqqqqqqqqqqqqqqqqqqqqqqqqqqqqpw45260"

abbrev pub operator_collector : List ℕ
operator_collector = codes "cosmosvaloper1qqqqqqqqqqqqqqqqqqqqqqqqqqqqqqqptpqlku"

-- An address is read behind the prefix of its kind alone. A module is an account, and no user or operator. Of a spelling
-- in capital letters, of hexadecimal digits and of a module's name nothing is read.
pub record AddressesSpelled : Type 0 where
  pub user : user_in Bech32 user_ones ≡ Some read.ones
  pub user_of_module : user_in Bech32 collector ≡ None
  pub user_of_digits : user_in Bech32 (codes "1111111111111111111111111111111111111111") ≡ None
  pub user_in_capitals : user_in Bech32 (codes "COSMOS1ZYG3ZYG3ZYG3ZYG3ZYG3ZYG3ZYG3ZYG3PAHZJ0") ≡ None
  pub operator : operator_in Bech32 operator_twos ≡ Some read.twos
  pub operator_of_user : operator_in Bech32 user_twos ≡ None
  pub operator_of_module : operator_in Bech32 operator_collector ≡ None
  pub asked : operator_asked Bech32 operator_collector ≡ Some (account.Module FeeCollector)
  pub cons : cons_in Bech32 cons_fours ≡ Some read.fours
  pub cons_written : cons_text Bech32 read.fours ≡ cons_fours
  pub account_is : account_in Bech32 user_twos ≡ Some (account.User read.twos)
  pub module_is : account_in Bech32 collector ≡ Some (account.Module FeeCollector)
  pub module_name : account_in Bech32 (codes "fee_collector") ≡ None

-- ---- what is read

-- a string as JSON
abbrev pub quoted : List ℕ → List ℕ
quoted text = codes "\"" ++ text ++ codes "\""

-- what an object of this kind and these members gives
abbrev pub message_in : List ℕ → List ℕ → Result Msg LineFault
message_in kind members = tree_of (codes "{\"kind\":" ++ quoted kind ++ members ++ codes "}") >>= message_of Bech32

abbrev pub block_line : List ℕ
block_line =
    codes "{\"kind\":\"block\",\"height\":1,\"time\":\"2024-01-01T00:00:05Z\",\"votes\":[],\"evidence\":[],"
    ++ codes "\"txs\":[{\"payer\":" ++ quoted user_ones ++ codes ",\"fee\":[{\"denom\":\"uatom\",\"amount\":\"10\"}],"
    ++ codes "\"msgs\":[{\"kind\":\"send\",\"from\":" ++ quoted user_ones ++ codes ",\"to\":" ++ quoted user_twos
    ++ codes ",\"coins\":[{\"denom\":\"uatom\",\"amount\":\"100\"}]}]}]}"

-- the members of a send from and to these texts
abbrev pub send_members : List ℕ → List ℕ → List ℕ
send_members from to =
    codes ",\"from\":" ++ quoted from ++ codes ",\"to\":" ++ quoted to
    ++ codes ",\"coins\":[{\"denom\":\"uosmo\",\"amount\":\"5\"}," ++ read.coin_text ++ codes "]"

-- the members of a delegation of the first text at the second
abbrev pub delegate_members : List ℕ → List ℕ → List ℕ
delegate_members delegator validator =
    codes ",\"delegator\":" ++ quoted delegator ++ codes ",\"validator\":" ++ quoted validator
    ++ codes ",\"amount\":" ++ read.coin_text

abbrev pub create_validator_members : List ℕ
create_validator_members =
    codes ",\"validator\":" ++ quoted operator_twos ++ codes ",\"cons\":" ++ quoted cons_fours
    ++ codes ",\"rate\":\"0.1\",\"max_rate\":\"0.5\",\"max_change_rate\":\"0.01\",\"min_self_delegation\":\"1\","
    ++ codes "\"amount\":" ++ read.coin_text

-- the lines stand for what they stand for in hexadecimal digits; a text that is refused is the fault of its member
pub record SpellingsRead : Type 0 where
  pub block : block_of Bech32 block_line ≡ Ok read.block
  pub digits : block_of Bech32 read.block_line ≡ Err (BadShape 80)
  pub send : message_in (codes "send") (send_members user_ones collector) ≡ Ok read.send
  pub from_module : message_in (codes "send") (send_members collector user_ones) ≡ Err (BadShape 91)
  pub to_name : message_in (codes "send") (send_members user_ones (codes "fee_collector")) ≡ Err (BadShape 92)
  pub to_operator : message_in (codes "send") (send_members user_ones operator_twos) ≡ Err (BadShape 92)
  pub delegate : message_in (codes "delegate") (delegate_members user_ones operator_twos) ≡ Ok read.delegate
  pub at_user : message_in (codes "delegate") (delegate_members user_ones user_twos) ≡ Err (BadShape 94)
  pub create_validator : message_in (codes "create_validator") create_validator_members ≡ Ok read.create_validator

-- ---- what is written

abbrev pub block_lines : List ℕ
block_lines =
    codes "{\"height\":1,\"kind\":\"block\",\"time\":\"2024-01-01T00:00:05Z\"}\n"
    ++ codes "{\"coins\":[{\"amount\":\"10\",\"denom\":\"uatom\"}],\"from\":" ++ quoted user_ones
    ++ codes ",\"height\":1,\"kind\":\"transfer\",\"to\":\"fee_collector\"}\n"
    ++ codes "{\"coins\":[{\"amount\":\"100\",\"denom\":\"uatom\"}],\"from\":" ++ quoted user_ones
    ++ codes ",\"height\":1,\"kind\":\"transfer\",\"to\":" ++ quoted user_twos
    ++ codes "}\n{\"height\":1,\"kind\":\"accepted\",\"tx\":0}\n"

-- the line of a fact at height 7
abbrev pub fact_line : Fact → List ℕ
fact_line f = line_of (fact_data Bech32 7 f)

pub record SpellingsWritten : Type 0 where
  pub block : text_of_block Bech32 written.block ≡ block_lines
  pub paid : fact_line (fact.Paid written.ones written.threes written.twos [] [])
      ≡ codes "{\"coins\":[],\"delegator\":" ++ quoted user_ones
      ++ codes ",\"height\":7,\"kind\":\"paid\",\"reward\":[],\"to\":" ++ quoted user_twos
      ++ codes ",\"validator\":" ++ quoted operator_threes ++ codes "}\n"
  pub jailed : fact_line (fact.Jailed written.threes)
      ≡ codes "{\"height\":7,\"kind\":\"jailed\",\"validator\":" ++ quoted operator_threes ++ codes "}\n"
