-- The genesis that a line spells.
use Rattle.std.specs.Prelude.{ℕ, List, [], ◌∷◌, codes, Result, Ok}
use Rattle.serde_json.specs.Data.{Data}
use Rattle.base_bech32.specs.declared.form.Form.{Form}
use Rattle.base_coins.specs.Steps.{◌>>=◌}
use Rattle.base_messages.specs.declared.faults.LineFault.{LineFault}
use Rattle.base_messages.specs.declared.genesis.GenesisAccount.{GenesisAccount}
use Rattle.base_messages.specs.declared.genesis.GenesisValidator.{GenesisValidator}
use Rattle.base_messages.specs.declared.genesis.GenesisDelegation.{GenesisDelegation}
use Rattle.base_messages.specs.declared.genesis.Genesis.{Genesis}
use Rattle.line_json.specs.Reading.{tree_of}
use Rattle.line_json.specs.Members.{word_at, moment_at, account_at, user_at, operator_at, cons_at, decimal_at, amount_at, only_named}
use Rattle.line_json.specs.Nested.{object_at, list_at}
use Rattle.line_json.specs.Coin.{coins_at}
use Rattle.line_json.specs.Params.{params_of}

-- an account and what it holds
unfoldable pub account_of_tree : Form → Data → Result GenesisAccount LineFault
account_of_tree f d = do
  address ← account_at f 30 (codes "address") d
  coins ← coins_at 31 (codes "coins") d
  only ← only_named (codes "address" ∷ codes "coins" ∷ []) d
  Ok (record { address = address; coins = coins })

-- a validator
unfoldable pub validator_of : Form → Data → Result GenesisValidator LineFault
validator_of f d = do
  operator ← operator_at f 40 (codes "operator") d
  cons ← cons_at f 41 (codes "cons") d
  rate ← decimal_at 42 (codes "rate") d
  max_rate ← decimal_at 43 (codes "max_rate") d
  max_change_rate ← decimal_at 44 (codes "max_change_rate") d
  min_self_delegation ← amount_at 45 (codes "min_self_delegation") d
  only ← only_named (
      codes "operator" ∷ codes "cons" ∷ codes "rate" ∷ codes "max_rate" ∷ codes "max_change_rate"
      ∷ codes "min_self_delegation" ∷ []) d
  Ok (record {
    operator = operator;
    cons = cons;
    rate = rate;
    max_rate = max_rate;
    max_change_rate = max_change_rate;
    min_self_delegation = min_self_delegation;
  })

-- a delegation to a validator
unfoldable pub delegation_of : Form → Data → Result GenesisDelegation LineFault
delegation_of f d = do
  delegator ← user_at f 50 (codes "delegator") d
  validator ← operator_at f 51 (codes "validator") d
  amount ← amount_at 52 (codes "amount") d
  only ← only_named (codes "delegator" ∷ codes "validator" ∷ codes "amount" ∷ []) d
  Ok (record { delegator = delegator; validator = validator; amount = amount })

-- the genesis of a tree
unfoldable pub genesis_of_tree : Form → Data → Result Genesis LineFault
genesis_of_tree f d = do
  kind ← word_at 1 (codes "kind") (codes "genesis") d
  time ← moment_at 2 (codes "time") d
  params ← object_at (params_of f) 3 (codes "params") d
  accounts ← list_at (account_of_tree f) 4 (codes "accounts") d
  validators ← list_at (validator_of f) 5 (codes "validators") d
  delegations ← list_at (delegation_of f) 6 (codes "delegations") d
  only ← only_named (
      codes "kind" ∷ codes "time" ∷ codes "params" ∷ codes "accounts" ∷ codes "validators" ∷ codes "delegations" ∷ []) d
  Ok (record { time = time; params = params; accounts = accounts; validators = validators; delegations = delegations })

-- the genesis that the line spells, or the first fault of it
unfoldable pub genesis_of : Form → List ℕ → Result Genesis LineFault
genesis_of f line = tree_of line >>= genesis_of_tree f
