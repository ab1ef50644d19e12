-- The lines of a genesis and of a block.
use Rattle.std.specs.Prelude.{ℕ, ◌+◌, List, [], ◌∷◌, ◌++◌, codes}
use Rattle.std.specs.List.{flat_map}
use Rattle.serde_json.specs.Data.{Data}
use Rattle.base_bech32.specs.declared.form.Form.{Form}
use Rattle.base_coins.specs.Coins.{Money}
use Rattle.base_roles.specs.declared.facts.Fact.{Fact}
use Rattle.base_messages.specs.declared.report.TxReport.{TxReport}
use Rattle.base_messages.specs.declared.report.BlockReport.{BlockReport}
use Rattle.line_json.specs.Line.{told_at, line_of}
use Rattle.line_json.specs.Values.{coins_data, moment_data}
use Rattle.line_json.specs.Facts.{fact_data}
use Rattle.line_json.specs.Outcomes.{outcome_data}

-- ---- a genesis

-- a genesis tells its supply, at height 0
abbrev pub genesis_data : Money → Data
genesis_data supply = told_at 0 (codes "genesis") ((codes "supply", coins_data supply) ∷ [])

-- what is written of a genesis
abbrev pub text_of_genesis : Money → List ℕ
text_of_genesis supply = line_of (genesis_data supply)

-- ---- a block

-- a block tells its height and its moment
abbrev pub block_data : ℕ → ℕ → Data
block_data height time = told_at height (codes "block") ((codes "time", moment_data time) ∷ [])

-- a line for each fact
abbrev pub text_of_facts : Form → ℕ → List Fact → List ℕ
text_of_facts f height facts = flat_map (λ fact. line_of (fact_data f height fact)) facts

-- a transaction's facts, then how it ended
abbrev pub text_of_tx : Form → ℕ → ℕ → TxReport → List ℕ
text_of_tx f height place tx = text_of_facts f height tx.facts ++ line_of (outcome_data height place tx.outcome)

-- the transactions from this place on
abbrev pub text_of_txs : Form → ℕ → ℕ → List TxReport → List ℕ
text_of_txs f height place [] = []
text_of_txs f height place (tx ∷ txs) = text_of_tx f height place tx ++ text_of_txs f height (place + 1) txs

-- what is written of a block: itself, what its beginning did, its transactions, what its end did
abbrev pub text_of_block : Form → BlockReport → List ℕ
text_of_block f block =
    line_of (block_data block.height block.time) ++ text_of_facts f block.height block.begun
    ++ text_of_txs f block.height 0 block.txs ++ text_of_facts f block.height block.ended
