-- The block that a line spells.
use Rattle.std.specs.Prelude.{ℕ, List, [], ◌∷◌, codes, Result, Ok}
use Rattle.serde_json.specs.Data.{Data}
use Rattle.base_bech32.specs.declared.form.Form.{Form}
use Rattle.base_coins.specs.Steps.{◌>>=◌}
use Rattle.base_roles.specs.declared.messages.Vote.{Vote}
use Rattle.base_roles.specs.declared.messages.Evidence.{Evidence}
use Rattle.base_messages.specs.declared.faults.LineFault.{LineFault}
use Rattle.base_messages.specs.declared.block.Tx.{Tx}
use Rattle.base_messages.specs.declared.block.Block.{Block}
use Rattle.line_json.specs.Reading.{tree_of}
use Rattle.line_json.specs.Members.{word_at, number_at, moment_at, user_at, cons_at, flag_at, only_named}
use Rattle.line_json.specs.Nested.{list_at}
use Rattle.line_json.specs.Coin.{coins_at}
use Rattle.line_json.specs.Messages.{message_of}

-- a vote on the last block
unfoldable pub vote_of : Form → Data → Result Vote LineFault
vote_of f d = do
  cons ← cons_at f 70 (codes "cons") d
  power ← number_at 71 (codes "power") d
  signed ← flag_at 72 (codes "signed") d
  only ← only_named (codes "cons" ∷ codes "power" ∷ codes "signed" ∷ []) d
  Ok (record { cons = cons; power = power; signed = signed })

-- evidence against a validator
unfoldable pub evidence_of : Form → Data → Result Evidence LineFault
evidence_of f d = do
  cons ← cons_at f 73 (codes "cons") d
  height ← number_at 74 (codes "height") d
  time ← moment_at 75 (codes "time") d
  power ← number_at 76 (codes "power") d
  only ← only_named (codes "cons" ∷ codes "height" ∷ codes "time" ∷ codes "power" ∷ []) d
  Ok (record { cons = cons; height = height; time = time; power = power })

-- a transaction
unfoldable pub tx_of : Form → Data → Result Tx LineFault
tx_of f d = do
  payer ← user_at f 80 (codes "payer") d
  fee ← coins_at 81 (codes "fee") d
  msgs ← list_at (message_of f) 82 (codes "msgs") d
  only ← only_named (codes "payer" ∷ codes "fee" ∷ codes "msgs" ∷ []) d
  Ok (record { payer = payer; fee = fee; msgs = msgs })

-- the block of a tree
unfoldable pub block_of_tree : Form → Data → Result Block LineFault
block_of_tree f d = do
  kind ← word_at 60 (codes "kind") (codes "block") d
  height ← number_at 61 (codes "height") d
  time ← moment_at 62 (codes "time") d
  votes ← list_at (vote_of f) 63 (codes "votes") d
  evidence ← list_at (evidence_of f) 64 (codes "evidence") d
  txs ← list_at (tx_of f) 65 (codes "txs") d
  only ← only_named (
      codes "kind" ∷ codes "height" ∷ codes "time" ∷ codes "votes" ∷ codes "evidence" ∷ codes "txs" ∷ []) d
  Ok (record { height = height; time = time; votes = votes; evidence = evidence; txs = txs })

-- the block that the line spells, or the first fault of it
unfoldable pub block_of : Form → List ℕ → Result Block LineFault
block_of f line = tree_of line >>= block_of_tree f
