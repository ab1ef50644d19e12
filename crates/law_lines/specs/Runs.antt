-- What the lines of a replay say, to a reader who has the text alone: what was burned, and which rewards were paid, to whom.
use Rattle.std.specs.Prelude.{◌≡◌, ◌⊎◌, ℕ, ◌+◌, List, [], ◌∷◌, ◌++◌, All, Contains, Ok}
use Rattle.std.specs.List.{flat_map}
use Rattle.base_bech32.specs.declared.form.Form.{Form}
use Rattle.base_coins.specs.Coins.{Money}
use Rattle.base_roles.specs.declared.facts.Fact.{Fact}
use Rattle.base_roles.specs.declared.facts.Fact.TheVariants as fact
use Rattle.base_roles.specs.Holdings.{supply_of}
use Rattle.base_roles.specs.Log.{Log}
use Rattle.base_messages.specs.declared.block.Block.{Block}
use Rattle.base_messages.specs.declared.block.Tx.{Tx}
use Rattle.rule_modules.specs.Chain.{State}
use Rattle.rule_modules.specs.Laws.{burned_in}
use Rattle.rule_machine.specs.Machine.{Step, step, tx_applied, txs_applied}
use Rattle.rule_machine.specs.Promises.{Replayed, run_in}
use Rattle.law_soundness.specs.Kept.{begun_by}
use Rattle.law_rewards.specs.Payments.{IsFairlyTold}
use Rattle.law_runs.specs.Payees.{IsToPayee, IsToldByMessage}
use Rattle.line_json.specs.Written.{text_of_block, text_of_genesis}
use Rattle.law_lines.specs.Laws.{facts_told}
use Rattle.law_lines.specs.Ranges.{IsReport}
use Rattle.law_lines.specs.Reading.{facts_in}

-- the text of a replay: what is written of its genesis, then of its blocks, one after another
abbrev pub text_of_run : Form → Replayed → List ℕ
text_of_run f r = text_of_genesis r.start.state.view.bank.supplies ++ flat_map (text_of_block f) (run_in r).reports

-- ---- how much was paid

-- A payment that is told behind these facts is that of a withdrawal that the replay logged, as a reader of the facts has it: fair
-- by the log up to it, sent right before, and close to the ideal reward.
pub record IsFairlyWritten (r : Replayed) (before : List Fact) (who operator to : List ℕ) (reward coins : Money) : Type 0 where
  pub more : Log
  pub log_is : (run_in r).state.log ≡ r.start.state.log ++ more
  pub told : IsFairlyTold r.start.state.log more before who operator to reward coins

-- ---- to whom

-- a fact was told by one of these transactions, and goes to the payee of the state before the message that told it
abbrev pub IsToldInTurn : Fact → List Tx → State → Type 0
IsToldInTurn f [] w = ⊥
IsToldInTurn f (tx ∷ txs) w = IsToldByMessage tx w f ⊎ IsToldInTurn f txs (tx_applied tx w).state

-- A fact was told by the beginning of a block, and goes to the payee at the end of the block before; or by one of its transactions;
-- or by its end, and goes to the payee after the last transaction.
pub record IsToldByBlock (f : Fact) (b : Block) (w : State) : Type 0 where
  pub begun : State
  pub begins : begun_by b w ≡ Ok begun
  pub part : (Contains begun.view.facts f × IsToPayee w f)
      ⊎ (IsToldInTurn f b.txs begun ⊎ IsToPayee (txs_applied b.txs begun).state f)

-- a fact was told so by the block of this height
abbrev pub IsToldAlong : ℕ → Fact → List Block → State → Type 0
IsToldAlong height f [] w = ⊥
IsToldAlong height f (b ∷ blocks) w =
    (s : Step) × (step b w ≡ Ok s) × (((height ≡ b.height) × IsToldByBlock f b w) ⊎ IsToldAlong height f blocks s.state)

-- ---- what lines say

-- The lines of a replay. Of each denomination, what is there at the end and what the lines of burns say come to what was there at
-- the genesis. Each line of a payment is that of a fair withdrawal, behind the lines before it. And it goes to the payee of the
-- moment in the block of its height.
pub record LinesTell (f : Form) (r : Replayed) : Type 0 where
  pub supplies : (d : List ℕ) → supply_of (run_in r).state.view.bank d + burned_in d (facts_told f (text_of_run f r))
      ≡ supply_of r.start.state.view.bank d
  pub payments : (before after : List Fact) (who operator to : List ℕ) (reward coins : Money)
      → facts_told f (text_of_run f r) ≡ before ++ fact.Paid who operator to reward coins ∷ after
      → IsFairlyWritten r before who operator to reward coins
  pub payees : (height : ℕ) (who operator to : List ℕ) (reward coins : Money)
      → Contains (facts_in f (text_of_run f r)) (height, fact.Paid who operator to reward coins)
      → IsToldAlong height (fact.Paid who operator to reward coins) r.blocks r.start.state

-- So it is with each replay whose reports lie in the ranges that the types of values give.
abbrev pub RunsAreWritten : Type 0
RunsAreWritten = (f : Form) (r : Replayed) → All IsReport (run_in r).reports → LinesTell f r
