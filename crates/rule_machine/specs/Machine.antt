-- The whole machine: transactions of all messages, blocks with votes and evidence, and runs over lists of blocks.
use Rattle.std.specs.Prelude.{ℕ, ◌+◌, ◌*◌, ◌^◌, ◌==◌, ◌||◌, Bool, nat_lt, nat_le, List, [], ◌∷◌, ◌++◌, map, sum, length, Option, Some, None, is_none, Result, Ok, Err, ⊤}
use Rattle.std.specs.List.{list_any}
use Rattle.std.specs.BTreeMap.{is_at}
use Rattle.base_types.specs.Orders.{cons_cmp}
use Rattle.base_roles.specs.declared.messages.Evidence.{Evidence}
use Rattle.base_roles.specs.declared.messages.Vote.{Vote}
use Rattle.base_roles.specs.Staked.{Staked, validator_by_cons}
use Rattle.base_roles.specs.Flow.{◌>>=◌, ◌>>◌, stop_if, stopping}
use Rattle.base_messages.specs.declared.block.Block.{Block}
use Rattle.base_messages.specs.declared.block.Tx.{Tx}
use Rattle.base_messages.specs.declared.faults.BlockFault.{BlockFault}
use Rattle.base_messages.specs.declared.faults.BlockFault.TheVariants.{UnknownVote, RepeatedVote, BadPower, BadEvidence, RatioLimit}
use Rattle.base_messages.specs.declared.message.Msg.{Msg}
use Rattle.base_messages.specs.declared.report.BlockReport.{BlockReport}
use Rattle.base_messages.specs.declared.report.Outcome.{Outcome}
use Rattle.base_messages.specs.declared.report.Outcome.TheVariants.{Accepted, FeeUnpaid, Refused}
use Rattle.base_messages.specs.declared.report.TxReport.{TxReport}
use Rattle.rule_modules.specs.Chain.{State, begin_block, end_block}
use Rattle.rule_modules.specs.Effects.{Effect, Ending, accepted, unpaid, refused_at, transaction_applied}
use Rattle.rule_modules.specs.Laws.{next_block}
use Rattle.rule_machine.specs.Blocks.{block_fault}
use Rattle.rule_machine.specs.GenesisState.{without_facts}
use Rattle.rule_machine.specs.Messages.{effect_of}

-- ---- transactions

-- how a report says that a transaction ended
abbrev pub outcome_of : Ending → Outcome
outcome_of accepted = Accepted
outcome_of unpaid = FeeUnpaid
outcome_of (refused_at place why) = Refused place why

-- a transaction's report, and the state after it
pub record TxStep : Type 0 where
  pub report : TxReport
  pub state : State

-- what an ending and a state come to
abbrev pub reported_as : Ending × State → TxStep
reported_as end = record { report = record { facts = end.1.view.facts; outcome = outcome_of end.0 }; state = end.1 }

-- A transaction of which each message has this effect: its fee, then its messages, which stand together; its facts are
-- those since its beginning (`BaseApp.runTx`).
abbrev pub tx_applied_by : (Msg → Effect) → Tx → State → TxStep
tx_applied_by effect tx w = reported_as (transaction_applied tx.payer tx.fee (map effect tx.msgs) (without_facts w))

-- the same, where messages have the effects of the rules
abbrev pub tx_applied : Tx → State → TxStep
tx_applied tx w = tx_applied_by effect_of tx w

-- the reports of transactions, and the state after them
pub record TxSteps : Type 0 where
  pub reports : List TxReport
  pub state : State

-- the transactions one after the other (`BaseApp.DeliverTx`)
abbrev pub txs_applied : List Tx → State → TxSteps
txs_applied [] w = record { reports = []; state = w }
txs_applied (tx ∷ txs) w =
    let one = tx_applied tx w in
    let rest = txs_applied txs one.state in
    record { reports = one.report ∷ rest.reports; state = rest.state }

-- ---- why a block may not follow

-- the power of votes together
abbrev pub power_of_votes : List Vote → ℕ
power_of_votes votes = sum (map (λ t. t.power) votes)

-- A vote behind others: some validator has its consensus address, no earlier vote has it, and the powers up to it stand for at
-- most 10^18 tokens (own: CometBFT gives no other votes).
abbrev pub vote_checked : Staked → ℕ → List Vote → Vote → Result ⊤ BlockFault
vote_checked s reduction before t = do
  stop_if (is_none (validator_by_cons s t.cons)) (UnknownVote (length before))
  stop_if (list_any (λ u. is_at (cons_cmp t.cons) u.cons) before) (RepeatedVote (length before))
  stop_if (nat_lt (10 ^ 18) (power_of_votes (before ++ t ∷ []) * reduction)) (BadPower (length before))

-- votes in order, behind others
abbrev pub votes_checked : Staked → ℕ → List Vote → List Vote → Result ⊤ BlockFault
votes_checked s reduction before [] = Ok tt
votes_checked s reduction before (t ∷ ts) = do
  vote_checked s reduction before t
  votes_checked s reduction (before ++ t ∷ []) ts

-- Evidence that no block may bring: of height 0, of this block's height or a later one, of a later time, or of a power
-- that stands for more than 10^18 tokens (own).
abbrev pub is_bad_evidence : Block → ℕ → Evidence → Bool
is_bad_evidence b reduction e =
    (e.height == 0) || nat_le b.height e.height || nat_lt b.time e.time || nat_lt (10 ^ 18) (e.power * reduction)

-- evidence in order, the first of it at this place
abbrev pub evidence_checked : Block → ℕ → ℕ → List Evidence → Result ⊤ BlockFault
evidence_checked b reduction place [] = Ok tt
evidence_checked b reduction place (e ∷ es) = do
  stop_if (is_bad_evidence b reduction e) (BadEvidence place)
  evidence_checked b reduction (place + 1) es

-- stops at a fault, where there is one
abbrev pub stop_at : Option BlockFault → Result ⊤ BlockFault
stop_at None = Ok tt
stop_at (Some fault) = Err fault

-- Height and time, then the votes in order, then the evidence in order, each against the state before the block (own:
-- their order).
abbrev pub block_checked : Block → State → Result ⊤ BlockFault
block_checked b w = do
  stop_at (block_fault w.view.ctx.height w.view.ctx.time b)
  votes_checked w.mine.staked w.view.ctx.params.power_reduction [] b.votes
  evidence_checked b w.view.ctx.params.power_reduction 0 b.evidence

-- ---- blocks

-- a block's report, and the state after it
pub record Step : Type 0 where
  pub report : BlockReport
  pub state : State

-- A block: its beginning, its transactions, its end, each of which tells its own facts; or the fault for which it may
-- not follow (`BaseApp`: `BeginBlock`, `DeliverTx`, `EndBlock`). A limit that is met in its beginning is the last of
-- the faults. That its end meets none is a law.
abbrev pub step : Block → State → Result Step BlockFault
step b w = do
  block_checked b w
  begun ← stopping RatioLimit (begin_block b.votes b.evidence (without_facts (next_block b.height b.time w)))
  let txs = txs_applied b.txs begun
  ended ← stopping RatioLimit (end_block (without_facts txs.state))
  Ok (record {
    report = record { height = b.height; time = b.time; begun = begun.view.facts; txs = txs.reports; ended = ended.view.facts };
    state = without_facts ended;
  })

-- ---- runs

-- the reports of blocks, the state after them, and the fault at which they end
pub record Run : Type 0 where
  pub reports : List BlockReport
  pub state : State
  pub fault : Option BlockFault

-- a block's step, then the others; or the fault, and the state before it
abbrev pub going_on : State → Result Step BlockFault → (State → Run) → Run
going_on w (Ok s) rest = record (rest s.state) { reports = s.report ∷ (rest s.state).reports }
going_on w (Err fault) rest = record { reports = []; state = w; fault = Some fault }

-- the blocks one after the other, up to the first that has a fault
abbrev pub run_of : List Block → State → Run
run_of [] w = record { reports = []; state = w; fault = None }
run_of (b ∷ blocks) w = going_on w (step b w) (λ u. run_of blocks u)
