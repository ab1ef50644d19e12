-- How blocks are answered, and how messages are judged, along runs.
use Rattle.std.specs.Prelude.{◌⊎◌, Result, Ok, Err, Some, None, List, [], ◌∷◌, ℕ, ◌≡◌, true}
use Rattle.base_decimals.specs.declared.over.Over.{Over}
use Rattle.base_roles.specs.declared.facts.Fact.{Fact}
use Rattle.base_roles.specs.declared.refusal.Refusal.{Refusal}
use Rattle.base_roles.specs.declared.refusal.Refusal.TheVariants as refused
use Rattle.rule_modules.specs.Chain.{State, begin_block}
use Rattle.rule_modules.specs.Conditions.{first_of, has_most_unbondings}
use Rattle.rule_modules.specs.Effects.{fee_paid}
use Rattle.rule_modules.specs.Laws.{next_block}
use Rattle.rule_modules.specs.Sound.{IsSound}
use Rattle.base_messages.specs.declared.block.Block.{Block}
use Rattle.base_messages.specs.declared.block.Tx.{Tx}
use Rattle.base_messages.specs.declared.faults.BlockFault.{BlockFault}
use Rattle.base_messages.specs.declared.faults.BlockFault.TheVariants.{RatioLimit}
use Rattle.base_messages.specs.declared.message.Msg.{Msg}
use Rattle.base_messages.specs.declared.message.Msg.TheVariants as msg
use Rattle.base_messages.specs.declared.message.Undelegate.{Undelegate}
use Rattle.base_messages.specs.declared.report.Outcome.{Outcome}
use Rattle.base_messages.specs.declared.report.Outcome.TheVariants.{Accepted, FeeUnpaid, Refused}
use Rattle.rule_machine.specs.GenesisState.{without_facts}
use Rattle.rule_machine.specs.Machine.{Step, block_checked, step, tx_applied}
use Rattle.rule_machine.specs.Messages.{against, effect_of}
use Rattle.rule_machine.specs.Promises.{IsStoppedAt, Replayed}

-- ---- blocks

-- the state after a block's beginning, or the limit that it met
abbrev pub begun_by : Block → State → Result State Over
begun_by b w = begin_block b.votes b.evidence (without_facts (next_block b.height b.time w))

-- no condition against a block held, and its beginning met no limit
pub record IsBegun (b : Block) (w : State) : Type 0 where
  pub checked : block_checked b w ≡ Ok tt
  pub begun : State
  pub begins : begun_by b w ≡ Ok begun

-- no condition against it held, and its beginning met this limit
pub record IsLimit (b : Block) (w : State) (fault : BlockFault) : Type 0 where
  pub checked : block_checked b w ≡ Ok tt
  pub over : Over
  pub fault_is : fault ≡ RatioLimit over
  pub begun : begun_by b w ≡ Err over

-- what a block's answer says of it
abbrev pub BlockIsAnswered : Block → State → Result Step BlockFault → Type 0
BlockIsAnswered b w (Ok s) = IsBegun b w
BlockIsAnswered b w (Err fault) = (block_checked b w ≡ Err fault) ⊎ IsLimit b w fault

-- each block is answered so, up to the first that may not follow
abbrev pub AnsweredAlong : List Block → State → Type 0
AnsweredAlong [] w = Unit {0}
AnsweredAlong (b ∷ blocks) w = BlockIsAnswered b w (step b w) × ((s : Step) → step b w ≡ Ok s → AnsweredAlong blocks s.state)

-- Wherever blocks lead to from a good genesis, each is answered so.
abbrev pub RunsAreAnswered : Type 0
RunsAreAnswered = (r : Replayed) → AnsweredAlong r.blocks r.start.state

-- ---- messages in a run

-- A message may be carried out: the state that it meets is sound, and none of its conditions holds of it.
pub record IsAllowed (m : Msg) (w : State) : Type 0 where
  pub sound : IsSound w
  pub none_holds : first_of (against m w) ≡ None

-- Messages were carried out one after another, each where it may be.
abbrev pub AreAllowed : List Msg → State → State → Type 0
AreAllowed [] w end = end ≡ w
AreAllowed (m ∷ ms) w end = (next : State) × (effect_of m w ≡ Ok next) × IsAllowed m w × AreAllowed ms next end

-- A message was refused at its place: those before it were carried out where they may be, and it was refused by the first
-- of its conditions that holds of the state before it, which is sound.
pub record IsNamedAt (place : ℕ) (why : Refusal) (msgs : List Msg) (paid : State) : Type 0 where
  pub stopped : IsStoppedAt effect_of place why msgs paid
  pub allowed : AreAllowed stopped.before paid stopped.middle
  pub sound : IsSound stopped.middle
  pub named : first_of (against stopped.message stopped.middle) ≡ Some why

-- How a transaction that ended so was judged, from a state, with these facts, and what state then is:
abbrev pub IsJudged : Tx → State → Outcome → List Fact → State → Type 0
-- the fee moved, and all messages were carried out, each where it may be;
IsJudged tx w Accepted facts end =
    (paid : State) × (fee_paid tx.payer tx.fee (without_facts w) ≡ Ok paid) × AreAllowed tx.msgs paid end × (facts ≡ end.view.facts)
-- the payer was short of the fee, and nothing changed;
IsJudged tx w FeeUnpaid facts end =
    (fee_paid tx.payer tx.fee (without_facts w) ≡ Err refused.FeeUnpaid) × (end ≡ without_facts w) × (facts ≡ [])
-- the fee moved, a message was refused as said, and nothing else changed or is told.
IsJudged tx w (Refused place why) facts end =
    (paid : State) × (fee_paid tx.payer tx.fee (without_facts w) ≡ Ok paid) × IsNamedAt place why tx.msgs paid × (end ≡ paid) × (facts ≡ paid.view.facts)

-- so it is with a transaction from a state
abbrev pub TxIsJudged : Tx → State → Type 0
TxIsJudged tx w = let end = tx_applied tx w in IsJudged tx w end.report.outcome end.report.facts end.state

-- of transactions in turn, each with the state before it
abbrev pub InTurn : (Tx → State → Type 0) → List Tx → State → Type 0
InTurn Q [] w = Unit {0}
InTurn Q (tx ∷ txs) w = Q tx w × InTurn Q txs (tx_applied tx w).state

-- of all transactions of blocks, up to the first block that may not follow
abbrev pub InBlocks : (Tx → State → Type 0) → List Block → State → Type 0
InBlocks Q [] w = Unit {0}
InBlocks Q (b ∷ blocks) w = (s : Step) → step b w ≡ Ok s → ((begun : State) → begun_by b w ≡ Ok begun → InTurn Q b.txs begun) × InBlocks Q blocks s.state

-- Wherever blocks lead to from a good genesis, each message that is carried out met a sound state of which none of its
-- conditions held, and each that is refused is by the first of its conditions that held.
abbrev pub RefusalsAreNamed : Type 0
RefusalsAreNamed = (r : Replayed) → InBlocks TxIsJudged r.blocks r.start.state

-- ---- what is never allowed

-- Where the entries of a delegator and a validator are the most already, no undelegation of it may be carried out, so none
-- was: a machine that makes no test of the most entries is not one of which this is said.
abbrev pub FullListsTakeNoMore : Type 0
FullListsTakeNoMore =
    (m : Undelegate) (w : State) → has_most_unbondings m.delegator m.validator w ≡ true → IsAllowed (msg.Undelegate m) w → ⊥
