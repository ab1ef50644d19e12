-- To whom the payments of rewards go that the blocks of a run tell: to the payees of the moment. And that each reward that is asked
-- for is told.
use Rattle.std.specs.Prelude.{◌≡◌, ℕ, List, [], ◌∷◌, ◌++◌, All, Contains, IfOk, Ok}
use Rattle.base_coins.specs.Coins.{Money}
use Rattle.base_roles.specs.declared.facts.Fact.{Fact}
use Rattle.base_roles.specs.declared.facts.Fact.TheVariants as fact
use Rattle.rule_modules.specs.Chain.{State, shared_in}
use Rattle.rule_modules.specs.Distribution.{payee_of}
use Rattle.rule_modules.specs.Effects.{fee_paid}
use Rattle.base_messages.specs.declared.block.Block.{Block}
use Rattle.base_messages.specs.declared.block.Tx.{Tx}
use Rattle.base_messages.specs.declared.message.Msg.{Msg}
use Rattle.base_messages.specs.declared.message.Msg.TheVariants as msg
use Rattle.base_messages.specs.declared.message.WithdrawReward.{WithdrawReward}
use Rattle.base_messages.specs.declared.report.Outcome.TheVariants.{Accepted}
use Rattle.rule_machine.specs.GenesisState.{without_facts}
use Rattle.rule_machine.specs.Machine.{Step, step, tx_applied, txs_applied}
use Rattle.rule_machine.specs.Messages.{effect_of}
use Rattle.rule_machine.specs.Promises.{AreCarriedOut, Replayed}
use Rattle.law_soundness.specs.Kept.{InTurn, begun_by}

-- A payment of a reward goes to the withdraw address that the delegator has in a state, which is its
-- own where it named none.
abbrev pub IsToPayee : State → Fact → Type 0
IsToPayee w (fact.Paid who operator to reward coins) = to ≡ payee_of (shared_in w) who
IsToPayee w _ = Unit {0}

-- A message of a transaction tells a payment: the fee was paid, the messages before it were carried
-- out, and from the state that these led to it was, too; the payment is among the facts that it added,
-- and goes to the payee of the state before it.
pub record IsToldByMessage (tx : Tx) (w : State) (f : Fact) : Type 0 where
  pub paid : State
  pub fee : fee_paid tx.payer tx.fee (without_facts w) ≡ Ok paid
  pub before : List Msg
  pub message : Msg
  pub after : List Msg
  pub messages_are : tx.msgs ≡ before ++ message ∷ after
  pub middle : State
  pub carried_out : AreCarriedOut effect_of before paid middle
  pub next : State
  pub effect : effect_of message middle ≡ Ok next
  pub told : List Fact
  pub facts_are : next.view.facts ≡ middle.view.facts ++ told
  pub among : Contains told f
  pub payee : IsToPayee middle f

-- so it is with each payment of a reward that the report of a transaction tells
abbrev pub TxPaysPayees : Tx → State → Type 0
TxPaysPayees tx w =
    (who operator to : List ℕ) (reward coins : Money)
    → Contains (tx_applied tx w).report.facts (fact.Paid who operator to reward coins)
    → IsToldByMessage tx w (fact.Paid who operator to reward coins)

-- What a message tells that was carried out, where it asks for a reward: a payment of it, to the payee of the state before.
abbrev pub TellsReward : Msg → State → List Fact → Type 0
TellsReward (msg.WithdrawReward m) w told =
    (reward : Money) × (coins : Money)
    × Contains told (fact.Paid m.delegator m.validator (payee_of (shared_in w) m.delegator) reward coins)
TellsReward _ w told = Unit {0}

-- A message was carried out: it added facts, and where it asks for a reward a payment of it is among them.
pub record TellsItsPart (m : Msg) (w next : State) : Type 0 where
  pub told : List Fact
  pub facts_are : next.view.facts ≡ w.view.facts ++ told
  pub reward : TellsReward m w told

-- messages were carried out one after another, and each told its part
abbrev pub TellInTurn : List Msg → State → State → Type 0
TellInTurn [] w end = end ≡ w
TellInTurn (m ∷ ms) w end = (next : State) × (effect_of m w ≡ Ok next) × TellsItsPart m w next × TellInTurn ms next end

-- The report of a transaction whose messages were all carried out tells what the fee and then each message told. So for each
-- message that asks for a reward, and each time that one is asked for, there is a payment of it.
pub record TellsAll (tx : Tx) (w : State) : Type 0 where
  pub paid : State
  pub fee : fee_paid tx.payer tx.fee (without_facts w) ≡ Ok paid
  pub messages : TellInTurn tx.msgs paid (tx_applied tx w).state
  pub facts_are : (tx_applied tx w).report.facts ≡ (tx_applied tx w).state.view.facts

abbrev pub TxTellsRewards : Tx → State → Type 0
TxTellsRewards tx w = (tx_applied tx w).report.outcome ≡ Accepted → TellsAll tx w

-- What a block tells of payments of rewards. Those of its beginning, as in slashes through
-- redelegations, go to the payees at the end of the block before; those of each transaction to the
-- payees of the state before the message that tells them; and those of its end to the payees behind
-- the last transaction. And each reward that a transaction asked for is told.
pub record BlockPaysPayees (b : Block) (w : State) (s : Step) : Type 0 where
  pub begun : State
  pub begins : begun_by b w ≡ Ok begun
  pub parts : (s.report.height ≡ b.height) × (s.report.begun ≡ begun.view.facts) × (s.report.txs ≡ (txs_applied b.txs begun).reports)
  pub first : All (IsToPayee w) s.report.begun
  pub txs : InTurn TxPaysPayees b.txs begun
  pub asked : InTurn TxTellsRewards b.txs begun
  pub last : All (IsToPayee (txs_applied b.txs begun).state) s.report.ended

-- so does each block of a run that may follow, from the state that the blocks before it led to
abbrev pub RunPaysPayees : List Block → State → Type 0
RunPaysPayees [] w = Unit {0}
RunPaysPayees (b ∷ blocks) w =
    IfOk (step b w) (λ s. BlockPaysPayees b w s × RunPaysPayees blocks s.state)

-- Wherever a good genesis and blocks lead to, each payment of a reward goes to the payee of the moment, and each reward that is
-- asked for, by a message that is carried out, is told as a payment.
abbrev pub PayeesAreOfTheMoment : Type 0
PayeesAreOfTheMoment = (r : Replayed) → RunPaysPayees r.blocks r.start.state

-- ---- what tells no payment

-- A message that asks for a reward and changes nothing tells no payment of it: a machine whose withdrawals do nothing is not one of
-- which this is said.
abbrev pub NothingTellsNoReward : Type 0
NothingTellsNoReward = (m : WithdrawReward) (w : State) → TellsItsPart (msg.WithdrawReward m) w w → ⊥
