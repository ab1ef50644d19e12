-- What the whole machine keeps, whatever the input. All of it is proved: here, in `law_soundness` or in `law_runs`.
use Rattle.std.specs.Prelude.{◌≡◌, ℕ, ◌+◌, ◌^◌, ◌<◌, Bool, true, false, List, [], ◌∷◌, ◌++◌, length, map, sum, All, None, Some, IsOkAnd, Ok, Err}
use Rattle.base_coins.specs.Coins.{IsMoney}
use Rattle.base_roles.specs.declared.entities.Validator.{Validator}
use Rattle.base_roles.specs.declared.facts.Fact.{Fact}
use Rattle.base_roles.specs.declared.refusal.Refusal.{Refusal}
use Rattle.base_roles.specs.declared.refusal.Refusal.TheVariants as refused
use Rattle.base_roles.specs.Holdings.{supply_of}
use Rattle.base_roles.specs.Staked.{validator_at}
use Rattle.base_messages.specs.declared.block.Block.{Block}
use Rattle.base_messages.specs.declared.block.Tx.{Tx}
use Rattle.base_messages.specs.declared.genesis.Genesis.{Genesis}
use Rattle.base_messages.specs.declared.message.Msg.{Msg}
use Rattle.base_messages.specs.declared.message.Msg.TheVariants as msg
use Rattle.base_messages.specs.declared.report.BlockReport.{BlockReport}
use Rattle.base_messages.specs.declared.report.Outcome.{Outcome}
use Rattle.base_messages.specs.declared.report.Outcome.TheVariants.{Accepted, FeeUnpaid, Refused}
use Rattle.base_messages.specs.declared.report.TxReport.{TxReport}
use Rattle.rule_modules.specs.Chain.{State}
use Rattle.rule_modules.specs.Conditions.{first_of}
use Rattle.rule_modules.specs.Effects.{Effect, fee_paid}
use Rattle.rule_modules.specs.Laws.{IsBracketed, HasShortfallWithin, burned_in}
use Rattle.rule_modules.specs.Owed.{HoldsWhatIsOwed}
use Rattle.rule_modules.specs.RefusalOrder.{refusal_of, IsRefusedBy}
use Rattle.rule_modules.specs.Sound.{IsSound}
use Rattle.rule_machine.specs.GenesisConditions.{start_condition}
use Rattle.rule_machine.specs.GenesisState.{Start, chain_started, without_facts}
use Rattle.rule_machine.specs.Machine.{Run, run_of, tx_applied_by}
use Rattle.rule_machine.specs.Messages.{effect_of, against}

-- ---- how transactions end

module _ (effect : Msg → Effect) where
  -- the messages were carried out by these effects, one after the other
  abbrev pub AreCarriedOut : List Msg → State → State → Type 0
  AreCarriedOut [] w end = end ≡ w
  AreCarriedOut (m ∷ ms) w end = (next : State) × (effect m w ≡ Ok next) × AreCarriedOut ms next end

  -- From what the fee left, the messages before this place were carried out, and the one there was refused so.
  pub record IsStoppedAt (place : ℕ) (why : Refusal) (msgs : List Msg) (paid : State) : Type 0 where
    pub before : List Msg
    pub message : Msg
    pub after : List Msg
    pub middle : State
    pub messages_are : msgs ≡ before ++ message ∷ after
    pub place_is : place ≡ length before
    pub carried_out : AreCarriedOut before paid middle
    pub refused : effect message middle ≡ Err why

  -- How a transaction may end, from a state, with these facts, and what state then is:
  abbrev pub EndsSo : Tx → State → Outcome → List Fact → State → Type 0
  -- the fee moved, and all messages were carried out;
  EndsSo tx w Accepted facts end =
      (paid : State) × (fee_paid tx.payer tx.fee (without_facts w) ≡ Ok paid) × AreCarriedOut tx.msgs paid end × (facts ≡ end.view.facts)
  -- the payer was short of the fee, and nothing changed;
  EndsSo tx w FeeUnpaid facts end = (fee_paid tx.payer tx.fee (without_facts w) ≡ Err refused.FeeUnpaid) × (end ≡ without_facts w) × (facts ≡ [])
  -- the fee moved, a message was refused, and nothing else changed or is told.
  EndsSo tx w (Refused place why) facts end =
      (paid : State) × (fee_paid tx.payer tx.fee (without_facts w) ≡ Ok paid) × IsStoppedAt place why tx.msgs paid × (end ≡ paid) × (facts ≡ paid.view.facts)

  -- Each transaction whose messages have these effects ends in one of these ways.
  abbrev pub TransactionsEndBy : Type 0
  TransactionsEndBy = (tx : Tx) (w : State) → let end = tx_applied_by effect tx w in EndsSo tx w end.report.outcome end.report.facts end.state

-- Each transaction ends in one of these ways.
abbrev pub AllTransactionsEnd : Type 0
AllTransactionsEnd = TransactionsEndBy effect_of

-- ---- what a genesis and blocks lead to

-- the coins of a message are a list of coins, as their type keeps them
abbrev pub MessageHasCoins : Msg → Type 0
MessageHasCoins (msg.Send m) = IsMoney m.coins
MessageHasCoins (msg.FundCommunityPool m) = IsMoney m.coins
MessageHasCoins (msg.CommunityPoolSpend m) = IsMoney m.coins
MessageHasCoins _ = Unit {0}

-- the same of a fee and all messages
pub record TxHasCoins (tx : Tx) : Type 0 where
  pub fee : IsMoney tx.fee
  pub messages : All MessageHasCoins tx.msgs

-- a genesis that no condition holds of, and that has no more delegations than a list of a program can have
pub record IsGoodGenesis (g : Genesis) : Type 0 where
  pub no_condition : start_condition g ≡ None
  pub few : length g.delegations < 10 ^ 18

-- blocks of coins as their types keep them, and no more than there are heights
pub record AreInput (blocks : List Block) : Type 0 where
  pub coins : All (λ b. All TxHasCoins b.txs) blocks
  pub few : length blocks < 2 ^ 63

-- A good genesis, blocks, and the run of them, up to the first that may not follow.
pub record Replayed : Type 0 where
  pub genesis : Genesis
  pub good : IsGoodGenesis genesis
  pub start : Start
  pub started : chain_started genesis ≡ Ok start
  pub blocks : List Block
  pub input : AreInput blocks

-- the run of what is replayed
abbrev pub run_in : Replayed → Run
run_in r = run_of r.blocks r.start.state

-- A good genesis starts a chain, whose state is sound. Proved: `genesis_is_sound` of `law_soundness`.
abbrev pub GenesisIsSound : Type 0
GenesisIsSound = (g : Genesis) → IsGoodGenesis g → IsOkAnd (chain_started g) (λ s. IsSound s.state)

-- Wherever blocks lead to, the state is sound. Proved: `runs_are_sound` of `law_soundness`.
abbrev pub RunsAreSound : Type 0
RunsAreSound = (r : Replayed) → IsSound (run_in r).state

-- After the genesis and after each block the three accounts hold what they owe. Proved: `accounts_hold_what_is_owed` of
-- `law_soundness`.
abbrev pub AccountsHoldWhatIsOwed : Type 0
AccountsHoldWhatIsOwed = (r : Replayed) → HoldsWhatIsOwed r.start.state × HoldsWhatIsOwed (run_in r).state

-- the facts of a block, in the order in which they are told
abbrev pub facts_of : BlockReport → List Fact
facts_of b = b.begun ++ told_in b.txs ++ b.ended
  where
    told_in : List TxReport → List Fact
    told_in [] = []
    told_in (t ∷ ts) = t.facts ++ told_in ts

-- Of each denomination, what is there and what blocks say was burned come to what was there at the genesis. Proved:
-- `supplies_fall_by_burns` of `law_soundness`.
abbrev pub SuppliesFallByBurns : Type 0
SuppliesFallByBurns = (r : Replayed) (d : List ℕ)
    → supply_of (run_in r).state.view.bank d + sum (map (λ b. burned_in d (facts_of b)) (run_in r).reports) ≡ supply_of r.start.state.view.bank d

-- A message of these kinds is refused so in every state.
abbrev pub is_plain : Msg → Bool
is_plain (msg.Send m) = true
is_plain (msg.EditValidator m) = true
is_plain (msg.Unjail m) = true
is_plain (msg.WithdrawCommission m) = true
is_plain (msg.SetWithdrawAddress m) = true
is_plain (msg.CommunityPoolSpend m) = true
is_plain (msg.UpdateParams m) = true
is_plain _ = false

-- Proved: seven kinds of messages are refused by the first of their conditions that holds, and accepted where none does,
-- in every state.
abbrev pub PlainMessagesNameConditions : Type 0
PlainMessagesNameConditions = (m : Msg) (w : State) → is_plain m ≡ true → refusal_of (effect_of m) w ≡ first_of (against m w)

-- Every message is refused by the first of its conditions that holds of a sound state, and accepted where none does. Proved:
-- `messages_name_conditions` of `law_soundness`.
abbrev pub MessagesNameConditions : Type 0
MessagesNameConditions = (m : Msg) → MessageHasCoins m → IsRefusedBy (effect_of m) (against m)

-- Wherever blocks lead to, the reward that a withdrawal of a delegation would come to lies between the ideal one less the
-- slack and the ideal one. Proved: `claims_are_bracketed` of `law_runs`.
abbrev pub ClaimsAreBracketed : Type 0
ClaimsAreBracketed = (r : Replayed) → IsBracketed (run_in r).state

-- And what is outstanding for a validator lies below all claims by at most the overclaim. Proved: `shortfalls_are_bounded` of
-- `law_runs`.
abbrev pub ShortfallsAreBounded : Type 0
ShortfallsAreBounded = (r : Replayed) (d : List ℕ) (v : Validator) → validator_at (run_in r).state.mine.staked v.operator ≡ Some v → HasShortfallWithin d (run_in r).state v
