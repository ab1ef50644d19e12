-- Laws of steps: each keeps a sound state sound, lowers supplies by its burns, and names the condition of a refusal.
use Rattle.std.specs.Prelude.{All, List, length, map, sum, ℕ, IfOk, ◌≡◌, ◌+◌, ◌<◌, ◌≤◌, ◌^◌}
use Rattle.base_types.specs.declared.account.Account.{Account}
use Rattle.base_coins.specs.declared.coin.Coin.{Coin}
use Rattle.base_coins.specs.Coins.{Money, IsMoney}
use Rattle.base_roles.specs.declared.messages.CreateValidator.{CreateValidator}
use Rattle.base_roles.specs.declared.messages.EditValidator.{EditValidator}
use Rattle.base_roles.specs.declared.messages.Evidence.{Evidence}
use Rattle.base_roles.specs.declared.messages.Vote.{Vote}
use Rattle.base_roles.specs.declared.params.Params.{Params}
use Rattle.base_roles.specs.Ground.{end_of_blocks}
use Rattle.base_roles.specs.Holdings.{supply_of}
use Rattle.rule_modules.specs.Chain.{State, vote_step, evidence_step, allocation_step, set_step, maturing_step, unbondings_step, redelegations_step}
use Rattle.rule_modules.specs.Effects.{send, begin_redelegate, undelegate, cancel_unbonding, create_validator, delegate, withdraw_reward, edit_validator, unjail, withdraw_commission, set_withdraw_address, fund_community_pool, community_pool_spend, fee_paid}
use Rattle.rule_modules.specs.Laws.{next_block, burned_in}
use Rattle.rule_modules.specs.StepLaws.{KeptByStep, AreWhole, AreVotes, IsPower, CountsBelow}
use Rattle.rule_modules.specs.Parameters.{update_params}
use Rattle.rule_modules.specs.RefusalOrder.{IsRefusedBy, against_cancel, against_create, against_delegate, against_fund, against_redelegate, against_reward, against_undelegate}
use Rattle.rule_modules.specs.Sound.{IsSound}
use Rattle.base_messages.specs.declared.block.Block.{Block}
use Rattle.base_messages.specs.declared.block.Tx.{Tx}
use Rattle.base_messages.specs.declared.message.Msg.{Msg}
use Rattle.rule_machine.specs.Machine.{step, tx_applied, run_of}
use Rattle.rule_machine.specs.Messages.{effect_of}
use Rattle.rule_machine.specs.Promises.{MessageHasCoins, TxHasCoins, AreInput, facts_of}
use Rattle.law_soundness.specs.Kept.{BlockIsAnswered, InBlocks, TxIsJudged}

-- the state after a step is sound
abbrev pub IsSoundAfter : State → State → Type 0
IsSoundAfter old new = IsSound new

-- fees
abbrev pub FeesKeepSoundness : Type 0
FeesKeepSoundness = (payer : List ℕ) (fee : Money) → IsMoney fee → KeptByStep IsSoundAfter (fee_paid payer fee)

-- sends
abbrev pub SendsKeepSoundness : Type 0
SendsKeepSoundness = (from : List ℕ) (to : Account) (coins : Money) → IsMoney coins → KeptByStep IsSoundAfter (send from to coins)

-- payees
abbrev pub PayeesKeepSoundness : Type 0
PayeesKeepSoundness = (who : List ℕ) (to : Account) → KeptByStep IsSoundAfter (set_withdraw_address who to)

-- coins that join and leave the community pool
abbrev pub FundingKeepsSoundness : Type 0
FundingKeepsSoundness = (who : List ℕ) (coins : Money) → IsMoney coins → KeptByStep IsSoundAfter (fund_community_pool who coins)

abbrev pub SpendingKeepsSoundness : Type 0
SpendingKeepsSoundness = (authority : List ℕ) (to : Account) (coins : Money) → IsMoney coins → KeptByStep IsSoundAfter (community_pool_spend authority to coins)

-- replacing the parameters
abbrev pub UpdatingKeepsSoundness : Type 0
UpdatingKeepsSoundness = (authority : List ℕ) (p : Params) → KeptByStep IsSoundAfter (update_params authority p)

-- commission
abbrev pub CommissionsKeepSoundness : Type 0
CommissionsKeepSoundness = (operator : List ℕ) → KeptByStep IsSoundAfter (withdraw_commission operator)

-- edits of a validator, and leaving jail
abbrev pub EditsKeepSoundness : Type 0
EditsKeepSoundness = (m : EditValidator) → KeptByStep IsSoundAfter (edit_validator m)

abbrev pub UnjailingKeepsSoundness : Type 0
UnjailingKeepsSoundness = (operator : List ℕ) → KeptByStep IsSoundAfter (unjail operator)

-- withdrawing a reward
abbrev pub RewardsKeepSoundness : Type 0
RewardsKeepSoundness = (who operator : List ℕ) → KeptByStep IsSoundAfter (withdraw_reward who operator)

-- delegating
abbrev pub DelegatingKeepsSoundness : Type 0
DelegatingKeepsSoundness = (who operator : List ℕ) (coin : Coin) → KeptByStep IsSoundAfter (delegate who operator coin)

-- creating a validator
abbrev pub CreatingKeepsSoundness : Type 0
CreatingKeepsSoundness = (m : CreateValidator) → KeptByStep IsSoundAfter (create_validator m)

-- undelegating, where no entry of this height lost anything, and cancelling
abbrev pub UndelegatingKeepsSoundness : Type 0
UndelegatingKeepsSoundness = (who operator : List ℕ) (coin : Coin) (w : State) → IsSound w → AreWhole w → IfOk (undelegate who operator coin w) (IsSoundAfter w)

abbrev pub CancellingKeepsSoundness : Type 0
CancellingKeepsSoundness = (who operator : List ℕ) (coin : Coin) (height : ℕ) → KeptByStep IsSoundAfter (cancel_unbonding who operator coin height)

-- redelegating
abbrev pub RedelegatingKeepsSoundness : Type 0
RedelegatingKeepsSoundness = (who source target : List ℕ) (coin : Coin) → KeptByStep IsSoundAfter (begin_redelegate who source target coin)

-- the next block, which is later and not before its time
abbrev pub NextBlockKeepsSoundness : Type 0
NextBlockKeepsSoundness = (height time : ℕ) (w : State) → IsSound w → w.view.ctx.height < height → height < 2 ^ 63 → w.view.ctx.time ≤ time → time < end_of_blocks → IsSound (next_block height time w)

-- every message, where no entry of this height lost anything
abbrev pub MessagesKeepSoundness : Type 0
MessagesKeepSoundness = (m : Msg) → MessageHasCoins m → (w : State) → IsSound w → AreWhole w → IfOk (effect_of m w) (IsSoundAfter w)

-- every transaction, whether its fee is paid or not, and whether its messages are carried out or one is refused
abbrev pub TransactionsKeepSoundness : Type 0
TransactionsKeepSoundness = (tx : Tx) → TxHasCoins tx → (w : State) → IsSound w → AreWhole w → IsSound (tx_applied tx w).state

-- mature unbondings that are paid, and mature redelegations that go
abbrev pub UnbondingsStepKeepsSoundness : Type 0
UnbondingsStepKeepsSoundness = KeptByStep IsSoundAfter unbondings_step

abbrev pub RedelegationsStepKeepsSoundness : Type 0
RedelegationsStepKeepsSoundness = KeptByStep IsSoundAfter redelegations_step

-- the fees of a block, among votes of validators that stand
abbrev pub AllocationKeepsSoundness : Type 0
AllocationKeepsSoundness = (votes : List Vote) (w : State) → IsSound w → AreVotes votes w → IfOk (allocation_step votes w) (IsSoundAfter w)

-- mature validators
abbrev pub MaturingKeepsSoundness : Type 0
MaturingKeepsSoundness = KeptByStep IsSoundAfter maturing_step

-- the bonded set
abbrev pub BondingKeepsSoundness : Type 0
BondingKeepsSoundness = KeptByStep IsSoundAfter set_step

-- a vote, of a record of which fewer votes were counted than the height is, and a piece of evidence
abbrev pub VotesKeepSoundness : Type 0
VotesKeepSoundness = (t : Vote) (w : State) → IsSound w → IsPower t.power w → CountsBelow t.cons w → IfOk (vote_step t w) (IsSoundAfter w)

abbrev pub EvidenceKeepsSoundness : Type 0
EvidenceKeepsSoundness = (e : Evidence) (w : State) → IsSound w → IsPower e.power w → 1 ≤ e.height → e.height < w.view.ctx.height → e.time ≤ w.view.ctx.time → IfOk (evidence_step e w) (IsSoundAfter w)

-- Wherever blocks lead to from a sound state, up to the first that may not follow, the state is sound, as long as there are
-- heights.
abbrev pub RunsKeepSoundness : Type 0
RunsKeepSoundness = (blocks : List Block) (w : State) → AreInput blocks → IsSound w → w.view.ctx.height + length blocks < 2 ^ 63 → IsSound (run_of blocks w).state

-- Wherever blocks lead to from a sound state, each supply is less by exactly what they say was burned, as long as there are
-- heights.
abbrev pub RunsLowerSupplies : Type 0
RunsLowerSupplies = (blocks : List Block) (w : State) → AreInput blocks → IsSound w → w.view.ctx.height + length blocks < 2 ^ 63 → (d : List ℕ)
    → supply_of (run_of blocks w).state.view.bank d + sum (map (λ b. burned_in d (facts_of b)) (run_of blocks w).reports) ≡ supply_of w.view.bank d

-- ---- refusals

-- Funding the community pool is refused by the first of its conditions that holds, and accepted where none does.
abbrev pub FundsNameConditions : Type 0
FundsNameConditions = (who : List ℕ) (coins : Money) → IsMoney coins → IsRefusedBy (fund_community_pool who coins) (against_fund who coins)

-- So are the messages that run hooks: withdrawing a reward, delegating, cancelling an unbonding, undelegating, creating a validator
-- and redelegating.
abbrev pub RewardsNameConditions : Type 0
RewardsNameConditions = (who operator : List ℕ) → IsRefusedBy (withdraw_reward who operator) (against_reward who operator)

abbrev pub DelegationsNameConditions : Type 0
DelegationsNameConditions = (who operator : List ℕ) (coin : Coin) → IsRefusedBy (delegate who operator coin) (against_delegate who operator coin)

abbrev pub CancellationsNameConditions : Type 0
CancellationsNameConditions = (who operator : List ℕ) (coin : Coin) (height : ℕ) → IsRefusedBy (cancel_unbonding who operator coin height) (against_cancel who operator coin height)

abbrev pub UndelegationsNameConditions : Type 0
UndelegationsNameConditions = (who operator : List ℕ) (coin : Coin) → IsRefusedBy (undelegate who operator coin) (against_undelegate who operator coin)

abbrev pub CreationsNameConditions : Type 0
CreationsNameConditions = (m : CreateValidator) → IsRefusedBy (create_validator m) (against_create m)

abbrev pub RedelegationsNameConditions : Type 0
RedelegationsNameConditions = (who source target : List ℕ) (coin : Coin) → IsRefusedBy (begin_redelegate who source target coin) (against_redelegate who source target coin)

-- From a sound state each fault of a block is that of the first condition against it, or a limit that its beginning met, and
-- where there is neither the block is answered: its end meets no limit.
abbrev pub BlocksAreAnswered : Type 0
BlocksAreAnswered = (b : Block) (w : State) → All TxHasCoins b.txs → IsSound w → w.view.ctx.height + 1 < 2 ^ 63 → BlockIsAnswered b w (step b w)

-- Wherever blocks lead to from a sound state, each transaction is judged by the conditions of its messages.
abbrev pub RunsNameConditions : Type 0
RunsNameConditions = (blocks : List Block) (w : State) → AreInput blocks → IsSound w → w.view.ctx.height + length blocks < 2 ^ 63 → InBlocks TxIsJudged blocks w
