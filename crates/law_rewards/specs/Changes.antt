-- What the laws say of messages that change stakes, and of the parts of a block: accounts that are reached stay so.
use Rattle.std.specs.Prelude.{ℕ, ◌<◌, List, IfOk}
use Rattle.base_types.specs.declared.account.Account.TheVariants as account
use Rattle.base_types.specs.declared.account.Module.TheVariants as holder
use Rattle.base_coins.specs.declared.coin.Coin.{Coin}
use Rattle.base_coins.specs.Coins.{IsMoney}
use Rattle.base_roles.specs.Holdings.{coins_of}
use Rattle.base_roles.specs.declared.messages.Evidence.{Evidence}
use Rattle.base_roles.specs.declared.messages.Vote.{Vote}
use Rattle.rule_modules.specs.Amounts.{in_units}
use Rattle.rule_modules.specs.Sound.{IsSound}
use Rattle.base_roles.specs.declared.messages.CreateValidator.{CreateValidator}
use Rattle.rule_modules.specs.Chain.{State, allocation_step, vote_step, evidence_step, set_step, maturing_step, unbondings_step, redelegations_step}
use Rattle.rule_modules.specs.Effects.{create_validator, delegate, undelegate, begin_redelegate, cancel_unbonding}
use Rattle.rule_modules.specs.Laws.{next_block}
use Rattle.rule_modules.specs.StepLaws.{KeptByStep, KeptByMessages}
use Rattle.law_rewards.specs.StateLaws.{ReachedStays, NoneStartedHere}

-- delegating keeps accounts reached
abbrev pub DelegatingKeepsReached : Type 0
DelegatingKeepsReached = (who operator : List ℕ) (coin : Coin) → KeptByStep ReachedStays (delegate who operator coin)

-- and so does cancelling an unbonding
abbrev pub CancellingKeepsReached : Type 0
CancellingKeepsReached = (who operator : List ℕ) (coin : Coin) (height : ℕ) → KeptByStep ReachedStays (cancel_unbonding who operator coin height)

-- and so does creating a validator, whose operator delegates to it
abbrev pub CreatingKeepsReached : Type 0
CreatingKeepsReached = (m : CreateValidator) → KeptByStep ReachedStays (create_validator m)

-- and so does undelegating
abbrev pub UndelegatingKeepsReached : Type 0
UndelegatingKeepsReached = (who operator : List ℕ) (coin : Coin) → KeptByStep ReachedStays (undelegate who operator coin)

-- and so does redelegating
abbrev pub RedelegatingKeepsReached : Type 0
RedelegatingKeepsReached = (who source target : List ℕ) (coin : Coin) → KeptByStep ReachedStays (begin_redelegate who source target coin)

-- So each message that is not refused keeps accounts reached, and so does the fee.
abbrev pub MessagesKeepReached : Type 0
MessagesKeepReached = KeptByMessages ReachedStays

-- and so do the mature entries of a block: unbondings that are paid, and redelegations that go
abbrev pub UnbondingsStepKeepsReached : Type 0
UnbondingsStepKeepsReached = KeptByStep ReachedStays unbondings_step

abbrev pub RedelegationsStepKeepsReached : Type 0
RedelegationsStepKeepsReached = KeptByStep ReachedStays redelegations_step

-- and so does making the bonded set anew
abbrev pub BondedSetKeepsReached : Type 0
BondedSetKeepsReached = KeptByStep ReachedStays set_step

-- and so do validators whose unbonding is mature
abbrev pub MaturingKeepsReached : Type 0
MaturingKeepsReached = KeptByStep ReachedStays maturing_step

-- In the block after a sound state no start is of its height, before anything is done.
abbrev pub NoneStartedInNext : Type 0
NoneStartedInNext = (w : State) (height time : ℕ) → IsSound w → w.view.ctx.height < height → NoneStartedHere (next_block height time w)

-- where no start is of this height, and the fees of the block are coins, allocating them keeps accounts reached
abbrev pub AllocationKeepsReached : Type 0
AllocationKeepsReached =
    (votes : List Vote) (w : State) → IsSound w → NoneStartedHere w → IsMoney (in_units (coins_of w.view.bank (account.Module holder.FeeCollector)))
    → IfOk (allocation_step votes w) (ReachedStays w)

-- So the beginning of a block as one step keeps accounts reached: the next block, then the allocation of its fees.
abbrev pub BlockBeginKeepsReached : Type 0
BlockBeginKeepsReached =
    (votes : List Vote) (height time : ℕ) (w : State) → IsSound w → IsSound (next_block height time w) → w.view.ctx.height < height
    → IsMoney (in_units (coins_of w.view.bank (account.Module holder.FeeCollector))) → IfOk (allocation_step votes (next_block height time w)) (ReachedStays w)

-- and so does a vote, with the slash and the jailing that a missed one may bring
abbrev pub VotesKeepReached : Type 0
VotesKeepReached = (t : Vote) → KeptByStep ReachedStays (vote_step t)

-- and so does a piece of evidence, with its slash
abbrev pub EvidenceKeepsReached : Type 0
EvidenceKeepsReached = (e : Evidence) → KeptByStep ReachedStays (evidence_step e)
