-- What each block of a run says and leaves.
use Rattle.std.specs.Prelude.{◌+◌, ◌^◌, ◌<◌, List, [], ◌∷◌, All, IfOk}
use Rattle.rule_modules.specs.Chain.{State}
use Rattle.rule_modules.specs.Sound.{IsSound}
use Rattle.base_messages.specs.declared.block.Block.{Block}
use Rattle.base_messages.specs.declared.genesis.Genesis.{Genesis}
use Rattle.rule_machine.specs.GenesisState.{chain_started}
use Rattle.rule_machine.specs.Machine.{Step, step}
use Rattle.rule_machine.specs.Promises.{Replayed, TxHasCoins}
use Rattle.law_rewards.specs.States.{AreReached}
use Rattle.law_rewards.specs.Running.{AreMadeAtRest, AreStarted, RunExactlyWhereHeld}
use Rattle.law_runs.specs.Runs.{SaysFairly}

-- What a genesis starts has rewards that run only from starts.
abbrev pub GenesisIsStarted : Type 0
GenesisIsStarted = (g : Genesis) → IfOk (chain_started g) (λ s. AreStarted s.state)

-- A block says fairly what it pays. It leaves accounts that are reached, so its log has the shares of
-- the delegations and the tokens of the validators, and the ends, slashes and allocations that came to
-- them; and by this log rewards run only from starts, and exactly where delegations stand. Where it
-- makes a validator no rewards run, so none is lost of one that stood there before in the same block.
pub record GoesFairly (old : State) (s : Step) : Type 0 where
  pub says : SaysFairly old s
  pub reached : AreReached s.state
  pub started : AreStarted s.state
  pub made : AreMadeAtRest old.log says.more
  pub runs : RunExactlyWhereHeld s.state.mine.staked s.state.log

-- each block does so from a sound state whose accounts are reached, and whose rewards run only from
-- starts
abbrev pub BlocksGoFairly : Type 0
BlocksGoFairly =
    (b : Block) (w : State) → All TxHasCoins b.txs → IsSound w → AreReached w → AreStarted w
    → w.view.ctx.height + 1 < 2 ^ 63 → IfOk (step b w) (GoesFairly w)

-- each block of a run that may follow does so, from the state that the blocks before it led to
abbrev pub RunGoesFairly : List Block → State → Type 0
RunGoesFairly [] w = Unit {0}
RunGoesFairly (b ∷ blocks) w = IfOk (step b w) (λ s. GoesFairly w s × RunGoesFairly blocks s.state)

-- So wherever a good genesis and blocks lead to.
abbrev pub RunsGoFairly : Type 0
RunsGoFairly = (r : Replayed) → RunGoesFairly r.blocks r.start.state
