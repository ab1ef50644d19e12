-- Laws of runs: they stay reached, and say fairly what they pay.
use Rattle.std.specs.Prelude.{◌≡◌, ℕ, ◌+◌, ◌^◌, ◌<◌, List, [], ◌∷◌, length, All, IfOk, Some}
use Rattle.base_coins.specs.Coins.{amount_of}
use Rattle.base_roles.specs.declared.entities.Validator.{Validator}
use Rattle.base_roles.specs.Staked.{validator_at}
use Rattle.rule_modules.specs.Chain.{State, shared_in}
use Rattle.rule_modules.specs.Ideal.{history_of}
use Rattle.rule_modules.specs.Purses.{purse_of}
use Rattle.rule_modules.specs.Sound.{IsSound}
use Rattle.base_messages.specs.declared.block.Block.{Block}
use Rattle.base_messages.specs.declared.genesis.Genesis.{Genesis}
use Rattle.rule_machine.specs.GenesisState.{chain_started}
use Rattle.rule_machine.specs.Machine.{run_of, step}
use Rattle.rule_machine.specs.Promises.{IsGoodGenesis, AreInput, Replayed, TxHasCoins, run_in}
use Rattle.law_rewards.specs.States.{AreReached}
use Rattle.law_rewards.specs.Running.{RunExactlyWhereHeld}
use Rattle.law_rewards.specs.Withdrawals.{outstanding_in}
use Rattle.law_runs.specs.Runs.{SaysFairly}

-- Wherever blocks lead to from a sound state whose accounts are reached, up to the first that may not follow, they are
-- reached, as long as there are heights.
abbrev pub RunsKeepReached : Type 0
RunsKeepReached =
    (blocks : List Block) (w : State) → AreInput blocks → IsSound w → AreReached w → w.view.ctx.height + length blocks < 2 ^ 63 → AreReached (run_of blocks w).state

-- What a good genesis starts has reached accounts.
abbrev pub GenesisIsReached : Type 0
GenesisIsReached = (g : Genesis) → IsGoodGenesis g → IfOk (chain_started g) (λ s. AreReached s.state)

-- So wherever a good genesis and blocks lead to, accounts are reached.
abbrev pub RunsAreReached : Type 0
RunsAreReached = (r : Replayed) → AreReached (run_in r).state

-- each block from a sound state whose accounts are reached does so
abbrev pub BlocksSayFairly : Type 0
BlocksSayFairly = (b : Block) (w : State) → All TxHasCoins b.txs → IsSound w → AreReached w → w.view.ctx.height + 1 < 2 ^ 63 → IfOk (step b w) (SaysFairly w)

-- each block of a run that may follow does so, from the state that the blocks before it led to
abbrev pub RunSaysFairly : List Block → State → Type 0
RunSaysFairly [] w = Unit {0}
RunSaysFairly (b ∷ blocks) w = IfOk (step b w) (λ s. SaysFairly w s × RunSaysFairly blocks s.state)

-- So wherever a good genesis and blocks lead to. Each withdrawal that a block logs, whatever it is a
-- part of, has a span: its delegation had a start that was not withdrawn since. Its reward in full
-- lies between the fees shared by stake, block by block, in exact fractions and that less the slack,
-- in each denomination; what was outstanding is what the log up to it comes to, and cuts it by at most
-- the overclaim of that moment; and just one payment is told of it, of the smaller of the two and its
-- whole coins, which go to the payee right before. No other payment is told, and where the rewards of
-- a delegation start anew its reward was withdrawn.
abbrev pub RunsSayFairly : Type 0
RunsSayFairly = (r : Replayed) → RunSaysFairly r.blocks r.start.state

-- There a delegator's rewards run, by the log, exactly where it has a delegation, under each operator;
-- so where no validator stands, none run: who had a delegation to a validator that went has withdrawn.
abbrev pub RunsRunWhereHeld : Type 0
RunsRunWhereHeld =
    (r : Replayed) → RunExactlyWhereHeld (run_in r).state.mine.staked (run_in r).state.log

-- And what is outstanding for each validator is what its history comes to.
abbrev pub RunsLogOutstanding : Type 0
RunsLogOutstanding =
    (r : Replayed) (d : List ℕ) (v : Validator)
    → validator_at (run_in r).state.mine.staked v.operator ≡ Some v
    → amount_of (purse_of (shared_in (run_in r).state).purses v.operator).outstanding d
    ≡ outstanding_in d (history_of v.operator (run_in r).state.log [])
