-- What holds of blocks that go on from a sound state, whatever led to it, and so of each replay.
use Rattle.std.specs.Prelude.{◌≡◌, ℕ, ◌+◌, ◌^◌, ◌<◌, List, length, map, sum}
use Rattle.base_roles.specs.Holdings.{supply_of}
use Rattle.base_messages.specs.declared.block.Block.{Block}
use Rattle.rule_modules.specs.Chain.{State}
use Rattle.rule_modules.specs.Laws.{burned_in}
use Rattle.rule_modules.specs.Owed.{HoldsWhatIsOwed}
use Rattle.rule_modules.specs.Sound.{IsSound}
use Rattle.rule_machine.specs.Machine.{run_of}
use Rattle.rule_machine.specs.Promises.{AreInput, Replayed, facts_of}
use Rattle.law_soundness.specs.Kept.{AnsweredAlong, InBlocks, TxIsJudged}

-- Blocks from a state on, up to the first that may not follow. They begin and end in a sound state, in which the three
-- accounts hold what they owe. Each supply is less by exactly what the blocks say was burned. Each transaction is judged by the
-- conditions of its messages. And each block is answered, or has the fault of the first condition against it, or of a limit
-- that its beginning met.
pub record GoSoundly (blocks : List Block) (w : State) : Type 0 where
  pub begun : IsSound w
  pub sound : IsSound (run_of blocks w).state
  pub accounts : HoldsWhatIsOwed w × HoldsWhatIsOwed (run_of blocks w).state
  pub supplies : (d : List ℕ)
      → supply_of (run_of blocks w).state.view.bank d + sum (map (λ b. burned_in d (facts_of b)) (run_of blocks w).reports)
      ≡ supply_of w.view.bank d
  pub transactions : InBlocks TxIsJudged blocks w
  pub faults : AnsweredAlong blocks w

-- So it is with blocks from any sound state, as long as there are heights, as with those that go on from a store of which
-- nobody knows what led to it; and with those of each replay, from what its genesis starts.
pub record RunsGoSoundly : Type 0 where
  pub onward : (blocks : List Block) (w : State) → AreInput blocks → IsSound w → w.view.ctx.height + length blocks < 2 ^ 63
      → GoSoundly blocks w
  pub replays : (r : Replayed) → GoSoundly r.blocks r.start.state
