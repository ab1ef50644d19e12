-- A block that is answered from a state whose accounts are reached goes fairly.
use Rattle.std.proofs.Common.{◌≡◌, ℕ, ◌+◌, ◌^◌, ◌<◌, Result, Ok, Err, arith, All, IfOk}
use Rattle.std.specs.Prelude.{⊤}
use Rattle.base_messages.specs.declared.{block.Block.Block, faults.BlockFault.BlockFault}
use Rattle.base_messages.specs.declared.report.BlockReport.{BlockReport}
use Rattle.rule_machine.{proofs.DueLemmas.{IsDue, is_due}, specs.Machine.{Step, block_checked, step}}
use Rattle.rule_machine.specs.Promises.{TxHasCoins}
use Rattle.rule_modules.specs.{Chain.State, Sound.IsSound}
use Rattle.law_rewards.specs.{Running.AreStarted, States.AreReached}
use Rattle.law_soundness.proofs.{Running.first_ok, Steps.from_if}
use Rattle.law_runs.{proofs.Going.blocks_go_fairly, specs.Going.GoesFairly}
use Rattle.chain_modules.specs.Kept.{KeptState}
use Rattle.chain_blocks.specs.Answers.{Applies}
use Rattle.chain_whole.specs.Answers.{GoesOnFairly}

-- a block that may follow is of the next height
below_last : (b : Block) (p : State) (t : ⊤) → block_checked b p ≡ Ok t → b.height < 2 ^ 63 → p.view.ctx.height + 1 < 2 ^ 63
below_last b p t e few = by b.height p.view.ctx.height (is_due b p (same t e)).height few
  where
    same : (t : ⊤) → block_checked b p ≡ Ok t → block_checked b p ≡ Ok tt
    same t e = e

    by : (n m : ℕ) → n ≡ m + 1 → n < 2 ^ 63 → m + 1 < 2 ^ 63
    by n m e l = omega (arith, e, l)

pub goes_on_fairly : (b : Block) (p : State) (k : KeptState) (answer : Result BlockReport BlockFault) → b.height < 2 ^ 63 → All TxHasCoins b.txs → IsSound p → AreReached p → AreStarted p
    → Applies b p k answer → IfOk answer (GoesOnFairly p k)
goes_on_fairly b p k (Ok report) few coins sound reached started h =
    let s : Step = record { report = report; state = h.0 } in
    let checked = first_ok (block_checked b p) _ s h.1 in
    (h.0, h.2, from_if (GoesFairly p) (step b p) s h.1 (blocks_go_fairly b p coins sound reached started (below_last b p checked.0 checked.1 few)))
goes_on_fairly b p k (Err fault) few coins sound reached started h = tt
