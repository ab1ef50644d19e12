-- What the blocks of a run pay a pair is stated rightly, from a good genesis on.
use Rattle.std.proofs.Common.{◌≡◌, ℕ, suc, ◌+◌, ◌^◌, ◌<◌, ◌≤◌, List, [], ◌∷◌, length, Result, Ok, Err, arith, subst, All, IfOk, Contains, None}
use Rattle.std.proofs.lemmas.List.Elements.{All-head, All-tail}
use Rattle.base_messages.specs.declared.{block.Block.Block, faults.BlockFault.BlockFault}
use Rattle.rule_machine.specs.GenesisState.{chain_started}
use Rattle.rule_machine.specs.{Listening.{Hearing, block_heard, genesis_heard, heard_in, hearing}, Machine.{Step, step}}
use Rattle.rule_machine.specs.Promises.{Replayed, TxHasCoins}
use Rattle.rule_modules.specs.Chain.{State}
use Rattle.law_soundness.proofs.{Burns.total_in, Points.{StateFits, to_fits}, Running.{HaveCoins, StepFits, block_fits}}
use Rattle.law_soundness.proofs.{Starting.{IsWellStarted, room, started_well}, Steps.from_if}
use Rattle.law_rewards.specs.States.{AreReached}
use Rattle.law_runs.{specs.Runs.SaysFairly, proofs.{Running.block_reached, Saying.block_paid}}
use Rattle.law_runs.proofs.Starts.{genesis_is_reached}
use Rattle.mod_recorder.specs.Notes.{Noted, ended, heard, nothing_noted, parted}
use Rattle.mod_tracking.specs.{declared.tracker.Pair.Pair, Tracking.Tracked}
use Rattle.law_statements.specs.Runs.{AreFew, PayRightly, PaysRightly, RunPaysRightly, UnheardRunsPayRightly, followed_first, followed_in}
use Rattle.law_statements.specs.Unheard.{RecorderChangesNothing}
use Rattle.law_statements.proofs.Blocks.{IsHeard, StandsAt, block_is_heard, pays_so, stands_next}
use Rattle.law_statements.proofs.Starts.{IsFirst, genesis_is_first}

module _ (nothing : RecorderChangesNothing) (p : Pair) (some : List (List ℕ)) (few : length some ≤ 1_000_000) where
  run_pays : (blocks : List Block) (T : List ℕ → ℕ) (w : State) (n : Noted) (t : Tracked) → HaveCoins blocks → StateFits (Contains some) T w → AreReached w → w.view.ctx.height + length blocks < 2 ^ 63 → StandsAt p n t w.log → RunPaysRightly p blocks w n t
  run_pays [] T w n t c h r space k = tt
  run_pays (b ∷ blocks) T w n t c h r space k =
      by (step b w) (block_fits (Contains some) b T w coins h (one (length blocks) space)) (block_reached some few b T w coins h r (one (length blocks) space)) (block_paid some few b T w coins h r (one (length blocks) space))
      (block_is_heard p n t w nothing some few b T coins h r (one (length blocks) space) k)
      (λ x m u g q e j. run_pays blocks (total_in x.view) x m u (All-tail (λ (y : Block). All TxHasCoins y.txs) b blocks c) g q (fewer (length blocks) x.view.ctx.height space e) j)
    where
      coins : All TxHasCoins b.txs
      coins = All-head (λ (y : Block). All TxHasCoins y.txs) b blocks c

      one : (m : ℕ) → w.view.ctx.height + suc m < 2 ^ 63 → w.view.ctx.height + 1 < 2 ^ 63
      one m l = omega (arith, l)

      fewer : (m x : ℕ) → w.view.ctx.height + suc m < 2 ^ 63 → x ≡ w.view.ctx.height + 1 → x + m < 2 ^ 63
      fewer m x l e = omega (arith, l, e)

      by : (q : Result Step BlockFault) → IfOk q (StepFits (Contains some) w) → IfOk q (λ s. AreReached s.state) → IfOk q (SaysFairly w)
          → IfOk q (λ s. (y : Hearing Noted) → block_heard heard parted ended b (hearing n w) ≡ Ok y → IsHeard p n t w s y)
          → ((x : State) (m : Noted) (u : Tracked) → StateFits (Contains some) (total_in x.view) x → AreReached x → x.view.ctx.height ≡ w.view.ctx.height + 1 → StandsAt p m u x.log → RunPaysRightly p blocks x m u)
          → IfOk q (λ s. (y : Hearing Noted) → block_heard heard parted ended b (hearing n w) ≡ Ok y → AreFew (heard_in y) s → PaysRightly p w n t s (heard_in y) × RunPaysRightly p blocks s.state (heard_in y) (followed_in p w n t s (heard_in y)).tracked)
      by (Ok s) g q says m rest = λ y is small. (
        pays_so p n t w s y (m y is) says small,
        rest s.state (heard_in y) (followed_in p w n t s (heard_in y)).tracked g.fits q g.height (stands_next p n t w s y (m y is) says small),
      )
      by (Err fault) g q says m rest = tt

pub unheard_runs_pay_rightly : UnheardRunsPayRightly
unheard_runs_pay_rightly = λ nothing r p first is notes facts.
    let s : IsWellStarted r.start = started_well r in
    let reached : AreReached r.start.state = from_if (λ x. AreReached x.state) (chain_started r.genesis) r.start r.started (genesis_is_reached r.genesis r.good) in
    let f : IsFirst nothing p r.start first = genesis_is_first nothing p r first is notes facts in
    record {
      unpaid_first = f.unpaid_so;
      blocks = run_pays nothing p s.sound.few.some s.sound.few.few r.blocks (total_in r.start.state.view) r.start.state (heard_in first) (followed_first p r.start (heard_in first)).tracked r.input.coins (to_fits r.start.state s.sound) reached
          (room r.start.state.view.ctx.height (length r.blocks) s.height r.input.few) f.stands_so;
    }
