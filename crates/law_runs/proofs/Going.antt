-- Each block of a run says fairly what it pays, and leaves reached accounts and rewards that run exactly where delegations stand.
use Rattle.std.proofs.Common.{◌≡◌, ℕ, suc, ◌+◌, ◌^◌, ◌<◌, ◌≤◌, List, [], ◌∷◌, ◌++◌, length, Result, Ok, Err, sym, subst, arith, append-nil, append_assoc, All, IfOk, Contains}
use Rattle.std.proofs.lemmas.List.Elements.{All-head, All-tail}
use Rattle.base_roles.specs.Log.{Log}
use Rattle.base_messages.specs.declared.{block.Block.Block, faults.BlockFault.BlockFault}
use Rattle.rule_machine.specs.{GenesisState.chain_started, Machine.{Step, step}, Promises.TxHasCoins}
use Rattle.rule_modules.specs.Chain.{State}
use Rattle.law_soundness.proofs.{Burns.total_in, Points.{StateFits, to_fits}, Running.{HaveCoins, StepFits, block_fits}}
use Rattle.law_soundness.proofs.{Starting.{IsWellStarted, room, started_well}, Steps.from_if}
use Rattle.law_rewards.specs.{States.AreReached, Running.{IsMadeAtRest, AreMadeAtRest, AreStarted}}
use Rattle.law_rewards.{specs.Withdrawals.AreInTurn, proofs.Unstarted.rewards_run_exactly_where_held}
use Rattle.law_runs.specs.{Runs.SaysFairly, Going.{GoesFairly, BlocksGoFairly, RunGoesFairly, RunsGoFairly}}
use Rattle.law_runs.proofs.{Running.{sound_at, block_reached}, Starts.genesis_is_reached}
use Rattle.law_runs.proofs.{Unstarted.{block_started, start_is_started}, Saying.block_paid}

-- what holds of a log's entries in turn holds of those behind its beginning
in_turn_behind : {A : Type 0} (Q : List A → A → Type 0) (before a b : List A) → AreInTurn Q before (a ++ b) → AreInTurn Q (before ++ a) b
in_turn_behind Q before [] b h = subst (λ m. AreInTurn Q m b) (sym (append-nil before)) h
in_turn_behind Q before (x ∷ a) b h = subst (λ m. AreInTurn Q m b) (append_assoc before (x ∷ []) a) (in_turn_behind Q (before ++ x ∷ []) a b h.1)

made_behind : (l more : Log) → AreMadeAtRest [] (l ++ more) → AreMadeAtRest l more
made_behind l more h = in_turn_behind (λ before e. IsMadeAtRest before e.0 e.1) [] l more h

module _ (some : List (List ℕ)) (few : length some ≤ 1_000_000) where
  goes : (w : State) (s : Step) → StepFits (Contains some) w s → AreReached s.state → SaysFairly w s → AreStarted s.state → GoesFairly w s
  goes w s k p g u = record {
    says = g;
    reached = p;
    started = u;
    made = made_behind w.log g.more (subst (λ l. AreMadeAtRest [] l) g.log_is u.made);
    runs = rewards_run_exactly_where_held s.state (sound_at some few (total_in s.state.view) s.state k.fits) p u;
  }

  block_goes : (b : Block) (T : List ℕ → ℕ) (w : State) → All TxHasCoins b.txs → StateFits (Contains some) T w → AreReached w → AreStarted w → w.view.ctx.height + 1 < 2 ^ 63 → IfOk (step b w) (GoesFairly w)
  block_goes b T w coins h r u space =
      by (step b w) (block_fits (Contains some) b T w coins h space) (block_reached some few b T w coins h r space) (block_paid some few b T w coins h r space) (block_started some few b T w coins h u space)
    where
      by : (q : Result Step BlockFault) → IfOk q (StepFits (Contains some) w) → IfOk q (λ s. AreReached s.state) → IfOk q (SaysFairly w) → IfOk q (λ s. AreStarted s.state) → IfOk q (GoesFairly w)
      by (Ok s) k p g v = goes w s k p g v
      by (Err fault) k p g v = tt

  run_goes : (blocks : List Block) (T : List ℕ → ℕ) (w : State) → HaveCoins blocks → StateFits (Contains some) T w → AreReached w → AreStarted w → w.view.ctx.height + length blocks < 2 ^ 63 → RunGoesFairly blocks w
  run_goes [] T w c h r u space = tt
  run_goes (b ∷ blocks) T w c h r u space =
      by (step b w) (block_fits (Contains some) b T w coins h (one (length blocks) space)) (block_goes b T w coins h r u (one (length blocks) space))
      (λ x k q v e. run_goes blocks (total_in x.view) x (All-tail (λ (x : Block). All TxHasCoins x.txs) b blocks c) k q v (fewer (length blocks) x.view.ctx.height space e))
    where
      coins : All TxHasCoins b.txs
      coins = All-head (λ (x : Block). All TxHasCoins x.txs) b blocks c

      one : (n : ℕ) → w.view.ctx.height + suc n < 2 ^ 63 → w.view.ctx.height + 1 < 2 ^ 63
      one n l = omega (arith, l)

      fewer : (n x : ℕ) → w.view.ctx.height + suc n < 2 ^ 63 → x ≡ w.view.ctx.height + 1 → x + n < 2 ^ 63
      fewer n x l e = omega (arith, l, e)

      by : (q : Result Step BlockFault) → IfOk q (StepFits (Contains some) w) → IfOk q (GoesFairly w)
          → ((x : State) → StateFits (Contains some) (total_in x.view) x → AreReached x → AreStarted x → x.view.ctx.height ≡ w.view.ctx.height + 1 → RunGoesFairly blocks x)
          → IfOk q (λ s. GoesFairly w s × RunGoesFairly blocks s.state)
      by (Ok s) k g rest = (g, rest s.state k.fits g.reached g.started k.height)
      by (Err fault) k g rest = tt

pub blocks_go_fairly : BlocksGoFairly
blocks_go_fairly = λ b w coins s reached started space. block_goes s.few.some s.few.few b (total_in w.view) w coins (to_fits w s) reached started space

pub runs_go_fairly : RunsGoFairly
runs_go_fairly = λ r.
    let s : IsWellStarted r.start = started_well r in
    let reached : AreReached r.start.state = from_if (λ x. AreReached x.state) (chain_started r.genesis) r.start r.started (genesis_is_reached r.genesis r.good) in
    run_goes s.sound.few.some s.sound.few.few r.blocks (total_in r.start.state.view) r.start.state r.input.coins (to_fits r.start.state s.sound) reached (start_is_started r)
    (room r.start.state.view.ctx.height (length r.blocks) s.height r.input.few)
