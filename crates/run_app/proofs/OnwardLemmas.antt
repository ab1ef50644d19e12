-- Wherever lines lead, a run may go on.
use Rattle.std.proofs.Common.{◌≡◌, ℕ, ◌+◌, ◌<◌, ◌^◌, List, [], ◌∷◌, Some, None, Result, Ok, Err, IfOk, refl, sym, subst, arith, Contains}
use Rattle.base_bech32.specs.declared.form.Form.{Form}
use Rattle.line_json.specs.{Block.block_of, Genesis.genesis_of}
use Rattle.base_roles.specs.declared.refusal.Refusal.TheVariants.{Overflow}
use Rattle.rule_machine.specs.GenesisState.{Start, chain_started, empty_over, ground_at_start, stake_added, without_facts}
use Rattle.rule_machine.specs.Machine.{Step, block_checked, step, txs_applied}
use Rattle.base_messages.specs.declared.{block.Block.Block, faults.BlockFault.TheVariants.RatioLimit}
use Rattle.base_messages.specs.declared.genesis.Genesis.{Genesis}
use Rattle.rule_modules.specs.{BondedSet.set_updated, Chain.{State, begin_block, chain_told, end_block, staked_in}}
use Rattle.rule_modules.{specs.{Laws.next_block, Sound.IsSound}, proofs.GoingLemmas.{on_lifted, on_next}}
use Rattle.law_soundness.proofs.{Burns.total_in, Points.{from_fits, to_fits}, Running.{StepFits, block_fits}}
use Rattle.law_soundness.proofs.{Starting.geneses_start_sound, Steps.{from_if, on_then}}
use Rattle.run_app.specs.Laws.{MayGoOn, RunsMayGoOn}
use Rattle.run_app.proofs.ReadLemmas.{AllHaveCoins, block_has_coins, height_is_low, its_coins}
use Rattle.run_app.proofs.SoundLemmas.{Begun, Led, block_led, genesis_led, next_height, within}

-- a block leaves no facts in the state
step_clears : (b : Block) (w : State) → IfOk (step b w) (λ s. s.state.view.facts ≡ [])
step_clears b w =
    on_next (block_checked b w) _ _ (λ t e.
    on_lifted RatioLimit (begin_block b.votes b.evidence (without_facts (next_block b.height b.time w))) _ _ (λ begun f.
    on_lifted RatioLimit (end_block (without_facts (txs_applied b.txs begun).state)) _ _ (λ ended g. refl)))

any_ok : {A E : Type 0} (r : Result A E) → IfOk r (λ x. Unit {0})
any_ok (Ok x) = tt
any_ok (Err e) = tt

-- nor does a genesis
start_clears : (g : Genesis) → IfOk (chain_started g) (λ s. s.state.view.facts ≡ [])
start_clears g =
    on_then (stake_added chain_told g (staked_in (empty_over (ground_at_start g)))) _ (λ x. Unit {0}) _ (any_ok (stake_added chain_told g (staked_in (empty_over (ground_at_start g))))) (λ x k.
    on_lifted Overflow (set_updated chain_told x) _ _ (λ y f. refl))

pub step_sound : (b : Block) (w : State) (done : Step) → IsSound w → AllHaveCoins b → w.view.ctx.height + 1 < 2 ^ 63 → step b w ≡ Ok done → IsSound done.state
step_sound b w done s coins room e =
    let P : List ℕ → Type 0 = Contains s.few.some in
    let after : StepFits P w done = from_if (StepFits P w) (step b w) done e (block_fits P b (total_in w.view) w (its_coins b coins) (to_fits w s) room) in
    from_fits done.state s.few.some (total_in done.state.view) s.few.few after.fits

pub runs_may_go_on : (form : Form) → RunsMayGoOn form
runs_may_go_on form n first [] text end good answered = subst MayGoOn (sym answered.1) good
runs_may_go_on form n None (line ∷ lines) text end good answered =
    let w = within form n None line answered.0 answered.2 in
    let b : Begun form line answered.0 = genesis_led form n line w.short (genesis_of form line) refl answered.0 w.is in
    let sound : IsSound b.start.state = from_if (λ (s : Start). IsSound s.state) (chain_started b.genesis) b.start b.started (geneses_start_sound b.genesis b.good) in
    let clear : b.start.state.view.facts ≡ [] = from_if (λ (s : Start). s.state.view.facts ≡ []) (chain_started b.genesis) b.start b.started (start_clears b.genesis) in
    runs_may_go_on form (n + 1) answered.0.standing lines answered.1 end (subst MayGoOn (sym b.standing_is) (sound, clear)) answered.4
runs_may_go_on form n (Some p) (line ∷ lines) text end good answered =
    let b : Led form line p answered.0 = block_led form n line p (block_of form line) refl answered.0 (within form n (Some p) line answered.0 answered.2).is in
    let height = next_height b.block p b.done b.done_is in
    let high = height_is_low form line b.block b.line_is in
    let room : p.view.ctx.height + 1 < 2 ^ 63 = omega (arith, height, high) in
    let sound : IsSound b.done.state = step_sound b.block p b.done good.0 (block_has_coins form line b.block b.line_is) room b.done_is in
    let clear : b.done.state.view.facts ≡ [] = from_if (λ (s : Step). s.state.view.facts ≡ []) (step b.block p) b.done b.done_is (step_clears b.block p) in
    runs_may_go_on form (n + 1) answered.0.standing lines answered.1 end (subst MayGoOn (sym b.standing_is) (sound, clear)) answered.4
