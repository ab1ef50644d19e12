-- Blocks of a sound state let no rewards run without a start, and make validators at rest; so in runs, since a genesis starts with none.
use Rattle.std.proofs.Common.{◌≡◌, ℕ, suc, ◌+◌, ◌^◌, ◌<◌, ◌≤◌, List, [], ◌∷◌, length, map, Result, Ok, Err, refl, ap, arith, All, IfOk, Contains}
use Rattle.std.{specs.{Prelude.⊤, Map.lookup, BTreeMap.is_at}, proofs.lemmas.List.Elements.{All-head, All-tail}}
use Rattle.base_types.specs.declared.status.BondStatus.TheVariants.{Unbonded}
use Rattle.base_roles.specs.declared.{entities.Validator.Validator, messages.CreateValidator.CreateValidator}
use Rattle.base_roles.specs.declared.{params.Ctx.Ctx, refusal.Refusal.{Refusal, TheVariants.{NoValidator, Overflow}}}
use Rattle.base_roles.specs.{Orders.pair_cmp, Staked.{Staked, validator_at}, Flow.each, World.World}
use Rattle.base_messages.specs.declared.{block.{Block.Block, Tx.Tx}, faults.BlockFault.BlockFault}
use Rattle.base_messages.specs.declared.faults.BlockFault.TheVariants.{RatioLimit}
use Rattle.base_messages.specs.declared.genesis.{GenesisDelegation.GenesisDelegation, GenesisValidator.GenesisValidator}
use Rattle.base_messages.specs.declared.message.Msg.{Msg}
use Rattle.base_messages.specs.declared.message.Msg.TheVariants as msg
use Rattle.rule_machine.specs.GenesisConditions.{creation_of}
use Rattle.rule_machine.specs.GenesisState.{Start, chain_started, delegation_added, empty_over, ground_at_start, stake_added, validator_added, without_facts}
use Rattle.rule_machine.specs.Machine.{Step, block_checked, step, going_on, run_of, tx_applied, txs_applied, reported_as}
use Rattle.rule_machine.specs.{Messages.effect_of, Promises.{MessageHasCoins, TxHasCoins, Replayed, run_in}}
use Rattle.rule_modules.specs.BondedSet.{set_updated}
use Rattle.rule_modules.specs.Chain.{Hooks, State, chain_told, staked_in, begin_block, end_block}
use Rattle.rule_modules.specs.{Delegating.{delegated, pool}, Effects.{after_fee, effects_of, fee_paid, stands_or_fee}}
use Rattle.rule_modules.specs.{Laws.next_block, Sound.IsSound, Validators.new_validator}
use Rattle.rule_modules.proofs.GoingLemmas.{on_bind, on_found, on_next}
use Rattle.law_soundness.proofs.{Burns.total_in, Moves.fee_fits}
use Rattle.law_soundness.proofs.Points.{MessageLeft, StateFits, StateLeft, at_moment, to_fits}
use Rattle.law_soundness.proofs.Running.{HasBegun, HaveCoins, StepFits, begun_fits, block_fits}
use Rattle.law_soundness.proofs.{Starting.{IsWellStarted, room, started_well}, Steps.{from_if, on_lifted_then, on_then}}
use Rattle.law_soundness.proofs.Transactions.{WholeFits, fits_on, message_fits, tx_fits, whole_without}
use Rattle.law_rewards.{specs.Running.{RunFromStarts, AreStarted}, proofs.{Creating.state_made, Carried.delegated_kept}}
use Rattle.law_rewards.proofs.CarriedSteps.{fee_carried, each_carried, updated_carried}
use Rattle.law_rewards.proofs.Unstarted.{starts_carried, payee_started, made_kept}
use Rattle.law_runs.{specs.Going.GenesisIsStarted, proofs.Carrying.{message_carried, begin_carried, end_carried}}
use Rattle.law_runs.proofs.Running.{both_if, sound_at}

-- ---- transactions

message_started : (m : Msg) (w : State) → IsSound w → AreStarted w → IfOk (effect_of m w) AreStarted
message_started (msg.SetWithdrawAddress m) w s r = payee_started m.delegator m.withdraw w r
message_started m w s r = message_carried RunFromStarts starts_carried m w tt s r

ends_started : (paid : State) (q : Result State (ℕ × Refusal)) → AreStarted paid → IfOk q AreStarted → AreStarted (reported_as (stands_or_fee paid q)).state
ends_started paid (Ok x) r k = k
ends_started paid (Err stop) r k = r

bare : (w : State) → AreStarted w → AreStarted (without_facts w)
bare w r = r

module _ (some : List (List ℕ)) (few : length some ≤ 1_000_000) where
  abbrev P : List ℕ → Type 0
  P = Contains some

  messages_started : (T : List ℕ → ℕ) (c : Ctx) (place : ℕ) (ms : List Msg) (w : State) → All MessageHasCoins ms → WholeFits P T c w → AreStarted w → IfOk (effects_of place (map effect_of ms) w) AreStarted
  messages_started T c place [] w a h r = r
  messages_started T c place (m ∷ ms) w a h r =
      on_lifted_then (λ why. (place, why)) (effect_of m w) _ (λ x. MessageLeft P T w x × AreStarted x) _
      (both_if (effect_of m w) (MessageLeft P T w) AreStarted (message_fits P T m w (All-head MessageHasCoins m ms a) h.fits h.whole) (message_started m w (sound_at some few T w h.fits) r))
      (λ x k. messages_started T c (place + 1) ms x (All-tail MessageHasCoins m ms a) (fits_on P T c w x h k.0) k.1)

  tx_started : (T : List ℕ → ℕ) (c : Ctx) (tx : Tx) (w : State) → TxHasCoins tx → WholeFits P T c w → AreStarted w → AreStarted (tx_applied tx w).state
  tx_started T c tx w a h r =
      by (fee_paid tx.payer tx.fee w0) (fee_fits P T0 tx.payer tx.fee a.fee w0 h0.fits) (fee_carried RunFromStarts starts_carried tx.payer tx.fee w0 (bare w r))
    where
      w0 : State
      w0 = without_facts w

      T0 : List ℕ → ℕ
      T0 = total_in w0.view

      h0 : WholeFits P T0 c w0
      h0 = whole_without P T c w h

      by : (q : Result State Refusal) → IfOk q (StateLeft P T0 w0) → IfOk q AreStarted → AreStarted (reported_as (after_fee (map effect_of tx.msgs) w0 q)).state
      by (Ok paid) k p =
          ends_started paid (effects_of 0 (map effect_of tx.msgs) paid) p (messages_started T0 c 0 tx.msgs paid a.messages (fits_on P T0 c w0 paid h0 (at_moment P T0 w0 paid k)) p)
      by (Err why) k p = bare w r

  txs_started : (T : List ℕ → ℕ) (c : Ctx) (txs : List Tx) (w : State) → All TxHasCoins txs → WholeFits P T c w → AreStarted w → AreStarted (txs_applied txs w).state
  txs_started T c [] w a h r = r
  txs_started T c (tx ∷ txs) w a h r =
      txs_started (total_in (without_facts w).view) c txs (tx_applied tx w).state (All-tail TxHasCoins tx txs a) (tx_fits P T c tx w (All-head TxHasCoins tx txs a) h) (tx_started T c tx w (All-head TxHasCoins tx txs a) h r)

-- ---- a block

module _ (some : List (List ℕ)) (few : length some ≤ 1_000_000) where
  pub block_started : (b : Block) (T : List ℕ → ℕ) (w : State) → All TxHasCoins b.txs → StateFits (Contains some) T w → AreStarted w → w.view.ctx.height + 1 < 2 ^ 63 → IfOk (step b w) (λ s. AreStarted s.state)
  block_started b T w coins h r space =
      on_next (block_checked b w) _ _ (λ t e.
      let w1 : State = without_facts (next_block b.height b.time w) in
      on_lifted_then RatioLimit (begin_block b.votes b.evidence w1) _ (λ x. HasBegun (Contains some) b w x × AreStarted x) _
      (both_if (begin_block b.votes b.evidence w1) (HasBegun (Contains some) b w) AreStarted (begun_fits (Contains some) b T w h space (same_tt t e))
      (begin_carried RunFromStarts starts_carried b.votes b.evidence w1 r)) (λ begun k.
      let done : State = (txs_applied b.txs begun).state in
      let started : AreStarted done = txs_started some few (total_in w1.view) w1.view.ctx b.txs begun coins k.0.fits k.1 in
      on_lifted_then RatioLimit (end_block (without_facts done)) _ AreStarted _ (end_carried RunFromStarts starts_carried (without_facts done) (bare done started)) (λ ended j. bare ended j)))
    where
      same_tt : (t : ⊤) → block_checked b w ≡ Ok t → block_checked b w ≡ Ok tt
      same_tt t e = e

  -- ---- runs

  run_started : (blocks : List Block) (T : List ℕ → ℕ) (w : State) → HaveCoins blocks → StateFits (Contains some) T w → AreStarted w → w.view.ctx.height + length blocks < 2 ^ 63 → AreStarted (run_of blocks w).state
  run_started [] T w c h r space = r
  run_started (b ∷ blocks) T w c h r space =
      by (step b w) (block_fits (Contains some) b T w coins h (one (length blocks) space)) (block_started b T w coins h r (one (length blocks) space))
      (λ u k q e. run_started blocks (total_in u.view) u (All-tail (λ (x : Block). All TxHasCoins x.txs) b blocks c) k q (fewer (length blocks) u.view.ctx.height space e))
    where
      coins : All TxHasCoins b.txs
      coins = All-head (λ (x : Block). All TxHasCoins x.txs) b blocks c

      one : (n : ℕ) → w.view.ctx.height + suc n < 2 ^ 63 → w.view.ctx.height + 1 < 2 ^ 63
      one n l = omega (arith, l)

      fewer : (n x : ℕ) → w.view.ctx.height + suc n < 2 ^ 63 → x ≡ w.view.ctx.height + 1 → x + n < 2 ^ 63
      fewer n x l e = omega (arith, l, e)

      by : (q : Result Step BlockFault) → IfOk q (StepFits (Contains some) w) → IfOk q (λ s. AreStarted s.state)
          → ((u : State) → StateFits (Contains some) (total_in u.view) u → AreStarted u → u.view.ctx.height ≡ w.view.ctx.height + 1 → AreStarted (run_of blocks u).state) → AreStarted (going_on w q (λ u. run_of blocks u)).state
      by (Ok s) k p rest = rest s.state k.fits p k.height
      by (Err fault) k p rest = r

-- ---- a genesis

-- so it is in a world of staking, with the window beside distribution
abbrev StartedIn : World Staked Hooks → Type 0
StartedIn w = RunFromStarts w.hooks.0 w.log

-- validators are made before there is a start
validators_started : (vs : List GenesisValidator) (x : State) → x.hooks.0.rewards.starts ≡ [] → AreStarted x → IfOk (each (validator_added chain_told) vs (staked_in x)) StartedIn
validators_started [] x none r = r
validators_started (v ∷ vs) x none r =
    let m : CreateValidator = creation_of x.view.ctx.params.bond_denom v in
    let n : Validator = new_validator m x.view.ctx.time in
    validators_started vs (state_made x n) none (made_kept n x.hooks.0 x.log (λ who. ap (λ es. lookup (is_at (pair_cmp (m.validator, who))) es) none) r)

delegation_started : (d : GenesisDelegation) (y : World Staked Hooks) → StartedIn y → IfOk (delegation_added chain_told d y) StartedIn
delegation_started d y r =
    on_found (validator_at y.mine d.validator) NoValidator _ _ (λ v f.
    on_bind (delegated chain_told v d.delegator d.amount (pool Unbonded) y) _ _ (λ x e. delegated_kept RunFromStarts starts_carried v d.delegator d.amount (pool Unbonded) y x e r))

pub genesis_is_started : GenesisIsStarted
genesis_is_started = λ g.
    let w : State = empty_over (ground_at_start g) in
    on_then {B = Start} (stake_added chain_told g (staked_in w)) _ StartedIn (λ s. AreStarted s.state)
    (on_then {B = World Staked Hooks} (each (validator_added chain_told) g.validators (staked_in w)) (λ u. each (delegation_added chain_told) g.delegations u) StartedIn StartedIn
    (validators_started g.validators w refl (record { rest = λ who o gone. refl; made = tt }))
    (λ u k. each_carried RunFromStarts starts_carried (delegation_added chain_told) delegation_started g.delegations u k))
    (λ x k. on_lifted_then {B = Start} Overflow (set_updated chain_told x) _ StartedIn (λ s. AreStarted s.state) (updated_carried RunFromStarts starts_carried x k) (λ z j. j))

pub start_is_started : (r : Replayed) → AreStarted r.start.state
start_is_started r = from_if (λ x. AreStarted x.state) (chain_started r.genesis) r.start r.started (genesis_is_started r.genesis)

pub runs_are_started : (r : Replayed) → AreStarted (run_in r).state
runs_are_started r =
    let s : IsWellStarted r.start = started_well r in
    run_started s.sound.few.some s.sound.few.few r.blocks (total_in r.start.state.view) r.start.state r.input.coins (to_fits r.start.state s.sound) (start_is_started r)
    (room r.start.state.view.ctx.height (length r.blocks) s.height r.input.few)
