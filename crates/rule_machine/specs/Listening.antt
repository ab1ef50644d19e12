-- What a listener hears beside the machine. It stands behind distribution at the hooks of staking, hears each call over the ground
-- that distribution leaves, and changes nothing: without what it heard, each step here is the machine's.
use Rattle.std.specs.Prelude.{ℕ, List, [], ◌∷◌, length, Option, Some, None, Result, Ok, Err}
use Rattle.base_decimals.specs.declared.over.Over.{Over}
use Rattle.base_roles.specs.declared.entities.Validator.{Validator}
use Rattle.base_roles.specs.declared.messages.CreateValidator.{CreateValidator}
use Rattle.base_roles.specs.declared.messages.Evidence.{Evidence}
use Rattle.base_roles.specs.declared.messages.Vote.{Vote}
use Rattle.base_roles.specs.declared.refusal.Refusal.{Refusal}
use Rattle.base_roles.specs.declared.refusal.Refusal.TheVariants.{Overflow}
use Rattle.base_roles.specs.Flow.{◌>>=◌, each, stopping}
use Rattle.base_roles.specs.Pair.{and_then, given_with}
use Rattle.base_roles.specs.Staked.{delegation, validator_at}
use Rattle.base_roles.specs.World.{View, Told, gives, World}
use Rattle.base_roles.specs.declared.calls.Hook.{Hook}
use Rattle.base_roles.specs.declared.calls.Hook.TheVariants.{Modified as modified}
use Rattle.base_coins.specs.declared.coin.Coin.{Coin}
use Rattle.base_messages.specs.declared.block.Block.{Block}
use Rattle.base_messages.specs.declared.block.Tx.{Tx}
use Rattle.base_messages.specs.declared.genesis.Genesis.{Genesis}
use Rattle.base_messages.specs.declared.message.Msg.{Msg}
use Rattle.base_messages.specs.declared.message.Msg.TheVariants as msg
use Rattle.rule_modules.specs.BondedSet.{set_updated, validators_matured}
use Rattle.rule_modules.specs.Chain.{State, Stakes, allocation_step, redelegations_step, shared_in, staked_in, unbondings_step, window_in, with_staked}
use Rattle.rule_modules.specs.Delegating.{delegated_by}
use Rattle.rule_modules.specs.Distribution.{Shared, distribution_told}
use Rattle.rule_modules.specs.Effects.{fee_paid, withdraw_reward}
use Rattle.rule_modules.specs.Evidence.{equivocation_handled, window_bans}
use Rattle.rule_modules.specs.Laws.{next_block}
use Rattle.rule_modules.specs.Redelegations.{redelegated}
use Rattle.rule_modules.specs.Slashing.{core_slashes, plain_slash}
use Rattle.rule_modules.specs.Unbondings.{cancelled, undelegated}
use Rattle.rule_modules.specs.Validators.{created}
use Rattle.rule_modules.specs.Window.{Window, voted, window_told}
use Rattle.rule_machine.specs.GenesisState.{empty_over, ground_at_start, stake_added, without_facts}
use Rattle.rule_machine.specs.Messages.{effect_of}

-- ---- states with what was heard

-- what hooks hold, with what a listener heard behind distribution
abbrev pub Overheard : Type 0 → Type 0
Overheard P = (Shared × P) × Window

-- all records, the ground and the log, and what was heard
abbrev pub Hearing : Type 0 → Type 0
Hearing P = World Stakes (Overheard P)

module _ {P : Type 0} where
  -- the state without what was heard
  abbrev pub unheard : Hearing P → State
  unheard w = record { mine = w.mine; hooks = (w.hooks.0.0, w.hooks.1); view = w.view; log = w.log }

  abbrev pub heard_in : Hearing P → P
  heard_in w = w.hooks.0.1

  -- a state, and what was heard
  abbrev pub hearing : P → State → Hearing P
  hearing p w = record { mine = w.mine; hooks = ((shared_in w, p), window_in w); view = w.view; log = w.log }

  -- a step of the machine that calls no hook
  abbrev pub silently : {E : Type 0} → (State → Result State E) → Hearing P → Result (Hearing P) E
  silently step w = do
    u ← step (unheard w)
    Ok (hearing (heard_in w) u)

  -- the state without the window, which a vote and evidence change beside it, and again with one
  abbrev pub beside_window : Hearing P → World Stakes (Shared × P)
  beside_window w = record { mine = w.mine; hooks = w.hooks.0; view = w.view; log = w.log }

  abbrev pub with_window : Window → World Stakes (Shared × P) → Hearing P
  with_window i w = record { mine = w.mine; hooks = (w.hooks, i); view = w.view; log = w.log }

-- what a listener has heard after one more call of a hook over a ground
module _ {P : Type 0} (hears : P → Hook → View → P) where
  -- distribution's hooks, and the listener behind them
  abbrev pub shared_told : Shared × P → Hook → View → Told (Shared × P)
  shared_told s hook v = and_then (distribution_told s.0 hook v) (λ d w log. gives (d, hears s.1 hook w) w log)

  -- the chain's hooks: these, then the window's on what that leaves
  abbrev pub overheard_told : Overheard P → Hook → View → Told (Overheard P)
  overheard_told s hook v = and_then (shared_told s.0 hook v) (λ d w log. given_with d log (window_told s.1 hook w))

  -- ---- messages

  -- The rewards of a delegation that stands start anew; distribution starts them itself, and of the hooks of staking the listener
  -- alone is called.
  abbrev pub restart_heard : Option Validator → Option ℕ → List ℕ → View → P → P
  restart_heard (Some v) (Some shares) delegator view p = hears p (modified v delegator shares) view
  restart_heard None shares delegator view p = p
  restart_heard (Some v) None delegator view p = p

  abbrev pub reward_heard : List ℕ → List ℕ → Hearing P → Result (Hearing P) Refusal
  reward_heard delegator operator w = do
    u ← withdraw_reward delegator operator (unheard w)
    Ok (hearing (restart_heard (validator_at w.mine.staked operator) (delegation w.mine.staked delegator operator) delegator u.view (heard_in w)) u)

  abbrev pub creation_heard : CreateValidator → Hearing P → Result (Hearing P) Refusal
  creation_heard m w = do
    (done, s) ← created overheard_told m (staked_in w)
    Ok (with_staked w.mine s)

  abbrev pub delegation_heard : List ℕ → List ℕ → Coin → Hearing P → Result (Hearing P) Refusal
  delegation_heard delegator operator coin w = do
    (issued, s) ← delegated_by overheard_told delegator operator coin (staked_in w)
    Ok (with_staked w.mine s)

  abbrev pub undelegation_heard : List ℕ → List ℕ → Coin → Hearing P → Result (Hearing P) Refusal
  undelegation_heard delegator operator coin w = do
    (completes, u, s) ← undelegated overheard_told delegator operator coin w.mine.unbondings (staked_in w)
    Ok (with_staked (record w.mine { unbondings = u }) s)

  abbrev pub redelegation_heard : List ℕ → List ℕ → List ℕ → Coin → Hearing P → Result (Hearing P) Refusal
  redelegation_heard delegator source target coin w = do
    (done, r, s) ← redelegated overheard_told delegator source target coin w.mine.redelegations (staked_in w)
    Ok (with_staked (record w.mine { redelegations = r }) s)

  abbrev pub cancellation_heard : List ℕ → List ℕ → Coin → ℕ → Hearing P → Result (Hearing P) Refusal
  cancellation_heard delegator operator coin height w = do
    (done, u, s) ← cancelled overheard_told delegator operator coin height w.mine.unbondings (staked_in w)
    Ok (with_staked (record w.mine { unbondings = u }) s)

  -- Messages about delegations and new validators call hooks, and a withdrawal of a reward the listener; the others none.
  abbrev pub effect_heard : Msg → Hearing P → Result (Hearing P) Refusal
  effect_heard (msg.CreateValidator m) = creation_heard m
  effect_heard (msg.Delegate m) = delegation_heard m.delegator m.validator m.amount
  effect_heard (msg.Undelegate m) = undelegation_heard m.delegator m.validator m.amount
  effect_heard (msg.BeginRedelegate m) = redelegation_heard m.delegator m.source m.target m.amount
  effect_heard (msg.CancelUnbonding m) = cancellation_heard m.delegator m.validator m.amount m.creation_height
  effect_heard (msg.WithdrawReward m) = reward_heard m.delegator m.validator
  effect_heard m = silently (effect_of m)

  -- ---- transactions

  -- messages in order, up to the first that is refused
  abbrev pub messages_heard : List Msg → Hearing P → Result (Hearing P) Refusal
  messages_heard [] w = Ok w
  messages_heard (m ∷ ms) w = do
    u ← effect_heard m w
    messages_heard ms u

  -- what was heard of messages that stand together; where one is refused nothing was
  abbrev pub stands_heard : Hearing P → Result (Hearing P) Refusal → Hearing P
  stands_heard paid (Ok w) = w
  stands_heard paid (Err why) = paid

  -- the same behind a fee that is paid, or not
  abbrev pub paid_heard : List Msg → Hearing P → Result (Hearing P) Refusal → Hearing P
  paid_heard msgs w (Ok paid) = stands_heard paid (messages_heard msgs paid)
  paid_heard msgs w (Err why) = w

  -- ---- the beginning and the end of a block

  abbrev pub vote_heard : Vote → Hearing P → Result (Hearing P) Over
  vote_heard t w = do
    (counted, i, u) ← voted (core_slashes shared_told plain_slash) t w.hooks.1 (beside_window w)
    Ok (with_window i u)

  abbrev pub evidence_heard : Evidence → Hearing P → Result (Hearing P) Over
  evidence_heard e w = do
    (punished, i, u) ← equivocation_handled (core_slashes shared_told plain_slash) window_bans e w.hooks.1 (beside_window w)
    Ok (with_window i u)

  -- the beginning of a block
  abbrev pub beginning_heard : List Vote → List Evidence → Hearing P → Result (Hearing P) Over
  beginning_heard votes evidence w = do
    w1 ← silently (allocation_step votes) w
    w2 ← each vote_heard votes w1
    each evidence_heard evidence w2

  -- the bonded set is made anew
  abbrev pub set_heard : Hearing P → Result (Hearing P) Over
  set_heard w = do
    s ← set_updated overheard_told (staked_in w)
    Ok (with_staked w.mine s)

  abbrev pub maturing_heard : Hearing P → Result (Hearing P) Over
  maturing_heard w = do
    s ← validators_matured overheard_told (staked_in w)
    Ok (with_staked w.mine s)

  -- the end of a block
  abbrev pub ending_heard : Hearing P → Result (Hearing P) Over
  ending_heard w = do
    w1 ← set_heard w
    w2 ← maturing_heard w1
    w3 ← silently unbondings_step w2
    silently redelegations_step w3

  -- ---- a genesis

  -- Validators, then delegations, then the bonded set, from what was heard before.
  abbrev pub genesis_heard : Genesis → P → Result (Hearing P) Refusal
  genesis_heard g p = do
    let w = hearing p (empty_over (ground_at_start g))
    w1 ← stake_added overheard_told g (staked_in w)
    w2 ← stopping Overflow (set_updated overheard_told w1)
    let done = with_staked w.mine w2
    Ok (hearing (heard_in done) (without_facts (unheard done)))

  -- ---- blocks

  -- what it has heard after a part of a block that told so many facts, and after a block
  module _ (parted : P → ℕ → P) (ended : P → P) where
    -- a part of a block has ended, whose facts these are
    abbrev pub part_heard : Hearing P → Hearing P
    part_heard w = hearing (parted (heard_in w) (length w.view.facts)) (without_facts (unheard w))

    -- a transaction, from a state without facts
    abbrev pub tx_heard : Tx → Hearing P → Hearing P
    tx_heard tx w = part_heard (paid_heard tx.msgs w (silently (fee_paid tx.payer tx.fee) w))

    abbrev pub txs_heard : List Tx → Hearing P → Hearing P
    txs_heard [] w = w
    txs_heard (tx ∷ txs) w = txs_heard txs (tx_heard tx w)

    -- A block: its beginning, its transactions and its end, each a part of it.
    abbrev pub block_heard : Block → Hearing P → Result (Hearing P) Over
    block_heard b w = do
      begun ← beginning_heard b.votes b.evidence (hearing (heard_in w) (without_facts (next_block b.height b.time (unheard w))))
      last ← ending_heard (txs_heard b.txs (part_heard begun))
      Ok (hearing (ended (heard_in last)) (without_facts (unheard last)))
