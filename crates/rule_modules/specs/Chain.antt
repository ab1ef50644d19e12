-- All records together, and what a block does at its beginning and its end (Cosmos SDK: `BeginBlocker` and `EndBlocker` of
-- the four modules, in this order).
use Rattle.std.specs.Prelude.{List, ◌++◌, Result, Ok}
use Rattle.base_decimals.specs.declared.over.Over.{Over}
use Rattle.base_roles.specs.declared.messages.Evidence.{Evidence}
use Rattle.base_roles.specs.declared.messages.Vote.{Vote}
use Rattle.base_roles.specs.Log.{Log}
use Rattle.base_roles.specs.Pair.{and_then, given_with}
use Rattle.base_roles.specs.Staked.{Staked}
use Rattle.base_roles.specs.Flow.{◌>>=◌, each}
use Rattle.base_roles.specs.World.{View, Told, World, over_mine, over_view}
use Rattle.base_roles.specs.declared.calls.Hook.{Hook}
use Rattle.rule_modules.specs.Allocation.{fees_allocated}
use Rattle.rule_modules.specs.BondedSet.{set_updated, validators_matured}
use Rattle.rule_modules.specs.Distribution.{Shared, distribution_told}
use Rattle.rule_modules.specs.Evidence.{window_bans, equivocation_handled}
use Rattle.rule_modules.specs.Redelegations.{RedelegationLists, redelegations_completed}
use Rattle.rule_modules.specs.Slashing.{Core, plain_slash, core_slashes}
use Rattle.rule_modules.specs.Unbondings.{UnbondingLists, completed}
use Rattle.rule_modules.specs.Window.{Window, window_told, voted}

-- what hooks hold: distribution, then the window
abbrev pub Hooks : Type 0
Hooks = Shared × Window

-- what staking holds, as plain lists
abbrev pub Stakes : Type 0
Stakes = Core UnbondingLists RedelegationLists

-- all records, the ground and the log
abbrev pub State : Type 0
State = World Stakes Hooks

-- what distribution holds, of what the hooks hold
abbrev pub shared_in : State → Shared
shared_in w = w.hooks.0

-- and the window
abbrev pub window_in : State → Window
window_in w = w.hooks.1

-- the chain's hooks: distribution's, then the window's on what that leaves
abbrev pub chain_told : Hooks → Hook → View → Told Hooks
chain_told s h v = and_then (distribution_told s.0 h v) (λ d w log. given_with d log (window_told s.1 h w))

-- validators and delegations alone, and put back
abbrev pub staked_in : {H : Type 0} → World Stakes H → World Staked H
staked_in w = record { mine = w.mine.staked; hooks = w.hooks; view = w.view; log = w.log }

-- all records again, with other validators and delegations
abbrev pub with_staked : {H : Type 0} → Stakes → World Staked H → World Stakes H
with_staked c w = record { mine = record c { staked = w.mine }; hooks = w.hooks; view = w.view; log = w.log }

-- another state of distribution and of the ground, with what was logged
abbrev pub with_shared : Shared → View → Log → State → State
with_shared d v more w = record { mine = w.mine; hooks = (d, window_in w); view = v; log = w.log ++ more }

-- the state without the window, which a vote and evidence change beside it: there no validator becomes bonded
abbrev pub beside_window : State → World Stakes Shared
beside_window w = record { mine = w.mine; hooks = shared_in w; view = w.view; log = w.log }

-- the state again, with this window
abbrev pub with_window : Window → World Stakes Shared → State
with_window i w = record { mine = w.mine; hooks = (w.hooks, i); view = w.view; log = w.log }

-- the fees of a block
abbrev pub allocation_step : List Vote → State → Result State Over
allocation_step votes w = do
  (d, v, l) ← fees_allocated w.mine.staked votes (shared_in w) w.view
  Ok (with_shared d v l w)

-- one vote of a block
abbrev pub vote_step : Vote → State → Result State Over
vote_step t w = do
  (counted, i, u) ← voted (core_slashes distribution_told plain_slash) t (window_in w) (beside_window w)
  Ok (with_window i u)

-- one piece of evidence of a block
abbrev pub evidence_step : Evidence → State → Result State Over
evidence_step e w = do
  (punished, i, u) ← equivocation_handled (core_slashes distribution_told plain_slash) window_bans e (window_in w) (beside_window w)
  Ok (with_window i u)

-- Beginning a block: the fees are allocated, then the votes count, then the evidence is handled, each in order.
abbrev pub begin_block : List Vote → List Evidence → State → Result State Over
begin_block votes evidence w = do
  w1 ← allocation_step votes w
  w2 ← each vote_step votes w1
  each evidence_step evidence w2

-- the bonded set
abbrev pub set_step : State → Result State Over
set_step w = do
  s ← set_updated chain_told (staked_in w)
  Ok (with_staked w.mine s)

-- validators that are mature
abbrev pub maturing_step : State → Result State Over
maturing_step w = do
  s ← validators_matured chain_told (staked_in w)
  Ok (with_staked w.mine s)

-- unbondings that are mature are paid
abbrev pub unbondings_step : State → Result State Over
unbondings_step w = do
  let (u, v) = completed w.mine.unbondings w.view
  Ok (over_view (λ old. v) (over_mine (λ c. record c { unbondings = u }) w))

-- redelegations that are mature go
abbrev pub redelegations_step : State → Result State Over
redelegations_step w = Ok (over_mine (λ c. record c { redelegations = redelegations_completed w.view.ctx.time w.mine.redelegations }) w)

-- Ending a block: the bonded set; validators, unbondings and redelegations that are mature (`x/staking`:
-- `BlockValidatorUpdates`).
abbrev pub end_block : State → Result State Over
end_block w = do
  w1 ← set_step w
  w2 ← maturing_step w1
  w3 ← unbondings_step w2
  redelegations_step w3
