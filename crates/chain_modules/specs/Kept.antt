-- What the modules keep, and the states of the machine for which it stands.
use Rattle.std.specs.Prelude.{◌≡◌, ℕ, List}
use Rattle.base_roles.specs.declared.bank.Ground.{Ground}
use Rattle.base_roles.specs.declared.entities.RedelegationEntry.{RedelegationEntry}
use Rattle.base_roles.specs.declared.entities.UnbondingEntry.{UnbondingEntry}
use Rattle.base_roles.specs.declared.facts.Fact.{Fact}
use Rattle.chain_modules.specs.declared.listening.Listening as listening
use Rattle.base_roles.specs.declared.pair.HookPair as pair
use Rattle.base_roles.specs.declared.params.Ctx.{Ctx}
use Rattle.base_roles.specs.Ground.{seen}
use Rattle.base_roles.specs.Holdings.{Holdings}
use Rattle.base_roles.specs.Hooks.{Tells}
use Rattle.base_roles.specs.Pair.{pair_tells}
use Rattle.base_roles.specs.World.{View}
use Rattle.rule_modules.specs.Chain.{State, Stakes, shared_in, window_in}
use Rattle.rule_modules.specs.Distribution.{Shared}
use Rattle.rule_modules.specs.StepLaws.{AreWhole}
use Rattle.rule_modules.specs.Sound.{IsSound}
use Rattle.mod_bank.specs.Booked.{Booked}
use Rattle.mod_staking.specs.Registered.{new_register}
use Rattle.mod_staking.specs.Scenes.{IsScene}
use Rattle.mod_entries.specs.Kept as entries
use Rattle.mod_slashing.specs.declared.views.Core as staking
use Rattle.mod_signing.specs.Kept.{Kept, Windowed, new_window}
use Rattle.mod_signing.specs.Stands.{Signings, KeepsSignings, HoldsSignings, signings_told}
use Rattle.mod_distribution.specs.Kept.{KeptShared, Distributed, new_distributed}
use Rattle.mod_distribution.specs.Stands.{KeepsShared}
use Rattle.mod_distribution.specs.Tells.{distribution_tells}
use Rattle.chain_modules.specs.declared.modules.Modules.{Modules}

-- ---- what is kept

-- what staking is seen as: validators and delegations, unbonding entries, redelegation entries
abbrev pub StakesSeen : Type 0
StakesSeen = staking.Core (entries.Kept (List ℕ × List ℕ) UnbondingEntry) (entries.Kept (List ℕ × List ℕ × List ℕ) RedelegationEntry)

-- what the hooks are seen as: distribution, to which a listener listens, and the signing records
abbrev pub HooksSeen : Type 0 → Type 0
HooksSeen E = pair.HookPair (pair.HookPair Distributed (listening.Listening E)) Windowed

-- What each module keeps, without its marks, and apart from where calls happen and what was told.
pub record Parts : Type 0 where
  pub bank : Holdings
  pub stakes : Stakes
  pub shared : KeptShared
  pub signings : Kept

-- what modules keep, without their marks
pub record KeptState : Type 0 where
  pub stakes : Stakes
  pub shared : KeptShared
  pub signings : Kept
  pub view : View

-- the same over a context and facts
abbrev pub kept_over : Parts → Ctx → List Fact → KeptState
kept_over parts ctx facts = record {
  stakes = parts.stakes;
  shared = parts.shared;
  signings = parts.signings;
  view = record { bank = parts.bank; ctx = ctx; facts = facts };
}

-- validators, delegations and entries as they stand
abbrev pub stakes_kept : StakesSeen → Stakes
stakes_kept s = record { staked = s.staking.staked; unbondings = s.unbondings.lists; redelegations = s.redelegations.lists }

abbrev pub parts_of : {E : Type 0} → Modules E → Parts
parts_of m = record {
  bank = m.ground.bank.holdings;
  stakes = stakes_kept m.stakes;
  shared = m.hooks.first.first.kept;
  signings = m.hooks.second.kept;
}

abbrev pub kept_of : {E : Type 0} → Modules E → KeptState
kept_of m = kept_over (parts_of m) m.ground.ctx m.ground.facts

-- who listens to them
abbrev pub listener_of : {E : Type 0} → Modules E → E
listener_of m = m.hooks.first.second.listener

-- the ground that modules stand on
abbrev pub ground_of : {E : Type 0} → Modules E → View
ground_of m = seen (λ (b : Booked). b.holdings) m.ground

-- ---- the states for which it stands

-- What is kept represents a plain state: of rewards all is kept that is referred to, of votes the last ones of the window in
-- rings, and all else as it is. A state's log is an output of rules that no call has.
pub record Keeps (k : KeptState) (p : State) : Type 0 where
  pub stakes : p.mine ≡ k.stakes
  pub shared : KeepsShared k.shared (shared_in p)
  pub signings : KeepsSignings k.view.ctx.params.signed_blocks_window k.signings (window_in p)
  pub view : p.view ≡ k.view

-- It stands for a state of the machine: it represents it, and the state is sound.
pub record StandsFor (k : KeptState) (p : State) : Type 0 where
  pub keeps : Keeps k p
  pub sound : IsSound p

-- Within a block it stands whole for one: entries that were made at its height lost nothing to a slash, since all slashes of a block
-- come before its first entry. No row of a state tells so; the next block, at its own height, has no entry yet.
pub record StandsWhole (k : KeptState) (p : State) : Type 0 where
  pub keeps : Keeps k p
  pub sound : IsSound p
  pub whole : AreWhole p

-- ---- the modules

-- Staking has the power reduction of the parameters.
abbrev pub AreSet : {E : Type 0} → Modules E → Type 0
AreSet m = m.stakes.staking.power_reduction ≡ m.ground.ctx.params.power_reduction

-- What holds of modules between two steps of a block that are carried out whole or not at all: they stand whole for some state of the
-- machine.
pub record AreSteady {E : Type 0} (m : Modules E) : Type 0 where
  pub power : AreSet m
  pub state : State
  pub stands : StandsWhole (kept_of m) state

-- what the hooks hold, and what they tell: distribution, then the signing records on what that leaves
abbrev pub hooks_hold : {E : Type 0} → HooksSeen E → Shared × Signings → Type 0
hooks_hold h held = KeepsShared h.first.first.kept held.0 × HoldsSignings h.second.kept held.1

abbrev pub hooks_tell : Tells (Shared × Signings)
hooks_tell = pair_tells distribution_tells signings_told

-- The scene of staking's calls: its records are sound, hooks stand for them, the two staking accounts hold at least what is owed to
-- validators, and staking has the power reduction of the parameters.
pub record IsStakeScene {E : Type 0} (m : Modules E) : Type 0 where
  pub power : AreSet m
  pub scene : IsScene hooks_tell (hooks_hold m.hooks) (ground_of m) m.stakes.staking.staked

-- Modules over a ground of which none but the bank has records.
pub record IsNewOver {E : Type 0} (g : Ground Booked) (m : Modules E) : Type 0 where
  pub ground : m.ground ≡ g
  pub staking : m.stakes.staking ≡ new_register g.ctx.params.power_reduction
  pub unbondings : m.stakes.unbondings ≡ entries.nothing_kept
  pub redelegations : m.stakes.redelegations ≡ entries.nothing_kept
  pub shared : m.hooks.first.first ≡ new_distributed
  pub signings : m.hooks.second ≡ new_window
