-- A genesis half way: what is left of it, and what its next step needs.
use Rattle.std.specs.Prelude.{◌≡◌, ◌<◌, false, List, None, Result, Ok, Err, All, IsSome}
use Rattle.base_roles.specs.declared.refusal.Refusal.{Refusal}
use Rattle.base_roles.specs.declared.refusal.Refusal.TheVariants.{Overflow}
use Rattle.base_types.specs.declared.status.BondStatus.TheVariants.{Unbonded}
use Rattle.base_roles.specs.Staked.{Staked, delegation, validator_at, validator_by_cons}
use Rattle.base_roles.specs.Flow.{◌>>=◌, each, stopping}
use Rattle.base_roles.specs.World.{View, World}
use Rattle.base_roles.specs.declared.calls.Hook.{Hook}
use Rattle.base_messages.specs.declared.genesis.Genesis.{Genesis}
use Rattle.base_messages.specs.declared.genesis.GenesisDelegation.{GenesisDelegation}
use Rattle.base_messages.specs.declared.genesis.GenesisValidator.{GenesisValidator}
use Rattle.rule_modules.specs.BondedSet.{set_updated}
use Rattle.rule_modules.specs.Chain.{State, Stakes, Hooks, chain_told, staked_in, with_staked}
use Rattle.rule_modules.specs.Delegating.{pool}
use Rattle.mod_staking.specs.Calls.{HasOrigin, HasRates}
use Rattle.rule_machine.specs.Founding.{IsStarting}
use Rattle.rule_machine.specs.GenesisConditions.{creation_of, has_pair_twice}
use Rattle.rule_machine.specs.GenesisState.{delegation_added, empty_over, ground_at_start, stake_added, validator_added}
use Rattle.chain_modules.specs.declared.modules.Modules.{Modules}
use Rattle.rule_machine.specs.Listening.{Overheard, overheard_told}
use Rattle.chain_modules.specs.Heard.{Hears}
use Rattle.chain_modules.specs.Kept.{KeptState, Keeps, AreSet, IsStakeScene, ground_of, kept_of}

-- staking in its world, over the machine's hooks
abbrev pub StakeWorld : Type 0
StakeWorld = World Staked Hooks

-- ---- what is left

-- the bonded set
abbrev pub set_left : StakeWorld → Result StakeWorld Refusal
set_left w = stopping Overflow (set_updated chain_told w)

-- these delegations, then the bonded set
abbrev pub delegations_left : List GenesisDelegation → StakeWorld → Result StakeWorld Refusal
delegations_left ds w = each (delegation_added chain_told) ds w >>= set_left

-- all of a genesis
abbrev pub whole : Genesis → Result StakeWorld Refusal
whole g = stake_added chain_told g (staked_in (empty_over (ground_at_start g))) >>= set_left

-- ---- half way

-- Modules before the first validator of a genesis: they represent a state of its accounts alone.
pub record IsEmpty {E : Type 0} (g : Genesis) (m : Modules E) : Type 0 where
  pub scene : IsStakeScene m
  pub keeps : Keeps (kept_of m) (empty_over (ground_at_start g))

-- the state of which staking is this, at the start: no entries stand
abbrev pub started_with : Genesis → StakeWorld → State
started_with g w = with_staked (empty_over (ground_at_start g)).mine w

-- Modules half way through a genesis, while these delegations are to come, of pairs that are not there yet: they represent a state from which
-- what is left leads to what the whole genesis does.
pub record AreAdding {E : Type 0} (g : Genesis) (ds : List GenesisDelegation) (left : StakeWorld → Result StakeWorld Refusal) (m : Modules E) : Type 0 where
  pub scene : IsStakeScene m
  pub world : StakeWorld
  pub keeps : Keeps (kept_of m) (started_with g world)
  pub starting : IsStarting ds world
  pub none : All (λ d. delegation world.mine d.delegator d.validator ≡ None) ds
  pub once : has_pair_twice ds ≡ false
  pub leads : left world ≡ whole g

-- Modules behind all of a genesis: they represent what it leads to.
pub record HaveStarted {E : Type 0} (g : Genesis) (m : Modules E) : Type 0 where
  pub power : AreSet m
  pub world : StakeWorld
  pub keeps : Keeps (kept_of m) (started_with g world)
  pub leads : whole g ≡ Ok world

-- the validators, the delegations and the bonded set of a genesis, with what is heard of them
abbrev pub founding_heard : {P : Type 0} → (P → Hook → View → P) → Genesis → World Staked (Overheard P) → Result (World Staked (Overheard P)) Refusal
founding_heard hears g s = stake_added (overheard_told hears) g s >>= λ t. stopping Overflow (set_updated (overheard_told hears) t)

-- What a step of a genesis gives with what was heard is represented beside these entries, and the listener holds what was heard.
abbrev pub StakesHeard : {E P : Type 0} → (E → P) → Stakes → Result (World Staked (Overheard P)) Refusal → Modules E → Type 0
StakesHeard heard c (Ok s) m = Hears heard Keeps m (with_staked c s)
StakesHeard heard c (Err why) m = ⊥

-- what a step of a genesis gives is represented, beside these entries
abbrev pub IsAdded : Stakes → Result StakeWorld Refusal → KeptState → Type 0
IsAdded c due k = (w : StakeWorld) × (due ≡ Ok w) × Keeps k (with_staked c w)

-- A validator may be added: its operator and its consensus address are new, and its rates are rates; and that is not refused.
pub record IsNextValidator {E : Type 0} (v : GenesisValidator) (m : Modules E) : Type 0 where
  pub scene : IsStakeScene m
  pub new : validator_at m.stakes.staking.staked v.operator ≡ None
  pub new_cons : validator_by_cons m.stakes.staking.staked v.cons ≡ None
  pub rates : HasRates (creation_of m.ground.ctx.params.bond_denom v)
  pub state : State
  pub keeps : Keeps (kept_of m) state
  pub sure : (u : StakeWorld) × (validator_added chain_told v (staked_in state) ≡ Ok u)

-- A delegation may be added: of something, to a validator that stands, of coins that the not-bonded account has besides; and that is not
-- refused.
pub record IsNextDelegation {E : Type 0} (d : GenesisDelegation) (m : Modules E) : Type 0 where
  pub scene : IsStakeScene m
  pub known : IsSome (validator_at m.stakes.staking.staked d.validator)
  pub some : 0 < d.amount
  pub origin : HasOrigin (pool Unbonded) d.amount m.stakes.staking.staked (ground_of m)
  pub state : State
  pub keeps : Keeps (kept_of m) state
  pub sure : (u : StakeWorld) × (delegation_added chain_told d (staked_in state) ≡ Ok u)
