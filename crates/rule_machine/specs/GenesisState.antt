-- What a genesis with validators and delegations starts (Cosmos SDK: `InitGenesis` of `x/bank`, `x/staking`,
-- `x/distribution` and `x/slashing`).
use Rattle.std.specs.Prelude.{List, [], Result, Ok}
use Rattle.base_types.specs.declared.status.BondStatus.TheVariants.{Unbonded}
use Rattle.base_roles.specs.declared.facts.Fact.{Fact}
use Rattle.base_roles.specs.declared.refusal.Refusal.{Refusal}
use Rattle.base_roles.specs.declared.refusal.Refusal.TheVariants.{NoValidator, Overflow}
use Rattle.base_roles.specs.Staked.{Staked, validator_at}
use Rattle.base_roles.specs.Flow.{◌>>=◌, or_stop, stopping, each}
use Rattle.base_roles.specs.World.{World, View, Told, over_view}
use Rattle.base_roles.specs.declared.calls.Hook.{Hook}
use Rattle.base_messages.specs.declared.genesis.Genesis.{Genesis}
use Rattle.base_messages.specs.declared.genesis.GenesisDelegation.{GenesisDelegation}
use Rattle.base_messages.specs.declared.genesis.GenesisValidator.{GenesisValidator}
use Rattle.rule_modules.specs.Amounts.{over_facts}
use Rattle.rule_modules.specs.BondedSet.{set_updated}
use Rattle.rule_modules.specs.Chain.{State, chain_told, staked_in, with_staked}
use Rattle.rule_modules.specs.Delegating.{pool, delegated}
use Rattle.rule_modules.specs.Distribution.{nothing_shared}
use Rattle.rule_modules.specs.Validators.{new_validator, stored}
use Rattle.rule_machine.specs.Genesis.{held_at_start}
use Rattle.rule_machine.specs.GenesisConditions.{creation_of, accounts_at_start}

-- the ground before the first validator: what the accounts hold, at height 0 and the time of the genesis
abbrev pub ground_at_start : Genesis → View
ground_at_start g = record {
  bank = held_at_start (accounts_at_start g);
  ctx = record { height = 0; time = g.time; params = g.params };
  facts = [];
}

-- a state of no records over a ground
abbrev pub empty_over : View → State
empty_over v = record {
  mine = record { staked = record { validators = []; delegations = [] }; unbondings = []; redelegations = [] };
  hooks = (nothing_shared, []);
  view = v;
  log = [];
}

module _ {H : Type 0} (told : H → Hook → View → Told H) where
  -- A validator is there, unbonded and not jailed, without tokens, and its first hook is called (`InitGenesis`:
  -- `AfterValidatorCreated`).
  abbrev pub validator_added : GenesisValidator → World Staked H → Result (World Staked H) Refusal
  validator_added v w = stopping Overflow (stored told (new_validator (creation_of w.view.ctx.params.bond_denom v) w.view.ctx.time) w)

  -- A delegation to one of them, of coins that the not-bonded account has already, so that none move (`InitGenesis`:
  -- `BeforeDelegationCreated`, `AfterDelegationModified`).
  abbrev pub delegation_added : GenesisDelegation → World Staked H → Result (World Staked H) Refusal
  delegation_added d w = do
    v ← or_stop (validator_at w.mine d.validator) NoValidator
    (issued, u) ← delegated told v d.delegator d.amount (pool Unbonded) w
    Ok u

  -- validators, then delegations, each in order
  abbrev pub stake_added : Genesis → World Staked H → Result (World Staked H) Refusal
  stake_added g w = do
    u ← each (validator_added) g.validators w
    each (delegation_added) g.delegations u

-- the state without the facts that led to it
abbrev pub without_facts : State → State
without_facts w = over_view (over_facts (λ facts. [])) w

-- what a genesis tells, and the state that it starts
pub record Start : Type 0 where
  pub facts : List Fact
  pub state : State

-- Validators, then delegations, each in order, then the bonded set (`InitGenesis`: `ApplyAndReturnValidatorSetUpdates`).
-- That nothing is refused where no condition holds is a law.
abbrev pub chain_started : Genesis → Result Start Refusal
chain_started g = do
  let w = empty_over (ground_at_start g)
  w1 ← stake_added chain_told g (staked_in w)
  w2 ← stopping Overflow (set_updated chain_told w1)
  let done = with_staked w.mine w2
  Ok (record { facts = done.view.facts; state = without_facts done })
