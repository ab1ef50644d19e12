-- Under hooks that do nothing a delegation of the genesis does the same whatever they hold: what rules do over validators,
-- delegations and a ground alone.
use Rattle.std.proofs.Common.{◌≡◌, ◌∙◌, ℕ, ◌+◌, List, [], Option, Some, None, Result, Ok, Err, refl, ap, unwrap_or}
use Rattle.base_roles.specs.declared.{entities.Validator.Validator, refusal.Refusal.{Refusal, TheVariants.NoValidator}}
use Rattle.base_roles.specs.{NoHooks.nothing_told, Staked.{Staked, validator_at, delegation, put_validator}}
use Rattle.base_roles.specs.{Flow.{◌>>=◌, or_stop}, World.{View, World}}
use Rattle.base_messages.specs.declared.genesis.GenesisDelegation.{GenesisDelegation}
use Rattle.rule_modules.specs.{Delegating.{Origin, pool, shares_given, paid_in, delegated}, Stakes.put_delegation}
use Rattle.base_types.specs.declared.status.BondStatus.TheVariants.{Unbonded}
use Rattle.rule_machine.specs.{Founding.no_hook, GenesisState.delegation_added}

-- validators and delegations over a ground, and what hooks hold, without a log
abbrev pub over : {H : Type 0} → H → Staked → View → World Staked H
over h s v = record { mine = s; hooks = h; view = v; log = [] }

-- hooks hold this in the place of nothing
abbrev pub raised : {A H : Type 0} → H → Result (A × World Staked (Unit {0})) Refusal → Result (A × World Staked H) Refusal
raised h (Ok p) = Ok (p.0, over h p.1.mine p.1.view)
raised h (Err why) = Err why

-- validators and delegations of what a rule leaves
abbrev pub as_staked : {A H : Type 0} → H → Result (A × World Staked (Unit {0})) Refusal → Result (World Staked H) Refusal
as_staked h (Ok p) = Ok (over h p.1.mine p.1.view)
as_staked h (Err why) = Err why

-- the stake after an amount was delegated
abbrev pub grown_stake : Validator → List ℕ → ℕ → ℕ → Staked → Staked
grown_stake x delegator amount issued s =
    put_delegation delegator x.operator (unwrap_or (delegation s delegator x.operator) 0 + issued)
    (put_validator (record x { tokens = x.tokens + amount; shares = x.shares + issued }) s)

module _ {H : Type 0} (h : H) where
  pub delegated_raised : (x : Validator) (delegator : List ℕ) (amount : ℕ) (origin : Origin) (s : Staked) (v : View)
      → delegated no_hook x delegator amount origin (over h s v) ≡ raised h (delegated nothing_told.told x delegator amount origin (over tt s v))
  delegated_raised x delegator amount origin s v = by (shares_given x amount) (paid_in origin delegator x.status amount v)
    where
      by : (given : Result ℕ Refusal) (paid : Result View Refusal)
          → (given >>= λ issued. paid >>= λ u. Ok (issued, over h (grown_stake x delegator amount issued s) u))
          ≡ raised h (given >>= λ issued. paid >>= λ u. Ok (issued, over tt (grown_stake x delegator amount issued s) u))
      by (Ok issued) (Ok u) = refl
      by (Ok issued) (Err why) = refl
      by (Err why) paid = refl

  -- a delegation of the genesis: the keeper's rule, from the not-bonded account
  pub delegation_added_is : (d : GenesisDelegation) (s : Staked) (v : View)
      → delegation_added no_hook d (over h s v)
      ≡ (or_stop (validator_at s d.validator) NoValidator >>= λ x. as_staked h (delegated nothing_told.told x d.delegator d.amount (pool Unbonded) (over tt s v)))
  delegation_added_is d s v = by (validator_at s d.validator)
    where
      done : (r : Result (ℕ × World Staked (Unit {0})) Refusal) → ◌≡◌ {A = Result (World Staked H) Refusal} (raised h r >>= λ p. Ok p.1) (as_staked h r)
      done (Ok p) = refl
      done (Err why) = refl

      by : (found : Option Validator)
          → ◌≡◌ {A = Result (World Staked H) Refusal} (or_stop found NoValidator >>= λ x. delegated no_hook x d.delegator d.amount (pool Unbonded) (over h s v) >>= λ p. Ok p.1)
          (or_stop found NoValidator >>= λ x. as_staked h (delegated nothing_told.told x d.delegator d.amount (pool Unbonded) (over tt s v)))
      by None = refl
      by (Some x) =
          ap (λ (r : Result (ℕ × World Staked H) Refusal). r >>= λ p. Ok p.1) (delegated_raised x d.delegator d.amount (pool Unbonded) s v)
          ∙ done (delegated nothing_told.told x d.delegator d.amount (pool Unbonded) (over tt s v))
