-- A reward that is asked for: the hook before shares change may be called.
use Rattle.std.proofs.Common.{◌≡◌, ◌∙◌, ℕ, ◌^◌, ◌<◌, ◌≤◌, List, Option, Some, None, Result, Ok, ap, is_some}
use Rattle.base_roles.specs.declared.{entities.Validator.Validator, refusal.Refusal.Refusal}
use Rattle.base_roles.specs.{declared.refusal.Refusal.TheVariants.{NoValidator, NoDelegation}, Hooks.MayCall}
use Rattle.base_roles.specs.{Staked.{Staked, delegation, lists_of, validator_at}, Flow.{◌>>=◌, or_stop}}
use Rattle.base_roles.specs.declared.calls.Hook.TheVariants.{Modifying as modifying}
use Rattle.rule_modules.{proofs.SoundLemmas.to_points, specs.{Chain.State, Sound.IsSound}}
use Rattle.law_soundness.proofs.Within.{shares_some, shares_within}
use Rattle.mod_distribution.specs.{Stands.KeepsShared, Tells.distribution_tells}
use Rattle.chain_modules.specs.{declared.modules.Modules.Modules, Kept.{Keeps, ground_of, kept_of}}
use Rattle.chain_modules.proofs.SceneLemmas.{hooked_kept, stand_shared}
use Rattle.chain_transactions.specs.Answers.{delegation_asked}

-- a validator and a delegation that stand
pub record IsAsked (who operator : List ℕ) (s : Staked) (x : Validator × ℕ) : Type 0 where
  pub found : validator_at s operator ≡ Some x.0
  pub held : delegation s who operator ≡ Some x.1

pub asked_is : (who operator : List ℕ) (s : Staked) (x : Validator × ℕ) → delegation_asked who operator s ≡ Ok x → IsAsked who operator s x
asked_is who operator s x e = let both = by (validator_at s operator) (delegation s who operator) e in record { found = both.0; held = both.1 }
  where
    one : (y z : Validator × ℕ) → ◌≡◌ {A = Result (Validator × ℕ) Refusal} (Ok y) (Ok z) → y ≡ z
    one y z q = cc

    by : (a : Option Validator) (b : Option ℕ) → ◌≡◌ {A = Result (Validator × ℕ) Refusal} (or_stop a NoValidator >>= λ val. or_stop b NoDelegation >>= λ shares. Ok (val, shares)) (Ok x) → (a ≡ Some x.0) × (b ≡ Some x.1)
    by (Some a) (Some b) q = let same = one (a, b) x q in (ap (λ y. Some y.0) same, ap (λ y. Some y.1) same)
    by (Some a) None q = absurd cc
    by None b q = absurd cc

pub may_ask : {E : Type 0} (m : Modules E) (p : State) → Keeps (kept_of m) p → IsSound p → (who operator : List ℕ) (x : Validator × ℕ) → delegation_asked who operator m.stakes.staking.staked ≡ Ok x
    → MayCall (KeepsShared m.hooks.first.first.kept) distribution_tells (modifying x.0 who x.1) (ground_of m)
may_ask m p k s who operator x e =
    let staked = m.stakes.staking.staked in
    let asked = asked_is who operator staked x e in
    let sound = (hooked_kept m p k s).sound in
    let points = to_points sound.0 staked sound.1 in
    let stand = stand_shared m p k s in
    let own = points.operators operator x.0 asked.found in (
      stand.0,
      (
        stand.1.0,
        (
          lists_of staked,
          record {
            stand = stand.1.1;
            needs = (
              ap (λ o. is_some (delegation staked who o)) own ∙ ap is_some asked.held,
              shares_some sound.0 staked who operator x.1 sound.1 asked.held,
              shares_within sound.0 staked who operator x.0 x.1 sound.1 asked.found asked.held,
            );
            tokens = (points.validators operator x.0 asked.found).tokens;
          },
        ),
      ),
    )

-- shares that a listener may hear of
pub record AreFitting (x : Validator × ℕ) : Type 0 where
  pub some : 0 < x.1
  pub most : x.1 ≤ x.0.shares
  pub tokens : x.0.tokens ≤ 10 ^ 18

pub asked_fits : {E : Type 0} (m : Modules E) (p : State) → Keeps (kept_of m) p → IsSound p → (who operator : List ℕ) (x : Validator × ℕ) → delegation_asked who operator m.stakes.staking.staked ≡ Ok x → AreFitting x
asked_fits m p k s who operator x e =
    let staked = m.stakes.staking.staked in
    let asked = asked_is who operator staked x e in
    let sound = (hooked_kept m p k s).sound in
    let points = to_points sound.0 staked sound.1 in
    record {
      some = shares_some sound.0 staked who operator x.1 sound.1 asked.held;
      most = shares_within sound.0 staked who operator x.0 x.1 sound.1 asked.found asked.held;
      tokens = (points.validators operator x.0 asked.found).tokens;
    }
