-- What is asked of distribution for a delegation that stands, and what its answer says.
use Rattle.std.proofs.Common.{◌≡◌, ◌∙◌, ℕ, List, Option, Some, None, Result, Ok, Err, refl, sym, ap, subst, IsSome, is_some}
use Rattle.base_decimals.specs.declared.over.Over.{Over}
use Rattle.base_coins.specs.Coins.{Money}
use Rattle.base_roles.specs.declared.{entities.Validator.Validator, faults.HookFault.HookFault}
use Rattle.base_roles.specs.Staked.{delegation, lists_of, validator_at}
use Rattle.base_roles.specs.declared.faults.HookFault.TheVariants as hook
use Rattle.base_messages.specs.declared.report.Pending.{Pending}
use Rattle.rule_modules.{specs.{Chain.{State, Stakes, shared_in}, Distribution.pending}, proofs.SoundLemmas.to_points}
use Rattle.mod_periods.specs.Answers.{Gives}
use Rattle.mod_distribution.{specs.Calls.{AreShares, HasStarted}, proofs.ReadyLemmas.has_started}
use Rattle.rule_machine.specs.Report.{pending_at, unless_over}
use Rattle.law_soundness.proofs.Within.{shares_some, shares_within}
use Rattle.chain_modules.{specs.Kept.{KeptState, StandsFor}, proofs.SceneLemmas.distribution_stands}
use Rattle.chain_whole.specs.Pending.{pending_for}

module _ (k : KeptState) (p : State) (s : StandsFor k p) (who operator : List ℕ) (shares : ℕ) (is : delegation k.stakes.staked who operator ≡ Some shares) where
  standing : delegation p.mine.staked who operator ≡ Some shares
  standing = subst (λ (m : Stakes). delegation m.staked who operator ≡ Some shares) (sym s.keeps.stakes) is

  -- its validator stands
  pub is_known : IsSome (validator_at k.stakes.staked operator)
  is_known = subst (λ (m : Stakes). IsSome (validator_at m.staked operator)) s.keeps.stakes ((to_points p.view.ctx.height p.mine.staked s.sound.staked).existing (operator, who) shares standing)

  module _ (v : Validator) (found : validator_at k.stakes.staked operator ≡ Some v) where
    found_there : validator_at p.mine.staked operator ≡ Some v
    found_there = subst (λ (m : Stakes). validator_at m.staked operator ≡ Some v) (sym s.keeps.stakes) found

    pub own_operator : v.operator ≡ operator
    own_operator = (to_points p.view.ctx.height p.mine.staked s.sound.staked).operators operator v found_there

    -- its rewards are started
    pub is_started : HasStarted k.shared who v.operator
    is_started = subst (HasStarted k.shared who) (sym own_operator) (has_started k.shared (shared_in p) p.view (lists_of p.mine.staked) s.keeps.shared (distribution_stands p s.sound) who operator (ap is_some standing))

    -- and its shares are some of the validator's
    pub has_shares : AreShares v shares
    has_shares = record {
      tokens = ((to_points p.view.ctx.height p.mine.staked s.sound.staked).validators operator v found_there).tokens;
      some = shares_some p.view.ctx.height p.mine.staked who operator shares s.sound.staked standing;
      most = shares_within p.view.ctx.height p.mine.staked who operator v shares s.sound.staked found_there standing;
    }

    -- what the machine says of it, by what distribution answers
    pub pends : (coins : Option Money) → unless_over (pending v who shares (shared_in p) p.view) ≡ coins → ◌≡◌ {A = Pending} (record { delegator = who; operator = operator; coins = coins }) (pending_for p operator who shares)
    pends coins e = λ i. record { delegator = who; operator = operator; coins = (sym e ∙ sym (ap (λ (o : Option Validator). pending_at o who shares p) found_there)) i }

pub given_some : (r : Result Money Over) (coins : Money) → Gives r (Ok coins) → unless_over r ≡ Some coins
given_some (Ok due) coins h = ap Some (sym h)
given_some (Err over) coins h = absurd h

pub given_none : (r : Result Money Over) (fault : HookFault) (over : Over) → fault ≡ hook.Over over → Gives r (Err fault) → unless_over r ≡ None
given_none r fault over is h = by r (subst (λ (f : HookFault). Gives r (Err f)) is h)
  where
    by : (due : Result Money Over) → Gives due (Err (hook.Over over)) → unless_over due ≡ None
    by (Ok due) k = absurd k
    by (Err due) k = refl
