-- Slashes, votes and evidence carry on what the rules of distribution do.
use Rattle.std.proofs.Common.{[], ◌++◌, refl, IfOk}
use Rattle.base_roles.specs.{declared.messages.{Evidence.Evidence, Vote.Vote}, Log.Log, World.World}
use Rattle.base_roles.specs.Log as log
use Rattle.rule_modules.specs.Chain.{Stakes, State, beside_window, staked_in, vote_step, evidence_step}
use Rattle.rule_modules.{specs.{Distribution.Shared, Slashing.slash_fraction}, proofs.GoingLemmas.weaker_if}
use Rattle.rule_modules.proofs.SlashParts.{GoesThroughPunishing, evidence_goes, vote_goes, event_put}
use Rattle.rule_modules.proofs.BesideLemmas.{raised}
use Rattle.law_rewards.proofs.Carried.{IsCarried, unbonded_kept, ended_kept}

module _ (Q : Shared → Log → Type 0) (carries : IsCarried Q) where
  -- so it is in a state, and where the window stands beside
  abbrev AreCarried : State → Type 0
  AreCarried w = Q w.hooks.0 w.log

  abbrev CarriedAll : World Stakes Shared → Type 0
  CarriedAll w = Q w.hooks w.log

  carried_on : GoesThroughPunishing (λ w y. CarriedAll w → CarriedAll y)
  carried_on = record {
    slashes = record {
      stays = λ w r. r;
      goes_on = λ w x y p q r. q (p r);
      entries = λ operator infraction factor w r. r;
      following = λ delegator operator from tokens w r. r;
      target = λ operator who t v held part w z is again has within same r. unbonded_kept Q carries v who held part (raised [] (staked_in w)) (z.0, raised [] z.1) (same []) r;
      empty = λ operator v burn w is none within r. r;
      itself = λ operator v burn w z is some within e r.
          carries.plain (event_put v (slash_fraction burn v.tokens) z) (w.log ++ z.3) v.operator (log.slashed burn v.tokens (slash_fraction burn v.tokens)) tt
          (carries.same z.1 (event_put v (slash_fraction burn v.tokens) z) (w.log ++ z.3) refl refl (ended_kept Q carries v w.hooks w.view z w.log e r));
    };
    jails = λ cons v w is r. r;
    bans = λ v w r. r;
  }

  pub vote_carried : (t : Vote) (w : State) → AreCarried w → IfOk (vote_step t w) AreCarried
  vote_carried t w r = weaker_if (vote_step t w) (λ x. CarriedAll (beside_window w) → CarriedAll (beside_window x)) AreCarried (vote_goes (λ u y. CarriedAll u → CarriedAll y) carried_on t w) (λ x k. k r)

  pub evidence_carried : (ev : Evidence) (w : State) → AreCarried w → IfOk (evidence_step ev w) AreCarried
  evidence_carried ev w r = weaker_if (evidence_step ev w) (λ x. CarriedAll (beside_window w) → CarriedAll (beside_window x)) AreCarried (evidence_goes (λ u y. CarriedAll u → CarriedAll y) carried_on ev w) (λ x k. k r)
