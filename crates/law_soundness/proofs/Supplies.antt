-- Each atomic step lowers each supply by what its facts say was burned, and by nothing else.
use Rattle.std.proofs.Common.{◌≡◌, Some, Result, refl, Contains, IfOk}
use Rattle.std.proofs.lemmas.List.Elements.{recursion_from_All}
use Rattle.base_roles.specs.{Staked.validator_by_cons, declared.entities.Validator.Validator}
use Rattle.law_soundness.proofs.{Allocating.allocation_fits, Bonding.set_step_fits, Burns.total_in}
use Rattle.law_soundness.proofs.{Creating.create_fits, Delegating.delegate_fits}
use Rattle.law_soundness.proofs.Ending.{redelegations_fit, unbondings_fit}
use Rattle.law_soundness.proofs.{Leaving.{cancel_fits, to_whole, undelegate_fits}, Maturing.maturing_fits}
use Rattle.law_soundness.proofs.Moves.{fee_fits, keeps_supplies, payee_fits, send_fits}
use Rattle.law_soundness.proofs.{Points.{StateFits, StateLeft, to_fits}, Pool.{commission_fits, fund_fits, spend_fits}}
use Rattle.law_soundness.proofs.{Redelegating.redelegate_fits, Rewards.reward_fits, Standing.{edit_fits, unjail_fits}}
use Rattle.law_soundness.proofs.{Steps.weaker_if, Updating.updates_burn_nothing}
use Rattle.law_soundness.proofs.Voting.{EvidenceLeft, VoteLeft, evidence_fits, vote_fits}
use Rattle.rule_modules.specs.Chain.{State, allocation_step, evidence_step, maturing_step, redelegations_step, set_step, unbondings_step, vote_step}
use Rattle.rule_modules.specs.Effects.{begin_redelegate, cancel_unbonding, community_pool_spend, create_validator, delegate, edit_validator, fee_paid, fund_community_pool, send, set_withdraw_address, undelegate, unjail, withdraw_commission, withdraw_reward}
use Rattle.rule_modules.specs.StepLaws.{KeptByBlocks, KeptByMessages, OnlyBurnsLowerSupplies, SupplyFallsByBurns}
use Rattle.rule_modules.specs.Sound.{IsSound}

-- what a step leaves of a sound state, and what was there with what was burned
abbrev FitsStill : (w : State) → IsSound w → State → Type 0
FitsStill w s x = StateFits (Contains s.few.some) (total_in w.view) x

falls : {E : Type 0} (w : State) (s : IsSound w) (r : Result State E) → IfOk r (FitsStill w s) → IfOk r (SupplyFallsByBurns w)
falls w s r h = weaker_if r (FitsStill w s) (SupplyFallsByBurns w) h (λ x k. k.stake.ground.total)

by_messages : KeptByMessages SupplyFallsByBurns
by_messages = record {
  fees = λ payer fee m. keeps_supplies (fee_paid payer fee) (λ P T w h. fee_fits P T payer fee m w h);
  sends = λ from to coins m. keeps_supplies (send from to coins) (λ P T w h. send_fits P T from to coins m w h);
  creates = λ m. keeps_supplies (create_validator m) (λ P T w h. create_fits P T m w h);
  edits = λ m. keeps_supplies (edit_validator m) (λ P T w h. edit_fits P T m w h);
  delegates = λ who operator coin. keeps_supplies (delegate who operator coin) (λ P T w h. delegate_fits P T who operator coin w h);
  undelegates = λ who operator coin w s whole.
      falls w s (undelegate who operator coin w)
      (weaker_if (undelegate who operator coin w) (StateLeft (Contains s.few.some) (total_in w.view) w) (FitsStill w s)
      (undelegate_fits (Contains s.few.some) (total_in w.view) who operator coin w (to_fits w s) (to_whole w whole)) (λ x k. k.fits));
  redelegates = λ who source target coin. keeps_supplies (begin_redelegate who source target coin) (λ P T w h. redelegate_fits P T who source target coin w h);
  cancels = λ who operator coin height. keeps_supplies (cancel_unbonding who operator coin height) (λ P T w h. cancel_fits P T who operator coin height w h);
  unjails = λ operator. keeps_supplies (unjail operator) (λ P T w h. unjail_fits P T operator w h);
  withdraws = λ who operator. keeps_supplies (withdraw_reward who operator) (λ P T w h. reward_fits P T who operator w h);
  commissions = λ operator. keeps_supplies (withdraw_commission operator) (λ P T w h. commission_fits P T operator w h);
  payees = λ who to. keeps_supplies (set_withdraw_address who to) (λ P T w h. payee_fits P T who to w h);
  funds = λ who coins m. keeps_supplies (fund_community_pool who coins) (λ P T w h. fund_fits P T who coins m w h);
  spends = λ authority to coins m. keeps_supplies (community_pool_spend authority to coins) (λ P T w h. spend_fits P T authority to coins m w h);
  updates = λ authority p w s. updates_burn_nothing authority p w;
}

by_blocks : KeptByBlocks SupplyFallsByBurns
by_blocks = record {
  next = λ height time w s later few since before d. refl;
  allocates = λ votes w s known.
      falls w s (allocation_step votes w)
      (weaker_if (allocation_step votes w) (StateLeft (Contains s.few.some) (total_in w.view) w) (FitsStill w s)
      (allocation_fits (Contains s.few.some) (total_in w.view) votes w (to_fits w s) (recursion_from_All (λ t. (v : Validator) × (validator_by_cons w.mine.staked t.cons ≡ Some v)) votes known.known))
      (λ x k. k.fits));
  votes = λ t w s power fewer.
      falls w s (vote_step t w)
      (weaker_if (vote_step t w) (VoteLeft (Contains s.few.some) (total_in w.view) t.cons w) (FitsStill w s) (vote_fits (Contains s.few.some) (total_in w.view) t w (to_fits w s) fewer) (λ x k. k.fits));
  evidence = λ e w s power least below before.
      falls w s (evidence_step e w)
      (weaker_if (evidence_step e w) (EvidenceLeft (Contains s.few.some) (total_in w.view) w) (FitsStill w s) (evidence_fits (Contains s.few.some) (total_in w.view) e w (to_fits w s)) (λ x k. k.fits));
  sets = keeps_supplies set_step (λ P T w h. set_step_fits P T w h);
  matures = keeps_supplies maturing_step (λ P T w h. maturing_fits P T w h);
  pays = λ w s.
      falls w s (unbondings_step w)
      (weaker_if (unbondings_step w) (λ x. FitsStill w s x × (x.view.ctx ≡ w.view.ctx)) (FitsStill w s) (unbondings_fit (Contains s.few.some) (total_in w.view) w (to_fits w s)) (λ x k. k.0));
  ends = λ w s.
      falls w s (redelegations_step w)
      (weaker_if (redelegations_step w) (λ x. FitsStill w s x × (x.view.ctx ≡ w.view.ctx)) (FitsStill w s) (redelegations_fit (Contains s.few.some) (total_in w.view) w (to_fits w s)) (λ x k. k.0));
}

pub only_burns_lower_supplies : OnlyBurnsLowerSupplies
only_burns_lower_supplies = (by_messages, by_blocks)
