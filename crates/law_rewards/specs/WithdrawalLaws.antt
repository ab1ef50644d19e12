-- Laws of withdrawals: which steps pay fairly, and that payments are told.
use Rattle.std.specs.Prelude.{◌≡◌, ℕ, ◌-◌, ◌*◌, ◌^◌, ◌≤◌, List, [], ◌∷◌, ◌++◌, is_some, IfOk, Some, None, Ok}
use Rattle.base_coins.specs.Coins.{Money, IsMoney, amount_of, smaller_of, whole_coins, fractions}
use Rattle.base_roles.specs.declared.entities.Validator.{Validator}
use Rattle.base_roles.specs.declared.facts.Fact.{Fact}
use Rattle.base_roles.specs.declared.facts.Fact.TheVariants as fact
use Rattle.base_roles.specs.declared.messages.Evidence.{Evidence}
use Rattle.base_roles.specs.declared.messages.Vote.{Vote}
use Rattle.base_roles.specs.Log.{Log}
use Rattle.base_roles.specs.Log as log
use Rattle.base_roles.specs.Staked.{validator_at, delegation}
use Rattle.base_roles.specs.World.{View, noted}
use Rattle.rule_modules.specs.Amounts.{over_facts}
use Rattle.rule_modules.specs.Chain.{State, shared_in, vote_step, evidence_step}
use Rattle.rule_modules.specs.Distribution.{Shared, ended, reward_due, reward_withdrawn, payee_of, paid_to}
use Rattle.rule_modules.specs.Effects.{withdraw_reward}
use Rattle.rule_modules.specs.Ideal.{Span, Brackets, span_of, history_of, overclaim_of}
use Rattle.rule_modules.specs.StepLaws.{KeptByStep, KeptByMessages, KeptByBlocks}
use Rattle.rule_modules.specs.Periods.{periods_of, ratio_at}
use Rattle.rule_modules.specs.Purses.{purse_of, pooled_told}
use Rattle.rule_modules.specs.Sound.{IsSound}
use Rattle.law_rewards.specs.States.{AreReached}
use Rattle.law_rewards.specs.Withdrawals.{raised_in, outstanding_in, IsFairReward, IsCloseToIdeal, AreFair, payments_of, payments_in, AreSent}

-- In a state whose accounts are reached, what is outstanding for each validator is what its
-- history comes to.
abbrev pub OutstandingIsLogged : Type 0
OutstandingIsLogged =
    (w : State) (d : List ℕ) (v : Validator) → AreReached w
    → validator_at w.mine.staked v.operator ≡ Some v
    → amount_of (purse_of (shared_in w).purses v.operator).outstanding d
    ≡ outstanding_in d (history_of v.operator w.log [])

-- ---- a withdrawal

-- A withdrawal is fair. The period ends first. The reward in full up to it has a span in the log of then, and in each
-- denomination lies in the bracket of that span. What is outstanding then cuts it by at most the overclaim of then. The
-- smaller of the two is what leaves: its whole coins go to the payee of before, its fractions join
-- the pool, and just that is told. Behind the period's end the log has who withdrew, the payee, the
-- reward in full and what is outstanding then.
pub record IsFairWithdrawal (w : State) (v : Validator) (who : List ℕ) (shares : ℕ) (answer : Money × Shared × View × Log) : Type 0 where
  pub period : ℕ
  pub closed : Shared
  pub ground : View
  pub more : Log
  pub ends : ended v (shared_in w) w.view ≡ Ok (period, closed, ground, more)
  pub full : Money
  pub due : reward_due v who shares (shared_in w) w.view ≡ Ok (full, closed, ground, more)
  pub full_is : IsMoney full
  pub span : Span
  pub is : span_of who (history_of v.operator (w.log ++ more) []) None ≡ Some span
  pub bracketed : (d : List ℕ) → Brackets d span (amount_of full d)
  pub cut : (d : List ℕ) → 10 ^ 18 * (amount_of full d - amount_of (purse_of closed.purses v.operator).outstanding d)
      ≤ overclaim_of d (history_of v.operator (w.log ++ more) []) (ratio_at (periods_of closed.rewards v.operator).ratios period)
  pub outstanding_is : (d : List ℕ) → amount_of (purse_of closed.purses v.operator).outstanding d
      ≡ outstanding_in d (history_of v.operator (w.log ++ more) [])
  pub ratio_is : (d : List ℕ) → amount_of (ratio_at (periods_of closed.rewards v.operator).ratios period) d ≡ raised_in d (history_of v.operator (w.log ++ more) [])
  pub payee_is : payee_of closed who ≡ payee_of (shared_in w) who
  pub reward : Money
  pub reward_is : reward ≡ smaller_of full (purse_of closed.purses v.operator).outstanding
  pub coins_are : answer.0 ≡ whole_coins reward
  pub told : answer.2 ≡ noted (fact.Paid who v.operator (payee_of closed who) reward answer.0)
      (over_facts (pooled_told (fractions reward)) (paid_to (payee_of closed who) answer.0 ground))
  pub logged : answer.3 ≡ more ++ (
    v.operator,
    log.withdrawn who (payee_of closed who) full (purse_of closed.purses v.operator).outstanding,
  ) ∷ []

-- In a sound state whose accounts are reached, each withdrawal of a delegation's reward is fair, whether a message asks for
-- it or a delegation changes.
abbrev pub WithdrawalsAreFair : Type 0
WithdrawalsAreFair =
    (w : State) (v : Validator) (who : List ℕ) (shares : ℕ) (answer : Money × Shared × View × Log) → IsSound w → AreReached w
    → validator_at w.mine.staked v.operator ≡ Some v → delegation w.mine.staked who v.operator ≡ Some shares
    → reward_withdrawn v who shares (shared_in w) w.view ≡ Ok answer → IsFairWithdrawal w v who shares answer

-- so it is with each fair withdrawal, in each denomination
abbrev pub FairPaymentsAreClose : Type 0
FairPaymentsAreClose =
    (l : Log) (who operator : List ℕ) (full outstanding : Money)
    (f : IsFairReward l who operator full outstanding) (d : List ℕ)
    → IsCloseToIdeal l who operator full outstanding f d

-- In a sound state whose accounts are reached a delegator's rewards run, by the log, exactly where
-- it has a delegation.
abbrev pub RewardsRunWhereHeld : Type 0
RewardsRunWhereHeld =
    (w : State) (who : List ℕ) (v : Validator) → IsSound w → AreReached w
    → validator_at w.mine.staked v.operator ≡ Some v
    → is_some (span_of who (history_of v.operator w.log []) None)
    ≡ is_some (delegation w.mine.staked who v.operator)

-- A message adds a payment of a delegation's reward to the facts, last but for its new start. It goes to the payee of the
-- state before.
pub record TellsPayment (who operator : List ℕ) (old new : State) : Type 0 where
  pub told : List Fact
  pub facts_are : new.view.facts ≡ old.view.facts ++ told
  pub before : List Fact
  pub reward : Money
  pub coins : Money
  pub period : ℕ
  pub stake : ℕ
  pub told_is : told
      ≡ before ++ fact.Paid who operator (payee_of (shared_in old) who) reward coins ∷ fact.Started who operator period stake ∷ []

-- so a message that asks for a reward, and is not refused, tells a payment
abbrev pub RewardsAreTold : Type 0
RewardsAreTold = (who operator : List ℕ) (w : State) → IsSound w → IfOk (withdraw_reward who operator w) (TellsPayment who operator w)

-- A step adds to the log and to the facts. Each entry that it adds is fair by the log up to it; the
-- payments that it tells are those of the withdrawals that it logs, one for one and in their order;
-- and right before each its coins are sent.
pub record PaysFairly (old new : State) : Type 0 where
  pub more : Log
  pub log_is : new.log ≡ old.log ++ more
  pub told : List Fact
  pub facts_are : new.view.facts ≡ old.view.facts ++ told
  pub fair : AreFair old.log more
  pub payments : payments_in told ≡ payments_of more
  pub sent : AreSent old.view.facts told

-- so it is where accounts were reached before the step
abbrev pub PaysWhereReached : State → State → Type 0
PaysWhereReached old new = AreReached old → PaysFairly old new

-- Each message that is not refused pays fairly, and so does the fee.
abbrev pub MessagesPayFairly : Type 0
MessagesPayFairly = KeptByMessages PaysWhereReached

-- So do a vote and a piece of evidence, whose slash unbonds what was redelegated, at each target.
abbrev pub VotesPayFairly : Type 0
VotesPayFairly = (t : Vote) → KeptByStep PaysWhereReached (vote_step t)

abbrev pub EvidencePaysFairly : Type 0
EvidencePaysFairly = (e : Evidence) → KeptByStep PaysWhereReached (evidence_step e)

-- So do all parts of a block.
abbrev pub BlocksPayFairly : Type 0
BlocksPayFairly = KeptByBlocks PaysWhereReached
