use Rattle.law_rewards.proofs.Unfair.{nothing_is_unfair, twice_is_unfair, other_outstanding_is_unfair, again_is_unfair, unpaid_start_is_unfair, unsent_is_unfair, gone_unpaid_is_unfair}
use Rattle.law_rewards.proofs.worked.unfair_payments.Goals as goal

pub returns-clause-nothing : goal.returns-clause-nothing
returns-clause-nothing c = nothing_is_unfair

pub returns-clause-twice : goal.returns-clause-twice
returns-clause-twice c = twice_is_unfair

pub returns-clause-other : goal.returns-clause-other
returns-clause-other c = other_outstanding_is_unfair

pub returns-clause-again : goal.returns-clause-again
returns-clause-again c = again_is_unfair

pub returns-clause-unpaid : goal.returns-clause-unpaid
returns-clause-unpaid c = unpaid_start_is_unfair

pub returns-clause-unsent : goal.returns-clause-unsent
returns-clause-unsent c = unsent_is_unfair

pub returns-clause-gone : goal.returns-clause-gone
returns-clause-gone c = gone_unpaid_is_unfair
