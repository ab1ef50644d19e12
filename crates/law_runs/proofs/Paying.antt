-- What the blocks of every replay pay, put together.
use Rattle.law_rewards.proofs.Told.{rewards_are_told}
use Rattle.law_runs.{specs.Paying.RunsPayFairly, proofs.{Going.runs_go_fairly, Payees.payees_are_of_the_moment}}
use Rattle.law_runs.proofs.Reading.{runs_tell_fairly}

pub runs_pay_fairly : RunsPayFairly
runs_pay_fairly = record { payments = runs_go_fairly; told = runs_tell_fairly; payees = payees_are_of_the_moment; asked = rewards_are_told }
