-- What the laws say of runs: wherever blocks lead to, accounts are reached.
use Rattle.std.specs.Prelude.{◌≡◌, [], ◌++◌}
use Rattle.base_roles.specs.Log.{Log}
use Rattle.rule_modules.specs.Chain.{State}
use Rattle.rule_machine.specs.Machine.{Step}
use Rattle.rule_machine.specs.Promises.{facts_of}
use Rattle.law_rewards.specs.Withdrawals.{AreFair, payments_in, payments_of, AreSent}

-- ---- payments

-- A block adds to the log. Each entry that it adds is fair by the log up to it; the payments among
-- its facts are those of the withdrawals that it logs, one for one and in their order; and right
-- before each its coins are sent to the payee.
pub record SaysFairly (old : State) (s : Step) : Type 0 where
  pub more : Log
  pub log_is : s.state.log ≡ old.log ++ more
  pub fair : AreFair old.log more
  pub payments : payments_in (facts_of s.report) ≡ payments_of more
  pub sent : AreSent [] (facts_of s.report)
