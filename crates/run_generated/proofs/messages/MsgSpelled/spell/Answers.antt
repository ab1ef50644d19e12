use Rattle.run_generated.proofs.messages.MsgSpelled.spell.Goals as goal

pub returns-in-CreateValidator-clause-ok : goal.returns-in-CreateValidator-clause-ok
returns-in-CreateValidator-clause-ok c = rw c.in-CreateValidator.is c.spell-in-CreateValidator.ensures.ok

pub returns-in-Delegate-clause-ok : goal.returns-in-Delegate-clause-ok
returns-in-Delegate-clause-ok c = rw c.in-Delegate.is c.spell-in-Delegate.ensures.ok

pub returns-in-Undelegate-clause-ok : goal.returns-in-Undelegate-clause-ok
returns-in-Undelegate-clause-ok c = rw c.in-Undelegate.is c.spell-in-Undelegate.ensures.ok

pub returns-in-BeginRedelegate-clause-ok : goal.returns-in-BeginRedelegate-clause-ok
returns-in-BeginRedelegate-clause-ok c = rw c.in-BeginRedelegate.is c.spell-in-BeginRedelegate.ensures.ok

pub returns-in-CancelUnbonding-clause-ok : goal.returns-in-CancelUnbonding-clause-ok
returns-in-CancelUnbonding-clause-ok c = rw c.in-CancelUnbonding.is c.spell-in-CancelUnbonding.ensures.ok

pub returns-in-UpdateParams-clause-ok : goal.returns-in-UpdateParams-clause-ok
returns-in-UpdateParams-clause-ok c = rw c.in-UpdateParams.is c.spell-in-UpdateParams.ensures.ok
