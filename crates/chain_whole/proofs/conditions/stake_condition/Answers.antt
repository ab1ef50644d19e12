use Rattle.chain_whole.proofs.ConditionLemmas.{holds_among, delegation_tests, amount_tests}
use Rattle.chain_whole.proofs.conditions.stake_condition.Goals as goal

pub returns-in-Some-clause-number : goal.returns-in-Some-clause-number
returns-in-Some-clause-number c = let g = c.args.genesis.now in
    holds_among (delegation_tests g) (amount_tests g) c.in_ok-delegation_condition.field-0 c.in-Some.number c.in-Some.is c.in_ok-delegation_condition.ensures.number
