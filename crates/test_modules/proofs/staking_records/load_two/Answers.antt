use Rattle.test_modules.proofs.staking_records.load_two.Goals as goal

pub load_delegation-requires : goal.load_delegation-requires
load_delegation-requires g c = c.in_ok-load_validator-in-Some-Validator-Some-Delegation.ensures.room _ _ 0
