use Rattle.chain_modules.proofs.marks.forget_stakes.Goals as goal

pub forget-requires : goal.forget-requires
forget-requires g c = c.requires.staking

pub forget-requires-2 : goal.forget-requires-2
forget-requires-2 g c = c.requires.unbondings

pub forget-requires-3 : goal.forget-requires-3
forget-requires-3 g c = c.requires.redelegations

pub returns-clause-closed : goal.returns-clause-closed
returns-clause-closed g c = record { staked = c.forget.ensures.closed; unbondings = c.forget-2.ensures.closed; redelegations = c.forget-3.ensures.closed }

pub returns-clause-same : goal.returns-clause-same
returns-clause-same g c = λ i. record { staked = c.forget.ensures.kept i; unbondings = c.forget-2.ensures.kept i; redelegations = c.forget-3.ensures.kept i }

pub returns-clause-settled : goal.returns-clause-settled
returns-clause-settled g c = λ i. record { staked = c.forget.ensures.settled i; unbondings = c.forget-2.ensures.settled i; redelegations = c.forget-3.ensures.settled i }
