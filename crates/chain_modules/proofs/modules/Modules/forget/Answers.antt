use Rattle.chain_modules.proofs.modules.Modules.forget.Goals as goal

pub forget-requires : goal.forget-requires
forget-requires g c = c.requires.open.bank

pub forget-requires-2 : goal.forget-requires-2
forget-requires-2 g c = c.requires.open.staked

pub forget-requires-3 : goal.forget-requires-3
forget-requires-3 g c = c.requires.open.unbondings

pub forget-requires-4 : goal.forget-requires-4
forget-requires-4 g c = c.requires.open.redelegations

pub forget-requires-5 : goal.forget-requires-5
forget-requires-5 g c = c.requires.open.shared

pub forget-requires-6 : goal.forget-requires-6
forget-requires-6 g c = c.requires.listener

pub forget-requires-7 : goal.forget-requires-7
forget-requires-7 g c = c.requires.open.signings

pub returns-clause-closed : goal.returns-clause-closed
returns-clause-closed g c = record {
  bank = c.forget.ensures.closed;
  stakes = record { staked = c.forget-2.ensures.closed; unbondings = c.forget-3.ensures.closed; redelegations = c.forget-4.ensures.closed };
  shared = c.forget-5.ensures.closed;
  signings = c.forget-7.ensures.closed;
}

pub returns-clause-same : goal.returns-clause-same
returns-clause-same g c = λ i. record {
  stakes = record { staked = c.forget-2.ensures.kept i; unbondings = c.forget-3.ensures.kept i; redelegations = c.forget-4.ensures.kept i };
  shared = c.forget-5.ensures.kept i;
  signings = c.forget-7.ensures.kept i;
  view = record { bank = c.forget.ensures.kept i; ctx = c.args.self.now.ground.ctx; facts = c.args.self.now.ground.facts };
}

pub returns-clause-settled : goal.returns-clause-settled
returns-clause-settled g c = λ i. record {
  bank = c.forget.ensures.settled i;
  stakes = record { staked = c.forget-2.ensures.settled i; unbondings = c.forget-3.ensures.settled i; redelegations = c.forget-4.ensures.settled i };
  shared = c.forget-5.ensures.settled i;
  signings = c.forget-7.ensures.settled i;
}
