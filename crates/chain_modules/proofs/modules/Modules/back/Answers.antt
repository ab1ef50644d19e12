use Rattle.chain_modules.proofs.modules.Modules.back.Goals as goal

pub back-requires : goal.back-requires
back-requires g c = c.requires.open.bank

pub back-requires-2 : goal.back-requires-2
back-requires-2 g c = c.requires.open.staked

pub back-requires-3 : goal.back-requires-3
back-requires-3 g c = c.requires.open.unbondings

pub back-requires-4 : goal.back-requires-4
back-requires-4 g c = c.requires.open.redelegations

pub back-requires-5 : goal.back-requires-5
back-requires-5 g c = c.requires.open.shared

pub back-requires-6 : goal.back-requires-6
back-requires-6 g c = c.requires.listener

pub back-requires-7 : goal.back-requires-7
back-requires-7 g c = c.requires.open.signings

pub returns-clause-back : goal.returns-clause-back
returns-clause-back g c = λ i. record {
  bank = c.back.ensures.back i;
  stakes = record { staked = c.back-2.ensures.back i; unbondings = c.back-3.ensures.back i; redelegations = c.back-4.ensures.back i };
  hooks = record { shared = c.back-5.ensures.back i; signings = c.back-7.ensures.back i };
}

pub returns-clause-settled : goal.returns-clause-settled
returns-clause-settled g c = λ i. record {
  bank = c.back.ensures.settled i;
  stakes = record { staked = c.back-2.ensures.settled i; unbondings = c.back-3.ensures.settled i; redelegations = c.back-4.ensures.settled i };
  shared = c.back-5.ensures.settled i;
  signings = c.back-7.ensures.settled i;
}
