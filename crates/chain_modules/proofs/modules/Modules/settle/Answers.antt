use Rattle.std.proofs.Common.{ap}
use Rattle.chain_modules.specs.Marks.{Marks}
use Rattle.chain_modules.proofs.modules.Modules.settle.Goals as goal

pub settle-requires : goal.settle-requires
settle-requires g c = ap (λ (k : Marks). k.bank) c.requires.unmarked

pub settle-requires-2 : goal.settle-requires-2
settle-requires-2 g c = ap (λ (k : Marks). k.stakes.staked) c.requires.unmarked

pub settle-requires-3 : goal.settle-requires-3
settle-requires-3 g c = ap (λ (k : Marks). k.stakes.unbondings) c.requires.unmarked

pub settle-requires-4 : goal.settle-requires-4
settle-requires-4 g c = ap (λ (k : Marks). k.stakes.redelegations) c.requires.unmarked

pub settle-requires-5 : goal.settle-requires-5
settle-requires-5 g c = ap (λ (k : Marks). k.hooks.shared) c.requires.unmarked

pub settle-requires-6 : goal.settle-requires-6
settle-requires-6 g c = ap (λ (k : Marks). k.hooks.signings) c.requires.unmarked

pub returns-clause-settled : goal.returns-clause-settled
returns-clause-settled g c = λ i. record {
  bank = c.settle.ensures.settled i;
  stakes = record { staked = c.settle-2.ensures.settled i; unbondings = c.settle-3.ensures.settled i; redelegations = c.settle-4.ensures.settled i };
  shared = c.settle-5.ensures.settled i;
  signings = c.settle-6.ensures.settled i;
}

pub returns-clause-same : goal.returns-clause-same
returns-clause-same g c = λ i. record {
  stakes = record { staked = c.settle-2.ensures.kept i; unbondings = c.settle-3.ensures.kept i; redelegations = c.settle-4.ensures.kept i };
  shared = c.settle-5.ensures.kept i;
  signings = c.settle-6.ensures.kept i;
  view = record { bank = c.settle.ensures.kept i; ctx = c.args.self.now.ground.ctx; facts = c.args.self.now.ground.facts };
}

pub returns-clause-unmarked : goal.returns-clause-unmarked
returns-clause-unmarked g c = λ i. record {
  bank = c.settle.ensures.marks i;
  stakes = record { staked = c.settle-2.ensures.marks i; unbondings = c.settle-3.ensures.marks i; redelegations = c.settle-4.ensures.marks i };
  hooks = record { shared = c.settle-5.ensures.marks i; signings = c.settle-6.ensures.marks i };
}
