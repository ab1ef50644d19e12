use Rattle.std.proofs.Common.{ap}
use Rattle.store_loading.proofs.NewLemmas.{bank_none, bank_unmarked, redelegations_none, shared_none, signings_none, staking_none, unbondings_none}
use Rattle.store_loading.proofs.modules.load_modules.Goals as goal

pub load_all-requires : goal.load_all-requires
load_all-requires g c = record {
  own = c.requires.own;
  none = bank_none c.args.modules.now.ground.ctx c.args.modules.now c.requires.empty;
  unmarked = bank_unmarked c.args.modules.now.ground.ctx c.args.modules.now c.requires.empty;
}

pub load_staking-requires : goal.load_staking-requires
load_staking-requires g c = record {
  own = c.requires.own;
  none = staking_none c.args.modules.now.ground.ctx c.args.modules.now c.requires.empty;
  unmarked = ap (λ s. s.marks) c.requires.empty.staking;
}

pub load_all-requires-2 : goal.load_all-requires-2
load_all-requires-2 g c = record {
  own = c.requires.own;
  none = unbondings_none c.args.modules.now.ground.ctx c.args.modules.now c.requires.empty;
  unmarked = ap (λ s. s.marks) c.requires.empty.unbondings;
}

pub load_all-requires-3 : goal.load_all-requires-3
load_all-requires-3 g c = record {
  own = c.requires.own;
  none = redelegations_none c.args.modules.now.ground.ctx c.args.modules.now c.requires.empty;
  unmarked = ap (λ s. s.marks) c.requires.empty.redelegations;
}

pub load_all-requires-4 : goal.load_all-requires-4
load_all-requires-4 g c = record {
  own = c.requires.own;
  none = shared_none c.args.modules.now.ground.ctx c.args.modules.now c.requires.empty;
  unmarked = ap (λ s. s.marks) c.requires.empty.shared;
}

pub load_all-requires-5 : goal.load_all-requires-5
load_all-requires-5 g c = record {
  own = c.requires.own;
  none = signings_none c.args.modules.now.ground.ctx c.args.modules.now c.requires.empty;
  unmarked = ap (λ s. s.marks) c.requires.empty.signings;
}
