use Rattle.std.proofs.Common.{refl}
use Rattle.chain_modules.specs.declared.modules.Modules.{Modules}
use Rattle.chain_transactions.proofs.{CallLemmas.edit_well, GoLemmas.ground_stays}
use Rattle.chain_transactions.proofs.staking.edit_validator.Goals as goal

pub returns-clause-ends : goal.returns-clause-ends
returns-clause-ends g c =
    let old : Modules g.row.E.Denot = c.args.modules.now in
    let after = c.edit_validator.new in
    let new : Modules g.row.E.Denot = record { ground = after.g; stakes = record { staking = after.self; unbondings = old.stakes.unbondings; redelegations = old.stakes.redelegations }; hooks = old.hooks } in
    edit_well g.E.StakingHooks.marks old new c.requires.steady refl refl refl (ground_stays old new c.edit_validator.ensures.ground) c.args.m.now c.edit_validator.result c.edit_validator.ensures.told c.edit_validator.ensures.register
