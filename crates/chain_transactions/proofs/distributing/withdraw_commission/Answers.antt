use Rattle.std.proofs.Common.{Ok, refl}
use Rattle.base_roles.specs.Staked.{lists_of}
use Rattle.chain_modules.{specs.declared.modules.Modules.Modules, proofs.SceneLemmas.stand_shared}
use Rattle.chain_transactions.proofs.CallLemmas.{commission_well}
use Rattle.chain_transactions.proofs.distributing.withdraw_commission.Goals as goal

pub withdraw_commission-requires : goal.withdraw_commission-requires
withdraw_commission-requires g c = let s = c.requires.steady in record { stand = (lists_of c.args.modules.now.stakes.staking.staked, stand_shared c.args.modules.now s.state s.stands.keeps s.stands.sound) }

pub returns-clause-ends : goal.returns-clause-ends
returns-clause-ends g c =
    let old : Modules g.row.E.Denot = c.args.modules.now in
    let after = c.withdraw_commission.new in
    let new : Modules g.row.E.Denot = record { ground = after.g; stakes = old.stakes; hooks = record { first = record { first = after.self; second = record { listener = old.hooks.first.second.listener } }; second = old.hooks.second } } in
    let done = c.in_ok-withdraw_commission in
    commission_well g.E.StakingHooks.marks old new c.requires.steady refl refl c.withdraw_commission.ensures.undone c.args.m.now.validator (Ok done.field-0) done.ensures.withdrawn done.ensures.goes_on
