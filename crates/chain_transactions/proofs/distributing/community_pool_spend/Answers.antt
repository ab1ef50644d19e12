use Rattle.std.proofs.Common.{refl}
use Rattle.base_roles.specs.Staked.{lists_of}
use Rattle.chain_modules.{specs.declared.modules.Modules.Modules, proofs.SceneLemmas.stand_shared}
use Rattle.chain_transactions.proofs.CallLemmas.{spend_well}
use Rattle.chain_transactions.proofs.distributing.community_pool_spend.Goals as goal

pub spend-requires : goal.spend-requires
spend-requires g c = let s = c.requires.steady in record { stand = (lists_of c.args.modules.now.stakes.staking.staked, stand_shared c.args.modules.now s.state s.stands.keeps s.stands.sound) }

pub returns-clause-ends : goal.returns-clause-ends
returns-clause-ends g c =
    let old : Modules g.row.E.Denot = c.args.modules.now in
    let after = c.spend.new in
    let m = c.args.m.now in
    let new : Modules g.row.E.Denot = record { ground = after.g; stakes = old.stakes; hooks = record { first = record { first = after.self; second = record { listener = old.hooks.first.second.listener } }; second = old.hooks.second } } in
    spend_well g.E.StakingHooks.marks old new c.requires.steady refl refl c.spend.ensures.undone m.authority m.recipient m.coins c.spend.result c.len.ensures.money c.spend.ensures.spent c.spend.ensures.goes_on
