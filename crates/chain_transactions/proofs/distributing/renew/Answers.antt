use Rattle.std.proofs.Common.{◌≡◌, Ok, refl}
use Rattle.chain_modules.specs.declared.modules.Modules.{Modules}
use Rattle.chain_transactions.{specs.Answers.delegation_asked, proofs.{AskLemmas.may_ask, CallLemmas.reward_well}}
use Rattle.chain_transactions.proofs.distributing.renew.Goals as goal

pub withdraw_reward-requires : goal.withdraw_reward-requires
withdraw_reward-requires g c =
    let old : Modules g.row.E.Denot = c.args.modules.now in
    let m = c.args.m.now in
    let asked : delegation_asked m.delegator m.validator old.stakes.staking.staked ≡ Ok (c.args.v.now, c.args.shares) = c.requires.asked in
    let s = c.requires.steady in
    record { may = may_ask old s.state s.stands.keeps s.stands.sound m.delegator m.validator (c.args.v.now, c.args.shares) asked }

pub returns-clause-ends : goal.returns-clause-ends
returns-clause-ends g c =
    let old : Modules g.row.E.Denot = c.args.modules.now in
    let m = c.args.m.now in
    let asked : delegation_asked m.delegator m.validator old.stakes.staking.staked ≡ Ok (c.args.v.now, c.args.shares) = c.requires.asked in
    let after = c.withdraw_reward.new in
    let new : Modules g.row.E.Denot = record { ground = after.g; stakes = old.stakes; hooks = record { first = record { first = after.self; second = record { listener = old.hooks.first.second.listener } }; second = old.hooks.second } } in
    let done = c.in_ok-withdraw_reward in
    reward_well g.E.StakingHooks.marks old new c.requires.steady refl refl c.withdraw_reward.ensures.undone m.delegator m.validator (c.args.v.now, c.args.shares) (Ok done.field-0) asked done.ensures.withdrawn done.ensures.goes_on
