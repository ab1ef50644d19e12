use Rattle.std.proofs.Common.{refl}
use Rattle.base_roles.specs.Ground.{CanBeUndone}
use Rattle.mod_bank.specs.Booked.{behind}
use Rattle.chain_modules.specs.declared.modules.Modules.{Modules}
use Rattle.chain_transactions.proofs.{CallLemmas.send_well, GoLemmas.transfers_follow}
use Rattle.chain_transactions.proofs.moving.send.Goals as goal

pub returns-clause-ends : goal.returns-clause-ends
returns-clause-ends g c =
    let old : Modules g.row.E.Denot = c.args.modules.now in
    let after = c.transfer.new in
    let m = c.args.m.now in
    let new : Modules g.row.E.Denot = record { ground = record { bank = after.self; ctx = old.ground.ctx; facts = after.facts }; stakes = old.stakes; hooks = old.hooks } in
    let undone : CanBeUndone behind old.ground new.ground
    = record { marks = c.transfer.ensures.behind; ctx = refl; facts = transfers_follow m.from m.to m.coins old.ground.bank.holdings after.self.holdings old.ground.facts after.facts c.transfer.result c.transfer.ensures.transfers } in
    send_well g.E.StakingHooks.marks old new c.requires.steady m.from m.to m.coins c.transfer.result refl refl undone c.len.ensures.money c.transfer.ensures.transfers
