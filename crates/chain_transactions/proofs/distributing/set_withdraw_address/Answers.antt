use Rattle.std.proofs.Common.{◌≡◌, refl}
use Rattle.chain_modules.specs.declared.modules.Modules.{Modules}
use Rattle.chain_transactions.proofs.{CallLemmas.payee_well, GoLemmas.ground_stays}
use Rattle.chain_transactions.proofs.distributing.set_withdraw_address.Goals as goal

pub returns-clause-ends : goal.returns-clause-ends
returns-clause-ends g c =
    let old : Modules g.row.E.Denot = c.args.modules.now in
    let after = c.set_withdraw.new in
    let m = c.args.m.now in
    let new : Modules g.row.E.Denot = record { ground = record { bank = old.ground.bank; ctx = old.ground.ctx; facts = after.facts }; stakes = old.stakes; hooks = record { first = record { first = after.self; second = record { listener = old.hooks.first.second.listener } }; second = old.hooks.second } } in
    let same : new.ground ≡ old.ground = λ i. record { bank = old.ground.bank; ctx = old.ground.ctx; facts = c.set_withdraw.ensures.untold i } in
    payee_well g.E.StakingHooks.marks old new c.requires.steady refl refl (ground_stays old new same) m.delegator m.withdraw c.set_withdraw.result same c.set_withdraw.ensures.set c.set_withdraw.ensures.goes_on
