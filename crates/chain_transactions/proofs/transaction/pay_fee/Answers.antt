use Rattle.std.proofs.Common.{Ok, refl}
use Rattle.base_types.specs.declared.account.Account.TheVariants as account
use Rattle.base_types.specs.declared.account.Module.TheVariants as holder
use Rattle.base_roles.specs.Ground.{CanBeUndone}
use Rattle.mod_bank.specs.Booked.{behind}
use Rattle.chain_modules.specs.{Kept.kept_of, declared.modules.Modules.Modules, Marks.GoOn}
use Rattle.chain_transactions.proofs.{FeeLemmas.{fee_stands, fee_steady}, GoLemmas.{all_on, sends_follow}}
use Rattle.chain_transactions.proofs.HeldLemmas.{fee_sent}
use Rattle.chain_transactions.proofs.transaction.pay_fee.Goals as goal

pub returns-in-Ok-clause-paid : goal.returns-in-Ok-clause-paid
returns-in-Ok-clause-paid g c = λ p s yes.
    let old : Modules g.row.E.Denot = c.args.modules.now in
    let tx = c.args.tx.now in
    let new : Modules g.row.E.Denot = record { ground = record { bank = c.send.new.self; ctx = old.ground.ctx; facts = c.send.new.facts }; stakes = old.stakes; hooks = old.hooks } in
    fee_stands tx.payer tx.fee p (kept_of old) (kept_of new) c.len.ensures.money s (fee_sent old new p s refl refl refl refl tx.payer tx.fee c.in-Ok.ensures.sends)

pub returns-in-Ok-clause-steady : goal.returns-in-Ok-clause-steady
returns-in-Ok-clause-steady g c =
    let old : Modules g.row.E.Denot = c.args.modules.now in
    let tx = c.args.tx.now in
    let new : Modules g.row.E.Denot = record { ground = record { bank = c.send.new.self; ctx = old.ground.ctx; facts = c.send.new.facts }; stakes = old.stakes; hooks = old.hooks } in
    let undone : CanBeUndone behind old.ground new.ground
    = record { marks = c.send.ensures.marks; ctx = refl; facts = sends_follow (account.User tx.payer) (account.Module holder.FeeCollector) tx.fee old.ground.bank.holdings c.send.new.self.holdings old.ground.facts c.send.new.facts (Ok tt) c.in-Ok.ensures.sends } in
    let on : GoOn old new = all_on old new undone refl refl refl refl in
    fee_steady tx.payer tx.fee old new c.requires.steady on
    (λ p s. fee_stands tx.payer tx.fee p (kept_of old) (kept_of new) c.len.ensures.money s (fee_sent old new p s refl refl refl refl tx.payer tx.fee c.in-Ok.ensures.sends))
