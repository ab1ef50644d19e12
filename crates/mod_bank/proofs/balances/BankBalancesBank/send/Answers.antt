use Rattle.std.proofs.Common.{◌∙◌, sym, subst}
use Rattle.base_roles.specs.Holdings.{IsBacked}
use Rattle.mod_bank.proofs.SendLemmas.{backed-sent}
use Rattle.mod_bank.proofs.balances.BankBalancesBank.send.Goals as goal

pub returns-clause-backed : goal.returns-clause-backed
returns-clause-backed g c =
    backed-sent c.self.inside.tables c.send.new.self (subst (λ b. IsBacked b.holdings) (sym c.self.view_is) c.requires) c.send.result c.args.from.now c.args.to.now c.args.coins.now
    c.len.ensures.money (sym c.is_short.ensures.short ∙ c.if-is_short.false) c.send.ensures.changes.ok c.send.ensures.changes.err
