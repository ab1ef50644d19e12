use Rattle.std.proofs.Common.{rules, sym, subst, arith}
use Rattle.base_types.specs.declared.account.Account.TheVariants as account
use Rattle.base_roles.specs.Holdings.{IsBacked}
use Rattle.mod_bank.proofs.SendLemmas.{backed-burnt}
use Rattle.mod_bank.proofs.balances.BankBalancesBank.burn.Goals as goal

pub returns-clause-backed : goal.returns-clause-backed
returns-clause-backed g c =
    backed-burnt c.self.inside.tables c.burn.new.self (subst (λ b. IsBacked b.holdings) (sym c.self.view_is) c.requires) c.burn.result (account.Module c.args.from) c.args.coin.now.denom c.args.coin.now.amount
    (search rules) (omega arith) c.burn.ensures.changes.ok c.burn.ensures.changes.err
