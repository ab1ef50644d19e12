use Rattle.std.proofs.Common.{sym, subst}
use Rattle.mod_bank.proofs.GiveLemmas.{Starting, starting-first}
use Rattle.mod_bank.proofs.balances.BankBalances.start.Goals as goal

pub loop-who-init : goal.loop-who-init
loop-who-init g c = subst (λ b. Starting c.args.accounts.now b c.args.accounts.now) (sym c.new-tables.ensures) (starting-first c.args.accounts.now c.requires.bounded)
