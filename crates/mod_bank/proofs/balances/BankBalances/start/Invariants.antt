use Rattle.std.proofs.Common.{drop}
use Rattle.mod_bank.proofs.GiveLemmas.{Starting}
use Rattle.mod_bank.proofs.balances.BankBalances.start.Given as goal

abbrev pub invariant-loop-who : goal.invariant-loop-who
invariant-loop-who g l = Starting l.accounts l.tables (drop l.who-index l.accounts)
