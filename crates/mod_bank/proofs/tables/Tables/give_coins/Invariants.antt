use Rattle.std.proofs.Common.{drop}
use Rattle.mod_bank.proofs.GiveLemmas.{Giving}
use Rattle.mod_bank.proofs.tables.Tables.give_coins.Given as goal

abbrev pub invariant-loop-place : goal.invariant-loop-place
invariant-loop-place g l = Giving l.who l.coins l.fn.self l.self (drop l.place l.coins)
