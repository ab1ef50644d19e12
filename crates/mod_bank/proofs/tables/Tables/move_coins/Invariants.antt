use Rattle.std.proofs.Common.{◌+◌, ◌*◌, ◌≤◌, drop}
use Rattle.mod_bank.proofs.SendLemmas.{Moving}
use Rattle.mod_bank.proofs.tables.Tables.move_coins.Given as goal

abbrev pub invariant-loop-place : goal.invariant-loop-place
invariant-loop-place g l = record {
  moving : Moving l.from l.to l.coins l.fn.self l.self (drop l.place l.coins);
  cost : l.steps ≤ l.fn.steps + 4 * l.place;
}
