use Rattle.std.proofs.Common.{◌≡◌, ◌+◌, ◌≤◌, drop}
use Rattle.base_roles.specs.Holdings.{is_short}
use Rattle.mod_bank.proofs.tables.Tables.is_short.Given as goal

abbrev pub invariant-loop-place : goal.invariant-loop-place
invariant-loop-place g l = record {
  short : is_short l.self.holdings l.who l.coins ≡ is_short l.self.holdings l.who (drop l.place l.coins);
  cost : l.steps ≤ l.fn.steps + l.place;
}
