use Rattle.std.proofs.Common.{◌≡◌, drop, take, All}
use Rattle.mod_statement.specs.{Entries.HasMoney, Sums.{no_sums, sums_over}}
use Rattle.mod_statement.proofs.sums.sums_of.Given as goal

abbrev pub invariant-loop-entry : goal.invariant-loop-entry
invariant-loop-entry l = record {
  so_far : sums_over (no_sums l.fn.start) l.rest ≡ sums_over l.sums (drop l.entry-index l.rest);
  money : All HasMoney (take l.entry-index l.rest);
}
