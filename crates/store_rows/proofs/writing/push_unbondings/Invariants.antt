use Rattle.std.proofs.Common.{◌≡◌, ◌++◌, length, take, flat_map}
use Rattle.std.specs.List.{AllByRecursion}
use Rattle.store_rows.specs.{Fields.four_bytes, Rows.unbonding_bytes, Spelled.IsUnbonding}
use Rattle.store_rows.proofs.writing.push_unbondings.Given as goal

abbrev pub invariant-loop-entry : goal.invariant-loop-entry
invariant-loop-entry l = record {
  written : l.out.items ≡ (l.fn.out.items ++ four_bytes (length l.entries)) ++ flat_map unbonding_bytes (take l.entry-index l.entries);
  range : AllByRecursion IsUnbonding (take l.entry-index l.entries);
}
