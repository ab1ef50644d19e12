use Rattle.std.proofs.Common.{drop, map}
use Rattle.std.specs.List.{AllByRecursion}
use Rattle.base_io.specs.Changes.{pair_of}
use Rattle.store_history.specs.History.{IsFormed}
use Rattle.store_history.proofs.forms.are_formed.Given as goal

abbrev pub invariant-loop-row : goal.invariant-loop-row
invariant-loop-row l = record {
  whole : AllByRecursion (IsFormed l.base l.last) (map pair_of (drop l.row-index l.rows)) → AllByRecursion (IsFormed l.base l.last) (map pair_of l.rows);
  rest : AllByRecursion (IsFormed l.base l.last) (map pair_of l.rows) → AllByRecursion (IsFormed l.base l.last) (map pair_of (drop l.row-index l.rows));
}
