use Rattle.std.proofs.Common.{◌≡◌, [], drop, map, true}
use Rattle.std.specs.List.{AllByRecursion}
use Rattle.base_io.specs.Changes.{pair_of}
use Rattle.store_history.{specs.Commits.is_kept, proofs.ReadingLemmas.all_with}
use Rattle.store_history.proofs.history.kept_of.Given as goal

abbrev pub invariant-loop-row : goal.invariant-loop-row
invariant-loop-row l = record {
  rest : all_with is_kept (map pair_of (drop l.row-index l.rows)) l.kept ≡ all_with is_kept (map pair_of l.rows) [];
  kept : AllByRecursion (λ p. is_kept p.0 ≡ true) l.kept;
}
