use Rattle.std.proofs.Common.{◌≡◌, [], None, drop, map}
use Rattle.base_io.specs.Changes.{pair_of}
use Rattle.store_history.{specs.History.is_visible, proofs.ReadingLemmas.{all_bases, all_with}}
use Rattle.store_history.proofs.history.history_of.Given as goal

abbrev pub invariant-loop-row : goal.invariant-loop-row
invariant-loop-row l = record {
  visible : all_with is_visible (map pair_of (drop l.row-index l.rows)) l.seen.visible ≡ all_with is_visible (map pair_of l.rows) [];
  base : all_bases (map pair_of (drop l.row-index l.rows)) l.seen.base ≡ all_bases (map pair_of l.rows) None;
}
