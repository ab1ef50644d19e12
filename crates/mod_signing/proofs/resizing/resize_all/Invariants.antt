use Rattle.std.proofs.Common.{◌≡◌, length}
use Rattle.base_types.specs.Orders.{cons_cmp}
use Rattle.base_records.proofs.WalkLemmas.{left_of}
use Rattle.mod_signing.{specs.Kept.behind, proofs.ResizedLemmas.ResizedUpTo}
use Rattle.mod_signing.proofs.resizing.resize_all.Given as goal

abbrev pub invariant-loop-at : goal.invariant-loop-at
invariant-loop-at g l = record {
  walked : ResizedUpTo l.window l.fn.tables.kept l.tables.kept l.after;
  behind : behind l.tables ≡ behind l.fn.tables;
  spent : l.tables.spent ≡ l.fn.tables.spent;
}

abbrev pub decreases-loop-at : goal.decreases-loop-at
decreases-loop-at g l = length (left_of cons_cmp l.tables.kept l.after)
