use Rattle.std.proofs.Common.{◌≡◌, ◌⊎◌, ℕ, ◌-◌, ◌%◌, ◌≤◌, List, false, length, is_eq}
use Rattle.base_types.specs.Orders.{cons_cmp}
use Rattle.base_table.specs.Tabled.{value_at}
use Rattle.mod_signing.{specs.Rings.{ring_of, row_cmp}, proofs.LoopLemmas.IsBegun}
use Rattle.mod_signing.proofs.walk.put_ring.Given as goal

abbrev pub invariant-loop-from : goal.invariant-loop-from
invariant-loop-from g l = record {
  within : l.from ≤ length l.votes;
  whole : (l.from % 128 ≡ 0) ⊎ (l.from ≡ length l.votes);
  begun : IsBegun l.rows.entries l.cons l.votes l.from;
  others : (other : List ℕ) (places : ℕ) → is_eq (cons_cmp other l.cons) ≡ false → ring_of l.rows.entries other places ≡ ring_of l.fn.rows.entries other places;
  marks : l.rows.marks ≡ l.fn.rows.marks;
  settled : l.rows.settled ≡ l.fn.rows.settled;
  touched : (other : List ℕ) (number : ℕ) → is_eq (cons_cmp other l.cons) ≡ false → value_at row_cmp l.rows.touched (number, other) ≡ value_at row_cmp l.fn.rows.touched (number, other);
}

abbrev pub decreases-loop-from : goal.decreases-loop-from
decreases-loop-from g l = length l.votes - l.from
