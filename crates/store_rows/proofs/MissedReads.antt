-- A ring in the second format is read as it is spelled, and so is one in either format.
use Rattle.std.proofs.Common.{◌≡◌, ◌∙◌, ℕ, ◌^◌, ◌<◌, ◌≤◌, Bool, true, false, cond, List, ◌++◌, length, Ok, Err, refl, sym, ap, ap₂, subst, append_assoc, arith, w32}
use Rattle.base_coins.specs.Steps.{◌>>=◌}
use Rattle.store_rows.specs.declared.{fault.RowFault.TheVariants.BadRow, format.Format.Format}
use Rattle.store_rows.specs.declared.format.Format.TheVariants.{First, Second}
use Rattle.store_rows.specs.Fields.{four_bytes, list_bytes, missed_of, missed_ring_bytes, ring_bytes}
use Rattle.store_rows.specs.Reading.{are_places, list_at, missed_ring_at, number_at, places_with, ring_at}
use Rattle.store_rows.{specs.Spelled.IsCountable, proofs.ReadsLemmas.{IsBytes, Reads, bind_is, bind_ok, ok_is}}
use Rattle.store_rows.proofs.MissedLemmas.{missed_below, missed_few, window_again, window_taken}
use Rattle.store_rows.proofs.{NumberLemmas.four_read, RingReads.{packed_ring_reads, passed}, ValueLemmas.list_reads}

missed_ring_reads : Reads missed_ring_at missed_ring_bytes IsCountable
unfolding missed_ring_at
missed_ring_reads = record {
  takes = λ bytes ps rest fits e.
      let (n, at_n, then) = bind_ok (number_at w32 bytes) (λ n. list_at (number_at w32) n.1 >>= λ m. cond (are_places 0 n.0 m.0) (Ok (places_with 0 n.0 m.0, m.1)) (Err BadRow)) (ps, rest) e in
      let (n_parts, n_fits, below) = four_read.takes bytes n.0 n.1 fits at_n in
      let (m, at_m, later) = bind_ok (list_at (number_at w32) n.1) (λ m. cond (are_places 0 n.0 m.0) (Ok (places_with 0 n.0 m.0, m.1)) (Err BadRow)) (ps, rest) then in
      let (m_parts, m_fits, few) = (list_reads (number_at w32) four_bytes (λ p. p < 2 ^ 32) four_read).takes n.1 m.0 m.1 n_fits at_m in
      let (up, end) = passed (are_places 0 n.0 m.0) (Ok (places_with 0 n.0 m.0, m.1)) (ps, rest) later in
      let (len, back) = window_taken 0 n.0 m.0 (omega arith) up in
      let count : length (places_with 0 n.0 m.0) ≡ n.0 = omega (arith, len) in
      subst (λ (y : List Bool × List ℕ). (bytes ≡ missed_ring_bytes y.0 ++ y.1) × IsBytes y.1 × IsCountable y.0) (ok_is (places_with 0 n.0 m.0, m.1) (ps, rest) end)
      (n_parts ∙ ap (λ (r : List ℕ). four_bytes n.0 ++ r) m_parts ∙ sym (append_assoc (four_bytes n.0) (list_bytes four_bytes m.0) m.1) ∙ ap₂ (λ (k : ℕ) (ms : List ℕ). (four_bytes k ++ list_bytes four_bytes ms) ++ m.1) (sym count) (sym back), m_fits, omega (arith, below, count));
  again = λ ps rest count.
      let ms = missed_of ps in
      let behind = list_bytes four_bytes ms in
      let (up, same) = window_again 0 (length ps) ps (omega arith) in
      let few : length ms < 2 ^ 32 = omega (arith, count, missed_few 0 ps) in
      let small = missed_below 0 ps (2 ^ 32) (omega (arith, count)) in
      ap missed_ring_at (append_assoc (four_bytes (length ps)) behind rest)
      ∙ bind_is (number_at w32 (four_bytes (length ps) ++ (behind ++ rest))) (length ps, behind ++ rest) (λ n. list_at (number_at w32) n.1 >>= λ m. cond (are_places 0 n.0 m.0) (Ok (places_with 0 n.0 m.0, m.1)) (Err BadRow)) (Ok (ps, rest))
      (four_read.again (length ps) (behind ++ rest) count)
      (bind_is (list_at (number_at w32) (behind ++ rest)) (ms, rest) (λ m. cond (are_places 0 (length ps) m.0) (Ok (places_with 0 (length ps) m.0, m.1)) (Err BadRow)) (Ok (ps, rest)) ((list_reads (number_at w32) four_bytes (λ p. p < 2 ^ 32) four_read).again ms rest (few, small))
      (ap₂ (λ (b : Bool) (qs : List Bool). cond b (Ok (qs, rest)) (Err BadRow)) up same));
}

pub ring_reads : (f : Format) → Reads (ring_at f) (ring_bytes f) IsCountable
ring_reads First = packed_ring_reads
ring_reads Second = missed_ring_reads
