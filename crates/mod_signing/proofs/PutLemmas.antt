-- Two tables in which an info was put, or a vote, or a whole ring, as the window is seen.
use Rattle.std.proofs.Common.{◌≡◌, ◌∙◌, ◌⊎◌, inl, inr, ℕ, ◌+◌, ◌/◌, ◌%◌, ◌<◌, ◌≤◌, Bool, List, length, take, refl, sym, ap, subst, arith, ◌≢◌}
use Rattle.std.specs.{BTreeMap.insert_entry, List.Sorted.IsStrictlySortedBy, Map.keys_of}
use Rattle.base_types.specs.Orders.{cons_cmp}
use Rattle.base_table.specs.Tabled.{Tabled, with_value}
use Rattle.base_roles.specs.Entries.{at}
use Rattle.base_records.specs.Marks.{side_by_side}
use Rattle.mod_signing.specs.{declared.entry.Entry.Entry, Calls.{IsRow, ring_at}}
use Rattle.mod_signing.specs.Kept.{Kept, kept_of, keeping, windowed, with_signed}
use Rattle.mod_signing.specs.Rings.{Rows, is_set, place_set, ring_of, ring_with, row_cmp}
use Rattle.mod_signing.proofs.RingLemmas.{with_length_behind, with_length_within}
use Rattle.mod_signing.proofs.TableLemmas.{OthersStay, kept_put, places_if, ring_found, ring_other, voted_behind, voted_within}
use Rattle.mod_signing.proofs.UptoLemmas.{at_end, first_fewer, first_length}

module _ (e : Tabled (List ℕ) Entry) (r : Tabled (ℕ × List ℕ) ℕ) (spent : Bool) (cons : List ℕ) (x : Entry) (sorted : IsStrictlySortedBy cons_cmp (keys_of e.entries)) where
  abbrev kept : Kept
  kept = kept_of e.entries r.entries

  abbrev places : ℕ
  places = places_if (at cons_cmp e.entries cons)

  ring_length : length (ring_at kept cons) ≡ places
  ring_length = ap length (ring_found e.entries r.entries cons) ∙ first_length (place_set r.entries cons) places

  -- an info, with some of the first places of the ring
  pub info-put : x.places ≤ length (ring_at kept cons)
      → windowed (with_value cons_cmp e cons x) r spent ≡ keeping (with_signed cons (record { info = x.info; ring = take x.places (ring_at kept cons) }) kept) (windowed e r spent)
  info-put few = λ i. record { kept = put i; marks = side_by_side kept_of e.marks r.marks; settled = kept_of e.settled r.settled; spent = spent }
    where
      taken : ring_of r.entries cons x.places ≡ take x.places (ring_at kept cons)
      taken = sym (ap (take x.places) (ring_found e.entries r.entries cons) ∙ first_fewer (place_set r.entries cons) x.places places (omega (arith, few, ring_length)))

      put : kept_of (insert_entry cons_cmp e.entries cons x) r.entries ≡ with_signed cons (record { info = x.info; ring = take x.places (ring_at kept cons) }) kept
      put = kept_put cons r.entries r.entries (λ other h n. refl) e.entries x sorted ∙ ap (λ ring. with_signed cons (record { info = x.info; ring = ring }) kept) taken

  -- a vote: an info, and a row with the vote
  module _ (place row next : ℕ) (b : Bool) (within : place ≤ length (ring_at kept cons)) (size : x.places ≡ length (ring_with place b (ring_at kept cons)))
      (is : IsRow (place / 128) row (ring_at kept cons)) (here : is_set next (place % 128) ≡ b)
      (others : (other : ℕ) → other < 128 → other ≢ place % 128 → is_set next other ≡ is_set row other) where
    abbrev then_rows : Rows
    then_rows = insert_entry row_cmp r.entries (place / 128, cons) next

    is_row : IsRow (place / 128) row (ring_of r.entries cons places)
    is_row = subst (IsRow (place / 128) row) (ring_found e.entries r.entries cons) is

    voted : ring_of then_rows cons x.places ≡ ring_with place b (ring_at kept cons)
    voted = by (at_end place places (omega (arith, within, ring_length)))
      where
        by : (place ≡ places) ⊎ (place < places) → ring_of then_rows cons x.places ≡ ring_with place b (ring_at kept cons)
        by (inr l) =
            let count : x.places ≡ places = size ∙ with_length_within place b (ring_at kept cons) (omega (arith, l, ring_length)) ∙ ring_length in
            ap (ring_of then_rows cons) count ∙ voted_within r.entries cons places place row next b is_row here others l
            ∙ sym (ap (ring_with place b) (ring_found e.entries r.entries cons))
        by (inl f) =
            let last : place ≡ length (ring_at kept cons) = f ∙ sym ring_length in
            let count : x.places ≡ places + 1 = size ∙ ap (λ k. length (ring_with k b (ring_at kept cons))) last ∙ with_length_behind b (ring_at kept cons) ∙ ap (λ k. k + 1) ring_length in
            ap (ring_of then_rows cons) count ∙ voted_behind r.entries cons places place row next b is_row here others f
            ∙ sym (ap (ring_with place b) (ring_found e.entries r.entries cons))

    stay : OthersStay cons r.entries then_rows
    stay other h n = ring_other r.entries (place / 128) cons other next h n

    pub vote-put : windowed (with_value cons_cmp e cons x) (with_value row_cmp r (place / 128, cons) next) spent
        ≡ keeping (with_signed cons (record { info = x.info; ring = ring_with place b (ring_at kept cons) }) kept) (windowed e r spent)
    vote-put = λ i. record { kept = put i; marks = side_by_side kept_of e.marks r.marks; settled = kept_of e.settled r.settled; spent = spent }
      where
        put : kept_of (insert_entry cons_cmp e.entries cons x) then_rows ≡ with_signed cons (record { info = x.info; ring = ring_with place b (ring_at kept cons) }) kept
        put = kept_put cons r.entries then_rows stay e.entries x sorted ∙ ap (λ ring. with_signed cons (record { info = x.info; ring = ring }) kept) voted

  -- a whole ring
  pub ring-put : (r2 : Tabled (ℕ × List ℕ) ℕ) (ring : List Bool) → OthersStay cons r.entries r2.entries → r2.marks ≡ r.marks → r2.settled ≡ r.settled → ring_of r2.entries cons x.places ≡ ring
      → windowed (with_value cons_cmp e cons x) r2 spent ≡ keeping (with_signed cons (record { info = x.info; ring = ring }) kept) (windowed e r spent)
  ring-put r2 ring stay marks settled is = λ i. record { kept = put i; marks = side_by_side kept_of e.marks (marks i); settled = kept_of e.settled (settled i); spent = spent }
    where
      put : kept_of (insert_entry cons_cmp e.entries cons x) r2.entries ≡ with_signed cons (record { info = x.info; ring = ring }) kept
      put = kept_put cons r.entries r2.entries stay e.entries x sorted ∙ ap (λ l. with_signed cons (record { info = x.info; ring = l }) kept) is
