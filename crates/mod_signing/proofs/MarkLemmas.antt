-- Two tables that are marked together, seen as one window.
use Rattle.std.proofs.Common.{◌≡◌, ◌∙◌, ℕ, Bool, List, [], ◌∷◌, ◌++◌, length, Option, sym, ap}
use Rattle.base_types.specs.Orders.{cons_cmp}
use Rattle.base_table.specs.Tabled.{Tabled}
use Rattle.base_table.specs.Tabled as table
use Rattle.base_records.specs.Marks.{side_by_side}
use Rattle.base_records.proofs.MarkLemmas.{length-side, none_from_length, popped_length, pushed_length, side-push}
use Rattle.mod_signing.specs.declared.entry.Entry.{Entry}
use Rattle.mod_signing.specs.Kept.{kept_of, windowed, with_mark, IsGoneBack, IsForgotten, HaveSameMarks, AreTouched}
use Rattle.mod_signing.specs.Rings.{Rows, row_cmp}

-- ---- two tables in step

module _ (e : Tabled (List ℕ) Entry) (r : Tabled (ℕ × List ℕ) ℕ) (h : HaveSameMarks e r) where
  pub in_step-marked : HaveSameMarks (table.with_mark e) (table.with_mark r)
  in_step-marked = record {
    depth = pushed_length e.marks r.marks e.entries r.entries h.depth;
    touched = h.touched;
  }

  pub windowed-marked : (spent : Bool) → windowed (table.with_mark e) (table.with_mark r) spent ≡ with_mark (windowed e r spent)
  windowed-marked spent = λ i. record {
    kept = kept_of e.entries r.entries;
    marks = side-push kept_of e.marks r.marks e.entries r.entries h.depth i;
    settled = kept_of e.settled r.settled;
    spent = spent;
  }

  pub depth-windowed : (spent : Bool) → length (windowed e r spent).marks ≡ length e.marks
  depth-windowed spent = length-side kept_of e.marks r.marks h.depth

  module _ (e2 : Tabled (List ℕ) Entry) (r2 : Tabled (ℕ × List ℕ) ℕ) (x : List (List ℕ × Entry)) (y : Rows) (p : e2.marks ++ x ∷ [] ≡ e.marks) (q : r2.marks ++ y ∷ [] ≡ r.marks) where
    depth-popped : length r2.marks ≡ length e2.marks
    depth-popped = popped_length e.marks e2.marks r.marks r2.marks x y h.depth p q

    side-popped : side_by_side kept_of e2.marks r2.marks ++ kept_of x y ∷ [] ≡ side_by_side kept_of e.marks r.marks
    side-popped = sym (side-push kept_of e2.marks r2.marks x y depth-popped) ∙ (λ i. side_by_side kept_of (p i) (q i))

  -- what is listed as touched stays
  touched-still : (ts : List (List ℕ × Option Entry)) (us : List ((ℕ × List ℕ) × Option ℕ)) → ts ≡ e.touched → us ≡ r.touched → AreTouched ts us
  touched-still ts us p q cons number none = ap (λ t. table.value_at row_cmp t (number, cons)) q ∙ h.touched cons number (ap (λ t. table.value_at cons_cmp t cons) (sym p) ∙ none)

  module _ (e2 : Tabled (List ℕ) Entry) (r2 : Tabled (ℕ × List ℕ) ℕ) where
    pub in_step-back : table.IsGoneBack e e2 → table.IsGoneBack r r2 → HaveSameMarks e2 r2
    in_step-back p q = record {
      depth = depth-popped e2 r2 e2.entries r2.entries p.restored q.restored;
      touched = touched-still e2.touched r2.touched (ap (λ t. t.touched) p.rest) (ap (λ t. t.touched) q.rest);
    }

    pub windowed-back : (spent : Bool) → table.IsGoneBack e e2 → table.IsGoneBack r r2 → IsGoneBack (windowed e r spent) (windowed e2 r2 spent)
    windowed-back spent p q = record {
      restored = side-popped e2 r2 e2.entries r2.entries p.restored q.restored;
      rest = λ i. record {
        kept = kept_of e2.entries r2.entries;
        marks = side_by_side kept_of e2.marks r2.marks;
        settled = kept_of (ap (λ t. t.settled) p.rest i) (ap (λ t. t.settled) q.rest i);
        spent = spent;
      };
    }

    pub in_step-forgotten : table.IsForgotten e e2 → table.IsForgotten r r2 → HaveSameMarks e2 r2
    in_step-forgotten p q = record {
      depth = depth-popped e2 r2 p.closed.0 q.closed.0 p.closed.1 q.closed.1;
      touched = touched-still e2.touched r2.touched (ap (λ t. t.touched) p.rest) (ap (λ t. t.touched) q.rest);
    }

    pub windowed-forgotten : (spent : Bool) → table.IsForgotten e e2 → table.IsForgotten r r2 → IsForgotten (windowed e r spent) (windowed e2 r2 spent)
    windowed-forgotten spent p q = record {
      closed = (kept_of p.closed.0 q.closed.0, side-popped e2 r2 p.closed.0 q.closed.0 p.closed.1 q.closed.1);
      rest = λ i. record {
        kept = kept_of (ap (λ t. t.entries) p.rest i) (ap (λ t. t.entries) q.rest i);
        marks = side_by_side kept_of e2.marks r2.marks;
        settled = kept_of (ap (λ t. t.settled) p.rest i) (ap (λ t. t.settled) q.rest i);
        spent = spent;
      };
    }

  pub closed-both : (spent : Bool) → (windowed e r spent).marks ≡ [] → (e.marks ≡ []) × (r.marks ≡ [])
  closed-both spent f =
      let n : length e.marks ≡ 0 = sym (depth-windowed spent) ∙ ap length f in
      (none_from_length e.marks n, none_from_length r.marks (h.depth ∙ n))
