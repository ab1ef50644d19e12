-- Two tables that are marked together, seen as one book.
use Rattle.std.proofs.Common.{◌≡◌, ◌∙◌, ℕ, ◌+◌, Bool, true, false, cond, List, [], ◌∷◌, ◌++◌, length, sym, ap, subst, suc, Ordering, Less, Equal, Greater}
use Rattle.std.{proofs.lemmas.List.length_push, specs.{Ordering.match_ordering, Map.remove_entry}}
use Rattle.std.specs.BTreeMap.{insert_entry, is_at}
use Rattle.base_types.specs.{declared.account.Account.Account, Denom.is_denom}
use Rattle.base_table.specs.Tabled.{Tabled, with_value, without_key, settled_now}
use Rattle.base_table.specs.Tabled as table
use Rattle.base_coins.specs.Coins.{Money}
use Rattle.base_roles.specs.{Holdings.Balances, Orders.place_cmp}
use Rattle.base_records.specs.Marks.{side_by_side}
use Rattle.base_records.proofs.MarkLemmas.{none_from_length, popped_length, length-side, side-push, all-push, all-pop}
use Rattle.mod_bank.specs.Booked.{booked, with_mark, IsGoneBack, IsForgotten, AreNamed, AreNamedAtMarks, HaveSameMarks, holdings_of}

-- ---- names

named-put : (es : Balances) (k : Account × List ℕ) (n : ℕ) → AreNamed es → is_denom k.1 ≡ true → AreNamed (insert_entry place_cmp es k n)
named-put [] k n h d = (d, tt)
named-put (e ∷ es) k n h d = by (place_cmp k e.0) (named-put es k n h.1 d)
  where
    by : (r : Ordering) → AreNamed (insert_entry place_cmp es k n) → AreNamed (match_ordering r ((k, n) ∷ e ∷ es) ((e.0, n) ∷ es) (e ∷ insert_entry place_cmp es k n))
    by Less later = (d, h)
    by Equal later = h
    by Greater later = (h.0, later)

named-removed : (test : Account × List ℕ → Bool) (es : Balances) → AreNamed es → AreNamed (remove_entry test es)
named-removed test [] h = h
named-removed test (e ∷ es) h = by (test e.0) (named-removed test es h.1)
  where
    by : (b : Bool) → AreNamed (remove_entry test es) → AreNamed (cond b es (e ∷ remove_entry test es))
    by true later = h.1
    by false later = (h.0, later)

-- ---- two tables in step

module _ (b : Tabled (Account × List ℕ) ℕ) (s : Tabled (List ℕ) ℕ) (h : HaveSameMarks b s) where
  pub in_step-put : (k : Account × List ℕ) (n : ℕ) (b2 : Tabled (Account × List ℕ) ℕ) → is_denom k.1 ≡ true → b2 ≡ with_value place_cmp b k n → HaveSameMarks b2 s
  in_step-put k n b2 d e = subst (λ t. HaveSameMarks t s) (sym e) (record { depth = h.depth; named = named-put b.entries k n h.named d; named_at_marks = h.named_at_marks })

  pub in_step-removed : (k : Account × List ℕ) (b2 : Tabled (Account × List ℕ) ℕ) → b2 ≡ without_key place_cmp b k → HaveSameMarks b2 s
  in_step-removed k b2 e = subst (λ t. HaveSameMarks t s) (sym e) (record { depth = h.depth; named = named-removed (is_at (place_cmp k)) b.entries h.named; named_at_marks = h.named_at_marks })

  pub in_step-marked : HaveSameMarks (table.with_mark b) (table.with_mark s)
  in_step-marked = record {
    depth = length_push b.marks b.entries ∙ ap (λ n. n + 1) h.depth ∙ sym (length_push s.marks s.entries);
    named = h.named;
    named_at_marks = all-push AreNamed b.marks b.entries h.named_at_marks h.named;
  }

  pub booked-marked : (spent : Bool) → booked (table.with_mark b) (table.with_mark s) spent ≡ with_mark (booked b s spent)
  booked-marked spent = λ i. record {
    holdings = record { balances = b.entries; supplies = s.entries };
    marks = side-push holdings_of b.marks s.marks b.entries s.entries (sym h.depth) i;
    settled = record { balances = b.settled; supplies = s.settled };
    spent = spent;
  }

  pub depth-booked : (spent : Bool) → length (booked b s spent).marks ≡ length b.marks
  depth-booked spent = length-side holdings_of b.marks s.marks (sym h.depth)

  module _ (b2 : Tabled (Account × List ℕ) ℕ) (s2 : Tabled (List ℕ) ℕ) (x : Balances) (y : Money) (p : b2.marks ++ x ∷ [] ≡ b.marks) (q : s2.marks ++ y ∷ [] ≡ s.marks) where
    depth-popped : length b2.marks ≡ length s2.marks
    depth-popped = popped_length s.marks s2.marks b.marks b2.marks y x h.depth q p

    side-popped : side_by_side holdings_of b2.marks s2.marks ++ holdings_of x y ∷ [] ≡ side_by_side holdings_of b.marks s.marks
    side-popped = sym (side-push holdings_of b2.marks s2.marks x y (sym depth-popped)) ∙ (λ i. side_by_side holdings_of (p i) (q i))

    named-popped : AreNamedAtMarks b2.marks × AreNamed x
    named-popped = all-pop AreNamed b2.marks x (subst AreNamedAtMarks (sym p) h.named_at_marks)

  module _ (b2 : Tabled (Account × List ℕ) ℕ) (s2 : Tabled (List ℕ) ℕ) where
    pub in_step-back : table.IsGoneBack b b2 → table.IsGoneBack s s2 → HaveSameMarks b2 s2
    in_step-back p q =
        let n = named-popped b2 s2 b2.entries s2.entries p.restored q.restored in
        record { depth = depth-popped b2 s2 b2.entries s2.entries p.restored q.restored; named = n.1; named_at_marks = n.0 }

    pub booked-back : (spent : Bool) → table.IsGoneBack b b2 → table.IsGoneBack s s2 → IsGoneBack (booked b s spent) (booked b2 s2 spent)
    booked-back spent p q = record {
      restored = side-popped b2 s2 b2.entries s2.entries p.restored q.restored;
      rest = λ i. record {
        holdings = record { balances = b2.entries; supplies = s2.entries };
        marks = side_by_side holdings_of b2.marks s2.marks;
        settled = record { balances = ap (λ t. t.settled) p.rest i; supplies = ap (λ t. t.settled) q.rest i };
        spent = spent;
      };
    }

    pub in_step-forgotten : table.IsForgotten b b2 → table.IsForgotten s s2 → HaveSameMarks b2 s2
    in_step-forgotten p q =
        let n = named-popped b2 s2 p.closed.0 q.closed.0 p.closed.1 q.closed.1 in
        let same : b.entries ≡ b2.entries = sym (ap (λ t. t.entries) p.rest) in
        record { depth = depth-popped b2 s2 p.closed.0 q.closed.0 p.closed.1 q.closed.1; named = subst AreNamed same h.named; named_at_marks = n.0 }

    pub booked-forgotten : (spent : Bool) → table.IsForgotten b b2 → table.IsForgotten s s2 → IsForgotten (booked b s spent) (booked b2 s2 spent)
    booked-forgotten spent p q = record {
      closed = (record { balances = p.closed.0; supplies = q.closed.0 }, side-popped b2 s2 p.closed.0 q.closed.0 p.closed.1 q.closed.1);
      rest = λ i. record {
        holdings = record { balances = ap (λ t. t.entries) p.rest i; supplies = ap (λ t. t.entries) q.rest i };
        marks = side_by_side holdings_of b2.marks s2.marks;
        settled = record { balances = ap (λ t. t.settled) p.rest i; supplies = ap (λ t. t.settled) q.rest i };
        spent = spent;
      };
    }

  pub closed-both : (spent : Bool) → (booked b s spent).marks ≡ [] → (b.marks ≡ []) × (s.marks ≡ [])
  closed-both spent e =
      let n : length b.marks ≡ 0 = sym (length-side holdings_of b.marks s.marks (sym h.depth)) ∙ ap length e in
      (none_from_length b.marks n, none_from_length s.marks (sym h.depth ∙ n))
