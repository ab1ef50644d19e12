-- What marks restore, as marks are opened and closed and keys are touched.
use Rattle.std.proofs.Common.{◌≡◌, Bool, List, [], ◌∷◌, ◌++◌, Option, refl, sym, ◌∙◌, ap, subst, Ordering}
use Rattle.std.specs.{Cmp.IsTotalOrder, List.Sorted.IsStrictlySortedBy, Map.keys_of}
use Rattle.base_table.specs.{Places.Marked, Restored.{restored, KeepsSettled, MarksRestore}}
use Rattle.base_table.specs.Tabled.{touched_with, Tabled, IsForgotten, IsGoneBack}
use Rattle.base_table.proofs.RestoredLemmas.{touched_with-restored}

module _ {K V : Type 0} (R : K → K → Ordering) where
  push : (ts : List (K × Option V)) (settled es : List (K × V)) (ms : List (List (K × V))) → MarksRestore R ts settled ms → IsStrictlySortedBy R (keys_of es) → restored R ts es ≡ settled → MarksRestore R ts settled (ms ++ es ∷ [])
  push ts settled es [] h in_order same = (in_order, same, tt)
  push ts settled es (m ∷ ms) h in_order same = (h.0, h.1, push ts settled es ms h.2 in_order same)

  below : (ts : List (K × Option V)) (settled last : List (K × V)) (ms : List (List (K × V))) → MarksRestore R ts settled (ms ++ last ∷ []) → MarksRestore R ts settled ms
  below ts settled last [] h = tt
  below ts settled last (m ∷ ms) h = (h.0, h.1, below ts settled last ms h.2)

  latest : (ts : List (K × Option V)) (settled last : List (K × V)) (ms : List (List (K × V))) → MarksRestore R ts settled (ms ++ last ∷ []) → restored R ts last ≡ settled
  latest ts settled last [] h = h.1
  latest ts settled last (m ∷ ms) h = latest ts settled last ms h.2

  kept : (ts us : List (K × Option V)) (es fs : List (K × V)) (ms : List (List (K × V))) → KeepsSettled R ts es us fs → MarksRestore R ts (restored R ts es) ms → MarksRestore R us (restored R ts es) ms
  kept ts us es fs [] keeps h = tt
  kept ts us es fs (m ∷ ms) keeps h = (h.0, keeps.marks m h.0 h.1, kept ts us es fs ms keeps h.2)

  -- after a touch
  pub MarksRestore-touched : (ts us : List (K × Option V)) (es fs : List (K × V)) (ms new : List (List (K × V))) → KeepsSettled R ts es us fs → new ≡ ms → MarksRestore R ts (restored R ts es) ms → MarksRestore R us (restored R us fs) new
  MarksRestore-touched ts us es fs ms new keeps same h = subst (MarksRestore R us (restored R us fs)) (sym same) (subst (λ s. MarksRestore R us s ms) (sym keeps.entries) (kept ts us es fs ms keeps h))

  -- with one more mark, at the present entries
  pub MarksRestore-opened : (t new : Marked K V) → IsStrictlySortedBy R (keys_of t.entries) → new ≡ record t { marks = t.marks ++ t.entries ∷ [] }
      → MarksRestore R t.touched (restored R t.touched t.entries) t.marks → MarksRestore R new.touched (restored R new.touched new.entries) new.marks
  MarksRestore-opened t new in_order made h =
      subst (λ n. MarksRestore R n.touched (restored R n.touched n.entries) n.marks) (sym made) (push t.touched (restored R t.touched t.entries) t.entries t.marks h in_order refl)

  -- with the same marks
  pub MarksRestore-same : (t new : Marked K V) → new ≡ t → MarksRestore R t.touched (restored R t.touched t.entries) t.marks → MarksRestore R new.touched (restored R new.touched new.entries) new.marks
  MarksRestore-same t new same h = subst (λ n. MarksRestore R n.touched (restored R n.touched n.entries) n.marks) (sym same) h

  -- by a list and entries that are the same
  pub MarksRestore-by : (ts us : List (K × Option V)) (es fs : List (K × V)) (ms : List (List (K × V))) → us ≡ ts → fs ≡ es → MarksRestore R ts (restored R ts es) ms → MarksRestore R us (restored R us fs) ms
  MarksRestore-by ts us es fs ms listed same h = subst (λ l. MarksRestore R l (restored R l fs) ms) (sym listed) (subst (λ l. MarksRestore R ts (restored R ts l) ms) (sym same) h)

  module _ (ts : List (K × Option V)) (es last : List (K × V)) (ms all : List (List (K × V))) (split : ms ++ last ∷ [] ≡ all) (h : MarksRestore R ts (restored R ts es) all) where
    whole : MarksRestore R ts (restored R ts es) (ms ++ last ∷ [])
    whole = subst (MarksRestore R ts (restored R ts es)) (sym split) h

    -- the entries of the latest mark restore the same
    pub restored-latest : restored R ts last ≡ restored R ts es
    restored-latest = latest ts (restored R ts es) last ms whole

    -- without the latest mark, at the present entries and at its own
    pub MarksRestore-closed : MarksRestore R ts (restored R ts es) ms
    MarksRestore-closed = below ts (restored R ts es) last ms whole

    pub MarksRestore-back : MarksRestore R ts (restored R ts last) ms
    MarksRestore-back = subst (λ s. MarksRestore R ts s ms) (sym restored-latest) MarksRestore-closed

-- of a key that is not listed the present entry is that at the last settling, so the list grows alike by both
pub touched-settled : {K V : Type 0} {R : K → K → Ordering} (o : IsTotalOrder R) (f : List (K × V) → List (K × V)) (k : K) (p q : Marked K V) → IsStrictlySortedBy R (keys_of p.entries)
    → q ≡ record p { entries = f p.entries; touched = touched_with R p.touched p.entries k } → q ≡ record p { entries = f p.entries; touched = touched_with R p.touched (restored R p.touched p.entries) k }
touched-settled o f k p q in_order made = subst (λ ts. q ≡ record p { entries = f p.entries; touched = ts }) (sym (touched_with-restored o p.touched p.entries k in_order)) made

-- a key is changed and touched
pub changed_table : {K V : Type 0} (R : K → K → Ordering) (f : List (K × V) → List (K × V)) (k : K) (old : Tabled K V) (p q : Marked K V) (spent : Bool)
    → ◌≡◌ {A = Tabled K V} (record { entries = p.entries; marks = p.marks; touched = p.touched; settled = restored R p.touched p.entries; spent = spent }) old
    → q ≡ record p { entries = f p.entries; touched = touched_with R p.touched (restored R p.touched p.entries) k }
    → restored R q.touched q.entries ≡ restored R p.touched p.entries
    → ◌≡◌ {A = Tabled K V} (record { entries = q.entries; marks = q.marks; touched = q.touched; settled = restored R q.touched q.entries; spent = spent }) (record old { entries = f old.entries; touched = touched_with R old.touched old.settled k })
changed_table R f k old p q spent is made keeps = λ i. record {
  entries = (ap (λ x. x.entries) made ∙ ap (λ x. f x.entries) is) i;
  marks = (ap (λ x. x.marks) made ∙ ap (λ x. x.marks) is) i;
  touched = (ap (λ x. x.touched) made ∙ ap (λ x. touched_with R x.touched x.settled k) is) i;
  settled = (keeps ∙ ap (λ x. x.settled) is) i;
  spent = ap (λ x. x.spent) is i;
}

-- `t` is what a table was, and `new` what it is after its latest mark
pub gone_back : {K V : Type 0} (t old new : Tabled K V) → t ≡ old → new.touched ≡ t.touched → new.settled ≡ t.settled → new.spent ≡ t.spent → new.marks ++ new.entries ∷ [] ≡ t.marks → IsGoneBack old new
gone_back t old new is touched settled spent marks = record {
  restored = marks ∙ ap (λ x. x.marks) is;
  rest = λ i. record { entries = new.entries; marks = new.marks; touched = (touched ∙ ap (λ x. x.touched) is) i; settled = (settled ∙ ap (λ x. x.settled) is) i; spent = (spent ∙ ap (λ x. x.spent) is) i };
}

-- and after that mark was closed
pub forgotten : {K V : Type 0} (t old new : Tabled K V) (last : List (K × V)) → t ≡ old → new.entries ≡ t.entries → new.touched ≡ t.touched → new.settled ≡ t.settled → new.spent ≡ t.spent → new.marks ++ last ∷ [] ≡ t.marks → IsForgotten old new
forgotten t old new last is entries touched settled spent marks = record {
  closed = (last, marks ∙ ap (λ x. x.marks) is);
  rest = λ i. record { entries = (entries ∙ ap (λ x. x.entries) is) i; marks = new.marks; touched = (touched ∙ ap (λ x. x.touched) is) i; settled = (settled ∙ ap (λ x. x.settled) is) i; spent = (spent ∙ ap (λ x. x.spent) is) i };
}
