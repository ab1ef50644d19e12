-- Four tables that are marked together, seen as one.
use Rattle.std.proofs.Common.{◌≡◌, ◌∙◌, ℕ, ◌+◌, Bool, List, [], ◌∷◌, ◌++◌, length, refl, sym, ap, arith, suc, zero}
use Rattle.std.specs.List.{range_with_len}
use Rattle.base_table.specs.Tabled.{Tabled}
use Rattle.base_table.specs.Tabled as table
use Rattle.base_roles.specs.declared.entities.{Historical.Historical, StartingInfo.StartingInfo}
use Rattle.base_records.proofs.MarkLemmas.{none_from_length, popped_length}
use Rattle.mod_periods.specs.Kept.{Recorded, side_by_side, with_mark, IsGoneBack, IsForgotten, HaveSameMarks}

-- ---- marks side by side

abbrev Currents : Type 0
Currents = List (List ℕ × ℕ)

abbrev Histories : Type 0
Histories = List ((List ℕ × ℕ) × Historical)

abbrev Infos : Type 0
Infos = List ((List ℕ × List ℕ) × StartingInfo)

abbrev Slashes : Type 0
Slashes = List ((List ℕ × ℕ × ℕ) × ℕ)

in_rest : {A B C D : Type 0} (a : A) (b : B) (c : C) (d : D) (ps : List A) (bs : List B) (cs : List C) (ds : List D) → HaveSameMarks (a ∷ ps) (b ∷ bs) (c ∷ cs) (d ∷ ds) → HaveSameMarks ps bs cs ds
in_rest a b c d ps bs cs ds h =
    let x = h.historical in
    let y = h.starts in
    let z = h.events in
    record { historical = omega (arith, x); starts = omega (arith, y); events = omega (arith, z) }

length-side : (cs : List Currents) (hs : List Histories) (ss : List Infos) (es : List Slashes) → HaveSameMarks cs hs ss es → length (side_by_side cs hs ss es) ≡ length cs
length-side [] hs ss es h = refl
length-side (c ∷ cs) [] ss es h = let x = h.historical in absurd (omega (arith, x))
length-side (c ∷ cs) (b ∷ hs) [] es h = let x = h.starts in absurd (omega (arith, x))
length-side (c ∷ cs) (b ∷ hs) (s ∷ ss) [] h = let x = h.events in absurd (omega (arith, x))
length-side (c ∷ cs) (b ∷ hs) (s ∷ ss) (e ∷ es) h = let more = length-side cs hs ss es (in_rest c b s e cs hs ss es h) in omega (arith, more)

side-push : (cs : List Currents) (hs : List Histories) (ss : List Infos) (es : List Slashes) (c : Currents) (b : Histories) (s : Infos) (e : Slashes) → HaveSameMarks cs hs ss es
    → side_by_side (cs ++ c ∷ []) (hs ++ b ∷ []) (ss ++ s ∷ []) (es ++ e ∷ []) ≡ side_by_side cs hs ss es ++ record { current = c; historical = b; starts = s; events = e } ∷ []
side-push [] [] [] [] c b s e h = refl
side-push [] (y ∷ hs) ss es c b s e h = let x = h.historical in absurd (omega (arith, x))
side-push [] [] (y ∷ ss) es c b s e h = let x = h.starts in absurd (omega (arith, x))
side-push [] [] [] (y ∷ es) c b s e h = let x = h.events in absurd (omega (arith, x))
side-push (x ∷ cs) [] ss es c b s e h = let x = h.historical in absurd (omega (arith, x))
side-push (x ∷ cs) (y ∷ hs) [] es c b s e h = let x = h.starts in absurd (omega (arith, x))
side-push (x ∷ cs) (y ∷ hs) (z ∷ ss) [] c b s e h = let x = h.events in absurd (omega (arith, x))
side-push (x ∷ cs) (y ∷ hs) (z ∷ ss) (w ∷ es) c b s e h =
    ap (λ l. record { current = x; historical = y; starts = z; events = w } ∷ l) (side-push cs hs ss es c b s e (in_rest x y z w cs hs ss es h))

step-pop : {A B C D : Type 0} (ps ps2 : List A) (bs bs2 : List B) (cs cs2 : List C) (ds ds2 : List D) (a : A) (b : B) (c : C) (d : D) → HaveSameMarks ps bs cs ds
    → ps2 ++ a ∷ [] ≡ ps → bs2 ++ b ∷ [] ≡ bs → cs2 ++ c ∷ [] ≡ cs → ds2 ++ d ∷ [] ≡ ds → HaveSameMarks ps2 bs2 cs2 ds2
step-pop ps ps2 bs bs2 cs cs2 ds ds2 a b c d h p q r s = record {
  historical = popped_length ps ps2 bs bs2 a b h.historical p q;
  starts = popped_length ps ps2 cs cs2 a c h.starts p r;
  events = popped_length ps ps2 ds ds2 a d h.events p s;
}

-- ---- four tables in step

module _ (c : Tabled (List ℕ) ℕ) (h : Tabled (List ℕ × ℕ) Historical) (s : Tabled (List ℕ × List ℕ) StartingInfo) (e : Tabled (List ℕ × ℕ × ℕ) ℕ) (spent : Bool) where
  abbrev pub recorded : Recorded
  recorded = record {
    kept = record { current = c.entries; historical = h.entries; starts = s.entries; events = e.entries };
    marks = side_by_side c.marks h.marks s.marks e.marks;
    settled = record { current = c.settled; historical = h.settled; starts = s.settled; events = e.settled };
    spent = spent;
  }

module _ (c : Tabled (List ℕ) ℕ) (h : Tabled (List ℕ × ℕ) Historical) (s : Tabled (List ℕ × List ℕ) StartingInfo) (e : Tabled (List ℕ × ℕ × ℕ) ℕ)
    (step : HaveSameMarks c.marks h.marks s.marks e.marks) where
  pub recorded-marked : (spent : Bool) → recorded (table.with_mark c) (table.with_mark h) (table.with_mark s) (table.with_mark e) spent ≡ with_mark (recorded c h s e spent)
  recorded-marked spent = λ i. record {
    kept = record { current = c.entries; historical = h.entries; starts = s.entries; events = e.entries };
    marks = side-push c.marks h.marks s.marks e.marks c.entries h.entries s.entries e.entries step i;
    settled = record { current = c.settled; historical = h.settled; starts = s.settled; events = e.settled };
    spent = spent;
  }

  pub depth-recorded : (spent : Bool) → length (recorded c h s e spent).marks ≡ length c.marks
  depth-recorded spent = length-side c.marks h.marks s.marks e.marks step

  module _ (c2 : Tabled (List ℕ) ℕ) (h2 : Tabled (List ℕ × ℕ) Historical) (s2 : Tabled (List ℕ × List ℕ) StartingInfo) (e2 : Tabled (List ℕ × ℕ × ℕ) ℕ) where
    side-popped : (x : Currents) (y : Histories) (z : Infos) (w : Slashes)
        → c2.marks ++ x ∷ [] ≡ c.marks → h2.marks ++ y ∷ [] ≡ h.marks → s2.marks ++ z ∷ [] ≡ s.marks → e2.marks ++ w ∷ [] ≡ e.marks
        → side_by_side c2.marks h2.marks s2.marks e2.marks ++ record { current = x; historical = y; starts = z; events = w } ∷ [] ≡ side_by_side c.marks h.marks s.marks e.marks
    side-popped x y z w p q r t =
        sym (side-push c2.marks h2.marks s2.marks e2.marks x y z w (step-pop c.marks c2.marks h.marks h2.marks s.marks s2.marks e.marks e2.marks x y z w step p q r t))
        ∙ (λ i. side_by_side (p i) (q i) (r i) (t i))

    pub in_step-back : table.IsGoneBack c c2 → table.IsGoneBack h h2 → table.IsGoneBack s s2 → table.IsGoneBack e e2 → HaveSameMarks c2.marks h2.marks s2.marks e2.marks
    in_step-back p q r t = step-pop c.marks c2.marks h.marks h2.marks s.marks s2.marks e.marks e2.marks c2.entries h2.entries s2.entries e2.entries step p.restored q.restored r.restored t.restored

    pub recorded-back : (spent : Bool) → table.IsGoneBack c c2 → table.IsGoneBack h h2 → table.IsGoneBack s s2 → table.IsGoneBack e e2 → IsGoneBack (recorded c h s e spent) (recorded c2 h2 s2 e2 spent)
    recorded-back spent p q r t = record {
      restored = side-popped c2.entries h2.entries s2.entries e2.entries p.restored q.restored r.restored t.restored;
      rest = λ i. record {
        kept = record { current = c2.entries; historical = h2.entries; starts = s2.entries; events = e2.entries };
        marks = side_by_side c2.marks h2.marks s2.marks e2.marks;
        settled = record { current = ap (λ t. t.settled) p.rest i; historical = ap (λ t. t.settled) q.rest i; starts = ap (λ t. t.settled) r.rest i; events = ap (λ t. t.settled) t.rest i };
        spent = spent;
      };
    }

    pub in_step-forgotten : table.IsForgotten c c2 → table.IsForgotten h h2 → table.IsForgotten s s2 → table.IsForgotten e e2 → HaveSameMarks c2.marks h2.marks s2.marks e2.marks
    in_step-forgotten p q r t = step-pop c.marks c2.marks h.marks h2.marks s.marks s2.marks e.marks e2.marks p.closed.0 q.closed.0 r.closed.0 t.closed.0 step p.closed.1 q.closed.1 r.closed.1 t.closed.1

    pub recorded-forgotten : (spent : Bool) → table.IsForgotten c c2 → table.IsForgotten h h2 → table.IsForgotten s s2 → table.IsForgotten e e2 → IsForgotten (recorded c h s e spent) (recorded c2 h2 s2 e2 spent)
    recorded-forgotten spent p q r t = record {
      closed = (record { current = p.closed.0; historical = q.closed.0; starts = r.closed.0; events = t.closed.0 }, side-popped p.closed.0 q.closed.0 r.closed.0 t.closed.0 p.closed.1 q.closed.1 r.closed.1 t.closed.1);
      rest = λ i. record {
        kept = record { current = ap (λ t. t.entries) p.rest i; historical = ap (λ t. t.entries) q.rest i; starts = ap (λ t. t.entries) r.rest i; events = ap (λ t. t.entries) t.rest i };
        marks = side_by_side c2.marks h2.marks s2.marks e2.marks;
        settled = record { current = ap (λ t. t.settled) p.rest i; historical = ap (λ t. t.settled) q.rest i; starts = ap (λ t. t.settled) r.rest i; events = ap (λ t. t.settled) t.rest i };
        spent = spent;
      };
    }

  pub closed-all : (spent : Bool) → (recorded c h s e spent).marks ≡ [] → (c.marks ≡ []) × (h.marks ≡ []) × (s.marks ≡ []) × (e.marks ≡ [])
  closed-all spent m =
      let n : length c.marks ≡ 0 = sym (length-side c.marks h.marks s.marks e.marks step) ∙ ap length m in
      (none_from_length c.marks n, none_from_length h.marks (step.historical ∙ n), none_from_length s.marks (step.starts ∙ n), none_from_length e.marks (step.events ∙ n))
