-- The entries at open marks, as changes are noted and undone.
use Rattle.std.proofs.Common.{◌≡◌, Bool, true, false, cond, Some, None, is_some, option_map, ℕ, zero, suc, ◌+◌, ◌-◌, ◌<◌, ◌≤◌, List, [], ◌∷◌, ◌++◌, length, take, drop, refl, get_or, set, sym, ◌∙◌, ap, subst, append_assoc, add-one, arith, append-nil, length-append, take-append-drop, Ordering, is_eq}
use Rattle.std.{proofs.lemmas.List.{drop-set, drop_more, take-set}, specs.BTreeMap.{insert_entry, is_at}}
use Rattle.std.specs.{Cmp.{IsTotalOrder, tied_itself}, Map.{lookup, set_value}}
use Rattle.base_types.proofs.MapLemmas.{at-put}
use Rattle.base_table.specs.declared.{slot.{Place.Place, Slot.Slot}, undo.Undo.Undo}
use Rattle.base_table.specs.Places.{filled, marks_below, marks_of, put_back_slot, rewound, slot_of, slots, stamp_of, stamps, times, Fits, FitBelow, HavePlaces}
use Rattle.base_table.proofs.{EachLemmas.{lookup-each, set-each}, PlaceLemmas.{set_value-absent, set_value-same}}

pub length-times : {A : Type 0} (n : ℕ) (x : A) → length (times n x) ≡ n
length-times zero x = refl
length-times (suc n) x = ap (λ m. suc m) (length-times n x)

-- one more of the same goes last
pub times-more : {A : Type 0} (n : ℕ) (x : A) → times n x ++ x ∷ [] ≡ times (suc n) x
times-more zero x = refl
times-more (suc n) x = ap (λ xs. x ∷ xs) (times-more n x)

-- no mark was opened before any of these changes
abbrev pub AreUnmarked : {K V : Type 0} → List (Undo K V) → Type 0
AreUnmarked [] = Unit {0}
AreUnmarked (u ∷ us) = (u.point.marks ≡ 0) × AreUnmarked us

-- within a list the default does not count
pub get_or-within : {A : Type 0} (xs : List A) (i : ℕ) (d e : A) → i < length xs → get_or xs i d ≡ get_or xs i e
get_or-within xs i d e within = let a = drop_more xs i d within in let b = drop_more xs i e within in let same : get_or xs i d ∷ drop (i + 1) xs ≡ get_or xs i e ∷ drop (i + 1) xs = sym a ∙ b in cc

-- what stood at a place stands there again, and its stamp stays
module _ {K V : Type 0} (test : K → Bool) (ps : List (K × Place K V)) (before : Slot K V) where
  module _ (qs : List (K × Place K V)) (place : Place K V) (made : qs ≡ set_value test ps (record { slot = before; stamp = place.stamp })) where
    pub slots-put_back : slots qs ≡ set_value test (slots ps) before
    slots-put_back = ap slots made ∙ set-each slot_of test ps (record { slot = before; stamp = place.stamp })

    pub stamps-put_back : lookup test ps ≡ Some place → stamps qs ≡ stamps ps
    stamps-put_back found =
        ap stamps made ∙ set-each stamp_of test ps (record { slot = before; stamp = place.stamp })
        ∙ set_value-same test (stamps ps) place.stamp (lookup-each stamp_of test ps ∙ ap (option_map stamp_of) found)

  pub slots-absent : lookup test ps ≡ None → slots ps ≡ set_value test (slots ps) before
  slots-absent none = sym (set_value-absent test (slots ps) before (lookup-each slot_of test ps ∙ ap (option_map slot_of) none))

-- what is there stays as it is written to
there-set : {K X : Type 0} (look test : K → Bool) (ps : List (K × X)) (x : X) → is_some (lookup look ps) ≡ true → is_some (lookup look (set_value test ps x)) ≡ true
there-set look test [] x h = h
there-set look test (p ∷ ps) x h = elim (test p.0) as (λ c. is_some (lookup look (cond c ((p.0, x) ∷ ps) (p ∷ set_value test ps x))) ≡ true) [
  | true ↦ elim (look p.0) as (λ b. is_some (cond b (Some p.1) (lookup look ps)) ≡ true → is_some (cond b (Some x) (lookup look ps)) ≡ true) [ true ↦ λ h. refl | false ↦ λ h. h ] h
  | false ↦ elim (look p.0) as (λ b. is_some (cond b (Some p.1) (lookup look ps)) ≡ true → is_some (cond b (Some p.1) (lookup look (set_value test ps x))) ≡ true) [ true ↦ λ h. refl | false ↦ λ h. there-set look test ps x h ] h
]

module _ {K V : Type 0} (R : K → K → Ordering) where
  rewound-append : (us ws : List (Undo K V)) (ps : List (K × Slot K V)) → rewound R (us ++ ws) ps ≡ rewound R us (rewound R ws ps)
  rewound-append [] ws ps = refl
  rewound-append (u ∷ us) ws ps = ap (put_back_slot R u.key u.before) (rewound-append us ws ps)

  marks_below-append : (us ws : List (Undo K V)) (ps : List (K × Slot K V)) → marks_below R (us ++ ws) ps ≡ marks_below R us (rewound R ws ps) ++ marks_below R ws ps
  marks_below-append [] ws ps = refl
  marks_below-append (u ∷ us) ws ps =
      (λ i. times u.point.marks (filled (rewound-append (u ∷ us) ws ps i)) ++ marks_below-append us ws ps i)
      ∙ sym (append_assoc (times u.point.marks (filled (rewound R (u ∷ us) (rewound R ws ps)))) (marks_below R us (rewound R ws ps)) (marks_below R ws ps))

  -- the entries at marks once one more change is noted
  pub marks_of-push : (us : List (Undo K V)) (u : Undo K V) (ps : List (K × Slot K V)) → marks_of R (us ++ u ∷ []) 0 ps ≡ marks_of R us u.point.marks (put_back_slot R u.key u.before ps)
  marks_of-push us u ps =
      append-nil (marks_below R (us ++ u ∷ []) ps) ∙ marks_below-append us (u ∷ []) ps
      ∙ ap (λ ms. marks_below R us (put_back_slot R u.key u.before ps) ++ ms) (append-nil (times u.point.marks (filled (put_back_slot R u.key u.before ps))))

  -- how many marks there are does not rest on the places
  pub length-marks_of : (us : List (Undo K V)) (m : ℕ) (ps qs : List (K × Slot K V)) → length (marks_of R us m ps) ≡ length (marks_of R us m qs)
  length-marks_of [] m ps qs = length-times m (filled ps) ∙ sym (length-times m (filled qs))
  length-marks_of (u ∷ us) m ps qs =
      let x = filled (rewound R (u ∷ us) ps) in
      let y = filled (rewound R (u ∷ us) qs) in
      ap length (append_assoc (times u.point.marks x) (marks_below R us ps) (times m (filled ps)))
      ∙ length-append (times u.point.marks x) (marks_of R us m ps)
      ∙ (λ i. (length-times u.point.marks x ∙ sym (length-times u.point.marks y)) i + length-marks_of us m ps qs i)
      ∙ sym (length-append (times u.point.marks y) (marks_of R us m qs))
      ∙ sym (ap length (append_assoc (times u.point.marks y) (marks_below R us qs) (times m (filled qs))))

  -- with one more mark at the latest point
  pub marks_of-more : (us : List (Undo K V)) (m : ℕ) (ps : List (K × Slot K V)) → marks_of R us m ps ++ filled ps ∷ [] ≡ marks_of R us (m + 1) ps
  marks_of-more us m ps =
      append_assoc (marks_below R us ps) (times m (filled ps)) (filled ps ∷ []) ∙ ap (λ ms. marks_below R us ps ++ ms) (times-more m (filled ps))
      ∙ ap (λ n. marks_of R us n ps) (sym (add-one m))

  -- and with the latest one closed
  pub marks_of-fewer : (us : List (Undo K V)) (m : ℕ) (ps : List (K × Slot K V)) → 0 < m → marks_of R us (m - 1) ps ++ filled ps ∷ [] ≡ marks_of R us m ps
  marks_of-fewer us m ps some = let step : (m - 1) + 1 ≡ m = omega arith in marks_of-more us (m - 1) ps ∙ ap (λ n. marks_of R us n ps) step

  pub latest-few : (us : List (Undo K V)) (m : ℕ) (ps : List (K × Slot K V)) → m ≤ length (marks_of R us m ps)
  latest-few us m ps = let e = length-append (marks_below R us ps) (times m (filled ps)) in let f = length-times m (filled ps) in omega arith

  -- what is known before a noted change, and of those below it
  pub FitBelow-last : (us : List (Undo K V)) (u : Undo K V) (ps : List (K × Slot K V)) → FitBelow R (us ++ u ∷ []) ps → Fits R u.point (put_back_slot R u.key u.before ps) × FitBelow R us (put_back_slot R u.key u.before ps)
  FitBelow-last [] u ps h = (h.0, tt)
  FitBelow-last (w ∷ us) u ps h =
      let rest = FitBelow-last us u ps h.1 in
      (rest.0, (subst (Fits R w.point) (rewound-append (w ∷ us) (u ∷ []) ps) h.0, rest.1))

  pub FitBelow-push : (us : List (Undo K V)) (u : Undo K V) (ps : List (K × Slot K V)) → Fits R u.point (put_back_slot R u.key u.before ps) → FitBelow R us (put_back_slot R u.key u.before ps) → FitBelow R (us ++ u ∷ []) ps
  FitBelow-push [] u ps here h = (here, tt)
  FitBelow-push (w ∷ us) u ps here h = (subst (Fits R w.point) (sym (rewound-append (w ∷ us) (u ∷ []) ps)) h.0, FitBelow-push us u ps here h.1)

  pub unmarked : (us : List (Undo K V)) (ps : List (K × Slot K V)) → AreUnmarked us → marks_below R us ps ≡ []
  unmarked [] ps h = refl
  unmarked (u ∷ us) ps h = λ i. times (h.0 i) (filled (rewound R (u ∷ us) ps)) ++ unmarked us ps h.1 i

  -- the change with one mark less before it
  abbrev pub with_mark_less : Undo K V → Undo K V
  with_mark_less u = record u { point = record u.point { marks = u.point.marks - 1 } }

  rewound-less : (us ws : List (Undo K V)) (u : Undo K V) (ps : List (K × Slot K V)) → rewound R (us ++ with_mark_less u ∷ ws) ps ≡ rewound R (us ++ u ∷ ws) ps
  rewound-less [] ws u ps = refl
  rewound-less (w ∷ us) ws u ps = ap (put_back_slot R w.key w.before) (rewound-less us ws u ps)

  pub FitBelow-less : (us ws : List (Undo K V)) (u : Undo K V) (ps : List (K × Slot K V)) → FitBelow R (us ++ u ∷ ws) ps → FitBelow R (us ++ with_mark_less u ∷ ws) ps
  FitBelow-less [] ws u ps h = (record { len = h.0.len; named = h.0.named }, h.1)
  FitBelow-less (w ∷ us) ws u ps h = (subst (Fits R w.point) (sym (rewound-less (w ∷ us) ws u ps)) h.0, FitBelow-less us ws u ps h.1)

  -- the latest mark closed, where it was opened before a noted change
  pub marks_of-less : (us ws : List (Undo K V)) (u : Undo K V) (ps : List (K × Slot K V)) → 0 < u.point.marks → AreUnmarked ws → marks_of R (us ++ with_mark_less u ∷ ws) 0 ps ++ filled (rewound R (u ∷ ws) ps) ∷ [] ≡ marks_of R (us ++ u ∷ ws) 0 ps
  marks_of-less us ws u ps some h =
      let x = filled (rewound R (u ∷ ws) ps) in
      let below = marks_below R us (rewound R (u ∷ ws) ps) in
      let step : suc (u.point.marks - 1) ≡ u.point.marks = omega arith in
      ap (λ ms. ms ++ x ∷ []) (at (with_mark_less u)) ∙ append_assoc below (times (u.point.marks - 1) x) (x ∷ [])
      ∙ ap (λ ms. below ++ ms) (times-more (u.point.marks - 1) x ∙ ap (λ n. times n x) step)
      ∙ sym (at u)
    where
      at : (w : Undo K V) → marks_of R (us ++ w ∷ ws) 0 ps ≡ marks_below R us (rewound R (w ∷ ws) ps) ++ times w.point.marks (filled (rewound R (w ∷ ws) ps))
      at w =
          append-nil (marks_below R (us ++ w ∷ ws) ps) ∙ marks_below-append us (w ∷ ws) ps
          ∙ ap (λ ms. marks_below R us (rewound R (w ∷ ws) ps) ++ ms) (ap (λ ms. times w.point.marks (filled (rewound R (w ∷ ws) ps)) ++ ms) (unmarked ws ps h) ∙ append-nil (times w.point.marks (filled (rewound R (w ∷ ws) ps))))

  -- the latest mark closed at its place in the list of changes
  module _ (us : List (Undo K V)) (i : ℕ) (u : Undo K V) (ps : List (K × Slot K V)) (within : i < length us) (is : get_or us i u ≡ u) where
    split : take i us ++ u ∷ drop (i + 1) us ≡ us
    split = ap (λ x. take i us ++ x ∷ drop (i + 1) us) (sym is) ∙ ap (λ ws. take i us ++ ws) (sym (drop_more us i u within)) ∙ take-append-drop i us

    split-less : take i us ++ with_mark_less u ∷ drop (i + 1) us ≡ set us i (with_mark_less u)
    split-less =
        (λ j. sym (take-set us i (with_mark_less u)) j ++ sym (drop-set us i (with_mark_less u) within) j)
        ∙ take-append-drop i (set us i (with_mark_less u))

    pub FitBelow-closed : FitBelow R us ps → FitBelow R (set us i (with_mark_less u)) ps
    FitBelow-closed h = subst (λ ws. FitBelow R ws ps) split-less (FitBelow-less (take i us) (drop (i + 1) us) u ps (subst (λ ws. FitBelow R ws ps) (sym split) h))

    pub marks_of-closed : (m : ℕ) → m ≡ 0 → 0 < u.point.marks → AreUnmarked (drop (i + 1) us) → (last : List (K × V)) × (marks_of R (set us i (with_mark_less u)) m ps ++ last ∷ [] ≡ marks_of R us m ps)
    marks_of-closed m none some after = (
      filled (rewound R (u ∷ drop (i + 1) us) ps),
      ap (λ ws. marks_of R ws m ps ++ filled (rewound R (u ∷ drop (i + 1) us) ps) ∷ []) (sym split-less)
          ∙ ap (λ n. marks_of R (take i us ++ with_mark_less u ∷ drop (i + 1) us) n ps ++ filled (rewound R (u ∷ drop (i + 1) us) ps) ∷ []) none
          ∙ marks_of-less (take i us) (drop (i + 1) us) u ps some after
          ∙ ap (λ n. marks_of R (take i us ++ u ∷ drop (i + 1) us) n ps) (sym none)
          ∙ ap (λ ws. marks_of R ws m ps) split,
    )

  -- without a mark none is told
  pub no_marks : (us : List (Undo K V)) (m : ℕ) (ps : List (K × Slot K V)) → m ≡ 0 → AreUnmarked us → marks_of R us m ps ≡ []
  no_marks us m ps none h = ap (λ n. marks_of R us n ps) none ∙ append-nil (marks_below R us ps) ∙ unmarked us ps h

  -- that changes have their places stays as places are written to
  pub HavePlaces-set : (us : List (Undo K V)) (test : K → Bool) (ps : List (K × Slot K V)) (s : Slot K V) → HavePlaces R us ps → HavePlaces R us (set_value test ps s)
  HavePlaces-set [] test ps s h = tt
  HavePlaces-set (u ∷ us) test ps s h = (there-set (is_at (R u.key)) test ps s h.0, HavePlaces-set us test ps s h.1)

  there-put : (o : IsTotalOrder R) (q k : K) (ps : List (K × Slot K V)) (s : Slot K V) → is_some (lookup (is_at (R q)) ps) ≡ true → is_some (lookup (is_at (R q)) (insert_entry R ps k s)) ≡ true
  there-put o q k ps s h = ap is_some (at-put R o ps k q s) ∙ elim (is_at (R q) k) as (λ b. is_some (cond b (Some s) (lookup (is_at (R q)) ps)) ≡ true) [ true ↦ refl | false ↦ h ]

  pub HavePlaces-insert : (o : IsTotalOrder R) (us : List (Undo K V)) (k : K) (ps : List (K × Slot K V)) (s : Slot K V) → HavePlaces R us ps → HavePlaces R us (insert_entry R ps k s)
  HavePlaces-insert o [] k ps s h = tt
  HavePlaces-insert o (u ∷ us) k ps s h = (there-put o u.key k ps s h.0, HavePlaces-insert o us k ps s h.1)

  -- a key has its place once something was put there
  pub has_place : (o : IsTotalOrder R) (k : K) (ps : List (K × Slot K V)) (s : Slot K V) → is_some (lookup (is_at (R k)) (insert_entry R ps k s)) ≡ true
  has_place o k ps s = ap is_some (at-put R o ps k k s) ∙ ap (λ r. is_some (cond (is_eq r) (Some s) (lookup (is_at (R k)) ps))) (tied_itself o k)

  pub HavePlaces-push : (us : List (Undo K V)) (u : Undo K V) (ps : List (K × Slot K V)) → HavePlaces R us ps → is_some (lookup (is_at (R u.key)) ps) ≡ true → HavePlaces R (us ++ u ∷ []) ps
  HavePlaces-push [] u ps h here = (here, tt)
  HavePlaces-push (w ∷ us) u ps h here = (h.0, HavePlaces-push us u ps h.1 here)

  pub HavePlaces-last : (us : List (Undo K V)) (u : Undo K V) (ps : List (K × Slot K V)) → HavePlaces R (us ++ u ∷ []) ps → HavePlaces R us ps
  HavePlaces-last [] u ps h = tt
  HavePlaces-last (w ∷ us) u ps h = (h.0, HavePlaces-last us u ps h.1)

  HavePlaces-less : (us ws : List (Undo K V)) (u : Undo K V) (ps : List (K × Slot K V)) → HavePlaces R (us ++ u ∷ ws) ps → HavePlaces R (us ++ with_mark_less u ∷ ws) ps
  HavePlaces-less [] ws u ps h = (h.0, h.1)
  HavePlaces-less (w ∷ us) ws u ps h = (h.0, HavePlaces-less us ws u ps h.1)

  pub HavePlaces-closed : (us : List (Undo K V)) (i : ℕ) (u : Undo K V) (ps : List (K × Slot K V)) → i < length us → get_or us i u ≡ u → HavePlaces R us ps → HavePlaces R (set us i (with_mark_less u)) ps
  HavePlaces-closed us i u ps within is h =
      subst (λ ws. HavePlaces R ws ps) (split-less us i u ps within is) (HavePlaces-less (take i us) (drop (i + 1) us) u ps (subst (λ ws. HavePlaces R ws ps) (sym (split us i u ps within is)) h))
