-- An empty place that is made for a key changes nothing that is seen, now or at a mark.
use Rattle.std.proofs.Common.{◌≡◌, ℕ, Bool, true, false, cond, List, [], ◌∷◌, ◌++◌, length, Option, Some, None, is_some, unwrap_or, refl, sym, ◌∙◌, ap, subst, Ordering, Less, Equal, Greater, option_to_list, is_eq}
use Rattle.std.specs.{Cmp.{IsTotalOrder, alike_right}, List.Sorted.IsStrictlySortedBy, Map.{keys_of, lookup, set_value}}
use Rattle.std.specs.{Ordering.match_ordering, BTreeMap.{insert_entry, is_at}}
use Rattle.base_table.specs.declared.{slot.Slot.{Slot, TheVariants.Empty}, undo.{Point.Point, Undo.Undo}}
use Rattle.base_table.specs.Places.{entry_of, filled, marks_below, marks_of, rewound, slot_at, times, AreNamed, Fits, FitBelow, HavePlaces}
use Rattle.base_table.proofs.{EntryLemmas.tied_lookup, PlaceLemmas.{insert-same, AreNamed-insert}}

none-set : {K X : Type 0} (look test : K → Bool) (ps : List (K × X)) (x : X) → lookup look ps ≡ None → lookup look (set_value test ps x) ≡ None
none-set look test [] x none = refl
none-set look test (p ∷ ps) x none = elim (test p.0) as (λ c. lookup look (cond c ((p.0, x) ∷ ps) (p ∷ set_value test ps x)) ≡ None) [
  | true ↦ elim (look p.0) as (λ b. cond b (Some p.1) (lookup look ps) ≡ None → cond b (Some x) (lookup look ps) ≡ None) [ true ↦ λ h. cc | false ↦ λ h. h ] none
  | false ↦ elim (look p.0) as (λ b. cond b (Some p.1) (lookup look ps) ≡ None → cond b (Some p.1) (lookup look (set_value test ps x)) ≡ None) [ true ↦ λ h. h | false ↦ λ h. none-set look test ps x h ] none
]

filled-placed : {K V : Type 0} (R : K → K → Ordering) (k : K) (ps : List (K × Slot K V)) → lookup (is_at (R k)) ps ≡ None → filled (insert_entry R ps k Empty) ≡ filled ps
filled-placed R k [] none = refl
filled-placed R k (p ∷ ps) none = elim (R k p.0) as (λ r. cond (is_eq r) (Some p.1) (lookup (is_at (R k)) ps) ≡ None → filled (match_ordering r ((k, Empty) ∷ p ∷ ps) ((p.0, Empty) ∷ ps) (p ∷ insert_entry R ps k Empty)) ≡ filled (p ∷ ps)) [
  | Less ↦ λ none. refl
  | Equal ↦ λ none. cc
  | Greater ↦ λ none. ap (λ es. option_to_list (entry_of p.0 p.1) ++ es) (filled-placed R k ps none)
] none

module _ {K V : Type 0} {R : K → K → Ordering} (o : IsTotalOrder R) where
  -- a place is written to before another is made, or after
  set-placed : (q k : K) (t s : Slot K V) (ps : List (K × Slot K V)) → is_at (R q) k ≡ false → set_value (is_at (R q)) (insert_entry R ps k s) t ≡ insert_entry R (set_value (is_at (R q)) ps t) k s
  set-placed q k t s [] other = ap (λ b. cond b ((k, t) ∷ []) ((k, s) ∷ [])) other
  set-placed q k t s (p ∷ ps) other = by (R k p.0) (is_at (R q) p.0) refl refl (set-placed q k t s ps other)
    where
      rest : List (K × Slot K V)
      rest = set_value (is_at (R q)) ps t

      put_in : (b : Bool) (r : Ordering) → R k p.0 ≡ r → insert_entry R (cond b ((p.0, t) ∷ ps) (p ∷ rest)) k s ≡ match_ordering r ((k, s) ∷ cond b ((p.0, t) ∷ ps) (p ∷ rest)) ((p.0, s) ∷ cond b ps rest) (cond b ((p.0, t) ∷ insert_entry R ps k s) (p ∷ insert_entry R rest k s))
      put_in true r is = ap (λ r. match_ordering r ((k, s) ∷ (p.0, t) ∷ ps) ((p.0, s) ∷ ps) ((p.0, t) ∷ insert_entry R ps k s)) is
      put_in false r is = ap (λ r. match_ordering r ((k, s) ∷ p ∷ rest) ((p.0, s) ∷ rest) (p ∷ insert_entry R rest k s)) is

      written : (r : Ordering) (b : Bool) → R k p.0 ≡ r → is_at (R q) p.0 ≡ b → set_value (is_at (R q)) (insert_entry R ps k s) t ≡ insert_entry R rest k s
          → set_value (is_at (R q)) (match_ordering r ((k, s) ∷ p ∷ ps) ((p.0, s) ∷ ps) (p ∷ insert_entry R ps k s)) t ≡ match_ordering r ((k, s) ∷ cond b ((p.0, t) ∷ ps) (p ∷ rest)) ((p.0, s) ∷ cond b ps rest) (cond b ((p.0, t) ∷ insert_entry R ps k s) (p ∷ insert_entry R rest k s))
      written Less b is at further = ap (λ c. cond c ((k, t) ∷ p ∷ ps) ((k, s) ∷ set_value (is_at (R q)) (p ∷ ps) t)) other ∙ ap (λ c. (k, s) ∷ cond c ((p.0, t) ∷ ps) (p ∷ rest)) at
      written Equal b is at further =
          let apart : is_at (R q) p.0 ≡ false = sym (ap is_eq (alike_right o k p.0 q is)) ∙ other in
          ap (λ c. cond c ((p.0, t) ∷ ps) ((p.0, s) ∷ rest)) apart ∙ ap (λ c. (p.0, s) ∷ cond c ps rest) (sym apart ∙ at)
      written Greater b is at further =
          ap (λ c. cond c ((p.0, t) ∷ insert_entry R ps k s) (p ∷ set_value (is_at (R q)) (insert_entry R ps k s) t)) at
          ∙ ap (λ l. cond b ((p.0, t) ∷ insert_entry R ps k s) (p ∷ l)) further

      by : (r : Ordering) (b : Bool) → R k p.0 ≡ r → is_at (R q) p.0 ≡ b → set_value (is_at (R q)) (insert_entry R ps k s) t ≡ insert_entry R rest k s → set_value (is_at (R q)) (insert_entry R (p ∷ ps) k s) t ≡ insert_entry R (set_value (is_at (R q)) (p ∷ ps) t) k s
      by r b is at further =
          ap (λ x. set_value (is_at (R q)) (match_ordering x ((k, s) ∷ p ∷ ps) ((p.0, s) ∷ ps) (p ∷ insert_entry R ps k s)) t) is ∙ written r b is at further
          ∙ sym (put_in b r is) ∙ ap (λ c. insert_entry R (cond c ((p.0, t) ∷ ps) (p ∷ rest)) k s) (sym at)

  module _ (k : K) (ps : List (K × Slot K V)) (none : lookup (is_at (R k)) ps ≡ None) where
    other_key : (q : K) → is_some (lookup (is_at (R q)) ps) ≡ true → is_at (R q) k ≡ false
    other_key q there = elim (is_at (R q) k) as (λ b. is_at (R q) k ≡ b → b ≡ false) [
      | true ↦ λ tied. sym there ∙ ap is_some (tied_lookup o q k tied ps ∙ none)
      | false ↦ λ apart. refl
    ] refl

    rewound-placed : (us : List (Undo K V)) → HavePlaces R us ps → rewound R us (insert_entry R ps k Empty) ≡ insert_entry R (rewound R us ps) k Empty
    rewound-placed [] h = refl
    rewound-placed (u ∷ us) h = ap (λ l. set_value (is_at (R u.key)) l u.before) (rewound-placed us h.1) ∙ set-placed u.key k u.before Empty (rewound R us ps) (other_key u.key h.0)

    absent : (us : List (Undo K V)) → lookup (is_at (R k)) (rewound R us ps) ≡ None
    absent [] = none
    absent (u ∷ us) = none-set (is_at (R k)) (is_at (R u.key)) (rewound R us ps) u.before (absent us)

    seen-placed : (us : List (Undo K V)) → HavePlaces R us ps → filled (rewound R us (insert_entry R ps k Empty)) ≡ filled (rewound R us ps)
    seen-placed us h = ap filled (rewound-placed us h) ∙ filled-placed R k (rewound R us ps) (absent us)

    below-placed : (us : List (Undo K V)) → HavePlaces R us ps → marks_below R us (insert_entry R ps k Empty) ≡ marks_below R us ps
    below-placed [] h = refl
    below-placed (u ∷ us) h = λ i. times u.point.marks (seen-placed (u ∷ us) h i) ++ below-placed us h.1 i

    Fits-rewound : (us : List (Undo K V)) (point : Point) → HavePlaces R us ps → Fits R point (rewound R us ps) → Fits R point (rewound R us (insert_entry R ps k Empty))
    Fits-rewound us point h fits = record {
      len = fits.len ∙ ap length (sym (seen-placed us h));
      named = subst (AreNamed R) (sym (rewound-placed us h)) (AreNamed-insert o (rewound R us ps) k Empty tt fits.named);
    }

    FitBelow-none : (us : List (Undo K V)) → HavePlaces R us ps → FitBelow R us ps → FitBelow R us (insert_entry R ps k Empty)
    FitBelow-none [] h below = tt
    FitBelow-none (u ∷ us) h below = (Fits-rewound (u ∷ us) u.point h below.0, FitBelow-none us h.1 below.1)

  -- what stands at a place is put there once more, or a place is made
  module _ (us : List (Undo K V)) (k : K) (ps : List (K × Slot K V)) (sorted : IsStrictlySortedBy R (keys_of ps)) (h : HavePlaces R us ps) where
    pub marks_of-placed : (m : ℕ) → marks_of R us m (insert_entry R ps k (slot_at R ps k)) ≡ marks_of R us m ps
    marks_of-placed m = by (lookup (is_at (R k)) ps) refl
      where
        by : (l : Option (Slot K V)) → lookup (is_at (R k)) ps ≡ l → marks_of R us m (insert_entry R ps k (unwrap_or l Empty)) ≡ marks_of R us m ps
        by None none = λ i. below-placed k ps none us h i ++ times m (seen-placed k ps none [] tt i)
        by (Some s) found = ap (marks_of R us m) (insert-same o k s ps sorted found)

    pub Fits-placed : (point : Point) → Fits R point ps → Fits R point (insert_entry R ps k (slot_at R ps k))
    Fits-placed point fits = by (lookup (is_at (R k)) ps) refl
      where
        by : (l : Option (Slot K V)) → lookup (is_at (R k)) ps ≡ l → Fits R point (insert_entry R ps k (unwrap_or l Empty))
        by None none = Fits-rewound k ps none [] point tt fits
        by (Some s) found = subst (Fits R point) (sym (insert-same o k s ps sorted found)) fits

    pub FitBelow-placed : FitBelow R us ps → FitBelow R us (insert_entry R ps k (slot_at R ps k))
    FitBelow-placed below = by (lookup (is_at (R k)) ps) refl
      where
        by : (l : Option (Slot K V)) → lookup (is_at (R k)) ps ≡ l → FitBelow R us (insert_entry R ps k (unwrap_or l Empty))
        by None none = FitBelow-none k ps none us h below
        by (Some s) found = subst (FitBelow R us) (sym (insert-same o k s ps sorted found)) below
