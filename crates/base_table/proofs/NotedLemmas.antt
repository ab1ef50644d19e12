-- A change that is noted and listed: what is always true of places stays, and what is seen of them.
use Rattle.std.proofs.Common.{◌≡◌, ◌<◌, ℕ, Bool, true, false, List, [], ◌∷◌, ◌++◌, Option, is_some, refl, if◌then◌else◌, sym, ◌∙◌, ap, subst, Ordering, option_to_list}
use Rattle.std.specs.{Cmp.IsTotalOrder, List.Sorted.IsStrictlySortedBy, Map.keys_of}
use Rattle.base_table.specs.declared.{slot.{Place.Place, Slot.Slot}, undo.{Point.Point, Undo.Undo}}
use Rattle.base_table.specs.Places.{changed, filled, is_full, len_changed, marks_of, slots, stamps, undo_of, AreStamped, IsExchanged, IsKept, Marked}
use Rattle.base_table.{specs.Tabled.touched_with, proofs.ChangeLemmas.{count-changed, sorted-slots}}
use Rattle.base_table.proofs.{KeptLemmas.{marks-changed, seen, IsKept-changed}, StampLemmas.listed_with}

-- the log and the list with room for one more, `log` and `list`, are those that there were
module _ {K V : Type 0} {R : K → K → Ordering} (o : IsTotalOrder R) (us log new : List (Undo K V)) (here : Point) (depth len : ℕ) (k noted : K) (ps qs : List (K × Place K V)) (value : Option V)
    (ts seen_list list listed : List (K × Option V)) (before : Slot K V) (told : Option (K × Option V)) (marked : Bool)
    (is_marked : marked ≡ true → 0 < depth) (not_marked : marked ≡ false → depth ≡ 0)
    (sorted : IsStrictlySortedBy R (keys_of ps)) (kept : IsKept R us here depth (slots ps)) (exchanged : IsExchanged R k value seen_list ps qs before told)
    (same_key : noted ≡ k) (same_log : log ≡ us) (same_list : list ≡ ts) (same_seen : seen_list ≡ list)
    (noted_in : new ≡ (if marked then log ++ (record { key = noted; before = before; point = here }) ∷ [] else log))
    (listed_in : listed ≡ list ++ option_to_list told) where
  x : IsExchanged R k value ts ps qs before told
  x = subst (λ l. IsExchanged R k value l ps qs before told) (same_seen ∙ same_list) exchanged

  notes : new ≡ (if marked then us ++ (record { key = noted; before = before; point = here }) ∷ [] else us)
  notes = subst (λ (l : List (Undo K V)). new ≡ (if marked then l ++ (record { key = noted; before = before; point = here }) ∷ [] else l)) same_log noted_in

  lists : listed ≡ ts ++ option_to_list told
  lists = listed_in ∙ ap (λ l. l ++ option_to_list told) same_list

  undo_is : ◌≡◌ {A = Undo K V} (record { key = noted; before = before; point = here }) (undo_of R (slots ps) here k)
  undo_is = λ i. record { key = same_key i; before = x.found i; point = here }

  notes_it : new ≡ (if marked then us ++ undo_of R (slots ps) here k ∷ [] else us)
  notes_it = notes ∙ ap (λ (u : Undo K V). if marked then us ++ u ∷ [] else us) undo_is

  in_order : IsStrictlySortedBy R (keys_of (slots ps))
  in_order = sorted-slots o ps k sorted

  pub kept-noted : len ≡ len_changed here.len (is_full before) (is_some value) → IsKept R new (record { marks = 0; len = len }) depth (slots qs)
  kept-noted count =
      IsKept-changed o us new here depth len k (slots ps) (slots qs) x.made.0 marked is_marked not_marked in_order kept notes_it x.made.1
      (count-changed o ps k sorted kept.fits.named qs value here.len len (is_full before) (is_some value) kept.fits.len (ap is_full x.found) refl count x.seen) x.named

  pub stamped-noted : AreStamped R 0 listed (stamps qs)
  stamped-noted = subst (λ l. AreStamped R 0 l (stamps qs)) (sym lists) x.stamped

  pub seen-noted : (old : Marked K V) → ◌≡◌ {A = Marked K V} (record { entries = filled (slots ps); marks = marks_of R us here.marks (slots ps); touched = ts }) old
      → ◌≡◌ {A = Marked K V} (record { entries = filled (slots qs); marks = marks_of R new 0 (slots qs); touched = listed })
      (record { entries = changed R k value old.entries; marks = old.marks; touched = touched_with R old.touched old.entries k })
  seen-noted old is =
      seen old (filled (slots ps)) (filled (slots qs)) (marks_of R us here.marks (slots ps)) (marks_of R new 0 (slots qs)) ts listed (changed R k value) (λ t es. touched_with R t es k) is x.seen
      (marks-changed o us new here depth len k (slots ps) (slots qs) x.made.0 marked is_marked not_marked in_order kept notes_it x.made.1)
      (lists ∙ ap (λ u. ts ++ option_to_list u) x.listed ∙ listed_with o ts (filled (slots ps)) k)
