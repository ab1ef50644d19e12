-- What is listed as touched of two tables tells the records at the last settling, and so the changes since then.
use Rattle.std.proofs.Common.{◌≡◌, ◌∙◌, ℕ, ◌/◌, ◌%◌, Bool, true, false, cond, List, [], ◌∷◌, Option, Some, None, refl, sym, ap, subst, option_map, unwrap_or}
use Rattle.std.specs.{BTreeMap.is_at, List.{IsDistinct, Sorted.IsStrictlySortedBy}, Map.keys_of, Ordering.eq_by_cmp}
use Rattle.base_types.specs.Orders.{cons_cmp}
use Rattle.base_table.specs.Tabled.{Tabled, TellsSettled, value_at}
use Rattle.base_roles.specs.{Entries.number_at, Items.AreChanges}
use Rattle.base_records.{specs.Items.{AnyValue, changes_of}, proofs.RowLemmas.rows-changed}
use Rattle.mod_signing.specs.{declared.entry.Entry.Entry, Kept.{Signed, kept_of, AreTouched}}
use Rattle.mod_signing.specs.Rings.{Rows, is_set, place_set, ring_of, row_cmp}
use Rattle.mod_signing.specs.Items.{items_of, same_signed, signed_over, signing_entry, signing_gone, signing_item, touched_over}
use Rattle.mod_signing.proofs.{ItemLemmas.signings_are_rowed, TableLemmas.{cons_exact, cons_total, signed_found}}
use Rattle.mod_signing.proofs.UptoLemmas.{first_same}

-- ---- keys

pub kept_keys : (es : List (List ℕ × Entry)) (rows : Rows) → keys_of (kept_of es rows) ≡ keys_of es
kept_keys [] rows = refl
kept_keys (e ∷ es) rows = ap (λ ks. e.0 ∷ ks) (kept_keys es rows)

touched_keys : (rows : Rows) (ts : List (List ℕ × Option Entry)) → keys_of (touched_over rows ts) ≡ keys_of ts
touched_keys rows [] = refl
touched_keys rows (t ∷ ts) = ap (λ ks. t.0 ∷ ks) (touched_keys rows ts)

-- what is listed of an address
touched_at : (rows : Rows) (ts : List (List ℕ × Option Entry)) (cons : List ℕ)
    → value_at cons_cmp (touched_over rows ts) cons ≡ option_map (λ x. option_map (signed_over rows cons) x) (value_at cons_cmp ts cons)
touched_at rows [] cons = refl
touched_at rows (t ∷ ts) cons = by (is_at (cons_cmp cons) t.0) refl (touched_at rows ts cons)
  where
    by : (b : Bool) → is_at (cons_cmp cons) t.0 ≡ b
        → value_at cons_cmp (touched_over rows ts) cons ≡ option_map (λ x. option_map (signed_over rows cons) x) (value_at cons_cmp ts cons)
        → cond b (Some (option_map (signed_over rows t.0) t.1)) (value_at cons_cmp (touched_over rows ts) cons)
        ≡ option_map (λ x. option_map (signed_over rows cons) x) (cond b (Some t.1) (value_at cons_cmp ts cons))
    by true h later = ap (λ k. Some (option_map (signed_over rows k) t.1)) (sym (cons_exact cons t.0 h))
    by false h later = later

-- ---- rings that stayed

module _ (e : Tabled (List ℕ) Entry) (r : Tabled (ℕ × List ℕ) ℕ) (h : AreTouched e.touched r.touched) (te : TellsSettled cons_cmp e) (tr : TellsSettled row_cmp r) where
  -- where an address is not listed, its ring is as it was settled
  ring_stays : (cons : List ℕ) → value_at cons_cmp e.touched cons ≡ None → (places : ℕ) → ring_of r.settled cons places ≡ ring_of r.entries cons places
  ring_stays cons none places = first_same (place_set r.settled cons) (place_set r.entries cons) places (λ p l. ap (λ x. is_set x (p % 128)) (same (p / 128)))
    where
      same : (number : ℕ) → number_at row_cmp r.settled (number, cons) ≡ number_at row_cmp r.entries (number, cons)
      same number = ap (λ x. unwrap_or x 0) (tr.others (number, cons) (h cons number none))

  abbrev pub records : Tabled (List ℕ) Signed
  records = record {
    entries = kept_of e.entries r.entries;
    marks = [];
    touched = touched_over r.settled e.touched;
    settled = kept_of e.settled r.settled;
    spent = false;
  }

  listed_is : (cons : List ℕ) (value : Option Signed) → value_at cons_cmp (touched_over r.settled e.touched) cons ≡ Some value → value_at cons_cmp (kept_of e.settled r.settled) cons ≡ value
  listed_is cons value is = by (value_at cons_cmp e.touched cons) refl (sym (touched_at r.settled e.touched cons) ∙ is)
    where
      by : (x : Option (Option Entry)) → value_at cons_cmp e.touched cons ≡ x → option_map (λ y. option_map (signed_over r.settled cons) y) x ≡ Some value → value_at cons_cmp (kept_of e.settled r.settled) cons ≡ value
      by None was f = absurd cc
      by (Some was) listed f =
          let value_is : option_map (signed_over r.settled cons) was ≡ value = cc in
          signed_found e.settled r.settled cons ∙ ap (option_map (signed_over r.settled cons)) (te.listed cons was listed) ∙ value_is

  other_is : (cons : List ℕ) → value_at cons_cmp (touched_over r.settled e.touched) cons ≡ None → value_at cons_cmp (kept_of e.settled r.settled) cons ≡ value_at cons_cmp (kept_of e.entries r.entries) cons
  other_is cons is = by (value_at cons_cmp e.touched cons) refl (sym (touched_at r.settled e.touched cons) ∙ is)
    where
      over : (x : Option Entry) → value_at cons_cmp e.touched cons ≡ None → option_map (signed_over r.settled cons) x ≡ option_map (signed_over r.entries cons) x
      over None none = refl
      over (Some y) none = ap (λ ring. Some (record { info = y.info; ring = ring })) (ring_stays cons none y.places)

      by : (x : Option (Option Entry)) → value_at cons_cmp e.touched cons ≡ x → option_map (λ y. option_map (signed_over r.settled cons) y) x ≡ None → value_at cons_cmp (kept_of e.settled r.settled) cons ≡ value_at cons_cmp (kept_of e.entries r.entries) cons
      by (Some was) listed f = absurd cc
      by None none f =
          signed_found e.settled r.settled cons ∙ over (value_at cons_cmp e.settled cons) none
          ∙ ap (option_map (signed_over r.entries cons)) (te.others cons none) ∙ sym (signed_found e.entries r.entries cons)

  records_tell : TellsSettled cons_cmp records
  records_tell = record {
    distinct = subst (IsDistinct (eq_by_cmp cons_cmp)) (sym (touched_keys r.settled e.touched)) te.distinct;
    listed = listed_is;
    others = other_is;
    ordered = subst (IsStrictlySortedBy cons_cmp) (sym (kept_keys e.settled r.settled)) te.ordered;
  }

  -- the changes of the touched records are those since the last settling
  pub records_changed : IsStrictlySortedBy cons_cmp (keys_of e.entries)
      → AreChanges (items_of (kept_of e.settled r.settled)) (items_of (kept_of e.entries r.entries))
      (changes_of cons_cmp signing_item signing_gone same_signed (touched_over r.settled e.touched) (kept_of e.entries r.entries))
  records_changed s = rows-changed cons_cmp cons_total AnyValue signing_item signing_gone same_signed signing_entry signings_are_rowed records records_tell
      (subst (IsStrictlySortedBy cons_cmp) (sym (kept_keys e.entries r.entries)) s) (λ k v m. tt) (λ k v m. tt)
