-- Walks over entries and over what is touched, whose items and changes are those of the records; and a ring read row by row.
use Rattle.std.proofs.Common.{◌≡◌, ◌∙◌, ℕ, ◌+◌, ◌*◌, ◌/◌, ◌%◌, ◌<◌, ◌≤◌, Bool, List, [], ◌∷◌, ◌++◌, Option, Some, None, refl, sym, ap, append_assoc, div-add-mod', arith, zero, suc, map, option_map, append-nil}
use Rattle.std.proofs.lemmas.Nat.{mod-mul-add}
use Rattle.base_types.specs.Orders.{cons_cmp}
use Rattle.base_table.specs.Tabled.{entry_above, value_at}
use Rattle.base_roles.specs.{declared.items.Item.Item, Entries.{at, number_at}}
use Rattle.base_records.specs.Items.{change_of, changes_of}
use Rattle.base_records.proofs.WalkLemmas.{Walked, walked-all, Told, told-same, told-more}
use Rattle.mod_signing.specs.{declared.entry.Entry.Entry, Kept.kept_of}
use Rattle.mod_signing.specs.Rings.{Rows, is_set, place_set, places_of, ring_of, row_cmp}
use Rattle.mod_signing.specs.Items.{items_of, same_signed, signed_over, signing_gone, signing_item, touched_over}
use Rattle.mod_signing.proofs.TableLemmas.{signed_found}

-- ---- items

-- the item of an entry
abbrev pub entry_item : Rows → List ℕ × Entry → Item
entry_item rows e = signing_item e.0 (signed_over rows e.0 e.1)

items_over : (es : List (List ℕ × Entry)) (rows : Rows) → map (entry_item rows) es ≡ items_of (kept_of es rows)
items_over [] rows = refl
items_over (e ∷ es) rows = ap (λ t. entry_item rows e ∷ t) (items_over es rows)

pub listed-all : (start out : List Item) (es : List (List ℕ × Entry)) (rows : Rows) (after : Option (List ℕ)) → Walked cons_cmp (entry_item rows) start es out after → entry_above cons_cmp es after ≡ None
    → out ≡ start ++ items_of (kept_of es rows)
listed-all start out es rows after w e = walked-all cons_cmp (entry_item rows) start es out after w e ∙ ap (λ t. start ++ t) (items_over es rows)

-- ---- changes

-- the list begins as it did, and goes on with the changes of the addresses that the walk has passed
abbrev pub ToldSignings : Rows → Rows → List (Item × Bool) → List (List ℕ × Option Entry) → List (List ℕ × Entry) → List (Item × Bool) → List (List ℕ × Option Entry) → Type 0
ToldSignings settled rows start touched es out left = Told cons_cmp signing_item signing_gone same_signed start (touched_over settled touched) (kept_of es rows) out (touched_over settled left)

-- the change of an address
abbrev pub signing_change : Rows → Rows → List ℕ → Option Entry → Option Entry → Option (Item × Bool)
signing_change settled rows cons was now = change_of signing_item signing_gone same_signed cons (option_map (signed_over settled cons) was) (option_map (signed_over rows cons) now)

module _ (settled rows : Rows) (start : List (Item × Bool)) (touched : List (List ℕ × Option Entry)) (es : List (List ℕ × Entry)) where
  change_is : (cons : List ℕ) (was : Option Entry) (x : Option (Item × Bool)) → signing_change settled rows cons was (at cons_cmp es cons) ≡ x
      → change_of signing_item signing_gone same_signed cons (option_map (signed_over settled cons) was) (value_at cons_cmp (kept_of es rows) cons) ≡ x
  change_is cons was x e = ap (change_of signing_item signing_gone same_signed cons (option_map (signed_over settled cons) was)) (signed_found es rows cons) ∙ e

  pub signings-same : (out : List (Item × Bool)) (left rest : List (List ℕ × Option Entry)) (cons : List ℕ) (was : Option Entry) → ToldSignings settled rows start touched es out left → left ≡ (cons, was) ∷ rest
      → signing_change settled rows cons was (at cons_cmp es cons) ≡ None → ToldSignings settled rows start touched es out rest
  signings-same out left rest cons was t e c =
      told-same cons_cmp signing_item signing_gone same_signed start (touched_over settled touched) (kept_of es rows) out (touched_over settled left) (touched_over settled rest)
      cons (option_map (signed_over settled cons) was) t (ap (touched_over settled) e) (change_is cons was None c)

  pub signings-more : (out next : List (Item × Bool)) (left rest : List (List ℕ × Option Entry)) (cons : List ℕ) (was : Option Entry) (p : Item × Bool) → ToldSignings settled rows start touched es out left → left ≡ (cons, was) ∷ rest
      → signing_change settled rows cons was (at cons_cmp es cons) ≡ Some p → next ≡ out ++ p ∷ [] → ToldSignings settled rows start touched es next rest
  signings-more out next left rest cons was p t e c n =
      told-more cons_cmp signing_item signing_gone same_signed start (touched_over settled touched) (kept_of es rows) out next (touched_over settled left) (touched_over settled rest)
      cons (option_map (signed_over settled cons) was) p t (ap (touched_over settled) e) (change_is cons was (Some p) c) n

-- ---- a ring, row by row

module _ (rows : Rows) (cons : List ℕ) (number : ℕ) where
  row_start : (k : ℕ) → k < 128 → ((number * 128 + k) / 128 ≡ number) × ((number * 128 + k) % 128 ≡ k)
  row_start k l =
      let rest : (number * 128 + k) % 128 ≡ k = mod-mul-add number 128 k l in
      (omega (arith, rest, div-add-mod' (number * 128 + k) 128), rest)

  -- the places of a row follow those before it
  pub row_follows : (k : ℕ) → k ≤ 128 → ring_of rows cons (number * 128 + k) ≡ ring_of rows cons (number * 128) ++ places_of (number_at row_cmp rows (number, cons)) k
  row_follows zero h = ap (ring_of rows cons) zero_more ∙ sym (append-nil (ring_of rows cons (number * 128)))
    where
      zero_more : number * 128 + zero ≡ number * 128
      zero_more = omega arith
  row_follows (suc k) h =
      let parts = row_start k (omega (arith, h)) in
      let here : place_set rows cons (number * 128 + k) ≡ is_set (number_at row_cmp rows (number, cons)) k
      = (λ i. is_set (number_at row_cmp rows (parts.0 i, cons)) (parts.1 i)) in
      let less : k ≤ 128 = omega (arith, h) in
      ap (ring_of rows cons) one_more
      ∙ (λ i. row_follows k less i ++ here i ∷ [])
      ∙ append_assoc (ring_of rows cons (number * 128)) (places_of (number_at row_cmp rows (number, cons)) k) (is_set (number_at row_cmp rows (number, cons)) k ∷ [])
    where
      one_more : number * 128 + suc k ≡ suc (number * 128 + k)
      one_more = omega arith

-- the first places of a ring, and those of the next row, so many of them
pub ring_more : (rows : Rows) (cons : List ℕ) (from some : ℕ) → from % 128 ≡ 0 → some ≤ 128 → ring_of rows cons (from + some) ≡ ring_of rows cons from ++ places_of (number_at row_cmp rows (from / 128, cons)) some
ring_more rows cons from some e h =
    let start : from ≡ from / 128 * 128 = omega (arith, div-add-mod' from 128, e) in
    ap (λ k. ring_of rows cons (k + some)) start ∙ row_follows rows cons (from / 128) some h
    ∙ ap (λ k. ring_of rows cons k ++ places_of (number_at row_cmp rows (from / 128, cons)) some) (sym start)
