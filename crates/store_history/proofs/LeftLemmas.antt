-- What a commit leaves: one that goes on, and one that begins anew.
use Rattle.std.proofs.Common.{◌≡◌, ◌∙◌, ◌⊎◌, inl, inr, ℕ, ◌^◌, ◌<◌, ◌≤◌, Bool, true, false, List, [], ◌∷◌, length, map, Option, Some, None, refl, sym, ap, ap₂, subst, arith, is_some, option_and_then, unwrap_or, ◌==◌}
use Rattle.base_io.specs.{Rows.Pair, Changes.{Rises, value_of}}
use Rattle.store_history.specs.History.{Begins, IsHistory, IsKept, base_in, base_key, base_of, eight_bytes, kept_value, last_of, stored_base}
use Rattle.store_history.specs.Commits.{Seen, anew, change_at, going_on, height_of, is_base, made, note}
use Rattle.store_history.proofs.MapLemmas.{same_or_other, some_same}
use Rattle.store_history.proofs.KeyLemmas.{based_not_kept, based_not_seen, begins_kept, eight_long, kept_not_seen}
use Rattle.store_history.proofs.ChangeLemmas.{AreDistinct, AreVisible, base_change, made_rises, new_based, new_distinct, new_else, new_kept, new_seen, note_there, on_based, on_distinct, on_else, on_kept, on_seen, value_made}
use Rattle.store_history.proofs.FormLemmas.{Leaves, base_at_most, base_back, kept_still, last_small, leaves_from, note_formed, row_formed}

module _ (rows : List Pair) (up : Rises rows) (h : IsHistory rows) (n : ℕ) (small : n < 2 ^ 64) (cs : List Seen) (apart : AreDistinct cs) (free : AreVisible cs) (height : height_of cs ≡ Some n) where
  -- ---- going on

  module _ (last : ℕ) (is_last : last_of rows ≡ Some last) (less : last < n) where
    abbrev on_rows : List Pair
    on_rows = made (going_on rows last n cs) rows

    pub on_value : (key : List ℕ) → value_of key on_rows ≡ unwrap_or (change_at key (going_on rows last n cs)) (value_of key rows)
    on_value key = value_made (going_on rows last n cs) rows key up (on_distinct rows last n cs free apart)

    on_base_value : value_of base_key on_rows ≡ unwrap_or (base_change (is_some (stored_base rows)) last) (value_of base_key rows)
    on_base_value = on_value base_key ∙ ap (λ (o : Option (Option (List ℕ))). unwrap_or o (value_of base_key rows)) (on_based rows last n cs free)

    on_base_is : stored_base on_rows ≡ Some (base_of rows last)
    on_base_is = ap (option_and_then base_in) on_base_value ∙ go (stored_base rows) refl
      where
        go : (o : Option ℕ) → stored_base rows ≡ o → option_and_then base_in (unwrap_or (base_change (is_some o) last) (value_of base_key rows)) ≡ Some (unwrap_or o last)
        go None e = base_back last (last_small rows h last is_last)
        go (Some base) e = e

    on_base_long : (value : List ℕ) → value_of base_key on_rows ≡ Some value → length value ≡ 8
    on_base_long value is = go (is_some (stored_base rows)) (sym on_base_value ∙ is)
      where
        go : (b : Bool) → unwrap_or (base_change b last) (value_of base_key rows) ≡ Some value → length value ≡ 8
        go true e = ((row_formed rows h base_key value e).based refl).value
        go false e = ap length (sym (some_same (eight_bytes last) value e)) ∙ eight_long last

    on_kept_formed : (key value : List ℕ) → value_of key on_rows ≡ Some value → Begins 96 key → IsKept (Some (base_of rows last)) (Some n) (key, value)
    on_kept_formed key value is begins =
        let kept = begins_kept key begins in
        go (change_at key (map (note n rows) cs)) refl
        (ap (λ (o : Option (Option (List ℕ))). unwrap_or o (value_of key rows)) (sym (on_kept rows last n cs free key kept (kept_not_seen key kept))) ∙ sym (on_value key) ∙ is)
      where
        go : (o : Option (Option (List ℕ))) → change_at key (map (note n rows) cs) ≡ o → unwrap_or o (value_of key rows) ≡ Some value → IsKept (Some (base_of rows last)) (Some n) (key, value)
        go None e is = kept_still (stored_base rows) (last_of rows) (base_of rows last) last n (key, value) is_last less refl ((row_formed rows h key value is).kept begins)
        go (Some new) e is =
            let (name, key_is, new_is, seen) = note_there n rows cs key new free e in
            let value_is : kept_value (value_of name rows) ≡ value = some_same (kept_value (value_of name rows)) value (sym new_is ∙ is) in
            let formed = note_formed n (base_of rows last) name (value_of name rows) small seen (let at_most = base_at_most rows h last is_last in omega (arith, at_most, less)) in
            subst (λ (p : Pair). IsKept (Some (base_of rows last)) (Some n) p) (ap₂ (λ (k v : List ℕ). (k, v)) (sym key_is) value_is) formed

    on_based_formed : (key value : List ℕ) → value_of key on_rows ≡ Some value → Begins 97 key → (key ≡ base_key) × (length value ≡ 8)
    on_based_formed key value is begins = elim (same_or_other key base_key) [
      | inl same ↦ (same, on_base_long value (subst (λ (k : List ℕ). value_of k on_rows ≡ Some value) same is))
      | inr other ↦
          let old : value_of key rows ≡ Some value =
          ap (λ (o : Option (Option (List ℕ))). unwrap_or o (value_of key rows)) (sym (on_else rows last n cs free key (based_not_seen key begins) (based_not_kept key begins) other)) ∙ sym (on_value key) ∙ is
          in
          absurd (other ((row_formed rows h key value old).based begins).key)
    ]

    pub on_leaves : Leaves cs n (base_of rows last) rows on_rows
    on_leaves =
        leaves_from cs n (base_of rows last) rows on_rows height small (let at_most = base_at_most rows h last is_last in omega (arith, at_most, less))
        (made_rises (going_on rows last n cs) rows up) on_base_is
        (λ key seen. on_value key ∙ ap (λ (o : Option (Option (List ℕ))). unwrap_or o (value_of key rows)) (on_seen rows last n cs free key seen))
        on_kept_formed on_based_formed

  -- ---- anew

  abbrev new_rows : List Pair
  new_rows = made (anew rows n cs) rows

  new_value : (key : List ℕ) → value_of key new_rows ≡ unwrap_or (change_at key (anew rows n cs)) (value_of key rows)
  new_value key = value_made (anew rows n cs) rows key up (new_distinct rows n cs up free apart)

  new_base_value : value_of base_key new_rows ≡ unwrap_or (base_change (is_base n (stored_base rows)) n) (value_of base_key rows)
  new_base_value = new_value base_key ∙ ap (λ (o : Option (Option (List ℕ))). unwrap_or o (value_of base_key rows)) (new_based rows n cs up free)

  same_number : (b : ℕ) → (b == n) ≡ true → b ≡ n
  same_number b e = search (Rattle.std.proofs.Common.rules)

  new_base_is : stored_base new_rows ≡ Some n
  new_base_is = ap (option_and_then base_in) new_base_value ∙ go (stored_base rows) refl
    where
      at : (b : ℕ) (same : Bool) → (b == n) ≡ same → stored_base rows ≡ Some b → option_and_then base_in (unwrap_or (base_change same n) (value_of base_key rows)) ≡ Some n
      at b true same e = e ∙ ap (λ (m : ℕ). Some m) (same_number b same)
      at b false other e = base_back n small

      go : (o : Option ℕ) → stored_base rows ≡ o → option_and_then base_in (unwrap_or (base_change (is_base n o) n) (value_of base_key rows)) ≡ Some n
      go None e = base_back n small
      go (Some b) e = at b (b == n) refl e

  new_base_long : (value : List ℕ) → value_of base_key new_rows ≡ Some value → length value ≡ 8
  new_base_long value is = go (is_base n (stored_base rows)) (sym new_base_value ∙ is)
    where
      go : (b : Bool) → unwrap_or (base_change b n) (value_of base_key rows) ≡ Some value → length value ≡ 8
      go true e = ((row_formed rows h base_key value e).based refl).value
      go false e = ap length (sym (some_same (eight_bytes n) value e)) ∙ eight_long n

  new_kept_formed : (key value : List ℕ) → value_of key new_rows ≡ Some value → Begins 96 key → IsKept (Some n) (Some n) (key, value)
  new_kept_formed key value is begins =
      let kept = begins_kept key begins in
      let none : value_of key new_rows ≡ None = new_value key ∙ new_kept rows n cs up free key kept (kept_not_seen key kept) in
      absurd cc

  new_based_formed : (key value : List ℕ) → value_of key new_rows ≡ Some value → Begins 97 key → (key ≡ base_key) × (length value ≡ 8)
  new_based_formed key value is begins = elim (same_or_other key base_key) [
    | inl same ↦ (same, new_base_long value (subst (λ (k : List ℕ). value_of k new_rows ≡ Some value) same is))
    | inr other ↦
        let old : value_of key rows ≡ Some value =
        ap (λ (o : Option (Option (List ℕ))). unwrap_or o (value_of key rows)) (sym (new_else rows n cs up free key (based_not_seen key begins) (based_not_kept key begins) other)) ∙ sym (new_value key) ∙ is
        in
        absurd (other ((row_formed rows h key value old).based begins).key)
  ]

  pub new_leaves : Leaves cs n n rows new_rows
  new_leaves =
      leaves_from cs n n rows new_rows height small (omega arith) (made_rises (anew rows n cs) rows up) new_base_is
      (λ key seen. new_value key ∙ ap (λ (o : Option (Option (List ℕ))). unwrap_or o (value_of key rows)) (new_seen rows n cs up free key seen))
      new_kept_formed new_based_formed
