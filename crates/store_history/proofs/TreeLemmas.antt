-- An ordered map of bytes as a list of pairs.
use Rattle.std.proofs.Common.{◌≡◌, ◌∙◌, ℕ, Bool, not, List, [], ◌∷◌, map, Option, Some, None, Ordering, Less, Equal, Greater, is_eq, refl, sym, ap, ap₂, subst, Vec, option_map, cond, Result, Ok, Err, IfOk, OnErr, OnOk}
use Rattle.std.specs.{declared.alloc.Global.Global, BTreeMap.{insert_entry, is_at}, Map.{lookup, remove_entry}}
use Rattle.std.specs.{List.AllByRecursion, Ordering.match_ordering}
use Rattle.base_io.specs.{Rows.{Pair, key_cmp, put}, Changes.{Rises, pair_of, remove, value_of}}
use Rattle.base_io.proofs.RowLemmas.{put_rises, remove_rises}
use Rattle.store_history.{specs.Held.row_in, proofs.MapLemmas.{above_all, flip, flop, none_below, tied}}

abbrev pub Entry : Type 0
Entry = Vec ℕ Global × Vec ℕ Global

abbrev pub pair_in : Entry → Pair
pair_in e = (e.0.items, e.1.items)

abbrev pub by_bytes : Vec ℕ Global → Vec ℕ Global → Ordering
by_bytes x y = key_cmp x.items y.items

abbrev pub at_bytes : List ℕ → Vec ℕ Global → Ordering
at_bytes q k = key_cmp q k.items

abbrev Put : Ordering → Pair → Pair → List Pair → List Pair
Put o new p ps = match_ordering o (p ∷ put new ps) (new ∷ ps) (new ∷ p ∷ ps)

pub insert_is : (es : List Entry) (k v : Vec ℕ Global) → map pair_in (insert_entry by_bytes es k v) ≡ put (k.items, v.items) (map pair_in es)
insert_is [] k v = refl
insert_is (e ∷ es) k v = go (key_cmp k.items e.0.items) refl (insert_is es k v)
  where
    put_by : (o : Ordering) → key_cmp e.0.items k.items ≡ o → Put o (k.items, v.items) (pair_in e) (map pair_in es) ≡ put (k.items, v.items) (map pair_in (e ∷ es))
    put_by o is = ap (λ (o : Ordering). Put o (k.items, v.items) (pair_in e) (map pair_in es)) (sym is)

    go : (o : Ordering) → key_cmp k.items e.0.items ≡ o → map pair_in (insert_entry by_bytes es k v) ≡ put (k.items, v.items) (map pair_in es)
        → map pair_in (match_ordering o ((k, v) ∷ e ∷ es) ((e.0, v) ∷ es) (e ∷ insert_entry by_bytes es k v)) ≡ put (k.items, v.items) (map pair_in (e ∷ es))
    go Less is later = put_by Greater (flop k.items e.0.items is)
    go Equal is later =
        let same : k.items ≡ e.0.items = tied k.items e.0.items is in
        let back : key_cmp e.0.items k.items ≡ Equal = ap₂ key_cmp (sym same) same ∙ is in
        ap (λ (key : List ℕ). (key, v.items) ∷ map pair_in es) (sym same) ∙ put_by Equal back
    go Greater is later = ap (λ (ps : List Pair). pair_in e ∷ ps) later ∙ put_by Less (flip k.items e.0.items is)

abbrev Value : Ordering → List ℕ → Pair → List Pair → Option (List ℕ)
Value o key p ps = match_ordering o (value_of key ps) (Some p.1) None

abbrev pub bytes_in : Option (Vec ℕ Global) → Option (List ℕ)
bytes_in o = option_map (λ v. v.items) o

pub lookup_is : (q : List ℕ) (es : List Entry) → Rises (map pair_in es) → option_map (λ v. v.items) (lookup (is_at (at_bytes q)) es) ≡ value_of q (map pair_in es)
lookup_is q [] up = refl
lookup_is q (e ∷ es) up = go (key_cmp q e.0.items) refl (lookup_is q es up.1)
  where
    found : (o : Ordering) → key_cmp e.0.items q ≡ o → Value o q (pair_in e) (map pair_in es) ≡ value_of q (map pair_in (e ∷ es))
    found o is = ap (λ (o : Ordering). Value o q (pair_in e) (map pair_in es)) (sym is)

    go : (o : Ordering) → key_cmp q e.0.items ≡ o → bytes_in (lookup (is_at (at_bytes q)) es) ≡ value_of q (map pair_in es)
        → bytes_in (cond (is_eq o) (Some e.1) (lookup (is_at (at_bytes q)) es)) ≡ value_of q (map pair_in (e ∷ es))
    go Less is later = later ∙ none_below q (map pair_in es) (above_all q (pair_in e) (map pair_in es) is up).1 ∙ found Greater (flop q e.0.items is)
    go Equal is later =
        let same : q ≡ e.0.items = tied q e.0.items is in
        found Equal (ap₂ key_cmp (sym same) same ∙ is)
    go Greater is later = later ∙ found Less (flip q e.0.items is)

keeps_above : (key : List ℕ) (ps : List Pair) → AllByRecursion (λ q. key_cmp key q.0 ≡ Less) ps → remove key ps ≡ ps
keeps_above key [] h = refl
keeps_above key (q ∷ ps) h = rw (flop key q.0 h.0) (ap (λ (t : List Pair). q ∷ t) (keeps_above key ps h.1))

abbrev Left : Bool → Pair → List Pair → List Pair
Left b p ps = cond b (p ∷ ps) ps

pub remove_is : (q : List ℕ) (es : List Entry) → Rises (map pair_in es) → map pair_in (remove_entry (is_at (at_bytes q)) es) ≡ remove q (map pair_in es)
remove_is q [] up = refl
remove_is q (e ∷ es) up = go (key_cmp q e.0.items) refl (remove_is q es up.1)
  where
    left : (o : Ordering) → key_cmp e.0.items q ≡ o → Left (not (is_eq o)) (pair_in e) (remove q (map pair_in es)) ≡ remove q (map pair_in (e ∷ es))
    left o is = rw is refl

    go : (o : Ordering) → key_cmp q e.0.items ≡ o → map pair_in (remove_entry (is_at (at_bytes q)) es) ≡ remove q (map pair_in es)
        → map pair_in (cond (is_eq o) es (e ∷ remove_entry (is_at (at_bytes q)) es)) ≡ remove q (map pair_in (e ∷ es))
    go Less is later = ap (λ (ps : List Pair). pair_in e ∷ ps) later ∙ left Greater (flop q e.0.items is)
    go Equal is later =
        let same : q ≡ e.0.items = tied q e.0.items is in
        let above : AllByRecursion (λ p. key_cmp q p.0 ≡ Less) (map pair_in es) = rw same up.0 in
        sym (keeps_above q (map pair_in es) above) ∙ left Equal (ap₂ key_cmp (sym same) same ∙ is)
    go Greater is later = ap (λ (ps : List Pair). pair_in e ∷ ps) later ∙ left Less (flip q e.0.items is)

-- ---- what the calls of a map leave

pub insert_rises : {X E : Type 0} (r : Result X E) (es new : List Entry) (k v : Vec ℕ Global) → OnOk r (new ≡ insert_entry by_bytes es k v) → OnErr r (new ≡ es) → Rises (map pair_in es) → Rises (map pair_in new)
insert_rises (Ok x) es new k v ok err up =
    subst (λ (ps : List Pair). Rises ps) (sym (ap (map pair_in) ok ∙ insert_is es k v)) (put_rises (k.items, v.items) (map pair_in es) up)
insert_rises (Err e) es new k v ok err up = subst (λ (es : List Entry). Rises (map pair_in es)) (sym err) up

pub remove_keeps : (q : List ℕ) (es new : List Entry) → new ≡ remove_entry (is_at (at_bytes q)) es → Rises (map pair_in es) → Rises (map pair_in new)
remove_keeps q es new is up = subst (λ (ps : List Pair). Rises ps) (sym (ap (map pair_in) is ∙ remove_is q es up)) (remove_rises q (map pair_in es) up)

pub rows_are : (es : List Entry) → map pair_of (map row_in es) ≡ map pair_in es
rows_are [] = refl
rows_are (e ∷ es) = ap (λ (ps : List Pair). pair_in e ∷ ps) (rows_are es)

-- what holds of a value holds of what has it
pub ok_by : {X E Y : Type 0} (r : Result X E) (f : X → Y) (y : Y) (P : Y → Type 0) → IfOk r (λ x. f x ≡ y) → P y → IfOk r (λ x. P (f x))
ok_by (Ok x) f y P is h = subst P (sym is) h
ok_by (Err e) f y P is h = tt
