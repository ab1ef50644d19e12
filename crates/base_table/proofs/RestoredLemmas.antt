-- The entries at the last settling, as entries and a touched list tell them, stay through changes.
use Rattle.std.proofs.Common.{◌≡◌, true, false, cond, List, [], ◌∷◌, ◌++◌, Option, Some, None, is_some, option_map, unwrap_or, refl, if◌then◌else◌, sym, ◌∙◌, ap, subst, Ordering}
use Rattle.std.specs.{Cmp.IsTotalOrder, List.Sorted.IsStrictlySortedBy}
use Rattle.std.specs.{Map.{keys_of, lookup, lookup_entry, lookup_key, remove_entry}, BTreeMap.{insert_entry, is_at}}
use Rattle.base_table.specs.{Restored.{put_back, restored, KeepsSettled}, Tabled.{key_in, touched_with, value_at}}
use Rattle.base_table.proofs.EntryLemmas.{alike_is_at, entry-insert_other, entry-remove_entry, entry-with_entry, lookup_is, lookup_key_is, same_entries, sorted-with_entry, tied_entry, tied_lookup}
use Rattle.base_types.proofs.MapLemmas.{ascend-put, ascend-taken}

-- the entry that a listed pair tells
abbrev pub pair_entry : {K V : Type 0} → K × Option V → Option (K × V)
pair_entry t = option_map (λ v. (t.0, v)) t.1

option_map_value : {K V : Type 0} (k : K) (o : Option V) → option_map (λ e. e.1) (pair_entry (k, o)) ≡ o
option_map_value k None = refl
option_map_value k (Some v) = refl

-- a found entry is the pair of the key and the value that are found
found_pair : {K V : Type 0} (k : K) (o : Option (K × V)) → pair_entry (unwrap_or (option_map (λ e. e.0) o) k, option_map (λ e. e.1) o) ≡ o
found_pair k None = refl
found_pair k (Some e) = refl

module _ {K : Type 0} {R : K → K → Ordering} (o : IsTotalOrder R) where
  module _ {V : Type 0} where
    -- the entry at q once the listed keys are restored, where `now` stands there before
    abbrev pub told : K → List (K × Option V) → Option (K × V) → Option (K × V)
    told q [] now = now
    told q (t ∷ ts) now = cond (is_at (R q) t.0) (pair_entry t) (told q ts now)

    sorted-put_back : (k : K) (old : Option V) (es : List (K × V)) → IsStrictlySortedBy R (keys_of es) → IsStrictlySortedBy R (keys_of (put_back R k old es))
    sorted-put_back k None es h = ascend-taken R (is_at (R k)) es h
    sorted-put_back k (Some v) es h = sorted-with_entry o k v es h

    pub sorted-restored : (ts : List (K × Option V)) (es : List (K × V)) → IsStrictlySortedBy R (keys_of es) → IsStrictlySortedBy R (keys_of (restored R ts es))
    sorted-restored [] es h = h
    sorted-restored (t ∷ ts) es h = sorted-put_back t.0 t.1 (restored R ts es) (sorted-restored ts es h)

    entry-put_back : (q k : K) (old : Option V) (es : List (K × V)) → IsStrictlySortedBy R (keys_of es) → lookup_entry (is_at (R q)) (put_back R k old es) ≡ cond (is_at (R q) k) (pair_entry (k, old)) (lookup_entry (is_at (R q)) es)
    entry-put_back q k None es h = entry-remove_entry o q k es h
    entry-put_back q k (Some v) es h = entry-with_entry o q k v es

    pub entry-restored : (q : K) (ts : List (K × Option V)) (es : List (K × V)) → IsStrictlySortedBy R (keys_of es) → lookup_entry (is_at (R q)) (restored R ts es) ≡ told q ts (lookup_entry (is_at (R q)) es)
    entry-restored q [] es h = refl
    entry-restored q (t ∷ ts) es h = entry-put_back q t.0 t.1 (restored R ts es) (sorted-restored ts es h) ∙ ap (cond (is_at (R q) t.0) (pair_entry t)) (entry-restored q ts es h)

    told-push : (q : K) (ts : List (K × Option V)) (t : K × Option V) (now : Option (K × V)) → told q (ts ++ t ∷ []) now ≡ told q ts (cond (is_at (R q) t.0) (pair_entry t) now)
    told-push q [] t now = refl
    told-push q (u ∷ ts) t now = ap (cond (is_at (R q) u.0) (pair_entry u)) (told-push q ts t now)

    -- of a listed key the list alone tells, and of another it tells nothing
    told-listed : (q : K) (ts : List (K × Option V)) (a b : Option (K × V)) → is_some (lookup (is_at (R q)) ts) ≡ true → told q ts a ≡ told q ts b
    told-listed q [] a b h = cc
    told-listed q (t ∷ ts) a b h = elim (is_at (R q) t.0) as (λ c. is_some (cond c (Some t.1) (lookup (is_at (R q)) ts)) ≡ true → cond c (pair_entry t) (told q ts a) ≡ cond c (pair_entry t) (told q ts b)) [
      | true ↦ λ h. refl
      | false ↦ λ h. told-listed q ts a b h
    ] h

    told-other : (q : K) (ts : List (K × Option V)) (a : Option (K × V)) → is_some (lookup (is_at (R q)) ts) ≡ false → told q ts a ≡ a
    told-other q [] a h = refl
    told-other q (t ∷ ts) a h = elim (is_at (R q) t.0) as (λ c. is_some (cond c (Some t.1) (lookup (is_at (R q)) ts)) ≡ false → cond c (pair_entry t) (told q ts a) ≡ a) [
      | true ↦ λ h. cc
      | false ↦ λ h. told-other q ts a h
    ] h

    told-value : (q : K) (ts : List (K × Option V)) (a : Option (K × V)) (old : Option V) → lookup (is_at (R q)) ts ≡ Some old → option_map (λ e. e.1) (told q ts a) ≡ old
    told-value q [] a old h = cc
    told-value q (t ∷ ts) a old h = elim (is_at (R q) t.0) as (λ c. cond c (Some t.1) (lookup (is_at (R q)) ts) ≡ Some old → option_map (λ e. e.1) (cond c (pair_entry t) (told q ts a)) ≡ old) [
      | true ↦ λ h. option_map_value t.0 t.1 ∙ ap (λ x. unwrap_or x old) h
      | false ↦ λ h. told-value q ts a old h
    ] h

    -- the pair that is listed of a key tells the entry that stands there
    listed_pair : (es : List (K × V)) (k : K) → pair_entry (key_in R es k, value_at R es k) ≡ lookup_entry (is_at (R k)) es
    listed_pair es k = (λ i. pair_entry (unwrap_or (lookup_key_is (is_at (R k)) es i) k, lookup_is (is_at (R k)) es i)) ∙ found_pair k (lookup_entry (is_at (R k)) es)

    pub key_in-tied : (es : List (K × V)) (q k : K) → is_at (R q) (key_in R es k) ≡ is_at (R q) k
    key_in-tied [] q k = refl
    key_in-tied (e ∷ es) q k = elim (is_at (R k) e.0) as (λ b. is_at (R k) e.0 ≡ b → is_at (R q) (unwrap_or (cond b (Some e.0) (lookup_key (is_at (R k)) es)) k) ≡ is_at (R q) k) [
      | true ↦ λ p. alike_is_at o q k e.0 p
      | false ↦ λ p. key_in-tied es q k
    ] refl

    -- a touch of k: at each other key b tells what a does, and so it does at each
    told-touched : (ts : List (K × Option V)) (es : List (K × V)) (k q : K) (b : Option (K × V))
        → (is_at (R q) k ≡ false → told q ts b ≡ told q ts (lookup_entry (is_at (R q)) es))
        → told q (touched_with R ts es k) b ≡ told q ts (lookup_entry (is_at (R q)) es)
    told-touched ts es k q b others =
        elim (is_some (value_at R ts k)) as (λ s. is_some (value_at R ts k) ≡ s → told q (if s then ts else ts ++ (key_in R es k, value_at R es k) ∷ []) b ≡ told q ts (lookup_entry (is_at (R q)) es)) [
          | true ↦ λ is. elim (is_at (R q) k) as (λ t. is_at (R q) k ≡ t → told q ts b ≡ told q ts (lookup_entry (is_at (R q)) es)) [
            | true ↦ λ t. told-listed q ts b _ (ap is_some (tied_lookup o q k t ts) ∙ is)
            | false ↦ λ t. others t
          ] refl
          | false ↦ λ is. told-push q ts (key_in R es k, value_at R es k) b ∙ ap (λ c. told q ts (cond c (pair_entry (key_in R es k, value_at R es k)) b)) (key_in-tied es q k)
              ∙ elim (is_at (R q) k) as (λ t. is_at (R q) k ≡ t → told q ts (cond t (pair_entry (key_in R es k, value_at R es k)) b) ≡ told q ts (lookup_entry (is_at (R q)) es)) [
                | true ↦ λ t. ap (told q ts) (listed_pair es k ∙ sym (tied_entry o q k t es))
                | false ↦ λ t. others t
              ] refl
        ] refl

    pub restored-touched : (ts : List (K × Option V)) (es fs : List (K × V)) (k : K) → IsStrictlySortedBy R (keys_of es) → IsStrictlySortedBy R (keys_of fs)
        → ((q : K) → is_at (R q) k ≡ false → told q ts (lookup_entry (is_at (R q)) fs) ≡ told q ts (lookup_entry (is_at (R q)) es))
        → restored R (touched_with R ts es k) fs ≡ restored R ts es
    restored-touched ts es fs k in_order new_in_order others =
        same_entries o _ _ (sorted-restored (touched_with R ts es k) fs new_in_order) (sorted-restored ts es in_order)
        (λ q. entry-restored q (touched_with R ts es k) fs new_in_order ∙ told-touched ts es k q (lookup_entry (is_at (R q)) fs) (others q) ∙ sym (entry-restored q ts es in_order))

    -- a change of the entry at k, where k is touched, keeps the entries at the last settling
    pub KeepsSettled-touched : (ts : List (K × Option V)) (es fs : List (K × V)) (k : K) → IsStrictlySortedBy R (keys_of es) → IsStrictlySortedBy R (keys_of fs)
        → ((q : K) → is_at (R q) k ≡ false → lookup_entry (is_at (R q)) fs ≡ lookup_entry (is_at (R q)) es)
        → KeepsSettled R ts es (touched_with R ts es k) fs
    KeepsSettled-touched ts es fs k in_order new_in_order others = record {
      entries = restored-touched ts es fs k in_order new_in_order (λ q t. ap (told q ts) (others q t));
      marks = λ m marked_in_order same. restored-touched ts es m k in_order marked_in_order
          (λ q t. sym (entry-restored q ts m marked_in_order) ∙ ap (lookup_entry (is_at (R q))) same ∙ entry-restored q ts es in_order);
    }

    pub KeepsSettled-put : (ts us : List (K × Option V)) (es fs : List (K × V)) (k : K) (v : V) → IsStrictlySortedBy R (keys_of es) → us ≡ touched_with R ts es k → fs ≡ insert_entry R es k v → KeepsSettled R ts es us fs
    KeepsSettled-put ts us es fs k v in_order noted made =
        let new_in_order : IsStrictlySortedBy R (keys_of fs) = subst (λ l. IsStrictlySortedBy R (keys_of l)) (sym made) (ascend-put R o es k v in_order) in
        subst (λ l. KeepsSettled R ts es l fs) (sym noted) (KeepsSettled-touched ts es fs k in_order new_in_order (λ q t. ap (lookup_entry (is_at (R q))) made ∙ entry-insert_other o q k v es t))

    pub KeepsSettled-remove : (ts us : List (K × Option V)) (es fs : List (K × V)) (k : K) → IsStrictlySortedBy R (keys_of es) → us ≡ touched_with R ts es k → fs ≡ remove_entry (is_at (R k)) es → KeepsSettled R ts es us fs
    KeepsSettled-remove ts us es fs k in_order noted made =
        let new_in_order : IsStrictlySortedBy R (keys_of fs) = subst (λ l. IsStrictlySortedBy R (keys_of l)) (sym made) (ascend-taken R (is_at (R k)) es in_order) in
        subst (λ l. KeepsSettled R ts es l fs) (sym noted) (KeepsSettled-touched ts es fs k in_order new_in_order
        (λ q t. ap (lookup_entry (is_at (R q))) made ∙ entry-remove_entry o q k es in_order ∙ ap (λ b. cond b None (lookup_entry (is_at (R q)) es)) t))

    -- of a key that is not listed, the present entry is that at the last settling, so the list grows alike by both
    pub touched_with-restored : (ts : List (K × Option V)) (es : List (K × V)) (k : K) → IsStrictlySortedBy R (keys_of es) → touched_with R ts (restored R ts es) k ≡ touched_with R ts es k
    touched_with-restored ts es k in_order =
        elim (is_some (value_at R ts k)) as (λ s. is_some (value_at R ts k) ≡ s → (if s then ts else ts ++ (key_in R (restored R ts es) k, value_at R (restored R ts es) k) ∷ []) ≡ (if s then ts else ts ++ (key_in R es k, value_at R es k) ∷ [])) [
          | true ↦ λ is. refl
          | false ↦ λ is.
              let here : lookup_entry (is_at (R k)) (restored R ts es) ≡ lookup_entry (is_at (R k)) es = entry-restored k ts es in_order ∙ told-other k ts _ is in
              let key : key_in R (restored R ts es) k ≡ key_in R es k = ap (λ x. unwrap_or x k) (lookup_key_is _ (restored R ts es) ∙ ap (option_map (λ e. e.0)) here ∙ sym (lookup_key_is _ es)) in
              let value : value_at R (restored R ts es) k ≡ value_at R es k = lookup_is _ (restored R ts es) ∙ ap (option_map (λ e. e.1)) here ∙ sym (lookup_is _ es) in
              λ i. ts ++ (key i, value i) ∷ []
        ] refl

    -- what the list tells of a listed key, and of another
    pub value-listed : (ts : List (K × Option V)) (es : List (K × V)) → IsStrictlySortedBy R (keys_of es) → (q : K) (old : Option V) → value_at R ts q ≡ Some old → value_at R (restored R ts es) q ≡ old
    value-listed ts es in_order q old is = lookup_is _ (restored R ts es) ∙ ap (option_map (λ e. e.1)) (entry-restored q ts es in_order) ∙ told-value q ts _ old is

    pub value-other : (ts : List (K × Option V)) (es : List (K × V)) → IsStrictlySortedBy R (keys_of es) → (q : K) → value_at R ts q ≡ None → value_at R (restored R ts es) q ≡ value_at R es q
    value-other ts es in_order q none = lookup_is _ (restored R ts es) ∙ ap (option_map (λ e. e.1)) (entry-restored q ts es in_order ∙ told-other q ts _ (ap is_some none)) ∙ sym (lookup_is _ es)
