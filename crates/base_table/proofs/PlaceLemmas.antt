-- What is seen of places, as one of them changes.
use Rattle.std.proofs.Common.{◌≡◌, suc, ◌+◌, ◌≤◌, Bool, true, false, cond, List, [], ◌∷◌, ◌++◌, length, Option, Some, None, is_some, option_map, unwrap_or, Result, Ok, Err, IfOk, refl, sym, ◌∙◌, ap, subst, arith, Ordering, Less, Equal, Greater, is_eq, option_to_list}
use Rattle.std.specs.{Ordering.match_ordering, Cmp.{IsTotalOrder, alike_right, tied_itself}, List.AllByRecursion}
use Rattle.std.specs.List.Sorted.{IsStrictlySortedBy}
use Rattle.std.specs.Map.{keys_of, lookup, lookup_entry, lookup_key, remove_entry, set_value}
use Rattle.std.{specs.BTreeMap.{insert_entry, is_at}, proofs.lemmas.Map.Keys.{sorted_head, sorted_tail}}
use Rattle.base_table.specs.declared.slot.Slot.{Slot, TheVariants.{Empty, Filled, Renamed}}
use Rattle.base_table.specs.Places.{changed, entry_of, filled, is_full, len_changed, name_in, pair_of, slot_at, AreNamed, IsNamed}
use Rattle.base_table.specs.Tabled.{key_in, value_at}
use Rattle.base_table.proofs.EntryLemmas.{alike_is_at, entry_below, entry-insert_other, entry-remove_entry, lookup_is, lookup_key_is, same_entries, sorted-cons, tied_entry}
use Rattle.base_types.proofs.MapLemmas.{all-below, ascend-put, ascend-taken, equal}

-- the first that is there
abbrev pub or_else : {A : Type 0} → Option A → Option A → Option A
or_else None other = other
or_else (Some x) other = Some x

or_none : {A : Type 0} (o other : Option A) → other ≡ None → or_else o other ≡ o
or_none None other none = none
or_none (Some x) other none = refl

module _ {K V : Type 0} where
  -- the entry that is seen of a place, where there is one
  abbrev pub shown : Option (K × Slot K V) → Option (K × V)
  shown None = None
  shown (Some p) = entry_of p.0 p.1

  -- the key under which an entry at the key `k` is seen, where `place` is the key of its place
  abbrev pub name_under : K → K → Option (Slot K V) → K
  name_under k place None = place
  name_under k place (Some s) = name_in k place s

  -- what is listed of a key is told by the entry that stands there
  pub pair_is : (key : K) (e : Option (K × V)) → pair_of key e ≡ (unwrap_or (option_map (λ x. x.0) e) key, option_map (λ x. x.1) e)
  pair_is key None = refl
  pair_is key (Some e) = refl

  -- taking an empty place out changes nothing that is seen
  pub filled-clear : (test : K → Bool) (ps : List (K × Slot K V)) → lookup test ps ≡ Some Empty → filled (remove_entry test ps) ≡ filled ps
  filled-clear test [] found = refl
  filled-clear test (p ∷ ps) found =
      elim (test p.0) as (λ b. cond b (Some p.1) (lookup test ps) ≡ Some Empty → filled (cond b ps (p ∷ remove_entry test ps)) ≡ filled (p ∷ ps)) [
        | true ↦ λ found. let empty : p.1 ≡ Empty = cc in ap (λ s. option_to_list (entry_of p.0 s) ++ filled ps) (sym empty)
        | false ↦ λ found. ap (λ es. option_to_list (entry_of p.0 p.1) ++ es) (filled-clear test ps found)
      ] found

module _ {K : Type 0} {R : K → K → Ordering} (o : IsTotalOrder R) where
  tied : (k : K) → is_at (R k) k ≡ true
  tied k = ap is_eq (tied_itself o k)

  -- an insertion puts the value under the key as it stands there
  entry-insert_same : (k : K) {X : Type 0} (v : X) (es : List (K × X)) → IsStrictlySortedBy R (keys_of es) → lookup_entry (is_at (R k)) (insert_entry R es k v) ≡ Some (key_in R es k, v)
  entry-insert_same k v [] sorted = ap (λ b. cond b (Some (k, v)) None) (tied k)
  entry-insert_same k {X} v (e ∷ es) sorted =
      elim (R k e.0) as (λ r. R k e.0 ≡ r → lookup_entry (is_at (R k)) (match_ordering r ((k, v) ∷ e ∷ es) ((e.0, v) ∷ es) (e ∷ insert_entry R es k v)) ≡ Some (unwrap_or (cond (is_eq r) (Some e.0) (lookup_key (is_at (R k)) es)) k, v)) [
        | Less ↦ λ is.
            let none : lookup_key (is_at (R k)) es ≡ None = lookup_key_is _ es ∙ ap (option_map (λ x. x.0)) (entry_below o k k es (tied k) (all-below R o k e.0 (keys_of es) is (sorted_head R e.0 (keys_of es) sorted))) in
            ap (λ b. cond b (Some (k, v)) (lookup_entry (is_at (R k)) (e ∷ es))) (tied k) ∙ sym (ap (λ n. Some (unwrap_or n k, v)) none)
        | Equal ↦ λ is. ap (λ r. cond (is_eq r) (Some (e.0, v)) (lookup_entry (is_at (R k)) es)) is
        | Greater ↦ λ is. ap (λ r. cond (is_eq r) (Some e) (lookup_entry (is_at (R k)) (insert_entry R es k v))) is ∙ entry-insert_same k v es (sorted_tail R e.0 (keys_of es) sorted)
      ] refl

  entry-insert_at : (q k : K) {X : Type 0} (v : X) (es : List (K × X)) → is_at (R q) k ≡ true → IsStrictlySortedBy R (keys_of es) → lookup_entry (is_at (R q)) (insert_entry R es k v) ≡ Some (key_in R es k, v)
  entry-insert_at q k v es at sorted = tied_entry o q k at (insert_entry R es k v) ∙ entry-insert_same k v es sorted

  -- what is there is written to in place
  pub set-insert : {X : Type 0} (k : K) (s t : X) (ps : List (K × X)) → IsStrictlySortedBy R (keys_of ps) → lookup (is_at (R k)) ps ≡ Some t → set_value (is_at (R k)) ps s ≡ insert_entry R ps k s
  set-insert k s t [] sorted found = cc
  set-insert k s t (p ∷ ps) sorted found =
      elim (R k p.0) as (λ r. R k p.0 ≡ r → cond (is_eq r) (Some p.1) (lookup (is_at (R k)) ps) ≡ Some t → cond (is_eq r) ((p.0, s) ∷ ps) (p ∷ set_value (is_at (R k)) ps s) ≡ match_ordering r ((k, s) ∷ p ∷ ps) ((p.0, s) ∷ ps) (p ∷ insert_entry R ps k s)) [
        | Less ↦ λ is found.
            let none : lookup (is_at (R k)) ps ≡ None = lookup_is _ ps ∙ ap (option_map (λ x. x.1)) (entry_below o k k ps (tied k) (all-below R o k p.0 (keys_of ps) is (sorted_head R p.0 (keys_of ps) sorted))) in cc
        | Equal ↦ λ is found. refl
        | Greater ↦ λ is found. ap (λ l. p ∷ l) (set-insert k s t ps (sorted_tail R p.0 (keys_of ps) sorted) found)
      ] refl found

  -- a place is written to once more
  pub set-inserted : {X : Type 0} (k : K) (s t : X) (ps : List (K × X)) → set_value (is_at (R k)) (insert_entry R ps k s) t ≡ insert_entry R ps k t
  set-inserted k s t [] = ap (λ b. cond b ((k, t) ∷ []) ((k, s) ∷ [])) (tied k)
  set-inserted k s t (p ∷ ps) =
      elim (R k p.0) as (λ r. R k p.0 ≡ r → set_value (is_at (R k)) (match_ordering r ((k, s) ∷ p ∷ ps) ((p.0, s) ∷ ps) (p ∷ insert_entry R ps k s)) t ≡ match_ordering r ((k, t) ∷ p ∷ ps) ((p.0, t) ∷ ps) (p ∷ insert_entry R ps k t)) [
        | Less ↦ λ is. ap (λ b. cond b ((k, t) ∷ p ∷ ps) ((k, s) ∷ set_value (is_at (R k)) (p ∷ ps) t)) (tied k)
        | Equal ↦ λ is. ap (λ r. cond (is_eq r) ((p.0, t) ∷ ps) ((p.0, s) ∷ set_value (is_at (R k)) ps t)) is
        | Greater ↦ λ is. ap (λ r. cond (is_eq r) ((p.0, t) ∷ insert_entry R ps k s) (p ∷ set_value (is_at (R k)) (insert_entry R ps k s) t)) is ∙ ap (λ l. p ∷ l) (set-inserted k s t ps)
      ] refl

  -- how many entries there are once one is put
  pub length-insert_new : {X : Type 0} (k : K) (v : X) (es : List (K × X)) → lookup_entry (is_at (R k)) es ≡ None → length (insert_entry R es k v) ≡ length es + 1
  length-insert_new k v [] none = refl
  length-insert_new k v (e ∷ es) none =
      elim (R k e.0) as (λ r. cond (is_eq r) (Some e) (lookup_entry (is_at (R k)) es) ≡ None → length (match_ordering r ((k, v) ∷ e ∷ es) ((e.0, v) ∷ es) (e ∷ insert_entry R es k v)) ≡ length (e ∷ es) + 1) [
        | Less ↦ λ none. omega arith
        | Equal ↦ λ none. cc
        | Greater ↦ λ none. let rest = length-insert_new k v es none in omega arith
      ] none

  pub length-insert_same : {X : Type 0} (k : K) (v : X) (es : List (K × X)) (f : K × X) → IsStrictlySortedBy R (keys_of es) → lookup_entry (is_at (R k)) es ≡ Some f → length (insert_entry R es k v) ≡ length es
  length-insert_same k v [] f sorted found = cc
  length-insert_same k v (e ∷ es) f sorted found =
      elim (R k e.0) as (λ r. R k e.0 ≡ r → cond (is_eq r) (Some e) (lookup_entry (is_at (R k)) es) ≡ Some f → length (match_ordering r ((k, v) ∷ e ∷ es) ((e.0, v) ∷ es) (e ∷ insert_entry R es k v)) ≡ length (e ∷ es)) [
        | Less ↦ λ is found.
            let none = entry_below o k k es (tied k) (all-below R o k e.0 (keys_of es) is (sorted_head R e.0 (keys_of es) sorted)) in cc
        | Equal ↦ λ is found. refl
        | Greater ↦ λ is found. ap (λ n. suc n) (length-insert_same k v es f (sorted_tail R e.0 (keys_of es) sorted) found)
      ] refl found

  module _ {V : Type 0} where
    first_shown : (q k : K) (s : Slot K V) (rest : List (K × V)) → IsNamed R k s
        → lookup_entry (is_at (R q)) (option_to_list (entry_of k s) ++ rest) ≡ cond (is_at (R q) k) (or_else (entry_of k s) (lookup_entry (is_at (R q)) rest)) (lookup_entry (is_at (R q)) rest)
    first_shown q k Empty rest named = elim (is_at (R q) k) as (λ b. lookup_entry (is_at (R q)) rest ≡ cond b (lookup_entry (is_at (R q)) rest) (lookup_entry (is_at (R q)) rest)) [ true ↦ refl | false ↦ refl ]
    first_shown q k (Filled v) rest named = refl
    first_shown q k (Renamed n v) rest named = ap (λ b. cond b (Some (n.value, v)) (lookup_entry (is_at (R q)) rest)) (alike_is_at o q k n.value named)

    -- the entry at a key is what is seen of its place
    pub entry-filled : (q : K) (ps : List (K × Slot K V)) → IsStrictlySortedBy R (keys_of ps) → AreNamed R ps → lookup_entry (is_at (R q)) (filled ps) ≡ shown (lookup_entry (is_at (R q)) ps)
    entry-filled q [] sorted named = refl
    entry-filled q (p ∷ ps) sorted named =
        let rest = entry-filled q ps (sorted_tail R p.0 (keys_of ps) sorted) named.1 in
        first_shown q p.0 p.1 (filled ps) named.0
        ∙ elim (is_at (R q) p.0) as (λ b. is_at (R q) p.0 ≡ b → cond b (or_else (entry_of p.0 p.1) (lookup_entry (is_at (R q)) (filled ps))) (lookup_entry (is_at (R q)) (filled ps)) ≡ shown (cond b (Some p) (lookup_entry (is_at (R q)) ps))) [
          | true ↦ λ at. or_none _ _ (rest ∙ ap shown (entry_below o q p.0 ps at (sorted_head R p.0 (keys_of ps) sorted)))
          | false ↦ λ at. rest
        ] refl

    pub value-absent : (q : K) (ps : List (K × Slot K V)) → IsStrictlySortedBy R (keys_of ps) → AreNamed R ps → lookup (is_at (R q)) ps ≡ None → lookup_entry (is_at (R q)) (filled ps) ≡ None
    value-absent q ps sorted named absent =
        entry-filled q ps sorted named ∙ by (lookup_entry (is_at (R q)) ps) (sym (lookup_is _ ps) ∙ absent)
      where
        by : (e : Option (K × Slot K V)) → option_map (λ e. e.1) e ≡ None → shown e ≡ None
        by None is = refl
        by (Some p) is = cc

    -- the key under which an entry at this key is seen, by what stands at its place
    pub name-filled : (k : K) (ps : List (K × Slot K V)) → IsStrictlySortedBy R (keys_of ps) → AreNamed R ps → key_in R (filled ps) k ≡ name_under k (key_in R ps k) (lookup (is_at (R k)) ps)
    name-filled k ps sorted named =
        ap (λ n. unwrap_or n k) (lookup_key_is _ (filled ps) ∙ ap (option_map (λ e. e.0)) (entry-filled k ps sorted named))
        ∙ by (lookup_entry (is_at (R k)) ps)
        ∙ (λ i. name_under k (unwrap_or (sym (lookup_key_is (is_at (R k)) ps) i) k) (sym (lookup_is (is_at (R k)) ps) i))
      where
        by : (e : Option (K × Slot K V)) → unwrap_or (option_map (λ x. x.0) (shown e)) k ≡ name_under k (unwrap_or (option_map (λ x. x.0) e) k) (option_map (λ x. x.1) e)
        by None = refl
        by (Some p) = elim p.1 as (λ s. unwrap_or (option_map (λ x. x.0) (entry_of p.0 s)) k ≡ name_under k p.0 (Some s)) [ Empty ↦ refl | Filled v ↦ refl | Renamed n v ↦ refl ]

    all_named : (k : K) (s : Slot K V) (x : K) (rest : List (K × V)) → IsNamed R k s → R x k ≡ Less → AllByRecursion (λ y. R x y ≡ Less) (keys_of rest) → AllByRecursion (λ y. R x y ≡ Less) (keys_of (option_to_list (entry_of k s) ++ rest))
    all_named k Empty x rest named less h = h
    all_named k (Filled v) x rest named less h = (less, h)
    all_named k (Renamed n v) x rest named less h = (sym (alike_right o k n.value x (equal _ named)) ∙ less, h)

    all-filled : (x : K) (ps : List (K × Slot K V)) → AreNamed R ps → AllByRecursion (λ y. R x y ≡ Less) (keys_of ps) → AllByRecursion (λ y. R x y ≡ Less) (keys_of (filled ps))
    all-filled x [] named h = tt
    all-filled x (p ∷ ps) named h = all_named p.0 p.1 x (filled ps) named.0 h.0 (all-filled x ps named.1 h.1)

    sorted-shown : (k : K) (s : Slot K V) (rest : List (K × V)) → IsNamed R k s → AllByRecursion (λ y. R k y ≡ Less) (keys_of rest) → IsStrictlySortedBy R (keys_of rest) → IsStrictlySortedBy R (keys_of (option_to_list (entry_of k s) ++ rest))
    sorted-shown k Empty rest named below sorted = sorted
    sorted-shown k (Filled v) rest named below sorted = sorted-cons o (k, v) rest below sorted
    sorted-shown k (Renamed n v) rest named below sorted = sorted-cons o (n.value, v) rest (moved rest below) sorted
      where
        moved : (es : List (K × V)) → AllByRecursion (λ y. R k y ≡ Less) (keys_of es) → AllByRecursion (λ y. R n.value y ≡ Less) (keys_of es)
        moved [] h = tt
        moved (e ∷ es) h = (sym (o.congr k n.value e.0 (equal _ named)) ∙ h.0, moved es h.1)

    -- what is seen is in order
    pub sorted-filled : (ps : List (K × Slot K V)) → IsStrictlySortedBy R (keys_of ps) → AreNamed R ps → IsStrictlySortedBy R (keys_of (filled ps))
    sorted-filled [] sorted named = sorted
    sorted-filled (p ∷ ps) sorted named = sorted-shown p.0 p.1 (filled ps) named.0 (all-filled p.0 ps named.1 (sorted_head R p.0 (keys_of ps) sorted)) (sorted-filled ps (sorted_tail R p.0 (keys_of ps) sorted) named.1)

    -- names, as a place changes
    named_along : (k l : K) (s : Slot K V) → R k l ≡ Equal → IsNamed R k s → IsNamed R l s
    named_along k l Empty same named = tt
    named_along k l (Filled v) same named = tt
    named_along k l (Renamed n v) same named = ap is_eq (sym (o.congr k l n.value same)) ∙ named

    pub AreNamed-insert : (ps : List (K × Slot K V)) (k : K) (s : Slot K V) → IsNamed R k s → AreNamed R ps → AreNamed R (insert_entry R ps k s)
    AreNamed-insert [] k s here named = (here, tt)
    AreNamed-insert (p ∷ ps) k s here named = elim (R k p.0) as (λ r. R k p.0 ≡ r → AreNamed R (match_ordering r ((k, s) ∷ p ∷ ps) ((p.0, s) ∷ ps) (p ∷ insert_entry R ps k s))) [
      | Less ↦ λ is. (here, named)
      | Equal ↦ λ is. (named_along k p.0 s is here, named.1)
      | Greater ↦ λ is. (named.0, AreNamed-insert ps k s here named.1)
    ] refl

    pub AreNamed-remove : (test : K → Bool) (ps : List (K × Slot K V)) → AreNamed R ps → AreNamed R (remove_entry test ps)
    AreNamed-remove test [] named = tt
    AreNamed-remove test (p ∷ ps) named = elim (test p.0) as (λ b. AreNamed R (cond b ps (p ∷ remove_entry test ps))) [
      | true ↦ named.1
      | false ↦ (named.0, AreNamed-remove test ps named.1)
    ]

    pub named_at : (k : K) (ps : List (K × Slot K V)) (s : Slot K V) → AreNamed R ps → lookup (is_at (R k)) ps ≡ Some s → IsNamed R k s
    named_at k [] s named found = cc
    named_at k (p ∷ ps) s named found = elim (is_at (R k) p.0) as (λ b. is_at (R k) p.0 ≡ b → cond b (Some p.1) (lookup (is_at (R k)) ps) ≡ Some s → IsNamed R k s) [
      | true ↦ λ at found. let same : p.1 ≡ s = cc in subst (IsNamed R k) same (named_along p.0 k p.1 (back k p.0 (equal _ at)) named.0)
      | false ↦ λ at found. named_at k ps s named.1 found
    ] refl found
      where
        back : (x y : K) → R x y ≡ Equal → R y x ≡ Equal
        back x y is = sym (o.congr x y x is) ∙ tied_itself o x

    module _ (k : K) (ps : List (K × Slot K V)) (sorted : IsStrictlySortedBy R (keys_of ps)) (named : AreNamed R ps) where
      -- what is seen once a value stands at a place
      pub filled-insert : (s : Slot K V) (v : V) → IsNamed R k s → entry_of (key_in R ps k) s ≡ Some (key_in R (filled ps) k, v) → filled (insert_entry R ps k s) ≡ insert_entry R (filled ps) k v
      filled-insert s v here shows =
          same_entries o _ _ (sorted-filled (insert_entry R ps k s) new_sorted new_named) (ascend-put R o (filled ps) k v in_order)
          (λ q. elim (is_at (R q) k) as (λ b. is_at (R q) k ≡ b → lookup_entry (is_at (R q)) (filled (insert_entry R ps k s)) ≡ lookup_entry (is_at (R q)) (insert_entry R (filled ps) k v)) [
            | true ↦ λ at. entry-filled q (insert_entry R ps k s) new_sorted new_named ∙ ap shown (entry-insert_at q k s ps at sorted) ∙ shows ∙ sym (entry-insert_at q k v (filled ps) at in_order)
            | false ↦ λ at. entry-filled q (insert_entry R ps k s) new_sorted new_named ∙ ap shown (entry-insert_other o q k s ps at) ∙ sym (entry-filled q ps sorted named) ∙ sym (entry-insert_other o q k v (filled ps) at)
          ] refl)
        where
          in_order : IsStrictlySortedBy R (keys_of (filled ps))
          in_order = sorted-filled ps sorted named

          new_sorted : IsStrictlySortedBy R (keys_of (insert_entry R ps k s))
          new_sorted = ascend-put R o ps k s sorted

          new_named : AreNamed R (insert_entry R ps k s)
          new_named = AreNamed-insert ps k s here named

      -- what is seen once a place is empty
      pub filled-empty : filled (insert_entry R ps k Empty) ≡ remove_entry (is_at (R k)) (filled ps)
      filled-empty =
          same_entries o _ _ (sorted-filled (insert_entry R ps k Empty) new_sorted new_named) (ascend-taken R (is_at (R k)) (filled ps) in_order)
          (λ q. entry-filled q (insert_entry R ps k Empty) new_sorted new_named
          ∙ elim (is_at (R q) k) as (λ b. is_at (R q) k ≡ b → shown (lookup_entry (is_at (R q)) (insert_entry R ps k Empty)) ≡ cond b None (lookup_entry (is_at (R q)) (filled ps))) [
            | true ↦ λ at. ap shown (entry-insert_at q k Empty ps at sorted)
            | false ↦ λ at. ap shown (entry-insert_other o q k Empty ps at) ∙ sym (entry-filled q ps sorted named)
          ] refl
          ∙ sym (entry-remove_entry o q k (filled ps) in_order))
        where
          in_order : IsStrictlySortedBy R (keys_of (filled ps))
          in_order = sorted-filled ps sorted named

          new_sorted : IsStrictlySortedBy R (keys_of (insert_entry R ps k Empty))
          new_sorted = ascend-put R o ps k Empty sorted

          new_named : AreNamed R (insert_entry R ps k Empty)
          new_named = AreNamed-insert ps k Empty tt named

      -- what is seen once its key has a value, or none
      pub filled-changed : (s : Slot K V) (value : Option V) → IsNamed R k s → entry_of (key_in R ps k) s ≡ option_map (λ v. (key_in R (filled ps) k, v)) value → filled (insert_entry R ps k s) ≡ changed R k value (filled ps)
      filled-changed s (Some v) here shows = filled-insert s v here shows
      filled-changed s None here shows = by s shows
        where
          by : (s : Slot K V) → entry_of (key_in R ps k) s ≡ None → filled (insert_entry R ps k s) ≡ remove_entry (is_at (R k)) (filled ps)
          by Empty is = filled-empty
          by (Filled v) is = cc
          by (Renamed n v) is = cc

      -- and whether it had one
      pub full-value : is_full (slot_at R ps k) ≡ is_some (value_at R (filled ps) k)
      full-value =
          ap (λ l. is_full (unwrap_or l Empty)) (lookup_is (is_at (R k)) ps) ∙ by (lookup_entry (is_at (R k)) ps)
          ∙ sym (ap is_some (lookup_is (is_at (R k)) (filled ps) ∙ ap (option_map (λ e. e.1)) (entry-filled k ps sorted named)))
        where
          by : (e : Option (K × Slot K V)) → is_full (unwrap_or (option_map (λ x. x.1) e) Empty) ≡ is_some (option_map (λ x. x.1) (shown e))
          by None = refl
          by (Some p) = elim p.1 as (λ s. is_full s ≡ is_some (option_map (λ x. x.1) (entry_of p.0 s))) [ Empty ↦ refl | Filled v ↦ refl | Renamed n v ↦ refl ]

-- how many entries there are once one is taken out
pub length-remove : {K X : Type 0} (test : K → Bool) (es : List (K × X)) (f : K × X) → lookup_entry test es ≡ Some f → length (remove_entry test es) + 1 ≡ length es
length-remove test [] f found = cc
length-remove test (e ∷ es) f found = elim (test e.0) as (λ b. cond b (Some e) (lookup_entry test es) ≡ Some f → length (cond b es (e ∷ remove_entry test es)) + 1 ≡ length (e ∷ es)) [
  | true ↦ λ found. omega arith
  | false ↦ λ found. let rest = length-remove test es f found in omega arith
] found

pub remove-absent : {K X : Type 0} (test : K → Bool) (es : List (K × X)) → lookup_entry test es ≡ None → remove_entry test es ≡ es
remove-absent test [] none = refl
remove-absent test (e ∷ es) none = elim (test e.0) as (λ b. cond b (Some e) (lookup_entry test es) ≡ None → cond b es (e ∷ remove_entry test es) ≡ e ∷ es) [
  | true ↦ λ none. cc
  | false ↦ λ none. ap (λ l. e ∷ l) (remove-absent test es none)
] none

-- no more entries are seen than there are places
pub length-filled : {K V : Type 0} (ps : List (K × Slot K V)) → length (filled ps) ≤ length ps
length-filled [] = omega arith
length-filled (p ∷ ps) = let rest = length-filled ps in elim p.1 as (λ s. length (option_to_list (entry_of p.0 s) ++ filled ps) ≤ length (p ∷ ps)) [ Empty ↦ omega arith | Filled v ↦ omega arith | Renamed n v ↦ omega arith ]

-- a look-up that finds
pub found_entry : {K X : Type 0} (test : K → Bool) (es : List (K × X)) (k : K) (x : X) → Some k ≡ lookup_key test es → Some x ≡ lookup test es → lookup_entry test es ≡ Some (k, x)
found_entry test es k x key value = by (lookup_entry test es) (key ∙ lookup_key_is test es) (value ∙ lookup_is test es)
  where
    by : {K X : Type 0} {k : K} {x : X} (e : Option (K × X)) → Some k ≡ option_map (λ e. e.0) e → Some x ≡ option_map (λ e. e.1) e → e ≡ Some (k, x)
    by None a b = cc
    by {k = k} {x = x} (Some e) a b = let key : e.0 ≡ k = cc in let value : e.1 ≡ x = cc in λ i. Some (key i, value i)

-- and one that does not
pub set_value-absent : {K X : Type 0} (test : K → Bool) (es : List (K × X)) (x : X) → lookup test es ≡ None → set_value test es x ≡ es
set_value-absent test [] x none = refl
set_value-absent test (e ∷ es) x none = elim (test e.0) as (λ b. cond b (Some e.1) (lookup test es) ≡ None → cond b ((e.0, x) ∷ es) (e ∷ set_value test es x) ≡ e ∷ es) [
  | true ↦ λ none. cc
  | false ↦ λ none. ap (λ l. e ∷ l) (set_value-absent test es x none)
] none

-- and one of what stands there
pub set_value-same : {K X : Type 0} (test : K → Bool) (es : List (K × X)) (x : X) → lookup test es ≡ Some x → set_value test es x ≡ es
set_value-same test [] x found = refl
set_value-same test (e ∷ es) x found = elim (test e.0) as (λ b. cond b (Some e.1) (lookup test es) ≡ Some x → cond b ((e.0, x) ∷ es) (e ∷ set_value test es x) ≡ e ∷ es) [
  | true ↦ λ found. let same : e.1 ≡ x = cc in ap (λ y. (e.0, y) ∷ es) (sym same)
  | false ↦ λ found. ap (λ l. e ∷ l) (set_value-same test es x found)
] found

-- the key and the value of a pair that is there
pub pair_key : {A X Y : Type 0} (f : A → X) (g : A → Y) (r : Option A) → option_map f r ≡ option_map {T = X × Y} (λ e. e.0) (option_map (λ a. (f a, g a)) r)
pair_key f g None = refl
pair_key f g (Some a) = refl

pub pair_value : {A X Y : Type 0} (f : A → X) (g : A → Y) (r : Option A) → option_map g r ≡ option_map {T = X × Y} (λ e. e.1) (option_map (λ a. (f a, g a)) r)
pair_value f g None = refl
pair_value f g (Some a) = refl

pub if_ok : {A E : Type 0} (P Q : A → Type 0) → ((x : A) → P x → Q x) → (r : Result A E) → IfOk r P → IfOk r Q
if_ok P Q f (Ok x) h = f x h
if_ok P Q f (Err e) h = tt

-- what stands there is inserted once more
pub insert-same : {K X : Type 0} {R : K → K → Ordering} (o : IsTotalOrder R) (k : K) (x : X) (ps : List (K × X)) → IsStrictlySortedBy R (keys_of ps) → lookup (is_at (R k)) ps ≡ Some x → insert_entry R ps k x ≡ ps
insert-same {R = R} o k x ps sorted found = sym (set-insert o k x x ps sorted found) ∙ set_value-same (is_at (R k)) ps x found

-- how many entries there are once a key has a value, or none
pub length-changed : {K V : Type 0} {R : K → K → Ordering} (o : IsTotalOrder R) (k : K) (value : Option V) (es : List (K × V)) → IsStrictlySortedBy R (keys_of es) → length (changed R k value es) ≡ len_changed (length es) (is_some (value_at R es k)) (is_some value)
length-changed {K} {V} {R} o k value es sorted = by value (lookup_entry (is_at (R k)) es) refl ∙ ap (λ b. len_changed (length es) b (is_some value)) (sym (had (lookup_entry (is_at (R k)) es)) ∙ sym (ap is_some (lookup_is (is_at (R k)) es)))
  where
    had : (e : Option (K × V)) → is_some (option_map (λ x. x.1) e) ≡ is_some e
    had None = refl
    had (Some e) = refl

    by : (value : Option V) (e : Option (K × V)) → lookup_entry (is_at (R k)) es ≡ e → length (changed R k value es) ≡ len_changed (length es) (is_some e) (is_some value)
    by None None is = ap length (remove-absent (is_at (R k)) es is)
    by None (Some f) is = let less = length-remove (is_at (R k)) es f is in omega arith
    by (Some v) None is = length-insert_new o k v es is
    by (Some v) (Some f) is = length-insert_same o k v es f sorted is

-- a slot without a value is empty
pub empty_slot : {K V : Type 0} (s : Slot K V) → is_full s ≡ false → s ≡ Empty
empty_slot Empty is = refl
empty_slot (Filled v) is = cc
empty_slot (Renamed n v) is = cc
