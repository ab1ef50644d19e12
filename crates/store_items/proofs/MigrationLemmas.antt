-- What the changes from the first format to the second make of rows.
use Rattle.std.proofs.Common.{◌≡◌, ◌≢◌, ◌∙◌, ◌⊎◌, inl, inr, ℕ, ◌+◌, ◌<◌, ◌≤◌, Bool, true, false, not, cond, List, [], ◌∷◌, ◌++◌, length, get_or, take, map, All, Option, Some, Err, refl, sym, ap, ap₂, subst, arith, Ordering, Less, Equal, Greater, IsErrOf, is_eq, flat_map, append-nil, take_all}
use Rattle.std.{specs.{Ordering.match_ordering, List.AllByRecursion}, proofs.lemmas.Cmp.tied_itself}
use Rattle.std.proofs.lemmas.List.{length-map, map_push, Concat.flat_map-cons, Elements.recursion_from_All}
use Rattle.std.proofs.lemmas.Grind.{flat_map-append}
use Rattle.sqlite_rules.{specs.Lists.Has, proofs.ListLemmas.{all_from, all_has}}
use Rattle.base_io.specs.{declared.keeper.{Change.Change, Row.Row}, Rows.{HasDistinctKeys, Pair, key_cmp, put}}
use Rattle.base_io.specs.Changes.{ChangesRows, IsOrdinary, IsPutOfHead, IsReserved, Rises, changed, pair_of, remove, value_of}
use Rattle.base_io.specs.declared.keeper.Change.TheVariants as change
use Rattle.base_io.specs.Rows as rows
use Rattle.base_roles.specs.{declared.items.Item.Item, Items.key_of}
use Rattle.base_roles.specs.declared.items.Item.TheVariants as item
use Rattle.store_rows.specs.declared.fault.RowFault.{RowFault, TheVariants.{BadRow, NoMemory}}
use Rattle.store_rows.specs.{declared.format.Format.TheVariants.{First, Second}, Fields.{eight_bytes, sixteen_bytes}}
use Rattle.store_rows.specs.{Kinds.prefix_of, Rows.{key_bytes, kind_in, row_in, value_in}, Spelled.HasRow}
use Rattle.store_rows.proofs.KeyLemmas.{keys_one_to_one}
use Rattle.store_sqlite.proofs.Maps.{total}
use Rattle.store_items.specs.{Making.change_seen, Migrating.{AreListed, AreOld, IsMigration, change_between}}
use Rattle.store_items.specs.Stored.{AreStored, rows_as}
use Rattle.store_items.proofs.Listed.{AreApart, apart_of, never_itself, rising_rows, rising_stored, rows_listed, rows_same, same_has}
use Rattle.store_items.proofs.{Loops.item_at, Members.{has_map, has_of, map_has, place_of, rows_rise, tied}}
use Rattle.store_items.proofs.Reached.{made_put, there_value}

-- ---- the changes of items, one after the other

no_changes : (list : List Change) → map change_seen list ≡ [] → list ≡ []
no_changes [] e = refl
no_changes (c ∷ cs) e = absurd cc

same_bytes : (a b : List ℕ) → is_eq (key_cmp a b) ≡ true → a ≡ b
same_bytes a b e = go (key_cmp a b) refl e
  where
    go : (o : Ordering) → key_cmp a b ≡ o → is_eq o ≡ true → a ≡ b
    go Less is h = absurd cc
    go Equal is h = tied a b is
    go Greater is h = absurd cc

other_bytes : (a b : List ℕ) → is_eq (key_cmp a b) ≡ false → a ≢ b
other_bytes a b e same =
    let tie : key_cmp a b ≡ Equal = ap (key_cmp a) (sym same) ∙ tied_itself total a in
    let is : is_eq (key_cmp a b) ≡ true = ap is_eq tie in
    absurd (differ (sym is ∙ e))
  where
    differ : true ≡ false → ⊥
    differ h = cc

-- an item's row is the same in both formats, or its put is the first change
abbrev Parts : Item → List Item → List Change → Type 0
Parts i items list =
    ((value_in First i ≡ value_in Second i) × (map change_seen list ≡ flat_map change_between items))
    ⊎ ((r : Row) × (others : List Change) × (list ≡ change.Put r ∷ others) × (pair_of r ≡ row_in Second i) × (value_in First i ≢ value_in Second i)
    × (map change_seen others ≡ flat_map change_between items))

parted : (i : Item) (items : List Item) (list : List Change) → map change_seen list ≡ flat_map change_between (i ∷ items) → Parts i items list
parted i items list e = go (is_eq (key_cmp (value_in First i) (value_in Second i))) refl (e ∙ flat_map-cons change_between i items)
  where
    first_is : (c : Change) (cs : List Change) → (change_seen c ∷ map change_seen cs) ≡ (key_bytes i, Some (value_in Second i)) ∷ flat_map change_between items
        → (change_seen c ≡ (key_bytes i, Some (value_in Second i))) × (map change_seen cs ≡ flat_map change_between items)
    first_is c cs h = (cc, cc)

    put_first : (list : List Change) → map change_seen list ≡ (key_bytes i, Some (value_in Second i)) ∷ flat_map change_between items → value_in First i ≢ value_in Second i → Parts i items list
    put_first [] h differ = absurd cc
    put_first (c ∷ cs) h differ =
        let (first, others) = first_is c cs h in
        let (r, is, row) = made_put Second c i first in
        inr (r, cs, ap (λ (d : Change). d ∷ cs) (sym is), row, differ, others)

    go : (b : Bool) → is_eq (key_cmp (value_in First i) (value_in Second i)) ≡ b → map change_seen list ≡ change_between i ++ flat_map change_between items → Parts i items list
    go true is h = inl (same_bytes (value_in First i) (value_in Second i) is, h ∙ ap (λ (t : Bool). cond t [] ((key_bytes i, Some (value_in Second i)) ∷ []) ++ flat_map change_between items) is)
    go false is h = put_first list (h ∙ ap (λ (t : Bool). cond t [] ((key_bytes i, Some (value_in Second i)) ∷ []) ++ flat_map change_between items) is) (other_bytes (value_in First i) (value_in Second i) is)

-- each change is the put of an item whose value is another
pub put_of : (items : List Item) (list : List Change) → map change_seen list ≡ flat_map change_between items → (c : Change) → Has list c
    → (i : Item) × (r : Row) × Has items i × (c ≡ change.Put r) × (pair_of r ≡ row_in Second i) × (value_in First i ≢ value_in Second i)
put_of [] list e c h = absurd (subst (λ (l : List Change). Has l c) (no_changes list e) h)
put_of (i ∷ items) list e c h = elim (parted i items list e) [
  | inl it ↦ let (j, r, there, is, row, differ) = put_of items list it.1 c h in (j, r, inr there, is, row, differ)
  | inr it ↦
      elim (subst (λ (l : List Change). Has l c) it.2 h) [
        | inl same ↦ (i, it.0, inl refl, same, it.3, it.4)
        | inr later ↦ let (j, r, there, is, row, differ) = put_of items it.1 it.5 c later in (j, r, inr there, is, row, differ)
      ]
]

-- ---- rows in the order of their keys

-- a key that is before all rows is before all changes
all_after : (k : List ℕ) (items : List Item) (list : List Change) → map change_seen list ≡ flat_map change_between items → AllByRecursion (λ (q : Pair). key_cmp k q.0 ≡ Less) (map (row_in First) items)
    → AllByRecursion (λ c. key_cmp k (rows.key_of c) ≡ Less) list
all_after k [] list e all = subst (AllByRecursion (λ c. key_cmp k (rows.key_of c) ≡ Less)) (sym (no_changes list e)) tt
all_after k (i ∷ items) list e all = elim (parted i items list e) [
  | inl it ↦ all_after k items list it.1 all.1
  | inr it ↦
      let key : it.0.key.items ≡ key_bytes i = ap (λ (p : Pair). p.0) it.3 in
      subst (AllByRecursion (λ c. key_cmp k (rows.key_of c) ≡ Less)) (sym it.2) (ap (key_cmp k) key ∙ all.0, all_after k items it.1 it.5 all.1)
]

-- a row that is before all changes stays as it is
passes : (p : Pair) (list : List Change) (ps : List Pair) → AllByRecursion (λ c. key_cmp p.0 (rows.key_of c) ≡ Less) list → changed list (p ∷ ps) ≡ p ∷ changed list ps
passes p [] ps all = refl
passes p (change.Put r ∷ cs) ps all =
    ap (λ (o : Ordering). changed cs (match_ordering o (p ∷ put (pair_of r) ps) (pair_of r ∷ ps) (pair_of r ∷ p ∷ ps))) all.0
    ∙ passes p cs (put (pair_of r) ps) all.1
passes p (change.Remove key ∷ cs) ps all =
    ap (λ (o : Ordering). changed cs (cond (not (is_eq o)) (p ∷ remove key.items ps) (remove key.items ps))) all.0
    ∙ passes p cs (remove key.items ps) all.1

pub all_reached : (items : List Item) (list : List Change) → map change_seen list ≡ flat_map change_between items → Rises (map (row_in First) items) → changed list (map (row_in First) items) ≡ map (row_in Second) items
all_reached [] list e up = ap (λ (l : List Change). changed l []) (no_changes list e)
all_reached (i ∷ items) list e up =
    let left = map (row_in First) items in
    elim (parted i items list e) [
      | inl it ↦
          passes (row_in First i) list left (all_after (key_bytes i) items list it.1 up.0)
          ∙ ap₂ (λ (v : List ℕ) (ps : List Pair). (key_bytes i, v) ∷ ps) it.0 (all_reached items list it.1 up.1)
      | inr it ↦
          ap (λ (l : List Change). changed l (row_in First i ∷ left)) it.2
          ∙ ap (λ (p : Pair). changed it.1 (put p (row_in First i ∷ left))) it.3
          ∙ ap (λ (o : Ordering). changed it.1 (match_ordering o (row_in First i ∷ put (row_in Second i) left) (row_in Second i ∷ left) (row_in Second i ∷ row_in First i ∷ left))) (tied_itself total (key_bytes i))
          ∙ passes (row_in Second i) it.1 left (all_after (key_bytes i) items it.1 it.5 up.0)
          ∙ ap (λ (ps : List Pair). row_in Second i ∷ ps) (all_reached items it.1 it.5 up.1)
    ]

-- keys of their own are changed once
none_after : (k : List ℕ) (items : List Item) (list : List Change) → map change_seen list ≡ flat_map change_between items → (Has (map key_bytes items) k → ⊥) → AllByRecursion (λ c. k ≡ rows.key_of c → ⊥) list
none_after k items list e none =
    all_from (λ c. k ≡ rows.key_of c → ⊥) list (λ c h same.
    let (i, r, there, is, row, differ) = put_of items list e c h in
    let key : k ≡ key_bytes i = same ∙ ap rows.key_of is ∙ ap (λ (p : Pair). p.0) row in
    none (subst (Has (map key_bytes items)) (sym key) (has_map key_bytes items i there)))

all_distinct : (items : List Item) (list : List Change) → map change_seen list ≡ flat_map change_between items → AreApart (map key_bytes items) → HasDistinctKeys list
all_distinct [] list e apart = subst HasDistinctKeys (sym (no_changes list e)) tt
all_distinct (i ∷ items) list e apart = elim (parted i items list e) [
  | inl it ↦ all_distinct items list it.1 apart.1
  | inr it ↦
      let key : it.0.key.items ≡ key_bytes i = ap (λ (p : Pair). p.0) it.3 in
      subst HasDistinctKeys (sym it.2) (
        none_after it.0.key.items items it.1 it.5 (λ h. apart.0 (subst (Has (map key_bytes items)) key h)),
        all_distinct items it.1 it.5 apart.1,
      )
]

-- so are those of rows that rise, and of items of which no two have one key
rising_keys : (items : List Item) → Rises (map (row_in First) items) → AreApart (map key_bytes items)
rising_keys [] up = tt
rising_keys (i ∷ items) up = (first, rising_keys items up.1)
  where
    first : Has (map key_bytes items) (key_bytes i) → ⊥
    first h =
        let (j, there, is) = map_has key_bytes items (key_bytes i) h in
        let below = all_has (λ (q : Pair). key_cmp (key_bytes i) q.0 ≡ Less) (map (row_in First) items) (row_in First j) up.0 (has_map (row_in First) items j there) in
        never_itself (key_bytes i) (key_bytes j) below (sym is)

keys_apart : (items : List Item) → AllByRecursion HasRow items → AreApart (map key_of items) → AreApart (map key_bytes items)
keys_apart [] all apart = tt
keys_apart (i ∷ items) all apart = (first, keys_apart items all.1 apart.1)
  where
    first : Has (map key_bytes items) (key_bytes i) → ⊥
    first h =
        let (j, there, is) = map_has key_bytes items (key_bytes i) h in
        let same : key_of j ≡ key_of i = keys_one_to_one j i (all_has HasRow items j all.1 there) all.0 is in
        apart.0 (subst (Has (map key_of items)) same (has_map key_of items j there))

some_same : (v w : List ℕ) → Some v ≡ Some w → v ≡ w
some_same v w e = cc

all_changing : (items : List Item) (list : List Change) → map change_seen list ≡ flat_map change_between items → Rises (map (row_in First) items) → AllByRecursion (ChangesRows (map (row_in First) items)) list
all_changing items list e up =
    let ps = map (row_in First) items in
    all_from (ChangesRows ps) list (λ c h.
    let (i, r, there, is, row, differ) = put_of items list e c h in
    let key : r.key.items ≡ key_bytes i = ap (λ (p : Pair). p.0) row in
    let value : r.value.items ≡ value_in Second i = ap (λ (p : Pair). p.1) row in
    let was : value_of (key_bytes i) ps ≡ Some (value_in First i) = there_value ps (row_in First i) up (has_map (row_in First) items i there) in
    subst (ChangesRows ps) (sym is) (λ same. differ (some_same (value_in First i) (value_in Second i) (sym was ∙ ap (λ (k : List ℕ). value_of k ps) (sym key) ∙ same ∙ ap (λ v. Some v) value))))

-- ---- what every keeper takes

first_below : (i : Item) → prefix_of (kind_in i) < 96
first_below (item.Head height time) = omega arith
first_below (item.Parameters params) = omega arith
first_below (item.Balance account denom amount) = omega arith
first_below (item.Supply denom amount) = omega arith
first_below (item.Validator validator) = omega arith
first_below (item.Delegation operator delegator shares) = omega arith
first_below (item.Unbonding delegator operator entries) = omega arith
first_below (item.Redelegation delegator source target entries) = omega arith
first_below (item.Signing cons info ring) = omega arith
first_below (item.Purse operator purse) = omega arith
first_below (item.Pool coins) = omega arith
first_below (item.Withdraw delegator to) = omega arith
first_below (item.CurrentPeriod operator period) = omega arith
first_below (item.Historical operator period history) = omega arith
first_below (item.Start operator delegator info) = omega arith
first_below (item.Event operator event) = omega arith

-- keepers have no key of an item for themselves
pub item_free : (i : Item) → IsReserved (key_bytes i) → ⊥
item_free i h = by h
  where
    by : (prefix_of (kind_in i) ≡ 96) ⊎ (prefix_of (kind_in i) ≡ 97) → ⊥
    by (inl e) = omega (arith, e, first_below i)
    by (inr e) = omega (arith, e, first_below i)

all_free : (items : List Item) (list : List Change) → map change_seen list ≡ flat_map change_between items → AllByRecursion (λ c. IsReserved (rows.key_of c) → ⊥) list
all_free items list e =
    all_from (λ c. IsReserved (rows.key_of c) → ⊥) list (λ c h held.
    let (i, r, there, is, row, differ) = put_of items list e c h in
    item_free i (subst IsReserved (ap rows.key_of is ∙ ap (λ (p : Pair). p.0) row) held))

-- the number of a format is another in the second
other_head : (height time : ℕ) → value_in First (item.Head height time) ≡ value_in Second (item.Head height time) → ⊥
other_head height time e = let numbers : 1 ≡ 2 = ap (λ (l : List ℕ). get_or l 0 0) e in omega (arith, numbers)

head_put : (items : List Item) (list : List Change) (height time : ℕ) → map change_seen list ≡ flat_map change_between items → Has items (item.Head height time)
    → (r : Row) × Has list (change.Put r) × (pair_of r ≡ row_in Second (item.Head height time))
head_put [] list height time e h = absurd h
head_put (i ∷ items) list height time e h = elim (parted i items list e) [
  | inl it ↦
      elim h [
        | inl same ↦ absurd (other_head height time (subst (λ (j : Item). value_in First j ≡ value_in Second j) (sym same) it.0))
        | inr later ↦ head_put items list height time it.1 later
      ]
  | inr it ↦
      elim h [
        | inl same ↦ (it.0, subst (λ (l : List Change). Has l (change.Put it.0)) (sym it.2) (inl refl), it.3 ∙ ap (row_in Second) (sym same))
        | inr later ↦
            let (r, there, row) = head_put items it.1 height time it.5 later in
            (r, subst (λ (l : List Change). Has l (change.Put r)) (sym it.2) (inr there), row)
      ]
]

long_enough : (height time : ℕ) → 9 ≤ length (value_in Second (item.Head height time))
unfolding eight_bytes sixteen_bytes
long_enough height time = let len : length (value_in Second (item.Head height time)) ≡ 25 = refl in omega (arith, len)

pub is_head : (r : Row) (height time : ℕ) → pair_of r ≡ row_in Second (item.Head height time) → IsPutOfHead (change.Put r)
is_head r height time row = (ap (λ (p : Pair). p.0) row, subst (λ (v : List ℕ). 9 ≤ length v) (sym (ap (λ (p : Pair). p.1) row)) (long_enough height time))

-- ---- rows of items in any order

rises_too : (items : List Item) → Rises (map (row_in First) items) → Rises (map (row_in Second) items)
rises_too [] up = tt
rises_too (i ∷ items) up = (keys items up.0, rises_too items up.1)
  where
    keys : (js : List Item) → AllByRecursion (λ (q : Pair). key_cmp (key_bytes i) q.0 ≡ Less) (map (row_in First) js) → AllByRecursion (λ (q : Pair). key_cmp (key_bytes i) q.0 ≡ Less) (map (row_in Second) js)
    keys [] all = tt
    keys (j ∷ js) all = (all.0, keys js all.1)

module _ (items : List Item) (list : List Change) (e : map change_seen list ≡ flat_map change_between items) where
  is_ordinary : AreApart (map key_bytes items) → (height time : ℕ) → Has items (item.Head height time) → IsOrdinary list
  is_ordinary apart height time there =
      let (r, put_there, row) = head_put items list height time e there in
      record {
        distinct = all_distinct items list e apart;
        head = (change.Put r, place_of list (change.Put r) put_there, is_head r height time row);
        free = all_free items list e;
      }

-- what was made of rows that are listed
abbrev pub IsMadeOf : List Pair → List Change → Type 0
IsMadeOf ps list = (items : List Item) → All HasRow items → map (row_in First) items ≡ ps → map change_seen list ≡ flat_map change_between items

pub is_migration : (items : List Item) (ps : List Pair) (list : List Change) → AreOld items ps → IsMadeOf ps list → IsMigration items list
is_migration items ps list old made =
    let begun = old.0 in
    let (its, have, are) = rows_listed First items begun.stored in
    let up : Rises (map (row_in First) its) = subst Rises (sym are) (rows_rise First items) in
    let e = made its have (are ∙ sym old.1) in
    let stored : AreStored its = rising_stored its have First up in
    let same : rows_as First items ≡ rows_as First its = sym are ∙ sym (rising_rows its have First up) in
    let (height, time, there) = begun.head in
    let head = same_has First items its begun.stored stored same (item.Head height time) (has_of items (item.Head height time) there) in
    record {
      reached = ap (changed list) (sym are) ∙ all_reached its list e up ∙ sym (rising_rows its have Second (rises_too its up)) ∙ sym (rows_same First Second items its begun.stored stored same);
      changing = subst (λ (qs : List Pair). AllByRecursion (ChangesRows qs) list) are (all_changing its list e up);
      ordinary = is_ordinary its list e (rising_keys its up) height time head;
    }

pub listed_taken : (items : List Item) (ps : List Pair) (list : List Change) → AreListed First items ps → IsMadeOf ps list → IsOrdinary list
listed_taken items ps list l made =
    let (height, time, there) = l.head in
    is_ordinary items list (made items l.have_rows l.same) (keys_apart items (recursion_from_All HasRow items l.have_rows) (apart_of (map key_of items) l.once)) height time (has_of items (item.Head height time) there)

-- ---- one row after the other

-- a row is never refused that is an item's
pub refused_never : {T : Type 0} (e : RowFault) (i : Item) (row : Row) → HasRow i → row_in First i ≡ pair_of row → (IsErrOf {T = T} (Err e) BadRow → (other : Item) → HasRow other → row_in First other ≢ pair_of row) → e ≡ NoMemory
refused_never BadRow i row has same only = absurd (only refl i has same)
refused_never NoMemory i row has same only = refl

-- nothing is appended where the value is the same, and else the put
pub pushed_none : (i x : Item) (row second : Row) (old : List Change) → i ≡ x → row_in First x ≡ pair_of row → pair_of second ≡ row_in Second x → is_eq (key_cmp row.value.items second.value.items) ≡ true
    → map change_seen old ≡ map change_seen old ++ change_between i
pushed_none i x row second old one was now tie =
    let values = ap₂ key_cmp (ap (λ (p : Pair). p.1) was) (sym (ap (λ (p : Pair). p.1) now)) in
    let none : change_between x ≡ [] = ap (λ (b : Bool). cond b [] ((key_bytes x, Some (value_in Second x)) ∷ [])) (ap is_eq values ∙ tie) in
    sym (append-nil (map change_seen old)) ∙ ap (λ (l : List (List ℕ × Option (List ℕ))). map change_seen old ++ l) (sym none ∙ ap change_between (sym one))

pub pushed_one : (i x : Item) (row second : Row) (old new : List Change) → i ≡ x → row_in First x ≡ pair_of row → pair_of second ≡ row_in Second x → is_eq (key_cmp row.value.items second.value.items) ≡ false
    → new ≡ old ++ change.Put second ∷ [] → map change_seen new ≡ map change_seen old ++ change_between i
pushed_one i x row second old new one was now other pushed =
    let values = ap₂ key_cmp (ap (λ (p : Pair). p.1) was) (sym (ap (λ (p : Pair). p.1) now)) in
    let put : change_between x ≡ (key_bytes x, Some (value_in Second x)) ∷ [] = ap (λ (b : Bool). cond b [] ((key_bytes x, Some (value_in Second x)) ∷ [])) (ap is_eq values ∙ other) in
    let seen : change_seen (change.Put second) ≡ (key_bytes x, Some (value_in Second x)) = ap (λ (p : Pair). (p.0, Some p.1)) now in
    ap (map change_seen) pushed
    ∙ map_push change_seen old (change.Put second)
    ∙ ap (λ (s : List ℕ × Option (List ℕ)). map change_seen old ++ s ∷ []) seen
    ∙ ap (λ (l : List (List ℕ × Option (List ℕ))). map change_seen old ++ l) (sym put ∙ ap change_between (sym one))

flat_one : (i : Item) → flat_map change_between (i ∷ []) ≡ change_between i
flat_one i = flat_map-cons change_between i [] ∙ append-nil (change_between i)

pub one_on : (items : List Item) (list : List Row) (i : ℕ) (row : Row) (old new : List Change) → All HasRow items → map (row_in First) items ≡ map pair_of list → i < length list → row ≡ get_or list i row
    → map change_seen old ≡ flat_map change_between (take i items) → ((x : Item) → HasRow x → row_in First x ≡ pair_of row → map change_seen new ≡ map change_seen old ++ change_between x)
    → map change_seen new ≡ flat_map change_between (take (i + 1) items)
one_on items list i row old new all e lt is so_far pushed =
    let (x, has, same, more, there) = item_at First items list i row all e lt is in
    pushed x has same
    ∙ ap₂ (λ (a b : List (List ℕ × Option (List ℕ))). a ++ b) so_far (sym (flat_one x))
    ∙ sym (flat_map-append change_between (take i items) (x ∷ []))
    ∙ ap (flat_map change_between) (sym more)

pub all_on : (items : List Item) (list : List Row) (i : ℕ) (made : List Change) → map (row_in First) items ≡ map pair_of list → length list ≤ i → map change_seen made ≡ flat_map change_between (take i items)
    → map change_seen made ≡ flat_map change_between items
all_on items list i made e le so_far =
    let len : length items ≡ length list = sym (length-map items (row_in First)) ∙ ap length e ∙ length-map list pair_of in
    so_far ∙ ap (flat_map change_between) (take_all i items (omega (arith, le, len)))
