-- A commit of the changes from old items to new ones leaves the rows of the new ones.
use Rattle.std.proofs.Common.{◌≡◌, ◌∙◌, inl, inr, ℕ, suc, ◌<◌, Bool, true, false, List, [], ◌∷◌, length, map, Option, Some, None, refl, sym, ap, ap₂, subst, arith, Ordering, Less, Equal, Greater, IsSome, slice_get}
use Rattle.std.{specs.{List.AllByRecursion, Ordering.match_ordering}, proofs.lemmas.Cmp.tied_itself}
use Rattle.std.proofs.lemmas.List.Elements.{All-contains}
use Rattle.sqlite_rules.{specs.Lists.Has, proofs.ListLemmas.{all_from, all_has}}
use Rattle.base_io.specs.{declared.keeper.{Change.Change, Row.Row}, Rows.{HasDistinctKeys, Pair, key_cmp}}
use Rattle.base_io.specs.Changes.{ChangesRows, Rises, changed, pair_of, value_of}
use Rattle.base_io.specs.declared.keeper.Change.TheVariants as change
use Rattle.base_io.specs.Rows as rows
use Rattle.base_roles.specs.{declared.items.Item.Item, Items.{IsOnce, key_of}}
use Rattle.base_roles.specs.declared.items.Item.TheVariants as item
use Rattle.store_rows.specs.{declared.format.Format.Format, Formats.written}
use Rattle.store_rows.specs.{Rows.{key_bytes, row_in, row_of, value_bytes, value_in}, Spelled.IsKeyInRange}
use Rattle.store_rows.proofs.{KeyLemmas.{keys_one_to_one, ranged_one_to_one}, WholeLemmas.{key_alone, one_to_one}}
use Rattle.store_sqlite.proofs.Maps.{same_members, total}
use Rattle.store_items.specs.Stored.{AreStored, HaveOwnKeys, rows_in}
use Rattle.store_items.specs.Making.{AreMade, HasKeyInRange, change_seen, item_change}
use Rattle.store_items.proofs.Listed.{bytes_apart, got_at}
use Rattle.store_items.proofs.Members.{AreOnce, find_key, has_map, has_of, item_there, map_has, place_of, row_there, rows_rise, same_or_other, tied}
use Rattle.store_items.proofs.Through.{IsFree, all_rise, kept_through, put_through, through_only}

-- ---- changes of rows and of items

pub seen_key : (d : Change) → (change_seen d).0 ≡ rows.key_of d
seen_key (change.Put row) = refl
seen_key (change.Remove key) = refl

put_is : (i : Item) (b : Bool) (r : Row) → item_change (i, b) ≡ (r.key.items, Some r.value.items) → (b ≡ true) × (row_of i ≡ pair_of r)
put_is i true r e = (refl, ap₂ (λ (k v : List ℕ). (k, v)) (ap (λ (s : List ℕ × Option (List ℕ)). s.0) e) (some_same (ap (λ (s : List ℕ × Option (List ℕ)). s.1) e)))
  where
    some_same : Some (value_bytes i) ≡ Some r.value.items → value_bytes i ≡ r.value.items
    some_same f = cc
put_is i false r e = absurd (no_value (ap (λ (s : List ℕ × Option (List ℕ)). s.1) e))
  where
    no_value : None ≡ Some r.value.items → ⊥
    no_value f = cc

pub made_put : (f : Format) (d : Change) (i : Item) → change_seen d ≡ (key_bytes i, Some (value_in f i)) → (r : Row) × (change.Put r ≡ d) × (pair_of r ≡ row_in f i)
made_put f (change.Put r) i e = (r, refl, ap₂ (λ (k v : List ℕ). (k, v)) (ap (λ (s : List ℕ × Option (List ℕ)). s.0) e) (some_same (ap (λ (s : List ℕ × Option (List ℕ)). s.1) e)))
  where
    some_same : Some r.value.items ≡ Some (value_in f i) → r.value.items ≡ value_in f i
    some_same f = cc
made_put f (change.Remove key) i e = absurd (no_value (ap (λ (s : List ℕ × Option (List ℕ)). s.1) e))
  where
    no_value : None ≡ Some (value_in f i) → ⊥
    no_value f = cc

-- ---- values of rows

value_there : (key value : List ℕ) (ps : List Pair) → value_of key ps ≡ Some value → Has ps (key, value)
value_there key value [] e = absurd cc
value_there key value (p ∷ ps) e = go (key_cmp p.0 key) refl e (value_there key value ps)
  where
    go : (o : Ordering) → key_cmp p.0 key ≡ o → match_ordering o (value_of key ps) (Some p.1) None ≡ Some value → (value_of key ps ≡ Some value → Has ps (key, value)) → Has (p ∷ ps) (key, value)
    go Less is f later = inr (later f)
    go Equal is f later = inl (ap₂ (λ (k v : List ℕ). (k, v)) (sym (tied p.0 key is)) (let same : value ≡ p.1 = cc in same))
    go Greater is f later = absurd cc

pub there_value : (ps : List Pair) (p : Pair) → Rises ps → Has ps p → value_of p.0 ps ≡ Some p.1
there_value [] p up h = absurd h
there_value (q ∷ ps) p up (inl same) =
    subst (λ (r : Pair). value_of r.0 (q ∷ ps) ≡ Some r.1) (sym same) (ap (λ (o : Ordering). match_ordering o (value_of q.0 ps) (Some q.1) None) (tied_itself total q.0))
there_value (q ∷ ps) p up (inr later) =
    ap (λ (o : Ordering). match_ordering o (value_of p.0 ps) (Some q.1) None) (all_has (λ (r : Pair). key_cmp q.0 r.0 ≡ Less) ps p up.0 later) ∙ there_value ps p up.1 later

-- ---- no key changes twice

abbrev AreApart : List (Item × Bool) → Type 0
AreApart [] = Unit {0}
AreApart (c ∷ cs) = AllByRecursion (λ d. key_bytes c.0 ≡ key_bytes d.0 → ⊥) cs × AreApart cs

not_later : (c : Item × Bool) (cs : List (Item × Bool)) → IsOnce (c ∷ cs) → Has cs c → ⊥
not_later c cs once h =
    let (k, lt, is) = got_at cs c h in
    let same : 0 ≡ suc k = once 0 (suc k) (omega arith) (omega (arith, lt)) (sym is) in
    omega (arith, same)

tail_once : (c : Item × Bool) (cs : List (Item × Bool)) → IsOnce (c ∷ cs) → IsOnce cs
tail_once c cs once i j li lj same = let e : suc i ≡ suc j = once (suc i) (suc j) (omega (arith, li)) (omega (arith, lj)) same in omega (arith, e)

apart_from : (cs : List (Item × Bool)) → IsOnce cs → ((c d : Item × Bool) → Has cs c → Has cs d → key_bytes c.0 ≡ key_bytes d.0 → c ≡ d) → AreApart cs
apart_from [] once same = tt
apart_from (c ∷ cs) once same = (
  all_from (λ d. key_bytes c.0 ≡ key_bytes d.0 → ⊥) cs (λ d t e. not_later c cs once (subst (λ (x : Item × Bool). Has cs x) (sym (same c d (inl refl) (inr t) e)) t)),
  apart_from cs (tail_once c cs once) (λ a b p q. same a b (inr p) (inr q)),
)

distinct_from : (list : List Change) (cs : List (Item × Bool)) → map change_seen list ≡ map item_change cs → AreApart cs → HasDistinctKeys list
distinct_from [] cs same apart = tt
distinct_from (d ∷ ds) [] same apart = absurd cc
distinct_from (d ∷ ds) (c ∷ cs) same apart =
    let first : change_seen d ≡ item_change c = cc in
    let others : map change_seen ds ≡ map item_change cs = cc in (
      all_from (λ e. rows.key_of d ≡ rows.key_of e → ⊥) ds (λ e t keys.
          let (b, there, is) = map_has item_change cs (change_seen e) (subst (λ (l : List (List ℕ × Option (List ℕ))). Has l (change_seen e)) others (has_map change_seen ds e t)) in
          all_has (λ (b : Item × Bool). key_bytes c.0 ≡ key_bytes b.0 → ⊥) cs b apart.0 there
          (sym (ap (λ (s : List ℕ × Option (List ℕ)). s.0) first) ∙ seen_key d ∙ keys ∙ sym (seen_key e) ∙ sym (ap (λ (s : List ℕ × Option (List ℕ)). s.0) is))),
      distinct_from ds cs others apart.1,
    )

-- the key of a key alone is itself
key_again : (i : Item) → key_of (key_of i) ≡ key_of i
key_again (item.Head height time) = refl
key_again (item.Parameters params) = refl
key_again (item.Balance account denom amount) = refl
key_again (item.Supply denom amount) = refl
key_again (item.Validator validator) = refl
key_again (item.Delegation operator delegator shares) = refl
key_again (item.Unbonding delegator operator entries) = refl
key_again (item.Redelegation delegator source target entries) = refl
key_again (item.Signing cons info ring) = refl
key_again (item.Purse operator purse) = refl
key_again (item.Pool coins) = refl
key_again (item.Withdraw delegator to) = refl
key_again (item.CurrentPeriod operator period) = refl
key_again (item.Historical operator period history) = refl
key_again (item.Start operator delegator info) = refl
key_again (item.Event operator event) = refl

module _ (old new : List Item) (list : List Change) (keys : HaveOwnKeys new) (made : AreMade old new list) where
  in_range : (c : Item × Bool) → Has made.changes c → IsKeyInRange c.0
  in_range c h = All-contains HasKeyInRange made.changes c made.in_range (place_of made.changes c h)

  -- what is gone is named by a key alone
  gone_alone : (j : Item) → Has made.changes (j, false) → key_of j ≡ j
  gone_alone j h = let it = (made.from_items.gone j).0 (place_of made.changes (j, false) h) in ap key_of it.1.1 ∙ key_again it.0 ∙ sym it.1.1

  -- and has the key of none that stands
  none_stands : (i j : Item) → Has made.changes (i, true) → Has made.changes (j, false) → key_of i ≡ key_of j → ⊥
  none_stands i j h k e =
      let it = (made.from_items.gone j).0 (place_of made.changes (j, false) k) in
      it.1.2 i ((made.from_items.stands i).0 (place_of made.changes (i, true) h)).0 (e ∙ gone_alone j k ∙ it.1.1)

  -- changes of one key are one change
  same_change : (c d : Item × Bool) → Has made.changes c → Has made.changes d → key_bytes c.0 ≡ key_bytes d.0 → c ≡ d
  same_change c d h k e = go c.0 c.1 d.0 d.1 h k (ranged_one_to_one c.0 d.0 (in_range c h) (in_range d k) e)
    where
      go : (i : Item) (a : Bool) (j : Item) (b : Bool) → Has made.changes (i, a) → Has made.changes (j, b) → key_of i ≡ key_of j → ◌≡◌ {A = Item × Bool} (i, a) (j, b)
      go i true j true h k e =
          ap (λ (x : Item). (x, true)) (keys i j ((made.from_items.stands i).0 (place_of made.changes (i, true) h)).0 ((made.from_items.stands j).0 (place_of made.changes (j, true) k)).0 e)
      go i true j false h k e = absurd (none_stands i j h k e)
      go i false j true h k e = absurd (none_stands j i k h (sym e))
      go i false j false h k e = ap (λ (x : Item). (x, false)) (sym (gone_alone i h) ∙ e ∙ gone_alone j k)

  pub are_distinct : HasDistinctKeys list
  are_distinct = distinct_from list made.changes made.same (apart_from made.changes made.from_items.once same_change)

-- ---- from old items to new ones

module _ (old new : List Item) (list : List Change) (o : AreStored old) (n : AreStored new) (made : AreMade old new list) where
  -- the change of an item for one of a row, and the other way round
  from_row : (d : Change) → Has list d → (c : Item × Bool) × Has made.changes c × (item_change c ≡ change_seen d)
  from_row d h = map_has item_change made.changes (change_seen d) (subst (λ (l : List (List ℕ × Option (List ℕ))). Has l (change_seen d)) made.same (has_map change_seen list d h))

  from_item : (c : Item × Bool) → Has made.changes c → (d : Change) × Has list d × (change_seen d ≡ item_change c)
  from_item c h = map_has change_seen list (item_change c) (subst (λ (l : List (List ℕ × Option (List ℕ))). Has l (item_change c)) (sym made.same) (has_map item_change made.changes c h))

  old_once : AreOnce old
  old_once = bytes_apart old o

  new_once : AreOnce new
  new_once = bytes_apart new n

  -- an item that is new stands, and was not there
  stands : (i : Item) → Has made.changes (i, true) → Has new i × (Has old i → ⊥)
  stands i h = let it = (made.from_items.stands i).0 (place_of made.changes (i, true) h) in (has_of new i it.0, λ t. it.1 (place_of old i t))

  -- one that is gone was there, and no new one has its key
  gone : (i : Item) → Has made.changes (i, false) → (was : Item) × Has old was × (key_bytes was ≡ key_bytes i) × ((now : Item) → Has new now → key_bytes now ≡ key_bytes was → ⊥)
  gone i h =
      let (was, it) = (made.from_items.gone i).0 (place_of made.changes (i, false) h) in (
        was,
        has_of old was it.0,
        sym (key_alone was) ∙ ap key_bytes (sym it.1),
        λ now t e.
            it.2 now (place_of new now t) (keys_one_to_one now was (n.have_rows now (place_of new now t)) (o.have_rows was it.0) e),
      )

  new_change : (i : Item) → Has new i → (Has old i → ⊥) → Has made.changes (i, true)
  new_change i h other = has_of made.changes (i, true) ((made.from_items.stands i).1 (place_of new i h, λ t. other (has_of old i t)))

  gone_change : (was : Item) → Has old was → ((now : Item) → Has new now → key_bytes now ≡ key_bytes was → ⊥) → Has made.changes (key_of was, false)
  gone_change was h none = has_of made.changes (key_of was, false) ((made.from_items.gone (key_of was)).1 (was, (place_of old was h, refl, λ now t e. none now (has_of new now t) (sym (key_alone now) ∙ ap key_bytes e ∙ key_alone was))))

  distinct : HasDistinctKeys list
  distinct = are_distinct old new list n.once made

  -- no change is of the key of an item that stays
  stays_free : (m : Item) → Has new m → Has old m → IsFree list (key_bytes m)
  stays_free m in_new in_old d t e =
      let (c, there, is) = from_row d t in
      let key : key_bytes c.0 ≡ key_bytes m = ap (λ (s : List ℕ × Option (List ℕ)). s.0) is ∙ seen_key d ∙ e in
      go c.0 c.1 there key
    where
      go : (i : Item) (b : Bool) → Has made.changes (i, b) → key_bytes i ≡ key_bytes m → ⊥
      go i true h key = let it = stands i h in it.1 (subst (λ (x : Item). Has old x) (new_once m i in_new it.0 (sym key)) in_old)
      go i false h key = let (was, there, same, none) = gone i h in none m in_new (sym key ∙ sym same)

  -- an item that is put has its row
  put_row : (m : Item) → Has new m → (Has old m → ⊥) → Has (changed list (rows_in old)) (row_of m)
  put_row m in_new other =
      let (d, there, is) = from_item (m, true) (new_change m in_new other) in
      let (r, same, row) = made_put written d m is in
      subst (λ (p : Pair). Has (changed list (rows_in old)) p) row (put_through list (rows_in old) r distinct (subst (λ (x : Change). Has list x) (sym same) there))

  to_new : (p : Pair) → Has (changed list (rows_in old)) p → Has (rows_in new) p
  to_new p h = elim (through_only list (rows_in old) p (rows_rise written old) h) [
    | inl it ↦
        let (c, there, is) = from_row (change.Put it.0) it.1 in
        let (true_is, row) = put_is c.0 c.1 it.0 is in
        let now = stands c.0 (subst (λ (b : Bool). Has made.changes (c.0, b)) true_is there) in
        subst (λ (q : Pair). Has (rows_in new) q) (row ∙ it.2) (row_there written new c.0 new_once now.0)
    | inr it ↦
        let (was, there, is) = item_there written old p it.0 in
        let key_is : key_bytes was ≡ p.0 = ap (λ (q : Pair). q.0) is in
        elim (find_key new (key_bytes was)) [
          | inl found ↦
              elim (same_or_other (value_bytes found.0) (value_bytes was)) [
                | inl value ↦ subst (λ (q : Pair). Has (rows_in new) q) (ap₂ (λ (k v : List ℕ). (k, v)) found.2 value ∙ is) (row_there written new found.0 new_once found.1)
                | inr other ↦
                    let (d, t, s) = from_item (found.0, true) (new_change found.0 found.1 (λ in_old. other (ap value_bytes (old_once found.0 was in_old there found.2)))) in
                    absurd (it.1 d t (sym (seen_key d) ∙ ap (λ (x : List ℕ × Option (List ℕ)). x.0) s ∙ found.2 ∙ key_is))
              ]
          | inr none ↦
              let (d, t, s) = from_item (key_of was, false) (gone_change was there none) in
              absurd (it.1 d t (sym (seen_key d) ∙ ap (λ (x : List ℕ × Option (List ℕ)). x.0) s ∙ key_alone was ∙ key_is))
        ]
  ]

  to_changed : (p : Pair) → Has (rows_in new) p → Has (changed list (rows_in old)) p
  to_changed p h =
      let (m, in_new, is) = item_there written new p h in
      subst (λ (q : Pair). Has (changed list (rows_in old)) q) is
      (elim (find_key old (key_bytes m)) [
        | inl found ↦
            elim (same_or_other (value_bytes found.0) (value_bytes m)) [
              | inl value ↦
                  let same : found.0 ≡ m = one_to_one written found.0 m (o.have_rows found.0 (place_of old found.0 found.1)) (n.have_rows m (place_of new m in_new)) (ap₂ (λ (k v : List ℕ). (k, v)) found.2 value) in
                  let in_old = subst (λ (x : Item). Has old x) same found.1 in
                  kept_through list (rows_in old) (row_of m) (row_there written old m old_once in_old) (stays_free m in_new in_old)
              | inr other ↦ put_row m in_new (λ in_old. other (ap value_bytes (old_once found.0 m found.1 in_old found.2)))
            ]
        | inr none ↦ put_row m in_new (λ in_old. none m in_old refl)
      ])

  pub rows_reached : changed list (rows_in old) ≡ rows_in new
  rows_reached = same_members (changed list (rows_in old)) (rows_in new) (all_rise list (rows_in old) (rows_rise written old)) (rows_rise written new) to_new to_changed

  -- each change changes the rows
  change_changes : (d : Change) → Has list d → ChangesRows (rows_in old) d
  change_changes d t = go d (from_row d t)
    where
      go : (d : Change) → ((c : Item × Bool) × Has made.changes c × (item_change c ≡ change_seen d)) → ChangesRows (rows_in old) d
      go (change.Put r) it = λ e.
          let (true_is, row) = put_is it.0.0 it.0.1 r it.2 in
          let now = stands it.0.0 (subst (λ (b : Bool). Has made.changes (it.0.0, b)) true_is it.1) in
          let (was, there, same) = item_there written old (pair_of r) (value_there r.key.items r.value.items (rows_in old) e) in
          now.1 (subst (λ (x : Item). Has old x) (one_to_one written was it.0.0 (o.have_rows was (place_of old was there)) (n.have_rows it.0.0 (place_of new it.0.0 now.0)) (same ∙ sym row)) there)
      go (change.Remove key) it = removed it.0.0 it.0.1 it.1 it.2
        where
          removed : (i : Item) (b : Bool) → Has made.changes (i, b) → item_change (i, b) ≡ (key.items, None) → IsSome (value_of key.items (rows_in old))
          removed i true h e = absurd (no_value (ap (λ (s : List ℕ × Option (List ℕ)). s.1) e))
            where
              no_value : Some (value_bytes i) ≡ None → ⊥
              no_value f = cc
          removed i false h e =
              let (was, there, same, none) = gone i h in
              let is : value_of (key_bytes was) (rows_in old) ≡ Some (value_bytes was) = there_value (rows_in old) (row_of was) (rows_rise written old) (row_there written old was old_once there) in
              let at_key : key_bytes was ≡ key.items = same ∙ ap (λ (s : List ℕ × Option (List ℕ)). s.0) e in
              subst (λ (r : Option (List ℕ)). IsSome r) (sym is ∙ ap (λ (k : List ℕ). value_of k (rows_in old)) at_key) refl

  pub all_change : AllByRecursion (ChangesRows (rows_in old)) list
  all_change = all_from (ChangesRows (rows_in old)) list change_changes
