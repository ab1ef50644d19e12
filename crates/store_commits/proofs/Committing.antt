-- What a commit brings a keeper to.
use Rattle.std.proofs.Common.{◌≡◌, ◌≢◌, ℕ, ◌<◌, ◌∙◌, ◌⊎◌, length, arith, inl, inr, Bool, true, false, true≢false, List, [], ◌∷◌, map, Option, Some, None, Result, Ok, Err, IfSome, refl, sym, ap, subst, All, Contains, IsSome, OnErr, OnOk}
use Rattle.std.{specs.{Prelude.⊤, List.AllByRecursion}, proofs.lemmas.List.Elements.{All-contains, All-from_recursion}}
use Rattle.base_io.specs.{declared.keeper.{Change.Change, Row.Row, KeepFault.KeepFault}, Rows.{Makes, Pair}}
use Rattle.base_io.specs.Changes.{ChangeRows, ChangesRows, IsOrdinary, LeavesRows, changed, pair_of}
use Rattle.base_io.specs.declared.keeper.KeepFault.TheVariants as fault
use Rattle.base_roles.specs.{declared.items.Item.Item, Items.{AreChanges, IsOnce, key_of}}
use Rattle.base_roles.specs.declared.items.Item.TheVariants as item
use Rattle.rule_machine.specs.Items.{items_of}
use Rattle.store_rows.{specs.Spelled.{HasRow, IsWritable}, proofs.KeyLemmas.key_in_range}
use Rattle.base_records.proofs.{KindLemmas.once-told, MemberLemmas.{Member, Once, contained, member, once}}
use Rattle.store_items.specs.Stored.{AreStored, HaveOwnKeys, rows_in}
use Rattle.store_items.specs.Making.{AreMade, CanBeWritten, HasKeyInRange, HasNewHead, HasRowIfPut, change_seen, item_change, item_put}
use Rattle.rule_modules.specs.Chain.{State}
use Rattle.store_commits.{specs.{Commits.{Commits, Holds, IsCommit, LeadTo}, Held.HasRisen}, proofs.Ranges.has_row}

-- ---- items that are stored

key_there : (items : List Item) (i : Item) → Member items i → Member (map key_of items) (key_of i)
key_there [] i m = absurd m
key_there (x ∷ xs) i (inl e) = inl (ap key_of e)
key_there (x ∷ xs) i (inr m) = inr (key_there xs i m)

own_key : (items : List Item) → Once (map key_of items) → (i j : Item) → Member items i → Member items j → key_of i ≡ key_of j → i ≡ j
own_key [] h i j p q e = absurd p
own_key (x ∷ xs) h i j (inl p) (inl q) e = sym p ∙ q
own_key (x ∷ xs) h i j (inl p) (inr q) e = absurd (h.0 (subst (Member (map key_of xs)) (sym e ∙ ap key_of (sym p)) (key_there xs j q)))
own_key (x ∷ xs) h i j (inr p) (inl q) e = absurd (h.0 (subst (Member (map key_of xs)) (e ∙ ap key_of (sym q)) (key_there xs i p)))
own_key (x ∷ xs) h i j (inr p) (inr q) e = own_key xs h.1 i j p q e

own_keys : (items : List Item) → IsOnce (map key_of items) → HaveOwnKeys items
own_keys items keys = λ i j p q e. own_key items (once-told (map key_of items) keys) i j (member items i p) (member items j q) e

pub stored : (items : List Item) → IsOnce (map key_of items) → ((i : Item) → Contains items i → HasRow i) → AreStored items
stored items keys rows = record { have_rows = rows; once = own_keys items keys }

pub none_stored : AreStored []
none_stored = record { have_rows = λ i c. absurd (member [] i c); once = λ i j p q e. absurd (member [] i p) }

by_members : {A : Type 0} (P : A → Type 0) (xs : List A) → ((x : A) → Member xs x → P x) → AllByRecursion P xs
by_members P [] h = tt
by_members P (x ∷ xs) h = (h x (inl refl), by_members P xs (λ y m. h y (inr m)))

all_by : {A : Type 0} (P : A → Type 0) (xs : List A) → ((x : A) → Contains xs x → P x) → All P xs
all_by P xs h = All-from_recursion P xs (by_members P xs (λ x m. h x (contained xs x m)))

-- ---- the first rows

-- an item that stands
abbrev put_of : Item → Item × Bool
put_of i = (i, true)

pub puts_seen : (items : List Item) → map item_change (map put_of items) ≡ map item_put items
puts_seen [] = refl
puts_seen (i ∷ items) = ap (λ l. item_put i ∷ l) (puts_seen items)

put_there : (items : List Item) (i : Item) → Member items i → Member (map put_of items) (put_of i)
put_there [] i m = absurd m
put_there (x ∷ xs) i (inl e) = inl (ap put_of e)
put_there (x ∷ xs) i (inr m) = inr (put_there xs i m)

there_put : (items : List Item) (c : Item × Bool) → Member (map put_of items) c → Member items c.0 × (c.1 ≡ true)
there_put [] c m = absurd m
there_put (x ∷ xs) c (inl e) = (inl (ap (λ (y : Item × Bool). y.0) e), sym (ap (λ (y : Item × Bool). y.1) e))
there_put (x ∷ xs) c (inr m) = let r = there_put xs c m in (inr r.0, r.1)

puts_once : (items : List Item) → Once (map key_of items) → Once (map put_of items)
puts_once [] h = tt
puts_once (x ∷ xs) h = (λ m. h.0 (key_there xs x (there_put xs (put_of x) m).0), puts_once xs h.1)

abbrev removal_of : Item → Item × Bool
removal_of i = (i, false)

all_new : (items : List Item) → IsOnce (map key_of items) → AreChanges [] items (map put_of items)
all_new items keys = record {
  once = once (map put_of items) (puts_once items (once-told (map key_of items) keys));
  stands = λ i. (
    λ c. (contained items i (there_put items (put_of i) (member (map put_of items) (put_of i) c)).0, λ old. member [] i old),
    λ both. contained (map put_of items) (put_of i) (put_there items i (member items i both.0)),
  );
  gone = λ i. (
    λ c. absurd (no_removal (there_put items (removal_of i) (member (map put_of items) (removal_of i) c)).1),
    λ was. absurd (member [] was.0 was.1.0),
  );
}
  where
    no_removal : false ≡ true → ⊥
    no_removal e = cc

puts_ranged : (items : List Item) → All HasRow items → All HasKeyInRange (map put_of items)
puts_ranged items rows = all_by HasKeyInRange (map put_of items) (λ c there.
    key_in_range c.0 (All-contains HasRow items c.0 rows (contained items c.0 (there_put items c (member (map put_of items) c there)).0)))

pub made_first : (items : List Item) (list : List Change) → IsOnce (map key_of items) → map change_seen list ≡ map item_put items → All HasRow items → AreMade [] items list
made_first items list keys seen rows = record { changes = map put_of items; from_items = all_new items keys; in_range = puts_ranged items rows; same = seen ∙ sym (puts_seen items) }

pub stored_first : (items : List Item) → IsOnce (map key_of items) → All HasRow items → AreStored items
stored_first items keys rows = stored items keys (λ i c. All-contains HasRow items i rows c)

-- ---- later rows

-- each item of the new ones is one of the old ones, or put: so each has a row
pub stored_next : (old new : List Item) (changes : List (Item × Bool)) → AreStored old → AreChanges old new changes → IsOnce (map key_of new) → ((i : Item) → Contains new i → IsWritable i) → All HasRowIfPut changes → AreStored new
stored_next old new changes s a keys writable rows = stored new keys has
  where
    has : (i : Item) → Contains new i → HasRow i
    has i c = has_row i (writable i c) (λ no. no (All-contains HasRowIfPut changes (i, true) rows ((a.stands i).1 (c, λ was. no (s.have_rows i was))) refl))

pub can_be_written : (old new : List Item) (changes : List (Item × Bool)) → AreChanges old new changes → ((i : Item) → Contains new i → IsWritable i) → (c : Item × Bool) → Contains changes c → CanBeWritten c
can_be_written old new changes a writable c there put =
    writable c.0 ((a.stands c.0).0 (subst (Contains changes) (λ i. (c.0, put i)) there)).0

-- ---- the call

same_rows : (o : Option (List Pair)) → Makes (λ before. before) o o
same_rows None = tt
same_rows (Some rows) = (rows, refl, refl)

-- no call of the keeper was made
pub not_committed : (items : List Item) (rows : Option (List Pair)) (honest : Type 0) (leaves : List Pair → Type 0) → Commits (Err fault.NoMemory) items rows rows honest honest leaves leaves
not_committed items rows honest leaves = record {
  stored = tt;
  ok = tt;
  told = tt;
  err = same_rows rows;
  settled = λ s. s;
  back = λ h. h;
  stop = λ h t left l. inl l;
}

-- rows that are told after a call were told before it
told_before : (f : List Pair → List Pair) (rows rows' : Option (List Pair)) → Makes f rows rows' → IsSome rows' → IsSome rows
told_before f rows None m some = absurd (true≢false (sym some))
told_before f rows (Some after) m some = subst (λ (o : Option (List Pair)). IsSome o) (sym m.1) refl

made_rows : (old new : List Pair) (list : List Change) (rows rows' : Option (List Pair)) → IfSome rows (λ r. r ≡ old) → (IsSome rows → changed list old ≡ new) → Makes (changed list) rows rows' → Makes (λ before. new) rows rows'
made_rows old new list rows None h reached m = tt
made_rows old new list rows (Some after) h reached m =
    let held : m.0 ≡ old = subst (λ (o : Option (List Pair)). IfSome o (λ r. r ≡ old)) m.1 h in
    (m.0, m.1, m.2 ∙ ap (changed list) held ∙ reached (told_before (changed list) rows (Some after) m refl))

stop_rows : (old new : List Pair) (list : List Change) (rows : Option (List Pair)) (leaves leaves' : List Pair → Type 0) → IfSome rows (λ r. r ≡ old) → changed list old ≡ new
    → IfSome rows (λ pairs. (left : List Pair) → leaves' left → leaves left ⊎ (left ≡ changed list pairs)) → IsSome rows → (left : List Pair) → leaves' left → leaves left ⊎ (left ≡ new)
stop_rows old new list None leaves leaves' h reached stop some left l = absurd (true≢false (sym some))
stop_rows old new list (Some pairs) leaves leaves' h reached stop some left l = by (stop left l)
  where
    by : leaves left ⊎ (left ≡ changed list pairs) → leaves left ⊎ (left ≡ new)
    by (inl was) = inl was
    by (inr is) = inr (is ∙ ap (changed list) h ∙ reached)

-- a list of changes that is taken
pub changing : (old : List Pair) (list : List Change) (rows : Option (List Pair)) → IfSome rows (λ r. r ≡ old) → (IsSome rows → AllByRecursion (ChangesRows old) list) → ChangeRows list rows
changing old list rows h all told is =
    let held : told ≡ old = subst (λ (o : Option (List Pair)). IfSome o (λ r. r ≡ old)) is h in
    subst (λ (r : List Pair). AllByRecursion (ChangesRows r) list) (sym held) (all (subst (λ (o : Option (List Pair)). IsSome o) (sym is) refl))

module _ (result : Result ⊤ KeepFault) (old new : List Item) (list : List Change) (rows rows' : Option (List Pair)) (honest honest' : Type 0) (leaves leaves' : List Pair → Type 0) where
  pub committed : Holds old rows → (AreStored old → changed list (rows_in old) ≡ rows_in new) → (AreStored old → AreStored new)
      → OnOk result (Makes (changed list) rows rows') → OnOk result (honest' → IsSome rows → IsSome rows') → OnErr result (Makes (λ pairs. pairs) rows rows') → LeavesRows leaves' rows' → (honest' → honest)
      → (honest' → IfSome rows (λ pairs. (left : List Pair) → leaves' left → leaves left ⊎ (left ≡ changed list pairs)))
      → Commits result new rows rows' honest honest' leaves leaves'
  committed held reached s ok told err settled back stop = record {
    stored = stored_ok result ok;
    ok = made result ok;
    told = told;
    err = err;
    settled = λ before. settled;
    back = back;
    stop = λ h some left l. with_stored (held.stored some) left (stop_rows (rows_in old) (rows_in new) list rows leaves leaves' held.rows (reached (held.stored some)) (stop h) some left l);
  }
    where
      with_stored : AreStored old → (left : List Pair) → leaves left ⊎ (left ≡ rows_in new) → leaves left ⊎ ((left ≡ rows_in new) × AreStored new)
      with_stored o left (inl was) = inl was
      with_stored o left (inr is) = inr (is, s o)

      stored_ok : (r : Result ⊤ KeepFault) → OnOk r (Makes (changed list) rows rows') → OnOk r (IsSome rows' → AreStored new)
      stored_ok (Ok done) m = λ some. s (held.stored (told_before (changed list) rows rows' m some))
      stored_ok (Err why) m = tt

      made : (r : Result ⊤ KeepFault) → OnOk r (Makes (changed list) rows rows') → OnOk r (Makes (λ before. rows_in new) rows rows')
      made (Ok done) m = made_rows (rows_in old) (rows_in new) list rows rows' held.rows (λ some. reached (held.stored some)) m
      made (Err why) m = tt

-- ---- changes of format

-- what changes make of rows that are told
led_rows : (items : List Item) (list : List Change) (rows rows' : Option (List Pair)) → LeadTo items list rows → Makes (changed list) rows rows' → Makes (λ before. rows_in items) rows rows'
led_rows items list rows None lead m = tt
led_rows items list rows (Some after) lead m =
    let is : changed list m.0 ≡ rows_in items = subst (λ (o : Option (List Pair)). IfSome o (λ r. changed list r ≡ rows_in items)) m.1 lead.rows in
    (m.0, m.1, m.2 ∙ is)

led_stop : (items : List Item) (list : List Change) (rows : Option (List Pair)) (leaves leaves' : List Pair → Type 0) → LeadTo items list rows
    → IfSome rows (λ pairs. (left : List Pair) → leaves' left → leaves left ⊎ (left ≡ changed list pairs)) → IsSome rows → (left : List Pair) → leaves' left → leaves left ⊎ ((left ≡ rows_in items) × AreStored items)
led_stop items list None leaves leaves' lead stop some left l = absurd (true≢false (sym some))
led_stop items list (Some pairs) leaves leaves' lead stop some left l = by (stop left l)
  where
    by : leaves left ⊎ (left ≡ changed list pairs) → leaves left ⊎ ((left ≡ rows_in items) × AreStored items)
    by (inl was) = inl was
    by (inr is) = inr (is ∙ lead.rows, lead.stored refl)

pub led : (result : Result ⊤ KeepFault) (items : List Item) (list : List Change) (rows rows' : Option (List Pair)) (honest honest' : Type 0) (leaves leaves' : List Pair → Type 0) → LeadTo items list rows
    → OnOk result (Makes (changed list) rows rows') → OnOk result (honest' → IsSome rows → IsSome rows') → OnErr result (Makes (λ pairs. pairs) rows rows') → LeavesRows leaves' rows' → (honest' → honest)
    → (honest' → IfSome rows (λ pairs. (left : List Pair) → leaves' left → leaves left ⊎ (left ≡ changed list pairs)))
    → Commits result items rows rows' honest honest' leaves leaves'
led result items list rows rows' honest honest' leaves leaves' lead ok told err settled back stop = record {
  stored = stored_ok result ok;
  ok = made result ok;
  told = told;
  err = err;
  settled = λ before. settled;
  back = back;
  stop = λ h some left l. led_stop items list rows leaves leaves' lead (stop h) some left l;
}
  where
    stored_ok : (r : Result ⊤ KeepFault) → OnOk r (Makes (changed list) rows rows') → OnOk r (IsSome rows' → AreStored items)
    stored_ok (Ok done) m = λ some. lead.stored (told_before (changed list) rows rows' m some)
    stored_ok (Err why) m = tt

    made : (r : Result ⊤ KeepFault) → OnOk r (Makes (changed list) rows rows') → OnOk r (Makes (λ before. rows_in items) rows rows')
    made (Ok done) m = led_rows items list rows rows' lead m
    made (Err why) m = tt

pub no_change : (list : List Change) → length list ≡ 0 → list ≡ []
no_change [] none = refl
no_change (c ∷ list) none = absurd (omega (arith, none))

-- no change leads to the rows that are there
pub led_nowhere : (items : List Item) (list : List Change) (rows : Option (List Pair)) (honest : Type 0) (leaves : List Pair → Type 0) → list ≡ [] → LeadTo items list rows → Commits (Ok tt) items rows rows honest honest leaves leaves
led_nowhere items list rows honest leaves none lead = record {
  stored = lead.stored;
  ok = same rows (subst (λ (l : List Change). IfSome rows (λ r. changed l r ≡ rows_in items)) none lead.rows);
  told = λ h some. some;
  err = tt;
  settled = λ s. s;
  back = λ h. h;
  stop = λ h some left l. inl l;
}
  where
    same : (o : Option (List Pair)) → IfSome o (λ r. r ≡ rows_in items) → Makes (λ before. rows_in items) o o
    same None is = tt
    same (Some r) is = (r, refl, is)

pub taken : (list : List Change) (takes : Type 0) → (list ≡ []) ⊎ takes → 0 < length list → takes
taken list takes (inl none) some = absurd (omega (arith, subst (λ (l : List Change). 0 < length l) none some))
taken list takes (inr t) some = t

-- ---- the changes of a chain

pub all_writable : {all items : List Item} → ((i : Item) → Contains all i → IsWritable i) → items ≡ all → All IsWritable items
all_writable {all} {items} h is = all_by IsWritable items (λ i c. h i (subst (λ (l : List Item). Contains l i) is c))

-- every keeper takes the changes, by the law of commits
abbrev pub AllTake : Type 0
AllTake = (old new : List Item) (list : List Change) → HaveOwnKeys new → AreMade old new list → HasNewHead old new → IsOrdinary list

-- the last height and time are an item
head_there : (q : State) → Contains (items_of q) (item.Head q.view.ctx.height q.view.ctx.time)
head_there q = contained (items_of q) (item.Head q.view.ctx.height q.view.ctx.time) (inl refl)

first_head : (q : State) → HasNewHead [] (items_of q)
first_head q = record {
  height = q.view.ctx.height;
  time = q.view.ctx.time;
  stands = head_there q;
  is_new = λ c. absurd (member [] (item.Head q.view.ctx.height q.view.ctx.time) c);
}

same_height : (h t h' t' : ℕ) → item.Head h t ≡ item.Head h' t' → h ≡ h'
same_height h t h' t' e = cc

-- a height that rose is that of a new head
new_head : (p q : State) → IsOnce (map key_of (items_of p)) → HasRisen p q → HasNewHead (items_of p) (items_of q)
new_head p q keys risen = record {
  height = q.view.ctx.height;
  time = q.view.ctx.time;
  stands = head_there q;
  is_new = λ c. lower (own_keys (items_of p) keys (item.Head q.view.ctx.height q.view.ctx.time) (item.Head p.view.ctx.height p.view.ctx.time) c (head_there p) refl);
}
  where
    lower : item.Head q.view.ctx.height q.view.ctx.time ≡ item.Head p.view.ctx.height p.view.ctx.time → ⊥
    lower e =
        let same = same_height q.view.ctx.height q.view.ctx.time p.view.ctx.height p.view.ctx.time e in
        omega (arith, same, risen)

pub first_commit : AllTake → (q : State) (items : List Item) (list : List Change) → IsOnce (map key_of (items_of q)) → items ≡ items_of q → map change_seen list ≡ map item_put items → All HasRow items → IsCommit [] (items_of q) list
first_commit take q items list keys is seen rows =
    let have = subst (All HasRow) is rows in
    let made = made_first (items_of q) list keys (seen ∙ ap (map item_put) is) have in
    record { made = made; ordinary = take [] (items_of q) list (own_keys (items_of q) keys) made (first_head q); stored = λ none. stored_first (items_of q) keys have }

pub all_can_be_written : {old new : List Item} {changes told : List (Item × Bool)} → AreChanges old new changes → ((i : Item) → Contains new i → IsWritable i) → told ≡ changes → All CanBeWritten told
all_can_be_written {old} {new} {changes} {told} a writable is = all_by CanBeWritten told (λ c there. can_be_written old new changes a writable c (subst (λ (l : List (Item × Bool)). Contains l c) is there))

pub next_made : (p q : State) (changes told : List (Item × Bool)) (list : List Change) → AreChanges (items_of p) (items_of q) changes → told ≡ changes → map change_seen list ≡ map item_change told → All HasKeyInRange told
    → AreMade (items_of p) (items_of q) list
next_made p q changes told list a is seen ranged = record { changes = changes; from_items = a; in_range = subst (All HasKeyInRange) is ranged; same = seen ∙ ap (map item_change) is }

-- every keeper takes the changes of a chain whose height rose
pub next_taken : AllTake → (p q : State) (list : List Change) → IsOnce (map key_of (items_of p)) → IsOnce (map key_of (items_of q)) → HasRisen p q → AreMade (items_of p) (items_of q) list → IsOrdinary list
next_taken take p q list keys keys' risen made = take (items_of p) (items_of q) list (own_keys (items_of q) keys') made (new_head p q keys risen)

pub next_commit : (p q : State) (changes told : List (Item × Bool)) (list : List Change) → IsOrdinary list → IsOnce (map key_of (items_of q)) → ((i : Item) → Contains (items_of q) i → IsWritable i) → AreChanges (items_of p) (items_of q) changes
    → told ≡ changes → map change_seen list ≡ map item_change told → All HasRowIfPut told → All HasKeyInRange told → IsCommit (items_of p) (items_of q) list
next_commit p q changes told list ordinary keys writable a is seen rows ranged = record {
  made = next_made p q changes told list a is seen ranged;
  ordinary = ordinary;
  stored = λ s. stored_next (items_of p) (items_of q) changes s a keys writable (subst (All HasRowIfPut) is rows);
}

-- ---- whether there are rows

rows_are : (list : List Row) (told : Option (List Pair)) → IfSome told (λ pairs. map pair_of list ≡ pairs) → (P : List Pair → Type 0) → P (map pair_of list) → IfSome told P
rows_are list None h P p = tt
rows_are list (Some pairs) h P p = subst P h p

pub no_rows : (list : List Row) (told : Option (List Pair)) → IfSome told (λ pairs. map pair_of list ≡ pairs) → length list ≡ 0 → IfSome told (λ rows. rows ≡ [])
no_rows [] told is none = rows_are [] told is (λ rows. rows ≡ []) refl
no_rows (r ∷ list) told is none = absurd (omega (arith, none))

pub some_rows : (list : List Row) (told : Option (List Pair)) → IfSome told (λ pairs. map pair_of list ≡ pairs) → 0 < length list → IfSome told (λ rows. rows ≢ [])
some_rows [] told is some = absurd (omega (arith, some))
some_rows (r ∷ list) told is some = rows_are (r ∷ list) told is (λ rows. rows ≢ []) (λ (e : map pair_of (r ∷ list) ≡ []). cc)

-- and then the keeper keeps
pub keeps_some : (keeps : Bool) (list : List Row) → (keeps ≡ false → list ≡ []) → 0 < length list → keeps ≡ true
keeps_some true list none some = refl
keeps_some false list none some = absurd (omega (arith, subst (λ (l : List Row). 0 < length l) (none refl) some))
