-- The list of changes that is committed: its keys are distinct, each change changes the rows, and it makes of them what a commit makes.
use Rattle.std.proofs.Common.{◌≡◌, ◌∙◌, ℕ, zero, suc, length, take, Less, ◌^◌, ◌<◌, ◌≤◌, Bool, true, false, List, [], ◌∷◌, ◌++◌, ◌+◌, append_assoc, drop, filter, get_or, is_eq, map, Option, Some, None, refl, sym, ap, ap₂, subst, arith, is_some, nat_lt, if◌then◌else◌, option_and_then, slice_index_or, Contains, IfSome, IsSome, ◌==◌}
use Rattle.std.specs.{Option.option_flatten, List.AllByRecursion}
use Rattle.base_io.specs.declared.keeper.{Row.Row, Change.Change}
use Rattle.base_io.specs.Changes.{ChangesRows, IsOrdinary, IsPutOfHead, Rises, changed, pair_of, value_of}
use Rattle.base_io.specs.Rows.{HasDistinctKeys, Pair, key_cmp}
use Rattle.base_io.specs.declared.keeper.Change.TheVariants as change
use Rattle.store_history.specs.History.{IsHistory, base_in, head_key, height_in, is_visible, kept_key, kept_value, last_of, number_in, stored_base, visible}
use Rattle.store_history.specs.Commits.{Seen, anew, change_at, committed, going_on, height_of, is_base, is_kept, made, note, put_base, removal, seen}
use Rattle.store_history.proofs.MapLemmas.{all_pass, at_filter, filter_rises, passed, value_first}
use Rattle.store_history.proofs.ChangeLemmas.{AreDistinct, AreVisible, all_append, change_first, change_later, none_changed, parts_anew_distinct, parts_on_distinct}
use Rattle.store_history.proofs.{FormLemmas.{base_back, last_small, none_above}, ReadingLemmas.{drop_end, row_next}}
use Rattle.store_history.proofs.TakenLemmas.{begins_anew, begins_first, changed_seen, distinct_seen, free_seen, goes_on, seen_distinct}

-- the change changes the rows
abbrev Alters : List Pair → List ℕ → Option (List ℕ) → Type 0
Alters rows key None = IsSome (value_of key rows)
Alters rows key (Some value) = value_of key rows ≡ Some value → ⊥

abbrev Changes : List Pair → Seen → Type 0
Changes rows c = Alters rows c.0 c.1

changes_seen : (rows : List Pair) (list : List Change) → AllByRecursion (ChangesRows rows) list → AllByRecursion (Changes rows) (map seen list)
changes_seen rows [] h = tt
changes_seen rows (change.Put row ∷ list) h = (h.0, changes_seen rows list h.1)
changes_seen rows (change.Remove key ∷ list) h = (h.0, changes_seen rows list h.1)

seen_changes : (rows : List Pair) (list : List Change) → AllByRecursion (Changes rows) (map seen list) → AllByRecursion (ChangesRows rows) list
seen_changes rows [] h = tt
seen_changes rows (change.Put row ∷ list) h = (h.0, seen_changes rows list h.1)
seen_changes rows (change.Remove key ∷ list) h = (h.0, seen_changes rows list h.1)

-- what changes visible rows changes the rows
shown_alters : (rows : List Pair) → Rises rows → (key : List ℕ) (value : Option (List ℕ)) → is_visible key ≡ true → Alters (visible rows) key value → Alters rows key value
shown_alters rows up key None shown h = subst (λ (o : Option (List ℕ)). IsSome o) (at_filter is_visible key rows up shown) h
shown_alters rows up key (Some value) shown h = λ e. h (at_filter is_visible key rows up shown ∙ e)

shown_changes : (rows : List Pair) → Rises rows → (cs : List Seen) → AreVisible cs → AllByRecursion (Changes (visible rows)) cs → AllByRecursion (Changes rows) cs
shown_changes rows up [] free h = tt
shown_changes rows up (c ∷ cs) free h = (shown_alters rows up c.0 c.1 free.0 h.0, shown_changes rows up cs free.1 h.1)

abbrev noting : ℕ → List ℕ → Option (List ℕ) → Seen
noting n key o = (kept_key n key, Some (kept_value o))

-- what is noted of visible keys is the same of the visible rows
same_notes : (n : ℕ) (rows : List Pair) → Rises rows → (cs : List Seen) → AreVisible cs → map (note n (visible rows)) cs ≡ map (note n rows) cs
same_notes n rows up [] free = refl
same_notes n rows up (c ∷ cs) free =
    ap₂ (λ (d : Seen) (ds : List Seen). d ∷ ds) (ap (noting n c.0) (at_filter is_visible c.0 rows up free.0)) (same_notes n rows up cs free.1)

notes_change : (n : ℕ) (rows : List Pair) (cs : List Seen) → ((key : List ℕ) → value_of (kept_key n key) rows ≡ None) → AllByRecursion (Changes rows) (map (note n rows) cs)
notes_change n rows [] none = tt
notes_change n rows (c ∷ cs) none = (λ e. let nothing = none c.0 in cc, notes_change n rows cs none)

stands_all : (ps : List Pair) → Rises ps → AllByRecursion (λ p. value_of p.0 ps ≡ Some p.1) ps
stands_all [] up = tt
stands_all (p ∷ ps) up = (value_first p ps, later ps up.0 (stands_all ps up.1))
  where
    later : (qs : List Pair) → AllByRecursion (λ q. key_cmp p.0 q.0 ≡ Less) qs → AllByRecursion (λ q. value_of q.0 ps ≡ Some q.1) qs → AllByRecursion (λ q. value_of q.0 (p ∷ ps) ≡ Some q.1) qs
    later [] above h = tt
    later (q ∷ qs) above h = (passed p ps q.0 up (λ e. let less = above.0 in cc) ∙ h.0, later qs above.1 h.1)

removals_change : (rows : List Pair) → Rises rows → AllByRecursion (Changes rows) (map removal (filter (λ p. is_kept p.0) rows))
removals_change rows up = go (filter (λ p. is_kept p.0) rows) (all_pass is_kept rows) (stands_all (filter (λ p. is_kept p.0) rows) (filter_rises is_kept rows up))
  where
    go : (ps : List Pair) → AllByRecursion (λ p. is_kept p.0 ≡ true) ps → AllByRecursion (λ p. value_of p.0 (filter (λ p. is_kept p.0) rows) ≡ Some p.1) ps → AllByRecursion (Changes rows) (map removal ps)
    go [] kept h = tt
    go (p ∷ ps) kept h = (
      (let there : value_of p.0 rows ≡ Some p.1 = sym (at_filter is_kept p.0 rows up kept.0) ∙ h.0 in subst (λ (o : Option (List ℕ)). IsSome o) (sym there) refl),
      go ps kept.1 h.1,
    )

-- a base that is put was not there
base_changes : (b : Bool) (n : ℕ) (rows : List Pair) → n < 2 ^ 64 → (stored_base rows ≡ Some n → b ≡ true) → AllByRecursion (Changes rows) (put_base b n)
base_changes true n rows small stood = tt
base_changes false n rows small stood = (λ e. let is = stood (ap (option_and_then base_in) e ∙ base_back n small) in cc, tt)

-- ---- a commit that goes on

-- the list that is committed then, as it is known
abbrev pub on_list : Option ℕ → List Pair → ℕ → ℕ → List Change → List Seen
on_list base vis last n changes = put_base (is_some base) last ++ (map (note n vis) (map seen changes) ++ map seen changes)

pub on_list_distinct : (changes list : List Change) (base : Option ℕ) (vis : List Pair) (last n : ℕ) → IsOrdinary changes → map seen list ≡ on_list base vis last n changes → HasDistinctKeys list
on_list_distinct changes list base vis last n o is =
    seen_distinct list (subst (λ (l : List Seen). AreDistinct l) (sym is) (parts_on_distinct (is_some base) last n vis (map seen changes) (free_seen changes o.free) (distinct_seen changes o.distinct)))

on_list_is : (changes list : List Change) (base : Option ℕ) (vis : List Pair) (last n : ℕ) (rows : List Pair) → IsOrdinary changes → map seen list ≡ on_list base vis last n changes → Rises rows
    → base ≡ stored_base rows → vis ≡ visible rows → map seen list ≡ going_on rows last n (map seen changes)
on_list_is changes list base vis last n rows o is up base_is vis_is =
    is
    ∙ ap₂ (λ (b : Option ℕ) (v : List Pair). on_list b v last n changes) base_is vis_is
    ∙ ap (λ (notes : List Seen). put_base (is_some (stored_base rows)) last ++ (notes ++ map seen changes)) (same_notes n rows up (map seen changes) (free_seen changes o.free))

pub shown_last : (rows : List Pair) → Rises rows → last_of (visible rows) ≡ last_of rows
shown_last rows up = ap (option_and_then height_in) (at_filter is_visible head_key rows up refl)

pub on_list_made : (changes list : List Change) (base : Option ℕ) (vis : List Pair) (last n : ℕ) (rows : List Pair) → IsOrdinary changes → map seen list ≡ on_list base vis last n changes → Rises rows
    → base ≡ stored_base rows → vis ≡ visible rows → last_of vis ≡ Some last → last < n → height_of (map seen changes) ≡ Some n → changed list rows ≡ committed (map seen changes) rows
on_list_made changes list base vis last n rows o is up base_is vis_is is_last less height =
    changed_seen list rows
    ∙ ap (λ (l : List Seen). made l rows) (on_list_is changes list base vis last n rows o is up base_is vis_is)
    ∙ sym (goes_on rows (map seen changes) n height last (sym (ap last_of vis_is ∙ shown_last rows up) ∙ is_last) less)

pub on_list_changes : (changes list : List Change) (base : Option ℕ) (vis : List Pair) (last n : ℕ) (rows : List Pair) → IsOrdinary changes → map seen list ≡ on_list base vis last n changes → Rises rows → IsHistory rows
    → base ≡ stored_base rows → vis ≡ visible rows → last_of vis ≡ Some last → last < n → n < 2 ^ 64 → AllByRecursion (ChangesRows (visible rows)) changes → AllByRecursion (ChangesRows rows) list
on_list_changes changes list base vis last n rows o is up h base_is vis_is is_last less small changing =
    let cs = map seen changes in
    let free = free_seen changes o.free in
    let last_is : last_of rows ≡ Some last = sym (ap last_of vis_is ∙ shown_last rows up) ∙ is_last in
    seen_changes rows list (subst (λ (l : List Seen). AllByRecursion (Changes rows) l) (sym (on_list_is changes list base vis last n rows o is up base_is vis_is)) (
    all_append (Changes rows) (put_base (is_some (stored_base rows)) last) (map (note n rows) cs ++ cs)
    (base_changes (is_some (stored_base rows)) last rows (last_small rows h last last_is) (λ e. ap (λ (b : Option ℕ). is_some b) e))
    (all_append (Changes rows) (map (note n rows) cs) cs
    (notes_change n rows cs (λ key. none_above rows h last n key last_is less small))
    (shown_changes rows up cs free (changes_seen (visible rows) changes changing)))
    ))

-- ---- a commit that begins anew

-- the list that is committed then
abbrev pub new_list : List Pair → Option ℕ → ℕ → List Change → List Seen
new_list kept base n changes = map removal kept ++ (put_base (is_base n base) n ++ map seen changes)

pub new_list_distinct : (changes list : List Change) (kept : List Pair) (base : Option ℕ) (n : ℕ) → IsOrdinary changes → map seen list ≡ new_list kept base n changes → Rises kept
    → AllByRecursion (λ p. is_kept p.0 ≡ true) kept → HasDistinctKeys list
new_list_distinct changes list kept base n o is up all =
    seen_distinct list (subst (λ (l : List Seen). AreDistinct l) (sym is) (parts_anew_distinct kept (is_base n base) n (map seen changes) up all (free_seen changes o.free) (distinct_seen changes o.distinct)))

new_list_is : (changes list : List Change) (kept : List Pair) (base : Option ℕ) (n : ℕ) (rows : List Pair) → map seen list ≡ new_list kept base n changes → base ≡ stored_base rows
    → kept ≡ filter (λ p. is_kept p.0) rows → map seen list ≡ anew rows n (map seen changes)
new_list_is changes list kept base n rows is base_is kept_is = is ∙ ap₂ (λ (k : List Pair) (b : Option ℕ). new_list k b n changes) kept_is base_is

pub new_list_made : (changes list : List Change) (kept : List Pair) (base : Option ℕ) (vis : List Pair) (n : ℕ) (rows : List Pair) → map seen list ≡ new_list kept base n changes → Rises rows → base ≡ stored_base rows
    → vis ≡ visible rows → kept ≡ filter (λ p. is_kept p.0) rows → IfSome (last_of vis) (λ last. n ≤ last) → height_of (map seen changes) ≡ Some n → changed list rows ≡ committed (map seen changes) rows
new_list_made changes list kept base vis n rows is up base_is vis_is kept_is low height =
    changed_seen list rows ∙ ap (λ (l : List Seen). made l rows) (new_list_is changes list kept base n rows is base_is kept_is)
    ∙ sym (go (last_of rows) refl (subst (λ (o : Option ℕ). IfSome o (λ last. n ≤ last)) (ap last_of vis_is ∙ shown_last rows up) low))
  where
    go : (o : Option ℕ) → last_of rows ≡ o → IfSome o (λ last. n ≤ last) → committed (map seen changes) rows ≡ made (anew rows n (map seen changes)) rows
    go None is low = begins_first rows (map seen changes) n height is
    go (Some last) is low = begins_anew rows (map seen changes) n height last is low

pub new_list_changes : (changes list : List Change) (kept : List Pair) (base : Option ℕ) (vis : List Pair) (n : ℕ) (rows : List Pair) → IsOrdinary changes → map seen list ≡ new_list kept base n changes → Rises rows
    → base ≡ stored_base rows → kept ≡ filter (λ p. is_kept p.0) rows → n < 2 ^ 64 → AllByRecursion (ChangesRows (visible rows)) changes → AllByRecursion (ChangesRows rows) list
new_list_changes changes list kept base vis n rows o is up base_is kept_is small changing =
    let cs = map seen changes in
    let free = free_seen changes o.free in
    seen_changes rows list (subst (λ (l : List Seen). AllByRecursion (Changes rows) l) (sym (new_list_is changes list kept base n rows is base_is kept_is)) (
    all_append (Changes rows) (map removal (filter (λ p. is_kept p.0) rows)) (put_base (is_base n (stored_base rows)) n ++ cs)
    (removals_change rows up)
    (all_append (Changes rows) (put_base (is_base n (stored_base rows)) n) cs
    (base_changes (is_base n (stored_base rows)) n rows small (λ e. ap (is_base n) e ∙ same n))
    (shown_changes rows up cs free (changes_seen (visible rows) changes changing)))
    ))
  where
    same : (n : ℕ) → (n == n) ≡ true
    same n = search Rattle.std.proofs.Common.rules

-- ---- the height of ordinary changes

pub ordinary_height : (changes : List Change) → IsOrdinary changes → (n : ℕ) × (height_of (map seen changes) ≡ Some n)
ordinary_height changes o =
    let (put, there, head) = o.head in
    let (value, at, long) = found changes put o.distinct there head in
    let (n, names) = long_head value long in
    (n, ap (λ (c : Option (Option (List ℕ))). option_and_then height_in (option_flatten c)) at ∙ names)
  where
    long_head : (value : List ℕ) → 9 ≤ length value → (n : ℕ) × (height_in value ≡ Some n)
    long_head [] long = absurd (omega (arith, long))
    long_head (form ∷ rest) long =
        let test : nat_lt (length rest) 8 ≡ false = search (arith, Rattle.std.proofs.Common.rules) in
        (number_in (take 8 rest), ap (λ (b : Bool). if b then None else Some (number_in (take 8 rest))) test)

    put_of : (c : Change) → IsPutOfHead c → (value : List ℕ) × (seen c ≡ (head_key, Some value)) × (9 ≤ length value)
    put_of (change.Put row) h = (row.value.items, ap (λ (k : List ℕ). (k, Some row.value.items)) h.0, h.1)
    put_of (change.Remove key) h = absurd h

    found : (list : List Change) (put : Change) → HasDistinctKeys list → Contains list put → IsPutOfHead put → (value : List ℕ) × (change_at head_key (map seen list) ≡ Some (Some value)) × (9 ≤ length value)
    found list put apart there head =
        let (value, is, long) = put_of put head in
        (value, at list (distinct_seen list apart) there.0 there.1 there.2 value is, long)
      where
        at : (list : List Change) → AreDistinct (map seen list) → (k : ℕ) → k < length list → slice_index_or list k put ≡ put → (value : List ℕ) → seen put ≡ (head_key, Some value) → change_at head_key (map seen list) ≡ Some (Some value)
        at [] apart k lt is value head = absurd (omega (arith, lt))
        at (c ∷ list) apart zero lt is value head =
            let here : seen c ≡ (head_key, Some value) = ap seen is ∙ head in
            change_first (seen c) (map seen list) head_key (ap (λ (d : Seen). d.0) here) ∙ ap (λ (d : Seen). Some d.1) here
        at (c ∷ list) apart (suc k) lt is value head =
            let later = at list apart.1 k (omega (arith, lt)) is value head in
            change_later (seen c) (map seen list) head_key (λ e. let none = none_changed head_key (map seen list) (subst (λ (k : List ℕ). AllByRecursion (λ d. k ≡ d.0 → ⊥) (map seen list)) e apart.0) in cc) ∙ later

-- ---- lists that are built

change_next : (changes : List Change) (i : ℕ) (c : Change) → i < length changes → c ≡ get_or changes i c → drop i changes ≡ c ∷ drop (i + 1) changes
change_next [] i c lt is = absurd (omega (arith, lt))
change_next (d ∷ changes) zero c lt is = ap (λ (t : Change). t ∷ changes) (sym is)
change_next (d ∷ changes) (suc i) c lt is =
    let one_more : suc i + 1 ≡ suc (i + 1) = omega arith in
    rw one_more (change_next changes i c (omega (arith, lt)) is)

changes_end : (changes : List Change) (i : ℕ) → length changes ≤ i → drop i changes ≡ []
changes_end [] zero le = refl
changes_end [] (suc i) le = refl
changes_end (c ∷ changes) zero le = absurd (omega (arith, le))
changes_end (c ∷ changes) (suc i) le = changes_end changes i (omega (arith, le))

pushed : (out : List Change) (it : Change) (rest : List Seen) → map seen (out ++ it ∷ []) ++ rest ≡ map seen out ++ (seen it ∷ rest)
pushed [] it rest = refl
pushed (c ∷ out) it rest = ap (λ (l : List Seen). seen c ∷ l) (pushed out it rest)

nothing_more : (xs : List Seen) → xs ++ [] ≡ xs
nothing_more [] = refl
nothing_more (x ∷ xs) = ap (λ (l : List Seen). x ∷ l) (nothing_more xs)

-- one more change, of which this is appended
pub append_next : (f : Seen → Seen) (out : List Change) (it : Change) (changes : List Change) (i : ℕ) (c : Change) → i < length changes → c ≡ get_or changes i c → seen it ≡ f (seen c)
    → map seen (out ++ it ∷ []) ++ map f (map seen (drop (i + 1) changes)) ≡ map seen out ++ map f (map seen (drop i changes))
append_next f out it changes i c lt is same =
    pushed out it (map f (map seen (drop (i + 1) changes)))
    ∙ ap (λ (s : Seen). map seen out ++ (s ∷ map f (map seen (drop (i + 1) changes)))) same
    ∙ sym (ap (λ (cs : List Change). map seen out ++ map f (map seen cs)) (change_next changes i c lt is))

pub append_end : (f : Seen → Seen) (out : List Change) (changes : List Change) (i : ℕ) → length changes ≤ i → map seen out ++ map f (map seen (drop i changes)) ≡ map seen out
append_end f out changes i le = ap (λ (cs : List Change). map seen out ++ map f (map seen cs)) (changes_end changes i le) ∙ nothing_more (map seen out)

-- the same of copies
pub copy_next : (out : List Change) (it : Change) (changes : List Change) (i : ℕ) (c : Change) → i < length changes → c ≡ get_or changes i c → seen it ≡ seen c
    → map seen (out ++ it ∷ []) ++ map seen (drop (i + 1) changes) ≡ map seen out ++ map seen (drop i changes)
copy_next out it changes i c lt is same =
    pushed out it (map seen (drop (i + 1) changes))
    ∙ ap (λ (s : Seen). map seen out ++ (s ∷ map seen (drop (i + 1) changes))) same
    ∙ sym (ap (λ (cs : List Change). map seen out ++ map seen cs) (change_next changes i c lt is))

pub copy_end : (out : List Change) (changes : List Change) (i : ℕ) → length changes ≤ i → map seen out ++ map seen (drop i changes) ≡ map seen out
copy_end out changes i le = ap (λ (cs : List Change). map seen out ++ map seen cs) (changes_end changes i le) ∙ nothing_more (map seen out)

-- and of removals
pub removal_next : (out : List Change) (it : Change) (rows : List Row) (i : ℕ) (r : Row) → i < length rows → r ≡ get_or rows i r → seen it ≡ removal (pair_of r)
    → map seen (out ++ it ∷ []) ++ map removal (map pair_of (drop (i + 1) rows)) ≡ map seen out ++ map removal (map pair_of (drop i rows))
removal_next out it rows i r lt is same =
    pushed out it (map removal (map pair_of (drop (i + 1) rows)))
    ∙ ap (λ (s : Seen). map seen out ++ (s ∷ map removal (map pair_of (drop (i + 1) rows)))) same
    ∙ sym (ap (λ (rs : List Row). map seen out ++ map removal (map pair_of rs)) (row_next rows i r lt is))

pub removal_end : (out : List Change) (rows : List Row) (i : ℕ) → length rows ≤ i → map seen out ++ map removal (map pair_of (drop i rows)) ≡ map seen out
removal_end out rows i le = ap (λ (rs : List Row). map seen out ++ map removal (map pair_of rs)) (drop_end rows i le) ∙ nothing_more (map seen out)

pub three_parts : (a b c d P Q R : List Seen) → b ≡ a ++ P → c ≡ b ++ Q → d ≡ c ++ R → a ≡ [] → d ≡ P ++ (Q ++ R)
three_parts a b c d P Q R one two three none =
    three ∙ ap (λ (l : List Seen). l ++ R) (two ∙ ap (λ (l : List Seen). l ++ Q) (one ∙ ap (λ (l : List Seen). l ++ P) none)) ∙ append_assoc P Q R

-- the head among the changes
pub head_here : (changes : List Change) (i : ℕ) (c : Change) → i < length changes → c ≡ get_or changes i c → is_eq (key_cmp (seen c).0 head_key) ≡ true
    → height_of (map seen (drop i changes)) ≡ option_and_then height_in (seen c).1
head_here changes i c lt is here =
    ap (λ (cs : List Change). height_of (map seen cs)) (change_next changes i c lt is)
    ∙ ap (λ (b : Bool). option_and_then height_in (option_flatten (if b then Some (seen c).1 else change_at head_key (map seen (drop (i + 1) changes))))) here

pub head_later : (changes : List Change) (i : ℕ) (c : Change) → i < length changes → c ≡ get_or changes i c → is_eq (key_cmp (seen c).0 head_key) ≡ false
    → height_of (map seen (drop i changes)) ≡ height_of (map seen (drop (i + 1) changes))
head_later changes i c lt is other =
    ap (λ (cs : List Change). height_of (map seen cs)) (change_next changes i c lt is)
    ∙ ap (λ (b : Bool). option_and_then height_in (option_flatten (if b then Some (seen c).1 else change_at head_key (map seen (drop (i + 1) changes))))) other

pub head_nowhere : (changes : List Change) (i : ℕ) → length changes ≤ i → height_of (map seen (drop i changes)) ≡ None
head_nowhere changes i le = ap (λ (cs : List Change). height_of (map seen cs)) (changes_end changes i le)
