-- What a keeper over a keeper tells, and what is left of the rows of the other.
use Rattle.std.proofs.Common.{◌≡◌, ◌∙◌, ◌⊎◌, inl, inr, ℕ, List, [], ◌∷◌, map, Option, Some, None, Ok, Err, Result, refl, sym, ap, ap₂, subst, if◌then◌else◌, unwrap_or, Bool, ◌^◌, ◌<◌, IfOk, IfSome, IsSome, IsSomeAnd, OnErr, OnOk}
use Rattle.base_io.specs.declared.keeper.{Change.Change, KeepFault.KeepFault}
use Rattle.base_io.specs.{Changes.{ChangeRows, IsOrdinary, LeavesRows, Rises, changed}, Rows.{Makes, Pair}}
use Rattle.store_history.specs.History.{IsHistory, is_visible, last_of, stored_base, visible}
use Rattle.store_history.specs.Commits.{IsCommit, anew, committed, height_of, made, seen}
use Rattle.store_history.specs.Held.{Became, CommitsTo, HaveBecome, Knows, ShowsLeft, base_after, shown}
use Rattle.store_history.proofs.{MapLemmas.filter_rises, LeftLemmas.{new_leaves, on_leaves}, ListLemmas.shown_last}
use Rattle.store_history.proofs.TakenLemmas.{Taken, begins_anew, begins_first, goes_on, keeps_history, lower_or_not, taken}

-- ---- what is told before and after

pub some_rows : (x y : List Pair) → Some x ≡ Some y → x ≡ y
some_rows x y e = cc

-- what f makes of the rows that were told, g makes of them
pub makes_by : (f g : List Pair → List Pair) (told told' : Option (List Pair)) → ((rows : List Pair) → told ≡ Some rows → f rows ≡ g rows) → Makes f told told' → Makes g told told'
makes_by f g told None same m = tt
makes_by f g told (Some after) same m = (m.0, m.1, m.2 ∙ same m.0 m.1)

-- rows that stayed, and what was made of them then
pub makes_later : (f : List Pair → List Pair) (told mid told' : Option (List Pair)) → Makes (λ rows. rows) told mid → Makes f mid told' → Makes f told told'
makes_later f told mid None stayed m = tt
makes_later f told None (Some after) stayed m = absurd (let e = m.1 in cc)
makes_later f told (Some rows) (Some after) stayed m =
    let same : rows ≡ m.0 = some_rows rows m.0 m.1 in
    (m.0, stayed.1 ∙ ap (λ (r : List Pair). Some r) (sym stayed.2 ∙ same), m.2)

pub makes_refl : (told : Option (List Pair)) → Makes (λ rows. rows) told told
makes_refl None = tt
makes_refl (Some rows) = (rows, refl, refl)

-- what holds of rows that were told holds of those that stayed
pub holds_still : (P : List Pair → Type 0) (told told' : Option (List Pair)) → Makes (λ rows. rows) told told' → IfSome told P → IfSome told' P
holds_still P told None m h = tt
holds_still P told (Some after) m h = subst P (sym m.2) (subst (λ (t : Option (List Pair)). IfSome t P) m.1 h)

pub holds_after : (f : List Pair → List Pair) (P Q : List Pair → Type 0) (told told' : Option (List Pair)) → ((rows : List Pair) → P rows → Q (f rows)) → Makes f told told' → IfSome told P → IfSome told' Q
holds_after f P Q told None leads m h = tt
holds_after f P Q told (Some after) leads m h = subst Q (sym m.2) (leads m.0 (subst (λ (t : Option (List Pair)). IfSome t P) m.1 h))

-- ---- what became of rows

-- what became of rows that stayed
pub become_still : (first told told' : Option (List Pair)) → Makes (λ rows. rows) told told' → HaveBecome first told → HaveBecome first told'
become_still first told told' stayed h = holds_still (λ rows. (before : List Pair) × (first ≡ Some before) × Became before rows) told told' stayed h

-- what became of rows to which one commit more was made
became_more : (list : List Change) → IsCommit list → (before rows : List Pair) → Became before rows → Became before (committed (map seen list) rows)
became_more list it before rows h = (list ∷ h.0, (it, h.1), ap (committed (map seen list)) h.2)

pub become_after : {X : Type 0} (r : Result X KeepFault) (list : List Change) → IsCommit list → (first told told' : Option (List Pair)) → OnOk r (Makes (committed (map seen list)) told told') → OnErr r (Makes (λ rows. rows) told told') → HaveBecome first told
    → HaveBecome first told'
become_after (Ok x) list it first told told' ok err h =
    holds_after (committed (map seen list)) (λ rows. (before : List Pair) × (first ≡ Some before) × Became before rows) (λ rows. (before : List Pair) × (first ≡ Some before) × Became before rows) told told'
    (λ rows was. (was.0, was.1, became_more list it was.0 rows was.2)) ok h
become_after (Err e) list it first told told' ok err h = become_still first told told' err h

-- nothing became yet of rows that are told as they were
pub become_none : (told : Option (List Pair)) → HaveBecome told told
become_none None = tt
become_none (Some rows) = (rows, refl, ([], tt, refl))

-- ---- what is shown

pub shown_makes : (f g : List Pair → List Pair) (told told' : Option (List Pair)) → ((rows : List Pair) → told ≡ Some rows → visible (f rows) ≡ g (visible rows)) → Makes f told told' → Makes g (shown told) (shown told')
shown_makes f g told None leads m = tt
shown_makes f g told (Some after) leads m = (visible m.0, ap shown m.1, ap visible m.2 ∙ leads m.0 m.1)

pub shown_some : (told : Option (List Pair)) → IsSome told → IsSome (shown told)
shown_some None h = h
shown_some (Some rows) h = refl

pub some_shown : (told : Option (List Pair)) → IsSome (shown told) → IsSome told
some_shown None h = h
some_shown (Some rows) h = refl

pub shown_holds : (P Q : List Pair → Type 0) (told : Option (List Pair)) → ((rows : List Pair) → P rows → Q (visible rows)) → IfSome told P → IfSome (shown told) Q
shown_holds P Q None leads h = tt
shown_holds P Q (Some rows) leads h = leads rows h

pub shown_settled : (leaves : List Pair → Type 0) (told : Option (List Pair)) → LeavesRows leaves told → LeavesRows (ShowsLeft leaves) (shown told)
shown_settled leaves None h = tt
shown_settled leaves (Some rows) h = λ left it. it.2 ∙ ap visible (h it.0 it.1)

pub shown_stop : (leaves leaves' : List Pair → Type 0) → ((left : List Pair) → leaves' left → leaves left) → (left : List Pair) → ShowsLeft leaves' left → ShowsLeft leaves left
shown_stop leaves leaves' back left it = (it.0, back it.0 it.1, it.2)

pub shown_stop_after : (f g : List Pair → List Pair) (leaves leaves' : List Pair → Type 0) (told : Option (List Pair)) → ((rows : List Pair) → told ≡ Some rows → visible (f rows) ≡ g (visible rows))
    → IfSome told (λ rows. (left : List Pair) → leaves' left → leaves left ⊎ (left ≡ f rows))
    → IfSome (shown told) (λ rows. (left : List Pair) → ShowsLeft leaves' left → ShowsLeft leaves left ⊎ (left ≡ g rows))
shown_stop_after f g leaves leaves' None leads h = tt
shown_stop_after f g leaves leaves' (Some rows) leads h = λ left it. elim (h it.0 it.1) [
  | inl before ↦ inl (it.0, before, it.2)
  | inr after ↦ inr (it.2 ∙ ap visible after ∙ leads rows refl)
]

pub shown_rises : (rows : List Pair) → Rises rows → Rises (visible rows)
shown_rises rows up = filter_rises is_visible rows up

-- ---- after a commit

-- what holds of rows and a history in them holds after a commit of ordinary changes
pub commit_keeps : (list : List Change) → IsCommit list → (rows : List Pair) → Rises rows × IsHistory rows → Rises (committed (map seen list) rows) × IsHistory (committed (map seen list) rows)
commit_keeps list it rows h = let k = keeps_history rows h.0 h.1 list it in (k.0, k.1)

pub commit_shows : (list : List Change) → IsCommit list → (rows : List Pair) → Rises rows → IsHistory rows → visible (committed (map seen list) rows) ≡ changed list (visible rows)
commit_shows list it rows up h = (keeps_history rows up h list it).3

pub told_both : (P Q : List Pair → Type 0) (told : Option (List Pair)) → IfSome told P → IfSome told Q → IfSome told (λ rows. P rows × Q rows)
told_both P Q None p q = tt
told_both P Q (Some rows) p q = (p, q)

pub told_at : (P : List Pair → Type 0) (told : Option (List Pair)) (rows : List Pair) → told ≡ Some rows → IfSome told P → P rows
told_at P told rows is h = subst (λ (t : Option (List Pair)). IfSome t P) is h

-- ---- a commit of the keeper below

pub on_ok : {X E : Type 0} {A B : Type 0} (r : Result X E) → OnOk r A → (A → B) → OnOk r B
on_ok (Ok x) a f = f a
on_ok (Err e) a f = tt

pub on_err : {X E : Type 0} {A B : Type 0} (r : Result X E) → OnErr r A → (A → B) → OnErr r B
on_err (Ok x) a f = tt
on_err (Err e) a f = f a

if_some_all : (told : Option (List Pair)) (P : List Pair → Type 0) → ((rows : List Pair) → P rows) → IfSome told P
if_some_all None P all = tt
if_some_all (Some rows) P all = all rows

if_some_by : (told : Option (List Pair)) (P Q : List Pair → Type 0) → ((rows : List Pair) → told ≡ Some rows → P rows → Q rows) → IfSome told P → IfSome told Q
if_some_by None P Q leads h = tt
if_some_by (Some rows) P Q leads h = leads rows refl h

-- a fault before the keeper was asked leaves all as it was
pub commits_not : {X : Type 0} (r : Result X KeepFault) (fault : KeepFault) → r ≡ Err fault → (list : List Change) (told : Option (List Pair)) (honest : Type 0) (leaves : List Pair → Type 0) → LeavesRows leaves told
    → CommitsTo r list told told honest honest leaves leaves
commits_not {X = X} r fault is list told honest leaves settled = subst (λ (r : Result X KeepFault). CommitsTo r list told told honest honest leaves leaves) (sym is) (record {
  ok = tt;
  told = tt;
  err = makes_refl told;
  settled = settled;
  back = λ h. h;
  stop = λ h. if_some_all told _ (λ rows left it. inl it);
})

module _ {X : Type 0} (r : Result X KeepFault) (list all : List Change) (told told' : Option (List Pair)) (honest honest' : Type 0) (leaves leaves' : List Pair → Type 0) where
  -- a commit of all changes, with those of the history
  pub commits_by : ((rows : List Pair) → told ≡ Some rows → changed all rows ≡ committed (map seen list) rows) → OnOk r (Makes (changed all) told told') → OnOk r (honest' → IsSome told → IsSome told')
      → OnErr r (Makes (λ rows. rows) told told') → LeavesRows leaves' told' → (honest' → honest)
      → (honest' → IfSome told (λ rows. (left : List Pair) → leaves' left → leaves left ⊎ (left ≡ changed all rows)))
      → CommitsTo r list told told' honest honest' leaves leaves'
  commits_by same ok still err settled back stop = record {
    ok = on_ok r ok (makes_by (changed all) (committed (map seen list)) told told' same);
    told = still;
    err = err;
    settled = settled;
    back = back;
    stop = λ h. if_some_by told _ _ (λ rows is at left it. elim (at left it) [ inl before ↦ inl before | inr after ↦ inr (after ∙ same rows is) ]) (stop h);
  }

-- rows that were loaded before
pub commits_later : {X : Type 0} (r : Result X KeepFault) (list : List Change) (told mid told' : Option (List Pair)) (honest between honest' : Type 0) (leaves at leaves' : List Pair → Type 0)
    → Makes (λ rows. rows) told mid → (between → IsSome told → IsSome mid) → (between → honest) → (between → (left : List Pair) → at left → leaves left)
    → CommitsTo r list mid told' between honest' at leaves' → CommitsTo r list told told' honest honest' leaves leaves'
commits_later r list told mid told' honest between honest' leaves at leaves' stayed still back stop c = record {
  ok = on_ok r c.ok (makes_later (committed (map seen list)) told mid told' stayed);
  told = on_ok r c.told (λ later h some. later h (still (c.back h) some));
  err = on_err r c.err (makes_later (λ rows. rows) told mid told' stayed);
  settled = c.settled;
  back = λ h. back (c.back h);
  stop = λ h. stops h told mid stayed (still (c.back h)) (c.stop h);
}
  where
    stops : honest' → (told mid : Option (List Pair)) → Makes (λ rows. rows) told mid → (IsSome told → IsSome mid) → IfSome mid (λ rows. (left : List Pair) → leaves' left → at left ⊎ (left ≡ committed (map seen list) rows))
        → IfSome told (λ rows. (left : List Pair) → leaves' left → leaves left ⊎ (left ≡ committed (map seen list) rows))
    stops h None mid stayed still m = tt
    stops h (Some rows) None stayed still m = absurd (let e = still refl in cc)
    stops h (Some rows) (Some mid) stayed still m = λ left it. elim (m left it) [
      | inl before ↦ inl (stop (c.back h) left before)
      | inr after ↦
          let same : rows ≡ mid = some_rows rows stayed.0 stayed.1 ∙ sym stayed.2 in
          inr (after ∙ ap (committed (map seen list)) (sym same))
    ]

-- rows that are told after a load were told before it
pub told_back : (told mid : Option (List Pair)) (rows : List Pair) → Makes (λ rows. rows) told mid → mid ≡ Some rows → told ≡ Some rows
told_back told None rows stayed is = absurd cc
told_back told (Some after) rows stayed is = stayed.1 ∙ ap (λ (r : List Pair). Some r) (sym stayed.2) ∙ is

-- what is known of rows is known of those that stayed
pub knows_still : (told told' : Option (List Pair)) (base : Option ℕ) (vis : List Pair) → Makes (λ rows. rows) told told' → Knows told base vis → Knows told' base vis
knows_still told told' base vis stayed k = record {
  base_is = holds_still (λ rows. base ≡ stored_base rows) told told' stayed k.base_is;
  seen_are = holds_still (λ rows. vis ≡ visible rows) told told' stayed k.seen_are;
}

-- what became of rows that a load left became of those before it
pub become_before : (first mid told : Option (List Pair)) → Makes (λ rows. rows) first mid → HaveBecome mid told → HaveBecome first told
become_before first mid told stayed h = if_some_by told _ _ (λ rows is was. (was.0, told_back first mid was.0 stayed was.1, was.2)) h

-- a fault after the keeper was only asked for its rows
pub commits_loaded : {X : Type 0} (r : Result X KeepFault) (fault : KeepFault) → r ≡ Err fault → (list : List Change) (told mid : Option (List Pair)) (honest between : Type 0) (leaves at : List Pair → Type 0) → Makes (λ rows. rows) told mid → LeavesRows at mid
    → (between → honest) → (between → (left : List Pair) → at left → leaves left) → CommitsTo r list told mid honest between leaves at
commits_loaded {X = X} r fault is list told mid honest between leaves at stayed settled back stop = subst (λ (r : Result X KeepFault). CommitsTo r list told mid honest between leaves at) (sym is) (record {
  ok = tt;
  told = tt;
  err = stayed;
  settled = settled;
  back = back;
  stop = λ h. if_some_all told _ (λ rows left it. inl (stop h left it));
})

-- the same, where a commit that was asked for after a load failed
pub commits_failed : {X Y : Type 0} (r : Result X KeepFault) (fault : KeepFault) → r ≡ Err fault → (list : List Change) (told mid told' : Option (List Pair)) (honest between honest' : Type 0) (leaves at leaves' : List Pair → Type 0)
    → Makes (λ rows. rows) told mid → (between → honest) → (between → (left : List Pair) → at left → leaves left) → (between → IsSome told → IsSome mid)
    → CommitsTo {X = Y} (Err fault) list mid told' between honest' at leaves' → CommitsTo r list told told' honest honest' leaves leaves'
commits_failed {X = X} {Y = Y} r fault is list told mid told' honest between honest' leaves at leaves' stayed back stop still c =
    subst (λ (r : Result X KeepFault). CommitsTo r list told told' honest honest' leaves leaves') (sym is) (
    let it = commits_later {X = Y} (Err fault) list told mid told' honest between honest' leaves at leaves' stayed still back stop c in
    record { ok = tt; told = tt; err = it.err; settled = it.settled; back = it.back; stop = it.stop }
    )

-- ---- what is shown of a commit

pub changing_still : (list : List Change) (told mid : Option (List Pair)) → Makes (λ rows. rows) told mid → ChangeRows list (shown told) → ChangeRows list (shown mid)
changing_still list told None stayed changing = λ rows e. absurd cc
changing_still list told (Some after) stayed changing = λ rows e.
    changing rows (ap shown (stayed.1 ∙ ap (λ (r : List Pair). Some r) (sym stayed.2)) ∙ e)

module _ {X : Type 0} (r : Result X KeepFault) (list : List Change) (it : IsCommit list) (told told' : Option (List Pair)) (honest honest' : Type 0) (leaves leaves' : List Pair → Type 0)
    (rises : IfSome told Rises) (history : IfSome told IsHistory) (c : CommitsTo r list told told' honest honest' leaves leaves') where
  shows : (rows : List Pair) → told ≡ Some rows → visible (committed (map seen list) rows) ≡ changed list (visible rows)
  shows rows is = commit_shows list it rows (told_at Rises told rows is rises) (told_at IsHistory told rows is history)

  pub shown_ok : OnOk r (Makes (changed list) (shown told) (shown told'))
  shown_ok = on_ok r c.ok (shown_makes (committed (map seen list)) (changed list) told told' shows)

  pub shown_told : OnOk r (honest' → IsSome (shown told) → IsSome (shown told'))
  shown_told = on_ok r c.told (λ still h some. shown_some told' (still h (some_shown told some)))

  pub shown_err : OnErr r (Makes (λ pairs. pairs) (shown told) (shown told'))
  shown_err = on_err r c.err (shown_makes (λ rows. rows) (λ rows. rows) told told' (λ rows is. refl))

  pub shown_left : LeavesRows (ShowsLeft leaves') (shown told')
  shown_left = shown_settled leaves' told' c.settled

  pub shown_stops : honest' → IfSome (shown told) (λ pairs. (left : List Pair) → ShowsLeft leaves' left → ShowsLeft leaves left ⊎ (left ≡ changed list pairs))
  shown_stops h = shown_stop_after (committed (map seen list)) (changed list) leaves leaves' told shows (c.stop h)

  -- after it a history is of its form, and the keys rise, whatever was answered
  pub both_now : IfSome told' (λ rows. Rises rows × IsHistory rows)
  both_now = go r c.ok c.err
    where
      go : (r : Result X KeepFault) → OnOk r (Makes (committed (map seen list)) told told') → OnErr r (Makes (λ rows. rows) told told') → IfSome told' (λ rows. Rises rows × IsHistory rows)
      go (Ok x) ok err =
          holds_after (committed (map seen list)) (λ rows. Rises rows × IsHistory rows) (λ rows. Rises rows × IsHistory rows) told told' (commit_keeps list it) ok (told_both Rises IsHistory told rises history)
      go (Err e) ok err = holds_still (λ rows. Rises rows × IsHistory rows) told told' err (told_both Rises IsHistory told rises history)

-- ---- what is known after a commit

pub if_ok_by : {X E : Type 0} (r : Result X E) (P Q : X → Type 0) → IfOk r P → ((x : X) → P x → Q x) → IfOk r Q
if_ok_by (Ok x) P Q p leads = leads x p
if_ok_by (Err e) P Q p leads = tt

stored_after : (rows : List Pair) → Rises rows → IsHistory rows → (list : List Change) (t : Taken list) → stored_base (committed (map seen list) rows) ≡ base_after (stored_base rows) (last_of rows) t.n
stored_after rows up h list t = go (last_of rows) refl
  where
    after_new : committed (map seen list) rows ≡ made (anew rows t.n (map seen list)) rows → stored_base (committed (map seen list) rows) ≡ Some t.n
    after_new same = ap stored_base same ∙ (new_leaves rows up h t.n t.small (map seen list) t.apart t.free t.height).base_is

    go : (o : Option ℕ) → last_of rows ≡ o → stored_base (committed (map seen list) rows) ≡ base_after (stored_base rows) o t.n
    go None is = after_new (begins_first rows (map seen list) t.n t.height is)
    go (Some last) is = elim (lower_or_not last t.n) [
      | inl it ↦
          ap stored_base (goes_on rows (map seen list) t.n t.height last is it.0)
          ∙ (on_leaves rows up h t.n t.small (map seen list) t.apart t.free t.height last is it.0).base_is
          ∙ sym (ap (λ (b : Bool). Some (if b then unwrap_or (stored_base rows) last else t.n)) it.1)
      | inr it ↦
          after_new (begins_anew rows (map seen list) t.n t.height last is it.0)
          ∙ sym (ap (λ (b : Bool). Some (if b then unwrap_or (stored_base rows) last else t.n)) it.1)
    ]

-- what is followed is known of the rows after the commit
pub knows_after : (list : List Change) (it : IsCommit list) (n : ℕ) → height_of (map seen list) ≡ Some n → (told told' : Option (List Pair)) (base base' : Option ℕ) (vis vis' : List Pair) → IfSome told Rises → IfSome told IsHistory
    → Knows told base vis → Makes (committed (map seen list)) told told' → base' ≡ base_after base (last_of vis) n → vis' ≡ changed list vis → Knows told' base' vis'
knows_after list it n height told None base base' vis vis' rises history k made base_is vis_is = record { base_is = tt; seen_are = tt }
knows_after list it n height told (Some after) base base' vis vis' rises history k made base_is vis_is =
    let rows = made.0 in
    let up = told_at Rises told rows made.1 rises in
    let h = told_at IsHistory told rows made.1 history in
    let base_was = told_at (λ rows. base ≡ stored_base rows) told rows made.1 k.base_is in
    let vis_was = told_at (λ rows. vis ≡ visible rows) told rows made.1 k.seen_are in
    let t = taken list it in
    let same_n : n ≡ t.n = some_number n t.n (sym height ∙ t.height) in
    record {
      base_is =
          base_is
          ∙ ap₂ (λ (b : Option ℕ) (l : Option ℕ). base_after b l n) base_was (ap last_of vis_was ∙ shown_last rows up)
          ∙ ap (base_after (stored_base rows) (last_of rows)) same_n
          ∙ sym (ap stored_base made.2 ∙ stored_after rows up h list t);
      seen_are = vis_is ∙ ap (changed list) vis_was ∙ sym (ap visible made.2 ∙ commit_shows list it rows up h);
    }
  where
    some_number : (x y : ℕ) → Some x ≡ Some y → x ≡ y
    some_number x y e = cc

pub is_commit : (list : List Change) (n : ℕ) → IsOrdinary list → height_of (map seen list) ≡ Some n → n < 2 ^ 64 → IsCommit list
is_commit list n o height small = (o, subst (λ (h : Option ℕ). IsSomeAnd h (λ n. n < 2 ^ 64)) (sym height) small)

pub told_parts : (P Q : List Pair → Type 0) (told : Option (List Pair)) → IfSome told (λ rows. P rows × Q rows) → IfSome told P × IfSome told Q
told_parts P Q None h = (tt, tt)
told_parts P Q (Some rows) h = h
