-- Past values stand through commits.
use Rattle.std.proofs.Common.{◌≡◌, ◌∙◌, inl, inr, ℕ, zero, suc, ◌+◌, ◌-◌, ◌^◌, ◌<◌, ◌≤◌, Bool, true, false, List, [], ◌∷◌, map, Option, Some, None, refl, sym, ap, ap₂, subst, arith, nat_lt, if◌then◌else◌, unwrap_or, MatchOption}
use Rattle.std.{specs.List.AllByRecursion, proofs.lemmas.Bool.cases_Bool}
use Rattle.base_io.specs.{declared.keeper.Change.Change, Rows.Pair, Changes.{Rises, value_of}}
use Rattle.store_history.specs.History.{ArePast, IsHistory, base_of, is_visible, kept_height, kept_key, kept_or, last_of, past_value, stored_base, value_before, visible}
use Rattle.store_history.specs.Commits.{AreCommits, PastIsOne, PastIsWhatStood, Seen, after, change_at, going_on, height_of, is_at_most, last_at, made, seen}
use Rattle.store_history.proofs.MapLemmas.{all_at_value, at_filter, filter_rises, off_filter, same_values}
use Rattle.store_history.proofs.KeyLemmas.{height_back}
use Rattle.store_history.proofs.ChangeLemmas.{AreDistinct, AreVisible, noted, note_other, on_kept, on_noted, on_seen}
use Rattle.store_history.proofs.{FormLemmas.{none_above, was_back}, LeftLemmas.{new_leaves, on_leaves, on_value}}
use Rattle.store_history.proofs.TakenLemmas.{Kind, Taken, kind_of, leaves, lower_or_not, taken, Kind.{Goes, Anew}}

-- ---- walks over heights

-- where nothing is kept, a key has the value that it has
walk_none : (rows : List Pair) (key : List ℕ) (count start : ℕ) → ((m : ℕ) → start ≤ m → m < start + count → value_of (kept_key m key) rows ≡ None) → value_before rows key count start ≡ value_of key rows
walk_none rows key zero start none = refl
walk_none rows key (suc more) start none =
    ap (λ (o : Option (List ℕ)). kept_or o (value_before rows key more (start + 1))) (none start (omega arith) (omega arith))
    ∙ walk_none rows key more (start + 1) (λ m low high. none m (omega (arith, low)) (omega (arith, high)))

-- and a walk beyond what is kept goes on to no avail
walk_longer : (rows : List Pair) (key : List ℕ) (count more start : ℕ) → ((m : ℕ) → start + count ≤ m → m < start + count + more → value_of (kept_key m key) rows ≡ None)
    → value_before rows key (count + more) start ≡ value_before rows key count start
walk_longer rows key zero more start none =
    let same : 0 + more ≡ more = omega arith in
    rw same (walk_none rows key more start (λ m low high. none m (omega (arith, low)) (omega (arith, high))))
walk_longer rows key (suc count) more start none =
    let same : suc count + more ≡ suc (count + more) = omega arith in
    rw same (ap (kept_or (value_of (kept_key start key) rows)) (walk_longer rows key count more (start + 1) (λ m low high. none m (omega (arith, low)) (omega (arith, high)))))

-- where the same is kept at each height before one, and that one gives the old value, the walk gives what it gave
walk_same : (old new : List Pair) (key : List ℕ) (count start top : ℕ) → start + count ≡ top → ((m : ℕ) → start ≤ m → m < top → value_of (kept_key m key) new ≡ value_of (kept_key m key) old)
    → value_before new key 1 top ≡ value_of key old → value_before new key (suc count) start ≡ value_before old key count start
walk_same old new key zero start top end same at_top =
    let here : top ≡ start = omega (arith, end) in
    subst (λ (s : ℕ). value_before new key 1 s ≡ value_of key old) here at_top
walk_same old new key (suc more) start top end same at_top =
    ap₂ kept_or (same start (omega arith) (omega (arith, end))) (walk_same old new key more (start + 1) top (omega (arith, end)) (λ m low high. same m (omega (arith, low)) high) at_top)

-- ---- past values

past_is : (rows : List Pair) (last height : ℕ) (key : List ℕ) → last_of rows ≡ Some last → past_value rows height key ≡ value_before rows key (last - height) (height + 1)
past_is rows last height key is = ap (λ (o : Option ℕ). value_before rows key (unwrap_or o 0 - height) (height + 1)) is

-- at the last height and above, those that stand
past_at_end : (rows : List Pair) (last height : ℕ) (key : List ℕ) → last_of rows ≡ Some last → last ≤ height → past_value rows height key ≡ value_of key rows
past_at_end rows last height key is le =
    let none : last - height ≡ 0 = omega (arith, le) in
    past_is rows last height key is ∙ ap (λ (count : ℕ). value_before rows key count (height + 1)) none

module _ (rows : List Pair) (up : Rises rows) (h : IsHistory rows) (n : ℕ) (small : n < 2 ^ 64) (cs : List Seen) (apart : AreDistinct cs) (free : AreVisible cs) (height_is : height_of cs ≡ Some n) (last : ℕ) (is_last : last_of rows ≡ Some last) (less : last < n) where
  abbrev new : List Pair
  new = made (going_on rows last n cs) rows

  value_in : (key : List ℕ) → value_of key new ≡ unwrap_or (change_at key (going_on rows last n cs)) (value_of key rows)
  value_in = on_value rows up h n small cs apart free height_is last is_last less

  other_height : (m : ℕ) (key name : List ℕ) → m < n → kept_key m key ≡ kept_key n name → ⊥
  other_height m key name below e =
      let left : kept_height (kept_key m key) ≡ m = height_back m key (omega (arith, below, small)) in
      let right : kept_height (kept_key n name) ≡ n = height_back n name small in
      let same : m ≡ n = sym left ∙ ap kept_height e ∙ right in
      omega (arith, same, below)

  kept_before : (key : List ℕ) (m : ℕ) → m < n → value_of (kept_key m key) new ≡ value_of (kept_key m key) rows
  kept_before key m below =
      value_in (kept_key m key)
      ∙ ap (λ (o : Option (Option (List ℕ))). unwrap_or o (value_of (kept_key m key) rows)) (on_kept rows last n cs free (kept_key m key) refl refl ∙ note_other n rows cs (kept_key m key) (λ name e. other_height m key name below e))

  at_commit : (key : List ℕ) → is_visible key ≡ true → value_before new key 1 n ≡ value_of key rows
  at_commit key shown =
      ap₂ kept_or (
      value_in (kept_key n key)
      ∙ ap₂ unwrap_or (on_noted rows last n cs free key) (none_above rows h last n key is_last less small)
      ) (value_in key ∙ ap (λ (o : Option (Option (List ℕ))). unwrap_or o (value_of key rows)) (on_seen rows last n cs free key shown))
      ∙ go (change_at key cs)
    where
      go : (o : Option (Option (List ℕ))) → kept_or (unwrap_or (noted (value_of key rows) o) None) (unwrap_or o (value_of key rows)) ≡ value_of key rows
      go None = refl
      go (Some value) = was_back (value_of key rows)

  -- a commit that goes on changes no past value below its height
  pub past_stays : (height : ℕ) (key : List ℕ) → is_visible key ≡ true → last_of new ≡ Some n → height < n → past_value new height key ≡ past_value rows height key
  past_stays height key shown new_last below =
      let count = n - height - 1 in
      let more = count - (last - height) in
      let one : n - height ≡ suc count = omega (arith, below) in
      let two : count ≡ last - height + more = omega (arith, below, less) in
      past_is new n height key new_last
      ∙ ap (λ (c : ℕ). value_before new key c (height + 1)) one
      ∙ walk_same rows new key count (height + 1) n (omega (arith, below)) (λ m low high. kept_before key m high) (at_commit key shown)
      ∙ ap (λ (c : ℕ). value_before rows key c (height + 1)) two
      ∙ walk_longer rows key (last - height) more (height + 1) (λ m low high. none_above rows h last m key is_last (omega (arith, low)) (omega (arith, high, below, small)))
      ∙ sym (past_is rows last height key is_last)

-- ---- after commits

pub history_after : (rows : List Pair) → Rises rows → IsHistory rows → (commits : List (List Change)) → AreCommits commits → Rises (after commits rows) × IsHistory (after commits rows)
history_after rows up h [] are = (up, h)
history_after rows up h (c ∷ earlier) are =
    let before = history_after rows up h earlier are.1 in
    let l = (leaves (after earlier rows) before.0 before.1 c (taken c are.0)).1 in
    (l.rises, l.history)

abbrev Chosen : Bool → List Pair → Option (List Pair) → Option (List Pair)
Chosen b now before = if b then Some now else before

abbrev Stands : Option (List Pair) → Option (List ℕ) → Option (List ℕ) → List ℕ → Type 0
Stands o value first key = MatchOption o (value ≡ first) (λ stood. value ≡ value_of key stood)

shift : (o : Option (List Pair)) (x y first : Option (List ℕ)) (key : List ℕ) → x ≡ y → Stands o y first key → Stands o x first key
shift None x y first key e h = e ∙ h
shift (Some stood) x y first key e h = e ∙ h

module _ (rows : List Pair) (up : Rises rows) (h : IsHistory rows) (height : ℕ) (key : List ℕ) (shown : is_visible key ≡ true) where
  pub stands : (commits : List (List Change)) → AreCommits commits → (last : ℕ) → last_of (after commits rows) ≡ Some last → base_of (after commits rows) last ≤ height
      → Stands (last_at height commits rows) (past_value (after commits rows) height key) (past_value rows height key) key
  stands [] are last is_last low = refl
  stands (c ∷ earlier) are last is_last low =
      let t = taken c are.0 in
      let before = history_after rows up h earlier are.1 in
      let l = leaves (after earlier rows) before.0 before.1 c t in
      elim (lower_or_not height t.n) [
        | inr at_end ↦
            subst (λ (o : Option (List Pair)). Stands o (past_value (after (c ∷ earlier) rows) height key) (past_value rows height key) key) (sym (chosen t (false) at_end.1))
            (past_at_end (after (c ∷ earlier) rows) t.n height key l.1.last_is at_end.0)
        | inl below ↦
            subst (λ (o : Option (List Pair)). Stands o (past_value (after (c ∷ earlier) rows) height key) (past_value rows height key) key) (sym (chosen t (true) below.1))
            (by_kind t l.1.last_is before below.0 (kind_of (after earlier rows) (map seen c) t.n t.height) (λ last_before is_before. stands earlier are.1 last_before is_before))
      ]
    where
      chosen : (t : Taken c) (b : Bool) → nat_lt height t.n ≡ b → last_at height (c ∷ earlier) rows ≡ (if b then last_at height earlier rows else Some (after (c ∷ earlier) rows))
      chosen t b e =
          ap (λ (o : Option ℕ). Chosen (is_at_most height o) (after (c ∷ earlier) rows) (last_at height earlier rows)) t.height
          ∙ ap (λ (b : Bool). Chosen (if b then false else true) (after (c ∷ earlier) rows) (last_at height earlier rows)) e
          ∙ go b
        where
          go : (b : Bool) → Chosen (if b then false else true) (after (c ∷ earlier) rows) (last_at height earlier rows) ≡ (if b then last_at height earlier rows else Some (after (c ∷ earlier) rows))
          go true = refl
          go false = refl

      by_kind : (t : Taken c) → last_of (after (c ∷ earlier) rows) ≡ Some t.n → Rises (after earlier rows) × IsHistory (after earlier rows) → height < t.n → Kind (after earlier rows) (map seen c) t.n
          → ((last_before : ℕ) → last_of (after earlier rows) ≡ Some last_before → base_of (after earlier rows) last_before ≤ height
          → Stands (last_at height earlier rows) (past_value (after earlier rows) height key) (past_value rows height key) key)
          → Stands (last_at height earlier rows) (past_value (after (c ∷ earlier) rows) height key) (past_value rows height key) key
      by_kind t now before below (Goes last_before is less same) later =
          let old = after earlier rows in
          let l = on_leaves old before.0 before.1 t.n t.small (map seen c) t.apart t.free t.height last_before is less in
          let based : stored_base (after (c ∷ earlier) rows) ≡ Some (base_of old last_before) = ap stored_base same ∙ l.base_is in
          let lower : base_of old last_before ≤ height = subst (λ (o : Option ℕ). unwrap_or o last ≤ height) based low in
          shift (last_at height earlier rows) _ _ _ key (
          ap (λ (r : List Pair). past_value r height key) same
          ∙ past_stays old before.0 before.1 t.n t.small (map seen c) t.apart t.free t.height last_before is less height key shown l.last_is below
          ) (later last_before is lower)
      by_kind t now before below (Anew same) later =
          let old = after earlier rows in
          let l = new_leaves old before.0 before.1 t.n t.small (map seen c) t.apart t.free t.height in
          let based : stored_base (after (c ∷ earlier) rows) ≡ Some t.n = ap stored_base same ∙ l.base_is in
          let lower : t.n ≤ height = subst (λ (o : Option ℕ). unwrap_or o last ≤ height) based low in
          absurd (omega (arith, lower, below))

-- the rows after the last commit of at most a height are those after some commits
last_rises : (rows : List Pair) → Rises rows → IsHistory rows → (height : ℕ) (commits : List (List Change)) → AreCommits commits → (stood : List Pair) → last_at height commits rows ≡ Some stood → Rises stood
last_rises rows up h height [] are stood is = absurd cc
last_rises rows up h height (c ∷ earlier) are stood is = go (is_at_most height (height_of (map seen c))) is (last_rises rows up h height earlier are.1 stood)
  where
    go : (b : Bool) → Chosen b (after (c ∷ earlier) rows) (last_at height earlier rows) ≡ Some stood → (last_at height earlier rows ≡ Some stood → Rises stood) → Rises stood
    go true e later = let same : after (c ∷ earlier) rows ≡ stood = cc in subst (λ (r : List Pair). Rises r) same (history_after rows up h (c ∷ earlier) are).0
    go false e later = later e

-- no key that is hidden has a past value
hidden_past : (past : List Pair) (key : List ℕ) → AllByRecursion (λ p. is_visible p.0 ≡ true) past → is_visible key ≡ false → value_of key past ≡ None
hidden_past past key all hidden = go (value_of key past) refl
  where
    go : (o : Option (List ℕ)) → value_of key past ≡ o → o ≡ None
    go None e = refl
    go (Some value) e = absurd (let shown = all_at_value (λ p. is_visible p.0 ≡ true) past key value all e in cc)

pub what_stood : PastIsWhatStood
what_stood rows up h commits are last is_last height low high past p = go (last_at height commits rows) refl
  where
    now : (key : List ℕ) → is_visible key ≡ true → Stands (last_at height commits rows) (past_value (after commits rows) height key) (past_value rows height key) key
    now key shown = stands rows up h height key shown commits are last is_last low

    at : (o : Option (List Pair)) → last_at height commits rows ≡ o → (key : List ℕ) → is_visible key ≡ true → Stands o (past_value (after commits rows) height key) (past_value rows height key) key
    at o e key shown = subst (λ (o : Option (List Pair)). Stands o (past_value (after commits rows) height key) (past_value rows height key) key) e (now key shown)

    go : (o : Option (List Pair)) → last_at height commits rows ≡ o → MatchOption o (ArePast rows height past) (λ stood. past ≡ visible stood)
    go None e = record { rises = p.rises; are_visible = p.are_visible; values = λ key shown. p.values key shown ∙ at None e key shown }
    go (Some stood) e =
        let rises = last_rises rows up h height commits are stood e in
        same_values past (visible stood) p.rises (filter_rises is_visible stood rises) (λ key. elim (cases_Bool (is_visible key)) [
          | inl shown ↦ p.values key shown ∙ at (Some stood) e key shown ∙ sym (at_filter is_visible key stood rises shown)
          | inr hidden ↦ hidden_past past key p.are_visible hidden ∙ sym (off_filter is_visible key stood hidden)
        ])

pub is_one : PastIsOne
is_one rows height past other p q = same_values past other p.rises q.rises (λ key. elim (cases_Bool (is_visible key)) [
  | inl shown ↦ p.values key shown ∙ sym (q.values key shown)
  | inr hidden ↦ hidden_past past key p.are_visible hidden ∙ sym (hidden_past other key q.are_visible hidden)
])
