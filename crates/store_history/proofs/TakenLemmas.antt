-- Commits that every keeper takes, and what each leaves.
use Rattle.std.proofs.Common.{◌≡◌, ◌∙◌, ◌⊎◌, inl, inr, ℕ, ◌^◌, ◌<◌, ◌≤◌, Bool, true, false, List, [], ◌∷◌, map, Option, Some, None, refl, sym, ap, subst, arith, nat_lt, if◌then◌else◌, unwrap_or, IsSomeAnd, ltb-true}
use Rattle.std.{specs.List.AllByRecursion, proofs.lemmas.Bool.cases_Bool}
use Rattle.base_io.specs.{declared.keeper.Change.Change, Rows.{HasDistinctKeys, Pair}}
use Rattle.base_io.specs.Changes.{IsReserved, Rises, changed, value_of}
use Rattle.base_io.specs.declared.keeper.Change.TheVariants as change
use Rattle.base_io.specs.Rows as rows
use Rattle.store_history.specs.History.{IsHistory, base_of, is_visible, last_of, visible}
use Rattle.store_history.specs.Commits.{CommitsKeepHistory, IsCommit, Seen, anew, change_at, changes_at, changes_from, committed, going_on, height_of, made, seen}
use Rattle.store_history.proofs.{MapLemmas.{at_filter, filter_rises, off_filter, same_values}, KeyLemmas.free_is_seen}
use Rattle.store_history.proofs.ChangeLemmas.{AreDistinct, AreVisible, hidden_unchanged, made_rises, value_made}
use Rattle.store_history.proofs.{FormLemmas.Leaves, LeftLemmas.{new_leaves, on_leaves}}

pub seen_key : (c : Change) → (seen c).0 ≡ rows.key_of c
seen_key (change.Put row) = refl
seen_key (change.Remove key) = refl

pub changed_seen : (list : List Change) (rows : List Pair) → changed list rows ≡ made (map seen list) rows
changed_seen [] rows = refl
changed_seen (change.Put row ∷ list) rows = changed_seen list _
changed_seen (change.Remove key ∷ list) rows = changed_seen list _

apart_seen : (c : Change) (list : List Change) → AllByRecursion (λ d. rows.key_of c ≡ rows.key_of d → ⊥) list → AllByRecursion (λ d. (seen c).0 ≡ d.0 → ⊥) (map seen list)
apart_seen c [] h = tt
apart_seen c (d ∷ list) h = (λ e. h.0 (sym (seen_key c) ∙ e ∙ seen_key d), apart_seen c list h.1)

pub distinct_seen : (list : List Change) → HasDistinctKeys list → AreDistinct (map seen list)
distinct_seen [] h = tt
distinct_seen (c ∷ list) h = (apart_seen c list h.0, distinct_seen list h.1)

seen_apart : (c : Change) (list : List Change) → AllByRecursion (λ d. (seen c).0 ≡ d.0 → ⊥) (map seen list) → AllByRecursion (λ d. rows.key_of c ≡ rows.key_of d → ⊥) list
seen_apart c [] h = tt
seen_apart c (d ∷ list) h = (λ e. h.0 (seen_key c ∙ e ∙ sym (seen_key d)), seen_apart c list h.1)

pub seen_distinct : (list : List Change) → AreDistinct (map seen list) → HasDistinctKeys list
seen_distinct [] h = tt
seen_distinct (c ∷ list) h = (seen_apart c list h.0, seen_distinct list h.1)

pub free_seen : (list : List Change) → AllByRecursion (λ c. IsReserved (rows.key_of c) → ⊥) list → AreVisible (map seen list)
free_seen [] h = tt
free_seen (c ∷ list) h = (ap is_visible (seen_key c) ∙ free_is_seen (rows.key_of c) h.0, free_seen list h.1)

-- ---- the changes of a commit, by the last height

module _ (rows : List Pair) (cs : List Seen) (n : ℕ) (height : height_of cs ≡ Some n) where
  with_height : committed cs rows ≡ made (changes_from rows (last_of rows) n cs) rows
  with_height = ap (λ (o : Option ℕ). made (changes_at rows cs o) rows) height

  pub goes_on : (last : ℕ) → last_of rows ≡ Some last → last < n → committed cs rows ≡ made (going_on rows last n cs) rows
  goes_on last is less =
      let test : nat_lt last n ≡ true = search Rattle.std.proofs.Common.rules in
      with_height ∙ ap (λ (o : Option ℕ). made (changes_from rows o n cs) rows) is
      ∙ ap (λ (b : Bool). made (if b then going_on rows last n cs else anew rows n cs) rows) test

  pub begins_first : last_of rows ≡ None → committed cs rows ≡ made (anew rows n cs) rows
  begins_first is = with_height ∙ ap (λ (o : Option ℕ). made (changes_from rows o n cs) rows) is

  pub begins_anew : (last : ℕ) → last_of rows ≡ Some last → n ≤ last → committed cs rows ≡ made (anew rows n cs) rows
  begins_anew last is le =
      let test : nat_lt last n ≡ false = search (arith, Rattle.std.proofs.Common.rules) in
      with_height ∙ ap (λ (o : Option ℕ). made (changes_from rows o n cs) rows) is
      ∙ ap (λ (b : Bool). made (if b then going_on rows last n cs else anew rows n cs) rows) test

-- a commit goes on, or begins anew
pub data Kind (rows : List Pair) (cs : List Seen) (n : ℕ) : Type 0 where
  Goes : (last : ℕ) → last_of rows ≡ Some last → last < n → committed cs rows ≡ made (going_on rows last n cs) rows → Kind rows cs n
  Anew : committed cs rows ≡ made (anew rows n cs) rows → Kind rows cs n

pub lower_or_not : (a b : ℕ) → ((a < b) × (nat_lt a b ≡ true)) ⊎ ((b ≤ a) × (nat_lt a b ≡ false))
lower_or_not a b = elim (cases_Bool (nat_lt a b)) [ inl is ↦ inl (ltb-true a b is, is) | inr other ↦ inr (search (arith, Rattle.std.proofs.Common.rules), other) ]

pub kind_of : (rows : List Pair) (cs : List Seen) (n : ℕ) → height_of cs ≡ Some n → Kind rows cs n
kind_of rows cs n height = go (last_of rows) refl
  where
    go : (o : Option ℕ) → last_of rows ≡ o → Kind rows cs n
    go None is = Anew (begins_first rows cs n height is)
    go (Some last) is = elim (lower_or_not last n) [
      | inl less ↦ Goes last is less.0 (goes_on rows cs n height last is less.0)
      | inr le ↦ Anew (begins_anew rows cs n height last is le.0)
    ]

-- ---- what it leaves

-- a commit, as its height and its changes
pub record Taken (c : List Change) : Type 0 where
  pub n : ℕ
  pub height : height_of (map seen c) ≡ Some n
  pub small : n < 2 ^ 64
  pub apart : AreDistinct (map seen c)
  pub free : AreVisible (map seen c)

pub taken : (c : List Change) → IsCommit c → Taken c
taken c it = go (height_of (map seen c)) refl it.1
  where
    go : (o : Option ℕ) → height_of (map seen c) ≡ o → IsSomeAnd o (λ n. n < 2 ^ 64) → Taken c
    go None e h = absurd h
    go (Some n) e h = record { n = n; height = e; small = h; apart = distinct_seen c it.0.distinct; free = free_seen c it.0.free }

module _ (rows : List Pair) (up : Rises rows) (h : IsHistory rows) (c : List Change) (t : Taken c) where
  -- of some base
  pub leaves : (base : ℕ) × Leaves (map seen c) t.n base rows (committed (map seen c) rows)
  leaves = go (kind_of rows (map seen c) t.n t.height)
    where
      go : Kind rows (map seen c) t.n → (base : ℕ) × Leaves (map seen c) t.n base rows (committed (map seen c) rows)
      go (Goes last is less same) = (base_of rows last, subst (λ (new : List Pair). Leaves (map seen c) t.n (base_of rows last) rows new) (sym same) (on_leaves rows up h t.n t.small (map seen c) t.apart t.free t.height last is less))
      go (Anew same) = (t.n, subst (λ (new : List Pair). Leaves (map seen c) t.n t.n rows new) (sym same) (new_leaves rows up h t.n t.small (map seen c) t.apart t.free t.height))

  pub seen_changed : visible (committed (map seen c) rows) ≡ changed c (visible rows)
  seen_changed =
      same_values (visible (committed (map seen c) rows)) (made (map seen c) (visible rows)) (filter_rises is_visible (committed (map seen c) rows) leaves.1.rises)
      (made_rises (map seen c) (visible rows) (filter_rises is_visible rows up)) at_key ∙ sym (changed_seen c (visible rows))
    where
      at_key : (key : List ℕ) → value_of key (visible (committed (map seen c) rows)) ≡ value_of key (made (map seen c) (visible rows))
      at_key key = elim (cases_Bool (is_visible key)) [
        | inl shown ↦
            at_filter is_visible key (committed (map seen c) rows) leaves.1.rises shown ∙ leaves.1.seen key shown
            ∙ ap (unwrap_or (change_at key (map seen c))) (sym (at_filter is_visible key rows up shown))
            ∙ sym (value_made (map seen c) (visible rows) key (filter_rises is_visible rows up) t.apart)
        | inr hidden ↦
            off_filter is_visible key (committed (map seen c) rows) hidden
            ∙ sym (value_made (map seen c) (visible rows) key (filter_rises is_visible rows up) t.apart
            ∙ ap (λ (o : Option (Option (List ℕ))). unwrap_or o (value_of key (visible rows))) (hidden_unchanged key (map seen c) t.free hidden)
            ∙ off_filter is_visible key rows hidden)
      ]

pub keeps_history : CommitsKeepHistory
keeps_history rows up h c it =
    let t = taken c it in
    let l = (leaves rows up h c t).1 in
    (l.rises, l.history, l.last_is ∙ sym t.height, seen_changed rows up h c t)
