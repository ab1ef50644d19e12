-- What a list of changes makes of rows, and what it keeps.
use Rattle.std.proofs.Common.{◌≡◌, ◌∙◌, ◌⊎◌, inl, inr, ℕ, List, [], ◌∷◌, refl, sym, ap, subst, Equal}
use Rattle.std.proofs.lemmas.Cmp.{tied_itself}
use Rattle.sqlite_rules.{specs.Lists.Has, proofs.ListLemmas.all_has}
use Rattle.base_io.specs.{declared.keeper.{Change.Change, Row.Row}, Rows.{HasDistinctKeys, Pair, key_cmp, key_of}}
use Rattle.base_io.{specs.Changes.{Rises, changed, changed_by, pair_of}, proofs.RowLemmas.remove_rises}
use Rattle.base_io.specs.declared.keeper.Change.TheVariants as change
use Rattle.store_sqlite.proofs.Maps.{has_put, has_removed, put_keeps, put_only, put_rises, removed_has, total}
use Rattle.store_items.proofs.Members.{tied}

-- no change is of this key
abbrev pub IsFree : List Change → List ℕ → Type 0
IsFree list key = (c : Change) → Has list c → key_of c ≡ key → ⊥

tie : (a b : List ℕ) → a ≡ b → key_cmp a b ≡ Equal
tie a b same = ap (key_cmp a) (sym same) ∙ tied_itself total a

made_rises : (c : Change) (rows : List Pair) → Rises rows → Rises (changed_by c rows)
made_rises (change.Put row) rows up = put_rises (pair_of row) rows up
made_rises (change.Remove key) rows up = remove_rises key.items rows up

pub all_rise : (list : List Change) (rows : List Pair) → Rises rows → Rises (changed list rows)
all_rise [] rows up = up
all_rise (c ∷ cs) rows up = all_rise cs (changed_by c rows) (made_rises c rows up)

made_keeps : (c : Change) (rows : List Pair) (p : Pair) → Has rows p → (key_of c ≡ p.0 → ⊥) → Has (changed_by c rows) p
made_keeps (change.Put row) rows p h free = put_keeps (pair_of row) rows p h (λ e. free (sym (tied p.0 row.key.items e)))
made_keeps (change.Remove key) rows p h free = has_removed key.items rows p h (λ e. free (sym (tied p.0 key.items e)))

made_only : (c : Change) (rows : List Pair) (p : Pair) → Rises rows → Has (changed_by c rows) p → ((r : Row) × (change.Put r ≡ c) × (pair_of r ≡ p)) ⊎ (Has rows p × (key_of c ≡ p.0 → ⊥))
made_only (change.Put row) rows p up h = elim (put_only (pair_of row) rows p up h) [
  | inl same ↦ inl (row, refl, sym same)
  | inr it ↦ inr (it.0, λ e. it.1 (tie p.0 row.key.items (sym e)))
]
made_only (change.Remove key) rows p up h = let (there, other) = removed_has key.items rows p h in inr (there, λ e. other (tie p.0 key.items (sym e)))

pub kept_through : (list : List Change) (rows : List Pair) (p : Pair) → Has rows p → IsFree list p.0 → Has (changed list rows) p
kept_through [] rows p h free = h
kept_through (c ∷ cs) rows p h free = kept_through cs (changed_by c rows) p (made_keeps c rows p h (free c (inl refl))) (λ d t. free d (inr t))

pub put_through : (list : List Change) (rows : List Pair) (r : Row) → HasDistinctKeys list → Has list (change.Put r) → Has (changed list rows) (pair_of r)
put_through [] rows r apart h = absurd h
put_through (c ∷ cs) rows r apart (inl same) =
    kept_through cs (changed_by c rows) (pair_of r) (subst (λ (d : Change). Has (changed_by d rows) (pair_of r)) same (has_put (pair_of r) rows))
    (λ d t e. all_has (λ (d : Change). key_of c ≡ key_of d → ⊥) cs d apart.0 t (ap key_of (sym same) ∙ sym e))
put_through (c ∷ cs) rows r apart (inr later) = put_through cs (changed_by c rows) r apart.1 later

pub through_only : (list : List Change) (rows : List Pair) (p : Pair) → Rises rows → Has (changed list rows) p → ((r : Row) × Has list (change.Put r) × (pair_of r ≡ p)) ⊎ (Has rows p × IsFree list p.0)
through_only [] rows p up h = inr (h, λ c t e. t)
through_only (c ∷ cs) rows p up h = elim (through_only cs (changed_by c rows) p (made_rises c rows up) h) [
  | inl it ↦ inl (it.0, inr it.1, it.2)
  | inr it ↦
      elim (made_only c rows p up it.0) [
        | inl made ↦ inl (made.0, inl made.1, made.2)
        | inr kept ↦ inr (kept.0, λ d t e. elim t [ inl same ↦ kept.1 (ap key_of (sym same) ∙ e) | inr later ↦ it.1 d later e ])
      ]
]
