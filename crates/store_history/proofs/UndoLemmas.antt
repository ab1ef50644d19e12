-- Going back over the rows of a history gives the past rows.
use Rattle.std.proofs.Common.{◌≡◌, ◌∙◌, ◌⊎◌, inl, inr, ℕ, zero, suc, ◌+◌, ◌-◌, ◌^◌, ◌<◌, ◌≤◌, Bool, true, false, List, [], ◌∷◌, Option, Some, None, Less, Equal, refl, sym, ap, ap₂, subst, arith, ◌&&◌, nat_lt, if◌then◌else◌, unwrap_or, ltb-true}
use Rattle.std.{specs.List.AllByRecursion, proofs.lemmas.Bool.cases_Bool}
use Rattle.base_io.specs.{Rows.{Pair, key_cmp}, Changes.{Rises, value_of}}
use Rattle.store_history.specs.History.{ArePast, IsFormed, IsHistory, is_visible, kept_height, kept_key, kept_name, kept_or, last_of, stored_base, value_before, visible, was}
use Rattle.store_history.specs.{Commits.{is_kept, made_by}, Held.{IsWhole, restored, undone}}
use Rattle.store_history.proofs.MapLemmas.{above_all, all_from_values, all_weaker, at_filter, filter_rises, none_below, off_filter, passed, same_or_other, tied, value_first}
use Rattle.store_history.proofs.KeyLemmas.{height_back, heights_cmp, kept_begins, name_back}
use Rattle.store_history.proofs.{ChangeLemmas.{made_by_at, made_by_off, made_by_rises}, FormLemmas.last_small}

-- a formed row that keeps something is whole
pub formed_whole : (base last : Option ℕ) (rows : List Pair) → AllByRecursion (IsFormed base last) rows → AllByRecursion IsWhole rows
formed_whole base last rows all = all_weaker (IsFormed base last) IsWhole rows (λ p formed kept. let k = formed.kept (kept_begins p.0 kept) in (k.key, k.value)) all

-- ---- one row

-- the row keeps something of a height above
abbrev goes_back : ℕ → Pair → Bool
goes_back height p = is_kept p.0 && nat_lt height (kept_height p.0)

abbrev Restored : Bool → Pair → List Pair → List Pair
Restored b p ps = if b then made_by (kept_name p.0) (was p.1) ps else ps

restored_rises : (height : ℕ) (p : Pair) (ps : List Pair) → Rises ps → Rises (restored height p ps)
restored_rises height p ps up = go (goes_back height p)
  where
    go : (b : Bool) → Rises (Restored b p ps)
    go true = made_by_rises (kept_name p.0) (was p.1) ps up
    go false = up

pub undone_rises : (height : ℕ) (rows ps : List Pair) → Rises ps → Rises (undone height rows ps)
undone_rises height [] ps up = up
undone_rises height (p ∷ rows) ps up = restored_rises height p (undone height rows ps) (undone_rises height rows ps up)

-- ---- the first row of a key above a height decides

-- the value of a key by what these rows keep of it, and else this one
abbrev kept_within : List Pair → List ℕ → Option (List ℕ) → ℕ → ℕ → Option (List ℕ)
kept_within rows key other zero start = other
kept_within rows key other (suc more) start = kept_or (value_of (kept_key start key) rows) (kept_within rows key other more (start + 1))

within_is : (rows : List Pair) (key : List ℕ) (count start : ℕ) → kept_within rows key (value_of key rows) count start ≡ value_before rows key count start
within_is rows key zero start = refl
within_is rows key (suc more) start = ap (kept_or (value_of (kept_key start key) rows)) (within_is rows key more (start + 1))

within_none : (key : List ℕ) (other : Option (List ℕ)) (count start : ℕ) → kept_within [] key other count start ≡ other
within_none key other zero start = refl
within_none key other (suc more) start = within_none key other more (start + 1)

-- a row that keeps nothing of the key at these heights is passed over
within_passed : (p : Pair) (rows : List Pair) (key : List ℕ) (other : Option (List ℕ)) (count start : ℕ) → Rises (p ∷ rows) → ((m : ℕ) → start ≤ m → m < start + count → p.0 ≡ kept_key m key → ⊥)
    → kept_within (p ∷ rows) key other count start ≡ kept_within rows key other count start
within_passed p rows key other zero start up apart = refl
within_passed p rows key other (suc more) start up apart =
    ap₂ kept_or (passed p rows (kept_key start key) up (λ e. apart start (omega arith) (omega arith) (tied p.0 (kept_key start key) e)))
    (within_passed p rows key other more (start + 1) up (λ m low high. apart m (omega (arith, low)) (omega (arith, high))))

-- the first row, where it keeps something of the key at one of these heights
within_first : (p : Pair) (rows : List Pair) (key : List ℕ) (other : Option (List ℕ)) (count start n : ℕ) → Rises (p ∷ rows) → p.0 ≡ kept_key n key → start ≤ n → n < start + count → n < 2 ^ 64
    → kept_within (p ∷ rows) key other count start ≡ was p.1
within_first p rows key other zero start n up is low high small = absurd (omega (arith, low, high))
within_first p rows key other (suc more) start n up is low high small = elim (at_or_below start n low) [
  | inl here ↦
      let found : value_of (kept_key start key) (p ∷ rows) ≡ Some p.1 = subst (λ (k : List ℕ). value_of k (p ∷ rows) ≡ Some p.1) (is ∙ ap (λ (m : ℕ). kept_key m key) (sym here)) (value_first p rows) in
      ap (λ (o : Option (List ℕ)). kept_or o (kept_within (p ∷ rows) key other more (start + 1))) found
  | inr below ↦
      let less : key_cmp (kept_key start key) p.0 ≡ Less = ap (key_cmp (kept_key start key)) is ∙ heights_cmp start n key key below small in
      let none : value_of (kept_key start key) (p ∷ rows) ≡ None = none_below (kept_key start key) (p ∷ rows) (above_all (kept_key start key) p rows less up) in
      ap (λ (o : Option (List ℕ)). kept_or o (kept_within (p ∷ rows) key other more (start + 1))) none
      ∙ within_first p rows key other more (start + 1) n up is (omega (arith, below)) (omega (arith, high)) small
]
  where
    at_or_below : (a b : ℕ) → a ≤ b → (a ≡ b) ⊎ (a < b)
    at_or_below a b le = elim (cases_Bool (nat_lt a b)) [ inl is ↦ inr (ltb-true a b is) | inr other ↦ inl (search (arith, Rattle.std.proofs.Common.rules)) ]

-- ---- all rows

module _ (height last : ℕ) (small : last < 2 ^ 64) (base : Option ℕ) where
  module _ (key : List ℕ) where
    pub undone_value : (rows ps : List Pair) → Rises rows → AllByRecursion (IsFormed base (Some last)) rows → Rises ps
        → value_of key (undone height rows ps) ≡ kept_within rows key (value_of key ps) (last - height) (height + 1)
    undone_value [] ps up formed rises = sym (within_none key (value_of key ps) (last - height) (height + 1))
    undone_value (p ∷ rows) ps up formed rises = go (cases_Bool (is_kept p.0)) (cases_Bool (nat_lt height (kept_height p.0))) (undone_value rows ps up.1 formed.1 rises)
      where
        passes : ((m : ℕ) → height + 1 ≤ m → m < height + 1 + (last - height) → p.0 ≡ kept_key m key → ⊥) → kept_within (p ∷ rows) key (value_of key ps) (last - height) (height + 1) ≡ kept_within rows key (value_of key ps) (last - height) (height + 1)
        passes apart = within_passed p rows key (value_of key ps) (last - height) (height + 1) up apart

        step : (b : Bool) → goes_back height p ≡ b → value_of key (undone height (p ∷ rows) ps) ≡ value_of key (Restored b p (undone height rows ps))
        step b is = ap (λ (b : Bool). value_of key (Restored b p (undone height rows ps))) is

        go : (is_kept p.0 ≡ true) ⊎ (is_kept p.0 ≡ false) → (nat_lt height (kept_height p.0) ≡ true) ⊎ (nat_lt height (kept_height p.0) ≡ false)
            → value_of key (undone height rows ps) ≡ kept_within rows key (value_of key ps) (last - height) (height + 1)
            → value_of key (undone height (p ∷ rows) ps) ≡ kept_within (p ∷ rows) key (value_of key ps) (last - height) (height + 1)
        go (inr unkept) late later =
            step false (ap (λ (b : Bool). b && nat_lt height (kept_height p.0)) unkept) ∙ later
            ∙ sym (passes (λ m low high e. let same = ap is_kept e in cc))
        go (inl kept) (inr early) later =
            step false (ap₂ (λ (a b : Bool). a && b) kept early) ∙ later
            ∙ sym (passes (λ m low high e.
            let at : kept_height p.0 ≡ m = ap kept_height e ∙ height_back m key (omega (arith, low, high, small)) in
            let less : height < m = omega (arith, low) in
            let test : nat_lt height m ≡ true = search Rattle.std.proofs.Common.rules in
            let late : nat_lt height (kept_height p.0) ≡ true = ap (nat_lt height) at ∙ test in
            cc))
        go (inl kept) (inl late) later =
            let k = formed.0.kept (kept_begins p.0 kept) in
            let above : height < kept_height p.0 = ltb-true height (kept_height p.0) late in
            let within : kept_height p.0 ≤ last = k.within in
            let n_small : kept_height p.0 < 2 ^ 64 = omega (arith, within, small) in
            step true (ap₂ (λ (a b : Bool). a && b) kept late)
            ∙ elim (same_or_other (kept_name p.0) key) [
              | inl same ↦
                  subst (λ (k : List ℕ). value_of k (made_by (kept_name p.0) (was p.1) (undone height rows ps)) ≡ was p.1) same (made_by_at (kept_name p.0) (was p.1) (undone height rows ps))
                  ∙ sym (within_first p rows key (value_of key ps) (last - height) (height + 1) (kept_height p.0) up (k.key ∙ ap (kept_key (kept_height p.0)) same) (omega (arith, above)) (omega (arith, above, within)) n_small)
              | inr apart ↦
                  made_by_off (kept_name p.0) (was p.1) (undone height rows ps) key (undone_rises height rows ps rises) apart
                  ∙ later
                  ∙ sym (passes (λ m low high e. apart (ap kept_name e ∙ name_back m key)))
            ]

    -- a key that is hidden keeps its value
    pub undone_hidden : (rows ps : List Pair) → AllByRecursion (IsFormed base (Some last)) rows → Rises ps → is_visible key ≡ false → value_of key (undone height rows ps) ≡ value_of key ps
    undone_hidden [] ps formed rises hidden = refl
    undone_hidden (p ∷ rows) ps formed rises hidden = go (goes_back height p) refl (undone_hidden rows ps formed.1 rises hidden)
      where
        name_shown : goes_back height p ≡ true → is_visible (kept_name p.0) ≡ true
        name_shown is = named (cases_Bool (is_kept p.0))
          where
            named : (is_kept p.0 ≡ true) ⊎ (is_kept p.0 ≡ false) → is_visible (kept_name p.0) ≡ true
            named (inl kept) = (formed.0.kept (kept_begins p.0 kept)).name
            named (inr unkept) = absurd (let e : false ≡ true = sym (ap (λ (b : Bool). b && nat_lt height (kept_height p.0)) unkept) ∙ is in cc)

        go : (b : Bool) → goes_back height p ≡ b → value_of key (undone height rows ps) ≡ value_of key ps → value_of key (Restored b p (undone height rows ps)) ≡ value_of key ps
        go true is later = made_by_off (kept_name p.0) (was p.1) (undone height rows ps) key (undone_rises height rows ps rises) (λ e. let shown = name_shown is in let same = ap is_visible e in cc) ∙ later
        go false is later = later

-- going back from the visible rows gives the past rows
pub are_past : (rows : List Pair) → Rises rows → IsHistory rows → (last : ℕ) → last_of rows ≡ Some last → (height : ℕ) → ArePast rows height (undone height rows (visible rows))
are_past rows up h last is_last height = record {
  rises = rises;
  are_visible = all_from_values (λ p. is_visible p.0 ≡ true) past rises (λ key value is. elim (cases_Bool (is_visible key)) [
    | inl shown ↦ shown
    | inr hidden ↦
        let none : value_of key past ≡ None = undone_hidden height last small (stored_base rows) key rows (visible rows) formed shown_rise hidden ∙ off_filter is_visible key rows hidden in
        absurd cc
  ]);
  values = λ key shown.
      undone_value height last small (stored_base rows) key rows (visible rows) up formed shown_rise
      ∙ ap (λ (o : Option (List ℕ)). kept_within rows key o (last - height) (height + 1)) (at_filter is_visible key rows up shown)
      ∙ within_is rows key (last - height) (height + 1)
      ∙ sym (ap (λ (o : Option ℕ). value_before rows key (unwrap_or o 0 - height) (height + 1)) is_last);
}
  where
    past : List Pair
    past = undone height rows (visible rows)

    small : last < 2 ^ 64
    small = last_small rows h last is_last

    shown_rise : Rises (visible rows)
    shown_rise = filter_rises is_visible rows up

    rises : Rises past
    rises = undone_rises height rows (visible rows) shown_rise

    formed : AllByRecursion (IsFormed (stored_base rows) (Some last)) rows
    formed = subst (λ (l : Option ℕ). AllByRecursion (IsFormed (stored_base rows) l) rows) is_last h.formed
