-- A walk over entries in the order of their keys, from a key on.
use Rattle.std.proofs.Common.{◌≡◌, ◌&&◌, not, Bool, true, false, cond, List, [], ◌∷◌, filter, unwrap_or, refl, Ordering, Less, Equal, Greater, is_gt, is_le, is_lt, sym, ◌∙◌, ap, subst}
use Rattle.std.specs.declared.ops.Bound.TheVariants.{Included, Excluded, Unbounded}
use Rattle.std.specs.{BTreeMap.Range.{entries_between, range_contains}, Cmp.{IsTotalOrder, tied_itself, alike_right}}
use Rattle.std.specs.{List.{AllByRecursion, Sorted.IsStrictlySortedBy}, Map.keys_of, Ordering.ordering_reverse}
use Rattle.std.proofs.lemmas.Map.Keys.{sorted_head, sorted_tail}
use Rattle.base_table.specs.Tabled.{first_of}

module _ {K X : Type 0} (cmp : K → K → Ordering) where
  -- what passes is followed by entries that pass
  abbrev pub IsUpward : (K × X → Bool) → Type 0
  IsUpward p = (x y : K × X) → p x ≡ true → cmp x.0 y.0 ≡ Less → p y ≡ true

  -- those above a key
  abbrev pub is_after : K → K × X → Bool
  is_after k e = range_contains cmp (Excluded k) Unbounded e.0

less_passes : (r : Ordering) → r ≡ Less → (is_lt r && not false) ≡ true
less_passes Less h = refl
less_passes Equal h = cc
less_passes Greater h = cc

passes_less : (r : Ordering) → (is_lt r && not false) ≡ true → r ≡ Less
passes_less Less h = refl
passes_less Equal h = cc
passes_less Greater h = cc

equal_stops : (r : Ordering) → r ≡ Equal → (is_lt r && not false) ≡ false
equal_stops Less h = cc
equal_stops Equal h = refl
equal_stops Greater h = cc

greater_stops : (r : Ordering) → r ≡ Greater → (is_lt r && not false) ≡ false
greater_stops Less h = cc
greater_stops Equal h = cc
greater_stops Greater h = refl

module _ {K : Type 0} (cmp : K → K → Ordering) (o : IsTotalOrder cmp) where
  -- no greater than one that is no greater
  pub not_above-trans : (a b c : K) → is_gt (cmp a b) ≡ false → is_gt (cmp b c) ≡ false → is_gt (cmp a c) ≡ false
  not_above-trans a b c p q = by (cmp a b) refl (cmp b c) refl
    where
      by : (r : Ordering) → cmp a b ≡ r → (t : Ordering) → cmp b c ≡ t → is_gt (cmp a c) ≡ false
      by Less e Less f = ap is_gt (o.trans a b c e f)
      by Less e Equal f = ap is_gt (sym (alike_right o b c a f) ∙ e)
      by Less e Greater f = let no : true ≡ false = sym (ap is_gt f) ∙ q in cc
      by Equal e t f = ap is_gt (o.congr a b c e) ∙ q
      by Greater e t f = let no : true ≡ false = sym (ap is_gt e) ∙ p in cc

module _ {K X : Type 0} (cmp : K → K → Ordering) (o : IsTotalOrder cmp) where
  pub after-upward : (k : K) → IsUpward {X = X} cmp (is_after cmp k)
  after-upward k x y p less = less_passes (cmp k y.0) (o.trans k x.0 y.0 (passes_less (cmp k x.0) p) less)

  -- where all come after an entry that passes, all pass
  all_pass : (p : K × X → Bool) → IsUpward cmp p → (x : K × X) → p x ≡ true → (es : List (K × X)) → AllByRecursion (λ y. cmp x.0 y ≡ Less) (keys_of es) → filter p es ≡ es
  all_pass p up x t [] above = refl
  all_pass p up x t (y ∷ ys) above = ap (λ b. cond b (y ∷ filter p ys) (filter p ys)) (up x y t above.0) ∙ ap (λ l. y ∷ l) (all_pass p up x t ys above.1)

  all_after : (k : K) (es : List (K × X)) → AllByRecursion (λ y. cmp k y ≡ Less) (keys_of es) → filter (is_after cmp k) es ≡ es
  all_after k [] above = refl
  all_after k (y ∷ ys) above = ap (λ b. cond b (y ∷ filter (is_after cmp k) ys) (filter (is_after cmp k) ys)) (less_passes (cmp k y.0) above.0) ∙ ap (λ l. y ∷ l) (all_after k ys above.1)

  first_above : (k : K) (p : K × X → Bool) (es : List (K × X)) → AllByRecursion (λ y. cmp k y ≡ Less) (keys_of es) → (e : K × X) (rest : List (K × X)) → filter p es ≡ e ∷ rest → cmp k e.0 ≡ Less
  first_above k p [] above e rest h = cc
  first_above k p (y ∷ ys) above e rest h = by (p y) h (λ t. first_above k p ys above.1 e rest t)
    where
      by : (b : Bool) → cond b (y ∷ filter p ys) (filter p ys) ≡ e ∷ rest → (filter p ys ≡ e ∷ rest → cmp k e.0 ≡ Less) → cmp k e.0 ≡ Less
      by true t later = let same : y ≡ e = ap (λ l. unwrap_or (first_of l) e) t in subst (λ d. cmp k d.0 ≡ Less) same above.0
      by false t later = later t

  tail_of : List (K × X) → List (K × X)
  tail_of [] = []
  tail_of (x ∷ xs) = xs

  -- what comes after the first entry of a walk is the rest of the walk
  pub walk-next : (p : K × X → Bool) → IsUpward cmp p → (es : List (K × X)) → IsStrictlySortedBy cmp (keys_of es) → (e : K × X) (rest : List (K × X)) → filter p es ≡ e ∷ rest
      → entries_between cmp (Excluded e.0) Unbounded es ≡ rest
  unfolding tail_of
  walk-next p up [] s e rest h = cc
  walk-next p up (x ∷ xs) s e rest h = by (p x) refl h (λ t. walk-next p up xs (sorted_tail cmp x.0 (keys_of xs) s) e rest t)
    where
      by : (b : Bool) → p x ≡ b → cond b (x ∷ filter p xs) (filter p xs) ≡ e ∷ rest → (filter p xs ≡ e ∷ rest → filter (is_after cmp e.0) xs ≡ rest) → filter (is_after cmp e.0) (x ∷ xs) ≡ rest
      by true t h later =
          let same : x ≡ e = ap (λ l. unwrap_or (first_of l) e) h in
          let above = sorted_head cmp x.0 (keys_of xs) s in
          let left : filter p xs ≡ rest = ap tail_of h in
          subst (λ d. filter (is_after cmp d.0) (x ∷ xs) ≡ rest) same
          (ap (λ b. cond b (x ∷ filter (is_after cmp x.0) xs) (filter (is_after cmp x.0) xs)) (equal_stops (cmp x.0 x.0) (tied_itself o x.0))
          ∙ all_after x.0 xs above ∙ sym (all_pass p up x t xs above) ∙ left)
      by false t h later =
          let less : cmp x.0 e.0 ≡ Less = first_above x.0 p xs (sorted_head cmp x.0 (keys_of xs) s) e rest h in
          let back : cmp e.0 x.0 ≡ Greater = o.antisymm e.0 x.0 ∙ ap ordering_reverse less in
          ap (λ b. cond b (x ∷ filter (is_after cmp e.0) xs) (filter (is_after cmp e.0) xs)) (greater_stops (cmp e.0 x.0) back) ∙ later h

  pub included-upward : (k : K) → IsUpward {X = X} cmp (λ e. range_contains cmp (Included k) Unbounded e.0)
  included-upward k x y p less = passes (cmp k y.0) (not_above-trans cmp o k x.0 y.0 (low (cmp k x.0) p) (ap is_gt less))
    where
      low : (r : Ordering) → (is_le r && not false) ≡ true → is_gt r ≡ false
      low Less h = refl
      low Equal h = refl
      low Greater h = cc

      passes : (r : Ordering) → is_gt r ≡ false → (is_le r && not false) ≡ true
      passes Less h = refl
      passes Equal h = refl
      passes Greater h = cc
