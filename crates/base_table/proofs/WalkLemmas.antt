-- What a walk over places sees.
use Rattle.std.proofs.Common.{◌≡◌, true, false, ◌&&◌, cond, List, [], ◌∷◌, ◌++◌, Option, Some, None, is_some, option_map, filter, refl, sym, ◌∙◌, ap, Ordering, is_le, is_lt, option_to_list}
use Rattle.std.specs.declared.ops.Bound.{Bound, TheVariants.{Included, Excluded, Unbounded}}
use Rattle.std.specs.{Cmp.{IsTotalOrder, alike_right}, BTreeMap.{is_at, Range.{entries_between, range_contains}}}
use Rattle.base_table.specs.declared.slot.Slot.{Slot, TheVariants.{Empty, Filled, Renamed}}
use Rattle.base_table.specs.{Places.{bound_above, entry_of, filled, AreNamed, IsNamed}, Tabled.{entry_above, first_of}}
use Rattle.base_types.proofs.MapLemmas.{equal}

pub is_some-map : {A B : Type 0} (f : A → B) (x : Option A) → is_some (option_map f x) ≡ is_some x
is_some-map f None = refl
is_some-map f (Some x) = refl

first_there : {A : Type 0} (x : Option A) (rest : List A) → is_some x ≡ true → first_of (option_to_list x ++ rest) ≡ x
first_there None rest h = cc
first_there (Some x) rest h = refl

first_further : {A : Type 0} (x : Option A) (rest : List A) → is_some x ≡ false → first_of (option_to_list x ++ rest) ≡ first_of rest
first_further None rest h = refl
first_further (Some x) rest h = cc

module _ {K V : Type 0} (items rest : List (K × Slot K V)) (goal : Option (K × V)) (k : K) (s : Slot K V) (so_far : first_of (filled items) ≡ goal) (next : items ≡ (k, s) ∷ rest) where
  -- a place that shows an entry ends the walk
  pub walked_to : (e : Option (K × V)) → e ≡ entry_of k s → is_some e ≡ true → e ≡ goal
  walked_to e is there = is ∙ sym (first_there (entry_of k s) (filled rest) (sym (ap is_some is) ∙ there)) ∙ sym (ap (λ l. first_of (filled l)) next) ∙ so_far

  -- an empty one is passed over
  pub walked_on : (e : Option (K × V)) → e ≡ entry_of k s → is_some e ≡ false → first_of (filled rest) ≡ goal
  walked_on e is none = sym (first_further (entry_of k s) (filled rest) (sym (ap is_some is) ∙ none)) ∙ sym (ap (λ l. first_of (filled l)) next) ∙ so_far

module _ {K : Type 0} {R : K → K → Ordering} (o : IsTotalOrder R) (lo : Bound K) where
  same_side : (k n : K) → is_at (R k) n ≡ true → range_contains R lo Unbounded k ≡ range_contains R lo Unbounded n
  same_side k n named = by lo
    where
      by : (b : Bound K) → range_contains R b Unbounded k ≡ range_contains R b Unbounded n
      by (Included a) = ap (λ r. is_le r && true) (alike_right o k n a (equal _ named))
      by (Excluded a) = ap (λ r. is_lt r && true) (alike_right o k n a (equal _ named))
      by Unbounded = refl

  shown_between : {V : Type 0} (k : K) (s : Slot K V) (ps : List (K × Slot K V)) (es : List (K × V)) → IsNamed R k s → filled ps ≡ entries_between R lo Unbounded es
      → filled (cond (range_contains R lo Unbounded k) ((k, s) ∷ ps) ps) ≡ entries_between R lo Unbounded (option_to_list (entry_of k s) ++ es)
  shown_between k Empty ps es named rest = elim (range_contains R lo Unbounded k) as (λ b. filled (cond b ((k, Empty) ∷ ps) ps) ≡ entries_between R lo Unbounded es) [ true ↦ rest | false ↦ rest ]
  shown_between k (Filled v) ps es named rest = elim (range_contains R lo Unbounded k) as (λ b. filled (cond b ((k, Filled v) ∷ ps) ps) ≡ cond b ((k, v) ∷ entries_between R lo Unbounded es) (entries_between R lo Unbounded es)) [ true ↦ ap (λ l. (k, v) ∷ l) rest | false ↦ rest ]
  shown_between k (Renamed n v) ps es named rest =
      elim (range_contains R lo Unbounded k) as (λ b. filled (cond b ((k, Renamed n v) ∷ ps) ps) ≡ cond b ((n.value, v) ∷ entries_between R lo Unbounded es) (entries_between R lo Unbounded es)) [ true ↦ ap (λ l. (n.value, v) ∷ l) rest | false ↦ rest ]
      ∙ ap (λ b. cond b ((n.value, v) ∷ entries_between R lo Unbounded es) (entries_between R lo Unbounded es)) (same_side k n.value named)

  -- a part of the places shows that part of the entries
  pub filled-between : {V : Type 0} (ps : List (K × Slot K V)) → AreNamed R ps → filled (entries_between R lo Unbounded ps) ≡ entries_between R lo Unbounded (filled ps)
  filled-between [] named = refl
  filled-between (p ∷ ps) named = shown_between p.0 p.1 (entries_between R lo Unbounded ps) (filled ps) named.0 (filled-between ps named.1)

-- all entries lie above no key
filter_all : {A : Type 0} (xs : List A) → filter (λ x. true) xs ≡ xs
filter_all [] = refl
filter_all (x ∷ xs) = ap (λ l. x ∷ l) (filter_all xs)

pub entries_above : {K V : Type 0} (R : K → K → Ordering) (es : List (K × V)) (after : Option K) → first_of (entries_between R (bound_above after) Unbounded es) ≡ entry_above R es after
entries_above R es None = ap first_of (filter_all es)
entries_above R es (Some k) = refl
