-- The walk over the slash events of an operator that are not below a height.
use Rattle.std.proofs.Common.{◌≡◌, ℕ, suc, ◌<◌, ◌&&◌, not, Bool, true, false, cond, nat_le, List, [], ◌∷◌, ◌++◌, length, filter, map, Option, Some, None, unwrap_or, refl, Ordering, Less, Equal, Greater, nat_cmp, is_gt, is_le, is_lt, sym, ◌∙◌, ap, subst, arith, append_assoc}
use Rattle.std.specs.declared.ops.Bound.TheVariants.{Included, Excluded, Unbounded}
use Rattle.std.specs.{BTreeMap.Range.{entries_between, range_contains}, List.AllByRecursion}
use Rattle.std.specs.{List.Sorted.IsStrictlySortedBy, Map.keys_of, Ordering.ordering_then}
use Rattle.std.proofs.lemmas.Bool.Decides.{nat_tests}
use Rattle.base_types.specs.Orders.{addr_cmp}
use Rattle.base_roles.specs.{declared.entities.SlashEvent.SlashEvent, Orders.same_addr}
use Rattle.base_table.specs.Tabled.{first_of}
use Rattle.mod_periods.specs.{Earning.events_since, GroupedKeys.events_are_grouped, Kept.{event_cmp, event_at}}
use Rattle.mod_periods.proofs.{EventLemmas.Slashes, OrderLemmas.{event_total, equal, same_is, same_itself}}
use Rattle.mod_periods.proofs.WalkLemmas.{IsUpward, is_after, after-upward, included-upward, not_above-trans, walk-next}

-- the operator's own events of a list of entries
abbrev pub own_events : List ℕ → Slashes → List SlashEvent
own_events o es = map event_at (filter (λ e. same_addr e.0.0 o) es)

-- the rest of a walk over the table from the operator's first key
pub record IsRest (es : Slashes) (o : List ℕ) (rest : Slashes) : Type 0 where
  pub passes : (List ℕ × ℕ × ℕ) × ℕ → Bool
  pub upward : IsUpward event_cmp passes
  pub inside : (e : (List ℕ × ℕ × ℕ) × ℕ) → passes e ≡ true → is_gt (event_cmp (o, 0, 0) e.0) ≡ false
  pub is : rest ≡ filter passes es

in_range : (r : Ordering) → (is_le r && not false) ≡ true → is_gt r ≡ false
in_range Less h = refl
in_range Equal h = refl
in_range Greater h = cc

is_after_less : (r : Ordering) → (is_lt r && not false) ≡ true → r ≡ Less
is_after_less Less h = refl
is_after_less Equal h = cc
is_after_less Greater h = cc

-- no own key is below one with a height of 0
first_lowest : (o : List ℕ) (height : ℕ) → is_gt (event_cmp (o, 0, 0) (o, height, 0)) ≡ false
first_lowest o height = events_are_grouped.least o (o, height, 0) (same_itself o)

-- the walk as it begins
pub rest-begins : (es : Slashes) (o : List ℕ) (height : ℕ) → IsRest es o (entries_between event_cmp (Included (o, height, 0)) Unbounded es)
rest-begins es o height = record {
  passes = λ e. range_contains event_cmp (Included (o, height, 0)) Unbounded e.0;
  upward = included-upward event_cmp event_total (o, height, 0);
  inside = λ e t. not_above-trans event_cmp event_total (o, 0, 0) (o, height, 0) e.0 (first_lowest o height) (in_range (event_cmp (o, height, 0) e.0) t);
  is = refl;
}

passes_first : {A : Type 0} (p : A → Bool) (es : List A) (e : A) (rest : List A) → filter p es ≡ e ∷ rest → p e ≡ true
passes_first p [] e rest h = cc
passes_first p (x ∷ xs) e rest h = by (p x) refl h (λ t. passes_first p xs e rest t)
  where
    by : (b : Bool) → p x ≡ b → cond b (x ∷ filter p xs) (filter p xs) ≡ e ∷ rest → (filter p xs ≡ e ∷ rest → p e ≡ true) → p e ≡ true
    by true t h later = let same : x ≡ e = ap (λ l. unwrap_or (first_of l) e) h in subst (λ d. p d ≡ true) same t
    by false t h later = later h

-- after one entry
pub rest-next : (es : Slashes) (o : List ℕ) (e : (List ℕ × ℕ × ℕ) × ℕ) (rest : Slashes) → IsStrictlySortedBy event_cmp (keys_of es) → IsRest es o (e ∷ rest)
    → IsRest es o rest × (entries_between event_cmp (Excluded e.0) Unbounded es ≡ rest)
rest-next es o e rest s w =
    let follows : entries_between event_cmp (Excluded e.0) Unbounded es ≡ rest = walk-next event_cmp event_total w.passes w.upward es s e rest (sym w.is) in
    let low : is_gt (event_cmp (o, 0, 0) e.0) ≡ false = w.inside e (passes_first w.passes es e rest (sym w.is)) in (
      record {
        passes = is_after event_cmp e.0;
        upward = after-upward event_cmp event_total e.0;
        inside = λ d t. not_above-trans event_cmp event_total (o, 0, 0) e.0 d.0 low (ap is_gt (is_after_less (event_cmp e.0 d.0) t));
        is = sym follows;
      },
      follows,
    )

-- where the first entry is another operator's, no own one follows
none_own : (o : List ℕ) (x : (List ℕ × ℕ × ℕ) × ℕ) (ys : Slashes) → is_gt (event_cmp (o, 0, 0) x.0) ≡ false → same_addr x.0.0 o ≡ false
    → AllByRecursion (λ y. event_cmp x.0 y ≡ Less) (keys_of ys) → filter (λ e. same_addr e.0.0 o) ys ≡ []
none_own o x [] low other above = refl
none_own o x (y ∷ ys) low other above = by (same_addr y.0.0 o) refl (none_own o x ys low other above.1)
  where
    by : (b : Bool) → same_addr y.0.0 o ≡ b → filter (λ e. same_addr e.0.0 o) ys ≡ [] → cond b (y ∷ filter (λ e. same_addr e.0.0 o) ys) (filter (λ e. same_addr e.0.0 o) ys) ≡ []
    by true t later = let no : true ≡ false = sym (events_are_grouped.together o x.0 y.0 low above.0 t) ∙ other in cc
    by false t later = later

after_all : (es : Slashes) (k : List ℕ × ℕ × ℕ) → AllByRecursion (λ y. event_cmp k y ≡ Less) (keys_of (filter (is_after event_cmp k) es))
after_all [] k = tt
after_all (x ∷ xs) k = by (is_after event_cmp k x) refl (after_all xs k)
  where
    by : (b : Bool) → is_after event_cmp k x ≡ b → AllByRecursion (λ y. event_cmp k y ≡ Less) (keys_of (filter (is_after event_cmp k) xs))
        → AllByRecursion (λ y. event_cmp k y ≡ Less) (keys_of (cond b (x ∷ filter (is_after event_cmp k) xs) (filter (is_after event_cmp k) xs)))
    by true t later = (is_after_less (event_cmp k x.0) t, later)
    by false t later = later

pub rest-stops : (es : Slashes) (o : List ℕ) (e : (List ℕ × ℕ × ℕ) × ℕ) (rest : Slashes) → IsStrictlySortedBy event_cmp (keys_of es) → IsRest es o (e ∷ rest)
    → same_addr e.0.0 o ≡ false → own_events o (e ∷ rest) ≡ []
rest-stops es o e rest s w other =
    let follows : entries_between event_cmp (Excluded e.0) Unbounded es ≡ rest = walk-next event_cmp event_total w.passes w.upward es s e rest (sym w.is) in
    let low : is_gt (event_cmp (o, 0, 0) e.0) ≡ false = w.inside e (passes_first w.passes es e rest (sym w.is)) in
    let above = subst (λ l. AllByRecursion (λ y. event_cmp e.0 y ≡ Less) (keys_of l)) follows (after_all es e.0) in
    ap (λ b. map event_at (cond b (e ∷ filter (λ d. same_addr d.0.0 o) rest) (filter (λ d. same_addr d.0.0 o) rest))) other
    ∙ ap (map event_at) (none_own o e rest low other above)

-- an own entry comes first
pub rest-own : (o : List ℕ) (e : (List ℕ × ℕ × ℕ) × ℕ) (rest : Slashes) → same_addr e.0.0 o ≡ true → own_events o (e ∷ rest) ≡ event_at e ∷ own_events o rest
rest-own o e rest own = ap (λ b. map event_at (cond b (e ∷ filter (λ d. same_addr d.0.0 o) rest) (filter (λ d. same_addr d.0.0 o) rest))) own

-- ---- the walk as it begins has the events that are not below the height

height_test : (a b c : Ordering) (h : Bool) → a ≡ Equal → is_gt c ≡ false → is_gt b ≡ not h → (is_le (ordering_then (ordering_then a b) c) && not false) ≡ h
height_test Less b c h x y z = cc
height_test Equal Less c true x y z = refl
height_test Equal Less c false x y z = cc
height_test Equal Equal Less true x y z = refl
height_test Equal Equal Equal true x y z = refl
height_test Equal Equal Greater true x y z = cc
height_test Equal Equal c false x y z = cc
height_test Equal Greater c true x y z = cc
height_test Equal Greater c false x y z = refl
height_test Greater b c h x y z = cc

above_height : (height n : ℕ) → is_gt (nat_cmp height n) ≡ not (nat_le height n)
above_height height n = grind (arith, nat_tests)

from_zero : (n : ℕ) → is_gt (nat_cmp 0 n) ≡ false
from_zero n = grind (arith, nat_tests)

pub rest-listed : (o : List ℕ) (height : ℕ) (es : Slashes) → own_events o (entries_between event_cmp (Included (o, height, 0)) Unbounded es) ≡ events_since height (own_events o es)
rest-listed o height [] = refl
rest-listed o height (e ∷ es) = by (same_addr e.0.0 o) refl (range_contains event_cmp (Included (o, height, 0)) Unbounded e.0) refl (rest-listed o height es)
  where
    passes : (List ℕ × ℕ × ℕ) × ℕ → Bool
    passes d = range_contains event_cmp (Included (o, height, 0)) Unbounded d.0

    by : (a : Bool) → same_addr e.0.0 o ≡ a → (b : Bool) → range_contains event_cmp (Included (o, height, 0)) Unbounded e.0 ≡ b
        → own_events o (entries_between event_cmp (Included (o, height, 0)) Unbounded es) ≡ events_since height (own_events o es)
        → own_events o (cond b (e ∷ entries_between event_cmp (Included (o, height, 0)) Unbounded es) (entries_between event_cmp (Included (o, height, 0)) Unbounded es))
        ≡ events_since height (map event_at (cond a (e ∷ filter (λ d. same_addr d.0.0 o) es) (filter (λ d. same_addr d.0.0 o) es)))
    by true s b t later =
        let first : addr_cmp o e.0.0 ≡ Equal = equal _ (ap (λ x. same_addr o x) (same_is e.0.0 o s) ∙ same_itself o) in
        let test : nat_le height e.0.1 ≡ b = sym (height_test (addr_cmp o e.0.0) (nat_cmp height e.0.1) (nat_cmp 0 e.0.2) (nat_le height e.0.1) first (from_zero e.0.2) (above_height height e.0.1)) ∙ t in
        two b test
      where
        two : (b : Bool) → nat_le height e.0.1 ≡ b
            → own_events o (cond b (e ∷ entries_between event_cmp (Included (o, height, 0)) Unbounded es) (entries_between event_cmp (Included (o, height, 0)) Unbounded es))
            ≡ cond (nat_le height e.0.1) (event_at e ∷ events_since height (own_events o es)) (events_since height (own_events o es))
        two true n =
            rest-own o e (entries_between event_cmp (Included (o, height, 0)) Unbounded es) s ∙ ap (λ l. event_at e ∷ l) later
            ∙ sym (ap (λ c. cond c (event_at e ∷ events_since height (own_events o es)) (events_since height (own_events o es))) n)
        two false n = later ∙ sym (ap (λ c. cond c (event_at e ∷ events_since height (own_events o es)) (events_since height (own_events o es))) n)
    by false s true t later = ap (λ c. map event_at (cond c (e ∷ filter (λ d. same_addr d.0.0 o) (entries_between event_cmp (Included (o, height, 0)) Unbounded es)) (filter (λ d. same_addr d.0.0 o) (entries_between event_cmp (Included (o, height, 0)) Unbounded es)))) s ∙ later
    by false s false t later = later

-- how many entries a walk has ahead
abbrev pub ahead : Slashes → Option ((List ℕ × ℕ × ℕ) × ℕ) → ℕ
ahead es None = 0
ahead es (Some e) = suc (length (entries_between event_cmp (Excluded e.0) Unbounded es))

pub cons_of : {A : Type 0} (xs : List A) (e : A) → Some e ≡ first_of xs → (tail : List A) × (xs ≡ e ∷ tail)
cons_of [] e h = cc
cons_of (x ∷ xs) e h = (xs, ap (λ y. y ∷ xs) (sym (ap (λ o. unwrap_or o e) h)))

-- a walk has fewer entries ahead after each
pub ahead-falls : (es : Slashes) (o : List ℕ) (e : (List ℕ × ℕ × ℕ) × ℕ) (rest : Slashes) → IsStrictlySortedBy event_cmp (keys_of es) → IsRest es o (e ∷ rest)
    → ahead es (first_of (entries_between event_cmp (Excluded e.0) Unbounded es)) < ahead es (Some e)
ahead-falls es o e rest s w =
    let next = rest-next es o e rest s w in
    by rest next.1 next.0
  where
    by : (rest : Slashes) → entries_between event_cmp (Excluded e.0) Unbounded es ≡ rest → IsRest es o rest → ahead es (first_of (entries_between event_cmp (Excluded e.0) Unbounded es)) < suc (length (entries_between event_cmp (Excluded e.0) Unbounded es))
    by [] is v = let a = ap (λ l. ahead es (first_of l)) is in omega (arith, a)
    by (d ∷ tail) is v =
        let a = ap (λ l. ahead es (first_of l)) is in
        let b = ap length is in
        let c = ap length (rest-next es o d tail s v).1 in
        omega (arith, a, b, c)

append_nil : {A : Type 0} (xs : List A) → xs ++ [] ≡ xs
append_nil [] = refl
append_nil (x ∷ xs) = ap (λ l. x ∷ l) (append_nil xs)

-- where the walk comes to another operator, all own events are listed
pub listed-all : (es : Slashes) (o : List ℕ) (rest : Slashes) (e : (List ℕ × ℕ × ℕ) × ℕ) (listed due : List SlashEvent) → IsStrictlySortedBy event_cmp (keys_of es) → IsRest es o rest
    → Some e ≡ first_of rest → same_addr e.0.0 o ≡ false → listed ++ own_events o rest ≡ due → listed ≡ due
listed-all es o rest e listed due s w first other h =
    let c = cons_of rest e first in
    let none : own_events o rest ≡ [] = ap (own_events o) c.1 ∙ rest-stops es o e c.0 s (subst (IsRest es o) c.1 w) other in
    sym (append_nil listed) ∙ ap (λ l. listed ++ l) (sym none) ∙ h

-- an own event is listed, and the rest is what comes after it
pub record IsOneMore (es : Slashes) (o : List ℕ) (e : (List ℕ × ℕ × ℕ) × ℕ) (listed due : List SlashEvent) (rest : Slashes) : Type 0 where
  pub walk : IsRest es o rest
  pub next : entries_between event_cmp (Excluded e.0) Unbounded es ≡ rest
  pub listed_too : (listed ++ event_at e ∷ []) ++ own_events o rest ≡ due

pub listed-more : (es : Slashes) (o : List ℕ) (rest : Slashes) (e : (List ℕ × ℕ × ℕ) × ℕ) (listed due : List SlashEvent) → IsStrictlySortedBy event_cmp (keys_of es) → IsRest es o rest
    → Some e ≡ first_of rest → same_addr e.0.0 o ≡ true → listed ++ own_events o rest ≡ due → (tail : Slashes) × IsOneMore es o e listed due tail
listed-more es o rest e listed due s w first own h =
    let c = cons_of rest e first in
    let next = rest-next es o e c.0 s (subst (IsRest es o) c.1 w) in
    let same : own_events o rest ≡ event_at e ∷ own_events o c.0 = ap (own_events o) c.1 ∙ rest-own o e c.0 own in
    (c.0, record { walk = next.0; next = next.1; listed_too = append_assoc listed (event_at e ∷ []) (own_events o c.0) ∙ ap (λ l. listed ++ l) (sym same) ∙ h })
