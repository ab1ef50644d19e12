-- The test of denominations keeps each name once, and so decides how many are named.
use Rattle.std.proofs.Common.{◌≡◌, ◌∙◌, ℕ, ◌≤◌, Bool, true, false, cond, List, [], ◌∷◌, ◌++◌, Option, Some, None, map, length, refl, sym, ap, ◌&&◌, ◌||◌, nat_le, is_some, filter, reverse, All, Contains, IsSome, Ordering, Less, Equal, Greater, Decides}
use Rattle.std.specs.{BTreeMap.is_at, BTreeSet.insert_key, Cmp.eq_by_cmp_equiv, List.{list_any, AllByRecursion}}
use Rattle.std.specs.{List.Sorted.IsStrictlySortedBy, Map.{keys_of, values_of}}
use Rattle.std.{specs.Ordering.{match_ordering, ordering_reverse}, proofs.lemmas.List.reverse-append}
use Rattle.std.proofs.lemmas.List.Elements.{All-contains, All-from_recursion, recursion_from_All}
use Rattle.std.proofs.lemmas.{List.Folds.list_any-append, Map.{Keys.IsDistinct-from_sorted, Lookups.exact_bytes}}
use Rattle.std.proofs.lemmas.Map.Made.{length-le_from_is_member, is_some-lookup}
use Rattle.std.proofs.lemmas.Map.Views.{All-insert_key, All-from_any, Contains-from_any, list_any-from_Contains}
use Rattle.std.proofs.Math.Nat.{le_trans}
use Rattle.base_types.specs.{declared.account.Account.Account, Orders.{addr_cmp, denom_cmp}}
use Rattle.base_types.proofs.MapLemmas.{all-below, equal}
use Rattle.base_coins.specs.Coins.{Money}
use Rattle.base_roles.specs.{declared.entities.{Historical.Historical, Purse.Purse}, Entries.at, Orders.same_addr}
use Rattle.base_roles.proofs.HoldingLemmas.{denom_total}
use Rattle.rule_modules.specs.Periods.{Periods}
use Rattle.rule_modules.specs.Sound.{names_in, names_of_purses, names_of_ratios, names_of_periods, denominations_of, AreAtMost}
use Rattle.store_records.specs.{Plain.{SharedSeen, PlainSeen}, States.{ratios_of, periods_in, state_of}}
use Rattle.store_soundness.specs.Ranges.{with_names, with_purse_names, with_purses, with_ratios, names_of, are_few}
use Rattle.law_records.{specs.Laws.HistoriesBelong, proofs.TestLemmas.at_most}

-- ---- a name among names

abbrev Names : Type 0
Names = List (List ℕ)

abbrev same : List ℕ → List ℕ → Bool
same d x = is_at (denom_cmp d) x

abbrev has : List ℕ → Names → Bool
has d names = list_any (same d) names

exact : (d x : List ℕ) → same d x ≡ true → d ≡ x
exact d x h = exact_bytes d x (equal (denom_cmp d x) h)

or_false : (a : Bool) → (a || false) ≡ a
or_false true = refl
or_false false = refl

swapped : (a b c : Bool) → (a || (b || c)) ≡ (b || (a || c))
swapped true true c = refl
swapped true false c = refl
swapped false b c = refl

turned : (a b c : Bool) → ((a || b) || c) ≡ (b || (a || c))
turned true true c = refl
turned true false c = refl
turned false b c = refl

joined : (a b c : Bool) → ((a || b) || c) ≡ (a || (b || c))
joined true b c = refl
joined false b c = refl

absorbed : (a b c : Bool) → a ≡ b → (b || c) ≡ (a || (b || c))
absorbed true b c e = ap (λ x. x || c) (sym e)
absorbed false b c e = refl

-- ---- each once

put_has : (d k : List ℕ) (names : Names) → has d (insert_key denom_cmp names k) ≡ (same d k || has d names)
put_has d k [] = refl
put_has d k (x ∷ names) = by (denom_cmp k x) refl (put_has d k names)
  where
    by : (r : Ordering) → denom_cmp k x ≡ r → has d (insert_key denom_cmp names k) ≡ (same d k || has d names) → has d (match_ordering r (k ∷ x ∷ names) (x ∷ names) (x ∷ insert_key denom_cmp names k)) ≡ (same d k || (same d x || has d names))
    by Less p later = refl
    by Equal p later = absorbed (same d k) (same d x) (has d names) (ap (same d) (exact_bytes k x p))
    by Greater p later = ap (λ b. same d x || b) later ∙ swapped (same d x) (same d k) (has d names)

put_sorted : (names : Names) (k : List ℕ) → IsStrictlySortedBy denom_cmp names → IsStrictlySortedBy denom_cmp (insert_key denom_cmp names k)
unfolding IsStrictlySortedBy
put_sorted [] k s = (tt, tt)
put_sorted (x ∷ xs) k s = by (denom_cmp k x) refl (put_sorted xs k s.1)
  where
    by : (r : Ordering) → denom_cmp k x ≡ r → IsStrictlySortedBy denom_cmp (insert_key denom_cmp xs k) → IsStrictlySortedBy denom_cmp (match_ordering r (k ∷ x ∷ xs) (x ∷ xs) (x ∷ insert_key denom_cmp xs k))
    by Less p later = ((p, all-below denom_cmp denom_total k x xs p s.0), s)
    by Equal p later = s
    by Greater p later = (
      recursion_from_All (λ y. denom_cmp x y ≡ Less) (insert_key denom_cmp xs k)
          (All-insert_key denom_cmp k (λ y. denom_cmp x y ≡ Less) xs (All-from_recursion (λ y. denom_cmp x y ≡ Less) xs s.0) (denom_total.antisymm x k ∙ ap ordering_reverse p)),
      later,
    )

with_has : (d : List ℕ) (some names : Names) → has d (with_names some names) ≡ (has d some || has d names)
with_has d some [] = sym (or_false (has d some))
with_has d some (n ∷ ns) = with_has d (insert_key denom_cmp some n) ns ∙ ap (λ b. b || has d ns) (put_has d n some) ∙ turned (same d n) (has d some) (has d ns)

with_sorted : (some names : Names) → IsStrictlySortedBy denom_cmp some → IsStrictlySortedBy denom_cmp (with_names some names)
with_sorted some [] s = s
with_sorted some (n ∷ ns) s = with_sorted (insert_key denom_cmp some n) ns (put_sorted some n s)

-- ---- purses

-- a purse names a denomination
abbrev purse_has : List ℕ → Purse → Bool
purse_has d p = has d (names_in p.outstanding) || (has d (names_in p.commission) || has d (names_in p.current))

one_purse : (d : List ℕ) (some : Names) (p : Purse) → has d (with_purse_names some p) ≡ (has d some || purse_has d p)
one_purse d some p =
    let first = with_names some (names_in p.outstanding) in
    let second = with_names first (names_in p.commission) in
    let a = has d (names_in p.outstanding) in
    let b = has d (names_in p.commission) in
    let c = has d (names_in p.current) in
    with_has d second (names_in p.current)
    ∙ ap (λ x. x || c) (with_has d first (names_in p.commission) ∙ ap (λ x. x || b) (with_has d some (names_in p.outstanding)))
    ∙ joined (has d some || a) b c ∙ joined (has d some) a (b || c)

purses_has : (d : List ℕ) (some : Names) (es : List (List ℕ × Purse)) → has d (with_purses some es) ≡ (has d some || list_any (λ e. purse_has d e.1) es)
purses_has d some [] = sym (or_false (has d some))
purses_has d some (e ∷ es) =
    purses_has d (with_purse_names some e.1) es ∙ ap (λ x. x || list_any (λ (y : List ℕ × Purse). purse_has d y.1) es) (one_purse d some e.1)
    ∙ joined (has d some) (purse_has d e.1) (list_any (λ (y : List ℕ × Purse). purse_has d y.1) es)

purses_named : (d : List ℕ) (es : List (List ℕ × Purse)) → has d (names_of_purses (values_of es)) ≡ list_any (λ e. purse_has d e.1) es
purses_named d [] = refl
purses_named d (e ∷ es) =
    let a = names_in e.1.outstanding in
    let b = names_in e.1.commission in
    let c = names_in e.1.current in
    let rest = names_of_purses (values_of es) in
    list_any-append (same d) ((a ++ b) ++ c) rest
    ∙ ap (λ x. x || has d rest) (list_any-append (same d) (a ++ b) c ∙ ap (λ x. x || has d c) (list_any-append (same d) a b) ∙ joined (has d a) (has d b) (has d c))
    ∙ ap (λ x. (has d a || (has d b || has d c)) || x) (purses_named d es)

purses_sorted : (some : Names) (es : List (List ℕ × Purse)) → IsStrictlySortedBy denom_cmp some → IsStrictlySortedBy denom_cmp (with_purses some es)
purses_sorted some [] s = s
purses_sorted some (e ∷ es) s =
    let first = with_names some (names_in e.1.outstanding) in
    let second = with_names first (names_in e.1.commission) in
    purses_sorted (with_purse_names some e.1) es
    (with_sorted second (names_in e.1.current) (with_sorted first (names_in e.1.commission) (with_sorted some (names_in e.1.outstanding) s)))

-- ---- ratios

abbrev Histories : Type 0
Histories = List ((List ℕ × ℕ) × Historical)

-- the ratio of a record names a denomination
abbrev ratio_has : List ℕ → (List ℕ × ℕ) × Historical → Bool
ratio_has d h = has d (names_in h.1.ratio)

ratios_has : (d : List ℕ) (some : Names) (hs : Histories) → has d (with_ratios some hs) ≡ (has d some || list_any (ratio_has d) hs)
ratios_has d some [] = sym (or_false (has d some))
ratios_has d some (h ∷ hs) =
    ratios_has d (with_names some (names_in h.1.ratio)) hs ∙ ap (λ x. x || list_any (ratio_has d) hs) (with_has d some (names_in h.1.ratio))
    ∙ joined (has d some) (ratio_has d h) (list_any (ratio_has d) hs)

ratios_sorted : (some : Names) (hs : Histories) → IsStrictlySortedBy denom_cmp some → IsStrictlySortedBy denom_cmp (with_ratios some hs)
ratios_sorted some [] s = s
ratios_sorted some (h ∷ hs) s = ratios_sorted (with_names some (names_in h.1.ratio)) hs (with_sorted some (names_in h.1.ratio) s)

-- ---- the periods of operators

any_reverse : {A : Type 0} (p : A → Bool) (xs : List A) → list_any p (reverse xs) ≡ list_any p xs
any_reverse p [] = refl
any_reverse p (x ∷ xs) = ap (list_any p) (reverse-append (x ∷ []) xs) ∙ list_any-append p (reverse xs) (x ∷ []) ∙ ap (λ b. b || (p x || false)) (any_reverse p xs) ∙ around (list_any p xs) (p x)
  where
    around : (a b : Bool) → (a || (b || false)) ≡ (b || a)
    around true true = refl
    around true false = refl
    around false b = refl

-- the ratios of records name a denomination
abbrev ratios_have : List ℕ → Histories → Bool
ratios_have d hs = list_any (λ (x : ℕ × Money). has d (names_in x.1)) (map (λ (h : (List ℕ × ℕ) × Historical). (h.0.1, h.1.ratio)) hs)

-- the ratios of an operator that are among the records
named_by : (d operator : List ℕ) (hs : Histories)
    → ratios_have d (filter (λ h. same_addr h.0.0 operator) hs) ≡ list_any (λ h. same_addr h.0.0 operator && ratio_has d h) hs
named_by d operator [] = refl
named_by d operator (h ∷ hs) = by (same_addr h.0.0 operator) (named_by d operator hs)
  where
    by : (b : Bool) → ratios_have d (filter (λ y. same_addr y.0.0 operator) hs) ≡ list_any (λ y. same_addr y.0.0 operator && ratio_has d y) hs
        → ratios_have d (cond b (h ∷ filter (λ y. same_addr y.0.0 operator) hs) (filter (λ y. same_addr y.0.0 operator) hs)) ≡ ((b && ratio_has d h) || list_any (λ y. same_addr y.0.0 operator && ratio_has d y) hs)
    by true later = ap (λ x. ratio_has d h || x) later
    by false later = later

ratios_named : (d : List ℕ) (rs : List (ℕ × Money)) → has d (names_of_ratios rs) ≡ list_any (λ x. has d (names_in x.1)) rs
ratios_named d [] = refl
ratios_named d (r ∷ rs) = list_any-append (same d) (names_in r.1) (names_of_ratios rs) ∙ ap (λ x. has d (names_in r.1) || x) (ratios_named d rs)

-- an operator names a denomination, by the ratios of its records
abbrev operator_has : List ℕ → Histories → List ℕ → Bool
operator_has d hs operator = list_any (λ h. same_addr h.0.0 operator && ratio_has d h) hs

operator_named : (d : List ℕ) (s : SharedSeen) (operator : List ℕ) → has d (names_of_ratios (ratios_of s operator)) ≡ operator_has d s.histories operator
operator_named d s operator =
    let own = map (λ (h : (List ℕ × ℕ) × Historical). (h.0.1, h.1.ratio)) (filter (λ h. same_addr h.0.0 operator) s.histories) in
    ratios_named d (reverse own) ∙ any_reverse (λ (x : ℕ × Money). has d (names_in x.1)) own ∙ named_by d operator s.histories

periods_named : (d : List ℕ) (s : SharedSeen) (es : List (List ℕ × ℕ))
    → has d (names_of_periods (values_of (map (λ (e : List ℕ × ℕ). (e.0, periods_in s e.0 e.1)) es))) ≡ list_any (λ e. operator_has d s.histories e.0) es
periods_named d s [] = refl
periods_named d s (e ∷ es) =
    let rest = names_of_periods (values_of (map (λ (x : List ℕ × ℕ). (x.0, periods_in s x.0 x.1)) es)) in
    list_any-append (same d) (names_of_ratios (ratios_of s e.0)) rest
    ∙ ap (λ x. x || has d rest) (operator_named d s e.0)
    ∙ ap (λ x. operator_has d s.histories e.0 || x) (periods_named d s es)

-- ---- what is named

-- balances, the pool and purses name a denomination
abbrev held : List ℕ → PlainSeen → Bool
held d r = (has d (map (λ e. e.0.1) r.lists.bank.balances) || has d (names_in r.pool)) || list_any (λ e. purse_has d e.1) r.lists.shared.purses

test_names : (d : List ℕ) (r : PlainSeen) → has d (names_of r) ≡ (held d r || list_any (ratio_has d) r.lists.shared.histories)
test_names d r =
    let balances = map (λ (e : (Account × List ℕ) × ℕ). e.0.1) r.lists.bank.balances in
    let first = with_names [] balances in
    let second = with_names first (names_in r.pool) in
    let third = with_purses second r.lists.shared.purses in
    let purses = list_any (λ (e : List ℕ × Purse). purse_has d e.1) r.lists.shared.purses in
    ratios_has d third r.lists.shared.histories
    ∙ ap (λ x. x || list_any (ratio_has d) r.lists.shared.histories)
    (purses_has d second r.lists.shared.purses
    ∙ ap (λ x. x || purses) (with_has d first (names_in r.pool) ∙ ap (λ x. x || has d (names_in r.pool)) (with_has d [] balances)))

state_names : (d : List ℕ) (r : PlainSeen) → has d (denominations_of (state_of r)) ≡ (held d r || list_any (λ e. operator_has d r.lists.shared.histories e.0) r.lists.shared.currents)
state_names d r =
    let s = r.lists.shared in
    let balances = map (λ (e : (Account × List ℕ) × ℕ). e.0.1) r.lists.bank.balances in
    let pool = names_in r.pool in
    let purses = names_of_purses (values_of s.purses) in
    let periods = names_of_periods (values_of (map (λ (e : List ℕ × ℕ). (e.0, periods_in s e.0 e.1)) s.currents)) in
    let operators = list_any (λ (e : List ℕ × ℕ). operator_has d s.histories e.0) s.currents in
    let own = list_any (λ (e : List ℕ × Purse). purse_has d e.1) s.purses in
    list_any-append (same d) ((balances ++ pool) ++ purses) periods
    ∙ ap (λ x. x || has d periods) (list_any-append (same d) (balances ++ pool) purses ∙ ap (λ x. x || has d purses) (list_any-append (same d) balances pool))
    ∙ ap (λ x. ((has d balances || has d pool) || x) || has d periods) (purses_named d s.purses)
    ∙ ap (λ x. ((has d balances || has d pool) || own) || x) (periods_named d s s.currents)

-- ---- what is named by the state is named by the records, and the other way

any_weaker : {A : Type 0} (p q : A → Bool) → ((x : A) → p x ≡ true → q x ≡ true) → (xs : List A) → list_any p xs ≡ true → list_any q xs ≡ true
any_weaker p q h [] t = t
any_weaker p q h (x ∷ xs) t = by (p x) refl (any_weaker p q h xs) t
  where
    late : (a : Bool) → (a || true) ≡ true
    late true = refl
    late false = refl

    by : (b : Bool) → p x ≡ b → (list_any p xs ≡ true → list_any q xs ≡ true) → (b || list_any p xs) ≡ true → (q x || list_any q xs) ≡ true
    by true e later k = ap (λ b. b || list_any q xs) (h x e)
    by false e later k = ap (λ b. q x || b) (later k) ∙ late (q x)

any_same : {A : Type 0} (p : A → Bool) (b : Bool) → ((x : A) → p x ≡ true → b ≡ true) → (xs : List A) → list_any p xs ≡ true → b ≡ true
any_same p b h [] t = absurd cc
any_same p b h (x ∷ xs) t = by (p x) refl (any_same p b h xs) t
  where
    by : (c : Bool) → p x ≡ c → (list_any p xs ≡ true → b ≡ true) → (c || list_any p xs) ≡ true → b ≡ true
    by true e later k = h x e
    by false e later k = later k

second : (a b : Bool) → (a && b) ≡ true → b ≡ true
second true b k = k
second false b k = absurd cc

operators_told : (d : List ℕ) (hs : Histories) (currents : List (List ℕ × ℕ)) → list_any (λ e. operator_has d hs e.0) currents ≡ true → list_any (ratio_has d) hs ≡ true
operators_told d hs currents t = any_same (λ (e : List ℕ × ℕ). operator_has d hs e.0) (list_any (ratio_has d) hs)
    (λ e. any_weaker (λ (h : (List ℕ × ℕ) × Historical). same_addr h.0.0 e.0 && ratio_has d h) (ratio_has d) (λ h. second (same_addr h.0.0 e.0) (ratio_has d h)) hs) currents t

standing : (operator : List ℕ) (currents : List (List ℕ × ℕ)) → is_some (at addr_cmp currents operator) ≡ list_any (λ e. same_addr operator e.0) currents
standing operator [] = refl
standing operator (e ∷ es) = by (same_addr operator e.0) (standing operator es)
  where
    by : (b : Bool) → is_some (at addr_cmp es operator) ≡ list_any (λ x. same_addr operator x.0) es → is_some (cond b (Some e.1) (at addr_cmp es operator)) ≡ (b || list_any (λ x. same_addr operator x.0) es)
    by true later = refl
    by false later = later

operators_tested : (d : List ℕ) (currents : List (List ℕ × ℕ)) (hs : Histories) → AllByRecursion (λ h. IsSome (at addr_cmp currents h.0.0)) hs → list_any (ratio_has d) hs ≡ true → list_any (λ e. operator_has d hs e.0) currents ≡ true
operators_tested d currents [] a t = absurd cc
operators_tested d currents (h ∷ hs) a t = by (ratio_has d h) refl (operators_tested d currents hs a.1) t
  where
    here : ratio_has d h ≡ true → (e : List ℕ × ℕ) → same_addr h.0.0 e.0 ≡ true → ((same_addr h.0.0 e.0 && ratio_has d h) || operator_has d hs e.0) ≡ true
    here has e same = ap (λ b. (b && ratio_has d h) || operator_has d hs e.0) same ∙ ap (λ b. b || operator_has d hs e.0) has

    there : (e : List ℕ × ℕ) → operator_has d hs e.0 ≡ true → ((same_addr h.0.0 e.0 && ratio_has d h) || operator_has d hs e.0) ≡ true
    there e k = ap (λ b. (same_addr h.0.0 e.0 && ratio_has d h) || b) k ∙ late (same_addr h.0.0 e.0 && ratio_has d h)
      where
        late : (x : Bool) → (x || true) ≡ true
        late true = refl
        late false = refl

    by : (b : Bool) → ratio_has d h ≡ b → (list_any (ratio_has d) hs ≡ true → list_any (λ e. operator_has d hs e.0) currents ≡ true) → (b || list_any (ratio_has d) hs) ≡ true → list_any (λ e. (same_addr h.0.0 e.0 && ratio_has d h) || operator_has d hs e.0) currents ≡ true
    by true e later k = any_weaker (λ (x : List ℕ × ℕ). same_addr h.0.0 x.0) (λ x. (same_addr h.0.0 x.0 && ratio_has d h) || operator_has d hs x.0) (here e) currents (sym (standing h.0.0 currents) ∙ a.0)
    by false e later k = any_weaker (λ (x : List ℕ × ℕ). operator_has d hs x.0) (λ x. (same_addr h.0.0 x.0 && ratio_has d h) || operator_has d hs x.0) there currents (later k)

either : (a b c : Bool) → (b ≡ true → c ≡ true) → (a || b) ≡ true → (a || c) ≡ true
either true b c h t = refl
either false b c h t = h t

-- ---- the law

none_sorted : IsStrictlySortedBy denom_cmp []
unfolding IsStrictlySortedBy
none_sorted = tt

named_sorted : (r : PlainSeen) → IsStrictlySortedBy denom_cmp (names_of r)
named_sorted r =
    let first = with_names [] (map (λ (e : (Account × List ℕ) × ℕ). e.0.1) r.lists.bank.balances) in
    let second = with_names first (names_in r.pool) in
    ratios_sorted (with_purses second r.lists.shared.purses) r.lists.shared.histories
    (purses_sorted second r.lists.shared.purses
    (with_sorted first (names_in r.pool) (with_sorted [] (map (λ (e : (Account × List ℕ) × ℕ). e.0.1) r.lists.bank.balances) none_sorted)))

-- the state names no more than the records do
pub few_told : (r : PlainSeen) → are_few r ≡ true → AreAtMost 1_000_000 (denominations_of (state_of r))
few_told r t = record {
  some = names_of r;
  few = (at_most (length (names_of r)) 1_000_000).0 t;
  all = All-from_any (eq_by_cmp_equiv denom_total) (Contains (names_of r)) (denominations_of (state_of r)) each;
}
  where
    each : (d : List ℕ) → has d (denominations_of (state_of r)) ≡ true → Contains (names_of r) d
    each d h = Contains-from_any exact d (names_of r)
        (test_names d r ∙ either (held d r) (list_any (λ e. operator_has d r.lists.shared.histories e.0) r.lists.shared.currents) (list_any (ratio_has d) r.lists.shared.histories)
        (operators_told d r.lists.shared.histories r.lists.shared.currents) (sym (state_names d r) ∙ h))

few_tested : (r : PlainSeen) → HistoriesBelong r.lists.shared → AreAtMost 1_000_000 (denominations_of (state_of r)) → are_few r ≡ true
few_tested r belong a = (at_most (length (names_of r)) 1_000_000).1
    (le_trans (length-le_from_is_member (eq_by_cmp_equiv denom_total) (names_of r) a.some (IsDistinct-from_sorted denom_cmp (names_of r) (named_sorted r)) each) a.few)
  where
    each : (d : List ℕ) → has d (names_of r) ≡ true → has d a.some ≡ true
    each d h = list_any-from_Contains (eq_by_cmp_equiv denom_total) d a.some
        (All-contains (Contains a.some) (denominations_of (state_of r)) d a.all
        (Contains-from_any exact d (denominations_of (state_of r))
        (state_names d r ∙ either (held d r) (list_any (ratio_has d) r.lists.shared.histories) (list_any (λ e. operator_has d r.lists.shared.histories e.0) r.lists.shared.currents)
        (operators_tested d r.lists.shared.currents r.lists.shared.histories (recursion_from_All (λ x. IsSome (at addr_cmp r.lists.shared.currents x.0.0)) r.lists.shared.histories belong)) (sym (test_names d r) ∙ h))))

-- the test of names decides that they are few
pub few_decides : (r : PlainSeen) → HistoriesBelong r.lists.shared → Decides (are_few r) (AreAtMost 1_000_000 (denominations_of (state_of r)))
few_decides r belong = (few_told r, few_tested r belong)
