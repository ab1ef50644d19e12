-- The recorded ratios of an operator: their periods fall, they grow with the period, and what is found at a period.
use Rattle.std.proofs.Common.{◌≡◌, ◌∙◌, ℕ, ◌<◌, ◌≤◌, Bool, true, false, cond, List, [], ◌∷◌, ◌++◌, Option, Some, None, map, refl, sym, ap, subst, arith, inl, inr, ◌==◌, ◌||◌, ◌⊎◌, filter, reverse, not, nat_le, is_some, if◌then◌else◌, unwrap_or, Contains, Ordering, Less, Equal, Greater, is_eq, nat_cmp, true≢false}
use Rattle.std.specs.{Ordering.ordering_then, BTreeMap.is_at, List.{AllByRecursion, Sorted.IsStrictlySortedBy}}
use Rattle.std.{specs.Map.keys_of, proofs.lemmas.{Bool.Decides.nat_tests, List.reverse-append, Map.Lookups.exact_bytes}}
use Rattle.base_types.{specs.Orders.{addr_cmp, denom_cmp}, proofs.MapLemmas.equal}
use Rattle.base_coins.specs.Coins.{Money, amount_of}
use Rattle.base_roles.specs.{declared.entities.Historical.Historical, Entries.at, Orders.same_addr}
use Rattle.base_records.proofs.MemberLemmas.{Member, contained}
use Rattle.rule_modules.specs.{Periods.ratio_at, Sound.AreFalling}
use Rattle.rule_modules.proofs.OrderLemmas.{addr_total, same_back, same_is, same_itself}
use Rattle.mod_periods.proofs.OrderLemmas.{period_found}
use Rattle.store_records.specs.Plain.{period_cmp}
use Rattle.store_soundness.specs.Histories.{is_within, is_at_most, does_not_fall, do_ratios_grow}
use Rattle.law_records.proofs.OperatorLemmas.{first_true, second_true}

abbrev pub Histories : Type 0
Histories = List ((List ℕ × ℕ) × Historical)

abbrev pub Rows : Type 0
Rows = List (ℕ × Money)

-- the recorded ratios of an operator, the earliest first
abbrev pub rows_in : List ℕ → Histories → Rows
rows_in o hs = map (λ h. (h.0.1, h.1.ratio)) (filter (λ h. same_addr h.0.0 o) hs)

-- ---- what is found at a period

-- the ratio of the last of these up to a period, or else this one
abbrev pub latest : Rows → ℕ → Money → Money
latest [] n x = x
latest (r ∷ rs) n x = latest rs n (if nat_le r.0 n then r.1 else x)

-- the ratio of the first of these up to a period, or else this one
abbrev ratio_or : Rows → ℕ → Money → Money
ratio_or [] n x = x
ratio_or (r ∷ rs) n x = if nat_le r.0 n then r.1 else ratio_or rs n x

or_nothing : (rs : Rows) (n : ℕ) → ratio_at rs n ≡ ratio_or rs n []
or_nothing [] n = refl
or_nothing (r ∷ rs) n = ap (λ (x : Money). if nat_le r.0 n then r.1 else x) (or_nothing rs n)

or_append : (xs : Rows) (r : ℕ × Money) (n : ℕ) (x : Money) → ratio_or (xs ++ r ∷ []) n x ≡ ratio_or xs n (if nat_le r.0 n then r.1 else x)
or_append [] r n x = refl
or_append (y ∷ xs) r n x = ap (λ (z : Money). if nat_le y.0 n then y.1 else z) (or_append xs r n x)

or_turned : (rs : Rows) (n : ℕ) (x : Money) → ratio_or (reverse rs) n x ≡ latest rs n x
or_turned [] n x = refl
or_turned (r ∷ rs) n x = ap (λ (l : Rows). ratio_or l n x) (reverse-append (r ∷ []) rs) ∙ or_append (reverse rs) r n x ∙ or_turned rs n (if nat_le r.0 n then r.1 else x)

pub ratio_told : (rs : Rows) (n : ℕ) → ratio_at (reverse rs) n ≡ latest rs n []
ratio_told rs n = or_nothing (reverse rs) n ∙ or_turned rs n []

-- ---- keys of an operator and behind them

then_parts : (a b : Ordering) → ordering_then a b ≡ Less → (a ≡ Less) ⊎ ((a ≡ Equal) × (b ≡ Less))
then_parts Less b h = inl refl
then_parts Equal b h = inr (refl, h)
then_parts Greater b h = absurd cc

pub less_number : (n m : ℕ) → nat_cmp n m ≡ Less → n < m
less_number n m e = grind (arith, nat_tests)

pub at_most_is : (n m : ℕ) → nat_le n m ≡ true → n ≤ m
at_most_is n m t = grind (arith, nat_tests)

-- a key that is above another one is of a later operator, or of the same one and of a later period
pub period_above : (x y : List ℕ × ℕ) → period_cmp x y ≡ Less → (addr_cmp x.0 y.0 ≡ Less) ⊎ ((x.0 ≡ y.0) × (x.1 < y.1))
period_above x y h = by (then_parts (addr_cmp x.0 y.0) (nat_cmp x.1 y.1) h)
  where
    by : (addr_cmp x.0 y.0 ≡ Less) ⊎ ((addr_cmp x.0 y.0 ≡ Equal) × (nat_cmp x.1 y.1 ≡ Less)) → (addr_cmp x.0 y.0 ≡ Less) ⊎ ((x.0 ≡ y.0) × (x.1 < y.1))
    by (inl e) = inl e
    by (inr e) = inr (exact_bytes x.0 y.0 e.0, less_number x.1 y.1 e.1)

-- a later operator is another one
pub later_apart : (o p : List ℕ) → addr_cmp o p ≡ Less → same_addr p o ≡ false
later_apart o p h = same_back p o ∙ ap is_eq h

-- of an operator before that of a key there is none behind it
pub none_behind : (o : List ℕ) (key : List ℕ × ℕ) (hs : Histories) → addr_cmp o key.0 ≡ Less → AllByRecursion (λ k. period_cmp key k ≡ Less) (keys_of hs) → rows_in o hs ≡ []
none_behind o key [] l h = refl
none_behind o key (e ∷ hs) l h = ap (λ b. map (λ (x : (List ℕ × ℕ) × Historical). (x.0.1, x.1.ratio)) (cond b (e ∷ filter (λ x. same_addr x.0.0 o) hs) (filter (λ x. same_addr x.0.0 o) hs))) (later_apart o e.0.0 (by (period_above key e.0 h.0))) ∙ none_behind o key hs l h.1
  where
    by : (addr_cmp key.0 e.0.0 ≡ Less) ⊎ ((key.0 ≡ e.0.0) × (key.1 < e.0.1)) → addr_cmp o e.0.0 ≡ Less
    by (inl later) = addr_total.trans o key.0 e.0.0 l later
    by (inr same) = subst (λ p. addr_cmp o p ≡ Less) same.0 l

-- ---- periods fall

-- each is of a later period than those before it
abbrev pub Rise : Rows → Type 0
Rise [] = Unit {0}
Rise (r ∷ rs) = AllByRecursion (λ (x : ℕ × Money). r.0 < x.0) rs × Rise rs

falling_append : (limit : ℕ) (xs : Rows) (r : ℕ × Money) → AreFalling limit xs → AllByRecursion (λ (x : ℕ × Money). r.0 < x.0) xs → r.0 < limit → AreFalling limit (xs ++ r ∷ [])
falling_append limit [] r f a l = (l, tt)
falling_append limit (x ∷ xs) r f a l = (f.0, falling_append x.0 xs r f.1 a.1 a.0)

all_joined : {X : Type 0} (P : X → Type 0) (xs : List X) (x : X) → AllByRecursion P xs → P x → AllByRecursion P (xs ++ x ∷ [])
all_joined P [] x h p = (p, tt)
all_joined P (y ∷ xs) x h p = (h.0, all_joined P xs x h.1 p)

pub all_turned : {X : Type 0} (P : X → Type 0) (xs : List X) → AllByRecursion P xs → AllByRecursion P (reverse xs)
all_turned P [] h = tt
all_turned P (x ∷ xs) h = subst (AllByRecursion P) (sym (reverse-append (x ∷ []) xs)) (all_joined P (reverse xs) x (all_turned P xs h.1) h.0)

pub falls : (limit : ℕ) (rs : Rows) → Rise rs → AllByRecursion (λ (x : ℕ × Money). x.0 < limit) rs → AreFalling limit (reverse rs)
falls limit [] r b = tt
falls limit (x ∷ rs) r b = subst (AreFalling limit) (sym (reverse-append (x ∷ []) rs)) (falling_append limit (reverse rs) x (falls limit rs r.1 b.1) (all_turned (λ (y : ℕ × Money). x.0 < y.0) rs r.0) b.0)

-- the rows behind a key of the operator are of later periods
later_rows : (o : List ℕ) (key : List ℕ × ℕ) (hs : Histories) → AllByRecursion (λ k. period_cmp key k ≡ Less) (keys_of hs) → key.0 ≡ o → AllByRecursion (λ (x : ℕ × Money). key.1 < x.0) (rows_in o hs)
later_rows o key [] h own = tt
later_rows o key (e ∷ hs) h own = by (same_addr e.0.0 o) refl (later_rows o key hs h.1 own)
  where
    above : same_addr e.0.0 o ≡ true → (addr_cmp key.0 e.0.0 ≡ Less) ⊎ ((key.0 ≡ e.0.0) × (key.1 < e.0.1)) → key.1 < e.0.1
    above t (inl later) = absurd (true≢false (sym t ∙ later_apart o e.0.0 (subst (λ p. addr_cmp p e.0.0 ≡ Less) own later)))
    above t (inr same) = same.1

    by : (b : Bool) → same_addr e.0.0 o ≡ b → AllByRecursion (λ (x : ℕ × Money). key.1 < x.0) (rows_in o hs)
        → AllByRecursion (λ (x : ℕ × Money). key.1 < x.0) (map (λ (x : (List ℕ × ℕ) × Historical). (x.0.1, x.1.ratio)) (cond b (e ∷ filter (λ x. same_addr x.0.0 o) hs) (filter (λ x. same_addr x.0.0 o) hs)))
    by true t k = (above t (period_above key e.0 h.0), k)
    by false t k = k

pub rows_rise : (o : List ℕ) (hs : Histories) → IsStrictlySortedBy period_cmp (keys_of hs) → Rise (rows_in o hs)
unfolding IsStrictlySortedBy
rows_rise o [] s = tt
rows_rise o (e ∷ hs) s = by (same_addr e.0.0 o) refl (rows_rise o hs s.1)
  where
    by : (b : Bool) → same_addr e.0.0 o ≡ b → Rise (rows_in o hs) → Rise (map (λ (x : (List ℕ × ℕ) × Historical). (x.0.1, x.1.ratio)) (cond b (e ∷ filter (λ x. same_addr x.0.0 o) hs) (filter (λ x. same_addr x.0.0 o) hs)))
    by true t k = (later_rows o e.0 hs s.0 (same_is e.0.0 o t), k)
    by false t k = k

-- what holds of the operator's records holds of its rows
pub rows_all : (P : ℕ × Money → Type 0) (o : List ℕ) (hs : Histories) → AllByRecursion (λ (h : (List ℕ × ℕ) × Historical). same_addr h.0.0 o ≡ true → P (h.0.1, h.1.ratio)) hs → AllByRecursion P (rows_in o hs)
rows_all P o [] h = tt
rows_all P o (e ∷ hs) h = by (same_addr e.0.0 o) refl (rows_all P o hs h.1)
  where
    by : (b : Bool) → same_addr e.0.0 o ≡ b → AllByRecursion P (rows_in o hs) → AllByRecursion P (map (λ (x : (List ℕ × ℕ) × Historical). (x.0.1, x.1.ratio)) (cond b (e ∷ filter (λ x. same_addr x.0.0 o) hs) (filter (λ x. same_addr x.0.0 o) hs)))
    by true t k = (h.0 t, k)
    by false t k = k

-- ---- the ratio at a recorded period

-- of periods that are all above one none is found at it
none_later : (rs : Rows) (n : ℕ) (x : Money) → AllByRecursion (λ (r : ℕ × Money). n < r.0) rs → latest rs n x ≡ x
none_later [] n x h = refl
none_later (r ∷ rs) n x h = ap (λ b. latest rs n (if b then r.1 else x)) above ∙ none_later rs n x h.1
  where
    above : nat_le r.0 n ≡ false
    above = let l : n < r.0 = h.0 in grind (arith, nat_tests)

own_key : (o : List ℕ) (n : ℕ) (key : List ℕ × ℕ) → is_at (period_cmp (o, n)) key ≡ true → (same_addr key.0 o ≡ true) × (key.1 ≡ n)
own_key o n key t =
    let both = sym (period_found o key.0 n key.1) ∙ t in
    let same : same_addr o key.0 ≡ true = first_true (same_addr o key.0) (n == key.1) both in
    let number : (n == key.1) ≡ true = second_true (same_addr o key.0) (n == key.1) both in
    (same_back key.0 o ∙ same, grind (arith, nat_tests))

pub ratio_found : (o : List ℕ) (n : ℕ) (hs : Histories) (h : Historical) (x : Money) → IsStrictlySortedBy period_cmp (keys_of hs) → at period_cmp hs (o, n) ≡ Some h → latest (rows_in o hs) n x ≡ h.ratio
unfolding IsStrictlySortedBy
ratio_found o n [] h x s e = absurd cc
ratio_found o n (y ∷ hs) h x s e = by (is_at (period_cmp (o, n)) y.0) refl e (λ z f. ratio_found o n hs h z s.1 f)
  where
    there : (same_addr y.0.0 o ≡ true) × (y.0.1 ≡ n) → y.1 ≡ h → latest (map (λ (z : (List ℕ × ℕ) × Historical). (z.0.1, z.1.ratio)) (cond (same_addr y.0.0 o) (y ∷ filter (λ z. same_addr z.0.0 o) hs) (filter (λ z. same_addr z.0.0 o) hs))) n x ≡ h.ratio
    there key is =
        let within : nat_le y.0.1 n ≡ true = (let m : y.0.1 ≡ n = key.1 in grind (arith, nat_tests)) in
        ap (λ b. latest (map (λ (z : (List ℕ × ℕ) × Historical). (z.0.1, z.1.ratio)) (cond b (y ∷ filter (λ z. same_addr z.0.0 o) hs) (filter (λ z. same_addr z.0.0 o) hs))) n x) key.0
        ∙ ap (λ b. latest (rows_in o hs) n (if b then y.1.ratio else x)) within
        ∙ none_later (rows_in o hs) n y.1.ratio (subst (λ m. AllByRecursion (λ (r : ℕ × Money). m < r.0) (rows_in o hs)) key.1 (later_rows o y.0 hs s.0 (same_is y.0.0 o key.0)))
        ∙ ap (λ (z : Historical). z.ratio) is

    behind : (b : Bool) → ((z : Money) → latest (rows_in o hs) n z ≡ h.ratio) → latest (map (λ (z : (List ℕ × ℕ) × Historical). (z.0.1, z.1.ratio)) (cond b (y ∷ filter (λ z. same_addr z.0.0 o) hs) (filter (λ z. same_addr z.0.0 o) hs))) n x ≡ h.ratio
    behind true k = k (if nat_le y.0.1 n then y.1.ratio else x)
    behind false k = k x

    by : (b : Bool) → is_at (period_cmp (o, n)) y.0 ≡ b → cond b (Some y.1) (at period_cmp hs (o, n)) ≡ Some h → ((z : Money) → at period_cmp hs (o, n) ≡ Some h → latest (rows_in o hs) n z ≡ h.ratio)
        → latest (rows_in o (y ∷ hs)) n x ≡ h.ratio
    by true t f later = there (own_key o n y.0 t) (let is : y.1 ≡ h = cc in is)
    by false t f later = behind (same_addr y.0.0 o) (λ z. later z f)

-- a recorded period stands among the rows
pub row_stands : (o : List ℕ) (n : ℕ) (hs : Histories) → is_some (at period_cmp hs (o, n)) ≡ true → Member (map (λ (r : ℕ × Money). r.0) (rows_in o hs)) n
row_stands o n [] e = absurd cc
row_stands o n (y ∷ hs) e = by (is_at (period_cmp (o, n)) y.0) refl e (row_stands o n hs)
  where
    behind : (b : Bool) → Member (map (λ (r : ℕ × Money). r.0) (rows_in o hs)) n → Member (map (λ (r : ℕ × Money). r.0) (map (λ (z : (List ℕ × ℕ) × Historical). (z.0.1, z.1.ratio)) (cond b (y ∷ filter (λ z. same_addr z.0.0 o) hs) (filter (λ z. same_addr z.0.0 o) hs)))) n
    behind true m = inr m
    behind false m = m

    there : (same_addr y.0.0 o ≡ true) × (y.0.1 ≡ n) → Member (map (λ (r : ℕ × Money). r.0) (rows_in o (y ∷ hs))) n
    there key = subst (λ b. Member (map (λ (r : ℕ × Money). r.0) (map (λ (z : (List ℕ × ℕ) × Historical). (z.0.1, z.1.ratio)) (cond b (y ∷ filter (λ z. same_addr z.0.0 o) hs) (filter (λ z. same_addr z.0.0 o) hs)))) n) (sym key.0) (inl key.1)

    by : (b : Bool) → is_at (period_cmp (o, n)) y.0 ≡ b → is_some (cond b (Some y.1) (at period_cmp hs (o, n))) ≡ true → (is_some (at period_cmp hs (o, n)) ≡ true → Member (map (λ (r : ℕ × Money). r.0) (rows_in o hs)) n)
        → Member (map (λ (r : ℕ × Money). r.0) (rows_in o (y ∷ hs))) n
    by true t f later = there (own_key o n y.0 t)
    by false t f later = behind (same_addr y.0.0 o) (later f)

member_joined : (x : ℕ × Money) (n : ℕ) (ys : Rows) → Member (map (λ (r : ℕ × Money). r.0) ys) n → Member (map (λ (r : ℕ × Money). r.0) (ys ++ x ∷ [])) n
member_joined x n [] k = absurd k
member_joined x n (y ∷ ys) (inl e) = inl e
member_joined x n (y ∷ ys) (inr k) = inr (member_joined x n ys k)

member_last : (x : ℕ × Money) (n : ℕ) (ys : Rows) → x.0 ≡ n → Member (map (λ (r : ℕ × Money). r.0) (ys ++ x ∷ [])) n
member_last x n [] e = inl e
member_last x n (y ∷ ys) e = inr (member_last x n ys e)

member_turned : (xs : Rows) (n : ℕ) → Member (map (λ (r : ℕ × Money). r.0) xs) n → Member (map (λ (r : ℕ × Money). r.0) (reverse xs)) n
member_turned [] n m = m
member_turned (x ∷ xs) n m = subst (λ (l : Rows). Member (map (λ (r : ℕ × Money). r.0) l) n) (sym (reverse-append (x ∷ []) xs)) (by m (member_turned xs n))
  where
    by : (x.0 ≡ n) ⊎ Member (map (λ (r : ℕ × Money). r.0) xs) n → (Member (map (λ (r : ℕ × Money). r.0) xs) n → Member (map (λ (r : ℕ × Money). r.0) (reverse xs)) n) → Member (map (λ (r : ℕ × Money). r.0) (reverse xs ++ x ∷ [])) n
    by (inl e) later = member_last x n (reverse xs) e
    by (inr k) later = member_joined x n (reverse xs) (later k)

pub ratio_stands : (o : List ℕ) (n : ℕ) (hs : Histories) → is_some (at period_cmp hs (o, n)) ≡ true → Contains (map (λ (r : ℕ × Money). r.0) (reverse (rows_in o hs))) n
ratio_stands o n hs e = contained (map (λ (r : ℕ × Money). r.0) (reverse (rows_in o hs))) n (member_turned (rows_in o hs) n (row_stands o n hs e))

-- ---- ratios grow

-- no amount of the one is above the other's
abbrev pub AtMost : Money → Money → Type 0
AtMost x y = (d : List ℕ) → amount_of x d ≤ amount_of y d

at_most_itself : (x : Money) → AtMost x x
at_most_itself x d = omega arith

at_most_then : (x y z : Money) → AtMost x y → AtMost y z → AtMost x z
at_most_then x y z h k d = let a : amount_of x d ≤ amount_of y d = h d in let b : amount_of y d ≤ amount_of z d = k d in omega (arith, a, b)

nothing_least : (x : Money) → AtMost [] x
nothing_least x d = least (amount_of x d)
  where
    least : (n : ℕ) → 0 ≤ n
    least n = omega arith

-- the test tells it
pub at_most_told : (x y : Money) → is_at_most x y ≡ true → AtMost x y
at_most_told [] y t d = nothing_least y d
at_most_told (c ∷ cs) y t d = by (is_at (denom_cmp d) c.0) refl (at_most_told cs y (second_true (is_within c.0 c.1 y) (is_at_most cs y) t) d)
  where
    first : nat_le c.1 (amount_of y c.0) ≡ true
    first = first_true (is_within c.0 c.1 y) (is_at_most cs y) t

    by : (b : Bool) → is_at (denom_cmp d) c.0 ≡ b → amount_of cs d ≤ amount_of y d → amount_of (c ∷ cs) d ≤ amount_of y d
    by true same k = subst (λ b. unwrap_or (cond b (Some c.1) (at denom_cmp cs d)) 0 ≤ amount_of y d) (sym same) (subst (λ q. c.1 ≤ amount_of y q) (sym (exact_bytes d c.0 (equal (denom_cmp d c.0) same))) (at_most_is c.1 (amount_of y c.0) first))
    by false other k = subst (λ b. unwrap_or (cond b (Some c.1) (at denom_cmp cs d)) 0 ≤ amount_of y d) (sym other) k

-- each ratio is at least the one before it, and the first one at least this
abbrev pub Chain : Money → Rows → Type 0
Chain x [] = Unit {0}
Chain x (r ∷ rs) = AtMost x r.1 × Chain r.1 rs

chain_below : (x y : Money) (rs : Rows) → AtMost x y → Chain y rs → Chain x rs
chain_below x y [] h c = tt
chain_below x y (r ∷ rs) h c = (at_most_then x y r.1 h c.0, c.1)

pub grows : (a b : ℕ) → a ≤ b → (rs : Rows) (x y : Money) → AtMost x y → Chain y rs → AtMost (latest rs a x) (latest rs b y)
grows a b le [] x y h c = h
grows a b le (r ∷ rs) x y h c = by (nat_le r.0 a) refl (nat_le r.0 b) refl (λ v w k d. grows a b le rs v w k d)
  where
    by : (p : Bool) → nat_le r.0 a ≡ p → (q : Bool) → nat_le r.0 b ≡ q → ((v w : Money) → AtMost v w → Chain w rs → AtMost (latest rs a v) (latest rs b w))
        → AtMost (latest rs a (if p then r.1 else x)) (latest rs b (if q then r.1 else y))
    by true e true f later = later r.1 r.1 (at_most_itself r.1) c.1
    by true e false f later = absurd (grind (arith, nat_tests))
    by false e true f later = later x r.1 (at_most_then x y r.1 h c.0) c.1
    by false e false f later = later x y h (chain_below y r.1 rs c.0 c.1)

or_else : (a b : Bool) → a ≡ true → (not a || b) ≡ true → b ≡ true
or_else true b h t = t
or_else false b h t = absurd cc

-- records that don't fall behind one of the operator are a chain from it
chain_from : (o : List ℕ) (last : (List ℕ × ℕ) × Historical) (hs : Histories) → last.0.0 ≡ o → IsStrictlySortedBy period_cmp (keys_of (last ∷ hs)) → do_ratios_grow (Some last) hs ≡ true → Chain last.1.ratio (rows_in o hs)
unfolding IsStrictlySortedBy
chain_from o last [] own s t = tt
chain_from o last (h ∷ hs) own s t = by (same_addr h.0.0 o) refl (λ is. chain_from o h hs is s.1 (second_true (does_not_fall (Some last) h) (do_ratios_grow (Some h) hs) t))
  where
    falls_not : same_addr h.0.0 o ≡ true → is_at_most last.1.ratio h.1.ratio ≡ true
    falls_not e = or_else (same_addr last.0.0 h.0.0) (is_at_most last.1.ratio h.1.ratio) (ap (λ q. same_addr q h.0.0) own ∙ same_back o h.0.0 ∙ e) (first_true (does_not_fall (Some last) h) (do_ratios_grow (Some h) hs) t)

    later : same_addr h.0.0 o ≡ false → (addr_cmp last.0.0 h.0.0 ≡ Less) ⊎ ((last.0.0 ≡ h.0.0) × (last.0.1 < h.0.1)) → addr_cmp o h.0.0 ≡ Less
    later e (inl less) = subst (λ q. addr_cmp q h.0.0 ≡ Less) own less
    later e (inr same) = absurd (true≢false (sym (ap (λ q. same_addr q o) (sym same.0) ∙ ap (λ q. same_addr q o) own ∙ same_itself o) ∙ e))

    by : (b : Bool) → same_addr h.0.0 o ≡ b → (h.0.0 ≡ o → Chain h.1.ratio (rows_in o hs))
        → Chain last.1.ratio (map (λ (x : (List ℕ × ℕ) × Historical). (x.0.1, x.1.ratio)) (cond b (h ∷ filter (λ x. same_addr x.0.0 o) hs) (filter (λ x. same_addr x.0.0 o) hs)))
    by true e k = (at_most_told last.1.ratio h.1.ratio (falls_not e), k (same_is h.0.0 o e))
    by false e k = subst (Chain last.1.ratio) (sym (none_behind o h.0 hs (later e (period_above last.0 h.0 s.0.0)) s.1.0)) tt

pub chain_told : (o : List ℕ) (last : Option ((List ℕ × ℕ) × Historical)) (hs : Histories) → IsStrictlySortedBy period_cmp (keys_of hs) → do_ratios_grow last hs ≡ true → Chain [] (rows_in o hs)
unfolding IsStrictlySortedBy
chain_told o last [] s t = tt
chain_told o last (h ∷ hs) s t = by (same_addr h.0.0 o) refl (chain_told o (Some h) hs s.1 rest)
  where
    rest : do_ratios_grow (Some h) hs ≡ true
    rest = second_true (does_not_fall last h) (do_ratios_grow (Some h) hs) t

    by : (b : Bool) → same_addr h.0.0 o ≡ b → Chain [] (rows_in o hs)
        → Chain [] (map (λ (x : (List ℕ × ℕ) × Historical). (x.0.1, x.1.ratio)) (cond b (h ∷ filter (λ x. same_addr x.0.0 o) hs) (filter (λ x. same_addr x.0.0 o) hs)))
    by true e k = (nothing_least h.1.ratio, chain_from o h hs (same_is h.0.0 o e) s rest)
    by false e k = k

-- ratios of an operator grow with the period
pub ratios_rise : (o : List ℕ) (hs : Histories) (a b : ℕ) → a ≤ b → IsStrictlySortedBy period_cmp (keys_of hs) → do_ratios_grow None hs ≡ true → AtMost (ratio_at (reverse (rows_in o hs)) a) (ratio_at (reverse (rows_in o hs)) b)
ratios_rise o hs a b le s t d =
    subst (λ x. amount_of x d ≤ amount_of (ratio_at (reverse (rows_in o hs)) b) d) (sym (ratio_told (rows_in o hs) a))
    (subst (λ x. amount_of (latest (rows_in o hs) a []) d ≤ amount_of x d) (sym (ratio_told (rows_in o hs) b)) (grows a b le (rows_in o hs) [] [] (at_most_itself []) (chain_told o None hs s t) d))
