-- How many refer to a period, told by the periods of its operator; and that records stand where something refers.
use Rattle.std.proofs.Common.{◌≡◌, ◌∙◌, ℕ, ◌+◌, ◌-◌, ◌<◌, ◌≤◌, Bool, true, false, cond, List, [], ◌∷◌, Some, None, map, refl, sym, ap, subst, arith, zero-add, ◌==◌, ◌&&◌, filter, is_some, Ordering, Less, is_eq, true≢false}
use Rattle.std.specs.{BTreeMap.is_at, Cmp.IsTotalOrder, List.{AllByRecursion, list_all, Sorted.IsStrictlySortedBy}}
use Rattle.std.{specs.Map.keys_of, proofs.lemmas.Bool.Decides.nat_tests}
use Rattle.base_types.specs.Orders.{addr_cmp}
use Rattle.base_roles.specs.{declared.entities.{SlashEvent.SlashEvent, StartingInfo.StartingInfo}, Entries.at}
use Rattle.base_roles.specs.Orders.{same_addr}
use Rattle.rule_modules.specs.{Amounts.count_where, Periods.{references_of, starts_of}}
use Rattle.rule_modules.proofs.OrderLemmas.{same_back, same_is}
use Rattle.mod_periods.proofs.OrderLemmas.{period_found}
use Rattle.store_soundness.specs.Events.{is_event_sound}
use Rattle.store_soundness.specs.Histories.{refer_currents, refer_starts, refer_events, references_at}
use Rattle.store_soundness.{specs.Standing.{are_begun, is_before, is_begun}, proofs.TallyLemmas.lookup_alike}
use Rattle.store_records.specs.{Plain.{SharedSeen, event_at, period_cmp}, States.{periods_in, rewards_of}}

pub first_true : (a b : Bool) → (a && b) ≡ true → a ≡ true
first_true true b h = refl
first_true false b h = h

pub second_true : (a b : Bool) → (a && b) ≡ true → b ≡ true
second_true true b h = h
second_true false b h = absurd (true≢false (sym h))

turned : (n m : ℕ) → (n == m) ≡ (m == n)
turned n m = grind (arith, nat_tests)

-- ---- what is counted among all, and among those of the operator

counted_own : {A B : Type 0} (f : A → Bool) (g : B → Bool) (own : A → Bool) (to : A → B) → ((x : A) → f x ≡ (own x && g (to x))) → (xs : List A) → count_where f xs ≡ count_where g (map to (filter own xs))
counted_own f g own to h [] = refl
counted_own f g own to h (x ∷ xs) = ap (λ b. cond b 1 0 + count_where f xs) (h x) ∙ by (own x) (counted_own f g own to h xs)
  where
    by : (b : Bool) → count_where f xs ≡ count_where g (map to (filter own xs)) → cond (b && g (to x)) 1 0 + count_where f xs ≡ count_where g (map to (cond b (x ∷ filter own xs) (filter own xs)))
    by true k = ap (λ m. cond (g (to x)) 1 0 + m) k
    by false k = zero-add (count_where f xs) ∙ k

found_so : (o p : List ℕ) (n m : ℕ) → is_at (period_cmp (o, n)) (p, m) ≡ (same_addr p o && (m == n))
found_so o p n m = period_found o p n m ∙ (λ i. same_back o p i && turned n m i)

-- none refers to a period of the operator, where no key is of it
none_counted : {E : Type 0} (key : E → List ℕ × ℕ) (o : List ℕ) (n : ℕ) (es : List E) → AllByRecursion (λ e. same_addr (key e).0 o ≡ false) es → count_where (λ e. is_at (period_cmp (o, n)) (key e)) es ≡ 0
none_counted key o n [] h = refl
none_counted key o n (e ∷ es) h =
    ap (λ b. cond b 1 0 + count_where (λ e. is_at (period_cmp (o, n)) (key e)) es) (found_so o (key e).0 n (key e).1 ∙ ap (λ b. b && ((key e).1 == n)) h.0)
    ∙ zero-add (count_where (λ e. is_at (period_cmp (o, n)) (key e)) es) ∙ none_counted key o n es h.1

-- ---- the period that runs

below_none : (o : List ℕ) (es : List (List ℕ × ℕ)) → AllByRecursion (λ k. addr_cmp o k ≡ Less) (keys_of es) → AllByRecursion (λ (e : List ℕ × ℕ). same_addr e.0 o ≡ false) es
below_none o [] h = tt
below_none o (e ∷ es) h = (same_back e.0 o ∙ ap is_eq h.0, below_none o es h.1)

last_one : (c n : ℕ) → 1 ≤ c → (c - 1 == n) ≡ (c == n + 1)
last_one c n h = grind (arith, nat_tests)

pub current_counted : (o : List ℕ) (c n : ℕ) → 1 ≤ c → (es : List (List ℕ × ℕ)) → IsStrictlySortedBy addr_cmp (keys_of es) → at addr_cmp es o ≡ Some c → refer_currents es (o, n) ≡ cond (c == n + 1) 1 0
unfolding IsStrictlySortedBy
current_counted o c n first [] s e = absurd cc
current_counted o c n first (x ∷ es) s e =
    ap (λ b. cond b 1 0 + refer_currents es (o, n)) (found_so o x.0 n (x.1 - 1) ∙ ap (λ b. b && (x.1 - 1 == n)) (same_back x.0 o))
    ∙ by (same_addr o x.0) refl e (current_counted o c n first es s.1)
  where
    by : (b : Bool) → same_addr o x.0 ≡ b → cond b (Some x.1) (at addr_cmp es o) ≡ Some c → (at addr_cmp es o ≡ Some c → refer_currents es (o, n) ≡ cond (c == n + 1) 1 0)
        → cond (b && (x.1 - 1 == n)) 1 0 + refer_currents es (o, n) ≡ cond (c == n + 1) 1 0
    by true t f later =
        let is : x.1 ≡ c = cc in
        let own : o ≡ x.0 = same_is o x.0 t in
        let rest : refer_currents es (o, n) ≡ 0 = none_counted (λ (y : List ℕ × ℕ). (y.0, y.1 - 1)) o n es (below_none o es (subst (λ p. AllByRecursion (λ k. addr_cmp p k ≡ Less) (keys_of es)) (sym own) s.0)) in
        (λ i. cond (is i - 1 == n) 1 0 + rest i) ∙ by_last (c == n + 1) (last_one c n first)
      where
        by_last : (b : Bool) → (c - 1 == n) ≡ b → cond (c - 1 == n) 1 0 + 0 ≡ cond b 1 0
        by_last true e = ap (λ b. cond b 1 0 + 0) e
        by_last false e = ap (λ b. cond b 1 0 + 0) e
    by false t f later = zero-add (refer_currents es (o, n)) ∙ later f

-- no period runs
pub none_running : (o : List ℕ) (es : List (List ℕ × ℕ)) → at addr_cmp es o ≡ None → AllByRecursion (λ (e : List ℕ × ℕ). same_addr e.0 o ≡ false) es
none_running o [] h = tt
none_running o (e ∷ es) h = by (same_addr o e.0) (same_back e.0 o) h (none_running o es)
  where
    by : (b : Bool) → same_addr e.0 o ≡ b → cond b (Some e.1) (at addr_cmp es o) ≡ None → (at addr_cmp es o ≡ None → AllByRecursion (λ (x : List ℕ × ℕ). same_addr x.0 o ≡ false) es) → AllByRecursion (λ (x : List ℕ × ℕ). same_addr x.0 o ≡ false) (e ∷ es)
    by true t f later = absurd cc
    by false t f later = (t, later f)

-- ---- starts and slash events

-- where no period of the operator runs, nothing before its period is of it
other : (o p : List ℕ) (n : ℕ) (currents : List (List ℕ × ℕ)) → at addr_cmp currents o ≡ None → is_before n (at addr_cmp currents p) ≡ true → same_addr p o ≡ false
other o p n currents none before = by (same_addr p o) refl
  where
    by : (b : Bool) → same_addr p o ≡ b → b ≡ false
    by false t = refl
    by true t = absurd (true≢false (sym before ∙ ap (λ q. is_before n (at addr_cmp currents q)) (same_is p o t) ∙ ap (is_before n) none))

pub none_started : (height : ℕ) (o : List ℕ) (currents : List (List ℕ × ℕ)) → at addr_cmp currents o ≡ None → (es : List ((List ℕ × List ℕ) × StartingInfo)) → are_begun height currents es ≡ true
    → AllByRecursion (λ (e : (List ℕ × List ℕ) × StartingInfo). same_addr e.0.0 o ≡ false) es
none_started height o currents none [] t = tt
none_started height o currents none (e ∷ es) t = (
  other o e.0.0 e.1.period currents none (first_true (is_before e.1.period (at addr_cmp currents e.0.0)) _ (first_true (is_begun height currents e.0.0 e.1) (are_begun height currents es) t)),
  none_started height o currents none es (second_true (is_begun height currents e.0.0 e.1) (are_begun height currents es) t),
)

abbrev pub are_single : ℕ → List (List ℕ × ℕ) → List ((List ℕ × ℕ × ℕ) × ℕ) → Bool
are_single height currents es = list_all (λ e. is_event_sound height currents e.0 e.1) es

pub none_slashed : (height : ℕ) (o : List ℕ) (currents : List (List ℕ × ℕ)) → at addr_cmp currents o ≡ None → (es : List ((List ℕ × ℕ × ℕ) × ℕ)) → are_single height currents es ≡ true
    → AllByRecursion (λ (e : (List ℕ × ℕ × ℕ) × ℕ). same_addr e.0.0 o ≡ false) es
none_slashed height o currents none [] t = tt
none_slashed height o currents none (e ∷ es) t = (
  other o e.0.0 e.0.2 currents none
      (first_true (is_before e.0.2 (at addr_cmp currents e.0.0)) _ (first_true (is_before e.0.2 (at addr_cmp currents e.0.0) && _) _ (first_true (is_event_sound height currents e.0 e.1) (are_single height currents es) t))),
  none_slashed height o currents none es (second_true (is_event_sound height currents e.0 e.1) (are_single height currents es) t),
)

-- ---- references

-- a period of an operator has the references that its periods and starts tell
pub references_told : (s : SharedSeen) (o : List ℕ) (c n : ℕ) → 1 ≤ c → IsStrictlySortedBy addr_cmp (keys_of s.currents) → at addr_cmp s.currents o ≡ Some c
    → references_at s (o, n) ≡ references_of (periods_in s o c) (starts_of (rewards_of s) o) n
references_told s o c n first ascend e =
    let runs = current_counted o c n first s.currents ascend e in
    let starts : refer_starts s.starts (o, n) ≡ count_where (λ (i : StartingInfo). i.period == n) (starts_of (rewards_of s) o)
    = counted_own (λ (x : (List ℕ × List ℕ) × StartingInfo). is_at (period_cmp (o, n)) (x.0.0, x.1.period)) (λ (i : StartingInfo). i.period == n) (λ x. same_addr x.0.0 o) (λ x. x.1) (λ x. found_so o x.0.0 n x.1.period) s.starts in
    let events : refer_events s.events (o, n) ≡ count_where (λ (v : SlashEvent). v.period == n) (periods_in s o c).events
    = counted_own (λ (x : (List ℕ × ℕ × ℕ) × ℕ). is_at (period_cmp (o, n)) (x.0.0, x.0.2)) (λ (v : SlashEvent). v.period == n) (λ x. same_addr x.0.0 o) event_at (λ x. found_so o x.0.0 n x.0.2) s.events in
    λ i. runs i + (starts i + events i)

-- where no period of an operator runs, nothing refers to its periods
pub none_refers : (height : ℕ) (s : SharedSeen) (o : List ℕ) (n : ℕ) → are_begun height s.currents s.starts ≡ true → are_single height s.currents s.events ≡ true → at addr_cmp s.currents o ≡ None → references_at s (o, n) ≡ 0
none_refers height s o n begun single none =
    let runs : refer_currents s.currents (o, n) ≡ 0 = none_counted (λ (y : List ℕ × ℕ). (y.0, y.1 - 1)) o n s.currents (none_running o s.currents none) in
    let starts : refer_starts s.starts (o, n) ≡ 0 = none_counted (λ (x : (List ℕ × List ℕ) × StartingInfo). (x.0.0, x.1.period)) o n s.starts (none_started height o s.currents none s.starts begun) in
    let events : refer_events s.events (o, n) ≡ 0 = none_counted (λ (x : (List ℕ × ℕ × ℕ) × ℕ). (x.0.0, x.0.2)) o n s.events (none_slashed height o s.currents none s.events single) in
    λ i. runs i + (starts i + events i)

-- a key to which something refers stands, where each key to which something refers does
pub refers_stands : {K V E : Type 0} (cmp : K → K → Ordering) (t : IsTotalOrder cmp) (key : E → K) (k : K) (hs : List (K × V)) (es : List E) → 0 < count_where (λ e. is_at (cmp k) (key e)) es
    → list_all (λ e. is_some (at cmp hs (key e))) es ≡ true → is_some (at cmp hs k) ≡ true
refers_stands cmp t key k hs [] h all = absurd (omega (arith, h))
refers_stands cmp t key k hs (e ∷ es) h all = by (is_at (cmp k) (key e)) refl h (λ r. refers_stands cmp t key k hs es r (second_true (is_some (at cmp hs (key e))) (list_all (λ x. is_some (at cmp hs (key x))) es) all))
  where
    by : (b : Bool) → is_at (cmp k) (key e) ≡ b → 0 < cond b 1 0 + count_where (λ x. is_at (cmp k) (key x)) es → (0 < count_where (λ x. is_at (cmp k) (key x)) es → is_some (at cmp hs k) ≡ true) → is_some (at cmp hs k) ≡ true
    by true same r later = sym (ap is_some (lookup_alike cmp t hs (key e) k same)) ∙ first_true (is_some (at cmp hs (key e))) (list_all (λ x. is_some (at cmp hs (key x))) es) all
    by false apart r later = later (subst (λ m. 0 < m) (zero-add (count_where (λ x. is_at (cmp k) (key x)) es)) r)
