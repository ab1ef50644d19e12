-- The slash events of an operator once one more stands, and what is known of their periods.
use Rattle.std.proofs.Common.{◌≡◌, ◌≢◌, ℕ, suc, ◌+◌, ◌<◌, ◌≤◌, ◌==◌, Bool, true, false, cond, List, [], ◌∷◌, ◌++◌, All, AllPairs, filter, map, refl, Ordering, Less, Equal, Greater, nat_cmp, sym, ◌∙◌, ap, arith}
use Rattle.std.specs.{BTreeMap.insert_entry, Cmp.nat_cmp_is, List.{AllByRecursion, Sorted.IsStrictlySortedBy}}
use Rattle.std.{specs.{Map.keys_of, Ordering.{ordering_then, match_ordering}}, proofs.lemmas.Bool.Decides.nat_tests}
use Rattle.std.proofs.lemmas.List.{Elements.{All-nil, All-cons, All-head, All-tail, All-push}, Kept.AllPairs-cons}
use Rattle.std.proofs.lemmas.Map.{Keys.{sorted_head, sorted_tail}, Lookups.exact_bytes}
use Rattle.base_types.specs.Orders.{addr_cmp}
use Rattle.base_roles.specs.{declared.entities.SlashEvent.SlashEvent, Orders.{pair_cmp, same_addr}}
use Rattle.rule_modules.specs.Amounts.{count_where}
use Rattle.mod_periods.specs.Kept.{Kept, event_cmp, event_at, events_of, with_event}
use Rattle.mod_periods.proofs.OrderLemmas.{event_total, equal, same_is, same_itself}
use Rattle.mod_periods.proofs.TallyLemmas.{Respects, passing-put}

abbrev pub Slashes : Type 0
Slashes = List ((List ℕ × ℕ × ℕ) × ℕ)

first_equal : (a b : Ordering) → ordering_then a b ≡ Equal → a ≡ Equal
first_equal Less b h = cc
first_equal Equal b h = refl
first_equal Greater b h = cc

same_keys : (k x o : List ℕ) → addr_cmp k x ≡ Equal → same_addr x o ≡ same_addr k o
same_keys k x o h = ap (λ a. same_addr a o) (sym (exact_bytes k x h))

pub events-respect : (o : List ℕ) → Respects event_cmp (λ key. same_addr key.0 o)
events-respect o k x h = same_keys k.0 x.0 o (first_equal _ (nat_cmp k.1 x.1) (first_equal (ordering_then (addr_cmp k.0 x.0) (nat_cmp k.1 x.1)) (nat_cmp k.2 x.2) h))

pub pairs-respect : (o : List ℕ) → Respects pair_cmp (λ key. same_addr key.0 o)
pairs-respect o k x h = same_keys k.0 x.0 o (first_equal _ (addr_cmp k.1 x.1) h)

-- another operator's events stay
pub events-other : (k : Kept) (o q : List ℕ) (e : SlashEvent) → same_addr o q ≡ false → events_of (with_event o e k) q ≡ events_of k q
events-other k o q e h = ap (map event_at) (passing-put event_cmp (λ key. same_addr key.0 q) (events-respect q) k.events (o, e.height, e.period) e.fraction h)

-- ---- the new event comes last

-- each event of the operator has a key below this one
abbrev AreBelow : List ℕ × ℕ × ℕ → Slashes → Type 0
AreBelow key es = AllByRecursion (λ e. same_addr e.0.0 key.0 ≡ true → event_cmp key e.0 ≡ Greater) es

none_after : (key : List ℕ × ℕ × ℕ) (es : Slashes) → AllByRecursion (λ x. event_cmp key x ≡ Less) (keys_of es) → AreBelow key es → filter (λ e. same_addr e.0.0 key.0) es ≡ []
none_after key [] above below = refl
none_after key (e ∷ es) above below = by (same_addr e.0.0 key.0) refl (none_after key es above.1 below.1)
  where
    by : (b : Bool) → same_addr e.0.0 key.0 ≡ b → filter (λ d. same_addr d.0.0 key.0) es ≡ [] → cond b (e ∷ filter (λ d. same_addr d.0.0 key.0) es) (filter (λ d. same_addr d.0.0 key.0) es) ≡ []
    by true t later = let apart : Less ≡ Greater = sym above.0 ∙ below.0 t in cc
    by false t later = later

above_all : (key x : List ℕ × ℕ × ℕ) (es : Slashes) → event_cmp key x ≡ Less → AllByRecursion (λ y. event_cmp x y ≡ Less) (keys_of es) → AllByRecursion (λ y. event_cmp key y ≡ Less) (keys_of es)
above_all key x [] p h = tt
above_all key x (e ∷ es) p h = (event_total.trans key x e.0 p h.0, above_all key x es p h.1)

last_of : (key : List ℕ × ℕ × ℕ) (v : ℕ) (es : Slashes) → IsStrictlySortedBy event_cmp (keys_of es) → AreBelow key es
    → filter (λ e. same_addr e.0.0 key.0) (insert_entry event_cmp es key v) ≡ filter (λ e. same_addr e.0.0 key.0) es ++ (key, v) ∷ []
last_of key v [] s below = ap (λ b. cond b ((key, v) ∷ []) []) (same_itself key.0)
last_of key v (e ∷ es) s below = by (event_cmp key e.0) refl (last_of key v es (sorted_tail event_cmp e.0 (keys_of es) s) below.1)
  where
    own : Slashes → Slashes
    own ds = filter (λ d. same_addr d.0.0 key.0) ds

    by : (r : Ordering) → event_cmp key e.0 ≡ r → filter (λ d. same_addr d.0.0 key.0) (insert_entry event_cmp es key v) ≡ filter (λ d. same_addr d.0.0 key.0) es ++ (key, v) ∷ []
        → filter (λ d. same_addr d.0.0 key.0) (match_ordering r ((key, v) ∷ e ∷ es) ((e.0, v) ∷ es) (e ∷ insert_entry event_cmp es key v)) ≡ filter (λ d. same_addr d.0.0 key.0) (e ∷ es) ++ (key, v) ∷ []
    by Less t later =
        let none : filter (λ d. same_addr d.0.0 key.0) (e ∷ es) ≡ [] = none_after key (e ∷ es) (t, above_all key e.0 es t (sorted_head event_cmp e.0 (keys_of es) s)) below in
        ap (λ b. cond b ((key, v) ∷ filter (λ d. same_addr d.0.0 key.0) (e ∷ es)) (filter (λ d. same_addr d.0.0 key.0) (e ∷ es))) (same_itself key.0)
        ∙ ap (λ l. (key, v) ∷ l) none ∙ sym (ap (λ l. l ++ (key, v) ∷ []) none)
    by Equal t later =
        let own_key : same_addr e.0.0 key.0 ≡ true = events-respect key.0 key e.0 t ∙ same_itself key.0 in
        let apart : Equal ≡ Greater = sym t ∙ below.0 own_key in cc
    by Greater t later = two (same_addr e.0.0 key.0) later
      where
        two : (b : Bool) → filter (λ d. same_addr d.0.0 key.0) (insert_entry event_cmp es key v) ≡ filter (λ d. same_addr d.0.0 key.0) es ++ (key, v) ∷ []
            → cond b (e ∷ filter (λ d. same_addr d.0.0 key.0) (insert_entry event_cmp es key v)) (filter (λ d. same_addr d.0.0 key.0) (insert_entry event_cmp es key v))
            ≡ cond b (e ∷ filter (λ d. same_addr d.0.0 key.0) es) (filter (λ d. same_addr d.0.0 key.0) es) ++ (key, v) ∷ []
        two true step = ap (λ l. e ∷ l) step
        two false step = step

higher : (a b c : Ordering) → a ≡ Equal → b ≢ Less → c ≡ Greater → ordering_then (ordering_then a b) c ≡ Greater
higher Less b c x y z = cc
higher Equal Less c x y z = absurd (y refl)
higher Equal Equal c x y z = z
higher Equal Greater c x y z = refl
higher Greater b c x y z = cc

not_less : (a b : ℕ) → b ≤ a → nat_cmp a b ≢ Less
not_less a b h e = grind (arith, nat_tests)

is_greater : (a b : ℕ) → b < a → nat_cmp a b ≡ Greater
is_greater a b h = sym (nat_cmp_is a b Greater h)

-- events that are not higher, and of earlier periods, have keys below
below_key : (o : List ℕ) (height period : ℕ) (es : Slashes)
    → All (λ d. d.height ≤ height) (map event_at (filter (λ e. same_addr e.0.0 o) es))
    → All (λ d. d.period < period) (map event_at (filter (λ e. same_addr e.0.0 o) es))
    → AreBelow (o, height, period) es
below_key o height period [] h p = tt
below_key o height period (e ∷ es) h p = by (same_addr e.0.0 o) refl (λ a b. below_key o height period es a b) h p
  where
    rest : Slashes
    rest = filter (λ d. same_addr d.0.0 o) es

    by : (b : Bool) → same_addr e.0.0 o ≡ b
        → (All (λ d. d.height ≤ height) (map event_at (filter (λ d. same_addr d.0.0 o) es)) → All (λ d. d.period < period) (map event_at (filter (λ d. same_addr d.0.0 o) es)) → AreBelow (o, height, period) es)
        → All (λ d. d.height ≤ height) (map event_at (cond b (e ∷ filter (λ d. same_addr d.0.0 o) es) (filter (λ d. same_addr d.0.0 o) es)))
        → All (λ d. d.period < period) (map event_at (cond b (e ∷ filter (λ d. same_addr d.0.0 o) es) (filter (λ d. same_addr d.0.0 o) es)))
        → AreBelow (o, height, period) (e ∷ es)
    by true t later h p = (
      (λ own. higher (addr_cmp o e.0.0) (nat_cmp height e.0.1) (nat_cmp period e.0.2)
          (event_total_first own) (not_less height e.0.1 (All-head (λ (d : SlashEvent). d.height ≤ height) (event_at e) (map event_at (filter (λ d. same_addr d.0.0 o) es)) h))
          (is_greater period e.0.2 (All-head (λ (d : SlashEvent). d.period < period) (event_at e) (map event_at (filter (λ d. same_addr d.0.0 o) es)) p))),
      later (All-tail (λ (d : SlashEvent). d.height ≤ height) (event_at e) (map event_at (filter (λ d. same_addr d.0.0 o) es)) h) (All-tail (λ (d : SlashEvent). d.period < period) (event_at e) (map event_at (filter (λ d. same_addr d.0.0 o) es)) p),
    )
      where
        event_total_first : same_addr e.0.0 o ≡ true → addr_cmp o e.0.0 ≡ Equal
        event_total_first own = equal _ (ap (λ a. same_addr o a) (same_is e.0.0 o own) ∙ same_itself o)
    by false t later h p = ((λ own. let apart : false ≡ true = sym t ∙ own in cc), later h p)

-- the operator's own events, once one stands at this height and period
pub events-own : (k : Kept) (o : List ℕ) (e : SlashEvent) → IsStrictlySortedBy event_cmp (keys_of k.events)
    → All (λ d. d.height ≤ e.height) (events_of k o) → All (λ d. d.period < e.period) (events_of k o)
    → events_of (with_event o e k) o ≡ events_of k o ++ e ∷ []
events-own k o e s h p =
    ap (map event_at) (last_of (o, e.height, e.period) e.fraction k.events s (below_key o e.height e.period k.events h p)) ∙ map_last (filter (λ d. same_addr d.0.0 o) k.events)
  where
    map_last : (es : Slashes) → map event_at (es ++ ((o, e.height, e.period), e.fraction) ∷ []) ≡ map event_at es ++ e ∷ []
    map_last [] = refl
    map_last (d ∷ es) = ap (λ l. event_at d ∷ l) (map_last es)

-- ---- periods of events

counted_first : (e : SlashEvent) (es : List SlashEvent) → 1 ≤ count_where (λ d. d.period == e.period) (e ∷ es)
counted_first e es = by (e.period == e.period) (grind (arith, nat_tests))
  where
    by : (b : Bool) → b ≡ true → 1 ≤ cond b 1 0 + count_where (λ d. d.period == e.period) es
    by true h = omega arith
    by false h = cc

-- where no event refers to a period from one on, each has an earlier period
pub events-earlier : (c : ℕ) (es : List SlashEvent) → ((m : ℕ) → c ≤ m → count_where (λ d. d.period == m) es ≡ 0) → All (λ d. d.period < c) es
events-earlier c [] h = All-nil (λ (d : SlashEvent). d.period < c)
events-earlier c (e ∷ es) h =
    let late : c ≤ e.period → ⊥ = λ le. omega (arith, counted_first e es, h e.period le) in
    All-cons (λ (d : SlashEvent). d.period < c) e es (omega (arith, late)) (events-earlier c es (λ m le. omega (arith, h m le)))

-- one less where the last ended period has no event
pub events-before : (n : ℕ) (es : List SlashEvent) → All (λ d. d.period < n + 1) es → All (λ d. d.period ≢ n) es → All (λ d. d.period < n) es
events-before n [] h z = All-nil (λ (d : SlashEvent). d.period < n)
events-before n (e ∷ es) h z =
    let below : e.period < n + 1 = All-head (λ (d : SlashEvent). d.period < n + 1) e es h in
    let other : e.period ≢ n = All-head (λ (d : SlashEvent). d.period ≢ n) e es z in
    All-cons (λ (d : SlashEvent). d.period < n) e es (omega (arith, below, other)) (events-before n es (All-tail (λ (d : SlashEvent). d.period < n + 1) e es h) (All-tail (λ (d : SlashEvent). d.period ≢ n) e es z))

-- events stay in order where the last one is above all
pub ascend-last : {X : Type 0} (R : X → X → Type 0) (xs : List X) (y : X) → AllPairs R xs → All (λ x. R x y) xs → AllPairs R (xs ++ y ∷ [])
ascend-last R [] y h above = AllPairs-cons R y [] (All-nil (R y)) h
ascend-last R (x ∷ xs) y h above =
    AllPairs-cons R x (xs ++ y ∷ []) (All-push (R x) xs y (λ k d within. h 0 (suc k) d (omega arith) (omega arith)) (All-head (λ z. R z y) x xs above))
    (ascend-last R xs y (λ i j d lt within. h (suc i) (suc j) d (omega arith) (omega arith)) (All-tail (λ z. R z y) x xs above))
