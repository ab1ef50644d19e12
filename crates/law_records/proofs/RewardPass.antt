-- The records of sound rewards pass the tests of distribution.
use Rattle.std.proofs.Common.{◌≡◌, ◌∙◌, ℕ, suc, ◌+◌, ◌-◌, ◌^◌, ◌<◌, ◌≤◌, Bool, true, false, cond, List, [], ◌∷◌, length, Option, Some, None, option_map, map, refl, sym, ap, subst, arith, inl, inr, ◌==◌, ◌&&◌, ◌||◌, ◌⊎◌, filter, not, nat_lt, nat_le, is_some, unwrap_or, if◌then◌else◌, All, Less, is_eq, true≢false}
use Rattle.std.specs.{BTreeMap.is_at, List.{AllByRecursion, list_all, Sorted.IsStrictlySortedBy}, Map.keys_of}
use Rattle.std.proofs.lemmas.Bool.Decides.{nat_tests}
use Rattle.std.proofs.lemmas.List.Elements.{All-contains, All-map, All-weaker, recursion_from_All}
use Rattle.std.proofs.lemmas.Map.Lookups.{exact_bytes}
use Rattle.base_types.specs.Orders.{addr_cmp, denom_cmp}
use Rattle.base_coins.specs.Coins.{Money, IsMoney, amount_of}
use Rattle.base_roles.specs.declared.entities.{Historical.Historical, SlashEvent.SlashEvent, StartingInfo.StartingInfo}
use Rattle.base_roles.specs.{Entries.at, Orders.{pair_cmp, same_addr}, Ranges.is_within}
use Rattle.base_roles.proofs.HoldingLemmas.{denom_total}
use Rattle.base_records.proofs.MemberLemmas.{Member, contained}
use Rattle.rule_modules.specs.{Amounts.count_where, Distribution.Shared}
use Rattle.rule_modules.specs.Periods.{Periods, Rewards, initial_records, ratio_at, references_of, start_of, starts_of}
use Rattle.rule_modules.specs.Sound.{EventIsSound, GrowWithHeight, PeriodsAreSound, RewardsAreSound, StartIsSound}
use Rattle.rule_modules.proofs.EntryLemmas.{from_all, to_all}
use Rattle.rule_modules.proofs.OrderLemmas.{addr_total, pair_total, pair_found, same_back, same_itself}
use Rattle.mod_periods.{specs.Stands.{KeepsRewards, history_of}, proofs.OrderLemmas.{event_total, period_total}}
use Rattle.mod_periods.proofs.RecordLemmas.{counted, counted-some}
use Rattle.store_records.specs.Plain.{SharedSeen, event_at, event_cmp, period_cmp}
use Rattle.store_soundness.specs.Events.{is_event_sound, are_later, are_events_sound}
use Rattle.store_soundness.specs.Histories.{refer_currents, refer_starts, refer_events, references_at, have_counts, is_at_most, is_recorded, are_counted, does_not_fall, do_ratios_grow}
use Rattle.store_soundness.specs.{Ranges.are_currents_in_range, Standing.{are_begun, is_before, is_begun}}
use Rattle.law_records.{specs.{HistoryLaws.kept_rewards, Records.shared_of}, proofs.EventLaws.{Slashes, own_events}}
use Rattle.law_records.proofs.{HistoryLaws.{IsCounted, counts_decide}, KeptLaws.{events_told, records_keep}}
use Rattle.law_records.proofs.{OperatorLemmas.{current_counted, references_told}, PeriodLemmas.money_at}
use Rattle.law_records.proofs.RatioLaws.{AtMost, period_above}
use Rattle.law_records.proofs.RewardLists.{current_at, current_keys, event_found, histories_ascend, slashes_ascend}
use Rattle.law_records.proofs.TestLemmas.{all_decides, at_most, below, within}

pub both_true : {a b : Bool} → a ≡ true → b ≡ true → (a && b) ≡ true
both_true {a} {b} h k = ap (λ x. x && b) h ∙ k

-- a test that is true of each element is true of the list
pub all_true : {X : Type 0} (test : X → Bool) (xs : List X) → All (λ x. test x ≡ true) xs → list_all test xs ≡ true
all_true test xs h = (all_decides test (λ x. test x ≡ true) (λ x. (λ t. t, λ t. t)) xs).1 h

there : {A : Type 0} (r : Option A) → is_some r ≡ true → (x : A) × (r ≡ Some x)
there None t = absurd (true≢false (sym t))
there (Some x) t = (x, refl)

-- ---- members

-- a start under an operator is one of its starts
start_member : (o w : List ℕ) (info : StartingInfo) (es : List ((List ℕ × List ℕ) × StartingInfo)) → at pair_cmp es (o, w) ≡ Some info → Member (map (λ (e : (List ℕ × List ℕ) × StartingInfo). e.1) (filter (λ e. same_addr e.0.0 o) es)) info
start_member o w info [] f = absurd cc
start_member o w info (e ∷ es) f = by (same_addr o e.0.0) (same_addr w e.0.1) (same_back e.0.0 o) (sym (ap (λ b. cond b (Some e.1) (at pair_cmp es (o, w))) (pair_found o e.0.0 w e.0.1)) ∙ f) (start_member o w info es)
  where
    behind : (b : Bool) → Member (map (λ (x : (List ℕ × List ℕ) × StartingInfo). x.1) (filter (λ x. same_addr x.0.0 o) es)) info → Member (map (λ (x : (List ℕ × List ℕ) × StartingInfo). x.1) (cond b (e ∷ filter (λ x. same_addr x.0.0 o) es) (filter (λ x. same_addr x.0.0 o) es))) info
    behind true m = inr m
    behind false m = m

    by : (a b : Bool) → same_addr e.0.0 o ≡ a → cond (a && b) (Some e.1) (at pair_cmp es (o, w)) ≡ Some info → (at pair_cmp es (o, w) ≡ Some info → Member (map (λ (x : (List ℕ × List ℕ) × StartingInfo). x.1) (filter (λ x. same_addr x.0.0 o) es)) info)
        → Member (map (λ (x : (List ℕ × List ℕ) × StartingInfo). x.1) (cond (same_addr e.0.0 o) (e ∷ filter (λ x. same_addr x.0.0 o) es) (filter (λ x. same_addr x.0.0 o) es))) info
    by true true own g later = subst (λ b. Member (map (λ (x : (List ℕ × List ℕ) × StartingInfo). x.1) (cond b (e ∷ filter (λ x. same_addr x.0.0 o) es) (filter (λ x. same_addr x.0.0 o) es))) info) (sym own) (inl (let is : e.1 ≡ info = cc in is))
    by true false own g later = behind (same_addr e.0.0 o) (later g)
    by false b own g later = behind (same_addr e.0.0 o) (later g)

equal_numbers : (n m : ℕ) → (n == m) ≡ true → n ≡ m
equal_numbers n m t = grind (arith, nat_tests)

-- a slash event under an operator is one of its events
event_member : (o : List ℕ) (h n fraction : ℕ) (es : Slashes) → at event_cmp es (o, h, n) ≡ Some fraction → Member (own_events o es) (record { height = h; period = n; fraction = fraction })
event_member o h n fraction [] f = absurd cc
event_member o h n fraction (e ∷ es) f =
    by (same_addr o e.0.0) (h == e.0.1) refl (n == e.0.2) refl (same_back e.0.0 o) (sym (ap (λ b. cond b (Some e.1) (at event_cmp es (o, h, n))) (event_found (o, h, n) e.0)) ∙ f) (event_member o h n fraction es)
  where
    behind : (b : Bool) → Member (own_events o es) (record { height = h; period = n; fraction = fraction }) → Member (map event_at (cond b (e ∷ filter (λ x. same_addr x.0.0 o) es) (filter (λ x. same_addr x.0.0 o) es))) (record { height = h; period = n; fraction = fraction })
    behind true m = inr m
    behind false m = m

    by : (a b : Bool) → (h == e.0.1) ≡ b → (c : Bool) → (n == e.0.2) ≡ c → same_addr e.0.0 o ≡ a → cond ((a && b) && c) (Some e.1) (at event_cmp es (o, h, n)) ≡ Some fraction
        → (at event_cmp es (o, h, n) ≡ Some fraction → Member (own_events o es) (record { height = h; period = n; fraction = fraction }))
        → Member (map event_at (cond (same_addr e.0.0 o) (e ∷ filter (λ x. same_addr x.0.0 o) es) (filter (λ x. same_addr x.0.0 o) es))) (record { height = h; period = n; fraction = fraction })
    by true true p true q own g later =
        let is : e.1 ≡ fraction = cc in
        let height : h ≡ e.0.1 = equal_numbers h e.0.1 p in
        let period : n ≡ e.0.2 = equal_numbers n e.0.2 q in
        subst (λ b. Member (map event_at (cond b (e ∷ filter (λ x. same_addr x.0.0 o) es) (filter (λ x. same_addr x.0.0 o) es))) (record { height = h; period = n; fraction = fraction })) (sym own)
        (inl (λ i. record { height = sym height i; period = sym period i; fraction = is i }))
    by true true p false q own g later = behind (same_addr e.0.0 o) (later g)
    by true false p c q own g later = behind (same_addr e.0.0 o) (later g)
    by false b p c q own g later = behind (same_addr e.0.0 o) (later g)

same_numbers : (n m : ℕ) → n ≡ m → (n == m) ≡ true
same_numbers n m e = grind (arith, nat_tests)

one_more : (n : ℕ) → 0 < 1 + n
one_more n = omega arith

more_still : (a b : ℕ) → 0 < b → 0 < a + b
more_still a b h = omega (arith, h)

-- what is among them is counted
counted_member : {X : Type 0} (period : X → ℕ) (xs : List X) (x : X) → Member xs x → 0 < count_where (λ y. period y == period x) xs
counted_member period [] x m = absurd m
counted_member period (y ∷ ys) x (inl e) =
    subst (λ b. 0 < cond b 1 0 + count_where (λ z. period z == period x) ys) (sym (same_numbers (period y) (period x) (ap period e))) (one_more (count_where (λ z. period z == period x) ys))
counted_member period (y ∷ ys) x (inr m) = more_still (cond (period y == period x) 1 0) (count_where (λ z. period z == period x) ys) (counted_member period ys x m)

count_within : {X : Type 0} (test : X → Bool) (xs : List X) → count_where test xs ≤ length xs
count_within test [] = omega arith
count_within test (x ∷ xs) = by (test x) (count_within test xs)
  where
    by : (b : Bool) → count_where test xs ≤ length xs → cond b 1 0 + count_where test xs ≤ suc (length xs)
    by true k = omega (arith, k)
    by false k = omega (arith, k)

-- ---- ratios

at_most_tested : (x y : Money) → IsMoney x → AtMost x y → is_at_most x y ≡ true
at_most_tested x y money h =
    (all_decides (λ (c : List ℕ × ℕ). nat_le c.1 (amount_of y c.0)) (λ c. c.1 ≤ amount_of y c.0) (λ c. at_most c.1 (amount_of y c.0)) x).1
    (to_all denom_cmp denom_total (λ (c : List ℕ × ℕ). c.1 ≤ amount_of y c.0) x money.sorted (λ k v e. subst (λ n. n ≤ amount_of y k) (ap (λ r. unwrap_or r 0) e) (h k)))

-- ---- the order of slash events

tail_grows : (x : SlashEvent) (xs : List SlashEvent) → GrowWithHeight (x ∷ xs) → GrowWithHeight xs
tail_grows x [] g = tt
tail_grows x (y ∷ xs) g = g.2

later_from : (x : (List ℕ × ℕ × ℕ) × ℕ) (es : Slashes) → ((o : List ℕ) → GrowWithHeight (own_events o (x ∷ es))) → are_later (Some (x.0.0, x.0.2)) es ≡ true
later_from x [] g = refl
later_from x (e ∷ es) g = both_true (by (same_addr x.0.0 e.0.0) refl) (later_from e es (λ o. dropped o (same_addr x.0.0 o) (g o)))
  where
    dropped : (o : List ℕ) (b : Bool) → GrowWithHeight (map event_at (cond b (x ∷ filter (λ y. same_addr y.0.0 o) (e ∷ es)) (filter (λ y. same_addr y.0.0 o) (e ∷ es)))) → GrowWithHeight (own_events o (e ∷ es))
    dropped o true k = tail_grows (event_at x) (own_events o (e ∷ es)) k
    dropped o false k = k

    grown : same_addr x.0.0 e.0.0 ≡ true → x.0.2 < e.0.2
    grown t =
        let both : GrowWithHeight (event_at x ∷ event_at e ∷ own_events e.0.0 es)
        = subst (λ b. GrowWithHeight (event_at x ∷ map event_at (cond b (e ∷ filter (λ y. same_addr y.0.0 e.0.0) es) (filter (λ y. same_addr y.0.0 e.0.0) es)))) (same_itself e.0.0)
        (subst (λ b. GrowWithHeight (map event_at (cond b (x ∷ filter (λ y. same_addr y.0.0 e.0.0) (e ∷ es)) (filter (λ y. same_addr y.0.0 e.0.0) (e ∷ es))))) t (g e.0.0)) in
        both.0

    by : (b : Bool) → same_addr x.0.0 e.0.0 ≡ b → (not b || nat_lt x.0.2 e.0.2) ≡ true
    by true t = (below x.0.2 e.0.2).1 (grown t)
    by false t = refl

later_tested : (es : Slashes) → ((o : List ℕ) → GrowWithHeight (own_events o es)) → are_later None es ≡ true
later_tested [] g = refl
later_tested (x ∷ es) g = later_from x es g

-- ---- the tests

-- a record that is kept has the count and the ratio of its period
some_then : (c : ℕ) → (c == 0) ≡ false → 0 < c
some_then c t = grind (arith, nat_tests)

kept_is : (ratio : Money) (c : ℕ) (h : Historical) → counted ratio c ≡ Some h → (0 < c) × (h.count ≡ c) × (h.ratio ≡ ratio)
kept_is ratio c h e = by (c == 0) refl e
  where
    by : (b : Bool) → (c == 0) ≡ b → ◌≡◌ {A = Option Historical} (if b then None else Some (record { ratio = ratio; count = c })) (Some h) → (0 < c) × (h.count ≡ c) × (h.ratio ≡ ratio)
    by true t f = absurd cc
    by false t f = (some_then c t, ap (λ (r : Option Historical). (unwrap_or r h).count) (sym f), ap (λ (r : Option Historical). (unwrap_or r h).ratio) (sym f))

kept_there : (ratio : Money) (c : ℕ) → 0 < c → is_some (counted ratio c) ≡ true
kept_there ratio c l = ap is_some (counted-some ratio c (λ z. zero_not c l z))
  where
    zero_not : (n : ℕ) → 0 < n → n ≡ 0 → ⊥
    zero_not n some none = omega (arith, some, none)

-- ---- numbers

few_sum : (a b c x y : ℕ) → a ≤ 1 → b ≤ x → c ≤ y → x < 2 ^ 64 → y < 2 ^ 64 → a + (b + c) < 10 ^ 38
few_sum a b c x y h i j k m = omega (arith, h, i, j, k, m)

counted_so : (c x y : ℕ) → c ≡ x → y ≡ x → 0 < x → y < 10 ^ 38 → ((0 < c) × (c < 10 ^ 38)) × (y ≡ c)
counted_so c x y h i j k = ((omega (arith, h, j), omega (arith, h, i, k)), h2 h i)
  where
    h2 : c ≡ x → y ≡ x → y ≡ c
    h2 p q = q ∙ sym p

last_is : (x c : ℕ) → x ≡ c → 1 ≤ x → (x == c - 1 + 1) ≡ true
last_is x c same first = grind (arith, nat_tests)

first_more : (b c : ℕ) → 0 < 1 + (b + c)
first_more b c = omega arith

second_more : (a b c : ℕ) → 0 < b → 0 < a + (b + c)
second_more a b c h = omega (arith, h)

third_more : (a b c : ℕ) → 0 < c → 0 < a + (b + c)
third_more a b c h = omega (arith, h)

module _ (height : ℕ) (d : Shared) (s : RewardsAreSound height d.rewards)
    (started : (operator delegator : List ℕ) → is_some (start_of d.rewards delegator operator) ≡ true → is_some (at addr_cmp d.rewards.periods operator) ≡ true) where
  abbrev r : Rewards
  r = d.rewards

  abbrev l : SharedSeen
  l = shared_of d

  keeps : KeepsRewards (kept_rewards l) r
  keeps = records_keep height d s started

  currents_ascend : IsStrictlySortedBy addr_cmp (keys_of l.currents)
  currents_ascend = subst (IsStrictlySortedBy addr_cmp) (sym (current_keys r.periods)) s.periods_ascend

  module _ (o : List ℕ) (p : Periods) (e : at addr_cmp r.periods o ≡ Some p) where
    sound : PeriodsAreSound height (starts_of r o) p
    sound = from_all addr_cmp addr_total (λ (x : List ℕ × Periods). PeriodsAreSound height (starts_of r x.0) x.1) r.periods exact_bytes s.periods o p e

    runs : at addr_cmp l.currents o ≡ Some p.current
    runs = current_at o r.periods ∙ ap (option_map (λ (x : Periods). x.current)) e

    own_is : own_events o l.events ≡ p.events
    own_is = events_told o r.periods s.periods_ascend ∙ ap (λ x. (unwrap_or x initial_records).events) e

    refers : (n : ℕ) → references_at l (o, n) ≡ references_of p (starts_of r o) n
    refers n =
        references_told l o p.current n sound.first currents_ascend runs
        ∙ ap (λ (es : List SlashEvent). cond (p.current == n + 1) 1 0 + (count_where (λ (i : StartingInfo). i.period == n) (starts_of r o) + count_where (λ (v : SlashEvent). v.period == n) es)) own_is

    recorded : (n : ℕ) → 0 < references_of p (starts_of r o) n → is_recorded l.histories o n ≡ true
    recorded n some =
        ap is_some (keeps.historical o n ∙ ap (λ x. history_of x (starts_of r o) n) e)
        ∙ kept_there (ratio_at p.ratios n) (references_of p (starts_of r o) n) some

  -- a period that runs is that of its operator's periods
  running_there : (o : List ℕ) (c : ℕ) → at addr_cmp l.currents o ≡ Some c → (p : Periods) × (at addr_cmp r.periods o ≡ Some p) × (p.current ≡ c)
  running_there o c e = by (at addr_cmp r.periods o) refl (sym (current_at o r.periods) ∙ e)
    where
      by : (x : Option Periods) → at addr_cmp r.periods o ≡ x → option_map (λ (p : Periods). p.current) x ≡ Some c → (p : Periods) × (at addr_cmp r.periods o ≡ Some p) × (p.current ≡ c)
      by None f g = absurd cc
      by (Some p) f g = (p, f, (let is : p.current ≡ c = cc in is))

  pub ranges_pass : are_currents_in_range l.currents ≡ true
  ranges_pass =
      (all_decides (λ (x : List ℕ × ℕ). is_within 1 (10 ^ 18) x.1) (λ x. (1 ≤ x.1) × (x.1 ≤ 10 ^ 18)) (λ x. within 1 (10 ^ 18) x.1) l.currents).1
      (All-map (λ (x : List ℕ × ℕ). (1 ≤ x.1) × (x.1 ≤ 10 ^ 18)) (λ (x : List ℕ × Periods). (x.0, x.1.current)) r.periods
      (All-weaker (λ (x : List ℕ × Periods). PeriodsAreSound height (starts_of r x.0) x.1) (λ (x : List ℕ × Periods). (1 ≤ x.1.current) × (x.1.current ≤ 10 ^ 18)) (λ x h. (h.first, h.most)) r.periods s.periods))

  -- ---- starts

  start_of_operator : (o w : List ℕ) (info : StartingInfo) → at pair_cmp r.starts (o, w) ≡ Some info → (p : Periods) × (at addr_cmp r.periods o ≡ Some p) × Member (starts_of r o) info
  start_of_operator o w info f =
      let found = there (at addr_cmp r.periods o) (started o w (ap is_some f)) in
      (found.0, found.1, start_member o w info r.starts f)

  pub begun_pass : are_begun height l.currents l.starts ≡ true
  begun_pass = all_true (λ (e : (List ℕ × List ℕ) × StartingInfo). is_begun height l.currents e.0.0 e.1) r.starts
      (to_all pair_cmp pair_total (λ (e : (List ℕ × List ℕ) × StartingInfo). is_begun height l.currents e.0.0 e.1 ≡ true) r.starts s.starts_ascend one)
    where
      one : (k : List ℕ × List ℕ) (info : StartingInfo) → at pair_cmp r.starts k ≡ Some info → is_begun height l.currents k.0 info ≡ true
      one k info f =
          let found = start_of_operator k.0 k.1 info f in
          let p : Periods = found.0 in
          let begins : StartIsSound p.current height info = All-contains (StartIsSound p.current height) (starts_of r k.0) info (sound k.0 p found.1).begun (contained (starts_of r k.0) info found.2) in
          both_true (ap (is_before info.period) (runs k.0 p found.1) ∙ (below info.period p.current).1 begins.period) ((at_most info.height height).1 begins.height)

  -- ---- slash events

  event_of_operator : (o : List ℕ) (h n fraction : ℕ) → at event_cmp l.events (o, h, n) ≡ Some fraction → (p : Periods) × (at addr_cmp r.periods o ≡ Some p) × Member p.events (record { height = h; period = n; fraction = fraction })
  event_of_operator o h n fraction f = by (at addr_cmp r.periods o) refl (subst (λ es. Member es (record { height = h; period = n; fraction = fraction })) (events_told o r.periods s.periods_ascend) (event_member o h n fraction l.events f))
    where
      by : (x : Option Periods) → at addr_cmp r.periods o ≡ x → Member (unwrap_or x initial_records).events (record { height = h; period = n; fraction = fraction })
          → (p : Periods) × (at addr_cmp r.periods o ≡ Some p) × Member p.events (record { height = h; period = n; fraction = fraction })
      by None e m = absurd m
      by (Some p) e m = (p, e, m)

  events_grow : (o : List ℕ) → GrowWithHeight (own_events o l.events)
  events_grow o = subst GrowWithHeight (sym (events_told o r.periods s.periods_ascend)) (by (at addr_cmp r.periods o) refl)
    where
      by : (x : Option Periods) → at addr_cmp r.periods o ≡ x → GrowWithHeight (unwrap_or x initial_records).events
      by None e = tt
      by (Some p) e = (sound o p e).order

  pub events_pass : are_events_sound height l ≡ true
  events_pass = both_true
      (all_true (λ (e : (List ℕ × ℕ × ℕ) × ℕ). is_event_sound height l.currents e.0 e.1) l.events
      (to_all event_cmp event_total (λ (e : (List ℕ × ℕ × ℕ) × ℕ). is_event_sound height l.currents e.0 e.1 ≡ true) l.events (slashes_ascend height r s) one))
      (later_tested l.events events_grow)
    where
      one : (k : List ℕ × ℕ × ℕ) (fraction : ℕ) → at event_cmp l.events k ≡ Some fraction → is_event_sound height l.currents k fraction ≡ true
      one k fraction f =
          let found = event_of_operator k.0 k.1 k.2 fraction f in
          let p : Periods = found.0 in
          let event : SlashEvent = record { height = k.1; period = k.2; fraction = fraction } in
          let is : EventIsSound p.current height event = All-contains (EventIsSound p.current height) p.events event (sound k.0 p found.1).events (contained p.events event found.2) in
          both_true (both_true (ap (is_before k.2) (runs k.0 p found.1) ∙ (below k.2 p.current).1 is.period) ((at_most k.1 height).1 is.height)) ((at_most fraction (10 ^ 18)).1 is.fraction)

  -- ---- records of ended periods

  -- what a record has of its operator's periods
  pub record_there : (q : List ℕ × ℕ) (h : Historical) → at period_cmp l.histories q ≡ Some h
      → (p : Periods) × (at addr_cmp r.periods q.0 ≡ Some p) × (0 < references_of p (starts_of r q.0) q.1) × (h.count ≡ references_of p (starts_of r q.0) q.1) × (h.ratio ≡ ratio_at p.ratios q.1)
  record_there q h f = by (at addr_cmp r.periods q.0) refl (sym (keeps.historical q.0 q.1) ∙ f)
    where
      by : (x : Option Periods) → at addr_cmp r.periods q.0 ≡ x → history_of x (starts_of r q.0) q.1 ≡ Some h
          → (p : Periods) × (at addr_cmp r.periods q.0 ≡ Some p) × (0 < references_of p (starts_of r q.0) q.1) × (h.count ≡ references_of p (starts_of r q.0) q.1) × (h.ratio ≡ ratio_at p.ratios q.1)
      by None e g = absurd cc
      by (Some p) e g = let is = kept_is (ratio_at p.ratios q.1) (references_of p (starts_of r q.0) q.1) h g in (p, e, is.0, is.1, is.2)

  -- there are fewer references than records and one
  references_few : length r.starts < 2 ^ 64 → length l.events < 2 ^ 64 → (o : List ℕ) (p : Periods) → at addr_cmp r.periods o ≡ Some p → (n : ℕ) → references_at l (o, n) < 10 ^ 38
  references_few few fewer o p e n =
      let one : refer_currents l.currents (o, n) ≡ cond (p.current == n + 1) 1 0 = current_counted o p.current n (sound o p e).first l.currents currents_ascend (runs o p e) in
      let low : cond (p.current == n + 1) 1 0 ≤ 1 = at_most_one (p.current == n + 1) in
      let two : refer_starts l.starts (o, n) ≤ length r.starts = count_within (λ (x : (List ℕ × List ℕ) × StartingInfo). is_at (period_cmp (o, n)) (x.0.0, x.1.period)) r.starts in
      let three : refer_events l.events (o, n) ≤ length l.events = count_within (λ (x : (List ℕ × ℕ × ℕ) × ℕ). is_at (period_cmp (o, n)) (x.0.0, x.0.2)) l.events in
      few_sum (refer_currents l.currents (o, n)) (refer_starts l.starts (o, n)) (refer_events l.events (o, n)) (length r.starts) (length l.events) (subst (λ m. m ≤ 1) (sym one) low) two three few fewer
    where
      at_most_one : (b : Bool) → cond b 1 0 ≤ 1
      at_most_one true = omega arith
      at_most_one false = omega arith

  counts_pass : length r.starts < 2 ^ 64 → length l.events < 2 ^ 64 → have_counts (references_at l) l.histories ≡ true
  counts_pass few fewer = (counts_decide l l.histories).1 (to_all period_cmp period_total (IsCounted l) l.histories (histories_ascend r height s) one)
    where
      one : (q : List ℕ × ℕ) (h : Historical) → at period_cmp l.histories q ≡ Some h → IsCounted l (q, h)
      one q h f =
          let found = record_there q h f in
          let p : Periods = found.0 in
          let count : h.count ≡ references_of p (starts_of r q.0) q.1 = found.3 in
          let same : references_at l q ≡ references_of p (starts_of r q.0) q.1 = refers q.0 p found.1 q.1 in
          let some : 0 < references_of p (starts_of r q.0) q.1 = found.2 in
          let low : references_at l q < 10 ^ 38 = references_few few fewer q.0 p found.1 q.1 in
          counted_so h.count (references_of p (starts_of r q.0) q.1) (references_at l q) count same some low

  pub counted_pass : length r.starts < 2 ^ 64 → length l.events < 2 ^ 64 → are_counted l ≡ true
  counted_pass few fewer = both_true (both_true (both_true (counts_pass few fewer)
      (all_true (λ (e : List ℕ × ℕ). is_recorded l.histories e.0 (e.1 - 1)) l.currents (to_all addr_cmp addr_total (λ (e : List ℕ × ℕ). is_recorded l.histories e.0 (e.1 - 1) ≡ true) l.currents currents_ascend current)))
      (all_true (λ (e : (List ℕ × List ℕ) × StartingInfo). is_recorded l.histories e.0.0 e.1.period) l.starts (to_all pair_cmp pair_total (λ (e : (List ℕ × List ℕ) × StartingInfo). is_recorded l.histories e.0.0 e.1.period ≡ true) l.starts s.starts_ascend start)))
      (all_true (λ (e : (List ℕ × ℕ × ℕ) × ℕ). is_recorded l.histories e.0.0 e.0.2) l.events (to_all event_cmp event_total (λ (e : (List ℕ × ℕ × ℕ) × ℕ). is_recorded l.histories e.0.0 e.0.2 ≡ true) l.events (slashes_ascend height r s) event))
    where
      current : (o : List ℕ) (c : ℕ) → at addr_cmp l.currents o ≡ Some c → is_recorded l.histories o (c - 1) ≡ true
      current o c f =
          let found = running_there o c f in
          let p : Periods = found.0 in
          let same : p.current ≡ c = found.2 in
          let first : 1 ≤ p.current = (sound o p found.1).first in
          let last : (p.current == c - 1 + 1) ≡ true = last_is p.current c same first in
          recorded o p found.1 (c - 1)
          (subst (λ b. 0 < cond b 1 0 + (count_where (λ (i : StartingInfo). i.period == c - 1) (starts_of r o) + count_where (λ (v : SlashEvent). v.period == c - 1) p.events)) (sym last)
          (first_more (count_where (λ (i : StartingInfo). i.period == c - 1) (starts_of r o)) (count_where (λ (v : SlashEvent). v.period == c - 1) p.events)))

      start : (k : List ℕ × List ℕ) (info : StartingInfo) → at pair_cmp l.starts k ≡ Some info → is_recorded l.histories k.0 info.period ≡ true
      start k info f =
          let found = start_of_operator k.0 k.1 info f in
          let p : Periods = found.0 in
          let some : 0 < count_where (λ (i : StartingInfo). i.period == info.period) (starts_of r k.0) = counted_member (λ (i : StartingInfo). i.period) (starts_of r k.0) info found.2 in
          recorded k.0 p found.1 info.period
          (second_more (cond (p.current == info.period + 1) 1 0) (count_where (λ (i : StartingInfo). i.period == info.period) (starts_of r k.0)) (count_where (λ (v : SlashEvent). v.period == info.period) p.events) some)

      event : (k : List ℕ × ℕ × ℕ) (fraction : ℕ) → at event_cmp l.events k ≡ Some fraction → is_recorded l.histories k.0 k.2 ≡ true
      event k fraction f =
          let found = event_of_operator k.0 k.1 k.2 fraction f in
          let p : Periods = found.0 in
          let some : 0 < count_where (λ (v : SlashEvent). v.period == k.2) p.events = counted_member (λ (v : SlashEvent). v.period) p.events (record { height = k.1; period = k.2; fraction = fraction }) found.2 in
          recorded k.0 p found.1 k.2
          (third_more (cond (p.current == k.2 + 1) 1 0) (count_where (λ (i : StartingInfo). i.period == k.2) (starts_of r k.0)) (count_where (λ (v : SlashEvent). v.period == k.2) p.events) some)

  -- what a record needs so that ratios don't fall
  abbrev IsOf : (List ℕ × ℕ) × Historical → Type 0
  IsOf h = (p : Periods) × (at addr_cmp r.periods h.0.0 ≡ Some p) × (h.1.ratio ≡ ratio_at p.ratios h.0.1)

  some_is : (p q : Periods) → Some p ≡ Some q → p ≡ q
  some_is p q e = cc

  not_falling : (x h : (List ℕ × ℕ) × Historical) → IsOf x → IsOf h → period_cmp x.0 h.0 ≡ Less → does_not_fall (Some x) h ≡ true
  not_falling x h a b less = by (same_addr x.0.0 h.0.0) refl
    where
      money : IsMoney x.1.ratio
      money = subst IsMoney (sym a.2) (money_at a.0.ratios x.0.1 (recursion_from_All (λ (y : ℕ × Money). IsMoney y.1) a.0.ratios (sound x.0.0 a.0 a.1).lists))

      grows : same_addr x.0.0 h.0.0 ≡ true → (x.0.0 ≡ h.0.0) × (x.0.1 < h.0.1) → AtMost x.1.ratio h.1.ratio
      grows t k c =
          let same : b.0 ≡ a.0 = some_is b.0 a.0 (sym b.1 ∙ ap (at addr_cmp r.periods) (sym k.0) ∙ a.1) in
          let less : x.0.1 < h.0.1 = k.1 in
          let le : x.0.1 ≤ h.0.1 = omega (arith, less) in
          subst (λ y. amount_of y c ≤ amount_of h.1.ratio c) (sym a.2)
          (subst (λ y. amount_of (ratio_at a.0.ratios x.0.1) c ≤ amount_of y c) (ap (λ (y : Periods). ratio_at y.ratios h.0.1) (sym same) ∙ sym b.2) ((sound x.0.0 a.0 a.1).growing c x.0.1 h.0.1 le))

      later : same_addr x.0.0 h.0.0 ≡ true → (addr_cmp x.0.0 h.0.0 ≡ Less) ⊎ ((x.0.0 ≡ h.0.0) × (x.0.1 < h.0.1)) → AtMost x.1.ratio h.1.ratio
      later t (inl apart) = absurd (true≢false (sym t ∙ ap is_eq apart))
      later t (inr k) = grows t k

      by : (b : Bool) → same_addr x.0.0 h.0.0 ≡ b → (not b || is_at_most x.1.ratio h.1.ratio) ≡ true
      by true t = at_most_tested x.1.ratio h.1.ratio money (later t (period_above x.0 h.0 less))
      by false t = refl

  ratios_from : (x : (List ℕ × ℕ) × Historical) (hs : List ((List ℕ × ℕ) × Historical)) → IsOf x → AllByRecursion IsOf hs → IsStrictlySortedBy period_cmp (keys_of (x ∷ hs)) → do_ratios_grow (Some x) hs ≡ true
  unfolding IsStrictlySortedBy
  ratios_from x [] a all t = refl
  ratios_from x (h ∷ hs) a all t = both_true (not_falling x h a all.0 t.0.0) (ratios_from h hs all.0 all.1 t.1)

  ratios_tested : (hs : List ((List ℕ × ℕ) × Historical)) → AllByRecursion IsOf hs → IsStrictlySortedBy period_cmp (keys_of hs) → do_ratios_grow None hs ≡ true
  ratios_tested [] all t = refl
  ratios_tested (h ∷ hs) all t = ratios_from h hs all.0 all.1 t

  pub ratios_pass : do_ratios_grow None l.histories ≡ true
  ratios_pass = ratios_tested l.histories
      (recursion_from_All IsOf l.histories (to_all period_cmp period_total IsOf l.histories (histories_ascend r height s) (λ q h f. let found = record_there q h f in (found.0, found.1, found.4))))
      (histories_ascend r height s)

  -- each recorded ratio is a list of coins
  pub ratios_money : All (λ (h : (List ℕ × ℕ) × Historical). IsMoney h.1.ratio) l.histories
  ratios_money = to_all period_cmp period_total (λ (h : (List ℕ × ℕ) × Historical). IsMoney h.1.ratio) l.histories (histories_ascend r height s) one
    where
      one : (q : List ℕ × ℕ) (h : Historical) → at period_cmp l.histories q ≡ Some h → IsMoney h.ratio
      one q h f =
          let found = record_there q h f in
          let p : Periods = found.0 in
          subst IsMoney (sym found.4) (money_at p.ratios q.1 (recursion_from_All (λ (y : ℕ × Money). IsMoney y.1) p.ratios (sound q.0 p found.1).lists))

  -- each record is of an operator of whom a period runs
  pub histories_belong : All (λ (h : (List ℕ × ℕ) × Historical). is_some (at addr_cmp l.currents h.0.0) ≡ true) l.histories
  histories_belong = to_all period_cmp period_total (λ (h : (List ℕ × ℕ) × Historical). is_some (at addr_cmp l.currents h.0.0) ≡ true) l.histories (histories_ascend r height s)
      (λ q h f. let found = record_there q h f in ap is_some (runs q.0 found.0 found.1))
