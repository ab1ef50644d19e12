-- Sound periods, in F1's own words.
use Rattle.std.proofs.Common.{◌≡◌, ◌∙◌, ℕ, ◌+◌, ◌^◌, ◌<◌, ◌≤◌, Bool, true, false, cond, List, [], ◌∷◌, refl, ap, arith, zero-add, ◌==◌, nat_le, if◌then◌else◌, is_some, AllPairs}
use Rattle.std.{specs.List.{AllByRecursion, Sorted.IsStrictlySortedBy}, proofs.lemmas.Bool.Decides.nat_tests}
use Rattle.std.proofs.lemmas.List.Elements.{All-from_recursion, All-nil, All-weaker, recursion_from_All}
use Rattle.std.proofs.lemmas.{List.Kept.AllPairs-cons, Map.Lookups.exact_bytes}
use Rattle.base_types.specs.Orders.{addr_cmp}
use Rattle.base_coins.specs.Coins.{Money, IsMoney}
use Rattle.base_roles.specs.{declared.entities.{SlashEvent.SlashEvent, StartingInfo.StartingInfo}, Entries.at}
use Rattle.rule_modules.specs.Amounts.{count_where}
use Rattle.rule_modules.specs.Periods.{Periods, Rewards, ratio_at, references_of, start_of, starts_of}
use Rattle.rule_modules.specs.Sound.{EventIsSound, GrowWithHeight, PeriodsAreSound, RewardsAreSound, StartIsSound}
use Rattle.rule_modules.proofs.{EntryLemmas.from_all, OrderLemmas.addr_total}
use Rattle.mod_periods.specs.Stands.{AreSound, IsSound}

-- ---- nothing refers to a period that has not ended

none_at : {X : Type 0} (period : X → ℕ) (c n : ℕ) → c ≤ n → (xs : List X) → AllByRecursion (λ x. period x < c) xs → count_where (λ x. period x == n) xs ≡ 0
none_at period c n le [] h = refl
none_at period c n le (x ∷ xs) h = ap (λ b. cond b 1 0 + count_where (λ y. period y == n) xs) apart ∙ zero-add (count_where (λ y. period y == n) xs) ∙ none_at period c n le xs h.1
  where
    apart : (period x == n) ≡ false
    apart = let less : period x < c = h.0 in grind (arith, nat_tests)

pub none_unended : (p : Periods) (starts : List StartingInfo) (n : ℕ) → p.current ≤ n → AllByRecursion (λ (s : StartingInfo). s.period < p.current) starts → AllByRecursion (λ (e : SlashEvent). e.period < p.current) p.events → references_of p starts n ≡ 0
none_unended p starts n le s e =
    let other : (p.current == n + 1) ≡ false = grind (arith, nat_tests) in
    let one = none_at (λ (x : StartingInfo). x.period) p.current n le starts s in
    let two = none_at (λ (x : SlashEvent). x.period) p.current n le p.events e in
    λ i. cond (other i) 1 0 + (one i + two i)

-- ---- the order of slash events

rising : (h n : ℕ) (x : SlashEvent) (xs : List SlashEvent) → h ≤ x.height → n < x.period → GrowWithHeight (x ∷ xs) → AllByRecursion (λ (y : SlashEvent). (h ≤ y.height) × (n < y.period)) (x ∷ xs)
rising h n x [] a b g = ((a, b), tt)
rising h n x (y ∷ xs) a b g =
    let p : x.period < y.period = g.0 in
    let q : x.height ≤ y.height = g.1 in
    ((a, b), rising h n y xs (omega (arith, a, q)) (omega (arith, b, p)) g.2)

pub events_apart : (xs : List SlashEvent) → GrowWithHeight xs → AllPairs (λ (a b : SlashEvent). (a.height ≤ b.height) × (a.period < b.period)) xs
events_apart [] g = λ i j d lt within. absurd (omega (arith, within))
events_apart (x ∷ []) g = AllPairs-cons (λ (a b : SlashEvent). (a.height ≤ b.height) × (a.period < b.period)) x [] (All-nil (λ (y : SlashEvent). (x.height ≤ y.height) × (x.period < y.period))) (events_apart [] tt)
events_apart (x ∷ y ∷ xs) g =
    AllPairs-cons (λ (a b : SlashEvent). (a.height ≤ b.height) × (a.period < b.period)) x (y ∷ xs)
    (All-from_recursion (λ (z : SlashEvent). (x.height ≤ z.height) × (x.period < z.period)) (y ∷ xs) (rising x.height x.period y xs g.1 g.0 g.2)) (events_apart (y ∷ xs) g.2)

-- ---- coins

no_coins : IsMoney []
unfolding IsStrictlySortedBy
no_coins = record { sorted = tt; positive = All-nil (λ (d : List ℕ × ℕ). 0 < d.1); below = All-nil (λ (d : List ℕ × ℕ). d.1 < 10 ^ 38) }

pub money_at : (rs : List (ℕ × Money)) (n : ℕ) → AllByRecursion (λ (r : ℕ × Money). IsMoney r.1) rs → IsMoney (ratio_at rs n)
money_at [] n h = no_coins
money_at (r ∷ rs) n h = by (nat_le r.0 n) (money_at rs n h.1)
  where
    by : (b : Bool) → IsMoney (ratio_at rs n) → IsMoney (if b then r.1 else ratio_at rs n)
    by true k = h.0
    by false k = k

-- ---- periods

pub sound_too : (height : ℕ) (starts : List StartingInfo) (p : Periods) → PeriodsAreSound height starts p → AreSound p starts
sound_too height starts p s = record {
  running = s.first;
  bounded = s.most;
  ended = λ n le. none_unended p starts n le
      (recursion_from_All (λ (x : StartingInfo). x.period < p.current) starts (All-weaker (StartIsSound p.current height) (λ (x : StartingInfo). x.period < p.current) (λ x h. h.period) starts s.begun))
      (recursion_from_All (λ (x : SlashEvent). x.period < p.current) p.events (All-weaker (EventIsSound p.current height) (λ (x : SlashEvent). x.period < p.current) (λ x h. h.period) p.events s.events));
  fractions = All-weaker (EventIsSound p.current height) (λ (x : SlashEvent). x.fraction ≤ 10 ^ 18) (λ x h. h.fraction) p.events s.events;
  ascend = events_apart p.events s.order;
  coins = λ n. money_at p.ratios n (recursion_from_All (λ (r : ℕ × Money). IsMoney r.1) p.ratios s.lists);
  rise = λ a b le d. s.growing d a b le;
}

-- rewards are sound, where each start is of an operator with periods
pub rewards_sound_too : (height : ℕ) (r : Rewards) → RewardsAreSound height r → ((operator delegator : List ℕ) → is_some (start_of r delegator operator) ≡ true → is_some (at addr_cmp r.periods operator) ≡ true) → IsSound r
rewards_sound_too height r s started = record {
  operators_ascend = s.periods_ascend;
  starts_ascend = s.starts_ascend;
  periods = λ operator p e. sound_too height (starts_of r operator) p (from_all addr_cmp addr_total (λ (x : List ℕ × Periods). PeriodsAreSound height (starts_of r x.0) x.1) r.periods exact_bytes s.periods operator p e);
  started = started;
}
