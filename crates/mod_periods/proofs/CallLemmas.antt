-- What each call that changes references leaves, from what it makes of the kept records.
use Rattle.std.proofs.Common.{◌≡◌, ◌≢◌, ℕ, ◌+◌, ◌-◌, ◌^◌, ◌<◌, ◌≤◌, ◌==◌, Bool, true, false, cond, if◌then◌else◌, List, [], ◌∷◌, ◌++◌, length, filter, All, Option, Some, None, is_some, option_map, unwrap_or, refl, sym, ◌∙◌, ap, subst, arith}
use Rattle.std.{specs.{List.Sorted.IsStrictlySortedBy, Map.keys_of}, proofs.lemmas.List.length-map}
use Rattle.base_types.specs.Orders.{addr_cmp}
use Rattle.base_coins.specs.Coins.{Money}
use Rattle.base_roles.specs.declared.entities.{Historical.Historical, StartingInfo.StartingInfo, SlashEvent.SlashEvent}
use Rattle.base_roles.specs.{Entries.at, Orders.{pair_cmp, same_addr}}
use Rattle.rule_modules.specs.Amounts.{count_where}
use Rattle.rule_modules.specs.Periods.{Periods, Rewards, periods_of, start_of, starts_of, with_periods, with_start, without_start, ratio_at, last_ended, event_recorded, references_of}
use Rattle.mod_periods.specs.Kept.{Kept, period_cmp, event_cmp, current_of, record_of, info_of, event_at, events_of}
use Rattle.mod_periods.specs.Stands.{KeepsRewards, IsKept, history_of, started_at, references_in, references_at, if_some}
use Rattle.mod_periods.{specs.Steps.{running, started_kept, slashed_kept, stopped_kept}, proofs.RecordLemmas.counted}
use Rattle.mod_periods.proofs.TallyLemmas.{count-most, filter-most}
use Rattle.mod_periods.proofs.FoundLemmas.{periods-there, periods-is, running-is, record-is}
use Rattle.mod_periods.proofs.{StartLemmas.{start-stands, stop-stands}, SlashLemmas.slash-stands}

starts-few : (r : Rewards) (o : List ℕ) → length (starts_of r o) ≤ length r.starts
starts-few r o = omega (arith, length-map (filter (λ (e : (List ℕ × List ℕ) × StartingInfo). same_addr e.0.0 o) r.starts) (λ (e : (List ℕ × List ℕ) × StartingInfo). e.1), filter-most (λ (e : (List ℕ × List ℕ) × StartingInfo). same_addr e.0.0 o) r.starts)

events-few : (k : Kept) (o : List ℕ) → length (events_of k o) ≤ length k.events
events-few k o = omega (arith, length-map (filter (λ (e : (List ℕ × ℕ × ℕ) × ℕ). same_addr e.0.0 o) k.events) event_at, filter-most (λ (e : (List ℕ × ℕ × ℕ) × ℕ). same_addr e.0.0 o) k.events)

references-few : (p : Periods) (starts : List StartingInfo) (n : ℕ) → references_of p starts n ≤ 1 + (length starts + length p.events)
references-few p starts n = by (p.current == n + 1) (count-most (λ s. s.period == n) starts) (count-most (λ e. e.period == n) p.events)
  where
    by : (b : Bool) → count_where (λ s. s.period == n) starts ≤ length starts → count_where (λ e. e.period == n) p.events ≤ length p.events
        → cond b 1 0 + (count_where (λ s. s.period == n) starts + count_where (λ e. e.period == n) p.events) ≤ 1 + (length starts + length p.events)
    by true x y = omega (arith, x, y)
    by false x y = omega (arith, x, y)

-- a count is far from the width of its number
counted_few : (n bound : ℕ) (ratio : Money) (h : Historical) → n ≤ bound → counted ratio n ≡ Some h → h.count ≤ bound
counted_few n bound ratio h le e = by (n == 0) e
  where
    by : (b : Bool) → (if b then None else Some (record { ratio = ratio; count = n })) ≡ Some h → h.count ≤ bound
    by true t = cc
    by false t = let same : n ≡ h.count = ap (λ x. (unwrap_or x h).count) t in omega (arith, same, le)

pub count-few : (k : Kept) (o : List ℕ) (n : ℕ) → IsKept k → length k.starts < 2 ^ 64 → length k.events < 2 ^ 64
    → (h : Historical) → record_of k o n ≡ Some h → h.count + 1 < 2 ^ 128
count-few k o n kept starts events h found = by (at addr_cmp kept.0.periods o) refl
  where
    r : Rewards
    r = kept.0

    few : (p : Periods) → at addr_cmp kept.0.periods o ≡ Some p → references_of p (starts_of kept.0 o) n ≤ 2 ^ 66
    few p e =
        let a : length k.starts ≡ length kept.0.starts = ap length kept.1.starts in
        let b : length (events_of k o) ≡ length p.events = ap length (kept.1.events o ∙ ap (λ x. x.events) (periods-is k kept.0 o p kept.1 e)) in
        omega (arith, references-few p (starts_of kept.0 o) n, starts-few kept.0 o, events-few k o, a, b, starts, events)

    by : (x : Option Periods) → at addr_cmp kept.0.periods o ≡ x → h.count + 1 < 2 ^ 128
    by None e = let none : None ≡ Some h = sym (ap (λ s. history_of s (starts_of kept.0 o) n) e) ∙ sym (kept.1.historical o n) ∙ found in cc
    by (Some p) e =
        let le : h.count ≤ 2 ^ 66 = counted_few (references_of p (starts_of kept.0 o) n) (2 ^ 66) (ratio_at p.ratios n) h (few p e) (sym (record-is k kept.0 o p kept.1 e n) ∙ found) in
        omega (arith, le)

-- the start of a delegation
pub start-answers : (k k2 : Kept) (r : Rewards) (o delegator : List ℕ) (stake height period : ℕ) → KeepsRewards k r → is_some (current_of k o) ≡ true
    → IsStrictlySortedBy period_cmp (keys_of k.historical) → info_of k delegator o ≡ None → 1 ≤ running k o → period ≡ running k o - 1
    → k2 ≡ started_kept delegator o (record { period = period; stake = stake; height = height }) k
    → KeepsRewards k2 (with_start delegator o (started_at (periods_of r o) stake height) r)
start-answers k k2 r o delegator stake height period h is sorted new above at_period left =
    let there = periods-there k r o h is in
    let p : Periods = there.0 in
    let running : running k o ≡ p.current = running-is k r o p h there.1 in
    let info : StartingInfo = record { period = period; stake = stake; height = height } in
    let stands = start-stands k r o delegator p h there.1 sorted info (omega (arith, above, at_period, running)) (ap (λ es. at pair_cmp es (o, delegator)) (sym h.starts) ∙ new) in
    let same : period ≡ last_ended (periods_of r o) = at_period ∙ ap (λ c. c - 1) running ∙ sym (ap last_ended (periods-is k r o p h there.1)) in
    subst (λ n. KeepsRewards k2 (with_start delegator o (record { period = n; stake = stake; height = height }) r)) same
    (subst (λ x. KeepsRewards x (with_start delegator o info r)) (sym left) stands)

-- the last ended period, as it is told
pub last-is : (k : Kept) (r : Rewards) (o : List ℕ) (period : ℕ) → KeepsRewards k r → is_some (current_of k o) ≡ true → period ≡ running k o - 1 → period ≡ last_ended (periods_of r o)
last-is k r o period h is at_period =
    let there = periods-there k r o h is in
    at_period ∙ ap (λ c. c - 1) (running-is k r o there.0 h there.1) ∙ sym (ap last_ended (periods-is k r o there.0 h there.1))

-- a slash that is recorded
pub slash-answers : (k k2 : Kept) (r : Rewards) (o : List ℕ) (height period fraction : ℕ) → KeepsRewards k r → is_some (current_of k o) ≡ true
    → IsStrictlySortedBy period_cmp (keys_of k.historical) → IsStrictlySortedBy event_cmp (keys_of k.events)
    → period + 1 ≡ running k o → All (λ e. e.period ≢ period) (events_of k o) → All (λ e. e.height ≤ height) (events_of k o) → fraction ≤ 10 ^ 18
    → k2 ≡ slashed_kept o (record { height = height; period = period; fraction = fraction }) k
    → KeepsRewards k2 (with_periods o (event_recorded height fraction (periods_of r o)) r)
slash-answers k k2 r o height period fraction h is records slashes last free heights part left =
    let there = periods-there k r o h is in
    let p : Periods = there.0 in
    let running : running k o ≡ p.current = running-is k r o p h there.1 in
    let e : SlashEvent = record { height = height; period = period; fraction = fraction } in
    let stands = slash-stands k r o p h there.1 records slashes e (last ∙ running) free heights part in
    let same : period ≡ last_ended p = omega (arith, last, running) in
    subst (λ x. KeepsRewards k2 (with_periods o (event_recorded height fraction x) r)) (sym (periods-is k r o p h there.1))
    (subst (λ n. KeepsRewards k2 (with_periods o (record p { events = p.events ++ record { height = height; period = n; fraction = fraction } ∷ [] }) r)) same
    (subst (λ x. KeepsRewards x (with_periods o (record p { events = p.events ++ e ∷ [] }) r)) (sym left) stands))

started_there : {A : Type 0} (x : Option A) → is_some x ≡ true → (a : A) × (x ≡ Some a)
started_there None e = cc
started_there (Some a) e = (a, refl)

-- the end of a delegation's rewards
pub stop-answers : (k k2 : Kept) (r : Rewards) (o delegator : List ℕ) (info : StartingInfo) → KeepsRewards k r
    → IsStrictlySortedBy period_cmp (keys_of k.historical) → info_of k delegator o ≡ Some info
    → k2 ≡ stopped_kept delegator o (Some info) k → KeepsRewards k2 (without_start delegator o r)
stop-answers k k2 r o delegator info h sorted there left =
    let started : start_of r delegator o ≡ Some info = ap (λ es. at pair_cmp es (o, delegator)) (sym h.starts) ∙ there in
    let has : is_some (at addr_cmp r.periods o) ≡ true = h.sound.started o delegator (ap is_some started) in
    let p = started_there (at addr_cmp r.periods o) has in
    subst (λ x. KeepsRewards x (without_start delegator o r)) (sym left) (stop-stands k r o delegator p.0 h p.1 sorted info started)
