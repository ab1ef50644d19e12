-- A slash that is recorded carries the relation.
use Rattle.std.proofs.Common.{◌≡◌, ◌≢◌, ℕ, ◌+◌, ◌^◌, ◌<◌, ◌≤◌, ◌==◌, Bool, true, false, cond, List, [], ◌∷◌, ◌++◌, All, Some, unwrap_or, refl, sym, ◌∙◌, ap, subst, arith}
use Rattle.std.specs.{List.Sorted.IsStrictlySortedBy, Map.keys_of}
use Rattle.std.proofs.lemmas.List.Elements.{All-push, All-nil, All-cons, All-head, All-tail}
use Rattle.base_types.specs.Orders.{addr_cmp}
use Rattle.base_roles.specs.{declared.entities.{SlashEvent.SlashEvent, StartingInfo.StartingInfo}, Entries.at}
use Rattle.base_roles.specs.Orders.{same_addr}
use Rattle.rule_modules.specs.Amounts.{count_where}
use Rattle.rule_modules.specs.Periods.{Periods, Rewards, initial_records, starts_of, with_periods, ratio_at, references_of}
use Rattle.mod_periods.specs.Kept.{Kept, period_cmp, event_cmp, record_of, events_of, with_event}
use Rattle.mod_periods.specs.{Stands.{AreSound, KeepsRewards}, Steps.slashed_kept}
use Rattle.mod_periods.proofs.{OrderLemmas.{same_is, same_itself}, TallyLemmas.count-last}
use Rattle.mod_periods.proofs.EventLemmas.{events-other, events-own, events-earlier, events-before, ascend-last}
use Rattle.mod_periods.proofs.RecordLemmas.{record-referred, recounted-current, recounted-starts, recounted-events}
use Rattle.mod_periods.proofs.{CountLemmas.{changed, unchanged}, CarryLemmas.carry-periods}
use Rattle.mod_periods.proofs.FoundLemmas.{record-is, sound-is, current-is, last-referred, same_period, other_period, later_period}

-- periods with one slash event more
abbrev with_last : Periods → SlashEvent → Periods
with_last p e = record p { events = p.events ++ e ∷ [] }

references-event : (p : Periods) (starts : List StartingInfo) (e : SlashEvent) (n : ℕ) → references_of (with_last p e) starts n ≡ references_of p starts n + cond (e.period == n) 1 0
references-event p starts e n = omega (arith, count-last (λ d. d.period == n) p.events e)

events-none : (p : Periods) (starts : List StartingInfo) (n : ℕ) → references_of p starts n ≡ 0 → count_where (λ d. d.period == n) p.events ≡ 0
events-none p starts n h = omega (arith, h)

both_all : (e : SlashEvent) (es : List SlashEvent) → All (λ d. d.height ≤ e.height) es → All (λ d. d.period < e.period) es → All (λ d. (d.height ≤ e.height) × (d.period < e.period)) es
both_all e [] h p = All-nil (λ (d : SlashEvent). (d.height ≤ e.height) × (d.period < e.period))
both_all e (x ∷ es) h p =
    All-cons (λ (d : SlashEvent). (d.height ≤ e.height) × (d.period < e.period)) x es
    (All-head (λ (d : SlashEvent). d.height ≤ e.height) x es h, All-head (λ (d : SlashEvent). d.period < e.period) x es p)
    (both_all e es (All-tail (λ (d : SlashEvent). d.height ≤ e.height) x es h) (All-tail (λ (d : SlashEvent). d.period < e.period) x es p))

module _ (k : Kept) (r : Rewards) (o : List ℕ) (p : Periods) (h : KeepsRewards k r) (is : at addr_cmp r.periods o ≡ Some p)
    (records : IsStrictlySortedBy period_cmp (keys_of k.historical)) (slashes : IsStrictlySortedBy event_cmp (keys_of k.events))
    (e : SlashEvent) (last : e.period + 1 ≡ p.current) (free : All (λ d. d.period ≢ e.period) (events_of k o)) (heights : All (λ d. d.height ≤ e.height) (events_of k o)) (part : e.fraction ≤ 10 ^ 18) where
  old : AreSound p (starts_of r o)
  old = sound-is k r o p h is

  abbrev refs : ℕ → ℕ
  refs n = references_of p (starts_of r o) n

  own : events_of k o ≡ p.events
  own = h.events o ∙ ap (λ s. (unwrap_or s initial_records).events) is

  earlier : All (λ d. d.period < e.period) p.events
  earlier = events-before e.period p.events
      (subst (λ c. All (λ d. d.period < c) p.events) (sym last) (events-earlier p.current p.events (λ m le. events-none p (starts_of r o) m (old.ended m le))))
      (subst (λ es. All (λ d. d.period ≢ e.period) es) own free)

  not_higher : All (λ d. d.height ≤ e.height) p.events
  not_higher = subst (λ es. All (λ d. d.height ≤ e.height) es) own heights

  some : refs e.period ≢ 0
  some z = let one : 1 ≤ refs e.period = last-referred p (starts_of r o) e.period last in omega (arith, z, one)

  more : (m : ℕ) → references_of (with_last p e) (starts_of r o) m ≡ refs m + cond (e.period == m) 1 0
  more m = references-event p (starts_of r o) e m

  pub slash-stands : KeepsRewards (slashed_kept o e k) (with_periods o (with_last p e) r)
  slash-stands =
      let k1 : Kept = with_event o e k in
      carry-periods k (slashed_kept o e k) r o (with_last p e) h (record {
        current = ap (λ es. at addr_cmp es o) (recounted-current (record_of k1 o e.period) (λ c. c + 1) o e.period k1) ∙ current-is k r o p h is;
        other_current = λ q apart. ap (λ es. at addr_cmp es q) (recounted-current (record_of k1 o e.period) (λ c. c + 1) o e.period k1);
        records = λ m. changed k r o p h is (slashed_kept o e k) (refs e.period + 1) e.period m (λ m. references_of (with_last p e) (starts_of r o) m)
            (record-referred k1 records o e.period (ratio_at p.ratios e.period) (refs e.period) (record-is k r o p h is e.period) some o m)
            (λ t. more m ∙ (λ i. refs (t i) + same_period e.period m t i))
            (λ t. omega (arith, more m, other_period e.period m t));
        other_records = λ q m apart. unchanged p k o (slashed_kept o e k) q (refs e.period + 1) e.period m apart
            (record-referred k1 records o e.period (ratio_at p.ratios e.period) (refs e.period) (record-is k r o p h is e.period) some q m);
        starts = recounted-starts (record_of k1 o e.period) (λ c. c + 1) o e.period k1;
        events = ap (λ es. events_of (record k { events = es }) o) (recounted-events (record_of k1 o e.period) (λ c. c + 1) o e.period k1)
            ∙ events-own k o e slashes heights (subst (λ es. All (λ d. d.period < e.period) es) (sym own) earlier) ∙ ap (λ es. es ++ e ∷ []) own;
        other_events = λ q apart. ap (λ es. events_of (record k { events = es }) q) (recounted-events (record_of k1 o e.period) (λ c. c + 1) o e.period k1)
            ∙ events-other k o q e (turned o q apart);
        sound = record {
          running = old.running;
          bounded = old.bounded;
          ended = λ m le. omega (arith, more m, old.ended m le, later_period e.period m (omega arith));
          fractions = All-push (λ (d : SlashEvent). d.fraction ≤ 10 ^ 18) p.events e old.fractions part;
          ascend = ascend-last (λ (a b : SlashEvent). (a.height ≤ b.height) × (a.period < b.period)) p.events e old.ascend (both_all e p.events not_higher earlier);
          coins = old.coins;
          rise = old.rise;
        };
      })
    where
      turned : (a b : List ℕ) → same_addr b a ≡ false → same_addr a b ≡ false
      turned a b apart = by (same_addr a b) refl
        where
          by : (t : Bool) → same_addr a b ≡ t → same_addr a b ≡ false
          by true t = let apart2 : true ≡ false = sym (same_itself b) ∙ ap (λ x. same_addr b x) (sym (same_is a b t)) ∙ apart in cc
          by false t = t
