-- The start of a delegation, and its end, carry the relation.
use Rattle.std.proofs.Common.{◌≡◌, ◌≢◌, ℕ, ◌+◌, ◌-◌, ◌==◌, ◌&&◌, Bool, true, false, cond, List, map, Some, None, refl, sym, ◌∙◌, ap, arith}
use Rattle.std.specs.{BTreeMap.is_at, List.Sorted.IsStrictlySortedBy, Map.keys_of}
use Rattle.base_types.{specs.Orders.addr_cmp, proofs.MapLemmas.{ascend-put, ascend-taken, at-put, at-taken}}
use Rattle.base_roles.specs.{declared.entities.StartingInfo.StartingInfo, Entries.at, Orders.{pair_cmp, same_addr}}
use Rattle.rule_modules.specs.Periods.{Periods, Rewards, start_of, starts_of, with_start, without_start, ratio_at, references_of}
use Rattle.mod_periods.specs.Kept.{Kept, period_cmp, record_of, with_info, without_info}
use Rattle.mod_periods.specs.{Stands.{AreSound, KeepsRewards}, Steps.{started_kept, stopped_kept}}
use Rattle.mod_periods.proofs.OrderLemmas.{pair_total, same_is, same_itself, pair_found}
use Rattle.mod_periods.proofs.TallyLemmas.{passing-put, passing-removed, tally, one, tally-put, tally-removed}
use Rattle.mod_periods.proofs.EventLemmas.{pairs-respect}
use Rattle.mod_periods.proofs.RecordLemmas.{record-referred, record-released, recounted-current, recounted-starts, recounted-events}
use Rattle.mod_periods.proofs.{CountLemmas.{changed, unchanged}, CarryLemmas.carry-starts}
use Rattle.mod_periods.proofs.FoundLemmas.{record-is, sound-is, last-referred, same_period, other_period, later_period}

-- a start at an operator changes no other's starts
starts-other : (r : Rewards) (o q delegator : List ℕ) (s : StartingInfo) → same_addr q o ≡ false → starts_of (with_start delegator o s r) q ≡ starts_of r q
starts-other r o q delegator s apart = ap (map (λ e. e.1)) (passing-put pair_cmp (λ key. same_addr key.0 q) (pairs-respect q) r.starts (o, delegator) s (back (same_addr o q) refl))
  where
    back : (b : Bool) → same_addr o q ≡ b → same_addr o q ≡ false
    back true t = let apart2 : true ≡ false = sym (same_itself q) ∙ ap (λ x. same_addr q x) (sym (same_is o q t)) ∙ apart in cc
    back false t = t

starts-left : (r : Rewards) (o q delegator : List ℕ) → same_addr q o ≡ false → starts_of (without_start delegator o r) q ≡ starts_of r q
starts-left r o q delegator apart = ap (map (λ e. e.1)) (passing-removed pair_cmp (λ key. same_addr key.0 q) (pairs-respect q) r.starts (o, delegator) (back (same_addr o q) refl))
  where
    back : (b : Bool) → same_addr o q ≡ b → same_addr o q ≡ false
    back true t = let apart2 : true ≡ false = sym (same_itself q) ∙ ap (λ x. same_addr q x) (sym (same_is o q t)) ∙ apart in cc
    back false t = t

apart_pairs : (o q delegator w : List ℕ) → same_addr q o ≡ false → is_at (pair_cmp (q, w)) (o, delegator) ≡ false
apart_pairs o q delegator w apart = pair_found q o w delegator ∙ ap (λ b. b && same_addr w delegator) apart

-- one start more, and one fewer, by the references of a period
references-more : (r : Rewards) (o delegator : List ℕ) (s : StartingInfo) (p : Periods) (n : ℕ) → start_of r delegator o ≡ None
    → references_of p (starts_of (with_start delegator o s r) o) n ≡ references_of p (starts_of r o) n + cond (s.period == n) 1 0
references-more r o delegator s p n new =
    let put : tally pair_cmp (λ key. same_addr key.0 o) (λ x. x.period == n) (with_start delegator o s r).starts ≡ tally pair_cmp (λ key. same_addr key.0 o) (λ x. x.period == n) r.starts + one pair_cmp (λ key. same_addr key.0 o) (λ x. x.period == n) (o, delegator) s
    = tally-put pair_cmp (λ key. same_addr key.0 o) (λ x. x.period == n) r.starts (o, delegator) s new in
    let own : one pair_cmp (λ key. same_addr key.0 o) (λ x. x.period == n) (o, delegator) s ≡ cond (s.period == n) 1 0 = ap (λ b. cond b (cond (s.period == n) 1 0) 0) (same_itself o) in
    omega (arith, put, own)

references-fewer : (r : Rewards) (o delegator : List ℕ) (s : StartingInfo) (p : Periods) (n : ℕ) → start_of r delegator o ≡ Some s
    → references_of p (starts_of r o) n ≡ references_of p (starts_of (without_start delegator o r) o) n + cond (s.period == n) 1 0
references-fewer r o delegator s p n old =
    let gone : tally pair_cmp (λ key. same_addr key.0 o) (λ x. x.period == n) r.starts ≡ tally pair_cmp (λ key. same_addr key.0 o) (λ x. x.period == n) (without_start delegator o r).starts + one pair_cmp (λ key. same_addr key.0 o) (λ x. x.period == n) (o, delegator) s
    = tally-removed pair_cmp (λ key. same_addr key.0 o) (λ x. x.period == n) (pairs-respect o) r.starts (o, delegator) s old in
    let own : one pair_cmp (λ key. same_addr key.0 o) (λ x. x.period == n) (o, delegator) s ≡ cond (s.period == n) 1 0 = ap (λ b. cond b (cond (s.period == n) 1 0) 0) (same_itself o) in
    omega (arith, gone, own)

module _ (k : Kept) (r : Rewards) (o delegator : List ℕ) (p : Periods) (h : KeepsRewards k r) (e : at addr_cmp r.periods o ≡ Some p) (sorted : IsStrictlySortedBy period_cmp (keys_of k.historical)) (s : StartingInfo) where
  old : AreSound p (starts_of r o)
  old = sound-is k r o p h e

  abbrev refs : ℕ → ℕ
  refs n = references_of p (starts_of r o) n

  -- a start behind the last ended period
  pub start-stands : s.period + 1 ≡ p.current → start_of r delegator o ≡ None → KeepsRewards (started_kept delegator o s k) (with_start delegator o s r)
  start-stands last new =
      let n = s.period in
      let k1 : Kept = with_info delegator o s k in
      let some : refs s.period ≢ 0 = λ z. omega (arith, z, last-referred p (starts_of r o) s.period last) in
      let more : (m : ℕ) → references_of p (starts_of (with_start delegator o s r) o) m ≡ refs m + cond (s.period == m) 1 0 = λ m. references-more r o delegator s p m new in
      carry-starts k (started_kept delegator o s k) r (with_start delegator o s r) o p h (record {
        is = e;
        periods = refl;
        current = recounted-current (record_of k1 o s.period) (λ c. c + 1) o s.period k1;
        records = λ m. changed k r o p h e (started_kept delegator o s k) (refs s.period + 1) s.period m (λ m. references_of p (starts_of (with_start delegator o s r) o) m)
            (record-referred k1 sorted o s.period (ratio_at p.ratios s.period) (refs s.period) (record-is k r o p h e s.period) some o m)
            (λ t. more m ∙ (λ i. refs (t i) + same_period s.period m t i))
            (λ t. omega (arith, more m, other_period s.period m t));
        other_records = λ q m apart. unchanged p k o (started_kept delegator o s k) q (refs s.period + 1) s.period m apart
            (record-referred k1 sorted o s.period (ratio_at p.ratios s.period) (refs s.period) (record-is k r o p h e s.period) some q m);
        starts = recounted-starts (record_of k1 o s.period) (λ c. c + 1) o s.period k1 ∙ ap (λ es. (with_start delegator o s (record r { starts = es })).starts) h.starts;
        other_starts = λ q apart. starts-other r o q delegator s apart;
        other_start = λ q w apart. at-put pair_cmp pair_total r.starts (o, delegator) (q, w) s ∙ ap (λ b. cond b (Some s) (start_of r w q)) (apart_pairs o q delegator w apart);
        ascend = ascend-put pair_cmp pair_total r.starts (o, delegator) s h.sound.starts_ascend;
        events = recounted-events (record_of k1 o s.period) (λ c. c + 1) o s.period k1;
        sound = record {
          running = old.running;
          bounded = old.bounded;
          ended = λ m le. omega (arith, more m, old.ended m le, later_period s.period m (omega arith));
          fractions = old.fractions;
          ascend = old.ascend;
          coins = old.coins;
          rise = old.rise;
        };
      })

  -- the end of a start that stands
  pub stop-stands : start_of r delegator o ≡ Some s → KeepsRewards (stopped_kept delegator o (Some s) k) (without_start delegator o r)
  stop-stands there =
      let k1 : Kept = without_info delegator o k in
      let fewer : (m : ℕ) → refs m ≡ references_of p (starts_of (without_start delegator o r) o) m + cond (s.period == m) 1 0 = λ m. references-fewer r o delegator s p m there in
      carry-starts k (stopped_kept delegator o (Some s) k) r (without_start delegator o r) o p h (record {
        is = e;
        periods = refl;
        current = recounted-current (record_of k1 o s.period) (λ c. c - 1) o s.period k1;
        records = λ m. changed k r o p h e (stopped_kept delegator o (Some s) k) (refs s.period - 1) s.period m (λ m. references_of p (starts_of (without_start delegator o r) o) m)
            (record-released k1 sorted o s.period (ratio_at p.ratios s.period) (refs s.period) (record-is k r o p h e s.period) o m)
            (λ t. less_one (refs m) (references_of p (starts_of (without_start delegator o r) o) m) (fewer m ∙ ap (λ c. references_of p (starts_of (without_start delegator o r) o) m + c) (same_period s.period m t)) ∙ ap (λ x. refs x - 1) t)
            (λ t. omega (arith, fewer m, other_period s.period m t));
        other_records = λ q m apart. unchanged p k o (stopped_kept delegator o (Some s) k) q (refs s.period - 1) s.period m apart
            (record-released k1 sorted o s.period (ratio_at p.ratios s.period) (refs s.period) (record-is k r o p h e s.period) q m);
        starts = recounted-starts (record_of k1 o s.period) (λ c. c - 1) o s.period k1 ∙ ap (λ es. (without_start delegator o (record r { starts = es })).starts) h.starts;
        other_starts = λ q apart. starts-left r o q delegator apart;
        other_start = λ q w apart. at-taken pair_cmp pair_total r.starts (o, delegator) (q, w) h.sound.starts_ascend ∙ ap (λ b. cond b None (start_of r w q)) (apart_pairs o q delegator w apart);
        ascend = ascend-taken pair_cmp (is_at (pair_cmp (o, delegator))) r.starts h.sound.starts_ascend;
        events = recounted-events (record_of k1 o s.period) (λ c. c - 1) o s.period k1;
        sound = record {
          running = old.running;
          bounded = old.bounded;
          ended = λ m le. omega (arith, fewer m, old.ended m le);
          fractions = old.fractions;
          ascend = old.ascend;
          coins = old.coins;
          rise = old.rise;
        };
      })
    where
      less_one : (a b : ℕ) → a ≡ b + 1 → b ≡ a - 1
      less_one a b t = omega (arith, t)
