-- How the relation of kept and plain records is carried over a change at one operator.
use Rattle.std.proofs.Common.{◌≡◌, ℕ, Bool, true, false, cond, List, Some, is_some, option_map, unwrap_or, refl, sym, ◌∙◌, ap, subst}
use Rattle.std.specs.{List.Sorted.IsStrictlySortedBy, Map.keys_of}
use Rattle.base_types.{specs.Orders.addr_cmp, proofs.MapLemmas.{ascend-put, at-put}}
use Rattle.base_roles.specs.{Entries.at, Orders.{pair_cmp, same_addr}}
use Rattle.rule_modules.specs.Periods.{Periods, Rewards, initial_records, periods_of, start_of, starts_of, with_periods, ratio_at, references_of}
use Rattle.mod_periods.specs.Kept.{Kept, current_of, record_of, events_of}
use Rattle.mod_periods.{specs.Stands.{AreSound, IsSound, KeepsRewards, history_of}, proofs.RecordLemmas.counted}
use Rattle.mod_periods.proofs.OrderLemmas.{addr_total, same_is, same_itself}

-- the periods of an operator once some stand at one
pub periods-with : (r : Rewards) (o q : List ℕ) (p : Periods) → at addr_cmp (with_periods o p r).periods q ≡ cond (same_addr q o) (Some p) (at addr_cmp r.periods q)
periods-with r o q p = at-put addr_cmp addr_total r.periods o q p

pub periods-own : (r : Rewards) (o : List ℕ) (p : Periods) → at addr_cmp (with_periods o p r).periods o ≡ Some p
periods-own r o p = periods-with r o o p ∙ ap (λ b. cond b (Some p) (at addr_cmp r.periods o)) (same_itself o)

pub periods-other : (r : Rewards) (o q : List ℕ) (p : Periods) → same_addr q o ≡ false → at addr_cmp (with_periods o p r).periods q ≡ at addr_cmp r.periods q
periods-other r o q p h = periods-with r o q p ∙ ap (λ b. cond b (Some p) (at addr_cmp r.periods q)) h

-- what holds of the operator, and of each other one, holds of all
pub each-operator : (P : List ℕ → Type 0) (o : List ℕ) → P o → ((q : List ℕ) → same_addr q o ≡ false → P q) → (q : List ℕ) → P q
each-operator P o own other q = by (same_addr q o) refl
  where
    by : (b : Bool) → same_addr q o ≡ b → P q
    by true t = subst P (sym (same_is q o t)) own
    by false t = other q t

-- the periods of an operator change, and the starts stay
pub record PeriodsChange (k k2 : Kept) (r : Rewards) (o : List ℕ) (p : Periods) : Type 0 where
  pub current : current_of k2 o ≡ Some p.current
  pub other_current : (q : List ℕ) → same_addr q o ≡ false → current_of k2 q ≡ current_of k q
  pub records : (n : ℕ) → record_of k2 o n ≡ counted (ratio_at p.ratios n) (references_of p (starts_of r o) n)
  pub other_records : (q : List ℕ) (n : ℕ) → same_addr q o ≡ false → record_of k2 q n ≡ record_of k q n
  pub starts : k2.starts ≡ k.starts
  pub events : events_of k2 o ≡ p.events
  pub other_events : (q : List ℕ) → same_addr q o ≡ false → events_of k2 q ≡ events_of k q
  pub sound : AreSound p (starts_of r o)

module _ (k k2 : Kept) (r : Rewards) (o : List ℕ) (p : Periods) (h : KeepsRewards k r) (c : PeriodsChange k k2 r o p) where
  sound-with : IsSound (with_periods o p r)
  sound-with = record {
    operators_ascend = ascend-put addr_cmp addr_total r.periods o p h.sound.operators_ascend;
    starts_ascend = h.sound.starts_ascend;
    periods = each-operator (λ q. (x : Periods) → at addr_cmp (with_periods o p r).periods q ≡ Some x → AreSound x (starts_of r q)) o
        (λ x e. subst (λ y. AreSound y (starts_of r o)) (ap (λ s. unwrap_or s p) (sym (periods-own r o p) ∙ e)) c.sound)
        (λ q apart x e. h.sound.periods q x (sym (periods-other r o q p apart) ∙ e));
    started = each-operator (λ q. (delegator : List ℕ) → is_some (start_of r delegator q) ≡ true → is_some (at addr_cmp (with_periods o p r).periods q) ≡ true) o
        (λ delegator e. ap is_some (periods-own r o p))
        (λ q apart delegator e. ap is_some (periods-other r o q p apart) ∙ h.sound.started q delegator e);
  }

  pub carry-periods : KeepsRewards k2 (with_periods o p r)
  carry-periods = record {
    current = each-operator (λ q. current_of k2 q ≡ option_map (λ x. x.current) (at addr_cmp (with_periods o p r).periods q)) o
        (c.current ∙ sym (ap (option_map (λ x. x.current)) (periods-own r o p)))
        (λ q apart. c.other_current q apart ∙ h.current q ∙ sym (ap (option_map (λ x. x.current)) (periods-other r o q p apart)));
    historical = each-operator (λ q. (n : ℕ) → record_of k2 q n ≡ history_of (at addr_cmp (with_periods o p r).periods q) (starts_of r q) n) o
        (λ n. c.records n ∙ sym (ap (λ s. history_of s (starts_of r o) n) (periods-own r o p)))
        (λ q apart n. c.other_records q n apart ∙ h.historical q n ∙ sym (ap (λ s. history_of s (starts_of r q) n) (periods-other r o q p apart)));
    starts = c.starts ∙ h.starts;
    events = each-operator (λ q. events_of k2 q ≡ (periods_of (with_periods o p r) q).events) o
        (c.events ∙ sym (ap (λ s. (unwrap_or s initial_records).events) (periods-own r o p)))
        (λ q apart. c.other_events q apart ∙ h.events q ∙ sym (ap (λ s. (unwrap_or s initial_records).events) (periods-other r o q p apart)));
    sound = sound-with;
  }

-- the starts at an operator change, and the periods stay
pub record StartsChange (k k2 : Kept) (r r2 : Rewards) (o : List ℕ) (p : Periods) : Type 0 where
  pub is : at addr_cmp r.periods o ≡ Some p
  pub periods : r2.periods ≡ r.periods
  pub current : k2.current ≡ k.current
  pub records : (n : ℕ) → record_of k2 o n ≡ counted (ratio_at p.ratios n) (references_of p (starts_of r2 o) n)
  pub other_records : (q : List ℕ) (n : ℕ) → same_addr q o ≡ false → record_of k2 q n ≡ record_of k q n
  pub starts : k2.starts ≡ r2.starts
  pub other_starts : (q : List ℕ) → same_addr q o ≡ false → starts_of r2 q ≡ starts_of r q
  pub other_start : (q delegator : List ℕ) → same_addr q o ≡ false → start_of r2 delegator q ≡ start_of r delegator q
  pub ascend : IsStrictlySortedBy pair_cmp (keys_of r2.starts)
  pub events : k2.events ≡ k.events
  pub sound : AreSound p (starts_of r2 o)

pub carry-starts : (k k2 : Kept) (r r2 : Rewards) (o : List ℕ) (p : Periods) → KeepsRewards k r → StartsChange k k2 r r2 o p → KeepsRewards k2 r2
carry-starts k k2 r r2 o p h c = record {
  current = λ q. ap (λ es. at addr_cmp es q) c.current ∙ h.current q ∙ ap (λ es. option_map (λ x. x.current) (at addr_cmp es q)) (sym c.periods);
  historical = each-operator (λ q. (n : ℕ) → record_of k2 q n ≡ history_of (at addr_cmp r2.periods q) (starts_of r2 q) n) o
      (λ n. c.records n ∙ sym (ap (λ s. history_of s (starts_of r2 o) n) (ap (λ es. at addr_cmp es o) c.periods ∙ c.is)))
      (λ q apart n. c.other_records q n apart ∙ h.historical q n
      ∙ (λ i. history_of (at addr_cmp (sym c.periods i) q) (sym (c.other_starts q apart) i) n));
  starts = c.starts;
  events = λ q. ap (λ es. events_of (record k { events = es }) q) c.events ∙ h.events q ∙ ap (λ es. (unwrap_or (at addr_cmp es q) initial_records).events) (sym c.periods);
  sound = record {
    operators_ascend = subst (λ es. IsStrictlySortedBy addr_cmp (keys_of es)) (sym c.periods) h.sound.operators_ascend;
    starts_ascend = c.ascend;
    periods = each-operator (λ q. (x : Periods) → at addr_cmp r2.periods q ≡ Some x → AreSound x (starts_of r2 q)) o
        (λ x e. subst (λ y. AreSound y (starts_of r2 o)) (ap (λ s. unwrap_or s p) (sym c.is ∙ ap (λ es. at addr_cmp es o) (sym c.periods) ∙ e)) c.sound)
        (λ q apart x e. subst (AreSound x) (sym (c.other_starts q apart)) (h.sound.periods q x (ap (λ es. at addr_cmp es q) (sym c.periods) ∙ e)));
    started = each-operator (λ q. (delegator : List ℕ) → is_some (start_of r2 delegator q) ≡ true → is_some (at addr_cmp r2.periods q) ≡ true) o
        (λ delegator e. ap is_some (ap (λ es. at addr_cmp es o) c.periods ∙ c.is))
        (λ q apart delegator e. ap (λ es. is_some (at addr_cmp es q)) c.periods ∙ h.sound.started q delegator (ap is_some (sym (c.other_start q delegator apart)) ∙ e));
  };
}
