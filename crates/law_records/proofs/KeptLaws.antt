-- The records of sound rewards stand for them.
use Rattle.std.proofs.Common.{◌≡◌, ◌∙◌, ℕ, Bool, true, false, cond, List, [], ◌∷◌, ◌++◌, Some, map, refl, sym, ap, subst, filter, is_some, unwrap_or, Less, is_eq, flat_map}
use Rattle.std.specs.{List.{AllByRecursion, Sorted.IsStrictlySortedBy}, Map.keys_of}
use Rattle.base_types.specs.Orders.{addr_cmp}
use Rattle.base_roles.specs.{declared.entities.SlashEvent.SlashEvent, Entries.at, Orders.same_addr}
use Rattle.rule_modules.specs.{Distribution.Shared, Periods.{Periods, initial_records, start_of}, Sound.RewardsAreSound}
use Rattle.rule_modules.proofs.OrderLemmas.{same_back, same_is}
use Rattle.mod_periods.specs.Stands.{KeepsRewards}
use Rattle.store_records.specs.Plain.{event_at}
use Rattle.law_records.{specs.{HistoryLaws.kept_rewards, Records.{events_in, shared_of}}, proofs.EventLaws.own_events}
use Rattle.law_records.proofs.{PeriodLemmas.rewards_sound_too, RewardLists.{current_at, events_at, history_found}}

-- ---- the slash events of an operator among all

own_joined : (o : List ℕ) (xs ys : List ((List ℕ × ℕ × ℕ) × ℕ)) → own_events o (xs ++ ys) ≡ own_events o xs ++ own_events o ys
own_joined o [] ys = refl
own_joined o (x ∷ xs) ys = by (same_addr x.0.0 o) (own_joined o xs ys)
  where
    by : (b : Bool) → own_events o (xs ++ ys) ≡ own_events o xs ++ own_events o ys
        → map event_at (cond b (x ∷ filter (λ e. same_addr e.0.0 o) (xs ++ ys)) (filter (λ e. same_addr e.0.0 o) (xs ++ ys))) ≡ map event_at (cond b (x ∷ filter (λ e. same_addr e.0.0 o) xs) (filter (λ e. same_addr e.0.0 o) xs)) ++ own_events o ys
    by true k = ap (λ (l : List SlashEvent). event_at x ∷ l) k
    by false k = k

all_own : (o p : List ℕ) (xs : List SlashEvent) → same_addr p o ≡ true → own_events o (events_at p xs) ≡ xs
all_own o p [] t = refl
all_own o p (x ∷ xs) t = ap (λ b. map event_at (cond b (((p, x.height, x.period), x.fraction) ∷ filter (λ e. same_addr e.0.0 o) (events_at p xs)) (filter (λ e. same_addr e.0.0 o) (events_at p xs)))) t ∙ ap (λ (l : List SlashEvent). x ∷ l) (all_own o p xs t)

none_own : (o p : List ℕ) (xs : List SlashEvent) → same_addr p o ≡ false → own_events o (events_at p xs) ≡ []
none_own o p [] t = refl
none_own o p (x ∷ xs) t = ap (λ b. map event_at (cond b (((p, x.height, x.period), x.fraction) ∷ filter (λ e. same_addr e.0.0 o) (events_at p xs)) (filter (λ e. same_addr e.0.0 o) (events_at p xs)))) t ∙ none_own o p xs t

none_among : (o : List ℕ) (es : List (List ℕ × Periods)) → AllByRecursion (λ k. addr_cmp o k ≡ Less) (keys_of es) → own_events o (flat_map events_in es) ≡ []
none_among o [] h = refl
none_among o (e ∷ es) h = own_joined o (events_in e) (flat_map events_in es) ∙ (λ i. none_own o e.0 e.1.events (same_back e.0 o ∙ ap is_eq h.0) i ++ none_among o es h.1 i)

append_none : (xs : List SlashEvent) → xs ++ [] ≡ xs
append_none [] = refl
append_none (x ∷ xs) = ap (λ (l : List SlashEvent). x ∷ l) (append_none xs)

pub events_told : (o : List ℕ) (es : List (List ℕ × Periods)) → IsStrictlySortedBy addr_cmp (keys_of es) → own_events o (flat_map events_in es) ≡ (unwrap_or (at addr_cmp es o) initial_records).events
unfolding IsStrictlySortedBy
events_told o [] s = refl
events_told o (e ∷ es) s = own_joined o (events_in e) (flat_map events_in es) ∙ by (same_addr o e.0) refl (events_told o es s.1)
  where
    by : (b : Bool) → same_addr o e.0 ≡ b → own_events o (flat_map events_in es) ≡ (unwrap_or (at addr_cmp es o) initial_records).events
        → own_events o (events_in e) ++ own_events o (flat_map events_in es) ≡ (unwrap_or (cond b (Some e.1) (at addr_cmp es o)) initial_records).events
    by true t k =
        (λ i. all_own o e.0 e.1.events (same_back e.0 o ∙ t) i ++ none_among o es (subst (λ q. AllByRecursion (λ y. addr_cmp q y ≡ Less) (keys_of es)) (sym (same_is o e.0 t)) s.0) i)
        ∙ append_none e.1.events
    by false t k = ap (λ (l : List SlashEvent). l ++ own_events o (flat_map events_in es)) (none_own o e.0 e.1.events (same_back e.0 o ∙ t)) ∙ k

-- ---- rewards

-- the records of sound rewards, whose starts are of operators with periods, stand for them
pub records_keep : (height : ℕ) (d : Shared) → RewardsAreSound height d.rewards → ((operator delegator : List ℕ) → is_some (start_of d.rewards delegator operator) ≡ true → is_some (at addr_cmp d.rewards.periods operator) ≡ true)
    → KeepsRewards (kept_rewards (shared_of d)) d.rewards
records_keep height d s started = record {
  current = λ o. current_at o d.rewards.periods;
  historical = λ o n. history_found d.rewards height s (o, n);
  starts = refl;
  events = λ o. events_told o d.rewards.periods s.periods_ascend;
  sound = rewards_sound_too height d.rewards s started;
}
