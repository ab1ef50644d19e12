-- The tests of distribution tell that the periods of its plain state are sound, and that the lists are what is kept of them.
use Rattle.std.proofs.Common.{◌≡◌, ◌∙◌, ℕ, ◌+◌, ◌-◌, ◌^◌, ◌<◌, ◌≤◌, Bool, true, false, cond, List, [], ◌∷◌, Option, Some, None, option_map, map, refl, sym, ap, subst, arith, inl, inr, ◌==◌, ◌&&◌, ◌⊎◌, ◌≢◌, filter, nat_lt, nat_le, is_some, unwrap_or, All, Decides, true≢false}
use Rattle.std.specs.{List.{AllByRecursion, list_all, Sorted.IsStrictlySortedBy}, Map.keys_of}
use Rattle.std.proofs.lemmas.Bool.{cases_lt, Decides.{Decides-and, Decides-eqb}}
use Rattle.std.proofs.lemmas.List.Elements.{All-from_recursion, All-map, All-weaker, recursion_from_All}
use Rattle.std.proofs.lemmas.Map.Lookups.{exact_bytes}
use Rattle.base_types.specs.Orders.{addr_cmp}
use Rattle.base_coins.specs.Coins.{Money, IsMoney}
use Rattle.base_roles.specs.declared.entities.{Historical.Historical, SlashEvent.SlashEvent, StartingInfo.StartingInfo}
use Rattle.base_roles.specs.{Entries.at, Orders.{pair_cmp, same_addr}, Ranges.is_within}
use Rattle.rule_modules.specs.Periods.{Periods, history_kept, initial_records, periods_of, ratio_at, references_of, start_of, starts_of}
use Rattle.rule_modules.specs.Sound.{EventIsSound, PeriodsAreSound, RewardsAreSound, StartIsSound}
use Rattle.rule_modules.proofs.{EntryLemmas.{from_all, to_all}, OrderLemmas.{addr_total, pair_total, same_is}}
use Rattle.rule_modules.proofs.SoundLemmas.{exact_pair}
use Rattle.mod_periods.{specs.Stands.{KeepsRewards, history_of}, proofs.OrderLemmas.period_total}
use Rattle.mod_periods.proofs.RecordLemmas.{counted, counted-some}
use Rattle.store_records.specs.Plain.{SharedSeen, PlainSeen, IsSharedAscending, event_at, period_cmp}
use Rattle.store_records.specs.States.{periods_in, rewards_of}
use Rattle.store_soundness.specs.Events.{are_events_sound, are_later}
use Rattle.store_soundness.specs.Histories.{refer_currents, refer_starts, refer_events, references_at, is_counted, have_counts, is_recorded, are_counted, do_ratios_grow}
use Rattle.store_soundness.specs.Ranges.{are_currents_in_range}
use Rattle.store_soundness.specs.Standing.{have_keys, are_begun, is_before, is_begun, stands_for_stakes}
use Rattle.law_records.specs.HistoryLaws.{kept_rewards, AreRewardsTested, RewardsAreSoundByTests, RewardsAreKeptByTests}
use Rattle.law_records.proofs.EventLaws.{each_event, each_start, in_order, own_events}
use Rattle.law_records.proofs.OperatorLemmas.{first_true, second_true, are_single, none_refers, none_slashed, references_told, refers_stands}
use Rattle.law_records.proofs.PeriodLemmas.{none_unended, rewards_sound_too}
use Rattle.law_records.proofs.RatioLaws.{all_turned, falls, ratio_found, ratio_stands, ratio_told, ratios_rise, rows_all, rows_in, rows_rise}
use Rattle.law_records.proofs.{RewardLists.period_exact, TestLemmas.{all_decides, below, within}}

running_keys : (s : SharedSeen) (es : List (List ℕ × ℕ)) → keys_of (map (λ (e : List ℕ × ℕ). (e.0, periods_in s e.0 e.1)) es) ≡ keys_of es
running_keys s [] = refl
running_keys s (e ∷ es) = ap (λ l. e.0 ∷ l) (running_keys s es)

running_at : (s : SharedSeen) (o : List ℕ) (es : List (List ℕ × ℕ)) → at addr_cmp (map (λ (e : List ℕ × ℕ). (e.0, periods_in s e.0 e.1)) es) o ≡ option_map (periods_in s o) (at addr_cmp es o)
running_at s o [] = refl
running_at s o (e ∷ es) = by (same_addr o e.0) refl (running_at s o es)
  where
    by : (b : Bool) → same_addr o e.0 ≡ b → at addr_cmp (map (λ (x : List ℕ × ℕ). (x.0, periods_in s x.0 x.1)) es) o ≡ option_map (periods_in s o) (at addr_cmp es o)
        → cond b (Some (periods_in s e.0 e.1)) (at addr_cmp (map (λ (x : List ℕ × ℕ). (x.0, periods_in s x.0 x.1)) es) o) ≡ option_map (periods_in s o) (cond b (Some e.1) (at addr_cmp es o))
    by true t k = ap (λ q. Some (periods_in s q e.1)) (sym (same_is o e.0 t))
    by false t k = k

-- the periods of an operator are those of the period that runs
pub periods_found : (s : SharedSeen) (o : List ℕ) → at addr_cmp (rewards_of s).periods o ≡ option_map (periods_in s o) (at addr_cmp s.currents o)
periods_found s o = running_at s o s.currents

none_own : (o : List ℕ) (es : List ((List ℕ × ℕ × ℕ) × ℕ)) → AllByRecursion (λ (e : (List ℕ × ℕ × ℕ) × ℕ). same_addr e.0.0 o ≡ false) es → own_events o es ≡ []
none_own o [] h = refl
none_own o (e ∷ es) h = ap (λ b. map event_at (cond b (e ∷ filter (λ x. same_addr x.0.0 o) es) (filter (λ x. same_addr x.0.0 o) es))) h.0 ∙ none_own o es h.1

third_some : (a b c : ℕ) → 0 < a + (b + c) → a ≤ 0 → b ≤ 0 → 0 < c
third_some a b c some none nor = omega (arith, some, none, nor)

not_zero : (n : ℕ) → 0 < n → n ≢ 0
not_zero n some none = omega (arith, some, none)

not_both : (n m : ℕ) → n ≡ m → n ≡ 0 → 0 < m → ⊥
not_both n m same none some = omega (arith, same, none, some)

none_left : (n : ℕ) → n ≤ 0 → n ≡ 0
none_left n le = omega (arith, le)

-- what the test of a count tells
abbrev pub IsCounted : SharedSeen → (List ℕ × ℕ) × Historical → Type 0
IsCounted s h = ((0 < h.1.count) × (h.1.count < 10 ^ 38)) × (references_at s h.0 ≡ h.1.count)

counted_decides : (s : SharedSeen) (h : (List ℕ × ℕ) × Historical) → Decides (is_counted h.1.count (references_at s h.0)) (IsCounted s h)
counted_decides s h =
    Decides-and (nat_lt 0 h.1.count && nat_lt h.1.count (10 ^ 38)) (references_at s h.0 == h.1.count)
    (Decides-and (nat_lt 0 h.1.count) (nat_lt h.1.count (10 ^ 38)) (below 0 h.1.count) (below h.1.count (10 ^ 38))) (Decides-eqb (references_at s h.0) h.1.count)

pub counts_decide : (s : SharedSeen) (hs : List ((List ℕ × ℕ) × Historical)) → Decides (have_counts (references_at s) hs) (All (IsCounted s) hs)
counts_decide s hs = all_decides (λ (h : (List ℕ × ℕ) × Historical). is_counted h.1.count (references_at s h.0)) (IsCounted s) (counted_decides s) hs

-- what passes, test by test
record Passed (height : ℕ) (s : SharedSeen) : Type 0 where
  ascend : IsSharedAscending s
  coins : All (λ (h : (List ℕ × ℕ) × Historical). IsMoney h.1.ratio) s.histories
  ranges : are_currents_in_range s.currents ≡ true
  begun : are_begun height s.currents s.starts ≡ true
  counts : have_counts (references_at s) s.histories ≡ true
  currents : list_all (λ (e : List ℕ × ℕ). is_recorded s.histories e.0 (e.1 - 1)) s.currents ≡ true
  starts : list_all (λ (e : (List ℕ × List ℕ) × StartingInfo). is_recorded s.histories e.0.0 e.1.period) s.starts ≡ true
  events : list_all (λ (e : (List ℕ × ℕ × ℕ) × ℕ). is_recorded s.histories e.0.0 e.0.2) s.events ≡ true
  grow : do_ratios_grow None s.histories ≡ true
  single : are_single height s.currents s.events ≡ true
  later : are_later None s.events ≡ true

module _ (height : ℕ) (s : SharedSeen) (k : Passed height s) where
  range_of : (o : List ℕ) (c : ℕ) → at addr_cmp s.currents o ≡ Some c → (1 ≤ c) × (c ≤ 10 ^ 18)
  range_of o c e =
      from_all addr_cmp addr_total (λ (x : List ℕ × ℕ). (1 ≤ x.1) × (x.1 ≤ 10 ^ 18)) s.currents exact_bytes
      ((all_decides (λ (x : List ℕ × ℕ). is_within 1 (10 ^ 18) x.1) (λ x. (1 ≤ x.1) × (x.1 ≤ 10 ^ 18)) (λ x. within 1 (10 ^ 18) x.1) s.currents).0 k.ranges) o c e

  all_counted : All (IsCounted s) s.histories
  all_counted = (counts_decide s s.histories).0 k.counts

  number_of : (o : List ℕ) (n : ℕ) (h : Historical) → at period_cmp s.histories (o, n) ≡ Some h → IsCounted s ((o, n), h)
  number_of o n h e = from_all period_cmp period_total (IsCounted s) s.histories period_exact all_counted (o, n) h e

  -- a record stands where something refers
  recorded : (o : List ℕ) (n : ℕ) → 0 < references_at s (o, n) → is_some (at period_cmp s.histories (o, n)) ≡ true
  recorded o n some = by (cases_lt 0 (refer_currents s.currents (o, n))) (cases_lt 0 (refer_starts s.starts (o, n)))
    where
      by : (0 < refer_currents s.currents (o, n)) ⊎ (refer_currents s.currents (o, n) ≤ 0) → (0 < refer_starts s.starts (o, n)) ⊎ (refer_starts s.starts (o, n) ≤ 0) → is_some (at period_cmp s.histories (o, n)) ≡ true
      by (inl runs) b = refers_stands period_cmp period_total (λ (e : List ℕ × ℕ). (e.0, e.1 - 1)) (o, n) s.histories s.currents runs k.currents
      by (inr none) (inl begins) = refers_stands period_cmp period_total (λ (e : (List ℕ × List ℕ) × StartingInfo). (e.0.0, e.1.period)) (o, n) s.histories s.starts begins k.starts
      by (inr none) (inr nor) =
          let slashed : 0 < refer_events s.events (o, n) = third_some (refer_currents s.currents (o, n)) (refer_starts s.starts (o, n)) (refer_events s.events (o, n)) some none nor in
          refers_stands period_cmp period_total (λ (e : (List ℕ × ℕ × ℕ) × ℕ). (e.0.0, e.0.2)) (o, n) s.histories s.events slashed k.events

  unrecorded : (o : List ℕ) (n : ℕ) → at period_cmp s.histories (o, n) ≡ None → references_at s (o, n) ≡ 0
  unrecorded o n unheld = by (cases_lt 0 (references_at s (o, n)))
    where
      by : (0 < references_at s (o, n)) ⊎ (references_at s (o, n) ≤ 0) → references_at s (o, n) ≡ 0
      by (inl some) = absurd (true≢false (sym (recorded o n some) ∙ ap is_some unheld))
      by (inr none) = none_left (references_at s (o, n)) none

  -- ---- an operator of which a period runs

  module _ (o : List ℕ) (c : ℕ) (e : at addr_cmp s.currents o ≡ Some c) where
    abbrev own : Periods
    own = periods_in s o c

    abbrev infos : List StartingInfo
    infos = starts_of (rewards_of s) o

    told : (n : ℕ) → references_at s (o, n) ≡ references_of own infos n
    told n = references_told s o c n (range_of o c e).0 k.ascend.currents e

    starts_sound : AllByRecursion (StartIsSound c height) infos
    starts_sound = each_start height o c s.currents e s.starts k.begun

    events_sound : AllByRecursion (EventIsSound c height) own.events
    events_sound = each_event height o c s.currents e s.events k.single

    ended : (n : ℕ) → c ≤ n → references_of own infos n ≡ 0
    ended n le = none_unended own infos n le
        (recursion_from_All (λ (x : StartingInfo). x.period < c) infos (All-weaker (StartIsSound c height) (λ (x : StartingInfo). x.period < c) (λ x h. h.period) infos (All-from_recursion (StartIsSound c height) infos starts_sound)))
        (recursion_from_All (λ (x : SlashEvent). x.period < c) own.events (All-weaker (EventIsSound c height) (λ (x : SlashEvent). x.period < c) (λ x h. h.period) own.events (All-from_recursion (EventIsSound c height) own.events events_sound)))

    -- a recorded period has ended
    record_ended : (h : (List ℕ × ℕ) × Historical) → IsCounted s h → same_addr h.0.0 o ≡ true → h.0.1 < c
    record_ended h is same = by (cases_lt h.0.1 c)
      where
        refers : references_of own infos h.0.1 ≡ h.1.count
        refers = sym (told h.0.1) ∙ ap (λ q. references_at s (q, h.0.1)) (sym (same_is h.0.0 o same)) ∙ is.1

        by : (h.0.1 < c) ⊎ (c ≤ h.0.1) → h.0.1 < c
        by (inl less) = less
        by (inr more) = absurd (not_both (references_of own infos h.0.1) h.1.count refers (ended h.0.1 more) is.0.0)

    rows_ended : AllByRecursion (λ (r : ℕ × Money). r.0 < c) (rows_in o s.histories)
    rows_ended = rows_all (λ (r : ℕ × Money). r.0 < c) o s.histories
        (recursion_from_All (λ (h : (List ℕ × ℕ) × Historical). same_addr h.0.0 o ≡ true → h.0.1 < c) s.histories
        (All-weaker (IsCounted s) (λ (h : (List ℕ × ℕ) × Historical). same_addr h.0.0 o ≡ true → h.0.1 < c) record_ended s.histories all_counted))

    rows_money : AllByRecursion (λ (r : ℕ × Money). IsMoney r.1) (rows_in o s.histories)
    rows_money = rows_all (λ (r : ℕ × Money). IsMoney r.1) o s.histories
        (recursion_from_All (λ (h : (List ℕ × ℕ) × Historical). same_addr h.0.0 o ≡ true → IsMoney h.1.ratio) s.histories
        (All-weaker (λ (h : (List ℕ × ℕ) × Historical). IsMoney h.1.ratio) (λ (h : (List ℕ × ℕ) × Historical). same_addr h.0.0 o ≡ true → IsMoney h.1.ratio) (λ h m same. m) s.histories k.coins))

    periods_sound : PeriodsAreSound height infos own
    periods_sound = record {
      first = (range_of o c e).0;
      most = (range_of o c e).1;
      falling = falls c (rows_in o s.histories) (rows_rise o s.histories k.ascend.histories) rows_ended;
      lists = All-from_recursion (λ (r : ℕ × Money). IsMoney r.1) own.ratios (all_turned (λ (r : ℕ × Money). IsMoney r.1) (rows_in o s.histories) rows_money);
      standing = λ n some. ratio_stands o n s.histories (recorded o n (subst (λ m. 0 < m) (sym (told n)) some));
      growing = λ d a b le. ratios_rise o s.histories a b le k.ascend.histories k.grow d;
      begun = All-from_recursion (StartIsSound c height) infos starts_sound;
      events = All-from_recursion (EventIsSound c height) own.events events_sound;
      order = in_order o None s.events k.ascend.events k.later;
    }

    -- what is kept of a period is its record
    kept_so : (n : ℕ) (r : Option Historical) → at period_cmp s.histories (o, n) ≡ r → r ≡ history_kept own infos n
    kept_so n None f = sym (ap (counted (ratio_at own.ratios n)) (sym (told n) ∙ unrecorded o n f))
    kept_so n (Some h) f =
        let is = number_of o n h f in
        let count : references_of own infos n ≡ h.count = sym (told n) ∙ is.1 in
        let ratio : ratio_at own.ratios n ≡ h.ratio = ratio_told (rows_in o s.histories) n ∙ ratio_found o n s.histories h [] k.ascend.histories f in
        sym ((λ i. counted (ratio i) (count i)) ∙ counted-some h.ratio h.count (not_zero h.count is.0.0))

  -- ---- all operators

  rewards_sound : RewardsAreSound height (rewards_of s)
  rewards_sound = record {
    periods_ascend = subst (IsStrictlySortedBy addr_cmp) (sym (running_keys s s.currents)) k.ascend.currents;
    starts_ascend = k.ascend.starts;
    periods = All-map (λ (e : List ℕ × Periods). PeriodsAreSound height (starts_of (rewards_of s) e.0) e.1) (λ (e : List ℕ × ℕ). (e.0, periods_in s e.0 e.1)) s.currents
        (to_all addr_cmp addr_total (λ (e : List ℕ × ℕ). PeriodsAreSound height (starts_of (rewards_of s) e.0) (periods_in s e.0 e.1)) s.currents k.ascend.currents (λ o c e. periods_sound o c e));
  }

  before_there : (n : ℕ) (r : Option ℕ) → is_before n r ≡ true → is_some r ≡ true
  before_there n None t = t
  before_there n (Some c) t = refl

  started : (o d : List ℕ) → is_some (start_of (rewards_of s) d o) ≡ true → is_some (at addr_cmp (rewards_of s).periods o) ≡ true
  started o d there = by (start_of (rewards_of s) d o) refl there
    where
      mapped : (r : Option ℕ) → is_some r ≡ true → is_some (option_map (periods_in s o) r) ≡ true
      mapped None t = t
      mapped (Some c) t = refl

      by : (r : Option StartingInfo) → start_of (rewards_of s) d o ≡ r → is_some r ≡ true → is_some (at addr_cmp (rewards_of s).periods o) ≡ true
      by None f t = absurd (true≢false (sym t))
      by (Some info) f t =
          let begins : is_begun height s.currents o info ≡ true
          = from_all pair_cmp pair_total (λ (x : (List ℕ × List ℕ) × StartingInfo). is_begun height s.currents x.0.0 x.1 ≡ true) s.starts exact_pair
          ((all_decides (λ (x : (List ℕ × List ℕ) × StartingInfo). is_begun height s.currents x.0.0 x.1) (λ x. is_begun height s.currents x.0.0 x.1 ≡ true) (λ x. (λ u. u, λ u. u)) s.starts).0 k.begun) (o, d) info f in
          ap is_some (periods_found s o) ∙ mapped (at addr_cmp s.currents o) (before_there info.period (at addr_cmp s.currents o) (first_true (is_before info.period (at addr_cmp s.currents o)) (nat_le info.height height) begins))

  current_kept : (o : List ℕ) → at addr_cmp s.currents o ≡ option_map (λ (p : Periods). p.current) (at addr_cmp (rewards_of s).periods o)
  current_kept o = by (at addr_cmp s.currents o) ∙ sym (ap (option_map (λ (p : Periods). p.current)) (periods_found s o))
    where
      by : (r : Option ℕ) → r ≡ option_map (λ (p : Periods). p.current) (option_map (periods_in s o) r)
      by None = refl
      by (Some c) = refl

  history_there : (o : List ℕ) (n : ℕ) → at period_cmp s.histories (o, n) ≡ history_of (at addr_cmp (rewards_of s).periods o) (starts_of (rewards_of s) o) n
  history_there o n = by (at addr_cmp s.currents o) refl ∙ sym (ap (λ p. history_of p (starts_of (rewards_of s) o) n) (periods_found s o))
    where
      nothing : at addr_cmp s.currents o ≡ None → (r : Option Historical) → at period_cmp s.histories (o, n) ≡ r → r ≡ None
      nothing none None f = refl
      nothing none (Some h) f =
          let is = number_of o n h f in
          absurd (not_both (references_at s (o, n)) h.count is.1 (none_refers height s o n k.begun k.single none) is.0.0)

      by : (r : Option ℕ) → at addr_cmp s.currents o ≡ r → at period_cmp s.histories (o, n) ≡ history_of (option_map (periods_in s o) r) (starts_of (rewards_of s) o) n
      by None e = nothing e (at period_cmp s.histories (o, n)) refl
      by (Some c) e = kept_so o c e n (at period_cmp s.histories (o, n)) refl

  events_kept : (o : List ℕ) → own_events o s.events ≡ (periods_of (rewards_of s) o).events
  events_kept o = by (at addr_cmp s.currents o) refl ∙ sym (ap (λ r. (unwrap_or r initial_records).events) (periods_found s o))
    where
      by : (r : Option ℕ) → at addr_cmp s.currents o ≡ r → own_events o s.events ≡ (unwrap_or (option_map (periods_in s o) r) initial_records).events
      by None e = none_own o s.events (none_slashed height o s.currents e s.events k.single)
      by (Some c) e = refl

  rewards_kept : KeepsRewards (kept_rewards s) (rewards_of s)
  rewards_kept = record {
    current = current_kept;
    historical = history_there;
    starts = refl;
    events = events_kept;
    sound = rewards_sound_too height (rewards_of s) rewards_sound started;
  }

-- ---- what passes together

passed : (r : PlainSeen) → AreRewardsTested r → Passed r.ctx.height r.lists.shared
passed r t =
    let s = r.lists.shared in
    let height = r.ctx.height in
    let counts = have_counts (references_at s) s.histories in
    let runs = list_all (λ (e : List ℕ × ℕ). is_recorded s.histories e.0 (e.1 - 1)) s.currents in
    let starts = list_all (λ (e : (List ℕ × List ℕ) × StartingInfo). is_recorded s.histories e.0.0 e.1.period) s.starts in
    let slashed = list_all (λ (e : (List ℕ × ℕ × ℕ) × ℕ). is_recorded s.histories e.0.0 e.0.2) s.events in
    let stands = stands_for_stakes height r.lists in
    let first : (stands && are_counted s && do_ratios_grow None s.histories) ≡ true = first_true (stands && are_counted s && do_ratios_grow None s.histories) (are_events_sound height s) t.passed in
    let last : are_events_sound height s ≡ true = second_true (stands && are_counted s && do_ratios_grow None s.histories) (are_events_sound height s) t.passed in
    let both : (stands && are_counted s) ≡ true = first_true (stands && are_counted s) (do_ratios_grow None s.histories) first in
    let stand : stands ≡ true = first_true stands (are_counted s) both in
    let counted : are_counted s ≡ true = second_true stands (are_counted s) both in
    let three : (counts && runs && starts) ≡ true = first_true (counts && runs && starts) slashed counted in
    let two : (counts && runs) ≡ true = first_true (counts && runs) starts three in
    record {
      ascend = t.ascend.shared;
      coins = t.coins.ratios;
      ranges = t.ranges;
      begun = second_true (have_keys r.lists) (are_begun height s.currents s.starts) stand;
      counts = first_true counts runs two;
      currents = second_true counts runs two;
      starts = second_true (counts && runs) starts three;
      events = second_true (counts && runs && starts) slashed counted;
      grow = second_true (stands && are_counted s) (do_ratios_grow None s.histories) first;
      single = first_true (are_single height s.currents s.events) (are_later None s.events) last;
      later = second_true (are_single height s.currents s.events) (are_later None s.events) last;
    }

pub are_rewards_sound_by_tests : RewardsAreSoundByTests
are_rewards_sound_by_tests r t = rewards_sound r.ctx.height r.lists.shared (passed r t)

pub are_rewards_kept_by_tests : RewardsAreKeptByTests
are_rewards_kept_by_tests r t = rewards_kept r.ctx.height r.lists.shared (passed r t)
