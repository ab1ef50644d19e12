-- A new operator's records stand for the initial ones.
use Rattle.std.proofs.Common.{◌≡◌, ℕ, ◌+◌, ◌^◌, ◌≤◌, ◌==◌, Bool, true, false, cond, nat_le, if◌then◌else◌, List, [], Some, None, unwrap_or, ◌<◌, refl, sym, ◌∙◌, ap, subst, arith}
use Rattle.std.{specs.{List.Sorted.IsStrictlySortedBy, Map.keys_of}, proofs.lemmas.Bool.Decides.nat_tests}
use Rattle.std.proofs.lemmas.List.Elements.{All-nil}
use Rattle.base_types.specs.Orders.{addr_cmp}
use Rattle.base_coins.specs.Coins.{IsMoney, amount_of}
use Rattle.base_roles.specs.{declared.entities.SlashEvent.SlashEvent, Entries.at}
use Rattle.rule_modules.specs.Periods.{Periods, Rewards, initial_records, starts_of, with_periods, ratio_at, references_of}
use Rattle.mod_periods.specs.Kept.{Kept, period_cmp, no_records, current_of, record_of, with_record}
use Rattle.mod_periods.specs.{Stands.{AreSound, KeepsRewards, no_rewards, history_of}, Steps.made_kept}
use Rattle.mod_periods.proofs.CarryLemmas.{carry-periods}
use Rattle.mod_periods.proofs.FoundLemmas.{found-own, found-other, current-own, current-other, no-starts, no-periods, none-started}
use Rattle.mod_periods.proofs.RecordLemmas.{counted, record-with}

first_ratio : (n : ℕ) → ratio_at initial_records.ratios n ≡ []
first_ratio n = by (nat_le 0 n)
  where
    by : (b : Bool) → (if b then [] else ratio_at [] n) ≡ []
    by true = refl
    by false = refl

no_coins : IsMoney []
unfolding IsStrictlySortedBy
no_coins = record { sorted = tt; positive = All-nil (λ (d : List ℕ × ℕ). 0 < d.1); below = All-nil (λ (d : List ℕ × ℕ). d.1 < 10 ^ 38) }

-- no records stand for no rewards
pub none-kept : KeepsRewards no_records no_rewards
unfolding IsStrictlySortedBy
none-kept = record {
  current = λ o. refl;
  historical = λ o p. refl;
  starts = refl;
  events = λ o. refl;
  sound = record {
    operators_ascend = tt;
    starts_ascend = tt;
    periods = λ o p e. absurd (no_periods p e);
    started = λ o w e. absurd (not_started e);
  };
}
  where
    no_periods : (p : Periods) → None ≡ Some p → ⊥
    no_periods p e = absurd cc

    not_started : false ≡ true → ⊥
    not_started e = absurd cc

initial-references : (n : ℕ) → 1 ≤ n → references_of initial_records [] n ≡ 0
initial-references n h = by (1 == n + 1) (grind (arith, nat_tests))
  where
    by : (b : Bool) → b ≡ false → cond b 1 0 + (0 + 0) ≡ 0
    by true e = cc
    by false e = refl

initial-sound : AreSound initial_records []
initial-sound = record {
  running = omega arith;
  bounded = omega arith;
  ended = initial-references;
  fractions = All-nil (λ (e : SlashEvent). e.fraction ≤ 10 ^ 18);
  ascend = λ i j d lt within. absurd (omega arith);
  coins = λ n. subst IsMoney (sym (first_ratio n)) no_coins;
  rise = λ a b le denom. let x : amount_of (ratio_at initial_records.ratios a) denom ≡ 0 = ap (λ m. amount_of m denom) (first_ratio a) in omega (arith, x);
}

module _ (k : Kept) (r : Rewards) (o : List ℕ) (s : IsStrictlySortedBy period_cmp (keys_of k.historical)) (h : KeepsRewards k r) (new : current_of k o ≡ None) where
  none : at addr_cmp r.periods o ≡ None
  none = no-periods k r o h new

  empty : starts_of r o ≡ []
  empty = no-starts r o (none-started r o h.sound none)

  made-record : (n : ℕ) → record_of (with_record o 0 [] 1 k) o n ≡ counted (ratio_at initial_records.ratios n) (references_of initial_records [] n)
  made-record n = record-with k s o o 0 n 1 [] ∙ ap (λ b. cond b (counted [] 1) (record_of k o n)) (found-own o 0 n) ∙ by (n == 0) refl
    where
      by : (b : Bool) → (n == 0) ≡ b → cond b (counted [] 1) (record_of k o n) ≡ counted (ratio_at initial_records.ratios n) (references_of initial_records [] n)
      by true e = let zero : n ≡ 0 = grind (arith, nat_tests) in ap (λ m. counted (ratio_at initial_records.ratios m) (references_of initial_records [] m)) (sym zero)
      by false e =
          let some : 1 ≤ n = grind (arith, nat_tests) in
          h.historical o n ∙ ap (λ p. history_of p (starts_of r o) n) none ∙ ap (counted (ratio_at initial_records.ratios n)) (sym (initial-references n some))

  pub init-stands : KeepsRewards (made_kept o k) (with_periods o initial_records r)
  init-stands = carry-periods k (made_kept o k) r o initial_records h (record {
    current = current-own (with_record o 0 [] 1 k) o 1;
    other_current = λ q apart. current-other (with_record o 0 [] 1 k) o q 1 apart;
    records = λ n. made-record n ∙ ap (λ l. counted (ratio_at initial_records.ratios n) (references_of initial_records l n)) (sym empty);
    other_records = λ q n apart. record-with k s o q 0 n 1 [] ∙ ap (λ b. cond b (counted [] 1) (record_of k q n)) (found-other o q 0 n apart);
    starts = refl;
    events = h.events o ∙ ap (λ p. (unwrap_or p initial_records).events) none;
    other_events = λ q apart. refl;
    sound = subst (AreSound initial_records) (sym empty) initial-sound;
  })
