-- The end of a period carries the relation.
use Rattle.std.proofs.Common.{◌≡◌, ◌≢◌, ℕ, ◌+◌, ◌-◌, ◌^◌, ◌<◌, ◌≤◌, ◌==◌, Bool, true, false, cond, nat_le, if◌then◌else◌, List, ◌∷◌, Some, unwrap_or, refl, sym, ◌∙◌, ap, subst, arith}
use Rattle.std.specs.{BTreeMap.is_at, List.Sorted.IsStrictlySortedBy, Map.keys_of}
use Rattle.std.proofs.lemmas.Bool.Decides.{nat_tests}
use Rattle.base_types.{specs.Orders.addr_cmp, proofs.MapLemmas.ascend-put}
use Rattle.base_coins.specs.Coins.{Money, IsMoney, amount_of}
use Rattle.base_roles.specs.{declared.entities.StartingInfo.StartingInfo, Entries.at, Orders.same_addr}
use Rattle.rule_modules.specs.Periods.{Periods, Rewards, initial_records, starts_of, with_periods, ratio_at, references_of}
use Rattle.mod_periods.specs.Kept.{Kept, period_cmp, record_of, events_of, with_record, with_current, released}
use Rattle.mod_periods.{specs.{Stands.{AreSound, KeepsRewards}, Steps.ended_kept}, proofs.OrderLemmas.period_total}
use Rattle.mod_periods.proofs.RecordLemmas.{counted, record-with, record-released, recounted-starts, recounted-events, recounted-current}
use Rattle.mod_periods.proofs.CarryLemmas.{carry-periods}
use Rattle.mod_periods.proofs.FoundLemmas.{found-own, found-other, record-is, sound-is, current-own, current-other, running-is}

-- periods once the one that runs has ended with this ratio
abbrev pub ended_with : Periods → Money → Periods
ended_with p ratio = record { current = p.current + 1; ratios = (p.current, ratio) ∷ p.ratios; events = p.events }

-- the ratio of the period that ended, and of an earlier one
pub ratio-new : (p : Periods) (ratio : Money) (n : ℕ) → p.current ≤ n → ratio_at (ended_with p ratio).ratios n ≡ ratio
ratio-new p ratio n h = by (nat_le p.current n) (grind (arith, nat_tests))
  where
    by : (b : Bool) → b ≡ true → (if b then ratio else ratio_at p.ratios n) ≡ ratio
    by true e = refl
    by false e = cc

pub ratio-old : (p : Periods) (ratio : Money) (n : ℕ) → n < p.current → ratio_at (ended_with p ratio).ratios n ≡ ratio_at p.ratios n
ratio-old p ratio n h = by (nat_le p.current n) (grind (arith, nat_tests))
  where
    by : (b : Bool) → b ≡ false → (if b then ratio else ratio_at p.ratios n) ≡ ratio_at p.ratios n
    by true e = cc
    by false e = refl

-- what a new ratio meets
pub record IsGrown (p : Periods) (ratio : Money) : Type 0 where
  pub coins : IsMoney ratio
  pub more : (denom : List ℕ) → amount_of (ratio_at p.ratios (p.current - 1)) denom ≤ amount_of ratio denom

-- ---- references at the end of a period

yes : (a b : ℕ) → a ≡ b → cond {A = ℕ} (a == b) 1 0 ≡ 1
yes a b h = by (a == b) (grind (arith, nat_tests))
  where
    by : (b : Bool) → b ≡ true → cond {A = ℕ} b 1 0 ≡ 1
    by true t = refl
    by false t = cc

no : (a b : ℕ) → a ≢ b → cond {A = ℕ} (a == b) 1 0 ≡ 0
no a b h = by (a == b) (grind (arith, nat_tests))
  where
    by : (b : Bool) → b ≡ false → cond {A = ℕ} b 1 0 ≡ 0
    by true t = cc
    by false t = refl

module _ (p : Periods) (starts : List StartingInfo) (ratio : Money) (sound : AreSound p starts) where
  abbrev refs : ℕ → ℕ
  refs n = references_of p starts n

  abbrev refs2 : ℕ → ℕ
  refs2 n = references_of (ended_with p ratio) starts n

  refs-last : refs2 (p.current - 1) ≡ refs (p.current - 1) - 1
  refs-last = omega (arith, sound.running, yes p.current (p.current - 1 + 1) (omega (arith, sound.running)), no (p.current + 1) (p.current - 1 + 1) (λ e. omega (arith, e, sound.running)))

  refs-new : refs2 p.current ≡ 1
  refs-new = omega (arith, yes (p.current + 1) (p.current + 1) refl, no p.current (p.current + 1) (λ e. omega (arith, e)), sound.ended p.current (omega arith))

  refs-other : (n : ℕ) → n ≢ p.current → n ≢ p.current - 1 → refs2 n ≡ refs n
  refs-other n a b = omega (arith, no (p.current + 1) (n + 1) (λ e. a (omega (arith, e))), no p.current (n + 1) (λ e. b (omega (arith, e))))

  ended-counted : (n : ℕ) → n ≢ p.current → n ≢ p.current - 1 → counted (ratio_at p.ratios n) (refs n) ≡ counted (ratio_at (ended_with p ratio).ratios n) (refs2 n)
  ended-counted n a b = by (nat_le p.current n) refl
    where
      by : (t : Bool) → nat_le p.current n ≡ t → counted (ratio_at p.ratios n) (refs n) ≡ counted (ratio_at (ended_with p ratio).ratios n) (refs2 n)
      by true t =
          let late : p.current ≤ n = grind (arith, nat_tests) in
          let zero : refs n ≡ 0 = sound.ended n late in
          ap (counted (ratio_at p.ratios n)) zero ∙ sym (ap (counted (ratio_at (ended_with p ratio).ratios n)) (refs-other n a b ∙ zero))
      by false t =
          let early : n < p.current = grind (arith, nat_tests) in
          λ i. counted (sym (ratio-old p ratio n early) i) (sym (refs-other n a b) i)

  ended-sound : p.current ≢ 10 ^ 18 → IsGrown p ratio → AreSound (ended_with p ratio) starts
  ended-sound below grown = record {
    running = omega arith;
    bounded = omega (arith, below, sound.bounded);
    ended = λ n le. omega (arith, refs-other n (λ e. omega (arith, e, le)) (λ e. omega (arith, e, le)), sound.ended n (omega (arith, le)));
    fractions = sound.fractions;
    ascend = sound.ascend;
    coins = λ n. coins_at n (nat_le p.current n) refl;
    rise = λ a b le denom. rise_at a b le denom (nat_le p.current a) refl (nat_le p.current b) refl;
  }
    where
      coins_at : (n : ℕ) (t : Bool) → nat_le p.current n ≡ t → IsMoney (ratio_at (ended_with p ratio).ratios n)
      coins_at n true t = subst IsMoney (sym (ratio-new p ratio n (grind (arith, nat_tests)))) grown.coins
      coins_at n false t = subst IsMoney (sym (ratio-old p ratio n (grind (arith, nat_tests)))) (sound.coins n)

      amount : ℕ → List ℕ → ℕ
      amount n denom = amount_of (ratio_at (ended_with p ratio).ratios n) denom

      rise_at : (a b : ℕ) → a ≤ b → (denom : List ℕ) (s : Bool) → nat_le p.current a ≡ s → (t : Bool) → nat_le p.current b ≡ t
          → amount_of (ratio_at (ended_with p ratio).ratios a) denom ≤ amount_of (ratio_at (ended_with p ratio).ratios b) denom
      rise_at a b le denom true s true t =
          let one = ap (λ m. amount_of m denom) (ratio-new p ratio a (grind (arith, nat_tests))) in
          let two = ap (λ m. amount_of m denom) (ratio-new p ratio b (grind (arith, nat_tests))) in
          omega (arith, one, two)
      rise_at a b le denom true s false t =
          let x : p.current ≤ a = grind (arith, nat_tests) in
          let y : b < p.current = grind (arith, nat_tests) in
          absurd (omega (arith, x, y, le))
      rise_at a b le denom false s true t =
          let x : a < p.current = grind (arith, nat_tests) in
          let y : p.current ≤ b = grind (arith, nat_tests) in
          let one = ap (λ m. amount_of m denom) (ratio-old p ratio a x) in
          let two = ap (λ m. amount_of m denom) (ratio-new p ratio b y) in
          let up = sound.rise a (p.current - 1) (omega (arith, x)) denom in
          omega (arith, one, two, up, grown.more denom)
      rise_at a b le denom false s false t =
          let x : a < p.current = grind (arith, nat_tests) in
          let y : b < p.current = grind (arith, nat_tests) in
          let one = ap (λ m. amount_of m denom) (ratio-old p ratio a x) in
          let two = ap (λ m. amount_of m denom) (ratio-old p ratio b y) in
          let up = sound.rise a b le denom in
          omega (arith, one, two, up)

module _ (k : Kept) (r : Rewards) (o : List ℕ) (p : Periods) (h : KeepsRewards k r) (is : at addr_cmp r.periods o ≡ Some p) (sorted : IsStrictlySortedBy period_cmp (keys_of k.historical)) (ratio : Money) where
  old : AreSound p (starts_of r o)
  old = sound-is k r o p h is

  abbrev put : Kept
  put = with_record o p.current ratio 1 k

  abbrev gone : Kept
  gone = released o (p.current - 1) put

  put-sorted : IsStrictlySortedBy period_cmp (keys_of put.historical)
  put-sorted = ascend-put period_cmp period_total k.historical (o, p.current) (record { ratio = ratio; count = 1 }) sorted

  put-record : (q : List ℕ) (m : ℕ) → record_of put q m ≡ cond (is_at (period_cmp (q, m)) (o, p.current)) (counted ratio 1) (record_of k q m)
  put-record q m = record-with k sorted o q p.current m 1 ratio

  test-no : (a b : ℕ) → a ≢ b → (a == b) ≡ false
  test-no a b h = grind (arith, nat_tests)

  put-last : record_of put o (p.current - 1) ≡ counted (ratio_at p.ratios (p.current - 1)) (references_of p (starts_of r o) (p.current - 1))
  put-last =
      put-record o (p.current - 1)
      ∙ ap (λ b. cond b (counted ratio 1) (record_of k o (p.current - 1))) (found-own o p.current (p.current - 1) ∙ test-no (p.current - 1) p.current (λ e. omega (arith, e, old.running)))
      ∙ record-is k r o p h is (p.current - 1)

  gone-record : (q : List ℕ) (m : ℕ) → record_of gone q m
      ≡ cond (is_at (period_cmp (q, m)) (o, p.current - 1)) (counted (ratio_at p.ratios (p.current - 1)) (references_of p (starts_of r o) (p.current - 1) - 1)) (record_of put q m)
  gone-record q m = record-released put put-sorted o (p.current - 1) (ratio_at p.ratios (p.current - 1)) (references_of p (starts_of r o) (p.current - 1)) put-last q m

  own-record : (m : ℕ) → record_of gone o m ≡ counted (ratio_at (ended_with p ratio).ratios m) (references_of (ended_with p ratio) (starts_of r o) m)
  own-record m = gone-record o m
      ∙ (λ i. cond (found-own o (p.current - 1) m i) (counted (ratio_at p.ratios (p.current - 1)) (references_of p (starts_of r o) (p.current - 1) - 1)) (middle i))
      ∙ by (m == p.current - 1) refl (m == p.current) refl
    where
      middle : record_of put o m ≡ cond (m == p.current) (counted ratio 1) (counted (ratio_at p.ratios m) (references_of p (starts_of r o) m))
      middle = put-record o m ∙ (λ i. cond (found-own o p.current m i) (counted ratio 1) (record-is k r o p h is m i))

      by : (a : Bool) → (m == p.current - 1) ≡ a → (b : Bool) → (m == p.current) ≡ b
          → cond a (counted (ratio_at p.ratios (p.current - 1)) (references_of p (starts_of r o) (p.current - 1) - 1)) (cond b (counted ratio 1) (counted (ratio_at p.ratios m) (references_of p (starts_of r o) m)))
          ≡ counted (ratio_at (ended_with p ratio).ratios m) (references_of (ended_with p ratio) (starts_of r o) m)
      by true s b t =
          let last : p.current - 1 ≡ m = grind (arith, nat_tests) in
          (λ i. counted (sym (ratio-old p ratio (p.current - 1) (omega (arith, old.running))) i) (sym (refs-last p (starts_of r o) ratio old) i))
          ∙ ap (λ n. counted (ratio_at (ended_with p ratio).ratios n) (references_of (ended_with p ratio) (starts_of r o) n)) last
      by false s true t =
          let new : p.current ≡ m = grind (arith, nat_tests) in
          (λ i. counted (sym (ratio-new p ratio p.current (omega arith)) i) (sym (refs-new p (starts_of r o) ratio old) i))
          ∙ ap (λ n. counted (ratio_at (ended_with p ratio).ratios n) (references_of (ended_with p ratio) (starts_of r o) n)) new
      by false s false t =
          let a : m ≢ p.current = λ e. grind (arith, nat_tests) in
          let b : m ≢ p.current - 1 = λ e. grind (arith, nat_tests) in
          ended-counted p (starts_of r o) ratio old m a b

  other-record : (q : List ℕ) (m : ℕ) → same_addr q o ≡ false → record_of gone q m ≡ record_of k q m
  other-record q m apart =
      gone-record q m
      ∙ (λ i. cond (found-other o q (p.current - 1) m apart i) (counted (ratio_at p.ratios (p.current - 1)) (references_of p (starts_of r o) (p.current - 1) - 1)) (record_of put q m))
      ∙ put-record q m ∙ (λ i. cond (found-other o q p.current m apart i) (counted ratio 1) (record_of k q m))

  ended-change : p.current ≢ 10 ^ 18 → IsGrown p ratio → KeepsRewards (with_current o (p.current + 1) gone) (with_periods o (ended_with p ratio) r)
  ended-change below grown = carry-periods k (with_current o (p.current + 1) gone) r o (ended_with p ratio) h (record {
    current = current-own gone o (p.current + 1);
    other_current = λ q apart. current-other gone o q (p.current + 1) apart ∙ ap (λ es. at addr_cmp es q) (recounted-current (record_of put o (p.current - 1)) (λ c. c - 1) o (p.current - 1) put);
    records = own-record;
    other_records = other-record;
    starts = recounted-starts (record_of put o (p.current - 1)) (λ c. c - 1) o (p.current - 1) put;
    events = ap (λ es. events_of (record k { events = es }) o) (recounted-events (record_of put o (p.current - 1)) (λ c. c - 1) o (p.current - 1) put) ∙ h.events o ∙ ap (λ s. (unwrap_or s initial_records).events) is;
    other_events = λ q apart. ap (λ es. events_of (record k { events = es }) q) (recounted-events (record_of put o (p.current - 1)) (λ c. c - 1) o (p.current - 1) put);
    sound = ended-sound p (starts_of r o) ratio old below grown;
  })

  -- the period of the operator has ended with this ratio
  pub end-stands : p.current ≢ 10 ^ 18 → IsGrown p ratio → KeepsRewards (ended_kept ratio o k) (with_periods o (ended_with p ratio) r)
  end-stands below grown = subst (λ c. KeepsRewards (with_current o (c + 1) (released o (c - 1) (with_record o c ratio 1 k))) (with_periods o (ended_with p ratio) r)) (sym (running-is k r o p h is)) (ended-change below grown)
