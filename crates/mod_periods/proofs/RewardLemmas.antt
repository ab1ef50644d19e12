-- The reward on the kept records is that on the ratios of all periods ever ended.
use Rattle.std.proofs.Common.{◌≡◌, ◌≢◌, ℕ, ◌+◌, ◌-◌, ◌^◌, ◌<◌, ◌≤◌, ◌==◌, Bool, true, false, cond, if◌then◌else◌, List, [], ◌∷◌, All, AllPairs, filter, Some, None, is_some, unwrap_or, refl, sym, ◌∙◌, ap, subst, arith}
use Rattle.std.proofs.lemmas.Bool.Decides.{nat_tests}
use Rattle.std.proofs.lemmas.List.Elements.{All-nil, All-cons, All-head, All-tail, All-filter, All-weaker}
use Rattle.base_types.specs.Orders.{addr_cmp}
use Rattle.base_coins.specs.Coins.{Money, IsMoney, amount_of, coins_added, coins_taken, coins_mul_cut}
use Rattle.base_roles.specs.declared.entities.{Historical.Historical, StartingInfo.StartingInfo, SlashEvent.SlashEvent}
use Rattle.base_roles.specs.{Entries.at, Orders.{pair_cmp, same_addr}, Flow.{◌>>=◌}}
use Rattle.rule_modules.specs.Amounts.{count_where}
use Rattle.rule_modules.specs.Periods.{Periods, Rewards, start_of, starts_of, ratio_at, references_of, Stretch, slashed_stake, stretches, stretches_of, falls_after, earned}
use Rattle.mod_periods.specs.{Earning.{ratios_with, kept_reward, CanEarn}, Kept.{Kept, record_of, events_of}}
use Rattle.mod_periods.{specs.Stands.{AreSound, KeepsRewards}, proofs.OrderLemmas.same_itself}
use Rattle.mod_periods.proofs.{TallyLemmas.{tally, tally-some}, EventLemmas.pairs-respect}
use Rattle.mod_periods.proofs.{RecordLemmas.{counted, counted-some}, FoundLemmas.{record-is, sound-is, periods-is}}
use Rattle.mod_periods.proofs.EndLemmas.{ended_with, IsGrown, ratio-new, ratio-old}
use Rattle.mod_periods.proofs.EarnLemmas.{ratio-found, ratio-last}

-- ---- the reward reads the ratios at the ends of its stretches alone

abbrev Agree : (ℕ → Money) → (ℕ → Money) → List Stretch → Type 0
Agree f g [] = Unit {0}
Agree f g (t ∷ ts) = (f t.after ≡ g t.after) × (f t.last ≡ g t.last) × Agree f g ts

earned-same : (f g : ℕ → Money) (ts : List Stretch) (total : Money) → Agree f g ts → earned f ts total ≡ earned g ts total
earned-same f g [] total h = refl
earned-same f g (t ∷ ts) total h =
    let first : coins_mul_cut (coins_taken (f t.last) (f t.after)) t.stake ≡ coins_mul_cut (coins_taken (g t.last) (g t.after)) t.stake
    = λ i. coins_mul_cut (coins_taken (h.1 i) (h.0 i)) t.stake in
    ap (λ part. part >>= λ p. coins_added total p >>= λ sum. earned f ts sum) first
    ∙ ap (λ next. coins_mul_cut (coins_taken (g t.last) (g t.after)) t.stake >>= λ p. coins_added total p >>= next) (λ i sum. earned-same f g ts sum h.2 i)

agree-on : (f g : ℕ → Money) (period stake ending value : ℕ) (es : List SlashEvent) → f period ≡ g period → All (λ e. f e.period ≡ g e.period) es → f ending ≡ g ending
    → Agree f g (stretches period stake ending value es)
agree-on f g period stake ending value [] start events last = (start, last, tt)
agree-on f g period stake ending value (e ∷ es) start events last =
    let here : f e.period ≡ g e.period = All-head (λ (d : SlashEvent). f d.period ≡ g d.period) e es events in
    (start, here, agree-on f g e.period (slashed_stake stake e.fraction) ending value es here (All-tail (λ (d : SlashEvent). f d.period ≡ g d.period) e es events) last)

-- ---- what starts and events refer to has a record

one_more : (test : SlashEvent → Bool) (x : SlashEvent) (xs : List SlashEvent) → count_where test xs ≤ count_where test (x ∷ xs)
one_more test x xs = by (test x)
  where
    by : (b : Bool) → count_where test xs ≤ cond b 1 0 + count_where test xs
    by true = omega arith
    by false = omega arith

first_counts : (x : SlashEvent) (xs : List SlashEvent) → 1 ≤ count_where (λ d. d.period == x.period) (x ∷ xs)
first_counts x xs = by (x.period == x.period) (grind (arith, nat_tests))
  where
    by : (b : Bool) → b ≡ true → 1 ≤ cond b 1 0 + count_where (λ d. d.period == x.period) xs
    by true t = omega arith
    by false t = cc

events-count : (xs : List SlashEvent) → All (λ e. 1 ≤ count_where (λ d. d.period == e.period) xs) xs
events-count [] = All-nil (λ (e : SlashEvent). 1 ≤ count_where (λ (d : SlashEvent). d.period == e.period) [])
events-count (x ∷ xs) =
    All-cons (λ (e : SlashEvent). 1 ≤ count_where (λ (d : SlashEvent). d.period == e.period) (x ∷ xs)) x xs (first_counts x xs)
    (All-weaker (λ (e : SlashEvent). 1 ≤ count_where (λ (d : SlashEvent). d.period == e.period) xs) (λ (e : SlashEvent). 1 ≤ count_where (λ (d : SlashEvent). d.period == e.period) (x ∷ xs))
    (λ e le. omega (arith, le, one_more (λ d. d.period == e.period) x xs)) xs (events-count xs))

module _ (k : Kept) (r : Rewards) (o delegator : List ℕ) (p : Periods) (s : StartingInfo) (h : KeepsRewards k r) (is : at addr_cmp r.periods o ≡ Some p) (start : start_of r delegator o ≡ Some s) where
  old : AreSound p (starts_of r o)
  old = sound-is k r o p h is

  abbrev refs : ℕ → ℕ
  refs n = references_of p (starts_of r o) n

  found_at : (n : ℕ) → refs n ≢ 0 → record_of k o n ≡ Some (record { ratio = ratio_at p.ratios n; count = refs n })
  found_at n some = record-is k r o p h is n ∙ counted-some (ratio_at p.ratios n) (refs n) some

  start-refers : refs s.period ≢ 0
  start-refers z =
      let one : tally pair_cmp (λ key. same_addr key.0 o) (λ x. x.period == s.period) r.starts ≡ tally pair_cmp (λ key. same_addr key.0 o) (λ x. x.period == s.period) _ + 1
      = tally-some pair_cmp (λ key. same_addr key.0 o) (λ x. x.period == s.period) (pairs-respect o) r.starts (o, delegator) s start (same_itself o) (grind (arith, nat_tests)) in
      omega (arith, z, one)

  events-same : events_of k o ≡ p.events
  events-same = h.events o ∙ ap (λ x. x.events) (periods-is k r o p h is)

  events-refer : All (λ e. refs e.period ≢ 0) p.events
  events-refer = All-weaker (λ (e : SlashEvent). 1 ≤ count_where (λ (d : SlashEvent). d.period == e.period) p.events) (λ (e : SlashEvent). refs e.period ≢ 0) (λ e le z. omega (arith, le, z)) p.events (events-count p.events)

  -- a record has the ratio of its period, which has ended
  ratio_counted : (ratio : Money) (n : ℕ) (x : Historical) → counted ratio n ≡ Some x → (x.ratio ≡ ratio) × (n ≢ 0)
  ratio_counted ratio n x e = by (n == 0) refl e
    where
      by : (b : Bool) → (n == 0) ≡ b → (if b then None else Some (record { ratio = ratio; count = n })) ≡ Some x → (x.ratio ≡ ratio) × (n ≢ 0)
      by true t q = cc
      by false t q = (sym (ap (λ y. (unwrap_or y x).ratio) q), λ z. grind (arith, nat_tests))

  record-ratio : (n : ℕ) (x : Historical) → record_of k o n ≡ Some x → x.ratio ≡ ratio_at p.ratios n
  record-ratio n x e = (ratio_counted (ratio_at p.ratios n) (refs n) x (sym (record-is k r o p h is n) ∙ e)).0

  record-ended : (n : ℕ) (x : Historical) → record_of k o n ≡ Some x → n < p.current
  record-ended n x e =
      let some : refs n ≢ 0 = (ratio_counted (ratio_at p.ratios n) (refs n) x (sym (record-is k r o p h is n) ∙ e)).1 in
      let late : p.current ≤ n → ⊥ = λ le. some (old.ended n le) in
      omega (arith, late)

  -- so the records can be read, up to a period whose ratio is not below that of any record
  can-earn : (ending : ℕ) (ratio : Money) → ((n : ℕ) → n < p.current → (denom : List ℕ) → amount_of (ratio_at p.ratios n) denom ≤ amount_of ratio denom)
      → (ending < p.current → ratio ≡ ratio_at p.ratios ending) → CanEarn k o s ending ratio
  can-earn ending ratio last same = record {
    start = ap is_some (found_at s.period start-refers);
    events = subst (λ es. All (λ e. is_some (record_of k o e.period) ≡ true) es) (sym events-same)
        (All-weaker (λ (e : SlashEvent). refs e.period ≢ 0) (λ (e : SlashEvent). is_some (record_of k o e.period) ≡ true) (λ e some. ap is_some (found_at e.period some)) p.events events-refer);
    fractions = subst (λ es. All (λ e. e.fraction ≤ 10 ^ 18) es) (sym events-same) old.fractions;
    ascend = subst (λ es. AllPairs (λ a b. a.period ≤ b.period) es) (sym events-same) (λ i j d lt within. let up = old.ascend i j d lt within in omega (arith, up.1));
    coins = λ a x f. subst IsMoney (sym (record-ratio a x f)) (old.coins a);
    rise = λ a b x y le f g denom.
        let one = ap (λ m. amount_of m denom) (record-ratio a x f) in
        let two = ap (λ m. amount_of m denom) (record-ratio b y g) in
        omega (arith, one, two, old.rise a b le denom);
    last = λ a x f denom. let one = ap (λ m. amount_of m denom) (record-ratio a x f) in omega (arith, one, last a (record-ended a x f) denom);
    same = λ x f. record-ratio ending x f ∙ sym (same (record-ended ending x f));
  }

  -- the reward by what is kept is that by these ratios, where they agree
  reward-same : (ending : ℕ) (ratio : Money) (value : ℕ) (g : ℕ → Money) → CanEarn k o s ending ratio → ((n : ℕ) → n < p.current → g n ≡ ratio_at p.ratios n) → g ending ≡ ratio
      → kept_reward k o s ending ratio value ≡ earned g (stretches_of s p.events ending value) []
  reward-same ending ratio value g can agree last =
      let at : (n : ℕ) → refs n ≢ 0 → ratios_with k o ending ratio n ≡ g n
      = λ n some. ratio-found k o s ending ratio value can n _ (found_at n some) ∙ sym (agree n (record-ended n _ (found_at n some))) in
      ap (λ es. earned (ratios_with k o ending ratio) (stretches_of s es ending value) []) events-same
      ∙ earned-same (ratios_with k o ending ratio) g (stretches_of s p.events ending value) []
      (agree-on (ratios_with k o ending ratio) g s.period s.stake ending value (filter (falls_after s) p.events) (at s.period start-refers)
      (All-filter (falls_after s) (λ (e : SlashEvent). ratios_with k o ending ratio e.period ≡ g e.period) p.events
      (All-weaker (λ (e : SlashEvent). refs e.period ≢ 0) (λ (e : SlashEvent). ratios_with k o ending ratio e.period ≡ g e.period) (λ e some. at e.period some) p.events events-refer))
      (ratio-last k o s ending ratio value can ∙ sym last))

  -- up to the last ended period
  pub can-now : (ending : ℕ) → ending + 1 ≡ p.current → CanEarn k o s ending (ratio_at p.ratios ending)
  can-now ending e = can-earn ending (ratio_at p.ratios ending) (λ n lt denom. old.rise n ending (omega (arith, e, lt)) denom) (λ lt. refl)

  pub reward-now : (ending value : ℕ) → ending + 1 ≡ p.current → kept_reward k o s ending (ratio_at p.ratios ending) value ≡ earned (ratio_at p.ratios) (stretches_of s p.events ending value) []
  reward-now ending value e = reward-same ending (ratio_at p.ratios ending) value (ratio_at p.ratios) (can-now ending e) (λ n lt. refl) refl

  -- up to the period that runs, once it has ended
  module _ (ratio : Money) (grown : IsGrown p ratio) where
    pub can-after : CanEarn k o s p.current ratio
    can-after = can-earn p.current ratio
        (λ n lt denom. let up = old.rise n (p.current - 1) (omega (arith, lt)) denom in omega (arith, up, grown.more denom))
        (λ lt. absurd (omega (arith, lt)))

    pub reward-after : (value : ℕ) → kept_reward k o s p.current ratio value ≡ earned (ratio_at (ended_with p ratio).ratios) (stretches_of s p.events p.current value) []
    reward-after value = reward-same p.current ratio value (ratio_at (ended_with p ratio).ratios) can-after (λ n lt. ratio-old p ratio n lt) (ratio-new p ratio p.current (omega arith))
