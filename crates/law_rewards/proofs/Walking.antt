-- The reward and the claim of a start, as the records change.
use Rattle.std.proofs.Common.{◌≡◌, ℕ, ◌+◌, ◌-◌, ◌*◌, ◌<◌, ◌≤◌, Bool, true, false, cond, List, [], ◌∷◌, ◌++◌, map, filter, refl, arith, ap, ap₂, ◌∙◌, min, sum}
use Rattle.std.{specs.List.AllByRecursion, proofs.lemmas.List.{Sums.sum_by-cons, Elements.filter-append}}
use Rattle.base_roles.specs.declared.entities.{StartingInfo.StartingInfo, SlashEvent.SlashEvent}
use Rattle.rule_modules.specs.Periods.{Periods, Stretch, ratio_at, falls_after, slashed_stake, stretches, stretches_of, unlimited_stretches, unlimited_stretches_of}
use Rattle.rule_modules.specs.Laws.{exact_claim}
use Rattle.law_rewards.specs.Account.{product_cut, earned_in, ratio_in}

-- what a walk over the events of a start has reached: what the stretches before give, cut and exactly, the running stake,
-- and where the open stretch begins
pub record Walk : Type 0 where
  pub paid : ℕ
  pub exact : ℕ
  pub stake : ℕ
  pub from : ℕ

abbrev pub crossed : (ℕ → ℕ) → Walk → SlashEvent → Walk
crossed ratio w e = record {
  paid = w.paid + product_cut (ratio e.period - ratio w.from) w.stake;
  exact = w.exact + (ratio e.period - ratio w.from) * w.stake;
  stake = slashed_stake w.stake e.fraction;
  from = e.period;
}

abbrev pub walk : (ℕ → ℕ) → Walk → List SlashEvent → Walk
walk ratio w [] = w
walk ratio w (e ∷ es) = walk ratio (crossed ratio w e) es

abbrev pub first_walk : StartingInfo → Walk
first_walk s = record { paid = 0; exact = 0; stake = s.stake; from = s.period }

-- the walk over the events of a start
abbrev pub walk_of : (ℕ → ℕ) → StartingInfo → List SlashEvent → Walk
walk_of ratio s events = walk ratio (first_walk s) (filter (falls_after s) events)

-- ---- the walk gives the reward and the claim

abbrev claim_of_stretches : (ℕ → ℕ) → List Stretch → ℕ
claim_of_stretches ratio ts = sum (map (λ t. (ratio t.last - ratio t.after) * t.stake) ts)

pub walk_earns : (ratio : ℕ → ℕ) (w : Walk) (last value : ℕ) (es : List SlashEvent)
    → w.paid + earned_in ratio (stretches w.from w.stake last value es) ≡ (walk ratio w es).paid + product_cut (ratio last - ratio (walk ratio w es).from) (min (walk ratio w es).stake value)
walk_earns ratio w last value [] =
    omega (arith, sum_by-cons (λ n. n) (product_cut (ratio last - ratio w.from) (min w.stake value)) [])
walk_earns ratio w last value (e ∷ es) =
    let part : ℕ = product_cut (ratio e.period - ratio w.from) w.stake in
    let rest : List Stretch = stretches e.period (slashed_stake w.stake e.fraction) last value es in
    let more : earned_in ratio (stretches w.from w.stake last value (e ∷ es)) ≡ part + earned_in ratio rest = sum_by-cons (λ n. n) part (map (λ t. product_cut (ratio t.last - ratio t.after) t.stake) rest) in
    let next : (w.paid + part) + earned_in ratio rest ≡ (walk ratio (crossed ratio w e) es).paid + product_cut (ratio last - ratio (walk ratio (crossed ratio w e) es).from) (min (walk ratio (crossed ratio w e) es).stake value) =
    walk_earns ratio (crossed ratio w e) last value es in
    omega arith

walk_claims : (ratio : ℕ → ℕ) (w : Walk) (last : ℕ) (es : List SlashEvent)
    → w.exact + claim_of_stretches ratio (unlimited_stretches w.from w.stake last es) ≡ (walk ratio w es).exact + (ratio last - ratio (walk ratio w es).from) * (walk ratio w es).stake
walk_claims ratio w last [] =
    omega (arith, sum_by-cons (λ n. n) ((ratio last - ratio w.from) * w.stake) [])
walk_claims ratio w last (e ∷ es) =
    let part : ℕ = (ratio e.period - ratio w.from) * w.stake in
    let rest : List Stretch = unlimited_stretches e.period (slashed_stake w.stake e.fraction) last es in
    let more : claim_of_stretches ratio (unlimited_stretches w.from w.stake last (e ∷ es)) ≡ part + claim_of_stretches ratio rest = sum_by-cons (λ n. n) part (map (λ t. (ratio t.last - ratio t.after) * t.stake) rest) in
    let next : (w.exact + part) + claim_of_stretches ratio rest ≡ (walk ratio (crossed ratio w e) es).exact + (ratio last - ratio (walk ratio (crossed ratio w e) es).from) * (walk ratio (crossed ratio w e) es).stake =
    walk_claims ratio (crossed ratio w e) last es in
    omega arith

-- the claim up to a period
pub claim_is : (d : List ℕ) (p : Periods) (s : StartingInfo) (last : ℕ) → let w = walk_of (ratio_in d p) s p.events in
    exact_claim d (ratio_at p.ratios) (unlimited_stretches_of s p.events last) ≡ w.exact + (ratio_in d p last - ratio_in d p w.from) * w.stake
claim_is d p s last =
    let all : exact_claim d (ratio_at p.ratios) (unlimited_stretches_of s p.events last) ≡ 0 + claim_of_stretches (ratio_in d p) (unlimited_stretches_of s p.events last) = omega arith in
    all ∙ walk_claims (ratio_in d p) (first_walk s) last (filter (falls_after s) p.events)

pub earned_is : (d : List ℕ) (p : Periods) (s : StartingInfo) (last value : ℕ) → let w = walk_of (ratio_in d p) s p.events in
    earned_in (ratio_in d p) (stretches_of s p.events last value) ≡ w.paid + product_cut (ratio_in d p last - ratio_in d p w.from) (min w.stake value)
earned_is d p s last value =
    let all : earned_in (ratio_in d p) (stretches_of s p.events last value) ≡ 0 + earned_in (ratio_in d p) (stretches_of s p.events last value) = omega arith in
    all ∙ walk_earns (ratio_in d p) (first_walk s) last value (filter (falls_after s) p.events)

-- ---- the walk, as the records change

-- ratios that are the same below a period give the same walk there
pub walk_same : (n : ℕ) (f g : ℕ → ℕ) (w : Walk) (es : List SlashEvent) → ((q : ℕ) → q < n → f q ≡ g q) → w.from < n → AllByRecursion (λ e. e.period < n) es
    → walk f w es ≡ walk g w es
walk_same n f g w [] same early each = refl
walk_same n f g w (e ∷ es) same early each =
    let step : crossed f w e ≡ crossed g w e = ap₂ (λ q r. let out : Walk = record {
      paid = w.paid + product_cut (q - r) w.stake;
      exact = w.exact + (q - r) * w.stake;
      stake = slashed_stake w.stake e.fraction;
      from = e.period;
    } in out) (same e.period each.0) (same w.from early) in
    ap (λ v. walk f v es) step ∙ walk_same n f g (crossed g w e) es same each.0 each.1

pub walk_behind : (ratio : ℕ → ℕ) (w : Walk) (es : List SlashEvent) (e : SlashEvent) → walk ratio w (es ++ e ∷ []) ≡ crossed ratio (walk ratio w es) e
walk_behind ratio w [] e = refl
walk_behind ratio w (f ∷ es) e = walk_behind ratio (crossed ratio w f) es e

pub all_filter : (P : SlashEvent → Type 0) (test : SlashEvent → Bool) (es : List SlashEvent) → AllByRecursion P es → AllByRecursion P (filter test es)
all_filter P test [] each = tt
all_filter P test (e ∷ es) each = kept (test e) (filter test es) (all_filter P test es each.1)
  where
    kept : (b : Bool) (rest : List SlashEvent) → AllByRecursion P rest → AllByRecursion P (cond b (e ∷ rest) rest)
    kept true rest more = (each.0, more)
    kept false rest more = more

counted : (s : StartingInfo) (e : SlashEvent) → s.height ≤ e.height → s.period < e.period → falls_after s e ≡ true
counted s e h k = grind arith

not_counted : (s : StartingInfo) (e : SlashEvent) → e.period ≤ s.period → falls_after s e ≡ false
not_counted s e h = grind arith

-- a new event that falls after the start
pub walk_of_behind : (ratio : ℕ → ℕ) (s : StartingInfo) (es : List SlashEvent) (e : SlashEvent) → s.height ≤ e.height → s.period < e.period
    → walk_of ratio s (es ++ e ∷ []) ≡ crossed ratio (walk_of ratio s es) e
walk_of_behind ratio s es e h k =
    let one_more : filter (falls_after s) (e ∷ []) ≡ e ∷ [] = ap (λ b. cond b (e ∷ []) []) (counted s e h k) in
    ap (λ fs. walk ratio (first_walk s) fs) (filter-append (falls_after s) es (e ∷ []) ∙ ap (λ fs. filter (falls_after s) es ++ fs) one_more)
    ∙ walk_behind ratio (first_walk s) (filter (falls_after s) es) e

-- no event of a period before the start is counted
none_counted : (s : StartingInfo) (es : List SlashEvent) → AllByRecursion (λ e. e.period ≤ s.period) es → filter (falls_after s) es ≡ []
none_counted s [] each = refl
none_counted s (e ∷ es) each =
    ap (λ b. cond b (e ∷ filter (falls_after s) es) (filter (falls_after s) es)) (not_counted s e each.0) ∙ none_counted s es each.1

pub walk_of_none : (ratio : ℕ → ℕ) (s : StartingInfo) (es : List SlashEvent) → AllByRecursion (λ e. e.period ≤ s.period) es → walk_of ratio s es ≡ first_walk s
walk_of_none ratio s es each = ap (λ fs. walk ratio (first_walk s) fs) (none_counted s es each)
