-- What each start's records, span and ideal have to do with each other, after each deed.
use Rattle.std.proofs.Common.{◌≡◌, ℕ, ◌+◌, ◌-◌, ◌*◌, ◌==◌, ◌<◌, ◌≤◌, ◌≢◌, Bool, true, false, cond, List, [], ◌∷◌, ◌++◌, refl, arith, ap, sym, ◌∙◌, subst, Option, Some, None, Ok, min, inl, inr, insert, filter}
use Rattle.std.{specs.List.AllByRecursion, proofs.lemmas.{Bool.cases_eq, Grind.common_steps, Map.Text.is_eq-slice_cmp}}
use Rattle.std.proofs.lemmas.Slice.Eq.{bytes_eq-Decides}
use Rattle.base_coins.specs.Coins.{Money, amount_of}
use Rattle.base_shares.specs.Shares.{issued_shares, value_cut_of, value_even_of, amount_out}
use Rattle.base_shares.{specs.Burns.{recorded_fraction, ratio_of}, proofs.{Fractions.fraction_most, Issues.issued_most}}
use Rattle.base_decimals.specs.Fractions.{Fraction}
use Rattle.base_roles.specs.{declared.entities.{StartingInfo.StartingInfo, SlashEvent.SlashEvent}, Log.LogEntry}
use Rattle.base_roles.specs.Orders.{same_addr}
use Rattle.base_roles.specs.Log as log
use Rattle.rule_modules.specs.Ideal.{Span, Ideal, Brackets, span_with, span_of, ideal_start, ideal_after, ideal_over, ideal_of}
use Rattle.rule_modules.specs.Periods.{Periods, ratio_at, last_ended, event_recorded, stretches_of, slashed_stake, falls_after}
use Rattle.rule_modules.specs.Slashing.{slash_fraction}
use Rattle.law_rewards.specs.Account.{Start, Account, product_cut, ratio_in, earned_in, increment_of, IsNextRatio, period_closed, account_slashed, start_made, reward_now}
use Rattle.law_rewards.proofs.{Rounding.{one, floor_low, value_even_high}, Steps.{issue_value, leave_value, leave_fall}}
use Rattle.law_rewards.proofs.Exact.{Reckoned, stretch_paid, reckoned_reward, Exact, exact_start, exact_allocated, exact_slashed}
use Rattle.law_rewards.proofs.Keeping.{Keeps, keeps_allocates, keeps_ends, keeps_slashes, keeps_pool, keeps_start, Bounds, bounds}
use Rattle.law_rewards.proofs.Standing.{Stands, stands_allocated, stands_ended, stands_left, stands_slashed, stands_start, brackets_from}
use Rattle.law_rewards.proofs.Walking.{Walk, first_walk, walk_of, walk_same, walk_of_behind, walk_of_none, all_filter, earned_is}

-- w is the walk over the records
pub record Agrees (d : List ℕ) (p : Periods) (w : Walk) (r : Reckoned) : Type 0 where
  pub from_early : w.from < p.current
  pub paid : w.paid ≡ r.paid
  pub stake : w.stake ≡ r.stake
  pub rise : ratio_in d p w.from + r.rise ≡ ratio_in d p (last_ended p)

-- what holds of one start
pub record Follows (d : List ℕ) (a : Account) (s : Start) : Type 0 where
  pub span : Span
  pub is : span_of s.who a.history None ≡ Some span
  pub some : 0 < s.shares
  pub some_shares : 0 < span.first.denominator
  pub exact : Exact
  pub reckoned : Reckoned
  pub keeps : Keeps (span.first.numerator * one) span.first.denominator s.shares a.tokens a.shares a.current exact reckoned
  pub stands : Stands span.first.numerator span.first.denominator exact (ideal_of d span)
  pub agrees : Agrees d a.periods (walk_of (ratio_in d a.periods) s.info a.periods.events) reckoned
  pub early : s.info.period < a.periods.current
  pub height : s.info.height ≤ a.height
  pub fresh : a.height ≤ s.info.height → exact.closed + exact.opened ≡ 0

-- ---- a log with one more entry

span_behind : (who : List ℕ) (es : List LogEntry) (e : LogEntry) (s : Option Span) → span_of who (es ++ e ∷ []) s ≡ span_with who e (span_of who es s)
span_behind who [] e s = refl
span_behind who (f ∷ es) e s = span_behind who es e (span_with who f s)

pub ideal_behind : (d : List ℕ) (first : Fraction) (i : Ideal) (es : List LogEntry) (e : LogEntry) → ideal_over d first i (es ++ e ∷ []) ≡ ideal_after d first (ideal_over d first i es) e
ideal_behind d first i [] e = refl
ideal_behind d first i (f ∷ es) e = ideal_behind d first (ideal_after d first i f) es e

abbrev with_entry : Span → LogEntry → Span
with_entry s e = record s { entries = s.entries ++ e ∷ [] }

pub now_is : (who : List ℕ) (history : List LogEntry) (e : LogEntry) (s : Option Span) → span_of who history None ≡ s → span_of who (history ++ e ∷ []) None ≡ span_with who e s
now_is who history e s is = span_behind who history e None ∙ ap (span_with who e) is

stands_with : (d : List ℕ) (s : Span) (e : LogEntry) (x : Exact) → Stands s.first.numerator s.first.denominator x (ideal_after d s.first (ideal_of d s) e)
    → Stands s.first.numerator s.first.denominator x (ideal_of d (with_entry s e))
stands_with d s e x k = subst (λ i. Stands s.first.numerator s.first.denominator x i) (sym (ideal_behind d s.first (ideal_start s.first) s.entries e)) k

-- ---- the next block, an allocation, the end of a period

pub block_follows : (d : List ℕ) (a : Account) (height : ℕ) (s : Start) → a.height < height → Follows d a s → Follows d (record a { height = height }) s
block_follows d a height s later k = record {
  span = k.span;
  is = k.is;
  some = k.some;
  some_shares = k.some_shares;
  exact = k.exact;
  reckoned = k.reckoned;
  keeps = k.keeps;
  stands = k.stands;
  agrees = k.agrees;
  early = k.early;
  height = omega (arith, k.height);
  fresh = λ h. absurd (omega (arith, k.height));
}

abbrev pub allocated : List ℕ → Account → ℕ → Money → Money → Account
allocated d a commission share rest = record a {
  current = a.current + amount_of rest d;
  commission = a.commission + commission;
  outstanding = a.outstanding + (commission + amount_of rest d);
  history = a.history ++ log.allocated share rest a.tokens ∷ [];
}

pub allocation_follows : (d : List ℕ) (a : Account) (commission : ℕ) (share rest : Money) (s : Start) → s.info.height < a.height → Follows d a s → Follows d (allocated d a commission share rest) s
allocation_follows d a commission share rest s h k = let n : ℕ = k.span.first.numerator in let x : ℕ = k.span.first.denominator in record {
  span = with_entry k.span (log.allocated share rest a.tokens);
  is = now_is s.who a.history (log.allocated share rest a.tokens) (Some k.span) k.is;
  some = k.some;
  some_shares = k.some_shares;
  exact = exact_allocated k.exact (amount_of rest d) a.tokens;
  reckoned = k.reckoned;
  keeps = keeps_allocates (n * one) x s.shares a.tokens a.shares a.current (amount_of rest d) k.exact k.reckoned k.keeps;
  stands = stands_with d k.span (log.allocated share rest a.tokens) (exact_allocated k.exact (amount_of rest d) a.tokens) (stands_allocated n x (amount_of rest d) a.tokens k.exact (ideal_of d k.span) k.stands);
  agrees = k.agrees;
  early = k.early;
  height = k.height;
  fresh = λ g. absurd (omega arith);
}

pub ratio_old : (c q : ℕ) (r : Money) (rs : List (ℕ × Money)) → q < c → ratio_at ((c, r) ∷ rs) q ≡ ratio_at rs q
ratio_old c q r rs h = grind arith

pub ratio_new : (c q : ℕ) (r : Money) (rs : List (ℕ × Money)) → c ≤ q → ratio_at ((c, r) ∷ rs) q ≡ r
ratio_new c q r rs h = grind arith

-- the last ratio after the end of a period
pub last_ratio : (d : List ℕ) (a : Account) (increment ratio : Money) → 0 < a.periods.current → IsNextRatio d a increment ratio
    → ratio_in d (period_closed increment ratio a).periods (last_ended (period_closed increment ratio a).periods) ≡ ratio_in d a.periods (last_ended a.periods) + increment_of a.current a.tokens
last_ratio d a increment ratio some next =
    let new : ratio_in d (period_closed increment ratio a).periods (last_ended (period_closed increment ratio a).periods) ≡ amount_of ratio d =
    ap (λ m. amount_of m d) (ratio_new a.periods.current (a.periods.current + 1 - 1) ratio a.periods.ratios (omega arith)) in
    omega (arith, next.increment_is, next.ratio_is)

-- the walk of a start does not see the ratio of a period that ends
pub walk_ended : (d : List ℕ) (a : Account) (increment ratio : Money) (s : StartingInfo) → s.period < a.periods.current → AllByRecursion (λ e. e.period < a.periods.current) a.periods.events
    → walk_of (ratio_in d (period_closed increment ratio a).periods) s a.periods.events ≡ walk_of (ratio_in d a.periods) s a.periods.events
walk_ended d a increment ratio s early past =
    walk_same a.periods.current (ratio_in d (period_closed increment ratio a).periods) (ratio_in d a.periods) (first_walk s) (filter (falls_after s) a.periods.events)
    (λ q h. ap (λ m. amount_of m d) (ratio_old a.periods.current q ratio a.periods.ratios h)) early
    (all_filter (λ e. e.period < a.periods.current) (falls_after s) a.periods.events past)

agrees_ended : (d : List ℕ) (a : Account) (increment ratio : Money) (s : StartingInfo) (r : Reckoned) → 0 < a.periods.current → IsNextRatio d a increment ratio
    → s.period < a.periods.current → AllByRecursion (λ e. e.period < a.periods.current) a.periods.events
    → Agrees d a.periods (walk_of (ratio_in d a.periods) s a.periods.events) r
    → Agrees d (period_closed increment ratio a).periods (walk_of (ratio_in d (period_closed increment ratio a).periods) s a.periods.events) (record r { rise = r.rise + increment_of a.current a.tokens })
agrees_ended d a increment ratio s r some next early past g =
    let w : Walk = walk_of (ratio_in d a.periods) s a.periods.events in
    let old : ratio_in d (period_closed increment ratio a).periods w.from ≡ ratio_in d a.periods w.from = ap (λ m. amount_of m d) (ratio_old a.periods.current w.from ratio a.periods.ratios g.from_early) in
    subst (λ v. Agrees d (period_closed increment ratio a).periods v (record r { rise = r.rise + increment_of a.current a.tokens })) (sym (walk_ended d a increment ratio s early past)) (record {
      from_early = omega (arith, g.from_early);
      paid = g.paid;
      stake = g.stake;
      rise = omega (arith, g.rise, old, last_ratio d a increment ratio some next);
    })

pub end_follows : (d : List ℕ) (a : Account) (increment ratio : Money) (s : Start) → 0 < a.periods.current → AllByRecursion (λ e. e.period < a.periods.current) a.periods.events
    → IsNextRatio d a increment ratio → Follows d a s → Follows d (period_closed increment ratio a) s
end_follows d a increment ratio s some past next k = let n : ℕ = k.span.first.numerator in let x : ℕ = k.span.first.denominator in
    let entry : LogEntry = log.ended a.periods.current increment a.tokens in record {
      span = with_entry k.span entry;
      is = now_is s.who a.history entry (Some k.span) k.is;
      some = k.some;
      some_shares = k.some_shares;
      exact = record k.exact { ended = k.exact.ended + 1 };
      reckoned = record k.reckoned { rise = k.reckoned.rise + increment_of a.current a.tokens };
      keeps = keeps_ends (n * one) x s.shares a.tokens a.shares a.current k.exact k.reckoned k.keeps;
      stands = stands_with d k.span entry (record k.exact { ended = k.exact.ended + 1 }) (stands_ended n x k.exact (ideal_of d k.span) k.stands);
      agrees = agrees_ended d a increment ratio s.info k.reckoned some next k.early past k.agrees;
      early = omega (arith, k.early);
      height = k.height;
      fresh = k.fresh;
    }

-- ---- a slash of an account whose period has just ended

pub fraction_is : (burn tokens : ℕ) → burn ≤ tokens → 0 < tokens → slash_fraction burn tokens ≡ recorded_fraction burn tokens
fraction_is burn tokens less some = omega (arith, fraction_most burn tokens less some)

agrees_slashed : (d : List ℕ) (p : Periods) (height fraction : ℕ) (s : StartingInfo) (r : Reckoned) → 0 < p.current → s.height ≤ height → s.period < last_ended p
    → Agrees d p (walk_of (ratio_in d p) s p.events) r
    → Agrees d (event_recorded height fraction p) (walk_of (ratio_in d p) s (event_recorded height fraction p).events) (stretch_paid r fraction)
agrees_slashed d p height fraction s r some late early g =
    let e : SlashEvent = record { height = height; period = last_ended p; fraction = fraction } in
    let w : Walk = walk_of (ratio_in d p) s p.events in
    let rise : ratio_in d p (last_ended p) - ratio_in d p w.from ≡ r.rise = omega (arith, g.rise) in
    subst (λ v. Agrees d (event_recorded height fraction p) v (stretch_paid r fraction)) (sym (walk_of_behind (ratio_in d p) s p.events e late early)) (record {
      from_early = omega arith;
      paid = ap (λ q. q + product_cut (ratio_in d p (last_ended p) - ratio_in d p w.from) w.stake) g.paid
          ∙ ap (λ q. r.paid + product_cut q w.stake) rise ∙ ap (λ q. r.paid + product_cut r.rise q) g.stake;
      stake = ap (λ q. slashed_stake q fraction) g.stake;
      rise = omega arith;
    })

pub slash_follows : (d : List ℕ) (a : Account) (burn : ℕ) (s : Start) → 0 < a.tokens → a.tokens ≤ one → burn ≤ a.tokens → a.current ≡ 0 → 0 < a.periods.current → s.info.period < last_ended a.periods
    → Follows d a s → Follows d (account_slashed burn a) s
slash_follows d a burn s some few less none some_period early k = let n : ℕ = k.span.first.numerator in let x : ℕ = k.span.first.denominator in
    let f : ℕ = slash_fraction burn a.tokens in
    let entry : LogEntry = log.slashed burn a.tokens f in record {
      span = with_entry k.span entry;
      is = now_is s.who a.history entry (Some k.span) k.is;
      some = k.some;
      some_shares = k.some_shares;
      exact = exact_slashed k.exact burn a.tokens;
      reckoned = stretch_paid k.reckoned f;
      keeps = subst (λ g. Keeps (n * one) x s.shares (a.tokens - burn) a.shares a.current (exact_slashed k.exact burn a.tokens) (stretch_paid k.reckoned g)) (sym (fraction_is burn a.tokens less some))
          (keeps_slashes (n * one) x s.shares a.tokens a.shares a.current burn k.exact k.reckoned none some few less k.keeps);
      stands = stands_with d k.span entry (exact_slashed k.exact burn a.tokens) (stands_slashed n x burn a.tokens k.exact (ideal_of d k.span) k.some_shares some k.stands);
      agrees = agrees_slashed d a.periods a.height f s.info k.reckoned some_period k.height early k.agrees;
      early = k.early;
      height = k.height;
      fresh = λ h. omega (arith, ap (λ q. q * a.tokens) (k.fresh h));
    }

-- ---- shares are issued, and leave

pub issued_some : (tokens shares amount issued : ℕ) → 0 < shares → issued_shares tokens shares amount ≡ Ok issued → 0 < tokens
issued_some tokens shares amount issued some e = elim (cases_eq tokens 0) [
  | inl none ↦ absurd (grind (arith, common_steps, some, e, none))
  | inr other ↦ omega arith
]

pub issue_follows : (d : List ℕ) (a : Account) (amount issued : ℕ) (s : Start) → a.current ≡ 0 → issued_shares a.tokens a.shares amount ≡ Ok issued → Follows d a s
    → Follows d (record a { tokens = a.tokens + amount; shares = a.shares + issued }) s
issue_follows d a amount issued s none e k = let n : ℕ = k.span.first.numerator in let x : ℕ = k.span.first.denominator in
    let holds : s.shares ≤ a.shares = k.keeps.holds in
    let shares : 0 < a.shares = omega (arith, k.some) in
    let fair : a.tokens * (a.shares + issued) ≤ (a.tokens + amount) * a.shares = issued_most a.tokens a.shares amount issued (issued_some a.tokens a.shares amount issued shares e) shares e in record {
      span = k.span;
      is = k.is;
      some = k.some;
      some_shares = k.some_shares;
      exact = k.exact;
      reckoned = k.reckoned;
      keeps = keeps_pool (n * one) x s.shares a.tokens a.shares a.current (a.tokens + amount) (a.shares + issued) k.exact.left k.exact k.reckoned none (omega arith)
          (issue_value one (n * one) x k.exact.den k.exact.kept s.shares k.exact.left a.shares (a.shares + issued) a.tokens (a.tokens + amount) shares fair k.keeps.value) k.keeps;
      stands = k.stands;
      agrees = k.agrees;
      early = k.early;
      height = k.height;
      fresh = k.fresh;
    }

pub out_low : (tokens shares part : ℕ) → part < shares → amount_out tokens shares part * one ≤ value_even_of tokens shares part
out_low tokens shares part h = grind (arith, floor_low (value_even_of tokens shares part) one)

-- what leaves takes at most a unit of the value of each part of the rest
pub left_fall : (tokens shares part : ℕ) → part < shares → one * tokens * (shares - part) ≤ one * (tokens - amount_out tokens shares part) * shares + shares
left_fall tokens shares part h =
    leave_fall one shares (shares - part) part tokens (tokens - amount_out tokens shares part) (amount_out tokens shares part) (value_even_of tokens shares part)
    (omega arith) (omega arith) (out_low tokens shares part h) (value_even_high tokens shares part)

abbrev pub left : Account → ℕ → Account
left a part = record a {
  tokens = a.tokens - amount_out a.tokens a.shares part;
  shares = a.shares - part;
  history = a.history ++ log.left ∷ [];
}

pub removal_follows : (d : List ℕ) (a : Account) (part : ℕ) (s : Start) → a.current ≡ 0 → s.shares + part ≤ a.shares → Follows d a s → Follows d (left a part) s
removal_follows d a part s none fit k = let n : ℕ = k.span.first.numerator in let x : ℕ = k.span.first.denominator in let e : Exact = k.exact in
    let some : 0 < s.shares = k.some in
    let less : part < a.shares = omega arith in record {
      span = with_entry k.span log.left;
      is = now_is s.who a.history log.left (Some k.span) k.is;
      some = k.some;
      some_shares = k.some_shares;
      exact = record e { left = e.left + 1 };
      reckoned = k.reckoned;
      keeps = keeps_pool (n * one) x s.shares a.tokens a.shares a.current (a.tokens - amount_out a.tokens a.shares part) (a.shares - part) (e.left + 1) e k.reckoned none (omega arith)
          (leave_value one (n * one) x e.den e.kept s.shares e.left a.shares (a.shares - part) a.tokens (a.tokens - amount_out a.tokens a.shares part) (omega arith) (omega arith) (left_fall a.tokens a.shares part less) k.keeps.value) k.keeps;
      stands = stands_with d k.span log.left (record e { left = e.left + 1 }) (stands_left n x e (ideal_of d k.span) k.stands);
      agrees = k.agrees;
      early = k.early;
      height = k.height;
      fresh = k.fresh;
    }

-- ---- a start

by_false : (b : Bool) → (b ≡ true → ⊥) → b ≡ false
by_false true f = absurd (f refl)
by_false false f = refl

pub other_addr : (a b : List ℕ) → a ≢ b → same_addr a b ≡ false
other_addr a b ne = by_false (same_addr a b) (λ h. ne ((bytes_eq-Decides a b).0 (sym (is_eq-slice_cmp a b) ∙ h)))

pub own_addr : (a : List ℕ) → same_addr a a ≡ true
own_addr a = is_eq-slice_cmp a a ∙ (bytes_eq-Decides a a).1 refl

abbrev pub begun : Account → ℕ → List ℕ → ℕ → Account
begun a place who shares = record a {
  starts = insert a.starts place (start_made a who shares);
  history = a.history ++ log.started who shares a.tokens a.shares (value_cut_of a.tokens a.shares shares) ∷ [];
}

pub other_follows : (d : List ℕ) (a : Account) (place : ℕ) (who : List ℕ) (shares : ℕ) (s : Start) → who ≢ s.who → Follows d a s → Follows d (begun a place who shares) s
other_follows d a place who shares s ne k = record {
  span = k.span;
  is = now_is s.who a.history (log.started who shares a.tokens a.shares (value_cut_of a.tokens a.shares shares)) (Some k.span) k.is
      ∙ ap (λ b. cond b (Some (record { first = ratio_of (shares * a.tokens) a.shares; entries = [] })) (Some k.span)) (other_addr who s.who ne);
  some = k.some;
  some_shares = k.some_shares;
  exact = k.exact;
  reckoned = k.reckoned;
  keeps = k.keeps;
  stands = k.stands;
  agrees = k.agrees;
  early = k.early;
  height = k.height;
  fresh = k.fresh;
}

pub own_follows : (d : List ℕ) (a : Account) (place : ℕ) (who : List ℕ) (shares : ℕ) → 0 < a.periods.current → AllByRecursion (λ e. e.period < a.periods.current) a.periods.events
    → a.current ≡ 0 → 0 < shares → shares ≤ a.shares → Follows d (begun a place who shares) (start_made a who shares)
own_follows d a place who shares some_period past none some within =
    let s : StartingInfo = (start_made a who shares).info in
    let early : AllByRecursion (λ e. e.period ≤ s.period) a.periods.events = earlier a.periods.current a.periods.events past in record {
      span = record { first = ratio_of (shares * a.tokens) a.shares; entries = [] };
      is = now_is who a.history (log.started who shares a.tokens a.shares (value_cut_of a.tokens a.shares shares)) (span_of who a.history None) refl
          ∙ ap (λ b. cond b (Some (record { first = ratio_of (shares * a.tokens) a.shares; entries = [] })) (span_of who a.history None)) (own_addr who);
      some = some;
      some_shares = omega arith;
      exact = exact_start;
      reckoned = record { stake = value_cut_of a.tokens a.shares shares; rise = 0; paid = 0 };
      keeps = keeps_start shares a.tokens a.shares a.current none some within;
      stands = stands_start (shares * a.tokens) a.shares (omega arith);
      agrees = subst (λ w. Agrees d a.periods w (record { stake = value_cut_of a.tokens a.shares shares; rise = 0; paid = 0 })) (sym (walk_of_none (ratio_in d a.periods) s a.periods.events early))
          (record { from_early = omega arith; paid = refl; stake = refl; rise = omega arith });
      early = omega arith;
      height = omega arith;
      fresh = λ h. refl;
    }
  where
    earlier : (n : ℕ) (es : List SlashEvent) → AllByRecursion (λ e. e.period < n) es → AllByRecursion (λ e. e.period ≤ n - 1) es
    earlier n [] each = tt
    earlier n (e ∷ es) each = (omega (arith, each.0), earlier n es each.1)

-- ---- a payment of another, and commission that is paid

pub withdrawn_follows : (d : List ℕ) (a : Account) (outstanding : ℕ) (starts : List Start) (who payee : List ℕ) (full had : Money) (s : Start) → who ≢ s.who → Follows d a s
    → Follows d (record a { outstanding = outstanding; starts = starts; history = a.history ++ log.withdrawn who payee full had ∷ [] }) s
withdrawn_follows d a outstanding starts who payee full had s ne k = record {
  span = k.span;
  is = now_is s.who a.history (log.withdrawn who payee full had) (Some k.span) k.is ∙ ap (λ b. cond b None (Some k.span)) (other_addr who s.who ne);
  some = k.some;
  some_shares = k.some_shares;
  exact = k.exact;
  reckoned = k.reckoned;
  keeps = k.keeps;
  stands = k.stands;
  agrees = k.agrees;
  early = k.early;
  height = k.height;
  fresh = k.fresh;
}

pub paid_follows : (d : List ℕ) (a : Account) (commission outstanding : ℕ) (coins : Money) (s : Start) → Follows d a s
    → Follows d (record a { commission = commission; outstanding = outstanding; history = a.history ++ log.commission coins ∷ [] }) s
paid_follows d a commission outstanding coins s k = record {
  span = k.span;
  is = now_is s.who a.history (log.commission coins) (Some k.span) k.is;
  some = k.some;
  some_shares = k.some_shares;
  exact = k.exact;
  reckoned = k.reckoned;
  keeps = k.keeps;
  stands = k.stands;
  agrees = k.agrees;
  early = k.early;
  height = k.height;
  fresh = k.fresh;
}

-- ---- the reward now

bounds_of_nothing : (a x : ℕ) (e : Exact) → 0 < e.den → e.closed + e.opened ≡ 0 → Bounds a x e 0
bounds_of_nothing a x e pos none = record {
  den_pos = pos;
  high = omega arith;
  low = omega (arith, ap (λ q. one * a * q) none);
}

reckoned_is : (d : List ℕ) (p : Periods) (w : Walk) (r : Reckoned) (value : ℕ) → Agrees d p w r
    → w.paid + product_cut (ratio_in d p (last_ended p) - ratio_in d p w.from) (min w.stake value) ≡ reckoned_reward r value
reckoned_is d p w r value a =
    let rise : ratio_in d p (last_ended p) - ratio_in d p w.from ≡ r.rise = omega (arith, a.rise) in
    ap (λ q. q + product_cut (ratio_in d p (last_ended p) - ratio_in d p w.from) (min w.stake value)) a.paid
    ∙ ap (λ q. r.paid + product_cut q (min w.stake value)) rise
    ∙ ap (λ q. r.paid + product_cut r.rise (min q value)) a.stake

now_bounds : (d : List ℕ) (a : Account) (s : Start) → a.current ≡ 0 → (k : Follows d a s) → Bounds (k.span.first.numerator * one) k.span.first.denominator k.exact (reward_now d a s)
now_bounds d a s none k =
    let value : ℕ = value_even_of a.tokens a.shares s.shares in
    let n : ℕ = k.span.first.numerator in let x : ℕ = k.span.first.denominator in
    let full : ℕ = earned_in (ratio_in d a.periods) (stretches_of s.info a.periods.events (last_ended a.periods) value) in
    let is : full ≡ reckoned_reward k.reckoned value =
    earned_is d a.periods s.info (last_ended a.periods) value ∙ reckoned_is d a.periods (walk_of (ratio_in d a.periods) s.info a.periods.events) k.reckoned value k.agrees in
    elim (cases_eq s.info.height a.height) [
      | inl same ↦ (let t : (s.info.height == a.height) ≡ true = grind arith in
          subst (λ b. Bounds (n * one) x k.exact (cond b 0 full)) (sym t) (bounds_of_nothing (n * one) x k.exact k.stands.den_pos (k.fresh (omega arith))))
      | inr apart ↦ (let t : (s.info.height == a.height) ≡ false = grind arith in
          subst (λ b. Bounds (n * one) x k.exact (cond b 0 full)) (sym t)
          (subst (λ q. Bounds (n * one) x k.exact q) (sym is) (bounds (n * one) x s.shares a.tokens a.shares a.current k.exact k.reckoned none k.some k.keeps)))
    ]

pub bracketed : (d : List ℕ) (a : Account) (s : Start) → a.current ≡ 0 → (k : Follows d a s) → Brackets d k.span (reward_now d a s)
bracketed d a s none k = brackets_from d k.span k.exact (reward_now d a s) k.some_shares k.stands (now_bounds d a s none k)
