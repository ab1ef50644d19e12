-- The account is a book of holders, and so is covered after each deed.
use Rattle.std.proofs.Common.{◌≡◌, ℕ, zero, suc, ◌+◌, ◌-◌, ◌*◌, ◌^◌, ◌==◌, ◌<◌, ◌≤◌, Bool, true, false, cond, List, [], ◌∷◌, ◌++◌, length, map, filter, refl, arith, ap, sym, ◌∙◌, subst, Some, min, mul-le-mul_left, le_trans, sum, slice_get, insert, remove}
use Rattle.std.specs.List.{AllByRecursion}
use Rattle.base_coins.specs.Coins.{Money, amount_of}
use Rattle.base_shares.specs.{Shares.{value_cut_of, value_even_of}, Burns.recorded_fraction}
use Rattle.base_roles.specs.{declared.entities.{StartingInfo.StartingInfo, SlashEvent.SlashEvent}, Log.LogEntry}
use Rattle.base_roles.specs.Log as log
use Rattle.rule_modules.specs.{Amounts.count_where, Ideal.is_left, Laws.{exact_claim, claims_of}}
use Rattle.rule_modules.specs.Periods.{Periods, ratio_at, last_ended, event_recorded, stretches_of, unlimited_stretches_of, falls_after, slashed_stake}
use Rattle.rule_modules.specs.Slashing.{slash_fraction}
use Rattle.law_rewards.specs.Account.{Start, Account, Deed, IsNextRatio, IsFitting, counted_shares, new_account, account_after, period_closed, account_slashed, start_made, owner_of, payment_of, reward_now, product_cut, ratio_in, earned_in, increment_of, lost_of}
use Rattle.law_rewards.{specs.Laws.{CoversClaims, IsCutWithin, overclaim}, proofs.Rounding.{one, floor_low}}
use Rattle.law_rewards.proofs.Lists.{all_map, sum_more, all_within, some_at}
use Rattle.law_rewards.proofs.Walking.{Walk, walk_of, first_walk, walk, crossed, walk_of_behind, walk_of_none, claim_is, earned_is}
use Rattle.law_rewards.proofs.{Following.{Follows, ratio_old, last_ratio, walk_ended, fraction_is}, Deeds.Good}
use Rattle.law_rewards.proofs.Holders.{Holder, claim_of, shares_of, Book, total, Covers, raised, slashed}
use Rattle.law_rewards.proofs.Covering.{covers_ends, covers_slashes, covers_issues, covers_removes, covers_allocates, started, covers_starts, covers_stops, covers_takes}
use Rattle.law_rewards.specs.Account as deed

-- a start as a holder
abbrev pub holder_of : List ℕ → Periods → Start → Holder
holder_of d p s = let w = walk_of (ratio_in d p) s.info p.events in record {
  mine = s.shares;
  stake = w.stake;
  rise = ratio_in d p (last_ended p) - ratio_in d p w.from;
  closed = w.exact;
}

abbrev pub holders : List ℕ → Account → List Holder
holders d a = map (holder_of d a.periods) a.starts

abbrev book_at : Account → ℕ → ℕ → List Holder → Book
book_at a ratio lefts hs = record {
  tokens = a.tokens;
  shares = a.shares;
  current = a.current;
  commission = a.commission;
  outstanding = a.outstanding;
  ratio = ratio;
  lefts = lefts;
  holders = hs;
}

abbrev pub book_in : List ℕ → Account → Book
book_in d a = book_at a (ratio_in d a.periods (last_ended a.periods)) (count_where is_left a.history) (holders d a)

covers_same : (a : Account) (r r' l l' : ℕ) (hs hs' : List Holder) → r ≡ r' → l ≡ l' → hs ≡ hs' → Covers (book_at a r' l' hs') → Covers (book_at a r l hs)
covers_same a r r' l l' hs hs' e f g k =
    subst (λ q. Covers (book_at a q l hs)) (sym e) (subst (λ q. Covers (book_at a r' q hs)) (sym f) (subst (λ q. Covers (book_at a r' l' q)) (sym g) k))

-- ---- one more entry of the history

count_behind : (es : List LogEntry) (e : LogEntry) → count_where is_left (es ++ e ∷ []) ≡ count_where is_left es + cond (is_left e) 1 0
count_behind [] e = omega arith
count_behind (f ∷ es) e = omega (arith, count_behind es e)

-- ---- holders, as the records change

same_holder : (mine : ℕ) (s s' r r' c c' : ℕ) → s ≡ s' → r ≡ r' → c ≡ c' → Path Holder (record { mine = mine; stake = s; rise = r; closed = c }) (record { mine = mine; stake = s'; rise = r'; closed = c' })
same_holder mine s s' r r' c c' e f g =
    ap (λ q. let h : Holder = record { mine = mine; stake = q; rise = r; closed = c } in h) e
    ∙ ap (λ q. let h : Holder = record { mine = mine; stake = s'; rise = q; closed = c } in h) f
    ∙ ap (λ q. let h : Holder = record { mine = mine; stake = s'; rise = r'; closed = q } in h) g

map_changed : (f g : Start → Holder) (change : Holder → Holder) (ss : List Start) → AllByRecursion (λ s. f s ≡ change (g s)) ss → map f ss ≡ map change (map g ss)
map_changed f g change [] e = refl
map_changed f g change (s ∷ ss) e = ap (λ h. h ∷ map f ss) e.0 ∙ ap (λ hs. change (g s) ∷ hs) (map_changed f g change ss e.1)

map_insert : (f : Start → Holder) (k : ℕ) (s : Start) (ss : List Start) → map f (insert ss k s) ≡ insert (map f ss) k (f s)
map_insert f zero s [] = refl
map_insert f (suc k) s [] = refl
map_insert f zero s (x ∷ ss) = refl
map_insert f (suc k) s (x ∷ ss) = ap (λ hs. f x ∷ hs) (map_insert f k s ss)

map_remove : (f : Start → Holder) (k : ℕ) (ss : List Start) → map f (remove ss k) ≡ remove (map f ss) k
map_remove f zero [] = refl
map_remove f (suc k) [] = refl
map_remove f zero (x ∷ ss) = refl
map_remove f (suc k) (x ∷ ss) = ap (λ hs. f x ∷ hs) (map_remove f k ss)

map_get : (f : Start → Holder) (k : ℕ) (s : Start) (ss : List Start) → slice_get ss k ≡ Some s → slice_get (map f ss) k ≡ Some (f s)
map_get f k s [] e = absurd cc
map_get f zero s (x ∷ ss) e = let same : x ≡ s = cc in ap (λ y. Some (f y)) same
map_get f (suc k) s (x ∷ ss) e = map_get f k s ss e

holder_ended : (d : List ℕ) (a : Account) (increment ratio : Money) (s : Start) → Good d a → IsNextRatio d a increment ratio → Follows d a s
    → holder_of d (period_closed increment ratio a).periods s ≡ raised (increment_of a.current a.tokens) (holder_of d a.periods s)
holder_ended d a increment ratio s g next k =
    let i : ℕ = increment_of a.current a.tokens in
    let p : Periods = a.periods in
    let q : Periods = (period_closed increment ratio a).periods in
    let w : Walk = walk_of (ratio_in d p) s.info p.events in
    let v : Walk = walk_of (ratio_in d q) s.info p.events in
    let same : v ≡ w = walk_ended d a increment ratio s.info k.early g.past in
    let old : ratio_in d q w.from ≡ ratio_in d p w.from = ap (λ m. amount_of m d) (ratio_old p.current w.from ratio p.ratios k.agrees.from_early) in
    let below : ratio_in d p w.from ≤ ratio_in d p (last_ended p) = omega (arith, k.agrees.rise) in
    let rise : ratio_in d q (last_ended q) - ratio_in d q v.from ≡ ratio_in d p (last_ended p) - ratio_in d p w.from + i =
    ap (λ u. ratio_in d q (last_ended q) - ratio_in d q u.from) same ∙ omega (arith, old, last_ratio d a increment ratio g.some_period next) in
    same_holder s.shares v.stake w.stake (ratio_in d q (last_ended q) - ratio_in d q v.from) (ratio_in d p (last_ended p) - ratio_in d p w.from + i) v.exact w.exact
    (ap (λ u. u.stake) same) rise (ap (λ u. u.exact) same)

holder_slashed : (d : List ℕ) (p : Periods) (height fraction : ℕ) (s : Start) → 0 < p.current → s.info.height ≤ height → s.info.period < last_ended p
    → holder_of d (event_recorded height fraction p) s ≡ slashed fraction (holder_of d p s)
holder_slashed d p height fraction s some late early =
    let e : SlashEvent = record { height = height; period = last_ended p; fraction = fraction } in
    let w : Walk = walk_of (ratio_in d p) s.info p.events in
    let v : Walk = walk_of (ratio_in d p) s.info (event_recorded height fraction p).events in
    let same : v ≡ crossed (ratio_in d p) w e = walk_of_behind (ratio_in d p) s.info p.events e late early in
    same_holder s.shares v.stake (slashed_stake w.stake fraction) (ratio_in d p (last_ended p) - ratio_in d p v.from) 0 v.exact (w.exact + (ratio_in d p (last_ended p) - ratio_in d p w.from) * w.stake)
    (ap (λ u. u.stake) same) (ap (λ u. ratio_in d p (last_ended p) - ratio_in d p u.from) same ∙ omega arith) (ap (λ u. u.exact) same)

holder_begun : (d : List ℕ) (a : Account) (who : List ℕ) (shares : ℕ) → Good d a
    → holder_of d a.periods (start_made a who shares) ≡ record { mine = shares; stake = value_cut_of a.tokens a.shares shares; rise = 0; closed = 0 }
holder_begun d a who shares g =
    let p : Periods = a.periods in
    let s : StartingInfo = (start_made a who shares).info in
    let w : Walk = walk_of (ratio_in d p) s p.events in
    let early : AllByRecursion (λ e. e.period ≤ s.period) p.events = all_map (λ e. e.period < p.current) (λ e. e.period ≤ p.current - 1) (λ e h. omega arith) p.events g.past in
    let same : w ≡ first_walk s = walk_of_none (ratio_in d p) s p.events early in
    same_holder shares w.stake s.stake (ratio_in d p (last_ended p) - ratio_in d p w.from) 0 w.exact 0
    (ap (λ u. u.stake) same) (ap (λ u. ratio_in d p (last_ended p) - ratio_in d p u.from) same ∙ omega arith) (ap (λ u. u.exact) same)

-- ---- sums over the holders

pub held_is : (d : List ℕ) (p : Periods) (ss : List Start) → total shares_of (map (holder_of d p) ss) ≡ sum (map (λ s. s.shares) ss)
held_is d p [] = refl
held_is d p (s ∷ ss) = omega (arith, sum_more s.shares (map (λ q. q.shares) ss), held_is d p ss)

abbrev claim_at : List ℕ → Periods → StartingInfo → ℕ
claim_at d p s = exact_claim d (ratio_at p.ratios) (unlimited_stretches_of s p.events (last_ended p))

claimed_is : (d : List ℕ) (p : Periods) (ss : List Start) → total claim_of (map (holder_of d p) ss) ≡ claims_of d p (map (λ s. s.info) ss)
claimed_is d p [] = refl
claimed_is d p (s ∷ ss) =
    omega (arith, sum_more (claim_at d p s.info) (map (claim_at d p) (map (λ q. q.info) ss)), claim_is d p s.info (last_ended p), claimed_is d p ss)

-- ---- what is paid is within the claim

paid_exact : (ratio : ℕ → ℕ) (w : Walk) (es : List SlashEvent) → w.paid * one ≤ w.exact → (walk ratio w es).paid * one ≤ (walk ratio w es).exact
paid_exact ratio w [] h = h
paid_exact ratio w (e ∷ es) h = paid_exact ratio (crossed ratio w e) es (omega (arith, h, floor_low ((ratio e.period - ratio w.from) * w.stake) one))

by_bool : (P : ℕ → Type 0) (b : Bool) (n : ℕ) → P 0 → P n → P (cond b 0 n)
by_bool P true n t f = t
by_bool P false n t f = f

reward_within : (d : List ℕ) (a : Account) (s : Start) → reward_now d a s * one ≤ claim_of (holder_of d a.periods s)
reward_within d a s =
    let p : Periods = a.periods in
    let w : Walk = walk_of (ratio_in d p) s.info p.events in
    let rise : ℕ = ratio_in d p (last_ended p) - ratio_in d p w.from in
    let value : ℕ = value_even_of a.tokens a.shares s.shares in
    let full : ℕ = earned_in (ratio_in d p) (stretches_of s.info p.events (last_ended p) value) in
    let is : full ≡ w.paid + product_cut rise (min w.stake value) = earned_is d p s.info (last_ended p) value in
    let less : rise * min w.stake value ≤ rise * w.stake = mul-le-mul_left rise (omega arith) in
    let last : product_cut rise (min w.stake value) * one ≤ rise * w.stake = le_trans (floor_low (rise * min w.stake value) one) less in
    let before : w.paid * one ≤ w.exact = paid_exact (ratio_in d p) (first_walk s.info) (filter (falls_after s.info) p.events) (omega arith) in
    by_bool (λ n. n * one ≤ w.exact + rise * w.stake) (s.info.height == a.height) full (omega arith) (omega arith)

-- ---- each deed

covers_ended : (d : List ℕ) (a : Account) (increment ratio : Money) → IsNextRatio d a increment ratio → Good d a → Covers (book_in d a) → Covers (book_in d (period_closed increment ratio a))
covers_ended d a increment ratio next g k =
    let b : Account = period_closed increment ratio a in
    let i : ℕ = increment_of a.current a.tokens in
    let hs : List Holder = holders d a in
    covers_same b (ratio_in d b.periods (last_ended b.periods)) (ratio_in d a.periods (last_ended a.periods) + i) (count_where is_left b.history) (count_where is_left a.history) (holders d b) (map (raised i) hs)
    (last_ratio d a increment ratio g.some_period next)
    (omega (arith, count_behind a.history (log.ended a.periods.current increment a.tokens)))
    (map_changed (holder_of d b.periods) (holder_of d a.periods) (raised i) a.starts
    (all_map (Follows d a) (λ s. holder_of d b.periods s ≡ raised i (holder_of d a.periods s)) (λ s f. holder_ended d a increment ratio s g next f) a.starts g.follows))
    (covers_ends (book_in d a) k)

covers_burned : (d : List ℕ) (a : Account) (burn : ℕ) → 0 < a.tokens → a.tokens ≤ 10 ^ 18 → burn ≤ a.tokens → 0 < a.periods.current
    → AllByRecursion (λ s. (s.info.height ≤ a.height) × (s.info.period < last_ended a.periods)) a.starts → Covers (book_in d a) → Covers (book_in d (account_slashed burn a))
covers_burned d a burn some few less some_period early k =
    let b : Account = account_slashed burn a in
    let f : ℕ = slash_fraction burn a.tokens in
    let hs : List Holder = holders d a in
    covers_same b (ratio_in d a.periods (last_ended a.periods)) (ratio_in d a.periods (last_ended a.periods)) (count_where is_left b.history) (count_where is_left a.history) (holders d b) (map (slashed (recorded_fraction burn a.tokens)) hs)
    refl
    (omega (arith, count_behind a.history (log.slashed burn a.tokens f)))
    (map_changed (holder_of d b.periods) (holder_of d a.periods) (slashed f) a.starts
    (all_map (λ s. (s.info.height ≤ a.height) × (s.info.period < last_ended a.periods)) (λ s. holder_of d b.periods s ≡ slashed f (holder_of d a.periods s))
    (λ s h. holder_slashed d a.periods a.height f s some_period h.0 h.1) a.starts early)
    ∙ ap (λ q. map (slashed q) hs) (fraction_is burn a.tokens less some))
    (covers_slashes (book_in d a) burn some few less k)

covers_slash : (d : List ℕ) (a : Account) (burn : ℕ) (increment ratio : Money) → IsNextRatio d a increment ratio → 0 < a.tokens → a.tokens ≤ 10 ^ 18 → burn ≤ a.tokens → Good d a
    → Covers (book_in d a) → Covers (book_in d (account_slashed burn (period_closed increment ratio a)))
covers_slash d a burn increment ratio next some few less g k =
    covers_burned d (period_closed increment ratio a) burn some few less (omega arith)
    (all_map (Follows d a) (λ s. (s.info.height ≤ a.height) × (s.info.period < a.periods.current + 1 - 1)) (λ s f. (f.height, omega (arith, f.early))) a.starts g.follows)
    (covers_ended d a increment ratio next g k)

-- where there are no shares, no rewards run
nobody : (d : List ℕ) (a : Account) (ss : List Start) → AllByRecursion (Follows d a) ss → total shares_of (map (holder_of d a.periods) ss) ≡ 0 → map (holder_of d a.periods) ss ≡ []
nobody d a [] each none = refl
nobody d a (s ∷ ss) each none = absurd (omega (arith, each.0.some))

covers_begun : (d : List ℕ) (a : Account) (place : ℕ) (who : List ℕ) (shares : ℕ) → counted_shares a + shares ≤ a.shares → Good d a → Covers (book_in d a)
    → Covers (book_in d (account_after d a (deed.beginning place who shares)))
covers_begun d a place who shares fit g k =
    let b : Account = account_after d a (deed.beginning place who shares) in
    let s : Start = start_made a who shares in
    let hs : List Holder = holders d a in
    covers_same b (ratio_in d a.periods (last_ended a.periods)) (ratio_in d a.periods (last_ended a.periods)) (count_where is_left b.history) (count_where is_left a.history) (holders d b) (insert hs place (started (book_in d a) shares))
    refl
    (omega (arith, count_behind a.history (log.started who shares a.tokens a.shares (value_cut_of a.tokens a.shares shares))))
    (map_insert (holder_of d a.periods) place s a.starts ∙ ap (λ h. insert hs place h) (holder_begun d a who shares g))
    (covers_starts (book_in d a) place shares (omega (arith, fit, held_is d a.periods a.starts)) k)

covers_payment : (d : List ℕ) (a : Account) (place : ℕ) (payee : List ℕ) (full outstanding : Money) → place < length a.starts → Covers (book_in d a)
    → Covers (book_in d (account_after d a (deed.payment place payee full outstanding)))
covers_payment d a place payee full outstanding fit k = paid (some_at place a.starts fit)
  where
    paid : (s : Start) × (slice_get a.starts place ≡ Some s) → Covers (book_in d (account_after d a (deed.payment place payee full outstanding)))
    paid (s, is) =
        let hs : List Holder = holders d a in
        let b : Account = record a {
          outstanding = a.outstanding - min (reward_now d a s) a.outstanding;
          starts = remove a.starts place;
          history = a.history ++ log.withdrawn s.who payee full outstanding ∷ [];
        } in
        let all : Covers (book_in d b) =
        covers_same b (ratio_in d a.periods (last_ended a.periods)) (ratio_in d a.periods (last_ended a.periods)) (count_where is_left b.history) (count_where is_left a.history) (holders d b) (remove hs place)
        refl (omega (arith, count_behind a.history (log.withdrawn s.who payee full outstanding))) (map_remove (holder_of d a.periods) place a.starts)
        (covers_stops (book_in d a) place (reward_now d a s) (holder_of d a.periods s) (map_get (holder_of d a.periods) place s a.starts is) (reward_within d a s) k) in
        subst (λ o. Covers (book_in d (record a {
          outstanding = a.outstanding - payment_of d a o;
          starts = remove a.starts place;
          history = a.history ++ log.withdrawn (owner_of o) payee full outstanding ∷ [];
        }))) (sym is) all

pub covers_after : (d : List ℕ) (a : Account) (act : Deed) → IsFitting d a act → Good d a → Covers (book_in d a) → Covers (book_in d (account_after d a act))
covers_after d a (deed.block height) fit g k = k
covers_after d a (deed.allocation commission share rest) fit g k =
    let b : Account = account_after d a (deed.allocation commission share rest) in
    covers_same b (ratio_in d a.periods (last_ended a.periods)) (ratio_in d a.periods (last_ended a.periods)) (count_where is_left b.history) (count_where is_left a.history) (holders d a) (holders d a)
    refl (omega (arith, count_behind a.history (log.allocated share rest a.tokens))) refl
    (covers_allocates (book_in d a) commission (amount_of rest d) k)
covers_after d a (deed.ending increment ratio) fit g k = covers_ended d a increment ratio fit g k
covers_after d a (deed.slash burn increment ratio) fit g k = covers_slash d a burn increment ratio fit.0 fit.1 fit.2 fit.3 g k
covers_after d a (deed.issue amount issued) fit g k =
    covers_issues (book_in d a) amount issued fit.1 (λ none. nobody d a a.starts g.follows (omega (arith, k.held, none))) k
covers_after d a (deed.removal part) fit g k =
    let b : Account = account_after d a (deed.removal part) in
    covers_same b (ratio_in d a.periods (last_ended a.periods)) (ratio_in d a.periods (last_ended a.periods)) (count_where is_left b.history) (count_where is_left a.history + 1) (holders d a) (holders d a)
    refl (count_behind a.history log.left) refl
    (covers_removes (book_in d a) part fit.1 (omega (arith, fit.2, held_is d a.periods a.starts)) k)
covers_after d a (deed.beginning place who shares) fit g k = covers_begun d a place who shares fit.2 g k
covers_after d a (deed.payment place payee full outstanding) fit g k = covers_payment d a place payee full outstanding fit.within k
covers_after d a (deed.commission_payment coins) fit g k =
    let b : Account = account_after d a (deed.commission_payment coins) in
    covers_same b (ratio_in d a.periods (last_ended a.periods)) (ratio_in d a.periods (last_ended a.periods)) (count_where is_left b.history) (count_where is_left a.history) (holders d a) (holders d a)
    refl (omega (arith, count_behind a.history (log.commission coins))) refl
    (covers_takes (book_in d a) (amount_of coins d) fit.0 fit.1 k)

pub covers_new : (d : List ℕ) (height : ℕ) → Covers (book_in d (new_account height))
covers_new d height = record { held = omega arith; backed = λ h. h; above = omega arith; covered = omega arith }

-- ---- the statements of an account

pub covers_claims : (d : List ℕ) (a : Account) → Covers (book_in d a) → CoversClaims d a
covers_claims d a k = omega (arith, k.covered, claimed_is d a.periods a.starts)

cut_step : (reward outstanding claim claims rest over : ℕ) → reward * one ≤ claim → claim ≤ claims → rest + claims ≤ one * outstanding + over → one * (reward - outstanding) ≤ over
cut_step reward outstanding claim claims rest over h k l = omega arith

pub cuts_within : (d : List ℕ) (a : Account) → Covers (book_in d a) → AllByRecursion (IsCutWithin d a) a.starts
cuts_within d a k =
    let p : Periods = a.periods in
    all_map (λ s. claim_of (holder_of d p s) ≤ sum (map (λ q. claim_of (holder_of d p q)) a.starts)) (IsCutWithin d a)
    (λ s h. cut_step (reward_now d a s) a.outstanding (claim_of (holder_of d p s)) (total claim_of (holders d a)) (one * (a.commission + a.current)) (overclaim d a)
    (reward_within d a s) (omega (arith, h, same_sum a.starts)) (omega (arith, k.covered))) a.starts (all_within (λ s. claim_of (holder_of d p s)) a.starts)
  where
    same_sum : (ss : List Start) → sum (map (λ q. claim_of (holder_of d a.periods q)) ss) ≡ total claim_of (map (holder_of d a.periods) ss)
    same_sum [] = refl
    same_sum (s ∷ ss) = omega (arith, sum_more (claim_of (holder_of d a.periods s)) (map (λ q. claim_of (holder_of d a.periods q)) ss), same_sum ss)
