-- After each act on a book: how far stakes are above shares, and what outstanding covers.
use Rattle.std.proofs.Common.{◌≡◌, ℕ, zero, suc, ◌+◌, ◌-◌, ◌*◌, ◌<◌, ◌≤◌, List, [], map, refl, arith, ap, sym, ◌∙◌, min, mul-le-mul, mul-le-mul_right, mul-le-mul_left, le_of_mul-le-mul_right, inl, inr, Ok, Some, slice_get, insert, remove}
use Rattle.std.proofs.{Math.Nat.le_of_mul-le-mul_left, lemmas.Bool.cases_lt}
use Rattle.base_shares.specs.{Shares.{issued_shares, value_cut_of, amount_out}, Burns.recorded_fraction}
use Rattle.base_shares.proofs.Fractions.{fraction_low, fraction_high, fraction_most}
use Rattle.base_shares.proofs.Issues.{issued_first, issued_most}
use Rattle.rule_modules.specs.Periods.{slashed_stake}
use Rattle.law_rewards.specs.Account.{increment_of, lost_of}
use Rattle.law_rewards.proofs.{Rounding.{one, one_pos, floor_low, value_cut_low, increment_low}, Steps.fraction_gap}
use Rattle.law_rewards.proofs.Following.{issued_some, left_fall}
use Rattle.law_rewards.proofs.Holders.{Holder, claim_of, shares_of, stake_of, excess, Book, total, IsCovered, Covers, raised, slashed, total_le, total_map, total_insert, total_remove, excess_scaled}

-- ---- the end of a period

-- all stakes are at most the tokens and a unit for each time that shares left
stakes_within : (T X N : ℕ) (hs : List Holder) → 0 < X → total shares_of hs ≤ X → total (excess T X) hs ≤ N * X → total stake_of hs ≤ T * one + N
stakes_within T X N hs pos held above =
    let each : X * total stake_of hs ≤ 1 * total (excess T X) hs + (T * one) * total shares_of hs = total_le X 1 (T * one) stake_of (excess T X) shares_of (λ h. omega arith) hs in
    let m : (T * one) * total shares_of hs ≤ (T * one) * X = mul-le-mul_left (T * one) held in
    let m2 : X * total stake_of hs ≤ X * (T * one + N) = omega arith in
    le_of_mul-le-mul_left m2 pos

raised_claims : (i : ℕ) (hs : List Holder) → total claim_of (map (raised i) hs) ≤ total claim_of hs + i * total stake_of hs
raised_claims i hs = omega (arith, total_map 1 1 i (raised i) claim_of claim_of stake_of (λ h. omega arith) hs)

ends_some : (T c C O N r i stakes claims after : ℕ) → i * T ≤ c → stakes ≤ T * one + N → after ≤ claims + i * stakes → (C + c) * one + claims ≤ O * one + N * r → (C + 0) * one + after ≤ (O - 0) * one + N * (r + i)
ends_some T c C O N r i stakes claims after low within h k =
    let m : i * stakes ≤ i * (T * one + N) = mul-le-mul_left i within in
    omega arith

abbrev pub book_ended : Book → Book
book_ended b = record b {
  current = 0;
  ratio = b.ratio + increment_of b.current b.tokens;
  outstanding = b.outstanding - lost_of b.tokens b.current b.outstanding;
  holders = map (raised (increment_of b.current b.tokens)) b.holders;
}

covered_ends : (tokens : ℕ) (b : Book) → b.tokens ≡ tokens → Covers b → IsCovered (book_ended b)
covered_ends zero b e k = rw e (omega (arith, k.covered, raised_claims 0 b.holders))
covered_ends (suc t) b e k =
    let pos : 0 < b.shares = k.backed (omega arith) in
    let within : total stake_of b.holders ≤ suc t * one + b.lefts = omega (arith, stakes_within b.tokens b.shares b.lefts b.holders pos k.held k.above, ap (λ q. q * one) e) in
    rw e (ends_some (suc t) b.current b.commission b.outstanding b.lefts b.ratio (increment_of b.current (suc t)) (total stake_of b.holders) (total claim_of b.holders)
    (total claim_of (map (raised (increment_of b.current (suc t))) b.holders)) (increment_low b.current t) within (raised_claims (increment_of b.current (suc t)) b.holders) k.covered)

raised_shares : (i : ℕ) (hs : List Holder) → total shares_of (map (raised i) hs) ≤ total shares_of hs
raised_shares i hs = omega (arith, total_map 1 1 0 (raised i) shares_of shares_of shares_of (λ h. omega arith) hs)

raised_excess : (T X i : ℕ) (hs : List Holder) → total (excess T X) (map (raised i) hs) ≤ total (excess T X) hs
raised_excess T X i hs = omega (arith, total_map 1 1 0 (raised i) (excess T X) (excess T X) shares_of (λ h. omega arith) hs)

pub covers_ends : (b : Book) → Covers b → Covers (book_ended b)
covers_ends b k = record {
  held = omega (arith, raised_shares (increment_of b.current b.tokens) b.holders, k.held);
  backed = k.backed;
  above = omega (arith, raised_excess b.tokens b.shares (increment_of b.current b.tokens) b.holders, k.above);
  covered = covered_ends b.tokens b refl k;
}

-- ---- a slash

slashed_excess : (T b X f : ℕ) → f ≤ one → b ≤ T → b * one ≤ f * T → f * T < b * one + T → (h : Holder)
    → T * excess (T - b) X (slashed f h) ≤ (T - b) * excess T X h + 0 * shares_of h
slashed_excess T b X f most less low high h =
    let gap : ((one - f) * T ≤ one * (T - b)) × (one * (T - b) ≤ (one - f) * T + T) = fraction_gap one f T b most less low high in
    let st : ℕ = slashed_stake h.stake f in
    let m1 : st * one * T ≤ h.stake * (one - f) * T = mul-le-mul_right T (floor_low (h.stake * (one - f)) one) in
    let m2 : h.stake * ((one - f) * T) ≤ h.stake * (one * (T - b)) = mul-le-mul_left h.stake gap.0 in
    let m3 : (st * T) * one ≤ (h.stake * (T - b)) * one = omega arith in
    let m4 : st * T ≤ h.stake * (T - b) = le_of_mul-le-mul_right m3 one_pos in
    let m5 : st * T * X ≤ h.stake * (T - b) * X = mul-le-mul_right X m4 in
    omega (arith, excess_scaled T (T - b) (st * X) (h.mine * (T - b) * one) (h.stake * X) (h.mine * T * one) 0 (omega arith) (omega arith))

slashed_claims : (f : ℕ) (hs : List Holder) → total claim_of (map (slashed f) hs) ≤ total claim_of hs
slashed_claims f hs = omega (arith, total_map 1 1 0 (slashed f) claim_of claim_of shares_of (λ h. omega arith) hs)

slashed_shares : (f : ℕ) (hs : List Holder) → total shares_of (map (slashed f) hs) ≤ total shares_of hs
slashed_shares f hs = omega (arith, total_map 1 1 0 (slashed f) shares_of shares_of shares_of (λ h. omega arith) hs)

slashed_above : (T burn X N : ℕ) (hs : List Holder) → 0 < T → T ≤ one → burn ≤ T → total (excess T X) hs ≤ N * X
    → total (excess (T - burn) X) (map (slashed (recorded_fraction burn T)) hs) ≤ N * X
slashed_above T burn X N hs some few less above =
    let m : T * total (excess (T - burn) X) (map (slashed (recorded_fraction burn T)) hs) ≤ (T - burn) * total (excess T X) hs + 0 * total shares_of hs =
    total_map T (T - burn) 0 (slashed (recorded_fraction burn T)) (excess (T - burn) X) (excess T X) shares_of
    (slashed_excess T burn X (recorded_fraction burn T) (fraction_most burn T less some) less (fraction_low burn T some few) (fraction_high burn T some)) hs in
    let m2 : (T - burn) * total (excess T X) hs ≤ T * (N * X) = mul-le-mul (omega arith) above in
    let m3 : T * total (excess (T - burn) X) (map (slashed (recorded_fraction burn T)) hs) ≤ T * (N * X) = omega arith in
    le_of_mul-le-mul_left m3 some

abbrev pub book_slashed : Book → ℕ → Book
book_slashed b burn = record b { tokens = b.tokens - burn; holders = map (slashed (recorded_fraction burn b.tokens)) b.holders }

pub covers_slashes : (b : Book) (burn : ℕ) → 0 < b.tokens → b.tokens ≤ one → burn ≤ b.tokens → Covers b → Covers (book_slashed b burn)
covers_slashes b burn some few less k = record {
  held = omega (arith, slashed_shares (recorded_fraction burn b.tokens) b.holders, k.held);
  backed = λ h. k.backed some;
  above = slashed_above b.tokens burn b.shares b.lefts b.holders some few less k.above;
  covered = omega (arith, k.covered, slashed_claims (recorded_fraction burn b.tokens) b.holders);
}

-- ---- shares are issued

issued_above : (T X T' X' N : ℕ) (hs : List Holder) → 0 < X → T * X' ≤ T' * X → total (excess T X) hs ≤ N * X → total (excess T' X') hs ≤ N * X'
issued_above T X T' X' N hs pos fair above =
    let each : (h : Holder) → X * excess T' X' h ≤ X' * excess T X h + 0 * shares_of h = λ h.
    let m : (T * X') * (h.mine * one) ≤ (T' * X) * (h.mine * one) = mul-le-mul_right (h.mine * one) fair in
    omega (arith, excess_scaled X X' (h.stake * X') (h.mine * T' * one) (h.stake * X) (h.mine * T * one) 0 (omega arith) (omega arith)) in
    let m : X * total (excess T' X') hs ≤ X' * total (excess T X) hs + 0 * total shares_of hs = total_le X X' 0 (excess T' X') (excess T X) shares_of each hs in
    let m2 : X' * total (excess T X) hs ≤ X' * (N * X) = mul-le-mul_left X' above in
    let m3 : X * total (excess T' X') hs ≤ X * (N * X') = omega arith in
    le_of_mul-le-mul_left m3 pos

none_held : (f : Holder → ℕ) (hs : List Holder) → hs ≡ [] → total f hs ≡ 0
none_held f hs e = ap (total f) e

abbrev pub book_issued : Book → ℕ → ℕ → Book
book_issued b amount issued = record b { tokens = b.tokens + amount; shares = b.shares + issued }

issues_more : (b : Book) (amount issued : ℕ) → 0 < b.shares → issued_shares b.tokens b.shares amount ≡ Ok issued → Covers b → Covers (book_issued b amount issued)
issues_more b amount issued some e k = record {
  held = omega (arith, k.held);
  backed = λ h. omega arith;
  above = issued_above b.tokens b.shares (b.tokens + amount) (b.shares + issued) b.lefts b.holders some
      (issued_most b.tokens b.shares amount issued (issued_some b.tokens b.shares amount issued some e) some e) k.above;
  covered = k.covered;
}

-- the first shares: nobody holds any
issues_first : (tokens shares amount issued N : ℕ) (hs : List Holder) → shares ≡ 0 → issued_shares tokens shares amount ≡ Ok issued → hs ≡ [] → (0 < tokens → 0 < shares)
    → (0 < tokens + amount → 0 < shares + issued) × (total (excess (tokens + amount) (shares + issued)) hs ≤ N * (shares + issued))
issues_first tokens shares amount issued N hs none e nobody backed =
    let first : issued ≡ amount * one = issued_first tokens amount issued (ap (λ n. issued_shares tokens n amount) (sym none) ∙ e) in (
      λ h. elim (cases_lt 0 tokens) [ inl some ↦ absurd (omega (arith, backed some)) | inr nothing ↦ omega arith ],
      omega (arith, none_held (excess (tokens + amount) (shares + issued)) hs nobody),
    )

pub covers_issues : (b : Book) (amount issued : ℕ) → issued_shares b.tokens b.shares amount ≡ Ok issued → (b.shares ≡ 0 → b.holders ≡ []) → Covers b → Covers (book_issued b amount issued)
covers_issues b amount issued e nobody k = elim (cases_lt 0 b.shares) [
  | inl some ↦ issues_more b amount issued some e k
  | inr nothing ↦ (let none : b.shares ≡ 0 = omega arith in
      let first : (0 < b.tokens + amount → 0 < b.shares + issued) × (total (excess (b.tokens + amount) (b.shares + issued)) b.holders ≤ b.lefts * (b.shares + issued)) =
      issues_first b.tokens b.shares amount issued b.lefts b.holders none e (nobody none) k.backed in
      record { held = omega (arith, k.held); backed = first.0; above = first.1; covered = k.covered })
]

-- ---- shares leave

left_above : (T X T' X' N : ℕ) (hs : List Holder) → 0 < X → total shares_of hs ≤ X' → one * T * X' ≤ one * T' * X + X → total (excess T X) hs ≤ N * X → total (excess T' X') hs ≤ (N + 1) * X'
left_above T X T' X' N hs pos held fall above =
    let each : (h : Holder) → X * excess T' X' h ≤ X' * excess T X h + X * shares_of h = λ h.
    let m : (one * T * X') * h.mine ≤ (one * T' * X + X) * h.mine = mul-le-mul_right h.mine fall in
    excess_scaled X X' (h.stake * X') (h.mine * T' * one) (h.stake * X) (h.mine * T * one) (X * h.mine) (omega arith) (omega arith) in
    let m : X * total (excess T' X') hs ≤ X' * total (excess T X) hs + X * total shares_of hs = total_le X X' X (excess T' X') (excess T X) shares_of each hs in
    let m2 : X' * total (excess T X) hs ≤ X' * (N * X) = mul-le-mul_left X' above in
    let m3 : X * total shares_of hs ≤ X * X' = mul-le-mul_left X held in
    let m4 : X * total (excess T' X') hs ≤ X * ((N + 1) * X') = omega arith in
    le_of_mul-le-mul_left m4 pos

out_all : (tokens shares part : ℕ) → part ≡ shares → amount_out tokens shares part ≡ tokens
out_all tokens shares part h = grind arith

any_fall : (tokens shares part : ℕ) → part ≤ shares → one * tokens * (shares - part) ≤ one * (tokens - amount_out tokens shares part) * shares + shares
any_fall tokens shares part h = elim (cases_lt part shares) [
  | inl less ↦ left_fall tokens shares part less
  | inr more ↦ (let none : one * tokens * (shares - part) ≡ one * tokens * 0 = ap (λ q. one * tokens * q) (omega arith) in omega arith)
]

left_backed : (tokens shares part : ℕ) → part ≤ shares → 0 < tokens - amount_out tokens shares part → 0 < shares - part
left_backed tokens shares part h some = elim (cases_lt part shares) [
  | inl less ↦ omega arith
  | inr more ↦ absurd (omega (arith, out_all tokens shares part (omega arith)))
]

abbrev pub book_left : Book → ℕ → Book
book_left b part = record b { tokens = b.tokens - amount_out b.tokens b.shares part; shares = b.shares - part; lefts = b.lefts + 1 }

pub covers_removes : (b : Book) (part : ℕ) → 0 < b.shares → total shares_of b.holders + part ≤ b.shares → Covers b → Covers (book_left b part)
covers_removes b part some fit k =
    let held : total shares_of b.holders ≤ b.shares - part = omega arith in
    let most : part ≤ b.shares = omega arith in
    record {
      held = held;
      backed = left_backed b.tokens b.shares part most;
      above = left_above b.tokens b.shares (b.tokens - amount_out b.tokens b.shares part) (b.shares - part) b.lefts b.holders some held (any_fall b.tokens b.shares part most) k.above;
      covered = omega (arith, k.covered);
    }

-- ---- an allocation, a start, a payment, the commission

pub covers_allocates : (b : Book) (commission amount : ℕ) → Covers b
    → Covers (record b { outstanding = b.outstanding + (commission + amount); commission = b.commission + commission; current = b.current + amount })
covers_allocates b commission amount k = record { held = k.held; backed = k.backed; above = k.above; covered = omega (arith, k.covered) }

abbrev pub started : Book → ℕ → Holder
started b mine = record { mine = mine; stake = value_cut_of b.tokens b.shares mine; rise = 0; closed = 0 }

pub covers_starts : (b : Book) (place mine : ℕ) → total shares_of b.holders + mine ≤ b.shares → Covers b → Covers (record b { holders = insert b.holders place (started b mine) })
covers_starts b place mine fit k = record {
  held = omega (arith, fit, total_insert shares_of (started b mine) place b.holders);
  backed = k.backed;
  above = omega (arith, k.above, value_cut_low b.tokens b.shares mine, total_insert (excess b.tokens b.shares) (started b mine) place b.holders);
  covered = omega (arith, k.covered, total_insert claim_of (started b mine) place b.holders);
}

pub covers_stops : (b : Book) (place reward : ℕ) (h : Holder) → slice_get b.holders place ≡ Some h → reward * one ≤ claim_of h → Covers b
    → Covers (record b { outstanding = b.outstanding - min reward b.outstanding; holders = remove b.holders place })
covers_stops b place reward h there within k = record {
  held = omega (arith, k.held, total_remove shares_of h place b.holders there);
  backed = k.backed;
  above = omega (arith, k.above, total_remove (excess b.tokens b.shares) h place b.holders there);
  covered = omega (arith, k.covered, within, total_remove claim_of h place b.holders there);
}

pub covers_takes : (b : Book) (amount : ℕ) → amount ≤ b.commission → amount ≤ b.outstanding → Covers b
    → Covers (record b { outstanding = b.outstanding - amount; commission = b.commission - amount })
covers_takes b amount fit there k = record { held = k.held; backed = k.backed; above = k.above; covered = omega (arith, k.covered, fit, there) }
