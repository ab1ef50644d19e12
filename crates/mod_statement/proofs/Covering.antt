-- The slack of a statement covers the exact one.
use Rattle.std.proofs.Common.{◌≡◌, ℕ, ◌+◌, ◌*◌, ◌^◌, ◌<◌, ◌≤◌, ◌==◌, Bool, true, false, cond, not, suc, List, [], ◌∷◌, map, take, refl, sym, ap, ◌∙◌, subst, arith, mul-le-mul_right, le_of_mul-le-mul_right, Ok, count_by, if◌then◌else◌}
use Rattle.std.{proofs.lemmas.{Bool.{false≢true, Decides.nat_tests}, List.Sums.sum_by-cons}, specs.List.prefix_len}
use Rattle.base_decimals.specs.{Decimals.add_of, Fractions.{Fraction, fraction_of}, Rounding.{cut, up}}
use Rattle.base_decimals.proofs.Nearest.{up_above}
use Rattle.base_shares.specs.Burns.{ratio_of}
use Rattle.base_coins.{specs.Coins.{Money, amount_of}, proofs.Amounts.{ok, same_ok, bind_ok, add_sum}}
use Rattle.rule_modules.specs.Ideal.{Ideal, ◌⊕◌, ◌⊗◌, whole, ideal_after, ideal_over, ideal_start, stretch_slack, stretch_closed}
use Rattle.mod_statement.specs.declared.entry.Entry.{Entry, TheVariants.{Started, Allocated, Ended, Slashed, Touched}}
use Rattle.mod_statement.specs.{declared.slack.Factor.Factor, Entries.{is_end, is_slash, is_touch, stakes_worth}}
use Rattle.mod_statement.specs.Rounding.{product_of, quotient_up_of}
use Rattle.mod_statement.specs.Slack.{first_stretch, given, later_stretches, rate_of, slack_in, stretches_of, with_stretch}
use Rattle.mod_statement.specs.{Bracketed.{logged, logged_span}, Covers.{AreAtLeast, slack_due}}
use Rattle.mod_statement.proofs.{Exact.both_positive, Shared.below_is}
use Rattle.mod_statement.proofs.Chains.{one, after_part, after_spread, after_rate, after_weight, after_more, after_alone, after_ended, after_overclaim, after_within, after_clamped, after_factor}

-- ---- a number of units of 10^-18 that is at least a fraction

abbrev Covers : ℕ → Fraction → Type 0
Covers a p = (0 < p.denominator) × (p.numerator * 10 ^ 18 ≤ a * p.denominator)

sum_plain : (a b n m p q u : ℕ) → n * u ≤ a * m → p * u ≤ b * q → (n * q + p * m) * u ≤ (a + b) * (m * q)
sum_plain a b n m p q u h k =
    let e1 : n * u * q ≤ a * m * q = mul-le-mul_right q h in
    let e2 : p * u * m ≤ b * q * m = mul-le-mul_right m k in
    omega arith

product_plain : (a b c n m p q u : ℕ) → 0 < u → n * u ≤ a * m → p * u ≤ b * q → a * b ≤ c * u → n * p * u ≤ c * (m * q)
product_plain a b c n m p q u some h k most =
    let e1 : n * u * (p * u) ≤ a * m * (p * u) = mul-le-mul_right (p * u) h in
    let e2 : p * u * (a * m) ≤ b * q * (a * m) = mul-le-mul_right (a * m) k in
    let e3 : a * b * (m * q) ≤ c * u * (m * q) = mul-le-mul_right (m * q) most in
    let e : n * p * u * u ≤ c * (m * q) * u = omega arith in
    le_of_mul-le-mul_right e some

by_plain : (a n m k u : ℕ) → n * u ≤ a * m → n * k * u ≤ a * k * (m * 1)
by_plain a n m k u h = let e : n * u * k ≤ a * m * k = mul-le-mul_right k h in omega arith

times_plain : (a n m k u : ℕ) → n * u ≤ a * m → k * n * u ≤ a * k * (1 * m)
times_plain a n m k u h = let e : n * u * k ≤ a * m * k = mul-le-mul_right k h in omega arith

more_plain : (a b n m u : ℕ) → a ≤ b → n * u ≤ a * m → n * u ≤ b * m
more_plain a b n m u h k = let e : a * m ≤ b * m = mul-le-mul_right m h in omega arith

given_plain : (f r t u : ℕ) → f ≤ r * t → f * 1 * u ≤ r * (u * t)
given_plain f r t u h = let e : f * u ≤ r * t * u = mul-le-mul_right u h in omega arith

cover_sum : (a b : ℕ) (p q : Fraction) → Covers a p → Covers b q → Covers (a + b) (p ⊕ q)
cover_sum a b p q h k =
    (both_positive p.denominator q.denominator h.0 k.0, sum_plain a b p.numerator p.denominator q.numerator q.denominator (10 ^ 18) h.1 k.1)

cover_product : (a b c : ℕ) (p q : Fraction) → Covers a p → Covers b q → a * b ≤ c * 10 ^ 18 → Covers c (p ⊗ q)
cover_product a b c p q h k most =
    (both_positive p.denominator q.denominator h.0 k.0, product_plain a b c p.numerator p.denominator q.numerator q.denominator (10 ^ 18) (omega arith) h.1 k.1 most)

cover_by : (a k : ℕ) (p : Fraction) → Covers a p → Covers (a * k) (p ⊗ whole k)
cover_by a k p h = (both_positive p.denominator 1 h.0 (omega arith), by_plain a p.numerator p.denominator k (10 ^ 18) h.1)

cover_times : (a k : ℕ) (p : Fraction) → Covers a p → Covers (a * k) (whole k ⊗ p)
cover_times a k p h = (both_positive 1 p.denominator (omega arith) h.0, times_plain a p.numerator p.denominator k (10 ^ 18) h.1)

cover_more : (a b : ℕ) (p : Fraction) → a ≤ b → Covers a p → Covers b p
cover_more a b p h k = (k.0, more_plain a b p.numerator p.denominator (10 ^ 18) h k.1)

cover_one : Covers one (whole 1)
cover_one = (omega arith, omega arith)

cover_none : Covers 0 (whole 0)
cover_none = (omega arith, omega arith)

-- ---- one entry

record After (d : List ℕ) (first : Fraction) (x : Entry) (i : Ideal) (rate : ℕ) : Type 0 where
  slack_same : (ideal_after d first i (logged x)).slack ≡ i.slack
  stretch_same : (ideal_after d first i (logged x)).stretch ≡ i.stretch
  ended_is : (ideal_after d first i (logged x)).ended ≡ i.ended + cond (is_end x) 1 0
  rate_is : Covers (rate + given d x) (ideal_after d first i (logged x)).rate

no_more : (n : ℕ) → n ≡ n + 0
no_more n = omega arith

le_more : (n : ℕ) → n ≤ n + 0
le_more n = omega arith

some_tokens : (tokens : ℕ) → (tokens == 0) ≡ false → 0 < tokens
some_tokens tokens h = grind (arith, nat_tests)

allocated_test : (t : Bool) (f tokens rate : ℕ) (i : Ideal) → (tokens == 0) ≡ t → Covers rate i.rate
    → let j : Ideal = if t then i else record i {
      reward = i.reward ⊕ fraction_of f ⊗ i.stake ⊗ ratio_of 1 tokens;
      rate = i.rate ⊕ fraction_of f ⊗ ratio_of 1 tokens;
    } in (j.slack ≡ i.slack) × (j.stretch ≡ i.stretch) × (j.ended ≡ i.ended + 0) × Covers (rate + (if t then 0 else up f tokens)) j.rate
allocated_test true f tokens rate i h k = (refl, refl, no_more i.ended, cover_more rate (rate + 0) i.rate (le_more rate) k)
allocated_test false f tokens rate i h k = (
  refl,
  refl,
  no_more i.ended,
  cover_sum rate (up f tokens) i.rate (fraction_of f ⊗ ratio_of 1 tokens) k
      (both_positive (10 ^ 18) tokens (omega arith) (some_tokens tokens h), given_plain f (up f tokens) tokens (10 ^ 18) (up_above f tokens (some_tokens tokens h))),
)

one_after : (d : List ℕ) (first : Fraction) (x : Entry) (i : Ideal) (rate : ℕ) → is_slash x ≡ false → Covers rate i.rate → After d first x i rate
one_after d first (Started shares tokens total) i rate other k =
    record { slack_same = refl; stretch_same = refl; ended_is = no_more i.ended; rate_is = cover_more rate (rate + 0) i.rate (le_more rate) k }
one_after d first (Allocated coins tokens) i rate other k =
    let (a, b, c, e) = allocated_test (tokens == 0) (amount_of coins d) tokens rate i refl k in
    record { slack_same = a; stretch_same = b; ended_is = c; rate_is = e }
one_after d first Ended i rate other k =
    record { slack_same = refl; stretch_same = refl; ended_is = refl; rate_is = cover_more rate (rate + 0) i.rate (le_more rate) k }
one_after d first (Slashed burned tokens) i rate other k = absurd (false≢true (sym other))
one_after d first Touched i rate other k =
    record { slack_same = refl; stretch_same = refl; ended_is = no_more i.ended; rate_is = cover_more rate (rate + 0) i.rate (le_more rate) k }

-- ---- entries without a slash

abbrev NoSlash : List Entry → Type 0
NoSlash [] = Unit {0}
NoSlash (x ∷ xs) = (is_slash x ≡ false) × NoSlash xs

record Through (d : List ℕ) (first : Fraction) (xs : List Entry) (i : Ideal) (rate : ℕ) : Type 0 where
  slack_same : (ideal_over d first i (map logged xs)).slack ≡ i.slack
  stretch_same : (ideal_over d first i (map logged xs)).stretch ≡ i.stretch
  ended_is : (ideal_over d first i (map logged xs)).ended ≡ i.ended + count_by is_end xs
  rate_is : Covers rate (ideal_over d first i (map logged xs)).rate

ended_sum : (a b c n m : ℕ) → a ≡ b + c → b ≡ n + m → a ≡ n + (m + c)
ended_sum a b c n m h k = omega arith

through : (d : List ℕ) (first : Fraction) (xs : List Entry) (i : Ideal) (rate last : ℕ) → NoSlash xs → rate_of d rate xs ≡ Ok last → Covers rate i.rate
    → Through d first xs i last
through d first [] i rate last none h k =
    record { slack_same = refl; stretch_same = refl; ended_is = no_more i.ended; rate_is = subst (λ r. Covers r i.rate) (same_ok h) k }
through d first (x ∷ xs) i rate last none h k =
    let (next, here, later) = bind_ok (add_of rate (given d x)) (λ n. rate_of d n xs) last h in
    let sum : next ≡ rate + given d x = add_sum rate (given d x) next here in
    let j : Ideal = ideal_after d first i (logged x) in
    let a : After d first x i rate = one_after d first x i rate none.0 k in
    let t : Through d first xs j last = through d first xs j next last none.1 later (subst (λ r. Covers r j.rate) (sym sum) a.rate_is) in
    let counted : count_by is_end (x ∷ xs) ≡ cond (is_end x) 1 0 + count_by is_end xs = sum_by-cons (λ y. cond (is_end y) 1 0) x xs in
    record {
      slack_same = t.slack_same ∙ a.slack_same;
      stretch_same = t.stretch_same ∙ a.stretch_same;
      ended_is = ended_sum _ j.ended (count_by is_end xs) i.ended (cond (is_end x) 1 0) t.ended_is a.ended_is ∙ ap (λ n. i.ended + n) (sym counted);
      rate_is = t.rate_is;
    }

one_suc : (k : ℕ) → 1 + k ≡ suc k
one_suc k = omega arith

-- a first stretch begins with what is no slash, and has nothing before one
first_more : (x : Entry) (xs : List Entry) → is_slash x ≡ false → first_stretch (x ∷ xs) ≡ x ∷ first_stretch xs
first_more x xs h =
    let n : ℕ = prefix_len (λ e. not (is_slash e)) xs in
    ap (λ t. take (cond (not t) (1 + n) 0) (x ∷ xs)) h ∙ ap (λ k. take k (x ∷ xs)) (one_suc n)

first_none : (x : Entry) (xs : List Entry) → is_slash x ≡ true → first_stretch (x ∷ xs) ≡ []
first_none x xs h = ap (λ t. take (cond (not t) (1 + prefix_len (λ e. not (is_slash e)) xs) 0) (x ∷ xs)) h

stretch_test : (t : Bool) (x : Entry) (xs : List Entry) → is_slash x ≡ t → NoSlash (first_stretch xs) → NoSlash (first_stretch (x ∷ xs))
stretch_test true x xs h n = subst NoSlash (sym (first_none x xs h)) tt
stretch_test false x xs h n = subst NoSlash (sym (first_more x xs h)) (h, n)

no_slash : (xs : List Entry) → NoSlash (first_stretch xs)
no_slash [] = tt
no_slash (x ∷ xs) = stretch_test (is_slash x) x xs refl (no_slash xs)

-- ---- a stretch

cut_one : (n : ℕ) → cut n 1 ≡ n
cut_one n = omega arith

product_is : (a n m : ℕ) → product_of a n ≡ Ok m → m ≡ a * n
product_is a n m h = (below_is _ (cut (a * n) 1) m h).0 ∙ cut_one (a * n)

spread_most : (a b m : ℕ) → quotient_up_of a b one ≡ Ok m → a * b ≤ m * 10 ^ 18
spread_most a b m h = subst (λ k. a * b ≤ k * 10 ^ 18) (sym (below_is _ (up (a * b) one) m h).0) (up_above (a * b) one (omega arith))

-- the exact state at the end of a stretch that begins with this one
abbrev through_of : List ℕ → Fraction → Ideal → List Entry → Ideal
through_of d first i xs = ideal_over d first i (map logged xs)

counted_from : (n m : ℕ) → n ≡ 0 → n + m ≡ m
counted_from n m e = omega arith

record StretchCovered (d : List ℕ) (first : Fraction) (i : Ideal) (xs : List Entry) (p : Fraction) (next : Factor) : Type 0 where
  slack_same : (through_of d first i xs).slack ≡ i.slack
  sum : Covers next.sum (p ⊕ stretch_slack first (through_of d first i xs))
  rate : Covers next.rate (through_of d first i xs).rate

stretch_covered : (d : List ℕ) (first : Fraction) (upper number : ℕ) (xs : List Entry) (f next : Factor) (i : Ideal) (p : Fraction) → NoSlash xs → Covers upper first
    → i.ended ≡ 0 → i.stretch ≡ number → Covers 0 i.rate → Covers f.sum p → with_stretch d upper number xs f ≡ Ok next → StretchCovered d first i xs p next
stretch_covered d first upper number xs f next i p none stake none_ended number_is no_rate so_far h =
    let count : ℕ = count_by is_end xs in
    let (ended, ended_ok, h1) = bind_ok (product_of upper count) (after_ended d upper number xs f) next h in
    let (alone, alone_ok, h2) = bind_ok (add_of one ended) (after_alone d upper number xs f) next h1 in
    let (more, more_ok, h3) = bind_ok (add_of one upper) (after_more d number xs f alone) next h2 in
    let (weight, weight_ok, h4) = bind_ok (product_of more number) (after_weight d xs f alone) next h3 in
    let (rate, rate_ok, h5) = bind_ok (rate_of d 0 xs) (after_rate f alone weight) next h4 in
    let (spread, spread_ok, h6) = bind_ok (quotient_up_of weight rate one) (after_spread f alone rate) next h5 in
    let (part, part_ok, h7) = bind_ok (add_of alone spread) (after_part f rate) next h6 in
    let (sum, sum_ok, h8) = bind_ok (add_of f.sum part) (λ s. ok (let g : Factor = record { sum = s; rate = rate } in g)) next h7 in
    let e : Ideal = through_of d first i xs in
    let t : Through d first xs i rate = through d first xs i 0 rate none rate_ok no_rate in
    let counted : count ≡ e.ended = sym (t.ended_is ∙ counted_from i.ended count none_ended) in
    let numbered : number ≡ e.stretch = sym (t.stretch_same ∙ number_is) in
    let c1 : Covers ended (first ⊗ whole e.ended) =
    subst (λ k. Covers ended (first ⊗ whole k)) counted (subst (λ k. Covers k (first ⊗ whole count)) (sym (product_is upper count ended ended_ok)) (cover_by upper count first stake)) in
    let c2 : Covers alone (whole 1 ⊕ first ⊗ whole e.ended) =
    subst (λ k. Covers k (whole 1 ⊕ first ⊗ whole e.ended)) (sym (add_sum one ended alone alone_ok)) (cover_sum one ended (whole 1) (first ⊗ whole e.ended) cover_one c1) in
    let c3 : Covers more (whole 1 ⊕ first) = subst (λ k. Covers k (whole 1 ⊕ first)) (sym (add_sum one upper more more_ok)) (cover_sum one upper (whole 1) first cover_one stake) in
    let c4 : Covers weight (whole e.stretch ⊗ (whole 1 ⊕ first)) =
    subst (λ k. Covers weight (whole k ⊗ (whole 1 ⊕ first))) numbered
    (subst (λ k. Covers k (whole number ⊗ (whole 1 ⊕ first))) (sym (product_is more number weight weight_ok)) (cover_times more number (whole 1 ⊕ first) c3)) in
    let c5 : Covers spread (whole e.stretch ⊗ (whole 1 ⊕ first) ⊗ e.rate) =
    cover_product weight rate spread (whole e.stretch ⊗ (whole 1 ⊕ first)) e.rate c4 t.rate_is (spread_most weight rate spread spread_ok) in
    let c6 : Covers part (stretch_slack first e) =
    subst (λ k. Covers k (stretch_slack first e)) (sym (add_sum alone spread part part_ok))
    (cover_sum alone spread (whole 1 ⊕ first ⊗ whole e.ended) (whole e.stretch ⊗ (whole 1 ⊕ first) ⊗ e.rate) c2 c5) in
    let c7 : Covers sum (p ⊕ stretch_slack first e) =
    subst (λ k. Covers k (p ⊕ stretch_slack first e)) (sym (add_sum f.sum part sum sum_ok)) (cover_sum f.sum part p (stretch_slack first e) so_far c6) in
    let made : Factor = record { sum = sum; rate = rate } in
    let is : made ≡ next = same_ok {x = made} h8 in
    subst (StretchCovered d first i xs p) is (record { slack_same = t.slack_same; sum = c7; rate = t.rate_is })

-- ---- all stretches

-- a factor that covers the open stretch to its end already
record Ahead (d : List ℕ) (first : Fraction) (i : Ideal) (xs : List Entry) (f : Factor) : Type 0 where
  sum : Covers f.sum ((through_of d first i (first_stretch xs)).slack ⊕ stretch_slack first (through_of d first i (first_stretch xs)))
  rate : Covers f.rate (through_of d first i (first_stretch xs)).rate

record AllCovered (d : List ℕ) (first : Fraction) (i : Ideal) (xs : List Entry) (f : Factor) : Type 0 where
  sum : Covers f.sum ((through_of d first i xs).slack ⊕ stretch_slack first (through_of d first i xs))
  rate : Covers f.rate (through_of d first i xs).rate

shared_stretch : (t : Bool) (f tokens : ℕ) (i : Ideal)
    → let j : Ideal = if t then i else record i {
      reward = i.reward ⊕ fraction_of f ⊗ i.stake ⊗ ratio_of 1 tokens;
      rate = i.rate ⊕ fraction_of f ⊗ ratio_of 1 tokens;
    } in j.stretch ≡ i.stretch
shared_stretch true f tokens i = refl
shared_stretch false f tokens i = refl

-- what is no slash stays in the open stretch
kept : (d : List ℕ) (first : Fraction) (i : Ideal) (x : Entry) (xs : List Entry) (f : Factor) → is_slash x ≡ false → Ahead d first i (x ∷ xs) f
    → Ahead d first (ideal_after d first i (logged x)) xs f
kept d first i x xs f other ahead =
    let open_is : first_stretch (x ∷ xs) ≡ x ∷ first_stretch xs = first_more x xs other in
    record {
      sum = subst (λ (l : List Entry). Covers f.sum ((through_of d first i l).slack ⊕ stretch_slack first (through_of d first i l))) open_is ahead.sum;
      rate = subst (λ (l : List Entry). Covers f.rate (through_of d first i l).rate) open_is ahead.rate;
    }

-- a stretch that was covered is covered ahead
begun_ahead : (d : List ℕ) (first : Fraction) (i : Ideal) (xs : List Entry) (f : Factor) → StretchCovered d first i (first_stretch xs) i.slack f → Ahead d first i xs f
begun_ahead d first i xs f c =
    let e : Ideal = through_of d first i (first_stretch xs) in
    record { sum = subst (λ q. Covers f.sum (q ⊕ stretch_slack first e)) (sym c.slack_same) c.sum; rate = c.rate }

later_covered : (d : List ℕ) (first : Fraction) (upper : ℕ) (xs : List Entry) (number : ℕ) (f g : Factor) (i : Ideal) → Covers upper first → i.stretch ≡ number
    → Ahead d first i xs f → later_stretches d upper number f xs ≡ Ok g → AllCovered d first i xs g
later_covered d first upper [] number f g i stake number_is ahead h = subst (AllCovered d first i []) (same_ok h) (record { sum = ahead.sum; rate = ahead.rate })
later_covered d first upper (Started shares tokens total ∷ xs) number f g i stake number_is ahead h =
    let r : AllCovered d first i xs g = later_covered d first upper xs number f g i stake number_is (kept d first i (Started shares tokens total) xs f refl ahead) h in
    record { sum = r.sum; rate = r.rate }
later_covered d first upper (Allocated coins tokens ∷ xs) number f g i stake number_is ahead h =
    let j : Ideal = ideal_after d first i (logged (Allocated coins tokens)) in
    let r : AllCovered d first j xs g = later_covered d first upper xs number f g j stake (shared_stretch (tokens == 0) (amount_of coins d) tokens i ∙ number_is)
    (kept d first i (Allocated coins tokens) xs f refl ahead) h in
    record { sum = r.sum; rate = r.rate }
later_covered d first upper (Ended ∷ xs) number f g i stake number_is ahead h =
    let j : Ideal = ideal_after d first i (logged Ended) in
    let r : AllCovered d first j xs g = later_covered d first upper xs number f g j stake number_is (kept d first i Ended xs f refl ahead) h in
    record { sum = r.sum; rate = r.rate }
later_covered d first upper (Slashed burned tokens ∷ xs) number f g i stake number_is ahead h =
    let j : Ideal = stretch_closed first burned tokens i in
    let (next, made, later) = bind_ok (with_stretch d upper (number + 1) (first_stretch xs) f) (λ n. later_stretches d upper (number + 1) n xs) g h in
    let covered : StretchCovered d first j (first_stretch xs) j.slack next =
    stretch_covered d first upper (number + 1) (first_stretch xs) f next j j.slack (no_slash xs) stake refl (ap (λ n. n + 1) number_is) cover_none ahead.sum made in
    let r : AllCovered d first j xs g = later_covered d first upper xs (number + 1) next g j stake (ap (λ n. n + 1) number_is) (begun_ahead d first j xs next covered) later in
    record { sum = r.sum; rate = r.rate }
later_covered d first upper (Touched ∷ xs) number f g i stake number_is ahead h =
    let j : Ideal = ideal_after d first i (logged Touched) in
    let r : AllCovered d first j xs g = later_covered d first upper xs number f g j stake number_is (kept d first i Touched xs f refl ahead) h in
    record { sum = r.sum; rate = r.rate }

stretches_covered : (d : List ℕ) (first : Fraction) (upper : ℕ) (xs : List Entry) (g : Factor) → Covers upper first → stretches_of d upper xs ≡ Ok g
    → AllCovered d first (ideal_start first) xs g
stretches_covered d first upper xs g stake h =
    let i : Ideal = ideal_start first in
    let none : Factor = record { sum = 0; rate = 0 } in
    let (begun, made, later) = bind_ok (with_stretch d upper 1 (first_stretch xs) none) (λ n. later_stretches d upper 1 n xs) g h in
    let covered : StretchCovered d first i (first_stretch xs) i.slack begun =
    stretch_covered d first upper 1 (first_stretch xs) none begun i i.slack (no_slash xs) stake refl refl cover_none cover_none made in
    later_covered d first upper xs 1 begun g i stake refl (begun_ahead d first i xs begun covered) later

-- ---- the slack

at_most_unit : (p m a n u : ℕ) → p * u ≤ a * m → a ≤ n * u → 1 * p * u ≤ n * (u * m)
at_most_unit p m a n u h k = let e : a * m ≤ n * u * m = mul-le-mul_right m k in omega arith

fewer : (r k m c : ℕ) → k ≤ m → c ≡ r * m → r * k ≤ c
fewer r k m c h e = omega (arith, mul-le-mul_right r h)

pub covered_in : (d : List ℕ) (shares tokens total : ℕ) (rest : List Entry) (removals : ℕ) (ratio : Money) (n left lost : ℕ) → 0 < total
    → slack_in d (stakes_worth shares tokens total).upper rest removals ratio ≡ Ok n → left ≤ count_by is_touch rest + 1 → lost ≤ removals
    → AreAtLeast n (slack_due d (logged_span shares tokens total rest) left lost (amount_of ratio d))
covered_in d shares tokens total rest removals ratio n left lost some h few less =
    let first : Fraction = ratio_of (shares * tokens) total in
    let upper : ℕ = up (tokens * 10 ^ 18 * shares) total in
    let r : ℕ = amount_of ratio d in
    let above : tokens * 10 ^ 18 * shares ≤ upper * total = up_above (tokens * 10 ^ 18 * shares) total some in
    let stake : Covers upper first = (some, omega arith) in
    let (g, g_ok, h1) = bind_ok (stretches_of d upper rest) (after_factor d rest removals ratio) n h in
    let (clamped, c_ok, h2) = bind_ok (product_of g.rate (count_by is_touch rest + 2)) (after_clamped d removals ratio g) n h1 in
    let (within, w_ok, h3) = bind_ok (add_of g.sum clamped) (after_within d removals ratio) n h2 in
    let (overclaim, o_ok, h4) = bind_ok (product_of r removals) (after_overclaim within) n h3 in
    let (all, a_ok, h5) = bind_ok (add_of within overclaim) (λ a. ok (up a one)) n h4 in
    let a : AllCovered d first (ideal_start first) rest g = stretches_covered d first upper rest g stake g_ok in
    let e : Ideal = through_of d first (ideal_start first) rest in
    let p1 : Fraction = e.slack ⊕ stretch_slack first e in
    let p2 : Fraction = whole (left + 1) ⊗ e.rate in
    let p3 : Fraction = whole lost ⊗ fraction_of r in
    let lasts : g.rate * (left + 1) ≤ clamped = fewer g.rate (left + 1) (count_by is_touch rest + 2) clamped (omega arith) (product_is g.rate (count_by is_touch rest + 2) clamped c_ok) in
    let k2 : Covers clamped p2 = cover_more (g.rate * (left + 1)) clamped p2 lasts (cover_times g.rate (left + 1) e.rate a.rate) in
    let k3 : Covers within (p1 ⊕ p2) = subst (λ k. Covers k (p1 ⊕ p2)) (sym (add_sum g.sum clamped within w_ok)) (cover_sum g.sum clamped p1 p2 a.sum k2) in
    let same : Covers r (fraction_of r) = (omega arith, omega arith) in
    let k4 : Covers overclaim p3 = cover_more (r * lost) overclaim p3 (fewer r lost removals overclaim less (product_is r removals overclaim o_ok)) (cover_times r lost (fraction_of r) same) in
    let k5 : Covers all (p1 ⊕ p2 ⊕ p3) = subst (λ k. Covers k (p1 ⊕ p2 ⊕ p3)) (sym (add_sum within overclaim all a_ok)) (cover_sum within overclaim (p1 ⊕ p2) p3 k3 k4) in
    let up_is : up all one ≡ n = same_ok h5 in
    let last : all ≤ n * 10 ^ 18 = subst (λ k. all ≤ k * 10 ^ 18) up_is (up_above all one (omega arith)) in
    record {
      exact_is = both_positive (10 ^ 18) (p1 ⊕ p2 ⊕ p3).denominator (omega arith) k5.0;
      at_least = at_most_unit (p1 ⊕ p2 ⊕ p3).numerator (p1 ⊕ p2 ⊕ p3).denominator all n (10 ^ 18) k5.1 last;
    }
