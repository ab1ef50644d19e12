-- The slack of a statement in each denomination that it lists, and what it covers there.
use Rattle.std.proofs.Common.{◌≡◌, ℕ, ◌+◌, ◌^◌, ◌<◌, ◌≤◌, zero, suc, Bool, true, false, List, [], ◌∷◌, refl, sym, ap, ◌∙◌, subst, arith, All, Contains, Ok, count_by, is_eq}
use Rattle.std.{specs.BTreeMap.is_at, proofs.lemmas.{Bool.false≢true, List.Elements.{All-nil, All-cons}}}
use Rattle.base_decimals.{specs.{Decimals.add_of, Rounding.up}, proofs.Nearest.up_least}
use Rattle.base_types.specs.Orders.{denom_cmp}
use Rattle.base_coins.specs.{Steps.{◌>>=◌}, Coins.{Money, amount_of, sorted_coins}}
use Rattle.base_coins.proofs.Order.{same_name, amount-first}
use Rattle.base_coins.proofs.Amounts.{ok, same_ok, bind_ok, itself, is_equal, amount-first_other}
use Rattle.base_coins.proofs.Sorting.{amount-sorted}
use Rattle.mod_statement.specs.declared.{entry.Entry.{Entry, TheVariants.Started}, bounds.Bounds.Bounds}
use Rattle.mod_statement.specs.{declared.stakes.Stakes.Stakes, Entries.{is_touch, stakes_worth}, Rounding.product_of}
use Rattle.mod_statement.specs.Sums.{no_sums, sums_over}
use Rattle.mod_statement.specs.Slack.{denoms_of, slack_coins, slack_in, slacks_of, stretches_of}
use Rattle.mod_statement.specs.{Bracketed.span_stated, Covers.{AreAtLeast, SlackCovers, slack_due}}
use Rattle.mod_statement.proofs.Chains.{one, after_overclaim, after_within, after_clamped, after_factor}
use Rattle.mod_statement.proofs.{Shared.below_is, Spans.{IsSpan, span_bounds}, Covering.covered_in}

-- ---- a slack is below the limit

up_small : (a : ℕ) → a < 10 ^ 38 → up a one < 10 ^ 38
up_small a h =
    let least : up a one ≤ a = up_least a one a (omega arith) (omega arith) in
    omega (arith, least)

slack_below : (d : List ℕ) (first : ℕ) (es : List Entry) (removals : ℕ) (ratio : Money) (n : ℕ) → slack_in d first es removals ratio ≡ Ok n → n < 10 ^ 38
slack_below d first es removals ratio n h =
    let (g, g_ok, h1) = bind_ok (stretches_of d first es) (after_factor d es removals ratio) n h in
    let (clamped, c_ok, h2) = bind_ok (product_of g.rate (count_by is_touch es + 2)) (after_clamped d removals ratio g) n h1 in
    let (within, w_ok, h3) = bind_ok (add_of g.sum clamped) (after_within d removals ratio) n h2 in
    let (overclaim, o_ok, h4) = bind_ok (product_of (amount_of ratio d) removals) (after_overclaim within) n h3 in
    let (all, a_ok, h5) = bind_ok (add_of within overclaim) (λ a. ok (up a one)) n h4 in
    let small : all < 10 ^ 38 = (below_is _ (within + overclaim) all a_ok).1 in
    let up_is : up all one ≡ n = same_ok h5 in
    subst (λ k. k < 10 ^ 38) up_is (up_small all small)

abbrev small_coin : List ℕ × ℕ → Type 0
small_coin c = c.1 < 10 ^ 38

slacks_below : (first : ℕ) (es : List Entry) (removals : ℕ) (ratio : Money) (ds : List (List ℕ)) (z : Money) → slacks_of first es removals ratio ds ≡ Ok z → All small_coin z
slacks_below first es removals ratio [] z h = subst (All small_coin) (same_ok h) (All-nil small_coin)
slacks_below first es removals ratio (d ∷ ds) z h =
    let (n, here, h1) = bind_ok (slack_in d first es removals ratio) (λ n. slacks_of first es removals ratio ds >>= λ rest. ok ((d, n) ∷ rest)) z h in
    let (rest, there, h2) = bind_ok (slacks_of first es removals ratio ds) (λ rest. ok ((d, n) ∷ rest)) z h1 in
    subst (All small_coin) (same_ok h2) (All-cons small_coin (d, n) rest (slack_below d first es removals ratio n here) (slacks_below first es removals ratio ds rest there))

-- ---- the slack of a denomination that is listed

is_itself : (d : List ℕ) → is_at (denom_cmp d) d ≡ true
is_itself d = ap is_eq (itself d)

-- a denomination that is listed behind another one
contained_behind : (d e : List ℕ) (ds : List (List ℕ)) → is_at (denom_cmp d) e ≡ false → Contains (e ∷ ds) d → Contains ds d
contained_behind d e ds other (zero, lt, is) = absurd (false≢true (sym other ∙ subst (λ k. is_at (denom_cmp d) k ≡ true) (sym is) (is_itself d)))
contained_behind d e ds other (suc k, lt, is) = (k, omega arith, is)

none_contained : (d : List ℕ) → Contains [] d → ⊥
none_contained d (k, lt, is) = absurd (omega arith)

found_test : (t : Bool) (first : ℕ) (es : List Entry) (removals : ℕ) (ratio : Money) (d e : List ℕ) (n : ℕ) (rest : Money) → is_at (denom_cmp d) e ≡ t
    → slack_in e first es removals ratio ≡ Ok n → (t ≡ false → slack_in d first es removals ratio ≡ Ok (amount_of rest d))
    → slack_in d first es removals ratio ≡ Ok (amount_of ((e, n) ∷ rest) d)
found_test true first es removals ratio d e n rest is here there =
    let same : d ≡ e = same_name d e (is_equal d e is) in
    subst (λ k. slack_in k first es removals ratio ≡ Ok n) (sym same) here ∙ ap Ok (sym (amount-first d (e, n) rest (is_equal d e is)))
found_test false first es removals ratio d e n rest is here there = there refl ∙ ap Ok (sym (amount-first_other d (e, n) rest is))

found : (first : ℕ) (es : List Entry) (removals : ℕ) (ratio : Money) (ds : List (List ℕ)) (z : Money) (d : List ℕ) → slacks_of first es removals ratio ds ≡ Ok z → Contains ds d
    → slack_in d first es removals ratio ≡ Ok (amount_of z d)
found first es removals ratio [] z d h listed = absurd (none_contained d listed)
found first es removals ratio (e ∷ ds) z d h listed =
    let (n, here, h1) = bind_ok (slack_in e first es removals ratio) (λ n. slacks_of first es removals ratio ds >>= λ rest. ok ((e, n) ∷ rest)) z h in
    let (rest, there, h2) = bind_ok (slacks_of first es removals ratio ds) (λ rest. ok ((e, n) ∷ rest)) z h1 in
    subst (λ (l : Money). slack_in d first es removals ratio ≡ Ok (amount_of l d)) (same_ok h2)
    (found_test (is_at (denom_cmp d) e) first es removals ratio d e n rest refl here
    (λ other. found first es removals ratio ds rest d there (contained_behind d e ds other listed)))

pub listed_slack : (d : List ℕ) (first : ℕ) (es : List Entry) (removals : ℕ) (ratio slack : Money) → slack_coins first es removals ratio ≡ Ok slack → Contains (denoms_of ratio es) d
    → slack_in d first es removals ratio ≡ Ok (amount_of slack d)
listed_slack d first es removals ratio slack h listed =
    let ds : List (List ℕ) = denoms_of ratio es in
    let (z, z_ok, h1) = bind_ok (slacks_of first es removals ratio ds) (λ z. ok (sorted_coins z)) slack h in
    let same : amount_of (sorted_coins z) d ≡ amount_of z d = amount-sorted z d (slacks_below first es removals ratio ds z z_ok) in
    found first es removals ratio ds z d z_ok listed ∙ ap Ok (sym same ∙ ap (λ l. amount_of l d) (same_ok h1))

-- ---- a statement

-- the slack of the bounds of a span
slack_of_bounds : (start : Stakes) (rest : List Entry) (removals : ℕ) (ratio : Money) (due : Bounds)
    → (sums_over (no_sums start) rest >>= λ sums. slack_coins start.upper rest removals ratio >>= λ slack. ok (let b : Bounds = record { low = sums.low; high = sums.high; slack = slack } in b)) ≡ Ok due
    → slack_coins start.upper rest removals ratio ≡ Ok due.slack
slack_of_bounds start rest removals ratio due h =
    let (sums, sums_is, h1) = bind_ok (sums_over (no_sums start) rest)
    (λ sums. slack_coins start.upper rest removals ratio >>= λ slack. ok (let b : Bounds = record { low = sums.low; high = sums.high; slack = slack } in b)) due h in
    let (slack, slack_is, h2) = bind_ok (slack_coins start.upper rest removals ratio)
    (λ slack. ok (let b : Bounds = record { low = sums.low; high = sums.high; slack = slack } in b)) due h1 in
    let made : Bounds = record { low = sums.low; high = sums.high; slack = slack } in
    let is : made ≡ due = same_ok {x = made} h2 in
    slack_is ∙ ap (λ (b : Bounds). Ok b.slack) is

span_covered : (d : List ℕ) (es : List Entry) (removals : ℕ) (ratio : Money) (due : Bounds) (left lost : ℕ) → IsSpan es removals ratio due → Contains (denoms_of ratio es) d
    → left ≤ count_by is_touch es + 1 → lost ≤ removals
    → AreAtLeast (amount_of due.slack d) (slack_due d (span_stated es) left lost (amount_of ratio d))
span_covered d es removals ratio due left lost b listed few less =
    let whole : List Entry = Started b.shares b.tokens b.total ∷ b.rest in
    let start : Stakes = stakes_worth b.shares b.tokens b.total in
    let there : Contains (denoms_of ratio whole) d = subst (λ (l : List Entry). Contains (denoms_of ratio l) d) b.is listed in
    let fewer : left ≤ count_by is_touch whole + 1 = subst (λ (l : List Entry). left ≤ count_by is_touch l + 1) b.is few in
    let slack_is : slack_coins start.upper b.rest removals ratio ≡ Ok due.slack = slack_of_bounds start b.rest removals ratio due b.due_is in
    let found_is : slack_in d start.upper b.rest removals ratio ≡ Ok (amount_of due.slack d) = listed_slack d start.upper b.rest removals ratio due.slack slack_is there in
    subst (λ (l : List Entry). AreAtLeast (amount_of due.slack d) (slack_due d (span_stated l) left lost (amount_of ratio d))) (sym b.is)
    (covered_in d b.shares b.tokens b.total b.rest removals ratio (amount_of due.slack d) left lost b.some found_is fewer less)

pub slack_covers : SlackCovers
slack_covers = λ s due is right d listed left lost few less.
    subst (λ (c : Money). AreAtLeast (amount_of c d) (slack_due d (span_stated s.entries) left lost (amount_of s.ratio d))) (sym right.slack_is)
    (span_covered d s.entries s.removals s.ratio due left lost (span_bounds s.entries s.removals s.ratio due is) listed few less)
