-- The bounds of a span from its sums and its slack, and the bounds of entries from those of their span.
use Rattle.std.proofs.Common.{◌≡◌, ℕ, Bool, true, false, List, [], ◌∷◌, refl, sym, ap, ◌∙◌, subst, Option, Some, None, Result, Ok, Err, All, if◌then◌else◌, nat_lt, nat_le, ◌&&◌, ◌^◌}
use Rattle.std.proofs.lemmas.List.Elements.{All-cons}
use Rattle.base_decimals.specs.declared.over.Over.{Over}
use Rattle.base_coins.specs.{declared.fault.CoinFault.CoinFault, Steps.{◌>>=◌}, Coins.Money}
use Rattle.base_coins.specs.declared.fault.CoinFault.TheVariants as coin
use Rattle.mod_statement.specs.declared.entry.Entry.{Entry, TheVariants.{Started, Allocated, Ended, Slashed, Touched}}
use Rattle.mod_statement.specs.declared.{bounds.Bounds.Bounds, stakes.Stakes.Stakes, sums.Sums.Sums}
use Rattle.mod_statement.specs.Entries.{HasMoney, is_rest, span_from, span_of, stakes_worth}
use Rattle.mod_statement.specs.{Sums.{no_sums, sums_over}, Slack.slack_coins}
use Rattle.mod_statement.specs.{Bounds.{bounds_of, bounds_of_span, bounds_over, or_over}, Answers.{IsFaultOf, fault_of}}
use Rattle.mod_statement.{specs.Faults.IsOverDue, proofs.Walks.stopped}
use Rattle.mod_statement.specs.declared.fault.StatementFault.TheVariants as fault

-- ---- a span

abbrev slack_then : Stakes → List Entry → ℕ → Money → Sums → Result Bounds Over
slack_then start rest removals ratio sums =
    slack_coins start.upper rest removals ratio >>= λ slack. Ok (let b : Bounds = record { low = sums.low; high = sums.high; slack = slack } in b)

with_sums : (start : Stakes) (rest : List Entry) (removals : ℕ) (ratio : Money) (sums : Sums) → sums_over (no_sums start) rest ≡ Ok sums
    → bounds_over start rest removals ratio ≡ slack_then start rest removals ratio sums
with_sums start rest removals ratio sums h = ap (λ (r : Result Sums Over). r >>= slack_then start rest removals ratio) h

pub bounds_made : (start : Stakes) (rest : List Entry) (removals : ℕ) (ratio : Money) (sums : Sums) (slack : Money) → sums_over (no_sums start) rest ≡ Ok sums
    → slack_coins start.upper rest removals ratio ≡ Ok slack
    → bounds_over start rest removals ratio ≡ Ok (record { low = sums.low; high = sums.high; slack = slack })
bounds_made start rest removals ratio sums slack h k =
    with_sums start rest removals ratio sums h
    ∙ ap (λ (r : Result Money Over). r >>= λ slack. Ok (let b : Bounds = record { low = sums.low; high = sums.high; slack = slack } in b)) k

pub sums_stop_bounds : (start : Stakes) (rest : List Entry) (removals : ℕ) (ratio : Money) (f : CoinFault) → IsOverDue (sums_over (no_sums start) rest) f
    → IsOverDue (bounds_over start rest removals ratio) f
sums_stop_bounds start rest removals ratio f h =
    stopped (bounds_over start rest removals ratio) (sums_over (no_sums start) rest) (slack_then start rest removals ratio) f refl h

pub slack_stops_bounds : (start : Stakes) (rest : List Entry) (removals : ℕ) (ratio : Money) (sums : Sums) (f : CoinFault) → sums_over (no_sums start) rest ≡ Ok sums
    → IsOverDue (slack_coins start.upper rest removals ratio) f → IsOverDue (bounds_over start rest removals ratio) f
slack_stops_bounds start rest removals ratio sums f h k =
    stopped (bounds_over start rest removals ratio) (slack_coins start.upper rest removals ratio)
    (λ slack. Ok (let b : Bounds = record { low = sums.low; high = sums.high; slack = slack } in b)) f (with_sums start rest removals ratio sums h) k

-- ---- entries

pub spanned_bounds : (es rest : List Entry) (start : Stakes) (removals : ℕ) (ratio : Money) (due : Bounds) → Some (start, rest) ≡ span_of es
    → bounds_over start rest removals ratio ≡ Ok due → bounds_of es removals ratio ≡ Ok due
spanned_bounds es rest start removals ratio due h k = ap (λ o. bounds_of_span o removals ratio) (sym h) ∙ ap or_over k

pub spanned_fault : (es rest : List Entry) (start : Stakes) (removals : ℕ) (ratio : Money) (f : CoinFault) → Some (start, rest) ≡ span_of es
    → IsOverDue (bounds_over start rest removals ratio) f → IsFaultOf (bounds_of es removals ratio) (fault_of f)
spanned_fault es rest start removals ratio (coin.Over o) h k = ap (λ s. bounds_of_span s removals ratio) (sym h) ∙ ap or_over k
spanned_fault es rest start removals ratio coin.NoMemory h k = tt
spanned_fault es rest start removals ratio (coin.Short place) h k = absurd k
spanned_fault es rest start removals ratio coin.Repeated h k = absurd k

pub no_span : (es : List Entry) (removals : ℕ) (ratio : Money) → None ≡ span_of es → bounds_of es removals ratio ≡ Err fault.NoSpan
no_span es removals ratio h = ap (λ s. bounds_of_span s removals ratio) (sym h)

-- ---- the coins of a span's entries

abbrev spanned : Stakes → List Entry → Option (Stakes × List Entry)
spanned start rest = Some (start, rest)

abbrev unspanned : Option (Stakes × List Entry)
unspanned = None

some_not_none : (start : Stakes) (rest : List Entry) → spanned start rest ≡ unspanned → ⊥
some_not_none start rest h = cc

rest_in : Option (Stakes × List Entry) → List Entry
rest_in (Some span) = span.1
rest_in None = []

same_rest : (start start' : Stakes) (rest rest' : List Entry) → spanned start rest ≡ spanned start' rest' → rest ≡ rest'
unfolding rest_in
same_rest start start' rest rest' h = ap rest_in h

rest_money : (r : Bool) (e : Entry) (worth start : Stakes) (es rest : List Entry) → HasMoney e → spanned start rest ≡ (if r then spanned worth es else unspanned) → All HasMoney rest
    → All HasMoney (e ∷ es)
rest_money true e worth start es rest m h a = All-cons HasMoney e es m (subst (All HasMoney) (same_rest start worth rest es h) a)
rest_money false e worth start es rest m h a = absurd (some_not_none start rest h)

start_money : (t : Bool) (e : Entry) (worth start : Stakes) (es rest : List Entry) → HasMoney e → spanned start rest ≡ span_from (if t then Some worth else None) es → All HasMoney rest
    → All HasMoney (e ∷ es)
start_money true e worth start es rest m h a = rest_money (is_rest es) e worth start es rest m h a
start_money false e worth start es rest m h a = absurd (some_not_none start rest h)

pub span_money : (es rest : List Entry) (start : Stakes) → Some (start, rest) ≡ span_of es → All HasMoney rest → All HasMoney es
span_money [] rest start h a = absurd (some_not_none start rest h)
span_money (Started shares tokens total ∷ es) rest start h a =
    start_money (nat_lt 0 shares && nat_le shares total && nat_le tokens (10 ^ 18)) (Started shares tokens total) (stakes_worth shares tokens total) start es rest tt h a
span_money (Allocated coins tokens ∷ es) rest start h a = absurd (some_not_none start rest h)
span_money (Ended ∷ es) rest start h a = absurd (some_not_none start rest h)
span_money (Slashed burned tokens ∷ es) rest start h a = absurd (some_not_none start rest h)
span_money (Touched ∷ es) rest start h a = absurd (some_not_none start rest h)
