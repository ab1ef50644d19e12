-- The fifth point: the record of a period stands exactly where something refers to it, with the
-- number of its references, and ratios don't fall as periods grow.
use Rattle.std.specs.Prelude.{ℕ, ◌+◌, ◌-◌, ◌^◌, ◌==◌, ◌&&◌, ◌||◌, nat_lt, nat_le, not, Bool, true, List, [], ◌∷◌, Option, Some, None, is_some}
use Rattle.std.specs.BTreeMap.{is_at}
use Rattle.std.specs.List.{list_all}
use Rattle.base_coins.specs.Coins.{Money, amount_of}
use Rattle.base_roles.specs.declared.entities.Historical.{Historical}
use Rattle.base_roles.specs.declared.entities.StartingInfo.{StartingInfo}
use Rattle.base_roles.specs.Entries.{at}
use Rattle.base_roles.specs.Orders.{same_addr}
use Rattle.rule_modules.specs.Amounts.{count_where}
use Rattle.store_records.specs.Plain.{SharedSeen, period_cmp}
use Rattle.store_soundness.specs.Tally.{tallied}

-- how many of the periods that run come behind a period of an operator
abbrev pub refer_currents : List (List ℕ × ℕ) → List ℕ × ℕ → ℕ
refer_currents currents key = count_where (λ e. is_at (period_cmp key) (e.0, e.1 - 1)) currents

-- how many starts are at a period of an operator
abbrev pub refer_starts : List ((List ℕ × List ℕ) × StartingInfo) → List ℕ × ℕ → ℕ
refer_starts starts key = count_where (λ e. is_at (period_cmp key) (e.0.0, e.1.period)) starts

-- how many slash events are at a period of an operator
abbrev pub refer_events : List ((List ℕ × ℕ × ℕ) × ℕ) → List ℕ × ℕ → ℕ
refer_events events key = count_where (λ e. is_at (period_cmp key) (e.0.0, e.0.2)) events

-- how many refer to a period of an operator: one where it is the last ended, one for each start and
-- each slash event at it
abbrev pub references_at : SharedSeen → List ℕ × ℕ → ℕ
references_at s key =
    refer_currents s.currents key + (refer_starts s.starts key + refer_events s.events key)

-- the same, as they are added one after another
abbrev pub current_totals : List (List ℕ × ℕ) → List ((List ℕ × ℕ) × ℕ) → List ((List ℕ × ℕ) × ℕ)
current_totals currents counts = tallied period_cmp (λ e. (e.0, e.1 - 1)) (λ e. 1) currents counts

abbrev pub start_totals : List ((List ℕ × List ℕ) × StartingInfo) → List ((List ℕ × ℕ) × ℕ)
    → List ((List ℕ × ℕ) × ℕ)
start_totals starts counts = tallied period_cmp (λ e. (e.0.0, e.1.period)) (λ e. 1) starts counts

abbrev pub event_totals : List ((List ℕ × ℕ × ℕ) × ℕ) → List ((List ℕ × ℕ) × ℕ)
    → List ((List ℕ × ℕ) × ℕ)
event_totals events counts = tallied period_cmp (λ e. (e.0.0, e.0.2)) (λ e. 1) events counts

abbrev pub reference_totals : SharedSeen → List ((List ℕ × ℕ) × ℕ)
reference_totals s = event_totals s.events (start_totals s.starts (current_totals s.currents []))

-- a record has the number of references, which is neither 0 nor 10^38 or more
abbrev pub is_counted : ℕ → ℕ → Bool
is_counted count references = nat_lt 0 count && nat_lt count (10 ^ 38) && (references == count)

-- each record has the number of references to its period, by these numbers
abbrev pub have_counts : (List ℕ × ℕ → ℕ) → List ((List ℕ × ℕ) × Historical) → Bool
have_counts counts histories = list_all (λ h. is_counted h.1.count (counts h.0)) histories

-- the record of a period stands
abbrev pub is_recorded : List ((List ℕ × ℕ) × Historical) → List ℕ → ℕ → Bool
is_recorded histories operator period = is_some (at period_cmp histories (operator, period))

-- records stand exactly where something refers to their periods, with the number of references
abbrev pub are_counted : SharedSeen → Bool
are_counted s =
    have_counts (references_at s) s.histories
    && list_all (λ e. is_recorded s.histories e.0 (e.1 - 1)) s.currents
    && list_all (λ e. is_recorded s.histories e.0.0 e.1.period) s.starts
    && list_all (λ e. is_recorded s.histories e.0.0 e.0.2) s.events

-- an amount is at most what coins have of a denomination
abbrev pub is_within : List ℕ → ℕ → Money → Bool
is_within denom amount coins = nat_le amount (amount_of coins denom)

-- no coin of the one is above what the other has of it
abbrev pub is_at_most : Money → Money → Bool
is_at_most x y = list_all (λ c. is_within c.0 c.1 y) x

-- a record has no lower ratio than the one before it, if that is of the same operator
abbrev pub does_not_fall : Option ((List ℕ × ℕ) × Historical) → (List ℕ × ℕ) × Historical → Bool
does_not_fall None h = true
does_not_fall (Some last) h = not (same_addr last.0.0 h.0.0) || is_at_most last.1.ratio h.1.ratio

-- ratios don't fall as periods grow, behind the last record
abbrev pub do_ratios_grow : Option ((List ℕ × ℕ) × Historical) → List ((List ℕ × ℕ) × Historical)
    → Bool
do_ratios_grow last [] = true
do_ratios_grow last (h ∷ histories) = does_not_fall last h && do_ratios_grow (Some h) histories
