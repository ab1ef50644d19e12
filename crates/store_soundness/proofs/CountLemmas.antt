-- The numbers of references to periods, as they are added one after another.
use Rattle.std.proofs.Common.{◌≡◌, ◌∙◌, ℕ, ◌+◌, ◌-◌, ◌^◌, ◌≤◌, ◌<◌, Bool, true, false, cond, List, [], ◌∷◌, refl, sym, ap, subst, inl, inr, arith, zero-add, add_assoc, ◌⊎◌, ◌==◌, ◌&&◌, min, nat_lt}
use Rattle.std.{proofs.lemmas.Bool.{cases_lt, Decides.nat_tests}, specs.BTreeMap.is_at}
use Rattle.base_roles.specs.{declared.entities.{Historical.Historical, StartingInfo.StartingInfo}, Entries.number_at}
use Rattle.rule_modules.specs.Amounts.{count_where}
use Rattle.store_soundness.specs.Histories.{refer_currents, refer_starts, refer_events, references_at, current_totals, start_totals, event_totals, reference_totals, is_counted, have_counts}
use Rattle.store_soundness.{specs.Tally.{raised, tallied}, proofs.BackingLemmas.all_alike}
use Rattle.store_soundness.proofs.TallyLemmas.{min_again, sum_at, tallied_at, low_tallied, low_none, equal_below}
use Rattle.store_records.{specs.Plain.{SharedSeen, period_cmp}, proofs.OrderLemmas.period_total}

-- one more period that runs
pub current_step : (rest rest2 : List (List ℕ × ℕ)) (all : List ((List ℕ × ℕ) × ℕ)) (operator : List ℕ) (current n : ℕ) (counts counts2 : List ((List ℕ × ℕ) × ℕ))
    → current_totals rest counts ≡ all → rest ≡ (operator, current) ∷ rest2 → n ≡ current - 1 → counts2 ≡ raised period_cmp counts (operator, n) 1 → current_totals rest2 counts2 ≡ all
current_step rest rest2 all operator current n counts counts2 so is last new =
    ap (current_totals rest2) (new ∙ ap (λ (m : ℕ). raised period_cmp counts (operator, m) 1) last)
    ∙ sym (ap (λ (l : List (List ℕ × ℕ)). current_totals l counts) is) ∙ so

-- ones add up to a number
ones : {E : Type 0} (key : E → List ℕ × ℕ) (es : List E) (q : List ℕ × ℕ) → sum_at period_cmp period_total key (λ e. 1) es q ≡ count_where (λ e. is_at (period_cmp q) (key e)) es
ones key [] q = refl
ones key (e ∷ es) q = ap (λ n. cond (is_at (period_cmp q) (key e)) 1 0 + n) (ones key es q)

references_are : (s : SharedSeen) (q : List ℕ × ℕ) → number_at period_cmp (reference_totals s) q ≡ min (10 ^ 38) (references_at s q)
references_are s q =
    let c = refer_currents s.currents q in
    let t = refer_starts s.starts q in
    let e = refer_events s.events q in
    let low1 = low_tallied period_cmp period_total (λ (x : List ℕ × ℕ). (x.0, x.1 - 1)) (λ x. 1) s.currents [] (low_none period_cmp period_total) in
    let low2 = low_tallied period_cmp period_total (λ (x : (List ℕ × List ℕ) × StartingInfo). (x.0.0, x.1.period)) (λ x. 1) s.starts (current_totals s.currents []) low1 in
    let first : number_at period_cmp (current_totals s.currents []) q ≡ min (10 ^ 38) c
    = tallied_at period_cmp period_total (λ (x : List ℕ × ℕ). (x.0, x.1 - 1)) (λ x. 1) s.currents [] q (low_none period_cmp period_total)
    ∙ ap (min (10 ^ 38)) (zero-add (sum_at period_cmp period_total (λ (x : List ℕ × ℕ). (x.0, x.1 - 1)) (λ x. 1) s.currents q) ∙ ones (λ (x : List ℕ × ℕ). (x.0, x.1 - 1)) s.currents q) in
    let second : number_at period_cmp (start_totals s.starts (current_totals s.currents [])) q ≡ min (10 ^ 38) (c + t)
    = tallied_at period_cmp period_total (λ (x : (List ℕ × List ℕ) × StartingInfo). (x.0.0, x.1.period)) (λ x. 1) s.starts (current_totals s.currents []) q low1
    ∙ ap (λ n. min (10 ^ 38) (number_at period_cmp (current_totals s.currents []) q + n)) (ones (λ (x : (List ℕ × List ℕ) × StartingInfo). (x.0.0, x.1.period)) s.starts q)
    ∙ ap (λ n. min (10 ^ 38) (n + t)) first ∙ min_again (10 ^ 38) c t in
    tallied_at period_cmp period_total (λ (x : (List ℕ × ℕ × ℕ) × ℕ). (x.0.0, x.0.2)) (λ x. 1) s.events (start_totals s.starts (current_totals s.currents [])) q low2
    ∙ ap (λ n. min (10 ^ 38) (number_at period_cmp (start_totals s.starts (current_totals s.currents [])) q + n)) (ones (λ (x : (List ℕ × ℕ × ℕ) × ℕ). (x.0.0, x.0.2)) s.events q)
    ∙ ap (λ n. min (10 ^ 38) (n + e)) second ∙ min_again (10 ^ 38) (c + t) e ∙ ap (min (10 ^ 38)) (add_assoc c t e)

count_alike : (n x : ℕ) → is_counted n (min (10 ^ 38) x) ≡ is_counted n x
count_alike n x = by (cases_lt n (10 ^ 38))
  where
    by : (n < 10 ^ 38) ⊎ (10 ^ 38 ≤ n) → is_counted n (min (10 ^ 38) x) ≡ is_counted n x
    by (inl low) = ap (λ b. nat_lt 0 n && nat_lt n (10 ^ 38) && b) (equal_below n x low)
    by (inr high) =
        let over : (nat_lt 0 n && nat_lt n (10 ^ 38)) ≡ false = grind (arith, nat_tests) in
        ap (λ b. b && (min (10 ^ 38) x == n)) over ∙ sym (ap (λ b. b && (x == n)) over)

pub counted : (s : SharedSeen) (counts : List ((List ℕ × ℕ) × ℕ)) → counts ≡ reference_totals s → have_counts (number_at period_cmp counts) s.histories ≡ have_counts (references_at s) s.histories
counted s counts is =
    ap (λ (t : List ((List ℕ × ℕ) × ℕ)). have_counts (number_at period_cmp t) s.histories) is
    ∙ all_alike (λ (h : (List ℕ × ℕ) × Historical). is_counted h.1.count (number_at period_cmp (reference_totals s) h.0)) (λ h. is_counted h.1.count (references_at s h.0))
    (λ h. ap (is_counted h.1.count) (references_are s h.0) ∙ count_alike h.1.count (references_at s h.0)) s.histories
