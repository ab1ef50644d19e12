-- The ratio that a period ends with, by what is kept and by the rule.
use Rattle.std.proofs.Common.{◌≡◌, ◌≢◌, ℕ, ◌+◌, ◌-◌, ◌^◌, ◌≤◌, ◌==◌, Bool, true, false, List, [], ◌∷◌, ◌++◌, Some, is_some, Result, Ok, Err, refl, sym, ◌∙◌, ap, subst, arith}
use Rattle.std.{specs.{List.Sorted.IsStrictlySortedBy, Map.keys_of}, proofs.lemmas.Bool.Decides.nat_tests}
use Rattle.base_decimals.specs.{declared.over.Over.Over, Decimals.period_over}
use Rattle.base_types.specs.Orders.{addr_cmp}
use Rattle.base_coins.{specs.Coins.{Money, IsMoney, coins_added}, proofs.{Order.rises_from_money, Amounts.amount-added}}
use Rattle.base_coins.proofs.Results.{sum_is_money}
use Rattle.base_roles.specs.{declared.{facts.Fact.{Fact, TheVariants.Period}, faults.HookFault.HookFault}, Entries.at}
use Rattle.base_roles.specs.Flow.{◌>>=◌, ◌>>◌, stop_if}
use Rattle.base_roles.specs.declared.faults.HookFault.TheVariants as hook
use Rattle.mod_sums.specs.Faults.{IsExcessOf}
use Rattle.mod_periods.specs.{Answers.Ends, Kept.{Kept, period_cmp, current_of, record_of}}
use Rattle.mod_periods.specs.Stands.{AreSound, KeepsRewards, IsKept}
use Rattle.mod_periods.{specs.Steps.{running, ratio_in, next_ratio, ended_kept}, proofs.RecordLemmas.counted-some}
use Rattle.mod_periods.proofs.FoundLemmas.{periods-there, periods-is, running-is, record-is, sound-is, last-referred}
use Rattle.mod_periods.proofs.EndLemmas.{ended_with, IsGrown, end-stands}
use Rattle.rule_modules.specs.Periods.{Periods, Rewards, periods_of, starts_of, ratio_at, period_ended, references_of}

-- a ratio unless the period is at its limit
abbrev limited : Bool → Result Money Over → Result Money Over
limited b x = x >>= λ ratio. stop_if b period_over >> Ok ratio

-- the same with the periods that it leaves
abbrev limited_with : Bool → Periods → Result Money Over → Result (Money × Periods) Over
limited_with b p x = x >>= λ ratio. stop_if b period_over >> Ok (ratio, ended_with p ratio)

record IsEnded (b : Bool) (p : Periods) (x : Result Money Over) (ratio : Money) : Type 0 where
  sum : x ≡ Ok ratio
  below : b ≡ false
  with_periods : limited_with b p x ≡ Ok (ratio, ended_with p ratio)

limited-ok : (b : Bool) (p : Periods) (x : Result Money Over) (ratio : Money) → limited b x ≡ Ok ratio → IsEnded b p x ratio
limited-ok true p (Ok m) ratio h = cc
limited-ok false p (Ok m) ratio h = record { sum = h; below = refl; with_periods = ap (λ y. limited_with false p y) h }
limited-ok b p (Err over) ratio h = cc

limited-err : (b : Bool) (p : Periods) (x : Result Money Over) (over : Over) → limited b x ≡ Err over → limited_with b p x ≡ Err over
limited-err true p (Ok m) over h = ap (λ e. stopped e) h
  where
    stopped : Result Money Over → Result (Money × Periods) Over
    stopped (Ok m) = Err period_over
    stopped (Err e) = Err e
limited-err false p (Ok m) over h = cc
limited-err b p (Err e) over h = ap (λ x. stopped x) h
  where
    stopped : Result Money Over → Result (Money × Periods) Over
    stopped (Ok m) = Err e
    stopped (Err d) = Err d

test_is : (a b : ℕ) → (a == b) ≡ false → a ≢ b
test_is a b h e = grind (arith, nat_tests)

module _ (k : Kept) (r : Rewards) (o : List ℕ) (p : Periods) (h : KeepsRewards k r) (is : at addr_cmp r.periods o ≡ Some p) where
  old : AreSound p (starts_of r o)
  old = sound-is k r o p h is

  some : references_of p (starts_of r o) (p.current - 1) ≢ 0
  some z =
      let last : p.current - 1 + 1 ≡ p.current = omega (arith, old.running) in
      let one : 1 ≤ references_of p (starts_of r o) (p.current - 1) = last-referred p (starts_of r o) (p.current - 1) last in
      omega (arith, z, one)

  -- the record of the last ended period
  pub last-record : record_of k o (running k o - 1) ≡ Some (record { ratio = ratio_at p.ratios (p.current - 1); count = references_of p (starts_of r o) (p.current - 1) })
  last-record =
      ap (λ c. record_of k o (c - 1)) (running-is k r o p h is) ∙ record-is k r o p h is (p.current - 1)
      ∙ counted-some (ratio_at p.ratios (p.current - 1)) (references_of p (starts_of r o) (p.current - 1)) some

  next-is : (increment : Money) → next_ratio increment o k ≡ limited (p.current == 10 ^ 18) (coins_added (ratio_at p.ratios (p.current - 1)) increment)
  next-is increment = λ i. limited (running-is k r o p h is i == 10 ^ 18) (coins_added (ratio_in (last-record i)) increment)

  pub next-grown : (increment ratio : Money) → IsMoney increment → next_ratio increment o k ≡ Ok ratio → IsGrown p ratio
  next-grown increment ratio coins next =
      let e : IsEnded (p.current == 10 ^ 18) p (coins_added (ratio_at p.ratios (p.current - 1)) increment) ratio = limited-ok (p.current == 10 ^ 18) p _ ratio (sym (next-is increment) ∙ next) in
      record {
        coins = sum_is_money (ratio_at p.ratios (p.current - 1)) increment ratio (old.coins (p.current - 1)) coins e.sum;
        more = λ denom. omega (arith, amount-added (ratio_at p.ratios (p.current - 1)) increment ratio denom (rises_from_money _ (old.coins (p.current - 1))) (rises_from_money increment coins) e.sum);
      }

  pub next-ended : (increment ratio : Money) → next_ratio increment o k ≡ Ok ratio → period_ended increment (periods_of r o) ≡ Ok (ratio, ended_with p ratio)
  next-ended increment ratio next =
      let e : IsEnded (p.current == 10 ^ 18) p (coins_added (ratio_at p.ratios (p.current - 1)) increment) ratio = limited-ok (p.current == 10 ^ 18) p _ ratio (sym (next-is increment) ∙ next) in
      ap (period_ended increment) (periods-is k r o p h is) ∙ e.with_periods

  below-limit : (increment ratio : Money) → next_ratio increment o k ≡ Ok ratio → p.current ≢ 10 ^ 18
  below-limit increment ratio next =
      let e : IsEnded (p.current == 10 ^ 18) p (coins_added (ratio_at p.ratios (p.current - 1)) increment) ratio = limited-ok (p.current == 10 ^ 18) p _ ratio (sym (next-is increment) ∙ next) in
      test_is p.current (10 ^ 18) e.below

  ended-ok : IsStrictlySortedBy period_cmp (keys_of k.historical) → (increment ratio : Money) (facts : List Fact) → IsMoney increment → next_ratio increment o k ≡ Ok ratio
      → Ends o r facts (period_ended increment (periods_of r o)) (ended_kept ratio o k) (facts ++ Period o p.current ratio ∷ []) (Ok p.current)
  ended-ok sorted increment ratio facts coins next =
      subst (λ due. Ends o r facts due (ended_kept ratio o k) (facts ++ Period o p.current ratio ∷ []) (Ok p.current)) (sym (next-ended increment ratio next))
      (omega (arith), end-stands k r o p h is sorted ratio (below-limit increment ratio next) (next-grown increment ratio coins next), refl)

  pub ended-err : (increment : Money) (over : Over) → next_ratio increment o k ≡ Err over → period_ended increment (periods_of r o) ≡ Err over
  ended-err increment over next = ap (period_ended increment) (periods-is k r o p h is) ∙ limited-err (p.current == 10 ^ 18) p _ over (sym (next-is increment) ∙ next)

-- ---- for the calls

-- the last ended period has a record
pub last-stands : (k : Kept) (o : List ℕ) → IsKept k → is_some (current_of k o) ≡ true → is_some (record_of k o (running k o - 1)) ≡ true
last-stands k o kept is =
    let there = periods-there k kept.0 o kept.1 is in
    ap is_some (last-record k kept.0 o there.0 kept.1 there.1)

pub running-above : (k : Kept) (o : List ℕ) → IsKept k → is_some (current_of k o) ≡ true → 1 ≤ running k o
running-above k o kept is =
    let there = periods-there k kept.0 o kept.1 is in
    let sound : AreSound there.0 (starts_of kept.0 o) = sound-is k kept.0 o there.0 kept.1 there.1 in
    let e : running k o ≡ there.0.current = running-is k kept.0 o there.0 kept.1 there.1 in
    omega (arith, e, sound.running)

pub end-answers : (k k2 : Kept) (r : Rewards) (o : List ℕ) (increment ratio : Money) (facts facts2 : List Fact) (period : ℕ)
    → KeepsRewards k r → is_some (current_of k o) ≡ true → IsStrictlySortedBy period_cmp (keys_of k.historical) → IsMoney increment → next_ratio increment o k ≡ Ok ratio
    → period ≡ running k o → k2 ≡ ended_kept ratio o k → facts2 ≡ facts ++ Period o period ratio ∷ []
    → Ends o r facts (period_ended increment (periods_of r o)) k2 facts2 (Ok period)
end-answers k k2 r o increment ratio facts facts2 period h is sorted coins next at_period left told =
    let there = periods-there k r o h is in
    let p : Periods = there.0 in
    let running : period ≡ p.current = at_period ∙ running-is k r o p h there.1 in
    let due = ended-ok k r o p h there.1 sorted increment ratio facts coins next in
    subst (λ n. facts2 ≡ facts ++ Period o n ratio ∷ [] → Ends o r facts (period_ended increment (periods_of r o)) k2 facts2 (Ok n)) (sym running)
    (λ t. subst (λ x. Ends o r facts (period_ended increment (periods_of r o)) x facts2 (Ok p.current)) (sym left)
    (subst (λ f. Ends o r facts (period_ended increment (periods_of r o)) (ended_kept ratio o k) f (Ok p.current)) (sym t) due)) told

pub end-faults : (k k2 : Kept) (r : Rewards) (o : List ℕ) (increment : Money) (facts facts2 : List Fact) (fault : HookFault)
    → KeepsRewards k r → is_some (current_of k o) ≡ true → IsExcessOf (next_ratio increment o k) fault
    → Ends o r facts (period_ended increment (periods_of r o)) k2 facts2 (Err fault)
end-faults k k2 r o increment facts facts2 (hook.Over over) h is excess =
    let there = periods-there k r o h is in
    subst (λ due. Ends o r facts due k2 facts2 (Err (hook.Over over))) (sym (ended-err k r o there.0 h there.1 increment over excess)) refl
end-faults k k2 r o increment facts facts2 hook.NoMemory h is excess = by (period_ended increment (periods_of r o))
  where
    by : (due : Result (Money × Periods) Over) → Ends o r facts due k2 facts2 (Err hook.NoMemory)
    by (Ok due) = tt
    by (Err over) = tt
