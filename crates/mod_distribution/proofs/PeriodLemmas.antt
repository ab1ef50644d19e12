-- The end of a period, the start of a delegation's rewards and a slash, as the calls of periods and purses leave them.
use Rattle.std.proofs.Common.{◌≡◌, ◌≢◌, ◌∙◌, ℕ, ◌+◌, ◌*◌, ◌^◌, ◌≤◌, ◌==◌, Bool, true, false, cond, List, [], ◌∷◌, ◌++◌, append-nil, Some, Ok, Err, refl, sym, ap, subst, arith, ◌-◌, if◌then◌else◌, All, is_some, option_map, unwrap_or, Result, OnOk, OnErr, IfOk, IfErr}
use Rattle.std.{specs.{Prelude.⊤, List.AllByRecursion}, proofs.lemmas.Bool.Decides.nat_tests}
use Rattle.std.proofs.lemmas.List.Elements.{All-from_recursion}
use Rattle.base_decimals.specs.{Decimals.period_over, declared.over.Over.Over}
use Rattle.base_types.specs.Orders.{addr_cmp}
use Rattle.base_coins.specs.Coins.{Money, coins_added, coins_quo_cut}
use Rattle.base_roles.specs.declared.{entities.{SlashEvent.SlashEvent, Validator.Validator}, facts.Fact.Fact}
use Rattle.base_roles.specs.{declared.faults.HookFault.HookFault, Answers.Answers, Items.no_purse, Entries.at}
use Rattle.base_roles.specs.{Flow.{◌>>=◌, ◌>>◌, stop_if}, Log.Log, World.{View, noted}}
use Rattle.base_roles.specs.declared.calls.Hook.TheVariants.{Created as created, Removed as removed}
use Rattle.base_roles.specs.declared.facts.Fact.TheVariants as fact
use Rattle.base_roles.specs.declared.faults.HookFault.TheVariants as hook
use Rattle.base_roles.specs.Log as log
use Rattle.law_soundness.proofs.{Periods.some_unwrap, Rewards.put_found}
use Rattle.base_records.proofs.KindLemmas.{is_ok, on_ok}
use Rattle.rule_modules.specs.Amounts.{count_where, is_empty, over_facts}
use Rattle.rule_modules.specs.Distribution.{Shared, current_taken, distribution_told, ended, paid_to, payee_of, records_made, records_removed, slash_recorded, told_of, unlogged}
use Rattle.rule_modules.specs.Periods.{Periods, Rewards, event_recorded, initial_records, last_ended, period_ended, periods_of, ratio_at, references_of, starts_of, with_periods, without_periods}
use Rattle.rule_modules.specs.Purses.{Purses, closed, purse_of, current_emptied, current_pooled, pooled_told, with_purse}
use Rattle.mod_allocation.proofs.{AnswerLemmas.excess_then, RuleLemmas.{same_ok, err_or_ok, step_parts}}
use Rattle.mod_allocation.specs.Calls.{current_out}
use Rattle.mod_sums.specs.Faults.{IsExcessOf}
use Rattle.mod_periods.specs.{Answers.Ends, Kept.{current_of, events_of}, Scenes.HasPeriods}
use Rattle.mod_periods.specs.{Stands.{KeepsRewards, AreSound}, Steps.running}
use Rattle.mod_periods.specs.Kept as f1
use Rattle.mod_distribution.specs.{Calls.{CarriesOut, commission_told}, Kept.{KeptShared, payee_in}, Stands.KeepsShared}
use Rattle.mod_distribution.proofs.ReadyLemmas.{some_mapped}
use Rattle.mod_distribution.proofs.CarryLemmas.{Ruled, answers_given, carried_from, exceeds_as}

-- ---- an ended period, by its parts

pub ended_parts : (increment : Money) (p : Periods) (y : Money × Periods) → period_ended increment p ≡ Ok y → (y.1.current ≡ p.current + 1) × (y.1.events ≡ p.events)
ended_parts increment p y e = by (coins_added (ratio_at p.ratios (p.current - 1)) increment) (p.current == 10 ^ 18) e
  where
    next : Money → Money × Periods
    next ratio = (ratio, record { current = p.current + 1; ratios = (p.current, ratio) ∷ p.ratios; events = p.events })

    by : (r : Result Money Over) (b : Bool) → (r >>= λ ratio. stop_if b period_over >> Ok (next ratio)) ≡ Ok y → (y.1.current ≡ p.current + 1) × (y.1.events ≡ p.events)
    by (Ok ratio) false h = let same = same_ok (next ratio) y h in (ap (λ z. z.1.current) (sym same), ap (λ z. z.1.events) (sym same))
    by (Ok ratio) true h = err_or_ok y period_over h
    by (Err over) b h = err_or_ok y over h

-- the periods that were put are an operator's
pub periods_put_found : (operator : List ℕ) (q : Periods) (r : Rewards) → periods_of (with_periods operator q r) operator ≡ q
periods_put_found operator q r = ap (λ o. unwrap_or o initial_records) (put_found r.periods operator q)

-- none of the events is at a period where none is counted
none_counted : (n : ℕ) (es : List SlashEvent) → count_where (λ e. e.period == n) es ≡ 0 → AllByRecursion (λ e. e.period ≢ n) es
none_counted n [] h = tt
none_counted n (e ∷ es) h = by (e.period == n) refl h (λ c. none_counted n es c)
  where
    by : (b : Bool) → (e.period == n) ≡ b → cond b 1 0 + count_where (λ x. x.period == n) es ≡ 0 → (count_where (λ x. x.period == n) es ≡ 0 → AllByRecursion (λ x. x.period ≢ n) es) → AllByRecursion (λ x. x.period ≢ n) (e ∷ es)
    by true t c rest = absurd (omega (arith, c))
    by false t c rest = ((λ same. apart e.period same t), rest (omega (arith, c)))
      where
        apart : (a : ℕ) → a ≡ n → (a == n) ≡ false → ⊥
        apart a same t = grind (arith, nat_tests)

-- ---- what the end of a period left, where it succeeded

-- the plain records that those stand for which are kept, and what the period's end made of them
pub record HasEnded (operator : List ℕ) (k k2 : f1.Kept) (increment : Money) (facts facts2 : List Fact) (n : ℕ) (r : Rewards) : Type 0 where
  pub due : Money × Periods
  pub rule : period_ended increment (periods_of r operator) ≡ Ok due
  pub period : n ≡ last_ended due.1
  pub keeps : KeepsRewards k2 (with_periods operator due.1 r)
  pub told : facts2 ≡ facts ++ fact.Period operator n due.0 ∷ []

module _ (operator : List ℕ) (k k2 : f1.Kept) (increment : Money) (facts facts2 : List Fact) (n : ℕ) where
  pub has_ended : (r : Rewards) → Ends operator r facts (period_ended increment (periods_of r operator)) k2 facts2 (Ok n) → HasEnded operator k k2 increment facts facts2 n r
  has_ended r h = by (period_ended increment (periods_of r operator)) refl h
    where
      by : (p : Result (Money × Periods) Over) → period_ended increment (periods_of r operator) ≡ p → Ends operator r facts p k2 facts2 (Ok n) → HasEnded operator k k2 increment facts facts2 n r
      by (Ok y) e g = record { due = y; rule = e; period = g.0; keeps = g.1; told = g.2 }
      by (Err over) e g = absurd g

  module _ (r : Rewards) (h : KeepsRewards k r) (e : HasEnded operator k k2 increment facts facts2 n r) where
    now : current_of k2 operator ≡ Some e.due.1.current
    now = e.keeps.current operator ∙ ap (λ o. option_map (λ (p : Periods). p.current) o) (put_found r.periods operator e.due.1)

    pub periods_still : HasPeriods k2 operator
    periods_still = record { kept = (with_periods operator e.due.1 r, e.keeps); initialised = ap is_some now }

    pub last_is : n + 1 ≡ running k2 operator
    last_is = counts _ _ _ _ e.period (ended_parts increment (periods_of r operator) e.due e.rule).0 (ap (λ o. unwrap_or o 0) now)
      where
        counts : (n q c run : ℕ) → n ≡ q - 1 → q ≡ c + 1 → run ≡ q → n + 1 ≡ run
        counts n q c run a b d = omega (arith, a, b, d)

    pub starts_still : k2.starts ≡ k.starts
    starts_still = e.keeps.starts ∙ sym h.starts

    pub events_still : events_of k2 operator ≡ events_of k operator
    events_still =
        e.keeps.events operator ∙ ap (λ (p : Periods). p.events) (periods_put_found operator e.due.1 r)
        ∙ (ended_parts increment (periods_of r operator) e.due e.rule).1 ∙ sym (h.events operator)

    -- no slash is recorded at the period that ended
    pub free_still : is_some (at addr_cmp r.periods operator) ≡ true → All (λ x. x.period ≢ n) (events_of k2 operator)
    free_still there =
        let p = periods_of r operator in
        let found : at addr_cmp r.periods operator ≡ Some p = some_unwrap (at addr_cmp r.periods operator) initial_records there in
        let sound : AreSound p (starts_of r operator) = h.sound.periods operator p found in
        let is : n ≡ p.current = ended_at _ _ _ e.period (ended_parts increment p e.due e.rule).0 in
        let none : references_of p (starts_of r operator) n ≡ 0 = sound.ended n (not_below _ _ is) in
        subst (All (λ (x : SlashEvent). x.period ≢ n)) (sym (events_still ∙ h.events operator))
        (All-from_recursion (λ (x : SlashEvent). x.period ≢ n) p.events (none_counted n p.events (no_event _ _ _ none)))
      where
        ended_at : (n q c : ℕ) → n ≡ q - 1 → q ≡ c + 1 → n ≡ c
        ended_at n q c a b = omega (arith, a, b)

        not_below : (n c : ℕ) → n ≡ c → c ≤ n
        not_below n c e = omega (arith, e)

        no_event : (a b c : ℕ) → a + (b + c) ≡ 0 → c ≡ 0
        no_event a b c e = omega (arith, e)

-- ---- the same of an answer

-- where it is Ok
pub if_on : {A E : Type 0} {Q : A → Type 0} {P : Type 0} (r : Result A E) → ((a : A) → Q a → P) → IfOk r Q → OnOk r P
if_on (Ok a) f h = f a h
if_on (Err e) f h = tt

module _ (operator : List ℕ) (k k2 : f1.Kept) (increment : Money) (facts facts2 : List Fact) (result : Result ℕ HookFault) (r : Rewards) where
  pub if_ended : Ends operator r facts (period_ended increment (periods_of r operator)) k2 facts2 result → IfOk result (λ n. HasEnded operator k k2 increment facts facts2 n r)
  if_ended h = by result h
    where
      by : (result : Result ℕ HookFault) → Ends operator r facts (period_ended increment (periods_of r operator)) k2 facts2 result → IfOk result (λ n. HasEnded operator k k2 increment facts facts2 n r)
      by (Ok n) h = has_ended operator k k2 increment facts facts2 n r h
      by (Err fault) h = tt

-- the facts behind the end of a period
pub ended_facts : (operator : List ℕ) (k k2 : f1.Kept) (increment : Money) (facts facts2 : List Fact) (result : Result ℕ HookFault) (r : Rewards) → IfOk result (λ n. HasEnded operator k k2 increment facts facts2 n r) → OnErr result (facts2 ≡ facts)
    → (more : List Fact) × (facts2 ≡ facts ++ more)
ended_facts operator k k2 increment facts facts2 (Ok n) r e f = (fact.Period operator n e.due.0 ∷ [], e.told)
ended_facts operator k k2 increment facts facts2 (Err fault) r e f = ([], f ∙ sym (append-nil facts))

-- an operator of which a period runs has periods
pub has_own : (operator : List ℕ) (k : f1.Kept) (r : Rewards) → KeepsRewards k r → is_some (current_of k operator) ≡ true → is_some (at addr_cmp r.periods operator) ≡ true
has_own operator k r h e = sym (some_mapped (λ (p : Periods). p.current) (at addr_cmp r.periods operator)) ∙ sym (ap is_some (h.current operator)) ∙ e

-- ---- the rule of it

-- what follows once the current rewards are taken
abbrev pub end_rest : Validator → Shared → View → Money × Money × Purses → Ruled ℕ
end_rest val d v x = period_ended x.0 (periods_of d.rewards val.operator) >>= λ y.
    Ok (
      last_ended y.1,
      record d { rewards = with_periods val.operator y.1 d.rewards; purses = x.2 },
      noted (fact.Period val.operator (last_ended y.1) y.0) (over_facts (pooled_told x.1) v),
      (val.operator, log.ended (last_ended y.1) x.0 val.tokens) ∷ [],
    )

module _ (val : Validator) (k : KeptShared) (d : Shared) (v : View) (h : KeepsShared k d) where
  -- an excess of the current rewards is one of the whole
  pub ended_untaken : (k2 : KeptShared) (v2 : View) (fault : HookFault) → IsExcessOf (current_taken val k.purses) fault → CarriesOut (ended val d v) k2 v2 (Err fault)
  ended_untaken k2 v2 fault e = exceeds_as k2 v2 (ended val d v) fault
      (excess_then (current_taken val d.purses) (end_rest val d v) fault (subst (λ p. IsExcessOf (current_taken val p) fault) h.purses e))

  module _ (k2 : KeptShared) (v2 : View) (increment lost : Money) (taken : current_taken val k.purses ≡ Ok (increment, lost, k2.purses)) (payees : k2.withdraw ≡ k.withdraw) (bank : v2.bank ≡ v.bank) (ctx : v2.ctx ≡ v.ctx) where
    started_from : ended val d v ≡ end_rest val d v (increment, lost, k2.purses)
    started_from = ap (λ r. r >>= end_rest val d v) (ap (λ p. current_taken val p) (sym h.purses) ∙ taken)

    pub ended_carried : (facts : List Fact) (result : Result ℕ HookFault) → facts ≡ pooled_told lost v.facts → Ends val.operator d.rewards facts (period_ended increment (periods_of d.rewards val.operator)) k2.rewards v2.facts result
        → CarriesOut (ended val d v) k2 v2 result
    ended_carried facts result f ends = subst (λ r. CarriesOut r k2 v2 result) (sym started_from) (by (period_ended increment (periods_of d.rewards val.operator)) result ends)
      where
        by : (p : Result (Money × Periods) Over) (result : Result ℕ HookFault) → Ends val.operator d.rewards facts p k2.rewards v2.facts result
            → CarriesOut (p >>= λ y. Ok (
              last_ended y.1,
              record d { rewards = with_periods val.operator y.1 d.rewards; purses = k2.purses },
              noted (fact.Period val.operator (last_ended y.1) y.0) (over_facts (pooled_told lost) v),
              (val.operator, log.ended (last_ended y.1) increment val.tokens) ∷ [],
            )) k2 v2 result
        by (Ok y) (Ok n) g = (
          g.0,
          record { rewards = g.1; purses = refl; withdraw = payees ∙ h.withdraw },
          λ i. record { bank = bank i; ctx = ctx i; facts = (g.2 ∙ (λ j. f j ++ fact.Period val.operator (g.0 j) y.0 ∷ [])) i },
        )
        by (Ok y) (Err fault) g = g
        by (Err over) (Ok n) g = g
        by (Err over) (Err fault) g = g

-- ---- the current rewards are taken

-- the test for no tokens
pub is_zero : (n : ℕ) → n ≡ 0 → (n == 0) ≡ true
is_zero n e = grind (arith, nat_tests)

pub not_zero : (n : ℕ) → (n ≡ 0 → ⊥) → (n == 0) ≡ false
not_zero n h = grind (arith, nat_tests)

module _ (val : Validator) (p p2 : Purses) (coins : Money) (facts facts2 : List Fact) where
  -- for the pool, where there are no tokens
  pub taken_pooled : (val.tokens == 0) ≡ true → current_out true val.operator p facts ≡ Ok (coins, p2, facts2) → (lost : Money) × ((current_taken val p ≡ Ok ([], lost, p2)) × (facts2 ≡ pooled_told lost facts))
  taken_pooled none e =
      let (z, pooled, last) = step_parts (current_pooled val.operator p) (λ z. Ok ((purse_of p val.operator).current, z.1, pooled_told z.0 facts)) (coins, p2, facts2) e in
      let same = same_ok ((purse_of p val.operator).current, z.1, pooled_told z.0 facts) (coins, p2, facts2) last in (
        z.0,
        (
          ap (λ b. taken_by b) none ∙ ap (λ r. r >>= λ y. Ok ([], y.0, y.1)) pooled ∙ ap (λ q. Ok ([], z.0, q)) (ap (λ t. t.1) same),
          sym (ap (λ t. t.2) same),
        ),
      )
    where
      taken_by : Bool → Result (Money × Money × Purses) Over
      taken_by b = if b then (current_pooled val.operator p >>= λ y. Ok ([], y.0, y.1))
          else (coins_quo_cut (purse_of p val.operator).current (val.tokens * 10 ^ 18) >>= λ i. Ok (i, [], current_emptied val.operator p))

  -- for the ratio
  module _ (some : (val.tokens == 0) ≡ false) (e : current_out false val.operator p facts ≡ Ok (coins, p2, facts2)) where
    out : Path (Money × Purses × List Fact) ((purse_of p val.operator).current, current_emptied val.operator p, facts) (coins, p2, facts2)
    out = same_ok ((purse_of p val.operator).current, current_emptied val.operator p, facts) (coins, p2, facts2) e

    rule : current_taken val p ≡ (coins_quo_cut (purse_of p val.operator).current (val.tokens * 10 ^ 18) >>= λ i. Ok (i, [], current_emptied val.operator p))
    rule = ap (λ b. if b then (current_pooled val.operator p >>= λ y. Ok ([], y.0, y.1)) else (coins_quo_cut (purse_of p val.operator).current (val.tokens * 10 ^ 18) >>= λ i. Ok (i, [], current_emptied val.operator p))) some

    pub taken_shared : (increment : Money) → coins_quo_cut coins (val.tokens * 10 ^ 18) ≡ Ok increment → current_taken val p ≡ Ok (increment, [], p2)
    taken_shared increment q =
        rule ∙ ap (λ r. r >>= λ i. Ok (i, [], current_emptied val.operator p)) (ap (λ c. coins_quo_cut c (val.tokens * 10 ^ 18)) (ap (λ t. t.0) out) ∙ q)
        ∙ ap (λ x. Ok (increment, [], x)) (ap (λ t. t.1) out)

    pub taken_over : (fault : HookFault) → IsExcessOf (coins_quo_cut coins (val.tokens * 10 ^ 18)) fault → IsExcessOf (current_taken val p) fault
    taken_over fault h = subst (λ r. IsExcessOf r fault) (sym rule)
        (excess_then (coins_quo_cut (purse_of p val.operator).current (val.tokens * 10 ^ 18)) (λ i. Ok (i, [], current_emptied val.operator p)) fault
        (subst (λ c. IsExcessOf (coins_quo_cut c (val.tokens * 10 ^ 18)) fault) (sym (ap (λ t. t.0) out)) h))

    pub untold : facts2 ≡ facts
    untold = sym (ap (λ t. t.2) out)

-- ---- a slash is recorded

module _ (val : Validator) (fraction : ℕ) (d : Shared) (v : View) where
  abbrev slash_rest : ℕ × Shared × View × Log → Result (Shared × View × Log) Over
  slash_rest x = Ok (record x.1 { rewards = with_periods val.operator (event_recorded x.2.ctx.height fraction (periods_of x.1.rewards val.operator)) x.1.rewards }, x.2, x.3)

  -- the period does not end
  pub slash_unended : (k k2 : KeptShared) (v1 v2 : View) (fault : HookFault) → CarriesOut (ended val d v) k v1 (Err fault) → Answers (told_of (slash_recorded val fraction d v)) (KeepsShared k2) v2 (Err fault)
  slash_unended k k2 v1 v2 fault h = by (ended val d v) fault h
    where
      by : (r : Ruled ℕ) (fault : HookFault) → CarriesOut r k v1 (Err fault) → Answers (told_of (r >>= slash_rest)) (KeepsShared k2) v2 (Err fault)
      by (Ok x) fault h = h
      by (Err over) fault h = h

  -- it ends, and the slash is recorded at it
  pub slash_told : (k k2 : KeptShared) (u u2 : View) (period : ℕ) (result : Result ⊤ HookFault) → CarriesOut (ended val d v) k u (Ok period)
      → ((r : Rewards) → KeepsRewards k.rewards r → OnOk result (KeepsRewards k2.rewards (with_periods val.operator (event_recorded u.ctx.height fraction (periods_of r val.operator)) r)))
      → k2.purses ≡ k.purses → k2.withdraw ≡ k.withdraw → u2 ≡ u → IfErr result (λ fault. fault ≡ hook.NoMemory) → Answers (told_of (slash_recorded val fraction d v)) (KeepsShared k2) u2 result
  slash_told k k2 u u2 period result h recorded purses payees same fault =
      let (x, parts) = carried_from k u (ended val d v) period h in
      let (e, is, keeps, view) = parts in
      subst (λ (r : Ruled ℕ). Answers (told_of (r >>= slash_rest)) (KeepsShared k2) u2 result) (sym e)
      (answers_given k2 _ x.2 u2 x.3 result
      (on_ok result (λ rewards. record { rewards = rewards; purses = purses ∙ keeps.purses; withdraw = payees ∙ keeps.withdraw })
      (subst (λ w. OnOk result (KeepsRewards k2.rewards (with_periods val.operator (event_recorded w.ctx.height fraction (periods_of x.1.rewards val.operator)) x.1.rewards))) view (recorded x.1.rewards keeps.rewards)))
      (is_ok result (same ∙ view)) fault)

-- ---- a validator's records are made, and go

pub made_told : (val : Validator) (k k2 : KeptShared) (d : Shared) (u : View) (result : Result ⊤ HookFault) → KeepsShared k d → KeepsRewards k2.rewards (with_periods val.operator initial_records d.rewards) → k2.withdraw ≡ k.withdraw
    → OnOk result (k2.purses ≡ with_purse val.operator no_purse k.purses) → IfErr result (λ fault. fault ≡ hook.NoMemory) → Answers (distribution_told d (created val) u) (KeepsShared k2) u result
made_told val k k2 d u result h rewards payees purses fault =
    answers_given k2 (records_made val d) u u ((val.operator, log.made) ∷ []) result
    (on_ok result (λ p. record { rewards = rewards; purses = p ∙ ap (with_purse val.operator no_purse) h.purses; withdraw = payees ∙ h.withdraw }) purses)
    (is_ok result refl) fault

module _ (val : Validator) (k k2 : KeptShared) (d : Shared) (v v1 v2 : View) (h : KeepsShared k d) (to : List ℕ) (coins rest : Money) where
  -- what is told of a removed validator
  pub removed_told : (result : Result ⊤ HookFault) → closed val.operator k.purses ≡ Ok (coins, rest, k2.purses) → to ≡ payee_in k.withdraw val.operator → KeepsRewards k2.rewards (without_periods val.operator d.rewards) → k2.withdraw ≡ k.withdraw
      → v1 ≡ paid_to to coins v → OnOk result (v2 ≡ record v1 { facts = pooled_told rest (commission_told val.operator to coins v1.facts) }) → IfErr result (λ fault. fault ≡ hook.NoMemory)
      → Answers (distribution_told d (removed val) v) (KeepsShared k2) v2 result
  removed_told result e payee rewards payees paid view fault =
      subst (λ (r : Result (Shared × View) Over). Answers (told_of (unlogged r)) (KeepsShared k2) v2 result) (sym rule)
      (answers_given k2 _ _ v2 [] result
      (is_ok result (record { rewards = rewards; purses = refl; withdraw = payees ∙ h.withdraw }))
      (on_ok result (λ w. w ∙ (λ i. record (told i) { facts = pooled_told rest (commission_told val.operator (is i) coins (told i).facts) }) ∙ as_told (is_empty coins) (paid_to (payee_of d val.operator) coins v)) view) fault)
    where
      is : to ≡ payee_of d val.operator
      is = payee ∙ ap (λ w. payee_in w val.operator) h.withdraw

      told : v1 ≡ paid_to (payee_of d val.operator) coins v
      told = paid ∙ ap (λ t. paid_to t coins v) is

      as_told : (b : Bool) (w : View) → record w { facts = pooled_told rest (if b then w.facts else w.facts ++ fact.Commission val.operator (payee_of d val.operator) coins ∷ []) }
          ≡ over_facts (pooled_told rest) (if b then w else noted (fact.Commission val.operator (payee_of d val.operator) coins) w)
      as_told true w = refl
      as_told false w = refl

      leave : Money × Money × Purses → Result (Shared × View) Over
      leave z = Ok (
        record d { rewards = without_periods val.operator d.rewards; purses = z.2 },
        over_facts (pooled_told z.1) (if is_empty z.0 then paid_to (payee_of d val.operator) z.0 v else noted (fact.Commission val.operator (payee_of d val.operator) z.0) (paid_to (payee_of d val.operator) z.0 v)),
      )

      rule : records_removed val d v ≡ leave (coins, rest, k2.purses)
      rule = ap (λ r. r >>= leave) (ap (λ p. closed val.operator p) (sym h.purses) ∙ e)
