-- What is known of an operator whose records stand for plain ones.
use Rattle.std.proofs.Common.{◌≡◌, ℕ, ◌+◌, ◌<◌, ◌≤◌, ◌==◌, ◌&&◌, Bool, true, false, cond, List, [], ◌∷◌, filter, map, Option, Some, None, is_some, option_map, unwrap_or, refl, sym, ◌∙◌, ap, arith}
use Rattle.std.{specs.BTreeMap.is_at, proofs.lemmas.Bool.Decides.nat_tests}
use Rattle.base_types.{specs.Orders.addr_cmp, proofs.MapLemmas.at-put}
use Rattle.base_roles.specs.{declared.entities.StartingInfo.StartingInfo, Entries.at, Orders.{pair_cmp, same_addr}}
use Rattle.rule_modules.specs.Amounts.{count_where}
use Rattle.rule_modules.specs.Periods.{Periods, Rewards, initial_records, periods_of, start_of, starts_of, ratio_at, references_of}
use Rattle.mod_periods.specs.Kept.{Kept, period_cmp, current_of, record_of, with_current}
use Rattle.mod_periods.specs.{Stands.{AreSound, IsSound, KeepsRewards, history_of}, Steps.running}
use Rattle.mod_periods.proofs.RecordLemmas.{counted}
use Rattle.mod_periods.proofs.OrderLemmas.{addr_total, same_is, same_itself, period_found, pair_found}

there : {A B : Type 0} (f : A → B) (x : Option A) (y : Option B) → y ≡ option_map f x → is_some y ≡ true → (a : A) × (x ≡ Some a)
there f None y e h = let none : is_some (option_map f None) ≡ true = ap is_some (sym e) ∙ h in cc
there f (Some a) y e h = (a, refl)

-- an operator whose period runs has periods
pub periods-there : (k : Kept) (r : Rewards) (o : List ℕ) → KeepsRewards k r → is_some (current_of k o) ≡ true → (p : Periods) × (at addr_cmp r.periods o ≡ Some p)
periods-there k r o h is = there (λ p. p.current) (at addr_cmp r.periods o) (current_of k o) (h.current o) is

module _ (k : Kept) (r : Rewards) (o : List ℕ) (p : Periods) (h : KeepsRewards k r) (e : at addr_cmp r.periods o ≡ Some p) where
  pub running-is : running k o ≡ p.current
  running-is = ap (λ c. unwrap_or c 0) (h.current o ∙ ap (option_map (λ x. x.current)) e)

  pub current-is : current_of k o ≡ Some p.current
  current-is = h.current o ∙ ap (option_map (λ x. x.current)) e

  pub periods-is : periods_of r o ≡ p
  periods-is = ap (λ s. unwrap_or s initial_records) e

  pub record-is : (n : ℕ) → record_of k o n ≡ counted (ratio_at p.ratios n) (references_of p (starts_of r o) n)
  record-is n = h.historical o n ∙ ap (λ s. history_of s (starts_of r o) n) e

  pub sound-is : AreSound p (starts_of r o)
  sound-is = h.sound.periods o p e

-- the last ended period is referred to
pub last-referred : (p : Periods) (starts : List StartingInfo) (n : ℕ) → n + 1 ≡ p.current → 1 ≤ references_of p starts n
last-referred p starts n h = by (p.current == n + 1) (grind (arith, nat_tests))
  where
    by : (b : Bool) → b ≡ true → 1 ≤ cond b 1 0 + (count_where (λ s. s.period == n) starts + count_where (λ e. e.period == n) p.events)
    by true t = omega arith
    by false t = cc

-- whether one period is another, as a number
pub same_period : (n m : ℕ) → m ≡ n → cond {A = ℕ} (n == m) 1 0 ≡ 1
same_period n m t = by (n == m) (grind (arith, nat_tests))
  where
    by : (b : Bool) → b ≡ true → cond {A = ℕ} b 1 0 ≡ 1
    by true t = refl
    by false t = cc

pub other_period : (n m : ℕ) → (m == n) ≡ false → cond {A = ℕ} (n == m) 1 0 ≡ 0
other_period n m t = by (n == m) (grind (arith, nat_tests))
  where
    by : (b : Bool) → b ≡ false → cond {A = ℕ} b 1 0 ≡ 0
    by true t = cc
    by false t = refl

pub later_period : (n m : ℕ) → n < m → cond {A = ℕ} (n == m) 1 0 ≡ 0
later_period n m lt = by (n == m) (grind (arith, nat_tests))
  where
    by : (b : Bool) → b ≡ false → cond {A = ℕ} b 1 0 ≡ 0
    by true t = cc
    by false t = refl

-- keys of records at one operator, and at two
pub found-own : (o : List ℕ) (n m : ℕ) → is_at (period_cmp (o, m)) (o, n) ≡ (m == n)
found-own o n m = period_found o o m n ∙ ap (λ b. b && (m == n)) (same_itself o)

pub found-other : (o q : List ℕ) (n m : ℕ) → same_addr q o ≡ false → is_at (period_cmp (q, m)) (o, n) ≡ false
found-other o q n m h = period_found q o m n ∙ ap (λ b. b && (m == n)) h

-- the period that runs, once one is put
pub current-with : (k : Kept) (o q : List ℕ) (n : ℕ) → current_of (with_current o n k) q ≡ cond (same_addr q o) (Some n) (current_of k q)
current-with k o q n = at-put addr_cmp addr_total k.current o q n

pub current-own : (k : Kept) (o : List ℕ) (n : ℕ) → current_of (with_current o n k) o ≡ Some n
current-own k o n = current-with k o o n ∙ ap (λ b. cond b (Some n) (current_of k o)) (same_itself o)

pub current-other : (k : Kept) (o q : List ℕ) (n : ℕ) → same_addr q o ≡ false → current_of (with_current o n k) q ≡ current_of k q
current-other k o q n h = current-with k o q n ∙ ap (λ b. cond b (Some n) (current_of k q)) h

-- ---- an operator without periods has no starts

same_back : (a b : List ℕ) → same_addr a b ≡ true → same_addr b a ≡ true
same_back a b h = ap (λ x. same_addr b x) (same_is a b h) ∙ same_itself b

no_entries : (o : List ℕ) (es : List ((List ℕ × List ℕ) × StartingInfo)) → ((delegator : List ℕ) → at pair_cmp es (o, delegator) ≡ None) → filter (λ e. same_addr e.0.0 o) es ≡ []
no_entries o [] h = refl
no_entries o (e ∷ es) h = by (same_addr e.0.0 o) refl (λ rest. no_entries o es rest)
  where
    both : (a b : Bool) → a ≡ true → b ≡ true → (a && b) ≡ true
    both true true p q = refl
    both true false p q = cc
    both false b p q = cc

    later : (delegator : List ℕ) → at pair_cmp es (o, delegator) ≡ None
    later delegator = rest (is_at (pair_cmp (o, delegator)) e.0) (h delegator)
      where
        rest : (b : Bool) → cond b (Some e.1) (at pair_cmp es (o, delegator)) ≡ None → at pair_cmp es (o, delegator) ≡ None
        rest true t = cc
        rest false t = t

    by : (b : Bool) → same_addr e.0.0 o ≡ b → (((delegator : List ℕ) → at pair_cmp es (o, delegator) ≡ None) → filter (λ d. same_addr d.0.0 o) es ≡ []) → cond b (e ∷ filter (λ d. same_addr d.0.0 o) es) (filter (λ d. same_addr d.0.0 o) es) ≡ []
    by true t f =
        let hit : is_at (pair_cmp (o, e.0.1)) e.0 ≡ true = pair_found o e.0.0 e.0.1 e.0.1 ∙ both _ _ (same_back e.0.0 o t) (same_itself e.0.1) in
        let apart : Some e.1 ≡ None = sym (ap (λ b. cond b (Some e.1) (at pair_cmp es (o, e.0.1))) hit) ∙ h e.0.1 in cc
    by false t f = f later

none_of : {A : Type 0} (x : Option A) → (is_some x ≡ true → ⊥) → x ≡ None
none_of None h = refl
none_of (Some a) h = absurd (h refl)

not_there : {A : Type 0} (x : Option A) → x ≡ None → is_some x ≡ true → ⊥
not_there None e h = cc
not_there (Some a) e h = cc

pub no-starts : (r : Rewards) (o : List ℕ) → ((delegator : List ℕ) → start_of r delegator o ≡ None) → starts_of r o ≡ []
no-starts r o h = ap (map (λ e. e.1)) (no_entries o r.starts h)

pub none-started : (r : Rewards) (o : List ℕ) → IsSound r → at addr_cmp r.periods o ≡ None → (delegator : List ℕ) → start_of r delegator o ≡ None
none-started r o s e delegator = none_of (start_of r delegator o) (λ is. not_there (at addr_cmp r.periods o) e (s.started o delegator is))

-- an operator of which no period runs has no periods
pub no-periods : (k : Kept) (r : Rewards) (o : List ℕ) → KeepsRewards k r → current_of k o ≡ None → at addr_cmp r.periods o ≡ None
no-periods k r o h e = by (at addr_cmp r.periods o) (sym (h.current o) ∙ e)
  where
    by : (x : Option Periods) → option_map (λ p. p.current) x ≡ None → x ≡ None
    by None t = refl
    by (Some p) t = cc
