-- Entries once one is made or grows, and once an amount of one is cancelled.
use Rattle.std.proofs.Common.{◌≡◌, ℕ, ◌+◌, ◌-◌, ◌≤◌, ◌==◌, Bool, true, false, cond, List, [], ◌∷◌, Some, refl, sym, subst, arith, ◌&&◌, All, length, find, map}
use Rattle.std.proofs.lemmas.{Bool.Decides.nat_tests, List.Elements.{All-nil, All-cons, All-head, All-tail, All-weaker}}
use Rattle.std.proofs.lemmas.List.Sums.{sum_by-cons}
use Rattle.base_roles.specs.declared.entities.UnbondingEntry.{UnbondingEntry}
use Rattle.base_records.proofs.SameLemmas.{both, number}
use Rattle.rule_modules.specs.{Owed.balances_of, Unbondings.{grown, lowered, can_be_cancelled}}

-- a balance, and those of the rest
pub balances-cons : (e : UnbondingEntry) (es : List UnbondingEntry) → balances_of (e ∷ es) ≡ e.balance + balances_of es
balances-cons e es = sum_by-cons (λ (n : ℕ). n) e.balance (map (λ (x : UnbondingEntry). x.balance) es)

module _ (height completes amount : ℕ) where
  -- the entry that is made
  abbrev pub added : UnbondingEntry
  added = record { created = height; completes = completes; initial = amount; balance = amount }

  -- one that grows
  abbrev pub more : UnbondingEntry → UnbondingEntry
  more e = record e { initial = e.initial + amount; balance = e.balance + amount }

  abbrev joins : UnbondingEntry → Bool
  joins e = (e.created == height) && (e.completes == completes)

  pub all-grown : (P Q : UnbondingEntry → Type 0) (es : List UnbondingEntry) → All P es → ((e : UnbondingEntry) → P e → Q e) → Q added → ((e : UnbondingEntry) → P e → e.created ≡ height → Q (more e)) → All Q (grown height completes amount es)
  all-grown P Q [] h f a m = All-cons Q added [] a (All-nil Q)
  all-grown P Q (e ∷ es) h f a m = by (joins e) refl (all-grown P Q es (All-tail P e es h) f a m)
    where
      by : (b : Bool) → joins e ≡ b → All Q (grown height completes amount es) → All Q (cond b (more e ∷ es) (e ∷ grown height completes amount es))
      by true p later = All-cons Q (more e) es (m e (All-head P e es h) (number e.created height (both (e.created == height) (e.completes == completes) p).0)) (All-weaker P Q f es (All-tail P e es h))
      by false p later = All-cons Q e (grown height completes amount es) (f e (All-head P e es h)) later

  pub balances-grown : (es : List UnbondingEntry) → balances_of (grown height completes amount es) ≡ balances_of es + amount
  balances-grown [] = let one = balances-cons added [] in let none : balances_of [] ≡ 0 = refl in omega (arith, one, none)
  balances-grown (e ∷ es) = by (joins e) (balances-grown es)
    where
      by : (b : Bool) → balances_of (grown height completes amount es) ≡ balances_of es + amount → balances_of (cond b (more e ∷ es) (e ∷ grown height completes amount es)) ≡ balances_of (e ∷ es) + amount
      by true later =
          let new = balances-cons (more e) es in
          let old = balances-cons e es in
          let goal : balances_of (more e ∷ es) ≡ balances_of (e ∷ es) + amount = omega (arith, new, old) in
          goal
      by false later =
          let new = balances-cons e (grown height completes amount es) in
          let old = balances-cons e es in
          let goal : balances_of (e ∷ grown height completes amount es) ≡ balances_of (e ∷ es) + amount = omega (arith, new, old, later) in
          goal

  pub length-grown : (es : List UnbondingEntry) → length (grown height completes amount es) ≤ length es + 1
  length-grown [] = omega arith
  length-grown (e ∷ es) = by (joins e) (length-grown es)
    where
      by : (b : Bool) → length (grown height completes amount es) ≤ length es + 1 → length (cond b (more e ∷ es) (e ∷ grown height completes amount es)) ≤ length (e ∷ es) + 1
      by true later = let goal : length (more e ∷ es) ≤ length (e ∷ es) + 1 = omega arith in goal
      by false later = let goal : length (e ∷ grown height completes amount es) ≤ length (e ∷ es) + 1 = omega (arith, later) in goal

-- no balance is more than all together
pub balance-within : (es : List UnbondingEntry) → All (λ e. e.balance ≤ balances_of es) es
balance-within [] = All-nil (λ (e : UnbondingEntry). e.balance ≤ 0)
balance-within (e ∷ es) =
    let c = balances-cons e es in
    All-cons (λ (x : UnbondingEntry). x.balance ≤ balances_of (e ∷ es)) e es (omega (arith, c))
    (All-weaker (λ (x : UnbondingEntry). x.balance ≤ balances_of es) (λ x. x.balance ≤ balances_of (e ∷ es)) (λ x h. omega (arith, h, c)) es (balance-within es))

module _ (height now amount : ℕ) where
  abbrev pub less : UnbondingEntry → UnbondingEntry
  less e = record e { initial = e.initial - amount; balance = e.balance - amount }

  pub all-lowered : (P : UnbondingEntry → Type 0) (es : List UnbondingEntry) → All P es → ((e : UnbondingEntry) → P e → P (less e)) → All P (lowered height now amount es)
  all-lowered P [] h f = All-nil P
  all-lowered P (e ∷ es) h f = by (can_be_cancelled height now e) (e.balance == amount) (all-lowered P es (All-tail P e es h) f)
    where
      by : (b c : Bool) → All P (lowered height now amount es) → All P (cond b (cond c es (less e ∷ es)) (e ∷ lowered height now amount es))
      by true true later = All-tail P e es h
      by true false later = All-cons P (less e) es (f e (All-head P e es h)) (All-tail P e es h)
      by false c later = All-cons P e (lowered height now amount es) (All-head P e es h) later

  pub length-lowered : (es : List UnbondingEntry) → length (lowered height now amount es) ≤ length es
  length-lowered [] = omega arith
  length-lowered (e ∷ es) = by (can_be_cancelled height now e) (e.balance == amount) (length-lowered es)
    where
      by : (b c : Bool) → length (lowered height now amount es) ≤ length es → length (cond b (cond c es (less e ∷ es)) (e ∷ lowered height now amount es)) ≤ length (e ∷ es)
      by true true later = let goal : length es ≤ length (e ∷ es) = omega arith in goal
      by true false later = let goal : length (less e ∷ es) ≤ length (e ∷ es) = omega arith in goal
      by false c later = let goal : length (e ∷ lowered height now amount es) ≤ length (e ∷ es) = omega (arith, later) in goal

  some_is : (a b : UnbondingEntry) → Some a ≡ Some b → a ≡ b
  some_is a b h = cc

  pub balances-lowered : (es : List UnbondingEntry) (found : UnbondingEntry) → find (can_be_cancelled height now) es ≡ Some found → amount ≤ found.balance → balances_of (lowered height now amount es) + amount ≡ balances_of es
  balances-lowered [] found f p = absurd cc
  balances-lowered (e ∷ es) found f p = by (can_be_cancelled height now e) f (λ g. balances-lowered es found g p)
    where
      rest : amount ≤ e.balance → (c : Bool) → (e.balance == amount) ≡ c → balances_of (cond c es (less e ∷ es)) + amount ≡ balances_of (e ∷ es)
      rest few true q =
          let same : e.balance ≡ amount = grind (arith, nat_tests, q) in
          let old = balances-cons e es in
          let goal : balances_of es + amount ≡ balances_of (e ∷ es) = omega (arith, same, old) in
          goal
      rest few false q =
          let new = balances-cons (less e) es in
          let old = balances-cons e es in
          let goal : balances_of (less e ∷ es) + amount ≡ balances_of (e ∷ es) = omega (arith, few, new, old) in
          goal

      by : (b : Bool) → cond b (Some e) (find (can_be_cancelled height now) es) ≡ Some found
          → (find (can_be_cancelled height now) es ≡ Some found → balances_of (lowered height now amount es) + amount ≡ balances_of es)
          → balances_of (cond b (cond (e.balance == amount) es (less e ∷ es)) (e ∷ lowered height now amount es)) + amount ≡ balances_of (e ∷ es)
      by true g later = rest (subst (λ x. amount ≤ x.balance) (sym (some_is e found g)) p) (e.balance == amount) refl
      by false g later =
          let more = later g in
          let new = balances-cons e (lowered height now amount es) in
          let old = balances-cons e es in
          let goal : balances_of (e ∷ lowered height now amount es) + amount ≡ balances_of (e ∷ es) = omega (arith, more, new, old) in
          goal
