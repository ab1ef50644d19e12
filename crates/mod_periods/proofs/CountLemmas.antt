-- The records of an operator once the count of one was changed, in the words of references.
use Rattle.std.proofs.Common.{◌≡◌, ℕ, ◌==◌, Bool, true, false, cond, List, Some, refl, sym, ◌∙◌, ap, arith}
use Rattle.std.{specs.BTreeMap.is_at, proofs.lemmas.Bool.Decides.nat_tests}
use Rattle.base_types.specs.Orders.{addr_cmp}
use Rattle.base_roles.specs.{Entries.at, Orders.same_addr}
use Rattle.rule_modules.specs.Periods.{Periods, Rewards, starts_of, ratio_at, references_of}
use Rattle.mod_periods.{specs.{Kept.{Kept, period_cmp, record_of}, Stands.KeepsRewards}, proofs.RecordLemmas.counted}
use Rattle.mod_periods.proofs.FoundLemmas.{found-own, found-other, record-is}

module _ (k : Kept) (r : Rewards) (o : List ℕ) (p : Periods) (h : KeepsRewards k r) (e : at addr_cmp r.periods o ≡ Some p) where
  abbrev refs : ℕ → ℕ
  refs n = references_of p (starts_of r o) n

  by_period : (c n m : ℕ) (f : ℕ → ℕ) → (m ≡ n → f m ≡ c) → ((m == n) ≡ false → f m ≡ refs m)
      → cond (m == n) (counted (ratio_at p.ratios n) c) (counted (ratio_at p.ratios m) (refs m)) ≡ counted (ratio_at p.ratios m) (f m)
  by_period c n m f same other = by (m == n) refl
    where
      by : (b : Bool) → (m == n) ≡ b → cond b (counted (ratio_at p.ratios n) c) (counted (ratio_at p.ratios m) (refs m)) ≡ counted (ratio_at p.ratios m) (f m)
      by true t = let eq : m ≡ n = grind (arith, nat_tests) in λ i. counted (ratio_at p.ratios (sym eq i)) (sym (same eq) i)
      by false t = ap (counted (ratio_at p.ratios m)) (sym (other t))

  -- the record that was changed has the new count, and the others have theirs
  pub changed : (k2 : Kept) (c n m : ℕ) (f : ℕ → ℕ) → record_of k2 o m ≡ cond (is_at (period_cmp (o, m)) (o, n)) (counted (ratio_at p.ratios n) c) (record_of k o m)
      → (m ≡ n → f m ≡ c) → ((m == n) ≡ false → f m ≡ refs m) → record_of k2 o m ≡ counted (ratio_at p.ratios m) (f m)
  changed k2 c n m f is same other =
      is ∙ (λ i. cond (found-own o n m i) (counted (ratio_at p.ratios n) c) (record-is k r o p h e m i)) ∙ by_period c n m f same other

-- another operator's records stay
pub unchanged : (p : Periods) (k : Kept) (o : List ℕ) (k2 : Kept) (q : List ℕ) (c n m : ℕ) → same_addr q o ≡ false
    → record_of k2 q m ≡ cond (is_at (period_cmp (q, m)) (o, n)) (counted (ratio_at p.ratios n) c) (record_of k q m) → record_of k2 q m ≡ record_of k q m
unchanged p k o k2 q c n m apart is = is ∙ ap (λ b. cond b (counted (ratio_at p.ratios n) c) (record_of k q m)) (found-other o q n m apart)
