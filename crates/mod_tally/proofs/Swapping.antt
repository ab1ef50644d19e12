-- What delegations add to a choice, one after another, is what they add validator by validator.
use Rattle.std.proofs.Common.{◌≡◌, ◌∙◌, ℕ, ◌+◌, Bool, true, false, cond, List, [], ◌∷◌, Option, Some, None, refl, sym, ap, zero-add, add-zero, filter, sum_by, Less, is_eq}
use Rattle.std.specs.{List.{AllByRecursion, Sorted.IsStrictlySortedBy}, Map.{keys_of, lookup}, BTreeMap.is_at}
use Rattle.std.proofs.lemmas.Map.{lookup-none, Lookups.exact_bytes}
use Rattle.base_types.specs.Orders.{addr_cmp}
use Rattle.base_roles.specs.{Entries.at, Orders.same_addr}
use Rattle.rule_modules.proofs.OrderLemmas.{same_is}
use Rattle.mod_tally.specs.{declared.{choice.Choice.Choice, polls.Poll.Poll}, Ballots.{Chosen, is_for}}
use Rattle.mod_tally.specs.{Counting.{Polls, worth_at}, Tally.{Delegations, delegations_to, those_for}}
use Rattle.mod_tally.proofs.Sums.{sum_alike, sum_both, sum_kept, sum_next, sum_none}
use Rattle.mod_tally.proofs.Walking.{added, added_all, given, nothing_if}

module _ (chosen : Chosen) (c : Choice) where
  -- what the delegators of one validator add
  abbrev pub from_voters : Delegations → List ℕ × Poll → ℕ
  from_voters ds e = sum_by (λ d. worth_at e.1 d.1) (those_for chosen c (delegations_to e.0 ds))

  -- what one delegation adds at one validator
  abbrev here : List ℕ × Poll → (List ℕ × List ℕ) × ℕ → ℕ
  here e d = cond (is_for (chosen d.0.1) c) (cond (same_addr d.0.0 e.0) (worth_at e.1 d.1) 0) 0

  turned : (a b : Bool) (n : ℕ) → cond a (cond b n 0) 0 ≡ cond b (cond a n 0) 0
  turned true true n = refl
  turned true false n = refl
  turned false true n = refl
  turned false false n = refl

  all_here : (e : List ℕ × Poll) (ds : Delegations) → sum_by (here e) ds ≡ from_voters ds e
  all_here e ds =
      sum_alike (here e) (λ d. cond (same_addr d.0.0 e.0) (cond (is_for (chosen d.0.1) c) (worth_at e.1 d.1) 0) 0) (λ d. turned (is_for (chosen d.0.1) c) (same_addr d.0.0 e.0) (worth_at e.1 d.1)) ds
      ∙ sym (sum_kept (λ d. cond (is_for (chosen d.0.1) c) (worth_at e.1 d.1) 0) (λ d. same_addr d.0.0 e.0) ds)
      ∙ sym (sum_kept (λ d. worth_at e.1 d.1) (λ d. is_for (chosen d.0.1) c) (delegations_to e.0 ds))

  -- no later validator has the key of the first
  none_later : (e : List ℕ × Poll) (es : Polls) (q : List ℕ) → AllByRecursion (λ y. addr_cmp e.0 y ≡ Less) (keys_of es) → q ≡ e.0 → at addr_cmp es q ≡ None
  none_later e es q above is = lookup-none (is_at (addr_cmp q)) es (none_pass es above)
    where
      none_pass : (fs : Polls) → AllByRecursion (λ y. addr_cmp e.0 y ≡ Less) (keys_of fs) → AllByRecursion (λ (f : List ℕ × Poll). is_at (addr_cmp q) f.0 ≡ false) fs
      none_pass [] h = tt
      none_pass (f ∷ fs) h = (ap (λ k. is_eq (addr_cmp k f.0)) is ∙ ap is_eq h.0, none_pass fs h.1)

  first_or_later : (e : List ℕ × Poll) (es : Polls) (d : (List ℕ × List ℕ) × ℕ) → AllByRecursion (λ y. addr_cmp e.0 y ≡ Less) (keys_of es)
      → added chosen (e ∷ es) c d ≡ here e d + added chosen es c d
  first_or_later e es d above = by (same_addr d.0.0 e.0) refl
    where
      sum_if : (b : Bool) (m n : ℕ) → cond b m 0 + cond b n 0 ≡ cond b (m + n) 0
      sum_if true m n = refl
      sum_if false m n = refl

      by : (b : Bool) → same_addr d.0.0 e.0 ≡ b
          → cond (is_for (chosen d.0.1) c) (given chosen (cond b (Some e.1) (at addr_cmp es d.0.0)) d.1) 0
          ≡ cond (is_for (chosen d.0.1) c) (cond b (worth_at e.1 d.1) 0) 0 + added chosen es c d
      by true same =
          let none : at addr_cmp es d.0.0 ≡ None = none_later e es d.0.0 above (same_is d.0.0 e.0 same) in
          sym (ap (λ p. cond (is_for (chosen d.0.1) c) (worth_at e.1 d.1) 0 + cond (is_for (chosen d.0.1) c) (given chosen p d.1) 0) none
          ∙ sum_if (is_for (chosen d.0.1) c) (worth_at e.1 d.1) 0
          ∙ ap (λ n. cond (is_for (chosen d.0.1) c) n 0) (add-zero (worth_at e.1 d.1)))
      by false same = sym (ap (λ n. n + added chosen es c d) (nothing_if (is_for (chosen d.0.1) c)) ∙ zero-add (added chosen es c d))

  pub swap : (es : Polls) (ds : Delegations) → IsStrictlySortedBy addr_cmp (keys_of es) → added_all chosen es c ds ≡ sum_by (from_voters ds) es
  unfolding IsStrictlySortedBy
  swap [] ds s = sum_alike (added chosen [] c) (λ d. 0) (λ d. nothing_if (is_for (chosen d.0.1) c)) ds ∙ sum_none ds
  swap (e ∷ es) ds s =
      sum_alike (added chosen (e ∷ es) c) (λ d. here e d + added chosen es c d) (λ d. first_or_later e es d s.0) ds
      ∙ sum_both (here e) (added chosen es c) ds
      ∙ (λ i. all_here e ds i + swap es ds s.1 i)
      ∙ sym (sum_next (from_voters ds) e es)
