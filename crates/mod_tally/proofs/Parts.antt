-- A validator's shares: those that delegators give, those that its operator gives, and how they come to what is given.
use Rattle.std.proofs.Common.{◌≡◌, ◌∙◌, ℕ, ◌+◌, ◌-◌, ◌<◌, ◌≤◌, Bool, true, false, cond, List, [], ◌∷◌, Option, Some, None, refl, sym, ap, subst, arith, zero-add, ◌&&◌, is_some, nat_lt, filter, sum_by}
use Rattle.std.{specs.Option.option_or, proofs.lemmas.Bool.Decides.nat_tests}
use Rattle.base_roles.specs.{declared.entities.Validator.Validator, Entries.sum_where, Orders.same_addr}
use Rattle.base_roles.specs.Staked.{is_bonded}
use Rattle.rule_modules.proofs.OrderLemmas.{same_is}
use Rattle.mod_tally.specs.{declared.choice.Choice.Choice, Ballots.{Chosen, is_for, same_choice}, Exact.given_to}
use Rattle.mod_tally.specs.Tally.{Delegations, counts, delegations_to, shares_in, those_cast, those_for}
use Rattle.mod_tally.proofs.Sums.{kept_within, sum_alike, sum_both, sum_kept, sum_next, sum_within}

-- ---- sums over the delegations to an operator

sum_where_is : (operator : List ℕ) (ds : Delegations) → sum_where (λ key. same_addr key.0 operator) ds ≡ sum_by (λ d. cond (same_addr d.0.0 operator) d.1 0) ds
sum_where_is operator [] = refl
sum_where_is operator (d ∷ ds) =
    ap (λ n. cond (same_addr d.0.0 operator) d.1 0 + n) (sum_where_is operator ds)
    ∙ sym (sum_next (λ e. cond (same_addr e.0.0 operator) e.1 0) d ds)

-- the shares of all delegations to an operator are those that are summed up
pub delegated_is : (operator : List ℕ) (ds : Delegations) → sum_where (λ key. same_addr key.0 operator) ds ≡ shares_in (delegations_to operator ds)
delegated_is operator ds = sum_where_is operator ds ∙ sym (sum_kept (λ d. d.1) (λ d. same_addr d.0.0 operator) ds)

-- a bonded validator with shares has shares
pub counts_some : (v : Validator) → counts v ≡ true → 0 < v.shares
counts_some v h = by (is_bonded v.status) h
  where
    by : (b : Bool) → (b && nat_lt 0 v.shares) ≡ true → 0 < v.shares
    by true h = grind (arith, nat_tests)
    by false h = absurd cc

module _ (chosen : Chosen) (c : Choice) (operator : List ℕ) where
  -- the shares of a delegation, where it is to the operator and passes a test
  abbrev part : Bool → Bool → ℕ → ℕ
  part same passes n = cond same (cond passes n 0) 0

  parts_kept : (p : (List ℕ × List ℕ) × ℕ → Bool) (ds : Delegations) → shares_in (filter p (delegations_to operator ds)) ≡ sum_by (λ d. part (same_addr d.0.0 operator) (p d) d.1) ds
  parts_kept p ds = sum_kept (λ d. d.1) p (delegations_to operator ds) ∙ sum_kept (λ d. cond (p d) d.1 0) (λ d. same_addr d.0.0 operator) ds

  abbrev is_given : (List ℕ × List ℕ) × ℕ → Bool
  is_given d = is_for (option_or (chosen d.0.1) (chosen d.0.0)) c

  -- ---- where the operator chose this

  given_if : (o p : Option Choice) (n : ℕ) → is_for p c ≡ true → cond (is_for (option_or o p) c) n 0 + cond (is_some o) n 0 ≡ cond (is_for o c) n 0 + n
  given_if None p n h = ap (λ b. cond b n 0 + 0) h ∙ omega arith
  given_if (Some k) p n h = refl

  given_here : (d : (List ℕ × List ℕ) × ℕ) (b : Bool) → same_addr d.0.0 operator ≡ b → is_for (chosen operator) c ≡ true
      → part b (is_given d) d.1 + part b (is_some (chosen d.0.1)) d.1 ≡ part b (is_for (chosen d.0.1) c) d.1 + cond b d.1 0
  given_here d true same h = given_if (chosen d.0.1) (chosen d.0.0) d.1 (ap (λ o. is_for (chosen o) c) (same_is d.0.0 operator same) ∙ h)
  given_here d false same h = refl

  -- what is given and what voters have come to what voters give and all
  given_all : (ds : Delegations) → is_for (chosen operator) c ≡ true
      → shares_in (given_to chosen c (delegations_to operator ds)) + shares_in (those_cast chosen (delegations_to operator ds))
      ≡ shares_in (those_for chosen c (delegations_to operator ds)) + shares_in (delegations_to operator ds)
  given_all ds h =
      (λ i. parts_kept is_given ds i + parts_kept (λ d. is_some (chosen d.0.1)) ds i)
      ∙ sym (sum_both (λ d. part (same_addr d.0.0 operator) (is_given d) d.1) (λ d. part (same_addr d.0.0 operator) (is_some (chosen d.0.1)) d.1) ds)
      ∙ sum_alike (λ d. part (same_addr d.0.0 operator) (is_given d) d.1 + part (same_addr d.0.0 operator) (is_some (chosen d.0.1)) d.1)
      (λ d. part (same_addr d.0.0 operator) (is_for (chosen d.0.1) c) d.1 + cond (same_addr d.0.0 operator) d.1 0) (λ d. given_here d (same_addr d.0.0 operator) refl h) ds
      ∙ sum_both (λ d. part (same_addr d.0.0 operator) (is_for (chosen d.0.1) c) d.1) (λ d. cond (same_addr d.0.0 operator) d.1 0) ds
      ∙ (λ i. sym (parts_kept (λ d. is_for (chosen d.0.1) c) ds) i + sym (sum_kept (λ d. d.1) (λ d. same_addr d.0.0 operator) ds) i)

  -- ---- where it did not

  alone_if : (o p : Option Choice) (n : ℕ) → is_for p c ≡ false → cond (is_for (option_or o p) c) n 0 ≡ cond (is_for o c) n 0
  alone_if None p n h = ap (λ b. cond b n 0) h
  alone_if (Some k) p n h = refl

  alone_here : (d : (List ℕ × List ℕ) × ℕ) (b : Bool) → same_addr d.0.0 operator ≡ b → is_for (chosen operator) c ≡ false → part b (is_given d) d.1 ≡ part b (is_for (chosen d.0.1) c) d.1
  alone_here d true same h = alone_if (chosen d.0.1) (chosen d.0.0) d.1 (ap (λ o. is_for (chosen o) c) (same_is d.0.0 operator same) ∙ h)
  alone_here d false same h = refl

  given_alone : (ds : Delegations) → is_for (chosen operator) c ≡ false → shares_in (given_to chosen c (delegations_to operator ds)) ≡ shares_in (those_for chosen c (delegations_to operator ds))
  given_alone ds h =
      parts_kept is_given ds
      ∙ sum_alike (λ d. part (same_addr d.0.0 operator) (is_given d) d.1) (λ d. part (same_addr d.0.0 operator) (is_for (chosen d.0.1) c) d.1) (λ d. alone_here d (same_addr d.0.0 operator) refl h) ds
      ∙ sym (parts_kept (λ d. is_for (chosen d.0.1) c) ds)

  -- ---- both

  -- voters have at most all shares
  pub cast_within : (ds : Delegations) → shares_in (those_cast chosen (delegations_to operator ds)) ≤ shares_in (delegations_to operator ds)
  cast_within ds = kept_within (λ d. d.1) (λ d. is_some (chosen d.0.1)) (delegations_to operator ds)

  for_if : (o : Option Choice) (n : ℕ) → cond (is_for o c) n 0 ≤ cond (is_some o) n 0
  for_if None n = omega arith
  for_if (Some k) n = by (same_choice k c)
    where
      by : (b : Bool) → cond b n 0 ≤ n
      by true = omega arith
      by false = omega arith

  -- those who chose this have at most what voters have
  pub for_within : (ds : Delegations) → shares_in (those_for chosen c (delegations_to operator ds)) ≤ shares_in (those_cast chosen (delegations_to operator ds))
  for_within ds =
      let ours : shares_in (those_for chosen c (delegations_to operator ds)) ≡ sum_by (λ d. cond (is_for (chosen d.0.1) c) d.1 0) (delegations_to operator ds) = sum_kept (λ d. d.1) (λ d. is_for (chosen d.0.1) c) (delegations_to operator ds) in
      let all : shares_in (those_cast chosen (delegations_to operator ds)) ≡ sum_by (λ d. cond (is_some (chosen d.0.1)) d.1 0) (delegations_to operator ds) = sum_kept (λ d. d.1) (λ d. is_some (chosen d.0.1)) (delegations_to operator ds) in
      let within : sum_by (λ d. cond (is_for (chosen d.0.1) c) d.1 0) (delegations_to operator ds) ≤ sum_by (λ d. cond (is_some (chosen d.0.1)) d.1 0) (delegations_to operator ds)
      = sum_within (λ d. cond (is_for (chosen d.0.1) c) d.1 0) (λ d. cond (is_some (chosen d.0.1)) d.1 0) (λ d. for_if (chosen d.0.1) d.1) (delegations_to operator ds) in
      omega arith

  -- what voters give and what the operator gives is what is given
  pub given_is : (ds : Delegations) (shares : ℕ) → shares ≡ shares_in (delegations_to operator ds)
      → shares_in (those_for chosen c (delegations_to operator ds)) + cond (is_for (chosen operator) c) (shares - shares_in (those_cast chosen (delegations_to operator ds))) 0
      ≡ shares_in (given_to chosen c (delegations_to operator ds))
  given_is ds shares e = by (is_for (chosen operator) c) refl
    where
      by : (b : Bool) → is_for (chosen operator) c ≡ b
          → shares_in (those_for chosen c (delegations_to operator ds)) + cond b (shares - shares_in (those_cast chosen (delegations_to operator ds))) 0
          ≡ shares_in (given_to chosen c (delegations_to operator ds))
      by true h = omega (arith, e, given_all ds h, cast_within ds)
      by false h = omega (arith, given_alone ds h)
