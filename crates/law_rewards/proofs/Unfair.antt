-- Withdrawals that are not fair: that pay nothing, or twice as much, or again, or send nothing; and a start without one.
use Rattle.std.proofs.Common.{◌≡◌, ◌≢◌, ℕ, ◌-◌, ◌*◌, ◌^◌, ◌≤◌, Bool, true, false, List, [], ◌∷◌, ◌++◌, refl, arith, sym, ap, subst, ◌∙◌, Option, Some, None, min, mul-le-mul_right, if◌then◌else◌, is_some, nat_le}
use Rattle.std.proofs.lemmas.Bool.Decides.{nat_tests}
use Rattle.base_types.specs.declared.account.Account.TheVariants as account
use Rattle.base_types.specs.declared.account.Module.TheVariants as holder
use Rattle.base_coins.{specs.Coins.{Money, IsMoney, amount_of, smaller_of, fractions}, proofs.Order.rises_from_money}
use Rattle.base_coins.proofs.Amounts.{amount-all}
use Rattle.base_roles.specs.{declared.facts.Fact.Fact, Holdings.transfer_told}
use Rattle.base_roles.specs.declared.facts.Fact.TheVariants as fact
use Rattle.rule_modules.specs.{Amounts.is_empty, Fixtures.{addr, uatom}, Ideal.{Span, Brackets, span_of, history_of}}
use Rattle.rule_modules.specs.Purses.{pooled_told}
use Rattle.law_rewards.specs.Withdrawals.{IsFairReward, reward_paid, overclaim_in}
use Rattle.law_rewards.specs.Worked.{shared_fees, unpaid_leave, NothingIsUnfair, TwiceIsUnfair, OtherOutstandingIsUnfair, AgainIsUnfair, UnpaidStartIsUnfair, UnsentIsUnfair, GoneUnpaidIsUnfair}

not_at_most : (a b : ℕ) → nat_le a b ≡ false → a ≤ b → ⊥
not_at_most a b t h = grind (arith, nat_tests)

-- what no factor makes at most another stays above it where it grows
not_at_most_times : (n m by b : ℕ) → m ≤ n → nat_le (m * by) b ≡ false → n * by ≤ b → ⊥
not_at_most_times n m by b more t h = let k : m * by ≤ n * by = mul-le-mul_right by more in not_at_most (m * by) b t (omega (arith, h, k))

pub smaller_amount : (d : List ℕ) (full outstanding : Money) → IsMoney full → amount_of (smaller_of full outstanding) d ≡ min (amount_of full d) (amount_of outstanding d)
smaller_amount d full outstanding m = amount-all (λ c n. min n (amount_of outstanding c)) (λ c. omega arith) full d (rises_from_money full m)

-- the span of the delegation
some_span : (s : Span) (o : Option Span) (t : Span) → o ≡ Some s → o ≡ Some t → t ≡ s
some_span s o t e f = let both : Path (Option Span) (Some t) (Some s) = sym f ∙ e in cc

abbrev its_span : Span
its_span = span_in (span_of (addr 2) (history_of (addr 1) shared_fees []) None)
  where
    span_in : Option Span → Span
    span_in None = record { first = record { numerator = 0; denominator = 1 }; entries = [] }
    span_in (Some s) = s

bracket_there : (full outstanding : Money) (f : IsFairReward shared_fees (addr 2) (addr 1) full outstanding) → Brackets uatom its_span (amount_of full uatom)
bracket_there full outstanding f =
    subst (λ s. Brackets uatom s (amount_of full uatom)) (some_span its_span (span_of (addr 2) (history_of (addr 1) shared_fees []) None) f.span refl f.is) (f.bracketed uatom)

-- nothing is cut
whole_there : (n left : ℕ) → 10 ^ 18 * (n - left) ≤ 0 → n ≤ left
whole_there n left h = omega (arith, h)

pub nothing_is_unfair : NothingIsUnfair
nothing_is_unfair = λ full outstanding none f.
    let n : ℕ = amount_of full uatom in
    let left : ℕ = amount_of outstanding uatom in
    let over : overclaim_in uatom (history_of (addr 1) shared_fees []) ≡ 0 = refl in
    let within : n ≤ left = whole_there n left (subst (λ m. 10 ^ 18 * (n - left) ≤ m) over (f.cut uatom)) in
    let paid : 0 ≡ min n left = sym none ∙ smaller_amount uatom full outstanding f.full_is in
    let zero_is : n ≡ 0 = omega (arith, within, paid) in
    let there : Brackets uatom its_span 0 = subst (Brackets uatom its_span) zero_is (bracket_there full outstanding f) in
    not_at_most _ _ refl there.at_least

pub twice_is_unfair : TwiceIsUnfair
twice_is_unfair = λ full outstanding much f.
    let n : ℕ = amount_of full uatom in
    let left : ℕ = amount_of outstanding uatom in
    let paid : amount_of (reward_paid full outstanding) uatom ≡ min n left = smaller_amount uatom full outstanding f.full_is in
    let more : 100 * 10 ^ 18 ≤ n = omega (arith, much, paid) in
    let there : Brackets uatom its_span n = bracket_there full outstanding f in
    not_at_most_times n (100 * 10 ^ 18) _ _ more refl there.at_most

pub other_outstanding_is_unfair : OtherOutstandingIsUnfair
other_outstanding_is_unfair = λ full outstanding other f. other (f.outstanding_is uatom)

pub again_is_unfair : AgainIsUnfair
again_is_unfair = λ full outstanding f. no_span f.span f.is
  where
    no_span : (s : Span) → Path (Option Span) None (Some s) → ⊥
    no_span s e = cc

pub unpaid_start_is_unfair : UnpaidStartIsUnfair
unpaid_start_is_unfair = λ shares tokens all stake h. one_runs h
  where
    one_runs : Path (Option Span) (Some its_span) None → ⊥
    one_runs e = cc

pub unsent_is_unfair : UnsentIsUnfair
unsent_is_unfair = λ who operator to reward coins some h. unsent coins reward to h.0 some h.1
  where
    some_facts : (fs : List Fact) (f : Fact) → Path (List Fact) [] (fs ++ f ∷ []) → ⊥
    some_facts [] f e = cc
    some_facts (g ∷ fs) f e = cc

    pooled : (b : Bool) (coins : Money) (fs : List Fact) (f : Fact) → Path (List Fact) [] (if b then fs ++ f ∷ [] else (fs ++ f ∷ []) ++ fact.Pooled coins ∷ []) → ⊥
    pooled true coins fs f e = some_facts fs f e
    pooled false coins fs f e = some_facts (fs ++ f ∷ []) (fact.Pooled coins) e

    unsent : (coins reward : Money) (to : List ℕ) (first : List Fact) → coins ≢ []
        → Path (List Fact) [] (pooled_told (fractions reward) (transfer_told (account.Module holder.Distribution) (account.User to) coins first)) → ⊥
    unsent [] reward to first some e = some refl
    unsent (c ∷ cs) reward to first some e =
        pooled (is_empty (fractions reward)) (fractions reward) first (fact.Transfer (account.Module holder.Distribution) (account.User to) (c ∷ cs)) e

pub gone_unpaid_is_unfair : GoneUnpaidIsUnfair
gone_unpaid_is_unfair = record {
  entries = (tt, tt);
  payments = refl;
  refused = λ s none h. still (h (addr 2) (addr 1) ∙ ap is_some none);
}
  where
    true_not_false : true ≡ false → ⊥
    true_not_false e = cc

    still : is_some (span_of (addr 2) (history_of (addr 1) (shared_fees ++ unpaid_leave) []) None) ≡ false → ⊥
    still e = true_not_false e
