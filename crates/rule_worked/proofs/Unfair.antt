-- A reward above the ideal one is not fair.
use Rattle.std.proofs.Common.{◌≡◌, ℕ, ◌*◌, ◌/◌, ◌^◌, ◌≤◌, false, [], refl, arith, sym, subst, ◌∙◌, Option, Some, None, nat_le}
use Rattle.std.proofs.lemmas.Bool.Decides.{nat_tests}
use Rattle.base_coins.specs.Coins.{Money, amount_of}
use Rattle.base_roles.specs.Log.{Log}
use Rattle.rule_modules.specs.{Fixtures.{addr, uatom}, Ideal.{Span, Brackets, span_of, history_of}}
use Rattle.law_rewards.specs.Withdrawals.{IsFairReward}
use Rattle.rule_worked.specs.WrongRules.{halved, passed_over, third_taken, stake_between, PassedOverIsUnfair, CutFractionIsUnfair}

not_at_most : (a b : ℕ) → nat_le a b ≡ false → a ≤ b → ⊥
not_at_most a b t h = grind (arith, nat_tests)

some_span : (s : Span) (o : Option Span) (t : Span) → o ≡ Some s → o ≡ Some t → t ≡ s
some_span s o t e f = let both : Path (Option Span) (Some t) (Some s) = sym f ∙ e in cc

-- the bracket of the one span that there is
bracket_at : (l : Log) (s : Span) (n : ℕ) → span_of (addr 2) (history_of (addr 1) l []) None ≡ Some s → (full outstanding : Money) → amount_of full uatom ≡ n
    → IsFairReward l (addr 2) (addr 1) full outstanding → Brackets uatom s n
bracket_at l s n e full outstanding is f =
    subst (Brackets uatom s) is
    (subst (λ t. Brackets uatom t (amount_of full uatom)) (some_span s (span_of (addr 2) (history_of (addr 1) l []) None) f.span e f.is) (f.bracketed uatom))

abbrev span_in : Option Span → Span
span_in None = record { first = record { numerator = 0; denominator = 1 }; entries = [] }
span_in (Some s) = s

abbrev span_at : Log → Span
span_at l = span_in (span_of (addr 2) (history_of (addr 1) l []) None)

pub passed_over_is_unfair : PassedOverIsUnfair
passed_over_is_unfair = λ full outstanding is f.
    let there : Brackets uatom (span_at halved) passed_over = bracket_at halved (span_at halved) passed_over refl full outstanding is f in
    not_at_most _ _ refl there.at_most

pub cut_fraction_is_unfair : CutFractionIsUnfair
cut_fraction_is_unfair = record {
  stake = refl;
  refused = λ full outstanding is f.
      let n : ℕ = stake_between * (10 * 10 ^ 18) / 10 ^ 18 in
      let there : Brackets uatom (span_at third_taken) n = bracket_at third_taken (span_at third_taken) n refl full outstanding is f in
      not_at_most _ _ refl there.at_most;
}
