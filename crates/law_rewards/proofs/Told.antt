-- A message that asks for a reward tells its payment.
use Rattle.std.proofs.Common.{◌≡◌, ℕ, List, [], ◌∷◌, ◌++◌, Result, Ok, refl, sym, ap, subst, ◌∙◌, append_assoc, unwrap_or}
use Rattle.base_decimals.specs.declared.over.Over.{Over}
use Rattle.base_types.specs.declared.account.Account.TheVariants as account
use Rattle.base_types.specs.declared.account.Module.TheVariants as holder
use Rattle.base_types.specs.Orders.{addr_cmp}
use Rattle.base_coins.specs.Coins.{Money, whole_coins, fractions}
use Rattle.base_shares.specs.Shares.{value_cut_of}
use Rattle.base_roles.specs.declared.{entities.Validator.Validator, facts.Fact.Fact}
use Rattle.base_roles.specs.{declared.refusal.Refusal.TheVariants.{NoValidator, NoDelegation, Overflow}, Entries.at}
use Rattle.base_roles.specs.{Flow.{◌>>=◌}, Log.Log, Staked.{validator_at, delegation}, World.View}
use Rattle.base_roles.specs.declared.facts.Fact.TheVariants as fact
use Rattle.rule_modules.specs.Distribution.{Shared, current_taken, ended, payee_of, paid_to, reward_withdrawn, reward_renewed}
use Rattle.rule_modules.specs.{Periods.{Periods, periods_of, period_ended, last_ended}, Purses.{Purses, pooled_told}}
use Rattle.rule_modules.{specs.Withdrawals.reward_taken, proofs.GoingLemmas.{on_bind, on_found}}
use Rattle.law_rewards.{specs.WithdrawalLaws.{TellsPayment, RewardsAreTold}, proofs.Beginnings.under_own}
use Rattle.law_rewards.proofs.Denominations.{step_parts}
use Rattle.law_rewards.proofs.{Paying.{Pays, ended_with, pays_ended, pays_pooled, pays_sent, pays_then}, Quiet.same_ok}
use Rattle.law_rewards.proofs.{Telling.{on_then, lifted_if}, Withdrawing.{IsMade, made_is}}

-- the end of a period changes no payee
payees_stay : (v : Validator) (d : Shared) (u : View) (z : ℕ × Shared × View × Log) → ended v d u ≡ Ok z → z.1.withdraw ≡ d.withdraw
payees_stay v d u z e =
    let p : Periods = periods_of d.rewards v.operator in
    let one : (t : Money × Money × Purses) × (current_taken v d.purses ≡ Ok t) × ((period_ended t.0 p >>= λ r. Ok (ended_with v d u t r)) ≡ Ok z) =
    step_parts (current_taken v d.purses) (λ t. period_ended t.0 p >>= λ r. Ok (ended_with v d u t r)) z e in
    let t : Money × Money × Purses = one.0 in
    let two : (r : Money × Periods) × (period_ended t.0 p ≡ Ok r) × (Path (Result (ℕ × Shared × View × Log) Over) (Ok (ended_with v d u t r)) (Ok z)) =
    step_parts (period_ended t.0 p) (λ r. Ok (ended_with v d u t r)) z one.2 in
    subst (λ (q : ℕ × Shared × View × Log). q.1.withdraw ≡ d.withdraw) (same_ok (ended_with v d u t two.0) z two.2) refl

-- what is told behind facts, of the facts alone
record Tells (who operator to : List ℕ) (first facts : List Fact) : Type 0 where
  told : List Fact
  facts_are : facts ≡ first ++ told
  before : List Fact
  reward : Money
  coins : Money
  period : ℕ
  stake : ℕ
  told_is : told ≡ before ++ fact.Paid who operator to reward coins ∷ fact.Started who operator period stake ∷ []

-- a withdrawal and its new start, behind what the withdrawal tells before it is paid
as_told : (who op operator to payee : List ℕ) (reward coins : Money) (period stake : ℕ) (l k : Log) (first facts all : List Fact) → Pays l first k facts → op ≡ operator → to ≡ payee
    → all ≡ (facts ++ fact.Paid who op to reward coins ∷ []) ++ fact.Started who op period stake ∷ [] → Tells who operator payee first all
as_told who op operator to payee reward coins period stake l k first facts all p own same e =
    let last : List Fact = fact.Paid who operator payee reward coins ∷ fact.Started who operator period stake ∷ [] in
    record {
      told = p.told ++ last;
      facts_are = e ∙ append_assoc facts (fact.Paid who op to reward coins ∷ []) (fact.Started who op period stake ∷ [])
          ∙ ap (λ o. facts ++ fact.Paid who o to reward coins ∷ fact.Started who o period stake ∷ []) own
          ∙ ap (λ a. facts ++ fact.Paid who operator a reward coins ∷ fact.Started who operator period stake ∷ []) same
          ∙ ap (λ fs. fs ++ last) p.facts_are
          ∙ append_assoc first p.told last;
      before = p.told;
      reward = reward;
      coins = coins;
      period = period;
      stake = stake;
      told_is = refl;
    }

pub rewards_are_told : RewardsAreTold
rewards_are_told = λ who operator w sound.
    on_then (reward_taken w.mine.staked who operator w.hooks.0 w.view) _ (λ x. Tells who operator (payee_of w.hooks.0 who) w.view.facts x.2.facts) (TellsPayment who operator w)
    (on_found (validator_at w.mine.staked operator) NoValidator _ _ (λ v f. on_found (delegation w.mine.staked who operator) NoDelegation _ _ (λ shares g.
    lifted_if Overflow (reward_renewed v who shares w.hooks.0 w.view) _ (on_bind (reward_withdrawn v who shares w.hooks.0 w.view) _ _ (λ y e.
    let m : IsMade v who shares w.hooks.0 w.view y = made_is v who shares w.hooks.0 w.view y e in
    let to : List ℕ = payee_of m.z.1 who in
    let coins : Money = whole_coins m.paid.0 in
    let l : Log = w.log ++ m.z.3 in
    let sent_facts : List Fact = (paid_to to coins m.z.2).facts in
    let before : List Fact = pooled_told (fractions m.paid.0) sent_facts in
    let paid : Pays w.log w.view.facts l before =
    pays_then w.log l l w.view.facts m.z.2.facts before (pays_ended w.log v w.hooks.0 w.view m.z m.ends)
    (pays_then l l l m.z.2.facts sent_facts before (pays_sent l (account.Module holder.Distribution) (account.User to) coins m.z.2.facts) (pays_pooled l (fractions m.paid.0) sent_facts)) in
    let period : ℕ = last_ended (periods_of y.1.rewards v.operator) in
    let stake : ℕ = value_cut_of v.tokens v.shares shares in
    let own : v.operator ≡ operator = sym (under_own w operator v sound f) in
    let same : to ≡ payee_of w.hooks.0 who = ap (λ a. unwrap_or (at addr_cmp a who) who) (payees_stay v w.hooks.0 w.view m.z m.ends) in
    as_told who v.operator operator to (payee_of w.hooks.0 who) m.paid.0 coins period stake w.log l w.view.facts before _ paid own same
    (ap (λ a. a.2.facts ++ fact.Started who v.operator period stake ∷ []) m.answer_is))))))
    (λ x k. record { told = k.told; facts_are = k.facts_are; before = k.before; reward = k.reward; coins = k.coins; period = k.period; stake = k.stake; told_is = k.told_is })
