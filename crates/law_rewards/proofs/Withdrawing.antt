-- A withdrawal as it happens is fair.
use Rattle.std.proofs.Common.{◌≡◌, ℕ, ◌-◌, ◌*◌, ◌^◌, ◌≤◌, List, [], ◌∷◌, ◌++◌, refl, arith, sym, ap, subst, ◌∙◌, Option, Some, None, Result, Ok, unwrap_or, is_some}
use Rattle.std.proofs.lemmas.List.Elements.{recursion_from_All}
use Rattle.base_decimals.specs.declared.over.Over.{Over}
use Rattle.base_types.specs.Orders.{addr_cmp}
use Rattle.base_coins.specs.Coins.{Money, IsMoney, amount_of, smaller_of, whole_coins, coins_taken, fractions}
use Rattle.base_shares.specs.Shares.{value_even_of}
use Rattle.base_roles.specs.declared.entities.{Purse.Purse, StartingInfo.StartingInfo, Validator.Validator}
use Rattle.base_roles.specs.{Entries.at, Log.Log, Staked.{validator_at, delegation}, Flow.{◌>>=◌}, World.{View, noted}}
use Rattle.base_roles.specs.declared.facts.Fact.TheVariants as fact
use Rattle.base_roles.specs.Log as log
use Rattle.rule_modules.specs.{Amounts.{over_facts, count_where}, Chain.State}
use Rattle.rule_modules.specs.Distribution.{Shared, ended, reward_due, reward_withdrawn, payee_of, paid_to}
use Rattle.rule_modules.specs.Ideal.{Span, Brackets, span_of, history_of, is_left, overclaim_of}
use Rattle.rule_modules.specs.Periods.{periods_of, start_of, without_start, ratio_at, reward_at}
use Rattle.rule_modules.specs.Purses.{Purses, purse_of, with_purse, pool_joined, paid_out, pooled_told}
use Rattle.law_rewards.specs.Account.{Start, Account, IsReached, reward_now}
use Rattle.law_rewards.specs.Laws.{IsStartBracketed, IsCutWithin, overclaim}
use Rattle.law_rewards.specs.States.{starts_in, account_in, AreReached}
use Rattle.law_rewards.specs.Withdrawals.{raised_in, outstanding_in, IsFairReward}
use Rattle.law_rewards.{specs.WithdrawalLaws.{IsFairWithdrawal, WithdrawalsAreFair}, proofs.Denominations.step_parts}
use Rattle.law_rewards.proofs.Reached.{deeds_lead_on, rewards_are_bracketed, cut_is_bounded}
use Rattle.law_rewards.proofs.Claims.{IsReady, ready_in, IsEnded, closed_account, closed_history, closed_full, due_parts, some_of, start_with, own_start}
use Rattle.law_rewards.proofs.{Endings.{state_then, closed_is, end_is}, Quiet.same_ok, Rising.raised_reached}
use Rattle.law_rewards.proofs.Holding.{outstanding_reached}
use Rattle.law_rewards.specs.Account as deed

-- ---- what a withdrawal answers and leaves

abbrev pub paid_with : Validator → List ℕ → Money × Shared × View × Log → Money × Purses → Money × Shared × View × Log
paid_with v who q r =
    let coins = whole_coins r.0 in
    let to = payee_of q.1 who in (
      coins,
      record q.1 { rewards = without_start who v.operator q.1.rewards; purses = r.1 },
      noted (fact.Paid who v.operator to r.0 coins) (over_facts (pooled_told (fractions r.0)) (paid_to to coins q.2)),
      q.3 ++ (v.operator, log.withdrawn who to q.0 (purse_of q.1.purses v.operator).outstanding) ∷ [],
    )

-- what leaves is the smaller of the reward and of what is outstanding
smaller_paid : (op : List ℕ) (full : Money) (p : Purses) (z : Money × Purses) → paid_out op full p ≡ Ok z → z.0 ≡ smaller_of full (purse_of p op).outstanding
smaller_paid op full p z e =
    let old : Purse = purse_of p op in
    let reward : Money = smaller_of full old.outstanding in
    let less : Purse = record old { outstanding = coins_taken old.outstanding reward } in
    let one : (q : Purses) × (pool_joined (fractions reward) (with_purse op less p) ≡ Ok q) × (Path (Result (Money × Purses) Over) (Ok (reward, q)) (Ok z)) =
    step_parts (pool_joined (fractions reward) (with_purse op less p)) (λ q. Ok (reward, q)) z e in
    ap (λ x. x.0) (sym (same_ok (reward, one.0) z one.2))

-- a withdrawal: the end of the period, the reward up to it, and the payment
pub record IsMade (v : Validator) (who : List ℕ) (shares : ℕ) (s : Shared) (u : View) (y : Money × Shared × View × Log) : Type 0 where
  pub z : ℕ × Shared × View × Log
  pub ends : ended v s u ≡ Ok z
  pub full : Money
  pub due : reward_due v who shares s u ≡ Ok (full, z.1, z.2, z.3)
  pub is_full : reward_at (start_of z.1.rewards who v.operator) (periods_of z.1.rewards v.operator) z.0 z.2.ctx.height (value_even_of v.tokens v.shares shares) ≡ Ok full
  pub paid : Money × Purses
  pub reward_is : paid.0 ≡ smaller_of full (purse_of z.1.purses v.operator).outstanding
  pub answer_is : y ≡ paid_with v who (full, z.1, z.2, z.3) paid

pub made_is : (v : Validator) (who : List ℕ) (shares : ℕ) (s : Shared) (u : View) (y : Money × Shared × View × Log) → reward_withdrawn v who shares s u ≡ Ok y → IsMade v who shares s u y
made_is v who shares s u y e =
    let one : (q : Money × Shared × View × Log) × (reward_due v who shares s u ≡ Ok q) × ((paid_out v.operator q.0 q.1.purses >>= λ r. Ok (paid_with v who q r)) ≡ Ok y) =
    step_parts (reward_due v who shares s u) (λ q. paid_out v.operator q.0 q.1.purses >>= λ r. Ok (paid_with v who q r)) y e in
    let q : Money × Shared × View × Log = one.0 in
    let due : (z : ℕ × Shared × View × Log) × (ended v s u ≡ Ok z)
    × (reward_at (start_of z.1.rewards who v.operator) (periods_of z.1.rewards v.operator) z.0 z.2.ctx.height (value_even_of v.tokens v.shares shares) ≡ Ok q.0)
    × ((q.0, z.1, z.2, z.3) ≡ q) = due_parts v who shares s u q one.1 in
    let two : (r : Money × Purses) × (paid_out v.operator q.0 q.1.purses ≡ Ok r) × (Path (Result (Money × Shared × View × Log) Over) (Ok (paid_with v who q r)) (Ok y)) =
    step_parts (paid_out v.operator q.0 q.1.purses) (λ r. Ok (paid_with v who q r)) y one.2 in
    record {
      z = due.0;
      ends = due.1;
      full = q.0;
      due = one.1 ∙ ap (λ p. Ok p) (sym due.3);
      is_full = due.2;
      paid = two.0;
      reward_is = smaller_paid v.operator q.0 q.1.purses two.0 two.1 ∙ ap (λ p. smaller_of q.0 (purse_of p.1.purses v.operator).outstanding) (sym due.3);
      answer_is = sym (same_ok (paid_with v who q two.0) y two.2) ∙ ap (λ p. paid_with v who p two.0) (sym due.3);
    }

-- ---- where the period has ended, in one denomination

record IsFairIn (d : List ℕ) (w : State) (v : Validator) (who : List ℕ) (full : Money) (z : ℕ × Shared × View × Log) : Type 0 where
  money : IsMoney full
  span : Span
  is : span_of who (history_of v.operator (w.log ++ z.3) []) None ≡ Some span
  bracketed : Brackets d span (amount_of full d)
  cut : 10 ^ 18 * (amount_of full d - amount_of (purse_of z.1.purses v.operator).outstanding d)
      ≤ overclaim_of d (history_of v.operator (w.log ++ z.3) []) (ratio_at (periods_of z.1.rewards v.operator).ratios z.0)
  told : amount_of (purse_of z.1.purses v.operator).outstanding d ≡ outstanding_in d (history_of v.operator (w.log ++ z.3) [])
  raised : amount_of (ratio_at (periods_of z.1.rewards v.operator).ratios z.0) d ≡ raised_in d (history_of v.operator (w.log ++ z.3) [])
  payees : z.1.withdraw ≡ w.hooks.0.withdraw

fair_in : (d : List ℕ) (w : State) (v : Validator) (who : List ℕ) (shares : ℕ) (full : Money) (z : ℕ × Shared × View × Log) → IsReady w v.operator → validator_at w.mine.staked v.operator ≡ Some v
    → delegation w.mine.staked who v.operator ≡ Some shares → AreReached w → ended v w.hooks.0 w.view ≡ Ok z
    → reward_at (start_of z.1.rewards who v.operator) (periods_of z.1.rewards v.operator) z.0 z.2.ctx.height (value_even_of v.tokens v.shares shares) ≡ Ok full → IsFairIn d w v who full z
fair_in d w v who shares full z ready found held reached ends reward =
    let op : List ℕ = v.operator in
    let k : IsEnded d v w.hooks.0 w.view z = end_is d w v z ready ends in
    let a : Account = closed_account d w v k.increment k.ratio in
    let starts : List Start = starts_in w.mine.staked w.hooks.0.rewards op in
    let closed : IsReached d a =
    deeds_lead_on d (account_in d w v) (deed.ending k.increment k.ratio ∷ []) (reached d v found) (record { increment_is = k.increment_is; ratio_is = k.ratio_is }, tt) in
    let some : (info : StartingInfo) × (start_of w.hooks.0.rewards who op ≡ Some info) = some_of (start_of w.hooks.0.rewards who op) (ready.starts who ∙ ap is_some held) in
    let start : Start = record { who = who; shares = shares; info = some.0 } in
    let own : start_with w v who some.0 ≡ start = ap (λ o. let s : Start = record { who = who; shares = unwrap_or o 0; info = some.0 } in s) held in
    let bracketed : IsStartBracketed d a start =
    subst (IsStartBracketed d a) own (own_start w v who some.0 (IsStartBracketed d a) some.1 (recursion_from_All (IsStartBracketed d a) starts (rewards_are_bracketed d a closed refl))) in
    let cut : IsCutWithin d a start =
    subst (IsCutWithin d a) own (own_start w v who some.0 (IsCutWithin d a) some.1 (recursion_from_All (IsCutWithin d a) starts (cut_is_bounded d a closed))) in
    let goes : IsMoney full × (amount_of full d ≡ reward_now d a start) = closed_full d w v who shares some.0 full z k ready some.1 reward in
    let amount : amount_of full d ≡ reward_now d a start = goes.1 in
    let history : history_of op (w.log ++ z.3) [] ≡ a.history = closed_history d w v z k in
    let is : account_in d (state_then w z) v ≡ a = closed_is d w v z k in
    let left : amount_of (purse_of z.1.purses op).outstanding d ≡ a.outstanding = ap (λ x. x.outstanding) is in
    let over : overclaim_of d (history_of op (w.log ++ z.3) []) (ratio_at (periods_of z.1.rewards op).ratios z.0) ≡ overclaim d a =
    ap (λ x. overclaim_of d x.history (ratio_at x.periods.ratios z.0)) is ∙ ap (λ n. overclaim_of d a.history (ratio_at a.periods.ratios n)) k.period in
    record {
      money = goes.0;
      span = bracketed.span;
      is = ap (λ es. span_of who es None) history ∙ bracketed.is;
      bracketed = subst (λ n. Brackets d bracketed.span n) (sym amount) bracketed.brackets;
      cut = cut_then (amount_of full d) (reward_now d a start) (amount_of (purse_of z.1.purses op).outstanding d) a.outstanding
          (overclaim_of d (history_of op (w.log ++ z.3) []) (ratio_at (periods_of z.1.rewards op).ratios z.0)) (overclaim d a) amount left over cut;
      told = left ∙ outstanding_reached d a closed ∙ ap (outstanding_in d) (sym history);
      raised = ap (λ x. amount_of (ratio_at x.periods.ratios z.0) d) is ∙ ap (λ n. amount_of (ratio_at a.periods.ratios n) d) k.period
          ∙ raised_reached d a closed ∙ ap (raised_in d) (sym history);
      payees = k.payees;
    }
  where
    cut_then : (full reward left outstanding over most : ℕ) → full ≡ reward → left ≡ outstanding → over ≡ most → 10 ^ 18 * (reward - outstanding) ≤ most → 10 ^ 18 * (full - left) ≤ over
    cut_then full reward left outstanding over most e f g h = omega arith

-- ---- the withdrawal

pub fair_withdrawal : (w : State) (v : Validator) (who : List ℕ) (shares : ℕ) (y : Money × Shared × View × Log) → IsReady w v.operator → validator_at w.mine.staked v.operator ≡ Some v
    → delegation w.mine.staked who v.operator ≡ Some shares → AreReached w → reward_withdrawn v who shares w.hooks.0 w.view ≡ Ok y → IsFairWithdrawal w v who shares y
fair_withdrawal w v who shares y ready found held reached e =
    let m : IsMade v who shares w.hooks.0 w.view y = made_is v who shares w.hooks.0 w.view y e in
    let f : (d : List ℕ) → IsFairIn d w v who m.full m.z = λ d. fair_in d w v who shares m.full m.z ready found held reached m.ends m.is_full in
    let coins : y.0 ≡ whole_coins m.paid.0 = ap (λ x. x.0) m.answer_is in
    record {
      period = m.z.0;
      closed = m.z.1;
      ground = m.z.2;
      more = m.z.3;
      ends = m.ends;
      full = m.full;
      due = m.due;
      full_is = (f []).money;
      span = (f []).span;
      is = (f []).is;
      bracketed = λ d. subst (λ s. Brackets d s (amount_of m.full d)) (same_span (f d).span (f []).span (span_of who (history_of v.operator (w.log ++ m.z.3) []) None) (f d).is (f []).is) (f d).bracketed;
      cut = λ d. (f d).cut;
      outstanding_is = λ d. (f d).told;
      ratio_is = λ d. (f d).raised;
      payee_is = ap (λ es. unwrap_or (at addr_cmp es who) who) (f []).payees;
      reward = m.paid.0;
      reward_is = m.reward_is;
      coins_are = coins;
      told = ap (λ x. x.2) m.answer_is
          ∙ ap (λ c. noted (fact.Paid who v.operator (payee_of m.z.1 who) m.paid.0 c) (over_facts (pooled_told (fractions m.paid.0)) (paid_to (payee_of m.z.1 who) c m.z.2))) (sym coins);
      logged = ap (λ x. x.3) m.answer_is;
    }
  where
    same_span : (s t : Span) (o : Option Span) → o ≡ Some s → o ≡ Some t → s ≡ t
    same_span s t o e f = let both : Path (Option Span) (Some s) (Some t) = sym e ∙ f in cc

-- so its entry is
pub fair_reward : (w : State) (v : Validator) (who : List ℕ) (shares : ℕ) (y : Money × Shared × View × Log) → (k : IsFairWithdrawal w v who shares y)
    → IsFairReward (w.log ++ k.more) who v.operator k.full (purse_of k.closed.purses v.operator).outstanding
fair_reward w v who shares y k = record {
  full_is = k.full_is;
  span = k.span;
  is = k.is;
  bracketed = k.bracketed;
  outstanding_is = k.outstanding_is;
  cut = λ d. subst (λ n. 10 ^ 18 * (amount_of k.full d - amount_of (purse_of k.closed.purses v.operator).outstanding d) ≤ count_where is_left (history_of v.operator (w.log ++ k.more) []) * n) (k.ratio_is d) (k.cut d);
}

pub withdrawals_are_fair : WithdrawalsAreFair
withdrawals_are_fair = λ w v who shares answer sound reached found held e. fair_withdrawal w v who shares answer (ready_in w v.operator sound) found held reached e
