-- Of two runs, rewards with the same start, allocations and slashes have the same ideal, and are within the slack of one another.
use Rattle.std.proofs.Common.{◌≡◌, ◌∙◌, ℕ, ◌+◌, ◌*◌, ◌^◌, ◌<◌, ◌≤◌, List, [], ◌∷◌, ◌++◌, Result, Ok, Err, sym, ap, subst, arith, append-nil, append_assoc, IfOk}
use Rattle.std.proofs.{Math.Nat.{le_of_mul-le-mul_right, mul-le-mul_right}, lemmas.List.append_cancel_left}
use Rattle.base_decimals.specs.Fractions.{Fraction, fraction_of, IsAtMost}
use Rattle.base_coins.specs.Coins.{amount_of}
use Rattle.base_shares.specs.Burns.{plus}
use Rattle.base_roles.specs.Log.{Log, LogEntry}
use Rattle.base_roles.specs.Log as log
use Rattle.base_messages.specs.declared.{block.Block.Block, faults.BlockFault.BlockFault}
use Rattle.rule_machine.specs.{Machine.{Step, going_on, run_of, step}, Promises.Replayed}
use Rattle.rule_modules.specs.{Chain.State, Ideal.{Brackets, Span, ideal_reward, slack_of}}
use Rattle.law_rewards.{specs.Withdrawals.{AreFair, IsFairEntry}, proofs.Acts.moments_do_not_matter}
use Rattle.law_rewards.proofs.{Finding.in_turn_at, Paying.fair_joined}
use Rattle.law_runs.specs.Moments.{Agree, AreAlike, HaveOneIdeal, IsFair, LogsFairly, MomentsOfRunsDoNotMatter, RunsLogFairly, Withdrawal}
use Rattle.law_runs.{specs.{Runs.SaysFairly, RunLaws.RunSaysFairly}, proofs.Saying.runs_say_fairly}

-- ---- two spans

within_times : (n i by u low x : ℕ) → 0 < by → n * by ≤ i * u → i * (u * low) ≤ x * by → n * (u * low) ≤ x * u
within_times n i by u low x some h k =
    let one : n * by * (u * low) ≤ i * u * (u * low) = mul-le-mul_right (u * low) h in
    let two : i * (u * low) * u ≤ x * by * u = mul-le-mul_right u k in
    let all : n * (u * low) * by ≤ x * u * by = omega (arith, one, two) in
    le_of_mul-le-mul_right all some

bracketed_within : (d : List ℕ) (s t : Span) (n m : ℕ) → ideal_reward d s ≡ ideal_reward d t → Brackets d s n → Brackets d t m → IsAtMost (fraction_of n) (plus (fraction_of m) (slack_of d t))
bracketed_within d s t n m same b c =
    let i : Fraction = ideal_reward d t in
    let slack : Fraction = slack_of d t in
    let low : IsAtMost (fraction_of n) i = subst (λ f. IsAtMost (fraction_of n) f) same b.at_most in
    within_times n i.numerator i.denominator (10 ^ 18) slack.denominator (m * slack.denominator + slack.numerator * 10 ^ 18) c.reward_is low c.at_least

-- the ideal depends on the first stake, allocations and slashes alone
one_ideal : (d : List ℕ) (s t : Span) → AreAlike s t → ideal_reward d s ≡ ideal_reward d t
one_ideal d s t k =
    moments_do_not_matter d s.first s.entries t.entries k.shared ∙ ap (λ f. ideal_reward d (record { first = f; entries = t.entries })) k.first

have_one : (d : List ℕ) (s t : Span) → AreAlike s t → HaveOneIdeal d s t
have_one d s t k = record { ideal = one_ideal d s t k; within = λ n m b c. bracketed_within d s t n m (one_ideal d s t k) b c }

-- ---- what runs log

record LogsOn (w end : State) : Type 0 where
  more : Log
  log_is : end.log ≡ w.log ++ more
  fair : AreFair w.log more

logs_nothing : (w : State) → LogsOn w w
logs_nothing w = record { more = []; log_is = sym (append-nil w.log); fair = tt }

logs_then : (w : State) (s : Step) (end : State) → SaysFairly w s → LogsOn s.state end → LogsOn w end
logs_then w s end g k = record {
  more = g.more ++ k.more;
  log_is = k.log_is ∙ ap (λ l. l ++ k.more) g.log_is ∙ append_assoc w.log g.more k.more;
  fair = fair_joined w.log g.more k.more g.fair (subst (λ l. AreFair l k.more) g.log_is k.fair);
}

run_logs : (blocks : List Block) (w : State) → RunSaysFairly blocks w → LogsOn w (run_of blocks w).state
run_logs [] w h = logs_nothing w
run_logs (b ∷ blocks) w h = by (step b w) h (λ u k. run_logs blocks u k)
  where
    by : (q : Result Step BlockFault) → IfOk q (λ s. SaysFairly w s × RunSaysFairly blocks s.state) → ((u : State) → RunSaysFairly blocks u → LogsOn u (run_of blocks u).state) → LogsOn w (going_on w q (λ u. run_of blocks u)).state
    by (Ok s) k rest = logs_then w s (run_of blocks s.state).state k.0 (rest s.state k.1)
    by (Err fault) k rest = logs_nothing w

pub runs_log_fairly : RunsLogFairly
runs_log_fairly = λ r. let k = run_logs r.blocks r.start.state (runs_say_fairly r) in record { more = k.more; log_is = k.log_is; fair = k.fair }

-- ---- withdrawals

is_fair : (r : Replayed) (a : Withdrawal r) → IsFair r a
is_fair r a =
    let k : LogsFairly r = runs_log_fairly r in
    let entry : List ℕ × LogEntry = (a.operator, log.withdrawn a.who a.payee a.full a.outstanding) in
    let parts : k.more ≡ a.earlier ++ entry ∷ a.later = append_cancel_left r.start.state.log k.more (a.earlier ++ entry ∷ a.later) (sym k.log_is ∙ a.log_is ∙ append_assoc r.start.state.log a.earlier (entry ∷ a.later)) in
    in_turn_at (λ before e. IsFairEntry before e.0 e.1) r.start.state.log a.earlier entry a.later (subst (λ m. AreFair r.start.state.log m) parts k.fair)

agree : (r q : Replayed) (a : Withdrawal r) (b : Withdrawal q) → Agree r q a b
agree r q a b = record {
  one = is_fair r a;
  other = is_fair q b;
  ideal = λ alike d. have_one d (is_fair r a).span (is_fair q b).span alike;
  rewards = λ alike d. bracketed_within d (is_fair r a).span (is_fair q b).span (amount_of a.full d) (amount_of b.full d) (one_ideal d (is_fair r a).span (is_fair q b).span alike) ((is_fair r a).bracketed d) ((is_fair q b).bracketed d);
}

pub moments_of_runs_do_not_matter : MomentsOfRunsDoNotMatter
moments_of_runs_do_not_matter = record {
  spans = λ r q a b alike d. have_one d a.span b.span alike;
  withdrawals = agree;
}
