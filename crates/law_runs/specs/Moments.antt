-- What the moments at which others withdraw do to a reward, from one run to another: its ideal stays, so
-- nothing but the slack.
use Rattle.std.specs.Prelude.{◌≡◌, ℕ, List, [], ◌∷◌, ◌++◌, Some, None}
use Rattle.base_decimals.specs.Fractions.{fraction_of, IsAtMost}
use Rattle.base_coins.specs.Coins.{Money, amount_of}
use Rattle.base_shares.specs.Burns.{plus}
use Rattle.base_roles.specs.Log.{Log}
use Rattle.base_roles.specs.Log as log
use Rattle.rule_modules.specs.Ideal.{Span, Brackets, span_of, history_of, ideal_reward, slack_of}
use Rattle.rule_machine.specs.Promises.{Replayed, run_in}
use Rattle.law_rewards.specs.Sharing.{shared_among}
use Rattle.law_rewards.specs.Withdrawals.{AreFair, IsFairReward}

-- ---- two spans

-- Two spans begin with the same ideal stake, and since then the same went on: in the same order the same
-- allocations to delegators and the same slashes, of the same tokens. When periods ended, who withdrew,
-- whose shares came and left, and what was commission may differ.
pub record AreAlike (s t : Span) : Type 0 where
  pub first : s.first ≡ t.first
  pub shared : shared_among s.entries ≡ shared_among t.entries

-- The ideal rewards of two spans are the same; so a reward that lies in the bracket of the one is at most
-- any that lies in the bracket of the other, and that one's slack.
pub record HaveOneIdeal (d : List ℕ) (s t : Span) : Type 0 where
  pub ideal : ideal_reward d s ≡ ideal_reward d t
  pub within : (n m : ℕ) → Brackets d s n → Brackets d t m
      → IsAtMost (fraction_of n) (plus (fraction_of m) (slack_of d t))

-- ---- in runs

-- At a moment of a run, by the log up to it, a delegator's rewards run, since the start of this span.
pub record Moment (r : Replayed) : Type 0 where
  pub before : Log
  pub later : Log
  pub log_is : (run_in r).state.log ≡ before ++ later
  pub who : List ℕ
  pub operator : List ℕ
  pub span : Span
  pub is : span_of who (history_of operator before []) None ≡ Some span

-- A withdrawal that a run logs behind its genesis.
pub record Withdrawal (r : Replayed) : Type 0 where
  pub earlier : Log
  pub later : Log
  pub who : List ℕ
  pub operator : List ℕ
  pub payee : List ℕ
  pub full : Money
  pub outstanding : Money
  pub log_is : (run_in r).state.log
      ≡ r.start.state.log ++ earlier ++ (operator, log.withdrawn who payee full outstanding) ∷ later

-- it is fair by the log up to it
abbrev pub IsFair : (r : Replayed) → Withdrawal r → Type 0
IsFair r a = IsFairReward (r.start.state.log ++ a.earlier) a.who a.operator a.full a.outstanding

-- Two withdrawals, each of a run, are fair, so each has its span; and where these are alike, their ideal
-- rewards are the same, and the one full reward is at most the other and its slack.
pub record Agree (r q : Replayed) (a : Withdrawal r) (b : Withdrawal q) : Type 0 where
  pub one : IsFair r a
  pub other : IsFair q b
  pub ideal : AreAlike one.span other.span → (d : List ℕ) → HaveOneIdeal d one.span other.span
  pub rewards : AreAlike one.span other.span → (d : List ℕ)
      → IsAtMost (fraction_of (amount_of a.full d))
      (plus (fraction_of (amount_of b.full d)) (slack_of d other.span))

-- Of any two runs: wherever rewards run in both since the same start, with the same allocations and
-- slashes since, the ideal reward is the same, whatever else happened; so it is for claims at the end
-- of a run, and for withdrawals.
pub record MomentsOfRunsDoNotMatter : Type 0 where
  pub spans : (r q : Replayed) (a : Moment r) (b : Moment q) → AreAlike a.span b.span
      → (d : List ℕ) → HaveOneIdeal d a.span b.span
  pub withdrawals : (r q : Replayed) (a : Withdrawal r) (b : Withdrawal q) → Agree r q a b

-- What a run logs behind its genesis is fair, each entry by the log up to it.
pub record LogsFairly (r : Replayed) : Type 0 where
  pub more : Log
  pub log_is : (run_in r).state.log ≡ r.start.state.log ++ more
  pub fair : AreFair r.start.state.log more

abbrev pub RunsLogFairly : Type 0
RunsLogFairly = (r : Replayed) → LogsFairly r
