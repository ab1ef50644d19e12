-- What hooks tell of like records of distribution and of signing is alike, and so are the rules of distribution.
use Rattle.std.proofs.Common.{◌≡◌, ◌∙◌, ℕ, ◌-◌, List, [], ◌∷◌, ◌++◌, Option, Some, None, Result, Ok, Err, refl, sym, ap, subst}
use Rattle.base_decimals.specs.declared.over.Over.{Over}
use Rattle.base_coins.specs.Coins.{Money, fractions, smaller_of, whole_coins}
use Rattle.base_shares.specs.Shares.{value_cut_of, value_even_of}
use Rattle.base_roles.specs.{declared.entities.{StartingInfo.StartingInfo, Validator.Validator}, Flow.{◌>>=◌}}
use Rattle.base_roles.specs.{Items.no_purse, Log.Log, Pair.{and_then, given_with}}
use Rattle.base_roles.specs.{World.{View, Told, gives, exceeds, noted}, declared.calls.Hook.Hook}
use Rattle.base_roles.specs.declared.facts.Fact.TheVariants as fact
use Rattle.base_roles.specs.Log as log
use Rattle.base_roles.specs.declared.calls.Hook.TheVariants as hook
use Rattle.rule_modules.specs.{Amounts.over_facts, Chain.{Hooks, chain_told}}
use Rattle.rule_modules.specs.Distribution.{Shared, current_taken, distribution_told, ended, left_by, paid_to, payee_of, pending, records_made, records_removed, reward_due, reward_renewed, reward_withdrawn, slash_recorded, started, told_of, unlogged}
use Rattle.rule_modules.specs.Periods.{Periods, Rewards, event_recorded, initial_records, last_ended, period_ended, periods_of, reward_at, start_of, with_periods, with_start, without_start}
use Rattle.rule_modules.specs.Purses.{Purses, closed, paid_out, pooled_told, purse_of, with_purse}
use Rattle.rule_modules.specs.Window.{Window, window_told}
use Rattle.store_resuming.proofs.RewardLemmas.{PeriodsAlike, RewardsAlike, gone_alike, one_self, own, period_alike, periods_put, put_alike, recorded_alike, reward_same, start_alike, without_alike}
use Rattle.store_resuming.proofs.SideLemmas.{AreAlike, TellAlike, ToldAlike, same_then_alike, then_alike, weaker_alike}
use Rattle.store_resuming.proofs.WindowLemmas.{WindowsAlike, window_tells}

-- like rewards, and the same purses and payees
pub record SharedAlike (d e : Shared) : Type 0 where
  pub rewards : RewardsAlike d.rewards e.rewards
  pub purses : d.purses ≡ e.purses
  pub withdraw : d.withdraw ≡ e.withdraw

-- the rewards of one with all else of another
abbrev pub with_rewards : Rewards → Shared → Shared
with_rewards r d = record { rewards = r; purses = d.purses; withdraw = d.withdraw }

pub beside : (d e : Shared) → SharedAlike d e → SharedAlike d (with_rewards e.rewards d)
beside d e a = record { rewards = a.rewards; purses = refl; withdraw = refl }

-- so it suffices to speak of one with the rewards of another
pub shared_by : (d e : Shared) → SharedAlike d e → (F : Shared → Type 0) → F (with_rewards e.rewards d) → F e
shared_by d e a F h = subst F (λ i. record { rewards = e.rewards; purses = a.purses i; withdraw = a.withdraw i }) h

abbrev pub Left : Type 0 → Type 0
Left A = A × Shared × View × Log

-- the same answer, ground and log, beside like records
abbrev pub FourAlike : {A : Type 0} → Left A → Left A → Type 0
FourAlike p q = (p.0 ≡ q.0) × SharedAlike p.1 q.1 × (p.2 ≡ q.2) × (p.3 ≡ q.3)

abbrev pub ThreeAlike : Shared × View × Log → Shared × View × Log → Type 0
ThreeAlike p q = SharedAlike p.0 q.0 × (p.1 ≡ q.1) × (p.2 ≡ q.2)

abbrev TwoAlike : Shared × View → Shared × View → Type 0
TwoAlike p q = SharedAlike p.0 q.0 × (p.1 ≡ q.1)

pub four_by : {A : Type 0} (p q : Left A) → FourAlike p q → (F : Left A → Type 0) → F (p.0, with_rewards q.1.rewards p.1, p.2, p.3) → F q
four_by {A = A} p q h F k = subst F path k
  where
    path : ◌≡◌ {A = Left A} (p.0, with_rewards q.1.rewards p.1, p.2, p.3) q
    path = λ i. (h.0 i, record { rewards = q.1.rewards; purses = h.1.purses i; withdraw = h.1.withdraw i }, h.2 i, h.3 i)

same_of : {A E : Type 0} (r q : Result A E) → AreAlike (λ (a b : A). a ≡ b) r q → r ≡ q
same_of (Ok a) (Ok b) h = λ i. Ok (h i)
same_of (Ok a) (Err e) h = absurd h
same_of (Err d) (Ok b) h = absurd h
same_of (Err d) (Err e) h = λ i. Err (h i)

-- ---- the rules

module _ (val : Validator) where
  -- and the period that ended is the last one
  abbrev EndedAlike : Left ℕ → Left ℕ → Type 0
  EndedAlike p q = FourAlike p q × (p.0 ≡ last_ended (periods_of p.1.rewards val.operator))

  ended_alike : (d e : Shared) (v : View) → SharedAlike d e → AreAlike EndedAlike (ended val d v) (ended val e v)
  ended_alike d e v a =
      shared_by d e a (λ (z : Shared). AreAlike EndedAlike (ended val d v) (ended val z v))
      (same_then_alike EndedAlike (current_taken val d.purses) (current_taken val d.purses) _ _ refl (λ t.
      then_alike (λ (x y : Money × Periods). (x.0 ≡ y.0) × PeriodsAlike d.rewards.starts val.operator x.1 y.1) EndedAlike (period_ended t.0 (periods_of d.rewards val.operator)) (period_ended t.0 (periods_of e.rewards val.operator)) _ _
      (period_alike d.rewards.starts val.operator (periods_of d.rewards val.operator) (periods_of e.rewards val.operator) (own d.rewards e.rewards a.rewards val.operator) t.0) (λ x y k. (
        (
          ap (λ n. n - 1) k.1.current,
          record { rewards = put_alike d.rewards e.rewards a.rewards val.operator x.1 y.1 k.1; purses = refl; withdraw = refl },
          (λ i. noted (fact.Period val.operator (k.1.current i - 1) (k.0 i)) (over_facts (pooled_told t.1) v)),
          (λ i. (val.operator, log.ended (k.1.current i - 1) t.0 val.tokens) ∷ []),
        ),
        sym (ap (λ (z : Periods). last_ended z) (periods_put d.rewards val.operator x.1)),
      ))))

  module _ (delegator : List ℕ) (shares : ℕ) where
    due_alike : (d e : Shared) (v : View) → SharedAlike d e → AreAlike FourAlike (reward_due val delegator shares d v) (reward_due val delegator shares e v)
    due_alike d e v a =
        let value = value_even_of val.tokens val.shares shares in
        then_alike EndedAlike FourAlike (ended val d v) (ended val e v) _ _ (ended_alike d e v a) (λ p q h.
        let of_p : ℕ → Result Money Over = λ n. reward_at (start_of p.1.rewards delegator val.operator) (periods_of p.1.rewards val.operator) n p.2.ctx.height value in
        let of_q : ℕ → ℕ → Result Money Over = λ n height. reward_at (start_of q.1.rewards delegator val.operator) (periods_of q.1.rewards val.operator) n height value in
        let same : of_p p.0 ≡ of_q q.0 q.2.ctx.height =
        ap of_p h.1 ∙ reward_same p.1.rewards q.1.rewards h.0.1.rewards val.operator delegator p.2.ctx.height value ∙ (λ i. of_q ((sym h.1 ∙ h.0.0) i) (h.0.2 i).ctx.height) in
        same_then_alike FourAlike (of_p p.0) (of_q q.0 q.2.ctx.height) _ _ same (λ full. (refl, h.0.1, h.0.2, h.0.3)))

    -- what a withdrawal would come to is one
    pub pending_same : (d e : Shared) (v : View) → SharedAlike d e → pending val delegator shares d v ≡ pending val delegator shares e v
    pending_same d e v a =
        same_of (pending val delegator shares d v) (pending val delegator shares e v)
        (then_alike FourAlike (λ (m n : Money). m ≡ n) (reward_due val delegator shares d v) (reward_due val delegator shares e v) _ _ (due_alike d e v a)
        (λ p q h. λ i. smaller_of (h.0 i) (purse_of (h.1.purses i) val.operator).outstanding))

    -- what a withdrawal does with the reward that is due
    abbrev withdrawing : Left Money → Result (Left Money) Over
    withdrawing p = do
      (reward, purses) ← paid_out val.operator p.0 p.1.purses
      let coins = whole_coins reward
      let to = payee_of p.1 delegator
      let entry = log.withdrawn delegator to p.0 (purse_of p.1.purses val.operator).outstanding
      let v2 = over_facts (pooled_told (fractions reward)) (paid_to to coins p.2)
      let d2 = record p.1 { rewards = without_start delegator val.operator p.1.rewards; purses = purses }
      Ok (coins, d2, noted (fact.Paid delegator val.operator to reward coins) v2, p.3 ++ (val.operator, entry) ∷ [])

    pub withdrawn_alike : (d e : Shared) (v : View) → SharedAlike d e → AreAlike FourAlike (reward_withdrawn val delegator shares d v) (reward_withdrawn val delegator shares e v)
    withdrawn_alike d e v a =
        then_alike FourAlike FourAlike (reward_due val delegator shares d v) (reward_due val delegator shares e v) withdrawing withdrawing (due_alike d e v a) (λ p q h.
        four_by p q h (λ (z : Left Money). AreAlike FourAlike (withdrawing p) (withdrawing z))
        (same_then_alike FourAlike (paid_out val.operator p.0 p.1.purses) (paid_out val.operator p.0 p.1.purses) _ _ refl (λ t.
        (refl, record { rewards = gone_alike p.1.rewards q.1.rewards h.1.rewards delegator val.operator; purses = refl; withdraw = refl }, refl, refl))))

    pub started_alike : (d e : Shared) (v : View) → SharedAlike d e → ThreeAlike (started val delegator shares d v) (started val delegator shares e v)
    started_alike d e v a =
        let x : Rewards = d.rewards in
        let y : Rewards = e.rewards in
        let k : PeriodsAlike x.starts val.operator (periods_of x val.operator) (periods_of y val.operator) = own x y a.rewards val.operator in
        let stake : ℕ = value_cut_of val.tokens val.shares shares in
        let info : ℕ → StartingInfo = λ n. record { period = n - 1; stake = stake; height = v.ctx.height } in
        shared_by d e a (λ (z : Shared). ThreeAlike (started val delegator shares d v) (started val delegator shares z v)) (
          record {
            rewards = subst (λ n. RewardsAlike (with_start delegator val.operator (info (periods_of x val.operator).current) x) (with_start delegator val.operator (info n) y)) k.current
                (start_alike x y a.rewards delegator val.operator (info (periods_of x val.operator).current) refl);
            purses = refl;
            withdraw = refl;
          },
          (λ i. noted (fact.Started delegator val.operator (k.current i - 1) stake) v),
          refl,
        )

    abbrev renewing : Left Money → Left Money
    renewing p = let more = started val delegator shares p.1 p.2 in (p.0, more.0, more.1, p.3 ++ more.2)

    renewing_alike : (p q : Left Money) → FourAlike p q → FourAlike (renewing p) (renewing q)
    renewing_alike p q h =
        four_by p q h (λ (z : Left Money). FourAlike (renewing p) (renewing z))
        (let more = started_alike p.1 (with_rewards q.1.rewards p.1) p.2 (beside p.1 q.1 h.1) in
        (refl, more.0, more.1, ap (λ (m : Log). p.3 ++ m) more.2))

    pub renewed_alike : (d e : Shared) (v : View) → SharedAlike d e → AreAlike FourAlike (reward_renewed val delegator shares d v) (reward_renewed val delegator shares e v)
    renewed_alike d e v a = then_alike FourAlike FourAlike (reward_withdrawn val delegator shares d v) (reward_withdrawn val delegator shares e v) _ _ (withdrawn_alike d e v a) (λ p q h. renewing_alike p q h)

  abbrev recording : ℕ → Left ℕ → Shared × View × Log
  recording fraction p =
      let periods = event_recorded p.2.ctx.height fraction (periods_of p.1.rewards val.operator) in
      (record p.1 { rewards = with_periods val.operator periods p.1.rewards }, p.2, p.3)

  recording_alike : (fraction : ℕ) (p q : Left ℕ) → FourAlike p q → ThreeAlike (recording fraction p) (recording fraction q)
  recording_alike fraction p q h =
      let x : Rewards = p.1.rewards in
      let y : Rewards = q.1.rewards in
      let one : Periods = periods_of x val.operator in
      let other : Periods = periods_of y val.operator in
      four_by p q h (λ (z : Left ℕ). ThreeAlike (recording fraction p) (recording fraction z)) (
        record {
          rewards = put_alike x y h.1.rewards val.operator (event_recorded p.2.ctx.height fraction one) (event_recorded p.2.ctx.height fraction other) (recorded_alike x.starts val.operator one other (own x y h.1.rewards val.operator) p.2.ctx.height fraction);
          purses = refl;
          withdraw = refl;
        },
        refl,
        refl,
      )

  slash_alike : (fraction : ℕ) (d e : Shared) (v : View) → SharedAlike d e → AreAlike ThreeAlike (slash_recorded val fraction d v) (slash_recorded val fraction e v)
  slash_alike fraction d e v a = then_alike EndedAlike ThreeAlike (ended val d v) (ended val e v) _ _ (ended_alike d e v a) (λ p q h. recording_alike fraction p q h.0)

  removed_alike : (d e : Shared) (v : View) → SharedAlike d e → AreAlike TwoAlike (records_removed val d v) (records_removed val e v)
  removed_alike d e v a =
      shared_by d e a (λ (z : Shared). AreAlike TwoAlike (records_removed val d v) (records_removed val z v))
      (same_then_alike TwoAlike (closed val.operator d.purses) (closed val.operator d.purses) _ _ refl (λ t.
      (record { rewards = without_alike d.rewards e.rewards a.rewards val.operator; purses = refl; withdraw = refl }, refl)))

  made_alike : (d e : Shared) → SharedAlike d e → SharedAlike (records_made val d) (records_made val e)
  made_alike d e a = record {
    rewards = put_alike d.rewards e.rewards a.rewards val.operator initial_records initial_records (one_self d.rewards.starts val.operator initial_records);
    purses = ap (λ (p : Purses). with_purse val.operator no_purse p) a.purses;
    withdraw = a.withdraw;
  }

-- ---- the hooks

told_alike : (r q : Result (Shared × View × Log) Over) → AreAlike ThreeAlike r q → ToldAlike SharedAlike (told_of r) (told_of q)
told_alike (Ok p) (Ok q) h = (h.0, h.1, h.2)
told_alike (Ok p) (Err e) h = absurd h
told_alike (Err d) (Ok q) h = absurd h
told_alike (Err d) (Err e) h = h

left_alike : {A : Type 0} (r q : Result (Left A) Over) → AreAlike FourAlike r q → AreAlike ThreeAlike (left_by r) (left_by q)
left_alike (Ok p) (Ok q) h = (h.1, h.2, h.3)
left_alike (Ok p) (Err e) h = absurd h
left_alike (Err d) (Ok q) h = absurd h
left_alike (Err d) (Err e) h = h

unlogged_alike : (r q : Result (Shared × View) Over) → AreAlike TwoAlike r q → AreAlike ThreeAlike (unlogged r) (unlogged q)
unlogged_alike (Ok p) (Ok q) h = (h.0, h.1, refl)
unlogged_alike (Ok p) (Err e) h = absurd h
unlogged_alike (Err d) (Ok q) h = absurd h
unlogged_alike (Err d) (Err e) h = h

pub distribution_tells : TellAlike SharedAlike distribution_told
distribution_tells d e a (hook.Created val) v = (made_alike val d e a, refl, refl)
distribution_tells d e a (hook.Removed val) v =
    told_alike (unlogged (records_removed val d v)) (unlogged (records_removed val e v)) (unlogged_alike (records_removed val d v) (records_removed val e v) (removed_alike val d e v a))
distribution_tells d e a (hook.Bonded val) v = (a, refl, refl)
distribution_tells d e a (hook.Starting val delegator) v =
    told_alike (left_by (ended val d v)) (left_by (ended val e v)) (left_alike (ended val d v) (ended val e v) (weaker_alike (EndedAlike val) FourAlike (ended val d v) (ended val e v) (λ p q h. h.0) (ended_alike val d e v a)))
distribution_tells d e a (hook.Modifying val delegator shares) v =
    told_alike (left_by (reward_withdrawn val delegator shares d v)) (left_by (reward_withdrawn val delegator shares e v))
    (left_alike (reward_withdrawn val delegator shares d v) (reward_withdrawn val delegator shares e v) (withdrawn_alike val delegator shares d e v a))
distribution_tells d e a (hook.Modified val delegator shares) v = let h = started_alike val delegator shares d e v a in (h.0, h.1, h.2)
distribution_tells d e a (hook.Slashing val fraction) v = told_alike (slash_recorded val fraction d v) (slash_recorded val fraction e v) (slash_alike val fraction d e v a)

-- what all hooks hold: records of distribution that are alike, and signing records of which the last votes of a window are the same
abbrev pub HooksAlike : ℕ → Hooks → Hooks → Type 0
HooksAlike window h g = SharedAlike h.0 g.0 × WindowsAlike window h.1 g.1

module _ (window : ℕ) where
  given_alike : (d e : Shared) (l : Log) → SharedAlike d e → (t u : Told Window) → ToldAlike (WindowsAlike window) t u → ToldAlike (HooksAlike window) (given_with d l t) (given_with e l u)
  given_alike d e l k (gives i v m) (gives j w n) h = ((k, h.0), h.1, ap (λ (z : Log). l ++ z) h.2)
  given_alike d e l k (gives i v m) (exceeds over) h = absurd h
  given_alike d e l k (exceeds over) (gives j w n) h = absurd h
  given_alike d e l k (exceeds over) (exceeds other) h = h

  pub chain_tells : TellAlike (HooksAlike window) chain_told
  chain_tells h g a hook v = by (distribution_told h.0 hook v) (distribution_told g.0 hook v) (distribution_tells h.0 g.0 a.0 hook v)
    where
      by : (t u : Told Shared) → ToldAlike SharedAlike t u
          → ToldAlike (HooksAlike window) (and_then t (λ d w log. given_with d log (window_told h.1 hook w))) (and_then u (λ d w log. given_with d log (window_told g.1 hook w)))
      by (gives d w l) (gives e x m) k =
          subst (λ (y : View). ToldAlike (HooksAlike window) (given_with d l (window_told h.1 hook w)) (given_with e m (window_told g.1 hook y))) k.1
          (subst (λ (y : Log). ToldAlike (HooksAlike window) (given_with d l (window_told h.1 hook w)) (given_with e y (window_told g.1 hook w))) k.2
          (given_alike d e l k.0 (window_told h.1 hook w) (window_told g.1 hook w) (window_tells window h.1 g.1 a.1 hook w)))
      by (gives d w l) (exceeds over) k = absurd k
      by (exceeds over) (gives e x m) k = absurd k
      by (exceeds over) (exceeds other) k = k
