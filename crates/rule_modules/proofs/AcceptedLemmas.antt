-- What is so wherever an undelegation or a withdrawal is carried out.
use Rattle.std.proofs.Common.{◌≡◌, ℕ, ◌+◌, ◌<◌, ◌≤◌, ◌==◌, Bool, true, false, List, [], ◌∷◌, ◌++◌, length, Result, Ok, Err, arith, length-append, IfOk, if◌then◌else◌, nat_le}
use Rattle.base_decimals.specs.declared.over.Over.{Over}
use Rattle.base_types.specs.declared.account.Account.{Account}
use Rattle.base_types.specs.declared.account.Account.TheVariants as account
use Rattle.base_types.specs.declared.account.Module.TheVariants as holder
use Rattle.base_coins.specs.{Coins.{Money, fractions, whole_coins}, declared.coin.Coin.Coin}
use Rattle.base_shares.specs.Shares.{value_cut_of, value_even_of}
use Rattle.base_roles.specs.declared.{entities.Validator.Validator, facts.Fact.Fact, refusal.Refusal.Refusal}
use Rattle.base_roles.specs.declared.refusal.Refusal.TheVariants.{NonPositive, NoValidator, NoDelegation, WrongDenom, UnbondingsFull, Overflow}
use Rattle.base_roles.specs.{Flow.{◌>>=◌, stopping}, Holdings.transfer_told, Log.Log}
use Rattle.base_roles.specs.{Staked.{Staked, delegation, validator_at}, World.View}
use Rattle.base_roles.specs.declared.facts.Fact.TheVariants as fact
use Rattle.rule_modules.specs.{Accepted.{UndelegationsFindRoom, WithdrawalsTell}, Amounts.is_empty}
use Rattle.rule_modules.specs.{Chain.{State, chain_told, staked_in}, Conditions.has_most_unbondings}
use Rattle.rule_modules.specs.Delegating.{is_wrong}
use Rattle.rule_modules.specs.Distribution.{Shared, current_taken, ended, payee_of, reward_due, reward_renewed, reward_withdrawn}
use Rattle.rule_modules.specs.Periods.{last_ended, period_ended, periods_of, reward_at, start_of}
use Rattle.rule_modules.specs.{Purses.{paid_out, pooled_told}, Unbonding.shares_to_unbond}
use Rattle.rule_modules.specs.{Unbondings.{entries_of, undelegated}, Withdrawals.reward_taken}
use Rattle.rule_modules.proofs.GoingLemmas.{from_if, if_ok, on_bind, on_found, on_stop}

-- ---- room

-- what is so wherever the first of two steps answers is so wherever both do
so_on : {A B E : Type 0} (r : Result A E) (f : A → Result B E) (P : Type 0) → IfOk r (λ a. P) → IfOk (r >>= f) (λ b. P)
so_on (Ok a) f P h = if_ok (λ b. P) (f a) (λ b e. h)
so_on (Err e) f P h = tt

room_found : (delegator operator : List ℕ) (coin : Coin) (w : State) → IfOk (undelegated chain_told delegator operator coin w.mine.unbondings (staked_in w)) (λ x. has_most_unbondings delegator operator w ≡ false)
room_found delegator operator coin w =
    on_stop (coin.amount == 0) NonPositive _ _ (λ a. on_found (validator_at w.mine.staked operator) NoValidator _ _ (λ v f.
    on_bind (shares_to_unbond (delegation w.mine.staked delegator operator) v coin.amount) _ _ (λ p g. on_stop (is_wrong coin w.view) WrongDenom _ _ (λ b.
    on_stop (nat_le w.view.ctx.params.max_entries (length (entries_of w.mine.unbondings delegator operator))) UnbondingsFull _ _ (λ room. if_ok (λ x. has_most_unbondings delegator operator w ≡ false) _ (λ x e. room))))))

pub undelegations_find_room : UndelegationsFindRoom
undelegations_find_room delegator operator coin w =
    so_on (undelegated chain_told delegator operator coin w.mine.unbondings (staked_in w)) _ (has_most_unbondings delegator operator w ≡ false) (room_found delegator operator coin w)

-- ---- facts

pooled_longer : (coins : Money) (fs : List Fact) → length fs ≤ length (pooled_told coins fs)
pooled_longer coins fs = by (is_empty coins)
  where
    by : (b : Bool) → length fs ≤ length (if b then fs else fs ++ fact.Pooled coins ∷ [])
    by true = omega arith
    by false = let more = length-append fs (fact.Pooled coins ∷ []) in omega (arith, more)

sent_longer : (from to : Account) (coins : Money) (fs : List Fact) → length fs ≤ length (transfer_told from to coins fs)
sent_longer from to [] fs = omega arith
sent_longer from to (c ∷ cs) fs = let more = length-append fs (fact.Transfer from to (c ∷ cs) ∷ []) in omega (arith, more)

-- one fact more, behind facts that are no fewer
one_longer : (n : ℕ) (fs : List Fact) (f : Fact) → n ≤ length fs → n < length (fs ++ f ∷ [])
one_longer n fs f h = let more = length-append fs (f ∷ []) in omega (arith, h, more)

at_most : (a b c : ℕ) → a ≤ b → b ≤ c → a ≤ c
at_most a b c h k = omega (arith, h, k)

less : (a b : ℕ) → a < b → a ≤ b
less a b h = omega (arith, h)

ended_tells : (v : Validator) (d : Shared) (u : View) → IfOk (ended v d u) (λ z. length u.facts < length z.2.facts)
ended_tells v d u =
    on_bind (current_taken v d.purses) _ _ (λ t e. on_bind (period_ended t.0 (periods_of d.rewards v.operator)) _ _ (λ r f.
    one_longer (length u.facts) (pooled_told t.1 u.facts) (fact.Period v.operator (last_ended r.1) r.0) (pooled_longer t.1 u.facts)))

due_tells : (v : Validator) (who : List ℕ) (shares : ℕ) (d : Shared) (u : View) → IfOk (reward_due v who shares d u) (λ q. length u.facts < length q.2.facts)
due_tells v who shares d u =
    on_bind (ended v d u) _ _ (λ z e.
    on_bind (reward_at (start_of z.1.rewards who v.operator) (periods_of z.1.rewards v.operator) z.0 z.2.ctx.height (value_even_of v.tokens v.shares shares)) _ _ (λ full f. from_if (λ y. length u.facts < length y.2.facts) (ended v d u) z e (ended_tells v d u)))

withdrawn_tells : (v : Validator) (who : List ℕ) (shares : ℕ) (d : Shared) (u : View) → IfOk (reward_withdrawn v who shares d u) (λ y. length u.facts < length y.2.facts)
withdrawn_tells v who shares d u =
    on_bind (reward_due v who shares d u) _ _ (λ q e. on_bind (paid_out v.operator q.0 q.1.purses) _ _ (λ r f.
    let first : length u.facts < length q.2.facts = from_if (λ y. length u.facts < length y.2.facts) (reward_due v who shares d u) q e (due_tells v who shares d u) in
    let from : Account = account.Module holder.Distribution in
    let to : Account = account.User (payee_of q.1 who) in
    let coins : Money = whole_coins r.0 in
    let sent : List Fact = transfer_told from to coins q.2.facts in
    let all : List Fact = pooled_told (fractions r.0) sent in
    one_longer (length u.facts) all (fact.Paid who v.operator (payee_of q.1 who) r.0 coins)
    (at_most (length u.facts) (length q.2.facts) (length all) (less (length u.facts) (length q.2.facts) first)
    (at_most (length q.2.facts) (length sent) (length all) (sent_longer from to coins q.2.facts) (pooled_longer (fractions r.0) sent)))))

renewed_tells : (v : Validator) (who : List ℕ) (shares : ℕ) (d : Shared) (u : View) → IfOk (reward_renewed v who shares d u) (λ y. length u.facts < length y.2.facts)
renewed_tells v who shares d u =
    on_bind (reward_withdrawn v who shares d u) _ _ (λ y e.
    let first : length u.facts < length y.2.facts = from_if (λ z. length u.facts < length z.2.facts) (reward_withdrawn v who shares d u) y e (withdrawn_tells v who shares d u) in
    one_longer (length u.facts) y.2.facts (fact.Started who v.operator (last_ended (periods_of y.1.rewards v.operator)) (value_cut_of v.tokens v.shares shares)) (less (length u.facts) (length y.2.facts) first))

taken_tells : (s : Staked) (who operator : List ℕ) (d : Shared) (u : View) → IfOk (reward_taken s who operator d u) (λ x. length u.facts < length x.2.facts)
taken_tells s who operator d u =
    on_found (validator_at s operator) NoValidator _ _ (λ v f. on_found (delegation s who operator) NoDelegation _ _ (λ shares g. by (reward_renewed v who shares d u) (renewed_tells v who shares d u)))
  where
    by : (r : Result (Money × Shared × View × Log) Over) → IfOk r (λ x. length u.facts < length x.2.facts)
        → IfOk {T = Money × Shared × View × Log} {E = Refusal} (stopping Overflow r) (λ x. length u.facts < length x.2.facts)
    by (Ok x) h = h
    by (Err over) h = tt

pub withdrawals_tell : WithdrawalsTell
withdrawals_tell who operator w =
    on_bind (reward_taken w.mine.staked who operator w.hooks.0 w.view) _ _ (λ x e.
    from_if (λ y. length w.view.facts < length y.2.facts) (reward_taken w.mine.staked who operator w.hooks.0 w.view) x e (taken_tells w.mine.staked who operator w.hooks.0 w.view))
