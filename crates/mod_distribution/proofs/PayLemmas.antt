-- What leaves a purse is paid: the account has as much, and the rule of a payment is carried out.
use Rattle.std.proofs.Common.{◌≡◌, ◌∙◌, ℕ, ◌+◌, ◌*◌, ◌^◌, ◌≤◌, Bool, true, false, cond, List, [], ◌∷◌, ◌++◌, None, Ok, refl, sym, ap, subst, arith, ◌&&◌, is_some}
use Rattle.base_types.specs.declared.account.Account.TheVariants as account
use Rattle.base_types.specs.declared.account.Module.TheVariants as holder
use Rattle.base_types.specs.Orders.{addr_cmp}
use Rattle.base_coins.specs.Coins.{Money, amount_of, coins_added, coins_taken, fractions, smaller_of, whole_coins}
use Rattle.base_roles.specs.{declared.{entities.Purse.Purse, facts.Fact.Fact}, Entries.at, Holdings.balance_of}
use Rattle.base_roles.specs.{Flow.{◌>>=◌}, World.View, Orders.pair_cmp}
use Rattle.base_roles.specs.declared.facts.Fact.TheVariants as fact
use Rattle.base_roles.specs.Log as log
use Rattle.law_soundness.proofs.Rewards.{pair_at, put_found}
use Rattle.rule_modules.proofs.{EntryLemmas.at-taken, OrderLemmas.{pair_total, same_itself}}
use Rattle.rule_modules.specs.{Distribution.{Shared, payee_of, paid_to}, Periods.{Rewards, without_start}}
use Rattle.rule_modules.specs.Purses.{Purses, current_emptied, current_pooled, paid_out, pool_joined, pooled_told, purse_of, with_purse}
use Rattle.mod_allocation.{proofs.RuleLemmas.{same_ok, step_parts}, specs.Calls.{current_out, purse_at}}
use Rattle.mod_allocation.specs.Owed.{AreWithin, IsMoved, CanPay, nothing_more, owed_by}
use Rattle.mod_periods.specs.{Kept.info_of, Scenes.HasPeriods, Stands.KeepsRewards}
use Rattle.mod_periods.specs.Kept as f1
use Rattle.mod_distribution.specs.{Calls.{CarriesOut, reward_paid}, Kept.{KeptShared, payee_in}, Stands.KeepsShared}
use Rattle.mod_distribution.proofs.CarryLemmas.{Ruled, carried}

-- ---- what is owed

-- no coins came
pub within_still : (p q : Purses) (gone : Money) → IsMoved p [] gone q → AreWithin p nothing_more → AreWithin q nothing_more
within_still p q gone m w d = less (owed_by q d) (owed_by p d) (amount_of gone d) (m d) (w d)
  where
    less : (q p n : ℕ) → q + 10 ^ 18 * n ≡ p + 10 ^ 18 * 0 → p + 10 ^ 18 * 0 ≤ 10 ^ 36 → q + 10 ^ 18 * 0 ≤ 10 ^ 36
    less q p n e l = omega (arith, e, l)

pub can_pay_still : (p q : Purses) (v w : View) → IsMoved p [] [] q → w.bank ≡ v.bank → CanPay p v → CanPay q w
can_pay_still p q v w m b c = subst (λ h. (d : List ℕ) → owed_by q d ≤ 10 ^ 18 * balance_of h (account.Module holder.Distribution) d) (sym b) (λ d. less (owed_by q d) (owed_by p d) _ (m d) (c d))
  where
    less : (q p n : ℕ) → q + 10 ^ 18 * 0 ≡ p + 10 ^ 18 * 0 → p ≤ n → q ≤ n
    less q p n e l = omega (arith, e, l)

-- the account has what leaves
pub enough_for : (p q : Purses) (v : View) (gone : Money) → IsMoved p [] gone q → CanPay p v → (d : List ℕ) → amount_of gone d ≤ balance_of v.bank (account.Module holder.Distribution) d
enough_for p q v gone m c d = part (owed_by q d) (owed_by p d) (amount_of gone d) _ (m d) (c d)
  where
    part : (q p n b : ℕ) → q + 10 ^ 18 * n ≡ p + 10 ^ 18 * 0 → p ≤ 10 ^ 18 * b → n ≤ b
    part q p n b e l = omega (arith, e, l)

-- ---- the purse and the start behind a payment

pub joined_purses : (c : Money) (p q : Purses) → pool_joined c p ≡ Ok q → q.purses ≡ p.purses
joined_purses c p q e =
    let (pool, joined, last) = step_parts (coins_added p.pool c) (λ x. Ok (record p { pool = x })) q e in
    ap (λ (x : Purses). x.purses) (sym (same_ok (record p { pool = pool }) q last))

-- the purse is still there
pub purse_still : (operator : List ℕ) (full reward : Money) (p q : Purses) → paid_out operator full p ≡ Ok (reward, q) → is_some (purse_at q operator) ≡ true
purse_still operator full reward p q e =
    let purse = purse_of p operator in
    let due = smaller_of full purse.outstanding in
    let less : Purse = record purse { outstanding = coins_taken purse.outstanding due } in
    let (z, joined, last) = step_parts (pool_joined (fractions due) (with_purse operator less p)) (λ x. Ok (due, x)) (reward, q) e in
    let same = ap (λ t. t.1) (same_ok (due, z) (reward, q) last) in
    ap (λ es. is_some (at addr_cmp es operator)) (sym (ap (λ (x : Purses). x.purses) same) ∙ joined_purses (fractions due) (with_purse operator less p) z joined)
    ∙ ap is_some (put_found p.purses operator less)

-- nor does it go with the current rewards
pub purse_taken : (operator : List ℕ) (to_pool : Bool) (coins : Money) (p q : Purses) (facts facts2 : List Fact) → current_out to_pool operator p facts ≡ Ok (coins, q, facts2) → is_some (purse_at q operator) ≡ true
purse_taken operator false coins p q facts facts2 e =
    let same = same_ok ((purse_of p operator).current, current_emptied operator p, facts) (coins, q, facts2) e in
    ap (λ (x : Purses). is_some (purse_at x operator)) (sym (ap (λ t. t.1) same)) ∙ ap is_some (put_found p.purses operator (record (purse_of p operator) { current = [] }))
purse_taken operator true coins p q facts facts2 e =
    let purse = purse_of p operator in
    let lost = smaller_of purse.current purse.outstanding in
    let less : Purse = record purse { outstanding = coins_taken purse.outstanding lost; current = [] } in
    let (z, pooled, last) = step_parts (current_pooled operator p) (λ z. Ok (purse.current, z.1, pooled_told z.0 facts)) (coins, q, facts2) e in
    let (y, joined, whole) = step_parts (pool_joined lost (with_purse operator less p)) (λ x. Ok (lost, x)) z pooled in
    let left = ap (λ t. t.1) (same_ok (lost, y) z whole) ∙ ap (λ t. t.1) (same_ok (purse.current, z.1, pooled_told z.0 facts) (coins, q, facts2) last) in
    ap (λ es. is_some (at addr_cmp es operator)) (sym (ap (λ (x : Purses). x.purses) left) ∙ joined_purses lost (with_purse operator less p) y joined) ∙ ap is_some (put_found p.purses operator less)

-- the periods are, too
pub stopped_periods : (operator who : List ℕ) (k k2 : f1.Kept) (r : Rewards) → KeepsRewards k r → KeepsRewards k2 (without_start who operator r) → HasPeriods k operator → HasPeriods k2 operator
stopped_periods operator who k k2 r h h2 has = record { kept = (without_start who operator r, h2); initialised = ap is_some (h2.current operator ∙ sym (h.current operator)) ∙ has.initialised }

-- the start is gone
pub stopped_gone : (operator who : List ℕ) (k k2 : f1.Kept) (r : Rewards) → KeepsRewards k r → KeepsRewards k2 (without_start who operator r) → info_of k2 who operator ≡ None
stopped_gone operator who k k2 r h h2 =
    ap (λ es. at pair_cmp es (operator, who)) h2.starts ∙ at-taken pair_cmp pair_total r.starts (operator, who) (operator, who) h.sound.starts_ascend
    ∙ ap (λ b. cond b None (at pair_cmp r.starts (operator, who))) (pair_at who operator who operator ∙ (λ i. same_itself who i && same_itself operator i))

-- ---- the rule

-- what follows once the reward left its purse
abbrev pub pay_rest : List ℕ → List ℕ → Money → Shared → View → Money × Purses → Ruled Money
pay_rest operator who full d v y = Ok (
  whole_coins y.0,
  record d { rewards = without_start who operator d.rewards; purses = y.1 },
  record (paid_to (payee_of d who) (whole_coins y.0) v) { facts = pooled_told (fractions y.0) (paid_to (payee_of d who) (whole_coins y.0) v).facts ++ fact.Paid who operator (payee_of d who) y.0 (whole_coins y.0) ∷ [] },
  (operator, log.withdrawn who (payee_of d who) full (purse_of d.purses operator).outstanding) ∷ [],
)

module _ (operator who to : List ℕ) (full reward coins told rest : Money) (k k2 : KeptShared) (d : Shared) (v v1 v2 : View) (h : KeepsShared k d) (out : paid_out operator full k.purses ≡ Ok (reward, k2.purses)) (c : coins ≡ whole_coins reward)
    (f : rest ≡ fractions reward) (payee : to ≡ payee_in k.withdraw who) (stopped : KeepsRewards k2.rewards (without_start who operator d.rewards)) (payees : k2.withdraw ≡ k.withdraw) (paid : v1 ≡ paid_to to coins v) (copy : told ≡ coins)
    (view : v2 ≡ record v1 { facts = pooled_told rest v1.facts ++ fact.Paid who operator to reward told ∷ [] }) where
  to_is : to ≡ payee_of d who
  to_is = payee ∙ ap (λ w. payee_in w who) h.withdraw

  view_is : v2 ≡ record (paid_to (payee_of d who) (whole_coins reward) v) { facts = pooled_told (fractions reward) (paid_to (payee_of d who) (whole_coins reward) v).facts ++ fact.Paid who operator (payee_of d who) reward (whole_coins reward) ∷ [] }
  view_is = view ∙ (λ i. record (paid i) { facts = pooled_told (f i) (paid i).facts ++ fact.Paid who operator to reward ((copy ∙ c) i) ∷ [] })
      ∙ (λ i. record (paid_to (to_is i) (c i) v) { facts = pooled_told (fractions reward) (paid_to (to_is i) (c i) v).facts ++ fact.Paid who operator (to_is i) reward (whole_coins reward) ∷ [] })

  pub payment_carried : CarriesOut (reward_paid operator who full d v) k2 v2 (Ok coins)
  payment_carried = subst (λ a. CarriesOut (reward_paid operator who full d v) k2 v2 (Ok a)) (sym c)
      (carried k2 v2 (reward_paid operator who full d v) (whole_coins reward) (record d { rewards = without_start who operator d.rewards; purses = k2.purses }) _ _
      (ap (λ r. r >>= pay_rest operator who full d v) (ap (λ p. paid_out operator full p) (sym h.purses) ∙ out))
      (record { rewards = stopped; purses = refl; withdraw = payees ∙ h.withdraw }) view_is)
