-- Coins that join the pool, or leave it.
use Rattle.std.proofs.Common.{◌≡◌, ◌∙◌, ℕ, ◌+◌, ◌*◌, ◌^◌, ◌≤◌, true, cond, List, Ok, Err, refl, sym, ap, subst, arith, ◌-◌, not, IfOk, Result, OnOk}
use Rattle.std.{specs.{Prelude.⊤, BTreeMap.is_at}, proofs.lemmas.{Map.Text.is_eq-slice_cmp, Slice.Eq.bytes_eq-Decides}}
use Rattle.base_types.specs.{declared.account.Account.Account, Orders.denom_cmp}
use Rattle.base_types.specs.declared.account.Account.TheVariants as account
use Rattle.base_types.specs.declared.account.Module.TheVariants as holder
use Rattle.base_coins.specs.Coins.{Money, IsMoney}
use Rattle.base_roles.specs.declared.{faults.MessageFault.MessageFault, refusal.Refusal.Refusal}
use Rattle.base_roles.specs.declared.refusal.Refusal.TheVariants.{InsufficientFunds, NonPositive, NotAuthority, Overflow, PoolTooSmall}
use Rattle.base_roles.specs.{Holdings.{Holdings, IsBacked, balance_of, coin_moved, is_short, with_balance}, Hooks.Stand}
use Rattle.base_roles.specs.{Owing.Lists, Orders.same_addr, World.View}
use Rattle.base_roles.proofs.HoldingLemmas.{ascend-changed, backed-coin_moved, balance-changed, balance-most}
use Rattle.law_soundness.proofs.{Bank.{each_within, known_enough}, Burns.total_in}
use Rattle.law_soundness.proofs.{Moves.{HooksFit, Leaves, user_is_other}, Names.units_known}
use Rattle.law_soundness.proofs.{Pool.{funded_leaves, spent_leaves}, Purses.{HasJoined, has_joined}}
use Rattle.law_soundness.proofs.Steps.{on_lifted_then}
use Rattle.rule_modules.{proofs.GoingLemmas.on_stop, specs.{Amounts.{in_units, is_empty}, Answers.AnswersHeld}}
use Rattle.rule_modules.specs.{Distribution.Shared, Purses.{is_above_pool, pool_joined}}
use Rattle.rule_modules.specs.Withdrawals.{pool_funded, pool_spent}
use Rattle.mod_allocation.specs.{Calls.shared_with, Owed.{AreWithin, owed_by}}
use Rattle.mod_periods.specs.Stands.{KeepsRewards}
use Rattle.mod_distribution.specs.{Calls.{PoolsOrRefuses, StandFor}, Fitting.{Any, hooks_fit, stand_from}}
use Rattle.mod_distribution.specs.{Kept.KeptShared, Stands.KeepsShared, Tells.distribution_tells}

same_denom : (d : List ℕ) → is_at (denom_cmp d) d ≡ true
same_denom d = is_eq-slice_cmp d d ∙ (bytes_eq-Decides d d).1 refl

-- the distribution account and a user together have at most 10^18
both_most : (h : Holdings) (who e : List ℕ) → IsBacked h → balance_of h (account.Module holder.Distribution) e + balance_of h (account.User who) e ≤ 10 ^ 18
both_most h who e b =
    let from = account.User who in
    let to = account.Module holder.Distribution in
    let n = balance_of h from e in
    let less = with_balance h from e (n - n) in
    let there : balance_of less to e ≡ balance_of h to e = balance-changed h from e (n - n) to e b.balances_ascend in
    let grown : balance_of (coin_moved from to e n h) to e ≡ balance_of less to e + n =
    balance-changed less to e (balance_of less to e + n) to e (ascend-changed h from e (n - n) b.balances_ascend) ∙ ap (λ t. cond t (balance_of less to e + n) (balance_of less to e)) (same_denom e) in
    within _ _ _ n there grown (balance-most (coin_moved from to e n h) to e (backed-coin_moved h from to e n b (itself n)))
  where
    itself : (n : ℕ) → n ≤ n
    itself n = omega arith

    within : (b l c n : ℕ) → l ≡ b → c ≡ l + n → c ≤ 10 ^ 18 → b + n ≤ 10 ^ 18
    within b l c n e f m = omega (arith, e, f, m)

-- with all that a user has no more is owed than there can be
pub user_within : (k : KeptShared) (d : Shared) (v : View) (l : Lists) (who : List ℕ) → KeepsShared k d → Stand distribution_tells d v l → AreWithin k.purses (balance_of v.bank (account.User who))
user_within k d v l who h s = subst (λ p. AreWithin p (balance_of v.bank (account.User who))) (sym h.purses) (λ e. small (owed_by d.purses e) _ (balance_of v.bank (account.User who) e) (s.owed e) (both_most v.bank who e s.in_order.bank))
  where
    small : (o b n : ℕ) → 10 ^ 18 * b ≡ o → b + n ≤ 10 ^ 18 → o + 10 ^ 18 * n ≤ 10 ^ 36
    small o b n e m = omega (arith, e, m)

-- what is carried out on purses and the pool beside some rewards and payees is carried out on all
pub pool_carried : (k k2 : KeptShared) (d : Shared) (v : View) → KeepsShared k d → k2.rewards ≡ k.rewards → k2.withdraw ≡ k.withdraw → (rule : Shared → Result (⊤ × Shared × View) Refusal) (result : Result ⊤ MessageFault)
    → AnswersHeld (rule (shared_with d.rewards d.withdraw k.purses)) (shared_with d.rewards d.withdraw k2.purses) v result → PoolsOrRefuses (rule d) k2 v result
pool_carried k k2 d v h rewards payees rule result held = subst (λ p. PoolsOrRefuses (rule (shared_with d.rewards d.withdraw p)) k2 v result) h.purses (by (rule (shared_with d.rewards d.withdraw k.purses)) result held)
  where
    keeps : KeepsShared k2 (shared_with d.rewards d.withdraw k2.purses)
    keeps = record { rewards = subst (λ r. KeepsRewards r d.rewards) (sym rewards) h.rewards; purses = refl; withdraw = payees ∙ h.withdraw }

    by : (r : Result (⊤ × Shared × View) Refusal) (result : Result ⊤ MessageFault) → AnswersHeld r (shared_with d.rewards d.withdraw k2.purses) v result → PoolsOrRefuses r k2 v result
    by (Ok due) (Ok t) g = (subst (KeepsShared k2) g.1 keeps, g.2)
    by (Ok due) (Err stop) g = g
    by (Err why) (Ok t) g = g
    by (Err why) (Err stop) g = g

-- what leaves records that stand stands
stands_behind : (k2 : KeptShared) (d : Shared) (v w : View) (l : Lists) → Stand distribution_tells d v l → (r : Result (⊤ × Shared × View) Refusal) (result : Result ⊤ MessageFault) → PoolsOrRefuses r k2 w result
    → IfOk r (λ x. Leaves Any (total_in v) v l x.1 x.2) → OnOk result (StandFor k2 w l)
stands_behind k2 d v w l s (Ok x) (Ok t) c left = (x.1, (c.0, subst (λ u. Stand distribution_tells x.1 u l) (sym c.1) (stand_from (total_in v) v x.2 l x.1 s.lists.started left)))
stands_behind k2 d v w l s (Ok x) (Err stop) c left = tt
stands_behind k2 d v w l s (Err why) (Ok t) c left = absurd c
stands_behind k2 d v w l s (Err why) (Err stop) c left = tt

pub funded_stands : (who : List ℕ) (coins : Money) (k k2 : KeptShared) (v w : View) (result : Result ⊤ MessageFault) (l : Lists) → IsMoney coins
    → ((d : Shared) → KeepsShared k d → PoolsOrRefuses (pool_funded who coins d v) k2 w result) → StandFor k v l → OnOk result (StandFor k2 w l)
funded_stands who coins k k2 v w result l money carries (d, (h, s)) = stands_behind k2 d v w l s (pool_funded who coins d v) result (carries d h) leaves
  where
    T : List ℕ → ℕ
    T = total_in v

    fit : HooksFit Any T v l d
    fit = hooks_fit v l d s

    leaves : IfOk (pool_funded who coins d v) (λ x. Leaves Any T v l x.1 x.2)
    leaves =
        on_stop (is_empty coins) NonPositive _ _ (λ a. on_stop (is_short v.bank (account.User who) coins) InsufficientFunds _ _ (λ e.
        on_lifted_then Overflow (pool_joined (in_units coins) d.purses) _ (HasJoined Any (in_units coins) d.purses) _
        (has_joined Any (in_units coins) d.purses fit.shared.pool
        (units_known Any coins (each_within coins v.bank (account.User who) e fit.ground.order.bank) (known_enough Any coins v.bank (account.User who) money e fit.ground.held)))
        (λ q joined. funded_leaves Any T who coins v l d q fit.shared fit.ground fit.owed money e joined)))

pub spent_stands : (authority : List ℕ) (to : Account) (coins : Money) (k k2 : KeptShared) (v w : View) (result : Result ⊤ MessageFault) (l : Lists) → IsMoney coins
    → ((d : Shared) → KeepsShared k d → PoolsOrRefuses (pool_spent authority to coins d v) k2 w result) → StandFor k v l → OnOk result (StandFor k2 w l)
spent_stands authority to coins k k2 v w result l money carries (d, (h, s)) = stands_behind k2 d v w l s (pool_spent authority to coins d v) result (carries d h) (leaves to)
  where
    T : List ℕ → ℕ
    T = total_in v

    fit : HooksFit Any T v l d
    fit = hooks_fit v l d s

    leaves : (to : Account) → IfOk (pool_spent authority to coins d v) (λ x. Leaves Any T v l x.1 x.2)
    leaves (account.Module m) = on_stop (not (same_addr authority v.ctx.params.authority)) NotAuthority _ _ (λ a. on_stop (is_empty coins) NonPositive _ _ (λ b. tt))
    leaves (account.User who) =
        on_stop (not (same_addr authority v.ctx.params.authority)) NotAuthority _ _ (λ a. on_stop (is_empty coins) NonPositive _ _ (λ b.
        on_stop (is_above_pool coins d.purses) PoolTooSmall _ _ (λ e.
        spent_leaves Any T (account.User who) coins v l d (user_is_other who) fit.shared fit.ground fit.owed money e)))
