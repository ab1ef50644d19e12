-- Funding and spending from the pool, and withdrawing commission, keep a state sound.
use Rattle.std.proofs.Common.{div-add-mod', ◌≡◌, ℕ, ◌+◌, ◌*◌, ◌^◌, ◌≤◌, Bool, true, false, cond, List, [], ◌∷◌, Some, refl, ap, arith, ◌++◌, ◌-◌, ◌/◌, min, not, IfOk, is_some, nat_lt}
use Rattle.std.{specs.List.{AllByRecursion, position_from}, proofs.lemmas.Bool.Decides.nat_tests}
use Rattle.base_types.specs.{declared.account.Account.Account, Orders.addr_cmp}
use Rattle.base_types.specs.declared.account.Account.TheVariants as account
use Rattle.base_types.specs.declared.account.Module.TheVariants as holder
use Rattle.base_roles.specs.declared.entities.Purse.{Purse}
use Rattle.base_roles.specs.declared.refusal.Refusal.TheVariants.{InsufficientFunds, NonPositive, NoCommission, PoolTooSmall, NotAuthority, Overflow}
use Rattle.base_roles.specs.{World.{View, sent, noted}, Entries.at, Holdings.{balance_of, is_short}}
use Rattle.base_roles.specs.{Owing.{HoldsOwed, Lists}, Orders.same_addr, Staked.lists_of}
use Rattle.base_roles.proofs.{AmountLemmas.moves_by_amounts, HoldingLemmas.balance-moved_elsewhere}
use Rattle.base_roles.specs.declared.facts.Fact.TheVariants as fact
use Rattle.base_coins.proofs.{Order.rises_from_money, Amounts.amount-all}
use Rattle.base_coins.specs.Coins.{IsMoney, Money, amount_of, coins_taken, whole_coins}
use Rattle.base_decimals.specs.Decimals.{trunc_of}
use Rattle.law_soundness.proofs.{Burns.{quiet_behind, quiet_pooled}, Bank.{each_within, known_enough}}
use Rattle.law_soundness.proofs.Moves.{IsOther, Leaves, ground_sent, keeps, state_left, user_is_other, ground_told}
use Rattle.law_soundness.proofs.Names.{IsKnown, known_smaller, known_taken, known_whole, units_known}
use Rattle.law_soundness.proofs.Points.{StateFits, GroundFits, PurseFits, SharedFits, StateLeft}
use Rattle.law_soundness.proofs.Purses.{HasJoined, amounts_within, are_paid, has_joined, owed_of, own_purse, pool_fits, purse_put, shared_purses}
use Rattle.law_soundness.proofs.Steps.{on_lifted_then, on_then}
use Rattle.law_soundness.specs.StepLaws.{CommissionsKeepSoundness, FundingKeepsSoundness, SpendingKeepsSoundness}
use Rattle.rule_modules.proofs.{PartLemmas.amount_in_units, GoingLemmas.{on_found, on_stop}}
use Rattle.rule_modules.proofs.{TotalLemmas.{total, total_put}, OrderLemmas.addr_total}
use Rattle.rule_modules.specs.{Amounts.{in_units, is_empty, over_facts}, Chain.{State, with_shared}}
use Rattle.rule_modules.specs.Distribution.{Shared, paid_to, payee_of}
use Rattle.rule_modules.specs.Effects.{community_pool_spend, fund_community_pool, withdraw_commission}
use Rattle.rule_modules.specs.Owed.{owed_from_distribution}
use Rattle.rule_modules.specs.Purses.{Purses, commission_due, commission_paid, is_above_pool, pool_joined, pool_lowered, pooled_told, with_purse}
use Rattle.rule_modules.specs.Withdrawals.{commission_withdrawn, pool_funded, pool_spent}

-- the pool has each coin
none_short : (x y : Money) (k : ℕ) → is_some (position_from (λ c. nat_lt (amount_of x c.0) c.1) k y) ≡ false → AllByRecursion (λ c. c.1 ≤ amount_of x c.0) y
none_short x [] k e = tt
none_short x (c ∷ cs) k e = by (nat_lt (amount_of x c.0) c.1) refl e (λ f. none_short x cs (k + 1) f)
  where
    at_most : (a n : ℕ) → nat_lt a n ≡ false → n ≤ a
    at_most a n f = grind (arith, nat_tests)

    by : (b : Bool) → nat_lt (amount_of x c.0) c.1 ≡ b → is_some (cond b (Some k) (position_from (λ d. nat_lt (amount_of x d.0) d.1) (k + 1) cs)) ≡ false
        → (is_some (position_from (λ d. nat_lt (amount_of x d.0) d.1) (k + 1) cs) ≡ false → AllByRecursion (λ d. d.1 ≤ amount_of x d.0) cs) → AllByRecursion (λ d. d.1 ≤ amount_of x d.0) (c ∷ cs)
    by true f g rest = absurd cc
    by false f g rest = (at_most (amount_of x c.0) c.1 f, rest g)

module _ (P : List ℕ → Type 0) (T : List ℕ → ℕ) where
  -- ---- funding

  pub funded_leaves : (who : List ℕ) (coins : Money) (v : View) (l : Lists) (d : Shared) (q : Purses) → SharedFits P v.ctx.height l d → GroundFits P T v → HoldsOwed (Some (owed_from_distribution d)) v → IsMoney coins
      → is_short v.bank (account.User who) coins ≡ false → HasJoined P (in_units coins) d.purses q
      → Leaves P T v l (record d { purses = q }) (over_facts (pooled_told (in_units coins)) (sent (account.User who) (account.Module holder.Distribution) coins v))
  funded_leaves who coins v l d q s g owed m e k =
      let from = account.User who in
      let to = account.Module holder.Distribution in
      let sorted = g.order.bank.balances_ascend in
      record {
        ctx = refl;
        ground = ground_told P T (pooled_told (in_units coins)) (sent from to coins v) (quiet_pooled (in_units coins) (sent from to coins v).facts) (ground_sent P T from to coins v g m e);
        bonded = λ x. balance-moved_elsewhere coins v.bank from to (account.Module holder.Bonded) x sorted refl refl;
        not_bonded = λ x. balance-moved_elsewhere coins v.bank from to (account.Module holder.NotBonded) x sorted refl refl;
        owed = λ x. more (balance_of v.bank to x) _ (amount_of coins x) (amount_of (in_units coins) x) (total addr_cmp addr_total (λ p. amount_of p.outstanding x) d.purses.purses) (total addr_cmp addr_total (λ p. amount_of p.outstanding x) q.purses)
            (amount_of d.purses.pool x) (amount_of q.pool x) (moves_by_amounts v.bank from to coins g.order.bank m e to x) (amount_in_units x coins) (owed x) (k.amount x) (ap (λ es. total addr_cmp addr_total (λ p. amount_of p.outstanding x) es) k.purses);
        shared = shared_purses P v.ctx.height l d q s (pool_fits P v.ctx.height l d q s k.purses k.known);
      }
    where
      more : (b c a u t t2 p p2 : ℕ) → c + 0 ≡ b + a → u ≡ a * 10 ^ 18 → 10 ^ 18 * b ≡ t + p → p2 ≡ p + u → t2 ≡ t → 10 ^ 18 * c ≡ t2 + p2
      more b c a u t t2 p p2 e f g h i = omega (arith, e, f, g, h, i)

  pub fund_fits : (who : List ℕ) (coins : Money) → IsMoney coins → (w : State) → StateFits P T w → IfOk (fund_community_pool who coins w) (StateLeft P T w)
  fund_fits who coins m w h =
      on_then (pool_funded who coins w.hooks.0 w.view) _ (λ x. StateLeft P T w (with_shared x.1 x.2 [] w)) _
      (on_stop (is_empty coins) NonPositive _ _ (λ a. on_stop (is_short w.view.bank (account.User who) coins) InsufficientFunds _ _ (λ e.
      on_lifted_then Overflow (pool_joined (in_units coins) w.hooks.0.purses) _ (HasJoined P (in_units coins) w.hooks.0.purses) _
      (has_joined P (in_units coins) w.hooks.0.purses h.stake.shared.pool
      (units_known P coins (each_within coins w.view.bank (account.User who) e h.stake.ground.order.bank) (known_enough P coins w.view.bank (account.User who) m e h.stake.ground.held)))
      (λ q k. state_left P T w (record w.hooks.0 { purses = q }) _ [] h (funded_leaves who coins w.view (lists_of w.mine.staked) w.hooks.0 q h.stake.shared h.stake.ground h.stake.owed m e k)))))
      (λ x k. k)

  -- ---- spending

  pub spent_leaves : (to : Account) (coins : Money) (v : View) (l : Lists) (d : Shared) → IsOther to → SharedFits P v.ctx.height l d → GroundFits P T v → HoldsOwed (Some (owed_from_distribution d)) v → IsMoney coins
      → is_above_pool coins d.purses ≡ false → Leaves P T v l (record d { purses = pool_lowered coins d.purses }) (sent (account.Module holder.Distribution) to coins v)
  spent_leaves to coins v l d t s g owed m e =
      let pool = d.purses.pool in
      let then : List ℕ → ℕ = λ x. owed_from_distribution (record d { purses = pool_lowered coins d.purses }) x in
      let within : (x : List ℕ) → amount_of (in_units coins) x ≤ amount_of pool x = λ x. amounts_within (in_units coins) (λ y. amount_of pool y) (none_short pool (in_units coins) 0 e) x in
      let paid = are_paid P T v to coins (owed_from_distribution d) then g m t owed
      (λ x. lowered (total addr_cmp addr_total (λ p. amount_of p.outstanding x) d.purses.purses) (amount_of pool x) (amount_of (in_units coins) x) (amount_of coins x) _
      (amount-all (λ y n. n - amount_of (in_units coins) y) (λ y. omega arith) pool x (rises_from_money pool s.pool.money)) (within x) (amount_in_units x coins)) in
      record {
        ctx = refl;
        ground = paid.ground;
        bonded = paid.bonded;
        not_bonded = paid.not_bonded;
        owed = paid.holds;
        shared = shared_purses P v.ctx.height l d (pool_lowered coins d.purses) s (pool_fits P v.ctx.height l d (pool_lowered coins d.purses) s refl (known_taken P pool (in_units coins) s.pool));
      }
    where
      lowered : (t p u a q : ℕ) → q ≡ p - u → u ≤ p → u ≡ a * 10 ^ 18 → t + q + 10 ^ 18 * a ≡ t + p
      lowered t p u a q e l f = omega (arith, e, l, f)

  pub spend_fits : (authority : List ℕ) (to : Account) (coins : Money) → IsMoney coins → (w : State) → StateFits P T w → IfOk (community_pool_spend authority to coins w) (StateLeft P T w)
  spend_fits authority to coins m w h = on_then (pool_spent authority to coins w.hooks.0 w.view) _ (λ x. StateLeft P T w (with_shared x.1 x.2 [] w)) _ (spent to) (λ x k. k)
    where
      spent : (to : Account) → IfOk (pool_spent authority to coins w.hooks.0 w.view) (λ x. StateLeft P T w (with_shared x.1 x.2 [] w))
      spent (account.Module k) = on_stop (not (same_addr authority w.view.ctx.params.authority)) NotAuthority _ _ (λ a. on_stop (is_empty coins) NonPositive _ _ (λ b. tt))
      spent (account.User who) =
          on_stop (not (same_addr authority w.view.ctx.params.authority)) NotAuthority _ _ (λ a. on_stop (is_empty coins) NonPositive _ _ (λ b.
          on_stop (is_above_pool coins w.hooks.0.purses) PoolTooSmall _ _ (λ e.
          state_left P T w _ _ [] h (spent_leaves (account.User who) coins w.view (lists_of w.mine.staked) w.hooks.0 (user_is_other who) h.stake.shared h.stake.ground h.stake.owed m e))))

  -- ---- commission

  floor_low : (a : ℕ) → a / 10 ^ 18 * 10 ^ 18 ≤ a
  floor_low a = omega (arith, div-add-mod' a (10 ^ 18))

  due_within : (p : Purse) → PurseFits P p → (d : List ℕ) → amount_of (commission_due p) d * 10 ^ 18 ≤ amount_of p.outstanding d
  due_within p f d =
      let whole : amount_of (whole_coins p.outstanding) d ≡ amount_of p.outstanding d / 10 ^ 18 = amount-all (λ e n. trunc_of n) (λ e. refl) p.outstanding d (rises_from_money p.outstanding f.outstanding.money) in
      let own = known_whole P p.commission f.commission in
      let due : amount_of (commission_due p) d ≡ min (amount_of (whole_coins p.commission) d) (amount_of (whole_coins p.outstanding) d) =
      amount-all (λ e n. min n (amount_of (whole_coins p.outstanding) e)) (λ e. omega arith) (whole_coins p.commission) d (rises_from_money (whole_coins p.commission) own.money) in
      most (amount_of (commission_due p) d) (amount_of (whole_coins p.commission) d) (amount_of (whole_coins p.outstanding) d) (amount_of p.outstanding d) due whole (floor_low (amount_of p.outstanding d))
    where
      most : (n a b o : ℕ) → n ≡ min a b → b ≡ o / 10 ^ 18 → o / 10 ^ 18 * 10 ^ 18 ≤ o → n * 10 ^ 18 ≤ o
      most n a b o e f l = omega (arith, e, f, l)

  pub commission_leaves : (operator : List ℕ) (p : Purse) (to : List ℕ) (v : View) (l : Lists) (d : Shared) → at addr_cmp d.purses.purses operator ≡ Some p → SharedFits P v.ctx.height l d → GroundFits P T v
      → HoldsOwed (Some (owed_from_distribution d)) v
      → Leaves P T v l (record d { purses = with_purse operator (commission_paid p) d.purses }) (noted (fact.Commission operator to (commission_due p)) (paid_to to (commission_due p) v))
  commission_leaves operator p to v l d found s g owed =
      let f : PurseFits P p = own_purse P d.purses.purses operator p found s.purses in
      let coins = commission_due p in
      let known : IsKnown P coins = known_smaller P (whole_coins p.commission) (whole_coins p.outstanding) (known_whole P p.commission f.commission) in
      let q = with_purse operator (commission_paid p) d.purses in
      let paid = are_paid P T v (account.User to) coins (owed_from_distribution d) (owed_of q) g known.money (user_is_other to) owed
      (λ x. lowered _ _ (amount_of p.outstanding x) (amount_of (coins_taken p.outstanding (in_units coins)) x) (amount_of d.purses.pool x) (amount_of (in_units coins) x) (amount_of coins x)
      (total_put addr_cmp addr_total (λ r. amount_of r.outstanding x) operator p (commission_paid p) d.purses.purses s.purses_ascend found)
      (amount-all (λ y n. n - amount_of (in_units coins) y) (λ y. omega arith) p.outstanding x (rises_from_money p.outstanding f.outstanding.money)) (amount_in_units x coins) (due_within p f x)) in
      record {
        ctx = refl;
        ground = ground_told P T (λ facts. facts ++ fact.Commission operator to coins ∷ []) (paid_to to coins v) (quiet_behind (paid_to to coins v).facts (fact.Commission operator to coins) (λ x. refl)) paid.ground;
        bonded = paid.bonded;
        not_bonded = paid.not_bonded;
        owed = paid.holds;
        shared = shared_purses P v.ctx.height l d q s
            (purse_put P d.purses operator p (commission_paid p) found s.purses_ascend s.purses s.pool
            (record { outstanding = known_taken P p.outstanding (in_units coins) f.outstanding; commission = known_taken P p.commission (in_units coins) f.commission; current = f.current }));
      }
    where
      lowered : (t2 t o o2 p u a : ℕ) → t2 + o ≡ t + o2 → o2 ≡ o - u → u ≡ a * 10 ^ 18 → a * 10 ^ 18 ≤ o → t2 + p + 10 ^ 18 * a ≡ t + p
      lowered t2 t o o2 p u a e f g h = omega (arith, e, f, g, h)

  pub commission_fits : (operator : List ℕ) (w : State) → StateFits P T w → IfOk (withdraw_commission operator w) (StateLeft P T w)
  commission_fits operator w h =
      on_then (commission_withdrawn operator w.hooks.0 w.view) _ (λ x. StateLeft P T w (with_shared x.1 x.2 x.3 w)) _
      (on_found (at addr_cmp w.hooks.0.purses.purses operator) NoCommission _ _ (λ p found. on_stop (is_empty p.commission) NoCommission _ _ (λ e.
      state_left P T w _ _ _ h (commission_leaves operator p (payee_of w.hooks.0 operator) w.view (lists_of w.mine.staked) w.hooks.0 found h.stake.shared h.stake.ground h.stake.owed))))
      (λ x k. k)

pub funding_keeps_soundness : FundingKeepsSoundness
funding_keeps_soundness who coins m = keeps (fund_community_pool who coins) (λ P T w h. fund_fits P T who coins m w h)

pub spending_keeps_soundness : SpendingKeepsSoundness
spending_keeps_soundness authority to coins m = keeps (community_pool_spend authority to coins) (λ P T w h. spend_fits P T authority to coins m w h)

pub commissions_keep_soundness : CommissionsKeepSoundness
commissions_keep_soundness operator = keeps (withdraw_commission operator) (λ P T w h. commission_fits P T operator w h)
