-- Ending and starting periods, and withdrawing rewards, as hooks do it: distribution stands for the lists after it, and the
-- distribution account holds what is owed.
use Rattle.std.proofs.Common.{div-add-mod', ◌≡◌, ◌∙◌, ℕ, ◌+◌, ◌*◌, ◌^◌, ◌<◌, ◌≤◌, ◌==◌, ◌++◌, Bool, true, false, cond, List, [], ◌∷◌, Some, None, Option, Ok, refl, sym, ap, subst, arith, ◌-◌, ◌&&◌, ◌/◌, ◌%◌, IfOk, is_some, min}
use Rattle.std.specs.{BTreeMap.is_at, List.{AllByRecursion, Sorted.IsStrictlySortedBy}, Map.keys_of}
use Rattle.base_types.specs.declared.account.Account.TheVariants as account
use Rattle.base_types.specs.Orders.{addr_cmp}
use Rattle.base_roles.specs.declared.entities.{Purse.Purse, StartingInfo.StartingInfo, Validator.Validator}
use Rattle.base_roles.specs.declared.refusal.Refusal.TheVariants.{NoValidator, NoDelegation, Overflow}
use Rattle.base_roles.specs.{Entries.{at, with}, Hooks.with_started, Owing.Lists, Log.Log, World.{View, noted}}
use Rattle.base_roles.specs.{Items.no_purse, Orders.{pair_cmp, same_addr}, Staked.{lists_of, delegation, validator_at}}
use Rattle.base_roles.specs.declared.facts.Fact.TheVariants as fact
use Rattle.base_coins.proofs.{Amounts.amount-all, Order.rises_from_money}
use Rattle.base_coins.specs.Coins.{Money, amount_of, coins_added, coins_mul_cut, coins_taken, fractions, smaller_of, whole_coins}
use Rattle.base_decimals.specs.Decimals.{trunc_of}
use Rattle.law_soundness.proofs.Burns.{quiet_behind, quiet_pooled}
use Rattle.law_soundness.proofs.Lists.{all_put, all_taken, ascend_taken, looked_up}
use Rattle.law_soundness.proofs.Moves.{HooksFit, Leaves, fit_after, keeps, leaves_then, state_left, user_is_other, ground_told}
use Rattle.law_soundness.proofs.Names.{IsKnown, known_added, known_fractions, known_mul_cut, known_none, known_smaller, known_taken, known_whole}
use Rattle.law_soundness.proofs.Periods.{HasEnded, HasTaken, ended_with, has_ended, has_taken, periods_put, pool_after, ratio_known, same_some, some_unwrap, start_after, Ordered}
use Rattle.law_soundness.proofs.Points.{PeriodsFit, PurseFits, SharedFits, StartFits, StateFits, StateLeft}
use Rattle.law_soundness.proofs.Purses.{HasJoined, PursesFit, are_paid, has_joined, owed_of, own_purse, purse_put, shared_purses}
use Rattle.law_soundness.proofs.{Standing.{own_place, relisted}, Steps.{lifted_if, on_then, weaker_if}}
use Rattle.law_soundness.specs.StepLaws.{RewardsKeepSoundness}
use Rattle.rule_modules.proofs.{GoingLemmas.{on_bind, on_found}, TotalLemmas.{total, total_put}}
use Rattle.rule_modules.proofs.EntryLemmas.{ascend-put, at-put, at-taken}
use Rattle.rule_modules.proofs.OrderLemmas.{addr_total, pair_found, pair_total, same_back, same_is, same_itself}
use Rattle.rule_modules.{proofs.SoundLemmas.exact_pair, specs.{Amounts.over_facts, Chain.{State, with_shared}}}
use Rattle.rule_modules.specs.Distribution.{Shared, current_taken, paid_to, payee_of, reward_due, reward_renewed, reward_withdrawn, ended, started}
use Rattle.rule_modules.specs.{Effects.withdraw_reward, Owed.owed_from_distribution}
use Rattle.rule_modules.specs.Periods.{Periods, Rewards, Stretch, earned, initial_records, last_ended, period_ended, periods_of, ratio_at, reward_at, start_of, stretches_of, with_start, without_start}
use Rattle.rule_modules.specs.Purses.{Purses, paid_out, pool_joined, pooled_told, purse_of, with_purse}
use Rattle.rule_modules.specs.Withdrawals.{reward_taken}
use Rattle.base_shares.specs.Shares.{value_cut_of, value_even_of}

-- ---- look-ups of starts

pub pair_at : (who op w o : List ℕ) → is_at (pair_cmp (o, w)) (op, who) ≡ (same_addr who w && same_addr op o)
pair_at who op w o = pair_found o op w who ∙ (λ i. same_back o op i && same_back w who i) ∙ turned (same_addr op o) (same_addr who w)
  where
    turned : (a b : Bool) → (a && b) ≡ (b && a)
    turned true true = refl
    turned true false = refl
    turned false true = refl
    turned false false = refl

begun_there : (r : Rewards) (who op : List ℕ) (s : StartingInfo) (w o : List ℕ) → is_some (start_of (with_start who op s r) w o) ≡ cond (same_addr who w && same_addr op o) true (is_some (start_of r w o))
begun_there r who op s w o = ap is_some (at-put pair_cmp pair_total r.starts (op, who) (o, w) s ∙ ap (λ b. cond b (Some s) (start_of r w o)) (pair_at who op w o)) ∙ by (same_addr who w && same_addr op o)
  where
    by : (b : Bool) → is_some (cond b (Some s) (start_of r w o)) ≡ cond b true (is_some (start_of r w o))
    by true = refl
    by false = refl

gone_there : (r : Rewards) (who op w o : List ℕ) → IsStrictlySortedBy pair_cmp (keys_of r.starts) → is_some (start_of (without_start who op r) w o) ≡ cond (same_addr who w && same_addr op o) false (is_some (start_of r w o))
gone_there r who op w o a = ap is_some (at-taken pair_cmp pair_total r.starts (op, who) (o, w) a ∙ ap (λ b. cond b None (start_of r w o)) (pair_at who op w o)) ∙ by (same_addr who w && same_addr op o)
  where
    by : (b : Bool) → is_some (cond b None (start_of r w o)) ≡ cond b false (is_some (start_of r w o))
    by true = refl
    by false = refl

-- what was put is found
pub put_found : {X : Type 0} (es : List (List ℕ × X)) (o : List ℕ) (x : X) → at addr_cmp (with addr_cmp es o x) o ≡ Some x
put_found es o x = at-put addr_cmp addr_total es o o x ∙ ap (λ b. cond b (Some x) (at addr_cmp es o)) (same_itself o)

module _ (P : List ℕ → Type 0) (T : List ℕ → ℕ) where
  -- ---- ending

  -- what the end of a validator's period leaves
  pub record EndFits (val : Validator) (v : View) (l : Lists) (d : Shared) (z : ℕ × Shared × View × Log) : Type 0 where
    pub leaves : Leaves P T v l z.1 z.2
    pub old : Periods
    pub ratio : Money
    pub found : at addr_cmp d.rewards.periods val.operator ≡ Some old
    pub fits : PeriodsFit P v.ctx.height old
    pub now : at addr_cmp z.1.rewards.periods val.operator ≡ Some (ended_with ratio old)
    pub starts : z.1.rewards.starts ≡ d.rewards.starts

  pub own_periods : (height : ℕ) (es : List (List ℕ × Periods)) (o : List ℕ) (p : Periods) → at addr_cmp es o ≡ Some p → AllByRecursion (λ e. PeriodsFit P height e.1) es → PeriodsFit P height p
  own_periods height es o p e h = looked_up (λ (x : List ℕ × Periods). PeriodsFit P height x.1) (is_at (addr_cmp o)) (PeriodsFit P height) (λ k y t g. g) es p e h

  pub end_fits : (val : Validator) (v : View) (l : Lists) (d : Shared) → HooksFit P T v l d → l.operators val.operator ≡ true → IfOk (ended val d v) (EndFits val v l d)
  end_fits val v l d h there =
      let s = h.shared in
      let op = val.operator in
      let old : Periods = periods_of d.rewards op in
      let found : at addr_cmp d.rewards.periods op ≡ Some old = some_unwrap (at addr_cmp d.rewards.periods op) initial_records (s.stands.periods op ∙ there) in
      let fits : PeriodsFit P v.ctx.height old = own_periods v.ctx.height d.rewards.periods op old found s.periods in
      on_then (current_taken val d.purses) _ (HasTaken P d.purses) _ (has_taken P val d.purses (s.purses_ascend, s.purses, s.pool) (s.stands.purses op ∙ there)) (λ x t.
      on_then (period_ended x.0 old) _ (HasEnded P v.ctx.height old) _ (has_ended P v.ctx.height x.0 old fits t.increment) (λ y k.
      let within : Shared = record d { purses = x.2 } in
      let after = shared_purses P v.ctx.height l d x.2 s t.purses in
      record {
        leaves = record {
          ctx = refl;
          ground = ground_told P T (λ facts. pooled_told x.1 facts ++ fact.Period op (last_ended y.1) y.0 ∷ []) v (λ e. quiet_behind (pooled_told x.1 v.facts) (fact.Period op (last_ended y.1) y.0) (λ c. refl) e ∙ quiet_pooled x.1 v.facts e) h.ground;
          bonded = λ e. refl;
          not_bonded = λ e. refl;
          owed = λ e. h.owed e ∙ sym (t.owed e);
          shared = periods_put P v.ctx.height l within op old y.1 after found k.fits (λ i f. subst (λ p. StartFits v.ctx.height p i) (sym k.is) (start_after v.ctx.height y.0 old i f));
        };
        old = old;
        ratio = y.0;
        found = found;
        fits = fits;
        now = put_found d.rewards.periods op y.1 ∙ ap Some k.is;
        starts = refl;
      }))

  -- ---- starting

  pub start_leaves : (val : Validator) (who : List ℕ) (shares : ℕ) (v : View) (l : Lists) (d : Shared) → HooksFit P T v l d → l.operators val.operator ≡ true
      → Leaves P T v (with_started who val.operator true l) (started val who shares d v).0 (started val who shares d v).1
  start_leaves val who shares v l d h there =
      let s = h.shared in
      let op = val.operator in
      let p : Periods = periods_of d.rewards op in
      let found : at addr_cmp d.rewards.periods op ≡ Some p = some_unwrap (at addr_cmp d.rewards.periods op) initial_records (s.stands.periods op ∙ there) in
      let fits : PeriodsFit P v.ctx.height p = own_periods v.ctx.height d.rewards.periods op p found s.periods in
      let info : StartingInfo = record { period = last_ended p; stake = value_cut_of val.tokens val.shares shares; height = v.ctx.height } in
      let begun : StartFits v.ctx.height p info = record { period = before p.current fits.first; height = omega arith; stands = fits.last } in
      record {
        ctx = refl;
        ground = ground_told P T (λ facts. facts ++ fact.Started who op (last_ended p) info.stake ∷ []) v (quiet_behind v.facts (fact.Started who op (last_ended p) info.stake) (λ e. refl)) h.ground;
        bonded = λ e. refl;
        not_bonded = λ e. refl;
        owed = h.owed;
        shared = record {
          stands = record { purses = s.stands.purses; periods = s.stands.periods; starts = λ w o. begun_there d.rewards who op info w o ∙ ap (λ b. cond (same_addr who w && same_addr op o) true b) (s.stands.starts w o) };
          purses_ascend = s.purses_ascend;
          purses = s.purses;
          pool = s.pool;
          periods_ascend = s.periods_ascend;
          periods = s.periods;
          starts_ascend = ascend-put pair_cmp pair_total d.rewards.starts (op, who) info s.starts_ascend;
          starts = all_put (λ (e : (List ℕ × List ℕ) × StartingInfo). (q : Periods) → at addr_cmp d.rewards.periods e.0.0 ≡ Some q → StartFits v.ctx.height q e.1) pair_cmp exact_pair (op, who) info d.rewards.starts
              (λ q g. subst (λ x. StartFits v.ctx.height x info) (same_some p q (at addr_cmp d.rewards.periods op) found g) begun) s.starts;
          payees = s.payees;
        };
      }
    where
      before : (c : ℕ) → 1 ≤ c → c - 1 < c
      before c l = omega (arith, l)

  -- ---- rewards

  earned_known : (ratio : ℕ → Money) (ts : List Stretch) (total : Money) → ((p : ℕ) → IsKnown P (ratio p)) → IsKnown P total → IfOk (earned ratio ts total) (IsKnown P)
  earned_known ratio [] total r k = k
  earned_known ratio (t ∷ ts) total r k =
      on_bind (coins_mul_cut (coins_taken (ratio t.last) (ratio t.after)) t.stake) _ _ (λ part e. on_bind (coins_added total part) _ _ (λ sum f.
      earned_known ratio ts sum r (known_added P total part sum f k (known_mul_cut P (coins_taken (ratio t.last) (ratio t.after)) part t.stake e (known_taken P (ratio t.last) (ratio t.after) (r t.last))))))

  reward_known : (s : Option StartingInfo) (p : Periods) (ending height value : ℕ) → AllByRecursion (λ r. IsKnown P r.1) p.ratios → IfOk (reward_at s p ending height value) (IsKnown P)
  reward_known None p ending height value k = known_none P
  reward_known (Some s) p ending height value k = by (s.height == height)
    where
      by : (b : Bool) → IfOk (cond b (Ok []) (earned (ratio_at p.ratios) (stretches_of s p.events ending value) [])) (IsKnown P)
      by true = known_none P
      by false = earned_known (ratio_at p.ratios) (stretches_of s p.events ending value) [] (λ q. ratio_known P p.ratios q k) (known_none P)

  -- what is paid of a reward leaves what is outstanding, and its fractions join the pool
  record HasPaid (p : Purses) (z : Money × Purses) : Type 0 where
    known : IsKnown P z.0
    purses : PursesFit P p z.1
    owed : (d : List ℕ) → owed_of z.1 d + 10 ^ 18 * amount_of (whole_coins z.0) d ≡ owed_of p d

  has_paid : (operator : List ℕ) (full : Money) (p : Purses) → Ordered P p → is_some (at addr_cmp p.purses operator) ≡ true → IsKnown P full → IfOk (paid_out operator full p) (HasPaid p)
  has_paid operator full p o there known =
      let purse = purse_of p operator in
      let found : at addr_cmp p.purses operator ≡ Some purse = some_unwrap (at addr_cmp p.purses operator) no_purse there in
      let f : PurseFits P purse = own_purse P p.purses operator purse found o.1 in
      let reward = smaller_of full purse.outstanding in
      let less : Purse = record purse { outstanding = coins_taken purse.outstanding reward } in
      let own : IsKnown P reward = known_smaller P full purse.outstanding known in
      let put = purse_put P p operator purse less found o.0 o.1 o.2 (record { outstanding = known_taken P purse.outstanding reward f.outstanding; commission = f.commission; current = f.current }) in
      on_then (pool_joined (fractions reward) (with_purse operator less p)) _ (HasJoined P (fractions reward) (with_purse operator less p)) _
      (has_joined P (fractions reward) (with_purse operator less p) o.2 (known_fractions P reward own)) (λ q k. record {
        known = own;
        purses = pool_after P p (with_purse operator less p) q put k.purses k.known;
        owed = λ d. kept _ _ _ _ _ _ _ _ _ _ _
            (ap (λ es. total addr_cmp addr_total (λ x. amount_of x.outstanding d) es) k.purses)
            (total_put addr_cmp addr_total (λ x. amount_of x.outstanding d) operator purse less p.purses o.0 found)
            (amount-all (λ e n. n - amount_of reward e) (λ e. omega arith) purse.outstanding d (rises_from_money purse.outstanding f.outstanding.money))
            (amount-all (λ e n. min n (amount_of purse.outstanding e)) (λ e. omega arith) full d (rises_from_money full known.money))
            (k.amount d)
            (amount-all (λ e n. trunc_of n) (λ e. refl) reward d (rises_from_money reward own.money))
            (amount-all (λ e n. n % 10 ^ 18) (λ e. refl) reward d (rises_from_money reward own.money))
            (div-add-mod' (amount_of reward d) (10 ^ 18));
      })
    where
      kept : (tq t t0 out less r full pq p0 w fr : ℕ) → tq ≡ t → t + out ≡ t0 + less → less ≡ out - r → r ≡ min full out → pq ≡ p0 + fr → w ≡ r / 10 ^ 18 → fr ≡ r % 10 ^ 18 → r / 10 ^ 18 * 10 ^ 18 + r % 10 ^ 18 ≡ r → tq + pq + 10 ^ 18 * w ≡ t0 + p0
      kept tq t t0 out less r full pq p0 w fr e f g h i j m n = omega (arith, e, f, g, h, i, j, m, n)

  -- ---- withdrawing

  start_gone : (height : ℕ) (l : Lists) (d : Shared) (who op : List ℕ) → SharedFits P height l d → SharedFits P height (with_started who op false l) (record d { rewards = without_start who op d.rewards })
  start_gone height l d who op s = record {
    stands = record { purses = s.stands.purses; periods = s.stands.periods; starts = λ w o. gone_there d.rewards who op w o s.starts_ascend ∙ ap (λ b. cond (same_addr who w && same_addr op o) false b) (s.stands.starts w o) };
    purses_ascend = s.purses_ascend;
    purses = s.purses;
    pool = s.pool;
    periods_ascend = s.periods_ascend;
    periods = s.periods;
    starts_ascend = ascend_taken pair_cmp (op, who) d.rewards.starts s.starts_ascend;
    starts = all_taken (λ (e : (List ℕ × List ℕ) × StartingInfo). (q : Periods) → at addr_cmp d.rewards.periods e.0.0 ≡ Some q → StartFits height q e.1) (is_at (pair_cmp (op, who))) d.rewards.starts s.starts;
    payees = s.payees;
  }

  paid_leaves : (v : View) (l : Lists) (d : Shared) (who op to : List ℕ) (reward : Money) (q : Purses) → HooksFit P T v l d → HasPaid d.purses (reward, q)
      → Leaves P T v (with_started who op false l) (record d { rewards = without_start who op d.rewards; purses = q })
      (noted (fact.Paid who op to reward (whole_coins reward)) (over_facts (pooled_told (fractions reward)) (paid_to to (whole_coins reward) v)))
  paid_leaves v l d who op to reward q h k =
      let coins = whole_coins reward in
      let paid = are_paid P T v (account.User to) coins (owed_from_distribution d) (owed_of q) h.ground (known_whole P reward k.known).money (user_is_other to) h.owed k.owed in
      record {
        ctx = refl;
        ground = ground_told P T (λ facts. pooled_told (fractions reward) facts ++ fact.Paid who op to reward coins ∷ []) (paid_to to coins v)
            (λ e. quiet_behind (pooled_told (fractions reward) (paid_to to coins v).facts) (fact.Paid who op to reward coins) (λ c. refl) e ∙ quiet_pooled (fractions reward) (paid_to to coins v).facts e) paid.ground;
        bonded = paid.bonded;
        not_bonded = paid.not_bonded;
        owed = paid.holds;
        shared = start_gone v.ctx.height l (record d { purses = q }) who op (shared_purses P v.ctx.height l d q h.shared k.purses);
      }

  -- what is due is known, and the period has ended
  pub due_leaves : (val : Validator) (who : List ℕ) (shares : ℕ) (v : View) (l : Lists) (d : Shared) → HooksFit P T v l d → l.operators val.operator ≡ true
      → IfOk (reward_due val who shares d v) (λ z. IsKnown P z.0 × Leaves P T v l z.1 z.2)
  due_leaves val who shares v l d h there =
      on_then (ended val d v) _ (EndFits val v l d) _ (end_fits val v l d h there) (λ x k.
      let s = (fit_after P T v x.2 l x.1 k.leaves).shared in
      let op = val.operator in
      let p : Periods = periods_of x.1.rewards op in
      let found : at addr_cmp x.1.rewards.periods op ≡ Some p = some_unwrap (at addr_cmp x.1.rewards.periods op) initial_records (s.stands.periods op ∙ there) in
      let own : PeriodsFit P x.2.ctx.height p = own_periods x.2.ctx.height x.1.rewards.periods op p found s.periods in
      on_then (reward_at (start_of x.1.rewards who op) p x.0 x.2.ctx.height (value_even_of val.tokens val.shares shares)) _ (IsKnown P) _
      (reward_known (start_of x.1.rewards who op) p x.0 x.2.ctx.height (value_even_of val.tokens val.shares shares) own.lists) (λ full known. (known, k.leaves)))

  pub withdrawal_leaves : (val : Validator) (who : List ℕ) (shares : ℕ) (v : View) (l : Lists) (d : Shared) → HooksFit P T v l d → l.operators val.operator ≡ true
      → IfOk (reward_withdrawn val who shares d v) (λ z. Leaves P T v (with_started who val.operator false l) z.1 z.2)
  withdrawal_leaves val who shares v l d h there =
      on_then (reward_due val who shares d v) _ (λ z. IsKnown P z.0 × Leaves P T v l z.1 z.2) _ (due_leaves val who shares v l d h there) (λ x k.
      let fits = fit_after P T v x.2 l x.1 k.1 in
      let s = fits.shared in
      let op = val.operator in
      on_then (paid_out op x.0 x.1.purses) _ (HasPaid x.1.purses) _ (has_paid op x.0 x.1.purses (s.purses_ascend, s.purses, s.pool) (s.stands.purses op ∙ there) k.0) (λ y paid.
      leaves_then P T v x.2 _ l (with_started who op false l) x.1 _ k.1 (paid_leaves x.2 l x.1 who op (payee_of x.1 who) y.0 y.1 fits paid)))

  -- a reward is withdrawn, and the rewards start anew
  pub renewal_leaves : (val : Validator) (who : List ℕ) (shares : ℕ) (v : View) (l : Lists) (d : Shared) → HooksFit P T v l d → l.operators val.operator ≡ true
      → IfOk (reward_renewed val who shares d v) (λ z. Leaves P T v (with_started who val.operator true (with_started who val.operator false l)) z.1 z.2)
  renewal_leaves val who shares v l d h there =
      on_then (reward_withdrawn val who shares d v) _ (λ z. Leaves P T v (with_started who val.operator false l) z.1 z.2) _ (withdrawal_leaves val who shares v l d h there) (λ x k.
      leaves_then P T v x.2 _ (with_started who val.operator false l) _ x.1 _ k (start_leaves val who shares x.2 (with_started who val.operator false l) x.1 (fit_after P T v x.2 (with_started who val.operator false l) x.1 k) there))

  -- ---- the message

  -- the same under other lists
  leaves_listed : (v : View) (l l2 : Lists) (d : Shared) (u : View) → Leaves P T v l d u → ((o : List ℕ) → l2.operators o ≡ l.operators o) → ((who o : List ℕ) → l2.started who o ≡ l.started who o) → Leaves P T v l2 d u
  leaves_listed v l l2 d u k f g = record { ctx = k.ctx; ground = k.ground; bonded = k.bonded; not_bonded = k.not_bonded; owed = k.owed; shared = relisted P T v.ctx.height l l2 d k.shared f g }

  again : (l : Lists) (who op w o : List ℕ) → l.started who op ≡ true → cond (same_addr who w && same_addr op o) true (cond (same_addr who w && same_addr op o) false (l.started w o)) ≡ l.started w o
  again l who op w o e = by (same_addr who w) (same_addr op o) refl refl
    where
      by : (a b : Bool) → same_addr who w ≡ a → same_addr op o ≡ b → cond (a && b) true (cond (a && b) false (l.started w o)) ≡ l.started w o
      by false b p q = refl
      by true false p q = refl
      by true true p q = sym (ap (λ x. l.started x o) (sym (same_is who w p)) ∙ ap (λ y. l.started who y) (sym (same_is op o q)) ∙ e)

  pub reward_fits : (who operator : List ℕ) (w : State) → StateFits P T w → IfOk (withdraw_reward who operator w) (StateLeft P T w)
  reward_fits who operator w h =
      let s = w.mine.staked in
      let l = lists_of s in
      on_then (reward_taken s who operator w.hooks.0 w.view) _ (λ x. StateLeft P T w (with_shared x.1 x.2 x.3 w)) _
      (on_found (validator_at s operator) NoValidator _ _ (λ val found. on_found (delegation s who operator) NoDelegation _ _ (λ shares held.
      let own : validator_at s val.operator ≡ Some val = own_place P T w.view.ctx.height s operator val h.stake.staked found in
      let same : val.operator ≡ operator = h.stake.staked.operators operator val found in
      let started : is_some (delegation s who val.operator) ≡ true = ap (λ o. is_some (delegation s who o)) same ∙ ap is_some held in
      lifted_if Overflow (reward_renewed val who shares w.hooks.0 w.view) (λ x. StateLeft P T w (with_shared x.1 x.2 x.3 w))
      (weaker_if (reward_renewed val who shares w.hooks.0 w.view) (λ z. Leaves P T w.view (with_started who val.operator true (with_started who val.operator false l)) z.1 z.2) (λ x. StateLeft P T w (with_shared x.1 x.2 x.3 w))
      (renewal_leaves val who shares w.view l w.hooks.0 (record { ground = h.stake.ground; owed = h.stake.owed; shared = h.stake.shared }) (ap is_some own))
      (λ x k. state_left P T w x.1 x.2 x.3 h (leaves_listed w.view _ l x.1 x.2 k (λ o. refl) (λ u o. sym (again l who val.operator u o started))))))))
      (λ x k. k)

pub rewards_keep_soundness : RewardsKeepSoundness
rewards_keep_soundness who operator = keeps (withdraw_reward who operator) (λ P T w h. reward_fits P T who operator w h)
