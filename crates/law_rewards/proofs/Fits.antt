-- What unbonding shares needs of staking and distribution together, whoever's they are, and leaves again: where one unbonding
-- comes behind another, as in a redelegation or a slash.
use Rattle.std.proofs.Common.{◌≡◌, ℕ, ◌-◌, ◌^◌, ◌<◌, ◌≤◌, ◌==◌, Bool, true, false, cond, List, [], ◌∷◌, refl, arith, sym, ap, subst, ◌∙◌, Option, Some, None, Result, Ok, unwrap_or, is_some, ◌&&◌, ◌||◌, if◌then◌else◌, Ordering, Less}
use Rattle.std.specs.{List.{AllByRecursion, Sorted.IsStrictlySortedBy}, Map.{keys_of, remove_entry}, BTreeMap.is_at}
use Rattle.base_decimals.specs.declared.over.Over.{Over}
use Rattle.base_types.specs.Orders.{addr_cmp}
use Rattle.base_coins.{specs.Coins.{Money, IsMoney, coins_taken, smaller_of, fractions}, proofs.Order.money-nil}
use Rattle.base_coins.proofs.Results.{taken_is_money}
use Rattle.base_shares.specs.Shares.{amount_out, value_cut_of}
use Rattle.base_roles.specs.declared.entities.{Purse.Purse, StartingInfo.StartingInfo, Validator.Validator}
use Rattle.base_roles.specs.{Entries.{at, with, without}, Items.no_purse, Log.Log, Orders.{pair_cmp, same_addr}}
use Rattle.base_roles.specs.Staked.{Staked, validator_at, delegation, put_validator, is_unbonded}
use Rattle.base_roles.specs.World.{View, World, gives, call, noted, over_view, over_mine, logged}
use Rattle.base_roles.specs.declared.calls.Hook.TheVariants.{Modifying as modifying, Modified as modified}
use Rattle.base_roles.specs.declared.facts.Fact.TheVariants as fact
use Rattle.base_roles.specs.Log as log
use Rattle.base_roles.specs.declared.calls.Hook.TheVariants as hook
use Rattle.rule_modules.proofs.{EntryLemmas.{at-put, at-taken, ascend-put}, OrderLemmas.{addr_total, pair_total}}
use Rattle.rule_modules.{proofs.SoundLemmas.to_points, specs.Chain.{Hooks, State, chain_told, staked_in, with_staked}}
use Rattle.rule_modules.specs.Delegating.{hook_before}
use Rattle.rule_modules.specs.Distribution.{Shared, distribution_told, ended, started, reward_withdrawn}
use Rattle.rule_modules.specs.Periods.{Periods, initial_records, periods_of, start_of, last_ended}
use Rattle.rule_modules.specs.{Purses.{Purses, purse_of, with_purse, pool_joined, paid_out}, Sound.IsSound}
use Rattle.rule_modules.specs.Stakes.{put_delegation, without_shares, without_validator}
use Rattle.rule_modules.specs.Unbonding.{put_in_jail, falls_below_minimum, left_standing, removed_if_empty, validator_removed, unbonded_shares}
use Rattle.law_rewards.{specs.States.{account_in, AreReached}, proofs.Denominations.step_parts}
use Rattle.law_rewards.proofs.{Entries.{addr_is, put_there, put_elsewhere}, Reached.reached_some}
use Rattle.law_rewards.proofs.Claims.{IsReady, IsEnded, AreLists, ended_is, periods_with, current_at, outstanding_at, lists_at, some_of, start_with, own_start}
use Rattle.law_rewards.proofs.{Payments.{IsWithdrawn, withdrawn_is}, Beginnings.under_own}
use Rattle.law_rewards.proofs.{Quiet.{same_ok, joined_purses}, Hooked.{hook_gave, call_parts, answer_of, opened}}
use Rattle.law_rewards.proofs.{Growing.start_told, Leaving.{RecordsGo, removed_is, addr_taken, less_of}}
use Rattle.law_rewards.proofs.Undelegating.{left_then, leaving, unbonded_reached}

-- ---- what stands at a key

-- what holds of the new entry, and held of what stood, holds of what stands
either_put : {X : Type 0} (Q : X → Type 0) (b : Bool) (new x : X) (o : Option X) → cond b (Some new) o ≡ Some x → (b ≡ true → Q new) → (o ≡ Some x → Q x) → Q x
either_put Q true new x o e f g = let same : new ≡ x = cc in subst Q same (f refl)
either_put Q false new x o e f g = g e

still_there : {X : Type 0} (Q : Type 0) (b : Bool) (x : X) (o : Option X) → cond b None o ≡ Some x → (b ≡ false → o ≡ Some x → Q) → Q
still_there Q true x o e f = absurd cc
still_there Q false x o e f = f refl e

either_or : {X : Type 0} (Q : X → Type 0) (b : Bool) (x y : X) (o : Option X) → Q x → Q (unwrap_or o y) → Q (unwrap_or (cond b (Some x) o) y)
either_or Q true x y o p q = p
either_or Q false x y o p q = q

pub put_then : {X : Type 0} (Q : X → Type 0) (es fs : List (List ℕ × X)) (op o : List ℕ) (x y : X) → fs ≡ with addr_cmp es op x → Q x → Q (unwrap_or (at addr_cmp es o) y) → Q (unwrap_or (at addr_cmp fs o) y)
put_then Q es fs op o x y is new old =
    subst (λ m. Q (unwrap_or m y)) (sym (ap (λ t. at addr_cmp t o) is ∙ at-put addr_cmp addr_total es op o x)) (either_or Q (same_addr o op) x y (at addr_cmp es o) new old)

taken_some : {X : Type 0} (b : Bool) (m : Option X) → is_some (cond b None m) ≡ cond b false (is_some m)
taken_some true m = refl
taken_some false m = refl

put_some : {X : Type 0} (b : Bool) (x : X) (m : Option X) → is_some (cond b (Some x) m) ≡ cond b true (is_some m)
put_some true x m = refl
put_some false x m = refl

anew : (b t : Bool) → cond b true (cond b false t) ≡ cond b true t
anew true t = refl
anew false t = refl

-- keys stay in order as an entry goes
module _ {K X : Type 0} (cmp : K → K → Ordering) where
  below_taken : (q : K) (test : K → Bool) (es : List (K × X)) → AllByRecursion (λ k. cmp q k ≡ Less) (keys_of es) → AllByRecursion (λ k. cmp q k ≡ Less) (keys_of (remove_entry test es))
  below_taken q test [] h = tt
  below_taken q test (e ∷ es) h = below_step (test e.0) (below_taken q test es h.1)
    where
      below_step : (b : Bool) → AllByRecursion (λ k. cmp q k ≡ Less) (keys_of (remove_entry test es)) → AllByRecursion (λ k. cmp q k ≡ Less) (keys_of (cond b es (e ∷ remove_entry test es)))
      below_step true r = h.1
      below_step false r = (h.0, r)

  pub ascend_taken : (k : K) (es : List (K × X)) → IsStrictlySortedBy cmp (keys_of es) → IsStrictlySortedBy cmp (keys_of (without cmp es k))
  unfolding IsStrictlySortedBy
  ascend_taken k [] s = s
  ascend_taken k (e ∷ es) s = taken_step (is_at (cmp k) e.0) (ascend_taken k es s.1)
    where
      taken_step : (b : Bool) → IsStrictlySortedBy cmp (keys_of (remove_entry (is_at (cmp k)) es)) → IsStrictlySortedBy cmp (keys_of (cond b es (e ∷ remove_entry (is_at (cmp k)) es)))
      taken_step true r = s.1
      taken_step false r = (below_taken e.0 (is_at (cmp k)) es s.0, r)

-- ---- purses and ratios of an operator

-- they are lists of coins
pub record HasLists (d : Shared) (o : List ℕ) : Type 0 where
  pub current : IsMoney (purse_of d.purses o).current
  pub outstanding : IsMoney (purse_of d.purses o).outstanding
  pub lists : AreLists (periods_of d.rewards o)

-- so they are behind the end of a period
pub ended_lists : (v : Validator) (d : Shared) (u : View) (z : ℕ × Shared × View × Log) → HasLists d v.operator → ended v d u ≡ Ok z → (o : List ℕ) → HasLists d o → HasLists z.1 o
ended_lists v d u z own e o h =
    let op : List ℕ = v.operator in
    let k : IsEnded [] v d u z = ended_is [] v d u z own.current own.outstanding own.lists e in
    let p : Periods = periods_with (periods_of d.rewards op) k.ratio in record {
      current = put_then (λ q. IsMoney q.current) d.purses.purses z.1.purses.purses op o k.purse.purse no_purse k.purse.is (subst IsMoney (sym k.purse.none) money-nil) h.current;
      outstanding = put_then (λ q. IsMoney q.outstanding) d.purses.purses z.1.purses.purses op o k.purse.purse no_purse k.purse.is k.purse.money h.outstanding;
      lists = subst (λ r. AreLists (periods_of r o)) (sym k.rewards) (put_then AreLists d.rewards.periods (with addr_cmp d.rewards.periods op p) op o p initial_records refl (k.ratio_money, own.lists) h.lists);
    }

pub ended_starts : (v : Validator) (d : Shared) (u : View) (z : ℕ × Shared × View × Log) → HasLists d v.operator → ended v d u ≡ Ok z → z.1.rewards.starts ≡ d.rewards.starts
ended_starts v d u z own e = let k : IsEnded [] v d u z = ended_is [] v d u z own.current own.outstanding own.lists e in ap (λ r. r.starts) k.rewards

-- the purses behind a payment
paid_purses : (op : List ℕ) (full : Money) (p : Purses) (z : Money × Purses) → paid_out op full p ≡ Ok z
    → z.1.purses ≡ with addr_cmp p.purses op (record (purse_of p op) { outstanding = coins_taken (purse_of p op).outstanding (smaller_of full (purse_of p op).outstanding) })
paid_purses op full p z e =
    let old : Purse = purse_of p op in
    let reward : Money = smaller_of full old.outstanding in
    let less : Purse = record old { outstanding = coins_taken old.outstanding reward } in
    let one : (q : Purses) × (pool_joined (fractions reward) (with_purse op less p) ≡ Ok q) × (Path (Result (Money × Purses) Over) (Ok (reward, q)) (Ok z)) =
    step_parts (pool_joined (fractions reward) (with_purse op less p)) (λ q. Ok (reward, q)) z e in
    ap (λ x. x.1.purses) (sym (same_ok (reward, one.0) z one.2)) ∙ joined_purses (fractions reward) (with_purse op less p) one.0 one.1

withdrawn_lists : (v : Validator) (who : List ℕ) (held : ℕ) (d : Shared) (u : View) (y : Money × Shared × View × Log) → HasLists d v.operator → IsWithdrawn v who held d u y → (o : List ℕ) → HasLists d o → HasLists y.1 o
withdrawn_lists v who held d u y own k o h =
    let op : List ℕ = v.operator in
    let s : Shared = k.first.1 in
    let first : HasLists s op = ended_lists v d u k.first own k.ends op own in
    let other : HasLists s o = ended_lists v d u k.first own k.ends o h in
    let old : Purse = purse_of s.purses op in
    let less : Purse = record old { outstanding = coins_taken old.outstanding (smaller_of k.full old.outstanding) } in
    let is : y.1.purses.purses ≡ with addr_cmp s.purses.purses op less = ap (λ p. p.purses) k.purses ∙ paid_purses op k.full s.purses k.paid k.pays in record {
      current = put_then (λ q. IsMoney q.current) s.purses.purses y.1.purses.purses op o less no_purse is first.current other.current;
      outstanding = put_then (λ q. IsMoney q.outstanding) s.purses.purses y.1.purses.purses op o less no_purse is (taken_is_money old.outstanding (smaller_of k.full old.outstanding) first.outstanding) other.outstanding;
      lists = subst (λ r. AreLists (periods_of r o)) (sym k.rewards) other.lists;
    }

-- ---- staking and distribution together

-- Records of distribution stand for operators and delegations, but for starts that are gone; validators stand under their
-- operators and have no more tokens than there can be; keys ascend.
pub record Fits (gone : List ℕ → List ℕ → Bool) (s : Staked) (d : Shared) : Type 0 where
  pub lists : (o : List ℕ) (v : Validator) → validator_at s o ≡ Some v → HasLists d o
  pub starts : (x o : List ℕ) → is_some (start_of d.rewards x o) ≡ cond (gone x o) false (is_some (delegation s x o))
  pub own : (o : List ℕ) (v : Validator) → validator_at s o ≡ Some v → v.operator ≡ o
  pub tokens : (o : List ℕ) (v : Validator) → validator_at s o ≡ Some v → v.tokens ≤ 10 ^ 18
  pub validators_ascend : IsStrictlySortedBy addr_cmp (keys_of s.validators)
  pub delegations_ascend : IsStrictlySortedBy pair_cmp (keys_of s.delegations)
  pub starts_ascend : IsStrictlySortedBy pair_cmp (keys_of d.rewards.starts)

abbrev pub nobody : List ℕ → List ℕ → Bool
nobody x o = false

abbrev pub this_pair : List ℕ → List ℕ → List ℕ → List ℕ → Bool
this_pair who op x o = is_at (pair_cmp (o, x)) (op, who)

abbrev pub AllFits : State → Type 0
AllFits w = Fits nobody w.mine.staked w.hooks.0

pub fits_sound : (w : State) → IsSound w → AllFits w
fits_sound w sound = record {
  lists = λ o v e. record { current = current_at w o sound; outstanding = outstanding_at w o sound; lists = lists_at w o sound };
  starts = λ x o. sound.stands.starts x o;
  own = λ o v e. sym (under_own w o v sound e);
  tokens = λ o v e. ((to_points w.view.ctx.height w.mine.staked sound.staked).validators o v e).tokens;
  validators_ascend = sound.staked.validators_ascend;
  delegations_ascend = sound.staked.delegations_ascend;
  starts_ascend = sound.rewards.starts_ascend;
}

pub ready_fits : (w : State) (o : List ℕ) (v : Validator) → AllFits w → validator_at w.mine.staked o ≡ Some v → IsReady w o
ready_fits w o v f there = record {
  current = (f.lists o v there).current;
  outstanding = (f.lists o v there).outstanding;
  lists = (f.lists o v there).lists;
  starts = λ who. f.starts who o;
}

-- ---- what unbonding does, one after another

hook_fits : (s : Staked) (d : Shared) (u : View) (v : Validator) (who : List ℕ) (held : ℕ) (y : Money × Shared × View × Log) → Fits nobody s d → validator_at s v.operator ≡ Some v → reward_withdrawn v who held d u ≡ Ok y
    → Fits (this_pair who v.operator) s y.1
hook_fits s d u v who held y f found e =
    let op : List ℕ = v.operator in
    let k : IsWithdrawn v who held d u y = withdrawn_is v who held d u y e in
    let own : HasLists d op = f.lists op v found in
    let starts : y.1.rewards.starts ≡ without pair_cmp d.rewards.starts (op, who) =
    ap (λ r. r.starts) k.rewards ∙ ap (λ es. without pair_cmp es (op, who)) (ended_starts v d u k.first own k.ends) in record {
      lists = λ o x there. withdrawn_lists v who held d u y own k o (f.lists o x there);
      starts = λ x o. ap (λ es. is_some (at pair_cmp es (o, x))) starts
          ∙ ap is_some (at-taken pair_cmp pair_total d.rewards.starts (op, who) (o, x) f.starts_ascend)
          ∙ taken_some (this_pair who op x o) (start_of d.rewards x o)
          ∙ ap (cond (this_pair who op x o) false) (f.starts x o);
      own = f.own;
      tokens = f.tokens;
      validators_ascend = f.validators_ascend;
      delegations_ascend = f.delegations_ascend;
      starts_ascend = subst (λ es. IsStrictlySortedBy pair_cmp (keys_of es)) (sym starts) (ascend_taken pair_cmp (op, who) d.rewards.starts f.starts_ascend);
    }

-- a validator is put in the place of one
pub put_fits : (gone : List ℕ → List ℕ → Bool) (s : Staked) (d : Shared) (v new : Validator) → Fits gone s d → validator_at s new.operator ≡ Some v → new.tokens ≤ 10 ^ 18 → Fits gone (put_validator new s) d
put_fits gone s d v new f found few =
    let stands : (o : List ℕ) (x : Validator) → validator_at (put_validator new s) o ≡ Some x → cond (same_addr o new.operator) (Some new) (validator_at s o) ≡ Some x =
    λ o x there. sym (at-put addr_cmp addr_total s.validators new.operator o new) ∙ there in record {
      lists = λ o x there. either_put (λ y. HasLists d o) (same_addr o new.operator) new x (validator_at s o) (stands o x there)
          (λ t. f.lists o v (ap (validator_at s) (addr_is o new.operator t) ∙ found)) (λ h. f.lists o x h);
      starts = f.starts;
      own = λ o x there. either_put (λ y. y.operator ≡ o) (same_addr o new.operator) new x (validator_at s o) (stands o x there)
          (λ t. sym (addr_is o new.operator t)) (λ h. f.own o x h);
      tokens = λ o x there. either_put (λ y. y.tokens ≤ 10 ^ 18) (same_addr o new.operator) new x (validator_at s o) (stands o x there) (λ t. few) (λ h. f.tokens o x h);
      validators_ascend = ascend-put addr_cmp addr_total s.validators new.operator new f.validators_ascend;
      delegations_ascend = f.delegations_ascend;
      starts_ascend = f.starts_ascend;
    }

-- no share is left
none_fits : (s : Staked) (d : Shared) (who op : List ℕ) → Fits (this_pair who op) s d → Fits nobody (without_shares who op s) d
none_fits s d who op f = record {
  lists = f.lists;
  starts = λ x o. f.starts x o
      ∙ sym (ap is_some (at-taken pair_cmp pair_total s.delegations (op, who) (o, x) f.delegations_ascend) ∙ taken_some (this_pair who op x o) (delegation s x o));
  own = f.own;
  tokens = f.tokens;
  validators_ascend = f.validators_ascend;
  delegations_ascend = ascend_taken pair_cmp (op, who) s.delegations f.delegations_ascend;
  starts_ascend = f.starts_ascend;
}

-- some are
some_fits : (s : Staked) (d : Shared) (u : View) (v : Validator) (who : List ℕ) (n : ℕ) → Fits (this_pair who v.operator) s d → Fits nobody (put_delegation who v.operator n s) (started v who n d u).0
some_fits s d u v who n f =
    let op : List ℕ = v.operator in
    let info : StartingInfo = record { period = last_ended (periods_of d.rewards op); stake = value_cut_of v.tokens v.shares n; height = u.ctx.height } in record {
      lists = λ o x there. (let h : HasLists d o = f.lists o x there in record { current = h.current; outstanding = h.outstanding; lists = h.lists });
      starts = λ x o. ap is_some (at-put pair_cmp pair_total d.rewards.starts (op, who) (o, x) info)
          ∙ put_some (this_pair who op x o) info (start_of d.rewards x o)
          ∙ ap (cond (this_pair who op x o) true) (f.starts x o)
          ∙ anew (this_pair who op x o) (is_some (delegation s x o))
          ∙ sym (ap is_some (at-put pair_cmp pair_total s.delegations (op, who) (o, x) n) ∙ put_some (this_pair who op x o) n (delegation s x o));
      own = f.own;
      tokens = f.tokens;
      validators_ascend = f.validators_ascend;
      delegations_ascend = ascend-put pair_cmp pair_total s.delegations (op, who) n f.delegations_ascend;
      starts_ascend = ascend-put pair_cmp pair_total d.rewards.starts (op, who) info f.starts_ascend;
    }

-- a validator goes
gone_fits : (s : Staked) (d : Shared) (u : View) (op : List ℕ) (z : Shared × View × Log) → Fits nobody s d → RecordsGo d u op z → Fits nobody (without_validator op s) z.0
gone_fits s d u op z f k =
    let stands : (o : List ℕ) (x : Validator) → validator_at (without_validator op s) o ≡ Some x → cond (same_addr o op) None (validator_at s o) ≡ Some x =
    λ o x there. sym (at-taken addr_cmp addr_total s.validators op o f.validators_ascend) ∙ there in record {
      lists = λ o x there. still_there (HasLists z.0 o) (same_addr o op) x (validator_at s o) (stands o x there) (λ apart h. (
          let old : HasLists d o = f.lists o x h in
          let purse : purse_of z.0.purses o ≡ purse_of d.purses o = ap (λ es. unwrap_or (at addr_cmp es o) no_purse) k.purses ∙ ap (λ m. unwrap_or m no_purse) (addr_taken op o d.purses.purses apart) in
          let periods : periods_of z.0.rewards o ≡ periods_of d.rewards o = ap (λ r. periods_of r o) k.rewards ∙ ap (λ m. unwrap_or m initial_records) (addr_taken op o d.rewards.periods apart) in
          record {
            current = subst (λ q. IsMoney q.current) (sym purse) old.current;
            outstanding = subst (λ q. IsMoney q.outstanding) (sym purse) old.outstanding;
            lists = subst AreLists (sym periods) old.lists;
          }));
      starts = λ x o. ap (λ r. is_some (start_of r x o)) k.rewards ∙ f.starts x o;
      own = λ o x there. still_there (x.operator ≡ o) (same_addr o op) x (validator_at s o) (stands o x there) (λ apart h. f.own o x h);
      tokens = λ o x there. still_there (x.tokens ≤ 10 ^ 18) (same_addr o op) x (validator_at s o) (stands o x there) (λ apart h. f.tokens o x h);
      validators_ascend = ascend_taken addr_cmp op s.validators f.validators_ascend;
      delegations_ascend = f.delegations_ascend;
      starts_ascend = subst (λ r. IsStrictlySortedBy pair_cmp (keys_of r.starts)) (sym k.rewards) f.starts_ascend;
    }

-- ---- unbonding

-- what is left fits, and every other validator stands as before
pub record LeavesFit (s : Staked) (op : List ℕ) (y : World Staked Hooks) : Type 0 where
  pub fits : Fits nobody y.mine y.hooks.0
  pub others : (o : List ℕ) → same_addr o op ≡ false → validator_at y.mine o ≡ validator_at s o

emptied_fits : (x : World Staked Hooks) (v : Validator) (y : World Staked Hooks) → Fits nobody x.mine x.hooks.0 → removed_if_empty chain_told v x ≡ Ok y → LeavesFit x.mine v.operator y
emptied_fits x v y f e = by (is_unbonded v.status && (v.shares == 0)) e
  where
    by : (b : Bool) → (if b then validator_removed chain_told v x else Ok x) ≡ Ok y → LeavesFit x.mine v.operator y
    by true h =
        let op : List ℕ = v.operator in
        let w : World Staked Hooks = over_mine (without_validator op) x in
        let one : (t : World Staked Hooks) × (call chain_told (hook.Removed v) w ≡ Ok t) × (Path (Result (World Staked Hooks) Over) (Ok (over_view (noted (fact.Removed op)) t)) (Ok y)) =
        step_parts (call chain_told (hook.Removed v) w) (λ t. Ok (over_view (noted (fact.Removed op)) t)) y h in
        let told : (z : Shared × View × Log) × (distribution_told x.hooks.0 (hook.Removed v) x.view ≡ gives z.0 z.1 z.2) × (hook_gave w z ≡ one.0) = call_parts (hook.Removed v) w one.0 (λ u. refl) one.1 in
        let k : RecordsGo x.hooks.0 x.view op told.0 = removed_is v x.hooks.0 x.view told.0 told.1 in
        let is : over_view (noted (fact.Removed op)) (hook_gave w told.0) ≡ y = ap (over_view (noted (fact.Removed op))) told.2 ∙ same_ok (over_view (noted (fact.Removed op)) one.0) y one.2 in
        subst (LeavesFit x.mine op) is (record { fits = gone_fits x.mine x.hooks.0 x.view op told.0 f k; others = λ o apart. addr_taken op o x.mine.validators apart })
    by false h = subst (LeavesFit x.mine v.operator) (same_ok x y h) (record { fits = f; others = λ o apart. refl })

record LeftFits (x y : World Staked Hooks) : Type 0 where
  fits : Fits nobody y.mine y.hooks.0
  validators : y.mine.validators ≡ x.mine.validators

left_fits : (x : World Staked Hooks) (v : Validator) (who : List ℕ) (left : ℕ) (y : World Staked Hooks) → Fits (this_pair who v.operator) x.mine x.hooks.0 → left_standing chain_told v who left x ≡ Ok y → LeftFits x y
left_fits x v who left y f e = by (left == 0) e
  where
    op : List ℕ
    op = v.operator

    by : (b : Bool) → (if b then Ok (over_mine (without_shares who op) x) else call chain_told (modified v who left) (over_mine (put_delegation who op left) x)) ≡ Ok y → LeftFits x y
    by true h = subst (LeftFits x) (same_ok (over_mine (without_shares who op) x) y h) (record { fits = none_fits x.mine x.hooks.0 who op f; validators = refl })
    by false h = subst (LeftFits x) (start_told v who left (over_mine (put_delegation who op left) x) y h) (record { fits = some_fits x.mine x.hooks.0 x.view v who left f; validators = refl })

leaving_fits : (x : World Staked Hooks) (v old : Validator) (j : Bool) (who : List ℕ) (held part : ℕ) (y : ℕ × World Staked Hooks) → Fits (this_pair who v.operator) x.mine x.hooks.0 → validator_at x.mine v.operator ≡ Some old
    → v.tokens ≤ 10 ^ 18 → leaving v j who held part x ≡ Ok y → LeavesFit x.mine v.operator y.1
leaving_fits x v old j who held part y f found few e =
    let op : List ℕ = v.operator in
    let less : Validator = less_of v j part in
    let one : (w2 : World Staked Hooks) × (left_standing chain_told (record v { jailed = j }) who (held - part) x ≡ Ok w2) × (left_then v j part w2 ≡ Ok y) =
    step_parts (left_standing chain_told (record v { jailed = j }) who (held - part) x) (λ w2. left_then v j part w2) y e in
    let left : LeftFits x one.0 = left_fits x (record v { jailed = j }) who (held - part) one.0 f one.1 in
    let w2 : World Staked Hooks = logged op log.left (over_mine (put_validator less) one.0) in
    let two : (w3 : World Staked Hooks) × (removed_if_empty chain_told less w2 ≡ Ok w3) × (Path (Result (ℕ × World Staked Hooks) Over) (Ok (amount_out v.tokens v.shares part, w3)) (Ok y)) =
    step_parts (removed_if_empty chain_told less w2) (λ w3. Ok (amount_out v.tokens v.shares part, w3)) y one.2 in
    let now : Fits nobody w2.mine w2.hooks.0 = put_fits nobody one.0.mine one.0.hooks.0 old less left.fits (ap (λ vs. at addr_cmp vs op) left.validators ∙ found) (fewer v.tokens (amount_out v.tokens v.shares part) few) in
    let k : LeavesFit w2.mine op two.0 = emptied_fits w2 less two.0 now two.1 in
    subst (LeavesFit x.mine op) (ap (λ a. a.1) (same_ok (amount_out v.tokens v.shares part, two.0) y two.2)) (record {
      fits = k.fits;
      others = λ o apart. k.others o apart ∙ put_elsewhere op o less one.0.mine.validators apart ∙ ap (λ vs. at addr_cmp vs o) left.validators;
    })
  where
    fewer : (t out : ℕ) → t ≤ 10 ^ 18 → t - out ≤ 10 ^ 18
    fewer t out h = omega (arith, h)

pub unbonded_fits : (w : World Staked Hooks) (v : Validator) (who : List ℕ) (held part : ℕ) (y : ℕ × World Staked Hooks) → Fits nobody w.mine w.hooks.0 → validator_at w.mine v.operator ≡ Some v
    → unbonded_shares chain_told v who held part w ≡ Ok y → LeavesFit w.mine v.operator y.1
unbonded_fits w v who held part y f found e =
    let op : List ℕ = v.operator in
    let falls : Bool = falls_below_minimum v who (held - part) in
    let rest : World Staked Hooks → Result (ℕ × World Staked Hooks) Over = λ w1. leaving v (v.jailed || falls) who held part (if falls then put_in_jail v w1 else w1) in
    let one : (w1 : World Staked Hooks) × (call chain_told (modifying v who held) w ≡ Ok w1) × (rest w1 ≡ Ok y) = step_parts (call chain_told (modifying v who held) w) rest y e in
    let told : (z : Shared × View × Log) × (distribution_told w.hooks.0 (modifying v who held) w.view ≡ gives z.0 z.1 z.2) × (hook_gave w z ≡ one.0) = call_parts (modifying v who held) w one.0 (λ u. refl) one.1 in
    let z : Shared × View × Log = told.0 in
    let paid : (coins : Money) × (reward_withdrawn v who held w.hooks.0 w.view ≡ Ok (coins, z.0, z.1, z.2)) = answer_of (reward_withdrawn v who held w.hooks.0 w.view) z told.1 in
    let w1 : World Staked Hooks = hook_gave w z in
    let first : Fits (this_pair who op) w.mine z.0 = hook_fits w.mine w.hooks.0 w.view v who held (paid.0, z.0, z.1, z.2) f found paid.1 in
    by z first falls (subst (λ t. rest t ≡ Ok y) (sym told.2) one.2)
  where
    few : v.tokens ≤ 10 ^ 18
    few = f.tokens v.operator v found

    by : (z : Shared × View × Log) → Fits (this_pair who v.operator) w.mine z.0 → (b : Bool) → leaving v (v.jailed || b) who held part (if b then put_in_jail v (hook_gave w z) else hook_gave w z) ≡ Ok y → LeavesFit w.mine v.operator y.1
    by z first true h =
        let op : List ℕ = v.operator in
        let now : Validator = record v { jailed = true } in
        let jailed : Fits (this_pair who op) (put_validator now w.mine) z.0 = put_fits (this_pair who op) w.mine z.0 v now first found few in
        let k : LeavesFit (put_validator now w.mine) op y.1 = leaving_fits (put_in_jail v (hook_gave w z)) v now (v.jailed || true) who held part y jailed (put_there op now w.mine.validators) few h in
        record { fits = k.fits; others = λ o apart. k.others o apart ∙ put_elsewhere op o now w.mine.validators apart }
    by z first false h = leaving_fits (hook_gave w z) v v (v.jailed || false) who held part y first found few h

-- a delegation has shares
pub held_some : (w : State) (v : Validator) (who : List ℕ) (held : ℕ) → AllFits w → validator_at w.mine.staked v.operator ≡ Some v → delegation w.mine.staked who v.operator ≡ Some held → AreReached w → 0 < held
held_some w v who held f found has reached =
    let some : (info : StartingInfo) × (start_of w.hooks.0.rewards who v.operator ≡ Some info) = some_of (start_of w.hooks.0.rewards who v.operator) (f.starts who v.operator ∙ ap is_some has) in
    let there : 0 < (start_with w v who some.0).shares = own_start w v who some.0 (λ s. 0 < s.shares) some.1 (reached_some [] (account_in [] w v) (reached [] v found)) in
    subst (λ o. 0 < unwrap_or o 0) has there

-- accounts stay reached
pub unbonded_then : (w : State) (v : Validator) (who : List ℕ) (held part : ℕ) (y : ℕ × World Staked Hooks) → AllFits w → validator_at w.mine.staked v.operator ≡ Some v → delegation w.mine.staked who v.operator ≡ Some held → part ≤ held
    → AreReached w → unbonded_shares chain_told v who held part (staked_in w) ≡ Ok y → AreReached (with_staked w.mine y.1)
unbonded_then w v who held part y f found has within reached e =
    unbonded_reached w v who held part y found has (held_some w v who held f found has reached) within f.validators_ascend
    (λ z told. opened w v who z (ready_fits w v.operator v f found) found (ap (λ o. distribution_told w.hooks.0 (hook_before v who o) w.view) has ∙ told) reached) e
