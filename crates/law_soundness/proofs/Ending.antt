-- Mature unbondings that are paid, and mature redelegations that go, keep a state sound.
use Rattle.std.proofs.Common.{◌≡◌, ◌∙◌, ℕ, ◌+◌, ◌*◌, ◌^◌, ◌≤◌, Bool, true, false, cond, List, [], ◌∷◌, length, refl, sym, ap, subst, arith, not, filter, nat_le, if◌then◌else◌, IfOk, Less}
use Rattle.base_types.specs.declared.account.Account.TheVariants as account
use Rattle.base_types.specs.declared.account.Module.TheVariants as holder
use Rattle.base_roles.specs.declared.entities.{UnbondingEntry.UnbondingEntry, RedelegationEntry.RedelegationEntry}
use Rattle.base_roles.specs.{declared.params.Ctx.Ctx, Owing.Lists, World.{View, World, sent, over_view}}
use Rattle.base_roles.specs.{Holdings.{balance_of, is_short}, Orders.{pair_cmp, triple_cmp}}
use Rattle.base_roles.specs.Staked.{Staked, lists_of, other_tokens}
use Rattle.rule_modules.specs.Unbondings.{key_then, UnbondingLists, completed, is_mature, paid_back}
use Rattle.rule_modules.specs.{Redelegations.{RedelegationLists, redelegations_completed}, Amounts.bond_coins}
use Rattle.rule_modules.specs.Chain.{Hooks, State, redelegations_step, staked_in, unbondings_step}
use Rattle.rule_modules.specs.Owed.{balances_of, entry_balances}
use Rattle.rule_modules.specs.Sound.{RedelegationIsSound, RedelegationsAreSound, UnbondingIsSound, UnbondingsAreSound}
use Rattle.rule_modules.proofs.{OperatorLemmas.filtered_all, TotalLemmas.total_more, OrderLemmas.pair_total}
use Rattle.std.specs.{List.{AllByRecursion, Sorted.IsStrictlySortedBy}, Map.keys_of}
use Rattle.law_soundness.proofs.Delegating.{all_other, bond_money, bond_moved, falls, has_enough, same_sum}
use Rattle.law_soundness.proofs.{Entries.{Entries, PairFits, PairsFit, from_pairs, sum_more, to_pairs}, Lists.weaker}
use Rattle.law_soundness.proofs.{Moves.{ground_sent, keeps_fits}, Points.{StakeFits, StateFits}}
use Rattle.law_soundness.proofs.{Redelegating.{TripleFits, from_triples, to_triples}, Steps.weaker_if}
use Rattle.law_soundness.specs.StepLaws.{RedelegationsStepKeepsSoundness, UnbondingsStepKeepsSoundness}

-- ---- the items that pass a test

filtered_most : {X : Type 0} (test : X → Bool) (xs : List X) → length (filter test xs) ≤ length xs
filtered_most test [] = omega arith
filtered_most test (x ∷ xs) = by (test x) (filtered_most test xs)
  where
    by : (b : Bool) → length (filter test xs) ≤ length xs → length (cond b (x ∷ filter test xs) (filter test xs)) ≤ length (x ∷ xs)
    by true l = omega (arith, l)
    by false l = omega (arith, l)

-- ---- entries that are not mature

then_balances : (key : List ℕ × List ℕ) (es : Entries) (u : UnbondingLists) → entry_balances (key_then key es u) ≡ balances_of es + entry_balances u
then_balances key [] u = omega arith
then_balances key (e ∷ es) u = total_more pair_cmp pair_total balances_of (key, e ∷ es) u

then_pairs : (height : ℕ) (key : List ℕ × List ℕ) (old es : Entries) (u : UnbondingLists) → PairFits height old → length es ≤ length old → AllByRecursion (UnbondingIsSound height) es → AllByRecursion (λ p. PairFits height p.1) u → AllByRecursion (λ p. PairFits height p.1) (key_then key es u)
then_pairs height key old [] u h l s k = k
then_pairs height key old (e ∷ es) u h l s k = (record { some = omega arith; most = most (length (e ∷ es)) (length old) l h.most; entries = s }, k)
  where
    most : (a b : ℕ) → a ≤ b → b ≤ 100 → a ≤ 100
    most a b l m = omega (arith, l, m)

then_keys : (Q : List ℕ × List ℕ → Type 0) (key : List ℕ × List ℕ) (es : Entries) (u : UnbondingLists) → Q key → AllByRecursion Q (keys_of u) → AllByRecursion Q (keys_of (key_then key es u))
then_keys Q key [] u q h = h
then_keys Q key (e ∷ es) u q h = (q, h)

then_ascends : (key : List ℕ × List ℕ) (es : Entries) (u : UnbondingLists) → AllByRecursion (λ y. pair_cmp key y ≡ Less) (keys_of u) → IsStrictlySortedBy pair_cmp (keys_of u) → IsStrictlySortedBy pair_cmp (keys_of (key_then key es u))
unfolding IsStrictlySortedBy
then_ascends key [] u b s = s
then_ascends key (e ∷ es) u b s = (b, s)

completed_keys : (Q : List ℕ × List ℕ → Type 0) (u : UnbondingLists) (v : View) → AllByRecursion Q (keys_of u) → AllByRecursion Q (keys_of (completed u v).0)
completed_keys Q [] v h = tt
completed_keys Q (p ∷ ps) v h = then_keys Q p.0 (filter (λ e. not (is_mature v.ctx.time e)) p.1) (completed ps (paid_back p.0.0 p.1 v)).0 h.0 (completed_keys Q ps (paid_back p.0.0 p.1 v) h.1)

completed_ascends : (u : UnbondingLists) (v : View) → IsStrictlySortedBy pair_cmp (keys_of u) → IsStrictlySortedBy pair_cmp (keys_of (completed u v).0)
unfolding IsStrictlySortedBy
completed_ascends [] v s = s
completed_ascends (p ∷ ps) v s =
    then_ascends p.0 (filter (λ e. not (is_mature v.ctx.time e)) p.1) (completed ps (paid_back p.0.0 p.1 v)).0 (completed_keys (λ y. pair_cmp p.0 y ≡ Less) ps (paid_back p.0.0 p.1 v) s.0) (completed_ascends ps (paid_back p.0.0 p.1 v) s.1)

completed_pairs : (height : ℕ) (u : UnbondingLists) (v : View) → AllByRecursion (λ p. PairFits height p.1) u → AllByRecursion (λ p. PairFits height p.1) (completed u v).0
completed_pairs height [] v h = tt
completed_pairs height (p ∷ ps) v h =
    let own : PairFits height p.1 = h.0 in
    then_pairs height p.0 p.1 (filter (λ e. not (is_mature v.ctx.time e)) p.1) (completed ps (paid_back p.0.0 p.1 v)).0 own (filtered_most (λ e. not (is_mature v.ctx.time e)) p.1)
    (filtered_all (λ e. not (is_mature v.ctx.time e)) (UnbondingIsSound height) p.1 (weaker (UnbondingIsSound height) (λ e. not (is_mature v.ctx.time e) ≡ true → UnbondingIsSound height e) (λ e k t. k) p.1 own.entries))
    (completed_pairs height ps (paid_back p.0.0 p.1 v) h.1)

pub completed_fit : (height : ℕ) (u : UnbondingLists) (v : View) → PairsFit height u → PairsFit height (completed u v).0
completed_fit height u v h = record { ascend = completed_ascends u v h.ascend; pairs = completed_pairs height u v h.pairs }

-- ---- redelegations that are not mature

triple_pairs : (height : ℕ) (key : List ℕ × List ℕ × List ℕ) (old es : List RedelegationEntry) (u : RedelegationLists) → TripleFits height old → length es ≤ length old → AllByRecursion (RedelegationIsSound height) es
    → AllByRecursion (λ p. TripleFits height p.1) u → AllByRecursion (λ p. TripleFits height p.1) (key_then key es u)
triple_pairs height key old [] u h l s k = k
triple_pairs height key old (e ∷ es) u h l s k = (record { some = omega arith; most = most (length (e ∷ es)) (length old) l h.most; entries = s }, k)
  where
    most : (a b : ℕ) → a ≤ b → b ≤ 100 → a ≤ 100
    most a b l m = omega (arith, l, m)

triple_keys : (Q : List ℕ × List ℕ × List ℕ → Type 0) (key : List ℕ × List ℕ × List ℕ) (es : List RedelegationEntry) (u : RedelegationLists) → Q key → AllByRecursion Q (keys_of u) → AllByRecursion Q (keys_of (key_then key es u))
triple_keys Q key [] u q h = h
triple_keys Q key (e ∷ es) u q h = (q, h)

triple_ascends : (key : List ℕ × List ℕ × List ℕ) (es : List RedelegationEntry) (u : RedelegationLists) → AllByRecursion (λ y. triple_cmp key y ≡ Less) (keys_of u) → IsStrictlySortedBy triple_cmp (keys_of u) → IsStrictlySortedBy triple_cmp (keys_of (key_then key es u))
unfolding IsStrictlySortedBy
triple_ascends key [] u b s = s
triple_ascends key (e ∷ es) u b s = (b, s)

gone_keys : (Q : List ℕ × List ℕ × List ℕ → Type 0) (now : ℕ) (r : RedelegationLists) → AllByRecursion Q (keys_of r) → AllByRecursion Q (keys_of (redelegations_completed now r))
gone_keys Q now [] h = tt
gone_keys Q now (p ∷ ps) h = triple_keys Q p.0 (filter (λ e. not (nat_le e.completes now)) p.1) (redelegations_completed now ps) h.0 (gone_keys Q now ps h.1)

gone_ascends : (now : ℕ) (r : RedelegationLists) → IsStrictlySortedBy triple_cmp (keys_of r) → IsStrictlySortedBy triple_cmp (keys_of (redelegations_completed now r))
unfolding IsStrictlySortedBy
gone_ascends now [] s = s
gone_ascends now (p ∷ ps) s = triple_ascends p.0 (filter (λ e. not (nat_le e.completes now)) p.1) (redelegations_completed now ps) (gone_keys (λ y. triple_cmp p.0 y ≡ Less) now ps s.0) (gone_ascends now ps s.1)

gone_triples : (height now : ℕ) (r : RedelegationLists) → AllByRecursion (λ p. TripleFits height p.1) r → AllByRecursion (λ p. TripleFits height p.1) (redelegations_completed now r)
gone_triples height now [] h = tt
gone_triples height now (p ∷ ps) h =
    let own : TripleFits height p.1 = h.0 in
    triple_pairs height p.0 p.1 (filter (λ e. not (nat_le e.completes now)) p.1) (redelegations_completed now ps) own (filtered_most (λ e. not (nat_le e.completes now)) p.1)
    (filtered_all (λ e. not (nat_le e.completes now)) (RedelegationIsSound height) p.1 (weaker (RedelegationIsSound height) (λ e. not (nat_le e.completes now) ≡ true → RedelegationIsSound height e) (λ e k t. k) p.1 own.entries))
    (gone_triples height now ps h.1)

module _ (P : List ℕ → Type 0) (T : List ℕ → ℕ) where
  -- ---- payments from the not-bonded account

  pub from_not_bonded : (b n : ℕ) (l : Lists) (w : World Staked Hooks) (who : List ℕ) (amount : ℕ) → StakeFits P T b (n + amount) l w
      → StakeFits P T b n l (over_view (sent (account.Module holder.NotBonded) (account.User who) (bond_coins w.view amount)) w)
  from_not_bonded b n l w who amount h =
      let from = account.Module holder.NotBonded in
      let to = account.User who in
      let backed = h.ground.order.bank in
      let e : is_short w.view.bank from (bond_coins w.view amount) ≡ false = has_enough P T w.view from (other_tokens w.mine) n amount backed (all_other P T b (n + amount) l w h) h.not_bonded in
      record {
        ground = ground_sent P T from to (bond_coins w.view amount) w.view h.ground (bond_money w.view from amount backed e) e;
        staked = h.staked;
        bonded = λ d. same_sum P T _ _ (bond_moved w.view from to amount backed e (account.Module holder.Bonded) d) ∙ h.bonded d;
        not_bonded = λ d. falls P T w.view d (balance_of w.view.bank from d) _ (other_tokens w.mine) n amount (bond_moved w.view from to amount backed e from d) (h.not_bonded d);
        owed = λ d. ap (λ x. 10 ^ 18 * x) (same_sum P T _ _ (bond_moved w.view from to amount backed e (account.Module holder.Distribution) d)) ∙ h.owed d;
        shared = h.shared;
        window = h.window;
        recorded = h.recorded;
      }

  -- the world over a ground
  abbrev pub under : View → World Staked Hooks → World Staked Hooks
  under v w = record { mine = w.mine; hooks = w.hooks; view = v; log = w.log }

  paid_back_fits : (who : List ℕ) (es : Entries) (n : ℕ) (l : Lists) (w : World Staked Hooks) → StakeFits P T 0 (n + balances_of es) l w
      → StakeFits P T 0 (n + balances_of (filter (λ e. not (is_mature w.view.ctx.time e)) es)) l (under (paid_back who es w.view) w) × ((paid_back who es w.view).ctx ≡ w.view.ctx)
  paid_back_fits who [] n l w h = (h, refl)
  paid_back_fits who (e ∷ es) n l w h =
      by (is_mature w.view.ctx.time e) (λ x m k. paid_back_fits who es m l x k)
    where
      next : World Staked Hooks
      next = under (sent (account.Module holder.NotBonded) (account.User who) (bond_coins w.view e.balance) w.view) w

      paid : (a b x : ℕ) → a ≡ x + b → n + a ≡ n + b + x
      paid a b x f = omega (arith, f)

      apart : (a b x : ℕ) → a ≡ x + b → n + a ≡ n + x + b
      apart a b x f = omega (arith, f)

      by : (b : Bool) → ((x : World Staked Hooks) (m : ℕ) → StakeFits P T 0 (m + balances_of es) l x
          → StakeFits P T 0 (m + balances_of (filter (λ e. not (is_mature x.view.ctx.time e)) es)) l (under (paid_back who es x.view) x) × ((paid_back who es x.view).ctx ≡ x.view.ctx))
          → StakeFits P T 0 (n + balances_of (cond (not b) (e ∷ filter (λ e. not (is_mature w.view.ctx.time e)) es) (filter (λ e. not (is_mature w.view.ctx.time e)) es))) l
          (under (if b then paid_back who es next.view else paid_back who es w.view) w) × ((if b then paid_back who es next.view else paid_back who es w.view).ctx ≡ w.view.ctx)
      by true rest = rest next n (from_not_bonded 0 (n + balances_of es) l w who e.balance (subst (λ m. StakeFits P T 0 m l w) (paid (balances_of (e ∷ es)) (balances_of es) e.balance (sum_more e es)) h))
      by false rest =
          let k = rest w (n + e.balance) (subst (λ m. StakeFits P T 0 m l w) (apart (balances_of (e ∷ es)) (balances_of es) e.balance (sum_more e es)) h) in
          let kept = filter (λ e. not (is_mature w.view.ctx.time e)) es in
          (subst (λ m. StakeFits P T 0 m l (under (paid_back who es w.view) w)) (sym (apart (balances_of (e ∷ kept)) (balances_of kept) e.balance (sum_more e kept))) k.0, k.1)

  completed_fits : (u : UnbondingLists) (n : ℕ) (l : Lists) (w : World Staked Hooks) → StakeFits P T 0 (n + entry_balances u) l w
      → StakeFits P T 0 (n + entry_balances (completed u w.view).0) l (under (completed u w.view).1 w) × ((completed u w.view).1.ctx ≡ w.view.ctx)
  completed_fits [] n l w h = (h, refl)
  completed_fits (p ∷ ps) n l w h =
      let all = total_more pair_cmp pair_total balances_of p ps in
      let kept = filter (λ e. not (is_mature w.view.ctx.time e)) p.1 in
      let first = paid_back_fits p.0.0 p.1 (n + entry_balances ps) l w (subst (λ m. StakeFits P T 0 m l w) (turned n (entry_balances (p ∷ ps)) (entry_balances ps) (balances_of p.1) all) h) in
      let w1 : World Staked Hooks = under (paid_back p.0.0 p.1 w.view) w in
      let rest = completed_fits ps (n + balances_of kept) l w1 (subst (λ m. StakeFits P T 0 m l w1) (swapped n (entry_balances ps) (balances_of kept)) first.0) in
      let lists = (completed ps w1.view).0 in (
        subst (λ m. StakeFits P T 0 m l (under (completed ps w1.view).1 w)) (joined n (balances_of kept) (entry_balances lists) (entry_balances (key_then p.0 kept lists)) (then_balances p.0 kept lists)) rest.0,
        rest.1 ∙ first.1,
      )
    where
      turned : (n a b x : ℕ) → a ≡ x + b → n + a ≡ n + b + x
      turned n a b x f = omega (arith, f)

      swapped : (n b x : ℕ) → n + b + x ≡ n + x + b
      swapped n b x = omega arith

      joined : (n x b a : ℕ) → a ≡ x + b → n + x + b ≡ n + a
      joined n x b a f = omega (arith, f)

  pub unbondings_fit : (w : State) → StateFits P T w → IfOk (unbondings_step w) (λ x. StateFits P T x × (x.view.ctx ≡ w.view.ctx))
  unbondings_fit w h =
      let k = completed_fits w.mine.unbondings 0 (lists_of w.mine.staked) (staked_in w) (subst (λ m. StakeFits P T 0 m (lists_of w.mine.staked) (staked_in w)) (none_first (entry_balances w.mine.unbondings)) h.stake) in
      let u = (completed w.mine.unbondings w.view).0 in (
        record {
          stake = subst (λ m. StakeFits P T 0 m (lists_of w.mine.staked) (under (completed w.mine.unbondings w.view).1 (staked_in w))) (sym (none_first (entry_balances u))) k.0;
          unbondings = subst (λ (c : Ctx). UnbondingsAreSound c.height u) (sym k.1) (from_pairs w.view.ctx.height u (completed_fit w.view.ctx.height w.mine.unbondings w.view (to_pairs w.view.ctx.height w.mine.unbondings h.unbondings)));
          redelegations = subst (λ (c : Ctx). RedelegationsAreSound c.height w.mine.redelegations) (sym k.1) h.redelegations;
        },
        k.1,
      )
    where
      none_first : (n : ℕ) → n ≡ 0 + n
      none_first n = omega arith

  pub redelegations_fit : (w : State) → StateFits P T w → IfOk (redelegations_step w) (λ x. StateFits P T x × (x.view.ctx ≡ w.view.ctx))
  redelegations_fit w h =
      let r = redelegations_completed w.view.ctx.time w.mine.redelegations in
      let k = to_triples w.view.ctx.height w.mine.redelegations h.redelegations in (
        record {
          stake = h.stake;
          unbondings = h.unbondings;
          redelegations = from_triples w.view.ctx.height r (record { ascend = gone_ascends w.view.ctx.time w.mine.redelegations k.ascend; triples = gone_triples w.view.ctx.height w.view.ctx.time w.mine.redelegations k.triples });
        },
        refl,
      )

pub unbondings_step_keeps_soundness : UnbondingsStepKeepsSoundness
unbondings_step_keeps_soundness = keeps_fits unbondings_step (λ P T w h. weaker_if (unbondings_step w) (λ x. StateFits P T x × (x.view.ctx ≡ w.view.ctx)) (StateFits P T) (unbondings_fit P T w h) (λ x k. k.0))

pub redelegations_step_keeps_soundness : RedelegationsStepKeepsSoundness
redelegations_step_keeps_soundness = keeps_fits redelegations_step (λ P T w h. weaker_if (redelegations_step w) (λ x. StateFits P T x × (x.view.ctx ≡ w.view.ctx)) (StateFits P T) (redelegations_fit P T w h) (λ x k. k.0))
