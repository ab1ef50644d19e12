-- Removing a validator without shares: its records go, and the distribution account holds what is owed then.
use Rattle.std.proofs.Common.{div-add-mod', ◌≡◌, ◌∙◌, ℕ, ◌+◌, ◌*◌, ◌^◌, ◌<◌, ◌==◌, ◌++◌, Bool, true, false, cond, List, [], ◌∷◌, Some, None, Ok, refl, sym, ap, subst, arith, ◌-◌, ◌/◌, ◌%◌, ◌&&◌, min, if◌then◌else◌, IfOk, is_some, unwrap_or}
use Rattle.std.specs.{BTreeMap.is_at, List.{AllByRecursion, Sorted.IsStrictlySortedBy}, Map.keys_of}
use Rattle.std.proofs.lemmas.Bool.Decides.{nat_tests}
use Rattle.base_types.specs.declared.account.Account.TheVariants as account
use Rattle.base_types.specs.declared.account.Module.TheVariants as holder
use Rattle.base_types.specs.{declared.status.BondStatus.BondStatus, Orders.addr_cmp}
use Rattle.base_roles.specs.{declared.entities.{Purse.Purse, Validator.Validator}, Hooks.with_operator, Owing.Lists}
use Rattle.base_roles.specs.{World.{View, World, over_view, over_mine, noted, call}, Entries.{at, number_at, without}}
use Rattle.base_roles.specs.{Holdings.balance_of, Items.no_purse, Orders.{pair_cmp, same_addr}}
use Rattle.base_roles.specs.Staked.{Staked, is_bonded, is_unbonded, lists_of, tokens_where, validator_at}
use Rattle.base_roles.specs.{StakeChanges.of_bond, declared.facts.Fact.Fact}
use Rattle.base_roles.specs.declared.facts.Fact.TheVariants as fact
use Rattle.base_roles.specs.declared.calls.Hook.TheVariants as hook
use Rattle.base_coins.proofs.{Amounts.{amount-added, amount-all}, Order.rises_from_money}
use Rattle.base_coins.specs.Coins.{Money, amount_of, coins_added, coins_taken, fractions}
use Rattle.base_decimals.specs.Decimals.{trunc_of}
use Rattle.law_soundness.proofs.Burns.{IsQuiet, quiet_behind, quiet_pooled}
use Rattle.law_soundness.proofs.Hooking.{hook_gave, on_call, stake_hooks, unlogged_if}
use Rattle.law_soundness.proofs.Lists.{all_taken, ascend_taken, weaker}
use Rattle.law_soundness.proofs.Moves.{HooksFit, Leaves, stake_left, user_is_other, ground_told}
use Rattle.law_soundness.proofs.Names.{IsKnown, known_added, known_fractions, known_smaller, known_taken, known_whole}
use Rattle.law_soundness.proofs.Periods.{Ordered, some_unwrap}
use Rattle.law_soundness.proofs.Points.{GroundFits, IsRecorded, PeriodsFit, PurseFits, StakeFits, StartFits}
use Rattle.law_soundness.proofs.Purses.{HasJoined, are_paid, has_joined, owed_of, own_purse}
use Rattle.law_soundness.proofs.{Standing.{stake_relisted, stake_told}, Steps.on_then}
use Rattle.rule_modules.proofs.{GoingLemmas.on_bind, TotalLemmas.{total, total_left}, EntryLemmas.at-taken}
use Rattle.rule_modules.proofs.OrderLemmas.{addr_total, same_back, same_is}
use Rattle.rule_modules.proofs.{SoundLemmas.{IsSoundAt, held_within, shares_at}, TokenLemmas.tokens-left}
use Rattle.rule_modules.specs.{Amounts.is_empty, Chain.{Hooks, chain_told}}
use Rattle.rule_modules.specs.{Distribution.{Shared, paid_to, payee_of, records_removed}, Owed.owed_from_distribution}
use Rattle.rule_modules.specs.Periods.{Periods}
use Rattle.rule_modules.specs.Purses.{Purses, closed, due_at_last, pool_joined, pooled_told, purse_of}
use Rattle.rule_modules.specs.{Stakes.without_validator, Unbonding.{removed_if_empty, validator_removed}}

-- a key is gone
gone_key : {X : Type 0} (es : List (List ℕ × X)) (k q : List ℕ) → IsStrictlySortedBy addr_cmp (keys_of es) → is_some (at addr_cmp (without addr_cmp es k) q) ≡ cond (same_addr k q) false (is_some (at addr_cmp es q))
gone_key es k q a = ap is_some (at-taken addr_cmp addr_total es k q a ∙ ap (λ b. cond b None (at addr_cmp es q)) (same_back q k)) ∙ by (same_addr k q)
  where
    by : (b : Bool) → is_some (cond b None (at addr_cmp es q)) ≡ cond b false (is_some (at addr_cmp es q))
    by true = refl
    by false = refl

-- what is left behind was there, under another key
record WasThere {X : Type 0} (es : List (List ℕ × X)) (k q : List ℕ) (x : X) : Type 0 where
  other : same_addr q k ≡ false
  there : at addr_cmp es q ≡ Some x

was_there : {X : Type 0} (es : List (List ℕ × X)) (k q : List ℕ) (x : X) → IsStrictlySortedBy addr_cmp (keys_of es) → at addr_cmp (without addr_cmp es k) q ≡ Some x → WasThere es k q x
was_there es k q x a e = by (same_addr q k) refl (sym (at-taken addr_cmp addr_total es k q a) ∙ e)
  where
    by : (b : Bool) → same_addr q k ≡ b → cond b None (at addr_cmp es q) ≡ Some x → WasThere es k q x
    by true p f = absurd cc
    by false p f = record { other = p; there = f }

-- ---- validators and delegations

-- no delegation is to an operator whose shares are none
none_to : (height : ℕ) (s : Staked) (v : Validator) (k : List ℕ × List ℕ) (n : ℕ) → IsSoundAt height s → validator_at s v.operator ≡ Some v → v.shares ≡ 0 → at pair_cmp s.delegations k ≡ Some n → same_addr k.0 v.operator ≡ false
none_to height s v k n h f z e = by (same_addr k.0 v.operator) refl
  where
    all : shares_at s.delegations v.operator ≡ 0
    all = sym (h.shares v.operator v f) ∙ z

    by : (b : Bool) → same_addr k.0 v.operator ≡ b → same_addr k.0 v.operator ≡ false
    by false p = p
    by true p =
        let here : number_at pair_cmp s.delegations (v.operator, k.1) ≡ n = ap (λ o. number_at pair_cmp s.delegations (o, k.1)) (sym (same_is k.0 v.operator p)) ∙ ap (λ r. unwrap_or r 0) e in
        let within = held_within s.delegations v.operator k.1 in
        let some : 0 < n = h.positive k n e in
        absurd (omega (arith, here, within, some, all))

sound-removed : (height : ℕ) (s : Staked) (v : Validator) → IsSoundAt height s → validator_at s v.operator ≡ Some v → v.shares ≡ 0 → IsSoundAt height (without_validator v.operator s)
sound-removed height s v h f z = record {
  validators_ascend = ascend_taken addr_cmp v.operator s.validators h.validators_ascend;
  delegations_ascend = h.delegations_ascend;
  operators = λ o x e. h.operators o x (there o x e);
  validators = λ o x e. h.validators o x (there o x e);
  cons = λ o p x y e g c. h.cons o p x y (there o x e) (there p y g) c;
  shares = λ o x e. h.shares o x (there o x e);
  positive = h.positive;
  existing = λ k n e. gone_key s.validators v.operator k.0 h.validators_ascend ∙ stays (same_addr v.operator k.0) (same_back v.operator k.0 ∙ none_to height s v k n h f z e) (h.existing k n e);
}
  where
    there : (o : List ℕ) (x : Validator) → validator_at (without_validator v.operator s) o ≡ Some x → validator_at s o ≡ Some x
    there o x e = (was_there s.validators v.operator o x h.validators_ascend e).there

    stays : (b : Bool) {r : Bool} → b ≡ false → r ≡ true → cond b false r ≡ true
    stays true p q = absurd cc
    stays false p q = q

module _ (P : List ℕ → Type 0) (T : List ℕ → ℕ) where
  pub stake_removed : (b n : ℕ) (l : Lists) (w : World Staked Hooks) (v : Validator) → StakeFits P T b n l w → validator_at w.mine v.operator ≡ Some v → v.shares ≡ 0 → StakeFits P T b n l (over_mine (without_validator v.operator) w)
  stake_removed b n l w v s f z = record {
    ground = s.ground;
    staked = sound-removed w.view.ctx.height w.mine v s.staked f z;
    bonded = λ d. s.bonded d ∙ ap (λ m. of_bond w.view d (m + b)) (same is_bonded);
    not_bonded = λ d. s.not_bonded d ∙ ap (λ m. of_bond w.view d (m + n)) (same (λ status. if is_bonded status then false else true));
    owed = s.owed;
    shared = s.shared;
    window = s.window;
    recorded = all_taken (IsRecorded w.hooks.1) (is_at (addr_cmp v.operator)) w.mine.validators s.recorded;
  }
    where
      none : v.tokens ≡ 0
      none = (s.staked.validators v.operator v f).empty z

      by : (c : Bool) (x y : ℕ) → y + cond c v.tokens 0 ≡ x → x ≡ y
      by true x y e = omega (arith, e, none)
      by false x y e = omega (arith, e)

      same : (test : BondStatus → Bool) → tokens_where test w.mine.validators ≡ tokens_where test (without addr_cmp w.mine.validators v.operator)
      same test = by (test v.status) _ _ (tokens-left test v.operator v w.mine.validators f)

  -- ---- distribution's records

  -- a purse is closed: what is paid, what joins the pool, and the purses then
  record HasClosed (op : List ℕ) (p : Purses) (z : Money × Money × Purses) : Type 0 where
    known : IsKnown P z.0
    ascend : IsStrictlySortedBy addr_cmp (keys_of z.2.purses)
    purses : AllByRecursion (λ e. PurseFits P e.1) z.2.purses
    pool : IsKnown P z.2.pool
    there : (o : List ℕ) → is_some (at addr_cmp z.2.purses o) ≡ cond (same_addr op o) false (is_some (at addr_cmp p.purses o))
    owed : (d : List ℕ) → owed_of z.2 d + 10 ^ 18 * amount_of z.0 d ≡ owed_of p d

  has_closed : (op : List ℕ) (p : Purses) → Ordered P p → is_some (at addr_cmp p.purses op) ≡ true → IfOk (closed op p) (HasClosed op p)
  has_closed op p o there =
      let purse = purse_of p op in
      let found : at addr_cmp p.purses op ≡ Some purse = some_unwrap (at addr_cmp p.purses op) no_purse there in
      let f : PurseFits P purse = own_purse P p.purses op purse found o.1 in
      let due = due_at_last purse in
      let own : IsKnown P due = known_smaller P purse.commission purse.outstanding f.commission in
      let left : IsKnown P (coins_taken purse.outstanding due) = known_taken P purse.outstanding due f.outstanding in
      let part : IsKnown P (fractions due) = known_fractions P due own in
      let gone : Purses = record p { purses = without addr_cmp p.purses op } in
      on_bind (coins_added (fractions due) (coins_taken purse.outstanding due)) _ _ (λ rest e.
      on_then (pool_joined rest gone) _ (HasJoined P rest gone) _ (has_joined P rest gone o.2 (known_added P (fractions due) (coins_taken purse.outstanding due) rest e part left)) (λ q k. record {
        known = known_whole P due own;
        ascend = subst (λ (es : List (List ℕ × Purse)). IsStrictlySortedBy addr_cmp (keys_of es)) (sym k.purses) (ascend_taken addr_cmp op p.purses o.0);
        purses = subst (λ (es : List (List ℕ × Purse)). AllByRecursion (λ x. PurseFits P x.1) es) (sym k.purses) (all_taken (λ (x : List ℕ × Purse). PurseFits P x.1) (is_at (addr_cmp op)) p.purses o.1);
        pool = k.known;
        there = λ x. ap (λ (es : List (List ℕ × Purse)). is_some (at addr_cmp es x)) k.purses ∙ gone_key p.purses op x o.0;
        owed = λ d. kept _ _ _ _ _ _ _ _ _ _ _ _
            (ap (λ es. total addr_cmp addr_total (λ x. amount_of x.outstanding d) es) k.purses)
            (total_left addr_cmp addr_total (λ x. amount_of x.outstanding d) op purse p.purses found)
            (amount-all (λ y n. n - amount_of due y) (λ y. omega arith) purse.outstanding d (rises_from_money purse.outstanding f.outstanding.money))
            (amount-all (λ y n. min n (amount_of purse.outstanding y)) (λ y. omega arith) purse.commission d (rises_from_money purse.commission f.commission.money))
            (k.amount d)
            (amount-added (fractions due) (coins_taken purse.outstanding due) rest d (rises_from_money (fractions due) part.money) (rises_from_money (coins_taken purse.outstanding due) left.money) e)
            (amount-all (λ y n. trunc_of n) (λ y. refl) due d (rises_from_money due own.money))
            (amount-all (λ y n. n % 10 ^ 18) (λ y. refl) due d (rises_from_money due own.money))
            (div-add-mod' (amount_of due d) (10 ^ 18));
      }))
    where
      kept : (tq t t0 out less due cm pq p0 rest w fr : ℕ) → tq ≡ t → t + out ≡ t0 → less ≡ out - due → due ≡ min cm out → pq ≡ p0 + rest → rest ≡ fr + less → w ≡ due / 10 ^ 18 → fr ≡ due % 10 ^ 18
          → due / 10 ^ 18 * 10 ^ 18 + due % 10 ^ 18 ≡ due → tq + pq + 10 ^ 18 * w ≡ t0 + p0
      kept tq t t0 out less due cm pq p0 rest w fr e f g h i j k m n = omega (arith, e, f, g, h, i, j, k, m, n)

  -- what the last hook of a validator leaves
  pub removal_leaves : (val : Validator) (v : View) (l : Lists) (d : Shared) → HooksFit P T v l d → l.operators val.operator ≡ true → IfOk (records_removed val d v) (λ z. Leaves P T v (with_operator val.operator false l) z.0 z.1)
  removal_leaves val v l d h there =
      let s = h.shared in
      let op = val.operator in
      let to = payee_of d op in
      on_then (closed op d.purses) _ (HasClosed op d.purses) _ (has_closed op d.purses (s.purses_ascend, s.purses, s.pool) (s.stands.purses op ∙ there)) (λ z k.
      let paid = are_paid P T v (account.User to) z.0 (owed_from_distribution d) (owed_of z.2) h.ground k.known.money (user_is_other to) h.owed k.owed in
      let v1 : View = paid_to to z.0 v in
      let told = by_empty (is_empty z.0) (fact.Commission op to z.0) v1 (λ x. refl) paid.ground in
      record {
        ctx = same_ctx (is_empty z.0) (fact.Commission op to z.0) v1;
        ground = ground_told P T (pooled_told z.1) (if is_empty z.0 then v1 else noted (fact.Commission op to z.0) v1) (quiet_pooled z.1 (if is_empty z.0 then v1 else noted (fact.Commission op to z.0) v1).facts) told;
        bonded = λ e. ap (λ bank. balance_of bank (account.Module holder.Bonded) e) (same_bank (is_empty z.0) (fact.Commission op to z.0) v1) ∙ paid.bonded e;
        not_bonded = λ e. ap (λ bank. balance_of bank (account.Module holder.NotBonded) e) (same_bank (is_empty z.0) (fact.Commission op to z.0) v1) ∙ paid.not_bonded e;
        owed = λ e. ap (λ bank. 10 ^ 18 * balance_of bank (account.Module holder.Distribution) e) (same_bank (is_empty z.0) (fact.Commission op to z.0) v1) ∙ paid.holds e;
        shared = record {
          stands = record {
            purses = λ o. k.there o ∙ ap (λ b. cond (same_addr op o) false b) (s.stands.purses o);
            periods = λ o. gone_key d.rewards.periods op o s.periods_ascend ∙ ap (λ b. cond (same_addr op o) false b) (s.stands.periods o);
            starts = s.stands.starts;
          };
          purses_ascend = k.ascend;
          purses = k.purses;
          pool = k.pool;
          periods_ascend = ascend_taken addr_cmp op d.rewards.periods s.periods_ascend;
          periods = all_taken (λ (e : List ℕ × Periods). PeriodsFit P v.ctx.height e.1) (is_at (addr_cmp op)) d.rewards.periods s.periods;
          starts_ascend = s.starts_ascend;
          starts = weaker (λ e. (p : Periods) → at addr_cmp d.rewards.periods e.0.0 ≡ Some p → StartFits v.ctx.height p e.1)
              (λ e. (p : Periods) → at addr_cmp (without addr_cmp d.rewards.periods op) e.0.0 ≡ Some p → StartFits v.ctx.height p e.1)
              (λ e j p g. j p (was_there d.rewards.periods op e.0.0 p s.periods_ascend g).there) d.rewards.starts s.starts;
          payees = s.payees;
        };
      })
    where
      by_empty : (b : Bool) (f : Fact) (u : View) → IsQuiet f → GroundFits P T u → GroundFits P T (if b then u else noted f u)
      by_empty true f u q g = g
      by_empty false f u q g = ground_told P T (λ facts. facts ++ f ∷ []) u (quiet_behind u.facts f q) g

      same_ctx : (b : Bool) (f : Fact) (u : View) → (if b then u else noted f u).ctx ≡ u.ctx
      same_ctx true f u = refl
      same_ctx false f u = refl

      same_bank : (b : Bool) (f : Fact) (u : View) → (if b then u else noted f u).bank ≡ u.bank
      same_bank true f u = refl
      same_bank false f u = refl

  -- ---- a validator goes where it is unbonded and has no shares

  -- what it leaves: all that fits, and every other validator
  pub record StakeLeft (b n : ℕ) (w : World Staked Hooks) (op : List ℕ) (x : World Staked Hooks) : Type 0 where
    pub fits : StakeFits P T b n (lists_of x.mine) x
    pub ctx : x.view.ctx ≡ w.view.ctx
    pub others : (o : List ℕ) → same_addr op o ≡ false → validator_at x.mine o ≡ validator_at w.mine o

  pub removed_fits : (b n : ℕ) (w : World Staked Hooks) (v : Validator) → StakeFits P T b n (lists_of w.mine) w → validator_at w.mine v.operator ≡ Some v → v.shares ≡ 0
      → IfOk (validator_removed chain_told v w) (StakeLeft b n w v.operator)
  removed_fits b n w v h found none =
      let l = lists_of w.mine in
      let op = v.operator in
      let w1 : World Staked Hooks = over_mine (without_validator op) w in
      let gone = stake_removed b n l w v h found none in
      on_call (hook.Removed v) w1 (λ x. Ok (over_view (noted (fact.Removed op)) x)) (λ d u. Leaves P T w1.view (with_operator op false l) d u) (StakeLeft b n w op) (λ u. refl)
      (unlogged_if (records_removed v w1.hooks.0 w1.view) (λ d u. Leaves P T w1.view (with_operator op false l) d u) (removal_leaves v w1.view l w1.hooks.0 (stake_hooks P T b n l w1 gone) (ap is_some found)))
      (λ d u k left. record {
        fits = stake_told P T b n (lists_of w1.mine) (hook_gave w1 d u k) (λ facts. facts ++ fact.Removed op ∷ []) (quiet_behind u.facts (fact.Removed op) (λ x. refl))
            (stake_relisted P T b n (with_operator op false l) (lists_of w1.mine) (hook_gave w1 d u k) (stake_left P T b n l (with_operator op false l) w1 d u (w1.log ++ k) gone left)
            (λ o. gone_key w.mine.validators op o h.staked.validators_ascend) (λ who o. refl));
        ctx = left.ctx;
        others = λ o e. at-taken addr_cmp addr_total w.mine.validators op o h.staked.validators_ascend ∙ ap (λ t. cond t None (validator_at w.mine o)) (same_back o op ∙ e);
      })

  pub removed_if_fits : (b n : ℕ) (w : World Staked Hooks) (v : Validator) → StakeFits P T b n (lists_of w.mine) w → validator_at w.mine v.operator ≡ Some v → IfOk (removed_if_empty chain_told v w) (StakeLeft b n w v.operator)
  removed_if_fits b n w v h found = by (is_unbonded v.status) (v.shares == 0) refl
    where
      zero_is : (m : ℕ) → (m == 0) ≡ true → m ≡ 0
      zero_is m e = grind (arith, nat_tests)

      by : (u z : Bool) → (v.shares == 0) ≡ z → IfOk (if u && z then validator_removed chain_told v w else Ok w) (StakeLeft b n w v.operator)
      by true true e = removed_fits b n w v h found (zero_is v.shares e)
      by true false e = record { fits = h; ctx = refl; others = λ o f. refl }
      by false z e = record { fits = h; ctx = refl; others = λ o f. refl }
