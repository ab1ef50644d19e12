-- The end of a block never exceeds: the bonded set is made anew, and mature validators go, whatever a sound state holds.
use Rattle.std.proofs.Common.{◌≡◌, ◌∙◌, ℕ, ◌+◌, ◌*◌, ◌^◌, ◌<◌, ◌≤◌, ◌==◌, Bool, true, false, List, [], ◌∷◌, Some, Result, Ok, refl, sym, ap, subst, arith, ◌-◌, ◌%◌, ◌&&◌, min, if◌then◌else◌, nat_le, is_some, Contains}
use Rattle.std.{proofs.lemmas.Bool.Decides.nat_tests, specs.Map.values_of}
use Rattle.base_coins.proofs.{Amounts.{added_fits, amount-added, amount-all}, Order.rises_from_money}
use Rattle.base_coins.specs.Coins.{Money, amount_of, coins_added, coins_taken, fractions, whole_coins}
use Rattle.base_roles.{proofs.HoldingLemmas.balance-most, specs.{Entries.{at, without}, Owing.Lists, Items.no_purse}}
use Rattle.base_roles.specs.{Pair.{and_then, given_with}, Staked.{Staked, is_unbonded, lists_of, validator_at}}
use Rattle.base_roles.specs.{Flow.{◌>>=◌, each}, World.{View, World, hooked, noted, over_mine, over_view}}
use Rattle.base_roles.specs.declared.entities.{Purse.Purse, Validator.Validator}
use Rattle.law_soundness.proofs.{Burns.total_in, Hooking.stake_hooks}
use Rattle.law_soundness.proofs.Maturing.{AllStand, matured_fits, operators_are, stand_still, unbonded_fits, values_stand}
use Rattle.law_soundness.proofs.Moves.{HooksFit}
use Rattle.law_soundness.proofs.Names.{IsKnown, known_added, known_fractions, known_smaller, known_taken}
use Rattle.law_soundness.proofs.{Periods.{Ordered, some_unwrap}, Points.{PurseFits, StakeFits, StateFits, to_fits}}
use Rattle.law_soundness.proofs.{Purses.{owed_of, own_purse}, Removing.{StakeLeft, stake_removed}, Steps.from_if}
use Rattle.rule_modules.proofs.{OperatorLemmas.values_own, TotalLemmas.{total, total_left}, OrderLemmas.addr_total}
use Rattle.rule_modules.proofs.SoundLemmas.{found_itself}
use Rattle.rule_modules.specs.BondedSet.{HaveOwnOperators, difference_moved, joined_set, joining_of, leaving_of, left_set, matured, set_updated, tokens_of, validators_matured}
use Rattle.rule_modules.specs.Chain.{Hooks, State, chain_told, maturing_step, set_step, staked_in, with_staked}
use Rattle.rule_modules.specs.{Distribution.{Shared, records_removed, told_of, unlogged}, StepLaws.BlocksEnd}
use Rattle.rule_modules.specs.{Owed.entry_balances, Purses.{Purses, closed, due_at_last, pool_joined, purse_of}}
use Rattle.rule_modules.specs.Stakes.{changed, is_unbonding, without_validator}
use Rattle.rule_modules.specs.{Unbonding.{removed_if_empty, validator_removed}, Window.window_told}
use Rattle.base_types.specs.{Orders.addr_cmp, declared.status.BondStatus.TheVariants.Unbonded}
use Rattle.base_types.specs.declared.account.Account.TheVariants as account
use Rattle.base_types.specs.declared.account.Module.TheVariants as holder
use Rattle.base_decimals.specs.declared.over.Over.{Over}
use Rattle.base_roles.specs.declared.calls.Hook.TheVariants as hook
use Rattle.base_roles.specs.declared.facts.Fact.TheVariants as fact

-- a rule gives
abbrev pub Gives : {A E : Type 0} → Result A E → Type 0
Gives {A} r = (a : A) × (r ≡ Ok a)

pub gives_on : {A B E : Type 0} (r : Result A E) (f : A → Result B E) (a : A) → r ≡ Ok a → Gives (f a) → Gives (r >>= f)
gives_on {A} {B} {E} r f a e g = subst (λ (q : Result A E). Gives (q >>= f)) (sym e) g

-- ---- the bonded set

all_join : (vs : List Validator) (w : World Staked Hooks) → Gives (each (joined_set chain_told) vs w)
all_join [] w = (w, refl)
all_join (v ∷ vs) w = all_join vs _

all_leave : (vs : List Validator) (w : World Staked Hooks) → Gives (each (left_set chain_told) vs w)
all_leave [] w = (w, refl)
all_leave (v ∷ vs) w = all_leave vs _

pub set_gives : (w : World Staked Hooks) → Gives (set_updated chain_told w)
set_gives w =
    let p = w.view.ctx.params in
    let vs = values_of w.mine.validators in
    let joining = joining_of p.power_reduction p.max_validators vs in
    let leaving = leaving_of p.power_reduction p.max_validators vs in
    let (x, e) = all_join joining w in
    let (y, f) = all_leave leaving x in
    gives_on (each (joined_set chain_told) joining w) _ x e
    (gives_on (each (left_set chain_told) leaving x) (λ z. Ok (over_view (difference_moved (tokens_of joining) (tokens_of leaving)) z)) y f (over_view (difference_moved (tokens_of joining) (tokens_of leaving)) y, refl))

pub set_step_gives : (w : State) → Gives (set_step w)
set_step_gives w = let (x, e) = set_gives (staked_in w) in gives_on (set_updated chain_told (staked_in w)) (λ s. Ok (with_staked w.mine s)) x e (with_staked w.mine x, refl)

-- ---- a removed validator's purse

pub joins : (c : Money) (p : Purses) (z : Money) → coins_added p.pool c ≡ Ok z → pool_joined c p ≡ Ok (record p { pool = z })
joins c p z e = ap (λ (r : Result Money Over). r >>= λ x. Ok (record p { pool = x })) e

module _ (P : List ℕ → Type 0) (T : List ℕ → ℕ) where
  closed_gives : (op : List ℕ) (p : Purses) → Ordered P p → is_some (at addr_cmp p.purses op) ≡ true → ((d : List ℕ) → owed_of p d ≤ 10 ^ 36) → Gives (closed op p)
  closed_gives op p o there most =
      let (rest, e) = added_fits (fractions due) (coins_taken purse.outstanding due) (rises_from_money (fractions due) part.money) (rises_from_money (coins_taken purse.outstanding due) left.money) (λ d. (within d).0) in
      let known : IsKnown P rest = known_added P (fractions due) (coins_taken purse.outstanding due) rest e part left in
      let (pool, f) = added_fits p.pool rest (rises_from_money p.pool o.2.money) (rises_from_money rest known.money) (λ d. (within d).1 (amount_of rest d)
      (amount-added (fractions due) (coins_taken purse.outstanding due) rest d (rises_from_money (fractions due) part.money) (rises_from_money (coins_taken purse.outstanding due) left.money) e)) in
      let gone : Purses = record p { purses = without addr_cmp p.purses op } in
      gives_on (coins_added (fractions due) (coins_taken purse.outstanding due)) _ rest e
      (gives_on (pool_joined rest gone) (λ q. Ok (whole_coins due, rest, q)) (record gone { pool = pool }) (joins rest gone pool f)
      ((whole_coins due, rest, record gone { pool = pool }), refl))
    where
      purse : Purse
      purse = purse_of p op

      found : at addr_cmp p.purses op ≡ Some purse
      found = some_unwrap (at addr_cmp p.purses op) no_purse there

      f : PurseFits P purse
      f = own_purse P p.purses op purse found o.1

      due : Money
      due = due_at_last purse

      own : IsKnown P due
      own = known_smaller P purse.commission purse.outstanding f.commission

      left : IsKnown P (coins_taken purse.outstanding due)
      left = known_taken P purse.outstanding due f.outstanding

      part : IsKnown P (fractions due)
      part = known_fractions P due own

      bounds : (out less du cm fr all pool most : ℕ) → less ≡ out - du → du ≡ min cm out → fr ≡ du % 10 ^ 18 → out ≤ all → all + pool ≤ 10 ^ 36 → (fr + less < 10 ^ 38) × ((r : ℕ) → r ≡ fr + less → pool + r < 10 ^ 38)
      bounds out less du cm fr all pool most a b c d e =
          let s : fr ≤ du = omega (arith, c) in
          (omega (arith, a, b, s, d, e), λ r q. omega (arith, a, b, s, d, e, q))

      within : (d : List ℕ) → (amount_of (fractions due) d + amount_of (coins_taken purse.outstanding due) d < 10 ^ 38) × ((r : ℕ) → r ≡ amount_of (fractions due) d + amount_of (coins_taken purse.outstanding due) d → amount_of p.pool d + r < 10 ^ 38)
      within d = bounds (amount_of purse.outstanding d) _ (amount_of due d) (amount_of purse.commission d) _ (total addr_cmp addr_total (λ x. amount_of x.outstanding d) p.purses) (amount_of p.pool d) 0
          (amount-all (λ y n. n - amount_of due y) (λ y. omega arith) purse.outstanding d (rises_from_money purse.outstanding f.outstanding.money))
          (amount-all (λ y n. min n (amount_of purse.outstanding y)) (λ y. omega arith) purse.commission d (rises_from_money purse.commission f.commission.money))
          (amount-all (λ y n. n % 10 ^ 18) (λ y. refl) due d (rises_from_money due own.money))
          (part_of _ _ _ (total_left addr_cmp addr_total (λ x. amount_of x.outstanding d) op purse p.purses found))
          (most d)
        where
          part_of : (t x all : ℕ) → t + x ≡ all → x ≤ all
          part_of t x all e = omega (arith, e)

  pub removal_gives : (val : Validator) (v : View) (l : Lists) (d : Shared) → HooksFit P T v l d → l.operators val.operator ≡ true → Gives (records_removed val d v)
  removal_gives val v l d h there =
      let s = h.shared in
      let (z, e) = closed_gives val.operator d.purses (s.purses_ascend, s.purses, s.pool) (s.stands.purses val.operator ∙ there) (λ q. few _ _ (balance-most v.bank (account.Module holder.Distribution) q h.ground.order.bank) (h.owed q)) in
      gives_on (closed val.operator d.purses) _ z e (_, refl)
    where
      few : (b o : ℕ) → b ≤ 10 ^ 18 → 10 ^ 18 * b ≡ o → o ≤ 10 ^ 36
      few b o l e = omega (arith, l, e)

  -- ---- mature validators

  gone_gives : (b n : ℕ) (w : World Staked Hooks) (v : Validator) → StakeFits P T b n (lists_of w.mine) w → validator_at w.mine v.operator ≡ Some v → v.shares ≡ 0 → Gives (validator_removed chain_told v w)
  gone_gives b n w v h found none =
      let l = lists_of w.mine in
      let w1 : World Staked Hooks = over_mine (without_validator v.operator) w in
      let gone = stake_removed P T b n l w v h found none in
      let (z, e) = removal_gives v w1.view l w1.hooks.0 (stake_hooks P T b n l w1 gone) (ap is_some found) in
      subst (λ (r : Result (Shared × View) Over). Gives (hooked (and_then (told_of (unlogged r)) (λ d u k. given_with d k (window_told w1.hooks.1 (hook.Removed v) u))) w1 >>= λ x. Ok (over_view (noted (fact.Removed v.operator)) x))) (sym e) (_, refl)

  pub removed_gives : (b n : ℕ) (w : World Staked Hooks) (v : Validator) → StakeFits P T b n (lists_of w.mine) w → validator_at w.mine v.operator ≡ Some v → Gives (removed_if_empty chain_told v w)
  removed_gives b n w v h found = by (is_unbonded v.status) (v.shares == 0) refl
    where
      zero_is : (m : ℕ) → (m == 0) ≡ true → m ≡ 0
      zero_is m e = grind (arith, nat_tests)

      by : (u z : Bool) → (v.shares == 0) ≡ z → Gives (if u && z then validator_removed chain_told v w else Ok w)
      by true true e = gone_gives b n w v h found (zero_is v.shares e)
      by true false e = (w, refl)
      by false z e = (w, refl)

  matured_gives : (b n : ℕ) (w : World Staked Hooks) (v : Validator) → StakeFits P T b n (lists_of w.mine) w → validator_at w.mine v.operator ≡ Some v → Gives (matured chain_told v w)
  matured_gives b n w v h found = by (is_unbonding v.status) (nat_le v.unbonding_time w.view.ctx.time) refl
    where
      u : Validator
      u = record v { status = Unbonded }

      by : (s t : Bool) → is_unbonding v.status ≡ s → Gives (if s && t then removed_if_empty chain_told u (changed v Unbonded w) else Ok w)
      by true true e = removed_gives b n (changed v Unbonded w) u (unbonded_fits P T b n w v h found e) (found_itself w.mine u)
      by true false e = (w, refl)
      by false t e = (w, refl)

  all_mature : (vs : List Validator) (b n : ℕ) (w : World Staked Hooks) → StakeFits P T b n (lists_of w.mine) w → AllStand w.mine vs → HaveOwnOperators vs → Gives (each (matured chain_told) vs w)
  all_mature [] b n w h s a = (w, refl)
  all_mature (v ∷ vs) b n w h s a =
      let (x, e) = matured_gives b n w v h s.0 in
      let k = from_if (StakeLeft P T b n w v.operator) (matured chain_told v w) x e (matured_fits P T b n w v h s.0) in
      gives_on (matured chain_told v w) (λ y. each (matured chain_told) vs y) x e (all_mature vs b n x k.fits (stand_still w.mine x.mine v.operator vs k.others a.0 s.1) a.1)

  pub maturing_gives : (w : State) → StateFits P T w → Gives (maturing_step w)
  maturing_gives w h =
      let s = w.mine.staked in
      let (x, e) = all_mature (values_of s.validators) 0 (entry_balances w.mine.unbondings) (staked_in w) h.stake (values_stand w.view.ctx.height s h.stake.staked)
      (values_own s.validators h.stake.staked.validators_ascend (operators_are w.view.ctx.height s h.stake.staked)) in
      gives_on (validators_matured chain_told (staked_in w)) (λ y. Ok (with_staked w.mine y)) x e (with_staked w.mine x, refl)

pub blocks_end : BlocksEnd
blocks_end w h = (set_step_gives w, by_fits)
  where
    by_fits : Gives (maturing_step w)
    by_fits = maturing_gives (Contains h.few.some) (total_in w.view) w (to_fits w h)
