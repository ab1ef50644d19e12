-- Delegating, from a wallet or from a staking account, keeps what fits.
use Rattle.std.proofs.Common.{◌≡◌, ◌∙◌, ℕ, ◌+◌, ◌*◌, ◌^◌, ◌<◌, ◌≤◌, ◌==◌, Bool, true, false, cond, List, [], ◌∷◌, Some, Ok, refl, sym, ap, subst, arith, ◌++◌, ◌&&◌, if◌then◌else◌, IfOk, is_some, unwrap_or}
use Rattle.std.{specs.{BTreeMap.is_at, List.AllByRecursion}, proofs.lemmas.Bool.Decides.nat_tests}
use Rattle.base_types.specs.{declared.{account.Account.Account, status.BondStatus.BondStatus}, Modules.module_number}
use Rattle.base_types.specs.Orders.{addr_cmp, account_cmp, denom_cmp}
use Rattle.base_types.specs.declared.account.Account.TheVariants as account
use Rattle.base_types.specs.declared.account.Module.TheVariants as holder
use Rattle.base_coins.specs.{Coins.{IsMoney, amount_of, coin_then}, declared.coin.Coin.Coin}
use Rattle.base_roles.specs.declared.{entities.Validator.Validator, refusal.Refusal.Refusal}
use Rattle.base_roles.specs.declared.refusal.Refusal.TheVariants.{InsufficientFunds, NonPositive, NoValidator, TinyDelegation, WrongDenom, Overflow}
use Rattle.base_roles.specs.{Holdings.{Holdings, balance_of, moved, is_short, IsBacked}, Flow.stopping}
use Rattle.base_roles.specs.{World.{View, World, sent, over_view, over_mine}, Hooks.with_started, Owing.Lists}
use Rattle.base_roles.specs.{declared.{calls.{Hook.{TheVariants.{Modified as modified}}}}, Orders.{pair_cmp, same_addr}}
use Rattle.base_roles.specs.Staked.{Staked, bonded_tokens, is_bonded, lists_of, other_tokens, delegation, validator_at, put_validator}
use Rattle.base_roles.{specs.{StakeChanges.of_bond, declared.params.Ctx.Ctx}, proofs.AmountLemmas.moves_by_amounts}
use Rattle.base_roles.proofs.HoldingLemmas.{balance-most, first_enough}
use Rattle.rule_modules.specs.Delegating.{Origin, wallet, pool, shares_given, paid_in, hook_before, delegated, delegated_by, is_wrong}
use Rattle.rule_modules.specs.{Amounts.bond_coins, Chain.{Hooks, State, chain_told, staked_in, with_staked}}
use Rattle.rule_modules.specs.{Effects.delegate, Owed.entry_balances, Sound.{RedelegationsAreSound, UnbondingsAreSound}}
use Rattle.rule_modules.specs.Stakes.{refusal_of_shares, put_delegation}
use Rattle.rule_modules.proofs.{GoingLemmas.{on_found, on_lifted, on_next, on_stop}, EntryLemmas.at-put}
use Rattle.rule_modules.proofs.{OrderLemmas.{pair_total, same_back, same_itself}, SoundLemmas.exact_addr}
use Rattle.rule_modules.proofs.TokenLemmas.{tokens-put, tokens-within}
use Rattle.base_decimals.specs.Decimals.{add_of}
use Rattle.rule_machine.proofs.{PointLemmas.sound-more, PurseLemmas.{one-amount, one-money, one-rises}}
use Rattle.law_soundness.proofs.Hooking.{before_is_idle, before_told, hook_gave, lists_before, on_hook, stake_hooks}
use Rattle.law_soundness.proofs.{Lists.{all_put, looked_up}, Moves.{Leaves, ground_sent, keeps, stake_left}}
use Rattle.law_soundness.proofs.Points.{IsRecorded, StakeFits, StateFits, StateLeft, WholeEntries}
use Rattle.law_soundness.proofs.{Purses.{enough_held, there_still}, Rewards.{pair_at, start_leaves}}
use Rattle.law_soundness.proofs.{Standing.{own_place, stake_relisted}, Steps.{on_then, weaker_if, and_also}}
use Rattle.law_soundness.specs.StepLaws.{DelegatingKeepsSoundness}
use Rattle.base_shares.specs.Shares.{issued_shares}

-- ---- coins of the bond denomination

pub bond_sum : (v : View) (d : List ℕ) (x y : ℕ) → of_bond v d (x + y) ≡ of_bond v d x + of_bond v d y
bond_sum v d x y = by (is_at (denom_cmp v.ctx.params.bond_denom) d)
  where
    by : (b : Bool) → cond b (x + y) 0 ≡ cond b x 0 + cond b y 0
    by true = refl
    by false = refl

pub bond_amount : (v : View) (d : List ℕ) (n : ℕ) → amount_of (bond_coins v n) d ≡ of_bond v d n
bond_amount v d n = one-amount v.ctx.params.bond_denom d n ∙ ap (λ b. cond b n 0) (same_back d v.ctx.params.bond_denom)

enough_one : (h : Holdings) (who : Account) (bond : List ℕ) (n : ℕ) → is_short h who (coin_then bond n []) ≡ false → n ≤ balance_of h who bond
enough_one h who bond n e = by (n == 0) refl e
  where
    by : (z : Bool) → (n == 0) ≡ z → is_short h who (cond z [] ((bond, n) ∷ [])) ≡ false → n ≤ balance_of h who bond
    by true p q = let zero : n ≡ 0 = grind (arith, nat_tests) in omega (arith, zero)
    by false p q = first_enough h who (bond, n) [] q

pub bond_money : (v : View) (who : Account) (n : ℕ) → IsBacked v.bank → is_short v.bank who (bond_coins v n) ≡ false → IsMoney (bond_coins v n)
bond_money v who n b e =
    let has = enough_one v.bank who v.ctx.params.bond_denom n e in
    let most = balance-most v.bank who v.ctx.params.bond_denom b in
    one-money v.ctx.params.bond_denom n (omega (arith, has, most))

-- what each account has after they moved
pub bond_moved : (v : View) (from to : Account) (n : ℕ) → IsBacked v.bank → is_short v.bank from (bond_coins v n) ≡ false → (who : Account) (d : List ℕ)
    → balance_of (moved from to (bond_coins v n) v.bank) who d + cond (is_at (account_cmp who) from) (of_bond v d n) 0 ≡ balance_of v.bank who d + cond (is_at (account_cmp who) to) (of_bond v d n) 0
bond_moved v from to n b e who d =
    subst (λ m. balance_of (moved from to (bond_coins v n) v.bank) who d + cond (is_at (account_cmp who) from) m 0 ≡ balance_of v.bank who d + cond (is_at (account_cmp who) to) m 0) (bond_amount v d n)
    (moves_by_amounts v.bank from to (bond_coins v n) b (bond_money v from n b e) e who d)

-- the staking account of bonded validators, or of all others
abbrev pub stake_account : Bool → Account
stake_account b = account.Module (if b then holder.Bonded else holder.NotBonded)

-- ---- shares that are given

positive : (n : ℕ) → (n == 0) ≡ false → 0 < n
positive n e = grind (arith, nat_tests)

pub given_some : (v : Validator) (amount : ℕ) → IfOk (shares_given v amount) (λ issued. 0 < issued)
given_some v amount =
    on_lifted refusal_of_shares (issued_shares v.tokens v.shares amount) _ _ (λ issued e. on_next (stopping Overflow (add_of v.shares issued)) _ _ (λ t f. on_stop (issued == 0) TinyDelegation _ _ (λ z. positive issued z)))

-- ---- sums of tokens

most_by : (s : Bool) (t a b n tb to : ℕ) → cond s t 0 ≤ tb → cond (cond s false true) t 0 ≤ to → tb + (b + cond s a 0) ≤ 10 ^ 18 → to + (n + cond s 0 a) ≤ 10 ^ 18 → t + a ≤ 10 ^ 18
most_by true t a b n tb to p q r s = omega (arith, p, r)
most_by false t a b n tb to p q r s = omega (arith, q, s)

grow_bonded : (s : Bool) (t a b x y : ℕ) → y + cond s t 0 ≡ x + cond s (t + a) 0 → x + (b + cond s a 0) ≡ y + b
grow_bonded true t a b x y e = omega (arith, e)
grow_bonded false t a b x y e = omega (arith, e)

grow_other : (s : Bool) (t a b x y : ℕ) → y + cond (cond s false true) t 0 ≡ x + cond (cond s false true) (t + a) 0 → x + (b + cond s 0 a) ≡ y + b
grow_other true t a b x y e = omega (arith, e)
grow_other false t a b x y e = omega (arith, e)

abbrev pub others : BondStatus → Bool
others status = if is_bonded status then false else true

-- the lists with a delegation that has shares
pub shares_there : (s : Staked) (who op : List ℕ) (n : ℕ) (x o : List ℕ) → is_some (delegation (put_delegation who op n s) x o) ≡ cond (same_addr who x && same_addr op o) true (is_some (delegation s x o))
shares_there s who op n x o = ap is_some (at-put pair_cmp pair_total s.delegations (op, who) (o, x) n ∙ ap (λ b. cond b (Some n) (delegation s x o)) (pair_at who op x o)) ∙ by (same_addr who x && same_addr op o)
  where
    by : (b : Bool) → is_some (cond b (Some n) (delegation s x o)) ≡ cond b true (is_some (delegation s x o))
    by true = refl
    by false = refl

module _ (P : List ℕ → Type 0) (T : List ℕ → ℕ) where
  -- what an account holds in all is at most 10^18
  pub all_bonded : (b n : ℕ) (l : Lists) (w : World Staked Hooks) → StakeFits P T b n l w → bonded_tokens w.mine + b ≤ 10 ^ 18
  all_bonded b n l w s =
      let bond = w.view.ctx.params.bond_denom in
      subst (λ m. m ≤ 10 ^ 18) (s.bonded bond ∙ ap (λ t. cond t (bonded_tokens w.mine + b) 0) (same_itself bond)) (balance-most w.view.bank (account.Module holder.Bonded) bond s.ground.order.bank)

  pub all_other : (b n : ℕ) (l : Lists) (w : World Staked Hooks) → StakeFits P T b n l w → other_tokens w.mine + n ≤ 10 ^ 18
  all_other b n l w s =
      let bond = w.view.ctx.params.bond_denom in
      subst (λ m. m ≤ 10 ^ 18) (s.not_bonded bond ∙ ap (λ t. cond t (other_tokens w.mine + n) 0) (same_itself bond)) (balance-most w.view.bank (account.Module holder.NotBonded) bond s.ground.order.bank)

  -- ---- coins of a delegation

  pub same_sum : (x y : ℕ) → y + 0 ≡ x + 0 → y ≡ x
  same_sum x y e = omega (arith, e)

  pub falls : (v : View) (d : List ℕ) (x y t b a : ℕ) → y + of_bond v d a ≡ x + 0 → x ≡ of_bond v d (t + (b + a)) → y ≡ of_bond v d (t + b)
  falls v d x y t b a p q = let more = bond_sum v d (t + b) a in let same : of_bond v d (t + b + a) ≡ of_bond v d (t + (b + a)) = ap (of_bond v d) (omega arith) in omega (arith, p, q, more, same)

  pub rises_to : (v : View) (d : List ℕ) (x y t b a : ℕ) → y + 0 ≡ x + of_bond v d a → x ≡ of_bond v d (t + b) → y ≡ of_bond v d (t + (b + a))
  rises_to v d x y t b a p q = let more = bond_sum v d (t + b) a in let same : of_bond v d (t + b + a) ≡ of_bond v d (t + (b + a)) = ap (of_bond v d) (omega arith) in omega (arith, p, q, more, same)

  -- an account that holds an amount besides something else has enough of it
  pub has_enough : (v : View) (who : Account) (t b a : ℕ) → IsBacked v.bank → t + (b + a) ≤ 10 ^ 18 → ((d : List ℕ) → balance_of v.bank who d ≡ of_bond v d (t + (b + a))) → is_short v.bank who (bond_coins v a) ≡ false
  has_enough v who t b a backed most h = enough_held (bond_coins v a) v.bank who (one-rises v.ctx.params.bond_denom a (omega (arith, most))) (λ d. within d (bond_amount v d a) (h d))
    where
      within : (d : List ℕ) → amount_of (bond_coins v a) d ≡ of_bond v d a → balance_of v.bank who d ≡ of_bond v d (t + (b + a)) → amount_of (bond_coins v a) d ≤ balance_of v.bank who d
      within d p q = let more = bond_sum v d (t + b) a in let same : of_bond v d (t + b + a) ≡ of_bond v d (t + (b + a)) = ap (of_bond v d) (omega arith) in omega (arith, p, q, more, same)

  -- from a wallet
  from_wallet : (b n : ℕ) (l : Lists) (w : World Staked Hooks) (who : List ℕ) (amount : ℕ) (s : Bool) → StakeFits P T b n l w → is_short w.view.bank (account.User who) (bond_coins w.view amount) ≡ false
      → StakeFits P T (b + cond s amount 0) (n + cond s 0 amount) l (over_view (sent (account.User who) (stake_account s) (bond_coins w.view amount)) w)
  from_wallet b n l w who amount s h e = by s
    where
      from : Account
      from = account.User who

      backed : IsBacked w.view.bank
      backed = h.ground.order.bank

      rises : (v : View) (d : List ℕ) (x y t b a : ℕ) → y + 0 ≡ x + of_bond v d a → x ≡ of_bond v d (t + b) → y ≡ of_bond v d (t + (b + a))
      rises v d x y t b a p q = let more = bond_sum v d (t + b) a in let same : of_bond v d (t + b + a) ≡ of_bond v d (t + (b + a)) = ap (of_bond v d) (omega arith) in omega (arith, p, q, more, same)

      stays : (v : View) (d : List ℕ) (x y t b : ℕ) → y + 0 ≡ x + 0 → x ≡ of_bond v d (t + b) → y ≡ of_bond v d (t + (b + 0))
      stays v d x y t b p q = let same : of_bond v d (t + b) ≡ of_bond v d (t + (b + 0)) = ap (of_bond v d) (omega arith) in omega (arith, p, q, same)

      by : (s : Bool) → StakeFits P T (b + cond s amount 0) (n + cond s 0 amount) l (over_view (sent from (stake_account s) (bond_coins w.view amount)) w)
      by true = record {
        ground = ground_sent P T from (stake_account true) (bond_coins w.view amount) w.view h.ground (bond_money w.view from amount backed e) e;
        staked = h.staked;
        bonded = λ d. rises w.view d (balance_of w.view.bank (stake_account true) d) _ (bonded_tokens w.mine) b amount (bond_moved w.view from (stake_account true) amount backed e (stake_account true) d) (h.bonded d);
        not_bonded = λ d. stays w.view d (balance_of w.view.bank (stake_account false) d) _ (other_tokens w.mine) n (bond_moved w.view from (stake_account true) amount backed e (stake_account false) d) (h.not_bonded d);
        owed = λ d. ap (λ x. 10 ^ 18 * x) (same_sum _ _ (bond_moved w.view from (stake_account true) amount backed e (account.Module holder.Distribution) d)) ∙ h.owed d;
        shared = h.shared;
        window = h.window;
        recorded = h.recorded;
      }
      by false = record {
        ground = ground_sent P T from (stake_account false) (bond_coins w.view amount) w.view h.ground (bond_money w.view from amount backed e) e;
        staked = h.staked;
        bonded = λ d. stays w.view d (balance_of w.view.bank (stake_account true) d) _ (bonded_tokens w.mine) b (bond_moved w.view from (stake_account false) amount backed e (stake_account true) d) (h.bonded d);
        not_bonded = λ d. rises w.view d (balance_of w.view.bank (stake_account false) d) _ (other_tokens w.mine) n amount (bond_moved w.view from (stake_account false) amount backed e (stake_account false) d) (h.not_bonded d);
        owed = λ d. ap (λ x. 10 ^ 18 * x) (same_sum _ _ (bond_moved w.view from (stake_account false) amount backed e (account.Module holder.Distribution) d)) ∙ h.owed d;
        shared = h.shared;
        window = h.window;
        recorded = h.recorded;
      }

  -- between the staking accounts
  pub to_not_bonded : (b n : ℕ) (l : Lists) (w : World Staked Hooks) (amount : ℕ) → StakeFits P T (b + amount) n l w
      → StakeFits P T b (n + amount) l (over_view (sent (stake_account true) (stake_account false) (bond_coins w.view amount)) w)
  to_not_bonded b n l w amount h =
      let from = stake_account true in
      let to = stake_account false in
      let backed = h.ground.order.bank in
      let e : is_short w.view.bank from (bond_coins w.view amount) ≡ false = has_enough w.view from (bonded_tokens w.mine) b amount backed (all_bonded (b + amount) n l w h) h.bonded in
      record {
        ground = ground_sent P T from to (bond_coins w.view amount) w.view h.ground (bond_money w.view from amount backed e) e;
        staked = h.staked;
        bonded = λ d. falls w.view d (balance_of w.view.bank from d) _ (bonded_tokens w.mine) b amount (bond_moved w.view from to amount backed e from d) (h.bonded d);
        not_bonded = λ d. rises_to w.view d (balance_of w.view.bank to d) _ (other_tokens w.mine) n amount (bond_moved w.view from to amount backed e to d) (h.not_bonded d);
        owed = λ d. ap (λ x. 10 ^ 18 * x) (same_sum _ _ (bond_moved w.view from to amount backed e (account.Module holder.Distribution) d)) ∙ h.owed d;
        shared = h.shared;
        window = h.window;
        recorded = h.recorded;
      }

  pub to_bonded : (b n : ℕ) (l : Lists) (w : World Staked Hooks) (amount : ℕ) → StakeFits P T b (n + amount) l w
      → StakeFits P T (b + amount) n l (over_view (sent (stake_account false) (stake_account true) (bond_coins w.view amount)) w)
  to_bonded b n l w amount h =
      let from = stake_account false in
      let to = stake_account true in
      let backed = h.ground.order.bank in
      let e : is_short w.view.bank from (bond_coins w.view amount) ≡ false = has_enough w.view from (other_tokens w.mine) n amount backed (all_other b (n + amount) l w h) h.not_bonded in
      record {
        ground = ground_sent P T from to (bond_coins w.view amount) w.view h.ground (bond_money w.view from amount backed e) e;
        staked = h.staked;
        bonded = λ d. rises_to w.view d (balance_of w.view.bank to d) _ (bonded_tokens w.mine) b amount (bond_moved w.view from to amount backed e to d) (h.bonded d);
        not_bonded = λ d. falls w.view d (balance_of w.view.bank from d) _ (other_tokens w.mine) n amount (bond_moved w.view from to amount backed e from d) (h.not_bonded d);
        owed = λ d. ap (λ x. 10 ^ 18 * x) (same_sum _ _ (bond_moved w.view from to amount backed e (account.Module holder.Distribution) d)) ∙ h.owed d;
        shared = h.shared;
        window = h.window;
        recorded = h.recorded;
      }

  -- what stands besides tokens before a delegation of an amount: from an account of staking, the amount
  abbrev pub bonded_before : Origin → ℕ → ℕ → ℕ
  bonded_before wallet amount b = b
  bonded_before (pool from) amount b = b + cond (is_bonded from) amount 0

  abbrev pub other_before : Origin → ℕ → ℕ → ℕ
  other_before wallet amount n = n
  other_before (pool from) amount n = n + cond (is_bonded from) 0 amount

  paid_fits : (origin : Origin) (who : List ℕ) (status : BondStatus) (amount b n : ℕ) (l : Lists) (w : World Staked Hooks) → StakeFits P T (bonded_before origin amount b) (other_before origin amount n) l w
      → IfOk (paid_in origin who status amount w.view) (λ u. StakeFits P T (b + cond (is_bonded status) amount 0) (n + cond (is_bonded status) 0 amount) l (over_view (λ x. u) w) × (u.ctx ≡ w.view.ctx))
  paid_fits wallet who status amount b n l w h = on_stop (is_short w.view.bank (account.User who) (bond_coins w.view amount)) InsufficientFunds _ _ (λ e. (from_wallet b n l w who amount (is_bonded status) h e, refl))
  paid_fits (pool from) who status amount b n l w h = by (is_bonded from) (is_bonded status) h
    where
      by : (f s : Bool) → StakeFits P T (b + cond f amount 0) (n + cond f 0 amount) l w
          → IfOk {E = Refusal} (if module_number (if f then holder.Bonded else holder.NotBonded) == module_number (if s then holder.Bonded else holder.NotBonded) then Ok w.view
          else Ok (sent (stake_account f) (stake_account s) (bond_coins w.view amount) w.view)) (λ u. StakeFits P T (b + cond s amount 0) (n + cond s 0 amount) l (over_view (λ x. u) w) × (u.ctx ≡ w.view.ctx))
      by true true g = (g, refl)
      by false false g = (g, refl)
      by true false g = (subst (λ m. StakeFits P T m (n + amount) l (over_view (sent (stake_account true) (stake_account false) (bond_coins w.view amount)) w)) (none b) (to_not_bonded b n l w amount (subst (λ m. StakeFits P T (b + amount) m l w) (some n) g)), refl)
        where
          none : (m : ℕ) → m ≡ m + 0
          none m = omega arith

          some : (m : ℕ) → m + 0 ≡ m
          some m = omega arith
      by false true g = (subst (λ m. StakeFits P T (b + amount) m l (over_view (sent (stake_account false) (stake_account true) (bond_coins w.view amount)) w)) (none n) (to_bonded b n l w amount (subst (λ m. StakeFits P T m (n + amount) l w) (some b) g)), refl)
        where
          none : (m : ℕ) → m ≡ m + 0
          none m = omega arith

          some : (m : ℕ) → m + 0 ≡ m
          some m = omega arith

  -- ---- a validator with more tokens and shares

  abbrev pub more_of : Validator → ℕ → ℕ → Validator
  more_of v amount issued = record v { tokens = v.tokens + amount; shares = v.shares + issued }

  pub stake_grown : (b n : ℕ) (l : Lists) (w : World Staked Hooks) (v : Validator) (who : List ℕ) (amount issued : ℕ) → StakeFits P T (b + cond (is_bonded v.status) amount 0) (n + cond (is_bonded v.status) 0 amount) l w
      → validator_at w.mine v.operator ≡ Some v → 0 < issued
      → StakeFits P T b n l (over_mine (λ s. put_delegation who v.operator (unwrap_or (delegation w.mine who v.operator) 0 + issued) (put_validator (more_of v amount issued) s)) w)
  stake_grown b n l w v who amount issued h found some =
      let s = w.mine in
      let old = h.staked.validators v.operator v found in
      let bonded_within = tokens-within is_bonded v.operator v s.validators found in
      let other_within = tokens-within others v.operator v s.validators found in
      let most = most_by (is_bonded v.status) v.tokens amount b n (bonded_tokens s) (other_tokens s) bonded_within other_within (all_bonded _ _ l w h) (all_other _ _ l w h) in
      let grown = more_of v amount issued in
      record {
        ground = h.ground;
        staked = sound-more w.view.ctx.height grown v s h.staked found refl
            (record { max_rate = old.max_rate; rate = old.rate; max_change = old.max_change; tokens = most; empty = λ z. absurd (not_empty v.shares z); unbonding_height = old.unbonding_height }) who issued some refl;
        bonded = λ d. h.bonded d ∙ ap (of_bond w.view d) (grow_bonded (is_bonded v.status) v.tokens amount b (bonded_tokens s) _ (tokens-put is_bonded v.operator v grown s.validators h.staked.validators_ascend found));
        not_bonded = λ d. h.not_bonded d ∙ ap (of_bond w.view d) (grow_other (is_bonded v.status) v.tokens amount n (other_tokens s) _ (tokens-put others v.operator v grown s.validators h.staked.validators_ascend found));
        owed = h.owed;
        shared = h.shared;
        window = h.window;
        recorded = all_put (IsRecorded w.hooks.1) addr_cmp exact_addr v.operator grown s.validators
            (looked_up (IsRecorded w.hooks.1) (is_at (addr_cmp v.operator)) (λ x. IsRecorded w.hooks.1 (v.operator, x)) (λ o x t g. g) s.validators v found h.recorded) h.recorded;
      }
    where
      not_empty : (k : ℕ) → k + issued ≡ 0 → ⊥
      not_empty k z = omega (arith, z, some)

  -- ---- delegating

  anew : (c b x : Bool) → cond c true x ≡ cond c true (cond (b && c) false x)
  anew true b x = refl
  anew false true x = refl
  anew false false x = refl

  pub delegated_fits : (v : Validator) (who : List ℕ) (amount : ℕ) (origin : Origin) (b n : ℕ) (w : World Staked Hooks) → StakeFits P T (bonded_before origin amount b) (other_before origin amount n) (lists_of w.mine) w
      → validator_at w.mine v.operator ≡ Some v → IfOk (delegated chain_told v who amount origin w) (λ x. StakeFits P T b n (lists_of x.1.mine) x.1 × (x.1.view.ctx ≡ w.view.ctx))
  delegated_fits v who amount origin b n w h found =
      let l = lists_of w.mine in
      let op = v.operator in
      let held = delegation w.mine who op in
      let l1 = lists_before who op held l in
      let there : is_some (validator_at w.mine op) ≡ true = ap is_some found in
      on_then (shares_given v amount) _ (λ issued. 0 < issued) _ (given_some v amount) (λ issued some.
      on_hook Overflow (hook_before v who held) w _ (λ d u. Leaves P T w.view l1 d u) _ (before_is_idle w v who held) (before_told P T v who held w.view l w.hooks.0 (stake_hooks P T _ _ l w h) there) (λ d u k left.
      let w1 : World Staked Hooks = hook_gave w d u k in
      on_then (paid_in origin who v.status amount u) _ (λ x. StakeFits P T (b + cond (is_bonded v.status) amount 0) (n + cond (is_bonded v.status) 0 amount) l1 (over_view (λ y. x) w1) × (x.ctx ≡ u.ctx)) _
      (paid_fits origin who v.status amount b n l1 w1 (stake_left P T _ _ l l1 w d u (w.log ++ k) h left)) (λ x paid.
      let w2 : World Staked Hooks = over_view (λ y. x) (over_mine (λ s. put_delegation who op (unwrap_or held 0 + issued) (put_validator (more_of v amount issued) s)) w1) in
      let grown : StakeFits P T b n l1 w2 = stake_grown b n l1 (over_view (λ y. x) w1) v who amount issued paid.0 found some in
      on_hook {B = ℕ × World Staked Hooks} Overflow (modified (more_of v amount issued) who (unwrap_or held 0 + issued)) w2 (λ y. Ok (issued, y)) (λ d u. Leaves P T w2.view (with_started who op true l1) d u)
      (λ y. StakeFits P T b n (lists_of y.1.mine) y.1 × (y.1.view.ctx ≡ w.view.ctx)) (λ y. refl)
      (start_leaves P T (more_of v amount issued) who (unwrap_or held 0 + issued) w2.view l1 w2.hooks.0 (stake_hooks P T b n l1 w2 grown) there) (λ d2 u2 k2 left2. and_also
      (stake_relisted P T b n (with_started who op true l1) (lists_of w2.mine) (hook_gave w2 d2 u2 k2) (stake_left P T b n l1 (with_started who op true l1) w2 d2 u2 (w2.log ++ k2) grown left2)
      (λ o. there_still w.mine.validators op o v (more_of v amount issued) found)
      (λ y o. shares_there w.mine who op (unwrap_or held 0 + issued) y o ∙ anew (same_addr who y && same_addr op o) (is_some held) (is_some (delegation w.mine y o)))) (left2.ctx ∙ paid.1 ∙ left.ctx)))))

  -- ---- the message

  -- validators and delegations are put back into the state
  pub state_with : (w : State) (x : World Staked Hooks) → StateFits P T w → StakeFits P T 0 (entry_balances w.mine.unbondings) (lists_of x.mine) x → x.view.ctx ≡ w.view.ctx → StateLeft P T w (with_staked w.mine x)
  state_with w x h k c = record {
    fits = record {
      stake = k;
      unbondings = subst (λ (y : Ctx). UnbondingsAreSound y.height w.mine.unbondings) (sym c) h.unbondings;
      redelegations = subst (λ (y : Ctx). RedelegationsAreSound y.height w.mine.redelegations) (sym c) h.redelegations;
    };
    whole = λ j. subst (λ (y : Ctx). AllByRecursion (λ p. WholeEntries y.height p.1) w.mine.unbondings) (sym c) j;
    ctx = c;
  }

  pub delegate_fits : (who operator : List ℕ) (coin : Coin) (w : State) → StateFits P T w → IfOk (delegate who operator coin w) (StateLeft P T w)
  delegate_fits who operator coin w h =
      on_then (delegated_by chain_told who operator coin (staked_in w)) _ (λ x. StateLeft P T w (with_staked w.mine x.1)) _
      (on_stop (coin.amount == 0) NonPositive _ _ (λ a. on_found (validator_at w.mine.staked operator) NoValidator _ _ (λ v found. on_stop (is_wrong coin w.view) WrongDenom _ _ (λ c.
      weaker_if (delegated chain_told v who coin.amount wallet (staked_in w)) _ _
      (delegated_fits v who coin.amount wallet 0 (entry_balances w.mine.unbondings) (staked_in w) h.stake (own_place P T w.view.ctx.height w.mine.staked operator v h.stake.staked found))
      (λ x k. state_with w x.1 h k.0 k.1)))))
      (λ x k. k)

pub delegating_keeps_soundness : DelegatingKeepsSoundness
delegating_keeps_soundness who operator coin = keeps (delegate who operator coin) (λ P T w h. delegate_fits P T who operator coin w h)
