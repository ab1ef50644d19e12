-- The rules of staking do not look at the values that hooks hold, nor at the log: over other held values, of which the same is told, and
-- behind an earlier log they give the same.
use Rattle.std.proofs.Common.{◌≡◌, ◌∙◌, ℕ, ◌+◌, ◌==◌, Bool, true, false, List, [], ◌∷◌, ◌++◌, length, append_assoc, Result, Ok, Err, refl, ap, ◌-◌, ◌&&◌, ◌||◌, if◌then◌else◌, nat_le, nat_lt, is_some, find, unwrap_or}
use Rattle.std.specs.Map.{values_of}
use Rattle.base_types.specs.declared.account.Account.TheVariants as account
use Rattle.base_types.specs.declared.account.Module.TheVariants as holder
use Rattle.base_types.specs.declared.status.BondStatus.TheVariants.{Bonded, Unbonded}
use Rattle.base_coins.specs.{declared.coin.Coin.Coin, Coins.Money}
use Rattle.base_shares.specs.Shares.{amount_out, has_invalid_rate}
use Rattle.base_roles.specs.declared.{entities.Validator.Validator, messages.CreateValidator.CreateValidator}
use Rattle.base_roles.specs.declared.params.Params.{Params}
use Rattle.base_roles.specs.declared.refusal.Refusal.TheVariants.{CancelTooMuch, CommissionBelowMinimum, CommissionRange, ConsKeyExists, Jailed, MinSelfNotPositive, NoEntry, NoValidator, NonPositive, Overflow, RateInvalid, RedelegationsFull, SelfBelowMinimum, SelfRedelegation, TinyRedelegation, Transitive, UnbondingsFull, ValidatorExists, WrongDenom}
use Rattle.base_roles.specs.{Log.{Log, LogEntry}, Orders.same_addr}
use Rattle.base_roles.specs.Staked.{Staked, delegation, is_bonded, is_unbonded, put_validator, validator_at, validator_by_cons}
use Rattle.base_roles.specs.Flow.{◌>>=◌, ◌>>◌, each, or_stop, stop_if, stopping}
use Rattle.base_roles.specs.World.{View, Told, gives, exceeds, World, hooked, call, over_mine, over_view, sent, logged}
use Rattle.base_roles.specs.declared.calls.Hook.{Hook, TheVariants.{Modified as modified, Modifying as modifying}}
use Rattle.base_roles.specs.Log as log
use Rattle.base_roles.specs.declared.calls.Hook.TheVariants as hook
use Rattle.rule_modules.specs.Amounts.{bond_coins}
use Rattle.rule_modules.specs.BondedSet.{joined_set, left_set, joining_of, leaving_of, matured, set_updated, validators_matured}
use Rattle.rule_modules.specs.Delegating.{Origin, delegated, delegated_by, hook_before, is_wrong, paid_in, pool, shares_given, wallet}
use Rattle.rule_modules.specs.Redelegations.{RedelegationLists, is_transitive, redelegated, redelegations_of}
use Rattle.rule_modules.specs.Stakes.{changed, is_unbonding, put_delegation, without_shares, without_validator}
use Rattle.rule_modules.specs.Unbonding.{falls_below_minimum, left_standing, put_in_jail, removed_if_empty, shares_to_unbond, unbonded_shares, validator_removed}
use Rattle.rule_modules.specs.Unbondings.{UnbondingLists, can_be_cancelled, cancelled, completion, entries_of, grown, undelegated, with_entries}
use Rattle.rule_modules.specs.Validators.{are_out_of_range, created, new_validator, stored}

-- what a rule gives, carried over
abbrev pub carried_ok : {A B E : Type 0} → (A → B) → Result A E → Result B E
carried_ok g (Ok a) = Ok (g a)
carried_ok g (Err e) = Err e

-- a step whose own answer is carried, and then another
pub then_carried : {A B C D E : Type 0} (g : A → B) (h : C → D) (r : Result A E) (q : Result B E) (next : A → Result C E) (on : B → Result D E) → q ≡ carried_ok g r → ((a : A) → on (g a) ≡ carried_ok h (next a))
    → (q >>= on) ≡ carried_ok h (r >>= next)
then_carried g h (Ok a) q next on e n = ap (λ x. x >>= on) e ∙ n a
then_carried g h (Err d) q next on e n = ap (λ x. x >>= on) e

-- a step that is the same, and then another
pub same_then : {X C D E : Type 0} (h : C → D) (r : Result X E) (next : X → Result C E) (on : X → Result D E) → ((x : X) → on x ≡ carried_ok h (next x)) → (r >>= on) ≡ carried_ok h (r >>= next)
same_then h (Ok x) next on n = n x
same_then h (Err d) next on n = refl

same_next : {X C D E : Type 0} (h : C → D) (r : Result X E) (next : Result C E) (on : Result D E) → on ≡ carried_ok h next → (r >> on) ≡ carried_ok h (r >> next)
same_next h (Ok x) next on n = n
same_next h (Err d) next on n = refl

-- with another kind of answer
stopped : {A B D E : Type 0} (g : A → B) (s : D → E) (r : Result A D) (q : Result B D) → q ≡ carried_ok g r → stopping s q ≡ carried_ok g (stopping s r)
stopped g s (Ok a) q e = ap (stopping s) e
stopped g s (Err d) q e = ap (stopping s) e

module _ {H G : Type 0} (f : H → G) (k : Log) where
  -- the world with other held values, behind an earlier log
  abbrev pub carried : World Staked H → World Staked G
  carried w = record { mine = w.mine; hooks = f w.hooks; view = w.view; log = k ++ w.log }

  -- beside an answer, and beside two
  abbrev pub carried_by : {A : Type 0} → A × World Staked H → A × World Staked G
  carried_by p = (p.0, carried p.1)

  abbrev pub carried_with : {A U : Type 0} → A × U × World Staked H → A × U × World Staked G
  carried_with p = (p.0, p.1, carried p.2)

  -- what is told of hooks
  abbrev pub told_carried : Told H → Told G
  told_carried (gives h v l) = gives (f h) v l
  told_carried (exceeds over) = exceeds over

  if_carried : (b : Bool) (x y : World Staked H) → (if b then carried x else carried y) ≡ carried (if b then x else y)
  if_carried true x y = refl
  if_carried false x y = refl

  pub logged_carried : (operator : List ℕ) (e : LogEntry) (w : World Staked H) → logged operator e (carried w) ≡ carried (logged operator e w)
  logged_carried operator e w = λ i. record { mine = w.mine; hooks = f w.hooks; view = w.view; log = append_assoc k w.log ((operator, e) ∷ []) i }

  module _ (told : H → Hook → View → Told H) (tells : G → Hook → View → Told G) (same : (h : H) (hook : Hook) (v : View) → tells (f h) hook v ≡ told_carried (told h hook v)) where
    pub call_carried : (hook : Hook) (w : World Staked H) → call tells hook (carried w) ≡ carried_ok carried (call told hook w)
    call_carried hook w = ap (λ t. hooked t (carried w)) (same w.hooks hook w.view) ∙ by (told w.hooks hook w.view)
      where
        by : (t : Told H) → hooked (told_carried t) (carried w) ≡ carried_ok carried (hooked t w)
        by (gives h v l) = λ i. Ok (record { mine = w.mine; hooks = f h; view = v; log = append_assoc k w.log l i })
        by (exceeds over) = refl

    -- in a message, whose refusal it is
    called : (hook : Hook) (w : World Staked H) → stopping Overflow (call tells hook (carried w)) ≡ carried_ok carried (stopping Overflow (call told hook w))
    called hook w = stopped carried Overflow (call told hook w) (call tells hook (carried w)) (call_carried hook w)

    -- ---- validators and delegations

    pub stored_carried : (v : Validator) (w : World Staked H) → stored tells v (carried w) ≡ carried_ok carried (stored told v w)
    stored_carried v w = call_carried (hook.Created v) (over_mine (put_validator v) w)

    pub delegated_carried : (v : Validator) (who : List ℕ) (amount : ℕ) (origin : Origin) (w : World Staked H) → delegated tells v who amount origin (carried w) ≡ carried_ok carried_by (delegated told v who amount origin w)
    delegated_carried v who amount origin w =
        same_then carried_by (shares_given v amount) _ _ (λ issued.
        let before : Hook = hook_before v who (delegation w.mine who v.operator) in
        let more : ℕ = unwrap_or (delegation w.mine who v.operator) 0 + issued in
        let big : Validator = record v { tokens = v.tokens + amount; shares = v.shares + issued } in
        then_carried carried carried_by (stopping Overflow (call told before w)) (stopping Overflow (call tells before (carried w))) _ _ (called before w) (λ w1.
        same_then carried_by (paid_in origin who v.status amount w1.view) _ _ (λ view.
        let w2 : World Staked H = over_view (λ u. view) (over_mine (λ s. put_delegation who v.operator more (put_validator big s)) w1) in
        then_carried carried carried_by (stopping Overflow (call told (modified big who more) w2)) (stopping Overflow (call tells (modified big who more) (carried w2))) _ _ (called (modified big who more) w2) (λ w3. refl))))

    pub delegated_by_carried : (who operator : List ℕ) (coin : Coin) (w : World Staked H) → delegated_by tells who operator coin (carried w) ≡ carried_ok carried_by (delegated_by told who operator coin w)
    delegated_by_carried who operator coin w =
        same_next carried_by (stop_if (coin.amount == 0) NonPositive) _ _
        (same_then carried_by (or_stop (validator_at w.mine operator) NoValidator) _ _ (λ v.
        same_next carried_by (stop_if (is_wrong coin w.view) WrongDenom) _ _ (delegated_carried v who coin.amount wallet w)))

    pub created_carried : (m : CreateValidator) (w : World Staked H) → created tells m (carried w) ≡ carried_ok carried_by (created told m w)
    created_carried m w =
        let v : Validator = new_validator m w.view.ctx.time in
        same_next carried_by (stop_if (m.amount.amount == 0) NonPositive) _ _
        (same_next carried_by (stop_if (are_out_of_range m) CommissionRange) _ _
        (same_next carried_by (stop_if (m.min_self_delegation == 0) MinSelfNotPositive) _ _
        (same_next carried_by (stop_if (nat_lt m.amount.amount m.min_self_delegation) SelfBelowMinimum) _ _
        (same_next carried_by (stop_if (nat_lt m.rate w.view.ctx.params.min_commission_rate) CommissionBelowMinimum) _ _
        (same_next carried_by (stop_if (is_some (validator_at w.mine m.validator)) ValidatorExists) _ _
        (same_next carried_by (stop_if (is_some (validator_by_cons w.mine m.cons)) ConsKeyExists) _ _
        (same_next carried_by (stop_if (is_wrong m.amount w.view) WrongDenom) _ _
        (then_carried carried carried_by (stopping Overflow (stored told v w)) (stopping Overflow (stored tells v (carried w))) _ _ (called (hook.Created v) (over_mine (put_validator v) w)) (λ w1.
        then_carried carried_by carried_by (delegated told v m.validator m.amount.amount wallet w1) (delegated tells v m.validator m.amount.amount wallet (carried w1)) _ _ (delegated_carried v m.validator m.amount.amount wallet w1) (λ p. refl))))))))))

    -- ---- unbonding

    removed_carried : (v : Validator) (w : World Staked H) → removed_if_empty tells v (carried w) ≡ carried_ok carried (removed_if_empty told v w)
    removed_carried v w = by (is_unbonded v.status && (v.shares == 0))
      where
        by : (b : Bool) → (if b then validator_removed tells v (carried w) else Ok (carried w)) ≡ carried_ok carried (if b then validator_removed told v w else Ok w)
        by true =
            let w0 : World Staked H = over_mine (without_validator v.operator) w in
            then_carried carried carried (call told (hook.Removed v) w0) (call tells (hook.Removed v) (carried w0)) _ _ (call_carried (hook.Removed v) w0) (λ w1. refl)
        by false = refl

    left_carried : (v : Validator) (who : List ℕ) (left : ℕ) (w : World Staked H) → left_standing tells v who left (carried w) ≡ carried_ok carried (left_standing told v who left w)
    left_carried v who left w = by (left == 0)
      where
        by : (b : Bool) → (if b then Ok (over_mine (without_shares who v.operator) (carried w)) else call tells (modified v who left) (over_mine (put_delegation who v.operator left) (carried w)))
            ≡ carried_ok carried (if b then Ok (over_mine (without_shares who v.operator) w) else call told (modified v who left) (over_mine (put_delegation who v.operator left) w))
        by true = refl
        by false = call_carried (modified v who left) (over_mine (put_delegation who v.operator left) w)

    pub unbonded_carried : (v : Validator) (who : List ℕ) (held part : ℕ) (w : World Staked H) → unbonded_shares tells v who held part (carried w) ≡ carried_ok carried_by (unbonded_shares told v who held part w)
    unbonded_carried v who held part w =
        let falls : Bool = falls_below_minimum v who (held - part) in
        let now : Validator = record v { jailed = v.jailed || falls } in
        let less : Validator = record now { tokens = v.tokens - amount_out v.tokens v.shares part; shares = v.shares - part } in
        then_carried carried carried_by (call told (modifying v who held) w) (call tells (modifying v who held) (carried w)) _ _ (call_carried (modifying v who held) w) (λ w1.
        let x : World Staked H = (if falls then put_in_jail v w1 else w1) in
        then_carried carried carried_by (left_standing told now who (held - part) x) (left_standing tells now who (held - part) (if falls then put_in_jail v (carried w1) else carried w1)) _ _
        (ap (left_standing tells now who (held - part)) (if_carried falls (put_in_jail v w1) w1) ∙ left_carried now who (held - part) x) (λ w2.
        let y : World Staked H = logged v.operator log.left (over_mine (put_validator less) w2) in
        then_carried carried carried_by (removed_if_empty told less y) (removed_if_empty tells less (logged v.operator log.left (over_mine (put_validator less) (carried w2)))) _ _
        (ap (removed_if_empty tells less) (logged_carried v.operator log.left (over_mine (put_validator less) w2)) ∙ removed_carried less y) (λ w3. refl)))

    pub undelegated_carried : (who operator : List ℕ) (coin : Coin) (u : UnbondingLists) (w : World Staked H) → undelegated tells who operator coin u (carried w) ≡ carried_ok carried_with (undelegated told who operator coin u w)
    undelegated_carried who operator coin u w =
        same_next carried_with (stop_if (coin.amount == 0) NonPositive) _ _
        (same_then carried_with (or_stop (validator_at w.mine operator) NoValidator) _ _ (λ v.
        same_then carried_with (shares_to_unbond (delegation w.mine who operator) v coin.amount) _ _ (λ p.
        same_next carried_with (stop_if (is_wrong coin w.view) WrongDenom) _ _
        (same_next carried_with (stop_if (nat_le w.view.ctx.params.max_entries (length (entries_of u who operator))) UnbondingsFull) _ _
        (then_carried carried_by carried_with (stopping Overflow (unbonded_shares told v who p.0 p.1 w)) (stopping Overflow (unbonded_shares tells v who p.0 p.1 (carried w))) _ _
        (stopped carried_by Overflow (unbonded_shares told v who p.0 p.1 w) (unbonded_shares tells v who p.0 p.1 (carried w)) (unbonded_carried v who p.0 p.1 w)) (λ q.
        let coins : Money = bond_coins w.view q.0 in
        ap (λ x. Ok (completion w.view.ctx, with_entries who operator (grown w.view.ctx.height (completion w.view.ctx) q.0 (entries_of u who operator)) u, x))
        (if_carried (is_bonded v.status) (over_view (sent (account.Module holder.Bonded) (account.Module holder.NotBonded) coins) q.1) q.1)))))))

    pub cancelled_carried : (who operator : List ℕ) (coin : Coin) (height : ℕ) (u : UnbondingLists) (w : World Staked H)
        → cancelled tells who operator coin height u (carried w) ≡ carried_ok carried_with (cancelled told who operator coin height u w)
    cancelled_carried who operator coin height u w =
        same_next carried_with (stop_if (coin.amount == 0) NonPositive) _ _
        (same_next carried_with (stop_if (is_wrong coin w.view) WrongDenom) _ _
        (same_then carried_with (or_stop (validator_at w.mine operator) NoValidator) _ _ (λ v.
        same_next carried_with (stop_if (has_invalid_rate v.tokens v.shares) RateInvalid) _ _
        (same_next carried_with (stop_if v.jailed Jailed) _ _
        (same_then carried_with (or_stop (find (can_be_cancelled height w.view.ctx.time) (entries_of u who operator)) NoEntry) _ _ (λ e.
        same_next carried_with (stop_if (nat_lt e.balance coin.amount) CancelTooMuch) _ _
        (then_carried carried_by carried_with (delegated told v who coin.amount (pool Unbonded) w) (delegated tells v who coin.amount (pool Unbonded) (carried w)) _ _ (delegated_carried v who coin.amount (pool Unbonded) w) (λ p. refl))))))))

    pub redelegated_carried : (who source target : List ℕ) (coin : Coin) (r : RedelegationLists) (w : World Staked H)
        → redelegated tells who source target coin r (carried w) ≡ carried_ok carried_with (redelegated told who source target coin r w)
    redelegated_carried who source target coin r w =
        same_next carried_with (stop_if (coin.amount == 0) NonPositive) _ _
        (same_then carried_with (or_stop (validator_at w.mine source) NoValidator) _ _ (λ v.
        same_then carried_with (shares_to_unbond (delegation w.mine who source) v coin.amount) _ _ (λ p.
        let amount : ℕ = amount_out v.tokens v.shares p.1 in
        same_next carried_with (stop_if (is_wrong coin w.view) WrongDenom) _ _
        (same_next carried_with (stop_if (same_addr source target) SelfRedelegation) _ _
        (same_then carried_with (or_stop (validator_at w.mine target) NoValidator) _ _ (λ t.
        same_next carried_with (stop_if (is_transitive r who source) Transitive) _ _
        (same_next carried_with (stop_if (nat_le w.view.ctx.params.max_entries (length (redelegations_of r who source target))) RedelegationsFull) _ _
        (same_next carried_with (stop_if (amount == 0) TinyRedelegation) _ _
        (same_next carried_with (shares_given t amount) _ _
        (then_carried carried_by carried_with (stopping Overflow (unbonded_shares told v who p.0 p.1 w)) (stopping Overflow (unbonded_shares tells v who p.0 p.1 (carried w))) _ _
        (stopped carried_by Overflow (unbonded_shares told v who p.0 p.1 w) (unbonded_shares tells v who p.0 p.1 (carried w)) (unbonded_carried v who p.0 p.1 w)) (λ q.
        then_carried carried_by carried_with (delegated told t who q.0 (pool v.status) q.1) (delegated tells t who q.0 (pool v.status) (carried q.1)) _ _ (delegated_carried t who q.0 (pool v.status) q.1) (λ z. refl))))))))))))

    -- ---- the bonded set

    each_carried : {A E : Type 0} (step : A → World Staked H → Result (World Staked H) E) (on : A → World Staked G → Result (World Staked G) E) → ((x : A) (w : World Staked H) → on x (carried w) ≡ carried_ok carried (step x w))
        → (xs : List A) (w : World Staked H) → each on xs (carried w) ≡ carried_ok carried (each step xs w)
    each_carried step on h [] w = refl
    each_carried step on h (x ∷ xs) w = then_carried carried carried (step x w) (on x (carried w)) _ _ (h x w) (λ t. each_carried step on h xs t)

    pub set_carried : (w : World Staked H) → set_updated tells (carried w) ≡ carried_ok carried (set_updated told w)
    set_carried w =
        let p : Params = w.view.ctx.params in
        let vs : List Validator = values_of w.mine.validators in
        let joining : List Validator = joining_of p.power_reduction p.max_validators vs in
        let leaving : List Validator = leaving_of p.power_reduction p.max_validators vs in
        then_carried carried carried (each (joined_set told) joining w) (each (joined_set tells) joining (carried w)) _ _
        (each_carried (joined_set told) (joined_set tells) (λ v x. call_carried (hook.Bonded (record v { status = Bonded })) (changed v Bonded x)) joining w) (λ w1.
        then_carried carried carried (each (left_set told) leaving w1) (each (left_set tells) leaving (carried w1)) _ _
        (each_carried (left_set told) (left_set tells) (λ v x. refl) leaving w1) (λ w2. refl))

    matured_carried : (v : Validator) (w : World Staked H) → matured tells v (carried w) ≡ carried_ok carried (matured told v w)
    matured_carried v w = by (is_unbonding v.status && nat_le v.unbonding_time w.view.ctx.time)
      where
        by : (b : Bool) → (if b then removed_if_empty tells (record v { status = Unbonded }) (changed v Unbonded (carried w)) else Ok (carried w))
            ≡ carried_ok carried (if b then removed_if_empty told (record v { status = Unbonded }) (changed v Unbonded w) else Ok w)
        by true = removed_carried (record v { status = Unbonded }) (changed v Unbonded w)
        by false = refl

    pub matured_all_carried : (w : World Staked H) → validators_matured tells (carried w) ≡ carried_ok carried (validators_matured told w)
    matured_all_carried w = each_carried (matured told) (matured tells) matured_carried (values_of w.mine.validators) w
