-- Messages that run hooks are refused by the first of their conditions that holds: withdrawing a reward, delegating and
-- cancelling an unbonding.
use Rattle.std.proofs.Common.{◌≡◌, ◌∙◌, ℕ, ◌+◌, ◌==◌, Bool, true, false, List, [], ◌∷◌, ◌++◌, Option, Some, None, Result, Ok, Err, refl, sym, ap, subst, Contains, find, if◌then◌else◌, is_none, nat_lt, option_map, unwrap_or}
use Rattle.std.specs.Prelude.{⊤}
use Rattle.base_decimals.specs.{declared.over.Over.Over, Decimals.{add_of, mul_int_quo_int_of, whole_of}}
use Rattle.base_types.specs.declared.account.Account.TheVariants as account
use Rattle.base_types.specs.{declared.status.BondStatus.{BondStatus, TheVariants.Unbonded}, Modules.module_number}
use Rattle.base_coins.specs.Coins.{Money}
use Rattle.base_shares.specs.{declared.fault.ShareFault.ShareFault, Shares.{has_invalid_rate, issued_shares, or_over}}
use Rattle.base_shares.specs.declared.fault.ShareFault.TheVariants as share
use Rattle.base_roles.specs.declared.entities.{UnbondingEntry.UnbondingEntry, Validator.Validator}
use Rattle.base_roles.specs.declared.refusal.Refusal.{Refusal}
use Rattle.base_roles.specs.declared.refusal.Refusal.TheVariants.{CancelTooMuch, InsufficientFunds, Jailed, NoDelegation, NoEntry, NoValidator, NonPositive, Overflow, RateInvalid, TinyDelegation, WrongDenom}
use Rattle.base_roles.specs.{Holdings.is_short, Log.Log, Pair.{and_then, given_with}}
use Rattle.base_roles.specs.Staked.{Staked, delegation, put_validator, validator_at}
use Rattle.base_roles.specs.Flow.{◌>>=◌, ◌>>◌, or_stop, stop_if, stopping}
use Rattle.base_roles.specs.World.{Told, View, World, call, exceeds, gives, hooked, over_mine, over_view, sent}
use Rattle.base_roles.specs.declared.calls.Hook.TheVariants.{Modified as modified, Modifying as modifying}
use Rattle.law_soundness.proofs.{Burns.total_in, Points.{StateFits, to_fits}}
use Rattle.law_soundness.specs.StepLaws.{CancellationsNameConditions, DelegationsNameConditions, RewardsNameConditions}
use Rattle.rule_modules.{proofs.RefusalLemmas.{mapped, stop_step}, specs.Amounts.bond_coins}
use Rattle.rule_modules.specs.Chain.{Hooks, State, chain_told, staked_in, with_shared, with_staked}
use Rattle.rule_modules.specs.Conditions.{after_hook, first_of, is_nothing, is_short_then, issue_over, over_in, when}
use Rattle.rule_modules.specs.Delegating.{Origin, delegated, delegated_by, hook_before, is_wrong, paid_in, pool, shares_given, wallet}
use Rattle.rule_modules.specs.Distribution.{Shared, left_by, reward_renewed, reward_withdrawn, started, told_of}
use Rattle.rule_modules.specs.{RefusalOrder.refused_in, Stakes.{pool_of, put_delegation, refusal_of_shares}}
use Rattle.rule_modules.specs.Unbondings.{UnbondingLists, can_be_cancelled, cancelled, entries_of, lowered, with_entries}
use Rattle.rule_modules.specs.{Window.window_told, Withdrawals.reward_taken}

-- one condition before a step, then the others
stop_then : {A B : Type 0} (b : Bool) (why : Refusal) (r : Result A Refusal) (f : A → Result B Refusal) (rest : List (Option Refusal)) → refused_in (r >>= f) ≡ first_of rest → refused_in ((stop_if b why >> r) >>= f) ≡ first_of (when b why ∷ rest)
stop_then true why r f rest h = refl
stop_then false why r f rest h = h

-- one condition, then the others, where it does not hold
pub stop_known : {A : Type 0} (b : Bool) (why : Refusal) (next : Result A Refusal) (rest : List (Option Refusal)) → (b ≡ false → refused_in next ≡ first_of rest) → refused_in (stop_if b why >> next) ≡ first_of (when b why ∷ rest)
stop_known true why next rest h = refl
stop_known false why next rest h = h refl

-- ---- withdrawing a reward

-- a withdrawal is over where the hook before a change of the delegation is
renewed_over : (v : Validator) (who : List ℕ) (n : ℕ) (w : State) → refused_in (stopping Overflow (reward_renewed v who n w.hooks.0 w.view)) ≡ first_of (over_in (call chain_told (modifying v who n) w) ∷ [])
renewed_over v who n w = by (reward_withdrawn v who n w.hooks.0 w.view)
  where
    anew : Money × Shared × View × Log → Money × Shared × View × Log
    anew x = (x.0, (started v who n x.1 x.2).0, (started v who n x.1 x.2).1, x.3 ++ (started v who n x.1 x.2).2)

    by : (r : Result (Money × Shared × View × Log) Over)
        → refused_in (stopping Overflow (r >>= λ x. Ok (anew x))) ≡ first_of (over_in (hooked (and_then (told_of (left_by r)) (λ d u k. given_with d k (window_told w.hooks.1 (modifying v who n) u))) w) ∷ [])
    by (Ok x) = refl
    by (Err over) = refl

pub rewards_refused : RewardsNameConditions
rewards_refused who operator w s =
    mapped (reward_taken w.mine.staked who operator w.hooks.0 w.view) (λ x. with_shared x.1 x.2 x.3 w)
    ∙ by (validator_at w.mine.staked operator) (delegation w.mine.staked who operator) refl refl
  where
    h : StateFits (Contains s.few.some) (total_in w.view) w
    h = to_fits w s

    by : (r : Option Validator) (held : Option ℕ) → validator_at w.mine.staked operator ≡ r → delegation w.mine.staked who operator ≡ held
        → refused_in (or_stop r NoValidator >>= λ v. or_stop held NoDelegation >>= λ n. stopping Overflow (reward_renewed v who n w.hooks.0 w.view))
        ≡ first_of (when (is_none r) NoValidator ∷ when (is_none held) NoDelegation ∷ unwrap_or (option_map (λ v. over_in (after_hook who v w)) r) None ∷ [])
    by None held e f = refl
    by (Some v) None e f = refl
    by (Some v) (Some n) e f =
        let has : delegation w.mine.staked who v.operator ≡ Some n = ap (λ o. delegation w.mine.staked who o) (h.stake.staked.operators operator v e) ∙ f in
        subst (λ (o : Option ℕ). refused_in (stopping Overflow (reward_renewed v who n w.hooks.0 w.view)) ≡ first_of (over_in (call chain_told (hook_before v who o) w) ∷ [])) (sym has) (renewed_over v who n w)

-- ---- shares that are given

-- The conditions against issuing shares, before other steps: no rate, shares that are over, none at all.
pub given_refused : {A : Type 0} (v : Validator) (amount : ℕ) (f : ℕ → Result A Refusal) (rest : List (Option Refusal)) → ((issued : ℕ) → refused_in (f issued) ≡ first_of rest)
    → refused_in (shares_given v amount >>= f)
    ≡ first_of (when (has_invalid_rate v.tokens v.shares) RateInvalid ∷ issue_over v (issued_shares v.tokens v.shares amount) ∷ when (is_nothing (issued_shares v.tokens v.shares amount)) TinyDelegation ∷ rest)
given_refused {A} v amount f rest h = by (has_invalid_rate v.tokens v.shares) (v.shares == 0) (whole_of amount) (mul_int_quo_int_of v.shares amount v.tokens)
  where
    give : Result ℕ ShareFault → Result ℕ Refusal
    give r = stopping refusal_of_shares r >>= λ issued. stopping Overflow (add_of v.shares issued) >> (stop_if (issued == 0) TinyDelegation >> Ok issued)

    summed : (issued : ℕ) (a : Result ℕ Over) → refused_in ((stopping Overflow a >> (stop_if (issued == 0) TinyDelegation >> Ok issued)) >>= f) ≡ first_of (over_in a ∷ when (issued == 0) TinyDelegation ∷ rest)
    summed issued (Err over) = refl
    summed issued (Ok z) = stop_then (issued == 0) TinyDelegation (Ok issued) f rest (h issued)

    in_range : (q : Result ℕ Over) → refused_in (give (or_over q) >>= f) ≡ first_of (None ∷ issue_over v (or_over q) ∷ when (is_nothing (or_over q)) TinyDelegation ∷ rest)
    in_range (Err over) = refl
    in_range (Ok issued) = summed issued (add_of v.shares issued)

    by : (b c : Bool) (x y : Result ℕ Over)
        → refused_in (give (if b then Err share.RateInvalid else if c then or_over x else or_over y) >>= f)
        ≡ first_of (when b RateInvalid ∷ issue_over v (if b then Err share.RateInvalid else if c then or_over x else or_over y) ∷ when (is_nothing (if b then Err share.RateInvalid else if c then or_over x else or_over y)) TinyDelegation ∷ rest)
    by true c x y = refl
    by false true x y = in_range x
    by false false x y = in_range y

-- ---- delegating

module _ (v : Validator) (who : List ℕ) (amount : ℕ) (w : State) where
  -- the hook before the delegation changes
  abbrev before : Told Hooks
  before = chain_told w.hooks (hook_before v who (delegation w.mine.staked who v.operator)) w.view

  -- what follows once the amount is paid
  abbrev after_paid : ℕ → World Staked Hooks → View → Result (ℕ × World Staked Hooks) Refusal
  after_paid issued w1 view =
      let shares = unwrap_or (delegation w.mine.staked who v.operator) 0 + issued in
      let grown : Validator = record v { tokens = v.tokens + amount; shares = v.shares + issued } in
      stopping Overflow (call chain_told (modified grown who shares) (over_view (λ u. view) (over_mine (λ s. put_delegation who v.operator shares (put_validator grown s)) w1))) >>= λ w3. Ok (issued, w3)

  -- what follows that hook
  abbrev behind : Origin → ℕ → World Staked Hooks → Result (ℕ × World Staked Hooks) Refusal
  behind origin issued w1 = paid_in origin who v.status amount w1.view >>= λ view. after_paid issued w1 view

  -- from the wallet, which may be short once the hook has paid
  wallet_behind : (issued : ℕ) (t : Told Hooks)
      → refused_in (stopping Overflow (hooked t (staked_in w)) >>= behind wallet issued) ≡ first_of (over_in (hooked t w) ∷ when (is_short_then who amount (hooked t w)) InsufficientFunds ∷ [])
  wallet_behind issued (exceeds over) = refl
  wallet_behind issued (gives h u l) = stop_then (is_short u.bank (account.User who) (bond_coins u amount)) InsufficientFunds _ _ [] refl

  pub wallet_refused : refused_in (delegated chain_told v who amount wallet (staked_in w))
      ≡ first_of (
      when (has_invalid_rate v.tokens v.shares) RateInvalid
      ∷ issue_over v (issued_shares v.tokens v.shares amount)
      ∷ when (is_nothing (issued_shares v.tokens v.shares amount)) TinyDelegation
      ∷ over_in (after_hook who v w)
      ∷ when (is_short_then who amount (after_hook who v w)) InsufficientFunds
      ∷ [])
  wallet_refused = given_refused v amount (λ issued. stopping Overflow (hooked before (staked_in w)) >>= behind wallet issued) _ (λ issued. wallet_behind issued before)

  -- from the account of a status, which has all that is owed
  never_short : (from : BondStatus) (u : View) → refused_in (paid_in (pool from) who v.status amount u) ≡ None
  never_short from u = by (module_number (pool_of from) == module_number (pool_of v.status))
    where
      by : (b : Bool) → refused_in {A = View} (if b then Ok u else Ok (sent (account.Module (pool_of from)) (account.Module (pool_of v.status)) (bond_coins u amount) u)) ≡ None
      by true = refl
      by false = refl

  then_never : (issued : ℕ) (w1 : World Staked Hooks) (r : Result View Refusal) → refused_in r ≡ None → refused_in (r >>= λ view. after_paid issued w1 view) ≡ None
  then_never issued w1 (Ok u) e = refl
  then_never issued w1 (Err why) e = absurd cc

  pool_behind : (from : BondStatus) (issued : ℕ) (t : Told Hooks) → refused_in (stopping Overflow (hooked t (staked_in w)) >>= behind (pool from) issued) ≡ first_of (over_in (hooked t w) ∷ [])
  pool_behind from issued (exceeds over) = refl
  pool_behind from issued (gives h u l) = then_never issued (record { mine = w.mine.staked; hooks = h; view = u; log = w.log ++ l }) (paid_in (pool from) who v.status amount u) (never_short from u)

  pub pool_refused : (from : BondStatus) → refused_in (delegated chain_told v who amount (pool from) (staked_in w))
      ≡ first_of (
      when (has_invalid_rate v.tokens v.shares) RateInvalid
      ∷ issue_over v (issued_shares v.tokens v.shares amount)
      ∷ when (is_nothing (issued_shares v.tokens v.shares amount)) TinyDelegation
      ∷ over_in (after_hook who v w)
      ∷ [])
  pool_refused from = given_refused v amount (λ issued. stopping Overflow (hooked before (staked_in w)) >>= behind (pool from) issued) _ (λ issued. pool_behind from issued before)

pub delegations_refused : DelegationsNameConditions
delegations_refused who operator coin w s =
    mapped (delegated_by chain_told who operator coin (staked_in w)) (λ x. with_staked w.mine x.1)
    ∙ stop_step (coin.amount == 0) NonPositive _ _ (by (validator_at w.mine.staked operator))
  where
    by : (r : Option Validator) → refused_in (or_stop r NoValidator >>= λ v. stop_if (is_wrong coin w.view) WrongDenom >> delegated chain_told v who coin.amount wallet (staked_in w))
        ≡ first_of (
        when (is_none r) NoValidator
        ∷ when (is_wrong coin w.view) WrongDenom
        ∷ when (unwrap_or (option_map (λ v. has_invalid_rate v.tokens v.shares) r) false) RateInvalid
        ∷ unwrap_or (option_map (λ v. issue_over v (issued_shares v.tokens v.shares coin.amount)) r) None
        ∷ when (unwrap_or (option_map (λ v. is_nothing (issued_shares v.tokens v.shares coin.amount)) r) false) TinyDelegation
        ∷ unwrap_or (option_map (λ v. over_in (after_hook who v w)) r) None
        ∷ when (unwrap_or (option_map (λ v. is_short_then who coin.amount (after_hook who v w)) r) false) InsufficientFunds
        ∷ [])
    by None = refl
    by (Some v) = stop_step (is_wrong coin w.view) WrongDenom _ _ (wallet_refused v who coin.amount w)

-- ---- cancelling an unbonding

pub cancellations_refused : CancellationsNameConditions
cancellations_refused who operator coin height w s =
    mapped (cancelled chain_told who operator coin height w.mine.unbondings (staked_in w)) (λ x. with_staked (record w.mine { unbondings = x.1 }) x.2)
    ∙ stop_step (coin.amount == 0) NonPositive _ _ (stop_step (is_wrong coin w.view) WrongDenom _ _ (by (validator_at w.mine.staked operator)))
  where
    es : List UnbondingEntry
    es = entries_of w.mine.unbondings who operator

    found : Option UnbondingEntry
    found = find (can_be_cancelled height w.view.ctx.time) es

    done : ℕ × World Staked Hooks → ⊤ × UnbondingLists × World Staked Hooks
    done x = (tt, with_entries who operator (lowered height w.view.ctx.time coin.amount es) w.mine.unbondings, x.1)

    rest : Validator → List (Option Refusal)
    rest v = issue_over v (issued_shares v.tokens v.shares coin.amount) ∷ when (is_nothing (issued_shares v.tokens v.shares coin.amount)) TinyDelegation ∷ over_in (after_hook who v w) ∷ []

    given_back : (v : Validator) → has_invalid_rate v.tokens v.shares ≡ false → refused_in (delegated chain_told v who coin.amount (pool Unbonded) (staked_in w) >>= λ x. Ok (done x)) ≡ first_of (rest v)
    given_back v e =
        mapped (delegated chain_told v who coin.amount (pool Unbonded) (staked_in w)) done
        ∙ pool_refused v who coin.amount w Unbonded ∙ ap (λ b. first_of (when b RateInvalid ∷ rest v)) e

    entry : (v : Validator) (o : Option UnbondingEntry) → has_invalid_rate v.tokens v.shares ≡ false
        → refused_in (or_stop o NoEntry >>= λ e. stop_if (nat_lt e.balance coin.amount) CancelTooMuch >> (delegated chain_told v who coin.amount (pool Unbonded) (staked_in w) >>= λ x. Ok (done x)))
        ≡ first_of (when (is_none o) NoEntry ∷ when (unwrap_or (option_map (λ e. nat_lt e.balance coin.amount) o) false) CancelTooMuch ∷ rest v)
    entry v None e = refl
    entry v (Some x) e = stop_step (nat_lt x.balance coin.amount) CancelTooMuch _ _ (given_back v e)

    rated : (v : Validator) (b : Bool) → has_invalid_rate v.tokens v.shares ≡ b
        → refused_in (stop_if b RateInvalid >> (stop_if v.jailed Jailed >> (or_stop found NoEntry >>= λ e. stop_if (nat_lt e.balance coin.amount) CancelTooMuch >> (delegated chain_told v who coin.amount (pool Unbonded) (staked_in w) >>= λ x. Ok (done x)))))
        ≡ first_of (when b RateInvalid ∷ when v.jailed Jailed ∷ when (is_none found) NoEntry ∷ when (unwrap_or (option_map (λ e. nat_lt e.balance coin.amount) found) false) CancelTooMuch ∷ rest v)
    rated v true e = refl
    rated v false e = stop_step v.jailed Jailed _ _ (entry v found e)

    by : (r : Option Validator)
        → refused_in (or_stop r NoValidator >>= λ v. stop_if (has_invalid_rate v.tokens v.shares) RateInvalid >> (stop_if v.jailed Jailed >> (or_stop found NoEntry >>= λ e.
        stop_if (nat_lt e.balance coin.amount) CancelTooMuch >> (delegated chain_told v who coin.amount (pool Unbonded) (staked_in w) >>= λ x. Ok (done x)))))
        ≡ first_of (
        when (is_none r) NoValidator
        ∷ when (unwrap_or (option_map (λ v. has_invalid_rate v.tokens v.shares) r) false) RateInvalid
        ∷ when (unwrap_or (option_map (λ v. v.jailed) r) false) Jailed
        ∷ when (is_none found) NoEntry
        ∷ when (unwrap_or (option_map (λ e. nat_lt e.balance coin.amount) found) false) CancelTooMuch
        ∷ unwrap_or (option_map (λ v. issue_over v (issued_shares v.tokens v.shares coin.amount)) r) None
        ∷ when (unwrap_or (option_map (λ v. is_nothing (issued_shares v.tokens v.shares coin.amount)) r) false) TinyDelegation
        ∷ unwrap_or (option_map (λ v. over_in (after_hook who v w)) r) None
        ∷ [])
    by None = refl
    by (Some v) = rated v (has_invalid_rate v.tokens v.shares) refl
