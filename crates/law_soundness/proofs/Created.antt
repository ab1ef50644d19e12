-- Creating a validator is refused by the first of its conditions that holds: its first period has nothing to share out, so no
-- hook is over.
use Rattle.std.proofs.Common.{◌≡◌, ◌∙◌, ℕ, ◌+◌, ◌*◌, ◌^◌, ◌<◌, ◌≤◌, ◌==◌, Bool, true, false, List, [], ◌∷◌, Option, Some, None, Result, Ok, Err, refl, sym, ap, subst, arith, Contains, IsOkAnd, if◌then◌else◌, is_none, is_some, nat_lt, not, unwrap_or}
use Rattle.std.{specs.Prelude.⊤, proofs.lemmas.Bool.Decides.nat_tests}
use Rattle.base_decimals.specs.{declared.over.Over.Over, Decimals.{add_of, quotient_over, whole_of}}
use Rattle.base_types.specs.declared.account.Account.TheVariants as account
use Rattle.base_coins.{proofs.{Amounts.add_fits, Parts.whole_below}, specs.Coins.{Money, coin_then, coins_quo_cut}}
use Rattle.base_shares.specs.Shares.{or_over}
use Rattle.base_roles.specs.declared.{entities.Validator.Validator, refusal.Refusal.Refusal}
use Rattle.base_roles.specs.declared.refusal.Refusal.TheVariants.{CommissionBelowMinimum, CommissionRange, ConsKeyExists, InsufficientFunds, MinSelfNotPositive, NonPositive, Overflow, SelfBelowMinimum, TinyDelegation, ValidatorExists, WrongDenom}
use Rattle.base_roles.specs.{Holdings.is_short, Items.no_purse, Log.Log, Pair.{and_then, given_with}}
use Rattle.base_roles.specs.Staked.{Staked, delegation, put_validator, validator_at, validator_by_cons}
use Rattle.base_roles.specs.{Flow.{◌>>=◌, ◌>>◌, stop_if, stopping}, World.{View, World, call, hooked, over_mine}}
use Rattle.base_roles.specs.declared.{entities.Purse.Purse, calls.{Hook.{TheVariants.{Starting as starting}}}}
use Rattle.base_roles.specs.Log as log
use Rattle.law_soundness.proofs.{Rewards.put_found, Burns.total_in, Creating.{none_started, none_is}}
use Rattle.law_soundness.proofs.{Founding.{period_sure, pooled_at, sure_then}, Hooking.hook_gave}
use Rattle.law_soundness.proofs.{Points.{StateFits, to_fits}, Refused.{wallet_refused, stop_known}}
use Rattle.law_soundness.specs.StepLaws.{CreationsNameConditions}
use Rattle.rule_modules.{proofs.RefusalLemmas.{mapped, stop_step}, specs.Amounts.bond_coins}
use Rattle.rule_modules.specs.Chain.{Hooks, State, chain_told, staked_in, with_staked}
use Rattle.rule_modules.specs.Conditions.{after_hook, first_of, is_nothing, is_short_then, issue_over, over_in, when}
use Rattle.rule_modules.specs.Delegating.{delegated, hook_before, is_wrong, wallet}
use Rattle.rule_modules.specs.Distribution.{Shared, current_taken, ended, left_by, records_made, told_of}
use Rattle.rule_modules.specs.Periods.{Periods, initial_records, period_ended, periods_of}
use Rattle.rule_modules.specs.{Purses.{Purses, current_emptied, current_pooled, purse_of}, RefusalOrder.refused_in}
use Rattle.rule_modules.specs.{Validators.{are_out_of_range, created, new_validator, stored}, Window.window_told}

-- ---- the first period

-- an empty purse gives nothing to the ratio
taken_at : (val : Validator) (p : Purses) → (purse_of p val.operator).current ≡ [] → IsOkAnd (current_taken val p) (λ z. z.0 ≡ [])
taken_at val p h = by (val.tokens == 0)
  where
    op : List ℕ
    op = val.operator

    pooled : Money × Purses → Result (Money × Money × Purses) Over
    pooled x = Ok ([], x.0, x.1)

    emptied : Money → Result (Money × Money × Purses) Over
    emptied i = Ok (i, [], current_emptied op p)

    by : (b : Bool) → IsOkAnd (if b then (current_pooled op p >>= pooled) else (coins_quo_cut (purse_of p op).current (val.tokens * 10 ^ 18) >>= emptied)) (λ z. z.0 ≡ [])
    by true = subst (λ c. IsOkAnd (pooled_at op p c >>= pooled) (λ z. z.0 ≡ [])) (sym h) refl
    by false = subst (λ c. IsOkAnd (coins_quo_cut c (val.tokens * 10 ^ 18) >>= emptied) (λ z. z.0 ≡ [])) (sym h) refl

-- the first period ends, and leaves bank and context
first_ended : (val : Validator) (d : Shared) (v : View) → IsOkAnd (ended val (records_made val d) v) (λ z. (z.2.bank ≡ v.bank) × (z.2.ctx ≡ v.ctx))
first_ended val d v =
    let op = val.operator in
    let made : Shared = records_made val d in
    let ps : Periods = periods_of made.rewards op in
    let empty : (purse_of made.purses op).current ≡ [] = ap (λ (r : Option Purse). (unwrap_or r no_purse).current) (put_found d.purses.purses op no_purse) in
    let one : ps.current ≤ 1 = subst (λ (r : Option Periods). (unwrap_or r initial_records).current ≤ 1) (sym (put_found d.rewards.periods op initial_records)) (omega arith) in
    sure_then (current_taken val made.purses) _ (λ t. t.0 ≡ []) _ (taken_at val made.purses empty) (λ t s.
    sure_then (period_ended t.0 ps) _ (λ y. y.1.current ≤ 1 + 1) _ (period_sure t.0 ps 1 s one (omega arith)) (λ y m. (refl, refl)))

-- ---- the message

pub creations_refused : CreationsNameConditions
creations_refused m w s =
    mapped (created chain_told m (staked_in w)) (λ x. with_staked w.mine x.1)
    ∙ stop_known (m.amount.amount == 0) NonPositive _ _ (λ some. stop_step (are_out_of_range m) CommissionRange _ _ (stop_step (m.min_self_delegation == 0) MinSelfNotPositive _ _
    (stop_step (nat_lt m.amount.amount m.min_self_delegation) SelfBelowMinimum _ _ (stop_step (nat_lt m.rate w.view.ctx.params.min_commission_rate) CommissionBelowMinimum _ _ (known (validator_at w.mine.staked m.validator) refl some)))))
  where
    P : List ℕ → Type 0
    P = Contains s.few.some

    h : StateFits P (total_in w.view) w
    h = to_fits w s

    n : ℕ
    n = m.amount.amount

    who : List ℕ
    who = m.validator

    v : Validator
    v = new_validator m w.view.ctx.time

    -- with the validator, after its first hook
    w1 : World Staked Hooks
    w1 = hook_gave (over_mine (put_validator v) (staked_in w)) (records_made v w.hooks.0) w.view ((v.operator, log.made) ∷ [])

    z : State
    z = with_staked w.mine w1

    short : Bool
    short = is_short w.view.bank (account.User who) (bond_coins w.view n)

    done : ℕ × World Staked Hooks → ⊤ × World Staked Hooks
    done y = (tt, y.1)

    is_whole : (x : ℕ) (t : Bool) → ◌≡◌ {A = Result ℕ Over} (if t then Ok (n * 10 ^ 18) else Err (quotient_over n (10 ^ 18) 1)) (Ok x) → x ≡ n * 10 ^ 18
    is_whole x true e = let same : n * 10 ^ 18 ≡ x = cc in sym same
    is_whole x false e = absurd cc

    not_zero : (a x : ℕ) → (a == 0) ≡ false → x ≡ a * 10 ^ 18 → (x == 0) ≡ false
    not_zero a x e f = grind (arith, nat_tests)

    -- the first shares are over where the amount is
    new_shares : (x : Result ℕ Over) (rest : List (Option Refusal)) → whole_of n ≡ x → (n == 0) ≡ false
        → first_of (None ∷ issue_over v (or_over x) ∷ when (is_nothing (or_over x)) TinyDelegation ∷ rest) ≡ first_of (over_in x ∷ rest)
    new_shares (Err over) rest e some = refl
    new_shares (Ok x) rest e some =
        let below : x < 10 ^ 38 = whole_below n x e in
        let sum : add_of 0 x ≡ Ok (0 + x) = add_fits 0 x (omega (arith, below)) in
        let positive : (x == 0) ≡ false = not_zero n x some (is_whole x (nat_lt (n * 10 ^ 18) (10 ^ 38)) e) in
        (λ i. first_of (over_in (sum i) ∷ when (positive i) TinyDelegation ∷ rest))

    -- the hook before the first delegation leaves the wallet
    by_ended : (r : Result (ℕ × Shared × View × Log) Over) → IsOkAnd r (λ y. (y.2.bank ≡ w.view.bank) × (y.2.ctx ≡ w.view.ctx))
        → first_of (
        over_in (hooked (and_then (told_of (left_by r)) (λ d u k. given_with d k (window_told z.hooks.1 (starting v who) u))) z)
        ∷ when (is_short_then who n (hooked (and_then (told_of (left_by r)) (λ d u k. given_with d k (window_told z.hooks.1 (starting v who) u))) z)) InsufficientFunds
        ∷ []) ≡ first_of (when short InsufficientFunds ∷ [])
    by_ended (Ok y) k = (λ i. first_of (when (is_short (k.0 i) (account.User who) (coin_then (k.1 i).params.bond_denom n [])) InsufficientFunds ∷ []))
    by_ended (Err e) k = absurd k

    hook_paid : validator_at w.mine.staked m.validator ≡ None
        → first_of (over_in (after_hook who v z) ∷ when (is_short_then who n (after_hook who v z)) InsufficientFunds ∷ []) ≡ first_of (when short InsufficientFunds ∷ [])
    hook_paid e =
        let none : delegation z.mine.staked who v.operator ≡ None = none_is (delegation w.mine.staked who who) (none_started P (total_in w.view) w.view.ctx.height w.mine.staked who h.stake.staked e who) in
        subst (λ (o : Option ℕ). first_of (over_in (call chain_told (hook_before v who o) z) ∷ when (is_short_then who n (call chain_told (hook_before v who o) z)) InsufficientFunds ∷ []) ≡ first_of (when short InsufficientFunds ∷ []))
        (sym none) (by_ended (ended v z.hooks.0 z.view) (first_ended v w.hooks.0 w.view))

    followed : (x : Result ℕ Over) → first_of (over_in (after_hook who v z) ∷ when (is_short_then who n (after_hook who v z)) InsufficientFunds ∷ []) ≡ first_of (when short InsufficientFunds ∷ [])
        → first_of (over_in x ∷ over_in (after_hook who v z) ∷ when (is_short_then who n (after_hook who v z)) InsufficientFunds ∷ []) ≡ first_of (over_in x ∷ when short InsufficientFunds ∷ [])
    followed (Ok x) e = e
    followed (Err over) e = refl

    first : validator_at w.mine.staked m.validator ≡ None → (n == 0) ≡ false
        → refused_in (stopping Overflow (stored chain_told v (staked_in w)) >>= λ x. delegated chain_told v who n wallet x >>= λ y. Ok (done y)) ≡ first_of (over_in (whole_of n) ∷ when short InsufficientFunds ∷ [])
    first e some =
        mapped (delegated chain_told v who n wallet w1) done
        ∙ wallet_refused v who n z
        ∙ new_shares (whole_of n) _ refl some
        ∙ followed (whole_of n) (hook_paid e)

    known : (o : Option Validator) → validator_at w.mine.staked m.validator ≡ o → (n == 0) ≡ false
        → refused_in (stop_if (is_some o) ValidatorExists >> (stop_if (is_some (validator_by_cons w.mine.staked m.cons)) ConsKeyExists >> (stop_if (is_wrong m.amount w.view) WrongDenom >>
        (stopping Overflow (stored chain_told v (staked_in w)) >>= λ x. delegated chain_told v who n wallet x >>= λ y. Ok (done y)))))
        ≡ first_of (
        when (not (is_none o)) ValidatorExists
        ∷ when (is_some (validator_by_cons w.mine.staked m.cons)) ConsKeyExists
        ∷ when (is_wrong m.amount w.view) WrongDenom
        ∷ over_in (whole_of n)
        ∷ when short InsufficientFunds
        ∷ [])
    known (Some x) e some = refl
    known None e some = stop_step (is_some (validator_by_cons w.mine.staked m.cons)) ConsKeyExists _ _ (stop_step (is_wrong m.amount w.view) WrongDenom _ _ (first e some))
