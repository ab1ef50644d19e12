-- Creating a validator keeps accounts reached: its own is that of a new one, and its operator delegates to it.
use Rattle.std.proofs.Common.{◌≡◌, ℕ, ◌==◌, Bool, true, false, cond, List, [], ◌∷◌, ◌++◌, map, filter, refl, sym, ap, subst, ◌∙◌, Option, Some, None, Result, Ok, unwrap_or, is_some, nat_lt, IsSome, ◌&&◌, slice_get}
use Rattle.std.{specs.{Prelude.⊤, Map.lookup, BTreeMap.is_at}, proofs.lemmas.List.Elements.recursion_from_All}
use Rattle.std.proofs.lemmas.Map.Entries.{place_from_lookup}
use Rattle.base_coins.{specs.Coins.{IsMoney, amount_of}, proofs.Order.money-nil}
use Rattle.base_roles.specs.declared.entities.{StartingInfo.StartingInfo, Validator.Validator}
use Rattle.base_roles.specs.declared.{messages.CreateValidator.CreateValidator, refusal.Refusal.Refusal}
use Rattle.base_roles.specs.declared.refusal.Refusal.TheVariants.{WrongDenom, NonPositive, CommissionRange, MinSelfNotPositive, SelfBelowMinimum, CommissionBelowMinimum, ValidatorExists, ConsKeyExists, Overflow}
use Rattle.base_roles.specs.{Items.no_purse, Log.Log, Orders.{pair_cmp, same_addr}}
use Rattle.base_roles.specs.Staked.{Staked, validator_at, validator_by_cons, delegation, put_validator}
use Rattle.base_roles.specs.{Flow.{◌>>=◌, ◌>>◌, stop_if, stopping}, World.World}
use Rattle.base_roles.specs.Log as log
use Rattle.rule_modules.proofs.OrderLemmas.{pair_found, same_itself}
use Rattle.rule_modules.specs.Chain.{Hooks, State, chain_told, staked_in, with_staked}
use Rattle.rule_modules.specs.{Delegating.{wallet, is_wrong, delegated}, Distribution.records_made}
use Rattle.rule_modules.specs.{Effects.create_validator, Periods.{initial_records, start_of}, Sound.IsSound}
use Rattle.rule_modules.specs.Validators.{new_validator, are_out_of_range, stored, created}
use Rattle.law_rewards.specs.{Account.{Account, Start, IsReached, new_account}, States.{account_in, AreReached}}
use Rattle.law_rewards.{specs.{StateLaws.ReachedStays, Changes.CreatingKeepsReached}, proofs.Lists.all_at}
use Rattle.law_rewards.proofs.Denominations.{step_parts}
use Rattle.law_rewards.proofs.Entries.{addr_is, pair_is, put_there, put_elsewhere, history_behind, history_elsewhere}
use Rattle.law_rewards.proofs.{Reached.new_is_reached, Claims.{IsReady, AreLists}, Endings.{same_account, same_some}}
use Rattle.law_rewards.proofs.{Beginnings.if_ok, Quiet.{same_ok, passed}, Hooked.{none_of, opened}}
use Rattle.law_rewards.proofs.Growing.{not_stopped, apart_back, delegated_reached}

-- ---- where no validator stands

-- nobody has shares of it
pub nobody_has : (w : State) (who operator : List ℕ) → IsSound w → validator_at w.mine.staked operator ≡ None → delegation w.mine.staked who operator ≡ None
nobody_has w who operator sound none = by (delegation w.mine.staked who operator) refl
  where
    nothing : (o : Option Validator) → o ≡ None → IsSome o → ⊥
    nothing None e h = cc
    nothing (Some x) e h = cc

    by : (o : Option ℕ) → delegation w.mine.staked who operator ≡ o → o ≡ None
    by None e = refl
    by (Some n) e =
        let place : (i : ℕ) × (k : List ℕ × List ℕ) × (slice_get w.mine.staked.delegations i ≡ Some (k, n)) × (is_at (pair_cmp (operator, who)) k ≡ true) = place_from_lookup (is_at (pair_cmp (operator, who))) w.mine.staked.delegations n e in
        let there : IsSome (validator_at w.mine.staked place.1.0) =
        all_at (λ x. IsSome (validator_at w.mine.staked x.0.0)) place.0 (place.1, n) w.mine.staked.delegations place.2 (recursion_from_All (λ x. IsSome (validator_at w.mine.staked x.0.0)) w.mine.staked.delegations sound.staked.existing) in
        absurd (nothing (validator_at w.mine.staked place.1.0) (ap (validator_at w.mine.staked) (sym (pair_is (operator, who) place.1 place.3).0) ∙ none) there)

pair_own : (o x : List ℕ) → is_at (pair_cmp (o, x)) (o, x) ≡ true
pair_own o x = pair_found o o x x ∙ (λ i. same_itself o i && same_itself x i)

no_first : (op : List ℕ) (e : (List ℕ × List ℕ) × StartingInfo) (rest : List ((List ℕ × List ℕ) × StartingInfo)) (o : Option StartingInfo) (t : Bool) → same_addr e.0.0 op ≡ t → cond (is_at (pair_cmp (op, e.0.1)) e.0) (Some e.1) o ≡ None → rest ≡ [] → cond t (e ∷ rest) rest ≡ []
no_first op e rest o false own none later = later
no_first op e rest o true own none later =
    absurd (nothing (sym (ap (λ b. cond b (Some e.1) o) (ap (λ k. is_at (pair_cmp (op, e.0.1)) k) (λ i. (addr_is e.0.0 op own i, e.0.1)) ∙ pair_own op e.0.1)) ∙ none))
  where
    nothing : Path (Option StartingInfo) (Some e.1) None → ⊥
    nothing h = cc

behind_none : {X : Type 0} (b : Bool) (x : X) (o : Option X) → cond b (Some x) o ≡ None → o ≡ None
behind_none true x o h = absurd cc
behind_none false x o h = h

-- and no start is of it
no_starts : (op : List ℕ) (es : List ((List ℕ × List ℕ) × StartingInfo)) → ((who : List ℕ) → lookup (is_at (pair_cmp (op, who))) es ≡ None) → filter (λ e. same_addr e.0.0 op) es ≡ []
no_starts op [] none = refl
no_starts op (e ∷ es) none =
    no_first op e (filter (λ x. same_addr x.0.0 op) es) (lookup (is_at (pair_cmp (op, e.0.1))) es) (same_addr e.0.0 op) refl (none e.0.1)
    (no_starts op es (λ who. behind_none (is_at (pair_cmp (op, who)) e.0) e.1 (lookup (is_at (pair_cmp (op, who))) es) (none who)))

-- ---- the new validator

abbrev pub state_made : State → Validator → State
state_made w v = record { mine = record w.mine { staked = put_validator v w.mine.staked }; hooks = (records_made v w.hooks.0, w.hooks.1); view = w.view; log = w.log ++ (v.operator, log.made) ∷ [] }

made_account : (d : List ℕ) (w : State) (m : CreateValidator) → IsSound w → validator_at w.mine.staked m.validator ≡ None
    → account_in d (state_made w (new_validator m w.view.ctx.time)) (new_validator m w.view.ctx.time) ≡ new_account w.view.ctx.height
made_account d w m sound none =
    let v : Validator = new_validator m w.view.ctx.time in
    let op : List ℕ = m.validator in
    let a : Account = account_in d (state_made w v) v in
    let nobody : filter (λ e. same_addr e.0.0 op) w.hooks.0.rewards.starts ≡ [] =
    no_starts op w.hooks.0.rewards.starts (λ who. none_of (start_of w.hooks.0.rewards who op) (sound.stands.starts who op ∙ ap is_some (nobody_has w who op sound none))) in
    same_account 0 0 a.height w.view.ctx.height a.current 0 a.commission 0 a.outstanding 0 a.periods initial_records a.starts [] a.history []
    refl
    (ap (λ o. amount_of (unwrap_or o no_purse).current d) (put_there op no_purse w.hooks.0.purses.purses))
    (ap (λ o. amount_of (unwrap_or o no_purse).commission d) (put_there op no_purse w.hooks.0.purses.purses))
    (ap (λ o. amount_of (unwrap_or o no_purse).outstanding d) (put_there op no_purse w.hooks.0.purses.purses))
    (ap (λ o. unwrap_or o initial_records) (put_there op initial_records w.hooks.0.rewards.periods))
    (ap (map (λ e. let s : Start = record { who = e.0.1; shares = unwrap_or (delegation (put_validator v w.mine.staked) e.0.1 op) 0; info = e.1 } in s)) nobody)
    (history_behind op w.log log.made [])

pub made_other : (d : List ℕ) (w : State) (v u : Validator) → same_addr u.operator v.operator ≡ false → account_in d (state_made w v) u ≡ account_in d w u
made_other d w v u apart =
    let op : List ℕ = u.operator in
    let a : Account = account_in d (state_made w v) u in
    let b : Account = account_in d w u in
    same_account u.tokens u.shares a.height b.height a.current b.current a.commission b.commission a.outstanding b.outstanding a.periods b.periods a.starts b.starts a.history b.history
    refl
    (ap (λ o. amount_of (unwrap_or o no_purse).current d) (put_elsewhere v.operator op no_purse w.hooks.0.purses.purses apart))
    (ap (λ o. amount_of (unwrap_or o no_purse).commission d) (put_elsewhere v.operator op no_purse w.hooks.0.purses.purses apart))
    (ap (λ o. amount_of (unwrap_or o no_purse).outstanding d) (put_elsewhere v.operator op no_purse w.hooks.0.purses.purses apart))
    (ap (λ o. unwrap_or o initial_records) (put_elsewhere v.operator op initial_records w.hooks.0.rewards.periods apart))
    refl
    (history_elsewhere op v.operator w.log log.made [] (apart_back op v.operator apart))

pub made_at : (d : List ℕ) (w : State) (m : CreateValidator) (u : Validator) → IsSound w → validator_at w.mine.staked m.validator ≡ None → AreReached w
    → validator_at (put_validator (new_validator m w.view.ctx.time) w.mine.staked) u.operator ≡ Some u → (b : Bool) → same_addr u.operator m.validator ≡ b → IsReached d (account_in d (state_made w (new_validator m w.view.ctx.time)) u)
made_at d w m u sound none reached there true is =
    let v : Validator = new_validator m w.view.ctx.time in
    let t : Staked = put_validator v w.mine.staked in
    let one : u ≡ v = same_some u v (validator_at t u.operator) (validator_at t m.validator) there (put_there m.validator v w.mine.staked.validators) (ap (λ o. validator_at t o) (addr_is u.operator m.validator is)) in
    subst (λ y. IsReached d (account_in d (state_made w v) y)) (sym one) (subst (λ a. IsReached d a) (sym (made_account d w m sound none)) (new_is_reached d w.view.ctx.height))
made_at d w m u sound none reached there false is =
    let v : Validator = new_validator m w.view.ctx.time in
    subst (λ a. IsReached d a) (sym (made_other d w v u is)) (reached d u (sym (put_elsewhere m.validator u.operator v w.mine.staked.validators is) ∙ there))

pub made_ready : (w : State) (v : Validator) → IsSound w → IsReady (state_made w v) v.operator
made_ready w v sound = record {
  current = subst (λ o. IsMoney (unwrap_or o no_purse).current) (sym (put_there v.operator no_purse w.hooks.0.purses.purses)) money-nil;
  outstanding = subst (λ o. IsMoney (unwrap_or o no_purse).outstanding) (sym (put_there v.operator no_purse w.hooks.0.purses.purses)) money-nil;
  lists = subst (λ o. AreLists (unwrap_or o initial_records)) (sym (put_there v.operator initial_records w.hooks.0.rewards.periods)) (money-nil, tt);
  starts = λ who. sound.stands.starts who v.operator;
}

-- ---- the message

abbrev Created : Type 0
Created = ⊤ × World Staked Hooks

create_reached : (m : CreateValidator) (w new : State) → IsSound w → create_validator m w ≡ Ok new → ReachedStays w new
create_reached m w new sound e reached =
    let v : Validator = new_validator m w.view.ctx.time in
    let s : World Staked Hooks = staked_in w in
    let one : (x : Created) × (created chain_told m s ≡ Ok x) × (Path (Result State Refusal) (Ok (with_staked w.mine x.1)) (Ok new)) = step_parts (created chain_told m s) (λ x. Ok (with_staked w.mine x.1)) new e in
    let last : World Staked Hooks → Result Created Refusal = λ w1. delegated chain_told v m.validator m.amount.amount wallet w1 >>= λ y. Ok (tt, y.1) in
    let r8 : Result Created Refusal = stopping Overflow (stored chain_told v s) >>= last in
    let r7 : Result Created Refusal = stop_if (is_wrong m.amount w.view) WrongDenom >> r8 in
    let r6 : Result Created Refusal = stop_if (is_some (validator_by_cons w.mine.staked m.cons)) ConsKeyExists >> r7 in
    let r5 : Result Created Refusal = stop_if (is_some (validator_at w.mine.staked m.validator)) ValidatorExists >> r6 in
    let r4 : Result Created Refusal = stop_if (nat_lt m.rate w.view.ctx.params.min_commission_rate) CommissionBelowMinimum >> r5 in
    let r3 : Result Created Refusal = stop_if (nat_lt m.amount.amount m.min_self_delegation) SelfBelowMinimum >> r4 in
    let r2 : Result Created Refusal = stop_if (m.min_self_delegation == 0) MinSelfNotPositive >> r3 in
    let r1 : Result Created Refusal = stop_if (are_out_of_range m) CommissionRange >> r2 in
    let five : r5 ≡ Ok one.0 =
    passed (nat_lt m.rate w.view.ctx.params.min_commission_rate) CommissionBelowMinimum r5 one.0
    (passed (nat_lt m.amount.amount m.min_self_delegation) SelfBelowMinimum r4 one.0
    (passed (m.min_self_delegation == 0) MinSelfNotPositive r3 one.0
    (passed (are_out_of_range m) CommissionRange r2 one.0
    (passed (m.amount.amount == 0) NonPositive r1 one.0 one.1)))) in
    let none : validator_at w.mine.staked m.validator ≡ None = none_of (validator_at w.mine.staked m.validator) (not_stopped (is_some (validator_at w.mine.staked m.validator)) ValidatorExists r6 one.0 five) in
    let eight : r8 ≡ Ok one.0 =
    passed (is_wrong m.amount w.view) WrongDenom r8 one.0
    (passed (is_some (validator_by_cons w.mine.staked m.cons)) ConsKeyExists r7 one.0
    (passed (is_some (validator_at w.mine.staked m.validator)) ValidatorExists r6 one.0 five)) in
    let x : State = state_made w v in
    let two : (y : ℕ × World Staked Hooks) × (delegated chain_told v m.validator m.amount.amount wallet (staked_in x) ≡ Ok y) × (Path (Result Created Refusal) (Ok (tt, y.1)) (Ok one.0)) =
    step_parts (delegated chain_told v m.validator m.amount.amount wallet (staked_in x)) (λ y. Ok (tt, y.1)) one.0 eight in
    let found : validator_at x.mine.staked m.validator ≡ Some v = put_there m.validator v w.mine.staked.validators in
    let made : AreReached x = λ d u there. made_at d w m u sound none reached there (same_addr u.operator m.validator) refl in
    let after : AreReached (with_staked x.mine two.0.1) = delegated_reached x v m.validator m.amount.amount wallet two.0 found (λ z told. opened x v m.validator z (made_ready w v sound) found told made) two.1 in
    subst AreReached (same_ok (with_staked w.mine one.0.1) new one.2) (subst (λ y. AreReached (with_staked w.mine y.1)) (same_ok (tt, two.0.1) one.0 two.2) after)

pub creating_keeps_reached : CreatingKeepsReached
creating_keeps_reached = λ m w sound. if_ok (ReachedStays w) (create_validator m w) (λ new e. create_reached m w new sound e)
