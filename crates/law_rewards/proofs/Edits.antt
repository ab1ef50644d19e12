-- Messages that change a validator's record, and not its tokens and shares, keep accounts reached.
use Rattle.std.proofs.Common.{◌≡◌, ℕ, ◌+◌, ◌-◌, Bool, true, false, List, [], refl, sym, ap, subst, ◌∙◌, Option, Some, None, Result, Ok, Err, not, nat_lt, nat_le}
use Rattle.std.specs.Prelude.{⊤}
use Rattle.base_coins.specs.Coins.{amount_of}
use Rattle.base_decimals.specs.Decimals.{trunc_of}
use Rattle.base_shares.specs.Shares.{value_even_of}
use Rattle.base_roles.specs.declared.{entities.Validator.Validator, messages.EditValidator.EditValidator}
use Rattle.base_roles.specs.declared.refusal.Refusal.{Refusal}
use Rattle.base_roles.specs.declared.refusal.Refusal.TheVariants.{NoValidator, NoSelfDelegation, SelfBelowMinimum, NotJailed, CommissionTooSoon, CommissionAboveMax, CommissionStep, CommissionBelowMinimum, MinSelfNotRaised}
use Rattle.base_roles.specs.{Orders.same_addr, Staked.{Staked, validator_at, delegation, put_validator}}
use Rattle.base_roles.specs.{Flow.{◌>>=◌, ◌>>◌, stop_if, or_stop}, World.{View, over_view, over_mine, noted}}
use Rattle.base_roles.specs.declared.facts.Fact.TheVariants as fact
use Rattle.rule_modules.specs.{Amounts.seconds, Chain.State, Effects.{edit_validator, unjail}, Ideal.history_of}
use Rattle.rule_modules.specs.{Periods.periods_of, Purses.purse_of, Sound.IsSound}
use Rattle.rule_modules.specs.Validators.{edit_formed, rate_edited, minimum_edited, edited}
use Rattle.rule_modules.specs.Window.{unjailed, may_leave, signing_of}
use Rattle.law_rewards.specs.{Account.{Account, IsReached}, States.{starts_in, account_in, AreReached}}
use Rattle.law_rewards.{specs.StateLaws.{ReachedStays, StandingMessagesKeepReached}, proofs.Denominations.step_parts}
use Rattle.law_rewards.proofs.{Entries.{addr_is, put_there, put_elsewhere}, Endings.same_some}
use Rattle.law_rewards.proofs.{Beginnings.{found_is, if_ok, under_own}, Quiet.same_ok}

-- a validator that stands as another did
pub record StandsAs (v old : Validator) : Type 0 where
  pub operator : v.operator ≡ old.operator
  pub tokens : v.tokens ≡ old.tokens
  pub shares : v.shares ≡ old.shares

abbrev account_at : List ℕ → State → List ℕ → ℕ → ℕ → Account
account_at d w operator tokens shares = let purse = purse_of w.hooks.0.purses operator in record {
  height = w.view.ctx.height;
  tokens = tokens;
  shares = shares;
  current = amount_of purse.current d;
  commission = amount_of purse.commission d;
  outstanding = amount_of purse.outstanding d;
  periods = periods_of w.hooks.0.rewards operator;
  starts = starts_in w.mine.staked w.hooks.0.rewards operator;
  history = history_of operator w.log [];
}

same_standing : (d : List ℕ) (w : State) (v old : Validator) → StandsAs v old → account_in d w v ≡ account_in d w old
same_standing d w v old s =
    ap (λ o. account_at d w o v.tokens v.shares) s.operator ∙ ap (λ n. account_at d w old.operator n v.shares) s.tokens ∙ ap (λ n. account_at d w old.operator old.tokens n) s.shares

abbrev pub state_with : State → Validator → State
state_with w v = over_mine (λ c. record c { staked = put_validator v w.mine.staked }) w

standing_then : (w : State) (v old : Validator) → StandsAs v old → validator_at w.mine.staked old.operator ≡ Some old → AreReached w
    → (d : List ℕ) (u : Validator) → validator_at (put_validator v w.mine.staked) u.operator ≡ Some u → (b : Bool) → same_addr u.operator v.operator ≡ b → IsReached d (account_in d (state_with w v) u)
standing_then w v old s found reached d u there true is =
    let own : u.operator ≡ v.operator = addr_is u.operator v.operator is in
    let one : u ≡ v = same_some u v (validator_at (put_validator v w.mine.staked) u.operator) (validator_at (put_validator v w.mine.staked) v.operator) there (put_there v.operator v w.mine.staked.validators)
    (ap (λ o. validator_at (put_validator v w.mine.staked) o) own) in
    subst (λ x. IsReached d (account_in d (state_with w v) x)) (sym one) (subst (λ a. IsReached d a) (sym (same_standing d w v old s)) (reached d old found))
standing_then w v old s found reached d u there false is =
    reached d u (sym (put_elsewhere v.operator u.operator v w.mine.staked.validators is) ∙ there)

pub standing_reached : (w : State) (v old : Validator) → StandsAs v old → validator_at w.mine.staked old.operator ≡ Some old → ReachedStays w (state_with w v)
standing_reached w v old s found reached d u there = standing_then w v old s found reached d u there (same_addr u.operator v.operator) refl

-- ---- an edit

next_step : {A B E : Type 0} (r : Result A E) (s : Result B E) (b : B) → (r >> s) ≡ Ok b → s ≡ Ok b
next_step (Ok a) s b h = h
next_step (Err e) s b h = absurd cc

as_itself : (v : Validator) → StandsAs v v
as_itself v = record { operator = refl; tokens = refl; shares = refl }

rate_stands : (rate : Option ℕ) (time minimum : ℕ) (v new : Validator) → rate_edited rate time minimum v ≡ Ok new → StandsAs new v
rate_stands None time minimum v new e = subst (λ x. StandsAs x v) (same_ok v new e) (as_itself v)
rate_stands (Some rate) time minimum v new e =
    let out : Validator = record v { commission = record v.commission { rate = rate; updated = time } } in
    let last : Result Validator Refusal = Ok out in
    let went : last ≡ Ok new =
    next_step (stop_if (nat_lt rate minimum) CommissionBelowMinimum) last new
    (next_step (stop_if (nat_lt (v.commission.rate + v.commission.max_change) rate) CommissionStep) (stop_if (nat_lt rate minimum) CommissionBelowMinimum >> last) new
    (next_step (stop_if (nat_lt v.commission.max_rate rate) CommissionAboveMax) (stop_if (nat_lt (v.commission.rate + v.commission.max_change) rate) CommissionStep >> (stop_if (nat_lt rate minimum) CommissionBelowMinimum >> last)) new
    (next_step (stop_if (nat_lt (time - v.commission.updated) (seconds 86400)) CommissionTooSoon) (stop_if (nat_lt v.commission.max_rate rate) CommissionAboveMax >> (stop_if (nat_lt (v.commission.rate + v.commission.max_change) rate) CommissionStep >> (stop_if (nat_lt rate minimum) CommissionBelowMinimum >> last))) new e))) in
    subst (λ x. StandsAs x v) (same_ok out new went) (record { operator = refl; tokens = refl; shares = refl })

minimum_stands : (n : Option ℕ) (v new : Validator) → minimum_edited n v ≡ Ok new → StandsAs new v
minimum_stands None v new e = subst (λ x. StandsAs x v) (same_ok v new e) (as_itself v)
minimum_stands (Some n) v new e =
    let out : Validator = record v { min_self = n } in
    let last : Result Validator Refusal = Ok out in
    let went : last ≡ Ok new =
    next_step (stop_if (nat_lt v.tokens n) SelfBelowMinimum) last new (next_step (stop_if (nat_le n v.min_self) MinSelfNotRaised) (stop_if (nat_lt v.tokens n) SelfBelowMinimum >> last) new e) in
    subst (λ x. StandsAs x v) (same_ok out new went) (record { operator = refl; tokens = refl; shares = refl })

pub stands_through : (a b c : Validator) → StandsAs a b → StandsAs b c → StandsAs a c
stands_through a b c s t = record { operator = s.operator ∙ t.operator; tokens = s.tokens ∙ t.tokens; shares = s.shares ∙ t.shares }

-- a validator that is found stands under its own operator
pub found_own : (w : State) (operator : List ℕ) (v : Validator) → IsSound w → or_stop (validator_at w.mine.staked operator) NoValidator ≡ Ok v → validator_at w.mine.staked v.operator ≡ Some v
found_own w operator v sound e =
    let found : validator_at w.mine.staked operator ≡ Some v = found_is (validator_at w.mine.staked operator) NoValidator v e in
    ap (λ o. validator_at w.mine.staked o) (sym (under_own w operator v sound found)) ∙ found

edit_reached : (m : EditValidator) (w new : State) → IsSound w → edit_validator m w ≡ Ok new → ReachedStays w new
edit_reached m w new sound e =
    let time : ℕ = w.view.ctx.time in
    let minimum : ℕ = w.view.ctx.params.min_commission_rate in
    let s : Staked = w.mine.staked in
    let one : (t : Staked) × (edited m time minimum s ≡ Ok t) × (Path (Result State Refusal) (Ok (over_mine (λ c. record c { staked = t }) w)) (Ok new)) =
    step_parts (edited m time minimum s) (λ t. Ok (over_mine (λ c. record c { staked = t }) w)) new e in
    let went : (or_stop (validator_at s m.validator) NoValidator >>= λ v. rate_edited m.rate time minimum v >>= λ rated. minimum_edited m.min_self_delegation rated >>= λ set. Ok (put_validator set s)) ≡ Ok one.0 =
    next_step (edit_formed m) (or_stop (validator_at s m.validator) NoValidator >>= λ v. rate_edited m.rate time minimum v >>= λ rated. minimum_edited m.min_self_delegation rated >>= λ set. Ok (put_validator set s)) one.0 one.1 in
    let two : (v : Validator) × (or_stop (validator_at s m.validator) NoValidator ≡ Ok v) × ((rate_edited m.rate time minimum v >>= λ rated. minimum_edited m.min_self_delegation rated >>= λ set. Ok (put_validator set s)) ≡ Ok one.0) =
    step_parts (or_stop (validator_at s m.validator) NoValidator) (λ v. rate_edited m.rate time minimum v >>= λ rated. minimum_edited m.min_self_delegation rated >>= λ set. Ok (put_validator set s)) one.0 went in
    let three : (rated : Validator) × (rate_edited m.rate time minimum two.0 ≡ Ok rated) × ((minimum_edited m.min_self_delegation rated >>= λ set. Ok (put_validator set s)) ≡ Ok one.0) =
    step_parts (rate_edited m.rate time minimum two.0) (λ rated. minimum_edited m.min_self_delegation rated >>= λ set. Ok (put_validator set s)) one.0 two.2 in
    let four : (set : Validator) × (minimum_edited m.min_self_delegation three.0 ≡ Ok set) × (Path (Result Staked Refusal) (Ok (put_validator set s)) (Ok one.0)) =
    step_parts (minimum_edited m.min_self_delegation three.0) (λ set. Ok (put_validator set s)) one.0 three.2 in
    let stands : StandsAs four.0 two.0 = stands_through four.0 three.0 two.0 (minimum_stands m.min_self_delegation three.0 four.0 four.1) (rate_stands m.rate time minimum two.0 three.0 three.1) in
    subst (ReachedStays w) (same_ok (over_mine (λ c. record c { staked = one.0 }) w) new one.2)
    (subst (λ t. ReachedStays w (over_mine (λ c. record c { staked = t }) w)) (same_ok (put_validator four.0 s) one.0 four.2) (standing_reached w four.0 two.0 stands (found_own w m.validator two.0 sound two.1)))

-- ---- out of jail

abbrev freed : List ℕ → State → Validator → ⊤ × Staked × View
freed operator w v = (tt, put_validator (record v { jailed = false }) w.mine.staked, noted (fact.Unjailed operator) w.view)

abbrev freed_state : List ℕ → State → Validator → State
freed_state operator w v = over_view (λ x. noted (fact.Unjailed operator) w.view) (state_with w (record v { jailed = false }))

unjail_reached : (operator : List ℕ) (w new : State) → IsSound w → unjail operator w ≡ Ok new → ReachedStays w new
unjail_reached operator w new sound e =
    let s : Staked = w.mine.staked in
    let one : (x : ⊤ × Staked × View) × (unjailed operator w.hooks.1 s w.view ≡ Ok x) × (Path (Result State Refusal) (Ok (over_view (λ y. x.2) (over_mine (λ c. record c { staked = x.1 }) w))) (Ok new)) =
    step_parts (unjailed operator w.hooks.1 s w.view) (λ x. Ok (over_view (λ y. x.2) (over_mine (λ c. record c { staked = x.1 }) w))) new e in
    let two : (v : Validator) × (or_stop (validator_at s operator) NoValidator ≡ Ok v)
    × ((or_stop (delegation s operator operator) NoSelfDelegation >>= λ held. stop_if (nat_lt (trunc_of (value_even_of v.tokens v.shares held)) v.min_self) SelfBelowMinimum >> (stop_if (not v.jailed) NotJailed >> (may_leave w.view.ctx.time (signing_of w.hooks.1 v.cons) >> Ok (freed operator w v)))) ≡ Ok one.0) =
    step_parts (or_stop (validator_at s operator) NoValidator)
    (λ v. or_stop (delegation s operator operator) NoSelfDelegation >>= λ held. stop_if (nat_lt (trunc_of (value_even_of v.tokens v.shares held)) v.min_self) SelfBelowMinimum >> (stop_if (not v.jailed) NotJailed >> (may_leave w.view.ctx.time (signing_of w.hooks.1 v.cons) >> Ok (freed operator w v)))) one.0 one.1 in
    let v : Validator = two.0 in
    let last : Result (⊤ × Staked × View) Refusal = Ok (freed operator w v) in
    let three : (held : ℕ) × (or_stop (delegation s operator operator) NoSelfDelegation ≡ Ok held)
    × ((stop_if (nat_lt (trunc_of (value_even_of v.tokens v.shares held)) v.min_self) SelfBelowMinimum >> (stop_if (not v.jailed) NotJailed >> (may_leave w.view.ctx.time (signing_of w.hooks.1 v.cons) >> last))) ≡ Ok one.0) =
    step_parts (or_stop (delegation s operator operator) NoSelfDelegation)
    (λ held. stop_if (nat_lt (trunc_of (value_even_of v.tokens v.shares held)) v.min_self) SelfBelowMinimum >> (stop_if (not v.jailed) NotJailed >> (may_leave w.view.ctx.time (signing_of w.hooks.1 v.cons) >> last))) one.0 two.2 in
    let went : last ≡ Ok one.0 =
    next_step (may_leave w.view.ctx.time (signing_of w.hooks.1 v.cons)) last one.0
    (next_step (stop_if (not v.jailed) NotJailed) (may_leave w.view.ctx.time (signing_of w.hooks.1 v.cons) >> last) one.0
    (next_step (stop_if (nat_lt (trunc_of (value_even_of v.tokens v.shares three.0)) v.min_self) SelfBelowMinimum) (stop_if (not v.jailed) NotJailed >> (may_leave w.view.ctx.time (signing_of w.hooks.1 v.cons) >> last)) one.0 three.2)) in
    let own : ReachedStays w (freed_state operator w v) = standing_reached w (record v { jailed = false }) v (record { operator = refl; tokens = refl; shares = refl }) (found_own w operator v sound two.1) in
    subst (ReachedStays w) (same_ok (over_view (λ y. one.0.2) (over_mine (λ c. record c { staked = one.0.1 }) w)) new one.2)
    (subst (λ x. ReachedStays w (over_view (λ y. x.2) (over_mine (λ c. record c { staked = x.1 }) w))) (same_ok (freed operator w v) one.0 went) own)

pub standing_messages_keep_reached : StandingMessagesKeepReached
standing_messages_keep_reached = record {
  edits = λ m w sound. if_ok (ReachedStays w) (edit_validator m w) (λ new e. edit_reached m w new sound e);
  unjails = λ operator w sound. if_ok (ReachedStays w) (unjail operator w) (λ new e. unjail_reached operator w new sound e);
}
