-- The messages that delegate, and the mature entries of a block, keep accounts reached.
use Rattle.std.proofs.Common.{◌≡◌, ℕ, ◌==◌, Bool, true, false, List, [], ◌∷◌, refl, sym, subst, ◌∙◌, Some, Result, Ok, if◌then◌else◌, nat_lt, find}
use Rattle.std.specs.Prelude.{⊤}
use Rattle.base_coins.specs.declared.coin.Coin.{Coin}
use Rattle.base_types.specs.declared.status.BondStatus.TheVariants.{Unbonded}
use Rattle.base_shares.specs.Shares.{has_invalid_rate}
use Rattle.base_roles.specs.declared.entities.{UnbondingEntry.UnbondingEntry, Validator.Validator}
use Rattle.base_roles.specs.declared.refusal.Refusal.{Refusal}
use Rattle.base_roles.specs.declared.refusal.Refusal.TheVariants.{WrongDenom, NonPositive, NoValidator, RateInvalid, Jailed, NoEntry, CancelTooMuch}
use Rattle.base_roles.specs.{Staked.{Staked, validator_at}, Flow.{◌>>=◌, ◌>>◌, stop_if, or_stop}, World.{View, World}}
use Rattle.rule_modules.specs.Chain.{Hooks, State, chain_told, staked_in, with_staked}
use Rattle.rule_modules.specs.Delegating.{Origin, wallet, pool, is_wrong, delegated, delegated_by}
use Rattle.rule_modules.specs.{Effects.{delegate, cancel_unbonding}, Sound.IsSound}
use Rattle.rule_modules.specs.Unbondings.{UnbondingLists, entries_of, with_entries, lowered, can_be_cancelled, is_mature, cancelled, completed, paid_back}
use Rattle.law_rewards.specs.{States.{account_in, AreReached}, StateLaws.ReachedStays, Account.IsReached}
use Rattle.law_rewards.specs.Changes.{DelegatingKeepsReached, CancellingKeepsReached, UnbondingsStepKeepsReached, RedelegationsStepKeepsReached}
use Rattle.law_rewards.proofs.{Denominations.step_parts, Beginnings.if_ok, Edits.found_own, Quiet.{same_ok, passed}}
use Rattle.law_rewards.proofs.{Claims.ready_in, Hooked.opened, Growing.delegated_reached}

-- ---- delegating

from_sound : (w : State) (v : Validator) (who operator : List ℕ) (amount : ℕ) (origin : Origin) (x : ℕ × World Staked Hooks) → IsSound w → or_stop (validator_at w.mine.staked operator) NoValidator ≡ Ok v
    → delegated chain_told v who amount origin (staked_in w) ≡ Ok x → AreReached w → AreReached (with_staked w.mine x.1)
from_sound w v who operator amount origin x sound is e reached =
    let found : validator_at w.mine.staked v.operator ≡ Some v = found_own w operator v sound is in
    delegated_reached w v who amount origin x found (λ z told. opened w v who z (ready_in w v.operator sound) found told reached) e

delegate_reached : (who operator : List ℕ) (coin : Coin) (w new : State) → IsSound w → delegate who operator coin w ≡ Ok new → ReachedStays w new
delegate_reached who operator coin w new sound e reached =
    let one : (x : ℕ × World Staked Hooks) × (delegated_by chain_told who operator coin (staked_in w) ≡ Ok x) × (Path (Result State Refusal) (Ok (with_staked w.mine x.1)) (Ok new)) =
    step_parts (delegated_by chain_told who operator coin (staked_in w)) (λ x. Ok (with_staked w.mine x.1)) new e in
    let rest : Result (ℕ × World Staked Hooks) Refusal = or_stop (validator_at w.mine.staked operator) NoValidator >>= λ v. stop_if (is_wrong coin w.view) WrongDenom >> delegated chain_told v who coin.amount wallet (staked_in w) in
    let two : (v : Validator) × (or_stop (validator_at w.mine.staked operator) NoValidator ≡ Ok v) × ((stop_if (is_wrong coin w.view) WrongDenom >> delegated chain_told v who coin.amount wallet (staked_in w)) ≡ Ok one.0) =
    step_parts (or_stop (validator_at w.mine.staked operator) NoValidator) (λ v. stop_if (is_wrong coin w.view) WrongDenom >> delegated chain_told v who coin.amount wallet (staked_in w)) one.0 (passed (coin.amount == 0) NonPositive rest one.0 one.1) in
    subst AreReached (same_ok (with_staked w.mine one.0.1) new one.2)
    (from_sound w two.0 who operator coin.amount wallet one.0 sound two.1 (passed (is_wrong coin w.view) WrongDenom (delegated chain_told two.0 who coin.amount wallet (staked_in w)) one.0 two.2) reached)

-- ---- cancelling

abbrev Cancelled : Type 0
Cancelled = ⊤ × UnbondingLists × World Staked Hooks

cancel_reached : (who operator : List ℕ) (coin : Coin) (height : ℕ) (w new : State) → IsSound w → cancel_unbonding who operator coin height w ≡ Ok new → ReachedStays w new
cancel_reached who operator coin height w new sound e reached =
    let u : UnbondingLists = w.mine.unbondings in
    let one : (x : Cancelled) × (cancelled chain_told who operator coin height u (staked_in w) ≡ Ok x) × (Path (Result State Refusal) (Ok (with_staked (record w.mine { unbondings = x.1 }) x.2)) (Ok new)) =
    step_parts (cancelled chain_told who operator coin height u (staked_in w)) (λ x. Ok (with_staked (record w.mine { unbondings = x.1 }) x.2)) new e in
    let entries : List UnbondingEntry = entries_of u who operator in
    let less : UnbondingLists = with_entries who operator (lowered height w.view.ctx.time coin.amount entries) u in
    let end : Validator → Result Cancelled Refusal = λ v. delegated chain_told v who coin.amount (pool Unbonded) (staked_in w) >>= λ y. Ok (tt, less, y.1) in
    let with_entry : Validator → Result Cancelled Refusal = λ v. or_stop (find (can_be_cancelled height w.view.ctx.time) entries) NoEntry >>= λ a. stop_if (nat_lt a.balance coin.amount) CancelTooMuch >> end v in
    let with_val : Validator → Result Cancelled Refusal = λ v. stop_if (has_invalid_rate v.tokens v.shares) RateInvalid >> (stop_if v.jailed Jailed >> with_entry v) in
    let rest : Result Cancelled Refusal = or_stop (validator_at w.mine.staked operator) NoValidator >>= with_val in
    let two : (v : Validator) × (or_stop (validator_at w.mine.staked operator) NoValidator ≡ Ok v) × (with_val v ≡ Ok one.0) =
    step_parts (or_stop (validator_at w.mine.staked operator) NoValidator) with_val one.0
    (passed (is_wrong coin w.view) WrongDenom rest one.0 (passed (coin.amount == 0) NonPositive (stop_if (is_wrong coin w.view) WrongDenom >> rest) one.0 one.1)) in
    let v : Validator = two.0 in
    let three : (a : UnbondingEntry) × (or_stop (find (can_be_cancelled height w.view.ctx.time) entries) NoEntry ≡ Ok a) × ((stop_if (nat_lt a.balance coin.amount) CancelTooMuch >> end v) ≡ Ok one.0) =
    step_parts (or_stop (find (can_be_cancelled height w.view.ctx.time) entries) NoEntry) (λ a. stop_if (nat_lt a.balance coin.amount) CancelTooMuch >> end v) one.0
    (passed v.jailed Jailed (with_entry v) one.0 (passed (has_invalid_rate v.tokens v.shares) RateInvalid (stop_if v.jailed Jailed >> with_entry v) one.0 two.2)) in
    let four : (y : ℕ × World Staked Hooks) × (delegated chain_told v who coin.amount (pool Unbonded) (staked_in w) ≡ Ok y) × (Path (Result Cancelled Refusal) (Ok (tt, less, y.1)) (Ok one.0)) =
    step_parts (delegated chain_told v who coin.amount (pool Unbonded) (staked_in w)) (λ y. Ok (tt, less, y.1)) one.0 (passed (nat_lt three.0.balance coin.amount) CancelTooMuch (end v) one.0 three.2) in
    let after : AreReached (with_staked w.mine four.0.1) = from_sound w v who operator coin.amount (pool Unbonded) four.0 sound two.1 four.1 reached in
    subst AreReached (same_ok (with_staked (record w.mine { unbondings = one.0.1 }) one.0.2) new one.2)
    (subst (λ y. AreReached (with_staked (record w.mine { unbondings = y.1 }) y.2)) (same_ok (tt, less, four.0.1) one.0 four.2) after)

pub delegating_keeps_reached : DelegatingKeepsReached
delegating_keeps_reached = λ who operator coin w sound. if_ok (ReachedStays w) (delegate who operator coin w) (λ new e. delegate_reached who operator coin w new sound e)

pub cancelling_keeps_reached : CancellingKeepsReached
cancelling_keeps_reached = λ who operator coin height w sound. if_ok (ReachedStays w) (cancel_unbonding who operator coin height w) (λ new e. cancel_reached who operator coin height w new sound e)

-- ---- mature entries

pub either_at : (a b : View) (n : ℕ) (t : Bool) → a.ctx.height ≡ n → b.ctx.height ≡ n → (if t then a else b).ctx.height ≡ n
either_at a b n true p q = p
either_at a b n false p q = q

paid_at : (who : List ℕ) (es : List UnbondingEntry) (v : View) → (paid_back who es v).ctx.height ≡ v.ctx.height
paid_at who [] v = refl
paid_at who (e ∷ es) v = either_at _ _ v.ctx.height (is_mature v.ctx.time e) (paid_at who es _) (paid_at who es v)

completed_at : (u : UnbondingLists) (v : View) → (completed u v).1.ctx.height ≡ v.ctx.height
completed_at [] v = refl
completed_at (p ∷ ps) v = completed_at ps (paid_back p.0.0 p.1 v) ∙ paid_at p.0.0 p.1 v

pub unbondings_step_keeps_reached : UnbondingsStepKeepsReached
unbondings_step_keeps_reached = λ w sound reached d v found.
    subst (λ n. IsReached d (record (account_in d w v) { height = n })) (sym (completed_at w.mine.unbondings w.view)) (reached d v found)

pub redelegations_step_keeps_reached : RedelegationsStepKeepsReached
redelegations_step_keeps_reached = λ w sound reached d v found. reached d v found
