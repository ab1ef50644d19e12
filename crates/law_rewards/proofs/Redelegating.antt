-- Redelegating keeps accounts reached: shares leave the source, whose target still has its records, and come to that.
use Rattle.std.proofs.Common.{◌≡◌, ℕ, ◌≤◌, ◌==◌, Bool, false, List, length, sym, ap, subst, ◌∙◌, Some, Result, Ok, Err, nat_le, is_none}
use Rattle.std.specs.Prelude.{⊤}
use Rattle.base_coins.specs.declared.coin.Coin.{Coin}
use Rattle.base_shares.specs.Shares.{amount_out}
use Rattle.base_roles.specs.declared.{entities.Validator.Validator, refusal.Refusal.Refusal}
use Rattle.base_roles.specs.declared.refusal.Refusal.TheVariants.{WrongDenom, NonPositive, NoValidator, SelfRedelegation, Transitive, RedelegationsFull, TinyRedelegation, Overflow}
use Rattle.base_roles.specs.{Orders.same_addr, Staked.{Staked, validator_at, delegation}}
use Rattle.base_roles.specs.{Flow.{◌>>=◌, ◌>>◌, stop_if, or_stop, stopping}, World.World}
use Rattle.rule_modules.specs.Chain.{Hooks, State, chain_told, staked_in, with_staked}
use Rattle.rule_modules.specs.{Delegating.{is_wrong, pool, shares_given, delegated}, Effects.begin_redelegate}
use Rattle.rule_modules.specs.Redelegations.{RedelegationLists, redelegations_of, is_transitive, begin_info, appended, redelegated}
use Rattle.rule_modules.specs.{Sound.IsSound, Unbonding.{shares_to_unbond, unbonded_shares}}
use Rattle.law_rewards.specs.{States.AreReached, StateLaws.ReachedStays, Changes.RedelegatingKeepsReached}
use Rattle.law_rewards.proofs.{Denominations.step_parts, Beginnings.{found_is, went_on, if_ok, under_own}}
use Rattle.law_rewards.proofs.{Edits.found_own, Quiet.{same_ok, passed}, Hooked.opened}
use Rattle.law_rewards.proofs.{Growing.{not_stopped, apart_back, delegated_reached}, Undelegating.within_held}
use Rattle.law_rewards.proofs.Fits.{AllFits, LeavesFit, fits_sound, ready_fits, unbonded_fits, unbonded_then}

abbrev Redelegated : Type 0
Redelegated = ⊤ × RedelegationLists × World Staked Hooks

-- what is done once nothing refuses
abbrev onward : State → Validator → Validator → List ℕ → List ℕ → List ℕ → ℕ × ℕ → Result Redelegated Refusal
onward w v t who source target p =
    stopping Overflow (unbonded_shares chain_told v who p.0 p.1 (staked_in w)) >>= λ y.
    delegated chain_told t who y.0 (pool v.status) y.1 >>= λ z.
    Ok (tt, appended who source target (begin_info v (is_none (validator_at y.1.mine source)) w.view.ctx) y.0 z.0 w.mine.redelegations, z.1)

onward_reached : (w : State) (v t : Validator) (who source target : List ℕ) (p : ℕ × ℕ) (x : Redelegated) → AllFits w → validator_at w.mine.staked v.operator ≡ Some v → validator_at w.mine.staked t.operator ≡ Some t
    → same_addr t.operator v.operator ≡ false → delegation w.mine.staked who v.operator ≡ Some p.0 → p.1 ≤ p.0 → AreReached w → onward w v t who source target p ≡ Ok x → AreReached (with_staked w.mine x.2)
onward_reached w v t who source target p x f found there apart has within reached e =
    let end : ℕ × World Staked Hooks → ℕ × World Staked Hooks → Redelegated =
    λ y z. (tt, appended who source target (begin_info v (is_none (validator_at y.1.mine source)) w.view.ctx) y.0 z.0 w.mine.redelegations, z.1) in
    let one : (y : ℕ × World Staked Hooks) × (stopping Overflow (unbonded_shares chain_told v who p.0 p.1 (staked_in w)) ≡ Ok y) × ((delegated chain_told t who y.0 (pool v.status) y.1 >>= λ z. Ok (end y z)) ≡ Ok x) =
    step_parts (stopping Overflow (unbonded_shares chain_told v who p.0 p.1 (staked_in w))) (λ y. delegated chain_told t who y.0 (pool v.status) y.1 >>= λ z. Ok (end y z)) x e in
    let y : ℕ × World Staked Hooks = one.0 in
    let m : State = with_staked w.mine y.1 in
    let went : unbonded_shares chain_told v who p.0 p.1 (staked_in w) ≡ Ok y = went_on Overflow (unbonded_shares chain_told v who p.0 p.1 (staked_in w)) y one.1 in
    let after : AreReached m = unbonded_then w v who p.0 p.1 y f found has within reached went in
    let k : LeavesFit w.mine.staked v.operator y.1 = unbonded_fits (staked_in w) v who p.0 p.1 y f found went in
    let still : validator_at m.mine.staked t.operator ≡ Some t = k.others t.operator apart ∙ there in
    let two : (z : ℕ × World Staked Hooks) × (delegated chain_told t who y.0 (pool v.status) y.1 ≡ Ok z) × (Path (Result Redelegated Refusal) (Ok (end y z)) (Ok x)) =
    step_parts (delegated chain_told t who y.0 (pool v.status) y.1) (λ z. Ok (end y z)) x one.2 in
    subst (λ a. AreReached (with_staked w.mine a.2)) (same_ok (end y two.0) x two.2)
    (delegated_reached m t who y.0 (pool v.status) two.0 still (λ z told. opened m t who z (ready_fits m t.operator t k.fits still) still told after) two.1)

next_ok : {A B E : Type 0} (r : Result A E) (next : Result B E) (b : B) → (r >> next) ≡ Ok b → next ≡ Ok b
next_ok (Ok a) next b e = e
next_ok (Err d) next b e = absurd cc

redelegate_reached : (who source target : List ℕ) (coin : Coin) (w new : State) → IsSound w → begin_redelegate who source target coin w ≡ Ok new → ReachedStays w new
redelegate_reached who source target coin w new sound e reached =
    let s : Staked = w.mine.staked in
    let r : RedelegationLists = w.mine.redelegations in
    let one : (x : Redelegated) × (redelegated chain_told who source target coin r (staked_in w) ≡ Ok x) × (Path (Result State Refusal) (Ok (with_staked (record w.mine { redelegations = x.1 }) x.2)) (Ok new)) =
    step_parts (redelegated chain_told who source target coin r (staked_in w)) (λ x. Ok (with_staked (record w.mine { redelegations = x.1 }) x.2)) new e in
    let x : Redelegated = one.0 in
    let full : Bool = nat_le w.view.ctx.params.max_entries (length (redelegations_of r who source target)) in
    let amount : Validator → ℕ × ℕ → ℕ = λ v p. amount_out v.tokens v.shares p.1 in
    let r1 : Validator → ℕ × ℕ → Validator → Result Redelegated Refusal = λ v p t. onward w v t who source target p in
    let r2 : Validator → ℕ × ℕ → Validator → Result Redelegated Refusal = λ v p t. shares_given t (amount v p) >> r1 v p t in
    let r3 : Validator → ℕ × ℕ → Validator → Result Redelegated Refusal = λ v p t. stop_if (amount v p == 0) TinyRedelegation >> r2 v p t in
    let r4 : Validator → ℕ × ℕ → Validator → Result Redelegated Refusal = λ v p t. stop_if full RedelegationsFull >> r3 v p t in
    let r5 : Validator → ℕ × ℕ → Validator → Result Redelegated Refusal = λ v p t. stop_if (is_transitive r who source) Transitive >> r4 v p t in
    let r6 : Validator → ℕ × ℕ → Result Redelegated Refusal = λ v p. or_stop (validator_at s target) NoValidator >>= λ t. r5 v p t in
    let r7 : Validator → ℕ × ℕ → Result Redelegated Refusal = λ v p. stop_if (same_addr source target) SelfRedelegation >> r6 v p in
    let r8 : Validator → ℕ × ℕ → Result Redelegated Refusal = λ v p. stop_if (is_wrong coin w.view) WrongDenom >> r7 v p in
    let r9 : Validator → Result Redelegated Refusal = λ v. shares_to_unbond (delegation s who source) v coin.amount >>= λ p. r8 v p in
    let two : (v : Validator) × (or_stop (validator_at s source) NoValidator ≡ Ok v) × (r9 v ≡ Ok x) =
    step_parts (or_stop (validator_at s source) NoValidator) r9 x (passed (coin.amount == 0) NonPositive (or_stop (validator_at s source) NoValidator >>= r9) x one.1) in
    let v : Validator = two.0 in
    let three : (p : ℕ × ℕ) × (shares_to_unbond (delegation s who source) v coin.amount ≡ Ok p) × (r8 v p ≡ Ok x) = step_parts (shares_to_unbond (delegation s who source) v coin.amount) (r8 v) x two.2 in
    let p : ℕ × ℕ = three.0 in
    let four : r7 v p ≡ Ok x = passed (is_wrong coin w.view) WrongDenom (r7 v p) x three.2 in
    let other : same_addr source target ≡ false = not_stopped (same_addr source target) SelfRedelegation (r6 v p) x four in
    let five : (t : Validator) × (or_stop (validator_at s target) NoValidator ≡ Ok t) × (r5 v p t ≡ Ok x) =
    step_parts (or_stop (validator_at s target) NoValidator) (r5 v p) x (passed (same_addr source target) SelfRedelegation (r6 v p) x four) in
    let t : Validator = five.0 in
    let six : r2 v p t ≡ Ok x =
    passed (amount v p == 0) TinyRedelegation (r2 v p t) x (passed full RedelegationsFull (r3 v p t) x (passed (is_transitive r who source) Transitive (r4 v p t) x five.2)) in
    let own : source ≡ v.operator = under_own w source v sound (found_is (validator_at s source) NoValidator v two.1) in
    let target_own : target ≡ t.operator = under_own w target t sound (found_is (validator_at s target) NoValidator t five.1) in
    let apart : same_addr t.operator v.operator ≡ false = (λ i. same_addr (sym target_own i) (sym own i)) ∙ apart_back source target other in
    let held : (delegation s who source ≡ Some p.0) × (p.1 ≤ p.0) = within_held (delegation s who source) v coin.amount p three.1 in
    let after : AreReached (with_staked w.mine x.2) =
    onward_reached w v t who source target p x (fits_sound w sound) (found_own w source v sound two.1) (found_own w target t sound five.1) apart (ap (λ o. delegation s who o) (sym own) ∙ held.0) held.1 reached
    (next_ok (shares_given t (amount v p)) (r1 v p t) x six) in
    subst AreReached (same_ok (with_staked (record w.mine { redelegations = x.1 }) x.2) new one.2) after

pub redelegating_keeps_reached : RedelegatingKeepsReached
redelegating_keeps_reached = λ who source target coin w sound. if_ok (ReachedStays w) (begin_redelegate who source target coin w) (λ new e. redelegate_reached who source target coin w new sound e)
