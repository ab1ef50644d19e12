-- Unbonding shares, and the message that undelegates, keep accounts reached.
use Rattle.std.proofs.Common.{◌≡◌, ℕ, ◌+◌, ◌-◌, ◌<◌, ◌≤◌, ◌==◌, Bool, true, false, List, [], length, refl, arith, sym, ap, subst, ◌∙◌, Option, Some, Result, Ok, unwrap_or, ◌||◌, if◌then◌else◌, nat_lt, nat_le, slice_get}
use Rattle.std.specs.{List.Sorted.IsStrictlySortedBy, Map.keys_of, BTreeMap.is_at}
use Rattle.std.proofs.lemmas.{Bool.Decides.nat_tests, List.Elements.recursion_from_All, Map.Entries.place_from_lookup}
use Rattle.base_decimals.specs.declared.over.Over.{Over}
use Rattle.base_types.specs.declared.account.Account.TheVariants as account
use Rattle.base_types.specs.declared.account.Module.TheVariants as holder
use Rattle.base_types.specs.Orders.{addr_cmp}
use Rattle.base_coins.specs.declared.coin.Coin.{Coin}
use Rattle.base_shares.specs.Shares.{amount_out, shares_for_amount}
use Rattle.base_roles.specs.declared.entities.{UnbondingEntry.UnbondingEntry, Validator.Validator}
use Rattle.base_roles.specs.declared.refusal.Refusal.{Refusal}
use Rattle.base_roles.specs.declared.refusal.Refusal.TheVariants.{WrongDenom, NonPositive, NoValidator, NoDelegation, NoTokens, TooManyShares, UnbondingsFull, Overflow}
use Rattle.base_roles.specs.{Log.Log, Orders.{pair_cmp, same_addr}}
use Rattle.base_roles.specs.Staked.{Staked, validator_at, delegation, put_validator, is_bonded}
use Rattle.base_roles.specs.Flow.{◌>>=◌, ◌>>◌, stop_if, or_stop, stopping}
use Rattle.base_roles.specs.World.{View, gives, World, call, sent, noted, over_view, over_mine, logged}
use Rattle.base_roles.specs.declared.calls.Hook.TheVariants.{Modifying as modifying, Modified as modified}
use Rattle.base_roles.specs.declared.facts.Fact.TheVariants as fact
use Rattle.base_roles.specs.Log as log
use Rattle.rule_modules.{proofs.{EntryLemmas.ascend-put, OrderLemmas.addr_total}, specs.Amounts.bond_coins}
use Rattle.rule_modules.specs.Chain.{Hooks, State, chain_told, staked_in, with_staked}
use Rattle.rule_modules.specs.{Delegating.{is_wrong, hook_before}, Distribution.{Shared, distribution_told}}
use Rattle.rule_modules.specs.{Effects.undelegate, Sound.IsSound, Stakes.{put_delegation, without_shares}}
use Rattle.rule_modules.specs.Unbonding.{shares_to_unbond, put_in_jail, falls_below_minimum, left_standing, unbonded_shares, removed_if_empty}
use Rattle.rule_modules.specs.Unbondings.{UnbondingLists, entries_of, with_entries, grown, completion, undelegated}
use Rattle.law_rewards.specs.{Account.{IsReached, counted_shares}, States.{account_in, AreReached}}
use Rattle.law_rewards.{specs.{StateLaws.ReachedStays, Changes.UndelegatingKeepsReached}, proofs.Lists.all_at}
use Rattle.law_rewards.proofs.{Denominations.step_parts, Entries.{addr_is, put_there, put_elsewhere}, Endings.same_some}
use Rattle.law_rewards.proofs.{Beginnings.{state_begun, found_is, went_on, if_ok, under_own}, Edits.found_own}
use Rattle.law_rewards.proofs.{Quiet.{same_ok, passed}, Claims.ready_in}
use Rattle.law_rewards.proofs.Hooked.{hook_gave, call_parts, IsOpen, HasOpened, state_told, opened}
use Rattle.law_rewards.proofs.Growing.{over_stake, start_told, not_stopped}
use Rattle.law_rewards.proofs.Leaving.{MayLeave, less_of, state_less, less_reached, none_left, some_left, emptied_reached}

-- ---- behind the hook

-- what is left of the delegation, as a state from which the part may leave
record LeftStanding (x : State) (v : Validator) (part : ℕ) (y : World Staked Hooks) : Type 0 where
  state : State
  may : MayLeave state v part
  is : staked_in state ≡ y
  validators : state.mine.staked.validators ≡ x.mine.staked.validators

left_is : (x : State) (v : Validator) (j : Bool) (who : List ℕ) (held part : ℕ) (y : World Staked Hooks) → validator_at x.mine.staked v.operator ≡ Some v → ((d : List ℕ) → IsOpen d x v who held) → part ≤ held → AreReached x
    → left_standing chain_told (record v { jailed = j }) who (held - part) (staked_in x) ≡ Ok y → LeftStanding x v part y
left_is x v j who held part y found k within reached e = by (held - part == 0) refl e
  where
    left : ℕ
    left = held - part

    positive : (n : ℕ) → (n == 0) ≡ false → 0 < n
    positive n h = grind (arith, nat_tests)

    by : (b : Bool) → (left == 0) ≡ b
        → (if b then Ok (over_mine (without_shares who v.operator) (staked_in x)) else call chain_told (modified (record v { jailed = j }) who left) (over_mine (put_delegation who v.operator left) (staked_in x))) ≡ Ok y
        → LeftStanding x v part y
    by true is h = record {
      state = over_stake x (without_shares who v.operator x.mine.staked) x.view;
      may = none_left x v who held part found k within reached;
      is = same_ok (over_mine (without_shares who v.operator) (staked_in x)) y h;
      validators = refl;
    }
    by false is h = record {
      state = state_begun (over_stake x (put_delegation who v.operator left x.mine.staked) x.view) v who left;
      may = some_left x v who held part left found k (omega (arith, within)) (positive left is) reached;
      is = start_told (record v { jailed = j }) who left (over_mine (put_delegation who v.operator left) (staked_in x)) y h;
      validators = refl;
    }

abbrev pub left_then : Validator → Bool → ℕ → World Staked Hooks → Result (ℕ × World Staked Hooks) Over
left_then v j part w2 = removed_if_empty chain_told (less_of v j part) (logged v.operator log.left (over_mine (put_validator (less_of v j part)) w2)) >>= λ w3. Ok (amount_out v.tokens v.shares part, w3)

abbrev pub leaving : Validator → Bool → List ℕ → ℕ → ℕ → World Staked Hooks → Result (ℕ × World Staked Hooks) Over
leaving v j who held part w1 = left_standing chain_told (record v { jailed = j }) who (held - part) w1 >>= λ w2. left_then v j part w2

leaving_reached : (x : State) (v : Validator) (j : Bool) (who : List ℕ) (held part : ℕ) (y : ℕ × World Staked Hooks) → validator_at x.mine.staked v.operator ≡ Some v → ((d : List ℕ) → IsOpen d x v who held) → 0 < held → part ≤ held
    → IsStrictlySortedBy addr_cmp (keys_of x.mine.staked.validators) → AreReached x → leaving v j who held part (staked_in x) ≡ Ok y → AreReached (with_staked x.mine y.1)
leaving_reached x v j who held part y found k some within ascend reached e =
    let one : (w2 : World Staked Hooks) × (left_standing chain_told (record v { jailed = j }) who (held - part) (staked_in x) ≡ Ok w2) × (left_then v j part w2 ≡ Ok y) =
    step_parts (left_standing chain_told (record v { jailed = j }) who (held - part) (staked_in x)) (λ w2. left_then v j part w2) y e in
    let left : LeftStanding x v part one.0 = left_is x v j who held part one.0 found k within reached one.1 in
    let rest : left_then v j part (staked_in left.state) ≡ Ok y = subst (λ w2. left_then v j part w2 ≡ Ok y) (sym left.is) one.2 in
    let z : State = state_less left.state v j part in
    let two : (w3 : World Staked Hooks) × (removed_if_empty chain_told (less_of v j part) (staked_in z) ≡ Ok w3) × (Path (Result (ℕ × World Staked Hooks) Over) (Ok (amount_out v.tokens v.shares part, w3)) (Ok y)) =
    step_parts (removed_if_empty chain_told (less_of v j part) (staked_in z)) (λ w3. Ok (amount_out v.tokens v.shares part, w3)) y rest in
    let room : (account_in [] x v).current ≡ 0 = (k []).none in
    let most : 0 < v.shares = shares_some (counted [] x v) held v.shares (k []).within some in
    let sorted : IsStrictlySortedBy addr_cmp (keys_of z.mine.staked.validators) =
    ascend-put addr_cmp addr_total left.state.mine.staked.validators v.operator (less_of v j part) (subst (λ vs. IsStrictlySortedBy addr_cmp (keys_of vs)) (sym left.validators) ascend) in
    let after : AreReached (with_staked z.mine two.0) = emptied_reached z (less_of v j part) two.0 sorted (less_reached left.state v j part left.may most) two.1 in
    subst (λ a. AreReached (with_staked x.mine a)) (ap (λ a. a.1) (same_ok (amount_out v.tokens v.shares part, two.0) y two.2)) after
  where
    counted : List ℕ → State → Validator → ℕ
    counted d s u = counted_shares (account_in d s u)

    shares_some : (c h n : ℕ) → c + h ≤ n → 0 < h → 0 < n
    shares_some c h n l s = omega (arith, l, s)

-- ---- jailing

jailed_at : (x : State) (v u : Validator) → AreReached x → validator_at x.mine.staked v.operator ≡ Some v → (d : List ℕ) → validator_at (put_validator (record v { jailed = true }) x.mine.staked) u.operator ≡ Some u → (b : Bool)
    → same_addr u.operator v.operator ≡ b → IsReached d (account_in d (over_stake x (put_validator (record v { jailed = true }) x.mine.staked) (noted (fact.Jailed v.operator) x.view)) u)
jailed_at x v u reached found d there true is =
    let t : Staked = put_validator (record v { jailed = true }) x.mine.staked in
    let now : Validator = record v { jailed = true } in
    let one : u ≡ now = same_some u now (validator_at t u.operator) (validator_at t v.operator) there (put_there v.operator now x.mine.staked.validators) (ap (λ o. validator_at t o) (addr_is u.operator v.operator is)) in
    subst (λ y. IsReached d (account_in d (over_stake x t (noted (fact.Jailed v.operator) x.view)) y)) (sym one) (reached d v found)
jailed_at x v u reached found d there false is = reached d u (sym (put_elsewhere v.operator u.operator (record v { jailed = true }) x.mine.staked.validators is) ∙ there)

-- what the hook before a delegation of so many shares leaves
abbrev pub OpensOld : State → Validator → List ℕ → ℕ → Type 0
OpensOld w v who held = (z : Shared × View × Log) → distribution_told w.hooks.0 (modifying v who held) w.view ≡ gives z.0 z.1 z.2 → HasOpened w v who z

by_falls : (x : State) (v : Validator) (who : List ℕ) (held part : ℕ) (y : ℕ × World Staked Hooks) → validator_at x.mine.staked v.operator ≡ Some v → ((d : List ℕ) → IsOpen d x v who held) → 0 < held → part ≤ held
    → IsStrictlySortedBy addr_cmp (keys_of x.mine.staked.validators) → AreReached x → (b : Bool) → leaving v (v.jailed || b) who held part (if b then put_in_jail v (staked_in x) else staked_in x) ≡ Ok y → AreReached (with_staked x.mine y.1)
by_falls x v who held part y found k some within ascend reached true e =
    let now : Validator = record v { jailed = true } in
    leaving_reached (over_stake x (put_validator now x.mine.staked) (noted (fact.Jailed v.operator) x.view)) now (v.jailed || true) who held part y (put_there v.operator now x.mine.staked.validators)
    (λ d. record { none = (k d).none; within = (k d).within; apart = (k d).apart }) some within (ascend-put addr_cmp addr_total x.mine.staked.validators v.operator now ascend)
    (λ d u there. jailed_at x v u reached found d there (same_addr u.operator v.operator) refl) e
by_falls x v who held part y found k some within ascend reached false e = leaving_reached x v (v.jailed || false) who held part y found k some within ascend reached e

pub unbonded_reached : (w : State) (v : Validator) (who : List ℕ) (held part : ℕ) (y : ℕ × World Staked Hooks) → validator_at w.mine.staked v.operator ≡ Some v → delegation w.mine.staked who v.operator ≡ Some held → 0 < held → part ≤ held
    → IsStrictlySortedBy addr_cmp (keys_of w.mine.staked.validators) → OpensOld w v who held → unbonded_shares chain_told v who held part (staked_in w) ≡ Ok y → AreReached (with_staked w.mine y.1)
unbonded_reached w v who held part y found has some within ascend opens e =
    let falls : Bool = falls_below_minimum v who (held - part) in
    let rest : World Staked Hooks → Result (ℕ × World Staked Hooks) Over = λ w1. leaving v (v.jailed || falls) who held part (if falls then put_in_jail v w1 else w1) in
    let one : (w1 : World Staked Hooks) × (call chain_told (modifying v who held) (staked_in w) ≡ Ok w1) × (rest w1 ≡ Ok y) = step_parts (call chain_told (modifying v who held) (staked_in w)) rest y e in
    let told : (z : Shared × View × Log) × (distribution_told w.hooks.0 (modifying v who held) w.view ≡ gives z.0 z.1 z.2) × (hook_gave (staked_in w) z ≡ one.0) = call_parts (modifying v who held) (staked_in w) one.0 (λ u. refl) one.1 in
    let k : HasOpened w v who told.0 = opens told.0 told.1 in
    by_falls (state_told w told.0) v who held part y found (λ d. subst (λ o. IsOpen d (state_told w told.0) v who (unwrap_or o 0)) has (k.ready d)) some within ascend k.reached falls
    (subst (λ w1. rest w1 ≡ Ok y) (sym told.2) one.2)

-- ---- the message

-- the shares that are unbonded are among those that the delegation has
pub within_held : (held : Option ℕ) (v : Validator) (amount : ℕ) (x : ℕ × ℕ) → shares_to_unbond held v amount ≡ Ok x → (held ≡ Some x.0) × (x.1 ≤ x.0)
within_held held v amount x e =
    let last : ℕ → ℕ → Result (ℕ × ℕ) Refusal = λ all part. stop_if (nat_lt all part) TooManyShares >> Ok (all, part) in
    let with_part : ℕ → Result (ℕ × ℕ) Refusal = λ all. stopping (λ fault. TooManyShares) (shares_for_amount v.tokens v.shares amount) >>= λ part. last all part in
    let one : (all : ℕ) × (or_stop held NoDelegation ≡ Ok all) × ((stop_if (v.tokens == 0) NoTokens >> with_part all) ≡ Ok x) =
    step_parts (or_stop held NoDelegation) (λ all. stop_if (v.tokens == 0) NoTokens >> with_part all) x e in
    let two : (part : ℕ) × (stopping (λ fault. TooManyShares) (shares_for_amount v.tokens v.shares amount) ≡ Ok part) × (last one.0 part ≡ Ok x) =
    step_parts (stopping (λ fault. TooManyShares) (shares_for_amount v.tokens v.shares amount)) (last one.0) x (passed (v.tokens == 0) NoTokens (with_part one.0) x one.2) in
    let same : (one.0, two.0) ≡ x = same_ok (one.0, two.0) x (passed (nat_lt one.0 two.0) TooManyShares (Ok (one.0, two.0)) x two.2) in
    subst (λ p. (held ≡ Some p.0) × (p.1 ≤ p.0)) same (found_is held NoDelegation one.0 one.1, at_most one.0 two.0 (not_stopped (nat_lt one.0 two.0) TooManyShares (Ok (one.0, two.0)) x two.2))
  where
    at_most : (a n : ℕ) → nat_lt a n ≡ false → n ≤ a
    at_most a n h = grind (arith, nat_tests)

-- a delegation has shares
pub has_some : (w : State) (who operator : List ℕ) (held : ℕ) → IsSound w → delegation w.mine.staked who operator ≡ Some held → 0 < held
has_some w who operator held sound has =
    let place : (i : ℕ) × (k : List ℕ × List ℕ) × (slice_get w.mine.staked.delegations i ≡ Some (k, held)) × (is_at (pair_cmp (operator, who)) k ≡ true) = place_from_lookup (is_at (pair_cmp (operator, who))) w.mine.staked.delegations held has in
    all_at (λ e. 0 < e.1) place.0 (place.1, held) w.mine.staked.delegations place.2 (recursion_from_All (λ e. 0 < e.1) w.mine.staked.delegations sound.staked.positive)

-- from a sound state
pub from_sound : (w : State) (v : Validator) (who operator : List ℕ) (held part : ℕ) (y : ℕ × World Staked Hooks) → IsSound w → or_stop (validator_at w.mine.staked operator) NoValidator ≡ Ok v
    → delegation w.mine.staked who operator ≡ Some held → part ≤ held → unbonded_shares chain_told v who held part (staked_in w) ≡ Ok y → AreReached w → AreReached (with_staked w.mine y.1)
from_sound w v who operator held part y sound is has within e reached =
    let found : validator_at w.mine.staked v.operator ≡ Some v = found_own w operator v sound is in
    let own : operator ≡ v.operator = under_own w operator v sound (found_is (validator_at w.mine.staked operator) NoValidator v is) in
    let has_own : delegation w.mine.staked who v.operator ≡ Some held = ap (λ o. delegation w.mine.staked who o) (sym own) ∙ has in
    unbonded_reached w v who held part y found has_own (has_some w who operator held sound has) within sound.staked.validators_ascend
    (λ z told. opened w v who z (ready_in w v.operator sound) found (ap (λ o. distribution_told w.hooks.0 (hook_before v who o) w.view) has_own ∙ told) reached) e

abbrev Undelegated : Type 0
Undelegated = ℕ × UnbondingLists × World Staked Hooks

abbrev moved_out : State → Validator → ℕ → World Staked Hooks → World Staked Hooks
moved_out w v out w1 = if is_bonded v.status then over_view (sent (account.Module holder.Bonded) (account.Module holder.NotBonded) (bond_coins w.view out)) w1 else w1

moved_reached : (w : State) (v : Validator) (out : ℕ) (w1 : World Staked Hooks) → AreReached (with_staked w.mine w1) → AreReached (with_staked w.mine (moved_out w v out w1))
moved_reached w v out w1 reached = by (is_bonded v.status)
  where
    by : (b : Bool) → AreReached (with_staked w.mine (if b then over_view (sent (account.Module holder.Bonded) (account.Module holder.NotBonded) (bond_coins w.view out)) w1 else w1))
    by true = λ d u there. reached d u there
    by false = reached

undelegate_reached : (who operator : List ℕ) (coin : Coin) (w new : State) → IsSound w → undelegate who operator coin w ≡ Ok new → ReachedStays w new
undelegate_reached who operator coin w new sound e reached =
    let u : UnbondingLists = w.mine.unbondings in
    let entries : List UnbondingEntry = entries_of u who operator in
    let one : (x : Undelegated) × (undelegated chain_told who operator coin u (staked_in w) ≡ Ok x) × (Path (Result State Refusal) (Ok (with_staked (record w.mine { unbondings = x.1 }) x.2)) (Ok new)) =
    step_parts (undelegated chain_told who operator coin u (staked_in w)) (λ x. Ok (with_staked (record w.mine { unbondings = x.1 }) x.2)) new e in
    let end : Validator → ℕ × World Staked Hooks → Undelegated = λ v y. (completion w.view.ctx, with_entries who operator (grown w.view.ctx.height (completion w.view.ctx) y.0 entries) u, moved_out w v y.0 y.1) in
    let unbond : Validator → ℕ × ℕ → Result Undelegated Refusal = λ v p. stopping Overflow (unbonded_shares chain_told v who p.0 p.1 (staked_in w)) >>= λ y. Ok (end v y) in
    let judged : Validator → ℕ × ℕ → Result Undelegated Refusal = λ v p. stop_if (is_wrong coin w.view) WrongDenom >> (stop_if (nat_le w.view.ctx.params.max_entries (length entries)) UnbondingsFull >> unbond v p) in
    let with_val : Validator → Result Undelegated Refusal = λ v. shares_to_unbond (delegation w.mine.staked who operator) v coin.amount >>= λ p. judged v p in
    let two : (v : Validator) × (or_stop (validator_at w.mine.staked operator) NoValidator ≡ Ok v) × (with_val v ≡ Ok one.0) =
    step_parts (or_stop (validator_at w.mine.staked operator) NoValidator) with_val one.0 (passed (coin.amount == 0) NonPositive (or_stop (validator_at w.mine.staked operator) NoValidator >>= with_val) one.0 one.1) in
    let v : Validator = two.0 in
    let three : (p : ℕ × ℕ) × (shares_to_unbond (delegation w.mine.staked who operator) v coin.amount ≡ Ok p) × (judged v p ≡ Ok one.0) =
    step_parts (shares_to_unbond (delegation w.mine.staked who operator) v coin.amount) (judged v) one.0 two.2 in
    let p : ℕ × ℕ = three.0 in
    let four : (y : ℕ × World Staked Hooks) × (stopping Overflow (unbonded_shares chain_told v who p.0 p.1 (staked_in w)) ≡ Ok y) × (Path (Result Undelegated Refusal) (Ok (end v y)) (Ok one.0)) =
    step_parts (stopping Overflow (unbonded_shares chain_told v who p.0 p.1 (staked_in w))) (λ y. Ok (end v y)) one.0
    (passed (nat_le w.view.ctx.params.max_entries (length entries)) UnbondingsFull (unbond v p) one.0 (passed (is_wrong coin w.view) WrongDenom (stop_if (nat_le w.view.ctx.params.max_entries (length entries)) UnbondingsFull >> unbond v p) one.0 three.2)) in
    let held : (delegation w.mine.staked who operator ≡ Some p.0) × (p.1 ≤ p.0) = within_held (delegation w.mine.staked who operator) v coin.amount p three.1 in
    let after : AreReached (with_staked w.mine four.0.1) =
    from_sound w v who operator p.0 p.1 four.0 sound two.1 held.0 held.1 (went_on Overflow (unbonded_shares chain_told v who p.0 p.1 (staked_in w)) four.0 four.1) reached in
    subst AreReached (same_ok (with_staked (record w.mine { unbondings = one.0.1 }) one.0.2) new one.2)
    (subst (λ x. AreReached (with_staked (record w.mine { unbondings = x.1 }) x.2)) (same_ok (end v four.0) one.0 four.2) (moved_reached w v four.0.0 four.0.1 after))

pub undelegating_keeps_reached : UndelegatingKeepsReached
undelegating_keeps_reached = λ who operator coin w sound. if_ok (ReachedStays w) (undelegate who operator coin w) (λ new e. undelegate_reached who operator coin w new sound e)
