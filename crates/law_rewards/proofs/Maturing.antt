-- Validators whose unbonding is mature keep accounts reached: they are unbonded, and go where they have no shares.
use Rattle.std.proofs.Common.{◌≡◌, ℕ, ◌==◌, Bool, true, false, cond, List, [], ◌∷◌, refl, sym, ap, subst, ◌∙◌, Some, Result, Ok, ◌&&◌, if◌then◌else◌, nat_le, Less}
use Rattle.std.specs.{List.{AllByRecursion, Sorted.IsStrictlySortedBy}, Map.{keys_of, values_of, remove_entry}}
use Rattle.std.{specs.BTreeMap.is_at, proofs.lemmas.List.Elements.recursion_from_All}
use Rattle.base_decimals.specs.declared.over.Over.{Over}
use Rattle.base_types.specs.{declared.status.BondStatus.TheVariants.Unbonded, Orders.addr_cmp}
use Rattle.base_roles.specs.{declared.entities.Validator.Validator, Log.Log, Orders.same_addr}
use Rattle.base_roles.specs.{Staked.{Staked, validator_at, put_validator, is_unbonded}, Flow.each}
use Rattle.base_roles.specs.World.{View, World, Told, gives, call, noted, over_view, over_mine}
use Rattle.base_roles.specs.declared.facts.Fact.TheVariants as fact
use Rattle.base_roles.specs.declared.calls.Hook.TheVariants as hook
use Rattle.rule_modules.proofs.{EntryLemmas.ascend-put, OperatorLemmas.values_own, OrderLemmas.addr_total}
use Rattle.rule_modules.specs.BondedSet.{HaveOwnOperators, matured, validators_matured}
use Rattle.rule_modules.specs.Chain.{Hooks, State, chain_told, staked_in, with_staked, maturing_step}
use Rattle.rule_modules.specs.{Distribution.{Shared, distribution_told}, Sound.IsSound}
use Rattle.rule_modules.specs.Stakes.{changed, is_unbonding, without_validator}
use Rattle.rule_modules.specs.Unbonding.{removed_if_empty, validator_removed}
use Rattle.law_rewards.specs.{States.AreReached, StateLaws.ReachedStays, Changes.MaturingKeepsReached}
use Rattle.law_rewards.proofs.{Denominations.step_parts, Entries.put_elsewhere, Beginnings.if_ok}
use Rattle.law_rewards.proofs.{Edits.{state_with, standing_reached}, Quiet.same_ok, Hooked.{hook_gave, call_parts}}
use Rattle.law_rewards.proofs.{Growing.apart_back, Leaving.{addr_taken, emptied_reached}, Bonding.{IsKnown, all_known}}

-- ---- keys stay in order

below_taken : {X : Type 0} (q : List ℕ) (test : List ℕ → Bool) (es : List (List ℕ × X)) → AllByRecursion (λ k. addr_cmp q k ≡ Less) (keys_of es) → AllByRecursion (λ k. addr_cmp q k ≡ Less) (keys_of (remove_entry test es))
below_taken q test [] h = tt
below_taken q test (e ∷ es) h = below_step (test e.0) (below_taken q test es h.1)
  where
    below_step : (b : Bool) → AllByRecursion (λ k. addr_cmp q k ≡ Less) (keys_of (remove_entry test es)) → AllByRecursion (λ k. addr_cmp q k ≡ Less) (keys_of (cond b es (e ∷ remove_entry test es)))
    below_step true r = h.1
    below_step false r = (h.0, r)

ascend_taken : {X : Type 0} (k : List ℕ) (es : List (List ℕ × X)) → IsStrictlySortedBy addr_cmp (keys_of es) → IsStrictlySortedBy addr_cmp (keys_of (remove_entry (is_at (addr_cmp k)) es))
unfolding IsStrictlySortedBy
ascend_taken k [] s = s
ascend_taken k (e ∷ es) s = taken_step (is_at (addr_cmp k) e.0) (ascend_taken k es s.1)
  where
    taken_step : (b : Bool) → IsStrictlySortedBy addr_cmp (keys_of (remove_entry (is_at (addr_cmp k)) es)) → IsStrictlySortedBy addr_cmp (keys_of (cond b es (e ∷ remove_entry (is_at (addr_cmp k)) es)))
    taken_step true r = s.1
    taken_step false r = (below_taken e.0 (is_at (addr_cmp k)) es s.0, r)

-- ---- one validator after another

-- the validators that come stand as they did
record AreLeft (x : State) (vs : List Validator) : Type 0 where
  reached : AreReached x
  ascend : IsStrictlySortedBy addr_cmp (keys_of x.mine.staked.validators)
  known : AllByRecursion (IsKnown x) vs

-- what removal leaves of validators and delegations
emptied_mine : (x : State) (v : Validator) (y : World Staked Hooks) → removed_if_empty chain_told v (staked_in x) ≡ Ok y → (b : Bool) × (y.mine ≡ (if b then without_validator v.operator x.mine.staked else x.mine.staked))
emptied_mine x v y e = by_empty (is_unbonded v.status && (v.shares == 0)) e
  where
    by_empty : (b : Bool) → (if b then validator_removed chain_told v (staked_in x) else Ok (staked_in x)) ≡ Ok y → (c : Bool) × (y.mine ≡ (if c then without_validator v.operator x.mine.staked else x.mine.staked))
    by_empty false h = (false, ap (λ t. t.mine) (sym (same_ok (staked_in x) y h)))
    by_empty true h =
        let w : World Staked Hooks = over_mine (without_validator v.operator) (staked_in x) in
        let one : (t : World Staked Hooks) × (call chain_told (hook.Removed v) w ≡ Ok t) × (Path (Result (World Staked Hooks) Over) (Ok (over_view (noted (fact.Removed v.operator)) t)) (Ok y)) =
        step_parts (call chain_told (hook.Removed v) w) (λ t. Ok (over_view (noted (fact.Removed v.operator)) t)) y h in
        let told : (z : Shared × View × Log) × (distribution_told x.hooks.0 (hook.Removed v) x.view ≡ gives z.0 z.1 z.2) × (hook_gave w z ≡ one.0) = call_parts (hook.Removed v) w one.0 (λ u. refl) one.1 in
        (true, ap (λ t. t.mine) (sym (same_ok (over_view (noted (fact.Removed v.operator)) one.0) y one.2)) ∙ ap (λ t. t.mine) (sym told.2))

known_kept : (s : Staked) (op : List ℕ) (vs : List Validator) → AllByRecursion (λ u. same_addr op u.operator ≡ false) vs → AllByRecursion (λ u. validator_at s u.operator ≡ Some u) vs → (b : Bool)
    → AllByRecursion (λ u. validator_at (if b then without_validator op s else s) u.operator ≡ Some u) vs
known_kept s op vs apart known false = known
known_kept s op [] apart known true = tt
known_kept s op (u ∷ vs) apart known true = (addr_taken op u.operator s.validators (apart_back op u.operator apart.0) ∙ known.0, known_kept s op vs apart.1 known.1 true)

known_put : (s : Staked) (new : Validator) (vs : List Validator) → AllByRecursion (λ u. same_addr new.operator u.operator ≡ false) vs → AllByRecursion (λ u. validator_at s u.operator ≡ Some u) vs
    → AllByRecursion (λ u. validator_at (put_validator new s) u.operator ≡ Some u) vs
known_put s new [] apart known = tt
known_put s new (u ∷ vs) apart known = (put_elsewhere new.operator u.operator new s.validators (apart_back new.operator u.operator apart.0) ∙ known.0, known_put s new vs apart.1 known.1)

ascend_kept : (s : Staked) (op : List ℕ) → IsStrictlySortedBy addr_cmp (keys_of s.validators) → (b : Bool) → IsStrictlySortedBy addr_cmp (keys_of (if b then without_validator op s else s).validators)
ascend_kept s op a true = ascend_taken op s.validators a
ascend_kept s op a false = a

unbonded_left : (w : State) (v : Validator) (vs : List Validator) (y z : World Staked Hooks) → AllByRecursion (λ u. same_addr v.operator u.operator ≡ false) vs → AreLeft (with_staked w.mine y) (v ∷ vs)
    → removed_if_empty chain_told (record v { status = Unbonded }) (changed v Unbonded y) ≡ Ok z → AreLeft (with_staked w.mine z) vs
unbonded_left w v vs y z apart k e =
    let new : Validator = record v { status = Unbonded } in
    let x : State = with_staked w.mine y in
    let now : AreReached (state_with x new) = standing_reached x new v (record { operator = refl; tokens = refl; shares = refl }) k.known.0 k.reached in
    let c : State = with_staked w.mine (changed v Unbonded y) in
    let reached : AreReached c = λ d u there. now d u there in
    let ascend : IsStrictlySortedBy addr_cmp (keys_of c.mine.staked.validators) = ascend-put addr_cmp addr_total y.mine.validators v.operator new k.ascend in
    let known : AllByRecursion (λ u. validator_at c.mine.staked u.operator ≡ Some u) vs = known_put y.mine new vs apart k.known.1 in
    let m : (b : Bool) × (z.mine ≡ (if b then without_validator v.operator c.mine.staked else c.mine.staked)) = emptied_mine c new z e in record {
      reached = emptied_reached c new z ascend reached e;
      ascend = subst (λ s. IsStrictlySortedBy addr_cmp (keys_of s.validators)) (sym m.1) (ascend_kept c.mine.staked v.operator ascend m.0);
      known = subst (λ s. AllByRecursion (λ u. validator_at s u.operator ≡ Some u) vs) (sym m.1) (known_kept c.mine.staked v.operator vs apart known m.0);
    }

matured_left : (w : State) (v : Validator) (vs : List Validator) (y z : World Staked Hooks) → AllByRecursion (λ u. same_addr v.operator u.operator ≡ false) vs → AreLeft (with_staked w.mine y) (v ∷ vs)
    → matured chain_told v y ≡ Ok z → AreLeft (with_staked w.mine z) vs
matured_left w v vs y z apart k e = by_time (is_unbonding v.status && nat_le v.unbonding_time y.view.ctx.time) e
  where
    by_time : (b : Bool) → (if b then removed_if_empty chain_told (record v { status = Unbonded }) (changed v Unbonded y) else Ok y) ≡ Ok z → AreLeft (with_staked w.mine z) vs
    by_time true h = unbonded_left w v vs y z apart k h
    by_time false h = subst (λ t. AreLeft (with_staked w.mine t) vs) (same_ok y z h) (record { reached = k.reached; ascend = k.ascend; known = k.known.1 })

all_matured : (w : State) (vs : List Validator) (y z : World Staked Hooks) → HaveOwnOperators vs → AreLeft (with_staked w.mine y) vs → each (matured chain_told) vs y ≡ Ok z → AreReached (with_staked w.mine z)
all_matured w [] y z apart k e = subst (λ t. AreReached (with_staked w.mine t)) (same_ok y z e) k.reached
all_matured w (v ∷ vs) y z apart k e =
    let a : (t : World Staked Hooks) × (matured chain_told v y ≡ Ok t) × (each (matured chain_told) vs t ≡ Ok z) = step_parts (matured chain_told v y) (λ t. each (matured chain_told) vs t) z e in
    all_matured w vs a.0 z apart.1 (matured_left w v vs y a.0 apart.0 k a.1) a.2

maturing_reached : (w new : State) → IsSound w → maturing_step w ≡ Ok new → ReachedStays w new
maturing_reached w new sound e reached =
    let vs : List Validator = values_of w.mine.staked.validators in
    let one : (y : World Staked Hooks) × (validators_matured chain_told (staked_in w) ≡ Ok y) × (Path (Result State Over) (Ok (with_staked w.mine y)) (Ok new)) = step_parts (validators_matured chain_told (staked_in w)) (λ y. Ok (with_staked w.mine y)) new e in
    subst AreReached (same_ok (with_staked w.mine one.0) new one.2)
    (all_matured w vs (staked_in w) one.0 (values_own w.mine.staked.validators sound.staked.validators_ascend (recursion_from_All (λ e. e.1.operator ≡ e.0) w.mine.staked.validators sound.staked.operators))
    (record { reached = reached; ascend = sound.staked.validators_ascend; known = all_known w sound }) one.1)

pub maturing_keeps_reached : MaturingKeepsReached
maturing_keeps_reached = λ w sound. if_ok (ReachedStays w) (maturing_step w) (λ new e. maturing_reached w new sound e)
