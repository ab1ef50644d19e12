-- Making the bonded set anew keeps accounts reached: only statuses change.
use Rattle.std.proofs.Common.{◌≡◌, ℕ, Bool, true, false, cond, List, [], ◌∷◌, ◌++◌, filter, refl, sym, ap, subst, ◌∙◌, Some, Result, Ok, append-nil, ◌&&◌, not, nat_lt}
use Rattle.std.{specs.{List.AllByRecursion, Map.values_of}, proofs.lemmas.List.Elements.recursion_from_All}
use Rattle.base_decimals.specs.declared.over.Over.{Over}
use Rattle.base_types.specs.{declared.status.BondStatus.TheVariants.{Bonded, Unbonding}, Orders.addr_cmp}
use Rattle.base_roles.specs.{declared.entities.Validator.Validator, Orders.same_addr}
use Rattle.base_roles.specs.{Staked.{Staked, validator_at, put_validator, is_bonded}, Flow.{◌>>=◌, each}}
use Rattle.base_roles.specs.World.{View, World, call, over_view}
use Rattle.base_roles.specs.declared.calls.Hook.TheVariants.{Bonded as bonded}
use Rattle.rule_modules.proofs.{EntryLemmas.to_all, OperatorLemmas.ordered_all, OrderLemmas.addr_total}
use Rattle.rule_modules.specs.BondedSet.{joining_of, leaving_of, tokens_of, difference_moved, is_in_bonded_set, joined_set, left_set, set_updated}
use Rattle.rule_modules.specs.{Chain.{Hooks, State, chain_told, staked_in, with_staked, set_step}, Sound.IsSound}
use Rattle.rule_modules.specs.{Stakes.changed, Unbondings.completion}
use Rattle.law_rewards.specs.{States.AreReached, StateLaws.ReachedStays, Changes.BondedSetKeepsReached}
use Rattle.law_rewards.proofs.{Denominations.step_parts, Entries.{addr_is, put_there, put_elsewhere}, Endings.same_some}
use Rattle.law_rewards.proofs.{Beginnings.{if_ok, under_own}, Delegating.either_at}
use Rattle.law_rewards.proofs.Edits.{StandsAs, state_with, standing_reached, stands_through}
use Rattle.law_rewards.proofs.Quiet.{same_ok, viewed_reached}

-- ---- what stood before still stands, in tokens and shares

abbrev pub IsKnown : State → Validator → Type 0
IsKnown w v = validator_at w.mine.staked v.operator ≡ Some v

record StillStands (w x : State) (u : Validator) : Type 0 where
  now : Validator
  found : validator_at x.mine.staked u.operator ≡ Some now
  same : StandsAs u now

record Standing (w x : State) : Type 0 where
  reached : AreReached x
  kept : (u : Validator) → IsKnown w u → StillStands w x u

stands_itself : (w : State) → AreReached w → Standing w w
stands_itself w reached = record { reached = reached; kept = λ u known. record { now = u; found = known; same = record { operator = refl; tokens = refl; shares = refl } } }

kept_by : (w x : State) (v new u : Validator) → IsKnown w v → StandsAs new v → Standing w x → IsKnown w u → (b : Bool) → same_addr u.operator new.operator ≡ b → StillStands w (state_with x new) u
kept_by w x v new u there alike k known true is =
    let one : u ≡ v = same_some u v (validator_at w.mine.staked u.operator) (validator_at w.mine.staked v.operator) known there (ap (λ o. validator_at w.mine.staked o) (addr_is u.operator new.operator is ∙ alike.operator)) in
    record {
      now = new;
      found = ap (λ o. validator_at (put_validator new x.mine.staked) o) (addr_is u.operator new.operator is) ∙ put_there new.operator new x.mine.staked.validators;
      same = record { operator = ap (λ y. y.operator) one ∙ sym alike.operator; tokens = ap (λ y. y.tokens) one ∙ sym alike.tokens; shares = ap (λ y. y.shares) one ∙ sym alike.shares };
    }
kept_by w x v new u there alike k known false is =
    let old : StillStands w x u = k.kept u known in
    record { now = old.now; found = put_elsewhere new.operator u.operator new x.mine.staked.validators is ∙ old.found; same = old.same }

-- a validator whose record changes, and not its tokens and shares
restands : (w x : State) (v new : Validator) → IsKnown w v → StandsAs new v → Standing w x → Standing w (state_with x new)
restands w x v new there alike k =
    let old : StillStands w x v = k.kept v there in
    let own : validator_at x.mine.staked old.now.operator ≡ Some old.now = ap (λ o. validator_at x.mine.staked o) (sym old.same.operator) ∙ old.found in
    record {
      reached = standing_reached x new old.now (stands_through new v old.now alike old.same) own k.reached;
      kept = λ u known. kept_by w x v new u there alike k known (same_addr u.operator new.operator) refl;
    }

-- ---- one validator after another

abbrev back : State → World Staked Hooks → State
back w y = with_staked w.mine y

left_stands : (w : State) (v : Validator) (y z : World Staked Hooks) → IsKnown w v → Standing w (back w y) → left_set chain_told v y ≡ Ok z → Standing w (back w z)
left_stands w v y z there k e =
    let new : Validator = record v { unbonding_height = y.view.ctx.height; unbonding_time = completion y.view.ctx; status = Unbonding } in
    let now : Standing w (state_with (back w y) new) = restands w (back w y) v new there (record { operator = refl; tokens = refl; shares = refl }) k in
    let out : World Staked Hooks = changed (record v { unbonding_height = y.view.ctx.height; unbonding_time = completion y.view.ctx }) Unbonding y in
    let own : Standing w (back w out) = record { reached = λ d u known. now.reached d u known; kept = λ u known. (let t : StillStands w (state_with (back w y) new) u = now.kept u known in record { now = t.now; found = t.found; same = t.same }) } in
    subst (λ t. Standing w (back w t)) (same_ok out z e) own

joined_stands : (w : State) (v : Validator) (y z : World Staked Hooks) → IsKnown w v → Standing w (back w y) → joined_set chain_told v y ≡ Ok z → Standing w (back w z)
joined_stands w v y z there k e =
    let new : Validator = record v { status = Bonded } in
    let now : Standing w (state_with (back w y) new) = restands w (back w y) v new there (record { operator = refl; tokens = refl; shares = refl }) k in
    let before : World Staked Hooks = changed v Bonded y in
    let own : Standing w (back w before) = record { reached = λ d u known. now.reached d u known; kept = λ u known. (let t : StillStands w (state_with (back w y) new) u = now.kept u known in record { now = t.now; found = t.found; same = t.same }) } in
    let logged : Standing w (back w (record before { log = before.log ++ [] })) = subst (λ l. Standing w (back w (record before { log = l }))) (sym (append-nil before.log)) own in
    gone before logged (joined_set chain_told v y) refl e
  where
    gone : (before : World Staked Hooks) → Standing w (back w (record before { log = before.log ++ [] })) → (r : Result (World Staked Hooks) Over) → call chain_told (bonded (record v { status = Bonded })) before ≡ r → r ≡ Ok z → Standing w (back w z)
    gone before s r is h =
        let last : call chain_told (bonded (record v { status = Bonded })) before ≡ Ok z = is ∙ h in
        subst (λ t. Standing w (back w t)) (same_ok _ z last)
        (record { reached = λ d u known. s.reached d u known; kept = λ u known. (let t : StillStands w (back w (record before { log = before.log ++ [] })) u = s.kept u known in record { now = t.now; found = t.found; same = t.same }) })

each_stands : (w : State) (f : Validator → World Staked Hooks → Result (World Staked Hooks) Over) → ((v : Validator) (y z : World Staked Hooks) → IsKnown w v → Standing w (back w y) → f v y ≡ Ok z → Standing w (back w z))
    → (vs : List Validator) (y z : World Staked Hooks) → AllByRecursion (IsKnown w) vs → Standing w (back w y) → each f vs y ≡ Ok z → Standing w (back w z)
each_stands w f one [] y z known k e = subst (λ t. Standing w (back w t)) (same_ok y z e) k
each_stands w f one (v ∷ vs) y z known k e =
    let a : (t : World Staked Hooks) × (f v y ≡ Ok t) × (each f vs t ≡ Ok z) = step_parts (f v y) (λ t. each f vs t) z e in
    each_stands w f one vs a.0 z known.1 (one v y a.0 known.0 k a.1) a.2

-- ---- all validators are known

values_all : (Q : Validator → Type 0) (es : List (List ℕ × Validator)) → AllByRecursion (λ e. Q e.1) es → AllByRecursion Q (values_of es)
values_all Q [] h = tt
values_all Q (e ∷ es) h = (h.0, values_all Q es h.1)

filter_all : (Q : Validator → Type 0) (test : Validator → Bool) (vs : List Validator) → AllByRecursion Q vs → AllByRecursion Q (filter test vs)
filter_all Q test [] h = tt
filter_all Q test (v ∷ vs) h = filter_step (test v) (filter_all Q test vs h.1)
  where
    filter_step : (b : Bool) → AllByRecursion Q (filter test vs) → AllByRecursion Q (cond b (v ∷ filter test vs) (filter test vs))
    filter_step true r = (h.0, r)
    filter_step false r = r

pub all_known : (w : State) → IsSound w → AllByRecursion (IsKnown w) (values_of w.mine.staked.validators)
all_known w sound =
    let vs : List (List ℕ × Validator) = w.mine.staked.validators in
    values_all (IsKnown w) vs (recursion_from_All (λ e. IsKnown w e.1) vs (to_all addr_cmp addr_total (λ e. IsKnown w e.1) vs sound.staked.validators_ascend (λ o v e. ap (validator_at w.mine.staked) (sym (under_own w o v sound e)) ∙ e)))

-- ---- the step

moved_height : (joined left : ℕ) (v : View) → (difference_moved joined left v).ctx.height ≡ v.ctx.height
moved_height joined left v = either_at _ _ v.ctx.height (nat_lt left joined) refl refl

set_reached : (w new : State) → IsSound w → set_step w ≡ Ok new → ReachedStays w new
set_reached w new sound e reached =
    let s : World Staked Hooks = staked_in w in
    let reduction : ℕ = w.view.ctx.params.power_reduction in
    let most : ℕ = w.view.ctx.params.max_validators in
    let vs : List Validator = values_of w.mine.staked.validators in
    let joining : List Validator = joining_of reduction most vs in
    let leaving : List Validator = leaving_of reduction most vs in
    let last : World Staked Hooks → World Staked Hooks = over_view (difference_moved (tokens_of joining) (tokens_of leaving)) in
    let one : (y : World Staked Hooks) × (set_updated chain_told s ≡ Ok y) × (Path (Result State Over) (Ok (with_staked w.mine y)) (Ok new)) = step_parts (set_updated chain_told s) (λ y. Ok (with_staked w.mine y)) new e in
    let two : (a : World Staked Hooks) × (each (joined_set chain_told) joining s ≡ Ok a) × ((each (left_set chain_told) leaving a >>= λ b. Ok (last b)) ≡ Ok one.0) =
    step_parts (each (joined_set chain_told) joining s) (λ a. each (left_set chain_told) leaving a >>= λ b. Ok (last b)) one.0 one.1 in
    let three : (b : World Staked Hooks) × (each (left_set chain_told) leaving two.0 ≡ Ok b) × (Path (Result (World Staked Hooks) Over) (Ok (last b)) (Ok one.0)) = step_parts (each (left_set chain_told) leaving two.0) (λ b. Ok (last b)) one.0 two.2 in
    let known : AllByRecursion (IsKnown w) vs = all_known w sound in
    let k1 : Standing w (back w two.0) =
    each_stands w (joined_set chain_told) (joined_stands w) joining s two.0
    (ordered_all reduction (IsKnown w) (filter (λ v. is_in_bonded_set reduction most vs v && not (is_bonded v.status)) vs) (filter_all (IsKnown w) (λ v. is_in_bonded_set reduction most vs v && not (is_bonded v.status)) vs known))
    (stands_itself w reached) two.1 in
    let k2 : Standing w (back w three.0) =
    each_stands w (left_set chain_told) (left_stands w) leaving two.0 three.0 (filter_all (IsKnown w) (λ v. is_bonded v.status && not (is_in_bonded_set reduction most vs v)) vs known) k1 three.1 in
    let after : AreReached (back w (last three.0)) =
    viewed_reached (back w three.0) (difference_moved (tokens_of joining) (tokens_of leaving) three.0.view) (moved_height (tokens_of joining) (tokens_of leaving) three.0.view) k2.reached in
    subst AreReached (same_ok (with_staked w.mine one.0) new one.2) (subst (λ t. AreReached (with_staked w.mine t)) (same_ok (last three.0) one.0 three.2) after)

pub bonded_set_keeps_reached : BondedSetKeepsReached
bonded_set_keeps_reached = λ w sound. if_ok (ReachedStays w) (set_step w) (λ new e. set_reached w new sound e)
