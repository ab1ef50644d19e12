-- Delegating, unbonding and removing a validator log fair entries alone, and tell the payments that they log.
use Rattle.std.proofs.Common.{◌≡◌, ℕ, ◌+◌, ◌-◌, ◌==◌, Bool, true, false, List, [], ◌∷◌, ◌++◌, refl, sym, ap, subst, ◌∙◌, Option, Some, None, Result, Ok, Err, unwrap_or, if◌then◌else◌, ◌&&◌, ◌||◌}
use Rattle.base_decimals.specs.declared.over.Over.{Over}
use Rattle.base_types.specs.declared.account.Account.TheVariants as account
use Rattle.base_types.specs.declared.account.Module.TheVariants as holder
use Rattle.base_types.specs.{declared.status.BondStatus.BondStatus, Modules.module_number}
use Rattle.base_coins.specs.Coins.{Money}
use Rattle.base_shares.specs.Shares.{amount_out}
use Rattle.base_roles.specs.declared.{entities.Validator.Validator, refusal.Refusal.Refusal}
use Rattle.base_roles.specs.{declared.refusal.Refusal.TheVariants.{InsufficientFunds, Overflow}, Holdings.is_short}
use Rattle.base_roles.specs.{Log.Log, Staked.{Staked, validator_at, delegation, put_validator, is_unbonded}}
use Rattle.base_roles.specs.Flow.{◌>>=◌, stopping}
use Rattle.base_roles.specs.World.{View, World, gives, call, noted, sent, over_view, over_mine, logged}
use Rattle.base_roles.specs.declared.calls.Hook.TheVariants.{Modifying as modifying, Modified as modified}
use Rattle.base_roles.specs.declared.facts.Fact.TheVariants as fact
use Rattle.base_roles.specs.Log as log
use Rattle.base_roles.specs.declared.calls.Hook.TheVariants as hook
use Rattle.rule_modules.specs.{Amounts.{bond_coins, is_empty, over_facts}, Chain.{Hooks, State, chain_told, staked_in}}
use Rattle.rule_modules.specs.Delegating.{Origin, wallet, pool, shares_given, paid_in, hook_before, delegated}
use Rattle.rule_modules.specs.Distribution.{Shared, distribution_told, records_removed, payee_of, paid_to, told_of, unlogged}
use Rattle.rule_modules.specs.{Ideal.{span_of, history_of}, Periods.without_periods}
use Rattle.rule_modules.specs.Purses.{Purses, closed, pooled_told}
use Rattle.rule_modules.specs.Stakes.{put_delegation, without_shares, without_validator, pool_of}
use Rattle.rule_modules.specs.Unbonding.{put_in_jail, falls_below_minimum, left_standing, removed_if_empty, validator_removed, unbonded_shares}
use Rattle.law_rewards.{specs.States.AreReached, proofs.{Denominations.step_parts, Claims.IsReady, Beginnings.went_on}}
use Rattle.law_rewards.proofs.Quiet.{same_ok, passed}
use Rattle.law_rewards.proofs.Hooked.{HasOpened, hook_gave, state_told, call_parts, same_told, opened, before_is_idle}
use Rattle.law_rewards.proofs.{Resting.rests_in, Growing.{more_of, more_world, behind_hook, start_told}}
use Rattle.law_rewards.proofs.{Leaving.less_of, Undelegating.{left_then, leaving}}
use Rattle.law_rewards.proofs.Paying.{Pays, pays_then, pays_nothing, pays_logged, pays_noted, pays_sent, pays_pooled, pays_started, pays_before}

-- what one world tells and logs behind another
abbrev pub PaysIn : {S T H G : Type 0} → World S H → World T G → Type 0
PaysIn x y = Pays x.log x.view.facts y.log y.view.facts

-- by the log of a world the rewards of a delegator do not run
abbrev pub RestsIn : {S H : Type 0} → World S H → Validator → List ℕ → Type 0
RestsIn x v who = span_of who (history_of v.operator x.log []) None ≡ None

-- so it is behind the hook before a delegation changes
rests_behind : (w : State) (v : Validator) (who : List ℕ) (z : Shared × View × Log) → IsReady w v.operator → validator_at w.mine.staked v.operator ≡ Some v → AreReached w
    → distribution_told w.hooks.0 (hook_before v who (delegation w.mine.staked who v.operator)) w.view ≡ gives z.0 z.1 z.2 → RestsIn (hook_gave (staked_in w) z) v who
rests_behind w v who z ready found reached e =
    let o : HasOpened w v who z = opened w v who z ready found e reached in
    rests_in (state_told w z) v who o.reached found (o.ready []).apart

-- ---- delegating

pays_in : (l : Log) (origin : Origin) (who : List ℕ) (status : BondStatus) (amount : ℕ) (v u : View) → paid_in origin who status amount v ≡ Ok u → Pays l v.facts l u.facts
pays_in l wallet who status amount v u e =
    let out : View = sent (account.User who) (account.Module (pool_of status)) (bond_coins v amount) v in
    subst (λ t. Pays l v.facts l t.facts) (same_ok out u (passed (is_short v.bank (account.User who) (bond_coins v amount)) InsufficientFunds (Ok out) u e))
    (pays_sent l (account.User who) (account.Module (pool_of status)) (bond_coins v amount) v.facts)
pays_in l (pool from) who status amount v u e = by (module_number (pool_of from) == module_number (pool_of status)) e
  where
    out : View
    out = sent (account.Module (pool_of from)) (account.Module (pool_of status)) (bond_coins v amount) v

    by : (b : Bool) → Path (Result View Refusal) (if b then Ok v else Ok (sent (account.Module (pool_of from)) (account.Module (pool_of status)) (bond_coins v amount) v)) (Ok u) → Pays l v.facts l u.facts
    by true h = subst (λ t. Pays l v.facts l t.facts) (same_ok v u h) (pays_nothing l v.facts)
    by false h = subst (λ t. Pays l v.facts l t.facts) (same_ok out u h) (pays_sent l (account.Module (pool_of from)) (account.Module (pool_of status)) (bond_coins v amount) v.facts)

-- a start behind a hook
pays_begun : (v : Validator) (who : List ℕ) (shares : ℕ) (w y : World Staked Hooks) → RestsIn w v who → call chain_told (modified v who shares) w ≡ Ok y → PaysIn w y
pays_begun v who shares w y rests e = subst (λ t. PaysIn w t) (start_told v who shares w y e) (pays_started w.log v who shares w.hooks.0 w.view rests)

pays_behind : (v : Validator) (who : List ℕ) (amount : ℕ) (origin : Origin) (issued held : ℕ) (w1 : World Staked Hooks) (x : ℕ × World Staked Hooks) → RestsIn w1 v who → behind_hook v who amount origin issued held w1 ≡ Ok x → PaysIn w1 x.1
pays_behind v who amount origin issued held w1 x rests e =
    let g : Validator = more_of v amount issued in
    let n : ℕ = held + issued in
    let one : (u : View) × (paid_in origin who v.status amount w1.view ≡ Ok u) × ((stopping Overflow (call chain_told (modified g who n) (more_world w1 v who amount issued held u)) >>= λ w3. Ok (issued, w3)) ≡ Ok x) =
    step_parts (paid_in origin who v.status amount w1.view) (λ u. stopping Overflow (call chain_told (modified g who n) (more_world w1 v who amount issued held u)) >>= λ w3. Ok (issued, w3)) x e in
    let w2 : World Staked Hooks = more_world w1 v who amount issued held one.0 in
    let two : (w3 : World Staked Hooks) × (stopping Overflow (call chain_told (modified g who n) w2) ≡ Ok w3) × (Path (Result (ℕ × World Staked Hooks) Refusal) (Ok (issued, w3)) (Ok x)) =
    step_parts (stopping Overflow (call chain_told (modified g who n) w2)) (λ w3. Ok (issued, w3)) x one.2 in
    let begun : PaysIn w2 two.0 = pays_begun g who n w2 two.0 rests (went_on Overflow (call chain_told (modified g who n) w2) two.0 two.1) in
    subst (λ t. PaysIn w1 t) (ap (λ a. a.1) (same_ok (issued, two.0) x two.2))
    (pays_then w1.log w1.log two.0.log w1.view.facts one.0.facts two.0.view.facts (pays_in w1.log origin who v.status amount w1.view one.0 one.1) begun)

pub pays_delegated : (w : State) (v : Validator) (who : List ℕ) (amount : ℕ) (origin : Origin) (x : ℕ × World Staked Hooks) → IsReady w v.operator → validator_at w.mine.staked v.operator ≡ Some v → AreReached w
    → delegated chain_told v who amount origin (staked_in w) ≡ Ok x → PaysIn w x.1
pays_delegated w v who amount origin x ready found reached e =
    let held : Option ℕ = delegation w.mine.staked who v.operator in
    let before : Result (World Staked Hooks) Refusal = stopping Overflow (call chain_told (hook_before v who held) (staked_in w)) in
    let one : (issued : ℕ) × (shares_given v amount ≡ Ok issued) × ((before >>= λ w1. behind_hook v who amount origin issued (unwrap_or held 0) w1) ≡ Ok x) =
    step_parts (shares_given v amount) (λ issued. before >>= λ w1. behind_hook v who amount origin issued (unwrap_or held 0) w1) x e in
    let two : (w1 : World Staked Hooks) × (before ≡ Ok w1) × (behind_hook v who amount origin one.0 (unwrap_or held 0) w1 ≡ Ok x) =
    step_parts before (λ w1. behind_hook v who amount origin one.0 (unwrap_or held 0) w1) x one.2 in
    let told : (z : Shared × View × Log) × (distribution_told w.hooks.0 (hook_before v who held) w.view ≡ gives z.0 z.1 z.2) × (hook_gave (staked_in w) z ≡ two.0) =
    call_parts (hook_before v who held) (staked_in w) two.0 (before_is_idle (staked_in w) v who held) (went_on Overflow (call chain_told (hook_before v who held) (staked_in w)) two.0 two.1) in
    let w1 : World Staked Hooks = hook_gave (staked_in w) told.0 in
    pays_then w.log w1.log x.1.log w.view.facts w1.view.facts x.1.view.facts (pays_before w v who told.0 ready found reached told.1)
    (pays_behind v who amount origin one.0 (unwrap_or held 0) w1 x (rests_behind w v who told.0 ready found reached told.1) (subst (λ y. behind_hook v who amount origin one.0 (unwrap_or held 0) y ≡ Ok x) (sym told.2) two.2))

-- ---- a validator that goes

abbrev pub removed_with : Validator → Shared → View → Money × Money × Purses → Shared × View
removed_with v s u y =
    let to = payee_of s v.operator in
    let v1 = paid_to to y.0 u in
    let v2 = (if is_empty y.0 then v1 else noted (fact.Commission v.operator to y.0) v1) in
    (record s { rewards = without_periods v.operator s.rewards; purses = y.2 }, over_facts (pooled_told y.1) v2)

pays_gone : (l : Log) (v : Validator) (s : Shared) (u : View) (z : Shared × View × Log) → told_of (unlogged (records_removed v s u)) ≡ gives z.0 z.1 z.2 → Pays l u.facts (l ++ z.2) z.1.facts
pays_gone l v s u z h = by (closed v.operator s.purses) h
  where
    to : List ℕ
    to = payee_of s v.operator

    due : (c : Money) (b : Bool) → Pays l (paid_to to c u).facts l (if b then paid_to to c u else noted (fact.Commission v.operator to c) (paid_to to c u)).facts
    due c true = pays_nothing l (paid_to to c u).facts
    due c false = pays_noted l (paid_to to c u).facts (fact.Commission v.operator to c) (λ who op t reward coins e. cc)

    by : (r : Result (Money × Money × Purses) Over) → told_of (unlogged (r >>= λ y. Ok (removed_with v s u y))) ≡ gives z.0 z.1 z.2 → Pays l u.facts (l ++ z.2) z.1.facts
    by (Ok y) e =
        let out : Shared × View = removed_with v s u y in
        let same : (out.0 ≡ z.0) × (out.1 ≡ z.1) × ([] ≡ z.2) = same_told out.0 z.0 out.1 z.1 [] z.2 e in
        let v1 : View = paid_to to y.0 u in
        let v2 : View = (if is_empty y.0 then v1 else noted (fact.Commission v.operator to y.0) v1) in
        let told : Pays l u.facts l out.1.facts =
        pays_then l l l u.facts v1.facts out.1.facts (pays_sent l (account.Module holder.Distribution) (account.User to) y.0 u.facts)
        (pays_then l l l v1.facts v2.facts out.1.facts (due y.0 (is_empty y.0)) (pays_pooled l y.1 v2.facts)) in
        subst (λ k. Pays l u.facts (l ++ k) z.1.facts) same.2 (subst (λ t. Pays l u.facts (l ++ []) t.facts) same.1 (pays_then l l (l ++ []) u.facts out.1.facts out.1.facts told (pays_logged l [] out.1.facts tt refl)))
    by (Err over) e = absurd cc

pub pays_emptied : (v : Validator) (x y : World Staked Hooks) → removed_if_empty chain_told v x ≡ Ok y → PaysIn x y
pays_emptied v x y e = by (is_unbonded v.status && (v.shares == 0)) e
  where
    by : (b : Bool) → (if b then validator_removed chain_told v x else Ok x) ≡ Ok y → PaysIn x y
    by true h =
        let w : World Staked Hooks = over_mine (without_validator v.operator) x in
        let one : (t : World Staked Hooks) × (call chain_told (hook.Removed v) w ≡ Ok t) × (Path (Result (World Staked Hooks) Over) (Ok (over_view (noted (fact.Removed v.operator)) t)) (Ok y)) =
        step_parts (call chain_told (hook.Removed v) w) (λ t. Ok (over_view (noted (fact.Removed v.operator)) t)) y h in
        let told : (z : Shared × View × Log) × (distribution_told x.hooks.0 (hook.Removed v) x.view ≡ gives z.0 z.1 z.2) × (hook_gave w z ≡ one.0) = call_parts (hook.Removed v) w one.0 (λ u. refl) one.1 in
        let out : World Staked Hooks = over_view (noted (fact.Removed v.operator)) (hook_gave w told.0) in
        let is : out ≡ y = ap (over_view (noted (fact.Removed v.operator))) told.2 ∙ same_ok (over_view (noted (fact.Removed v.operator)) one.0) y one.2 in
        subst (λ t. PaysIn x t) is
        (pays_then x.log out.log out.log x.view.facts told.0.1.facts out.view.facts (pays_gone x.log v x.hooks.0 x.view told.0 told.1) (pays_noted out.log told.0.1.facts (fact.Removed v.operator) (λ who op to reward coins k. cc)))
    by false h = subst (λ t. PaysIn x t) (same_ok x y h) (pays_nothing x.log x.view.facts)

-- ---- unbonding

pays_left : (v : Validator) (who : List ℕ) (left : ℕ) (x y : World Staked Hooks) → RestsIn x v who → left_standing chain_told v who left x ≡ Ok y → PaysIn x y
pays_left v who left x y rests e = by (left == 0) e
  where
    by : (b : Bool) → (if b then Ok (over_mine (without_shares who v.operator) x) else call chain_told (modified v who left) (over_mine (put_delegation who v.operator left) x)) ≡ Ok y → PaysIn x y
    by true h = subst (λ t. PaysIn x t) (same_ok (over_mine (without_shares who v.operator) x) y h) (pays_nothing x.log x.view.facts)
    by false h = pays_begun v who left (over_mine (put_delegation who v.operator left) x) y rests h

pays_leaving : (v : Validator) (j : Bool) (who : List ℕ) (held part : ℕ) (x : World Staked Hooks) (y : ℕ × World Staked Hooks) → RestsIn x v who → leaving v j who held part x ≡ Ok y → PaysIn x y.1
pays_leaving v j who held part x y rests e =
    let less : Validator = less_of v j part in
    let one : (w2 : World Staked Hooks) × (left_standing chain_told (record v { jailed = j }) who (held - part) x ≡ Ok w2) × (left_then v j part w2 ≡ Ok y) =
    step_parts (left_standing chain_told (record v { jailed = j }) who (held - part) x) (λ w2. left_then v j part w2) y e in
    let w2 : World Staked Hooks = logged v.operator log.left (over_mine (put_validator less) one.0) in
    let two : (w3 : World Staked Hooks) × (removed_if_empty chain_told less w2 ≡ Ok w3) × (Path (Result (ℕ × World Staked Hooks) Over) (Ok (amount_out v.tokens v.shares part, w3)) (Ok y)) =
    step_parts (removed_if_empty chain_told less w2) (λ w3. Ok (amount_out v.tokens v.shares part, w3)) y one.2 in
    let rest : PaysIn one.0 two.0 =
    pays_then one.0.log w2.log two.0.log one.0.view.facts one.0.view.facts two.0.view.facts (pays_logged one.0.log ((v.operator, log.left) ∷ []) one.0.view.facts (tt, tt) refl) (pays_emptied less w2 two.0 two.1) in
    subst (λ t. PaysIn x t) (ap (λ a. a.1) (same_ok (amount_out v.tokens v.shares part, two.0) y two.2))
    (pays_then x.log one.0.log two.0.log x.view.facts one.0.view.facts two.0.view.facts (pays_left (record v { jailed = j }) who (held - part) x one.0 rests one.1) rest)

pub pays_unbonded : (w : State) (v : Validator) (who : List ℕ) (held part : ℕ) (y : ℕ × World Staked Hooks) → IsReady w v.operator → validator_at w.mine.staked v.operator ≡ Some v
    → delegation w.mine.staked who v.operator ≡ Some held → AreReached w → unbonded_shares chain_told v who held part (staked_in w) ≡ Ok y → PaysIn w y.1
pays_unbonded w v who held part y ready found has reached e =
    let falls : Bool = falls_below_minimum v who (held - part) in
    let rest : World Staked Hooks → Result (ℕ × World Staked Hooks) Over = λ w1. leaving v (v.jailed || falls) who held part (if falls then put_in_jail v w1 else w1) in
    let one : (w1 : World Staked Hooks) × (call chain_told (modifying v who held) (staked_in w) ≡ Ok w1) × (rest w1 ≡ Ok y) = step_parts (call chain_told (modifying v who held) (staked_in w)) rest y e in
    let told : (z : Shared × View × Log) × (distribution_told w.hooks.0 (modifying v who held) w.view ≡ gives z.0 z.1 z.2) × (hook_gave (staked_in w) z ≡ one.0) = call_parts (modifying v who held) (staked_in w) one.0 (λ u. refl) one.1 in
    let z : Shared × View × Log = told.0 in
    let w1 : World Staked Hooks = hook_gave (staked_in w) z in
    let before : distribution_told w.hooks.0 (hook_before v who (delegation w.mine.staked who v.operator)) w.view ≡ gives z.0 z.1 z.2 =
    ap (λ o. distribution_told w.hooks.0 (hook_before v who o) w.view) has ∙ told.1 in
    let first : PaysIn w w1 = pays_before w v who z ready found reached before in
    pays_then w.log w1.log y.1.log w.view.facts w1.view.facts y.1.view.facts first (by w1 falls (rests_behind w v who z ready found reached before) (subst (λ t. rest t ≡ Ok y) (sym told.2) one.2))
  where
    by : (w1 : World Staked Hooks) (b : Bool) → RestsIn w1 v who → leaving v (v.jailed || b) who held part (if b then put_in_jail v w1 else w1) ≡ Ok y → PaysIn w1 y.1
    by w1 true rests h =
        let x : World Staked Hooks = put_in_jail v w1 in
        pays_then w1.log w1.log y.1.log w1.view.facts x.view.facts y.1.view.facts (pays_noted w1.log w1.view.facts (fact.Jailed v.operator) (λ op who to reward coins k. cc)) (pays_leaving v (v.jailed || true) who held part x y rests h)
    by w1 false rests h = pays_leaving v (v.jailed || false) who held part w1 y rests h
