-- A good genesis starts a chain: none of its steps is refused, and none exceeds a limit.
use Rattle.std.proofs.Common.{◌≡◌, ◌∙◌, ℕ, suc, ◌+◌, ◌*◌, ◌^◌, ◌<◌, ◌≤◌, ◌==◌, Bool, true, false, cond, List, [], ◌∷◌, length, map, Option, Some, None, Result, Ok, Err, refl, sym, ap, subst, arith, ◌-◌, ◌||◌, ◌&&◌, IsOkAnd, IfOk, if◌then◌else◌, unwrap_or}
use Rattle.std.{specs.{List.{list_any, AllByRecursion}, BTreeMap.is_at}, proofs.lemmas.Bool.Decides.nat_tests}
use Rattle.base_roles.specs.{Flow.{◌>>=◌, ◌>>◌, stop_if, or_stop, stopping, each}, declared.refusal.Refusal.Refusal}
use Rattle.base_roles.specs.{declared.refusal.Refusal.TheVariants.{NoValidator, Overflow}, Entries.at, Items.no_purse}
use Rattle.base_roles.specs.{Log.Log, Orders.pair_cmp, Pair.{and_then, given_with}}
use Rattle.base_roles.specs.{Staked.{Staked, is_unbonded, delegation, put_validator}, World.{View, World, call, hooked}}
use Rattle.base_roles.specs.declared.entities.{Purse.Purse, Validator.Validator}
use Rattle.base_roles.specs.declared.calls.Hook.TheVariants as hook
use Rattle.base_types.specs.declared.status.BondStatus.{BondStatus, TheVariants.{Bonded, Unbonding, Unbonded}}
use Rattle.base_types.specs.Orders.{addr_cmp}
use Rattle.base_decimals.specs.{declared.over.Over.Over, Decimals.period_over}
use Rattle.rule_machine.specs.{Promises.{IsGoodGenesis, GenesisIsSound}, Founding.{IsStarting, no_hook}}
use Rattle.rule_machine.specs.GenesisConditions.{has_pair_twice}
use Rattle.rule_machine.specs.GenesisState.{Start, chain_started, delegation_added, empty_over, ground_at_start, stake_added, validator_added, without_facts}
use Rattle.rule_machine.proofs.StartLemmas.{Added, Begun, begun, entrant, may_start, no_stake, one_added}
use Rattle.rule_machine.proofs.{StakeLemmas.all-found, UnhookedLemmas.{grown_stake, over}}
use Rattle.base_coins.specs.Coins.{Money, coins_quo_cut, coins_taken, smaller_of}
use Rattle.base_messages.specs.declared.genesis.{Genesis.Genesis, GenesisDelegation.GenesisDelegation}
use Rattle.base_messages.specs.declared.genesis.GenesisValidator.{GenesisValidator}
use Rattle.law_soundness.proofs.{Giving.set_gives, Starting.geneses_start_sound}
use Rattle.rule_modules.proofs.{EntryLemmas.at-put, OrderLemmas.{addr_total, pair_found, pair_total, same_back}}
use Rattle.rule_modules.specs.Chain.{Hooks, chain_told, staked_in, with_staked}
use Rattle.rule_modules.specs.Delegating.{delegated, hook_before, paid_in, pool, shares_given}
use Rattle.rule_modules.specs.Distribution.{Shared, current_taken, left_by, told_of, ended}
use Rattle.rule_modules.specs.Periods.{Periods, Rewards, initial_records, period_ended, periods_of, ratio_at, with_periods}
use Rattle.rule_modules.specs.Purses.{Purses, current_emptied, current_pooled, pool_joined, purse_of, with_purse}
use Rattle.rule_modules.specs.{Sound.IsSound, Stakes.put_delegation, Window.window_told}

pub sure_then : {A B E : Type 0} (r : Result A E) (f : A → Result B E) (R : A → Type 0) (Q : B → Type 0) → IsOkAnd r R → ((a : A) → R a → IsOkAnd (f a) Q) → IsOkAnd (r >>= f) Q
sure_then (Ok a) f R Q p h = h a p
sure_then (Err e) f R Q p h = absurd p

sure_if : {A E : Type 0} (r : Result A E) (R Q : A → Type 0) → IsOkAnd r R → IfOk r Q → IsOkAnd r Q
sure_if (Ok a) R Q p h = h
sure_if (Err e) R Q p h = absurd p

-- ---- distribution's records at the start: nobody has a reward

-- no current rewards, and so many periods at most
record CanEnd (k : ℕ) (d : Shared) : Type 0 where
  current : (o : List ℕ) → (purse_of d.purses o).current ≡ []
  periods : (o : List ℕ) → (periods_of d.rewards o).current ≤ k

current_put : (p : Purses) (op : List ℕ) (x : Purse) → ((o : List ℕ) → (purse_of p o).current ≡ []) → x.current ≡ [] → (o : List ℕ) → (purse_of (with_purse op x p) o).current ≡ []
current_put p op x h e o = ap (λ (r : Option Purse). (unwrap_or r no_purse).current) (at-put addr_cmp addr_total p.purses op o x) ∙ by (is_at (addr_cmp o) op)
  where
    by : (b : Bool) → (unwrap_or (cond b (Some x) (at addr_cmp p.purses o)) no_purse).current ≡ []
    by true = e
    by false = h o

periods_put : (k : ℕ) (r : Rewards) (op : List ℕ) (p : Periods) → ((o : List ℕ) → (periods_of r o).current ≤ k) → p.current ≤ k → (o : List ℕ) → (periods_of (with_periods op p r) o).current ≤ k
periods_put k r op p h e o = subst (λ (x : Option Periods). (unwrap_or x initial_records).current ≤ k) (sym (at-put addr_cmp addr_total r.periods op o p)) (by (is_at (addr_cmp o) op))
  where
    by : (b : Bool) → (unwrap_or (cond b (Some p) (at addr_cmp r.periods o)) initial_records).current ≤ k
    by true = e
    by false = h o

-- nothing is taken, and nothing joins the pool
record TakenSo (z : Money × Money × Purses) : Type 0 where
  nothing : z.0 ≡ []
  current : (o : List ℕ) → (purse_of z.2 o).current ≡ []

-- the current rewards leave for the pool, as a rule of them alone
abbrev pub pooled_at : List ℕ → Purses → Money → Result (Money × Purses) Over
pooled_at op p c =
    let purse = purse_of p op in
    let lost = smaller_of c purse.outstanding in
    pool_joined lost (with_purse op (record purse { outstanding = coins_taken purse.outstanding lost; current = [] }) p) >>= λ q. Ok (lost, q)

taken_sure : (val : Validator) (p : Purses) → ((o : List ℕ) → (purse_of p o).current ≡ []) → IsOkAnd (current_taken val p) TakenSo
taken_sure val p h = by (val.tokens == 0)
  where
    op : List ℕ
    op = val.operator

    pooled : Money × Purses → Result (Money × Money × Purses) Over
    pooled x = Ok ([], x.0, x.1)

    emptied : Money → Result (Money × Money × Purses) Over
    emptied i = Ok (i, [], current_emptied op p)

    by : (b : Bool) → IsOkAnd (if b then (current_pooled op p >>= pooled) else (coins_quo_cut (purse_of p op).current (val.tokens * 10 ^ 18) >>= emptied)) TakenSo
    by true = subst (λ c. IsOkAnd (pooled_at op p c >>= pooled) TakenSo) (sym (h op)) (record { nothing = refl; current = current_put p op _ h refl })
    by false = subst (λ c. IsOkAnd (coins_quo_cut c (val.tokens * 10 ^ 18) >>= emptied) TakenSo) (sym (h op)) (record { nothing = refl; current = current_put p op _ h refl })

pub period_sure : (i : Money) (ps : Periods) (k : ℕ) → i ≡ [] → ps.current ≤ k → k < 10 ^ 18 → IsOkAnd (period_ended i ps) (λ y. y.1.current ≤ k + 1)
period_sure i ps k e l m = subst (λ c. IsOkAnd (period_ended c ps) (λ y. y.1.current ≤ k + 1)) (sym e) (by (ps.current == 10 ^ 18) refl)
  where
    next : Money × Periods
    next = (ratio_at ps.ratios (ps.current - 1), record { current = ps.current + 1; ratios = (ps.current, ratio_at ps.ratios (ps.current - 1)) ∷ ps.ratios; events = ps.events })

    not_last : (c : ℕ) → c ≤ k → (c == 10 ^ 18) ≡ true → Unit {0} → 10 ^ 18 ≤ k
    not_last c a q t = grind (arith, nat_tests)

    by : (b : Bool) → (ps.current == 10 ^ 18) ≡ b → IsOkAnd (stop_if b period_over >> Ok next) (λ y. y.1.current ≤ k + 1)
    by true q = let n = not_last ps.current l q tt in absurd (omega (arith, n, m))
    by false q = omega (arith, l)

ended_sure : (val : Validator) (k : ℕ) (d : Shared) (v : View) → CanEnd k d → k < 10 ^ 18 → IsOkAnd (ended val d v) (λ z. CanEnd (k + 1) z.1)
ended_sure val k d v c l =
    let op = val.operator in
    let ps = periods_of d.rewards op in
    sure_then (current_taken val d.purses) _ TakenSo _ (taken_sure val d.purses c.current) (λ t s.
    sure_then (period_ended t.0 ps) _ (λ y. y.1.current ≤ k + 1) _ (period_sure t.0 ps k s.nothing (c.periods op) l) (λ y m.
    record { current = s.current; periods = periods_put (k + 1) d.rewards op y.1 (λ o. more _ (c.periods o)) m }))
  where
    more : (n : ℕ) → n ≤ k → n ≤ k + 1
    more n e = omega (arith, e)

-- the hook before a new delegation
starting_sure : (v : Validator) (who : List ℕ) (k : ℕ) (w : World Staked Hooks) → CanEnd k w.hooks.0 → k < 10 ^ 18
    → IsOkAnd (stopping Overflow (call chain_told (hook.Starting v who) w)) (λ x. (x.mine ≡ w.mine) × CanEnd (k + 1) x.hooks.0)
starting_sure v who k w c l = by (ended v w.hooks.0 w.view) (ended_sure v k w.hooks.0 w.view c l)
  where
    by : (r : Result (ℕ × Shared × View × Log) Over) → IsOkAnd r (λ z. CanEnd (k + 1) z.1)
        → IsOkAnd (stopping Overflow (hooked (and_then (told_of (left_by r)) (λ d u more. given_with d more (window_told w.hooks.1 (hook.Starting v who) u))) w)) (λ x. (x.mine ≡ w.mine) × CanEnd (k + 1) x.hooks.0)
    by (Ok z) h = (refl, h)
    by (Err e) h = absurd h

-- ---- a delegation

paid_sure : (who : List ℕ) (status : BondStatus) (n : ℕ) (v : View) → is_unbonded status ≡ true → IsOkAnd (paid_in (pool Unbonded) who status n v) (λ u. Unit {0})
paid_sure who Bonded n v e = absurd cc
paid_sure who Unbonding n v e = absurd cc
paid_sure who Unbonded n v e = tt

delegated_sure : (v : Validator) (who : List ℕ) (n issued k : ℕ) (w : World Staked Hooks) → shares_given v n ≡ Ok issued → delegation w.mine who v.operator ≡ None → is_unbonded v.status ≡ true → CanEnd k w.hooks.0 → k < 10 ^ 18
    → IsOkAnd (delegated chain_told v who n (pool Unbonded) w) (λ x. (x.1.mine ≡ grown_stake v who n issued w.mine) × CanEnd (k + 1) x.1.hooks.0)
delegated_sure v who n issued k w given none unbonded c l =
    let held = delegation w.mine who v.operator in
    sure_then (shares_given v n) _ (λ i. i ≡ issued) _ (subst (λ (r : Result ℕ Refusal). IsOkAnd r (λ i. i ≡ issued)) (sym given) refl) (λ i same.
    sure_then (stopping Overflow (call chain_told (hook_before v who held) w)) _ (λ x. (x.mine ≡ w.mine) × CanEnd (k + 1) x.hooks.0) _
    (subst (λ (o : Option ℕ). IsOkAnd (stopping Overflow (call chain_told (hook_before v who o) w)) (λ x. (x.mine ≡ w.mine) × CanEnd (k + 1) x.hooks.0)) (sym none) (starting_sure v who k w c l)) (λ x s.
    sure_then (paid_in (pool Unbonded) who v.status n x.view) _ (λ u. Unit {0}) _ (paid_sure who v.status n x.view unbonded) (λ u t. (
      ap (λ (m : Staked). put_delegation who v.operator (unwrap_or held 0 + i) (put_validator (record v { tokens = v.tokens + n; shares = v.shares + i }) m)) s.0 ∙ ap (λ j. grown_stake v who n j w.mine) same,
      record { current = s.1.current; periods = s.1.periods },
    ))))

-- ---- pairs that are not there yet

-- these delegations are not there yet, and each is there once
pub record ArePairsNew (ds : List GenesisDelegation) (s : Staked) : Type 0 where
  pub none : AllByRecursion (λ d. delegation s d.delegator d.validator ≡ None) ds
  pub once : has_pair_twice ds ≡ false

pub either_not : (a b : Bool) → (a || b) ≡ false → (a ≡ false) × (b ≡ false)
either_not true b e = absurd cc
either_not false b e = (refl, e)

pair_apart : (k q : List ℕ × List ℕ) → is_at (pair_cmp k) q ≡ false → is_at (pair_cmp q) k ≡ false
pair_apart k q e = pair_found q.0 k.0 q.1 k.1 ∙ (λ i. same_back q.0 k.0 i && same_back q.1 k.1 i) ∙ sym (pair_found k.0 q.0 k.1 q.1) ∙ e

pub pairs_after : (op who : List ℕ) (sh : ℕ) (ds : List GenesisDelegation) (s t : Staked) → ((y o : List ℕ) → delegation t y o ≡ cond (is_at (pair_cmp (o, y)) (op, who)) (Some sh) (delegation s y o))
    → list_any (is_at (pair_cmp (op, who))) (map (λ (d : GenesisDelegation). (d.validator, d.delegator)) ds) ≡ false → AllByRecursion (λ d. delegation s d.delegator d.validator ≡ None) ds → AllByRecursion (λ d. delegation t d.delegator d.validator ≡ None) ds
pairs_after op who sh [] s t f e h = tt
pairs_after op who sh (d ∷ ds) s t f e h =
    let parts = either_not (is_at (pair_cmp (op, who)) (d.validator, d.delegator)) (list_any (is_at (pair_cmp (op, who))) (map (λ (x : GenesisDelegation). (x.validator, x.delegator)) ds)) e in (
      f d.delegator d.validator ∙ ap (λ b. cond b (Some sh) (delegation s d.delegator d.validator)) (pair_apart (op, who) (d.validator, d.delegator) parts.0) ∙ h.0,
      pairs_after op who sh ds s t f parts.1 h.1,
    )

-- ---- all delegations

delegations_sure : (ds : List GenesisDelegation) (k : ℕ) (w : World Staked Hooks) (v : View) → IsStarting ds (over {H = Unit {0}} tt w.mine v) → ArePairsNew ds w.mine → CanEnd k w.hooks.0 → k + length ds ≤ 10 ^ 18
    → IsOkAnd (each (delegation_added chain_told) ds w) (λ x. Unit {0})
delegations_sure [] k w v is new c l = tt
delegations_sure (d ∷ ds) k w v is new c l =
    let one : Added d ds tt w.mine v = one_added d ds tt w.mine v is in
    let x : Validator = one.validator in
    let n : ℕ = d.amount in
    let issued : ℕ = 10 ^ 18 * n in
    let unbonded : is_unbonded x.status ≡ true = all-found (λ (e : List ℕ × Validator). is_unbonded e.1.status ≡ true) d.validator x w.mine.validators is.unbonded one.found in
    let apart = either_not (list_any (is_at (pair_cmp (d.validator, d.delegator))) (map (λ (y : GenesisDelegation). (y.validator, y.delegator)) ds)) (has_pair_twice ds) new.once in
    sure_then {B = World Staked Hooks} (delegation_added chain_told d w) (λ y. each (delegation_added chain_told) ds y) (λ y. (y.mine ≡ grown_stake x d.delegator n issued w.mine) × CanEnd (k + 1) y.hooks.0) (λ y. Unit {0})
    (subst (λ (r : Option Validator). IsOkAnd (or_stop r NoValidator >>= λ y. delegated chain_told y d.delegator n (pool Unbonded) w >>= λ z. Ok z.1) (λ y. (y.mine ≡ grown_stake x d.delegator n issued w.mine) × CanEnd (k + 1) y.hooks.0)) (sym one.found)
    (sure_then (delegated chain_told x d.delegator n (pool Unbonded) w) (λ z. Ok z.1) (λ z. (z.1.mine ≡ grown_stake x d.delegator n issued w.mine) × CanEnd (k + 1) z.1.hooks.0) (λ y. (y.mine ≡ grown_stake x d.delegator n issued w.mine) × CanEnd (k + 1) y.hooks.0)
    (delegated_sure x d.delegator n issued k w one.given (ap (delegation w.mine d.delegator) one.operator ∙ new.none.0) unbonded c (first k (length ds) l)) (λ z j. j)))
    (λ y j. delegations_sure ds (k + 1) y v
    (subst (λ (s : Staked). IsStarting ds (over {H = Unit {0}} tt s v)) (one.left_is ∙ sym j.0) one.starting)
    (record {
      none = pairs_after d.validator d.delegator (unwrap_or (delegation w.mine d.delegator x.operator) 0 + issued) ds w.mine y.mine
          (λ who o. ap (λ (s : Staked). delegation s who o) j.0 ∙ at-put pair_cmp pair_total w.mine.delegations (x.operator, d.delegator) (o, who) (unwrap_or (delegation w.mine d.delegator x.operator) 0 + issued)
          ∙ ap (λ p. cond (is_at (pair_cmp (o, who)) (p, d.delegator)) (Some (unwrap_or (delegation w.mine d.delegator x.operator) 0 + issued)) (delegation w.mine who o)) one.operator)
          apart.0 new.none.1;
      once = apart.1;
    })
    j.1 (rest k (length ds) l))
  where
    first : (a b : ℕ) → a + suc b ≤ 10 ^ 18 → a < 10 ^ 18
    first a b e = omega (arith, e)

    rest : (a b : ℕ) → a + suc b ≤ 10 ^ 18 → a + 1 + b ≤ 10 ^ 18
    rest a b e = omega (arith, e)

-- ---- all validators

-- the validators, all entered
abbrev pub entered : List GenesisValidator → View → Staked → Staked
entered [] v s = s
entered (x ∷ xs) v s = entered xs v (put_validator (entrant v x) s)

pub entered_is : (vs : List GenesisValidator) (s : Staked) (v : View) → each (validator_added no_hook) vs (over {H = Unit {0}} tt s v) ≡ Ok (over {H = Unit {0}} tt (entered vs v s) v)
entered_is [] s v = refl
entered_is (x ∷ xs) s v = entered_is xs (put_validator (entrant v x) s) v

validators_sure : (vs : List GenesisValidator) (w : World Staked Hooks) → CanEnd 1 w.hooks.0 → IsOkAnd (each (validator_added chain_told) vs w) (λ x. (x.mine ≡ entered vs w.view w.mine) × CanEnd 1 x.hooks.0)
validators_sure [] w c = (refl, c)
validators_sure (x ∷ xs) w c =
    validators_sure xs _ (record { current = current_put w.hooks.0.purses x.operator no_purse c.current refl; periods = periods_put 1 w.hooks.0.rewards x.operator initial_records c.periods (omega arith) })

-- ---- the chain

pub none_yet : (ds : List GenesisDelegation) (s : Staked) → s.delegations ≡ [] → AllByRecursion (λ d. delegation s d.delegator d.validator ≡ None) ds
none_yet [] s e = tt
none_yet (d ∷ ds) s e = (ap (λ (es : List ((List ℕ × List ℕ) × ℕ)). at pair_cmp es (d.validator, d.delegator)) e, none_yet ds s e)

chain_sure : (g : Genesis) → IsGoodGenesis g → IsOkAnd (chain_started g) (λ s. Unit {0})
chain_sure g good =
    let v = ground_at_start g in
    let w = empty_over v in
    let b : Begun g tt = begun g tt good.no_condition in
    let left : entered g.validators v no_stake ≡ b.left = same_left _ _ (sym (entered_is g.validators no_stake v) ∙ b.gives) in
    sure_then {B = Start} (stake_added chain_told g (staked_in w)) _ (λ x. Unit {0}) (λ s. Unit {0})
    (sure_then {B = World Staked Hooks} (each (validator_added chain_told) g.validators (staked_in w)) (λ u. each (delegation_added chain_told) g.delegations u)
    (λ x. (x.mine ≡ entered g.validators v no_stake) × CanEnd 1 x.hooks.0) (λ x. Unit {0})
    (validators_sure g.validators (staked_in w) (record { current = λ o. refl; periods = λ o. omega arith }))
    (λ x k. delegations_sure g.delegations 1 x v
    (subst (λ (s : Staked). IsStarting g.delegations (over {H = Unit {0}} tt s v)) (sym (k.0 ∙ left)) b.starting)
    (record { none = none_yet g.delegations x.mine (ap (λ (s : Staked). s.delegations) (k.0 ∙ left) ∙ b.delegations); once = (may_start g good.no_condition).pairs })
    k.1 (all (length g.delegations) good.few)))
    (λ x t. let (y, e) = set_gives x in subst (λ (r : Result (World Staked Hooks) Over). IsOkAnd (stopping Overflow r >>= λ z. Ok (record { facts = (with_staked w.mine z).view.facts; state = without_facts (with_staked w.mine z) })) (λ (s : Start). Unit {0})) (sym e) tt)
  where
    all : (n : ℕ) → n < 10 ^ 18 → 1 + n ≤ 10 ^ 18
    all n e = omega (arith, e)

    same_left : (s t : Staked) → ◌≡◌ {A = Result (World Staked (Unit {0})) Refusal} (Ok (over tt s (ground_at_start g))) (Ok (over tt t (ground_at_start g))) → s ≡ t
    same_left s t e = let same : over {H = Unit {0}} tt s (ground_at_start g) ≡ over {H = Unit {0}} tt t (ground_at_start g) = cc in ap (λ (w : World Staked (Unit {0})). w.mine) same

pub genesis_is_sound : GenesisIsSound
genesis_is_sound g good = sure_if (chain_started g) (λ s. Unit {0}) (λ s. IsSound s.state) (chain_sure g good) (geneses_start_sound g good)
