-- Half way through a genesis: no coins move while its validators and delegations are added, so what its next delegation needs still holds.
use Rattle.std.proofs.Common.{◌≡◌, ◌∙◌, ℕ, ◌+◌, ◌*◌, ◌^◌, Bool, true, false, cond, List, [], ◌∷◌, map, Option, Some, None, Result, Ok, Err, refl, sym, ap, subst, IfOk, unwrap_or}
use Rattle.std.specs.{List.list_any, BTreeMap.is_at}
use Rattle.base_types.specs.declared.account.Account.TheVariants as account
use Rattle.base_types.specs.declared.account.Module.TheVariants as holder
use Rattle.base_types.specs.declared.status.BondStatus.{BondStatus, TheVariants.{Bonded, Unbonding, Unbonded}}
use Rattle.base_decimals.specs.declared.over.Over.{Over}
use Rattle.base_roles.specs.declared.{entities.Validator.Validator, params.Ctx.Ctx, refusal.Refusal.Refusal}
use Rattle.base_roles.specs.declared.refusal.Refusal.TheVariants.{NoValidator, Overflow}
use Rattle.base_roles.specs.{Holdings.{Holdings, balance_of}, Log.Log, Orders.pair_cmp, Pair.{and_then, given_with}}
use Rattle.base_roles.specs.Staked.{Staked, delegation, is_unbonded, put_validator}
use Rattle.base_roles.specs.{Flow.{◌>>=◌, each, or_stop, stopping}, World.{View, World, call, hooked}}
use Rattle.base_roles.specs.declared.calls.Hook.TheVariants as hook
use Rattle.base_messages.specs.declared.genesis.{Genesis.Genesis, GenesisDelegation.GenesisDelegation}
use Rattle.base_messages.specs.declared.genesis.GenesisValidator.{GenesisValidator}
use Rattle.rule_machine.specs.{Founding.{IsStarting, no_hook}, GenesisConditions.{has_pair_twice, start_condition}}
use Rattle.rule_machine.specs.GenesisState.{delegation_added, empty_over, ground_at_start, validator_added}
use Rattle.rule_machine.proofs.StakeLemmas.{all-found}
use Rattle.rule_machine.proofs.StartLemmas.{Added, Begun, begun, may_start, no_stake, one_added}
use Rattle.rule_machine.proofs.UnhookedLemmas.{grown_stake, over}
use Rattle.rule_modules.proofs.{EntryLemmas.at-put, OrderLemmas.pair_total}
use Rattle.rule_modules.specs.Chain.{Hooks, chain_told, staked_in}
use Rattle.rule_modules.specs.Delegating.{delegated, hook_before, paid_in, pool, shares_given}
use Rattle.rule_modules.specs.Distribution.{Shared, current_taken, ended, left_by, told_of}
use Rattle.rule_modules.specs.{Periods.{period_ended, periods_of}, Stakes.put_delegation, Window.window_told}
use Rattle.law_soundness.proofs.Founding.{ArePairsNew, either_not, entered, entered_is, none_yet, pairs_after}
use Rattle.law_soundness.proofs.Steps.{on_then, weaker_if}

-- no coin moved, at the same height and time
pub record IsStill (v u : View) : Type 0 where
  pub bank : u.bank ≡ v.bank
  pub ctx : u.ctx ≡ v.ctx

anything : {A E : Type 0} (r : Result A E) → IfOk r (λ a. Unit {0})
anything (Ok a) = tt
anything (Err e) = tt

-- both accounts are the not-bonded one
nothing_moves : (who : List ℕ) (status : BondStatus) (n : ℕ) (v : View) → is_unbonded status ≡ true → paid_in (pool Unbonded) who status n v ≡ Ok v
nothing_moves who Bonded n v e = absurd cc
nothing_moves who Unbonding n v e = absurd cc
nothing_moves who Unbonded n v e = refl

-- ---- a delegation that is new

ended_still : (val : Validator) (d : Shared) (v : View) → IfOk (ended val d v) (λ z. IsStill v z.2)
ended_still val d v =
    on_then (current_taken val d.purses) _ (λ t. Unit {0}) _ (anything (current_taken val d.purses)) (λ t s.
    on_then (period_ended t.0 (periods_of d.rewards val.operator)) _ (λ y. Unit {0}) _ (anything (period_ended t.0 (periods_of d.rewards val.operator))) (λ y m.
    record { bank = refl; ctx = refl }))

-- the hook before it
starting_still : (v : Validator) (who : List ℕ) (w : World Staked Hooks) → IfOk (stopping Overflow (call chain_told (hook.Starting v who) w)) (λ x. (x.mine ≡ w.mine) × IsStill w.view x.view)
starting_still v who w = by (ended v w.hooks.0 w.view) (ended_still v w.hooks.0 w.view)
  where
    by : (r : Result (ℕ × Shared × View × Log) Over) → IfOk r (λ z. IsStill w.view z.2)
        → IfOk (stopping Overflow (hooked (and_then (told_of (left_by r)) (λ d u more. given_with d more (window_told w.hooks.1 (hook.Starting v who) u))) w)) (λ x. (x.mine ≡ w.mine) × IsStill w.view x.view)
    by (Ok z) h = (refl, h)
    by (Err e) h = tt

delegated_still : (v : Validator) (who : List ℕ) (n issued : ℕ) (w : World Staked Hooks) → shares_given v n ≡ Ok issued → delegation w.mine who v.operator ≡ None → is_unbonded v.status ≡ true
    → IfOk (delegated chain_told v who n (pool Unbonded) w) (λ x. (x.1.mine ≡ grown_stake v who n issued w.mine) × IsStill w.view x.1.view)
delegated_still v who n issued w given none unbonded =
    let held = delegation w.mine who v.operator in
    on_then (shares_given v n) _ (λ i. i ≡ issued) _ (subst (λ (r : Result ℕ Refusal). IfOk r (λ i. i ≡ issued)) (sym given) refl) (λ i same.
    on_then (stopping Overflow (call chain_told (hook_before v who held) w)) _ (λ x. (x.mine ≡ w.mine) × IsStill w.view x.view) _
    (subst (λ (o : Option ℕ). IfOk (stopping Overflow (call chain_told (hook_before v who o) w)) (λ x. (x.mine ≡ w.mine) × IsStill w.view x.view)) (sym none) (starting_still v who w)) (λ x s.
    on_then (paid_in (pool Unbonded) who v.status n x.view) _ (λ u. u ≡ x.view) _
    (subst (λ (r : Result View Refusal). IfOk r (λ u. u ≡ x.view)) (sym (nothing_moves who v.status n x.view unbonded)) refl) (λ u t. (
      ap (λ (m : Staked). put_delegation who v.operator (unwrap_or held 0 + i) (put_validator (record v { tokens = v.tokens + n; shares = v.shares + i }) m)) s.0 ∙ ap (λ j. grown_stake v who n j w.mine) same,
      record { bank = ap (λ (y : View). y.bank) t ∙ s.1.bank; ctx = ap (λ (y : View). y.ctx) t ∙ s.1.ctx },
    ))))

-- ---- half way

-- where no coin moved, the not-bonded account holds what it held
restarted : {H : Type 0} (h : H) (ds : List GenesisDelegation) (s : Staked) (v : View) (u : World Staked Hooks) → IsStarting ds (over h s v) → u.mine ≡ s → IsStill v u.view → IsStarting ds u
restarted h ds s v u is mine still =
    let to : IsStarting ds (over h u.mine v) = subst (λ (x : Staked). IsStarting ds (over h x v)) (sym mine) is in
    record {
      known = to.known;
      positive = to.positive;
      ascend = to.ascend;
      operators = to.operators;
      rate = to.rate;
      unbonded = to.unbonded;
      held = ap (λ (b : Holdings). balance_of b (account.Module holder.NotBonded) u.view.ctx.params.bond_denom) still.bank
          ∙ ap (λ (c : Ctx). balance_of v.bank (account.Module holder.NotBonded) c.params.bond_denom) still.ctx ∙ to.held;
      most = to.most;
    }

pub plainly : (ds : List GenesisDelegation) (w : World Staked Hooks) → IsStarting ds w → IsStarting ds (over {H = Unit {0}} tt w.mine w.view)
plainly ds w is = record { known = is.known; positive = is.positive; ascend = is.ascend; operators = is.operators; rate = is.rate; unbonded = is.unbonded; held = is.held; most = is.most }

-- what holds of a genesis half way, while these delegations are to come, over the machine's hooks, on the ground that it began with
pub record IsHalfway (ds : List GenesisDelegation) (v : View) (w : World Staked Hooks) : Type 0 where
  pub starting : IsStarting ds w
  pub new : ArePairsNew ds w.mine
  pub still : IsStill v w.view

-- once the first of them is added the others are to come
pub further : (d : GenesisDelegation) (ds : List GenesisDelegation) (v : View) (w : World Staked Hooks) → IsHalfway (d ∷ ds) v w → IfOk (delegation_added chain_told d w) (IsHalfway ds v)
further d ds v w is =
    let one : Added d ds tt w.mine w.view = one_added d ds tt w.mine w.view (plainly (d ∷ ds) w is.starting) in
    let x : Validator = one.validator in
    let n : ℕ = d.amount in
    let issued : ℕ = 10 ^ 18 * n in
    let unbonded : is_unbonded x.status ≡ true = all-found (λ (e : List ℕ × Validator). is_unbonded e.1.status ≡ true) d.validator x w.mine.validators is.starting.unbonded one.found in
    let apart = either_not (list_any (is_at (pair_cmp (d.validator, d.delegator))) (map (λ (y : GenesisDelegation). (y.validator, y.delegator)) ds)) (has_pair_twice ds) is.new.once in
    weaker_if (delegation_added chain_told d w) (λ y. (y.mine ≡ grown_stake x d.delegator n issued w.mine) × IsStill w.view y.view) (IsHalfway ds v)
    (subst (λ (r : Option Validator). IfOk (or_stop r NoValidator >>= λ y. delegated chain_told y d.delegator n (pool Unbonded) w >>= λ z. Ok z.1) (λ y. (y.mine ≡ grown_stake x d.delegator n issued w.mine) × IsStill w.view y.view)) (sym one.found)
    (on_then (delegated chain_told x d.delegator n (pool Unbonded) w) (λ z. Ok z.1) (λ z. (z.1.mine ≡ grown_stake x d.delegator n issued w.mine) × IsStill w.view z.1.view) (λ y. (y.mine ≡ grown_stake x d.delegator n issued w.mine) × IsStill w.view y.view)
    (delegated_still x d.delegator n issued w one.given (ap (delegation w.mine d.delegator) one.operator ∙ is.new.none.0) unbonded) (λ z j. j)))
    (λ y j. record {
      starting = restarted tt ds one.left w.view y one.starting (j.0 ∙ sym one.left_is) j.1;
      new = record {
        none = pairs_after d.validator d.delegator (unwrap_or (delegation w.mine d.delegator x.operator) 0 + issued) ds w.mine y.mine
            (λ who o. ap (λ (s : Staked). delegation s who o) j.0 ∙ at-put pair_cmp pair_total w.mine.delegations (x.operator, d.delegator) (o, who) (unwrap_or (delegation w.mine d.delegator x.operator) 0 + issued)
            ∙ ap (λ p. cond (is_at (pair_cmp (o, who)) (p, d.delegator)) (Some (unwrap_or (delegation w.mine d.delegator x.operator) 0 + issued)) (delegation w.mine who o)) one.operator)
            apart.0 is.new.none.1;
        once = apart.1;
      };
      still = record { bank = j.1.bank ∙ is.still.bank; ctx = j.1.ctx ∙ is.still.ctx };
    })

-- ---- before the first delegation

-- validators enter, and the ground stays
entered_if : (vs : List GenesisValidator) (w : World Staked Hooks) → IfOk (each (validator_added chain_told) vs w) (λ u. (u.mine ≡ entered vs w.view w.mine) × (u.view ≡ w.view))
entered_if [] w = (refl, refl)
entered_if (x ∷ xs) w = entered_if xs _

-- once all validators have entered, all delegations are to come
pub all_to_come : (g : Genesis) → start_condition g ≡ None → IfOk (each (validator_added chain_told) g.validators (staked_in (empty_over (ground_at_start g)))) (IsHalfway g.delegations (ground_at_start g))
all_to_come g e =
    let v = ground_at_start g in
    let w = staked_in (empty_over v) in
    let b : Begun g tt = begun g tt e in
    let left : entered g.validators v no_stake ≡ b.left = same_left _ _ (sym (entered_is g.validators no_stake v) ∙ b.gives) in
    weaker_if (each (validator_added chain_told) g.validators w) (λ u. (u.mine ≡ entered g.validators v no_stake) × (u.view ≡ v)) (IsHalfway g.delegations v) (entered_if g.validators w) (λ u k.
    let mine : u.mine ≡ b.left = k.0 ∙ left in
    let still : IsStill v u.view = record { bank = ap (λ (y : View). y.bank) k.1; ctx = ap (λ (y : View). y.ctx) k.1 } in
    record {
      starting = restarted tt g.delegations b.left v u b.starting mine still;
      new = record { none = none_yet g.delegations u.mine (ap (λ (s : Staked). s.delegations) mine ∙ b.delegations); once = (may_start g e).pairs };
      still = still;
    })
  where
    same_left : (s t : Staked) → ◌≡◌ {A = Result (World Staked (Unit {0})) Refusal} (Ok (over tt s (ground_at_start g))) (Ok (over tt t (ground_at_start g))) → s ≡ t
    same_left s t q = let same : over {H = Unit {0}} tt s (ground_at_start g) ≡ over {H = Unit {0}} tt t (ground_at_start g) = cc in ap (λ (y : World Staked (Unit {0})). y.mine) same
