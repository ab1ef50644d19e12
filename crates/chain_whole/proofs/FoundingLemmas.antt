-- A genesis of which no condition holds, over modules: none of its steps is refused, and each leads on.
use Rattle.std.proofs.Common.{◌≡◌, ◌∙◌, List, [], ◌∷◌, None, Result, Ok, Err, refl, sym, ap, subst, IsOkAnd, IsSome}
use Rattle.std.proofs.lemmas.List.Elements.{All-from_recursion, recursion_from_All}
use Rattle.base_types.specs.declared.status.BondStatus.TheVariants.{Unbonded}
use Rattle.base_decimals.specs.declared.over.Over.{Over}
use Rattle.base_roles.specs.declared.{faults.HookFault.HookFault, refusal.Refusal.{Refusal, TheVariants.Overflow}}
use Rattle.base_roles.specs.Answers.{WantsMemory}
use Rattle.base_roles.specs.Staked.{Staked, delegation, put_validator, validator_at, validator_by_cons}
use Rattle.base_roles.specs.{Flow.{◌>>=◌, each, stopping}, World.View}
use Rattle.base_messages.specs.declared.genesis.{Genesis.Genesis, GenesisDelegation.GenesisDelegation}
use Rattle.base_messages.specs.declared.genesis.GenesisValidator.{GenesisValidator}
use Rattle.rule_modules.specs.{BondedSet.set_updated, Chain.{State, Stakes, chain_told, set_step, staked_in}}
use Rattle.rule_modules.specs.{Delegating.pool, Sound.IsSound}
use Rattle.mod_staking.specs.Calls.{HasOrigin}
use Rattle.rule_machine.specs.GenesisConditions.{start_condition}
use Rattle.rule_machine.specs.GenesisState.{Start, chain_started, delegation_added, empty_over, ground_at_start, stake_added, validator_added, without_facts}
use Rattle.rule_machine.{specs.Promises.IsGoodGenesis, proofs.EnterLemmas.{IsEntering, Enters, entering, one_enters}}
use Rattle.rule_machine.proofs.{StartLemmas.{Added, entrant, one_added}, UnhookedLemmas.over}
use Rattle.law_soundness.proofs.{Founding.genesis_is_sound, Halfway.{IsHalfway, all_to_come, further, plainly}}
use Rattle.law_soundness.proofs.Steps.{from_if}
use Rattle.chain_blocks.specs.Answers.{Leads}
use Rattle.chain_modules.specs.declared.modules.Modules.{Modules}
use Rattle.chain_modules.specs.Kept.{KeptState, Keeps, AreSet, IsStakeScene, kept_of}
use Rattle.chain_whole.specs.Founding.{StakeWorld, AreAdding, HaveStarted, IsAdded, IsEmpty, IsNextDelegation, IsNextValidator, delegations_left, set_left, started_with, whole}

-- ---- the whole of it

-- what a genesis leads to, and the state that it starts, which is sound
pub record Founded (g : Genesis) (w : StakeWorld) : Type 0 where
  pub gives : whole g ≡ Ok w
  pub started : chain_started g ≡ Ok (record { facts = w.view.facts; state = without_facts (started_with g w) })
  pub sound : IsSound (without_facts (started_with g w))

pub founded : (g : Genesis) → IsGoodGenesis g → (w : StakeWorld) × Founded g w
founded g good =
    let f = first (stake_added chain_told g (staked_in (empty_over (ground_at_start g)))) (genesis_is_sound g good) in
    (f.0, record { gives = f.1; started = f.2; sound = f.3 })
  where
    start_of : StakeWorld → Start
    start_of w = record { facts = w.view.facts; state = without_facts (started_with g w) }

    second : (r : Result StakeWorld Over) → IsOkAnd (stopping Overflow r >>= λ w. Ok (start_of w)) (λ s. IsSound s.state)
        → (w : StakeWorld) × (stopping Overflow r ≡ Ok w) × ((stopping Overflow r >>= λ x. Ok (start_of x)) ≡ Ok (start_of w)) × IsSound (start_of w).state
    second (Ok w) h = (w, refl, refl, h)
    second (Err e) h = absurd h

    first : (r : Result StakeWorld Refusal) → IsOkAnd (r >>= λ w1. stopping Overflow (set_updated chain_told w1) >>= λ w. Ok (start_of w)) (λ s. IsSound s.state)
        → (w : StakeWorld) × ((r >>= set_left) ≡ Ok w) × ((r >>= λ w1. stopping Overflow (set_updated chain_told w1) >>= λ x. Ok (start_of x)) ≡ Ok (start_of w)) × IsSound (start_of w).state
    first (Ok w1) h = second (set_updated chain_told w1) h
    first (Err e) h = absurd h

-- a step that leads to something gave something
goes_on : {A B E : Type 0} (r : Result A E) (f : A → Result B E) (b : B) → (r >>= f) ≡ Ok b → (a : A) × (r ≡ Ok a)
goes_on (Ok a) f b e = (a, refl)
goes_on (Err d) f b e = absurd cc

-- ---- validators

-- Modules while these validators are to come: the ground is as it was, and they lead to what all of them do.
pub record AreEntering {E : Type 0} (g : Genesis) (vs : List GenesisValidator) (m : Modules E) : Type 0 where
  pub scene : IsStakeScene m
  pub world : StakeWorld
  pub keeps : Keeps (kept_of m) (started_with g world)
  pub entering : IsEntering g.params vs world.mine
  pub still : world.view ≡ ground_at_start g
  pub leads : each (validator_added chain_told) vs world ≡ each (validator_added chain_told) g.validators (staked_in (empty_over (ground_at_start g)))

pub first_entering : {E : Type 0} (g : Genesis) (m : Modules E) → start_condition g ≡ None → IsEmpty g m → AreEntering g g.validators m
first_entering g m e h = record {
  scene = h.scene;
  world = staked_in (empty_over (ground_at_start g));
  keeps = h.keeps;
  entering = entering g e;
  still = refl;
  leads = refl;
}

-- the staking that modules keep is the state's
same_staked : {E : Type 0} (g : Genesis) (m : Modules E) (w : StakeWorld) → Keeps (kept_of m) (started_with g w) → m.stakes.staking.staked ≡ w.mine
same_staked g m w k = sym (ap (λ (c : Stakes). c.staked) k.stakes)

pub next_enters : {E : Type 0} (g : Genesis) (v : GenesisValidator) (vs : List GenesisValidator) (m : Modules E) → AreEntering g (v ∷ vs) m → IsNextValidator v m
next_enters g v vs m h =
    let one : Enters g.params v vs h.world.mine h.world.view = one_enters g.params v vs h.world.mine h.world.view h.entering in
    let same = same_staked g m h.world h.keeps in
    record {
      scene = h.scene;
      new = ap (λ (s : Staked). validator_at s v.operator) same ∙ one.new;
      new_cons = ap (λ (s : Staked). validator_by_cons s v.cons) same ∙ one.new_cons;
      rates = record { max_rate = one.max_rate; rate = one.rate; max_change = one.max_change };
      state = started_with g h.world;
      keeps = h.keeps;
      sure = (_, refl);
    }

pub then_entering : {E : Type 0} (g : Genesis) (v : GenesisValidator) (vs : List GenesisValidator) (old new : Modules E) → AreEntering g (v ∷ vs) old → IsStakeScene new
    → ((p : State) → Keeps (kept_of old) p → IsAdded p.mine (validator_added chain_told v (staked_in p)) (kept_of new)) → AreEntering g vs new
then_entering g v vs old new h scene added =
    let one : Enters g.params v vs h.world.mine h.world.view = one_enters g.params v vs h.world.mine h.world.view h.entering in
    let z = added (started_with g h.world) h.keeps in
    let w : StakeWorld = z.0 in
    let is : validator_added chain_told v h.world ≡ Ok w = z.1 in
    let own = stored_as h.world v w is in
    record {
      scene = scene;
      world = w;
      keeps = z.2;
      entering = subst (λ (s : Staked). IsEntering g.params vs s) (sym own.0) one.entering;
      still = own.1 ∙ h.still;
      leads = ap (λ (r : Result StakeWorld Refusal). r >>= λ t. each (validator_added chain_told) vs t) (sym is) ∙ h.leads;
    }
  where
    stored_as : (s : StakeWorld) (x : GenesisValidator) (w : StakeWorld) → validator_added chain_told x s ≡ Ok w → (w.mine ≡ put_validator (entrant s.view x) s.mine) × (w.view ≡ s.view)
    stored_as s x w e = from_if (λ u. (u.mine ≡ put_validator (entrant s.view x) s.mine) × (u.view ≡ s.view)) (validator_added chain_told x s) w e (refl, refl)

pub all_entered : {E : Type 0} (g : Genesis) (m : Modules E) → start_condition g ≡ None → AreEntering g [] m → AreAdding g g.delegations (delegations_left g.delegations) m
all_entered g m e h =
    let half : IsHalfway g.delegations (ground_at_start g) h.world
    = from_if (IsHalfway g.delegations (ground_at_start g)) (each (validator_added chain_told) g.validators (staked_in (empty_over (ground_at_start g)))) h.world (sym h.leads) (all_to_come g e) in
    record {
      scene = h.scene;
      world = h.world;
      keeps = h.keeps;
      starting = half.starting;
      none = All-from_recursion (λ d. delegation h.world.mine d.delegator d.validator ≡ None) g.delegations half.new.none;
      once = half.new.once;
      leads = ap (λ (r : Result StakeWorld Refusal). r >>= (λ u. each (delegation_added chain_told) g.delegations u) >>= set_left) h.leads;
    }

-- ---- delegations

halfway_of : {E : Type 0} (g : Genesis) (ds : List GenesisDelegation) (left : StakeWorld → Result StakeWorld Refusal) (m : Modules E) (h : AreAdding g ds left m) → IsHalfway ds h.world.view h.world
halfway_of g ds left m h = record {
  starting = h.starting;
  new = record { none = recursion_from_All (λ d. delegation h.world.mine d.delegator d.validator ≡ None) ds h.none; once = h.once };
  still = record { bank = refl; ctx = refl };
}

pub next_joins : {E : Type 0} (g : Genesis) (d : GenesisDelegation) (ds : List GenesisDelegation) (m : Modules E) → IsGoodGenesis g → AreAdding g (d ∷ ds) (delegations_left (d ∷ ds)) m → IsNextDelegation d m
next_joins g d ds m good h =
    let one : Added d ds tt h.world.mine h.world.view = one_added d ds tt h.world.mine h.world.view (plainly (d ∷ ds) h.world h.starting) in
    let same = same_staked g m h.world h.keeps in
    let due = founded g good in
    let joined = goes_on (each (delegation_added chain_told) (d ∷ ds) h.world) set_left due.0 (h.leads ∙ due.1.gives) in
    record {
      scene = h.scene;
      known = subst (λ (s : Staked). IsSome (validator_at s d.validator)) (sym same) (subst IsSome (sym one.found) refl);
      some = one.some;
      origin = subst (λ (v : View). HasOrigin (pool Unbonded) d.amount m.stakes.staking.staked v) h.keeps.view (subst (λ (s : Staked). HasOrigin (pool Unbonded) d.amount s h.world.view) (sym same) one.funded);
      state = started_with g h.world;
      keeps = h.keeps;
      sure = goes_on (delegation_added chain_told d h.world) (λ t. each (delegation_added chain_told) ds t) joined.0 joined.1;
    }

pub then_adding : {E : Type 0} (g : Genesis) (d : GenesisDelegation) (ds : List GenesisDelegation) (old new : Modules E) → AreAdding g (d ∷ ds) (delegations_left (d ∷ ds)) old → IsStakeScene new
    → ((p : State) → Keeps (kept_of old) p → IsAdded p.mine (delegation_added chain_told d (staked_in p)) (kept_of new)) → AreAdding g ds (delegations_left ds) new
then_adding g d ds old new h scene added =
    let z = added (started_with g h.world) h.keeps in
    let w : StakeWorld = z.0 in
    let is : delegation_added chain_told d h.world ≡ Ok w = z.1 in
    let half : IsHalfway ds h.world.view w = from_if (IsHalfway ds h.world.view) (delegation_added chain_told d h.world) w is (further d ds h.world.view h.world (halfway_of g (d ∷ ds) (delegations_left (d ∷ ds)) old h)) in
    record {
      scene = scene;
      world = w;
      keeps = z.2;
      starting = half.starting;
      none = All-from_recursion (λ x. delegation w.mine x.delegator x.validator ≡ None) ds half.new.none;
      once = half.new.once;
      leads = ap (λ (r : Result StakeWorld Refusal). r >>= (λ t. each (delegation_added chain_told) ds t) >>= set_left) (sym is) ∙ h.leads;
    }

-- ---- the bonded set

pub set_made : {E : Type 0} (g : Genesis) (old new : Modules E) → AreAdding g [] set_left old → AreSet new → ((p : State) → Keeps (kept_of old) p → Leads Keeps (set_step p) (kept_of new) (Ok tt)) → HaveStarted g new
set_made g old new h power leads = by (set_updated chain_told h.world) h.leads (leads (started_with g h.world) h.keeps)
  where
    by : (r : Result StakeWorld Over) → stopping Overflow r ≡ whole g → Leads Keeps (r >>= λ s. Ok (started_with g s)) (kept_of new) (Ok tt) → HaveStarted g new
    by (Ok w) e k = record { power = power; world = w; keeps = k; leads = sym e }
    by (Err over) e k = absurd k

-- making it wants memory at most
pub set_sure : {E : Type 0} (g : Genesis) (old : Modules E) (k2 : KeptState) (fault : HookFault) → IsGoodGenesis g → AreAdding g [] set_left old → ((p : State) → Keeps (kept_of old) p → Leads Keeps (set_step p) k2 (Err fault)) → WantsMemory fault
set_sure g old k2 fault good h leads = by (set_updated chain_told h.world) (h.leads ∙ (founded g good).1.gives) (leads (started_with g h.world) h.keeps)
  where
    by : (r : Result StakeWorld Over) → stopping Overflow r ≡ Ok (founded g good).0 → Leads Keeps (r >>= λ s. Ok (started_with g s)) k2 (Err fault) → WantsMemory fault
    by (Ok w) e k = k
    by (Err over) e k = absurd cc
