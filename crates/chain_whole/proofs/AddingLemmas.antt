-- A validator and a delegation of a genesis: from what staking's calls answer and leave to what the genesis does; and all of them so far.
use Rattle.std.proofs.Common.{◌≡◌, ◌∙◌, ℕ, ◌+◌, ◌<◌, List, [], ◌∷◌, drop, length, get_or, Option, Some, None, Result, Ok, Err, refl, sym, ap, subst, IsSome}
use Rattle.std.specs.Prelude.{⊤}
use Rattle.base_types.specs.declared.status.BondStatus.TheVariants.{Unbonded}
use Rattle.base_decimals.specs.declared.over.Over.{Over}
use Rattle.base_roles.specs.declared.{entities.Validator.Validator, faults.HookFault.HookFault}
use Rattle.base_roles.specs.declared.{faults.MessageFault.MessageFault, refusal.Refusal.Refusal}
use Rattle.base_roles.specs.declared.refusal.Refusal.TheVariants.{NoValidator, Overflow}
use Rattle.base_roles.specs.Answers.{AnswersAs, AsRuled, RefusesAs, StopsForMemory, WantsMemory}
use Rattle.base_roles.specs.{Staked.{Staked, validator_at}, Flow.{◌>>=◌, or_stop, stopping}, World.World}
use Rattle.base_messages.specs.declared.genesis.{Genesis.Genesis, GenesisDelegation.GenesisDelegation}
use Rattle.base_messages.specs.declared.genesis.GenesisValidator.{GenesisValidator}
use Rattle.rule_modules.specs.{Answers.Leaves, Chain.{Hooks, State, chain_told, staked_in, with_staked}}
use Rattle.rule_modules.specs.{Delegating.{delegated, pool}, Validators.{new_validator, stored}}
use Rattle.mod_staking.specs.Calls.{over}
use Rattle.rule_machine.specs.GenesisConditions.{creation_of, start_condition}
use Rattle.rule_machine.specs.{GenesisState.{delegation_added, validator_added}, Promises.IsGoodGenesis}
use Rattle.chain_modules.specs.declared.modules.Modules.{Modules}
use Rattle.chain_modules.specs.{Kept.{Keeps, IsStakeScene, ground_of, hooks_hold, hooks_tell, kept_of}, Marks.GoOn}
use Rattle.chain_modules.proofs.CarryLemmas.{delegated_carried, stored_carried}
use Rattle.chain_modules.proofs.HookLemmas.{held_as, logged_again, told_as, told_itself, unlogged}
use Rattle.chain_modules.proofs.MarkLemmas.{stay_on, then_on}
use Rattle.chain_transactions.proofs.{EndLemmas.{dropped, ends_hooked, told_here}, MessageLemmas.next}
use Rattle.chain_blocks.{proofs.EndLemmas.leads_hooked, specs.Answers.Leads}
use Rattle.chain_whole.specs.Founding.{AreAdding, IsAdded, IsEmpty, IsNextDelegation, IsNextValidator, delegations_left, set_left}
use Rattle.chain_whole.proofs.FoundingLemmas.{AreEntering, all_entered, first_entering, next_enters, next_joins, then_adding, then_entering}

-- what is there
pub the_validator : (o : Option Validator) → IsSome o → (x : Validator) × (o ≡ Some x)
the_validator (Some x) h = (x, refl)
the_validator None h = absurd cc

-- ---- one validator

module _ {E : Type 0} (old new : Modules E) (p : State) (k : Keeps (kept_of old) p) (ctx : new.ground.ctx ≡ old.ground.ctx) (u : new.stakes.unbondings.lists ≡ old.stakes.unbondings.lists) (r : new.stakes.redelegations.lists ≡ old.stakes.redelegations.lists) where
  stored_leads : (x : Validator) (answer : Result ⊤ HookFault)
      → Leaves (stored hooks_tell.told x (over old.stakes.staking.staked (held_as old.ground.ctx.params.signed_blocks_window p.hooks) (ground_of old))) new.stakes.staking.staked (hooks_hold new.hooks) (ground_of new) answer
      → Leads Keeps (stored chain_told x (staked_in p) >>= λ s. Ok (with_staked p.mine s)) (kept_of new) answer
  stored_leads x answer h =
      leads_hooked old new p k ctx u r (stored chain_told x) (stored hooks_tell.told x)
      (ap (stored chain_told x) (logged_again p) ∙ stored_carried (λ (y : Hooks). y) p.log chain_told chain_told (told_itself p.log) x (unlogged p))
      (stored_carried (held_as old.ground.ctx.params.signed_blocks_window) [] chain_told hooks_tell.told (told_as old.ground.ctx.params.signed_blocks_window) x (unlogged p)) answer h

  -- a validator that was admitted is what the genesis adds
  pub admitted_added : (v : GenesisValidator) → p.view ≡ ground_of old
      → Leaves (stored hooks_tell.told (new_validator (creation_of old.ground.ctx.params.bond_denom v) old.ground.ctx.time) (over old.stakes.staking.staked (held_as old.ground.ctx.params.signed_blocks_window p.hooks) (ground_of old)))
      new.stakes.staking.staked (hooks_hold new.hooks) (ground_of new) (Ok tt)
      → IsAdded p.mine (validator_added chain_told v (staked_in p)) (kept_of new)
  admitted_added v same h =
      by (stored chain_told (new_validator (creation_of p.view.ctx.params.bond_denom v) p.view.ctx.time) (staked_in p))
      (subst (λ w. Leads Keeps (stored chain_told (new_validator (creation_of w.ctx.params.bond_denom v) w.ctx.time) (staked_in p) >>= λ s. Ok (with_staked p.mine s)) (kept_of new) (Ok tt)) (sym same)
      (stored_leads (new_validator (creation_of old.ground.ctx.params.bond_denom v) old.ground.ctx.time) (Ok tt) h))
    where
      by : (q : Result (World Staked Hooks) Over) → Leads Keeps (q >>= λ s. Ok (with_staked p.mine s)) (kept_of new) (Ok tt) → IsAdded p.mine (stopping Overflow q) (kept_of new)
      by (Ok s) t = (s, refl, t)
      by (Err over) t = absurd t

  -- one that the genesis adds wants memory at most
  pub admission_sure : (v : GenesisValidator) (w : World Staked Hooks) (fault : HookFault) → p.view ≡ ground_of old → validator_added chain_told v (staked_in p) ≡ Ok w
      → Leaves (stored hooks_tell.told (new_validator (creation_of old.ground.ctx.params.bond_denom v) old.ground.ctx.time) (over old.stakes.staking.staked (held_as old.ground.ctx.params.signed_blocks_window p.hooks) (ground_of old)))
      new.stakes.staking.staked (hooks_hold new.hooks) (ground_of new) (Err fault)
      → WantsMemory fault
  admission_sure v w fault same sure h =
      by (stored chain_told (new_validator (creation_of p.view.ctx.params.bond_denom v) p.view.ctx.time) (staked_in p)) sure
      (subst (λ z. Leads Keeps (stored chain_told (new_validator (creation_of z.ctx.params.bond_denom v) z.ctx.time) (staked_in p) >>= λ s. Ok (with_staked p.mine s)) (kept_of new) (Err fault)) (sym same)
      (stored_leads (new_validator (creation_of old.ground.ctx.params.bond_denom v) old.ground.ctx.time) (Err fault) h))
    where
      by : (q : Result (World Staked Hooks) Over) → stopping Overflow q ≡ Ok w → Leads Keeps (q >>= λ s. Ok (with_staked p.mine s)) (kept_of new) (Err fault) → WantsMemory fault
      by (Ok s) e t = t
      by (Err over) e t = absurd cc

  -- ---- one delegation

  delegated_ends : (x : Validator) (who : List ℕ) (n : ℕ) (answer : Result ℕ MessageFault)
      → AnswersAs (delegated hooks_tell.told x who n (pool Unbonded) (over old.stakes.staking.staked (held_as old.ground.ctx.params.signed_blocks_window p.hooks) (ground_of old))) new.stakes.staking.staked (hooks_hold new.hooks) (ground_of new) answer
      → AsRuled (delegated chain_told x who n (pool Unbonded) (staked_in p) >>= λ d. Ok (with_staked p.mine d.1)) (dropped answer) (λ due a. Keeps (kept_of new) due) StopsForMemory RefusesAs
  delegated_ends x who n answer h =
      ends_hooked old new p k ctx (delegated chain_told x who n (pool Unbonded))
      (ap (delegated chain_told x who n (pool Unbonded)) (logged_again p) ∙ delegated_carried (λ (y : Hooks). y) p.log chain_told chain_told (told_itself p.log) x who n (pool Unbonded) (unlogged p)) u r answer
      (told_here old new p k ctx (delegated chain_told x who n (pool Unbonded)) (delegated hooks_tell.told x who n (pool Unbonded))
      (delegated_carried (held_as old.ground.ctx.params.signed_blocks_window) [] chain_told hooks_tell.told (told_as old.ground.ctx.params.signed_blocks_window) x who n (pool Unbonded) (unlogged p)) answer h)

  -- what a delegation of the genesis comes to, at its validator
  added_at : (d : GenesisDelegation) (x : Validator) → validator_at p.mine.staked d.validator ≡ Some x
      → (delegated chain_told x d.delegator d.amount (pool Unbonded) (staked_in p) >>= λ z. Ok z.1) ≡ delegation_added chain_told d (staked_in p)
  added_at d x e = sym (ap (λ (o : Option Validator). or_stop o NoValidator >>= λ y. delegated chain_told y d.delegator d.amount (pool Unbonded) (staked_in p) >>= λ z. Ok z.1) e)

  pub delegated_added : (d : GenesisDelegation) (x : Validator) (issued : ℕ) → validator_at p.mine.staked d.validator ≡ Some x
      → AnswersAs (delegated hooks_tell.told x d.delegator d.amount (pool Unbonded) (over old.stakes.staking.staked (held_as old.ground.ctx.params.signed_blocks_window p.hooks) (ground_of old))) new.stakes.staking.staked (hooks_hold new.hooks) (ground_of new) (Ok issued)
      → IsAdded p.mine (delegation_added chain_told d (staked_in p)) (kept_of new)
  delegated_added d x issued e h =
      subst (λ q. IsAdded p.mine q (kept_of new)) (added_at d x e)
      (by (delegated chain_told x d.delegator d.amount (pool Unbonded) (staked_in p)) (delegated_ends x d.delegator d.amount (Ok issued) h))
    where
      by : (q : Result (ℕ × World Staked Hooks) Refusal) → AsRuled {A = ⊤} {F = MessageFault} (q >>= λ z. Ok (with_staked p.mine z.1)) (Ok tt) (λ due a. Keeps (kept_of new) due) StopsForMemory RefusesAs → IsAdded p.mine (q >>= λ z. Ok z.1) (kept_of new)
      by (Ok z) t = (z.1, refl, t)
      by (Err why) t = absurd t

  -- one that the genesis adds stops for memory alone
  pub delegation_sure : (d : GenesisDelegation) (x : Validator) (w : World Staked Hooks) (why : MessageFault) → validator_at p.mine.staked d.validator ≡ Some x → delegation_added chain_told d (staked_in p) ≡ Ok w
      → AnswersAs (delegated hooks_tell.told x d.delegator d.amount (pool Unbonded) (over old.stakes.staking.staked (held_as old.ground.ctx.params.signed_blocks_window p.hooks) (ground_of old))) new.stakes.staking.staked (hooks_hold new.hooks) (ground_of new) (Err why)
      → StopsForMemory why
  delegation_sure d x w why e sure h =
      by (delegated chain_told x d.delegator d.amount (pool Unbonded) (staked_in p)) (added_at d x e ∙ sure) (delegated_ends x d.delegator d.amount (Err why) h)
    where
      by : (q : Result (ℕ × World Staked Hooks) Refusal) → ◌≡◌ {A = Result (World Staked Hooks) Refusal} (q >>= λ z. Ok z.1) (Ok w) → AsRuled {A = ⊤} {F = MessageFault} (q >>= λ z. Ok (with_staked p.mine z.1)) (Err why) (λ due a. Keeps (kept_of new) due) StopsForMemory RefusesAs → StopsForMemory why
      by (Ok z) s t = t
      by (Err due) s t = absurd cc

-- ---- all of them so far

-- the validators before this place have entered
pub record EnteredSoFar {E : Type 0} (g : Genesis) (place : ℕ) (old new : Modules E) : Type 0 where
  pub entering : AreEntering g (drop place g.validators) new
  pub go_on : GoOn old new

pub none_entered : {E : Type 0} (g : Genesis) (m : Modules E) → start_condition g ≡ None → IsEmpty g m → EnteredSoFar g 0 m m
none_entered g m e h = record { entering = first_entering g m e h; go_on = stay_on m }

module _ {E : Type 0} (g : Genesis) (place : ℕ) (v : GenesisValidator) (old new : Modules E) (lt : place < length g.validators) (is : v ≡ get_or g.validators place v) (so : EnteredSoFar g place old new) where
  entering_here : AreEntering g (v ∷ drop (place + 1) g.validators) new
  entering_here = subst (λ l. AreEntering g l new) (next g.validators place v lt is) so.entering

  pub may_enter : IsNextValidator v new
  may_enter = next_enters g v (drop (place + 1) g.validators) new entering_here

  pub one_entered : (last : Modules E) → IsStakeScene last → ((p : State) → Keeps (kept_of new) p → IsAdded p.mine (validator_added chain_told v (staked_in p)) (kept_of last)) → GoOn new last → EnteredSoFar g (place + 1) old last
  one_entered last scene added on = record {
    entering = then_entering g v (drop (place + 1) g.validators) new last entering_here scene added;
    go_on = then_on old new last so.go_on on;
  }

pub have_entered : {E : Type 0} (g : Genesis) (place : ℕ) (old new : Modules E) → start_condition g ≡ None → drop place g.validators ≡ [] → EnteredSoFar g place old new → AreAdding g g.delegations (delegations_left g.delegations) new
have_entered g place old new e end so = all_entered g new e (subst (λ l. AreEntering g l new) end so.entering)

-- the delegations before this place were added
pub record AddedSoFar {E : Type 0} (g : Genesis) (place : ℕ) (old new : Modules E) : Type 0 where
  pub adding : AreAdding g (drop place g.delegations) (delegations_left (drop place g.delegations)) new
  pub go_on : GoOn old new

pub none_added : {E : Type 0} (g : Genesis) (m : Modules E) → AreAdding g g.delegations (delegations_left g.delegations) m → AddedSoFar g 0 m m
none_added g m h = record { adding = h; go_on = stay_on m }

module _ {E : Type 0} (g : Genesis) (good : IsGoodGenesis g) (place : ℕ) (d : GenesisDelegation) (old new : Modules E) (lt : place < length g.delegations) (is : d ≡ get_or g.delegations place d) (so : AddedSoFar g place old new) where
  adding_here : AreAdding g (d ∷ drop (place + 1) g.delegations) (delegations_left (d ∷ drop (place + 1) g.delegations)) new
  adding_here = subst (λ l. AreAdding g l (delegations_left l) new) (next g.delegations place d lt is) so.adding

  pub may_join : IsNextDelegation d new
  may_join = next_joins g d (drop (place + 1) g.delegations) new good adding_here

  pub one_joined : (last : Modules E) → IsStakeScene last → ((p : State) → Keeps (kept_of new) p → IsAdded p.mine (delegation_added chain_told d (staked_in p)) (kept_of last)) → GoOn new last → AddedSoFar g (place + 1) old last
  one_joined last scene added on = record {
    adding = then_adding g d (drop (place + 1) g.delegations) new last adding_here scene added;
    go_on = then_on old new last so.go_on on;
  }

pub have_joined : {E : Type 0} (g : Genesis) (place : ℕ) (old new : Modules E) → drop place g.delegations ≡ [] → AddedSoFar g place old new → AreAdding g [] set_left new
have_joined g place old new end so =
    let last : AreAdding g [] (delegations_left []) new = subst (λ l. AreAdding g l (delegations_left l) new) end so.adding in
    record { scene = last.scene; world = last.world; keeps = last.keeps; starting = last.starting; none = last.none; once = last.once; leads = last.leads }
