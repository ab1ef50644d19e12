-- A recorder changes nothing, as no listener does; so what the runs pay that it hears is stated rightly.
use Rattle.std.proofs.Common.{◌≡◌, ℕ, [], map, refl, subst, sym, Result, Ok, Err}
use Rattle.base_messages.specs.declared.genesis.{GenesisDelegation.GenesisDelegation, GenesisValidator.GenesisValidator}
use Rattle.base_roles.specs.declared.{entities.Validator.Validator, refusal.Refusal.Refusal}
use Rattle.base_roles.specs.{declared.refusal.Refusal.TheVariants.{NoValidator, Overflow}, Flow.{or_stop, stopping}}
use Rattle.base_roles.specs.{Staked.{Staked, validator_at}, World.World}
use Rattle.base_types.specs.declared.status.BondStatus.TheVariants.{Unbonded}
use Rattle.chain_modules.proofs.CarryLemmas.{carried, carried_by, carried_ok, delegated_carried, matured_all_carried, same_then, set_carried, stored_carried, then_carried}
use Rattle.chain_modules.proofs.ErasingLemmas.{AreUnheard, apart, evidence_unheard, messages_unheard, told_unheard, vote_unheard}
use Rattle.law_statements.{proofs.Running.unheard_runs_pay_rightly, specs.Runs.RunsPayRightly}
use Rattle.law_statements.specs.Unheard.{IsSame, RecorderChangesNothing, plainly}
use Rattle.mod_recorder.specs.Notes.{Noted, heard}
use Rattle.rule_machine.specs.{GenesisConditions.creation_of, GenesisState.{delegation_added, validator_added}}
use Rattle.rule_machine.specs.Listening.{Hearing, Overheard, evidence_heard, messages_heard, overheard_told, unheard, vote_heard}
use Rattle.rule_machine.specs.Messages.{effect_of}
use Rattle.rule_modules.specs.BondedSet.{set_updated, validators_matured}
use Rattle.rule_modules.specs.{Chain.{State, chain_told, evidence_step, vote_step}, Delegating.{delegated, pool}}
use Rattle.rule_modules.specs.{Effects.effects_of, Validators.{new_validator, stored}}

-- a step whose answer is carried over is the same
same_so : {A B E : Type 0} (f : B → A) (r : Result A E) (q : Result B E) → r ≡ carried_ok f q → IsSame f r q
same_so {A} {B} {E} f r (Ok b) e = subst (λ (x : Result A E). IsSame {F = E} f x (Ok b)) (sym e) refl
same_so {A} {B} {E} f r (Err d) e = subst (λ (x : Result A E). IsSame {F = E} f x (Err d)) (sym e) tt

-- a step that stops with another answer is the same
stops_so : {A B D E : Type 0} (f : B → A) (s : D → E) (r : Result A D) (q : Result B D) → IsSame f r q → IsSame f (stopping s r) (stopping s q)
stops_so f s (Ok a) (Ok b) h = h
stops_so f s (Ok a) (Err d) h = absurd h
stops_so f s (Err d) (Ok b) h = absurd h
stops_so f s (Err d) (Err e) h = tt

messages_so : (r : Result State (ℕ × Refusal)) (q : Result (Hearing Noted) Refusal) → AreUnheard heard r q → IsSame unheard r q
messages_so (Ok u) (Ok w) h = h
messages_so (Ok u) (Err why) h = absurd h
messages_so (Err stop) (Ok w) h = absurd h
messages_so (Err stop) (Err why) h = tt

validator_so : (v : GenesisValidator) (s : World Staked (Overheard Noted)) → IsSame plainly (validator_added chain_told v (plainly s)) (validator_added (overheard_told heard) v s)
validator_so v s =
    let x : Validator = new_validator (creation_of s.view.ctx.params.bond_denom v) s.view.ctx.time in
    stops_so plainly Overflow (stored chain_told x (plainly s)) (stored (overheard_told heard) x s)
    (same_so plainly (stored chain_told x (plainly s)) (stored (overheard_told heard) x s) (stored_carried (apart heard) [] (overheard_told heard) chain_told (told_unheard heard) x s))

delegation_so : (d : GenesisDelegation) (s : World Staked (Overheard Noted)) → IsSame plainly (delegation_added chain_told d (plainly s)) (delegation_added (overheard_told heard) d s)
delegation_so d s =
    same_so plainly (delegation_added chain_told d (plainly s)) (delegation_added (overheard_told heard) d s)
    (same_then (carried (apart heard) []) (or_stop (validator_at s.mine d.validator) NoValidator) _ _ (λ v.
    then_carried (carried_by (apart heard) []) (carried (apart heard) []) (delegated (overheard_told heard) v d.delegator d.amount (pool Unbonded) s)
    (delegated chain_told v d.delegator d.amount (pool Unbonded) (carried (apart heard) [] s)) _ _
    (delegated_carried (apart heard) [] (overheard_told heard) chain_told (told_unheard heard) v d.delegator d.amount (pool Unbonded) s) (λ z. refl)))

recorder_changes_nothing : RecorderChangesNothing
recorder_changes_nothing = record {
  validators = validator_so;
  delegations = delegation_so;
  messages = λ ms w. messages_so (effects_of 0 (map effect_of ms) (unheard w)) (messages_heard heard ms w) (messages_unheard heard 0 ms w);
  votes = λ t w. same_so unheard (vote_step t (unheard w)) (vote_heard heard t w) (vote_unheard heard t w);
  evidence = λ e w. same_so unheard (evidence_step e (unheard w)) (evidence_heard heard e w) (evidence_unheard heard e w);
  sets = λ s. same_so plainly (set_updated chain_told (plainly s)) (set_updated (overheard_told heard) s) (set_carried (apart heard) [] (overheard_told heard) chain_told (told_unheard heard) s);
  matures = λ s. same_so plainly (validators_matured chain_told (plainly s)) (validators_matured (overheard_told heard) s) (matured_all_carried (apart heard) [] (overheard_told heard) chain_told (told_unheard heard) s);
}

pub runs_pay_rightly : RunsPayRightly
runs_pay_rightly = unheard_runs_pay_rightly recorder_changes_nothing
