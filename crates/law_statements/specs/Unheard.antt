-- That a recorder changes nothing: without what it heard, each step that it hears is the machine's. It is proved of every listener
-- where the chain stands over it (`chain_modules`), and taken from there by who names what runs pay.
use Rattle.std.specs.Prelude.{◌≡◌, List, map, Result, Ok, Err}
use Rattle.base_messages.specs.declared.genesis.GenesisDelegation.{GenesisDelegation}
use Rattle.base_messages.specs.declared.genesis.GenesisValidator.{GenesisValidator}
use Rattle.base_messages.specs.declared.message.Msg.{Msg}
use Rattle.base_roles.specs.declared.messages.Evidence.{Evidence}
use Rattle.base_roles.specs.declared.messages.Vote.{Vote}
use Rattle.base_roles.specs.Staked.{Staked}
use Rattle.base_roles.specs.World.{World}
use Rattle.rule_modules.specs.BondedSet.{set_updated, validators_matured}
use Rattle.rule_modules.specs.Chain.{Hooks, chain_told, evidence_step, vote_step}
use Rattle.rule_modules.specs.Effects.{effects_of}
use Rattle.rule_machine.specs.GenesisState.{delegation_added, validator_added}
use Rattle.rule_machine.specs.Listening.{Hearing, Overheard, evidence_heard, messages_heard, overheard_told, unheard, vote_heard}
use Rattle.rule_machine.specs.Messages.{effect_of}
use Rattle.mod_recorder.specs.Notes.{Noted, heard}

-- two steps, of which the one gives what the other's answer is seen as; or both stop
abbrev pub IsSame : {A B E F : Type 0} → (B → A) → Result A E → Result B F → Type 0
IsSame f (Ok a) (Ok b) = a ≡ f b
IsSame f (Ok a) (Err d) = ⊥
IsSame f (Err e) (Ok b) = ⊥
IsSame f (Err e) (Err d) = Unit {0}

-- validators, delegations and all that stands beside them, without what was heard
abbrev pub plainly : World Staked (Overheard Noted) → World Staked Hooks
plainly s = record { mine = s.mine; hooks = (s.hooks.0.0, s.hooks.1); view = s.view; log = s.log }

-- Without what the recorder heard, each of these steps is that of the machine: of a genesis and of blocks.
pub record RecorderChangesNothing : Type 0 where
  pub validators : (v : GenesisValidator) (s : World Staked (Overheard Noted)) → IsSame plainly (validator_added chain_told v (plainly s)) (validator_added (overheard_told heard) v s)
  pub delegations : (d : GenesisDelegation) (s : World Staked (Overheard Noted)) → IsSame plainly (delegation_added chain_told d (plainly s)) (delegation_added (overheard_told heard) d s)
  pub messages : (ms : List Msg) (w : Hearing Noted) → IsSame unheard (effects_of 0 (map effect_of ms) (unheard w)) (messages_heard heard ms w)
  pub votes : (t : Vote) (w : Hearing Noted) → IsSame unheard (vote_step t (unheard w)) (vote_heard heard t w)
  pub evidence : (e : Evidence) (w : Hearing Noted) → IsSame unheard (evidence_step e (unheard w)) (evidence_heard heard e w)
  pub sets : (s : World Staked (Overheard Noted)) → IsSame plainly (set_updated chain_told (plainly s)) (set_updated (overheard_told heard) s)
  pub matures : (s : World Staked (Overheard Noted)) → IsSame plainly (validators_matured chain_told (plainly s)) (validators_matured (overheard_told heard) s)
