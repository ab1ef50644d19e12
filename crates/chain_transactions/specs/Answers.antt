-- What messages and transactions answer and leave.
use Rattle.std.specs.Prelude.{◌≡◌, ℕ, List, Option, Some, None, Result, Ok, Err, ⊤, OnOk}
use Rattle.base_roles.specs.declared.entities.Validator.{Validator}
use Rattle.base_roles.specs.declared.faults.MessageFault.{MessageFault}
use Rattle.base_roles.specs.declared.refusal.Refusal.{Refusal}
use Rattle.base_roles.specs.declared.refusal.Refusal.TheVariants.{NoValidator, NoDelegation}
use Rattle.base_roles.specs.Answers.{AsRuled, StopsForMemory, RefusesAs}
use Rattle.base_roles.specs.Staked.{Staked, validator_at, delegation}
use Rattle.base_roles.specs.Flow.{◌>>=◌, or_stop}
use Rattle.base_messages.specs.declared.report.Outcome.{Outcome}
use Rattle.rule_modules.specs.Chain.{State}
use Rattle.rule_modules.specs.Effects.{Effect, Ending}
use Rattle.rule_machine.specs.Machine.{outcome_of}
use Rattle.chain_modules.specs.declared.modules.Modules.{Modules}
use Rattle.chain_modules.specs.Kept.{KeptState, StandsWhole, AreSteady, kept_of}
use Rattle.chain_modules.specs.Marks.{GoOn}

-- What a message answers and leaves: what stands for the state that is due, or its refusal; or
-- memory is wanting.
abbrev pub MessageEnds : Result State Refusal → KeptState → Result ⊤ MessageFault → Type 0
MessageEnds rule k answer =
    AsRuled rule answer (λ due a. StandsWhole k due) StopsForMemory RefusesAs

-- A message of this effect ends so for each state for which the modules stood; where it is carried out they are steady again; and
-- whatever the answer they go on.
pub record EndsWell {E : Type 0} (effect : Effect) (old new : Modules E) (answer : Result ⊤ MessageFault) : Type 0 where
  pub ends : (p : State) → StandsWhole (kept_of old) p → MessageEnds (effect p) (kept_of new) answer
  pub steady : OnOk answer (AreSteady new)
  pub go_on : GoOn old new

-- What messages that end so leave, where the machine says what is due: what stands for the state
-- where none is refused, or else the place and the reason.
abbrev pub MessagesEnd : Result State (ℕ × Refusal) → Option (ℕ × Refusal) → KeptState → Type 0
MessagesEnd (Ok due) None k = StandsWhole k due
MessagesEnd (Ok due) (Some stop) k = ⊥
MessagesEnd (Err due) None k = ⊥
MessagesEnd (Err due) (Some stop) k = stop ≡ due

-- a transaction ended as the machine says, and what is kept stands for the state after it
abbrev pub EndsAs : Ending × State → Outcome → KeptState → Type 0
EndsAs due outcome k = (outcome ≡ outcome_of due.0) × StandsWhole k due.1

-- The validator of an operator and the shares of a delegator, or what refuses of a withdrawal.
abbrev pub delegation_asked : List ℕ → List ℕ → Staked → Result (Validator × ℕ) Refusal
delegation_asked delegator operator s = do
  v ← or_stop (validator_at s operator) NoValidator
  shares ← or_stop (delegation s delegator operator) NoDelegation
  Ok (v, shares)
