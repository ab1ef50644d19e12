-- What calls answer and leave that follow a rule of this crate: what the rule gives, or its excess or refusal; or memory is
-- wanting. Of what hooks keep it is said for which plain values it stands, by a test `holds`. The log is an output of rules
-- alone, and no call has one.
use Rattle.std.specs.Prelude.{◌≡◌, Result, ⊤}
use Rattle.base_decimals.specs.declared.over.Over.{Over}
use Rattle.base_roles.specs.declared.faults.HookFault.{HookFault}
use Rattle.base_roles.specs.declared.faults.MessageFault.{MessageFault}
use Rattle.base_roles.specs.declared.refusal.Refusal.{Refusal}
pub use Rattle.base_roles.specs.Answers.{AsRuled, WantsMemory, ExceedsAs, StopsForMemory, RefusesAs}
use Rattle.base_roles.specs.World.{View, World}

-- a call with no answer, over records, hooks and ground: of the bonded set, and of mature validators
abbrev pub Leaves : {S H : Type 0} → Result (World S H) Over → S → (H → Type 0) → View → Result ⊤ HookFault → Type 0
Leaves rule s holds v answer =
    AsRuled rule answer (λ due a. (s ≡ due.mine) × holds due.hooks × (v ≡ due.view)) WantsMemory ExceedsAs

-- a message without hooks: of commission, the pool, and leaving jail
abbrev pub AnswersHeld : {A S : Type 0} → Result (A × S × View) Refusal → S → View → Result A MessageFault → Type 0
AnswersHeld rule s v answer =
    AsRuled rule answer (λ due a. (a ≡ due.0) × (s ≡ due.1) × (v ≡ due.2)) StopsForMemory RefusesAs
