-- What messages answer that change entries and delegations, and what they leave of the entries whatever they answer.
use Rattle.std.specs.Prelude.{◌≡◌, true, Result, OnOk, IsErr}
use Rattle.base_roles.specs.declared.faults.MessageFault.{MessageFault}
use Rattle.base_roles.specs.declared.refusal.Refusal.{Refusal}
use Rattle.base_roles.specs.World.{View, World}
use Rattle.rule_modules.specs.Answers.{AsRuled, StopsForMemory, RefusesAs}
use Rattle.mod_entries.specs.Kept.{Kept, behind}

-- What a message answers and leaves that changes entries and delegations: what the rule gives, or its refusal; or memory
-- is wanting. Of what hooks keep it is said for which plain values it stands.
abbrev pub AnswersBoth : {A U S H : Type 0} → Result (A × U × World S H) Refusal → U → S → (H → Type 0) → View → Result A MessageFault → Type 0
AnswersBoth rule u s holds v answer = AsRuled rule answer
    (λ due a. (a ≡ due.0) × (u ≡ due.1) × (s ≡ due.2.mine) × holds due.2.hooks × (v ≡ due.2.view)) StopsForMemory RefusesAs

-- What a call leaves of the entries' register whatever it answers.
pub record EntriesGoOn {K L A E : Type 0} (old new : Kept K L) (answer : Result A E) : Type 0 where
  -- the open marks and what stood at the last settling stay
  pub behind : behind new ≡ behind old
  -- once memory was wanting in a change, it stays so
  pub spent : old.spent ≡ true → new.spent ≡ true
  -- and the call fails
  pub spent_answer : old.spent ≡ true → IsErr answer
  -- where the call succeeds, memory was not wanting in it
  pub unspent : OnOk answer (new.spent ≡ old.spent)
