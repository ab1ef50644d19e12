-- What a listener to the modules holds: beside a state for which they stand, what was heard with it.
use Rattle.std.specs.Prelude.{◌≡◌, Result, Ok, Err}
use Rattle.base_roles.specs.Hooks.{Tells}
use Rattle.base_roles.specs.Listeners.{listener_tells}
use Rattle.base_roles.specs.Pair.{pair_tells}
use Rattle.base_roles.specs.World.{View}
use Rattle.base_roles.specs.declared.calls.Hook.{Hook}
use Rattle.rule_modules.specs.Chain.{State}
use Rattle.rule_modules.specs.Distribution.{Shared}
use Rattle.rule_machine.specs.Listening.{Hearing, unheard, heard_in}
use Rattle.mod_signing.specs.Stands.{Signings, HoldsSignings, signings_told}
use Rattle.mod_distribution.specs.Stands.{KeepsShared}
use Rattle.mod_distribution.specs.Tells.{distribution_tells}
use Rattle.chain_modules.specs.declared.modules.Modules.{Modules}
use Rattle.chain_modules.specs.Kept.{HooksSeen, KeptState, kept_of, listener_of}

-- what distribution tells and the listener behind it, and what all hooks tell
abbrev pub heard_shared : {P : Type 0} → (P → Hook → View → P) → Tells (Shared × P)
heard_shared hears = pair_tells distribution_tells (listener_tells hears)

abbrev pub heard_tell : {P : Type 0} → (P → Hook → View → P) → Tells ((Shared × P) × Signings)
heard_tell hears = pair_tells (heard_shared hears) signings_told

-- of a listener it is told what it heard
module _ {E P : Type 0} (heard : E → P) where
  -- what the hooks hold, and what was heard
  abbrev pub heard_hold : HooksSeen E → (Shared × P) × Signings → Type 0
  heard_hold h held = (KeepsShared h.first.first.kept held.0.0 × (heard h.first.second.listener ≡ held.0.1)) × HoldsSignings h.second.kept held.1

  -- What the modules keep stands so for the state, and the listener holds what was heard with it.
  abbrev pub Hears : (KeptState → State → Type 0) → Modules E → Hearing P → Type 0
  Hears stands m w = stands (kept_of m) (unheard w) × (heard (listener_of m) ≡ heard_in w)

  -- So it is after a step that gives something.
  abbrev pub HearsAfter : {F : Type 0} → (KeptState → State → Type 0) → Result (Hearing P) F → Modules E → Type 0
  HearsAfter stands (Ok w) m = Hears stands m w
  HearsAfter stands (Err why) m = ⊥
